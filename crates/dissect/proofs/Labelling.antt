-- Labellings by faces of the plane: of the map that got all bends, of what a rectangle and cuts make of it.
use Rattle.std.proofs.Common.{◌≡◌, ℕ, ◌+◌, ◌<◌, ◌≤◌, ◌∙◌, eqb, Bool, List, [], ◌∷◌, arith, subst, sym, ap, refl, inl, inr}
use Rattle.std.proofs.lemmas.Bool.{eq-eqb, eqb-true}
use Rattle.faces.specs.Planes.{PlaneModel, IsPlane, darts, face_at}
use Rattle.ortho_rep.specs.declared.turn_strings.Turn.{Turn}
use Rattle.dissect.specs.DartMaps.{DartMap, no_dart, IsTied, IsCutUp}
use Rattle.dissect.specs.Faces.{In, Below, last_of}
use Rattle.dissect.specs.FaceNumbers.{AreFaceNumbers}
use Rattle.dissect.specs.Paths.{Follows, IsPath, IsPart, HasPath, HasPaths}
use Rattle.dissect.specs.Surrounds.{IsEnclosed}
use Rattle.dissect.specs.Labels.{IsLabelling, KeepsLabels, KeepsLabelsInside}
use Rattle.dissect.specs.Bare.{IsBare}
use Rattle.dissect.specs.Steps.{angle_of, start_direction, IsBent, straight, turned, AreBent, finished, passed, bent}
use Rattle.dissect.proofs.Backwards.{before_in}
use Rattle.dissect.proofs.Cuts.{AreQuarters, cut_up_paths}
use Rattle.dissect.proofs.SurroundedPaths.{enclosed_paths}
use Rattle.dissect.proofs.Pathing.{bent_more, all_more}
use Rattle.dissect.proofs.Labels.{LeadsTo, there, on, leads_on, AreLabels, GoOn, GoOnInside, stood, split_labels, cut_up_labels, enclosed_labels}

-- ---- the darts that a dart leads to are those on its path

last_in : (a : ℕ) (rest : List ℕ) → In (last_of a rest) (a ∷ rest)
last_in a [] = inl refl
last_in a (b ∷ bs) = inr (last_in b bs)

pub leads_in : (w : DartMap) (d first : ℕ) (rest : List ℕ) (a : ℕ) → IsPath w d first rest → LeadsTo w d a → In a (first ∷ rest)
leads_in w d first rest _ path there = subst (λ (k : ℕ). In k (first ∷ rest)) path.ends (last_in first rest)
leads_in w d first rest _ path (on a more l some) =
    elim (leads_in w d first rest a path more) [
      | inl at ↦ absurd (some (ap w.before at ∙ path.start))
      | inr later ↦ before_in w first a rest path.follows later
    ]

walk_leads : (w : DartMap) (d a : ℕ) (rest : List ℕ) (x : ℕ) → w.darts ≤ no_dart → a < w.darts → Below w.darts rest → Follows w a rest → last_of a rest ≡ d →
    In x (a ∷ rest) → LeadsTo w d x
walk_leads w d a [] x fits a_in below follows ends (inl at) = subst (LeadsTo w d) (sym ends ∙ sym at) there
walk_leads w d a [] x fits a_in below follows ends (inr none) = absurd none
walk_leads w d a (b ∷ bs) x fits a_in below follows ends (inl at) =
    subst (LeadsTo w d) (sym at)
    (leads_on w d b a below.0 (walk_leads w d b bs b fits below.0 below.1 follows.2 ends (inl refl)) follows.0 (λ h. omega (arith, h, a_in, fits)))
walk_leads w d a (b ∷ bs) x fits a_in below follows ends (inr later) = walk_leads w d b bs x fits below.0 below.1 follows.2 ends later

pub part_leads : (w : DartMap) (d a : ℕ) → w.darts ≤ no_dart → IsPart w d a → LeadsTo w d a
part_leads w d a fits part =
    walk_leads w d part.first part.rest a fits part.path.first_in part.path.rest_in part.path.follows part.path.ends part.on

leads_part : (w : DartMap) (d reverse_dart a : ℕ) (quarters : List ℕ) → HasPath w d reverse_dart quarters → LeadsTo w d a → IsPart w d a
leads_part w d reverse_dart a quarters has leads = record {
  first = has.first;
  rest = has.rest;
  path = has.path;
  on = leads_in w d has.first has.rest a has.path leads;
}

pub part_itself : (w : DartMap) (d reverse_dart : ℕ) (quarters : List ℕ) → HasPath w d reverse_dart quarters → IsPart w d d
part_itself w d reverse_dart quarters has = leads_part w d reverse_dart d quarters has there

module _ (n : ℕ) (reverse_dart : ℕ → ℕ) (quarters : ℕ → List ℕ) (face : ℕ → ℕ) (w : DartMap) (label : ℕ → ℕ) (fits : w.darts ≤ no_dart)
    (has : HasPaths w n reverse_dart quarters) where
  pub labels_of : IsTied w → IsLabelling n face w label → AreLabels n face w label
  labels_of tied labelling = record {
    tied = tied;
    few = has.few;
    inside = λ a l. elim (has.ends a l) [
      | inl none ↦ inl none
      | inr inside ↦ inr inside.1
    ];
    round = labelling.round;
    parts = λ d a d_in leads. labelling.parts d a d_in (leads_part w d (reverse_dart d) a (quarters d) (has.paths d d_in) leads);
    sides = λ a l. elim (labelling.sides a l) [
      | inl (d, d_in, part) ↦ inl (d, d_in, part_leads w d a fits part)
      | inr level ↦ inr level
    ];
  }

  pub labelling_of : AreLabels n face w label → IsLabelling n face w label
  labelling_of are = record {
    round = are.round;
    parts = λ d a d_in part. are.parts d a d_in (part_leads w d a fits part);
    sides = λ a l. elim (are.sides a l) [
      | inl (d, d_in, leads) ↦ inl (d, d_in, leads_part w d (reverse_dart d) a (quarters d) (has.paths d d_in) leads)
      | inr level ↦ inr level
    ];
  }

-- ---- the bends

-- a map with labels
pub record HasLabels (n : ℕ) (face : ℕ → ℕ) (w : DartMap) : Type 0 where
  pub label : ℕ → ℕ
  pub are : AreLabels n face w label

bent_labels : (n : ℕ) (face : ℕ → ℕ) (e : ℕ) (w : DartMap) (turns : List Turn) (new : DartMap) → HasLabels n face w → e < w.darts → new.darts ≤ no_dart →
    IsBent e w turns new → HasLabels n face new
bent_labels n face e w turns new has e_in fits (straight u) = has
bent_labels n face e w turns new has e_in fits (turned u mid last turn rest subdivide bends) =
    let fits_mid : mid.darts ≤ no_dart = omega (arith, fits, bent_more e mid rest last bends) in
    let middle : HasLabels n face mid = record {
      label = λ a. has.label (stood u.darts e (u.reverse_dart e) a);
      are = split_labels n face u has.label e (start_direction u e) (angle_of turn) mid has.are e_in fits_mid subdivide;
    } in
    bent_labels n face e mid rest last middle (omega (arith, e_in, subdivide.darts)) fits bends

all_labels : (n : ℕ) (face : ℕ → ℕ) (p : PlaneModel) (s : ℕ → List Turn) (k : ℕ) (w new : DartMap) → HasLabels n face w → darts p ≤ w.darts →
    new.darts ≤ no_dart → AreBent p s k w new → HasLabels n face new
all_labels n face p s k w new has few fits (finished j u past) = has
all_labels n face p s k w new has few fits (passed j u last back rest) = all_labels n face p s (j + 1) u last has few fits rest
all_labels n face p s k w new has few fits (bent j u mid last j_in less bends rest) =
    let fits_mid : mid.darts ≤ no_dart = omega (arith, fits, all_more p s (j + 1) mid last rest) in
    all_labels n face p s (j + 1) mid last (bent_labels n face j u (s j) mid has (omega (arith, j_in, few)) fits_mid bends)
    (omega (arith, few, bent_more j u (s j) mid bends)) fits rest

-- before the first bend each dart leads to itself alone
plain_leads : (w : DartMap) (d a : ℕ) → ((a : ℕ) → a < w.darts → w.before a ≡ no_dart) → LeadsTo w d a → a ≡ d
plain_leads w d _ none there = refl
plain_leads w d _ none (on a more l some) = absurd (some (none a l))

plain_labels : (p : PlaneModel) (a h : ℕ → ℕ) (w : DartMap) → IsPlane p → IsBare p a h w → IsTied w → HasLabels (darts p) (face_at p) w
plain_labels p a h w plane bare tied =
    let in_plane : (x : ℕ) → x < w.darts → x < darts p = λ x l. omega (arith, l, bare.dart_count) in
    let none : (x : ℕ) → x < w.darts → w.before x ≡ no_dart = λ x l. bare.befores x (in_plane x l) in
    record {
      label = face_at p;
      are = record {
        tied = tied;
        few = omega (arith, bare.dart_count);
        inside = λ x l. inl (none x l);
        round = λ x l. ap (face_at p) (bare.nexts x (in_plane x l)) ∙ plane.faces.closed x (in_plane x l);
        parts = λ d x d_in leads. ap (face_at p) (plain_leads w d x none leads);
        sides = λ x l. inl (x, in_plane x l, there);
      };
    }

pub bends_have_labels : (p : PlaneModel) (a h : ℕ → ℕ) (s : ℕ → List Turn) (w new : DartMap) (reverse_dart : ℕ → ℕ) (quarters : ℕ → List ℕ) → IsPlane p →
    IsBare p a h w → IsTied w → new.darts ≤ no_dart → HasPaths new (darts p) reverse_dart quarters → AreBent p s 0 w new →
    (label : ℕ → ℕ) × IsLabelling (darts p) (face_at p) new label
bends_have_labels p a h s w new reverse_dart quarters plane bare tied fits has all =
    let end : HasLabels (darts p) (face_at p) new =
    all_labels (darts p) (face_at p) p s 0 w new (plain_labels p a h w plane bare tied) (omega (arith, bare.dart_count)) fits all in
    (end.label, labelling_of (darts p) reverse_dart quarters (face_at p) new end.label fits has end.are)

-- ---- a rectangle and cuts

pub cut_up_keeps_labels : (n : ℕ) (reverse_dart : ℕ → ℕ) (quarters : ℕ → List ℕ) (face : ℕ → ℕ) (w : DartMap) (label : ℕ → ℕ) (new : DartMap) → IsTied w →
    AreQuarters w → w.darts ≤ no_dart → new.darts ≤ no_dart → IsCutUp w new → HasPaths w n reverse_dart quarters → IsLabelling n face w label →
    KeepsLabels n face w label new
cut_up_keeps_labels n reverse_dart quarters face w label new tied four fits_old fits cut_up has labelling =
    let goes : GoOn n face w label new =
    cut_up_labels n face w label new (labels_of n reverse_dart quarters face w label fits_old has tied labelling) fits cut_up in
    record {
      now = goes.now;
      labelling = labelling_of n reverse_dart quarters face new goes.now fits (cut_up_paths w new n reverse_dart quarters tied four cut_up has) goes.are;
      kept = goes.kept;
    }

-- what is the same all round each face is the same at two darts of one face
face_level : (w : DartMap) (face_number label : ℕ → ℕ) (a b : ℕ) → AreFaceNumbers w face_number → ((c : ℕ) → c < w.darts → label (w.next c) ≡ label c) →
    a < w.darts → b < w.darts → face_number a ≡ face_number b → label a ≡ label b
face_level w face_number label a b faces round a_in b_in same =
    let set : ℕ → Bool = λ c. eqb (label c) (label b) in
    eqb-true (label a) (label b)
    (faces.least set (λ c l here. eq-eqb (label (w.next c)) (label b) (round c l ∙ eqb-true (label c) (label b) here))
    b a b_in a_in (sym same) (eq-eqb (label b) (label b) refl))

pub enclosed_keeps_labels : (n : ℕ) (reverse_dart : ℕ → ℕ) (quarters : ℕ → List ℕ) (face : ℕ → ℕ) (w : DartMap) (label : ℕ → ℕ) (outside : ℕ) (new : DartMap)
    (face_number : ℕ → ℕ) → IsTied w → AreQuarters w → w.darts ≤ no_dart → new.darts ≤ no_dart → AreFaceNumbers w face_number → outside < w.darts →
    IsEnclosed w outside new → HasPaths w n reverse_dart quarters → IsLabelling n face w label → KeepsLabelsInside n face w label outside new
enclosed_keeps_labels n reverse_dart quarters face w label outside new face_number tied four fits_old fits faces outside_in e has labelling =
    let right : label e.right ≡ label outside =
    face_level w face_number label e.right outside faces labelling.round e.right_in outside_in (e.same_face face_number faces) in
    let inside : GoOnInside n face w label outside new =
    enclosed_labels n face w label outside new (labels_of n reverse_dart quarters face w label fits_old has tied labelling) fits e right in
    let goes : GoOn n face w label new = inside.goes in
    record {
      keeps = record {
        now = goes.now;
        labelling = labelling_of n reverse_dart quarters face new goes.now fits (enclosed_paths w outside new n reverse_dart quarters tied four e has) goes.are;
        kept = goes.kept;
      };
      ring = inside.ring;
    }
