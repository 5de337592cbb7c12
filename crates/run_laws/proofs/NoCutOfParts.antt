-- Points and frames can always be kept: where only points and frames are given, no vertices and faces turn more than can leave them.
use Rattle.std.proofs.Common.{◌≡◌, ◌≤◌, ◌<◌, ℕ, ◌+◌, ◌-◌, ◌*◌, cond, eqb, Bool, true, false, List, refl, sym, ◌∙◌, ap, subst, inl, inr, arith}
use Rattle.std.specs.Prelude.{ℤ, pos, negsuc, ◌+ℤ◌, ◌-ℤ◌, ◌≤ℤ◌, ◌<ℤ◌, Option, Some, None, ◌==◌, if◌then◌else◌, ◌⊎◌}
use Rattle.std.proofs.lemmas.Bool.{cases_eq, both_ways, eq-eqb, ne_eqb}
use Rattle.std.proofs.lemmas.Int.{ints}
use Rattle.common.specs.Sums.{sum_below, total_below}
use Rattle.common.proofs.Sums.{sum_below-same, sum_below-add, sum_below-le, sum_below-one, sum_below-times, exchanged, total_below-parts}
use Rattle.faces.specs.Planes.{PlaneModel, IsPlane, darts, vertices, head, reverse_dart, face_at, degree}
use Rattle.faces.proofs.Ends.{plane_ends}
use Rattle.flow_network.specs.Marks.{is_marked}
use Rattle.flow_network.specs.Given.{GivenModel, CanBeGiven, angle_given, turns_given, walked_back, beyond_first, lefts_given}
use Rattle.flow_network.specs.FaceNet.{vertex_degree, beyond_at_vertex, beyond_in_face, lefts_in_face, vertex_has_to_turn, face_has_to_turn}
use Rattle.flow_network.proofs.GivenParts.{all_at_vertices, turns_back}
use Rattle.flow_network.proofs.VertexDegrees.{search_below}
use Rattle.conditions.specs.Cut.{ShowsNone, has_to_turn}
use Rattle.run_laws.specs.Frames.{FaceSet, IsRim, AreParts}
use Rattle.run_laws.proofs.Weights.{IsEven, even_none, even_rest, even_same, even_by_steps}
use Rattle.run_laws.proofs.Jumps.{HasBoth, made_up, falls, rises, how_often, equally_often}
use Rattle.run_laws.proofs.Angles.{HaveRoom, lacks, is_free, angle_of, at_vertex, angles_model, even_one, vertex_less}
use Rattle.run_laws.proofs.Corners.{even_inside}
use Rattle.run_laws.proofs.FrameParts.{are_rims, have_both, free_alike, free_parts, have_room}
use Rattle.run_laws.proofs.NoCut.{in_range, zeros}

-- given turns are 0
no_lefts : (p : PlaneModel) (given : GivenModel) (frames : ℕ) (inside : ℕ → FaceSet) → IsPlane p → AreParts p given frames inside → (d : ℕ) → d < darts p → lefts_given (turns_given p given d) ≡ pos 0
no_lefts p given frames inside plane parts d below = known (turns_given p given d) refl
  where
    straight : (i : ℕ) → i < frames → IsRim p (inside i) d ⊎ IsRim p (inside i) (reverse_dart p d) → lefts_given (turns_given p given d) ≡ pos 0
    straight i l (inl rim) = ap lefts_given ((parts.frame i l).straight d rim)
    straight i l (inr rim) =
        let ends = plane_ends p plane in
        let back : turns_given p given (reverse_dart p (reverse_dart p d)) ≡ walked_back (turns_given p given (reverse_dart p d)) = turns_back p given (reverse_dart p d) ends (ends.reverse_dart_in_range d below) in
        let here : turns_given p given d ≡ walked_back (turns_given p given (reverse_dart p d)) =
        subst (λ (x : ℕ). turns_given p given x ≡ walked_back (turns_given p given (reverse_dart p d))) (ends.reverse_dart_back d below) back in
        ap lefts_given (here ∙ ap walked_back ((parts.frame i l).straight (reverse_dart p d) rim))

    known : (t : Option ℤ) → turns_given p given d ≡ t → lefts_given (turns_given p given d) ≡ pos 0
    known None is = ap lefts_given is
    known (Some t) is = let (i, l, rim) = parts.turns d below t is in straight i l rim

no_lefts_in_face : (p : PlaneModel) (given : GivenModel) (frames : ℕ) (inside : ℕ → FaceSet) → IsPlane p → AreParts p given frames inside → (f : ℕ) → lefts_in_face p given f ≡ pos 0
no_lefts_in_face p given frames inside plane parts f =
    zeros (darts p) (λ d. if face_at p d == f then lefts_given (turns_given p given d) else pos 0)
    (λ d l. one (face_at p d == f) (lefts_given (turns_given p given d)) (no_lefts p given frames inside plane parts d l))
  where
    one : (b : Bool) (t : ℤ) → t ≡ pos 0 → (if b then t else pos 0) ≡ pos 0
    one true t is = is
    one false t is = refl

-- the faces outside a frame are even too
even_outside : (p : PlaneModel) (given : GivenModel) → IsPlane p → HaveRoom p given → (inside : FaceSet) → IsEven (angles_model p given) (λ f. cond (inside f) 1 0) → IsEven (angles_model p given) (λ f. cond (inside f) 0 1)
even_outside p given plane have inside even =
    let ends = plane_ends p plane in
    even_rest (angles_model p given) (λ f. cond (inside f) 0 1) (λ f. cond (inside f) 1 0)
    (even_same (angles_model p given) (λ _. 1) (λ f. cond (inside f) 0 1 + cond (inside f) 1 0) plane.outer ends.face_named (λ f l. one (inside f)) (even_one p given plane have)) even
  where
    one : (b : Bool) → ◌≡◌ {A = ℕ} 1 (cond b 0 1 + cond b 1 0)
    one true = refl
    one false = refl

-- so is what makes up for a frame
even_made_up : (p : PlaneModel) (given : GivenModel) → IsPlane p → HaveRoom p given → (inside s : FaceSet) → IsEven (angles_model p given) (λ f. cond (inside f) 1 0) → IsEven (angles_model p given) (λ f. cond (made_up p inside s f) 1 0)
even_made_up p given plane have inside s even = each (rises p inside s) (falls p inside s)
  where
    each : (r l : Bool) → IsEven (angles_model p given) (λ f. cond (cond (inside f) r l) 1 0)
    each true true =
        let ends = plane_ends p plane in
        even_same (angles_model p given) (λ _. 1) (λ f. cond (cond (inside f) true true) 1 0) plane.outer ends.face_named (λ f l. all (inside f)) (even_one p given plane have)
      where
        all : (b : Bool) → ◌≡◌ {A = ℕ} 1 (cond (cond b true true) 1 0)
        all true = refl
        all false = refl
    each true false =
        let ends = plane_ends p plane in
        even_same (angles_model p given) (λ f. cond (inside f) 1 0) (λ f. cond (cond (inside f) true false) 1 0) plane.outer ends.face_named (λ f l. some (inside f)) even
      where
        some : (b : Bool) → cond {A = ℕ} b 1 0 ≡ cond (cond b true false) 1 0
        some true = refl
        some false = refl
    each false true =
        let ends = plane_ends p plane in
        even_same (angles_model p given) (λ f. cond (inside f) 0 1) (λ f. cond (cond (inside f) false true) 1 0) plane.outer ends.face_named (λ f l. some (inside f)) (even_outside p given plane have inside even)
      where
        some : (b : Bool) → cond {A = ℕ} b 0 1 ≡ cond (cond b false true) 1 0
        some true = refl
        some false = refl
    each false false =
        let ends = plane_ends p plane in
        even_same (angles_model p given) (λ _. 0) (λ f. cond (cond (inside f) false false) 1 0) plane.outer ends.face_named (λ f l. none (inside f)) (even_none (angles_model p given))
      where
        none : (b : Bool) → ◌≡◌ {A = ℕ} 0 (cond (cond b false false) 1 0)
        none true = refl
        none false = refl

even_faces : (p : PlaneModel) (given : GivenModel) (frames : ℕ) (inside : ℕ → FaceSet) → IsPlane p → HaveRoom p given → AreParts p given frames inside → (s : FaceSet) → HasBoth p frames inside s → IsEven (angles_model p given) (λ f. cond (s f) 1 0)
even_faces p given frames inside plane have parts s both =
    let ends = plane_ends p plane in
    even_by_steps (angles_model p given) plane.outer ends.face_named (even_one p given plane have) frames (λ i f. cond (made_up p (inside i) s f) 1 0)
    (λ i l. even_made_up p given plane have (inside i) s (even_inside p given plane have (inside i) (parts.frame i l)))
    (λ f. cond (s f) 1 0) (how_often p frames inside s p.outer) (equally_often p plane frames inside (are_rims p given frames inside parts) s both)

lacks_none : (g : Option ℕ) → lacks g ≡ true → g ≡ None
lacks_none None on = refl
lacks_none (Some k) on = absurd (both_ways false refl on)

-- at each vertex the cut has less than its angles in the faces
at_each : (p : PlaneModel) (given : GivenModel) (frames : ℕ) (inside : ℕ → FaceSet) → IsPlane p → HaveRoom p given → AreParts p given frames inside → (vs fs : List Bool) → ShowsNone p given vs fs → (k : ℕ) → k < vertices p
    → at_vertex p (k + 1) (λ d. (1 + beyond_first (angle_given given d)) * cond (is_marked fs (face_at p d)) 1 0) + cond (is_marked vs k) 4 0
    ≤ at_vertex p (k + 1) (λ d. angle_of p given d * cond (is_marked fs (face_at p d)) 1 0) + cond (is_marked vs k) (vertex_degree p (k + 1) + beyond_at_vertex p given (k + 1)) 0
at_each p given frames inside plane have parts vs fs shows k below =
    elim (search_below (darts p) (is_free p given (k + 1))) [
      | inl found ↦ vertex_less p given have (λ d. is_marked fs (face_at p d)) (is_marked vs k) (is_marked fs (face_at p found.0)) k below
          (λ d l free. like d l free found.0 found.1 found.2)
          (λ d l free on. sym (like d l free found.0 found.1 found.2) ∙ in_cut d l free on)
      | inr none ↦ vertex_less p given have (λ d. is_marked fs (face_at p d)) (is_marked vs k) false k below
          (λ d l free. absurd (both_ways (is_free p given (k + 1) d) (none d l) free))
          (λ d l free on. absurd (both_ways (is_free p given (k + 1) d) (none d l) free))
    ]
  where
    like : (d : ℕ) → d < darts p → is_free p given (k + 1) d ≡ true → (e : ℕ) → e < darts p → is_free p given (k + 1) e ≡ true → is_marked fs (face_at p d) ≡ is_marked fs (face_at p e)
    like d d_in d_free e e_in e_free =
        free_alike p given frames inside plane parts (is_marked fs) (have_both p given frames inside plane parts vs fs shows) (k + 1) d e d_in e_in d_free e_free

    place : (h k : ℕ) → h ≡ k + 1 → h - 1 ≡ k
    place h k is = omega arith

    in_cut : (d : ℕ) → d < darts p → is_free p given (k + 1) d ≡ true → is_marked vs k ≡ true → is_marked fs (face_at p d) ≡ true
    in_cut d l free on =
        let two = free_parts p given (k + 1) d free in
        let at : head p d - 1 ≡ k = place (head p d) k two.0 in
        shows.corners d l (lacks_none (angle_given given d) two.1) (ap (is_marked vs) at ∙ on)

-- the vertices of the cut, together
vertices_less : (p : PlaneModel) (given : GivenModel) (frames : ℕ) (inside : ℕ → FaceSet) → IsPlane p → HaveRoom p given → AreParts p given frames inside → (vs fs : List Bool) → ShowsNone p given vs fs
    → sum_below (darts p) (λ d. (1 + beyond_first (angle_given given d)) * cond (is_marked fs (face_at p d)) 1 0) + sum_below (vertices p) (λ k. cond (is_marked vs k) 4 0)
    ≤ sum_below (darts p) (λ d. angle_of p given d * cond (is_marked fs (face_at p d)) 1 0) + sum_below (vertices p) (λ k. cond (is_marked vs k) (vertex_degree p (k + 1) + beyond_at_vertex p given (k + 1)) 0)
vertices_less p given frames inside plane have parts vs fs shows =
    let ends = plane_ends p plane in
    let n : ℕ = vertices p in
    let x : ℕ → ℕ = λ d. (1 + beyond_first (angle_given given d)) * cond (is_marked fs (face_at p d)) 1 0 in
    let y : ℕ → ℕ = λ d. angle_of p given d * cond (is_marked fs (face_at p d)) 1 0 in
    let a : ℕ → ℕ = λ k. cond (is_marked vs k) 4 0 in
    let b : ℕ → ℕ = λ k. cond (is_marked vs k) (vertex_degree p (k + 1) + beyond_at_vertex p given (k + 1)) 0 in
    close (sum_below n (λ k. at_vertex p (k + 1) x + a k)) (sum_below n (λ k. at_vertex p (k + 1) x)) (sum_below n a) (sum_below (darts p) x)
    (sum_below n (λ k. at_vertex p (k + 1) y + b k)) (sum_below n (λ k. at_vertex p (k + 1) y)) (sum_below n b) (sum_below (darts p) y)
    (sum_below-le n (λ k. at_vertex p (k + 1) x + a k) (λ k. at_vertex p (k + 1) y + b k) (at_each p given frames inside plane have parts vs fs shows))
    (sum_below-add n (λ k. at_vertex p (k + 1) x) a) (sum_below-add n (λ k. at_vertex p (k + 1) y) b)
    (all_at_vertices p x ends) (all_at_vertices p y ends)
  where
    close : (l l1 l2 l3 r r1 r2 r3 : ℕ) → l ≤ r → l ≡ l1 + l2 → r ≡ r1 + r2 → l1 ≡ l3 → r1 ≡ r3 → l3 + l2 ≤ r3 + r2
    close l l1 l2 l3 r r1 r2 r3 e1 e2 e3 e4 e5 = omega arith

-- ---- what the faces of a cut have to turn

weigh : (b : Bool) (n : ℕ) → cond b n 0 ≡ cond b 1 0 * n
weigh true n = omega arith
weigh false n = omega arith

eqb_turned : (a b : ℕ) → eqb a b ≡ eqb b a
eqb_turned a b = elim (cases_eq a b) [
  | inl e ↦ eq-eqb a b e ∙ sym (eq-eqb b a (sym e))
  | inr ne ↦ ne_eqb a b ne ∙ sym (ne_eqb b a (λ e. ne (sym e)))
]

outer_once : (p : PlaneModel) → IsPlane p → (s : FaceSet) → sum_below p.faces (λ f. cond (s f) (cond (eqb f p.outer) 4 0) 0) ≡ 4 * cond (s p.outer) 1 0
outer_once p plane s =
    sum_below-same p.faces (λ f. cond (s f) (cond (eqb f p.outer) 4 0) 0) (λ f. cond (eqb p.outer f) (4 * cond (s f) 1 0) 0)
    (λ f l. ap (λ (t : Bool). cond (s f) (cond t 4 0) 0) (eqb_turned f p.outer) ∙ one (s f) (eqb p.outer f))
    ∙ sum_below-one p.faces p.outer (λ f. 4 * cond (s f) 1 0) plane.outer
  where
    one : (b o : Bool) → cond {A = ℕ} b (cond o 4 0) 0 ≡ cond o (4 * cond b 1 0) 0
    one true true = refl
    one true false = refl
    one false true = refl
    one false false = refl

gains : (p : PlaneModel) (given : GivenModel) → IsPlane p → (s : FaceSet)
    → sum_below p.faces (λ f. cond (s f) (cond (eqb f p.outer) 0 4 + beyond_in_face p given f) 0) + 4 * cond (s p.outer) 1 0
    ≡ 4 * sum_below p.faces (λ f. cond (s f) 1 0) + sum_below (darts p) (λ d. cond (s (face_at p d)) 1 0 * beyond_first (angle_given given d))
gains p given plane s =
    let ends = plane_ends p plane in
    let n : ℕ = p.faces in
    let four : ℕ → ℕ = λ f. cond (s f) (cond (eqb f p.outer) 0 4) 0 in
    let out : ℕ → ℕ = λ f. cond (s f) (cond (eqb f p.outer) 4 0) 0 in
    let more : ℕ → ℕ = λ f. cond (s f) 1 0 * beyond_in_face p given f in
    close (sum_below n (λ f. cond (s f) (cond (eqb f p.outer) 0 4 + beyond_in_face p given f) 0)) (sum_below n (λ f. four f + more f)) (sum_below n four) (sum_below n more) (sum_below n out) (sum_below n (λ f. four f + out f))
    (sum_below n (λ f. 4 * cond (s f) 1 0)) (sum_below n (λ f. cond (s f) 1 0)) (cond (s p.outer) 1 0) (sum_below (darts p) (λ d. cond (s (face_at p d)) 1 0 * beyond_first (angle_given given d)))
    (sum_below-same n (λ f. cond (s f) (cond (eqb f p.outer) 0 4 + beyond_in_face p given f) 0) (λ f. four f + more f) (λ f l. parted (s f) (cond (eqb f p.outer) 0 4) (beyond_in_face p given f)))
    (sum_below-add n four more)
    (exchanged (darts p) n (face_at p) (λ d. beyond_first (angle_given given d)) (λ f. cond (s f) 1 0) ends.face_named)
    (sum_below-same n (λ f. four f + out f) (λ f. 4 * cond (s f) 1 0) (λ f l. whole (s f) (eqb f p.outer)))
    (sum_below-add n four out) (sum_below-times n 4 (λ f. cond (s f) 1 0)) (outer_once p plane s)
  where
    parted : (b : Bool) (x y : ℕ) → cond b (x + y) 0 ≡ cond b x 0 + cond b 1 0 * y
    parted true x y = omega arith
    parted false x y = omega arith

    whole : (b o : Bool) → cond b (cond o 0 4) 0 + cond b (cond o 4 0) 0 ≡ 4 * cond b 1 0
    whole true true = refl
    whole true false = refl
    whole false true = refl
    whole false false = refl

    close : (g fm f m o fo t w x d : ℕ) → g ≡ fm → fm ≡ f + m → m ≡ d → fo ≡ t → fo ≡ f + o → t ≡ 4 * w → o ≡ 4 * x → g + 4 * x ≡ 4 * w + d
    close g fm f m o fo t w x d e1 e2 e3 e4 e5 e6 e7 = omega arith

losses : (p : PlaneModel) → IsPlane p → (s : FaceSet)
    → sum_below p.faces (λ f. cond (s f) (degree p f + cond (eqb f p.outer) 4 0) 0) ≡ sum_below (darts p) (λ d. cond (s (face_at p d)) 1 0) + 4 * cond (s p.outer) 1 0
losses p plane s =
    let ends = plane_ends p plane in
    let n : ℕ = p.faces in
    let deg : ℕ → ℕ = λ f. cond (s f) 1 0 * degree p f in
    let out : ℕ → ℕ = λ f. cond (s f) (cond (eqb f p.outer) 4 0) 0 in
    close (sum_below n (λ f. cond (s f) (degree p f + cond (eqb f p.outer) 4 0) 0)) (sum_below n (λ f. deg f + out f)) (sum_below n deg) (sum_below n out) (cond (s p.outer) 1 0)
    (sum_below (darts p) (λ d. cond (s (face_at p d)) 1 0 * 1)) (sum_below (darts p) (λ d. cond (s (face_at p d)) 1 0))
    (sum_below-same n (λ f. cond (s f) (degree p f + cond (eqb f p.outer) 4 0) 0) (λ f. deg f + out f) (λ f l. parted (s f) (degree p f) (cond (eqb f p.outer) 4 0)))
    (sum_below-add n deg out)
    (exchanged (darts p) n (face_at p) (λ _. 1) (λ f. cond (s f) 1 0) ends.face_named)
    (sum_below-same (darts p) (λ d. cond (s (face_at p d)) 1 0 * 1) (λ d. cond (s (face_at p d)) 1 0) (λ d l. once (cond (s (face_at p d)) 1 0)))
    (outer_once p plane s)
  where
    parted : (b : Bool) (x y : ℕ) → cond b (x + y) 0 ≡ cond b 1 0 * x + cond b y 0
    parted true x y = omega arith
    parted false x y = omega arith

    once : (n : ℕ) → n * 1 ≡ n
    once n = omega arith

    close : (l do_ d o x e1 w : ℕ) → l ≡ do_ → do_ ≡ d + o → d ≡ e1 → e1 ≡ w → o ≡ 4 * x → l ≡ w + 4 * x
    close l do_ d o x e1 w a b c e f = omega arith

-- one right angle at each dart and those beyond
ones_parted : (p : PlaneModel) (given : GivenModel) (s : FaceSet)
    → sum_below (darts p) (λ d. (1 + beyond_first (angle_given given d)) * cond (s (face_at p d)) 1 0)
    ≡ sum_below (darts p) (λ d. cond (s (face_at p d)) 1 0) + sum_below (darts p) (λ d. cond (s (face_at p d)) 1 0 * beyond_first (angle_given given d))
ones_parted p given s =
    sum_below-same (darts p) (λ d. (1 + beyond_first (angle_given given d)) * cond (s (face_at p d)) 1 0)
    (λ d. cond (s (face_at p d)) 1 0 + cond (s (face_at p d)) 1 0 * beyond_first (angle_given given d))
    (λ d l. one (s (face_at p d)) (beyond_first (angle_given given d)))
    ∙ sum_below-add (darts p) (λ d. cond (s (face_at p d)) 1 0) (λ d. cond (s (face_at p d)) 1 0 * beyond_first (angle_given given d))
  where
    one : (b : Bool) (n : ℕ) → (1 + n) * cond b 1 0 ≡ cond b 1 0 + cond b 1 0 * n
    one true n = omega arith
    one false n = omega arith

-- so a cut has nothing to turn
nothing_to_turn : (p : PlaneModel) (given : GivenModel) (frames : ℕ) (inside : ℕ → FaceSet) → IsPlane p → HaveRoom p given → AreParts p given frames inside → (vs fs : List Bool) → ShowsNone p given vs fs → has_to_turn p given vs fs ≤ℤ pos 0
nothing_to_turn p given frames inside plane have parts vs fs shows =
    let n : ℕ = vertices p in
    let at_vertices : total_below n (λ k. if is_marked vs k then vertex_has_to_turn p given (k + 1) else pos 0)
    ≡ pos (sum_below n (λ k. cond (is_marked vs k) 4 0)) -ℤ pos (sum_below n (λ k. cond (is_marked vs k) (vertex_degree p (k + 1) + beyond_at_vertex p given (k + 1)) 0)) =
    total_below-parts n (λ k. if is_marked vs k then vertex_has_to_turn p given (k + 1) else pos 0) (λ k. cond (is_marked vs k) 4 0) (λ k. cond (is_marked vs k) (vertex_degree p (k + 1) + beyond_at_vertex p given (k + 1)) 0)
    (λ k l. one_vertex (is_marked vs k) (vertex_degree p (k + 1)) (beyond_at_vertex p given (k + 1))) in
    let in_faces : total_below p.faces (λ f. if is_marked fs f then face_has_to_turn p given f else pos 0)
    ≡ pos (sum_below p.faces (λ f. cond (is_marked fs f) (cond (eqb f p.outer) 0 4 + beyond_in_face p given f) 0)) -ℤ pos (sum_below p.faces (λ f. cond (is_marked fs f) (degree p f + cond (eqb f p.outer) 4 0) 0)) =
    total_below-parts p.faces (λ f. if is_marked fs f then face_has_to_turn p given f else pos 0) (λ f. cond (is_marked fs f) (cond (eqb f p.outer) 0 4 + beyond_in_face p given f) 0)
    (λ f. cond (is_marked fs f) (degree p f + cond (eqb f p.outer) 4 0) 0)
    (λ f l. one_face (is_marked fs f) (eqb f p.outer) (degree p f) (beyond_in_face p given f) (lefts_in_face p given f) (no_lefts_in_face p given frames inside plane parts f)) in
    close (total_below n (λ k. if is_marked vs k then vertex_has_to_turn p given (k + 1) else pos 0)) (total_below p.faces (λ f. if is_marked fs f then face_has_to_turn p given f else pos 0))
    (sum_below n (λ k. cond (is_marked vs k) 4 0)) (sum_below n (λ k. cond (is_marked vs k) (vertex_degree p (k + 1) + beyond_at_vertex p given (k + 1)) 0))
    (sum_below p.faces (λ f. cond (is_marked fs f) (cond (eqb f p.outer) 0 4 + beyond_in_face p given f) 0)) (sum_below p.faces (λ f. cond (is_marked fs f) (degree p f + cond (eqb f p.outer) 4 0) 0))
    (cond (is_marked fs p.outer) 1 0) (sum_below p.faces (λ f. cond (is_marked fs f) 1 0)) (sum_below (darts p) (λ d. cond (is_marked fs (face_at p d)) 1 0))
    (sum_below (darts p) (λ d. cond (is_marked fs (face_at p d)) 1 0 * beyond_first (angle_given given d)))
    (sum_below (darts p) (λ d. (1 + beyond_first (angle_given given d)) * cond (is_marked fs (face_at p d)) 1 0)) (sum_below (darts p) (λ d. angle_of p given d * cond (is_marked fs (face_at p d)) 1 0))
    at_vertices in_faces (gains p given plane (is_marked fs)) (losses p plane (is_marked fs)) (ones_parted p given (is_marked fs))
    (vertices_less p given frames inside plane have parts vs fs shows)
    (even_faces p given frames inside plane have parts (is_marked fs) (have_both p given frames inside plane parts vs fs shows))
  where
    one_vertex : (m : Bool) (k more : ℕ) → (if m then pos 4 -ℤ pos k -ℤ pos more else pos 0) ≡ pos (cond m 4 0) -ℤ pos (cond m (k + more) 0)
    one_vertex true k more = omega (arith, ints)
    one_vertex false k more = omega (arith, ints)

    one_face : (m o : Bool) (k more : ℕ) (t : ℤ) → t ≡ pos 0 → (if m then (if o then negsuc 3 else pos 4) -ℤ pos k +ℤ pos more -ℤ t else pos 0) ≡ pos (cond m (cond o 0 4 + more) 0) -ℤ pos (cond m (k + cond o 4 0) 0)
    one_face true true k more t is = omega (arith, ints)
    one_face true false k more t is = omega (arith, ints)
    one_face false o k more t is = omega (arith, ints)

    close : (x y : ℤ) (a b g l o w d m ones angles : ℕ) → x ≡ pos a -ℤ pos b → y ≡ pos g -ℤ pos l → g + 4 * o ≡ 4 * w + m → l ≡ d + 4 * o → ones ≡ d + m → ones + a ≤ angles + b → 4 * w + angles ≡ 8 * o + 2 * d → (x +ℤ y) ≤ℤ pos 0
    close x y a b g l o w d m ones angles e1 e2 e3 e4 e5 e6 e7 = omega (arith, ints)

pub no_cut_of_parts : (p : PlaneModel) (given : GivenModel) (frames : ℕ) (inside : ℕ → FaceSet) (vs fs : List Bool) → IsPlane p → CanBeGiven given.angles given.turns → AreParts p given frames inside → ¬ ShowsNone p given vs fs
no_cut_of_parts p given frames inside vs fs plane can parts shows =
    more_and_less (has_to_turn p given vs fs) shows.more
    (nothing_to_turn p given frames inside plane (have_room p given frames inside plane (λ d _. in_range given can d) parts) parts vs fs shows)
  where
    more_and_less : (z : ℤ) → pos 0 <ℤ z → z ≤ℤ pos 0 → ⊥
    more_and_less z more less = omega (arith, ints)
