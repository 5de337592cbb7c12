-- Turns that are asked for, put into a list by lesser darts.
use Rattle.std.proofs.Common.{◌≡◌, ◌∙◌, ◌↔◌, ◌⊎◌, ℕ, ◌+◌, ◌<◌, ◌≤◌, Bool, true, false, List, length, take, get_or, replicate, sym, ap, subst, inl, inr, arith}
use Rattle.std.specs.Prelude.{ℤ, neg_ℤ, Option, Some, None, if◌then◌else◌}
use Rattle.std.proofs.Math.IntN.{neg_ℤ-neg_ℤ}
use Rattle.std.proofs.lemmas.Bool.{cases_Bool, both_ways, cond-true, cond-false, lt-ltb, le-ltb}
use Rattle.std.proofs.lemmas.List.{length-replicate, length-set, get_or-replicate, get_or-set_other, take_all}
use Rattle.embedding.specs.Lesser.{is_lesser_of}
use Rattle.faces.specs.Planes.{PlaneModel, IsPlane, HasEnds, darts, reverse_dart}
use Rattle.flow_network.proofs.GivenParts.{lesser_turned}
use Rattle.conditions.specs.declared.conditions.TurnsAlong.{TurnsAlong}
use Rattle.conditions.specs.Asked.{Names, AsksTurns, TurnsDiffer}
use Rattle.conditions.specs.Asking.{AreTurns, lesser_of, along_lesser, IsPut, HoldsOther}
use Rattle.conditions.proofs.Putting.{any_more, any_whole, none_yet, put_more}
use Rattle.conditions.proofs.AngleLists.{named_once}

-- this condition asks for t left turns along dart d by its name, or by that of its reverse
abbrev pub AsksAlong : PlaneModel → TurnsAlong → ℕ → ℤ → Type 0
AsksAlong p asked d t = Names p d asked.from asked.to × (asked.turns ≡ t)

abbrev pub AsksAgainst : PlaneModel → TurnsAlong → ℕ → ℤ → Type 0
AsksAgainst p asked d t = Names p (reverse_dart p d) asked.from asked.to × (asked.turns ≡ neg_ℤ t)

abbrev pub AsksForTurns : PlaneModel → TurnsAlong → ℕ → ℤ → Type 0
AsksForTurns p asked d t = AsksAlong p asked d t ⊎ AsksAgainst p asked d t

pub asks_more : (p : PlaneModel) (list : List TurnsAlong) (i : ℕ) (none : TurnsAlong) (d : ℕ) (t : ℤ) → i < length list → AsksTurns p (take (i + 1) list) d t ↔ (AsksTurns p (take i list) d t ⊎ AsksForTurns p (get_or list i none) d t)
asks_more p list i none d t lt =
    let along = any_more (λ (a : TurnsAlong). AsksAlong p a d t) list i none lt in
    let against = any_more (λ (a : TurnsAlong). AsksAgainst p a d t) list i none lt in (
      λ some. elim some [
        | inl one ↦ elim (along.0 one) [ inl earlier ↦ inl (inl earlier) | inr now ↦ inr (inl now) ]
        | inr one ↦ elim (against.0 one) [ inl earlier ↦ inl (inr earlier) | inr now ↦ inr (inr now) ]
      ],
      λ some. elim some [
        | inl earlier ↦ elim earlier [ inl one ↦ inl (along.1 (inl one)) | inr one ↦ inr (against.1 (inl one)) ]
        | inr now ↦ elim now [ inl one ↦ inl (along.1 (inr one)) | inr one ↦ inr (against.1 (inr one)) ]
      ],
    )

pub asks_whole : (p : PlaneModel) (list : List TurnsAlong) (n d : ℕ) (t : ℤ) → AsksTurns p (take n list) d t → AsksTurns p list d t
asks_whole p list n d t some = elim some [
  | inl one ↦ inl (any_whole (λ (a : TurnsAlong). AsksAlong p a d t) list n one)
  | inr one ↦ inr (any_whole (λ (a : TurnsAlong). AsksAgainst p a d t) list n one)
]

-- the lesser dart of an edge is one of its darts, and the lesser one
pub lesser_inside : (p : PlaneModel) (e : ℕ) → HasEnds p → e < darts p → lesser_of p e < darts p
lesser_inside p e ends e_in = elim (cases_Bool (is_lesser_of p.lists e)) [
  | inl lesser ↦ omega (arith, cond-true {A = ℕ} (is_lesser_of p.lists e) e (reverse_dart p e) lesser, e_in)
  | inr greater ↦ omega (arith, cond-false {A = ℕ} (is_lesser_of p.lists e) e (reverse_dart p e) greater, ends.reverse_dart_in_range e e_in)
]

pub lesser_is_lesser : (p : PlaneModel) (e : ℕ) → HasEnds p → e < darts p → is_lesser_of p.lists (lesser_of p e) ≡ true
lesser_is_lesser p e ends e_in = elim (cases_Bool (is_lesser_of p.lists e)) [
  | inl lesser ↦ ap (is_lesser_of p.lists) (cond-true {A = ℕ} (is_lesser_of p.lists e) e (reverse_dart p e) lesser) ∙ lesser
  | inr greater ↦
      ap (is_lesser_of p.lists) (cond-false {A = ℕ} (is_lesser_of p.lists e) e (reverse_dart p e) greater)
      ∙ (lesser_turned p e ends e_in ∙ ap (λ (c : Bool). if c then false else true) greater)
]

-- a condition about dart e asks for its turns at the lesser dart of the edge
pub asks_at_lesser : (p : PlaneModel) (asked : TurnsAlong) (e : ℕ) → HasEnds p → e < darts p → Names p e asked.from asked.to → AsksForTurns p asked (lesser_of p e) (along_lesser p e asked.turns)
asks_at_lesser p asked e ends e_in named = elim (cases_Bool (is_lesser_of p.lists e)) [
  | inl lesser ↦
      let at : lesser_of p e ≡ e = cond-true {A = ℕ} (is_lesser_of p.lists e) e (reverse_dart p e) lesser in
      let turns : along_lesser p e asked.turns ≡ asked.turns = cond-true {A = ℤ} (is_lesser_of p.lists e) asked.turns (neg_ℤ asked.turns) lesser in
      inl (subst (λ (d : ℕ). Names p d asked.from asked.to) (sym at) named, sym turns)
  | inr greater ↦
      let at : lesser_of p e ≡ reverse_dart p e = cond-false {A = ℕ} (is_lesser_of p.lists e) e (reverse_dart p e) greater in
      let turns : along_lesser p e asked.turns ≡ neg_ℤ asked.turns = cond-false {A = ℤ} (is_lesser_of p.lists e) asked.turns (neg_ℤ asked.turns) greater in
      let back : reverse_dart p (lesser_of p e) ≡ e = ap (reverse_dart p) at ∙ ends.reverse_dart_back e e_in in
      inr (subst (λ (d : ℕ). Names p d asked.from asked.to) (sym back) named, sym (ap neg_ℤ turns ∙ neg_ℤ-neg_ℤ asked.turns))
]

-- and of the lesser darts at no other one, nor other turns
pub asks_only_there : (p : PlaneModel) (asked : TurnsAlong) (e : ℕ) → IsPlane p → HasEnds p → e < darts p → Names p e asked.from asked.to →
    (d : ℕ) → d < darts p → is_lesser_of p.lists d ≡ true → (t : ℤ) → AsksForTurns p asked d t → (d ≡ lesser_of p e) × (t ≡ along_lesser p e asked.turns)
asks_only_there p asked e plane ends e_in named d d_in lesser t asks = elim asks [
  | inl one ↦
      let same : d ≡ e = named_once p d e asked.from asked.to plane d_in e_in one.0 named in
      let at : is_lesser_of p.lists e ≡ true = subst (λ (j : ℕ). is_lesser_of p.lists j ≡ true) same lesser in (
        same ∙ sym (cond-true {A = ℕ} (is_lesser_of p.lists e) e (reverse_dart p e) at),
        sym one.1 ∙ sym (cond-true {A = ℤ} (is_lesser_of p.lists e) asked.turns (neg_ℤ asked.turns) at),
      )
  | inr one ↦
      let r = reverse_dart p d in
      let same : r ≡ e = named_once p r e asked.from asked.to plane (ends.reverse_dart_in_range d d_in) e_in one.0 named in
      let greater : is_lesser_of p.lists r ≡ false = lesser_turned p d ends d_in ∙ ap (λ (c : Bool). if c then false else true) lesser in
      let at : is_lesser_of p.lists e ≡ false = subst (λ (j : ℕ). is_lesser_of p.lists j ≡ false) same greater in
      let back : reverse_dart p e ≡ d = ap (reverse_dart p) (sym same) ∙ ends.reverse_dart_back d d_in in (
        sym (cond-false {A = ℕ} (is_lesser_of p.lists e) e (reverse_dart p e) at ∙ back),
        sym (cond-false {A = ℤ} (is_lesser_of p.lists e) asked.turns (neg_ℤ asked.turns) at ∙ (ap neg_ℤ one.1 ∙ neg_ℤ-neg_ℤ t)),
      )
]

pub no_turns : (p : PlaneModel) (list : List TurnsAlong) (found : List (Option ℤ)) → found ≡ replicate (darts p) None → AreTurns p (take 0 list) found
no_turns p list found empty =
    let none : (d : ℕ) → d < darts p → get_or found d None ≡ None = λ d lt. ap (λ (l : List (Option ℤ)). get_or l d None) empty ∙ get_or-replicate (darts p) d None None lt in
    record {
      size = ap length empty ∙ length-replicate (darts p) None;
      lesser = λ d lt _ t. (
        λ is. let both : None ≡ Some t = sym (none d lt) ∙ is in cc,
        λ asks. absurd (elim asks [
          | inl one ↦ none_yet (λ (a : TurnsAlong). AsksAlong p a d t) list one
          | inr one ↦ none_yet (λ (a : TurnsAlong). AsksAgainst p a d t) list one
        ]),
      );
      greater = λ d lt _. none d lt;
    }

pub turns_more : (p : PlaneModel) (list : List TurnsAlong) (old new : List (Option ℤ)) (i e : ℕ) (none : TurnsAlong) → IsPlane p → HasEnds p → i < length list → e < darts p →
    Names p e (get_or list i none).from (get_or list i none).to → IsPut (lesser_of p e) (along_lesser p e (get_or list i none).turns) old new → AreTurns p (take i list) old → AreTurns p (take (i + 1) list) new
turns_more p list old new i e none plane ends lt e_in named is before =
    let asked = get_or list i none in
    let at = lesser_of p e in
    let turns = along_lesser p e asked.turns in
    record {
      size = ap length is.put ∙ (length-set old at (Some turns) ∙ before.size);
      lesser = λ d d_in is_lesser t.
          let steps = put_more (darts p) at turns (λ (d : ℕ). is_lesser_of p.lists d ≡ true) (λ (d : ℕ) (t : ℤ). AsksTurns p (take i list) d t) (AsksForTurns p asked) old new before.size
          (lesser_inside p e ends e_in) (asks_only_there p asked e plane ends e_in named) (asks_at_lesser p asked e ends e_in named) is before.lesser d d_in is_lesser t in
          let more = asks_more p list i none d t lt in
          (λ found. more.1 (steps.0 found), λ asks. steps.1 (more.0 asks));
      greater = λ d d_in is_greater.
          ap (λ (l : List (Option ℤ)). get_or l d None) is.put
          ∙ (get_or-set_other old at d (Some turns) None (λ same. both_ways (is_lesser_of p.lists d) is_greater (ap (is_lesser_of p.lists) same ∙ lesser_is_lesser p e ends e_in))
          ∙ before.greater d d_in is_greater);
    }

pub all_turns : (p : PlaneModel) (list : List TurnsAlong) (found : List (Option ℤ)) (n : ℕ) → length list ≤ n → AreTurns p (take n list) found → AreTurns p list found
all_turns p list found n end are = subst (λ (l : List TurnsAlong). AreTurns p l found) (take_all n list end) are

-- other turns are there: two conditions differ
pub turns_differ : (p : PlaneModel) (list : List TurnsAlong) (old : List (Option ℤ)) (i e : ℕ) (none : TurnsAlong) → HasEnds p → i < length list → e < darts p →
    Names p e (get_or list i none).from (get_or list i none).to → HoldsOther (lesser_of p e) (along_lesser p e (get_or list i none).turns) old → AreTurns p (take i list) old → TurnsDiffer p list
turns_differ p list old i e none ends lt e_in named holds before =
    let asked = get_or list i none in
    let at = lesser_of p e in
    let turns = along_lesser p e asked.turns in
    record {
      dart = at;
      inside = lesser_inside p e ends e_in;
      one = holds.held;
      other = turns;
      asks_one = asks_whole p list i at holds.held ((before.lesser at (lesser_inside p e ends e_in) (lesser_is_lesser p e ends e_in) holds.held).0 holds.is_held);
      asks_other = asks_whole p list (i + 1) at turns ((asks_more p list i none at turns lt).1 (inr (asks_at_lesser p asked e ends e_in named)));
      differ = holds.differs;
    }

-- what holds of the place and the turns at the lesser dart, as they stand there
pub at_lesser : (p : PlaneModel) (d e : ℕ) (t v : ℤ) (P : ℕ → ℤ → Type 0) → d < reverse_dart p d → e ≡ d → v ≡ t → P e v → P (lesser_of p d) (along_lesser p d t)
at_lesser p d e t v P less place turns holds =
    let on : is_lesser_of p.lists d ≡ true = lt-ltb d (reverse_dart p d) less in
    subst (λ (z : ℤ). P (lesser_of p d) z) (turns ∙ sym (cond-true {A = ℤ} (is_lesser_of p.lists d) t (neg_ℤ t) on))
    (subst (λ (k : ℕ). P k v) (place ∙ sym (cond-true {A = ℕ} (is_lesser_of p.lists d) d (reverse_dart p d) on)) holds)

pub at_greater : (p : PlaneModel) (d e : ℕ) (t v : ℤ) (P : ℕ → ℤ → Type 0) → reverse_dart p d ≤ d → e ≡ reverse_dart p d → v ≡ neg_ℤ t → P e v → P (lesser_of p d) (along_lesser p d t)
at_greater p d e t v P more place turns holds =
    let off : is_lesser_of p.lists d ≡ false = le-ltb d (reverse_dart p d) more in
    subst (λ (z : ℤ). P (lesser_of p d) z) (turns ∙ sym (cond-false {A = ℤ} (is_lesser_of p.lists d) t (neg_ℤ t) off))
    (subst (λ (k : ℕ). P k v) (place ∙ sym (cond-false {A = ℕ} (is_lesser_of p.lists d) d (reverse_dart p d) off)) holds)
