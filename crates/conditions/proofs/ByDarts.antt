-- What conditions mean: lists of what is asked for, as what is given.
use Rattle.std.proofs.Common.{◌≡◌, ◌∙◌, ◌↔◌, ℕ, ◌<◌, ◌≤◌, Bool, true, false, List, get_or, sym, ap, subst, inl, inr, arith}
use Rattle.std.specs.Prelude.{ℤ, neg_ℤ, nat_abs, Option, Some, None, Any, if◌then◌else◌}
use Rattle.std.proofs.Math.IntN.{neg_ℤ-neg_ℤ}
use Rattle.std.proofs.lemmas.Bool.{cases_Bool, cases_lt, cond-true, cond-false}
use Rattle.common.specs.Sums.{sum_below}
use Rattle.common.proofs.Sums.{sum_below-same}
use Rattle.embedding.specs.Lesser.{is_lesser_of}
use Rattle.faces.specs.Planes.{PlaneModel, HasEnds, darts, reverse_dart}
use Rattle.flow_network.specs.declared.given_shape.TheConstants.{MAX_GIVEN_TURNS}
use Rattle.flow_network.specs.Given.{GivenModel, CanBeGiven, walked_back, turns_given, lefts_given, turns_in_all}
use Rattle.flow_network.proofs.GivenParts.{lesser_turned}
use Rattle.conditions.specs.declared.conditions.TurnsAlong.{TurnsAlong}
use Rattle.conditions.specs.declared.conditions.Conditions.{Conditions}
use Rattle.conditions.specs.Asked.{Names, AsksTurns, HasAngles, IsGivenFor, turns_of_edges}
use Rattle.conditions.specs.Asking.{AreAngles, AreTurns}
use Rattle.conditions.proofs.AngleLists.{angles_in_range}
use Rattle.conditions.proofs.TurnLists.{AsksAlong}

abbrev pub listed : List (Option ℕ) → List (Option ℤ) → GivenModel
listed angles turns = record { angles = angles; turns = turns }

walked : (g : Option ℤ) (t : ℤ) → (walked_back g ≡ Some t) ↔ (g ≡ Some (neg_ℤ t))
walked None t = (λ e. cc, λ e. cc)
walked (Some u) t = (
  λ e. let same : neg_ℤ u ≡ t = cc in ap (λ (z : ℤ). Some z) (sym (neg_ℤ-neg_ℤ u) ∙ ap neg_ℤ same),
  λ e. let same : u ≡ neg_ℤ t = cc in ap (λ (z : ℤ). Some z) (ap neg_ℤ same ∙ neg_ℤ-neg_ℤ t),
)

-- t turns are asked for along a dart exactly if -t are along its reverse
asks_back : (p : PlaneModel) (list : List TurnsAlong) (d : ℕ) (t : ℤ) → HasEnds p → d < darts p → AsksTurns p list (reverse_dart p d) (neg_ℤ t) → AsksTurns p list d t
asks_back p list d t ends d_in some = elim some [
  | inl one ↦ inr one
  | inr one ↦
      let back : reverse_dart p (reverse_dart p d) ≡ d = ends.reverse_dart_back d d_in in
      inl (subst (λ (z : ℤ). Any (λ (a : TurnsAlong). AsksAlong p a d z) list) (neg_ℤ-neg_ℤ t)
      (subst (λ (e : ℕ). Any (λ (a : TurnsAlong). Names p e a.from a.to × (a.turns ≡ neg_ℤ (neg_ℤ t))) list) back one))
]

asks_forth : (p : PlaneModel) (list : List TurnsAlong) (d : ℕ) (t : ℤ) → HasEnds p → d < darts p → AsksTurns p list d t → AsksTurns p list (reverse_dart p d) (neg_ℤ t)
asks_forth p list d t ends d_in some = elim some [
  | inl one ↦
      let back : reverse_dart p (reverse_dart p d) ≡ d = ends.reverse_dart_back d d_in in
      inr (subst (λ (e : ℕ). Any (λ (a : TurnsAlong). Names p e a.from a.to × (a.turns ≡ neg_ℤ (neg_ℤ t))) list) (sym back)
      (subst (λ (z : ℤ). Any (λ (a : TurnsAlong). AsksAlong p a d z) list) (sym (neg_ℤ-neg_ℤ t)) one))
  | inr one ↦ inl one
]

-- just what is asked for is given
pub given_for : (p : PlaneModel) (conditions : Conditions) (angles : List (Option ℕ)) (turns : List (Option ℤ)) → HasEnds p →
    AreAngles p conditions.angles.now angles → AreTurns p conditions.turns.now turns → IsGivenFor p conditions (listed angles turns)
given_for p conditions angles turns ends are alongs = record {
  angles = are.each;
  turns = λ d d_in t. elim (cases_Bool (is_lesser_of p.lists d)) [
    | inl lesser ↦
        let at : turns_given p (listed angles turns) d ≡ get_or turns d None =
        cond-true {A = Option ℤ} (is_lesser_of p.lists d) (get_or turns d None) (walked_back (get_or turns (reverse_dart p d) None)) lesser in
        let is = alongs.lesser d d_in lesser t in
        (λ found. is.0 (sym at ∙ found), λ asks. at ∙ is.1 asks)
    | inr greater ↦
        let r = reverse_dart p d in
        let r_in : r < darts p = ends.reverse_dart_in_range d d_in in
        let at : turns_given p (listed angles turns) d ≡ walked_back (get_or turns r None) =
        cond-false {A = Option ℤ} (is_lesser_of p.lists d) (get_or turns d None) (walked_back (get_or turns r None)) greater in
        let other : is_lesser_of p.lists r ≡ true = lesser_turned p d ends d_in ∙ ap (λ (c : Bool). if c then false else true) greater in
        let is = alongs.lesser r r_in other (neg_ℤ t) in
        let back = walked (get_or turns r None) t in (
          λ found. asks_back p conditions.turns.now d t ends d_in (is.0 (back.0 (sym at ∙ found))),
          λ asks. at ∙ back.1 (is.1 (asks_forth p conditions.turns.now d t ends d_in asks)),
        )
  ];
}

-- all edges together have as many turns as the list
pub turns_together : (p : PlaneModel) (list : List TurnsAlong) (angles : List (Option ℕ)) (turns : List (Option ℤ)) → AreTurns p list turns → turns_of_edges p (listed angles turns) ≡ turns_in_all turns
turns_together p list angles turns are =
    let f : ℕ → ℕ = λ d. if is_lesser_of p.lists d then nat_abs (lefts_given (turns_given p (listed angles turns) d)) else 0 in
    let g : ℕ → ℕ = λ d. nat_abs (lefts_given (get_or turns d None)) in
    sum_below-same (darts p) f g
    (λ d d_in. elim (cases_Bool (is_lesser_of p.lists d)) [
      | inl lesser ↦
          cond-true {A = ℕ} (is_lesser_of p.lists d) (nat_abs (lefts_given (turns_given p (listed angles turns) d))) 0 lesser
          ∙ ap (λ (o : Option ℤ). nat_abs (lefts_given o)) (cond-true {A = Option ℤ} (is_lesser_of p.lists d) (get_or turns d None) (walked_back (get_or turns (reverse_dart p d) None)) lesser)
      | inr greater ↦
          cond-false {A = ℕ} (is_lesser_of p.lists d) (nat_abs (lefts_given (turns_given p (listed angles turns) d))) 0 greater
          ∙ sym (ap (λ (o : Option ℤ). nat_abs (lefts_given o)) (are.greater d d_in greater))
    ])
    ∙ ap (λ (n : ℕ). sum_below n g) (sym are.size)

-- angles in range that cannot be given have too many turns beside them
pub too_many : (p : PlaneModel) (conditions : Conditions) (angles : List (Option ℕ)) (turns : List (Option ℤ)) → HasAngles conditions →
    AreAngles p conditions.angles.now angles → AreTurns p conditions.turns.now turns → ¬ CanBeGiven angles turns → MAX_GIVEN_TURNS < turns_of_edges p (listed angles turns)
too_many p conditions angles turns range are alongs cannot =
    let same = turns_together p conditions.turns.now angles turns alongs in
    elim (cases_lt MAX_GIVEN_TURNS (turns_in_all turns)) [
      | inl more ↦ omega (arith, same, more)
      | inr few ↦ absurd (cannot (record { are_angles = angles_in_range p conditions.angles.now angles range are; few = few }))
    ]

-- and those that can be given have not
pub few_together : (p : PlaneModel) (list : List TurnsAlong) (angles : List (Option ℕ)) (turns : List (Option ℤ)) → AreTurns p list turns → CanBeGiven angles turns → turns_of_edges p (listed angles turns) ≤ MAX_GIVEN_TURNS
few_together p list angles turns are can = omega (arith, turns_together p list angles turns are, can.few)

-- what can be given, by lists that are the same
pub can_alike : (angles other : List (Option ℕ)) (turns more : List (Option ℤ)) → angles ≡ other → turns ≡ more → CanBeGiven angles turns → CanBeGiven other more
can_alike angles other turns more same alike can = subst (λ (a : List (Option ℕ)). CanBeGiven a more) same (subst (λ (t : List (Option ℤ)). CanBeGiven angles t) alike can)
