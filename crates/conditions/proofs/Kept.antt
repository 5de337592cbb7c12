-- What is asked of a plane is asked of it with another outer face.
use Rattle.std.proofs.Common.{◌≡◌, ◌↔◌, ℕ, Bool, List, Result, Ok, Err, OnOk, inl, inr, subst, sym}
use Rattle.std.specs.Prelude.{ℤ, neg_ℤ, Any}
use Rattle.common.specs.declared.parameters.Choice.{Choice}
use Rattle.faces.specs.Planes.{PlaneModel, reverse_dart, with_outer}
use Rattle.flow_network.specs.Given.{GivenModel}
use Rattle.conditions.specs.declared.conditions.AngleAt.{AngleAt}
use Rattle.conditions.specs.declared.conditions.Conditions.{Conditions}
use Rattle.conditions.specs.declared.conditions.DartEnds.{DartEnds}
use Rattle.conditions.specs.declared.conditions.TurnsAlong.{TurnsAlong}
use Rattle.conditions.specs.declared.cuts.KeepFault.{KeepFault}
use Rattle.conditions.specs.declared.cuts.KeepFault.TheVariants.{NoAngle, NoEdge, Conflict, TooManyTurns, NoOuter, NoShape, Memory}
use Rattle.conditions.specs.Cut.{ShowsNone}
use Rattle.conditions.specs.Asked.{Names, IsAsked, IsAmong, IsDart, AreDarts, AsksAngle, AsksTurns}
use Rattle.conditions.specs.Chosen.{IsGreatestOpen, HasNoChosen, IsToldOf, IsKeepFault}

dart_moved : (p : PlaneModel) (o from to : ℕ) → IsDart p from to → IsDart (with_outer p o) from to
dart_moved p o from to is = record { dart = is.dart; inside = is.inside; tail = is.tail; head = is.head }

darts_moved : (p : PlaneModel) (o : ℕ) (conditions : Conditions) → AreDarts p conditions → AreDarts (with_outer p o) conditions
darts_moved p o conditions are = record {
  turns = λ k d lt. dart_moved p o _ _ (are.turns k d lt);
  angles = λ k d lt. dart_moved p o _ _ (are.angles k d lt);
  faces = λ k d lt. dart_moved p o _ _ (are.faces k d lt);
}

names_moved : (p : PlaneModel) (o d from to : ℕ) → Names p d from to → Names (with_outer p o) d from to
names_moved p o d from to is = record { tail = is.tail; head = is.head }

names_back : (p : PlaneModel) (o d from to : ℕ) → Names (with_outer p o) d from to → Names p d from to
names_back p o d from to is = record { tail = is.tail; head = is.head }

any_moved : {X : Type 0} (P Q : X → Type 0) (xs : List X) → ((x : X) → P x → Q x) → Any P xs → Any Q xs
any_moved P Q xs change (k, x, inside, is, holds) = (k, x, inside, is, change x holds)

angles_moved : (p : PlaneModel) (o : ℕ) (list : List AngleAt) (d k : ℕ) → AsksAngle p list d k ↔ AsksAngle (with_outer p o) list d k
angles_moved p o list d k =
    let q = with_outer p o in (
      any_moved (λ (a : AngleAt). Names p d a.from a.to × (a.angle ≡ k)) (λ (a : AngleAt). Names q d a.from a.to × (a.angle ≡ k)) list (λ a h. (names_moved p o d a.from a.to h.0, h.1)),
      any_moved (λ (a : AngleAt). Names q d a.from a.to × (a.angle ≡ k)) (λ (a : AngleAt). Names p d a.from a.to × (a.angle ≡ k)) list (λ a h. (names_back p o d a.from a.to h.0, h.1)),
    )

along_moved : (p : PlaneModel) (o : ℕ) (list : List TurnsAlong) (d : ℕ) (t : ℤ) →
    Any (λ (a : TurnsAlong). Names p d a.from a.to × (a.turns ≡ t)) list ↔ Any (λ (a : TurnsAlong). Names (with_outer p o) d a.from a.to × (a.turns ≡ t)) list
along_moved p o list d t =
    let q = with_outer p o in (
      any_moved (λ (a : TurnsAlong). Names p d a.from a.to × (a.turns ≡ t)) (λ (a : TurnsAlong). Names q d a.from a.to × (a.turns ≡ t)) list (λ a h. (names_moved p o d a.from a.to h.0, h.1)),
      any_moved (λ (a : TurnsAlong). Names q d a.from a.to × (a.turns ≡ t)) (λ (a : TurnsAlong). Names p d a.from a.to × (a.turns ≡ t)) list (λ a h. (names_back p o d a.from a.to h.0, h.1)),
    )

turns_moved : (p : PlaneModel) (o : ℕ) (list : List TurnsAlong) (d : ℕ) (t : ℤ) → AsksTurns p list d t ↔ AsksTurns (with_outer p o) list d t
turns_moved p o list d t =
    let along = along_moved p o list d t in
    let against = along_moved p o list (reverse_dart p d) (neg_ℤ t) in (
      λ some. elim some [ inl one ↦ inl (along.0 one) | inr one ↦ inr (against.0 one) ],
      λ some. elim some [ inl one ↦ inl (along.1 one) | inr one ↦ inr (against.1 one) ],
    )

among_moved : (p : PlaneModel) (o : ℕ) (list : List DartEnds) (d : ℕ) → IsAmong p list d ↔ IsAmong (with_outer p o) list d
among_moved p o list d =
    let q = with_outer p o in (
      any_moved (λ (e : DartEnds). Names p d e.from e.to) (λ (e : DartEnds). Names q d e.from e.to) list (λ e h. names_moved p o d e.from e.to h),
      any_moved (λ (e : DartEnds). Names q d e.from e.to) (λ (e : DartEnds). Names p d e.from e.to) list (λ e h. names_back p o d e.from e.to h),
    )

pub asked_moved : (p q : PlaneModel) (conditions : Conditions) (given : GivenModel) (barred : List Bool) → q ≡ with_outer p q.outer → IsAsked p conditions given barred → IsAsked q conditions given barred
asked_moved p q conditions given barred is asked =
    let o = q.outer in
    let moved : IsAsked (with_outer p o) conditions given barred = record {
      angles_are = asked.angles_are;
      darts = darts_moved p o conditions asked.darts;
      given_for = record {
        angles = λ d lt k.
            let old = asked.given_for.angles d lt k in
            let new = angles_moved p o conditions.angles.now d k in
            (λ e. new.0 (old.0 e), λ asks. old.1 (new.1 asks));
        turns = λ d lt t.
            let old = asked.given_for.turns d lt t in
            let new = turns_moved p o conditions.turns.now d t in
            (λ e. new.0 (old.0 e), λ asks. old.1 (new.1 asks));
      };
      few = asked.few;
      inner = λ f lt. (
        λ on. let (d, inside, at, among) = (asked.inner f lt).0 on in (d, inside, at, (among_moved p o conditions.inner.now d).0 among),
        λ (d, inside, at, among). (asked.inner f lt).1 (d, inside, at, (among_moved p o conditions.inner.now d).1 among),
      );
    } in
    subst (λ (m : PlaneModel). IsAsked m conditions given barred) (sym is) moved

-- what holds in any case holds of what was found
pub whenever : {A E : Type 0} (found : Result A E) (P : Type 0) → P → OnOk found P
whenever (Ok x) P is = is
whenever (Err e) P is = tt

-- what is told of the plane with the greatest face as the outer one shows why no shape keeps the conditions
pub fault_told : (p q : PlaneModel) (conditions : Conditions) (choice : Choice) (given : GivenModel) (barred : List Bool) (greatest : ℕ) (fault : KeepFault) → q ≡ with_outer p q.outer → IsAsked p conditions given barred → IsGreatestOpen p barred greatest → HasNoChosen choice p given barred → IsToldOf q given greatest fault → IsKeepFault conditions choice p fault
fault_told p q conditions choice given barred greatest (NoShape why) moved asked is none told =
    let vs : List Bool = why.cut.vertices.items in
    let fs : List Bool = why.cut.faces.items in
    let shown : ShowsNone (with_outer p greatest) given vs fs = subst (λ (m : PlaneModel). ShowsNone (with_outer m greatest) given vs fs) moved told.1 in
    record {
      given = given;
      barred = barred;
      asked = asked;
      none = none;
      greatest = subst (λ (o : ℕ). IsGreatestOpen p barred o) (sym told.0) is;
      shown = subst (λ (o : ℕ). ShowsNone (with_outer p o) given vs fs) (sym told.0) shown;
    }
fault_told p q conditions choice given barred greatest Memory moved asked is none told = tt
fault_told p q conditions choice given barred greatest NoAngle moved asked is none told = absurd told
fault_told p q conditions choice given barred greatest NoEdge moved asked is none told = absurd told
fault_told p q conditions choice given barred greatest Conflict moved asked is none told = absurd told
fault_told p q conditions choice given barred greatest TooManyTurns moved asked is none told = absurd told
fault_told p q conditions choice given barred greatest NoOuter moved asked is none told = absurd told
