-- Angles that are asked for, put into a list by darts.
use Rattle.std.proofs.Common.{◌≡◌, ◌∙◌, ℕ, ◌+◌, ◌<◌, ◌≤◌, List, length, take, get_or, replicate, refl, sym, ap, subst, inr, arith}
use Rattle.std.specs.Prelude.{Option, Some, None, All}
use Rattle.std.proofs.lemmas.List.{length-replicate, length-set, get_or-replicate, get_or_default, take_all}
use Rattle.embedding.proofs.Rotation.{one_dart}
use Rattle.faces.specs.Planes.{PlaneModel, IsPlane, darts, tail, head}
use Rattle.faces.proofs.Ends.{seven_rules}
use Rattle.flow_network.specs.Given.{IsAngle}
use Rattle.conditions.specs.declared.conditions.AngleAt.{AngleAt}
use Rattle.conditions.specs.Asked.{Names, AsksAngle, AnglesDiffer}
use Rattle.conditions.specs.Asking.{AreAngles, IsPut, HoldsOther}
use Rattle.conditions.proofs.Putting.{any_more, any_whole, none_yet, any_all, put_more}

-- a dart is known by its ends
pub named_once : (p : PlaneModel) (d e from to : ℕ) → IsPlane p → d < darts p → e < darts p → Names p d from to → Names p e from to → d ≡ e
named_once p d e from to plane d_in e_in one other =
    one_dart p.lists (seven_rules p.lists plane.rules) d e d_in e_in (sym one.tail ∙ other.tail) (sym one.head ∙ other.head)

-- this condition asks for k right angles at the head of dart d
abbrev pub AsksForAngle : PlaneModel → AngleAt → ℕ → ℕ → Type 0
AsksForAngle p asked d k = Names p d asked.from asked.to × (asked.angle ≡ k)

pub no_angles : (p : PlaneModel) (list : List AngleAt) (found : List (Option ℕ)) → found ≡ replicate (darts p) None → AreAngles p (take 0 list) found
no_angles p list found empty = record {
  size = ap length empty ∙ length-replicate (darts p) None;
  each = λ d lt k. (
    λ is. let none : get_or found d None ≡ None = ap (λ (l : List (Option ℕ)). get_or l d None) empty ∙ get_or-replicate (darts p) d None None lt in
        let both : None ≡ Some k = sym none ∙ is in cc,
    λ asks. absurd (none_yet (λ (asked : AngleAt). AsksForAngle p asked d k) list asks),
  );
}

pub angles_more : (p : PlaneModel) (list : List AngleAt) (old new : List (Option ℕ)) (i e : ℕ) (none : AngleAt) → IsPlane p → i < length list → e < darts p →
    Names p e (get_or list i none).from (get_or list i none).to → IsPut e (get_or list i none).angle old new → AreAngles p (take i list) old → AreAngles p (take (i + 1) list) new
angles_more p list old new i e none plane lt e_in named is before =
    let asked = get_or list i none in
    let R : ℕ → ℕ → Type 0 = AsksForAngle p asked in
    record {
      size = ap length is.put ∙ (length-set old e (Some asked.angle) ∙ before.size);
      each = λ d d_in k.
          let steps = put_more (darts p) e asked.angle (λ (_ : ℕ). Unit {0}) (λ (d k : ℕ). AsksAngle p (take i list) d k) R old new before.size e_in
          (λ d d_in _ k asks. (named_once p d e asked.from asked.to plane d_in e_in asks.0 named, sym asks.1)) (named, refl) is (λ d d_in _ k. before.each d d_in k) d d_in tt k in
          let more = any_more (λ (a : AngleAt). AsksForAngle p a d k) list i none lt in
          (λ found. more.1 (steps.0 found), λ asks. steps.1 (more.0 asks));
    }

pub all_angles : (p : PlaneModel) (list : List AngleAt) (found : List (Option ℕ)) (n : ℕ) → length list ≤ n → AreAngles p (take n list) found → AreAngles p list found
all_angles p list found n end are = subst (λ (l : List AngleAt). AreAngles p l found) (take_all n list end) are

-- another angle is there: two conditions differ
pub angles_differ : (p : PlaneModel) (list : List AngleAt) (old : List (Option ℕ)) (i e : ℕ) (none : AngleAt) → i < length list → e < darts p →
    Names p e (get_or list i none).from (get_or list i none).to → HoldsOther e (get_or list i none).angle old → AreAngles p (take i list) old → AnglesDiffer p list
angles_differ p list old i e none lt e_in named holds before =
    let asked = get_or list i none in
    record {
      dart = e;
      inside = e_in;
      one = holds.held;
      other = asked.angle;
      asks_one = any_whole (λ (a : AngleAt). AsksForAngle p a e holds.held) list i ((before.each e e_in holds.held).0 holds.is_held);
      asks_other = any_whole (λ (a : AngleAt). AsksForAngle p a e asked.angle) list (i + 1) ((any_more (λ (a : AngleAt). AsksForAngle p a e asked.angle) list i none lt).1 (inr (named, refl)));
      differ = holds.differs;
    }

-- angles that are 1 to 4 where they are asked for are so in the list
pub angles_in_range : (p : PlaneModel) (list : List AngleAt) (found : List (Option ℕ)) → All (λ (asked : AngleAt). (1 ≤ asked.angle) × (asked.angle ≤ 4)) list → AreAngles p list found → All IsAngle found
angles_in_range p list found range are = λ d other lt.
    subst IsAngle (get_or_default found d None other lt)
    (in_range (get_or found d None)
    (λ k is.
    let (asked, bounds, asks) = any_all (λ (a : AngleAt). (1 ≤ a.angle) × (a.angle ≤ 4)) (λ (a : AngleAt). AsksForAngle p a d k) list range ((are.each d (omega (arith, are.size)) k).0 is) in
    subst (λ (n : ℕ). (1 ≤ n) × (n ≤ 4)) asks.1 bounds))
  where
    in_range : (g : Option ℕ) → ((k : ℕ) → g ≡ Some k → (1 ≤ k) × (k ≤ 4)) → IsAngle g
    in_range None bounds = tt
    in_range (Some k) bounds = bounds k refl
