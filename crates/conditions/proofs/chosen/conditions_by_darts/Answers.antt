use Rattle.std.proofs.Common.{◌≡◌, Bool, List, true, subst, sym}
use Rattle.std.proofs.lemmas.Bool.{both_ways}
use Rattle.flow_network.specs.Marks.{is_marked}
use Rattle.flow_network.specs.Given.{CanBeGiven}
use Rattle.conditions.proofs.ByDarts.{listed, given_for, too_many, few_together, can_alike}
use Rattle.conditions.proofs.chosen.conditions_by_darts.Goals as goal

pub returns-then-not-are_angles-clause-fault : goal.returns-then-not-are_angles-clause-fault
returns-then-not-are_angles-clause-fault c = λ _ all. both_ways c.are_angles.result c.if-not-are_angles.true (c.are_angles.ensures.1 all)

pub returns-then-not-are_all_adjacent-clause-fault : goal.returns-then-not-are_all_adjacent-clause-fault
returns-then-not-are_all_adjacent-clause-fault c = λ _. (c.are_angles.ensures.0 c.if-not-are_angles.false, λ all. both_ways c.are_all_adjacent.result c.if-not-are_all_adjacent.true (c.are_all_adjacent.ensures.1 all))

pub returns-then-not-can_be-clause-fault : goal.returns-then-not-can_be-clause-fault
returns-then-not-can_be-clause-fault c = λ _.
    let p = c.args.plane.now in
    let conditions = c.args.conditions.now in
    let angles = c.in_ok-angles.angles.items in
    let turns = c.in_ok-turns.turns.items in
    let are = c.in_ok-angles.ensures.angles in
    let alongs = c.in_ok-turns.ensures.turns in
    let range = c.are_angles.ensures.0 c.if-not-are_angles.false in
    let named = c.are_all_adjacent.ensures.0 c.if-not-are_all_adjacent.false in
    let for_these = given_for p conditions angles turns c.graph-graph.ensures.ends are alongs in
    record {
      angles_are = range;
      darts = named;
      given = listed angles turns;
      given_for = for_these;
      more = too_many p conditions angles turns range are alongs
          (λ can. both_ways c.can_be.result c.if-not-can_be.true
          (c.can_be.ensures.1 (can_alike angles c.deref.result.now turns c.deref-2.result.now (sym c.deref.ensures.value) (sym c.deref-2.ensures.value) can)));
    }

pub returns-in-Some-clause-asked : goal.returns-in-Some-clause-asked
returns-in-Some-clause-asked c =
    let p = c.args.plane.now in
    let conditions = c.args.conditions.now in
    let angles = c.in_ok-angles.angles.items in
    let turns = c.in_ok-turns.turns.items in
    let are = c.in_ok-angles.ensures.angles in
    let alongs = c.in_ok-turns.ensures.turns in
    let range = c.are_angles.ensures.0 c.if-not-are_angles.false in
    let named = c.are_all_adjacent.ensures.0 c.if-not-are_all_adjacent.false in
    let for_these = given_for p conditions angles turns c.graph-graph.ensures.ends are alongs in
    let can : CanBeGiven angles turns = can_alike c.deref.result.now angles c.deref-2.result.now turns c.deref.ensures.value c.deref-2.ensures.value (c.can_be.ensures.0 c.if-not-can_be.false) in
    record {
      angles_are = range;
      darts = named;
      given_for = for_these;
      few = few_together p conditions.turns.now angles turns alongs can;
      inner = c.in_ok-barred.ensures;
    }

pub returns-in-None-clause-fault : goal.returns-in-None-clause-fault
returns-in-None-clause-fault c = λ _.
    let p = c.args.plane.now in
    let conditions = c.args.conditions.now in
    let angles = c.in_ok-angles.angles.items in
    let turns = c.in_ok-turns.turns.items in
    let are = c.in_ok-angles.ensures.angles in
    let alongs = c.in_ok-turns.ensures.turns in
    let range = c.are_angles.ensures.0 c.if-not-are_angles.false in
    let named = c.are_all_adjacent.ensures.0 c.if-not-are_all_adjacent.false in
    let for_these = given_for p conditions angles turns c.graph-graph.ensures.ends are alongs in
    let can : CanBeGiven angles turns = can_alike c.deref.result.now angles c.deref-2.result.now turns c.deref.ensures.value c.deref-2.ensures.value (c.can_be.ensures.0 c.if-not-can_be.false) in
    record {
      angles_are = range;
      darts = named;
      given = listed angles turns;
      given_for = for_these;
      few = few_together p conditions.turns.now angles turns alongs can;
      inside = λ f lt. (c.in_ok-barred.ensures f lt).0 (subst (λ (b : List Bool). is_marked b f ≡ true) c.deref-3.ensures.value (c.in-None.ensures f lt));
    }
