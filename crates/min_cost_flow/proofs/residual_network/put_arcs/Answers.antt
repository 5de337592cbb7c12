use mir.Syntax.{w16}
use mir.Val.{of_z, to_z}
use Rattle.std.proofs.lemmas.Int.{ints}
use Rattle.min_cost_flow.specs.declared.network.TheConstants.{MAX_ARCS}
use Rattle.min_cost_flow.specs.declared.residual_network.TheConstants.{SATURATED}
use Rattle.std.specs.Prelude.{ℤ, pos, ◌+ℤ◌, ◌-ℤ◌}
use Rattle.std.proofs.Common.{rules, cond, eqb, ap, ◌∙◌, ◌^◌, ◌≡◌, ◌<◌, ◌≤◌, ◌+◌, ◌*◌, ℕ, length, set, slice_index_or, sym, subst, inl, inr, arith, true, false}
use Rattle.std.proofs.lemmas.Bool.{cases_eq}
use Rattle.min_cost_flow.specs.declared.network.Arc.{Arc}
use Rattle.min_cost_flow.specs.Networks.{arc_count, arc_at, no_arc}
use Rattle.min_cost_flow.specs.ResidualArcs.{numbers, units_of, IsLatest}
use Rattle.min_cost_flow.proofs.Ends.{arc_read, arcs_kept}
use Rattle.min_cost_flow.proofs.Links.{pushed_first}
use Rattle.min_cost_flow.proofs.Building.{starting, starting_is, IsBuilt, AreWritten, written_here, written_before, all_linked}
use Rattle.min_cost_flow.proofs.residual_network.put_arcs.Goals as goal

pub loop-i-preserved : goal.loop-i-preserved
loop-i-preserved c =
    let few : c.limit-fits.result < 2 ^ 32 = search rules in
    let net = c.args.network.now in
    let i = c.loop-i.i in
    let arc : Arc = slice_index_or c.arcs-given.result.now i no_arc in
    let kept = arcs_kept net c.arcs-given.result.now c.arcs-given.ensures.kept c.arcs-given.ensures.arcs in
    let read = arc_read net c.arcs-given.result.now kept c.arcs-given.ensures.arcs i (omega arith) in
    let inside : i < arc_count net = read.inside in
    let small : arc_count net ≤ MAX_ARCS = kept.small.1 in
    let x = c.new.result in
    let y = c.new-in-loop-i.result in
    let limit : ℕ = c.limit-fits.result in
    let unit : arc.cost ≤ 1 = read.cost in
    let plain : to_z w16 arc.cost ≡ pos arc.cost = omega (arith, ints) in
    let undone : to_z w16 (of_z w16 (pos 0 -ℤ to_z w16 arc.cost)) ≡ pos 0 -ℤ pos arc.cost = omega (arith, ints) in
    let from_is = starting_is net i false ∙ ap (λ (a : Arc). a.from) (sym read.is) in
    let to_is = starting_is net i true ∙ ap (λ (a : Arc). a.to) (sym read.is) in
    let along = c.push_front-after_along.new.first in
    let back = c.push_front-after_back.new.first in
    let one : (v : ℕ) → v < length c.loop-i.first → IsLatest (starting net) v (2 * i + 1) (numbers along v) =
    pushed_first (starting net) (2 * i) arc.from c.loop-i.first along (omega arith) from_is (omega (arith, read.from)) c.push_front-after_along.ensures.pushed c.loop-i.invariant.first in
    let two : (v : ℕ) → v < length along → IsLatest (starting net) v (2 * i + 1 + 1) (numbers back v) =
    pushed_first (starting net) (2 * i + 1) arc.to along back (omega arith) to_is (omega (arith, read.to)) c.push_front-after_back.ensures.pushed (λ v b. one v (omega arith)) in
    let written : AreWritten net i limit arc x y = record {
      arc_is = read.is;
      limit_is = c.limit-fits.ensures;
      along_end = c.new.ensures.end;
      along_cost = subst (λ (z : ℤ). x.cost ≡ cond (eqb limit 0) (z +ℤ SATURATED) z) plain c.new.ensures.cost;
      along_next = subst (λ (n : ℕ). IsLatest (starting net) arc.from (2 * i) n) (sym (c.new.ensures.next ∙ c.push_front-after_along.ensures.next)) (c.loop-i.invariant.first arc.from (omega (arith, read.from)));
      back_end = c.new-in-loop-i.ensures.end;
      back_cost = c.new-in-loop-i.ensures.cost ∙ ap (λ (z : ℤ). z +ℤ SATURATED) undone;
      back_next = subst (λ (n : ℕ). IsLatest (starting net) arc.to (2 * i + 1) n) (sym (c.new-in-loop-i.ensures.next ∙ c.push_front-after_back.ensures.next)) (one arc.to (omega (arith, read.to)));
    } in
    record {
      first = λ v l. let e : 2 * (i + 1) ≡ 2 * i + 1 + 1 = omega arith in rw e (two v (omega arith));
      built = λ j l. elim (cases_eq j i) [
        | inl q ↦
            let P : ℕ → Type 0 = λ k. IsBuilt net (set (set c.loop-i.arcs (2 * i) x) (2 * i + 1) y) (set (set c.loop-i.capacities (2 * i) limit) (2 * i + 1) 0) k in
            subst P (sym q) (written_here net c.loop-i.arcs c.loop-i.capacities i limit arc x y (omega arith) (omega arith) written)
        | inr ne ↦ written_before net c.loop-i.arcs c.loop-i.capacities i j limit x y (omega arith) (c.loop-i.invariant.built j (omega arith))
      ];
      limits = λ j l. elim (cases_eq j i) [
        | inl q ↦ subst (λ (k : ℕ). units_of (arc_at net k).cap < 2 ^ 32) (sym q) (subst (λ (a : Arc). units_of a.cap < 2 ^ 32) read.is (subst (λ (k : ℕ). k < 2 ^ 32) c.limit-fits.ensures few))
        | inr ne ↦ c.loop-i.invariant.limits j (omega arith)
      ];
    }

pub returns-clause-linked : goal.returns-clause-linked
returns-clause-linked c =
    let net = c.args.network.now in
    let all : c.loop-i.i ≡ arc_count net = omega (arith, ap (length {A = Arc}) c.arcs-given.ensures.arcs) in
    let twice : 2 * c.loop-i.i ≡ arc_count net + arc_count net = omega arith in
    all_linked net c.loop-i.first c.loop-i.arcs c.loop-i.capacities (omega arith) (omega arith)
    (λ v b. subst (λ (n : ℕ). IsLatest (starting net) v n (numbers c.loop-i.first v)) twice (c.loop-i.invariant.first v b))
    (λ j b. c.loop-i.invariant.built j (omega arith))
