use Rattle.std.proofs.Common.{◌≡◌, ◌<◌, ℕ, ℤ, List, length, arith, inl, inr, ap, ◌∙◌}
use Rattle.std.specs.Prelude.{pos}
use Rattle.std.specs.Vec.{with_items}
use Rattle.std.proofs.lemmas.Bool.{cases_lt}
use Rattle.std.proofs.lemmas.List.{with_items_is, get_or_past}
use Rattle.min_cost_flow.specs.Networks.{supply_at}
use Rattle.min_cost_flow.specs.Flow.{at_nodes}
use Rattle.min_cost_flow.proofs.Rounds.{first_round, first_work}
use Rattle.min_cost_flow.proofs.solver.Solver.initialise.Goals as goal

flat_all : (ps : List ℤ) → ((v : ℕ) → v < length ps → at_nodes ps v ≡ pos 0) → (v : ℕ) → at_nodes ps v ≡ pos 0
flat_all ps h v = elim (cases_lt v (length ps)) [ inl b ↦ h v b | inr o ↦ get_or_past ps v (pos 0) o ]

pub returns : goal.returns
returns c =
    let net = c.args.network.now in
    let l = c.args.self.now in
    let z = c.requires in
    let ps = c.write_all.new.numbers in
    let es = c.copy_from_slice.new.self in
    let pot_is : (with_items l.nodes.potential ps).items ≡ ps = with_items_is l.nodes.potential ps (omega arith) in
    let full : (v : ℕ) → at_nodes es.items v ≡ supply_at net v = λ v. ap (λ (xs : List ℤ). at_nodes xs v) (c.copy_from_slice.ensures.items ∙ c.supplies.ensures.supplies) in
    record {
      ready = record {
        network = z.network;
        residual = c.build.ensures.arcs_built;
        potentials = rw pot_is (omega (arith, z.potentials));
        excesses = ap (length {A = ℤ}) (c.copy_from_slice.ensures.items ∙ c.supplies.ensures.supplies);
        labels = z.labels;
        round = rw pot_is (first_round _ _ _ _ z.network c.build.ensures.none (flat_all ps c.write_all.ensures) full);
        unlabelled = z.unlabelled;
      };
      work = first_work _ _ _ c.build.ensures.none full;
    }
