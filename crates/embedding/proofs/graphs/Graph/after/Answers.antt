use Rattle.std.proofs.Common.{◌≡◌, ℕ, ◌+◌, ◌*◌, get_or, subst, arith}
use Rattle.embedding.specs.Darts.{after_of}
use Rattle.embedding.proofs.KeptFacts.{kept_as, tie_read}
use Rattle.embedding.proofs.Rotation.{after_tail}
use Rattle.embedding.proofs.graphs.Graph.after.Goals as goal

pub returns-clause-inside : goal.returns-clause-inside
returns-clause-inside c =
    let kept = kept_as _ _ c.self.view_is c.self.invariant in
    let at_place : 2 * c.from.result + 1 ≡ 2 * c.args.dart + 1 = omega (arith, c.from.ensures) in
    let at : c.index.result.now ≡ after_of c.args.self.now c.args.dart =
    tie_read _ (2 * c.args.dart + 1) _ _ (omega (arith, kept.size, c.requires)) (kept.afters_are c.args.dart c.requires) (subst (λ (i : ℕ). c.index.result.now ≡ get_or c.self.inside.table.items i c.index.result.now) at_place c.index.ensures) in
    let is = after_tail c.args.self.now c.args.dart c.requires in
    rw at is.0

pub returns-clause-tail : goal.returns-clause-tail
returns-clause-tail c =
    let kept = kept_as _ _ c.self.view_is c.self.invariant in
    let at_place : 2 * c.from.result + 1 ≡ 2 * c.args.dart + 1 = omega (arith, c.from.ensures) in
    let at : c.index.result.now ≡ after_of c.args.self.now c.args.dart =
    tie_read _ (2 * c.args.dart + 1) _ _ (omega (arith, kept.size, c.requires)) (kept.afters_are c.args.dart c.requires) (subst (λ (i : ℕ). c.index.result.now ≡ get_or c.self.inside.table.items i c.index.result.now) at_place c.index.ensures) in
    let is = after_tail c.args.self.now c.args.dart c.requires in
    rw at is.1
