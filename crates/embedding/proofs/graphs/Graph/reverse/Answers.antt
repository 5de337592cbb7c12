use Rattle.std.proofs.Common.{◌≡◌, ℕ, ◌*◌, get_or, subst, arith}
use Rattle.embedding.specs.Darts.{reverse_of}
use Rattle.embedding.proofs.KeptFacts.{kept_as, tie_read}
use Rattle.embedding.proofs.Rotation.{reverse_is, reverse_involution}
use Rattle.embedding.proofs.graphs.Graph.reverse.Goals as goal

pub returns-clause-inside : goal.returns-clause-inside
returns-clause-inside c =
    let kept = kept_as _ _ c.self.view_is c.self.invariant in
    let at_place : 2 * c.from.result ≡ 2 * c.args.dart = omega (arith, c.from.ensures) in
    let at : c.index.result.now ≡ reverse_of c.args.self.now c.args.dart =
    tie_read _ (2 * c.args.dart) _ _ (omega (arith, kept.size, c.requires)) (kept.reverses_are c.args.dart c.requires) (subst (λ (i : ℕ). c.index.result.now ≡ get_or c.self.inside.table.items i c.index.result.now) at_place c.index.ensures) in
    let is = reverse_is c.args.self.now kept.rules c.args.dart c.requires in
    rw at is.inside

pub returns-clause-back : goal.returns-clause-back
returns-clause-back c =
    let kept = kept_as _ _ c.self.view_is c.self.invariant in
    let at_place : 2 * c.from.result ≡ 2 * c.args.dart = omega (arith, c.from.ensures) in
    let at : c.index.result.now ≡ reverse_of c.args.self.now c.args.dart =
    tie_read _ (2 * c.args.dart) _ _ (omega (arith, kept.size, c.requires)) (kept.reverses_are c.args.dart c.requires) (subst (λ (i : ℕ). c.index.result.now ≡ get_or c.self.inside.table.items i c.index.result.now) at_place c.index.ensures) in
    let is = reverse_is c.args.self.now kept.rules c.args.dart c.requires in
    rw at ((reverse_involution c.args.self.now kept.rules).back c.args.dart c.requires)

pub returns-clause-tail : goal.returns-clause-tail
returns-clause-tail c =
    let kept = kept_as _ _ c.self.view_is c.self.invariant in
    let at_place : 2 * c.from.result ≡ 2 * c.args.dart = omega (arith, c.from.ensures) in
    let at : c.index.result.now ≡ reverse_of c.args.self.now c.args.dart =
    tie_read _ (2 * c.args.dart) _ _ (omega (arith, kept.size, c.requires)) (kept.reverses_are c.args.dart c.requires) (subst (λ (i : ℕ). c.index.result.now ≡ get_or c.self.inside.table.items i c.index.result.now) at_place c.index.ensures) in
    let is = reverse_is c.args.self.now kept.rules c.args.dart c.requires in
    rw at is.tail

pub returns-clause-head : goal.returns-clause-head
returns-clause-head c =
    let kept = kept_as _ _ c.self.view_is c.self.invariant in
    let at_place : 2 * c.from.result ≡ 2 * c.args.dart = omega (arith, c.from.ensures) in
    let at : c.index.result.now ≡ reverse_of c.args.self.now c.args.dart =
    tie_read _ (2 * c.args.dart) _ _ (omega (arith, kept.size, c.requires)) (kept.reverses_are c.args.dart c.requires) (subst (λ (i : ℕ). c.index.result.now ≡ get_or c.self.inside.table.items i c.index.result.now) at_place c.index.ensures) in
    let is = reverse_is c.args.self.now kept.rules c.args.dart c.requires in
    rw at is.head
