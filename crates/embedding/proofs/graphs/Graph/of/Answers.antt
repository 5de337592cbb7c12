use Rattle.std.proofs.Common.{rules, ◌≡◌, arith, subst, sym, ℕ}
use Rattle.embedding.specs.Darts.{dart_count, first_dart}
use Rattle.embedding.specs.Rules.{KeepsBefore}
use Rattle.embedding.specs.Walk.{AreRotations, HasFaceTable}
use Rattle.embedding.proofs.Building.{first_dart-all, heads_found}
use Rattle.embedding.proofs.Faced.{tied}
use Rattle.embedding.proofs.KeptFacts.{kept_as, sizes}
use Rattle.embedding.proofs.Parts.{kept_whole}
use Rattle.embedding.proofs.graphs.Graph.of.Goals as goal

pub add_faces-requires-clause-tied : goal.add_faces-requires-clause-tied
add_faces-requires-clause-tied c =
    let kept : KeepsBefore c.args.lists.now 8 = search rules in
    let table = c.make_rotation.new.table.items in
    subst (λ (n : ℕ). AreRotations n table) (sym c.darts-darts.ensures.count) (tied c.args.lists.now kept table c.in_ok-make_rotation.ensures)

pub add_faces-requires-clause-few : goal.add_faces-requires-clause-few
add_faces-requires-clause-few c =
    let kept : KeepsBefore c.args.lists.now 8 = search rules in
    omega (arith, c.darts-darts.ensures.count, (sizes c.args.lists.now kept c.requires).few)

pub invariant_of-result : goal.invariant_of-result
invariant_of-result c =
    let kept : KeepsBefore c.args.lists.now 8 = search rules in
    let g = c.args.lists.now in
    let all : first_dart g c.loop-place.place ≡ dart_count g =
    first_dart-all g c.loop-place.place (omega (arith, c.loop-place-test.false, c.count-place-end.ensures.count)) in
    let faced = subst (λ (n : ℕ). HasFaceTable n c.make_rotation.new.table.items c.in_ok-faces.faces c.add_faces.new.table.items) c.darts-darts.ensures.count c.in_ok-faces.ensures in
    let (starts, table, is) = c.in_ok-add_starts.ensures in
    let whole = kept_whole g _ _ _ starts _ _ kept c.requires (heads_found g _ _ all c.loop-place.invariant.heads) c.in_ok-make_rotation.ensures faced table is in
    kept_as _ _ (sym whole.0) whole.1

pub returns-clause-lists : goal.returns-clause-lists
returns-clause-lists c =
    let kept : KeepsBefore c.args.lists.now 8 = search rules in
    let g = c.args.lists.now in
    let all : first_dart g c.loop-place.place ≡ dart_count g =
    first_dart-all g c.loop-place.place (omega (arith, c.loop-place-test.false, c.count-place-end.ensures.count)) in
    let faced = subst (λ (n : ℕ). HasFaceTable n c.make_rotation.new.table.items c.in_ok-faces.faces c.add_faces.new.table.items) c.darts-darts.ensures.count c.in_ok-faces.ensures in
    let (starts, table, is) = c.in_ok-add_starts.ensures in
    (kept_whole g _ _ _ starts _ _ kept c.requires (heads_found g _ _ all c.loop-place.invariant.heads) c.in_ok-make_rotation.ensures faced table is).0
