use Rattle.std.proofs.Common.{ℕ, ◌*◌, ◌≤◌, rules, arith, subst, sym}
use Rattle.std.proofs.lemmas.Grind.{common_steps}
use Rattle.std.proofs.lemmas.Bool.Decides.{nat_tests}
use Rattle.embedding.specs.declared.genus.TheConstants.{MAX_ROTATION}
use Rattle.embedding.specs.Darts.{dart_count}
use Rattle.embedding.specs.Faces.{HasFaces}
use Rattle.embedding.specs.Walk.{AreRotations, next_in}
use Rattle.embedding.proofs.Euler.{faces_of, genus_told}
use Rattle.embedding.proofs.Faced.{tied}
use Rattle.embedding.proofs.KeptFacts.{sizes}
use Rattle.embedding.proofs.genus.breaks_genus.Goals as goal

pub slice_bounds-room-end : goal.slice_bounds-room-end
slice_bounds-room-end c =
    let few : 2 * c.darts-darts.result ≤ MAX_ROTATION = omega (arith, c.darts-darts.ensures.count, (sizes c.args.lists.now c.requires.rules c.requires.few).few) in
    search rules

pub slice_bounds-rotation-end : goal.slice_bounds-rotation-end
slice_bounds-rotation-end c =
    let few : 2 * c.darts-darts.result ≤ MAX_ROTATION = omega (arith, c.darts-darts.ensures.count, (sizes c.args.lists.now c.requires.rules c.requires.few).few) in
    search rules

pub write_rotation-requires-clause-size : goal.write_rotation-requires-clause-size
write_rotation-requires-clause-size c =
    let few : 2 * c.darts-darts.result ≤ MAX_ROTATION = omega (arith, c.darts-darts.ensures.count, (sizes c.args.lists.now c.requires.rules c.requires.few).few) in
    let count = c.darts-darts.ensures.count in
    grind (arith, common_steps)

pub count_faces-faces-requires-clause-tied : goal.count_faces-faces-requires-clause-tied
count_faces-faces-requires-clause-tied c =
    subst (λ (n : ℕ). AreRotations n c.write_rotation.new.rotation) (sym c.darts-darts.ensures.count) (tied c.args.lists.now c.requires.rules _ c.write_rotation.ensures)

pub count_faces-faces-requires-clause-few : goal.count_faces-faces-requires-clause-few
count_faces-faces-requires-clause-few c =
    omega (arith, c.darts-darts.ensures.count, (sizes c.args.lists.now c.requires.rules c.requires.few).few)

pub returns : goal.returns
returns c =
    let g = c.args.lists.now in
    let rotation = c.write_rotation.new.rotation in
    let faces = c.count_faces-faces.result in
    let (face, numbered) = c.count_faces-faces.ensures.numbered in
    let here : HasFaces (dart_count g) (next_in rotation) face faces =
    subst (λ (n : ℕ). HasFaces n (next_in rotation) face faces) c.darts-darts.ensures.count numbered in
    genus_told g face faces (faces_of g c.requires.rules rotation c.write_rotation.ensures face faces here) _
    (λ differ same. grind (arith, nat_tests)) (λ differ. grind (arith, nat_tests))
