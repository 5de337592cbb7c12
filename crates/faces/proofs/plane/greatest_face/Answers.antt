use Rattle.std.proofs.Common.{◌≡◌, ℕ, subst, arith}
use Rattle.embedding.specs.Darts.{dart_count}
use Rattle.embedding.proofs.Rotation.{darts_some}
use Rattle.faces.specs.Greatest.{IsFirstGreatest}
use Rattle.faces.proofs.Greatest.{best_first}
use Rattle.faces.proofs.plane.greatest_face.Goals as goal

pub face_degree-most-requires : goal.face_degree-most-requires
face_degree-most-requires c = λ other f h. omega (arith, h.named 0 (darts_some c.args.graph.now c.requires))

pub loop-face-init : goal.loop-face-init
loop-face-init c = λ face f h. best_first _ face _ (c.face_degree-most.ensures face f h)

pub returns : goal.returns
returns c =
    λ face f h.
    let all : c.loop-face.face ≡ f = omega (arith, h.named 0 (darts_some c.args.graph.now c.requires), c.face_count-face-end.ensures.value face f h, c.loop-face-test.false) in
    subst (λ (e : ℕ). IsFirstGreatest (dart_count c.args.graph.now) face e c.loop-face.best) all (c.loop-face.invariant face f h).greatest
