use Rattle.std.proofs.Common.{◌≡◌, ◌∙◌, ℕ, sym, ap, subst, refl, arith}
use Rattle.std.specs.Prelude.{slice_index}
use Rattle.faces.specs.Planes.{face_at, with_outer}
use Rattle.ortho_rep.specs.Best.{NeedsBends}
use Rattle.ortho_rep.proofs.Tries.{ends_turned}
use Rattle.ortho_rep.proofs.FarFaces.{needs_distances}
use Rattle.ortho_rep.proofs.distances.needed.Goals as goal

pub returns : goal.returns
returns c =
    let p = c.args.plane.now in
    let far = c.args.far.now in
    let near = c.args.near.now in
    let outer = face_at p c.args.dart in
    let here : slice_index far outer ≡ 0 = omega (arith, c.if-far-outer-gt0.false, ap (λ (z : ℕ). slice_index far z) (c.from-outer.ensures ∙ c.face_of.ensures.value)) in
    subst (λ (n : ℕ). NeedsBends (with_outer p outer) n) (sym c.bends_by_distances.ensures)
    (needs_distances (with_outer p outer) far near (ends_turned p outer c.graph-graph.ensures.ends) here c.requires.none (c.are_smooth.ensures c.if-not-are_smooth.false) c.requires.nearest)
