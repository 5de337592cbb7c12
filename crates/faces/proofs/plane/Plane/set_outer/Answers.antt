use Rattle.std.proofs.Common.{ap, ◌∙◌, arith}
use Rattle.faces.specs.Numbering.{Numbering, Numbering-prop}
use Rattle.faces.specs.Planes.{PlaneModel, model_of, with_outer}
use Rattle.faces.proofs.Kept.{turned}
use Rattle.faces.proofs.plane.Plane.set_outer.Goals as goal

pub invariant_of-self : goal.invariant_of-self
invariant_of-self c =
    turned c.self.inside.graph c.self.inside.numbering c.self-1.given.0 c.self.inside.outer c.args.face c.self.invariant (omega (arith, c.requires, ap (λ (m : PlaneModel). m.faces) c.self.view_is))

pub returns : goal.returns
returns c =
    ap (λ (x : Numbering c.self.inside.graph). model_of c.self.inside.graph x.0.0 x.0.1 c.args.face) (Numbering-prop c.self.inside.graph c.self-1.given.0 c.self.inside.numbering) ∙ ap (λ (m : PlaneModel). with_outer m c.args.face) c.self.view_is
