use Rattle.std.proofs.Common.{subst}
use Rattle.faces.specs.Planes.{PlaneModel}
use Rattle.ortho_rep.specs.Best.{NeedsBends}
use Rattle.ortho_rep.proofs.Tries.{incumbent_moving, tried_moving, no_better}
use Rattle.ortho_rep.proofs.best.visit.Goals as goal

pub returns-else-loses_to-clause-incumbent : goal.returns-else-loses_to-clause-incumbent
returns-else-loses_to-clause-incumbent c = incumbent_moving c.args.plane.now c.set_outer.new.self c.args.face c.args.incumbent.now c.set_outer.ensures c.requires.incumbent

pub returns-else-loses_to-clause-tried : goal.returns-else-loses_to-clause-tried
returns-else-loses_to-clause-tried c =
    let plane = c.args.plane.now in
    let incumbent = c.args.incumbent.now in
    let bends = c.bends_and_bounds-bends.result in
    let needs = subst (λ (m : PlaneModel). NeedsBends m bends) c.set_outer.ensures c.bends_and_bounds-bends.ensures.needs in
    let test = c.loses_to-2.ensures in
    let no = c.if-loses_to.false in
    tried_moving plane c.set_outer.new.self c.args.face incumbent.bends incumbent.face c.args.face c.set_outer.ensures (no_better plane incumbent.bends incumbent.face bends c.args.face needs (test.no no) (test.last no))
