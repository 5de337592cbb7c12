use Rattle.std.proofs.Common.{◌≡◌, Ok, inl, rules, subst}
use Rattle.planar_code.specs.Stream.{lists_of}
use Rattle.answers.specs.Steps.{IsLeastPlane, IsShaped}
use Rattle.collector.proofs.find_facts.facts_found.Goals as goal

pub returns-in-Ok : goal.returns-in-Ok
returns-in-Ok c = λ choice shaped.
    let found = c.in-Ok.shaped_plane in
    let is : c.args.shaped_plane.now ≡ Ok found = search rules in
    let known : IsLeastPlane choice (lists_of c.args.rec.now) found = subst (IsShaped choice (lists_of c.args.rec.now)) is shaped in
    inl (record {
      plane = found.plane;
      shape = found.shape;
      lists = known.lists;
      rules = known.rules;
      chosen = known.chosen;
      shape_is = found.shape_is;
      least = known.least;
      same = c.of_shape.ensures;
    })
