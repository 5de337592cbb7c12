use Rattle.run_laws.proofs.OneRegion.{joined_face, same_face}
use Rattle.run_laws.proofs.laws.regions_are_connected.Goals as goal

pub returns : goal.returns
returns c = record {
  face = joined_face;
  joined = λ p shape points r plane is whole draws map i j k l same s undivided.
      same_face p points plane draws.axes draws.apart whole.vertex_count s undivided shape draws.turns is.rep r map i j k l same;
}
