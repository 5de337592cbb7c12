use Rattle.flow_network.proofs.GivenParts.{listed_few}
use Rattle.flow_network.proofs.given_shape.Given.turns_in_list.Goals as goal

pub returns-then-place-self-clause-few : goal.returns-then-place-self-clause-few
returns-then-place-self-clause-few c = listed_few c.self.inside.turns.now c.self.invariant.few c.from-place.result
