use Rattle.serde_json.specs.View.{view}
use Rattle.checking.proofs.Wrong.{wrong_list_at}
use Rattle.checking.proofs.Parts.{weaker}
use Rattle.checking.proofs.Prices.{list_named}
use Rattle.checking.proofs.claims.prices_at.Goals as goal

pub returns-in-Some-clause-none : goal.returns-in-Some-clause-none
returns-in-Some-clause-none c = weaker c.price_list.result
    (λ fault none memory prices short has. none memory prices short
    (list_named c.args.name.now (view c.args.value.now) (view c.in-Some.list.now) prices c.in-Some.ensures has))
    c.price_list.ensures.none

pub returns-in-Some-clause-fault : goal.returns-in-Some-clause-fault
returns-in-Some-clause-fault c = weaker c.price_list.result
    (λ fault wrong memory. wrong_list_at c.args.name.now (view c.args.value.now) (view c.in-Some.list.now) fault c.in-Some.ensures (wrong memory))
    c.price_list.ensures.fault
