use Rattle.exchange.proofs.Examples.{too_much_examples, no_stage_examples, no_body_examples, trailer_examples}
use Rattle.exchange.proofs.laws.worked_exchanges.Goals as goal

pub returns-clause-too_much : goal.returns-clause-too_much
returns-clause-too_much c = too_much_examples

pub returns-clause-no_stage : goal.returns-clause-no_stage
returns-clause-no_stage c = no_stage_examples

pub returns-clause-no_body : goal.returns-clause-no_body
returns-clause-no_body c = no_body_examples

pub returns-clause-trailers : goal.returns-clause-trailers
returns-clause-trailers c = trailer_examples
