use Rattle.law_host_calls.proofs.Services.{property_examples}
use Rattle.law_host_calls.proofs.laws.worked_property.Goals as goal

pub returns : goal.returns
returns c = property_examples
