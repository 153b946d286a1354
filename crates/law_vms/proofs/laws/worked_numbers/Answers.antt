use Rattle.law_vms.proofs.Numbers.{number_examples}
use Rattle.law_vms.proofs.laws.worked_numbers.Goals as goal

pub returns : goal.returns
returns c = number_examples
