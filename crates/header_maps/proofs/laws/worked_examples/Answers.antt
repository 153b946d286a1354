use Rattle.header_maps.proofs.Examples.{operation_examples, fault_examples, status_examples, set_examples, kept_examples, place_examples}
use Rattle.header_maps.proofs.laws.worked_examples.Goals as goal

pub returns : goal.returns
returns c = record { operations = operation_examples; faults = fault_examples; statuses = status_examples; sets = set_examples; kept = kept_examples; places = place_examples }
