use Rattle.law_turns.proofs.Starts.{one_vm_example, two_vms_example, refused_example, start_ticks_example}
use Rattle.law_turns.proofs.laws.worked_starts.Goals as goal

pub returns : goal.returns
returns c = record {
  one_vm = one_vm_example;
  two_vms = two_vms_example;
  refused = refused_example;
  ticks = start_ticks_example;
}
