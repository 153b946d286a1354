use Rattle.std.proofs.Common.{◌≡◌, drop}
use Rattle.worker_model.specs.Making.{with_vms}
use Rattle.worker.proofs.making_worker.add_vms.Given as goal

abbrev pub invariant-loop-v : goal.invariant-loop-v
invariant-loop-v l = with_vms l.h (drop l.v-index l.vms) ≡ with_vms l.fn.h l.vms
