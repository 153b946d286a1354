-- The law of what goes up, of the machines that the product has.
use Rattle.std.proofs.Common.{List}
use Rattle.store_model.specs.Made.{Made}
use Rattle.vm_host.specs.Slots as slots
use Rattle.vm_host.specs.declared.slots.Vms.{Vms}
use Rattle.law_lines.specs.Laws.{RequestsOfTheProductGoUp}
use Rattle.law_lines.proofs.Machines.{machines_write_logs}
use Rattle.law_lines.proofs.Wholly.{workers_go_up}

pub requests_of_the_product_go_up : (S : Type 0) (performs : S → List Made → S → Type 0) → RequestsOfTheProductGoUp S performs
requests_of_the_product_go_up S performs config who seed host sent to n http low worked =
    workers_go_up Vms S performs slots.calling slots.exported_in slots.registering_in config who seed host sent to n http low machines_write_logs worked
