use Rattle.std.proofs.Common.{◌≡◌, length}
use Rattle.wasm_syntax.specs.ReductionRuns.{enough}
use Rattle.wasm_machine.specs.Machines.{program_at, config_at, begun}
use Rattle.wasm_machine.specs.declared.machine.Mode.TheVariants as mode
use Rattle.vm_host.specs.Seeing.{guest_at, IsFit}
use Rattle.vm_host.specs.Calling.{calling_back}
use Rattle.vm_host.specs.HostStates.{host_state}
use Rattle.vm_host.proofs.Serving.{Serving}
use Rattle.vm_host.proofs.calls.run.Given as goal

abbrev pub invariant-loop-import : goal.invariant-loop-import
invariant-loop-import g l = record {
  mode : l.guest.machine.mode ≡ mode.Running;
  fit : IsFit l.guest;
  pending : l.guest.machine.pending ≡ begun l.func l.fn.guest.machine.pending;
  program : program_at l.guest.machine ≡ program_at l.fn.guest.machine;
  allocator : l.guest.allocator ≡ l.fn.guest.allocator;
  closed : l.guest.closed ≡ l.fn.guest.closed;
  vms : length l.contexts.vms ≡ length l.fn.contexts.vms;
  stores : g.S.Shared.stores l.shared ≡ g.S.Shared.stores l.fn.shared;
  run : Serving g.S.Shared.performs (g.C.Calls.does l.calls l.now) l.fn.shared (calling_back (g.C.Calls.does l.calls l.now) l.func l.args (guest_at l.fn.guest) (host_state l.fn.contexts l.fn.lines)) (guest_at l.guest) (host_state l.contexts l.lines) l.shared;
}

abbrev pub decreases-loop-import : goal.decreases-loop-import
decreases-loop-import g l = enough l.guest.fuel (config_at l.guest.machine)
