use Rattle.std.proofs.Common.{◌≡◌, ◌≤◌, Some, [], ◌∷◌}
use Rattle.wasm_syntax.specs.declared.types.Value.TheVariants.{I32}
use Rattle.wasm_syntax.specs.ReductionRuns.{enough, run_hosted}
use Rattle.wasm_machine.specs.Machines.{program_at, config_at, begun}
use Rattle.wasm_machine.specs.declared.machine.Mode.TheVariants as mode
use Rattle.abi_types.specs.GuestAt.{closed_host, invoked_at}
use Rattle.vm_host.specs.Seeing.{guest_at}
use Rattle.wasm_syntax.specs.ReductionLaws.{StandsOn}
use Rattle.vm_host.proofs.Closing.{Going}
use Rattle.vm_host.proofs.machine_guest.MachineGuestGuest.allocate.Given as goal

abbrev pub invariant-loop-import : goal.invariant-loop-import
invariant-loop-import l = record {
  which : l.fn.self.allocator ≡ Some l.f;
  allocator : l.self.allocator ≡ l.fn.self.allocator;
  closed : l.self.closed ≡ l.fn.self.closed;
  mode : l.self.machine.mode ≡ mode.Running;
  program : program_at l.self.machine ≡ program_at l.fn.self.machine;
  pending : l.self.machine.pending ≡ begun l.f l.fn.self.machine.pending;
  stands : StandsOn (config_at l.fn.self.machine).calls (config_at l.self.machine);
  less : l.self.fuel ≤ l.fn.self.fuel;
  run : Going (closed_host l.fn.self.closed) (program_at l.fn.self.machine)
      (run_hosted (closed_host l.fn.self.closed) (program_at l.fn.self.machine) l.fn.self.fuel tt (invoked_at l.f (I32 l.len ∷ []) (guest_at l.fn.self)))
      l.self.fuel tt (config_at l.self.machine);
}

abbrev pub decreases-loop-import : goal.decreases-loop-import
decreases-loop-import l = enough l.self.fuel (config_at l.self.machine)
