use Rattle.std.proofs.Common.{◌≡◌, List, map, None, Some, refl, sym, ap, ◌∙◌, subst, arith}
use Rattle.std.specs.Prelude.{drop}
use Rattle.wasm_syntax.specs.Reduction.{Program}
use Rattle.wasm_syntax.specs.ReductionRuns.{has_finished, has_asked, has_trapped, has_spent}
use Rattle.wasm_machine.specs.Machines.{program_at, config_at, asking}
use Rattle.wasm_machine.specs.declared.machine.Pending.{Pending}
use Rattle.abi_types.specs.GuestAt.{GuestAt}
use Rattle.vm_host.specs.Seeing.{guest_at, guest_of, waiting_of, IsAllocator}
use Rattle.vm_host.specs.HostStates.{host_state}
use Rattle.vm_host.specs.Calling.{calling_back, asked_at, call_trapped, call_spent, returned}
use Rattle.store_model.specs.Program.{done, Runs}
use Rattle.vm_host.proofs.Allocating.{moved_fit, no_more}
use Rattle.vm_host.proofs.Serving.{serving_stop, serving_on, serving_end, serving_cut, seen_asking, same_pending, lower_by}
use Rattle.vm_host.proofs.calls.run.Goals as goal
use Rattle.vm_host.proofs.calls.run.Given as given
use Rattle.vm_host.proofs.calls.run.Goals.{In-HostCall}

-- the guest that a call is given
module _ (g : given.Over) (c : In-HostCall g) where
  abbrev at : GuestAt
  at = guest_of c.run.new.self c.loop-import.guest.allocator c.loop-import.guest.closed c.run.new.fuel

  at_is : at ≡ asked_at c.in-HostCall.import (config_at c.run.new.self) c.run.new.fuel (guest_at c.loop-import.guest)
  at_is = λ j. record {
    program = c.in-HostCall.ensures.program j;
    allocator = c.loop-import.guest.allocator;
    closed = c.loop-import.guest.closed;
    config = config_at c.run.new.self;
    waiting = (ap (map waiting_of) c.in-HostCall.ensures.pending ∙ seen_asking (Some c.in-HostCall.import) c.loop-import.guest.machine.pending) j;
    fuel = c.run.new.fuel;
  }

pub loop-import-smaller : goal.loop-import-smaller
loop-import-smaller g c =
    let low = lower_by c.call.new.guest.fuel c.run.new.fuel (config_at c.call.new.guest.machine) (config_at c.run.new.self) c.in-Answered.ensures.keeps.fuel c.in-Answered.ensures.still.calls in
    let same = no_more c.in-Answered.value c.call.new.guest.fuel (config_at c.call.new.guest.machine) (config_at c.resume.new.self) c.resume.ensures.config in
    omega (arith, low, same, c.in-HostCall.ensures.lower)

pub loop-import-preserved : goal.loop-import-preserved
loop-import-preserved g c =
    let i = c.loop-import.invariant in
    let e = c.in-Answered.ensures in
    let d = config_at c.run.new.self in
    let x = c.in-HostCall.import in
    let later = guest_at c.call.new.guest in
    let is = c.in-HostCall.ensures.run ∙ ap (λ a. has_asked x a d c.run.new.fuel) (sym c.as_slice.ensures) in
    let pending = same_pending c.call.new.guest.machine.pending c.run.new.self.pending e.still.waiting ∙ c.in-HostCall.ensures.pending ∙ ap (asking (Some x)) i.pending in
    record {
      mode = c.resume.ensures.mode;
      fit = record {
        closed = moved_fit (program_at c.call.new.guest.machine) (program_at c.resume.new.self) c.call.new.guest.closed c.call.new.guest.closed c.resume.ensures.program refl e.still.still.fit.closed;
        allocator = subst (λ (p : Program). IsAllocator p c.call.new.guest.allocator) (sym c.resume.ensures.program) e.still.still.fit.allocator;
      };
      pending = c.resume.ensures.pending ∙ ap (asking None) pending;
      program = c.resume.ensures.program ∙ e.keeps.program ∙ c.in-HostCall.ensures.program ∙ i.program;
      allocator = e.keeps.allocator ∙ i.allocator;
      closed = e.keeps.closed ∙ i.closed;
      vms = c.in-Answered.ensures.vms ∙ i.vms;
      stores = c.call.ensures.stores ∙ i.stores;
      run = serving_on g.S.Shared.performs (g.C.Calls.does c.args.calls.now c.args.now) g.met.S.Shared.joined _ _ (guest_at c.loop-import.guest) (host_state c.loop-import.contexts c.loop-import.lines) c.loop-import.shared i.run x c.run.new.fuel c.as_slice.result.now d is c.in-HostCall.ensures.lower
          (at g (goal.at.loop-import-preserved g c).In-HostCall) (at_is g (goal.at.loop-import-preserved g c).In-HostCall) c.in-Answered.value later (host_state c.call.new.contexts c.call.new.lines) c.call.new.shared e.ends
          (lower_by c.call.new.guest.fuel c.run.new.fuel (config_at c.call.new.guest.machine) d e.keeps.fuel e.still.calls)
          (guest_of c.resume.new.self c.call.new.guest.allocator c.call.new.guest.closed c.call.new.guest.fuel)
          (λ j. record { program = c.resume.ensures.program j; allocator = later.allocator; closed = later.closed; config = c.resume.ensures.config j; waiting = (ap (map waiting_of) c.resume.ensures.pending ∙ seen_asking None c.call.new.guest.machine.pending) j; fuel = later.fuel })
          (no_more c.in-Answered.value c.call.new.guest.fuel (config_at c.call.new.guest.machine) (config_at c.resume.new.self) c.resume.ensures.config);
    }

pub returns-in-Trapped-clause-run : goal.returns-in-Trapped-clause-run
returns-in-Trapped-clause-run g c =
    let is = c.in-HostCall.ensures.run ∙ ap (λ a. has_asked c.in-HostCall.import a (config_at c.run.new.self) c.run.new.fuel) (sym c.as_slice.ensures) in
    serving_end g.S.Shared.performs (g.C.Calls.does c.args.calls.now c.args.now) g.met.S.Shared.joined _ _ (guest_at c.loop-import.guest) (host_state c.loop-import.contexts c.loop-import.lines) c.loop-import.shared c.loop-import.invariant.run c.in-HostCall.import c.run.new.fuel c.as_slice.result.now (config_at c.run.new.self) is
    (at g (goal.at.returns-in-Trapped-clause-run g c).In-HostCall) (at_is g (goal.at.returns-in-Trapped-clause-run g c).In-HostCall) (call_trapped c.in-Trapped.cause c.call.new.guest.fuel (host_state c.call.new.contexts c.call.new.lines)) c.call.new.shared c.in-Trapped.ensures.ends

pub returns-in-FuelSpent-call-clause-run : goal.returns-in-FuelSpent-call-clause-run
returns-in-FuelSpent-call-clause-run g c =
    let is = c.in-HostCall.ensures.run ∙ ap (λ a. has_asked c.in-HostCall.import a (config_at c.run.new.self) c.run.new.fuel) (sym c.as_slice.ensures) in
    serving_end g.S.Shared.performs (g.C.Calls.does c.args.calls.now c.args.now) g.met.S.Shared.joined _ _ (guest_at c.loop-import.guest) (host_state c.loop-import.contexts c.loop-import.lines) c.loop-import.shared c.loop-import.invariant.run c.in-HostCall.import c.run.new.fuel c.as_slice.result.now (config_at c.run.new.self) is
    (at g (goal.at.returns-in-FuelSpent-call-clause-run g c).In-HostCall) (at_is g (goal.at.returns-in-FuelSpent-call-clause-run g c).In-HostCall) (call_spent c.call.new.guest.fuel (host_state c.call.new.contexts c.call.new.lines)) c.call.new.shared c.in-FuelSpent-call.ensures.ends

pub returns-in-OutOfMemory-clause-run : goal.returns-in-OutOfMemory-clause-run
returns-in-OutOfMemory-clause-run g c =
    let is = c.in-HostCall.ensures.run ∙ ap (λ a. has_asked c.in-HostCall.import a (config_at c.run.new.self) c.run.new.fuel) (sym c.as_slice.ensures) in
    serving_cut g.S.Shared.performs (g.C.Calls.does c.args.calls.now c.args.now) g.met.S.Shared.joined _ _ (guest_at c.loop-import.guest) (host_state c.loop-import.contexts c.loop-import.lines) c.loop-import.shared c.loop-import.invariant.run c.in-HostCall.import c.run.new.fuel c.as_slice.result.now (config_at c.run.new.self) is
    (at g (goal.at.returns-in-OutOfMemory-clause-run g c).In-HostCall) (at_is g (goal.at.returns-in-OutOfMemory-clause-run g c).In-HostCall) c.call.new.shared c.in-OutOfMemory.ensures.ends

pub returns-in-Finished-clause-run : goal.returns-in-Finished-clause-run
returns-in-Finished-clause-run g c =
    let i = c.loop-import.invariant in
    let d = config_at c.run.new.self in
    let stop = serving_stop g.S.Shared.performs (g.C.Calls.does c.args.calls.now c.args.now) _ _ (guest_at c.loop-import.guest) (host_state c.loop-import.contexts c.loop-import.lines) c.loop-import.shared i.run (has_finished c.in-Finished.result d c.run.new.fuel) c.in-Finished.ensures.run in
    let pending = c.in-Finished.ensures.pending ∙ ap (drop 1) i.pending in
    let was : map waiting_of c.run.new.self.pending ≡ drop 1 (map waiting_of c.loop-import.guest.machine.pending) = ap (map waiting_of) pending ∙ sym (ap (λ (ps : List Pending). drop 1 (map waiting_of ps)) i.pending) in
    subst (λ (y : GuestAt). Runs g.S.Shared.performs c.args.shared.now (calling_back (g.C.Calls.does c.args.calls.now c.args.now) c.args.func c.args.args.now (guest_at c.args.guest.now) (host_state c.args.contexts.now c.args.lines.now)) (done (returned c.in-Finished.result y (host_state c.loop-import.contexts c.loop-import.lines))) c.loop-import.shared)
    (λ j. record { program = sym c.in-Finished.ensures.program j; allocator = c.loop-import.guest.allocator; closed = c.loop-import.guest.closed; config = d; waiting = sym was j; fuel = c.run.new.fuel })
    stop

pub returns-in-Trap-clause-run : goal.returns-in-Trap-clause-run
returns-in-Trap-clause-run g c =
    serving_stop g.S.Shared.performs (g.C.Calls.does c.args.calls.now c.args.now) _ _ (guest_at c.loop-import.guest) (host_state c.loop-import.contexts c.loop-import.lines) c.loop-import.shared c.loop-import.invariant.run (has_trapped c.in-Trap.cause c.run.new.fuel) c.in-Trap.ensures.run

pub returns-in-FuelSpent-clause-run : goal.returns-in-FuelSpent-clause-run
returns-in-FuelSpent-clause-run g c =
    serving_stop g.S.Shared.performs (g.C.Calls.does c.args.calls.now c.args.now) _ _ (guest_at c.loop-import.guest) (host_state c.loop-import.contexts c.loop-import.lines) c.loop-import.shared c.loop-import.invariant.run (has_spent c.run.new.fuel) c.in-FuelSpent.ensures.run
