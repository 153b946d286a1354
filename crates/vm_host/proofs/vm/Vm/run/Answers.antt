use Rattle.std.proofs.Common.{ℕ, Option, None, Some, subst}
use Rattle.std.proofs.lemmas.Result.{IfOk-weaker}
use Rattle.store_model.specs.Program.{Program, done, Ends, Runs}
use Rattle.vm_host.specs.declared.ended.LastRunEnd.TheVariants as ended
use Rattle.vm_host.specs.Seeing.{guest_at}
use Rattle.vm_host.specs.HostStates.{host_state}
use Rattle.vm_host.specs.Calling.{returned}
use Rattle.vm_host.specs.Vms.{VmAt, Ran, ran, running}
use Rattle.vm_host.specs.declared.vm.Parts.{Parts}
use Rattle.vm_host.proofs.Running.{ran_part, gone_ends}
use Rattle.vm_host.proofs.vm.Vm.run.Goals as goal

-- what clauses see of the parts of a VM
abbrev view : Parts → VmAt
view p = record { guest = guest_at p.guest; calls = p.calls; functions = p.functions; start = p.start; budget = p.budget }

pub returns-clause-run : goal.returns-clause-run
returns-clause-run g c =
    let s = host_state c.args.contexts.now c.args.lines.now in
    let h = host_state c.run-end.new.contexts c.run-end.new.lines in
    let p = c.deref_mut-p.result.now in
    subst (λ (x : VmAt). Runs g.S.Shared.performs c.args.shared.now (running x c.args.now c.args.func c.args.args.now s) (done (ran c.alive.result.end c.alive.result.vm h)) c.run-end.new.shared) c.self.view_is
    (subst (λ (x : Parts). Runs g.S.Shared.performs c.args.shared.now (running (view x) c.args.now c.args.func c.args.args.now s) (done (ran c.alive.result.end c.alive.result.vm h)) c.run-end.new.shared) c.deref_mut-p.ensures.value
    (rw (c.alive.ensures.end, c.alive.ensures.vm) (ran_part g.S.Shared.performs (view p) c.args.now c.args.func c.args.args.now s c.args.shared.now c.run-end.new.shared (returned c.in-Returned.value (guest_at c.run-end.new.guest) h) c.in-Returned.ensures.run)))

pub returns-in_default-clause-run : goal.returns-in_default-clause-run
returns-in_default-clause-run g c =
    let s = host_state c.args.contexts.now c.args.lines.now in
    let h = host_state c.run-end.new.contexts c.run-end.new.lines in
    let p = c.deref_mut-p.result.now in
    subst (λ (x : VmAt). Ends g.S.Shared.performs c.args.shared.now (running x c.args.now c.args.func c.args.args.now s) (λ r. ran r.end r.vm h) c.gone.result c.run-end.new.shared) c.self.view_is
    (subst (λ (x : Parts). Ends g.S.Shared.performs c.args.shared.now (running (view x) c.args.now c.args.func c.args.args.now s) (λ r. ran r.end r.vm h) c.gone.result c.run-end.new.shared) c.deref_mut-p.ensures.value
    (gone_ends g.S.Shared.performs (view p) c.args.now c.args.func c.args.args.now s c.args.shared.now c.run-end.new.shared (λ r. r.end) (λ r. r.vm) c.gone.result c.run-end.result (guest_at c.run-end.new.guest) h c.in_default.not-Returned
    c.gone.ensures.trapped c.gone.ensures.spent c.gone.ensures.memory c.run-end.ensures.run))

pub returns-in_default-clause-kept : goal.returns-in_default-clause-kept
returns-in_default-clause-kept g c = IfOk-weaker c.gone.result _ _ (λ r h. rw h tt) c.gone.ensures.none

pub returns-in_default-clause-vms : goal.returns-in_default-clause-vms
returns-in_default-clause-vms g c = IfOk-weaker c.gone.result _ _ (λ r h. rw h tt) c.gone.ensures.none
