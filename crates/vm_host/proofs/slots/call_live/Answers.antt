use Rattle.std.proofs.Common.{List, [], Option, sym, ap, subst}
use Rattle.gate_io.specs.declared.event.Sent.{Sent}
use Rattle.filter_host.specs.declared.host.CallbackEnd.{CallbackEnd}
use Rattle.store_model.specs.Program.{Program, done, Runs}
use Rattle.store_model.specs.Runs.{runs_as}
use Rattle.vm_host.specs.declared.roles.Role.{Role}
use Rattle.vm_host.specs.HostStates.{host_state}
use Rattle.vm_host.specs.Vms.{Ran, ran}
use Rattle.vm_host.specs.Slots.{came, by_role}
use Rattle.vm_host.proofs.Calling.{live_part, live_cut}
use Rattle.vm_host.proofs.slots.call_live.Goals as goal

pub returns-in-Ok-clause-run : goal.returns-in-Ok-clause-run
returns-in-Ok-clause-run g c =
    let n = c.args.numbers in
    let h = c.args.contexts.now in
    let end = done (ran c.in-Ok.ran.end c.in-Ok.ran.vm (host_state c.run_role.new.contexts c.run_role.new.lines)) in
    let run = subst (λ (o : Option Role). Runs g.S.Shared.performs c.args.shared.now (by_role o c.args.vm c.args.now n.context n.first n.second (host_state h [])) end c.run_role.new.shared) c.role.ensures
    (subst (λ (ls : List Sent). Runs g.S.Shared.performs c.args.shared.now (by_role c.role.result c.args.vm c.args.now n.context n.first n.second (host_state h ls)) end c.run_role.new.shared) c.new-lines.ensures c.in-Ok.ensures.run) in
    runs_as (live_part g.S.Shared.performs c.args.name n.context n.first n.second c.args.now h c.args.shared.now c.run_role.new.shared c.args.vm (ran c.in-Ok.ran.end c.in-Ok.ran.vm (host_state c.run_role.new.contexts c.run_role.new.lines)) run)
    (ap (λ (e : CallbackEnd). done (came e c.run_role.new.lines c.in-Ok.ran.vm c.run_role.new.contexts)) (sym c.told.ensures))

pub returns-in-Err-clause-run : goal.returns-in-Err-clause-run
returns-in-Err-clause-run g c =
    let n = c.args.numbers in
    let h = c.args.contexts.now in
    live_cut g.S.Shared.performs c.args.name n.context n.first n.second c.args.now h c.args.shared.now c.run_role.new.shared c.args.vm
    (subst (λ (o : Option Role). (q : Program Ran) × Runs g.S.Shared.performs c.args.shared.now (by_role o c.args.vm c.args.now n.context n.first n.second (host_state h [])) q c.run_role.new.shared) c.role.ensures
    (subst (λ (ls : List Sent). (q : Program Ran) × Runs g.S.Shared.performs c.args.shared.now (by_role c.role.result c.args.vm c.args.now n.context n.first n.second (host_state h ls)) q c.run_role.new.shared) c.new-lines.ensures c.in-Err.ensures.run))
