use Rattle.std.proofs.Common.{[], Option, subst}
use Rattle.store_model.specs.Program.{Program, done, Runs}
use Rattle.store_model.specs.Runs.{runs_then}
use Rattle.vm_host.specs.HostStates.{host_state}
use Rattle.vm_host.specs.RoleTypes.{beginner_in}
use Rattle.vm_host.specs.Vms.{VmAt, Ran, ran, begins_then, beginning, running_if}
use Rattle.vm_host.proofs.Running.{begun_part, begun_cut}
use Rattle.vm_host.proofs.vm.Vm.begin.Goals as goal
use Rattle.vm_host.proofs.vm.Vm.begin.Given as given
use Rattle.vm_host.proofs.vm.Vm.begin.Goals.{In-Ok, In-Some}

-- the start function has run
begun : (g : given.Over) (c : In-Ok g) → let h = host_state c.begin_first.new.contexts c.begin_first.new.lines in
    Runs g.S.Shared.performs c.args.shared.now (beginning c.args.self c.args.now (host_state c.args.contexts.now c.args.lines.now)) (begins_then c.args.now c.in-Ok.first.vm (ran c.in-Ok.first.end c.in-Ok.first.vm h)) c.begin_first.new.shared
begun g c =
    begun_part g.S.Shared.performs c.args.self c.args.now 0 [] (host_state c.args.contexts.now c.args.lines.now) c.args.shared.now c.begin_first.new.shared c.args.self.start
    (ran c.in-Ok.first.end c.in-Ok.first.vm (host_state c.begin_first.new.contexts c.begin_first.new.lines)) c.in-Ok.ensures.run

-- and left the VM alive
lives : (g : given.Over) (c : In-Some g) → let h = host_state c.begin_first.new.contexts c.begin_first.new.lines in
    Runs g.S.Shared.performs c.args.shared.now (beginning c.args.self c.args.now (host_state c.args.contexts.now c.args.lines.now)) (begins_then c.args.now c.in-Ok.first.vm (ran c.in-Ok.first.end c.in-Ok.first.vm h)) c.begin_first.new.shared →
    Runs g.S.Shared.performs c.args.shared.now (beginning c.args.self c.args.now (host_state c.args.contexts.now c.args.lines.now)) (running_if c.in-Some.vm c.args.now (beginner_in c.in-Some.vm.functions) [] h) c.begin_first.new.shared
lives g c first =
    let h = host_state c.begin_first.new.contexts c.begin_first.new.lines in
    subst (λ (o : Option VmAt). Runs g.S.Shared.performs c.args.shared.now (beginning c.args.self c.args.now (host_state c.args.contexts.now c.args.lines.now)) (begins_then c.args.now o (ran c.in-Ok.first.end o h)) c.begin_first.new.shared)
    c.in-Some.is first

pub returns-in-Ok-begin_further-clause-run : goal.returns-in-Ok-begin_further-clause-run
returns-in-Ok-begin_further-clause-run g c =
    let h = host_state c.begin_first.new.contexts c.begin_first.new.lines in
    let r = c.in-Ok-begin_further.further in
    runs_then g.met.S.Shared.joined (lives g (goal.at.returns-in-Ok-begin_further-clause-run g c).In-Some (begun g (goal.at.returns-in-Ok-begin_further-clause-run g c).In-Ok))
    (subst (λ (v : VmAt). Runs g.S.Shared.performs c.begin_first.new.shared (running_if v c.args.now (beginner_in v.functions) [] h) (done (ran r.end r.vm (host_state c.begin_further.new.contexts c.begin_further.new.lines))) c.begin_further.new.shared)
    c.in-Some.vm-is c.in-Ok-begin_further.ensures.run)

pub returns-in-Err-begin_further-clause-run : goal.returns-in-Err-begin_further-clause-run
returns-in-Err-begin_further-clause-run g c =
    let h = host_state c.begin_first.new.contexts c.begin_first.new.lines in
    let r = subst (λ (v : VmAt). (q : Program Ran) × Runs g.S.Shared.performs c.begin_first.new.shared (running_if v c.args.now (beginner_in v.functions) [] h) q c.begin_further.new.shared) c.in-Some.vm-is c.in-Err-begin_further.ensures.run in
    (r.0, runs_then g.met.S.Shared.joined (lives g (goal.at.returns-in-Err-begin_further-clause-run g c).In-Some (begun g (goal.at.returns-in-Err-begin_further-clause-run g c).In-Ok)) r.1)

pub returns-in-None-clause-run : goal.returns-in-None-clause-run
returns-in-None-clause-run g c =
    let h = host_state c.begin_first.new.contexts c.begin_first.new.lines in
    subst (λ (o : Option VmAt). Runs g.S.Shared.performs c.args.shared.now (beginning c.args.self c.args.now (host_state c.args.contexts.now c.args.lines.now)) (begins_then c.args.now o (ran c.in-Ok.first.end o h)) c.begin_first.new.shared)
    c.in-None.is (begun g (goal.at.returns-in-None-clause-run g c).In-Ok)

pub returns-in-Err-clause-run : goal.returns-in-Err-clause-run
returns-in-Err-clause-run g c =
    begun_cut g.S.Shared.performs c.args.self c.args.now 0 [] (host_state c.args.contexts.now c.args.lines.now) c.args.shared.now c.begin_first.new.shared c.args.self.start c.in-Err.ensures.run
