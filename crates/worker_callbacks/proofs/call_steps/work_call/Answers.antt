use Rattle.worker_callbacks.proofs.CallSteps.{reads_call_ends}
use Rattle.worker_callbacks.proofs.Quietly.{quiet_ends}
use Rattle.worker_callbacks.proofs.call_steps.work_call.Goals as goal

pub returns-in-Comes-clause-run : goal.returns-in-Comes-clause-run
returns-in-Comes-clause-run g c =
    rw c.in-Comes.is (quiet_ends g.S.Shared.performs _ (g.met.S.Shared.nothing c.args.shared.now) _ _ _ c.take_call_event.result c.take_call_event.ensures)

pub returns-in-Read-clause-run : goal.returns-in-Read-clause-run
returns-in-Read-clause-run g c =
    rw c.in-Read.is (reads_call_ends g.S.Shared.performs _ (g.met.S.Shared.nothing c.args.shared.now) c.args.host.now c.in-Read.id _ c.args.room.now c.read_call.new.self c.read_call.result c.read_call.ensures)
