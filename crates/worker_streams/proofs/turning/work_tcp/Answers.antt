use Rattle.worker_callbacks.proofs.Quietly.{quiet_ends}
use Rattle.worker_streams.proofs.turning.work_tcp.Goals as goal

pub returns-in-Enter-clause-run : goal.returns-in-Enter-clause-run
returns-in-Enter-clause-run g c =
    rw c.in-Enter.is (quiet_ends g.S.Shared.performs _ (g.met.S.Shared.nothing c.args.shared.now) _ _ _ c.enter.result c.enter.ensures)

pub returns-in-Close-clause-run : goal.returns-in-Close-clause-run
returns-in-Close-clause-run g c =
    rw c.in-Close.is (quiet_ends g.S.Shared.performs _ (g.met.S.Shared.nothing c.args.shared.now) _ _ _ c.close_down.result c.close_down.ensures)
