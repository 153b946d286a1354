use Rattle.worker_callbacks.proofs.Quietly.{quiet_ends}
use Rattle.worker_streams.proofs.turning.step.Goals as goal

pub returns-in-Free-clause-run : goal.returns-in-Free-clause-run
returns-in-Free-clause-run g c =
    rw c.in-Free.is (quiet_ends g.S.Shared.performs _ (g.met.S.Shared.nothing c.args.shared.now) _ _ _ c.free.result c.free.ensures)

pub returns-in-End-clause-run : goal.returns-in-End-clause-run
returns-in-End-clause-run g c =
    rw c.in-End.is (quiet_ends g.S.Shared.performs _ (g.met.S.Shared.nothing c.args.shared.now) _ _ _ c.end_at.result c.end_at.ensures)

pub returns-in-Begin-clause-run : goal.returns-in-Begin-clause-run
returns-in-Begin-clause-run g c =
    rw c.in-Begin.is (quiet_ends g.S.Shared.performs _ (g.met.S.Shared.nothing c.args.shared.now) _ _ _ c.begin_first.result c.begin_first.ensures)
