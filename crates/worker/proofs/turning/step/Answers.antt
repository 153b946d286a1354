use Rattle.worker_model.specs.Plan.{plan_of}
use Rattle.worker.proofs.Quietly.{quiet_ends, reads_ends}
use Rattle.worker.proofs.turning.step.Goals as goal

pub returns-in-Read-clause-run : goal.returns-in-Read-clause-run
returns-in-Read-clause-run g c =
    rw c.in-Read.is (reads_ends g.S.Shared.performs _ (g.met.S.Shared.nothing c.args.shared.now) (plan_of c.args.rules.now) c.args.host.now c.args.room.now.reading c.args.room.now c.read.new.self c.read.result c.read.ensures)

pub returns-in-Free-clause-run : goal.returns-in-Free-clause-run
returns-in-Free-clause-run g c =
    rw c.in-Free.is (quiet_ends g.S.Shared.performs _ (g.met.S.Shared.nothing c.args.shared.now) _ _ _ c.free.result c.free.ensures)

pub returns-in-End-clause-run : goal.returns-in-End-clause-run
returns-in-End-clause-run g c =
    rw c.in-End.is (quiet_ends g.S.Shared.performs _ (g.met.S.Shared.nothing c.args.shared.now) _ _ _ c.end_at.result c.end_at.ensures)

pub returns-in-Begin-clause-run : goal.returns-in-Begin-clause-run
returns-in-Begin-clause-run g c =
    rw c.in-Begin.is (quiet_ends g.S.Shared.performs _ (g.met.S.Shared.nothing c.args.shared.now) _ _ _ c.begin_first.result c.begin_first.ensures)
