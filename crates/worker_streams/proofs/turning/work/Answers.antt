use Rattle.worker_model.specs.Plan.{plan_of}
use Rattle.worker_callbacks.proofs.Quietly.{ends_as}
use Rattle.worker_streams.proofs.Jobs.{works_on}
use Rattle.worker_streams.proofs.turning.work.Goals as goal

pub returns-in_default-clause-run : goal.returns-in_default-clause-run
returns-in_default-clause-run g c =
    ends_as g.S.Shared.performs _ _ _ _ _ _
    (works_on g.H.Host.calling (plan_of c.args.rules.now) c.args.job c.args.host.now c.args.room.now c.in_default.not-Root c.in_default.not-Tick c.in_default.not-Notice c.in_default.not-Ready c.in_default.not-Other)
    c.work_life.ensures.run
