use Rattle.worker_model.specs.Plan.{plan_of}
use Rattle.worker_streams.proofs.Jobs.{life_quietly}
use Rattle.worker_streams.proofs.turning.work_life.Goals as goal

pub returns-in_default-clause-run : goal.returns-in_default-clause-run
returns-in_default-clause-run g c =
    life_quietly g.S.Shared.performs _ (g.met.S.Shared.nothing c.args.shared.now) g.H.Host.calling (plan_of c.args.rules.now) c.args.job c.args.host.now c.args.room.now c.quiet.new.room c.quiet.result
    c.in_default.not-Begin c.in_default.not-Start c.in_default.not-Configure c.in_default.not-Done c.in_default.not-Log c.in_default.not-Delete c.quiet.ensures
