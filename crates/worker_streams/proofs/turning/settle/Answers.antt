use Rattle.std.proofs.Common.{ap}
use Rattle.streams_model.specs.Settling.{settling}
use Rattle.worker_callbacks.proofs.Quietly.{ends_as}
use Rattle.worker_model.specs.Plan.{plan_of}
use Rattle.worker_model.specs.Room.{Room}
use Rattle.worker_streams.proofs.turning.settle.Goals as goal

pub returns-clause-run : goal.returns-clause-run
returns-clause-run g c =
    ends_as g.S.Shared.performs _ _ _ _ _ _ (ap (λ (r : Room). settling g.H.Host.calling (plan_of c.args.rules.now) c.args.most c.args.host.now r) c.tell_kind.ensures) c.take_steps.ensures.run
