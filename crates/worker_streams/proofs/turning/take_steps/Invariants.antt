use Rattle.std.proofs.Common.{◌≡◌}
use Rattle.filter_host.specs.Course.{Goes}
use Rattle.worker_model.specs.Plan.{plan_of}
use Rattle.streams_model.specs.Settling.{settling}
use Rattle.worker_streams.proofs.turning.take_steps.Given as goal

-- what is left to do is what so many steps do that are left
abbrev pub invariant-loop-left : goal.invariant-loop-left
invariant-loop-left g l = record {
  needs : g.H.Host.needs l.host ≡ g.H.Host.needs l.fn.host;
  stores : g.S.Shared.stores l.shared ≡ g.S.Shared.stores l.fn.shared;
  run : Goes g.S.Shared.performs l.fn.shared (settling g.H.Host.calling (plan_of l.rules) l.fn.most l.fn.host l.fn.room) (settling g.H.Host.calling (plan_of l.rules) l.left l.host l.room) l.shared;
}

abbrev pub decreases-loop-left : goal.decreases-loop-left
decreases-loop-left g l = l.left
