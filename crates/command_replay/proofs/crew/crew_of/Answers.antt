use Rattle.std.proofs.Common.{length, ap, ◌∙◌}
use Rattle.command_replay.specs.Replay.{setup_of}
use Rattle.command_replay.proofs.Starts.{can_start, workers_count}
use Rattle.command_replay.proofs.crew.crew_of.Goals as goal

pub new-world-requires : goal.new-world-requires
new-world-requires g c = c.in_ok-events.ensures.order c.args.config.now.workers c.requires.lines

pub returns-clause-can_turn : goal.returns-clause-can_turn
returns-clause-can_turn g c = can_start g.H.Host.needs c.in_ok-workers.workers (length c.args.config.now.vms) c.in_ok-shared.shared c.in_ok-workers.ensures.seated c.in_ok-shared.ensures

pub returns-clause-count : goal.returns-clause-count
returns-clause-count g c =
    ap length c.in_ok-workers.ensures.made
    ∙ workers_count (setup_of g.H.Host.calling g.H.Host.exported g.H.Host.registering c.args.config.now (g.M.MakesHost.made c.args.maker.now c.args.config.now)) c.args.config.now.workers
