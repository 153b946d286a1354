use Rattle.std.proofs.Common.{◌≡◌, length}
use Rattle.std.specs.Prelude.{All}
use Rattle.command_replay.specs.Replay.{Seated, first_workers, setup_of}
use Rattle.command_replay.proofs.crew.workers_for.Given as goal

abbrev pub invariant-loop-n : goal.invariant-loop-n
invariant-loop-n g l = record {
  made : l.workers ≡ first_workers (setup_of g.H.Host.calling g.H.Host.exported g.H.Host.registering l.config (g.M.MakesHost.made l.maker l.config)) l.n;
  seated : All (Seated g.H.Host.needs (length l.config.vms)) l.workers;
}
