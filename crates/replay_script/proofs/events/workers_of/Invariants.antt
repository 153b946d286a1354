use Rattle.std.proofs.Common.{◌≡◌, ◌++◌, drop}
use Rattle.replay_script.specs.Scripts.{workers_from, workers_of}
use Rattle.replay_script.proofs.events.workers_of.Given as goal

abbrev pub invariant-loop-command : goal.invariant-loop-command
invariant-loop-command l = l.workers.items ++ workers_from l.who (drop l.command-index l.commands) ≡ workers_of l.commands
