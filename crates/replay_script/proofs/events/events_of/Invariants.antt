use Rattle.std.proofs.Common.{◌≡◌, ◌++◌}
use Rattle.replay_script.specs.Scripts.{events_from, events_of}
use Rattle.replay_script.proofs.events.events_of.Given as goal

abbrev pub invariant-loop-command : goal.invariant-loop-command
invariant-loop-command l = l.events.items ++ events_from l.now l.command-iterator.rest.items ≡ events_of l.fn.commands.items
