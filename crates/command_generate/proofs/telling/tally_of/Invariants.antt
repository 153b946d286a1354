use Rattle.std.proofs.Common.{◌≡◌, ◌++◌, List}
use Rattle.gate_io.specs.declared.event.Sent.{Sent}
use Rattle.workload.specs.Tallies.{tally_of}
use Rattle.command_generate.specs.Generating.{all_received}
use Rattle.command_generate.proofs.telling.tally_of.Given as goal

-- what was counted so far, and with what is left it is all
abbrev pub invariant-loop-world : goal.invariant-loop-world
invariant-loop-world l = (counted : List Sent) × (l.tally ≡ tally_of counted) × (counted ++ all_received l.world-iterator.rest.items ≡ all_received l.fn.worlds.items)
