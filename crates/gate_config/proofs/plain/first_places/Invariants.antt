use Rattle.std.proofs.Common.{◌≡◌}
use Rattle.gate_config.specs.Plain.{places}
use Rattle.gate_config.proofs.plain.first_places.Given as goal

abbrev pub invariant-loop-k : goal.invariant-loop-k
invariant-loop-k l = l.filters ≡ places l.k
