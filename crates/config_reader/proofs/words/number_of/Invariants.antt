use Rattle.std.proofs.Common.{◌≡◌, ◌≤◌, drop}
use Rattle.config_reader.specs.Words.{number_from}
use Rattle.config_reader.proofs.words.number_of.Given as goal

abbrev pub invariant-loop-b : goal.invariant-loop-b
invariant-loop-b l = (number_from 0 l.s ≡ number_from l.n (drop l.b-index l.s)) × (l.n ≤ 1000000)
