use Rattle.std.proofs.Common.{◌≡◌}
use Rattle.gate_config.specs.Plain.{first_n, plain_plugin}
use Rattle.gate_config.proofs.plain.plain_plugin_list.Given as goal

abbrev pub invariant-loop-k : goal.invariant-loop-k
invariant-loop-k l = l.plugins ≡ first_n plain_plugin l.k
