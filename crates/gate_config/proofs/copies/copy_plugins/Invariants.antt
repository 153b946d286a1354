use Rattle.std.proofs.Common.{◌≡◌, take}
use Rattle.gate_config.proofs.copies.copy_plugins.Given as goal

abbrev pub invariant-loop-plugin : goal.invariant-loop-plugin
invariant-loop-plugin l = l.copy ≡ take l.plugin-index l.plugin-items
