use Rattle.std.proofs.Common.{◌≡◌, drop, map}
use Rattle.toml.specs.View.{view}
use Rattle.config_reader.specs.Judge.{repeats}
use Rattle.config_reader.proofs.names.repeats.Given as goal

abbrev pub invariant-loop-place : goal.invariant-loop-place
invariant-loop-place l = repeats (map view l.items) ≡ repeats (map view (drop l.place l.items))
