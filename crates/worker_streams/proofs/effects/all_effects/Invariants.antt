use Rattle.std.proofs.Common.{◌≡◌, length}
use Rattle.streams_model.specs.Rooms.{effects_of}
use Rattle.worker_streams.proofs.effects.all_effects.Given as goal

abbrev pub invariant-loop-effect : goal.invariant-loop-effect
invariant-loop-effect l = effects_of l.vm l.own l.rest l.room ≡ effects_of l.fn.vm l.fn.own l.fn.effects l.fn.room

abbrev pub decreases-loop-effect : goal.decreases-loop-effect
decreases-loop-effect l = length l.rest
