use Rattle.std.proofs.Common.{◌≡◌, length}
use Rattle.std.specs.List.{remove}
use Rattle.worker_lines.proofs.kept.take_out.Given as goal

-- without the next number it is the list that is to be
abbrev pub invariant-loop-at : goal.invariant-loop-at
invariant-loop-at l = (remove l.numbers l.at ≡ remove l.fn.numbers l.place) × (length l.numbers ≡ length l.fn.numbers)
