use Rattle.std.proofs.Common.{◌≡◌, length}
use Rattle.std.specs.List.{insert}
use Rattle.worker_lines.proofs.kept.put_in.Given as goal

-- with the number that is carried in front of the others it is the list that is to be
abbrev pub invariant-loop-at : goal.invariant-loop-at
invariant-loop-at l = (insert l.numbers l.at l.carried ≡ insert l.fn.numbers l.place l.fn.number) × (length l.numbers ≡ length l.fn.numbers)
