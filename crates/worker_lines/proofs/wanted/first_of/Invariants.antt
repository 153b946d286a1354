use Rattle.std.proofs.Common.{◌≡◌, drop, None}
use Rattle.worker_lines.specs.Wishes.{with_wishes}
use Rattle.worker_lines.proofs.wanted.first_of.Given as goal

abbrev pub invariant-loop-wish : goal.invariant-loop-wish
invariant-loop-wish l = with_wishes l.first (drop l.wish-index l.each) ≡ with_wishes None l.each
