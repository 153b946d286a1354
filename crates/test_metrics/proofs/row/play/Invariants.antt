use Rattle.std.proofs.Common.{◌≡◌, length}
use Rattle.shared_seats.specs.Workers.{AreAll}
use Rattle.test_metrics.proofs.row.play.Given as goal

-- all seats are there
abbrev pub invariant-loop-who : goal.invariant-loop-who
invariant-loop-who g l = AreAll l.tables l.lists.items × (length l.lists.items ≡ length l.fn.lists.items)
