use Rattle.std.proofs.Common.{◌≡◌, length}
use Rattle.shared_store.specs.Tables.{AreNumbered, first_seats}
use Rattle.shared_store.proofs.tables.Tables.new.Given as goal

-- those so far, and worker 1's seats at them
abbrev pub invariant-loop-n : goal.invariant-loop-n
invariant-loop-n l = (length l.tables.items ≡ l.n) × AreNumbered l.tables.items × (l.seats.items ≡ first_seats l.tables.items)
