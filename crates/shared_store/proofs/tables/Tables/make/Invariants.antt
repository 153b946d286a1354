use Rattle.std.proofs.Common.{◌≡◌, ◌+◌, length, map}
use Rattle.shared_store.specs.Workers.{new_seat}
use Rattle.shared_store.proofs.Gathering.{OthersAre}
use Rattle.shared_store.proofs.tables.Tables.make.Given as goal

-- worker 1's seats gave out the numbers so far, and the others have theirs
abbrev pub invariant-loop : goal.invariant-loop
invariant-loop l = (length l.lists.items + 1 ≡ l.counter) × (l.first.items ≡ map (new_seat 1 l.counter) l.tables-inside.tables.items) × OthersAre l.tables-inside.tables.items l.lists.items
