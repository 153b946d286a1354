use Rattle.std.proofs.Common.{◌≡◌, ◌≤◌, length}
use Rattle.contexts.proofs.Unmarking.{unmarked_to}
use Rattle.contexts.proofs.exchanges.unmark.Given as goal

-- those before the place have no mark
abbrev pub invariant-loop-place : goal.invariant-loop-place
invariant-loop-place l = (l.exchanges ≡ unmarked_to l.place l.fn.exchanges) × (l.place-end ≡ length l.fn.exchanges) × (l.place ≤ l.place-end)
