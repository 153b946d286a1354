-- The places of workers for lines.
use Rattle.std.specs.Prelude.{ℕ, ◌+◌, ◌≤◌, Option, IsSomeAnd}

-- so many lines a worker keeps where it has no place for a further one
abbrev pub most_places : ℕ
most_places = 128

-- a line has waited for a place since this moment, and that is a second ago
abbrev pub HasWaited : Option ℕ → ℕ → Type 0
HasWaited waits now = IsSomeAnd waits (λ since. since + 1000000000 ≤ now)
