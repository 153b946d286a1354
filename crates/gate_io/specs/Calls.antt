-- The calls of the objects in memory, counted from 1, of which those with stated numbers are to fail.
use Rattle.std.specs.Prelude.{ℕ, ◌+◌, ◌^◌, ◌-◌, min, List, Contains}

-- the number behind this one; a count stands still at the end of its type
abbrev pub risen : ℕ → ℕ
risen n = min (n + 1) (2 ^ 64 - 1)

-- behind so many calls, the next one is one of those
abbrev pub IsNext : List ℕ → ℕ → Type 0
IsNext numbers calls = Contains numbers (risen calls)
