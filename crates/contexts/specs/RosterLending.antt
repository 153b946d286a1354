-- What a list ends as, one member of which is lent to be written.
use Rattle.std.specs.Prelude.{ℕ, List, slice_set}
use Rattle.std.specs.Borrow.{Lends, MutBor, Fml, RattleType}
use Rattle.contexts.specs.contracts.roster.Roster.{the_row}

-- the list ends with the last value after the loan at the place
abbrev pub LendsPlace : (M : RattleType) → MutBor (List M.Denot) → ℕ → MutBor M.Denot → Fml
LendsPlace M xs at member = Lends (the_row M) M xs member (slice_set xs.now at)
