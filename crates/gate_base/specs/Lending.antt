-- What a list ends as, one member of which is lent to be written.
use Rattle.std.specs.Prelude.{ℕ, List, slice_set}
use Rattle.std.specs.Borrow.{Lends, MutBor, Fml, RattleType}
use Rattle.gate_base.specs.contracts.members.Members.{the_row}

-- the list ends with the last value behind the loan at the place
abbrev pub LendsMember : (M : RattleType) → MutBor (List M.Denot) → ℕ → MutBor M.Denot → Fml
LendsMember M xs at member = Lends (the_row M) M xs member (slice_set xs.now at)
