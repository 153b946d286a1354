-- The first notice owed for each queue.
use Rattle.std.specs.Prelude.{◌≡◌, ℕ, ◌<◌, ◌≤◌, List, length, slice_index_or}
use Rattle.shared_queues.specs.declared.firsts.TheConstants.{NONE}

-- the registrant of each queue, and the number of the first notice that is owed for it, or NONE
pub record Standing : Type 0 where
  pub whos : List ℕ
  pub firsts : List ℕ

-- no queue of this worker has a notice
pub record NoneOwedTo (s : Standing) (who : ℕ) : Type 0 where
  pub none : (j : ℕ) → j < length s.whos → slice_index_or s.whos j 0 ≡ who → NONE ≤ slice_index_or s.firsts j NONE

-- of this worker's queues the one at k has the first notice of all
pub record IsEarliest (s : Standing) (who k : ℕ) : Type 0 where
  pub within : k < length s.whos
  pub registrant : slice_index_or s.whos k 0 ≡ who
  pub some : slice_index_or s.firsts k NONE < NONE
  pub first : (j : ℕ) → j < length s.whos → slice_index_or s.whos j 0 ≡ who → slice_index_or s.firsts k NONE ≤ slice_index_or s.firsts j NONE
