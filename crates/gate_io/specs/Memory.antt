-- What the objects in memory are, as plain records.
use Rattle.std.specs.Prelude.{ℕ, List}

-- Files in memory: paths with their bytes, the paths that were read, the numbers from 1 of the calls that are to
-- fail, how many calls there were, and how many failed.
pub record MemoryFiles : Type 0 where
  pub files : List (List ℕ × List ℕ)
  pub paths : List (List ℕ)
  pub fails : List ℕ
  pub calls : ℕ
  pub faults : ℕ

-- A source in memory: the bytes that are left, and the calls as above.
pub record MemorySource : Type 0 where
  pub left : List ℕ
  pub fails : List ℕ
  pub calls : ℕ
  pub faults : ℕ

-- A sink in memory: the bytes that it took, and the calls as above.
pub record MemorySink : Type 0 where
  pub taken : List ℕ
  pub fails : List ℕ
  pub calls : ℕ
  pub faults : ℕ
