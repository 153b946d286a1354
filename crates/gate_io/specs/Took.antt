-- What a call took of a source, where it does not say which bytes.
use Rattle.std.specs.Prelude.{ℕ, ◌≤◌, List, length, Option}
use Rattle.gate_io.specs.Told.{Loses}

-- some bytes were taken, so many at most
pub record Took (old : Option (List ℕ)) (most : ℕ) (new : Option (List ℕ)) : Type 0 where
  pub bytes : List ℕ
  pub taken : Loses old bytes new
  pub bounded : length bytes ≤ most
