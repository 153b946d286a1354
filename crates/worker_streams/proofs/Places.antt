-- The place of a new line is within the list.
use Rattle.std.proofs.Common.{◌≤◌, ℕ, ◌+◌, suc, List, [], ◌∷◌, length, Bool, true, false, arith}
use Rattle.std.specs.Prelude.{not, cond, nat_lt}
use Rattle.worker_model.specs.declared.types.TcpLine.{TcpLine}
use Rattle.streams_model.specs.Opening.{place_for}

pub place_within : (number : ℕ) (lines : List TcpLine) → place_for number lines ≤ length lines
place_within number [] = omega arith
place_within number (line ∷ lines) = by (place_within number lines) (not (nat_lt number line.number))
  where
    by : place_for number lines ≤ length lines → (b : Bool) → cond b (1 + place_for number lines) 0 ≤ suc (length lines)
    by later true = omega arith
    by later false = omega arith
