-- The bytes of a slice are bytes.
use Rattle.std.proofs.Common.{◌≡◌, ℕ, ◌+◌, ◌<◌, zero, suc, List, [], ◌∷◌, length, get_or, arith}
use Rattle.wasm_syntax.specs.Numbers.{AreBytes}

pub bytes_of_items : (xs : List ℕ) → ((k : ℕ) → k < length xs → get_or xs k 0 < 256) → AreBytes xs
bytes_of_items [] h = tt
bytes_of_items (x ∷ xs) h = (h zero (omega arith), bytes_of_items xs (λ k lt. h (suc k) (omega arith)))
