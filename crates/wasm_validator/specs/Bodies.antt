-- What checking a body tells.
use Rattle.std.specs.Prelude.{ℕ, suc, ◌<◌, List, ◌++◌, length, take}
use Rattle.wasm_syntax.specs.declared.instr.Instr.{Instr}
use Rattle.wasm_syntax.specs.Typing.{Context, IsTypedBody}

-- the first instruction up to which the body cannot be typed, whatever stands behind it
pub record StopsAt (c : Context) (is : List Instr) (place : ℕ) : Type 0 where
  pub within : place < length is
  pub ends : (more : List Instr) → IsTypedBody c (take (suc place) is ++ more) → ⊥
  pub goes : (k : ℕ) → k < place → (more : List Instr) × IsTypedBody c (take (suc k) is ++ more)
