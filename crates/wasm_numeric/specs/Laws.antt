-- The words of the laws.
use Rattle.std.specs.Prelude.{Bool, true, false}
use Rattle.wasm_numeric.specs.declared.operator.Arithmetic.TheVariants as arith_op
use Rattle.wasm_numeric.specs.declared.operator.Operator.{Operator}
use Rattle.wasm_numeric.specs.declared.operator.Operator.TheVariants.{Arithmetic}

-- it is a quotient or a remainder
abbrev pub is_division : Operator → Bool
is_division (Arithmetic arith_op.DivS) = true
is_division (Arithmetic arith_op.DivU) = true
is_division (Arithmetic arith_op.RemS) = true
is_division (Arithmetic arith_op.RemU) = true
is_division o = false

abbrev pub is_signed_quotient : Operator → Bool
is_signed_quotient (Arithmetic arith_op.DivS) = true
is_signed_quotient o = false
