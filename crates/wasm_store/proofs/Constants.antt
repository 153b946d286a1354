-- Where no global is imported, what is constant is a constant, and has its type.
use Rattle.std.proofs.Common.{◌≡◌, refl, sym, [], Some, None, unwrap_or, false}
use Rattle.std.proofs.lemmas.Option.{none-some}
use Rattle.wasm_syntax.specs.declared.types.ValueType.{ValueType}
use Rattle.wasm_syntax.specs.declared.types.Value.TheVariants as value
use Rattle.wasm_syntax.specs.declared.instr.Instr.{Instr}
use Rattle.wasm_syntax.specs.declared.instr.Instr.TheVariants as instr
use Rattle.wasm_syntax.specs.Rows.{row_of}
use Rattle.wasm_syntax.specs.Validity.{IsConstantRow}
use Rattle.wasm_syntax.specs.Numeric.{type_of, constant}

pub constant_type : (i : Instr) (t : ValueType) → IsConstantRow [] t (row_of i) → type_of (unwrap_or (constant i) (value.I32 0)) ≡ t
constant_type (instr.I32Const x) t h = h
constant_type (instr.I64Const x) t h = h
constant_type (instr.GlobalGet x) t h = absurd (none-some (record { value = t; is_mutable = false }) h)
constant_type i t h = absurd h
