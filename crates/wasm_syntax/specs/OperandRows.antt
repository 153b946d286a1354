-- That the operators and the accesses of an instruction have the types and the width of its row.
use Rattle.std.specs.Prelude.{◌≡◌, ◌^◌, Option, Some, None}
use Rattle.std.specs.Int.{byte_len}
use Rattle.wasm_syntax.specs.declared.instr.Instr.{Instr}
use Rattle.wasm_syntax.specs.declared.row.Row.{Row}
use Rattle.wasm_syntax.specs.declared.row.Row.TheVariants as row
use Rattle.wasm_syntax.specs.Rows.{row_of}
use Rattle.wasm_syntax.specs.Memory.{Load, Store, load_of, store_of}
use Rattle.wasm_syntax.specs.Numeric.{Numeric, one, two, other, numeric_of}

-- an operator of one operand exactly where the row is one of these, and so of two
abbrev pub HasOperands : Row → Numeric → Type 0
HasOperands (row.Unary t u) (one taken given f) = (taken ≡ t) × (given ≡ u)
HasOperands (row.Unary t u) n = ⊥
HasOperands (row.Binary t u) (two taken given f) = (taken ≡ t) × (given ≡ u)
HasOperands (row.Binary t u) n = ⊥
HasOperands r other = Unit {0}
HasOperands r n = ⊥

-- the row counts widths by their exponents
abbrev pub HasLoad : Row → Option Load → Type 0
HasLoad (row.Load t width align) (Some l) = (l.type ≡ t) × (byte_len l.width ≡ 2 ^ width)
HasLoad (row.Load t width align) None = ⊥
HasLoad r (Some l) = ⊥
HasLoad r None = Unit {0}

abbrev pub HasStore : Row → Option Store → Type 0
HasStore (row.Store t width align) (Some s) = (s.type ≡ t) × (byte_len s.width ≡ 2 ^ width)
HasStore (row.Store t width align) None = ⊥
HasStore r (Some s) = ⊥
HasStore r None = Unit {0}

-- of its row
abbrev pub AgreesWithRow : Instr → Type 0
AgreesWithRow i = HasOperands (row_of i) (numeric_of i) × HasLoad (row_of i) (load_of i) × HasStore (row_of i) (store_of i)
