-- That an operator on values is what an instruction makes of its operands.
use Rattle.std.specs.Prelude.{◌≡◌, ⊤, ℕ, List, [], ◌∷◌, Some, Result, Ok, Err}
use Rattle.wasm_syntax.specs.declared.types.Value.{Value}
use Rattle.wasm_syntax.specs.declared.types.ValueType.{ValueType}
use Rattle.wasm_syntax.specs.Operators.{Undefined, ZeroDivisor, Overflow}
use Rattle.wasm_syntax.specs.Numeric.{Numeric as Numerics, one, two, other, of_type, number_as}
use Rattle.wasm_syntax.specs.Stores.{Stores}
use Rattle.wasm_syntax.specs.ReductionRows.{Done, gives, faults, takes_one, takes_two, Act, does, cause_of}
use Rattle.wasm_numeric.specs.declared.op.NumTrap.{NumTrap}
use Rattle.wasm_numeric.specs.declared.op.NumTrap.TheVariants as trap
use Rattle.wasm_numeric.specs.declared.op.Op1.{Op1}
use Rattle.wasm_numeric.specs.declared.op.Op2.{Op2}
use Rattle.wasm_numeric.specs.declared.instr.Numeric.{Numeric}
use Rattle.wasm_numeric.specs.declared.instr.Numeric.TheVariants.{One, Two, Other}
use Rattle.wasm_numeric.specs.Applied.{taken1, Takes1, value1, parts_of, Takes2, value2}

-- ---- by the table of operators

-- The operator takes the type, and of its numbers makes what the definition does.
pub record IsOne (op : Op1) (t u : ValueType) (f : ℕ → ℕ) : Type 0 where
  pub taken : taken1 op ≡ t
  pub given : (a : Value) (i : ℕ) → number_as t a ≡ Some i → value1 op a ≡ of_type u (f i)

-- why there is no number, as a trap
abbrev pub trapped_by : Undefined → NumTrap
trapped_by ZeroDivisor = trap.Divide
trapped_by Overflow = trap.Overflow

-- the value of that type, or the trap
abbrev pub valued : ValueType → Result ℕ Undefined → Result Value NumTrap
valued u (Ok n) = Ok (of_type u n)
valued u (Err e) = Err (trapped_by e)

pub record IsTwo (op : Op2) (t u : ValueType) (f : ℕ → ℕ → Result ℕ Undefined) : Type 0 where
  pub taken : (parts_of op).0 ≡ t
  pub given : (a b : Value) (i j : ℕ) → number_as t a ≡ Some i → number_as t b ≡ Some j → value2 op a b ≡ valued u (f i j)

-- what is told is what the table says
abbrev pub Means : Numeric → Numerics → Type 0
Means (One op) (one t u f) = IsOne op t u f
Means (Two op) (two t u f) = IsTwo op t u f
Means Other other = ⊤
Means n m = ⊥

-- ---- by what the instruction does

abbrev pub trap_cause : NumTrap → Undefined
trap_cause trap.Divide = ZeroDivisor
trap_cause trap.Overflow = Overflow

-- it leaves that value, and the store and the locals as they were, or faults for the trap's cause
abbrev pub does_apply : Result Value NumTrap → Stores → List Value → Done
does_apply (Ok v) s own = gives (v ∷ []) s own
does_apply (Err e) s own = faults (cause_of (trap_cause e))

-- With operands of the operator's types the instruction does what the operator says; of two operands the second
-- stands topmost.
abbrev pub ActsAs : Numeric → Act → Type 0
ActsAs (One op) (does (takes_one g)) = (a : Value) (s : Stores) (own : List Value) → Takes1 op a → g a s own ≡ gives (value1 op a ∷ []) s own
ActsAs (Two op) (does (takes_two g)) = (a b : Value) (s : Stores) (own : List Value) → Takes2 op a b → g b a s own ≡ does_apply (value2 op a b) s own
ActsAs Other act = ⊤
ActsAs n act = ⊥
