-- Which trap comes where.
use Rattle.std.proofs.Common.{◌≡◌, ◌↔◌, refl, ap, ap₂, ℕ, ◌-◌, ◌^◌, Bool, true, false, ◌&&◌, nat_eq, IsTrue, Result, Ok, Err, if◌then◌else◌}
use Rattle.std.proofs.lemmas.Bool.{eqb-true}
use Rattle.wasm_syntax.specs.declared.types.Value.{Value}
use Rattle.wasm_syntax.specs.declared.types.ValueType.{ValueType}
use Rattle.wasm_syntax.specs.declared.types.ValueType.TheVariants.{I32, I64}
use Rattle.wasm_syntax.specs.Operators.{Undefined, ZeroDivisor, Overflow, size, is_least_by_minus_one}
use Rattle.wasm_numeric.specs.declared.op.NumTrap.{NumTrap}
use Rattle.wasm_numeric.specs.declared.op.NumTrap.TheVariants as trap
use Rattle.wasm_numeric.specs.declared.operator.Arithmetic.TheVariants as arith_op
use Rattle.wasm_numeric.specs.declared.operator.Operator.{Operator}
use Rattle.wasm_numeric.specs.declared.operator.Operator.TheVariants.{Relation, Arithmetic, Bitwise, Shift}
use Rattle.wasm_numeric.specs.Applied.{made, as_value, or_trap}
use Rattle.wasm_numeric.specs.Laws.{is_division, is_signed_quotient}

-- a value is no trap
no_trap : {P : Type 0} {v : Value} {e : NumTrap} → Ok v ≡ Err e → P
no_trap h = absurd cc

not_true : {P : Type 0} → IsTrue false → P
not_true h = absurd cc

-- ---- Divide

-- a quotient or remainder with this divisor, whatever it is for another one
abbrev by_divisor : ValueType → ℕ → Result ℕ Undefined → Result Value NumTrap
by_divisor t j other = as_value t (or_trap (if nat_eq j 0 then Err ZeroDivisor else other))

only_zero : (t : ValueType) (z : Bool) (n : ℕ) → as_value t (or_trap (if z then Err ZeroDivisor else Ok n)) ≡ Err trap.Divide → z ≡ true
only_zero t true n h = refl
only_zero t false n h = no_trap h

only_zero_first : (t : ValueType) (z b : Bool) (n : ℕ) → as_value t (or_trap (if z then Err ZeroDivisor else (if b then Err Overflow else Ok n))) ≡ Err trap.Divide → z ≡ true
only_zero_first t true b n h = refl
only_zero_first t false true n h = absurd cc
only_zero_first t false false n h = no_trap h

divide_alone : (t : ValueType) (j n : ℕ) → (by_divisor t j (Ok n) ≡ Err trap.Divide) ↔ (IsTrue true × (j ≡ 0))
divide_alone t j n =
    (λ h. (refl, eqb-true j 0 (only_zero t (nat_eq j 0) n h)), λ p. ap (λ (x : ℕ). by_divisor t x (Ok n)) p.1)

divide_first : (t : ValueType) (j n : ℕ) (b : Bool) → (by_divisor t j (if b then Err Overflow else Ok n) ≡ Err trap.Divide) ↔ (IsTrue true × (j ≡ 0))
divide_first t j n b =
    (λ h. (refl, eqb-true j 0 (only_zero_first t (nat_eq j 0) b n h)), λ p. ap (λ (x : ℕ). by_divisor t x (if b then Err Overflow else Ok n)) p.1)

pub divide_is_exact : (t : ValueType) (o : Operator) (i j : ℕ) → (made t o i j ≡ Err trap.Divide) ↔ (IsTrue (is_division o) × (j ≡ 0))
divide_is_exact t (Relation r) i j = (λ h. no_trap h, λ p. not_true p.0)
divide_is_exact t (Bitwise o) i j = (λ h. no_trap h, λ p. not_true p.0)
divide_is_exact t (Shift o) i j = (λ h. no_trap h, λ p. not_true p.0)
divide_is_exact t (Arithmetic arith_op.Add) i j = (λ h. no_trap h, λ p. not_true p.0)
divide_is_exact t (Arithmetic arith_op.Sub) i j = (λ h. no_trap h, λ p. not_true p.0)
divide_is_exact t (Arithmetic arith_op.Mul) i j = (λ h. no_trap h, λ p. not_true p.0)
divide_is_exact t (Arithmetic arith_op.DivS) i j = divide_first t j _ (is_least_by_minus_one t i j)
divide_is_exact t (Arithmetic arith_op.DivU) i j = divide_alone t j _
divide_is_exact t (Arithmetic arith_op.RemS) i j = divide_alone t j _
divide_is_exact t (Arithmetic arith_op.RemU) i j = divide_alone t j _

-- ---- Overflow

never_so : (t : ValueType) (z : Bool) (n : ℕ) → as_value t (or_trap (if z then Err ZeroDivisor else Ok n)) ≡ Err trap.Overflow → ⊥
never_so t true n h = absurd cc
never_so t false n h = no_trap h

never : (t : ValueType) (j n : ℕ) → by_divisor t j (Ok n) ≡ Err trap.Overflow → ⊥
never t j n h = never_so t (nat_eq j 0) n h

both_hold : (t : ValueType) (z a b : Bool) (n : ℕ) → as_value t (or_trap (if z then Err ZeroDivisor else (if a && b then Err Overflow else Ok n))) ≡ Err trap.Overflow → (a ≡ true) × (b ≡ true)
both_hold t true a b n h = absurd cc
both_hold t false true true n h = (refl, refl)
both_hold t false true false n h = no_trap h
both_hold t false false b n h = no_trap h

overflows : (t : ValueType) (i j n : ℕ) → i ≡ 2 ^ (size t - 1) → j ≡ 2 ^ size t - 1 → by_divisor t j (if is_least_by_minus_one t i j then Err Overflow else Ok n) ≡ Err trap.Overflow
overflows I32 i j n p q = ap₂ (λ (x y : ℕ). by_divisor I32 y (if is_least_by_minus_one I32 x y then Err Overflow else Ok n)) p q
overflows I64 i j n p q = ap₂ (λ (x y : ℕ). by_divisor I64 y (if is_least_by_minus_one I64 x y then Err Overflow else Ok n)) p q

overflow_alone : (t : ValueType) (i j n : ℕ) → (by_divisor t j (if is_least_by_minus_one t i j then Err Overflow else Ok n) ≡ Err trap.Overflow) ↔ (IsTrue true × (i ≡ 2 ^ (size t - 1)) × (j ≡ 2 ^ size t - 1))
overflow_alone t i j n = (
  λ h. let both = both_hold t (nat_eq j 0) (nat_eq i (2 ^ (size t - 1))) (nat_eq j (2 ^ size t - 1)) n h in
      (refl, eqb-true i (2 ^ (size t - 1)) both.0, eqb-true j (2 ^ size t - 1) both.1),
  λ p. overflows t i j n p.1 p.2,
)

pub overflow_is_exact : (t : ValueType) (o : Operator) (i j : ℕ) → (made t o i j ≡ Err trap.Overflow) ↔ (IsTrue (is_signed_quotient o) × (i ≡ 2 ^ (size t - 1)) × (j ≡ 2 ^ size t - 1))
overflow_is_exact t (Relation r) i j = (λ h. no_trap h, λ p. not_true p.0)
overflow_is_exact t (Bitwise o) i j = (λ h. no_trap h, λ p. not_true p.0)
overflow_is_exact t (Shift o) i j = (λ h. no_trap h, λ p. not_true p.0)
overflow_is_exact t (Arithmetic arith_op.Add) i j = (λ h. no_trap h, λ p. not_true p.0)
overflow_is_exact t (Arithmetic arith_op.Sub) i j = (λ h. no_trap h, λ p. not_true p.0)
overflow_is_exact t (Arithmetic arith_op.Mul) i j = (λ h. no_trap h, λ p. not_true p.0)
overflow_is_exact t (Arithmetic arith_op.DivS) i j = overflow_alone t i j _
overflow_is_exact t (Arithmetic arith_op.DivU) i j = (λ h. absurd (never t j _ h), λ p. not_true p.0)
overflow_is_exact t (Arithmetic arith_op.RemS) i j = (λ h. absurd (never t j _ h), λ p. not_true p.0)
overflow_is_exact t (Arithmetic arith_op.RemU) i j = (λ h. absurd (never t j _ h), λ p. not_true p.0)
