-- The worked words, exports and calls.
use Rattle.std.proofs.Common.{◌≡◌, [], ◌∷◌, Some, None, refl, arith}
use Rattle.std.specs.Prelude.{codes as bytes_of}
use Rattle.gate_base.specs.declared.cause.Cause.TheVariants as causes
use Rattle.wasm_syntax.specs.declared.types.Value.TheVariants as values
use Rattle.wasm_syntax.specs.declared.types.ValueType.TheVariants.{I32, I64}
use Rattle.wasm_syntax.specs.Nested.{nests}
use Rattle.wasm_syntax.specs.ReductionRuns.{walk}
use Rattle.wasm_syntax.specs.ReductionExamples.{call, sum_module, module_of, endless_body, unreachable_body}
use Rattle.wasm_invoke.specs.Arguments.{Fits, AllFit}
use Rattle.wasm_invoke.specs.Invoking.{answered, trapped, spent, went_as, went}
use Rattle.wasm_invoke.specs.Examples.{set_body, starting}

-- ---- words

pub zeros : Fits I32 (bytes_of "007")
zeros = record { digits = (omega arith, (omega arith, (omega arith, (omega arith, tt)))); small = omega arith }

pub greatest : Fits I32 (bytes_of "4294967295")
greatest = record { digits = (omega arith, (omega arith, (omega arith, (omega arith, (omega arith, (omega arith, (omega arith, (omega arith, (omega arith, (omega arith, (omega arith, tt))))))))))); small = omega arith }

pub too_great : Fits I32 (bytes_of "4294967296") → ⊥
too_great f = let h = f.small in absurd (omega arith)

pub longer_type : Fits I64 (bytes_of "4294967296")
longer_type = record { digits = (omega arith, (omega arith, (omega arith, (omega arith, (omega arith, (omega arith, (omega arith, (omega arith, (omega arith, (omega arith, (omega arith, tt))))))))))); small = omega arith }

pub far_too_great : Fits I64 (bytes_of "18446744073709551616") → ⊥
far_too_great f = let h = f.small in absurd (omega arith)

pub plus : Fits I32 (bytes_of "+1") → ⊥
plus f = let h = f.digits.1.0 in absurd (omega arith)

pub minus : Fits I32 (bytes_of "-1") → ⊥
minus f = let h = f.digits.1.0 in absurd (omega arith)

pub nothing_written : Fits I32 [] → ⊥
nothing_written f = let h = f.digits.0 in absurd (omega arith)

seven : Fits I32 (bytes_of "7")
seven = record { digits = (omega arith, (omega arith, tt)); small = omega arith }

pub both_fit : AllFit (I32 ∷ I64 ∷ []) (bytes_of "7" ∷ bytes_of "4294967296" ∷ [])
both_fit = (seven, (longer_type, tt))

pub other_order : AllFit (I64 ∷ I32 ∷ []) (bytes_of "7" ∷ bytes_of "4294967296" ∷ []) → ⊥
other_order h = too_great h.1.0

-- ---- calls

pub sums_up : went sum_module 0 (values.I32 3 ∷ []) ≡ answered (Some (values.I32 6)) 45
unfolding walk nests
sums_up = refl

pub one_short : went_as (call sum_module 0 (values.I32 3 ∷ []) 44) ≡ spent
unfolding walk nests
one_short = refl

pub endless : went (module_of endless_body) 0 [] ≡ trapped causes.Stack
unfolding walk nests
endless = refl

pub begun : went (starting set_body) 1 [] ≡ answered (Some (values.I32 5)) 1
unfolding walk nests
begun = refl

pub without : went (record (starting set_body) { start = None }) 1 [] ≡ answered (Some (values.I32 1)) 1
unfolding walk nests
without = refl

pub stopped : went (starting unreachable_body) 1 [] ≡ trapped causes.Unreachable
unfolding walk nests
stopped = refl
