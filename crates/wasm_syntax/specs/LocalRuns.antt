-- The types of locals, kept by runs: neighbours of one type, each run with the place behind it.
use Rattle.std.specs.Prelude.{◌≡◌, ℕ, zero, suc, ◌-◌, ◌≤◌, ◌<◌, List, [], ◌∷◌, ◌++◌, replicate, slice_get, Some, refl}
use Rattle.wasm_syntax.specs.declared.types.ValueType.{ValueType}
use Rattle.wasm_syntax.specs.declared.types.ValueType.TheVariants.{I32, I64}
use Rattle.wasm_syntax.specs.declared.locals.LocalRun.{LocalRun}

-- the types one by one, where so many locals stand before the first run
abbrev pub unrolled : ℕ → List LocalRun → List ValueType
unrolled before [] = []
unrolled before (r ∷ rs) = replicate (r.end - before) r.of ++ unrolled r.end rs

-- two locals of 32 bits and then three of 64
two_runs : unrolled 0 (record { end = 2; of = I32 } ∷ record { end = 5; of = I64 } ∷ []) ≡ I32 ∷ I32 ∷ I64 ∷ I64 ∷ I64 ∷ []
two_runs = refl

-- where the run at a place begins
abbrev pub start_of : ℕ → List LocalRun → ℕ → ℕ
start_of before rs zero = before
start_of before [] (suc i) = before
start_of before (r ∷ rs) (suc i) = start_of r.end rs i

-- where the last run ends
abbrev pub end_of : ℕ → List LocalRun → ℕ
end_of before [] = before
end_of before (r ∷ rs) = end_of r.end rs

-- no run is empty
abbrev pub IsRising : ℕ → List LocalRun → Type 0
IsRising before [] = Unit {0}
IsRising before (r ∷ rs) = (before < r.end) × IsRising r.end rs

-- the run at a place does not begin behind that local, and ends behind it if there is such a run
pub record IsOver (rs : List LocalRun) (i x : ℕ) : Type 0 where
  pub begins : start_of 0 rs i ≤ x
  pub ends : (r : LocalRun) → slice_get rs i ≡ Some r → x < r.end

-- the last run, if there is one, is of that type
abbrev pub EndsWith : List LocalRun → ValueType → Type 0
EndsWith rs t = (front : List LocalRun) (r : LocalRun) → rs ≡ front ++ r ∷ [] → r.of ≡ t

-- the runs as they were, or without a last run of that type
pub data IsOpen (old new : List LocalRun) (t : ValueType) : Type 0 where
  same : new ≡ old → IsOpen old new t
  shorter : (r : LocalRun) → old ≡ new ++ r ∷ [] → r.of ≡ t → IsOpen old new t
