-- What looking at the entries of a part in order tells.
use Rattle.std.specs.Prelude.{ℕ, ◌<◌, Option, Some, None}
use Rattle.wasm_syntax.specs.declared.module.Module.{Module}
use Rattle.wasm_syntax.specs.declared.valid.Part.{Part}
use Rattle.wasm_syntax.specs.declared.valid.Part.TheVariants as part
use Rattle.wasm_syntax.specs.Validity.{IsGood, entries_of}

-- the first entry of a part that is not valid
pub record IsFirstBad (m : Module) (p : Part) (n : ℕ) : Type 0 where
  pub there : n < entries_of m p
  pub bad : IsGood m p n → ⊥
  pub before : (k : ℕ) → k < n → IsGood m p k

abbrev pub Finds : Module → Part → Option ℕ → Type 0
Finds m p None = (n : ℕ) → n < entries_of m p → IsGood m p n
Finds m p (Some n) = IsFirstBad m p n

-- the parts whose entries are looked at one by one
abbrev pub IsLookedAt : Part → Type 0
IsLookedAt part.Export = ⊥
IsLookedAt part.Code = ⊥
IsLookedAt p = Unit {0}
