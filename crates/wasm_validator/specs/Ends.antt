-- How validation ends.
use Rattle.std.specs.Prelude.{◌≡◌, ◌⊎◌, ◌<◌, ◌^◌, ℕ, Result, Ok, Err}
use Rattle.wasm_syntax.specs.declared.module.Module.{Module}
use Rattle.wasm_syntax.specs.declared.valid.Part.{Part}
use Rattle.wasm_syntax.specs.declared.valid.ValidModule.{ValidModule}
use Rattle.wasm_syntax.specs.Validity.{FirstInvalid, IsGood, entries_of}
use Rattle.wasm_validator.specs.declared.module.Found.{Found}
use Rattle.wasm_validator.specs.declared.module.ValidEnd.{ValidEnd}
use Rattle.wasm_validator.specs.declared.module.ValidEnd.TheVariants.{Invalid, OutOfMemory}

abbrev pub AllValid : Module → Type 0
AllValid m = (p : Part) (n : ℕ) → n < entries_of m p → IsGood m p n

-- the first fault, in numbers of 32 bits
pub record IsFound (m : Module) (f : Found) : Type 0 where
  pub first : FirstInvalid m f.part f.index f.place
  pub index_fits : f.index < 2 ^ 32
  pub place_fits : f.place < 2 ^ 32

-- what is told is the first fault
abbrev pub IsFirstInvalid : Module → ValidEnd → Type 0
IsFirstInvalid m (Invalid p n place) = FirstInvalid m p n place
IsFirstInvalid m OutOfMemory = Unit {0}

-- it is accepted, or memory ran out
abbrev pub Accepts : Result ValidModule ValidEnd → Type 0
Accepts (Ok v) = Unit {0}
Accepts (Err e) = e ≡ OutOfMemory

-- it is refused just there, or memory ran out
abbrev pub Refuses : Result ValidModule ValidEnd → Part → ℕ → ℕ → Type 0
Refuses (Ok v) p n place = ⊥
Refuses (Err e) p n place = (e ≡ Invalid p n place) ⊎ (e ≡ OutOfMemory)
