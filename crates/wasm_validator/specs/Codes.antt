-- What looking at the codes in order tells.
use Rattle.std.specs.Prelude.{ℕ, ◌<◌, Option, Some, None}
use Rattle.wasm_syntax.specs.declared.module.Module.{Module}
use Rattle.wasm_syntax.specs.declared.valid.Part.{Part}
use Rattle.wasm_syntax.specs.declared.valid.Part.TheVariants as part
use Rattle.wasm_syntax.specs.Validity.{IsGood, IsPlace, entries_of}
use Rattle.wasm_validator.specs.declared.code.Fault.{Fault}
use Rattle.wasm_validator.specs.Parts.{Finds, IsFirstBad}

-- the first code that is not valid, and the place in it
pub record IsFirstBadCode (m : Module) (n place : ℕ) : Type 0 where
  pub first : IsFirstBad m part.Code n
  pub at : IsPlace m part.Code n place

abbrev pub FindsCode : Module → Option Fault → Type 0
FindsCode m None = Finds m part.Code None
FindsCode m (Some f) = IsFirstBadCode m f.index f.place

-- every entry of a part is valid
abbrev pub AllGood : Module → Part → Type 0
AllGood m p = (n : ℕ) → n < entries_of m p → IsGood m p n
