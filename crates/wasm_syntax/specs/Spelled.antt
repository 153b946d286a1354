-- What every module that bytes spell keeps, as the bounds of the profile.
use Rattle.std.specs.Prelude.{◌≡◌, ◌≤◌, List, length}
use Rattle.std.specs.List.{AllByRecursion}
use Rattle.wasm_syntax.specs.declared.module.Code.{Code}
use Rattle.wasm_syntax.specs.declared.module.Element.{Element}
use Rattle.wasm_syntax.specs.declared.module.Module.{Module}
use Rattle.wasm_syntax.specs.Grammar.{most_bytes}
use Rattle.wasm_syntax.specs.Validity.{IsBounded}

-- a vector has at most 65,536 entries
abbrev pub IsVector : {A : Type 0} → List A → Type 0
IsVector xs = length xs ≤ 65536

-- each instruction takes a byte at least
pub record IsSpelledCode (code : Code) : Type 0 where
  pub bounded : IsBounded code
  pub short : length code.body ≤ most_bytes

pub record IsSpelled (m : Module) : Type 0 where
  pub types : IsVector m.types
  pub imports : IsVector m.imports
  pub functions : IsVector m.functions
  pub tables : IsVector m.tables
  pub memories : IsVector m.memories
  pub globals : IsVector m.globals
  pub exports : IsVector m.exports
  pub elements : IsVector m.elements
  pub codes : IsVector m.codes
  pub segments : IsVector m.segments
  pub indices : AllByRecursion (λ (e : Element). IsVector e.functions) m.elements
  pub coded : length m.functions ≡ length m.codes
  pub each_code : AllByRecursion IsSpelledCode m.codes
