-- Bytes of one module, of which no fewer spell it.
use Rattle.std.specs.Prelude.{ℕ, List}
use Rattle.wasm_syntax.specs.declared.module.Module.{Module}
use Rattle.wasm_syntax.specs.Numbers.{IsShortest}
use Rattle.wasm_syntax.specs.Grammar.{Spells}

-- The text spells the module that the bytes spell, and no fewer bytes do.
pub record IsShortestOf (bytes text : List ℕ) : Type 0 where
  pub value : Module
  pub spelled : Spells bytes value
  pub shortest : IsShortest (λ other. Spells other value) text
