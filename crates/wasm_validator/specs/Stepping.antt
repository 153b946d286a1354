-- What a step of the checker tells.
use Rattle.std.specs.Prelude.{◌≡◌, ℕ, List, [], ◌∷◌, Option, Some, None}
use Rattle.wasm_syntax.specs.declared.row.Row.{Row}
use Rattle.wasm_syntax.specs.Typing.{Context}
use Rattle.wasm_validator.specs.declared.checker.Step.{Step}
use Rattle.wasm_validator.specs.declared.checker.Step.TheVariants.{Goes, Ends, Fails}
use Rattle.wasm_validator.specs.Checking.{and_then, Layer, Rule, within, rule_of, acted, with_stack}

abbrev pub Led : Step → Option (List Layer) → List Layer → Type 0
Led Goes there now = there ≡ Some now
Led Ends there now = there ≡ Some []
Led Fails there now = there ≡ None

-- the innermost block behind a rule
abbrev pub changed_by : Rule → List Layer → Option (List Layer)
changed_by r [] = None
changed_by r (l ∷ ls) = and_then (acted r l.stack) (λ p. Some (with_stack l p ∷ ls))

-- behind an instruction of this row that holds no others
abbrev pub acted_by : Context → List Layer → Row → (labels : List ℕ) → Option (List Layer)
acted_by c ls r labels = and_then (rule_of (within c ls) r labels) (λ rule. changed_by rule ls)
