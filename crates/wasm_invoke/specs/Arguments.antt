-- Arguments as they are written: decimal digits, one word for each parameter.
use Rattle.std.specs.Prelude.{ℕ, ◌^◌, ◌<◌, List, [], ◌∷◌}
use Rattle.std.specs.Str.Parse.{IsNumeral, digits_value}
use Rattle.wasm_syntax.specs.declared.types.Value.{Value}
use Rattle.wasm_syntax.specs.declared.types.Value.TheVariants as values
use Rattle.wasm_syntax.specs.declared.types.ValueType.{ValueType}
use Rattle.wasm_syntax.specs.declared.types.ValueType.TheVariants.{I32, I64}

-- the first number past the type's, and the number as a value of the type
abbrev pub bound_of : ValueType → ℕ
bound_of I32 = 2 ^ 32
bound_of I64 = 2 ^ 64

abbrev pub as_value : ValueType → ℕ → Value
as_value I32 n = values.I32 n
as_value I64 n = values.I64 n

-- the word is decimal digits, and their number is one of the type
pub record Fits (of : ValueType) (word : List ℕ) : Type 0 where
  pub digits : IsNumeral 10 word
  pub small : digits_value 10 word < bound_of of

abbrev pub value_of : ValueType → List ℕ → Value
value_of of word = as_value of (digits_value 10 word)

-- there is a word for each type, which fits it
abbrev pub AllFit : List ValueType → List (List ℕ) → Type 0
AllFit [] [] = Unit {0}
AllFit [] (word ∷ words) = ⊥
AllFit (of ∷ types) [] = ⊥
AllFit (of ∷ types) (word ∷ words) = Fits of word × AllFit types words

abbrev pub values_of : List ValueType → List (List ℕ) → List Value
values_of [] words = []
values_of (of ∷ types) [] = []
values_of (of ∷ types) (word ∷ words) = value_of of word ∷ values_of types words
