-- The fields of a head, as the spans of its text say them.
use Rattle.std.specs.Prelude.{◌≡◌, ℕ, List, [], ◌∷◌, true}
use Rattle.header_maps.specs.Judged.{is_field_name, is_field_value}
use Rattle.h1_model.specs.Fields.{Pair}
use Rattle.h1_head.specs.declared.fields.FieldLines as code
use Rattle.h1_head.specs.declared.fields.FieldLines.TheVariants as lines

-- a list may take the field without looking at it again
pub record IsRead (field : Pair) : Type 0 where
  pub name : is_field_name field.0 ≡ true
  pub value : is_field_value field.1 ≡ true

-- there are at least two
pub record AreMany (values : List (List ℕ)) : Type 0 where
  pub first : List ℕ
  pub second : List ℕ
  pub others : List (List ℕ)
  pub are : values ≡ first ∷ second ∷ others

-- these are the values of the lines
abbrev pub AreLines : List (List ℕ) → code.FieldLines → Type 0
AreLines values lines.Absent = values ≡ []
AreLines values (lines.One value) = values ≡ value.now ∷ []
AreLines values lines.Many = AreMany values
