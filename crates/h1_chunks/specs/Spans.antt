-- The fields of a section, as the spans of its text say them.
use Rattle.std.specs.Prelude.{◌≡◌, ◌≤◌, List, length, All, Option, true}
use Rattle.std.specs.Option.{option_map}
use Rattle.header_maps.specs.Headers.{Headers}
use Rattle.header_maps.specs.Judged.{is_field_name, is_field_value}
use Rattle.h1_model.specs.Fields.{Pair}

-- a header list takes the name and the value
pub record IsTaken (field : Pair) : Type 0 where
  pub name : is_field_name field.0 ≡ true
  pub value : is_field_value field.1 ≡ true

-- a header list takes all of them
pub record AreTaken (fields : List Pair) : Type 0 where
  pub each : All IsTaken fields
  pub few : length fields ≤ 100

-- the pairs of a list
abbrev pub pairs_of : Headers → List Pair
pairs_of headers = headers.pairs

abbrev pub pairs_if : Option Headers → Option (List Pair)
pairs_if list = option_map pairs_of list
