-- The length of a body, as the code's values say it.
use Rattle.std.specs.Prelude.{◌≡◌, ◌<◌, ℕ, Bool, true, List, [], ◌∷◌, length, Option, None, Some, Result, Ok, Err, ◌==◌, if◌then◌else◌}
use Rattle.std.specs.Option.{option_and_then}
use Rattle.std.specs.List.{flat_map}
use Rattle.h1_model.specs.Fields.{members}
use Rattle.h1_model.specs.Length as model
use Rattle.h1_head.specs.declared.head.Length as code
use Rattle.h1_head.specs.declared.head.Length.TheVariants as lengths
use Rattle.h1_head.specs.declared.length.Measure as measure
use Rattle.h1_head.specs.declared.length.Told as told
use Rattle.h1_head.specs.declared.length.Told.TheVariants as tolds

-- the length that a value says
abbrev pub seen_length : code.Length → model.BodyLength
seen_length lengths.Nothing = model.nothing
seen_length (lengths.Exactly n) = model.exactly n
seen_length lengths.Chunked = model.chunked
seen_length lengths.UntilEnd = model.until_end

abbrev pub seen_measure : measure.Measure → model.Measure
seen_measure m = record { length = seen_length m.length; told = m.told }

abbrev pub seen_measure_result : Result measure.Measure ℕ → Result model.Measure ℕ
seen_measure_result (Ok m) = Ok (seen_measure m)
seen_measure_result (Err number) = Err number

-- the number agrees with what is known
abbrev pub fits : Option ℕ → ℕ → Bool
fits None n = true
fits (Some known) n = n == known

-- the one number that the members write, one after another, and that is the known one
abbrev pub agreed_length : Option ℕ → List (List ℕ) → Option ℕ
agreed_length known [] = known
agreed_length known (m ∷ ms) = option_and_then (λ n. if fits known n then agreed_length (Some n) ms else None) (model.number_of m)

-- the lines are there, and their members write this one number, or none
pub record AreOne (values : List (List ℕ)) (number : Option ℕ) : Type 0 where
  pub some : 0 < length values
  pub one : model.one_number (flat_map members values) ≡ number

-- this is what the values of the lines tell
abbrev pub AreTold : List (List ℕ) → told.Told → Type 0
AreTold values tolds.Absent = values ≡ []
AreTold values (tolds.Number n) = AreOne values (Some n)
AreTold values tolds.Malformed = AreOne values None
