-- What stands after the data of a chunked body.
use Rattle.std.specs.Prelude.{◌≡◌, ◌⊎◌, ℕ, Bool, true, false, List, Option, None, Some}
use Rattle.h1_model.specs.Chunks.{Place, sought}
use Rattle.h1_model.specs.Messages.{request, interim, response, octet, end, trailers, body, coded, due_next, Step, item, stop, StepsTo}
use Rattle.h1_model.specs.Unread.{IsNoOctet}
use Rattle.h1_chunks.specs.Answers.{is_data}

-- a step that is no end of a body
abbrev pub is_no_end : Step → Bool
is_no_end (item (request h) n due) = true
is_no_end (item (interim h) n due) = true
is_no_end (item (response h) n due) = true
is_no_end (item (octet b) n due) = true
is_no_end (item end n due) = false
is_no_end (item (trailers fields) n due) = true
is_no_end (stop why) = true

-- the step is the body's end, which takes so many bytes; or it is none
abbrev pub EndsBy : Option (List ℕ) → Option ℕ → Step → Type 0
EndsBy asked (Some n) step = step ≡ item end n (due_next asked)
EndsBy asked None step = is_no_end step ≡ true

-- from a place in the coding on, after a head with these Connection values, the body's end comes, which takes so many bytes, or
-- something else does; a byte only where data is sought
pub record StandsBehind (ended : Bool) (asked : Option (List ℕ)) (connection : List (List ℕ)) (place : Place) (text : List ℕ) (found : Option ℕ) : Type 0 where
  pub step : Step
  pub there : StepsTo ended asked (body (coded connection place)) text step
  pub ends : EndsBy asked found step
  pub bytes : IsNoOctet step ⊎ (is_data (sought place text) ≡ true)
