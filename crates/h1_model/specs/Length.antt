-- The length of a message's body (RFC 9112, section 6).
use Rattle.std.specs.Prelude.{ℕ, ◌^◌, ◌-◌, Bool, ◌&&◌, ◌||◌, false, List, [], ◌∷◌, length, Option, None, Some, Result, Ok, Err, codes, bytes_eq, ◌==◌, nat_lt, nat_le, if◌then◌else◌}
use Rattle.std.specs.List.{flat_map, list_all}
use Rattle.std.specs.Char.{is_ascii_digit}
use Rattle.std.specs.Str.Parse.{digits_value}
use Rattle.http_header.specs.Token.{lowercase}
use Rattle.h1_model.specs.Fields.{members}

-- no body, so many bytes, the chunked coding, or all that comes until the line ends (a response alone)
pub data BodyLength : Type 0 where
  nothing : BodyLength
  exactly : ℕ → BodyLength
  chunked : BodyLength
  until_end : BodyLength

-- the body's length, and the number that Content-Length told, if it did
pub record Measure : Type 0 where
  pub length : BodyLength
  pub told : Option ℕ

-- the largest length: RFC 9110 section 8.6 has no bound, this profile has one
abbrev pub length_limit : ℕ
length_limit = 2 ^ 63 - 1

-- the number that a member of Content-Length writes: 1*DIGIT, leading zeros allowed (RFC 9110, section 8.6)
abbrev pub number_of : List ℕ → Option ℕ
number_of member =
    if (nat_lt 0 (length member) && list_all is_ascii_digit member) && nat_le (digits_value 10 member) length_limit
    then Some (digits_value 10 member) else None

-- the member writes this number
abbrev pub is_number : Option ℕ → ℕ → Bool
is_number None n = false
is_number (Some m) n = m == n

-- the one number that all the members write
abbrev pub all_as : List (List ℕ) → Option ℕ → Option ℕ
all_as others None = None
all_as others (Some n) = if list_all (λ m. is_number (number_of m) n) others then Some n else None

abbrev pub one_number : List (List ℕ) → Option ℕ
one_number [] = None
one_number (first ∷ others) = all_as others (number_of first)

-- Content-Length lines, of which at least one is there: one number, repeated or not, or the message is malformed (400);
-- a length of 0 is no body
abbrev pub told_measure : Option ℕ → Result Measure ℕ
told_measure None = Err 400
told_measure (Some n) = Ok (record { length = if n == 0 then nothing else exactly n; told = Some n })

-- the coding is `chunked` alone, in any case of letters (RFC 9112, section 7)
abbrev pub is_chunked : List (List ℕ) → Bool
is_chunked [] = false
is_chunked (coding ∷ []) = bytes_eq (lowercase coding) (codes "chunked")
is_chunked (coding ∷ other ∷ codings) = false

-- Transfer-Encoding lines, of which at least one is there. With Content-Length the message is malformed, where RFC 9112
-- section 6.1 lets a server choose, and so it is in HTTP/1.0; a coding other than `chunked` is not implemented (501).
abbrev pub coded_measure : ℕ → List (List ℕ) → List (List ℕ) → Result Measure ℕ
coded_measure minor codings lengths =
    if nat_lt 0 (length lengths) || minor == 0 then Err 400
    else (if is_chunked codings then Ok (record { length = chunked; told = None }) else Err 501)

-- the length of a request's body from the values of its Transfer-Encoding and Content-Length lines, or the number of a refusal
abbrev pub request_measure : ℕ → List (List ℕ) → List (List ℕ) → Result Measure ℕ
request_measure minor [] [] = Ok (record { length = nothing; told = None })
request_measure minor [] (value ∷ values) = told_measure (one_number (flat_map members (value ∷ values)))
request_measure minor (coding ∷ codings) lengths = coded_measure minor (coding ∷ codings) lengths

-- a response that tells no length goes on until the line ends
abbrev pub open_measure : Measure
open_measure = record { length = until_end; told = None }

-- Whatever is wrong with the length of a response, the response is malformed (502). So it is where its last coding is not
-- `chunked`, where RFC 9112 section 6.3 would have its body go on until the line ends.
abbrev pub or_malformed : Result Measure ℕ → Result Measure ℕ
or_malformed (Ok measure) = Ok measure
or_malformed (Err number) = Err 502

-- the length of a response's body from the values of the same lines, where its status lets it have one
abbrev pub response_measure : ℕ → List (List ℕ) → List (List ℕ) → Result Measure ℕ
response_measure minor [] [] = Ok open_measure
response_measure minor [] (value ∷ values) = or_malformed (request_measure minor [] (value ∷ values))
response_measure minor (coding ∷ codings) lengths = or_malformed (request_measure minor (coding ∷ codings) lengths)

-- the response to a HEAD request, an interim head, and one of 204 or 304 have no body, whatever their fields tell
-- (RFC 9112, section 6.3)
abbrev pub is_without_body : Bool → ℕ → Bool
is_without_body to_head status = (to_head || nat_lt status 200) || (status == 204 || status == 304)

abbrev pub without_body : Bool → Measure → Measure
without_body bare measure = if bare then record { length = nothing; told = measure.told } else measure

abbrev pub measure_of_body : Bool → Result Measure ℕ → Result Measure ℕ
measure_of_body bare (Ok measure) = Ok (without_body bare measure)
measure_of_body bare (Err number) = Err number
