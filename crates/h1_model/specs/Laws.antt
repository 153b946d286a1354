-- What holds of every text: it spells one thing, and what it spells stays spelled when more bytes come.
use Rattle.std.specs.List.{list_all, list_any, flat_map}
use Rattle.std.specs.Prelude.{◌≡◌, [], ◌∷◌, true, Some, unwrap_or, ◌==◌, ◌≤◌, ◌||◌, ℕ, Bool, ◌&&◌, not, false, List, ◌++◌, length, slice_index, All, Option, None, IsSome, is_some, Ok, codes, nat_lt}
use Rattle.http_header.specs.FieldValue.{IsFieldValue}
use Rattle.http_uri.specs.ByteClasses.{slash}
use Rattle.httparse.specs.Grammar.{Field, field_value, RequestHead, ReadsRequest, ResponseHead, ReadsResponse, status_code}
use Rattle.header_maps.specs.declared.kind.ListKind.TheVariants.{Request}
use Rattle.header_maps.specs.Judged.{status_text}
use Rattle.header_maps.specs.Operations.{request_headers, status_kind}
use Rattle.h1_model.specs.Fields.{Pair, values_of, lists, is_listed, members, kept_fields, kept_response_fields}
use Rattle.h1_model.specs.Length.{nothing, exactly, chunked, until_end, Measure, number_of, is_number, is_chunked, request_measure, response_measure, is_without_body}
use Rattle.h1_model.specs.Listed.{scheme_text, request_list, response_list}
use Rattle.h1_model.specs.Target.{Target, GivesTarget}
use Rattle.h1_model.specs.Head.{Head, pairs_at, pairs_of, early_refusal, host_of, response_judged, IsJudged, is_coded, has_length_field, is_origin, HeadStep, found, not_yet, refused, SpellsStep, SpellsResponse}
use Rattle.h1_model.specs.Lines.{head_limit, line_limit, whole, head_cut}
use Rattle.h1_model.specs.Messages.{Placed, Stop, refusal, SpellsHead, trailers_left, Messages}

-- where a head is due, a text spells one thing
abbrev pub OneStep : Type 0
OneStep = (asked : Option (List ℕ)) (text : List ℕ) (a b : HeadStep) → SpellsHead asked text a → SpellsHead asked text b → a ≡ b

-- Where a head is due, each text is exactly one of three: a head, no head yet, or a refusal. That it is none of them cannot be. (The heads that
-- `httparse` reads are known by its grammar, which is a relation and no test, so that it is one of them is said by the denial of the contrary.)
pub record EachText : Type 0 where
  pub some : (asked : Option (List ℕ)) (text : List ℕ)
      → ((head : Head) (used : ℕ) → SpellsHead asked text (found head used) → ⊥) → (SpellsHead asked text not_yet → ⊥)
      → ((number : ℕ) → SpellsHead asked text (refused number) → ⊥) → ⊥
  pub head_is_there : (asked : Option (List ℕ)) (text : List ℕ) (head : Head) (used : ℕ)
      → SpellsHead asked text (found head used) → SpellsHead asked text not_yet → ⊥
  pub head_is_not_refused : (asked : Option (List ℕ)) (text : List ℕ) (head : Head) (used number : ℕ)
      → SpellsHead asked text (found head used) → SpellsHead asked text (refused number) → ⊥
  pub rest_is_not_refused : (asked : Option (List ℕ)) (text : List ℕ) (number : ℕ)
      → SpellsHead asked text not_yet → SpellsHead asked text (refused number) → ⊥

-- a head or a refusal that a text spells, every longer text spells
abbrev pub StepStays : Type 0
StepStays =
    (asked : Option (List ℕ)) (text more : List ℕ) (a : HeadStep) → SpellsHead asked text a → (a ≡ not_yet → ⊥)
    → SpellsHead asked (text ++ more) a

-- two readings of one text are equal
abbrev pub OneReading : Type 0
OneReading =
    (text : List ℕ) (ended : Bool) (asked : Option (List ℕ)) (items others : List Placed) (why reason : Stop)
    → Messages text ended asked items why → Messages text ended asked others reason → (items ≡ others) × (why ≡ reason)

-- a reading of a longer text begins with the items of the shorter
abbrev pub ReadingGrows : Type 0
ReadingGrows =
    (text more : List ℕ) (ended : Bool) (asked : Option (List ℕ)) (items others : List Placed) (why reason : Stop)
    → Messages text false asked items why → Messages (text ++ more) ended asked others reason
    → (behind : List Placed) × (others ≡ items ++ behind)

-- and a refusal stays
abbrev pub RefusalStays : Type 0
RefusalStays =
    (text more : List ℕ) (ended : Bool) (asked : Option (List ℕ)) (items others : List Placed) (number : ℕ) (reason : Stop)
    → Messages text false asked items (refusal number) → Messages (text ++ more) ended asked others reason
    → (others ≡ items) × (reason ≡ refusal number)

-- there is a field line of that name, which is in lower case
abbrev pub has_line : List ℕ → List Pair → Bool
has_line name fields = nat_lt 0 (length (values_of name fields))

-- a request head that is taken in tells whether it was received with a length field, and whether its target begins with `/`; and
-- it keeps the values of its Connection fields
abbrev pub ToldAsReceived : Type 0
ToldAsReceived =
    (method target : List ℕ) (minor : ℕ) (fields : List Pair) (head : Head) → IsJudged method target minor fields (Ok head)
    → (has_length_field head ≡ (has_line (codes "transfer-encoding") fields || has_line (codes "content-length") fields))
    × (is_origin head.form ≡ (slice_index target 0 == slash))
    × (head.connection ≡ values_of (codes "connection") fields)

-- A response head that is taken in tells a number exactly where it was received with Content-Length. It is under the chunked
-- coding exactly where it was received with Transfer-Encoding and may have a body. Its version is the one received, `close`
-- is what Connection lists, though that field does not pass, and `connection` are that field's values.
pub record IsResponseAsReceived (to_head : Bool) (minor status : ℕ) (fields : List Pair) (head : Head) : Type 0 where
  pub told : is_some head.told ≡ has_line (codes "content-length") fields
  pub coded : is_coded head.length ≡ (not (is_without_body to_head status) && has_line (codes "transfer-encoding") fields)
  pub version : head.minor ≡ minor
  pub close : head.close ≡ is_listed (codes "close") fields
  pub connection : head.connection ≡ values_of (codes "connection") fields

abbrev pub ResponseAsReceived : Type 0
ResponseAsReceived =
    (to_head : Bool) (minor status : ℕ) (fields : List Pair) (head : Head) → response_judged to_head minor status fields ≡ Ok head
    → IsResponseAsReceived to_head minor status fields head

-- no trailer that is left of a section has a name that one of the head's Connection values lists
abbrev pub TrailersUnlisted : Type 0
TrailersUnlisted =
    (asked : Option (List ℕ)) (connection : List (List ℕ)) (fields : List Pair)
    → list_all (λ (f : Pair). not (list_any (lists f.0) connection)) (trailers_left asked connection fields) ≡ true

-- a request is refused with 400, 431 or 501 alone, a response with 502 alone
abbrev pub is_request_refusal : ℕ → Bool
is_request_refusal number = number == 400 || (number == 431 || number == 501)

pub record RefusalNumbers : Type 0 where
  pub request : (text : List ℕ) (number : ℕ) → SpellsStep text (refused number) → is_request_refusal number ≡ true
  pub response : (to_head : Bool) (text : List ℕ) (number : ℕ) → SpellsResponse to_head text (refused number) → number ≡ 502

-- every value that is read is one that `http_header` takes
abbrev pub ValuesAccepted : Type 0
ValuesAccepted =
    (text : List ℕ) (head : RequestHead) (rest : List ℕ) → ReadsRequest text head rest
    → All (λ (f : Field). IsFieldValue (field_value f)) head.fields

-- a whole head is a front of the text of 65,536 bytes at most
abbrev pub WholeFits : Type 0
WholeFits = (text : List ℕ) (len : ℕ) → head_cut text ≡ whole len → (len ≤ length text) × (len ≤ head_limit)

-- the list of a head that is taken in is its pseudo-headers, and after them exactly the fields that are not dropped, in order,
-- with names in lower case; of a request these are four, of a response one
abbrev pub RequestListed : Type 0
RequestListed =
    (method target : List ℕ) (minor : ℕ) (fields : List Pair) (head : Head) → IsJudged method target minor fields (Ok head)
    → (parts : Target) × GivesTarget method target parts
    × (head.fields.kind ≡ Request)
    × (head.fields.pairs
    ≡ (request_headers method (scheme_text parts.scheme) (unwrap_or parts.authority (host_of (values_of (codes "host") fields))) parts.path).pairs
    ++ kept_fields fields)

abbrev pub ResponseListed : Type 0
ResponseListed =
    (to_head : Bool) (minor status : ℕ) (fields : List Pair) (head : Head) → response_judged to_head minor status fields ≡ Ok head
    → (head.fields.kind ≡ status_kind status)
    × (head.fields.pairs ≡ (codes ":status", status_text status) ∷ kept_response_fields fields)

-- A message that is taken in is framed in one way alone, so no reader after the gateway can see another end of it: under the
-- chunked coding there is no Content-Length and one Transfer-Encoding line, which is `chunked`; a length of n comes only where
-- there is no Transfer-Encoding, and every member of every Content-Length line writes n; and a message that tells nothing, or
-- goes on until the line ends, was received with neither field (RFC 9112, section 11.2). The measure of a response is the one
-- before `bodied` takes away the length of a response that has no body.
pub record IsFramedOnce (minor : ℕ) (codings lengths : List (List ℕ)) (measure : Measure) : Type 0 where
  pub chunked_alone : measure.length ≡ chunked → (lengths ≡ []) × (is_chunked codings ≡ true) × (minor ≡ 0 → ⊥)
  pub one_length : (n : ℕ) → measure.length ≡ exactly n
      → (codings ≡ []) × (list_all (λ m. is_number (number_of m) n) (flat_map members lengths) ≡ true) × (measure.told ≡ Some n)
  pub told_alone : (n : ℕ) → measure.told ≡ Some n
      → (codings ≡ []) × (list_all (λ m. is_number (number_of m) n) (flat_map members lengths) ≡ true)
  pub untold : measure.length ≡ nothing → measure.told ≡ None → (codings ≡ []) × (lengths ≡ [])
  pub unending : measure.length ≡ until_end → (codings ≡ []) × (lengths ≡ [])

pub record FramedOnce : Type 0 where
  pub request : (minor : ℕ) (codings lengths : List (List ℕ)) (measure : Measure) → request_measure minor codings lengths ≡ Ok measure
      → IsFramedOnce minor codings lengths measure
  pub response : (minor : ℕ) (codings lengths : List (List ℕ)) (measure : Measure) → response_measure minor codings lengths ≡ Ok measure
      → IsFramedOnce minor codings lengths measure

-- No head that is read is refused for what its list takes: where a request's Host lines are right and its target gives parts,
-- it has a list; and so has a response with a status that is taken. What is left to refuse it is the rule of length.
abbrev pub RequestTaken : Type 0
RequestTaken =
    (text : List ℕ) (head : RequestHead) (rest : List ℕ) (parts : Target) → ReadsRequest text head rest → length text ≤ head_limit
    → length head.fields ≤ line_limit → early_refusal head.method head.minor (pairs_of head) ≡ None
    → GivesTarget head.method head.target parts
    → IsSome (request_list head.method parts (host_of (values_of (codes "host") (pairs_of head))) (pairs_of head))

abbrev pub ResponseTaken : Type 0
ResponseTaken =
    (text : List ℕ) (head : ResponseHead) (rest : List ℕ) → ReadsResponse text head rest → length text ≤ head_limit
    → length head.fields ≤ line_limit → 100 ≤ status_code head → status_code head ≤ 599 → (status_code head ≡ 101 → ⊥)
    → IsSome (response_list (status_code head) (pairs_at head.fields))
