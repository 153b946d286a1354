-- The head of a message, and what a text spells where one is due (RFC 9112, sections 2 to 6).
use Rattle.std.specs.Prelude.{◌≡◌, ◌⊎◌, ℕ, ◌+◌, Bool, true, false, ◌||◌, List, [], ◌∷◌, map, take, Option, None, Some, MatchOption, is_some, Result, Ok, Err, codes, bytes_eq, ◌==◌, if◌then◌else◌}
use Rattle.std.specs.List.{list_all}
use Rattle.httparse.specs.Grammar.{Field, RequestHead, ReadsRequest, ResponseHead, ReadsResponse, status_code}
use Rattle.httparse.specs.Spans.{name_and_value}
use Rattle.header_maps.specs.Headers.{Headers}
use Rattle.header_maps.specs.Operations.{no_headers}
use Rattle.h1_model.specs.Fields.{Pair, values_of, is_listed}
use Rattle.h1_model.specs.Length.{BodyLength, nothing, exactly, chunked, until_end, Measure, request_measure, response_measure, is_without_body, measure_of_body}
use Rattle.h1_model.specs.Lines.{Cut, whole, too_large, unfinished, head_cut, empty_line_bytes, after_empty_lines}
use Rattle.h1_model.specs.Listed.{request_list, response_list}
use Rattle.h1_model.specs.Target.{TargetForm, origin, absolute, asterisk, Target, is_visible, IsTargetOf}

-- a head as a gateway takes it in: `fields` are its pseudo-headers and the fields that pass, with names in lower case; `tail`
-- are those that stand after the framing field on the way out, of which a head that was read has none; `form` is the form of a
-- request's target, which laws of what is read speak of and nothing else; `told` is the number of Content-Length; `close` says that Connection lists `close`; `connection` are the values of its Connection fields as they were
-- received, in order, which name fields that do not pass, be it in the head or among the trailers
pub record Head : Type 0 where
  pub fields : Headers
  pub tail : Headers
  pub form : Option TargetForm
  pub minor : ℕ
  pub length : BodyLength
  pub told : Option ℕ
  pub close : Bool
  pub connection : List (List ℕ)

-- the Host lines of a message of HTTP/1.minor are right: one, or in 1.0 none, and of visible bytes (RFC 9112, section 3.2)
abbrev pub is_host_right : ℕ → List (List ℕ) → Bool
is_host_right minor [] = minor == 0
is_host_right minor (host ∷ []) = list_all is_visible host
is_host_right minor (host ∷ other ∷ hosts) = false

-- the value of Host, or nothing
abbrev pub host_of : List (List ℕ) → List ℕ
host_of [] = []
host_of (host ∷ hosts) = host

-- the head of a message that has this list, and these fields as they were received
abbrev pub head_of : Headers → Option TargetForm → ℕ → List Pair → Measure → Head
head_of headers form minor fields measure = record {
  fields = headers;
  tail = no_headers;
  form = form;
  minor = minor;
  length = measure.length;
  told = measure.told;
  close = is_listed (codes "close") fields;
  connection = values_of (codes "connection") fields;
}

-- the rule of length comes last
abbrev pub measured : Headers → Option TargetForm → ℕ → List Pair → Result Measure ℕ → Result Head ℕ
measured headers form minor fields (Ok measure) = Ok (head_of headers form minor fields measure)
measured headers form minor fields (Err number) = Err number

-- what no header list takes is malformed, which has this number
abbrev pub head_of_list : ℕ → Option Headers → Option TargetForm → ℕ → List Pair → Result Measure ℕ → Result Head ℕ
head_of_list malformed None form minor fields measure = Err malformed
head_of_list malformed (Some headers) form minor fields measure = measured headers form minor fields measure

-- the head that such a target gives, or the number of a refusal; a target that gives no parts is malformed
abbrev pub head_of_target : List ℕ → ℕ → List Pair → Option Target → Result Head ℕ
head_of_target method minor fields None = Err 400
head_of_target method minor fields (Some target) =
    head_of_list 400 (request_list method target (host_of (values_of (codes "host") fields)) fields) (Some target.form) minor fields
    (request_measure minor (values_of (codes "transfer-encoding") fields) (values_of (codes "content-length") fields))

-- what is refused before the target is looked at: CONNECT (501) first, then Host (400)
abbrev pub early_refusal : List ℕ → ℕ → List Pair → Option ℕ
early_refusal method minor fields =
    if bytes_eq method (codes "CONNECT") then Some 501
    else (if is_host_right minor (values_of (codes "host") fields) then None else Some 400)

-- a head of these parts is judged by what its target gives
pub record IsTargeted (method target : List ℕ) (minor : ℕ) (fields : List Pair) (answer : Result Head ℕ) : Type 0 where
  pub parts : Option Target
  pub gives : IsTargetOf method target parts
  pub is : answer ≡ head_of_target method minor fields parts

-- what a gateway makes of a head of these parts: the head that it takes in, or the number of a refusal
abbrev pub IsJudged : List ℕ → List ℕ → ℕ → List Pair → Result Head ℕ → Type 0
IsJudged method target minor fields answer =
    MatchOption (early_refusal method minor fields) (IsTargeted method target minor fields answer) (λ number. answer ≡ Err number)

-- the names and values of the fields of a head that was read
abbrev pub pairs_at : List Field → List Pair
pairs_at fields = map name_and_value fields

abbrev pub pairs_of : RequestHead → List Pair
pairs_of h = pairs_at h.fields

-- the text of a whole head, its lines and the empty line, is read as a head, which is judged
pub record IsHeadText (front : List ℕ) (answer : Result Head ℕ) : Type 0 where
  pub head : RequestHead
  pub reads : ReadsRequest front head []
  pub judged : IsJudged head.method head.target head.minor (pairs_of head) answer

-- it is read as no head: it is malformed
pub record IsNoHeadText (front : List ℕ) (answer : Result Head ℕ) : Type 0 where
  pub none : (head : RequestHead) → ReadsRequest front head [] → ⊥
  pub is : answer ≡ Err 400

-- What a whole head's text gives. The heads that `httparse` reads are known by its grammar, so this is a relation.
-- (A value of that grammar has only bytes that `http_header` takes, so no value is refused for its own sake.)
abbrev pub IsAnswer : List ℕ → Result Head ℕ → Type 0
IsAnswer front answer = IsHeadText front answer ⊎ IsNoHeadText front answer

-- what a gateway makes of a response head with this status and these fields: the head that it takes in, or the number of a
-- refusal; `to_head` says that it answers a HEAD request. Fields that tell a length are judged where there is no body too.
abbrev pub response_judged : Bool → ℕ → ℕ → List Pair → Result Head ℕ
response_judged to_head minor status fields =
    head_of_list 502 (response_list status fields) None minor fields
    (measure_of_body (is_without_body to_head status)
    (response_measure minor (values_of (codes "transfer-encoding") fields) (values_of (codes "content-length") fields)))

-- the same two for a response
pub record IsResponseText (to_head : Bool) (front : List ℕ) (answer : Result Head ℕ) : Type 0 where
  pub head : ResponseHead
  pub reads : ReadsResponse front head []
  pub judged : answer ≡ response_judged to_head head.minor (status_code head) (pairs_at head.fields)

pub record IsNoResponseText (front : List ℕ) (answer : Result Head ℕ) : Type 0 where
  pub none : (head : ResponseHead) → ReadsResponse front head [] → ⊥
  pub is : answer ≡ Err 502

abbrev pub IsResponseAnswer : Bool → List ℕ → Result Head ℕ → Type 0
IsResponseAnswer to_head front answer = IsResponseText to_head front answer ⊎ IsNoResponseText front answer

-- what a text spells where a head is due: a head, with how many bytes it uses up; nothing as yet; or a refusal's number
pub data HeadStep : Type 0 where
  found : Head → ℕ → HeadStep
  not_yet : HeadStep
  refused : ℕ → HeadStep

-- a head's answer, where the head ends at this place
abbrev pub step_of : ℕ → Result Head ℕ → HeadStep
step_of used (Ok head) = found head used
step_of used (Err number) = refused number

-- A text whose empty lines at the front take so many bytes, and the rest of it. `answers` says what the text of a whole head
-- gives; `large` is the number of a head that has grown too large.
abbrev pub IsStepAt : (List ℕ → Result Head ℕ → Type 0) → ℕ → ℕ → List ℕ → Cut → HeadStep → Type 0
IsStepAt answers large at text (whole len) step =
    (answer : Result Head ℕ) × answers (take len text) answer × (step ≡ step_of (at + len) answer)
IsStepAt answers large at text too_large step = step ≡ refused large
IsStepAt answers large at text unfinished step = step ≡ not_yet

-- Empty lines before a head are skipped and used up with it; it is judged when its empty line has come, and too large before
-- malformed.
abbrev pub SpellsBy : (List ℕ → Result Head ℕ → Type 0) → ℕ → List ℕ → HeadStep → Type 0
SpellsBy answers large text step =
    let rest = after_empty_lines text in IsStepAt answers large (empty_line_bytes text) rest (head_cut rest) step

-- what a text spells where a request head is due
abbrev pub SpellsStep : List ℕ → HeadStep → Type 0
SpellsStep text step = SpellsBy IsAnswer 431 text step

-- what a text spells where the head of a response is due, to a HEAD request or to another
abbrev pub SpellsResponse : Bool → List ℕ → HeadStep → Type 0
SpellsResponse to_head text step = SpellsBy (IsResponseAnswer to_head) 502 text step

-- Two questions on a request head that a text spells, as it was received: has it a Content-Length or a Transfer-Encoding field,
-- and does its target begin with `/`? (A response without a body keeps no sign of Transfer-Encoding, so the first is
-- a question on requests alone.)
abbrev pub is_coded : BodyLength → Bool
is_coded nothing = false
is_coded (exactly n) = false
is_coded chunked = true
is_coded until_end = false

abbrev pub has_length_field : Head → Bool
has_length_field head = is_some head.told || is_coded head.length

abbrev pub is_origin : Option TargetForm → Bool
is_origin (Some origin) = true
is_origin (Some absolute) = false
is_origin (Some asterisk) = false
is_origin None = false
