-- What is said of the definitions.
use Rattle.std.specs.Prelude.{◌≡◌, ℕ, ◌<◌, ◌^◌, Bool, false, true, List, [], ◌∷◌, ◌++◌, length, Option, None, Some, codes, if◌then◌else◌}
use Rattle.header_maps.specs.declared.kind.ListKind.TheVariants.{Request, Response, Plain}
use Rattle.header_maps.specs.Judged.{status_text}
use Rattle.httpdate.specs.Valid.{IsValid, parts_secs}
use Rattle.h1_model.specs.Fields.{Pair}
use Rattle.h1_model.specs.Framing.{Framing, no_body, framing_of, head, piece, head_wire, items_wire}
use Rattle.h1_model.specs.Head.{Head}
use Rattle.h1_model.specs.Length.{exactly, is_without_body}
use Rattle.h1_model.specs.LocalReply.{has_date, sent_body, local_reply_of}
use Rattle.h1_model.specs.Moment.{second_of, date_of_second, moment_text}
use Rattle.h1_model.specs.Wire.{sent_fields, via_of, close_field, wire_of}

-- the numbers are a date and a time of day of the calendar, and they are those of this second
pub record IsDateOfSecond (second : ℕ) : Type 0 where
  pub valid : IsValid (date_of_second second)
  pub seconds : parts_secs (date_of_second second) ≡ second

-- so it is of every moment of 64 bits, the last of which is in the year 2554
abbrev pub MomentsHaveTexts : Type 0
MomentsHaveTexts = (now : ℕ) → now < 2 ^ 64 → IsDateOfSecond (second_of now)

-- ---- replies as messages

-- the fields that stand after the framing field of a reply
abbrev pub date_pairs : List Pair → ℕ → List Pair
date_pairs sent now = if has_date sent then [] else (codes "date", moment_text now) ∷ []

abbrev pub close_pairs : Bool → List Pair
close_pairs closes = if closes then close_field ∷ [] else []

-- the number that a reply tells of its body
abbrev pub reply_told : ℕ → List ℕ → Option ℕ
reply_told status body = if is_without_body false status then None else Some (length body)

-- the head of a reply
abbrev pub reply_head : ℕ → List Pair → List ℕ → Bool → ℕ → Head
reply_head status fields body closes now = record {
  fields = record { kind = Response; pairs = (codes ":status", status_text status) ∷ fields };
  tail = record { kind = Plain; pairs = date_pairs (sent_fields fields) now ++ close_pairs closes };
  form = None;
  minor = 1;
  length = exactly (length body);
  told = reply_told status body;
  close = closes;
  connection = [];
}

-- its framing, where no filter changes the body
abbrev pub reply_framing : ℕ → List ℕ → Bool → Bool → Framing
reply_framing status body head_request old_client =
    framing_of (is_without_body head_request status) false old_client (Some status) (reply_told status body) (exactly (length body))

-- A reply has the bytes of a message that is framed as every other is: of its head, and its body as one piece. A client of
-- HTTP/1.0 is sent the same.
abbrev pub ReplyIsWire : Type 0
ReplyIsWire =
    (status : ℕ) (fields : List Pair) (body : List ℕ) (head_request closes old_client : Bool) (now : ℕ)
    → local_reply_of status fields body head_request closes now
    ≡ items_wire (reply_framing status body head_request old_client)
    (head (reply_head status fields body closes now) ∷ piece (sent_body status head_request body) true ∷ [])

-- The head of a request that tells no body, with `via` and `connection: close` for its tail, goes out as it went out before
-- there was a choice.
abbrev pub HeadIsWire : Type 0
HeadIsWire =
    (h : Head) → h.fields.kind ≡ Request → h.tail.pairs ≡ via_of h.minor ∷ close_field ∷ [] → head_wire no_body h ≡ wire_of h
