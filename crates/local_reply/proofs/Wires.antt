-- A reply is a message that is framed as every other is.
use Rattle.std.proofs.Common.{◌≡◌, ℕ, ◌==◌, Bool, true, false, ◌||◌, not, if◌then◌else◌, nat_lt, List, [], ◌∷◌, ◌++◌, None, Some, codes, decimal, inl, inr, refl, sym, ap, ◌∙◌}
use Rattle.std.proofs.lemmas.Bool.{cases_Bool}
use Rattle.std.proofs.lemmas.List.{append-nil, append_assoc}
use Rattle.header_maps.specs.Judged.{status_text}
use Rattle.header_maps.specs.declared.kind.ListKind.TheVariants.{Request}
use Rattle.httparse.specs.Ascii.{crlf_bytes}
use Rattle.httparse.proofs.OnLiterals.{httparse_on_literals}
use Rattle.h1_model.specs.Fields.{Pair}
use Rattle.h1_model.specs.Framing.{Framing, no_body, told_framing, body_framing, for_client, framing_line, piece_wire, head_wire, response_line, start_lines}
use Rattle.h1_model.specs.Head.{Head}
use Rattle.h1_model.specs.Length.{exactly}
use Rattle.h1_model.specs.LocalReply.{status_line, length_line, has_date, date_line, close_line, sent_body}
use Rattle.h1_model.specs.Moment.{moment_text}
use Rattle.h1_model.specs.Wire.{field_line, field_lines, sent_fields, via_of, close_field}
use Rattle.local_reply.specs.Laws.{date_pairs, close_pairs, reply_head, reply_framing, ReplyIsWire, HeadIsWire}

-- the tail of a reply, as lines
tail_lines : (sent : List Pair) (now : ℕ) (closes : Bool)
    → field_lines (date_pairs sent now ++ close_pairs closes) ≡ date_line sent now ++ close_line closes
tail_lines sent now closes =
    elim (cases_Bool (has_date sent)) [
      | inl dated ↦ rw dated (close_lines closes)
      | inr bare ↦ rw bare (ap (λ t. field_line (codes "date", moment_text now) ++ t) (close_lines closes))
    ]
  where
    close_lines : (c : Bool) → field_lines (close_pairs c) ≡ close_line c
    close_lines true = append-nil (field_line close_field)
    close_lines false = refl

-- what frames a reply, by what its status says: the request was HEAD, the status is interim, 204 or 304
abbrev framing_by : Bool → Bool → Bool → Bool → Bool → ℕ → Framing
framing_by to_head early empty unchanged old n =
    for_client old
    (if (to_head || early) || (empty || unchanged)
    then (if not (early || empty) then told_framing (if (false || early) || (empty || unchanged) then None else Some n) else no_body)
    else body_framing false (exactly n))

-- the framing field of a reply is its length
line_by : (to_head early empty unchanged old : Bool) (n : ℕ) → framing_line (framing_by to_head early empty unchanged old n)
    ≡ (if (false || early) || (empty || unchanged) then [] else field_line (codes "content-length", decimal n))
line_by true true empty unchanged old n = refl
line_by true false true unchanged old n = refl
line_by true false false true old n = refl
line_by true false false false old n = refl
line_by false true empty unchanged old n = refl
line_by false false true unchanged old n = refl
line_by false false false true old n = refl
line_by false false false false old n = refl

-- and its body goes out as it is
piece_by : (to_head early empty unchanged old : Bool) (n : ℕ) (body : List ℕ)
    → piece_wire (framing_by to_head early empty unchanged old n) (if (to_head || early) || (empty || unchanged) then [] else body) true
    ≡ (if (to_head || early) || (empty || unchanged) then [] else body)
piece_by true true empty unchanged old n body = refl
piece_by true false true unchanged old n body = refl
piece_by true false false true old n body = refl
piece_by true false false false old n body = refl
piece_by false true empty unchanged old n body = refl
piece_by false false true unchanged old n body = refl
piece_by false false false true old n body = refl
piece_by false false false false old n body = refl

-- the status in front of the fields changes nothing of what goes out
same_sent : (status : ℕ) (fields : List Pair) → sent_fields ((codes ":status", status_text status) ∷ fields) ≡ sent_fields fields
unfolding httparse_on_literals
same_sent status fields = refl

same_start : (status : ℕ) (fields : List Pair) (body : List ℕ) (closes : Bool) (now : ℕ)
    → response_line (reply_head status fields body closes now).fields ≡ status_line status
unfolding httparse_on_literals
same_start status fields body closes now = refl

pub reply_is_wire : ReplyIsWire
reply_is_wire status fields body to_head closes old now =
    let h = reply_head status fields body closes now in
    let framing = reply_framing status body to_head old in
    let front = status_line status ++ field_lines (sent_fields fields) in
    let length = length_line status body in
    let date = date_line (sent_fields fields) now in
    let close = close_line closes in
    let tail = field_lines h.tail.pairs in
    let sent = sent_body status to_head body in
    let behind : front ++ length ++ date ++ close ≡ front ++ length ++ tail =
    append_assoc (front ++ length) date close ∙ ap (λ t. front ++ length ++ t) (sym (tail_lines (sent_fields fields) now closes)) in
    let framed : framing_line framing ≡ length =
    line_by to_head (nat_lt status 200) (status == 204) (status == 304) old _ in
    let start : response_line h.fields ++ field_lines (sent_fields h.fields.pairs) ≡ front =
    ap (λ l. l ++ field_lines (sent_fields h.fields.pairs)) (same_start status fields body closes now)
    ∙ ap (λ fs. status_line status ++ field_lines fs) (same_sent status fields) in
    let whole : head_wire framing h ≡ front ++ length ++ tail ++ crlf_bytes =
    ap (λ s. s ++ framing_line framing ++ tail ++ crlf_bytes) start ∙ ap (λ l. front ++ l ++ tail ++ crlf_bytes) framed in
    let carried : piece_wire framing sent true ++ [] ≡ sent =
    append-nil (piece_wire framing sent true) ∙ piece_by to_head (nat_lt status 200) (status == 204) (status == 304) old _ body in
    ap (λ x. x ++ crlf_bytes ++ sent) behind ∙ ap (λ w. w ++ sent) (sym whole) ∙ ap (λ b. head_wire framing h ++ b) (sym carried)

pub head_is_wire : HeadIsWire
head_is_wire h kind tail =
    let fields = field_lines (sent_fields h.fields.pairs) in
    let front = start_lines h Request ++ fields in
    let via = field_line (via_of h.minor) in
    let close = field_line close_field in
    let behind : front ++ [] ++ (via ++ (close ++ [])) ≡ front ++ via ++ close =
    ap (λ x. x ++ (via ++ (close ++ []))) (append-nil front) ∙ ap (λ c. front ++ (via ++ c)) (append-nil close)
    ∙ sym (append_assoc front via close) in
    ap (λ k. start_lines h k ++ fields ++ [] ++ field_lines h.tail.pairs ++ crlf_bytes) kind
    ∙ ap (λ t. front ++ [] ++ field_lines t ++ crlf_bytes) tail
    ∙ ap (λ x. x ++ crlf_bytes) behind
