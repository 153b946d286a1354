-- What the definitions of what goes up refuse.
use Rattle.std.proofs.Common.{◌≡◌, ◌≤◌, ℕ, suc, ◌+◌, ◌==◌, ◌&&◌, Bool, true, false, List, [], ◌∷◌, ◌++◌, map, length, length-append, drop, codes, refl, ap, ◌∙◌, sym, subst, arith}
use Rattle.std.proofs.lemmas.List.{append_assoc}
use Rattle.std.specs.List.{flat_map}
use Rattle.std.specs.Prelude.{None, if◌then◌else◌}
use Rattle.exchange.specs.Heads.{length_of, sent_head, up_tail, up_framing, request_of}
use Rattle.exchange.specs.Leaving.{request_framing}
use Rattle.exchange.specs.declared.types.Exchange.{Exchange}
use Rattle.exchange.specs.declared.types.Request.{Request}
use Rattle.law_exchange.specs.Lives.{is_over}
use Rattle.law_exchange.specs.Traffic.{Traffic, opens, byte, closes}
use Rattle.h1_write.specs.Lines.{OutRequest, out_wire}
use Rattle.h1_write.specs.Round.{Ending, last_bytes, last_trailers, body_items}
use Rattle.header_maps.specs.Headers.{Headers}
use Rattle.httparse.specs.Ascii.{crlf_bytes}
use Rattle.h1_model.specs.ChunkWire.{chunk_of, body_end}
use Rattle.h1_model.specs.Examples.{worked_head, worked_wire}
use Rattle.h1_model.specs.Framing.{Framing, no_body, by_chunks, OutItem, start_lines, framing_line, head_wire, piece_wire, items_wire}
use Rattle.h1_model.specs.Framing as out
use Rattle.h1_model.specs.Head.{Head}
use Rattle.h1_model.specs.Length.{nothing, chunked}
use Rattle.h1_model.specs.Wire.{field_line, field_lines, sent_fields, via_of, close_field}
use Rattle.worker_model.specs.Plan.{Plan}
use Rattle.worker_model.specs.Room.{Room}
use Rattle.law_lines.specs.Examples.{opening_count, posted_wire, Refused}
use Rattle.law_lines.specs.Requests.{GoesUp, sends_nothing, sends_request, close_behind, IsAllOfOne, AreEmpty, IsExact, IsOpen, Part, IsPart, traffic_of}

no_openings : (bytes : List ℕ) → opening_count (map byte bytes) ≡ 0
no_openings [] = refl
no_openings (b ∷ bytes) = no_openings bytes

opens_once : (h : Head) (first : Exchange) (t : List Traffic) → GoesUp h first t → opening_count t ≤ 1
opens_once h first t (sends_nothing is) = subst (λ (n : ℕ). n ≤ 1) (ap opening_count (sym is)) (omega arith)
opens_once h first t (sends_request r) =
    let bytes : List ℕ = items_wire r.request.framing (out.head r.request.head ∷ r.items) in
    subst (λ (n : ℕ). n ≤ 1) (sym (ap opening_count r.is ∙ ap suc (no_openings bytes))) (omega arith)

not_alone : (went : List Traffic) → went ++ close_behind went ≡ closes ∷ [] → ⊥
not_alone [] is = cc
not_alone (one ∷ []) is = cc
not_alone (one ∷ two ∷ went) is = cc

-- ---- after a close comes nothing

abbrev pub unclosed : List Traffic → Bool
unclosed [] = true
unclosed (opens ∷ t) = unclosed t
unclosed (byte b ∷ t) = unclosed t
unclosed (closes ∷ t) = false

pub unclosed_bytes : (bytes : List ℕ) → unclosed (map byte bytes) ≡ true
unclosed_bytes [] = refl
unclosed_bytes (b ∷ bytes) = unclosed_bytes bytes

tail_same : (a b : Traffic) (s t : List Traffic) → a ∷ s ≡ b ∷ t → s ≡ t
tail_same a b s t is = cc

pub none_there : (s t : List Traffic) → [] ≡ s ++ closes ∷ t → ⊥
none_there [] t is = cc
none_there (a ∷ s) t is = cc

pub closes_last : (went s t : List Traffic) → unclosed went ≡ true → went ++ closes ∷ [] ≡ s ++ closes ∷ t → t ≡ []
closes_last [] [] t runs is = sym (tail_same closes closes [] t is)
closes_last [] (a ∷ s) t runs is = absurd (none_there s t (tail_same closes a [] (s ++ closes ∷ t) is))
closes_last (opens ∷ went) [] t runs is = absurd (cc)
closes_last (byte b ∷ went) [] t runs is = absurd (cc)
closes_last (closes ∷ went) s t runs is = absurd (cc)
closes_last (opens ∷ went) (a ∷ s) t runs is = closes_last went s t runs (tail_same opens a (went ++ closes ∷ []) (s ++ closes ∷ t) is)
closes_last (byte b ∷ went) (a ∷ s) t runs is = closes_last went s t runs (tail_same (byte b) a (went ++ closes ∷ []) (s ++ closes ∷ t) is)

goes_last : (h : Head) (first : Exchange) (went s t : List Traffic) → GoesUp h first went → went ++ close_behind went ≡ s ++ closes ∷ t → t ≡ []
goes_last h first went s t (sends_nothing is) all = absurd (none_there s t (ap (λ l. l ++ close_behind l) (sym is) ∙ all))
goes_last h first went s t (sends_request r) all =
    let bytes : List ℕ = items_wire r.request.framing (out.head r.request.head ∷ r.items) in
    closes_last (opens ∷ map byte bytes) s t (unclosed_bytes bytes) (ap (λ l. l ++ close_behind l) (sym r.is) ∙ all)

-- ---- the head alone is not all of a request in chunks

abbrev bytes_in : List Traffic → List ℕ
bytes_in [] = []
bytes_in (opens ∷ t) = bytes_in t
bytes_in (byte b ∷ t) = b ∷ bytes_in t
bytes_in (closes ∷ t) = bytes_in t

bytes_map : (bytes : List ℕ) → bytes_in (map byte bytes) ≡ bytes
bytes_map [] = refl
bytes_map (b ∷ bytes) = ap (λ l. b ∷ l) (bytes_map bytes)

-- an empty line is there; and the first there is ends the text
abbrev starts_blank : List ℕ → Bool
starts_blank (a ∷ b ∷ c ∷ d ∷ l) = (a == 13) && (b == 10) && (c == 13) && (d == 10)
starts_blank l = false

abbrev is_nil : List ℕ → Bool
is_nil [] = true
is_nil (b ∷ l) = false

abbrev ends_once : List ℕ → Bool
ends_once [] = false
ends_once (b ∷ l) = if starts_blank (b ∷ l) then is_nil (drop 3 l) else ends_once l

abbrev blank : List ℕ
blank = 13 ∷ 10 ∷ 13 ∷ 10 ∷ []

nil_is : (l : List ℕ) → is_nil l ≡ true → l ≡ []
nil_is [] is = refl
nil_is (b ∷ l) is = absurd (cc)

some_left : (a b : List ℕ) → is_nil (drop 3 (a ++ blank ++ b)) ≡ true → ⊥
some_left [] b is = cc
some_left (x ∷ []) b is = cc
some_left (x ∷ y ∷ []) b is = cc
some_left (x ∷ y ∷ z ∷ []) b is = cc
some_left (x ∷ y ∷ z ∷ w ∷ a) b is = cc

one_end : (a b : List ℕ) → ends_once (a ++ blank ++ b) ≡ true → b ≡ []
one_end [] b is = nil_is b is
one_end (x ∷ a) b is = by_start (starts_blank (x ∷ (a ++ blank ++ b))) is (one_end a b)
  where
    by_start : (s : Bool) → (if s then is_nil (drop 3 (a ++ blank ++ b)) else ends_once (a ++ blank ++ b)) ≡ true → (ends_once (a ++ blank ++ b) ≡ true → b ≡ []) → b ≡ []
    by_start true e later = absurd (some_left a b e)
    by_start false e later = later e

-- a head ends with one, whatever its fields
abbrev close_text : List ℕ
close_text = codes "connection: close"

head_ends : (framing : Framing) (fields : Headers) (minor : ℕ) → (front : List ℕ) × (head_wire framing (sent_head fields (up_tail minor)) ≡ front ++ blank)
head_ends framing fields minor =
    let p : List ℕ = start_lines (sent_head fields (up_tail minor)) fields.kind ++ field_lines (sent_fields fields.pairs) ++ framing_line framing in
    let v : List ℕ = field_line (via_of minor) in (
      p ++ (v ++ close_text),
      append_assoc p (v ++ field_line close_field) crlf_bytes
          ∙ (ap (λ l. p ++ l) (append_assoc v (field_line close_field) crlf_bytes ∙ sym (append_assoc v close_text blank)) ∙ sym (append_assoc p (v ++ close_text) blank)),
    )

none_both : (a b : List ℕ) → a ++ b ≡ [] → (a ≡ []) × (b ≡ [])
none_both [] b is = (refl, is)
none_both (x ∷ a) b is = absurd (cc)

-- and chunks have an end
some_chunks : (pieces : List (List ℕ)) (ending : Ending) → items_wire by_chunks (body_items pieces ending) ≡ [] → ⊥
some_chunks [] (last_bytes bytes) is = let e : body_end [] ≡ [] = (none_both (chunk_of bytes) (body_end []) (none_both (chunk_of bytes ++ body_end []) [] is).0).1 in cc
some_chunks [] (last_trailers fields) is = cc
some_chunks (p ∷ pieces) ending is = some_chunks pieces ending (none_both (piece_wire by_chunks p false) (items_wire by_chunks (body_items pieces ending)) is).1

posted_ends : ends_once posted_wire ≡ true
posted_ends = refl

head_alone : (h : Head) (first : Exchange) → request_framing first ≡ by_chunks → IsAllOfOne h first (opens ∷ map byte posted_wire) → ⊥
head_alone h first framed all =
    let q : OutRequest = all.request in
    let body : List ℕ = items_wire by_chunks (body_items q.pieces q.ending) in
    let framing : q.framing ≡ by_chunks = all.made.framing ∙ framed in
    let ends = head_ends by_chunks all.made.fields h.minor in
    let wire : posted_wire ≡ out_wire q = sym (bytes_map posted_wire) ∙ (ap bytes_in all.is ∙ bytes_map (out_wire q)) in
    let is : out_wire q ≡ head_wire by_chunks (sent_head all.made.fields (up_tail h.minor)) ++ body = λ i. items_wire (framing i) (out.head (all.made.head i) ∷ body_items q.pieces q.ending) in
    let split : posted_wire ≡ ends.0 ++ blank ++ body = wire ∙ (is ∙ ap (λ l. l ++ body) ends.1) in
    some_chunks q.pieces q.ending (one_end ends.0 body (sym (ap ends_once split) ∙ posted_ends))

-- ---- nor all that went up of one that was read whole

unclosed_both : (s t : List Traffic) → unclosed (s ++ t) ≡ true → (unclosed s ≡ true) × (unclosed t ≡ true)
unclosed_both [] t is = (refl, is)
unclosed_both (opens ∷ s) t is = unclosed_both s t is
unclosed_both (byte b ∷ s) t is = unclosed_both s t is
unclosed_both (closes ∷ s) t is = absurd (cc)

-- where nothing was closed, nothing went up before
none_before : (parts : List Part) → unclosed (flat_map traffic_of parts) ≡ true → flat_map traffic_of parts ≡ []
none_before [] is = refl
none_before (p ∷ parts) is = by_went p.went (unclosed_both (traffic_of p) (flat_map traffic_of parts) is) (none_before parts)
  where
    by_went : (went : List Traffic) → (unclosed (went ++ close_behind went) ≡ true) × (unclosed (flat_map traffic_of parts) ≡ true) → (unclosed (flat_map traffic_of parts) ≡ true → flat_map traffic_of parts ≡ [])
        → (went ++ close_behind went) ++ flat_map traffic_of parts ≡ []
    by_went [] both later = later both.1
    by_went (one ∷ went) both later = let never : ◌≡◌ {A = Bool} false true = (unclosed_both (one ∷ went) (closes ∷ []) both.0).1 in absurd (cc)

head_stuck : (plan : Plan) (n : ℕ) (room : Room) (x : Exchange) → request_framing x ≡ by_chunks → x.asked.whole ≡ true → is_over x ≡ false → AreEmpty x.request → room.reading ≡ None → room.jobs ≡ []
    → IsOpen plan n room x (opens ∷ map byte posted_wire) → ⊥
head_stuck plan n room x framed read live empty quiet jobless o =
    let all : IsAllOfOne o.head o.first o.went = o.all live empty (o.read_whole live quiet jobless ∙ read) in
    let before : unclosed o.before ≡ true = (unclosed_both o.before o.went (sym (ap unclosed o.adds) ∙ unclosed_bytes posted_wire)).0 in
    let none : o.before ≡ [] = o.one_by_one.is ∙ none_before o.one_by_one.parts (sym (ap unclosed o.one_by_one.is) ∙ before) in
    let same : opens ∷ map byte posted_wire ≡ o.went = o.adds ∙ ap (λ t. t ++ o.went) none in
    head_alone o.head o.first (sym o.framed ∙ framed) (subst (IsAllOfOne o.head o.first) (sym same) all)

-- ---- no second head, and no other request

no_bytes : (pieces : List (List ℕ)) (ending : Ending) → items_wire no_body (body_items pieces ending) ≡ []
no_bytes [] (last_bytes bytes) = refl
no_bytes [] (last_trailers fields) = refl
no_bytes (p ∷ pieces) ending = no_bytes pieces ending

no_second : (plan : Plan) (p : Part) → p.head ≡ worked_head → p.first.filters ≡ [] → IsPart plan p → p.went ≡ opens ∷ map byte (worked_wire ++ worked_wire) → ⊥
no_second plan p head none part went =
    let e : IsExact p.head p.came p.went = part.exact none in
    let q : OutRequest = e.request in
    let framing : q.framing ≡ no_body = e.sent_of.framing ∙ ap (λ (h : Head). up_framing e.sent_of.filtered (request_of h)) head in
    let is : q.head ≡ sent_head worked_head.fields (up_tail worked_head.minor) = e.sent_of.head ∙ ap (λ (h : Head). sent_head h.fields (up_tail h.minor)) head in
    let wire : out_wire q ≡ worked_wire
    = (λ i. items_wire (framing i) (out.head (is i) ∷ body_items q.pieces q.ending)) ∙ ap (λ l. worked_wire ++ l) (no_bytes q.pieces q.ending) in
    let front : (opens ∷ map byte (worked_wire ++ worked_wire)) ++ e.front.0 ≡ opens ∷ map byte worked_wire = ap (λ t. t ++ e.front.0) (sym went) ∙ (e.front.1 ∙ ap (λ l. opens ∷ map byte l) wire) in
    let lengths : 131 + length e.front.0 ≡ 66 = sym (length-append (opens ∷ map byte (worked_wire ++ worked_wire)) e.front.0) ∙ ap length front in
    omega (arith, lengths)

not_swapped : (plan : Plan) (n : ℕ) (room : Room) (x : Exchange) (total : List Traffic) → length_of x.asked.length ≡ chunked → (o : IsOpen plan n room x total) → o.head ≡ worked_head → ⊥
not_swapped plan n room x total asked o head =
    let same : chunked ≡ nothing
    = sym asked ∙ (ap (λ (q : Request). length_of q.length) o.asked ∙ (ap (λ (y : Exchange). length_of y.asked.length) o.begun.is ∙ ap (λ (h : Head). length_of (request_of h).length) head)) in
    cc

pub refused : Refused
refused = record {
  once = opens_once;
  opened = λ p is. not_alone p.went is;
  last = λ plan p s t part is. goes_last p.head p.first p.went s t part.goes is;
  judged = λ plan p none part. none part.begun.judged;
  alone = head_alone;
  stuck = head_stuck;
  second = no_second;
  swapped = not_swapped;
}
