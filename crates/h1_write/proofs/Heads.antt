-- The head of a response that is written is read as a head, and so is the whole response.
use Rattle.std.proofs.Common.{◌≡◌, ℕ, ◌≤◌, Bool, true, false, cond, List, [], ◌∷◌, map, length, codes, bytes_eq, Option, None, Some, IsSome, Result, Ok, refl, sym, ap, subst, ◌∙◌, inl, arith}
use Rattle.std.proofs.lemmas.Bool.{false≢true}
use Rattle.std.proofs.lemmas.List.{append-nil, length-map}
use Rattle.std.specs.List.{list_any}
use Rattle.httparse.specs.Grammar.{IsResponseHead, print_response, ReadsResponse}
use Rattle.header_maps.specs.declared.kind.ListKind.{ListKind}
use Rattle.header_maps.specs.declared.kind.ListKind.TheVariants as kinds
use Rattle.header_maps.specs.Headers.{Headers}
use Rattle.header_maps.specs.Judged.{status_text}
use Rattle.header_maps.specs.Operations.{no_headers}
use Rattle.h1_model.specs.Fields.{Pair, values_of, lists, kept_response_fields}
use Rattle.h1_model.specs.Framing.{Framing, no_body, by_length, by_chunks, by_close, head_wire}
use Rattle.h1_model.specs.Head.{Head, head_of, measured, head_of_list, pairs_at, response_judged, IsResponseAnswer, found, step_of, SpellsResponse}
use Rattle.h1_model.specs.Length.{BodyLength, nothing, Measure, response_measure, is_without_body, without_body, measure_of_body}
use Rattle.h1_model.specs.Listed.{response_list}
use Rattle.h1_model.specs.Messages.{response, interim, head, done, Step, item, due_behind, is_interim, response_item, StepsTo}
use Rattle.h1_model.specs.Wire.{sent_fields, pseudo_of}
use Rattle.h1_model.proofs.Listing.{response_listed}
use Rattle.h1_model.proofs.Taken.{response_taken}
use Rattle.h1_write.specs.Heads.{written_fields, status_said, IsReadable, measure_said, connection_read, fields_read, head_read, frames_body, ResponseHeadReadBack, InterimReadBack, ResponseReadBack, BareResponseReadBack}
use Rattle.h1_write.specs.Laws.{read_field}
use Rattle.h1_write.specs.Round.{last_bytes, length_said, ReadsAs, IsHeadWith}
use Rattle.h1_write.proofs.Ending.{field_at, values_read}
use Rattle.h1_write.proofs.HeadText.{AnswerList, answer_list, answer_sent, tree_of, printed, tree_is, spells_whole, tree_whole}
use Rattle.h1_write.proofs.Told.{code_text}
use Rattle.h1_write.proofs.Whole.{head_read_back, message_is_all}
use Rattle.h1_write.proofs.Written.{written_told, written_connection, written_kept}

-- ---- what is judged

-- the fields of a head as they are read
abbrev all_read : Framing → Head → List Pair
all_read framing h = map read_field (written_fields framing h)

same_answer : (g h : Head) → g ≡ h → ◌≡◌ {A = Result Head ℕ} (Ok g) (Ok h)
same_answer g h e = ap (λ (x : Head). Ok x) e

judged_is : (to_head : Bool) (framing : Framing) (h : Head) → IsReadable framing h → AnswerList h.fields
    → IsSome (response_list (status_said h.fields) (all_read framing h))
    → response_judged to_head 1 (status_said h.fields) (all_read framing h) ≡ Ok (head_read to_head framing h)
judged_is to_head framing h r list some = by_list (response_list status all) refl some
  where
    status : ℕ
    status = status_said h.fields

    all : List Pair
    all = all_read framing h

    measure : Measure
    measure = without_body (is_without_body to_head status) (measure_said framing)

    told : response_measure 1 (values_of (codes "transfer-encoding") all) (values_of (codes "content-length") all) ≡ Ok (measure_said framing)
    told = written_told framing (sent_fields h.fields.pairs) h.tail.pairs (answer_sent h.fields list) r.tail r.told

    connection : values_of (codes "connection") all ≡ connection_read h
    connection = written_connection framing (sent_fields h.fields.pairs) h.tail.pairs (answer_sent h.fields list)

    kept : kept_response_fields all ≡ fields_read framing h
    kept = written_kept framing (sent_fields h.fields.pairs) h.tail.pairs (answer_sent h.fields list)

    code : status_text status ≡ pseudo_of h.fields (codes ":status")
    code = code_text (pseudo_of h.fields (codes ":status")) list.digits.three list.digits.digits

    by_list : (o : Option Headers) → response_list status all ≡ o → IsSome o → response_judged to_head 1 status all ≡ Ok (head_read to_head framing h)
    by_list None is some = absurd (cc)
    by_list (Some l) is some =
        let taken : response_judged to_head 1 status all ≡ Ok (head_of l None 1 all measure) =
        ap (λ (o : Option Headers). head_of_list 502 o None 1 all (measure_of_body (is_without_body to_head status)
        (response_measure 1 (values_of (codes "transfer-encoding") all) (values_of (codes "content-length") all)))) is
        ∙ ap (λ (m : Result Measure ℕ). measured l None 1 all (measure_of_body (is_without_body to_head status) m)) told in
        let shape = response_listed to_head 1 status all (head_of l None 1 all measure) taken in
        let kind : l.kind ≡ h.fields.kind = shape.0 ∙ sym list.kind_is in
        let pairs : l.pairs ≡ (codes ":status", pseudo_of h.fields (codes ":status")) ∷ fields_read framing h =
        shape.1 ∙ (λ t. (codes ":status", code t) ∷ kept t) in
        let same : head_of l None 1 all measure ≡ head_read to_head framing h =
        λ t. record {
          fields = record { kind = kind t; pairs = pairs t };
          tail = no_headers;
          form = None;
          minor = 1;
          length = measure.length;
          told = measure.told;
          close = list_any (lists (codes "close")) (connection t);
          connection = connection t;
        } in
        taken ∙ same_answer (head_of l None 1 all measure) (head_read to_head framing h) same

pub response_head_read_back : ResponseHeadReadBack
response_head_read_back to_head framing h r =
    let list = answer_list h.fields r.kind r.list in
    let tree = tree_of framing h in
    let text = print_response tree in
    let same : head_wire framing h ≡ text = printed framing h r.kind in
    let is : IsResponseHead tree = tree_is framing h list r.tail r.told in
    let fields : pairs_at tree.fields ≡ all_read framing h = values_read (written_fields framing h) in
    let reads : ReadsResponse text tree [] = (is, sym (append-nil text)) in
    let short : length text ≤ 65536 = omega (arith, ap length same, r.short) in
    let few : length tree.fields ≤ 100 = omega (arith, length-map (written_fields framing h) field_at, r.few) in
    let some : IsSome (response_list (status_said h.fields) (all_read framing h)) =
    subst (λ (fs : List Pair). IsSome (response_list (status_said h.fields) fs)) fields
    (response_taken text tree [] reads short few list.digits.above list.digits.below r.other) in
    let judged : Ok (head_read to_head framing h) ≡ response_judged to_head 1 (status_said h.fields) (pairs_at tree.fields) =
    sym (ap (response_judged to_head 1 (status_said h.fields)) fields ∙ judged_is to_head framing h r list some) in
    let answer : IsResponseAnswer to_head text (Ok (head_read to_head framing h)) = inl (record { head = tree; reads = reads; judged = judged }) in
    let whole = tree_whole tree is refl few short in
    let spelled : SpellsResponse to_head text (step_of (length text) (Ok (head_read to_head framing h))) =
    spells_whole (IsResponseAnswer to_head) 502 text (Ok (head_read to_head framing h)) whole.none whole.cut answer in
    subst (λ (t : List ℕ). SpellsResponse to_head t (found (head_read to_head framing h) (length t))) (sym same) spelled

-- ---- the step

-- where a response is due, the head that is written is this step
head_step : (asked : List ℕ) (framing : Framing) (h : Head) → IsReadable framing h
    → StepsTo false (Some asked) head (head_wire framing h) (response_item (head_read (bytes_eq asked (codes "HEAD")) framing h) (length (head_wire framing h)))
head_step asked framing h r =
    let read = head_read (bytes_eq asked (codes "HEAD")) framing h in
    (found read (length (head_wire framing h)), response_head_read_back (bytes_eq asked (codes "HEAD")) framing h r, refl)

interim_step : (h : Head) (used : ℕ) → h.fields.kind ≡ kinds.Interim → response_item h used ≡ item (interim h) used head
interim_step h used is =
    ap (λ (k : ListKind). cond (is_interim k) (item (interim h) used head) (item (response h) used (due_behind done h.connection h.length))) is

response_step : (h : Head) (used : ℕ) → h.fields.kind ≡ kinds.Response → response_item h used ≡ item (response h) used (due_behind done h.connection h.length)
response_step h used is =
    ap (λ (k : ListKind). cond (is_interim k) (item (interim h) used head) (item (response h) used (due_behind done h.connection h.length))) is

pub interim_there : (asked : List ℕ) (h : Head) → IsReadable no_body h → h.fields.kind ≡ kinds.Interim
    → StepsTo false (Some asked) head (head_wire no_body h) (item (interim (head_read (bytes_eq asked (codes "HEAD")) no_body h)) (length (head_wire no_body h)) head)
interim_there asked h r kind =
    subst (λ (s : Step). StepsTo false (Some asked) head (head_wire no_body h) s)
    (interim_step (head_read (bytes_eq asked (codes "HEAD")) no_body h) (length (head_wire no_body h)) kind) (head_step asked no_body h r)

pub interim_read_back : InterimReadBack
interim_read_back asked framing h ended front behind r kind =
    let read = head_read (bytes_eq asked (codes "HEAD")) no_body h in
    let wire = head_wire no_body h in
    subst (λ (t : List ℕ). ReadsAs ended (Some asked) head front t behind (interim read ∷ []) head) (sym (append-nil wire))
    (head_read_back wire (interim read) head ended (Some asked) front behind (interim_there asked h r kind))

-- ---- whole responses

-- the step where a response's body has this length
with_length : (asked : List ℕ) (framing : Framing) (h : Head) (len : BodyLength) → IsReadable framing h → h.fields.kind ≡ kinds.Response
    → (without_body (is_without_body (bytes_eq asked (codes "HEAD")) (status_said h.fields)) (measure_said framing)).length ≡ len
    → StepsTo false (Some asked) head (head_wire framing h)
    (item (response (head_read (bytes_eq asked (codes "HEAD")) framing h)) (length (head_wire framing h)) (due_behind done (connection_read h) len))
with_length asked framing h len r kind is =
    let read = head_read (bytes_eq asked (codes "HEAD")) framing h in
    let wire = head_wire framing h in
    let step : StepsTo false (Some asked) head wire (item (response read) (length wire) (due_behind done read.connection read.length)) =
    subst (λ (s : Step). StepsTo false (Some asked) head wire s) (response_step read (length wire) kind) (head_step asked framing h r) in
    subst (λ (l : BodyLength). StepsTo false (Some asked) head wire (item (response read) (length wire) (due_behind done read.connection l))) is step

body_said : (framing : Framing) → frames_body framing ≡ true → (measure_said framing).length ≡ length_said framing
body_said no_body frames = absurd (false≢true frames)
body_said (by_length n) frames = refl
body_said by_chunks frames = refl
body_said by_close frames = refl

-- with a body, and without one
pub with_body : (asked : List ℕ) (framing : Framing) (h : Head) → IsReadable framing h → h.fields.kind ≡ kinds.Response
    → is_without_body (bytes_eq asked (codes "HEAD")) (status_said h.fields) ≡ false → frames_body framing ≡ true
    → IsHeadWith (Some asked) (head_wire framing h) (response (head_read (bytes_eq asked (codes "HEAD")) framing h)) (connection_read h) framing
with_body asked framing h r kind some frames =
    with_length asked framing h (length_said framing) r kind
    (ap (λ b. (without_body b (measure_said framing)).length) some ∙ body_said framing frames)

pub without_any : (asked : List ℕ) (framing : Framing) (h : Head) → IsReadable framing h → h.fields.kind ≡ kinds.Response
    → is_without_body (bytes_eq asked (codes "HEAD")) (status_said h.fields) ≡ true
    → IsHeadWith (Some asked) (head_wire framing h) (response (head_read (bytes_eq asked (codes "HEAD")) framing h)) (connection_read h) no_body
without_any asked framing h r kind bare =
    with_length asked framing h nothing r kind (ap (λ b. (without_body b (measure_said framing)).length) bare)

pub response_read_back : ResponseReadBack
response_read_back asked framing h pieces ending ended r kind some frames suits =
    message_is_all (head_wire framing h) (response (head_read (bytes_eq asked (codes "HEAD")) framing h)) framing pieces ending ended (Some asked) (connection_read h)
    (with_body asked framing h r kind some frames) suits

pub bare_response_read_back : BareResponseReadBack
bare_response_read_back asked framing h ended r kind bare =
    message_is_all (head_wire framing h) (response (head_read (bytes_eq asked (codes "HEAD")) framing h)) no_body [] (last_bytes []) ended (Some asked) (connection_read h)
    (without_any asked framing h r kind bare) tt
