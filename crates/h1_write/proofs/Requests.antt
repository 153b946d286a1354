-- The head of a request that is written is read as a head, and so is the whole request.
use Rattle.std.proofs.Common.{◌≡◌, ℕ, ◌≤◌, Bool, true, false, not, ◌||◌, List, [], ◌∷◌, ◌++◌, map, length, codes, bytes_eq, Option, None, Some, IsSome, Result, Ok, Err, refl, sym, ap, subst, ◌∙◌, inl, arith}
use Rattle.std.proofs.lemmas.Bool.{and_parts, cond-true, cond-false, not-true, false≢true}
use Rattle.std.proofs.lemmas.List.{append-nil, length-map}
use Rattle.std.specs.List.{AllByRecursion, list_all, list_any}
use Rattle.std.specs.Prelude.{MatchOption, unwrap_or}
use Rattle.http_header.specs.Token.{lowercase}
use Rattle.httparse.specs.Grammar.{IsRequestHead, print_request, ReadsRequest}
use Rattle.httparse.proofs.OnLiterals.{httparse_on_literals}
use Rattle.header_maps.specs.Headers.{Headers}
use Rattle.header_maps.specs.Judged.{is_token_text}
use Rattle.header_maps.specs.Kept.{is_kept_field}
use Rattle.header_maps.specs.Operations.{no_headers, request_headers}
use Rattle.h1_model.specs.Fields.{Pair, is_named, values_of, lists, is_hop_name, fields_not_listed, kept_fields}
use Rattle.h1_model.specs.Framing.{Framing, no_body, by_length, by_chunks, by_close, head_wire}
use Rattle.h1_model.specs.Head.{Head, host_of, is_host_right, head_of, measured, head_of_list, head_of_target, early_refusal, IsTargeted, IsJudged, pairs_at, IsAnswer, found, step_of, SpellsStep}
use Rattle.h1_model.specs.Length.{BodyLength, Measure, request_measure}
use Rattle.h1_model.specs.Listed.{scheme_text, request_list}
use Rattle.h1_model.specs.Messages.{request, head, item, due_behind, StepsTo}
use Rattle.h1_model.specs.Target.{Target}
use Rattle.h1_model.specs.Wire.{sent_fields}
use Rattle.h1_model.proofs.FieldLemmas.{values_of-other, values_of-named}
use Rattle.h1_model.proofs.Listing.{passing-kept, request_listed}
use Rattle.h1_model.proofs.Taken.{request_taken}
use Rattle.h1_model.proofs.TargetLemmas.{IsTargetOf-unique}
use Rattle.h1_write.specs.Heads.{framing_fields, written_fields, IsInLimit, told_fields, tail_read, connection_read}
use Rattle.h1_write.specs.Laws.{read_field}
use Rattle.h1_write.specs.Requests.{method_of, path_of, authority_of, request_fields, own_target, is_for_request, IsReadableRequest, request_said, request_fields_read, request_read, RequestHeadReadBack, RequestReadBack}
use Rattle.h1_write.specs.Round.{length_said, IsHeadWith}
use Rattle.h1_write.proofs.Ending.{field_at, values_read, kept_low}
use Rattle.h1_write.proofs.HeadText.{spells_whole}
use Rattle.h1_write.proofs.RequestText as text
use Rattle.h1_write.proofs.RequestText.{RequestList, request_sent, request_out}
use Rattle.h1_write.proofs.RequestTree.{tree_of, printed, tree_is, tree_whole}
use Rattle.h1_write.proofs.Told.{trim_visible, request_length_told, request_chunks_told}
use Rattle.h1_write.proofs.Whole.{message_is_all}
use Rattle.h1_write.proofs.Written.{IsOut, AreHops, sent_other, tail_other, unnamed, no_codings, no_lengths, only_middle, written_connection, passing_by, dropped_first, written_passing}

-- the fields of a head as they are read
abbrev all_read : Framing → Head → List Pair
all_read framing h = map read_field (request_fields framing h)

-- ---- what the fields tell

-- `host` is none of these names
host_other : (authority : List ℕ) → (is_named (codes "transfer-encoding") (read_field (codes "host", authority)) ≡ false)
    × (is_named (codes "content-length") (read_field (codes "host", authority)) ≡ false)
    × (is_named (codes "connection") (read_field (codes "host", authority)) ≡ false)
    × (is_named (codes "host") (read_field (codes "host", authority)) ≡ true)
unfolding httparse_on_literals
host_other authority = (refl, refl, refl, refl)

told_alone : (framing : Framing) → is_for_request framing ≡ true → IsInLimit framing
    → request_measure 1 (values_of (codes "transfer-encoding") (map read_field (framing_fields framing))) (values_of (codes "content-length") (map read_field (framing_fields framing)))
    ≡ Ok (request_said framing)
unfolding httparse_on_literals
told_alone no_body framed small = refl
told_alone (by_length n) framed small = request_length_told n small
told_alone by_chunks framed small = request_chunks_told
told_alone by_close framed small = refl

told_is : (framing : Framing) (h : Head) → IsReadableRequest framing h → RequestList h
    → request_measure 1 (values_of (codes "transfer-encoding") (all_read framing h)) (values_of (codes "content-length") (all_read framing h)) ≡ Ok (request_said framing)
told_is framing h r list =
    let sent = sent_fields h.fields.pairs in
    let tail = h.tail.pairs in
    let others = sent_other sent (request_sent h list) in
    let last = tail_other tail r.tail in
    let host = read_field (codes "host", authority_of h) in
    let more = map read_field (written_fields framing h) in
    let other = host_other (authority_of h) in
    let codings = values_of-other (codes "transfer-encoding") host more other.0
    ∙ only_middle (codes "transfer-encoding") sent (framing_fields framing) tail (no_codings sent others) (no_codings tail last) in
    let lengths = values_of-other (codes "content-length") host more other.1
    ∙ only_middle (codes "content-length") sent (framing_fields framing) tail (no_lengths sent others) (no_lengths tail last) in
    (λ t. request_measure 1 (codings t) (lengths t)) ∙ told_alone framing r.framed r.told

connection_is : (framing : Framing) (h : Head) → RequestList h → values_of (codes "connection") (all_read framing h) ≡ connection_read h
connection_is framing h list =
    values_of-other (codes "connection") (read_field (codes "host", authority_of h)) (map read_field (written_fields framing h)) (host_other (authority_of h)).2
    ∙ written_connection framing (sent_fields h.fields.pairs) h.tail.pairs (request_sent h list)

-- ---- the one Host line

-- a name that is no hop name is not `host`
last_name : (c k p t e u h : Bool) → (c || (k || (p || (t || (e || (u || (h || false))))))) ≡ false → h ≡ false
last_name true k p t e u h is = absurd (false≢true (sym is))
last_name false true p t e u h is = absurd (false≢true (sym is))
last_name false false true t e u h is = absurd (false≢true (sym is))
last_name false false false true e u h is = absurd (false≢true (sym is))
last_name false false false false true u h is = absurd (false≢true (sym is))
last_name false false false false false true h is = absurd (false≢true (sym is))
last_name false false false false false false true is = absurd (false≢true (sym is))
last_name false false false false false false false is = refl

no_hosts : (fs : List Pair) → AllByRecursion (IsOut is_hop_name) fs → values_of (codes "host") (map read_field fs) ≡ []
no_hosts [] all = refl
no_hosts (f ∷ fs) all =
    let other : bytes_eq f.0 (codes "host") ≡ false =
    last_name (bytes_eq f.0 (codes "connection")) (bytes_eq f.0 (codes "keep-alive")) (bytes_eq f.0 (codes "proxy-connection"))
    (bytes_eq f.0 (codes "te")) (bytes_eq f.0 (codes "transfer-encoding")) (bytes_eq f.0 (codes "upgrade")) (bytes_eq f.0 (codes "host")) all.0.stays in
    unnamed (codes "host") f fs all.0.low other (no_hosts fs all.1)

tail_no_hosts : (fs : List Pair) → list_all is_kept_field fs ≡ true → list_all (λ (f : Pair). not (bytes_eq f.0 (codes "host"))) fs ≡ true
    → values_of (codes "host") (map read_field fs) ≡ []
tail_no_hosts [] kept none = refl
tail_no_hosts (f ∷ fs) kept none =
    let a = and_parts (is_kept_field f) (list_all is_kept_field fs) kept in
    let b = and_parts (not (bytes_eq f.0 (codes "host"))) (list_all (λ (g : Pair). not (bytes_eq g.0 (codes "host"))) fs) none in
    unnamed (codes "host") f fs (kept_low f a.0) (not-true (bytes_eq f.0 (codes "host")) b.0) (tail_no_hosts fs a.1 b.1)

framing_no_hosts : (framing : Framing) → values_of (codes "host") (map read_field (framing_fields framing)) ≡ []
unfolding httparse_on_literals
framing_no_hosts no_body = refl
framing_no_hosts (by_length n) = refl
framing_no_hosts by_chunks = refl
framing_no_hosts by_close = refl

one_host : (framing : Framing) (h : Head) → IsReadableRequest framing h → RequestList h → values_of (codes "host") (all_read framing h) ≡ authority_of h ∷ []
one_host framing h r list =
    let sent = sent_fields h.fields.pairs in
    let more = map read_field (written_fields framing h) in
    let none = only_middle (codes "host") sent (framing_fields framing) h.tail.pairs (no_hosts sent (request_out h list)) (tail_no_hosts h.tail.pairs r.tail.kept r.no_host)
    ∙ framing_no_hosts framing in
    values_of-named (codes "host") (read_field (codes "host", authority_of h)) more (host_other (authority_of h)).3
    ∙ (λ t. trim_visible (authority_of h) list.authority_is t ∷ none t)

-- ---- the fields of the list

hops : AreHops is_hop_name
unfolding httparse_on_literals
hops = record { coding = refl; counting = refl }

host_is_hop : (is_hop_name (codes "host") ≡ true) × (lowercase (codes "host") ≡ codes "host")
unfolding httparse_on_literals
host_is_hop = (refl, refl)

kept_is : (framing : Framing) (h : Head) → RequestList h → kept_fields (all_read framing h) ≡ request_fields_read framing h
kept_is framing h list =
    let all = all_read framing h in
    let sent = sent_fields h.fields.pairs in
    let connection = connection_read h in
    sym (passing-kept all all)
    ∙ ap (λ (vs : List (List ℕ)). passing_by is_hop_name vs all) (connection_is framing h list)
    ∙ dropped_first is_hop_name connection (read_field (codes "host", authority_of h)) (map read_field (written_fields framing h)) host_is_hop.1 host_is_hop.0
    ∙ written_passing is_hop_name connection framing sent h.tail.pairs hops (request_out h list)
    ∙ ap (λ (t : List Pair). fields_not_listed connection (map read_field (sent ++ told_fields framing)) ++ t) (passing-kept (tail_read h) (tail_read h))

-- ---- what is judged

early_is : (framing : Framing) (h : Head) → IsReadableRequest framing h → RequestList h → early_refusal (method_of h) 1 (all_read framing h) ≡ None
early_is framing h r list =
    let other : bytes_eq (method_of h) (codes "CONNECT") ≡ false =
    not-true (bytes_eq (method_of h) (codes "CONNECT")) (and_parts (is_token_text (method_of h)) (not (bytes_eq (method_of h) (codes "CONNECT"))) list.method_is).1 in
    let right : is_host_right 1 (values_of (codes "host") (all_read framing h)) ≡ true = ap (is_host_right 1) (one_host framing h r list) ∙ list.authority_is in
    cond-false _ _ _ other ∙ cond-true _ _ _ right

judged_is : (framing : Framing) (h : Head) → IsReadableRequest framing h → RequestList h
    → IsSome (request_list (method_of h) (own_target (path_of h)) (host_of (values_of (codes "host") (all_read framing h))) (all_read framing h))
    → IsJudged (method_of h) (path_of h) 1 (all_read framing h) (Ok (request_read framing h))
judged_is framing h r list some = by_list (request_list method target (host_of (values_of (codes "host") all)) all) refl some
  where
    method : List ℕ
    method = method_of h

    target : Target
    target = own_target (path_of h)

    all : List Pair
    all = all_read framing h

    judged : (answer : Result Head ℕ) → answer ≡ head_of_target method 1 all (Some target) → IsJudged method (path_of h) 1 all answer
    judged answer is =
        subst (λ (o : Option ℕ). MatchOption o (IsTargeted method (path_of h) 1 all answer) (λ number. answer ≡ Err number)) (sym (early_is framing h r list))
        (record { parts = Some target; gives = r.target; is = is })

    same_parts : (parts : Target) → Some parts ≡ Some target → parts ≡ target
    same_parts parts e = cc

    by_list : (o : Option Headers) → request_list method target (host_of (values_of (codes "host") all)) all ≡ o → IsSome o
        → IsJudged method (path_of h) 1 all (Ok (request_read framing h))
    by_list None is some = absurd (cc)
    by_list (Some l) is some =
        let measure = request_said framing in
        let told = request_measure 1 (values_of (codes "transfer-encoding") all) (values_of (codes "content-length") all) in
        let first : head_of_target method 1 all (Some target) ≡ measured l (Some target.form) 1 all told =
        ap (λ (o : Option Headers). head_of_list 400 o (Some target.form) 1 all told) is in
        let taken : head_of_target method 1 all (Some target) ≡ Ok (head_of l (Some target.form) 1 all measure) =
        first ∙ ap (λ (m : Result Measure ℕ). measured l (Some target.form) 1 all m) (told_is framing h r list) in
        let shape = request_listed method (path_of h) 1 all (head_of l (Some target.form) 1 all measure)
        (judged (Ok (head_of l (Some target.form) 1 all measure)) (sym taken)) in
        let one : shape.0 ≡ target = same_parts shape.0 (IsTargetOf-unique method (path_of h) (Some shape.0) (Some target) shape.1 r.target) in
        let host : host_of (values_of (codes "host") all) ≡ authority_of h = ap host_of (one_host framing h r list) in
        let own : l.pairs ≡ (request_headers method (codes "http") (host_of (values_of (codes "host") all)) (path_of h)).pairs ++ kept_fields all =
        shape.3
        ∙ ap (λ (p : Target). (request_headers method (scheme_text p.scheme) (unwrap_or p.authority (host_of (values_of (codes "host") all))) p.path).pairs ++ kept_fields all) one in
        let pairs : l.pairs ≡ (codes ":method", method) ∷ (codes ":scheme", codes "http") ∷ (codes ":authority", authority_of h) ∷ (codes ":path", path_of h) ∷ request_fields_read framing h =
        own ∙ (λ t. (codes ":method", method) ∷ (codes ":scheme", codes "http") ∷ (codes ":authority", host t) ∷ (codes ":path", path_of h) ∷ kept_is framing h list t) in
        let same : head_of l (Some target.form) 1 all measure ≡ request_read framing h =
        λ t. record {
          fields = record { kind = shape.2 t; pairs = pairs t };
          tail = no_headers;
          form = Some target.form;
          minor = 1;
          length = measure.length;
          told = measure.told;
          close = list_any (lists (codes "close")) (connection_is framing h list t);
          connection = connection_is framing h list t;
        } in
        judged (Ok (request_read framing h)) (sym (taken ∙ ap (λ (x : Head). Ok x) same))

pub request_head_read_back : RequestHeadReadBack
request_head_read_back framing h r =
    let list = text.request_list h r.kind r.list in
    let tree = tree_of framing h in
    let wire = print_request tree in
    let same : head_wire framing h ≡ wire = printed framing h r.kind in
    let is : IsRequestHead tree = tree_is framing h list r.tail r.told in
    let fields : pairs_at tree.fields ≡ all_read framing h = values_read (request_fields framing h) in
    let reads : ReadsRequest wire tree [] = (is, sym (append-nil wire)) in
    let short : length wire ≤ 65536 = omega (arith, ap length same, r.short) in
    let few : length tree.fields ≤ 100 = omega (arith, length-map (request_fields framing h) field_at, r.few) in
    let early : early_refusal (method_of h) 1 (pairs_at tree.fields) ≡ None = ap (early_refusal (method_of h) 1) fields ∙ early_is framing h r list in
    let some : IsSome (request_list (method_of h) (own_target (path_of h)) (host_of (values_of (codes "host") (all_read framing h))) (all_read framing h)) =
    subst (λ (fs : List Pair). IsSome (request_list (method_of h) (own_target (path_of h)) (host_of (values_of (codes "host") fs)) fs)) fields
    (request_taken wire tree [] (own_target (path_of h)) reads short few early r.target) in
    let judged : IsJudged (method_of h) (path_of h) 1 (pairs_at tree.fields) (Ok (request_read framing h)) =
    subst (λ (fs : List Pair). IsJudged (method_of h) (path_of h) 1 fs (Ok (request_read framing h))) (sym fields) (judged_is framing h r list some) in
    let answer : IsAnswer wire (Ok (request_read framing h)) = inl (record { head = tree; reads = reads; judged = judged }) in
    let whole = tree_whole tree is refl few short in
    let spelled : SpellsStep wire (step_of (length wire) (Ok (request_read framing h))) =
    spells_whole IsAnswer 431 wire (Ok (request_read framing h)) whole.none whole.cut answer in
    subst (λ (t : List ℕ). SpellsStep t (found (request_read framing h) (length t))) (sym same) spelled

-- ---- whole requests

length_is : (framing : Framing) → is_for_request framing ≡ true → (request_said framing).length ≡ length_said framing
length_is no_body is = refl
length_is (by_length n) is = refl
length_is by_chunks is = refl
length_is by_close is = absurd (false≢true is)

pub request_there : (framing : Framing) (h : Head) → IsReadableRequest framing h
    → IsHeadWith None (head_wire framing h) (request (request_read framing h)) (connection_read h) framing
request_there framing h r =
    let read = request_read framing h in
    let wire = head_wire framing h in
    let step : StepsTo false None head wire (item (request read) (length wire) (due_behind head (connection_read h) (request_said framing).length)) =
    (found read (length wire), request_head_read_back framing h r, refl) in
    subst (λ (l : BodyLength). StepsTo false None head wire (item (request read) (length wire) (due_behind head (connection_read h) l))) (length_is framing r.framed) step

pub request_read_back : RequestReadBack
request_read_back framing h pieces ending ended r suits =
    message_is_all (head_wire framing h) (request (request_read framing h)) framing pieces ending ended None (connection_read h) (request_there framing h r) suits
