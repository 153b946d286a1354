-- The head of a request that was judged is one that a reader takes in once it is written.
use Rattle.std.proofs.Common.{◌≡◌, inl, inr, ℕ, ◌+◌, ◌==◌, ◌<◌, ◌≤◌, Bool, true, false, not, ◌&&◌, ◌||◌, List, [], ◌∷◌, ◌++◌, map, length, take, reverse, refl, ap, ◌∙◌, sym, subst, arith, length-take-le, length-append}
use Rattle.std.proofs.lemmas.Bool.{and_from, and_parts, le-leb, leb-true}
use Rattle.std.proofs.lemmas.List.{append-nil, append_assoc, length-reverse}
use Rattle.std.specs.Prelude.{Option, None, Some, MatchOption, is_none, Result, Ok, Err, nat_le, nat_lt, codes, bytes_eq, filter, find, option_map, unwrap_or, if◌then◌else◌}
use Rattle.std.specs.List.{list_all, list_any, flat_map}
use Rattle.header_maps.specs.Faults.{add_fault, first_fault, is_few, request_fault}
use Rattle.header_maps.specs.Headers.{Headers}
use Rattle.header_maps.specs.Judged.{is_field_name, is_field_value, is_method, is_scheme, is_authority, is_path}
use Rattle.header_maps.specs.Kept.{is_short, IsHeaders}
use Rattle.header_maps.specs.Operations.{added, request_headers}
use Rattle.header_maps.specs.Pairs.{plain_count}
use Rattle.header_maps.specs.Pairs as pairs
use Rattle.header_maps.specs.declared.kind.ListKind.TheVariants as kinds
use Rattle.header_maps.proofs.Kept.{headers_add, few_add}
use Rattle.header_maps.proofs.Shapes.{filter_all}
use Rattle.exchange.specs.Heads.{is_bare, length_in, length_of, request_of, up_framing, up_tail}
use Rattle.h1_write.specs.Heads.{IsTail, IsInLimit}
use Rattle.h1_write.specs.Lines.{OutRequest}
use Rattle.h1_write.specs.Requests.{IsReadableRequest, is_for_request, method_of, path_of, own_target}
use Rattle.h1_model.specs.Fields.{Pair, is_named, values_of, members, passing_fields}
use Rattle.h1_model.specs.Framing.{Framing, framing_of}
use Rattle.h1_model.specs.Head.{Head, HeadStep, found, not_yet, refused, host_of, head_of, measured, head_of_list, head_of_target, early_refusal, IsTargeted, pairs_at, pairs_of, IsHeadText, IsAnswer, step_of, IsStepAt, SpellsStep}
use Rattle.h1_model.specs.Head as model
use Rattle.h1_model.specs.Length.{BodyLength, nothing, exactly, chunked, until_end, Measure, length_limit, number_of, is_number, all_as, one_number, told_measure, is_chunked, request_measure}
use Rattle.h1_model.specs.Lines.{Cut, whole, too_large, unfinished, head_cut, empty_line_bytes, after_empty_lines}
use Rattle.h1_model.specs.Listed.{with_fields, request_list}
use Rattle.h1_model.specs.Target.{origin, absolute, asterisk, Scheme, http, Target, is_path_value, is_options, is_absolute_path, scheme_of, absolute_parts, target_of, GivesTarget, IsTargetOf}
use Rattle.h1_model.specs.Wire.{close_field, pseudo_of}
use Rattle.h1_model.proofs.Listing.{request_listed}
use Rattle.http_header.specs.Token as token
use Rattle.h1_model.proofs.GrammarLines.{request_prints, request_words}
use Rattle.h1_model.proofs.Received.{whole_fits}
use Rattle.h1_model.proofs.Taken.{section_more, name_within}
use Rattle.httparse.specs.Grammar.{LineEnd, print_end, print_blank, print_version, Field, field_value, skip_ows, trim_ows, is_ows, print_field, print_section, print_request, RequestHead}
use Rattle.httparse.specs.Spans.{name_and_value}
use Rattle.httparse.proofs.OnLiterals.{httparse_on_literals}
use Rattle.std.specs.Char.{is_ascii_digit}
use Rattle.std.specs.Str.Parse.{digits_value}
use Rattle.http_header.specs.Token.{lowercase}
use Rattle.law_lines.specs.Requests.{IsJudged, IsSentOf, HasRoom}
use Rattle.law_lines.proofs.Looks.{equal_by}

-- ---- lengths that are told

pub record IsSmall (m : Measure) : Type 0 where
  pub told : (n : ℕ) → m.told ≡ Some n → n ≤ length_limit
  pub exact : (n : ℕ) → m.length ≡ exactly n → n ≤ length_limit
  pub ends : m.length ≡ until_end → ⊥
  pub none : m.length ≡ nothing → (n : ℕ) → m.told ≡ Some n → n ≡ 0

number_small : (member : List ℕ) (n : ℕ) → number_of member ≡ Some n → n ≤ length_limit
number_small member n is = by_test (nat_lt 0 (length member) && list_all is_ascii_digit member) (nat_le (digits_value 10 member) length_limit) refl is
  where
    by_test : (a b : Bool) → nat_le (digits_value 10 member) length_limit ≡ b → (if a && b then Some (digits_value 10 member) else None) ≡ Some n → n ≤ length_limit
    by_test true true e f = let same : digits_value 10 member ≡ n = cc in subst (λ k. k ≤ length_limit) same (leb-true (digits_value 10 member) length_limit e)
    by_test true false e f = absurd (cc)
    by_test false b e f = absurd (cc)

one_small : (ms : List (List ℕ)) (n : ℕ) → one_number ms ≡ Some n → n ≤ length_limit
one_small [] n is = absurd (cc)
one_small (m ∷ ms) n is = by_first (number_of m) refl is
  where
    by_first : (o : Option ℕ) → number_of m ≡ o → all_as ms o ≡ Some n → n ≤ length_limit
    by_first None e f = absurd (cc)
    by_first (Some k) e f = by_all (list_all (λ j. is_number (number_of j) k) ms) f
      where
        by_all : (b : Bool) → (if b then Some k else None) ≡ Some n → n ≤ length_limit
        by_all true g = let same : k ≡ n = cc in subst (λ j. j ≤ length_limit) same (number_small m k e)
        by_all false g = absurd (cc)

told_small : (o : Option ℕ) → ((n : ℕ) → o ≡ Some n → n ≤ length_limit) → (m : Measure) → told_measure o ≡ Ok m → IsSmall m
told_small None small m is = absurd (cc)
told_small (Some n) small m is =
    let same : record { length = if n == 0 then nothing else exactly n; told = Some n } ≡ m = cc in
    subst IsSmall same (record {
      told = λ k e. let s : n ≡ k = cc in subst (λ j. j ≤ length_limit) s (small n refl);
      exact = λ k e. by_zero (n == 0) k e;
      ends = λ e. no_end (n == 0) e;
      none = λ e k f. by_none (n == 0) refl e k f;
    })
  where
    by_none : (b : Bool) → (n == 0) ≡ b → (if b then nothing else exactly n) ≡ nothing → (k : ℕ) → Some n ≡ Some k → k ≡ 0
    by_none true is e k f = let s : n ≡ k = cc in sym s ∙ equal_by n 0 is
    by_none false is e k f = absurd (cc)

    by_zero : (b : Bool) (k : ℕ) → (if b then nothing else exactly n) ≡ exactly k → k ≤ length_limit
    by_zero true k e = absurd (cc)
    by_zero false k e = let s : n ≡ k = cc in subst (λ j. j ≤ length_limit) s (small n refl)

    no_end : (b : Bool) → (if b then nothing else exactly n) ≡ until_end → ⊥
    no_end true e = cc
    no_end false e = cc

measure_small : (minor : ℕ) (codings lengths : List (List ℕ)) (m : Measure) → request_measure minor codings lengths ≡ Ok m → IsSmall m
measure_small minor [] [] m is =
    let same : record { length = nothing; told = None } ≡ m = cc in
    subst IsSmall same (record { told = λ n e. absurd (cc); exact = λ n e. absurd (cc); ends = λ e. cc; none = λ e n f. absurd (cc) })
measure_small minor [] (v ∷ vs) m is = told_small (one_number (flat_map members (v ∷ vs))) (λ n e. one_small (flat_map members (v ∷ vs)) n e) m is
measure_small minor (c ∷ cs) lengths m is = by_test (nat_lt 0 (length lengths) || minor == 0) (is_chunked (c ∷ cs)) is
  where
    by_test : (a b : Bool) → if◌then◌else◌ {A = Result Measure ℕ} a (Err 400) (if◌then◌else◌ {A = Result Measure ℕ} b (Ok (record { length = chunked; told = None })) (Err 501)) ≡ Ok m → IsSmall m
    by_test true b e = absurd (cc)
    by_test false true e =
        let same : record { length = chunked; told = None } ≡ m = cc in
        subst IsSmall same (record { told = λ n f. absurd (cc); exact = λ n f. absurd (cc); ends = λ f. cc; none = λ g n f. absurd (cc) })
    by_test false false e = absurd (cc)

pub record IsFramed (framing : Framing) : Type 0 where
  pub limit : IsInLimit framing
  pub for_request : is_for_request framing ≡ true

framed_by : (filtered : Bool) (len : BodyLength) (told : Option ℕ) → IsSmall (record { length = len; told = told }) → IsFramed (framing_of (is_bare (length_in len)) filtered false None told (length_of (length_in len)))
framed_by filtered nothing None small = record { limit = tt; for_request = refl }
framed_by filtered nothing (Some n) small = record { limit = small.told n refl; for_request = refl }
framed_by true (exactly n) told small = record { limit = tt; for_request = refl }
framed_by false (exactly n) told small = record { limit = small.exact n refl; for_request = refl }
framed_by true chunked told small = record { limit = tt; for_request = refl }
framed_by false chunked told small = record { limit = tt; for_request = refl }
framed_by filtered until_end told small = absurd (small.ends refl)

-- ---- `via` and `connection: close`

record IsUpTail (fields : List Pair) : Type 0 where
  tail : IsTail fields
  no_host : list_all (λ (f : Pair). not (bytes_eq f.0 (codes "host"))) fields ≡ true

tail_by : (b : Bool) → IsUpTail ((codes "via", (if b then codes "1.0" else codes "1.1") ++ codes " wasmgate") ∷ close_field ∷ [])
unfolding httparse_on_literals token.is_token_byte
tail_by true = record { tail = record { kept = refl; plain = refl }; no_host = refl }
tail_by false = record { tail = record { kept = refl; plain = refl }; no_host = refl }

tail_is : (minor : ℕ) → IsUpTail (up_tail minor)
tail_is minor = tail_by (minor == 0)

-- ---- names and values are short

skip_less : (v : List ℕ) → length (skip_ows v) ≤ length v
skip_less [] = omega arith
skip_less (b ∷ v) = by_test (is_ows b) (skip_less v)
  where
    by_test : (t : Bool) → length (skip_ows v) ≤ length v → length (if t then skip_ows v else b ∷ v) ≤ length (b ∷ v)
    by_test true less = omega (arith, less)
    by_test false less = omega arith

trim_less : (v : List ℕ) → length (trim_ows v) ≤ length v
unfolding trim_ows
trim_less v =
    omega (
      arith,
      skip_less v,
      skip_less (reverse (skip_ows v)),
      length-reverse (skip_ows v),
      length-reverse (skip_ows (reverse (skip_ows v))),
    )

value_within : (f : Field) → length (field_value f) ≤ length (print_field f)
value_within f = omega (arith, trim_less f.raw, length-append (f.name ++ 58 ∷ f.raw) (print_end f.end), length-append f.name (58 ∷ f.raw))

short_one : (p : Pair) → length p.0 ≤ 65537 → length p.1 ≤ 65537 → is_short p ≡ true
short_one p name value = and_from _ _ (le-leb (length p.0) 16777216 (omega (arith, name))) (le-leb (length p.1) 16777216 (omega (arith, value)))

fields_short : (fs : List Field) (last : LineEnd) → length (print_section fs last) ≤ 65536 → list_all is_short (pairs_at fs) ≡ true
fields_short [] last less = refl
fields_short (f ∷ fs) last less =
    and_from _ _ (short_one (name_and_value f) (omega (arith, less, name_within f, section_more f fs last)) (omega (arith, less, value_within f, section_more f fs last)))
    (fields_short fs last (omega (arith, less, section_more f fs last)))

host_short : (fields : List Pair) → list_all is_short fields ≡ true → length (host_of (values_of (codes "host") fields)) ≤ 16777216
host_short fields short = first (filter (is_named (codes "host")) fields) (filter_all is_short (is_named (codes "host")) fields short)
  where
    first : (ps : List Pair) → list_all is_short ps ≡ true → length (host_of (map (λ (f : Pair). f.1) ps)) ≤ 16777216
    first [] all = omega arith
    first (p ∷ ps) all =
        let both = and_parts (is_short p) (list_all is_short ps) all in
        leb-true (length p.1) 16777216 (and_parts (nat_le (length p.0) 16777216) (nat_le (length p.1) 16777216) both.0).1

-- ---- the list

pub record Longer (first out : Headers) : Type 0 where
  pub more : List Pair
  pub is : out.pairs ≡ first.pairs ++ more

pub fields_longer : (headers : Headers) (fields : List Pair) (out : Headers) → with_fields headers fields ≡ Some out → Longer headers out
fields_longer headers [] out is = let same : headers ≡ out = cc in record { more = []; is = ap (λ (h : Headers). h.pairs) (sym same) ∙ sym (append-nil headers.pairs) }
fields_longer headers (f ∷ fields) out is = by_fault (λ e. fields_longer (added headers f.0 f.1) fields out e) (is_none (add_fault headers f.0 f.1)) is
  where
    by_fault : (with_fields (added headers f.0 f.1) fields ≡ Some out → Longer (added headers f.0 f.1) out) → (b : Bool) → (if b then with_fields (added headers f.0 f.1) fields else None) ≡ Some out → Longer headers out
    by_fault go true e =
        let l : Longer (added headers f.0 f.1) out = go e in
        record { more = (lowercase f.0, f.1) ∷ l.more; is = l.is ∙ append_assoc headers.pairs ((lowercase f.0, f.1) ∷ []) l.more }
    by_fault go false e = absurd (cc)

fault_none : (a b c : Bool) → is_none (first_fault a b c) ≡ true → (a ≡ true) × (b ≡ true) × (c ≡ true)
fault_none true true true is = (refl, refl, refl)
fault_none true true false is = absurd (cc)
fault_none true false c is = absurd (cc)
fault_none false b c is = absurd (cc)

fields_keep : (headers : Headers) (fields : List Pair) (out : Headers) → IsHeaders headers → list_all is_short fields ≡ true → with_fields headers fields ≡ Some out → IsHeaders out
fields_keep headers [] out is short e = let same : headers ≡ out = cc in subst IsHeaders same is
fields_keep headers (f ∷ fields) out is short e = by_fault (λ i. fields_keep (added headers f.0 f.1) fields out i both.1) (is_none (add_fault headers f.0 f.1)) refl e
  where
    both : (is_short f ≡ true) × (list_all is_short fields ≡ true)
    both = and_parts (is_short f) (list_all is_short fields) short

    by_fault : (IsHeaders (added headers f.0 f.1) → with_fields (added headers f.0 f.1) fields ≡ Some out → IsHeaders out) → (b : Bool) → is_none (add_fault headers f.0 f.1) ≡ b
        → (if b then with_fields (added headers f.0 f.1) fields else None) ≡ Some out → IsHeaders out
    by_fault later true none go =
        let right = fault_none (is_field_name f.0) (is_field_value f.1) (is_few (added headers f.0 f.1).pairs) none in
        let value : length f.1 ≤ 16777216 = leb-true (length f.1) 16777216 (and_parts (nat_le (length f.0) 16777216) (nat_le (length f.1) 16777216) both.0).1 in
        let few : plain_count (added headers f.0 f.1).pairs ≤ 100 = leb-true (plain_count (added headers f.0 f.1).pairs) 100 right.2 in
        let room : plain_count headers.pairs < 100 = omega (arith, few, few_add headers.pairs f.0 f.1 right.0) in
        later (headers_add headers.kind headers.pairs f.0 f.1 is right.0 right.1 value room) go
    by_fault later false none go = absurd (cc)

first_keeps : (method scheme authority path : List ℕ) → is_none (request_fault method scheme authority path) ≡ true → length method ≤ 16777216 → length scheme ≤ 16777216
    → length authority ≤ 16777216 → length path ≤ 16777216 → IsHeaders (request_headers method scheme authority path)
unfolding httparse_on_literals
first_keeps method scheme authority path none m s a p =
    let right : (is_method method && is_scheme scheme && is_authority authority && is_path path) ≡ true
    = (fault_none true (is_method method && is_scheme scheme && is_authority authority && is_path path) true none).1 in
    let one = and_parts ((is_method method && is_scheme scheme) && is_authority authority) (is_path path) right in
    let two = and_parts (is_method method && is_scheme scheme) (is_authority authority) one.0 in
    let three = and_parts (is_method method) (is_scheme scheme) two.0 in
    record {
      shape = (record { name_is = refl; value = three.0 }, (record { name_is = refl; value = three.1 }, (record { name_is = refl; value = two.1 }, (record { name_is = refl; value = one.1 }, record { kept = refl; few = omega arith }))));
      short = and_from _ _ (le-leb (length method) 16777216 m) (and_from _ _ (le-leb (length scheme) 16777216 s) (and_from _ _ (le-leb (length authority) 16777216 a) (and_from _ _ (le-leb (length path) 16777216 p) refl)));
    }

-- ---- the target

own_parts : (method target : List ℕ) (t : Target) → GivesTarget method target t → (t.form ≡ absolute → ⊥) → t ≡ own_target target
own_parts method target t gives other = by_form gives.scheme gives.authority gives.gives
  where
    by_origin : (star options value : Bool) → bytes_eq target (codes "*") ≡ star
        → (if star then (if options then Some (record { form = asterisk; scheme = http; authority = None; path = target }) else None)
        else (if value then Some (record { form = origin; scheme = http; authority = None; path = target }) else None)) ≡ Some t
        → t ≡ own_target target
    by_origin true true value star e =
        let same : record { form = asterisk; scheme = http; authority = None; path = target } ≡ t = cc in
        sym same ∙ ap (λ b. record { form = if b then asterisk else origin; scheme = http; authority = None; path = target }) (sym star)
    by_origin true false value star e = absurd (cc)
    by_origin false options true star e =
        let same : record { form = origin; scheme = http; authority = None; path = target } ≡ t = cc in
        sym same ∙ ap (λ b. record { form = if b then asterisk else origin; scheme = http; authority = None; path = target }) (sym star)
    by_origin false options false star e = absurd (cc)

    by_parts : (s : Option Scheme) (a path : List ℕ) → absolute_parts s a path ≡ Some t → t.form ≡ absolute
    by_parts None a path e = absurd (cc)
    by_parts (Some s) a path e = by_test (not (list_any (λ b. b == 64) a) && is_absolute_path path) e
      where
        by_test : (b : Bool) → (if b then Some (record { form = absolute; scheme = s; authority = Some a; path = path }) else None) ≡ Some t → t.form ≡ absolute
        by_test true e = let same : record { form = absolute; scheme = s; authority = Some a; path = path } ≡ t = cc in ap (λ (k : Target). k.form) (sym same)
        by_test false e = absurd (cc)

    by_form : (s a : Option (List ℕ)) → target_of method target s a ≡ Some t → t ≡ own_target target
    by_form None None e = by_origin (bytes_eq target (codes "*")) (is_options method) (is_path_value target) refl e
    by_form None (Some a) e = absurd (cc)
    by_form (Some s) None e = absurd (cc)
    by_form (Some s) (Some a) e = absurd (other (by_parts (scheme_of s) a _ e))

-- ---- the head

-- what is known of the head of a request that was judged, whose target is in no absolute form
pub record IsRight (h : Head) : Type 0 where
  pub kind : h.fields.kind ≡ kinds.Request
  pub list : IsHeaders h.fields
  pub target : GivesTarget (pseudo_of h.fields (codes ":method")) (pseudo_of h.fields (codes ":path")) (own_target (pseudo_of h.fields (codes ":path")))
  pub small : IsSmall (record { length = h.length; told = h.told })

record Lengths (head : RequestHead) : Type 0 where
  method : length head.method ≤ 65536
  target : length head.target ≤ 65536
  fields : list_all is_short (pairs_of head) ≡ true

lengths : (text : List ℕ) (head : RequestHead) → text ≡ print_request head ++ [] → length text ≤ 65536 → Lengths head
lengths text head is short =
    let section = print_section head.fields head.last in
    let end = print_end head.line_end in
    let words = request_words head in
    let all = ap length (is ∙ request_prints head []) in
    let blank = length-append (print_blank head.blank) (words ++ (end ++ (section ++ []))) in
    let first = length-append words (end ++ (section ++ [])) in
    let behind = length-append end (section ++ []) in
    let last = length-append section [] in
    let method = length-append head.method (32 ∷ (head.target ++ 32 ∷ print_version head.minor)) in
    let target = length-append head.target (32 ∷ print_version head.minor) in
    record {
      method = omega (arith, short, all, blank, first, method);
      target = omega (arith, short, all, blank, first, method, target);
      fields = fields_short head.fields head.last (omega (arith, short, all, blank, first, behind, last));
    }

abbrev value_in : List ℕ → List Pair → List ℕ
value_in name fields = unwrap_or (option_map (λ (f : Pair). f.1) (find (pairs.is_named (token.lowercase name)) fields)) []

method_in : (method scheme authority path : List ℕ) (more : List Pair) → value_in (codes ":method") ((request_headers method scheme authority path).pairs ++ more) ≡ method
unfolding httparse_on_literals
method_in method scheme authority path more = refl

path_in : (method scheme authority path : List ℕ) (more : List Pair) → value_in (codes ":path") ((request_headers method scheme authority path).pairs ++ more) ≡ path
unfolding httparse_on_literals
path_in method scheme authority path more = refl

module _ (h : Head) (other : h.form ≡ Some absolute → ⊥) where
  by_measure : (head : RequestHead) (t : Target) (headers : Headers) (m : Result Measure ℕ) → Lengths head → h.fields.kind ≡ kinds.Request → GivesTarget head.method head.target t
      → request_list head.method t (host_of (values_of (codes "host") (pairs_of head))) (pairs_of head) ≡ Some headers
      → request_measure head.minor (values_of (codes "transfer-encoding") (pairs_of head)) (values_of (codes "content-length") (pairs_of head)) ≡ m
      → Ok h ≡ measured headers (Some t.form) head.minor (pairs_of head) m → IsRight h
  by_measure head t headers (Err number) long kind gives list measure is = absurd (cc)
  by_measure head t headers (Ok measure) long kind gives list judged is = by_fault (is_none (request_fault head.method (codes "http") host head.target)) refl own_list
    where
      host : List ℕ
      host = host_of (values_of (codes "host") (pairs_of head))

      same : h ≡ head_of headers (Some t.form) head.minor (pairs_of head) measure
      same = cc

      own : t ≡ own_target head.target
      own = own_parts head.method head.target t gives (λ e. other (ap (λ (k : Head). k.form) same ∙ ap Some e))

      own_list : request_list head.method (own_target head.target) (host_of (values_of (codes "host") (pairs_of head))) (pairs_of head) ≡ Some headers
      own_list = subst (λ p. request_list head.method p (host_of (values_of (codes "host") (pairs_of head))) (pairs_of head) ≡ Some headers) own list

      by_fault : (b : Bool) → is_none (request_fault head.method (codes "http") (host_of (values_of (codes "host") (pairs_of head))) head.target) ≡ b
          → (if b then with_fields (request_headers head.method (codes "http") (host_of (values_of (codes "host") (pairs_of head))) head.target) (passing_fields (pairs_of head)) else None) ≡ Some headers
          → IsRight h
      by_fault false none e = absurd (cc)
      by_fault true none e =
          let front = request_headers head.method (codes "http") host head.target in
          let l : Longer front headers = fields_longer front (passing_fields (pairs_of head)) headers e in
          let fields : h.fields ≡ headers = ap (λ (k : Head). k.fields) same in
          let method : pseudo_of h.fields (codes ":method") ≡ head.method
          = ap (λ (k : Headers). value_in (codes ":method") k.pairs) fields ∙ (ap (value_in (codes ":method")) l.is ∙ method_in head.method (codes "http") host head.target l.more) in
          let path : pseudo_of h.fields (codes ":path") ≡ head.target
          = ap (λ (k : Headers). value_in (codes ":path") k.pairs) fields ∙ (ap (value_in (codes ":path")) l.is ∙ path_in head.method (codes "http") host head.target l.more) in
          record {
            kind = kind;
            list = subst IsHeaders (sym fields)
                (fields_keep front (passing_fields (pairs_of head)) headers
                (first_keeps head.method (codes "http") host head.target none (omega (arith, long.method)) (omega arith) (host_short (pairs_of head) long.fields) (omega (arith, long.target)))
                (filter_all is_short _ (pairs_of head) long.fields) e);
            target = subst (λ a. GivesTarget a (pseudo_of h.fields (codes ":path")) (own_target (pseudo_of h.fields (codes ":path")))) (sym method)
                (subst (λ a. GivesTarget head.method a (own_target a)) (sym path) (subst (λ p. GivesTarget head.method head.target p) own gives));
            small = subst (λ (k : Head). IsSmall (record { length = k.length; told = k.told })) (sym same) (measure_small head.minor (values_of (codes "transfer-encoding") (pairs_of head)) (values_of (codes "content-length") (pairs_of head)) measure judged);
          }

  by_head : (head : RequestHead) → Lengths head → model.IsJudged head.method head.target head.minor (pairs_of head) (Ok h) → IsRight h
  by_head head long judged = by_early (early_refusal head.method head.minor (pairs_of head)) judged
    where
      kind : h.fields.kind ≡ kinds.Request
      kind = (request_listed head.method head.target head.minor (pairs_of head) h judged).2

      by_list : (t : Target) (o : Option Headers) → GivesTarget head.method head.target t
          → request_list head.method t (host_of (values_of (codes "host") (pairs_of head))) (pairs_of head) ≡ o
          → Ok h ≡ head_of_list 400 o (Some t.form) head.minor (pairs_of head) (request_measure head.minor (values_of (codes "transfer-encoding") (pairs_of head)) (values_of (codes "content-length") (pairs_of head)))
          → IsRight h
      by_list t None gives list e = absurd (cc)
      by_list t (Some headers) gives list e =
          by_measure head t headers (request_measure head.minor (values_of (codes "transfer-encoding") (pairs_of head)) (values_of (codes "content-length") (pairs_of head))) long kind gives list refl e

      by_parts : (p : Option Target) → IsTargetOf head.method head.target p → Ok h ≡ head_of_target head.method head.minor (pairs_of head) p → IsRight h
      by_parts None gives e = absurd (cc)
      by_parts (Some t) gives e = by_list t (request_list head.method t (host_of (values_of (codes "host") (pairs_of head))) (pairs_of head)) gives refl e

      by_early : (o : Option ℕ) → MatchOption o (IsTargeted head.method head.target head.minor (pairs_of head) (Ok h)) (λ n. ◌≡◌ {A = Result Head ℕ} (Ok h) (Err n)) → IsRight h
      by_early None x = by_parts x.parts x.gives x.is
      by_early (Some n) x = absurd (cc)

  pub is_right : (text : List ℕ) (used : ℕ) → SpellsStep text (found h used) → IsRight h
  is_right text used spells = by_cut (after_empty_lines text) (head_cut (after_empty_lines text)) refl spells
    where
      by_answer : (front : List ℕ) → length front ≤ 65536 → IsAnswer front (Ok h) → IsRight h
      by_answer front short (inl a) = by_head a.head (lengths front a.head a.reads.1 short) a.judged
      by_answer front short (inr a) = let e : ◌≡◌ {A = Result Head ℕ} (Ok h) (Err 400) = a.is in absurd (cc)

      by_result : (front : List ℕ) (n : ℕ) (answer : Result Head ℕ) → length front ≤ 65536 → IsAnswer front answer → found h used ≡ step_of n answer → IsRight h
      by_result front n (Ok k) short answers is = let same : k ≡ h = cc in by_answer front short (subst (λ (j : Head). IsAnswer front (Ok j)) same answers)
      by_result front n (Err number) short answers is = absurd (cc)

      by_cut : (rest : List ℕ) (cut : Cut) → head_cut rest ≡ cut → IsStepAt IsAnswer 431 (empty_line_bytes text) rest cut (found h used) → IsRight h
      by_cut rest (whole len) at is =
          let fits = whole_fits rest len at in
          by_result (take len rest) (empty_line_bytes text + len) is.0 (omega (arith, fits.1, length-take-le len rest fits.0)) is.1 is.2
      by_cut rest too_large at is = absurd (cc)
      by_cut rest unfinished at is = absurd (cc)

-- ---- as it is written

-- the measure of a head that was judged
pub judged_small : (h : Head) → IsJudged h → (h.form ≡ Some absolute → ⊥) → IsSmall (record { length = h.length; told = h.told })
judged_small h judged other = (is_right h other judged.text judged.used judged.spells).small

pub readable : (h : Head) (q : OutRequest) → IsJudged h → IsSentOf h q → (h.form ≡ Some absolute → ⊥) → HasRoom q → IsReadableRequest q.framing q.head
readable h q judged sent other room =
    let r : IsRight h = is_right h other judged.text judged.used judged.spells in
    let f : IsFramed (up_framing sent.filtered (request_of h)) = framed_by sent.filtered h.length h.told r.small in
    let t : IsUpTail (up_tail h.minor) = tail_is h.minor in
    record {
      kind = ap (λ (k : Head). k.fields.kind) sent.head ∙ r.kind;
      list = subst (λ (k : Head). IsHeaders k.fields) (sym sent.head) r.list;
      target = subst (λ (k : Head). GivesTarget (method_of k) (path_of k) (own_target (path_of k))) (sym sent.head) r.target;
      tail = subst (λ (k : Head). IsTail k.tail.pairs) (sym sent.head) t.tail;
      no_host = subst (λ (k : Head). list_all (λ (p : Pair). not (bytes_eq p.0 (codes "host"))) k.tail.pairs ≡ true) (sym sent.head) t.no_host;
      framed = subst (λ g. is_for_request g ≡ true) (sym sent.framing) f.for_request;
      told = subst IsInLimit (sym sent.framing) f.limit;
      few = room.few;
      short = room.short;
    }
