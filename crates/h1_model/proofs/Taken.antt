-- What is read is taken by a list.
use Rattle.std.proofs.Common.{◌≡◌, ℕ, ◌+◌, ◌<◌, ◌≤◌, Bool, true, false, cond, eqb, not, ◌&&◌, ◌||◌, List, [], ◌∷◌, ◌++◌, length, get_or, bytes_eq, codes, All, Option, None, Some, IsSome, refl, sym, ap, ◌∙◌, subst, arith}
use Rattle.std.proofs.lemmas.Bool.{and_from, lt-ltb, le-leb, ne_eqb, false≢true}
use Rattle.std.proofs.lemmas.Bool.Decides.{nat_tests}
use Rattle.std.proofs.lemmas.List.{length-append, get_or_default}
use Rattle.std.proofs.lemmas.List.Elements.{All-head, All-tail}
use Rattle.std.proofs.lemmas.List.Sums.{list_all-from_AllPass}
use Rattle.std.specs.Prelude.{unwrap_or}
use Rattle.std.specs.List.{list_any, flat_map}
use Rattle.http_header.specs.Token as header
use Rattle.http_header.specs.Token.{lowercase}
use Rattle.header_maps.specs.Faults.{request_fault, response_fault}
use Rattle.header_maps.specs.Headers.{Headers}
use Rattle.header_maps.specs.Judged as judged
use Rattle.header_maps.specs.Operations.{added, request_headers, response_headers}
use Rattle.header_maps.specs.Pairs.{plain_count}
use Rattle.header_maps.proofs.Kept.{few_add, add_room}
use Rattle.httparse.specs.Grammar.{is_token_byte, is_value_byte, IsToken, LineEnd, print_end, Field, IsField, field_value, print_field, print_section, print_blank, print_request, print_response, status_code}
use Rattle.httparse.specs.Spans.{name_and_value}
use Rattle.httparse.proofs.TrimLemmas.{AllPass-trim_ows}
use Rattle.http_uri.specs.ByteClasses.{is_authority_byte}
use Rattle.http_uri.specs.Grammar.{IsUriText, IsAuthority}
use Rattle.h1_model.specs.Fields.{Pair, values_of, is_dropped, is_dropped_from_response, passing_among}
use Rattle.h1_model.specs.Head.{is_host_right, host_of, pairs_at, pairs_of, early_refusal}
use Rattle.h1_model.specs.Laws.{RequestTaken, ResponseTaken}
use Rattle.h1_model.specs.Listed.{with_fields, scheme_text}
use Rattle.h1_model.specs.Target.{Target, Scheme, http, https, origin, absolute, asterisk, is_visible, is_path_value, is_options, scheme_of, is_absolute_path, absolute_parts, target_of, GivesTarget}
use Rattle.h1_model.proofs.GrammarLines.{Parts, Prints, request_parts, request_prints, response_parts, response_prints}
use Rattle.h1_model.proofs.FieldLemmas.{passing_among-dropped, passing_among-passing, with_fields-taken}

-- ---- names and values

token_taken : (bytes : List ℕ) → IsToken bytes → judged.is_token_text bytes ≡ true
unfolding is_token_byte header.is_token_byte
token_taken bytes is = and_from _ _ (lt-ltb 0 (length bytes) is.0) (list_all-from_AllPass is_token_byte bytes is.1)

pub name_taken : (bytes : List ℕ) → IsToken bytes → length bytes ≤ 65535 → judged.is_field_name bytes ≡ true
name_taken bytes is short = and_from _ _ (token_taken bytes is) (le-leb (length bytes) 65535 short)

pub value_taken : (f : Field) → IsField f → judged.is_field_value (field_value f) ≡ true
value_taken f is = list_all-from_AllPass is_value_byte (field_value f) (AllPass-trim_ows is_value_byte f.raw is.raw)

-- ---- fields

-- how long the names may be, and how many there may be
pub section_more : (f : Field) (fs : List Field) (last : LineEnd) → length (print_section (f ∷ fs) last) ≡ length (print_field f) + length (print_section fs last)
section_more f fs last =
    omega (
      arith,
      length-append (print_field f ++ flat_map print_field fs) (print_end last),
      length-append (print_field f) (flat_map print_field fs),
      length-append (flat_map print_field fs) (print_end last),
    )

pub name_within : (f : Field) → length f.name < length (print_field f)
name_within f = omega (arith, length-append (f.name ++ 58 ∷ f.raw) (print_end f.end), length-append f.name (58 ∷ f.raw))

fields_taken : (dropped : List ℕ → Bool) (fs : List Field) (last : LineEnd) (headers : Headers) → All IsField fs
    → length (print_section fs last) ≤ 65536 → plain_count headers.pairs + length fs ≤ 100
    → IsSome (with_fields headers (passing_among dropped (pairs_at fs)))
fields_taken dropped [] last headers all short few = refl
fields_taken dropped (f ∷ fs) last headers all short few =
    by_test (dropped (lowercase f.name)) refl
    (λ next room. fields_taken dropped fs last next (All-tail IsField f fs all) (omega (arith, short, section_more f fs last)) room)
  where
    is : IsField f
    is = All-head IsField f fs all

    by_test : (b : Bool) → dropped (lowercase f.name) ≡ b
        → ((next : Headers) → plain_count next.pairs + length fs ≤ 100 → IsSome (with_fields next (passing_among dropped (pairs_at fs))))
        → IsSome (with_fields headers (passing_among dropped (pairs_at (f ∷ fs))))
    by_test true out later =
        subst (λ (ps : List Pair). IsSome (with_fields headers ps)) (sym (passing_among-dropped dropped (name_and_value f) (pairs_at fs) out))
        (later headers (omega (arith, few)))
    by_test false kept later =
        let of = All-head IsField f fs all in
        let name = name_taken f.name of.name (omega (arith, name_within f, section_more f fs last, short)) in
        let none = sym (add_room headers f.name (field_value f) name (value_taken f of) (omega (arith, few))) in
        let more = few_add headers.pairs f.name (field_value f) name in
        subst (λ (ps : List Pair). IsSome (with_fields headers ps)) (sym (passing_among-passing dropped (name_and_value f) (pairs_at fs) kept))
        (subst (λ (o : Option Headers). IsSome o) (sym (with_fields-taken headers (name_and_value f) (passing_among dropped (pairs_at fs)) none))
        (later (added headers f.name (field_value f)) (omega (arith, few, more))))

-- ---- pseudo-headers

visible_byte : (b : ℕ) → is_authority_byte b ≡ true → is_visible b ≡ true
visible_byte b h = grind (arith, nat_tests)

authority_taken : (a : List ℕ) → IsAuthority a → judged.is_authority a ≡ true
authority_taken a is =
    list_all-from_AllPass judged.is_visible a (λ k d lt. subst (λ b. judged.is_visible b ≡ true) (get_or_default a k 0 d lt) (visible_byte (get_or a k 0) (is.bytes k lt).byte))

host_taken : (minor : ℕ) (hosts : List (List ℕ)) → is_host_right minor hosts ≡ true → judged.is_authority (host_of hosts) ≡ true
host_taken minor [] right = refl
host_taken minor (h ∷ []) right = right
host_taken minor (h ∷ i ∷ hosts) right = absurd (false≢true right)

scheme_taken : (s : Scheme) → judged.is_scheme (scheme_text s) ≡ true
scheme_taken http = refl
scheme_taken https = refl

-- the parts of a target are values of their pseudo-headers
record AreTaken (parts : Target) : Type 0 where
  path : judged.is_path parts.path ≡ true
  authority : (a : List ℕ) → parts.authority ≡ Some a → judged.is_authority a ≡ true

none_some : (y : Target) → ◌≡◌ {A = Option Target} None (Some y) → ⊥
none_some y e = cc

same_target : (x y : Target) → Some x ≡ Some y → x ≡ y
same_target x y e = cc

no_authority : (a : List ℕ) → ◌≡◌ {A = Option (List ℕ)} None (Some a) → ⊥
no_authority a e = cc

same_authority : (a b : List ℕ) → Some a ≡ Some b → a ≡ b
same_authority a b e = cc

or_left : (a b : Bool) → a ≡ true → (a || b) ≡ true
or_left true b e = refl
or_left false b e = absurd (false≢true e)

or_right : (a b : Bool) → b ≡ true → (a || b) ≡ true
or_right true b e = refl
or_right false b e = e

parts_taken : (method target : List ℕ) (parts : Target) → GivesTarget method target parts → AreTaken parts
parts_taken method target parts g = by_form g.scheme g.authority g.kept g.reads g.gives
  where
    own : (x : Target) → judged.is_path x.path ≡ true → x.authority ≡ None → x ≡ parts → AreTaken parts
    own x path none same =
        subst AreTaken same (record { path = path; authority = λ a e. absurd (no_authority a (sym none ∙ e)) })

    by_origin : (star options value : Bool) → bytes_eq target (codes "*") ≡ star → is_path_value target ≡ value
        → cond star (cond options (Some (record { form = asterisk; scheme = http; authority = None; path = target })) None)
        (cond value (Some (record { form = origin; scheme = http; authority = None; path = target })) None) ≡ Some parts
        → AreTaken parts
    by_origin true true value is_star is_value e =
        own (record { form = asterisk; scheme = http; authority = None; path = target }) (or_left _ _ is_star) refl (same_target _ _ e)
    by_origin true false value is_star is_value e = absurd (none_some parts e)
    by_origin false options true is_star is_value e =
        own (record { form = origin; scheme = http; authority = None; path = target }) (or_right _ _ is_value) refl (same_target _ _ e)
    by_origin false options false is_star is_value e = absurd (none_some parts e)

    by_scheme : (s : Option Scheme) (a path : List ℕ) → judged.is_authority a ≡ true → absolute_parts s a path ≡ Some parts → AreTaken parts
    by_scheme None a path taken e = absurd (none_some parts e)
    by_scheme (Some s) a path taken e = by_tests (not (list_any (λ b. eqb b 64) a)) (is_absolute_path path) refl e
      where
        by_tests : (b c : Bool) → is_absolute_path path ≡ c
            → cond (b && c) (Some (record { form = absolute; scheme = s; authority = Some a; path = path })) None ≡ Some parts → AreTaken parts
        by_tests true true is e =
            subst AreTaken (same_target (record { form = absolute; scheme = s; authority = Some a; path = path }) parts e)
            (record { path = is; authority = λ x same. subst (λ y. judged.is_authority y ≡ true) (same_authority a x same) taken })
        by_tests true false is e = absurd (none_some parts e)
        by_tests false c is e = absurd (none_some parts e)

    by_form : (s a : Option (List ℕ)) (k : List ℕ) → IsUriText target s a k → target_of method target s a ≡ Some parts → AreTaken parts
    by_form None None k reads gives =
        by_origin (bytes_eq target (codes "*")) (is_options method) (is_path_value target) refl refl gives
    by_form None (Some a) k reads gives = absurd (none_some parts gives)
    by_form (Some s) None k reads gives = absurd (none_some parts gives)
    by_form (Some s) (Some a) k reads gives =
        by_scheme (scheme_of s) a _ (authority_taken a reads.1.is_authority) gives

-- ---- heads

pub section_short : (text print : List ℕ) (p : Parts) (rest : List ℕ) → Prints print p → text ≡ print ++ rest → length text ≤ 65536
    → length (print_section p.fields p.last) ≤ 65536
section_short text print p rest prints is short =
    let section = print_section p.fields p.last in
    let end = print_end p.line_end in
    omega (
      arith,
      short,
      ap length (is ∙ prints rest),
      length-append (print_blank p.blank) (p.words ++ (end ++ (section ++ rest))),
      length-append p.words (end ++ (section ++ rest)),
      length-append end (section ++ rest),
      length-append section rest,
    )

-- the method is not CONNECT, and Host is right
record IsEarly (method : List ℕ) (minor : ℕ) (hosts : List (List ℕ)) : Type 0 where
  other : bytes_eq method (codes "CONNECT") ≡ false
  host : is_host_right minor hosts ≡ true

early : (method : List ℕ) (minor : ℕ) (fields : List Pair) → early_refusal method minor fields ≡ None
    → IsEarly method minor (values_of (codes "host") fields)
early method minor fields = by_tests (bytes_eq method (codes "CONNECT")) (is_host_right minor (values_of (codes "host") fields)) refl refl
  where
    refused : (n : ℕ) → ◌≡◌ {A = Option ℕ} (Some n) None → ⊥
    refused n e = cc

    by_tests : (a b : Bool) → bytes_eq method (codes "CONNECT") ≡ a → is_host_right minor (values_of (codes "host") fields) ≡ b
        → cond {A = Option ℕ} a (Some 501) (cond b None (Some 400)) ≡ None → IsEarly method minor (values_of (codes "host") fields)
    by_tests true b is_connect is_right e = absurd (refused 501 e)
    by_tests false true is_connect is_right e = record { other = is_connect; host = is_right }
    by_tests false false is_connect is_right e = absurd (refused 400 e)

chosen : (o : Option (List ℕ)) (host : List ℕ) → ((a : List ℕ) → o ≡ Some a → judged.is_authority a ≡ true) → judged.is_authority host ≡ true
    → judged.is_authority (unwrap_or o host) ≡ true
chosen None host own given = given
chosen (Some a) host own given = own a refl

fault_free : (a b c d : Bool) → a ≡ true → b ≡ true → c ≡ true → d ≡ true → (a && b && c && d) ≡ true
fault_free a b c d ea eb ec ed = rw (ea, eb, ec, ed)

request_faultless : (method scheme authority path : List ℕ) → judged.is_method method ≡ true → judged.is_scheme scheme ≡ true
    → judged.is_authority authority ≡ true → judged.is_path path ≡ true → request_fault method scheme authority path ≡ None
request_faultless method scheme authority path m s a p = rw (m, s, a, p)

pub request_taken : RequestTaken
request_taken text head rest parts reads short few none gives =
    let fields = pairs_of head in
    let hosts = values_of (codes "host") fields in
    let before = early head.method head.minor fields none in
    let taken = parts_taken head.method head.target parts gives in
    let authority = unwrap_or parts.authority (host_of hosts) in
    let method_is : judged.is_method head.method ≡ true = and_from _ _ (token_taken head.method reads.0.method) (ap not before.other) in
    let authority_is : judged.is_authority authority ≡ true = chosen parts.authority (host_of hosts) taken.authority (host_taken head.minor hosts before.host) in
    let fault : request_fault head.method (scheme_text parts.scheme) authority parts.path ≡ None =
    request_faultless head.method (scheme_text parts.scheme) authority parts.path method_is (scheme_taken parts.scheme) authority_is taken.path in
    let headers = request_headers head.method (scheme_text parts.scheme) authority parts.path in
    let section = section_short text (print_request head) (request_parts head) rest (request_prints head) reads.1 short in
    rw fault (fields_taken (is_dropped fields) head.fields head.last headers reads.0.fields section (omega (arith, few)))

-- a status that a list takes
status_faultless : (status : ℕ) → 100 ≤ status → status ≤ 599 → response_fault status ≡ None
status_faultless status low high =
    let l = le-leb 100 status low in
    let h = le-leb status 599 high in
    rw (l, h)

pub response_taken : ResponseTaken
response_taken text head rest reads short few low high other =
    let status = status_code head in
    let fields = pairs_at head.fields in
    let fault = status_faultless status low high in
    let passes : eqb status 101 ≡ false = ne_eqb status 101 other in
    let section = section_short text (print_response head) (response_parts head) rest (response_prints head) reads.1 short in
    let count : plain_count (response_headers status).pairs ≡ 0 = refl in
    rw (fault, passes) (fields_taken (is_dropped_from_response fields) head.fields head.last (response_headers status) reads.0.fields section (omega (arith, few, count)))
