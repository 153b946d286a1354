-- The fields of a response head that is written, and those of them that a list keeps.
use Rattle.std.proofs.Common.{◌≡◌, ℕ, Bool, true, false, cond, not, ◌||◌, Ok, List, [], ◌∷◌, ◌++◌, map, filter, codes, decimal, bytes_eq, refl, sym, ap, ◌∙◌, append_assoc}
use Rattle.std.proofs.lemmas.Bool.{and_parts, false≢true}
use Rattle.std.proofs.lemmas.List.{append-nil, map-append}
use Rattle.std.proofs.lemmas.List.Elements.{All-cons, All-nil, filter-append}
use Rattle.std.specs.List.{AllByRecursion, list_all, list_any}
use Rattle.std.specs.Prelude.{All}
use Rattle.http_header.specs.Token.{lowercase}
use Rattle.httparse.specs.Grammar.{trim_ows, IsField}
use Rattle.httparse.proofs.OnLiterals.{httparse_on_literals}
use Rattle.header_maps.specs.Kept.{is_kept_field}
use Rattle.h1_model.specs.Fields.{Pair, is_named, values_of, lists, lowercase_name, is_response_hop_name, passing_among, kept_response_fields, fields_not_listed}
use Rattle.h1_model.specs.Framing.{Framing, no_body, by_length, by_chunks, by_close}
use Rattle.h1_model.specs.Length.{response_measure}
use Rattle.h1_model.proofs.FieldLemmas.{passing_among-dropped, passing_among-passing}
use Rattle.h1_write.specs.Heads.{framing_fields, is_framing_name, IsTail, IsInLimit, measure_said, told_fields}
use Rattle.h1_write.specs.Laws.{read_field}
use Rattle.h1_write.proofs.Ending.{field_at, fields_at, kept_is_field, kept_low, IsSent}
use Rattle.h1_write.proofs.Told.{length_told, chunks_told}

-- ---- names

-- a field of a kept name with none of the names that tell a framing or name other fields
pub record IsOther (f : Pair) : Type 0 where
  pub low : lowercase f.0 ≡ f.0
  pub coded : bytes_eq f.0 (codes "transfer-encoding") ≡ false
  pub counted : bytes_eq f.0 (codes "content-length") ≡ false

-- and one that is none of the names that a list drops
pub record IsOut (hop : List ℕ → Bool) (f : Pair) : Type 0 where
  pub low : lowercase f.0 ≡ f.0
  pub stays : hop f.0 ≡ false

-- the names that a list drops: the coding is one, and Content-Length is none
pub record AreHops (hop : List ℕ → Bool) : Type 0 where
  pub coding : hop (codes "transfer-encoding") ≡ true
  pub counting : hop (codes "content-length") ≡ false

names_apart : (c k x t e u n : Bool) → (c || (k || (x || (t || (e || (u || (n || false))))))) ≡ false
    → (e ≡ false) × (n ≡ false) × ((c || (k || (x || (t || (e || (u || false)))))) ≡ false)
names_apart true k x t e u n is = absurd (false≢true (sym is))
names_apart false true x t e u n is = absurd (false≢true (sym is))
names_apart false false true t e u n is = absurd (false≢true (sym is))
names_apart false false false true e u n is = absurd (false≢true (sym is))
names_apart false false false false true u n is = absurd (false≢true (sym is))
names_apart false false false false false true n is = absurd (false≢true (sym is))
names_apart false false false false false false true is = absurd (false≢true (sym is))
names_apart false false false false false false false is = (refl, refl, refl)

apart : (f : Pair) → IsSent f
    → (bytes_eq f.0 (codes "transfer-encoding") ≡ false) × (bytes_eq f.0 (codes "content-length") ≡ false) × (is_response_hop_name f.0 ≡ false)
apart f sent =
    names_apart (bytes_eq f.0 (codes "connection")) (bytes_eq f.0 (codes "keep-alive")) (bytes_eq f.0 (codes "proxy-connection"))
    (bytes_eq f.0 (codes "te")) (bytes_eq f.0 (codes "transfer-encoding")) (bytes_eq f.0 (codes "upgrade")) (bytes_eq f.0 (codes "content-length")) sent.passes

pub sent_out : (fs : List Pair) → AllByRecursion IsSent fs → AllByRecursion (IsOut is_response_hop_name) fs
sent_out [] all = tt
sent_out (f ∷ fs) all = (record { low = all.0.low; stays = (apart f all.0).2 }, sent_out fs all.1)

pub sent_other : (fs : List Pair) → AllByRecursion IsSent fs → AllByRecursion IsOther fs
sent_other [] all = tt
sent_other (f ∷ fs) all =
    let a = apart f all.0 in (record { low = all.0.low; coded = a.0; counted = a.1 }, sent_other fs all.1)

two_false : (a b : Bool) → not (a || b) ≡ true → (a ≡ false) × (b ≡ false)
two_false true b is = absurd (false≢true is)
two_false false true is = absurd (false≢true is)
two_false false false is = (refl, refl)

pub tail_other : (fs : List Pair) → IsTail fs → AllByRecursion IsOther fs
tail_other [] tail = tt
tail_other (f ∷ fs) tail =
    let kept = and_parts (is_kept_field f) (list_all is_kept_field fs) tail.kept in
    let plain = and_parts (not (is_framing_name f.0)) (list_all (λ (g : Pair). not (is_framing_name g.0)) fs) tail.plain in
    let two = two_false (bytes_eq f.0 (codes "content-length")) (bytes_eq f.0 (codes "transfer-encoding")) plain.0 in
    (record { low = kept_low f kept.0; coded = two.1; counted = two.0 }, tail_other fs (record { kept = kept.1; plain = plain.1 }))

-- ---- values

pub values_append : (name : List ℕ) (xs ys : List Pair) → values_of name (xs ++ ys) ≡ values_of name xs ++ values_of name ys
values_append name xs ys =
    ap (map (λ (f : Pair). f.1)) (filter-append (is_named name) xs ys) ∙ map-append (λ (f : Pair). f.1) (filter (is_named name) xs) (filter (is_named name) ys)

-- a field of another name has no value
pub unnamed : (name : List ℕ) (f : Pair) (fs : List Pair) → lowercase f.0 ≡ f.0 → bytes_eq f.0 name ≡ false → values_of name (map read_field fs) ≡ []
    → values_of name (map read_field (f ∷ fs)) ≡ []
unnamed name f fs low other none =
    let is : is_named name (read_field f) ≡ false = ap (λ (n : List ℕ). bytes_eq n name) low ∙ other in
    ap (λ b. map (λ (g : Pair). g.1) (cond b (read_field f ∷ filter (is_named name) (map read_field fs)) (filter (is_named name) (map read_field fs)))) is ∙ none

pub no_codings : (fs : List Pair) → AllByRecursion IsOther fs → values_of (codes "transfer-encoding") (map read_field fs) ≡ []
no_codings [] all = refl
no_codings (f ∷ fs) all = unnamed (codes "transfer-encoding") f fs all.0.low all.0.coded (no_codings fs all.1)

pub no_lengths : (fs : List Pair) → AllByRecursion IsOther fs → values_of (codes "content-length") (map read_field fs) ≡ []
no_lengths [] all = refl
no_lengths (f ∷ fs) all = unnamed (codes "content-length") f fs all.0.low all.0.counted (no_lengths fs all.1)

-- the values of a name of three parts of the fields
pub three_parts : (name : List ℕ) (xs ys zs : List Pair)
    → values_of name (map read_field (xs ++ (ys ++ zs)))
    ≡ values_of name (map read_field xs) ++ (values_of name (map read_field ys) ++ values_of name (map read_field zs))
three_parts name xs ys zs =
    ap (values_of name) (map-append read_field xs (ys ++ zs) ∙ ap (λ (t : List Pair). map read_field xs ++ t) (map-append read_field ys zs))
    ∙ values_append name (map read_field xs) (map read_field ys ++ map read_field zs)
    ∙ ap (λ (t : List (List ℕ)). values_of name (map read_field xs) ++ t) (values_append name (map read_field ys) (map read_field zs))

-- with none in the first part and the last, those of the middle
pub only_middle : (name : List ℕ) (xs ys zs : List Pair) → values_of name (map read_field xs) ≡ [] → values_of name (map read_field zs) ≡ []
    → values_of name (map read_field (xs ++ (ys ++ zs))) ≡ values_of name (map read_field ys)
only_middle name xs ys zs first last =
    three_parts name xs ys zs
    ∙ ap (λ (t : List (List ℕ)). t ++ (values_of name (map read_field ys) ++ values_of name (map read_field zs))) first
    ∙ ap (λ (t : List (List ℕ)). values_of name (map read_field ys) ++ t) last
    ∙ append-nil (values_of name (map read_field ys))

framing_codings : Framing → List (List ℕ)
framing_codings framing = values_of (codes "transfer-encoding") (map read_field (framing_fields framing))

-- what the framing field alone tells
told_alone : (framing : Framing) → IsInLimit framing
    → response_measure 1 (values_of (codes "transfer-encoding") (map read_field (framing_fields framing))) (values_of (codes "content-length") (map read_field (framing_fields framing)))
    ≡ Ok (measure_said framing)
unfolding httparse_on_literals
told_alone no_body small = refl
told_alone (by_length n) small = length_told n small
told_alone by_chunks small = chunks_told
told_alone by_close small = refl

pub written_told : (framing : Framing) (sent tail : List Pair) → AllByRecursion IsSent sent → IsTail tail → IsInLimit framing
    → response_measure 1 (values_of (codes "transfer-encoding") (map read_field (sent ++ (framing_fields framing ++ tail))))
    (values_of (codes "content-length") (map read_field (sent ++ (framing_fields framing ++ tail)))) ≡ Ok (measure_said framing)
written_told framing sent tail out is small =
    let codings = only_middle (codes "transfer-encoding") sent (framing_fields framing) tail (no_codings sent (sent_other sent out)) (no_codings tail (tail_other tail is)) in
    let lengths = only_middle (codes "content-length") sent (framing_fields framing) tail (no_lengths sent (sent_other sent out)) (no_lengths tail (tail_other tail is)) in
    (λ t. response_measure 1 (codings t) (lengths t)) ∙ told_alone framing small

-- ---- the fields that a list keeps

-- none of them names other fields but the tail
pub no_connection : (fs : List Pair) → AllByRecursion IsSent fs → values_of (codes "connection") (map read_field fs) ≡ []
no_connection [] all = refl
no_connection (f ∷ fs) all =
    ap (λ b. map (λ (g : Pair). g.1) (cond b (read_field f ∷ filter (is_named (codes "connection")) (map read_field fs)) (filter (is_named (codes "connection")) (map read_field fs))))
    all.0.other
    ∙ no_connection fs all.1

no_framing_connection : (framing : Framing) → values_of (codes "connection") (map read_field (framing_fields framing)) ≡ []
unfolding httparse_on_literals
no_framing_connection no_body = refl
no_framing_connection (by_length n) = refl
no_framing_connection by_chunks = refl
no_framing_connection by_close = refl

pub written_connection : (framing : Framing) (sent tail : List Pair) → AllByRecursion IsSent sent
    → values_of (codes "connection") (map read_field (sent ++ (framing_fields framing ++ tail))) ≡ values_of (codes "connection") (map read_field tail)
written_connection framing sent tail out =
    let last = values_of (codes "connection") (map read_field tail) in
    three_parts (codes "connection") sent (framing_fields framing) tail
    ∙ ap (λ (t : List (List ℕ)). t ++ (values_of (codes "connection") (map read_field (framing_fields framing)) ++ last)) (no_connection sent out)
    ∙ ap (λ (t : List (List ℕ)). t ++ last) (no_framing_connection framing)

-- dropped, where these are the values of Connection
abbrev pub dropped_by : (List ℕ → Bool) → List (List ℕ) → List ℕ → Bool
dropped_by hop connection name = hop name || list_any (lists name) connection

abbrev pub passing_by : (List ℕ → Bool) → List (List ℕ) → List Pair → List Pair
passing_by hop connection fields = map lowercase_name (passing_among (dropped_by hop connection) fields)

out_kept : (hop : List ℕ → Bool) (connection : List (List ℕ)) (fs : List Pair) → AllByRecursion (IsOut hop) fs
    → passing_by hop connection (map read_field fs) ≡ fields_not_listed connection (map read_field fs)
out_kept hop connection [] all = refl
out_kept hop connection (f ∷ fs) all = by_test (list_any (lists f.0) connection) refl (out_kept hop connection fs all.1)
  where
    same : (b : Bool) → list_any (lists f.0) connection ≡ b → dropped_by hop connection (lowercase f.0) ≡ b
    same b e = ap (dropped_by hop connection) all.0.low ∙ ap (λ h. h || list_any (lists f.0) connection) all.0.stays ∙ e

    by_test : (b : Bool) → list_any (lists f.0) connection ≡ b
        → passing_by hop connection (map read_field fs) ≡ fields_not_listed connection (map read_field fs)
        → passing_by hop connection (map read_field (f ∷ fs)) ≡ fields_not_listed connection (map read_field (f ∷ fs))
    by_test true e later =
        ap (map lowercase_name) (passing_among-dropped (dropped_by hop connection) (read_field f) (map read_field fs) (same true e)) ∙ later
        ∙ sym (ap (λ b. cond (not b) (read_field f ∷ fields_not_listed connection (map read_field fs)) (fields_not_listed connection (map read_field fs))) e)
    by_test false e later =
        ap (map lowercase_name) (passing_among-passing (dropped_by hop connection) (read_field f) (map read_field fs) (same false e))
        ∙ (λ t. (all.0.low t, trim_ows f.1) ∷ later t)
        ∙ sym (ap (λ b. cond (not b) (read_field f ∷ fields_not_listed connection (map read_field fs)) (fields_not_listed connection (map read_field fs))) e)

-- a field of a name that is dropped, in front of others
pub dropped_first : (hop : List ℕ → Bool) (connection : List (List ℕ)) (f : Pair) (fs : List Pair) → lowercase f.0 ≡ f.0 → hop f.0 ≡ true
    → passing_by hop connection (f ∷ fs) ≡ passing_by hop connection fs
dropped_first hop connection f fs low is =
    ap (map lowercase_name) (passing_among-dropped (dropped_by hop connection) f fs
    (ap (dropped_by hop connection) low ∙ ap (λ h. h || list_any (lists f.0) connection) is))

framing_kept : (hop : List ℕ → Bool) (connection : List (List ℕ)) (framing : Framing) → AreHops hop
    → passing_by hop connection (map read_field (framing_fields framing)) ≡ fields_not_listed connection (map read_field (told_fields framing))
unfolding httparse_on_literals
framing_kept hop connection no_body are = refl
framing_kept hop connection (by_length n) are =
    out_kept hop connection ((codes "content-length", decimal n) ∷ []) (record { low = refl; stays = are.counting }, tt)
framing_kept hop connection by_chunks are = dropped_first hop connection (read_field (codes "transfer-encoding", codes "chunked")) [] refl are.coding
framing_kept hop connection by_close are = refl

passing_append : (hop : List ℕ → Bool) (connection : List (List ℕ)) (xs ys : List Pair)
    → passing_by hop connection (xs ++ ys) ≡ passing_by hop connection xs ++ passing_by hop connection ys
passing_append hop connection xs ys =
    ap (map lowercase_name) (filter-append (λ (f : Pair). not (dropped_by hop connection (lowercase f.0))) xs ys)
    ∙ map-append lowercase_name (passing_among (dropped_by hop connection) xs) (passing_among (dropped_by hop connection) ys)

pub written_passing : (hop : List ℕ → Bool) (connection : List (List ℕ)) (framing : Framing) (sent tail : List Pair) → AreHops hop
    → AllByRecursion (IsOut hop) sent
    → passing_by hop connection (map read_field (sent ++ (framing_fields framing ++ tail)))
    ≡ fields_not_listed connection (map read_field (sent ++ told_fields framing)) ++ passing_by hop connection (map read_field tail)
written_passing hop connection framing sent tail are out =
    let told = framing_fields framing in
    let last = map read_field tail in
    let kept = passing_by hop connection in
    let pass = fields_not_listed connection in
    let split : map read_field (sent ++ (told ++ tail)) ≡ map read_field sent ++ (map read_field told ++ last) =
    map-append read_field sent (told ++ tail) ∙ ap (λ (t : List Pair). map read_field sent ++ t) (map-append read_field told tail) in
    let parts : kept (map read_field sent ++ (map read_field told ++ last)) ≡ kept (map read_field sent) ++ (kept (map read_field told) ++ kept last) =
    passing_append hop connection (map read_field sent) (map read_field told ++ last)
    ∙ ap (λ (t : List Pair). kept (map read_field sent) ++ t) (passing_append hop connection (map read_field told) last) in
    let each : kept (map read_field sent) ++ (kept (map read_field told) ++ kept last)
    ≡ pass (map read_field sent) ++ (pass (map read_field (told_fields framing)) ++ kept last) =
    λ t. out_kept hop connection sent out t ++ (framing_kept hop connection framing are t ++ kept last) in
    let join : pass (map read_field (sent ++ told_fields framing)) ≡ pass (map read_field sent) ++ pass (map read_field (told_fields framing)) =
    ap pass (map-append read_field sent (told_fields framing))
    ∙ filter-append (λ (f : Pair). not (list_any (lists f.0) connection)) (map read_field sent) (map read_field (told_fields framing)) in
    ap kept split ∙ parts ∙ each
    ∙ sym (append_assoc (pass (map read_field sent)) (pass (map read_field (told_fields framing))) (kept last))
    ∙ ap (λ (t : List Pair). t ++ kept last) (sym join)

response_hops : AreHops is_response_hop_name
unfolding httparse_on_literals
response_hops = record { coding = refl; counting = refl }

pub written_kept : (framing : Framing) (sent tail : List Pair) → AllByRecursion IsSent sent
    → kept_response_fields (map read_field (sent ++ (framing_fields framing ++ tail)))
    ≡ fields_not_listed (values_of (codes "connection") (map read_field tail)) (map read_field (sent ++ told_fields framing)) ++ kept_response_fields (map read_field tail)
written_kept framing sent tail out =
    let all = map read_field (sent ++ (framing_fields framing ++ tail)) in
    let connection = values_of (codes "connection") (map read_field tail) in
    ap (λ (vs : List (List ℕ)). passing_by is_response_hop_name vs all) (written_connection framing sent tail out)
    ∙ written_passing is_response_hop_name connection framing sent tail response_hops (sent_out sent out)

-- ---- fields of the grammar

pub fields_all : (fs : List Pair) → list_all is_kept_field fs ≡ true → All IsField (fields_at fs)
fields_all [] all = All-nil IsField
fields_all (f ∷ fs) all =
    let both = and_parts (is_kept_field f) (list_all is_kept_field fs) all in
    All-cons IsField (field_at f) (fields_at fs) (kept_is_field f both.0) (fields_all fs both.1)
