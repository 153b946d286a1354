-- The fields that `httparse` has read are such as a list takes.
use Rattle.std.proofs.Common.{◌≡◌, ℕ, ◌≤◌, zero, suc, List, [], ◌∷◌, length, map, take, drop, All, sym, subst, arith}
use Rattle.std.proofs.lemmas.List.Elements.{All-head, All-tail}
use Rattle.httparse.specs.declared.spans.HeaderSpan.{HeaderSpan}
use Rattle.httparse.specs.declared.spans.RequestSpans.{RequestSpans}
use Rattle.httparse.specs.declared.spans.ResponseSpans.{ResponseSpans}
use Rattle.httparse.specs.Grammar.{LineEnd, Field, IsField, print_field, print_section, print_request, print_response}
use Rattle.httparse.specs.Spans.{header_bytes, name_and_value, IsRequestOf, IsResponseOf}
use Rattle.h1_model.specs.Fields.{Pair}
use Rattle.h1_model.proofs.GrammarLines.{request_parts, request_prints, response_parts, response_prints}
use Rattle.h1_model.proofs.Taken.{name_taken, value_taken, section_more, name_within, section_short}
use Rattle.h1_head.specs.Spans.{IsRead}

first_same : (x y : Pair) (xs ys : List Pair) → x ∷ xs ≡ y ∷ ys → x ≡ y
first_same x y xs ys e = cc

others_same : (x y : Pair) (xs ys : List Pair) → x ∷ xs ≡ y ∷ ys → xs ≡ ys
others_same x y xs ys e = cc

none_some : (x : Pair) (xs : List Pair) → ◌≡◌ {A = List Pair} (x ∷ xs) [] → ⊥
none_some x xs e = cc

field_read : (f : Field) → IsField f → length (print_field f) ≤ 65536 → IsRead (name_and_value f)
field_read f is short = record { name = name_taken f.name is.name (omega (arith, name_within f, short)); value = value_taken f is }

first_read :
    (text : List ℕ) (s : HeaderSpan) (ss : List HeaderSpan) → IsRead (header_bytes text s)
    → All (λ (x : HeaderSpan). IsRead (header_bytes text x)) ss → All (λ (x : HeaderSpan). IsRead (header_bytes text x)) (s ∷ ss)
first_read text s ss here rest zero d l = here
first_read text s ss here rest (suc k) d l = rest k d (omega (arith, l))

spans_read :
    (text : List ℕ) (spans : List HeaderSpan) (fs : List Field) (last : LineEnd) → map (header_bytes text) spans ≡ map name_and_value fs
    → All IsField fs → length (print_section fs last) ≤ 65536 → All (λ (s : HeaderSpan). IsRead (header_bytes text s)) spans
spans_read text [] fs last same all short = λ k d l. absurd (omega (arith, l))
spans_read text (s ∷ ss) [] last same all short = absurd (none_some (header_bytes text s) (map (header_bytes text) ss) same)
spans_read text (s ∷ ss) (f ∷ fs) last same all short =
    let more = section_more f fs last in
    let head = first_same (header_bytes text s) (name_and_value f) (map (header_bytes text) ss) (map name_and_value fs) same in
    let tail = others_same (header_bytes text s) (name_and_value f) (map (header_bytes text) ss) (map name_and_value fs) same in
    first_read text s ss
    (subst IsRead (sym head) (field_read f (All-head IsField f fs all) (omega (arith, more, short))))
    (spans_read text ss fs last tail (All-tail IsField f fs all) (omega (arith, more, short)))

pub request_read :
    (text : List ℕ) (headers : List HeaderSpan) (r : RequestSpans) → IsRequestOf text headers r → length text ≤ 65536
    → All (λ (s : HeaderSpan). IsRead (header_bytes text s)) (take r.headers headers)
request_read text headers r of short =
    let h = of.0 in
    let section = section_short text (print_request h) (request_parts h) (drop r.len text) (request_prints h) of.1.reads.1 short in
    spans_read text (take r.headers headers) h.fields h.last of.1.fields of.1.reads.0.fields section

pub response_read :
    (text : List ℕ) (headers : List HeaderSpan) (r : ResponseSpans) → IsResponseOf text headers r → length text ≤ 65536
    → All (λ (s : HeaderSpan). IsRead (header_bytes text s)) (take r.headers headers)
response_read text headers r of short =
    let h = of.0 in
    let section = section_short text (print_response h) (response_parts h) (drop r.len text) (response_prints h) of.1.reads.1 short in
    spans_read text (take r.headers headers) h.fields h.last of.1.fields of.1.reads.0.fields section
