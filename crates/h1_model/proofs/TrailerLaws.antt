-- What the trailers of a message are.
use Rattle.std.proofs.Common.{◌≡◌, ℕ, ◌+◌, ◌≤◌, Bool, true, false, cond, not, List, [], ◌∷◌, length, map, filter, take, drop, codes, All, Option, None, Some, refl, sym, ap, ◌∙◌, subst, arith}
use Rattle.std.proofs.lemmas.Bool.{and_from}
use Rattle.std.proofs.lemmas.List.{append-nil, length-take, take-take}
use Rattle.std.proofs.lemmas.List.Elements.{All-head, All-tail}
use Rattle.std.specs.List.{list_all, list_any}
use Rattle.header_maps.specs.Kept.{is_kept_field}
use Rattle.header_maps.specs.Pairs.{is_not_named}
use Rattle.header_maps.proofs.Shapes.{filter_all, kept_lowered}
use Rattle.httparse.specs.Grammar.{LineEnd, Field, IsField, field_value, print_section}
use Rattle.httparse.specs.Spans.{name_and_value}
use Rattle.h1_model.specs.Chunks.{Sought, data_at, section_at, waiting, malformed, sought}
use Rattle.h1_model.specs.ChunkLaws.{TrailersAreFields}
use Rattle.h1_model.specs.Fields.{Pair, lists, fields_not_listed, lowercase_name}
use Rattle.h1_model.specs.Laws.{TrailersUnlisted}
use Rattle.h1_model.specs.Lines.{Cut, whole, too_large, unfinished}
use Rattle.h1_model.specs.Trailers.{is_trailer_dropped, section_cut, window_section, IsSection, ended, end_of, IsEnd, IsBehind}
use Rattle.h1_model.proofs.ChunkLaws.{cut_fits}
use Rattle.h1_model.proofs.Taken.{name_taken, value_taken, section_more, name_within}

-- ---- none is listed

filter_has : (p : Pair → Bool) (fields : List Pair) → list_all p (filter p fields) ≡ true
filter_has p [] = refl
filter_has p (f ∷ fields) = by_test (p f) refl (filter_has p fields)
  where
    by_test : (b : Bool) → p f ≡ b → list_all p (filter p fields) ≡ true → list_all p (cond b (f ∷ filter p fields) (filter p fields)) ≡ true
    by_test true is later = and_from _ _ is later
    by_test false is later = later

pub trailers_unlisted : TrailersUnlisted
trailers_unlisted None connection fields =
    filter_all (λ (f : Pair). not (list_any (lists f.0) connection)) (is_not_named (codes "host")) (fields_not_listed connection fields)
    (filter_has (λ (f : Pair). not (list_any (lists f.0) connection)) fields)
trailers_unlisted (Some asked) connection fields = filter_has (λ (f : Pair). not (list_any (lists f.0) connection)) fields

-- ---- all are fields

fields_kept : (fields : List Field) (last : LineEnd) → All IsField fields → length (print_section fields last) ≤ 65536
    → list_all is_kept_field (map lowercase_name (map name_and_value fields)) ≡ true
fields_kept [] last all short = refl
fields_kept (f ∷ fields) last all short =
    let of = All-head IsField f fields all in
    let name = name_taken f.name of.name (omega (arith, name_within f, section_more f fields last, short)) in
    and_from _ _ (kept_lowered f.name (field_value f) name (value_taken f of))
    (fields_kept fields last (All-tail IsField f fields all) (omega (arith, short, section_more f fields last)))

-- a whole section has its bound
section_short : (text : List ℕ) (len : ℕ) → section_cut text ≡ whole len → len ≤ 65536
section_short text len cut =
    let same : section_cut (take 65536 text) ≡ section_cut text = ap window_section (take-take 65536 65536 text (omega arith)) in
    omega (arith, cut_fits (take 65536 text) len (same ∙ cut), length-take 65536 text)

same_trailers : (n m : ℕ) (trailers others : List Pair) → ended trailers n ≡ end_of m (Some others) → trailers ≡ others
same_trailers n m trailers others e = cc

end_fields : (at : ℕ) (text : List ℕ) (cut : Cut) (trailers : List Pair) (used : ℕ) → section_cut text ≡ cut → IsEnd at text cut (ended trailers used)
    → list_all is_kept_field trailers ≡ true
end_fields at text (whole len) trailers used is x = by_section x.trailers x.section x.is
  where
    by_section : (o : Option (List Pair)) → IsSection (take len text) o → ended trailers used ≡ end_of (at + length (take len text)) o
        → list_all is_kept_field trailers ≡ true
    by_section None s e = absurd (cc)
    by_section (Some others) s e =
        let front = take len text in
        let section = print_section s.fields s.last in
        let short : length section ≤ 65536 =
        omega (arith, ap length (s.reads.1 ∙ append-nil section), length-take len text, section_short text len is) in
        let all = map name_and_value s.fields in
        let kept = filter_all is_kept_field (λ (f : Pair). not (is_trailer_dropped all f.0)) (map lowercase_name all)
        (fields_kept s.fields s.last s.reads.0 short) in
        subst (λ (fs : List Pair). list_all is_kept_field fs ≡ true)
        (sym (same_trailers used (at + length front) trailers others e ∙ s.are)) kept
end_fields at text too_large trailers used is x = absurd (cc)
end_fields at text unfinished trailers used is x = absurd (cc)

pub trailers_are_fields : TrailersAreFields
trailers_are_fields place text trailers used x = by_sought (sought place text) x
  where
    by_sought : (s : Sought) → IsBehind place text s (ended trailers used) → list_all is_kept_field trailers ≡ true
    by_sought (data_at at left) y = absurd (cc)
    by_sought (section_at at) y = end_fields at (drop at text) (section_cut (drop at text)) trailers used refl y
    by_sought waiting y = absurd (cc)
    by_sought malformed y = absurd (cc)
