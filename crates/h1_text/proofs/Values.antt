-- The values of a name, one field after another.
use Rattle.std.proofs.Common.{◌≡◌, ℕ, ◌+◌, ◌<◌, Bool, true, false, cond, List, [], ◌∷◌, ◌++◌, length, take, get_or, refl, sym, ap, ◌∙◌}
use Rattle.std.proofs.lemmas.List.{take_more, map-append}
use Rattle.httparse.specs.declared.spans.HeaderSpan.{HeaderSpan}
use Rattle.httparse.specs.Spans.{header_bytes}
use Rattle.h1_model.specs.Fields.{Pair, is_named, values_of}
use Rattle.h1_model.proofs.FieldLemmas.{values_of-named, values_of-other}
use Rattle.h1_text.specs.Spans.{fields_at}

-- the values of a name among some fields and one more after them
pub values_of-more : (name : List ℕ) (fs : List Pair) (f : Pair)
    → values_of name (fs ++ f ∷ []) ≡ cond (is_named name f) (values_of name fs ++ f.1 ∷ []) (values_of name fs)
values_of-more name [] f = by_test (is_named name f) refl
  where
    by_test : (b : Bool) → is_named name f ≡ b → values_of name (f ∷ []) ≡ cond b (f.1 ∷ []) []
    by_test true named = values_of-named name f [] named
    by_test false other = values_of-other name f [] other
values_of-more name (g ∷ gs) f = by_test (is_named name g) (is_named name f) refl (values_of-more name gs f)
  where
    behind : (b : Bool) (front : List (List ℕ)) (v : List ℕ) → g.1 ∷ cond b (front ++ v ∷ []) front ≡ cond b ((g.1 ∷ front) ++ v ∷ []) (g.1 ∷ front)
    behind true front v = refl
    behind false front v = refl

    by_test : (a b : Bool) → is_named name g ≡ a
        → values_of name (gs ++ f ∷ []) ≡ cond b (values_of name gs ++ f.1 ∷ []) (values_of name gs)
        → values_of name (g ∷ (gs ++ f ∷ [])) ≡ cond b (values_of name (g ∷ gs) ++ f.1 ∷ []) (values_of name (g ∷ gs))
    by_test true b named later =
        let here = values_of-named name g gs named in
        values_of-named name g (gs ++ f ∷ []) named
        ∙ ap (λ (vs : List (List ℕ)). g.1 ∷ vs) later
        ∙ behind b (values_of name gs) f.1
        ∙ ap (λ (vs : List (List ℕ)). cond b (vs ++ f.1 ∷ []) vs) (sym here)
    by_test false b other later =
        let here = values_of-other name g gs other in
        values_of-other name g (gs ++ f ∷ []) other ∙ later ∙ ap (λ (vs : List (List ℕ)). cond b (vs ++ f.1 ∷ []) vs) (sym here)

-- the values of a name, after one field more of that name, and after one of another
pub values_named : (name : List ℕ) (fs : List Pair) (f : Pair) → true ≡ is_named name f → values_of name fs ++ f.1 ∷ [] ≡ values_of name (fs ++ f ∷ [])
values_named name fs f named =
    ap (λ b. cond b (values_of name fs ++ f.1 ∷ []) (values_of name fs)) named ∙ sym (values_of-more name fs f)

pub values_other : (name : List ℕ) (fs : List Pair) (f : Pair) → false ≡ is_named name f → values_of name fs ≡ values_of name (fs ++ f ∷ [])
values_other name fs f other =
    ap (λ b. cond b (values_of name fs ++ f.1 ∷ []) (values_of name fs)) other ∙ sym (values_of-more name fs f)

-- the fields in front of a place, and that at it
pub fields_at-next : (text : List ℕ) (spans : List HeaderSpan) (i : ℕ) (d : HeaderSpan) (f : Pair) → i < length spans → f ≡ header_bytes text (get_or spans i d)
    → fields_at text (take i spans) ++ f ∷ [] ≡ fields_at text (take (i + 1) spans)
fields_at-next text spans i d f lt is =
    ap (λ (p : Pair). fields_at text (take i spans) ++ p ∷ []) is
    ∙ sym (map-append (header_bytes text) (take i spans) (get_or spans i d ∷ []))
    ∙ sym (ap (fields_at text) (take_more spans i d lt))
