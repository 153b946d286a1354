-- Lines that are noted, one field after another.
use Rattle.std.proofs.Common.{◌≡◌, ℕ, ◌+◌, ◌<◌, ◌≤◌, Bool, true, false, ◌||◌, List, [], ◌∷◌, ◌++◌, length, take, get_or, refl, sym, ap, ◌∙◌, subst}
use Rattle.std.proofs.lemmas.Slice.Eq.{bytes_eq-Decides}
use Rattle.std.proofs.lemmas.List.{take_all}
use Rattle.std.specs.Prelude.{codes, bytes_eq}
use Rattle.http_header.specs.Token.{lowercase}
use Rattle.std.specs.List.{list_any}
use Rattle.httparse.specs.declared.spans.HeaderSpan.{HeaderSpan}
use Rattle.httparse.specs.Spans.{header_bytes}
use Rattle.h1_model.specs.Fields.{Pair, is_named, values_of, lists, is_listed}
use Rattle.h1_text.proofs.Values.{values_named, values_other, fields_at-next}
use Rattle.h1_head.specs.declared.fields.FieldLines.{FieldLines}
use Rattle.h1_head.specs.declared.fields.Noted.{Noted}
use Rattle.h1_head.specs.Noted.{AreNoted}
use Rattle.h1_text.specs.Spans.{fields_at}
use Rattle.h1_head.specs.Spans.{AreLines, AreMany}

-- a line after one, and behind more
pub one_more : (values : List (List ℕ)) (first second : List ℕ) → values ≡ first ∷ [] → AreMany (values ++ second ∷ [])
one_more values first second is = record { first = first; second = second; others = []; are = ap (λ (vs : List (List ℕ)). vs ++ second ∷ []) is }

pub many_more : (values : List (List ℕ)) (last : List ℕ) → AreMany values → AreMany (values ++ last ∷ [])
many_more values last many = record {
  first = many.first;
  second = many.second;
  others = many.others ++ last ∷ [];
  are = ap (λ (vs : List (List ℕ)). vs ++ last ∷ []) many.are;
}

-- the lines of a name, after one field more of that name, and after one of another
pub noted_named : (name : List ℕ) (fs : List Pair) (f : Pair) (old new : FieldLines) → true ≡ is_named name f
    → ((values : List (List ℕ)) → AreLines values old → AreLines (values ++ f.1 ∷ []) new)
    → AreLines (values_of name fs) old → AreLines (values_of name (fs ++ f ∷ [])) new
noted_named name fs f old new named step lines =
    subst (λ (vs : List (List ℕ)). AreLines vs new) (values_named name fs f named) (step (values_of name fs) lines)

pub noted_other : (name : List ℕ) (fs : List Pair) (f : Pair) (old : FieldLines) → false ≡ is_named name f
    → AreLines (values_of name fs) old → AreLines (values_of name (fs ++ f ∷ [])) old
noted_other name fs f old other lines =
    subst (λ (vs : List (List ℕ)). AreLines vs old) (values_other name fs f other) lines

-- a field of one name has no other
pub named_alone : (a b : List ℕ) (f : Pair) → bytes_eq a b ≡ false → true ≡ is_named a f → false ≡ is_named b f
named_alone a b f other named =
    sym other ∙ sym (ap (λ (n : List ℕ). bytes_eq n b) ((bytes_eq-Decides (lowercase f.0) a).0 (sym named)))

-- ---- what the lines of Connection list

pub none_listed : (name : List ℕ) (fields : List Pair) → values_of (codes "connection") fields ≡ [] → is_listed name fields ≡ false
none_listed name fields none = ap (list_any (lists name)) none

pub one_lists : (name : List ℕ) (fields : List Pair) (value : List ℕ) → values_of (codes "connection") fields ≡ value ∷ []
    → is_listed name fields ≡ lists name value
one_lists name fields value one = ap (list_any (lists name)) one ∙ last (lists name value)
  where
    last : (b : Bool) → (b || false) ≡ b
    last true = refl
    last false = refl

pub noted_next : (text : List ℕ) (spans : List HeaderSpan) (i : ℕ) (d : HeaderSpan) (f : Pair) (noted : Noted) → i < length spans
    → f ≡ header_bytes text (get_or spans i d) → AreNoted (fields_at text (take i spans) ++ f ∷ []) noted
    → AreNoted (fields_at text (take (i + 1) spans)) noted
noted_next text spans i d f noted lt is so_far = subst (λ (fs : List Pair). AreNoted fs noted) (fields_at-next text spans i d f lt is) so_far

pub noted_all : (text : List ℕ) (spans : List HeaderSpan) (i : ℕ) (noted : Noted) → length spans ≤ i → AreNoted (fields_at text (take i spans)) noted
    → AreNoted (fields_at text spans) noted
noted_all text spans i noted past so_far = subst (λ (ss : List HeaderSpan). AreNoted (fields_at text ss) noted) (take_all i spans past) so_far
