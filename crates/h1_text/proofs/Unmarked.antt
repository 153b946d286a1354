-- A member that looks like no name that is not marked marks none.
use Rattle.std.proofs.Common.{◌≡◌, ◌<◌, ◌+◌, ◌∷◌, ◌||◌, ◌==◌, ◌⊎◌, ℕ, Bool, true, false, List, [], length, nat_lt, Option, None, Some, inl, inr, refl, sym, ap, subst, ◌∙◌, arith}
use Rattle.std.specs.Prelude.{slice_index_or}
use Rattle.std.specs.List.{list_any}
use Rattle.std.proofs.lemmas.Bool.{false≢true}
use Rattle.std.proofs.lemmas.Bool.Decides.{nat_tests}
use Rattle.std.proofs.lemmas.List.{get_or_past}
use Rattle.http_header.specs.Token.{lowercase}
use Rattle.h1_text.specs.declared.names.ListedNames.{ListedNames}
use Rattle.h1_text.specs.declared.wanted.Wanted.{Wanted}
use Rattle.h1_text.specs.Names.{name_in_tree, is_number, is_met}
use Rattle.h1_text.specs.Wanted.{AreWanted, IsLostOn, has}
use Rattle.h1_text.proofs.Marked.{found_within, found_name, met_next}

pub last : (k n : ℕ) → k < n + 1 → (k < n) ⊎ (k ≡ n)
last k n low = by_test (nat_lt k n) refl
  where
    by_test : (t : Bool) → nat_lt k n ≡ t → (k < n) ⊎ (k ≡ n)
    by_test true e = inl (grind (arith, nat_tests))
    by_test false e = inr (grind (arith, nat_tests))

-- the test whether a member is found under the number of a name that is not marked
abbrev pub meets : ListedNames → ℕ → List ℕ → Bool
meets listed k m = is_number k (name_in_tree listed.tree (lowercase m))

pub lost_on : (listed : ListedNames) (w : Wanted) → AreWanted listed w → (k : ℕ) → slice_index_or listed.marks.items k false ≡ false
    → IsLostOn w (meets listed k)
lost_on listed w wanted k none m other = by_number (name_in_tree listed.tree (lowercase m)) refl
  where
    by_number : (o : Option ℕ) → name_in_tree listed.tree (lowercase m) ≡ o → is_number k o ≡ false
    by_number None e = refl
    by_number (Some j) e = by_same (k == j) refl
      where
        by_same : (t : Bool) → (k == j) ≡ t → (k == j) ≡ false
        by_same false is = is
        by_same true is =
            let same : j ≡ k = grind (arith, nat_tests) in
            let h = e ∙ ap Some same in
            let low = found_within listed.tree (lowercase m) k h in
            absurd (false≢true (sym other ∙ wanted k low none m (sym (found_name listed.tree (lowercase m) k h))))

either : (a b : Bool) → (a || b) ≡ false → a ≡ false
either true b h = h
either false b h = refl

-- marks that are more leave fewer names to look for
pub still_wanted : (old new : ListedNames) (w : Wanted) (more : ℕ → Bool) → new.tree ≡ old.tree → length new.marks.items ≡ length old.marks.items
    → ((k : ℕ) → k < length old.marks.items → slice_index_or new.marks.items k false ≡ (slice_index_or old.marks.items k false || more k))
    → AreWanted old w → AreWanted new w
still_wanted old new w more tree count marks wanted k low none =
    subst (λ t. (m : List ℕ) → lowercase m ≡ lowercase (slice_index_or t.names k []) → has w m ≡ true) (sym tree)
    (wanted k (subst (λ t. k < length t.names) tree low) (by_test (nat_lt k (length old.marks.items)) refl))
  where
    by_test : (t : Bool) → nat_lt k (length old.marks.items) ≡ t → slice_index_or old.marks.items k false ≡ false
    by_test true e = either (slice_index_or old.marks.items k false) (more k) (sym (marks k (grind (arith, nat_tests))) ∙ none)
    by_test false e = get_or_past old.marks.items k false (grind (arith, nat_tests))

-- one member more, where those that look like no name were passed over
pub met_further : (listed : ListedNames) (w : Wanted) → AreWanted listed w → (k : ℕ) (m : List ℕ) (behind rest : List (List ℕ)) (b : Bool)
    → ((p : List ℕ → Bool) → IsLostOn w p → list_any p (m ∷ behind) ≡ list_any p rest)
    → (slice_index_or listed.marks.items k false || is_met listed.tree k rest) ≡ b
    → ((slice_index_or listed.marks.items k false || meets listed k m) || is_met listed.tree k behind) ≡ b
met_further listed w wanted k m behind rest b passed before = by_mark (slice_index_or listed.marks.items k false) refl
  where
    by_mark : (t : Bool) → slice_index_or listed.marks.items k false ≡ t
        → ((slice_index_or listed.marks.items k false || meets listed k m) || is_met listed.tree k behind) ≡ b
    by_mark true e =
        ap (λ t. (t || meets listed k m) || is_met listed.tree k behind) e
        ∙ sym (ap (λ t. t || is_met listed.tree k rest) e) ∙ before
    by_mark false e =
        met_next listed.tree k (slice_index_or listed.marks.items k false) m behind
        ∙ ap (λ t. slice_index_or listed.marks.items k false || t) (passed (meets listed k) (lost_on listed w wanted k e))
        ∙ before

-- no member more that looks like a name
pub met_all : (listed : ListedNames) (w : Wanted) → AreWanted listed w → (k : ℕ) (rest : List (List ℕ)) (b : Bool)
    → ((p : List ℕ → Bool) → IsLostOn w p → false ≡ list_any p rest)
    → (slice_index_or listed.marks.items k false || is_met listed.tree k rest) ≡ b
    → slice_index_or listed.marks.items k false ≡ b
met_all listed w wanted k rest b passed before = by_mark (slice_index_or listed.marks.items k false) refl
  where
    by_mark : (t : Bool) → slice_index_or listed.marks.items k false ≡ t → slice_index_or listed.marks.items k false ≡ b
    by_mark true e = e ∙ sym (ap (λ t. t || is_met listed.tree k rest) e) ∙ before
    by_mark false e =
        e ∙ passed (meets listed k) (lost_on listed w wanted k e)
        ∙ sym (ap (λ t. t || is_met listed.tree k rest) e) ∙ before
