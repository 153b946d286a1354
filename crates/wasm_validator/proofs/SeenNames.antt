-- Names in a set of texts, by their bytes.
use Rattle.std.proofs.Common.{◌≡◌, ◌⊎◌, ◌↔◌, inl, inr, ℕ, List, [], ◌∷◌, Bool, true, false, ◌||◌, cond, not, map, refl, sym, ap, subst, ◌∙◌, string_bytes}
use Rattle.std.specs.Bool.{MatchBool, OnFalse}
use Rattle.std.specs.List.{list_any}
use Rattle.std.specs.Str.{bytes_eq}
use Rattle.std.specs.Prelude.{String, string_cmp}
use Rattle.std.specs.Ordering.{nat_cmp}
use Rattle.std.specs.Cmp.Lexicographic.{slice_cmp}
use Rattle.std.specs.BTreeMap.{is_at}
use Rattle.std.specs.BTreeSet.{BTreeSet, contains, contains_text, Updates, IsUnchanged}
use Rattle.std.proofs.lemmas.Cmp.{nat_list_eq_equiv}
use Rattle.std.proofs.lemmas.Slice.Eq.{bytes_eq-Decides}
use Rattle.std.proofs.lemmas.Map.Text.{is_eq-slice_cmp, btree_set_updates_text}
use Rattle.std.proofs.lemmas.Map.Views.{Contains-from_any, list_any-from_Contains}
use Rattle.wasm_validator.specs.Seen.{IsSeen}

module _ {Y : Type 0} where
  -- the names of a set
  abbrev pub names_of : BTreeSet (String Y) → List (List ℕ)
  names_of s = map string_bytes s.keys

  -- the set's own test finds a name by its bytes
  found_by_bytes : (ks : List (String Y)) (q : List ℕ) → list_any (bytes_eq q) (map string_bytes ks) ≡ list_any (is_at (λ k. slice_cmp nat_cmp q (string_bytes k))) ks
  found_by_bytes [] q = refl
  found_by_bytes (k ∷ ks) q = λ i. sym (is_eq-slice_cmp q (string_bytes k)) i || found_by_bytes ks q i

  seen_from_test : (s : BTreeSet (String Y)) (q : List ℕ) → contains_text s q ≡ true → IsSeen (names_of s) q
  unfolding IsSeen
  seen_from_test s q found = Contains-from_any (λ a b. (bytes_eq-Decides a b).0) q (names_of s) (found_by_bytes s.keys q ∙ found)

  test_from_seen : (s : BTreeSet (String Y)) (q : List ℕ) → IsSeen (names_of s) q → contains_text s q ≡ true
  unfolding IsSeen
  test_from_seen s q seen = sym (found_by_bytes s.keys q) ∙ list_any-from_Contains nat_list_eq_equiv q (names_of s) seen

  -- no name is in an empty set
  pub none_seen : (s : BTreeSet (String Y)) → s.keys ≡ [] → (q : List ℕ) → IsSeen (names_of s) q → ⊥
  none_seen s none q seen =
      let found : contains_text s q ≡ true = test_from_seen s q seen in
      let not_found : contains_text s q ≡ false = ap (list_any (is_at (λ k. slice_cmp nat_cmp q (string_bytes k)))) none in
      cc

  told_by : (s : BTreeSet (String Y)) (name : List ℕ) (b : Bool) → contains_text s name ≡ b → MatchBool (not b) (IsSeen (names_of s) name → ⊥) (IsSeen (names_of s) name)
  told_by s name true found = seen_from_test s name found
  told_by s name false not_found = λ seen. let found : contains_text s name ≡ true = test_from_seen s name seen in cc

  -- whether the set had no such name tells whether the name was seen
  pub told : (s : BTreeSet (String Y)) (key : String Y) (name : List ℕ) (old : List (List ℕ)) (is_new : Bool) → names_of s ≡ old → string_bytes key ≡ name → is_new ≡ not (contains string_cmp s key) →
      MatchBool is_new (IsSeen old name → ⊥) (IsSeen old name)
  told s key name old is_new view spelled is =
      let N : List ℕ → Type 0 = λ x. MatchBool is_new (IsSeen (names_of s) x → ⊥) (IsSeen (names_of s) x) in
      let O : List (List ℕ) → Type 0 = λ x. MatchBool is_new (IsSeen x name → ⊥) (IsSeen x name) in
      let B : Bool → Type 0 = λ b. MatchBool b (IsSeen (names_of s) (string_bytes key) → ⊥) (IsSeen (names_of s) (string_bytes key)) in
      subst O view (subst N spelled (subst B (sym is) (told_by s (string_bytes key) (contains string_cmp s key) refl)))

  seen_by : (s n : BTreeSet (String Y)) (name q : List ℕ) (b : Bool) → bytes_eq name q ≡ b → contains_text n q ≡ cond b true (contains_text s q) → IsSeen (names_of n) q ↔ (IsSeen (names_of s) q ⊎ (q ≡ name))
  seen_by s n name q true e now = (λ _. inr (sym ((bytes_eq-Decides name q).0 e)), λ _. seen_from_test n q now)
  seen_by s n name q false e now = (
    λ seen. inl (seen_from_test s q (sym now ∙ test_from_seen n q seen)),
    λ which. elim which [
      | inl seen ↦ seen_from_test n q (now ∙ test_from_seen s q seen)
      | inr same ↦ let is : bytes_eq name q ≡ true = (bytes_eq-Decides name q).1 (sym same) in absurd (cc)
    ],
  )

  -- what is seen once a name was put in
  pub seen : (s n : BTreeSet (String Y)) (key : String Y) (name : List ℕ) (old : List (List ℕ)) → names_of s ≡ old → string_bytes key ≡ name → Updates string_cmp s n key true →
      (q : List ℕ) → IsSeen (names_of n) q ↔ (IsSeen old q ⊎ (q ≡ name))
  seen s n key name old view spelled updates q =
      let N : List ℕ → Type 0 = λ x. IsSeen (names_of n) q ↔ (IsSeen (names_of s) q ⊎ (q ≡ x)) in
      let O : List (List ℕ) → Type 0 = λ x. IsSeen (names_of n) q ↔ (IsSeen x q ⊎ (q ≡ name)) in
      subst O view (subst N spelled (seen_by s n (string_bytes key) q (bytes_eq (string_bytes key) q) refl (btree_set_updates_text (string_bytes key) s n true updates q)))

  -- a name that is in changes nothing
  pub same : (s n : BTreeSet (String Y)) (old : List (List ℕ)) (is_new : Bool) → names_of s ≡ old → OnFalse is_new (IsUnchanged s n) → OnFalse is_new (names_of n ≡ old)
  same s n old true view unchanged = unchanged
  same s n old false view unchanged = ap (map string_bytes) unchanged ∙ view
