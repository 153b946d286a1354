-- Names that are found in a tree, and the marks of those that are listed.
use Rattle.std.proofs.Common.{◌≡◌, ◌<◌, ℕ, Bool, true, false, ◌||◌, ◌==◌, if◌then◌else◌, List, [], ◌∷◌, ◌++◌, length, nat_lt, bytes_eq, Option, None, Some, refl, sym, ap, ◌∙◌, subst, arith}
use Rattle.std.specs.Prelude.{is_some, unwrap_or, slice_index_or}
use Rattle.std.specs.List.{list_any}
use Rattle.std.proofs.lemmas.Bool.{false≢true, and_parts}
use Rattle.std.proofs.lemmas.Bool.Decides.{nat_tests}
use Rattle.std.proofs.lemmas.List.Folds.{list_any-append}
use Rattle.std.proofs.Math.Bool.{or-false, or_assoc}
use Rattle.std.proofs.lemmas.Slice.Eq.{bytes_eq-Decides}
use Rattle.http_header.specs.Token.{lowercase}
use Rattle.h1_model.specs.Fields.{lists, members}
use Rattle.h1_text.specs.declared.names.NameTree.{NameTree}
use Rattle.h1_text.specs.Names.{number_of, is_name, if_named, name_in_tree, is_number, is_met, is_met_in}

-- ---- a name that is found

bytes_are : (a b : List ℕ) → bytes_eq a b ≡ true → a ≡ b
bytes_are a b h = (bytes_eq-Decides a b).0 h

same_bytes : (a b : List ℕ) → a ≡ b → bytes_eq a b ≡ true
same_bytes a b h = (bytes_eq-Decides a b).1 h

none≢some : (k : ℕ) → None ≡ Some k → ⊥
none≢some k h = false≢true (ap is_some h)

some_same : (j k : ℕ) → Some j ≡ Some k → j ≡ k
some_same j k h = ap (λ (o : Option ℕ). unwrap_or o 0) h

named_is : (names : List (List ℕ)) (name : List ℕ) (o : Option ℕ) (k : ℕ) → if_named names name o ≡ Some k
    → lowercase (slice_index_or names k []) ≡ name
named_is names name None k h = absurd (none≢some k h)
named_is names name (Some j) k h = by_test (is_name names name j) refl h
  where
    by_test : (b : Bool) → is_name names name j ≡ b → (if b then Some j else None) ≡ Some k → lowercase (slice_index_or names k []) ≡ name
    by_test false e is = absurd (none≢some k is)
    by_test true e is =
        let same = bytes_are (lowercase (slice_index_or names j [])) name (and_parts (nat_lt j (length names)) (bytes_eq (lowercase (slice_index_or names j [])) name) e).1 in
        ap (λ n. lowercase (slice_index_or names n [])) (sym (some_same j k is)) ∙ same

within : (names : List (List ℕ)) (name : List ℕ) (o : Option ℕ) (k : ℕ) → if_named names name o ≡ Some k → k < length names
within names name None k h = absurd (none≢some k h)
within names name (Some j) k h = by_test (is_name names name j) refl h
  where
    by_test : (b : Bool) → is_name names name j ≡ b → (if b then Some j else None) ≡ Some k → k < length names
    by_test false e is = absurd (none≢some k is)
    by_test true e is =
        let low = (and_parts (nat_lt j (length names)) (bytes_eq (lowercase (slice_index_or names j [])) name) e).0 in
        subst (λ n. n < length names) (some_same j k is) (grind (arith, nat_tests))

pub found_within : (tree : NameTree) (name : List ℕ) (k : ℕ) → name_in_tree tree name ≡ Some k → k < length tree.names
found_within tree name k h = within tree.names name (number_of tree name) k h

-- what is found under a number is its name
pub found_name : (tree : NameTree) (name : List ℕ) (k : ℕ) → name_in_tree tree name ≡ Some k → lowercase (slice_index_or tree.names k []) ≡ name
found_name tree name k h = named_is tree.names name (number_of tree name) k h

-- two names that are found under one number are the same
found_same : (tree : NameTree) (a b : List ℕ) (k : ℕ) → name_in_tree tree a ≡ Some k → name_in_tree tree b ≡ Some k → a ≡ b
found_same tree a b k h i = sym (named_is tree.names a (number_of tree a) k h) ∙ named_is tree.names b (number_of tree b) k i

eq_refl : (k : ℕ) → (k == k) ≡ true
eq_refl k = grind (arith, nat_tests)

-- a member is found under a name's number exactly where it is that name
met_is : (tree : NameTree) (name m : List ℕ) (k : ℕ) → name_in_tree tree name ≡ Some k → is_number k (name_in_tree tree m) ≡ bytes_eq m name
met_is tree name m k h = by_test (bytes_eq m name) refl
  where
    by_number : (o : Option ℕ) → name_in_tree tree m ≡ o → bytes_eq m name ≡ false → is_number k o ≡ false
    by_number None e other = refl
    by_number (Some j) e other = by_same (k == j) refl
      where
        by_same : (b : Bool) → (k == j) ≡ b → (k == j) ≡ false
        by_same false is = is
        by_same true is =
            let same : k ≡ j = grind (arith, nat_tests) in
            absurd (false≢true (sym other ∙ same_bytes m name (found_same tree m name k (e ∙ ap Some (sym same)) h)))

    by_test : (b : Bool) → bytes_eq m name ≡ b → is_number k (name_in_tree tree m) ≡ bytes_eq m name
    by_test true e = ap (λ n. is_number k (name_in_tree tree n)) (bytes_are m name e) ∙ ap (is_number k) h ∙ eq_refl k ∙ sym e
    by_test false e = by_number (name_in_tree tree m) refl e ∙ sym e

any_same : {X : Type 0} (p q : X → Bool) → ((x : X) → p x ≡ q x) → (xs : List X) → list_any p xs ≡ list_any q xs
any_same p q same [] = refl
any_same p q same (x ∷ xs) = ap (λ b. b || list_any p xs) (same x) ∙ ap (λ b. q x || b) (any_same p q same xs)

-- so a name's mark is whether a member of the values is that name
pub met_is_listed : (tree : NameTree) (name : List ℕ) (k : ℕ) (values : List (List ℕ)) → name_in_tree tree name ≡ Some k
    → is_met_in tree k values ≡ list_any (lists name) values
met_is_listed tree name k values h =
    any_same (λ value. is_met tree k (members value)) (lists name)
    (λ value. any_same (λ m. is_number k (name_in_tree tree (lowercase m))) (λ m. bytes_eq (lowercase m) name) (λ m. met_is tree name (lowercase m) k h) (members value))
    values

-- ---- marks

-- what is left of the members after one of them
pub met_next : (tree : NameTree) (k : ℕ) (old : Bool) (m : List ℕ) (ms : List (List ℕ))
    → ((old || is_number k (name_in_tree tree (lowercase m))) || is_met tree k ms) ≡ (old || is_met tree k (m ∷ ms))
met_next tree k old m ms = or_assoc old (is_number k (name_in_tree tree (lowercase m))) (is_met tree k ms)

-- one value more
pub met_more : (tree : NameTree) (k : ℕ) (values : List (List ℕ)) (value : List ℕ)
    → is_met_in tree k (values ++ value ∷ []) ≡ (is_met_in tree k values || is_met tree k (members value))
met_more tree k values value =
    list_any-append (λ v. is_met tree k (members v)) values (value ∷ [])
    ∙ ap (λ b. is_met_in tree k values || b) (or-false (is_met tree k (members value)))
