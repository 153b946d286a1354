-- A target that begins with `/`: the bytes that this profile takes are those that `http_uri` reads.
use Rattle.std.proofs.Common.{◌≡◌, ℕ, zero, suc, ◌+◌, ◌<◌, ◌≤◌, Bool, true, false, not, ◌&&◌, cond, eqb, List, [], ◌∷◌, ◌++◌, length, get_or, take, drop, bytes_eq, Option, None, Some, IsTrue, refl, sym, ap, ◌∙◌, subst, inl, inr, arith, codes}
use Rattle.std.proofs.lemmas.Bool.{and_from, and_parts, cases_lt, cases_Bool, lt-ltb, le-ltb, cond-true, cond-false, ne_eqb, ltb-true, leb-true, le-leb, false≢true, eq-eqb, eqb-true}
use Rattle.std.proofs.lemmas.List.{drop_more, take_all, take-append-drop}
use Rattle.std.proofs.lemmas.List.Sums.{AllPass-from_list_all, list_all-from_AllPass}
use Rattle.std.proofs.lemmas.List.Folds.{list_all-append}
use Rattle.std.proofs.lemmas.Str.{IsUtf8-from_ascii}
use Rattle.std.specs.Prelude.{IfSome, nat_lt}
use Rattle.std.specs.List.{list_all}
use Rattle.http_uri.specs.ByteClasses.{is_path_byte, is_query_byte, index_of, split_once_front, split_once_back}
use Rattle.http_uri.specs.Grammar.{IsUriText, IsOriginForm, IsPathAndQuery, without_fragment}
use Rattle.http_uri.proofs.RunLemmas.{index_of_is, index_of_found}
use Rattle.http_uri.proofs.UriLemmas.{cut_first}
use Rattle.h1_model.specs.Target.{Target, origin, http, is_visible, is_path_value_byte, is_path_value, target_of, IsTargetOf}
use Rattle.h1_model.proofs.TargetLemmas.{target_given}
use Rattle.h1_head.specs.Targets.{query_passes, is_plain_origin}

-- the test of the bytes of a text is that of its front and of what stands after the first `?`
pub and_true : (b : Bool) → (b && true) ≡ b
and_true true = refl
and_true false = refl

pub list_all-split : (test : ℕ → Bool) (t : List ℕ) → test 63 ≡ true
    → list_all test t ≡ (list_all test (split_once_front 63 t) && query_passes test (split_once_back 63 t))
list_all-split test t mark =
    let i = index_of 63 t in
    elim (cases_lt i (length t)) [
      | inl inside ↦
          let here : t ≡ take i t ++ 63 ∷ drop (i + 1) t =
          sym (take-append-drop i t) ∙ ap (λ r. take i t ++ r) (drop_more t i 0 inside)
          ∙ ap (λ b. take i t ++ b ∷ drop (i + 1) t) (index_of_found 63 t inside) in
          let back : split_once_back 63 t ≡ Some (drop (i + 1) t) = cond-true _ _ _ (lt-ltb i (length t) inside) in
          ap (list_all test) here ∙ list_all-append test (take i t) (63 ∷ drop (i + 1) t)
          ∙ ap (λ b. list_all test (take i t) && (b && list_all test (drop (i + 1) t))) mark
          ∙ ap (λ o. list_all test (take i t) && query_passes test o) (sym back)
      | inr outside ↦
          let whole : take i t ≡ t = take_all i t outside in
          let back : split_once_back 63 t ≡ None = cond-false _ _ _ (le-ltb i (length t) outside) in
          ap (list_all test) (sym whole) ∙ sym (and_true (list_all test (take i t)))
          ∙ ap (λ o. list_all test (take i t) && query_passes test o) (sym back)
    ]

-- the cut at the first `?`
pub cut_some : (t : List ℕ) (at : ℕ) → at < length t → eqb (get_or t at 0) 63 ≡ true
    → ((k : ℕ) → k < at → eqb (get_or t k 0) 63 ≡ true → ⊥)
    → (split_once_front 63 t ≡ take at t) × (split_once_back 63 t ≡ Some (drop (at + 1) t))
cut_some t at inside here before =
    let i : index_of 63 t ≡ at = index_of_is 63 t at (omega arith) (λ k lt e. before k lt (eq-eqb (get_or t k 0) 63 e)) (λ _. eqb-true (get_or t at 0) 63 here) in
    let found : index_of 63 t < length t = omega (arith, i) in (
      ap (λ n. take n t) i,
      cond-true _ _ _ (lt-ltb (index_of 63 t) (length t) found) ∙ ap (λ n. Some (drop (n + 1) t)) i,
    )

pub cut_none : (t : List ℕ) → ((k : ℕ) → k < length t → eqb (get_or t k 0) 63 ≡ true → ⊥)
    → (split_once_front 63 t ≡ t) × (split_once_back 63 t ≡ None)
cut_none t none =
    let i : index_of 63 t ≡ length t = index_of_is 63 t (length t) (omega arith) (λ k lt e. none k lt (eq-eqb (get_or t k 0) 63 e)) (λ h. absurd (omega arith)) in (
      ap (λ n. take n t) i ∙ take_all (length t) t (omega arith),
      cond-false _ _ _ (le-ltb (index_of 63 t) (length t) (omega (arith, i))),
    )

-- a text without the byte does not have it at a place
pub index_of-absent : (t : List ℕ) → list_all is_path_value_byte t ≡ true → index_of 35 t ≡ length t
index_of-absent [] all = refl
index_of-absent (b ∷ t) all =
    let parts = and_parts _ _ all in
    let other = (and_parts (is_visible b) (not (eqb b 35)) parts.0).1 in
    cond-true (not (eqb b 35)) (1 + index_of 35 t) 0 other ∙ ap (λ n. 1 + n) (index_of-absent t parts.1) ∙ (let e : 1 + length t ≡ suc (length t) = omega arith in e)

pub without_fragment-whole : (t : List ℕ) → list_all is_path_value_byte t ≡ true → without_fragment t ≡ t
without_fragment-whole t all = ap (λ n. take n t) (index_of-absent t all) ∙ take_all (length t) t (omega arith)

ascii_bytes : (t : List ℕ) → list_all is_path_value_byte t ≡ true → (i : ℕ) → get_or t i 0 < 128
ascii_bytes [] all i = omega arith
ascii_bytes (b ∷ t) all zero =
    let visible = (and_parts (is_visible b) (not (eqb b 35)) (and_parts _ _ all).0).0 in
    let below = ltb-true b 127 (and_parts (nat_lt 32 b) (nat_lt b 127) visible).1 in
    omega arith
ascii_bytes (b ∷ t) all (suc i) = ascii_bytes t (and_parts _ _ all).1 i

query_from : (o : Option (List ℕ)) → query_passes is_query_byte o ≡ true → IfSome o (λ q. (k d : ℕ) → k < length q → IsTrue (is_query_byte (get_or q k d)))
query_from None all = tt
query_from (Some q) all = AllPass-from_list_all is_query_byte q all

query_to : (o : Option (List ℕ)) → IfSome o (λ q. (k d : ℕ) → k < length q → IsTrue (is_query_byte (get_or q k d))) → query_passes is_query_byte o ≡ true
query_to None all = refl
query_to (Some q) all = list_all-from_AllPass is_query_byte q all

-- what the test means: the bytes of a path value, in the classes of a path and a query
pub record IsPlainOrigin (t : List ℕ) : Type 0 where
  pub value : is_path_value t ≡ true
  pub path : list_all is_path_byte (split_once_front 63 t) ≡ true
  pub query : query_passes is_query_byte (split_once_back 63 t) ≡ true
  pub short : length t ≤ 65534

pub plain_reads : (t : List ℕ) → IsPlainOrigin t → IsUriText t None None t
plain_reads t plain =
    let parts = and_parts _ _ plain.value in
    let slash : get_or t 0 0 ≡ 47 = eqb-true _ _ parts.0 in
    let whole = without_fragment-whole t parts.1 in
    let kept : IsPathAndQuery t = record {
      start = inr (inr (inl slash));
      path = AllPass-from_list_all is_path_byte (split_once_front 63 t) plain.path;
      query = query_from (split_once_back 63 t) plain.query;
      utf8 = IsUtf8-from_ascii t (ascii_bytes t parts.1);
      short = plain.short;
    } in (
      plain.short,
      (
        (
          inr slash,
          record {
            start = inr (rw slash);
            short = plain.short;
            kept = subst IsPathAndQuery (sym whole) kept;
          },
        ),
        sym whole,
      ),
    )

-- a path value that is read is plain
pub plain_if_read : (t : List ℕ) → is_path_value t ≡ true → IsOriginForm t → IsPlainOrigin t
plain_if_read t value form =
    let parts = and_parts _ _ value in
    let whole = without_fragment-whole t parts.1 in
    let kept : IsPathAndQuery t = subst IsPathAndQuery whole form.1.kept in
    record {
      value = value;
      path = list_all-from_AllPass is_path_byte (split_once_front 63 t) kept.path;
      query = query_to (split_once_back 63 t) kept.query;
      short = form.1.short;
    }

-- ---- the test

list_all_both : (p q : ℕ → Bool) (xs : List ℕ) → list_all (λ b. p b && q b) xs ≡ (list_all p xs && list_all q xs)
list_all_both p q [] = refl
list_all_both p q (x ∷ xs) = ap (λ b. (p x && q x) && b) (list_all_both p q xs) ∙ mixed (p x) (q x) (list_all p xs) (list_all q xs)
  where
    mixed : (a b c d : Bool) → ((a && b) && (c && d)) ≡ ((a && c) && (b && d))
    mixed true true c d = refl
    mixed true false true d = refl
    mixed true false false d = refl
    mixed false b c d = refl

query_both : (p q : ℕ → Bool) (o : Option (List ℕ)) → query_passes (λ b. p b && q b) o ≡ true
    → (query_passes p o ≡ true) × (query_passes q o ≡ true)
query_both p q None e = (refl, refl)
query_both p q (Some xs) e = and_parts _ _ (sym (list_all_both p q xs) ∙ e)

both_query : (p q : ℕ → Bool) (o : Option (List ℕ)) → query_passes p o ≡ true → query_passes q o ≡ true
    → query_passes (λ b. p b && q b) o ≡ true
both_query p q None e f = refl
both_query p q (Some xs) e f = list_all_both p q xs ∙ and_from _ _ e f

pub plain_from_test : (t : List ℕ) → is_plain_origin t ≡ true → IsPlainOrigin t
plain_from_test t e =
    let front = split_once_front 63 t in
    let back = split_once_back 63 t in
    let parts = and_parts _ _ e in
    let lead = and_parts _ _ parts.0 in
    let bytes = and_parts _ _ parts.1 in
    let path = and_parts _ _ (sym (list_all_both is_path_value_byte is_path_byte front) ∙ bytes.0) in
    let query = query_both is_path_value_byte is_query_byte back bytes.1 in
    record {
      value = and_from _ _ lead.1 (list_all-split is_path_value_byte t refl ∙ and_from _ _ path.0 query.0);
      path = path.1;
      query = query.1;
      short = leb-true (length t) 65534 lead.0;
    }

pub test_from_plain : (t : List ℕ) → IsPlainOrigin t → is_plain_origin t ≡ true
test_from_plain t plain =
    let front = split_once_front 63 t in
    let back = split_once_back 63 t in
    let value = and_parts _ _ plain.value in
    let split = and_parts _ _ (sym (list_all-split is_path_value_byte t refl) ∙ value.1) in
    and_from _ _ (and_from _ _ (le-leb (length t) 65534 plain.short) value.0)
    (and_from _ _ (list_all_both is_path_value_byte is_path_byte front ∙ and_from _ _ split.0 plain.path)
    (both_query is_path_value_byte is_query_byte back split.1 plain.query))

-- ---- what it gives

not_star : (t : List ℕ) → get_or t 0 0 ≡ 47 → bytes_eq t (codes "*") ≡ false
not_star [] slash = absurd (omega arith)
not_star (b ∷ t) slash = let other : eqb b 42 ≡ false = ne_eqb b 42 (λ e. omega arith) in rw other

abbrev origin_of : List ℕ → Option Target
origin_of t = Some (record { form = origin; scheme = http; authority = None; path = t })

pub plain_gives : (method t : List ℕ) → get_or t 0 0 ≡ 47 → is_plain_origin t ≡ true → IsTargetOf method t (origin_of t)
plain_gives method t slash e =
    let plain = plain_from_test t e in
    let is : target_of method t None None ≡ origin_of t =
    cond-false _ _ _ (not_star t slash) ∙ cond-true (is_path_value t) (origin_of t) None plain.value in
    target_given method t None None t (origin_of t) (plain_reads t plain) is

pub not_plain_gives_none : (method t : List ℕ) → get_or t 0 0 ≡ 47 → is_plain_origin t ≡ false → IsTargetOf method t None
not_plain_gives_none method t slash e = λ p g. by_form p g.scheme g.authority g.kept g.reads g.gives
  where
    nothing : (p : Target) → ◌≡◌ {A = Option Target} None (Some p) → ⊥
    nothing p x = cc

    by_form : (p : Target) (s a : Option (List ℕ)) (k : List ℕ) → IsUriText t s a k → target_of method t s a ≡ Some p → ⊥
    by_form p None None k h gives =
        let same : cond (is_path_value t) (origin_of t) None ≡ Some p = sym (cond-false _ _ _ (not_star t slash)) ∙ gives in
        elim (cases_Bool (is_path_value t)) [
          | inl value ↦ false≢true (sym e ∙ test_from_plain t (plain_if_read t value h.1.0))
          | inr other ↦ nothing p (sym (cond-false (is_path_value t) (origin_of t) None other) ∙ same)
        ]
    by_form p None (Some a) k h gives = nothing p gives
    by_form p (Some s) None k h gives = nothing p gives
    by_form p (Some s) (Some a) k h gives = cut_first t s a k h.1 slash
