-- What is kept under keys, once one was put.
use Rattle.std.specs.Prelude.{◌≡◌, ℕ, ◌+◌, ◌≤◌, Bool, true, false, cond, List, [], ◌∷◌, Option, Some, None, refl, length, sum_by}
use Rattle.std.specs.declared.cmp.Ordering.{Ordering}
use Rattle.std.specs.declared.cmp.Ordering.TheVariants.{Less, Equal, Greater}
use Rattle.std.specs.Ordering.{match_ordering, is_eq}
use Rattle.std.specs.BTreeMap.{insert_entry, is_at}
use Rattle.std.specs.List.Sorted.{IsStrictlySortedBy}
use Rattle.std.specs.Map.{lookup, keys_of}
use Rattle.std.specs.Str.{bytes_eq}
use Rattle.std.proofs.Common.{sym, ap, subst, ◌∙◌, arith}
use Rattle.std.proofs.lemmas.Cmp.{nat_list_cmp_total}
use Rattle.std.proofs.lemmas.Map.{lookup-none}
use Rattle.std.proofs.lemmas.Map.Entries.{none_below_head}
use Rattle.std.proofs.lemmas.Map.Keys.{sorted_tail}
use Rattle.std.proofs.lemmas.List.Sums.{sum_by-cons}
use Rattle.std.proofs.lemmas.Map.Lookups.{exact_bytes}
use Rattle.std.proofs.lemmas.Map.Text.{is_eq-slice_cmp}
use Rattle.std.proofs.lemmas.Slice.Eq.{bytes_eq-Decides}
use Rattle.store_model.specs.Keys.{Held, bytes_cmp}

pub bytes_eq-same : (k : List ℕ) → bytes_eq k k ≡ true
bytes_eq-same k = (bytes_eq-Decides k k).1 refl

-- a key that is neither k nor k's equal
greater_differs : (q k e : List ℕ) → bytes_cmp k e ≡ Greater → bytes_eq q e ≡ true → bytes_eq q k ≡ false
greater_differs q k e h at_e =
    let same : q ≡ e = (bytes_eq-Decides q e).0 at_e in
    elim (bytes_eq q k) as (λ b. bytes_eq q k ≡ b → b ≡ false) [
      | true ↦ λ at_k.
          let like : k ≡ e = sym ((bytes_eq-Decides q k).0 at_k) ∙ same in
          let less : bytes_eq k e ≡ true = (bytes_eq-Decides k e).1 like in
          let none : is_eq Greater ≡ true = ap is_eq (sym h) ∙ (is_eq-slice_cmp k e ∙ less) in
          absurd (cc)
      | false ↦ λ _. refl
    ] refl

module _ {X : Type 0} where
  -- what a key has after a value was put under k
  pub lookup-insert_entry : (es : List (List ℕ × X)) (k q : List ℕ) (v : X) → lookup (bytes_eq q) (insert_entry bytes_cmp es k v) ≡ cond (bytes_eq q k) (Some v) (lookup (bytes_eq q) es)
  lookup-insert_entry [] k q v = refl
  lookup-insert_entry (e ∷ es) k q v = at (bytes_cmp k e.0) refl (lookup-insert_entry es k q v)
    where
      at : (o : Ordering) → bytes_cmp k e.0 ≡ o → lookup (bytes_eq q) (insert_entry bytes_cmp es k v) ≡ cond (bytes_eq q k) (Some v) (lookup (bytes_eq q) es) →
          lookup (bytes_eq q) (match_ordering o ((k, v) ∷ e ∷ es) ((e.0, v) ∷ es) (e ∷ insert_entry bytes_cmp es k v)) ≡ cond (bytes_eq q k) (Some v) (cond (bytes_eq q e.0) (Some e.1) (lookup (bytes_eq q) es))
      at Less h ih = refl
      at Equal h ih =
          let same : k ≡ e.0 = exact_bytes k e.0 h in
          let P : List ℕ → Type 0 = λ x. cond (bytes_eq q e.0) (Some v) (lookup (bytes_eq q) es) ≡ cond (bytes_eq q x) (Some v) (cond (bytes_eq q e.0) (Some e.1) (lookup (bytes_eq q) es)) in
          subst P (sym same) (elim (bytes_eq q e.0) as (λ b. cond b (Some v) (lookup (bytes_eq q) es) ≡ cond b (Some v) (cond b (Some e.1) (lookup (bytes_eq q) es))) [ true ↦ refl | false ↦ refl ])
      at Greater h ih =
          elim (bytes_eq q e.0) as (λ b. bytes_eq q e.0 ≡ b → cond b (Some e.1) (lookup (bytes_eq q) (insert_entry bytes_cmp es k v)) ≡ cond (bytes_eq q k) (Some v) (cond b (Some e.1) (lookup (bytes_eq q) es))) [
            | true ↦ λ is. sym (ap (λ b. cond b (Some v) (Some e.1)) (greater_differs q k e.0 h is))
            | false ↦ λ is. ih
          ] refl

-- ---- how many keys and bytes there are, once one was put
eq_test : (k e : List ℕ) (o : Ordering) → bytes_cmp k e ≡ o → bytes_eq k e ≡ is_eq o
eq_test k e o h = sym (is_eq-slice_cmp k e) ∙ ap is_eq h

-- no key is k where it is below the first
absent_below : {X : Type 0} (k : List ℕ) (e : List ℕ × X) (es : List (List ℕ × X)) → IsStrictlySortedBy bytes_cmp (keys_of (e ∷ es)) → bytes_cmp k e.0 ≡ Less → lookup (bytes_eq k) (e ∷ es) ≡ None
absent_below k e es sorted less =
    (λ i. lookup (λ x. sym (is_eq-slice_cmp k x) i) (e ∷ es)) ∙ lookup-none (is_at (bytes_cmp k)) (e ∷ es) (none_below_head nat_list_cmp_total k e es sorted less)

abbrev pub entry_bytes : List (List ℕ × Held) → ℕ
entry_bytes es = sum_by (λ e. length e.0 + length e.1.value) es

pub entry_bytes-cons : (e : List ℕ × Held) (es : List (List ℕ × Held)) → entry_bytes (e ∷ es) ≡ (length e.0 + length e.1.value) + entry_bytes es
entry_bytes-cons e es = sum_by-cons (λ e. length e.0 + length e.1.value) e es

-- the bytes of an entry that gives way
abbrev pub old_bytes : List ℕ → Option Held → ℕ
old_bytes k None = 0
old_bytes k (Some h) = length k + length h.value

abbrev pub old_names : Option Held → ℕ
old_names None = 0
old_names (Some h) = 1

-- what is there and what gives way is what was there and what is put
pub record Weighs (k : List ℕ) (v : Held) (old : Option Held) (before after : List (List ℕ × Held)) : Type 0 where
  pub bytes : entry_bytes after + old_bytes k old ≡ entry_bytes before + (length k + length v.value)
  pub names : length after + old_names old ≡ length before + 1

pub weighs : (es : List (List ℕ × Held)) (k : List ℕ) (v : Held) → IsStrictlySortedBy bytes_cmp (keys_of es) → Weighs k v (lookup (bytes_eq k) es) es (insert_entry bytes_cmp es k v)
weighs [] k v sorted = record { bytes = omega (arith, entry_bytes-cons (k, v) []); names = omega arith }
weighs (e ∷ es) k v sorted = at (bytes_cmp k e.0) refl (weighs es k v (sorted_tail bytes_cmp e.0 (keys_of es) sorted))
  where
    at : (o : Ordering) → bytes_cmp k e.0 ≡ o → Weighs k v (lookup (bytes_eq k) es) es (insert_entry bytes_cmp es k v) →
        Weighs k v (lookup (bytes_eq k) (e ∷ es)) (e ∷ es) (match_ordering o ((k, v) ∷ e ∷ es) ((e.0, v) ∷ es) (e ∷ insert_entry bytes_cmp es k v))
    at Less h rest = subst (λ o. Weighs k v o (e ∷ es) ((k, v) ∷ e ∷ es)) (sym (absent_below k e es sorted h)) (record { bytes = omega (arith, entry_bytes-cons (k, v) (e ∷ es)); names = omega arith })
    at Equal h rest =
        let same : k ≡ e.0 = exact_bytes k e.0 h in
        let long : length k ≡ length e.0 = ap length same in
        subst (λ b. Weighs k v (cond b (Some e.1) (lookup (bytes_eq k) es)) (e ∷ es) ((e.0, v) ∷ es)) (sym (eq_test k e.0 Equal h))
        (record { bytes = omega (arith, entry_bytes-cons (e.0, v) es, entry_bytes-cons e es); names = omega arith })
    at Greater h rest =
        subst (λ b. Weighs k v (cond b (Some e.1) (lookup (bytes_eq k) es)) (e ∷ es) (e ∷ insert_entry bytes_cmp es k v)) (sym (eq_test k e.0 Greater h))
        (record { bytes = omega (arith, rest.bytes, entry_bytes-cons e (insert_entry bytes_cmp es k v), entry_bytes-cons e es); names = omega (arith, rest.names) })

-- what is held under a key is among all bytes
pub held_within : (es : List (List ℕ × Held)) (k : List ℕ) → old_bytes k (lookup (bytes_eq k) es) ≤ entry_bytes es
held_within [] k = omega arith
held_within (e ∷ es) k = at (bytes_eq k e.0) refl (held_within es k)
  where
    at : (b : Bool) → bytes_eq k e.0 ≡ b → old_bytes k (lookup (bytes_eq k) es) ≤ entry_bytes es → old_bytes k (cond b (Some e.1) (lookup (bytes_eq k) es)) ≤ entry_bytes (e ∷ es)
    at true is rest =
        let long : length k ≡ length e.0 = ap length ((bytes_eq-Decides k e.0).0 is) in
        let all : length k + length e.1.value ≤ entry_bytes (e ∷ es) = omega (arith, entry_bytes-cons e es) in
        all
    at false is rest =
        let all : old_bytes k (lookup (bytes_eq k) es) ≤ entry_bytes (e ∷ es) = omega (arith, rest, entry_bytes-cons e es) in
        all

pub names_within : (es : List (List ℕ × Held)) (k : List ℕ) → old_names (lookup (bytes_eq k) es) ≤ length es
names_within [] k = omega arith
names_within (e ∷ es) k = at (bytes_eq k e.0) (names_within es k)
  where
    at : (b : Bool) → old_names (lookup (bytes_eq k) es) ≤ length es → old_names (cond b (Some e.1) (lookup (bytes_eq k) es)) ≤ length (e ∷ es)
    at true rest = omega arith
    at false rest = omega (arith, rest)
