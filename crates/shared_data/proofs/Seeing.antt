-- The map of the code, as the keys of a store.
use Rattle.std.proofs.Common.{◌≡◌, ℕ, List, [], ◌∷◌, Bool, true, false, cond, Option, Some, None, map, refl, sym, ap, subst, ◌∙◌, ◌+◌, ◌-◌, ◌≤◌, length, arith, Vec, Global}
use Rattle.std.proofs.lemmas.List.{length-map}
use Rattle.std.specs.Option.{option_map}
use Rattle.std.specs.List.{AllByRecursion}
use Rattle.std.specs.List.Sorted.{IsStrictlySortedBy}
use Rattle.std.specs.declared.cmp.Ordering.{Ordering}
use Rattle.std.specs.declared.cmp.Ordering.TheVariants.{Less, Equal, Greater}
use Rattle.std.specs.Ordering.{nat_cmp, match_ordering, is_eq}
use Rattle.std.specs.Cmp.Lexicographic.{slice_cmp}
use Rattle.std.specs.BTreeMap.{insert_entry}
use Rattle.std.specs.Map.{lookup, keys_of}
use Rattle.std.specs.Str.{bytes_eq}
use Rattle.std.proofs.lemmas.Map.Text.{is_eq-slice_cmp}
use Rattle.store_model.specs.Keys.{Held, Keys, bytes_cmp, held_at, put, used_by_keys}
use Rattle.store_model.specs.Limits.{IsWithin}
use Rattle.store_model.specs.Store.{is_no_byte}
use Rattle.store_model.specs.declared.used.Used.{Used}
use Rattle.store_model.proofs.Entries.{Weighs, weighs, held_within, names_within, old_bytes, old_names, entry_bytes}
use Rattle.shared_data.specs.Found.{found_bytes, found_names, found_of}
use Rattle.shared_data.specs.declared.data.Found.{Found}
use Rattle.shared_data.specs.Seen.{seen_kept, seen_entry, seen_keys, IsKept}
use Rattle.shared_data.specs.declared.data.Kept.{Kept}

-- how the map orders its keys
abbrev pub key_cmp : Vec ℕ Global → Vec ℕ Global → Ordering
key_cmp a b = slice_cmp nat_cmp a.items b.items

abbrev pub at_bytes : List ℕ → Vec ℕ Global → Bool
at_bytes q k = is_eq (slice_cmp nat_cmp q k.items)

-- what the map has at some bytes
pub lookup-seen : (es : List (Vec ℕ Global × Kept)) (q : List ℕ) → lookup (bytes_eq q) (map seen_entry es) ≡ option_map seen_kept (lookup (at_bytes q) es)
lookup-seen [] q = refl
lookup-seen (e ∷ es) q =
    (λ i. cond (sym (is_eq-slice_cmp q e.0.items) i) (Some (seen_kept e.1)) (lookup-seen es q i)) ∙ at (at_bytes q e.0)
  where
    at : (b : Bool) → cond b (Some (seen_kept e.1)) (option_map seen_kept (lookup (at_bytes q) es)) ≡ option_map seen_kept (cond b (Some e.1) (lookup (at_bytes q) es))
    at b = elim b as (λ x. cond x (Some (seen_kept e.1)) (option_map seen_kept (lookup (at_bytes q) es)) ≡ option_map seen_kept (cond x (Some e.1) (lookup (at_bytes q) es))) [ true ↦ refl | false ↦ refl ]

-- what the map has once something was inserted
pub insert-seen : (es : List (Vec ℕ Global × Kept)) (k : Vec ℕ Global) (v : Kept) → map seen_entry (insert_entry key_cmp es k v) ≡ insert_entry bytes_cmp (map seen_entry es) k.items (seen_kept v)
insert-seen [] k v = refl
insert-seen (e ∷ es) k v = at (key_cmp k e.0) (insert-seen es k v)
  where
    at : (o : Ordering) → map seen_entry (insert_entry key_cmp es k v) ≡ insert_entry bytes_cmp (map seen_entry es) k.items (seen_kept v) →
        map seen_entry (match_ordering o ((k, v) ∷ e ∷ es) ((e.0, v) ∷ es) (e ∷ insert_entry key_cmp es k v))
        ≡ match_ordering o ((k.items, seen_kept v) ∷ seen_entry e ∷ map seen_entry es) ((e.0.items, seen_kept v) ∷ map seen_entry es) (seen_entry e ∷ insert_entry bytes_cmp (map seen_entry es) k.items (seen_kept v))
    at Less rest = refl
    at Equal rest = refl
    at Greater rest = ap (λ l. seen_entry e ∷ l) rest

all_seen : (k : Vec ℕ Global) (es : List (Vec ℕ Global × Kept)) → AllByRecursion (λ y. key_cmp k y ≡ Less) (keys_of es) → AllByRecursion (λ y. bytes_cmp k.items y ≡ Less) (keys_of (map seen_entry es))
all_seen k [] all = all
all_seen k (e ∷ es) all = (all.0, all_seen k es all.1)

-- the keys ascend
pub sorted-seen : (es : List (Vec ℕ Global × Kept)) → IsStrictlySortedBy key_cmp (keys_of es) → IsStrictlySortedBy bytes_cmp (keys_of (map seen_entry es))
unfolding IsStrictlySortedBy
sorted-seen [] sorted = sorted
sorted-seen (e ∷ es) sorted = (all_seen e.0 es sorted.0, sorted-seen es sorted.1)

-- a look-up in the map is one among the keys
pub held-seen : (es : List (Vec ℕ Global × Kept)) (next : ℕ) (q : List ℕ) (o : Option Kept) (d : Keys) → seen_keys es next ≡ d → o ≡ lookup (at_bytes q) es → held_at d q ≡ option_map seen_kept o
held-seen es next q o d is found = ap (λ x. held_at x q) (sym is) ∙ lookup-seen es q ∙ ap (option_map seen_kept) (sym found)

-- what keys use once a value was put, and what they used
pub record Adds (d : Keys) (key value : List ℕ) (found : Option Found) : Type 0 where
  pub bytes : (used_by_keys (put d key value)).bytes + found_bytes key found ≡ (used_by_keys d).bytes + (length key + length value)
  pub names : (used_by_keys (put d key value)).names + found_names found ≡ (used_by_keys d).names + 1
  pub bytes_within : found_bytes key found ≤ (used_by_keys d).bytes
  pub names_within : found_names found ≤ (used_by_keys d).names

pub adds : (d : Keys) (key value : List ℕ) (found : Option Found) → IsStrictlySortedBy bytes_cmp (keys_of d.entries) → found ≡ found_of (held_at d key) → Adds d key value found
adds d key value found sorted is =
    at (held_at d key) is (weighs d.entries key (record { value = value; number = d.next }) sorted) (held_within d.entries key) (names_within d.entries key)
  where
    at : (o : Option Held) → found ≡ found_of o → Weighs key (record { value = value; number = d.next }) o d.entries (put d key value).entries → old_bytes key o ≤ entry_bytes d.entries → old_names o ≤ length d.entries → Adds d key value found
    at None e w b n = subst (Adds d key value) (sym e) (record { bytes = w.bytes; names = w.names; bytes_within = b; names_within = n })
    at (Some h) e w b n = subst (Adds d key value) (sym e) (record { bytes = w.bytes; names = w.names; bytes_within = b; names_within = n })

pub bare_is_empty : (xs : List ℕ) → is_no_byte xs ≡ true → xs ≡ []
bare_is_empty [] h = refl
bare_is_empty (x ∷ xs) h = absurd (cc)

-- no keys are kept
pub kept_none : (es : List (Vec ℕ Global × Kept)) → es ≡ [] → IsKept (seen_keys es 1) 0
unfolding IsStrictlySortedBy
kept_none es none =
    let K : List (Vec ℕ Global × Kept) → Type 0 = λ l. IsKept (seen_keys l 1) 0 in
    subst K (sym none) (record { ordered = tt; counted = refl; within = record { names = omega arith; bytes = omega arith }; next = omega arith })

-- what the fields count is what the keys use
pub record Standing (d : Keys) (count bytes : ℕ) : Type 0 where
  pub kept : IsKept d bytes
  pub names : (used_by_keys d).names ≡ count
  pub bytes_are : (used_by_keys d).bytes ≡ bytes

pub standing : (es : List (Vec ℕ Global × Kept)) (next bytes count : ℕ) (d : Keys) → seen_keys es next ≡ d → IsKept (seen_keys es next) bytes → count ≡ length es → Standing d count bytes
standing es next bytes count d is kept counted =
    let S : Keys → Type 0 = λ x. Standing x count bytes in
    subst S is (record { kept = kept; names = length-map es seen_entry ∙ sym counted; bytes_are = sym kept.counted })

-- what the keys use but for one, by what they use once that one was put
pub record Left (d : Keys) (key : List ℕ) (count bytes : ℕ) : Type 0 where
  pub names : (value : List ℕ) → (used_by_keys (put d key value)).names ≡ count + 1
  pub bytes_are : (value : List ℕ) → (used_by_keys (put d key value)).bytes ≡ bytes + (length key + length value)

pub left_none : {d : Keys} {count bytes : ℕ} (key : List ℕ) (found : Option Found) → Standing d count bytes → found ≡ found_of (held_at d key) → found ≡ None → Left d key count bytes
left_none {d} {count} {bytes} key found s is none = record {
  names = λ value. let a = subst (Adds d key value) none (adds d key value found s.kept.ordered is) in omega (arith, a.names, s.names);
  bytes_are = λ value. let a = subst (Adds d key value) none (adds d key value found s.kept.ordered is) in omega (arith, a.bytes, s.bytes_are);
}

pub some_fits : {d : Keys} {count bytes : ℕ} (key : List ℕ) (found : Option Found) (f : Found) → Standing d count bytes → found ≡ found_of (held_at d key) → found ≡ Some f → (length key + f.value_len ≤ bytes) × (1 ≤ count) × (bytes ≤ 67108864)
some_fits {d} {count} {bytes} key found f s is some =
    let a = subst (Adds d key []) some (adds d key [] found s.kept.ordered is) in
    let b : length key + f.value_len ≤ (used_by_keys d).bytes = a.bytes_within in
    let n : 1 ≤ (used_by_keys d).names = a.names_within in
    (omega (arith, b, s.bytes_are), omega (arith, n, s.names), omega (arith, s.kept.within.bytes, s.bytes_are))

pub left_some : {d : Keys} {count bytes : ℕ} (key : List ℕ) (found : Option Found) (f : Found) → Standing d count bytes → found ≡ found_of (held_at d key) → found ≡ Some f → Left d key (count - 1) (bytes - (length key + f.value_len))
left_some {d} {count} {bytes} key found f s is some =
    let fit = some_fits key found f s is some in
    record {
      names = λ value. let a = subst (Adds d key value) some (adds d key value found s.kept.ordered is) in omega (arith, a.names, s.names, fit.1);
      bytes_are = λ value. let a = subst (Adds d key value) some (adds d key value found s.kept.ordered is) in omega (arith, a.bytes, s.bytes_are, fit.0);
    }

-- what is kept once a value was put
pub kept_put : (es fs : List (Vec ℕ Global × Kept)) (next bytes : ℕ) (k : Vec ℕ Global) (v : Kept) (key value : List ℕ) (d : Keys) (used : Used) → seen_keys es next ≡ d → fs ≡ insert_entry key_cmp es k v → k.items ≡ key → seen_kept v ≡ record { value = value; number = d.next } →
    IsStrictlySortedBy key_cmp (keys_of fs) → used ≡ used_by_keys (put d key value) → IsWithin used → d.next ≤ 4294967295 → (seen_keys fs (next + 1) ≡ put d key value) × IsKept (seen_keys fs (next + 1)) used.bytes
kept_put es fs next bytes k v key value d used is now name held sorted uses within number =
    let same : seen_keys fs (next + 1) ≡ put d key value =
    (λ i. seen_keys (now i) (next + 1)) ∙ (λ i. record { entries = insert-seen es k v i; next = next + 1 })
    ∙ (λ i. record { entries = insert_entry bytes_cmp (is i).entries (name i) (held i); next = (is i).next + 1 }) in (
      same,
      record {
        ordered = sorted-seen fs sorted;
        counted = ap (λ (u : Used). u.bytes) (uses ∙ ap used_by_keys (sym same));
        within = subst IsWithin (uses ∙ ap used_by_keys (sym same)) within;
        next = let e : next ≡ d.next = ap (λ (x : Keys). x.next) is in omega (arith, e, number);
      },
    )
