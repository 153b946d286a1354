-- Maps whose keys are vectors of bytes, seen by their bytes.
use Rattle.std.specs.Prelude.{◌≡◌, ℕ, List, [], ◌∷◌, Bool, true, false, cond, Some, map, refl, Vec}
use Rattle.std.specs.declared.alloc.Global.{Global}
use Rattle.std.specs.Option.{option_map}
use Rattle.std.specs.List.{AllByRecursion}
use Rattle.std.specs.List.Sorted.{IsStrictlySortedBy}
use Rattle.std.specs.declared.cmp.Ordering.{Ordering}
use Rattle.std.specs.declared.cmp.Ordering.TheVariants.{Less, Equal, Greater}
use Rattle.std.specs.Ordering.{nat_cmp, match_ordering, is_eq}
use Rattle.std.specs.Cmp.Lexicographic.{slice_cmp}
use Rattle.std.specs.BTreeMap.{insert_entry}
use Rattle.std.specs.Map.{lookup, keys_of}
use Rattle.std.specs.Str.{bytes_eq}
use Rattle.std.proofs.Common.{sym, ap, ◌∙◌}
use Rattle.std.proofs.lemmas.Map.Text.{is_eq-slice_cmp}
use Rattle.store_model.specs.Keys.{bytes_cmp}

-- how such a map orders its keys
abbrev pub key_cmp : Vec ℕ Global → Vec ℕ Global → Ordering
key_cmp a b = slice_cmp nat_cmp a.items b.items

-- how it finds a key by its bytes
abbrev pub at_bytes : List ℕ → Vec ℕ Global → Bool
at_bytes q k = is_eq (slice_cmp nat_cmp q k.items)

module _ {X Y : Type 0} (seen : X → Y) where
  abbrev pub by_bytes : Vec ℕ Global × X → List ℕ × Y
  by_bytes e = (e.0.items, seen e.1)

  pub lookup-by_bytes : (es : List (Vec ℕ Global × X)) (q : List ℕ) → lookup (bytes_eq q) (map by_bytes es) ≡ option_map seen (lookup (at_bytes q) es)
  lookup-by_bytes [] q = refl
  lookup-by_bytes (e ∷ es) q = (λ i. cond (sym (is_eq-slice_cmp q e.0.items) i) (Some (seen e.1)) (lookup-by_bytes es q i)) ∙ at (at_bytes q e.0)
    where
      at : (b : Bool) → cond b (Some (seen e.1)) (option_map seen (lookup (at_bytes q) es)) ≡ option_map seen (cond b (Some e.1) (lookup (at_bytes q) es))
      at true = refl
      at false = refl

  pub insert_entry-by_bytes : (es : List (Vec ℕ Global × X)) (k : Vec ℕ Global) (v : X) → map by_bytes (insert_entry key_cmp es k v) ≡ insert_entry bytes_cmp (map by_bytes es) k.items (seen v)
  insert_entry-by_bytes [] k v = refl
  insert_entry-by_bytes (e ∷ es) k v = at (key_cmp k e.0) (insert_entry-by_bytes es k v)
    where
      at : (o : Ordering) → map by_bytes (insert_entry key_cmp es k v) ≡ insert_entry bytes_cmp (map by_bytes es) k.items (seen v) →
          map by_bytes (match_ordering o ((k, v) ∷ e ∷ es) ((e.0, v) ∷ es) (e ∷ insert_entry key_cmp es k v))
          ≡ match_ordering o ((k.items, seen v) ∷ by_bytes e ∷ map by_bytes es) ((e.0.items, seen v) ∷ map by_bytes es) (by_bytes e ∷ insert_entry bytes_cmp (map by_bytes es) k.items (seen v))
      at Less rest = refl
      at Equal rest = refl
      at Greater rest = ap (λ l. by_bytes e ∷ l) rest

  all_by_bytes : (k : Vec ℕ Global) (es : List (Vec ℕ Global × X)) → AllByRecursion (λ y. key_cmp k y ≡ Less) (keys_of es) → AllByRecursion (λ y. bytes_cmp k.items y ≡ Less) (keys_of (map by_bytes es))
  all_by_bytes k [] all = all
  all_by_bytes k (e ∷ es) all = (all.0, all_by_bytes k es all.1)

  pub sorted_by_bytes : (es : List (Vec ℕ Global × X)) → IsStrictlySortedBy key_cmp (keys_of es) → IsStrictlySortedBy bytes_cmp (keys_of (map by_bytes es))
  unfolding IsStrictlySortedBy
  sorted_by_bytes [] sorted = sorted
  sorted_by_bytes (e ∷ es) sorted = (all_by_bytes e.0 es sorted.0, sorted_by_bytes es sorted.1)
