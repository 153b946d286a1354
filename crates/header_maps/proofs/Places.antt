-- What stands in a buffer stays there when more is put behind it.
use Rattle.std.proofs.Common.{◌≡◌, ℕ, ◌+◌, ◌-◌, ◌<◌, ◌≤◌, List, [], ◌∷◌, ◌++◌, length, map, take, drop, set, get_or, zero, suc, refl, sym, ◌∙◌, ap, subst, arith}
use Rattle.std.specs.Prelude.{slice_range, All}
use Rattle.std.specs.List.{remove}
use Rattle.std.proofs.lemmas.List.{take-append-drop, take-append-le, drop-append-le, length-append, length-drop, map-append, take-map, drop-map, map_more}
use Rattle.std.proofs.Math.Seq.{drop-append_seam, take-length}
use Rattle.std.proofs.lemmas.List.Elements.{All-append}
use Rattle.header_maps.specs.Pairs.{Pair}
use Rattle.header_maps.specs.Places.{pair_in, pairs_in, put_at, IsWithin}
use Rattle.header_maps.specs.declared.texts.Place.{Place}

range_append : (a b : ℕ) (xs ys : List ℕ) → a ≤ b → b ≤ length xs → slice_range (xs ++ ys) a b ≡ slice_range xs a b
range_append a b xs ys ordered within =
    let n = length-drop a xs in
    ap (take (b - a)) (drop-append-le a xs ys (omega arith)) ∙ take-append-le (b - a) (drop a xs) ys (omega (arith, n))

-- what was put last
pub end_range : (old value new : List ℕ) (a b : ℕ) → new ≡ old ++ value → a ≡ length old → b ≡ length new → slice_range new a b ≡ value
end_range old value new a b is start end =
    let sum = ap length is ∙ length-append old value in
    let size : b - a ≡ length value = omega (arith, sum, start, end) in
    ap (λ (xs : List ℕ). slice_range xs a b) is
    ∙ ap (λ k. take (b - a) (drop k (old ++ value))) start
    ∙ ap (take (b - a)) (drop-append_seam old value)
    ∙ ap (λ k. take k value) size
    ∙ take-length value

-- one buffer is a front of the other
module _ (old new : List ℕ) (front : take (length old) new ≡ old) where
  new_is : old ++ drop (length old) new ≡ new
  new_is = ap (λ (xs : List ℕ). xs ++ drop (length old) new) (sym front) ∙ take-append-drop (length old) new

  pub longer : length old ≤ length new
  longer = let sum = sym (length-append old (drop (length old) new)) ∙ ap length new_is in omega (arith, sum)

  range_kept : (a b : ℕ) → a ≤ b → b ≤ length old → slice_range new a b ≡ slice_range old a b
  range_kept a b ordered within = ap (λ (xs : List ℕ). slice_range xs a b) (sym new_is) ∙ range_append a b old (drop (length old) new) ordered within

  pair_kept : (p : Place) → IsWithin (length old) p → pair_in new p ≡ pair_in old p
  pair_kept p h =
      ap (λ (n : List ℕ). (n, slice_range new p.value p.value_end)) (range_kept p.name p.name_end h.0.0 h.0.1)
      ∙ ap (λ (v : List ℕ). (slice_range old p.name p.name_end, v)) (range_kept p.value p.value_end h.1.0 h.1.1)

  pub pairs_kept : (places : List Place) → All (IsWithin (length old)) places → pairs_in new places ≡ pairs_in old places
  pairs_kept [] h = refl
  pairs_kept (p ∷ ps) h =
      ap (λ (x : Pair). x ∷ pairs_in new ps) (pair_kept p (h 0 p (omega arith)))
      ∙ ap (λ (xs : List Pair). pair_in old p ∷ xs) (pairs_kept ps (λ k d l. h (suc k) d (omega arith)))

  pub within_kept : (places : List Place) → All (IsWithin (length old)) places → All (IsWithin (length new)) places
  within_kept places h = λ k d l. let was = h k d l in let more = longer in ((was.0.0, omega (arith, was.0.1, more)), (was.1.0, omega (arith, was.1.1, more)))

  -- one more place behind the others
  pub pairs_more :
      (places : List Place) (p : Place) (pair : Pair) → All (IsWithin (length old)) places → pair_in new p ≡ pair
      → pairs_in new (places ++ p ∷ []) ≡ pairs_in old places ++ pair ∷ []
  pairs_more places p pair h is =
      map-append (pair_in new) places (p ∷ [])
      ∙ ap (λ (xs : List Pair). xs ++ pair_in new p ∷ []) (pairs_kept places h)
      ∙ ap (λ (x : Pair). pairs_in old places ++ x ∷ []) is

  -- the next of some pairs is copied behind those before it
  pub pairs_next :
      (moved : List Place) (at : Place) (bytes : List ℕ) (places : List Place) (i : ℕ) (d : Place) → i < length places → All (IsWithin (length old)) moved
      → pair_in new at ≡ pair_in bytes (get_or places i d) → pairs_in old moved ≡ pairs_in bytes (take i places)
      → pairs_in new (moved ++ at ∷ []) ≡ pairs_in bytes (take (i + 1) places)
  pairs_next moved at bytes places i d l h is before =
      pairs_more moved at (pair_in bytes (get_or places i d)) h is
      ∙ ap (λ (xs : List Pair). xs ++ pair_in bytes (get_or places i d) ∷ []) before
      ∙ sym (map_more (pair_in bytes) places i d l)

  pub within_more :
      (places : List Place) (p : Place) → All (IsWithin (length old)) places → IsWithin (length new) p
      → All (IsWithin (length new)) (places ++ p ∷ [])
  within_more places p h w =
      All-append (IsWithin (length new)) places (p ∷ []) (within_kept places h) (λ k d l. subst (IsWithin (length new)) (one k d l) w)
    where
      one : (k : ℕ) (d : Place) → k < length (p ∷ []) → p ≡ get_or (p ∷ []) k d
      one zero d l = refl
      one (suc k) d l = absurd (omega arith)

  -- the value of one place is another
  pub pairs_put :
      (places : List Place) (at : ℕ) (p d : Place) (value : List ℕ) → at < length places → All (IsWithin (length old)) places
      → pair_in new p ≡ ((pair_in new (get_or places at d)).0, value)
      → pairs_in new (set places at p) ≡ put_at (pairs_in old places) at value
  pairs_put [] at p d value l h is = absurd (omega arith)
  pairs_put (q ∷ qs) zero p d value l h is =
      let kept = pair_kept q (h 0 q (omega arith)) in
      ap (λ (x : Pair). x ∷ pairs_in new qs) (is ∙ ap (λ (x : Pair). (x.0, value)) kept)
      ∙ ap (λ (xs : List Pair). ((pair_in old q).0, value) ∷ xs) (pairs_kept qs (λ k d l. h (suc k) d (omega arith)))
  pairs_put (q ∷ qs) (suc at) p d value l h is =
      let kept = pair_kept q (h 0 q (omega arith)) in
      let rest = pairs_put qs at p d value (omega arith) (λ k d l. h (suc k) d (omega arith)) is in
      ap (λ (x : Pair). x ∷ pairs_in new (set qs at p)) kept ∙ ap (λ (xs : List Pair). pair_in old q ∷ xs) rest

-- one place is taken out
pub pairs_removed : (bytes : List ℕ) (places : List Place) (at : ℕ) → pairs_in bytes (remove places at) ≡ remove (pairs_in bytes places) at
pairs_removed bytes places at =
    map-append (pair_in bytes) (take at places) (drop (suc at) places)
    ∙ ap (λ (xs : List Pair). xs ++ map (pair_in bytes) (drop (suc at) places)) (sym (take-map (pair_in bytes) at places))
    ∙ ap (λ (xs : List Pair). take at (map (pair_in bytes) places) ++ xs) (sym (drop-map (pair_in bytes) (suc at) places))

-- the value put at a place, as the list says it
pub put_is_set : (items : List Pair) (at : ℕ) (value : List ℕ) (d : Pair) → at < length items → put_at items at value ≡ set items at ((get_or items at d).0, value)
put_is_set [] at value d l = absurd (omega arith)
put_is_set (p ∷ ps) zero value d l = refl
put_is_set (p ∷ ps) (suc at) value d l = ap (λ (xs : List Pair). p ∷ xs) (put_is_set ps at value d (omega arith))

pub put_long : (items : List Pair) (at : ℕ) (value : List ℕ) → length (put_at items at value) ≡ length items
put_long [] at value = refl
put_long (p ∷ ps) zero value = refl
put_long (p ∷ ps) (suc at) value = ap suc (put_long ps at value)
