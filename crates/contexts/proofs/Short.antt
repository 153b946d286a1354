-- Properties stay within their limits.
use Rattle.std.proofs.Common.{◌≡◌, ◌<◌, ◌≤◌, ℕ, zero, suc, List, [], ◌∷◌, ◌++◌, length, refl, sym, ap, subst, length-set, arith}
use Rattle.std.specs.Prelude.{slice_set}
use Rattle.contexts.specs.Properties.{Property, AreShort, AreProperties}

short_set : (ps : List Property) (i : ℕ) (p : Property) → length p.0 ≤ 4096 → length p.1 ≤ 4096 → AreShort ps → AreShort (slice_set ps i p)
short_set [] i p path value short = short
short_set (q ∷ ps) zero p path value short = (path, value, short.2)
short_set (q ∷ ps) (suc i) p path value short = (short.0, short.1, short_set ps i p path value short.2)

short_push : (ps : List Property) (p : Property) → length p.0 ≤ 4096 → length p.1 ≤ 4096 → AreShort ps → AreShort (ps ++ p ∷ [])
short_push [] p path value short = (path, value, tt)
short_push (q ∷ ps) p path value short = (short.0, short.1, short_push ps p path value short.2)

length_push : (ps : List Property) (p : Property) → length (ps ++ p ∷ []) ≡ suc (length ps)
length_push [] p = refl
length_push (q ∷ ps) p = ap suc (length_push ps p)

module _ (ps : List Property) (p : Property) (path value : List ℕ) (is : p ≡ (path, value)) (path_short : length path ≤ 4096) (value_short : length value ≤ 4096) (are : AreProperties ps) where
  path_is : length p.0 ≤ 4096
  path_is = omega (arith, path_short, ap (λ (q : Property). length q.0) is)

  value_is : length p.1 ≤ 4096
  value_is = omega (arith, value_short, ap (λ (q : Property). length q.1) is)

  pub within_set : (i : ℕ) → AreProperties (slice_set ps i p)
  within_set i = record { few = omega (arith, length-set ps i p, are.few); short = short_set ps i p path_is value_is are.short }

  pub within_push : (qs : List Property) → qs ≡ ps ++ p ∷ [] → length ps < 64 → AreProperties qs
  within_push qs pushed room = subst AreProperties (sym pushed) (record { few = omega (arith, length_push ps p, room); short = short_push ps p path_is value_is are.short })
