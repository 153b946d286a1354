-- Lines that go to the workers of their places.
use Rattle.std.proofs.Common.{◌≡◌, ◌⊎◌, inl, inr, ℕ, zero, suc, ◌+◌, ◌<◌, ◌≤◌, List, [], ◌∷◌, ◌++◌, set, get_or, length, length-set, length-append, sym, ap, subst, arith}
use Rattle.std.proofs.lemmas.Bool.{cases_lt}
use Rattle.live_sockets.specs.Numbers.{MayGain, home_of}
use Rattle.live_sockets.specs.Places.{most_places}
use Rattle.handoff.specs.Hands.{Rights}
use Rattle.live_sockets.specs.Homes.{AreHome, AreHomeFrom, AreOf, AreUnused, offers}
use Rattle.live_sockets.specs.Offers.{OffersOnce}
use Rattle.live_sockets.specs.declared.origin.Neighbor.{Neighbor}

-- up to a later number too
of_more : (last next others place : ℕ) (lines : List ℕ) → last ≤ next → AreOf last others place lines → AreOf next others place lines
of_more last next others place [] le h = tt
of_more last next others place (line ∷ lines) le h = (((let a = h.0.0 in omega arith), h.0.1), of_more last next others place lines le h.1)

of_next : (last next others place : ℕ) (lines : List ℕ) → last ≤ next → home_of next others ≡ place → AreOf last others place lines → AreOf next others place (lines ++ next ∷ [])
of_next last next others place [] le home h = ((omega arith, home), tt)
of_next last next others place (line ∷ lines) le home h = (((let a = h.0.0 in omega arith), h.0.1), of_next last next others place lines le home h.1)

of_gained : (last next others place : ℕ) (old new : List ℕ) → last ≤ next → home_of next others ≡ place → MayGain old next new → AreOf last others place old → AreOf next others place new
of_gained last next others place old new le home (inl more) h = subst (AreOf next others place) (sym more) (of_next last next others place old le home h)
of_gained last next others place old new le home (inr same) h = subst (AreOf next others place) (sym same) (of_more last next others place old le h)

from_more : (last next others place : ℕ) (ns : List Neighbor) → last ≤ next → AreHomeFrom last others place ns → AreHomeFrom next others place ns
from_more last next others place [] le h = tt
from_more last next others place (n ∷ ns) le h = (of_more last next others place n.giver.lines le h.0, from_more last next others (place + 1) ns le h.1)

from_offered : (last next others place k : ℕ) (ns : List Neighbor) (n m : Neighbor) → last ≤ next → k < length ns → get_or ns k n ≡ n → home_of next others ≡ place + k → MayGain n.giver.lines next m.giver.lines
    → AreHomeFrom last others place ns → AreHomeFrom next others place (set ns k m)
from_offered last next others place k [] n m le inside at home gains h = tt
from_offered last next others place zero (x ∷ ns) n m le inside at home gains h =
    (of_gained last next others place x.giver.lines m.giver.lines le (let e = home in let r : home_of next others ≡ place = omega arith in r) (subst (λ (y : Neighbor). MayGain y.giver.lines next m.giver.lines) (sym at) gains) h.0, from_more last next others (place + 1) ns le h.1)
from_offered last next others place (suc k) (x ∷ ns) n m le inside at home gains h =
    (of_more last next others place x.giver.lines le h.0, from_offered last next others (place + 1) k ns n m le (omega arith) at (let e = home in let r : home_of next others ≡ place + 1 + k = omega arith in r) gains h.1)

-- a number for the first worker
pub home_own : (last next : ℕ) (others : List Neighbor) → last ≤ next → AreHome last others → AreHome next others
home_own last next others le h = from_more last next (length others) 1 others le h

-- a number for another one
pub home_offered : (last next k : ℕ) (others : List Neighbor) (n m : Neighbor) → last ≤ next → k < length others → get_or others k n ≡ n → home_of next (length others) ≡ k + 1 → MayGain n.giver.lines next m.giver.lines → AreHome last others → AreHome next (set others k m)
home_offered last next k others n m le inside at home gains h =
    subst (λ all. AreHomeFrom next all 1 (set others k m)) (sym (length-set others k m)) (from_offered last next (length others) 1 k others n m le inside at (let e = home in omega arith) gains h)

unused_from : (others place : ℕ) (ns : List Neighbor) → AreUnused ns → AreHomeFrom 0 others place ns
unused_from others place [] h = tt
unused_from others place (n ∷ ns) h = (subst (AreOf 0 others place) (sym h.0) tt, unused_from others (place + 1) ns h.1)

-- where none was offered a line, none was offered another's
pub unused_home : (others : List Neighbor) → AreUnused others → AreHome 0 others
unused_home others h = unused_from (length others) 1 others h

-- one more of them
pub unused_more : (ns : List Neighbor) (n : Neighbor) → AreUnused ns → n.giver.lines ≡ [] → AreUnused (ns ++ n ∷ [])
unused_more [] n h none = (none, tt)
unused_more (m ∷ ns) n h none = (h.0, unused_more ns n h.1 none)

next_home_by : (old last next kept others now : ℕ) → others ≡ now → ((k : ℕ) → old < k → k ≤ last → home_of k others ≡ 0 → most_places ≤ kept) → ((k : ℕ) → last < k → k < next → home_of k others ≡ 0 → most_places ≤ kept)
    → (k : ℕ) → old < k → k ≤ next → home_of k now ≡ 0 → (last < k) ⊎ (k ≤ last) → (k < next) ⊎ (next ≤ k) → (k ≡ next) ⊎ (most_places ≤ kept)
next_home_by old last next kept others now same before passed k above below home (inr low) high = inr (before k above low (subst (λ n. home_of k n ≡ 0) (sym same) home))
next_home_by old last next kept others now same before passed k above below home (inl up) (inl low) = inr (passed k up low (subst (λ n. home_of k n ≡ 0) (sym same) home))
next_home_by old last next kept others now same before passed k above below home (inl up) (inr high) = inl (omega arith)

-- of the numbers up to this one, those of the first worker's place were passed over or are this one alone
pub next_home : (old last next kept others now : ℕ) → others ≡ now → ((k : ℕ) → old < k → k ≤ last → home_of k others ≡ 0 → most_places ≤ kept) → ((k : ℕ) → last < k → k < next → home_of k others ≡ 0 → most_places ≤ kept)
    → (k : ℕ) → old < k → k ≤ next → home_of k now ≡ 0 → (k ≡ next) ⊎ (most_places ≤ kept)
next_home old last next kept others now same before passed k above below home = next_home_by old last next kept others now same before passed k above below home (cases_lt last k) (cases_lt k next)

-- a line that was offered once is one offer more
offers_one : (old new : Rights) (number : ℕ) → OffersOnce old number new → length new.lines + new.refusals ≡ length old.lines + old.refusals + 1
offers_one old new number (inl took) = let longer = ap length took.0 in let grown = length-append old.lines (number ∷ []) in let same = took.1 in omega arith
offers_one old new number (inr back) = let longer = ap length back.0 in let more = back.1 in omega arith

-- and one more of all of them
pub offers_set : (k number : ℕ) (ns : List Neighbor) (n m : Neighbor) → k < length ns → get_or ns k n ≡ n → OffersOnce n.giver number m.giver → offers (set ns k m) ≡ offers ns + 1
offers_set k number [] n m inside at once = absurd (omega arith)
offers_set zero number (x ∷ ns) n m inside at once =
    let one = offers_one x.giver m.giver number (subst (λ (y : Neighbor). OffersOnce y.giver number m.giver) (sym at) once) in omega arith
offers_set (suc k) number (x ∷ ns) n m inside at once = let more = offers_set k number ns n m (omega arith) at once in omega arith
