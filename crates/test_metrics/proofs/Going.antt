-- Lists of seats of which each went on.
use Rattle.std.proofs.Common.{◌≡◌, ◌≢◌, ℕ, zero, suc, ◌<◌, All, List, [], ◌∷◌, length, get_or, set, refl, ap, sym, subst, ◌∙◌, ⊎_elim, length-set}
use mathlib.Core.Option.{some, some-injective}
use lib.ListN.{get_elem?}
use Rattle.atomic_table.proofs.Lists.{at_set}
use Rattle.turn_table.proofs.Places.{at_below}
use Rattle.shared_seats.specs.Moving.{seats_nothing}
use Rattle.shared_seats.specs.Seats.{AreAt, SeatsOf, TablesOf}
use Rattle.shared_seats.specs.Workers.{AreAll, ListsGoOn, WentOn}
use Rattle.shared_seats.proofs.Laws.{all_go_on}
use Rattle.shared_seats.proofs.Lists.{all_of, get_at}

-- the list at a place went on, and the others stay
pub one_goes_on : (lists : List SeatsOf) (k : ℕ) (l m : SeatsOf) → get_elem? lists k ≡ some l → WentOn l m → ListsGoOn lists (set lists k m)
one_goes_on lists k l m at went = record {
  as_many = length-set lists k m;
  each = λ w x y at_x at_y. ⊎_elim
      (λ (t : (w ≡ k) × (m ≡ y)).
      let same : l ≡ x = some-injective l x (sym at ∙ (ap (get_elem? lists) (sym t.0) ∙ at_x)) in
      subst (λ (z : SeatsOf × SeatsOf). WentOn z.0 z.1) (λ i. (same i, t.1 i)) went)
      (λ (t : (w ≢ k) × (get_elem? lists w ≡ some y)).
      let same : x ≡ y = some-injective x y (sym at_x ∙ t.1) in
      subst (WentOn x) same (record { calls = []; goes = seats_nothing x }))
      (at_set lists k w m y at_y);
}

-- each went on by itself
pub each_goes_on : (old new : List SeatsOf) → length new ≡ length old → ((w : ℕ) (d : SeatsOf) → w < length old → WentOn (get_or old w d) (get_or new w d)) → ListsGoOn old new
each_goes_on old new long each = record {
  as_many = long;
  each = λ w l m at_l at_m.
      let l_is : get_or old w l ≡ l = get_at old w l l at_l in let m_is : get_or new w l ≡ m = get_at new w m l at_m in
      subst (λ (z : SeatsOf). WentOn l z) m_is (subst (λ (z : SeatsOf). WentOn z (get_or new w l)) l_is (each w l (at_below old w l at_l)));
}

-- all seats are still there
pub all_after : (tables : TablesOf) (old new : List SeatsOf) → AreAll tables old → length new ≡ length old → ((w : ℕ) (d : SeatsOf) → w < length old → WentOn (get_or old w d) (get_or new w d)) → AreAll tables new
all_after tables old new all long each = all_go_on tables old new all (each_goes_on old new long each)

pub one_after : (tables : TablesOf) (lists : List SeatsOf) (k : ℕ) (l m : SeatsOf) → AreAll tables lists → get_elem? lists k ≡ some l → WentOn l m → AreAll tables (set lists k m)
one_after tables lists k l m all at went = all_go_on tables lists (set lists k m) all (one_goes_on lists k l m at went)

pub all_ready : (tables : TablesOf) (lists : List SeatsOf) (n : ℕ) → AreAll tables lists → length tables.stores ≡ n → All (λ (l : SeatsOf). AreAt tables l × (length tables.stores ≡ n)) lists
all_ready tables lists n all is = all_of (λ (l : SeatsOf). AreAt tables l × (length tables.stores ≡ n)) lists (λ w l at. ((all.each w l at).0, is))

-- a member that is set twice
pub set_twice : {A : Type 0} (l : List A) (k : ℕ) (a b : A) → set (set l k a) k b ≡ set l k b
set_twice [] k a b = refl
set_twice (x ∷ l) zero a b = refl
set_twice (x ∷ l) (suc k) a b = ap (λ r. x ∷ r) (set_twice l k a b)
