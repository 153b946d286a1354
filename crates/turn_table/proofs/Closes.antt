-- What a table has at its end, where the seat of number 1 is the only live one.
use Rattle.std.proofs.Common.{◌≡◌, ◌≢◌, ℕ, ◌%◌, ◌^◌, ◌<◌, true, false, List, [], ◌∷◌, length, ap, sym, subst, ◌∙◌, ⊎_elim, arith}
use mathlib.Core.Logic.{dite}
use mathlib.Core.Option.{some}
use native.Mathlib.Decide.{ℕ_discrete}
use lib.ListN.{get_elem?}
use Rattle.atomic_table.specs.Table.{State, Final, Seen}
use Rattle.store_model.specs.History.{Acts, own}
use Rattle.store_model.specs.declared.entry.Entry.{Entry}
use Rattle.turn_table.specs.declared.view.View.{View}
use Rattle.turn_table.specs.Histories.{value_after, IsLegalFor}
use Rattle.turn_table.specs.Rule.{IsFree, IsTaken, Kept}
use Rattle.turn_table.specs.Steps.{IsLast, Shut}
use Rattle.turn_table.proofs.Places.{at_same}

module _ {S : Type 0} (a : Acts S) (vm : ℕ) where
  module _ (id : ℕ) (v : View) (one : v.number ≡ 1) (idle : v.holds ≡ false) (last : IsLast v) (s : State S View) (r : Kept a vm s) (at : get_elem? s.views id ≡ some v) where
    -- the only live view
    only : (i : ℕ) (d : View) → get_elem? s.views i ≡ some d → 0 < d.number → i ≡ id
    only i d e live =
        let l = r.leads id v at one in
        dite (ℕ_discrete d.number 1)
        (λ (is : d.number ≡ 1). r.apart i id d v e at live (is ∙ sym one))
        (λ (more : d.number ≢ 1). let k = last d.number (omega arith) (l.numbers i d e) in absurd ((l.remains k.0 k.1 k.2).no_live i d e (sym k.3)))

    -- it has seen the whole history
    saw_all : v.seen ≡ r.history
    saw_all =
        let u = r.whole.1 in
        let same : u ≡ v = at_same s.views r.whole.2 at (only r.whole.0 u r.whole.2 r.whole.3) in
        subst (λ (y : View). y.seen ≡ r.history) same r.whole.4

    -- nobody has the turn
    is_free : IsFree a vm r.history s
    is_free = ⊎_elim (λ (free : IsFree a vm r.history s). free) (λ (taken : IsTaken a vm r.history s). absurd (not_taken taken)) r.turn
      where
        not_taken : IsTaken a vm r.history s → ⊥
        not_taken taken =
            let u = taken.held.0 in
            let same : u ≡ v = at_same s.views taken.held.1 at (only taken.holder u taken.held.1 (r.live_holds taken.holder u taken.held.1 taken.held.2)) in
            let holds : v.holds ≡ true = subst (λ (y : View). y.holds ≡ true) same taken.held.2 in
            absurd (cc)

  pub closes : (id : ℕ) (v : View) (ws : List ℕ) (xs : List S) → v.number ≡ 1 → v.holds ≡ false → IsLast v → Final (Seen (Kept a vm) id v) ws xs → Shut a v ws xs
  closes id v ws xs one idle last (s, seen, words, long, slots) =
      let r = seen.0 in
      let at = seen.1 in
      let k = r.knows id v at (omega arith) in
      let l = r.leads id v at one in
      let all : v.seen ≡ r.history = saw_all id v one idle last s r at in
      let free = is_free id v one idle last s r at in
      record {
        asleep = free.asleep;
        words_are = sym words ∙ (free.words ∙ ap (λ h. 0 ∷ (length h % 2 ^ 64) ∷ free.asleep ∷ []) (sym all));
        slot = slots 0 (value_after a v.vm v.seen) (ap (λ hs. get_elem? hs 0) free.homes ∙ (λ i. some (some (value_after a (sym k.same_vm i) (sym all i)))));
        one_slot = sym long ∙ ap length free.homes;
        legal = subst (λ (t : ℕ × List Entry). IsLegalFor a t.0 t.1) (λ i. (sym k.same_vm i, sym all i)) r.legal;
        none_of_spent = ap (own 0) all ∙ l.none_of_spent;
        none_past = λ n past. ap (own n) all ∙ l.none_past n past;
        ended = λ i e there. let m = l.remains i e there in (m.begins, ap (own e.number) all ∙ sym m.entries);
      }
