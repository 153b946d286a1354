-- One call by one seat.
use Rattle.std.proofs.Common.{◌≡◌, ◌≢◌, ℕ, List, [], ◌∷◌, ◌++◌, cond, map, set, refl, ap, sym, subst, ◌∙◌, ⊎_elim, append_assoc, length, length-set, eq-eqb, ne_eqb}
use Rattle.std.proofs.lemmas.List.{append-nil}
use mathlib.Core.Option.{some, some-injective}
use lib.ListN.{get_elem?}
use Rattle.atomic_table.proofs.Lists.{at_set}
use Rattle.store_model.specs.declared.call.Call.{Call}
use Rattle.store_model.specs.declared.call.Reply.{Reply}
use Rattle.store_model.specs.declared.entry.Entry.{Entry}
use Rattle.store_model.specs.History.{entry, own, store_acts}
use Rattle.store_model.specs.Made.{Made, MadeCall, made, entries_on}
use Rattle.turn_table.specs.Seats.{Seated, IsSameSeat, Called, Refused}
use Rattle.shared_store.specs.Moving as store
use Rattle.shared_store.specs.Moving.{GoesOn, goes_nowhere}
use Rattle.shared_seats.specs.Moving.{SeatsGoOn, places_still}
use Rattle.shared_seats.specs.Seats.{SeatsOf, StoreWent}
use Rattle.metric_seats.specs.Places.{Metered}

goes_called : (v w : Seated) (call : Call) (reply : Reply) → IsSameSeat v w → Called store_acts v w call reply → GoesOn w.table.vm v w (entry v.number call reply ∷ [])
goes_called v w call reply same c = record {
  same = same;
  begins = (c.others ++ entry v.number call reply ∷ [], sym (append_assoc v.seen c.others (entry v.number call reply ∷ [])) ∙ sym c.seen);
  legal = λ l. c.legal;
  entries = c.entries;
}

goes_refused : (v w : Seated) (call : Call) → IsSameSeat v w → Refused store_acts v w call → GoesOn w.table.vm v w []
goes_refused v w call same c = record {
  same = same;
  begins = (c.others, sym c.seen);
  legal = λ l. c.legal;
  entries = c.entries ∙ sym (append-nil (own v.number v.seen));
}

-- the seat at the store of a VM goes on by these calls, and there are none on the others
seat_goes : (seats : List Seated) (k : ℕ) (v w : Seated) (calls : List Made) → get_elem? seats k ≡ some v → GoesOn k v w (entries_on v.number k calls) → ((n j : ℕ) → j ≢ k → entries_on n j calls ≡ []) → store.SeatsGoOn seats calls (set seats k w)
seat_goes seats k v w calls at goes others = record {
  as_many = length-set seats k w;
  each = λ j x y at_x at_y. ⊎_elim
      (λ (t : (j ≡ k) × (w ≡ y)). let same : v ≡ x = some-injective v x (sym at ∙ subst (λ i. get_elem? seats i ≡ some x) t.0 at_x) in
      subst (λ (z : ℕ × Seated × Seated). GoesOn z.0 z.1 z.2 (entries_on z.1.number z.0 calls)) (λ i. (sym t.0 i, same i, t.1 i)) goes)
      (λ (t : (j ≢ k) × (get_elem? seats j ≡ some y)). subst (λ (z : Seated × List Entry). GoesOn j x z.0 z.1) (λ i. (some-injective x y (sym at_x ∙ t.1) i, sym (others x.number j t.0) i)) (goes_nowhere j x))
      (at_set seats k j w y at_y);
}

called_goes : (old new : List Seated) (vm : ℕ) (call : Call) (reply : Reply) → store.OneWent old vm new (λ v w. Called store_acts v w call reply) → store.SeatsGoOn old (made vm call reply ∷ []) new
called_goes old new vm call reply o = let v = o.before in let w = o.after in
    subst (store.SeatsGoOn old (made vm call reply ∷ [])) (sym o.new_is) (seat_goes old vm v w (made vm call reply ∷ []) o.there_is
    (subst (λ (z : ℕ × List Entry). GoesOn z.0 v w z.1) (λ i. (o.vm_is i, sym (ap (λ b. map (λ (m : MadeCall). entry v.number m.call m.reply) (cond b (record { vm = vm; call = call; reply = reply } ∷ []) [])) (eq-eqb vm vm refl)) i)) (goes_called v w call reply o.same o.how))
    (λ n j ne. ap (λ b. map (λ (m : MadeCall). entry n m.call m.reply) (cond b (record { vm = vm; call = call; reply = reply } ∷ []) [])) (ne_eqb vm j (λ e. ne (sym e)))))

refused_goes : (old new : List Seated) (vm : ℕ) (call : Call) → store.OneWent old vm new (λ v w. Refused store_acts v w call) → store.SeatsGoOn old [] new
refused_goes old new vm call o =
    subst (store.SeatsGoOn old []) (sym o.new_is) (seat_goes old vm o.before o.after [] o.there_is (subst (λ i. GoesOn i o.before o.after []) o.vm_is (goes_refused o.before o.after call o.same o.how)) (λ n j ne. refl))

-- the places stay
pub still : (old new : SeatsOf) (vm : ℕ) (v w : Metered) → new.metrics ≡ old.metrics → get_elem? old.metrics vm ≡ some v → get_elem? new.metrics vm ≡ some w → get_elem? old.metrics vm ≡ some w
still old new vm v w same p q = ap (λ l. get_elem? l vm) (sym same) ∙ q

-- where the seat at the store of a VM was called, the seats went on by this call
pub call_goes : (old new : SeatsOf) (vm : ℕ) (call : Call) (reply : Reply) → StoreWent old vm new (λ v w. Called store_acts v w call reply) → SeatsGoOn old (made vm call reply ∷ []) new
call_goes old new vm call reply o = record {
  stores = called_goes old.stores new.stores vm call reply o.stores;
  as_many = ap (λ (l : List Metered). length l) o.metrics;
  metrics = λ k v w p q. places_still old.metrics k v w p (still old new k v w o.metrics p q);
}

-- where it was refused memory, they went on by no call
pub call_refused : (old new : SeatsOf) (vm : ℕ) (call : Call) → StoreWent old vm new (λ v w. Refused store_acts v w call) → SeatsGoOn old [] new
call_refused old new vm call o = record {
  stores = refused_goes old.stores new.stores vm call o.stores;
  as_many = ap (λ (l : List Metered). length l) o.metrics;
  metrics = λ k v w p q. places_still old.metrics k v w p (still old new k v w o.metrics p q);
}
