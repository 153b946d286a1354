-- One call on one seat.
use Rattle.std.proofs.Common.{Result, Ok, Err, IfOk, ◌≡◌, ◌≢◌, ℕ, List, [], ◌∷◌, ◌++◌, cond, map, set, refl, ap, sym, subst, ◌∙◌, ⊎_elim, append_assoc, length-set, eq-eqb, ne_eqb}
use Rattle.std.specs.Prelude.{OnErr}
use Rattle.std.proofs.lemmas.List.{append-nil}
use lib.Seq.{map-set}
use mathlib.Core.Option.{some, some-injective}
use lib.ListN.{get_elem?}
use Rattle.atomic_table.proofs.Lists.{at_set, set_again, at_map}
use Rattle.store_model.specs.declared.call.Call.{Call}
use Rattle.store_model.specs.declared.call.Reply.{Reply}
use Rattle.store_model.specs.declared.entry.Entry.{Entry}
use Rattle.store_model.specs.History.{entry, own, store_acts}
use Rattle.store_model.specs.Made.{Made, MadeCall, made, entries_on}
use Rattle.turn_table.specs.Seats.{Seated, IsSameSeat, Called, Refused}
use Rattle.shared_store.specs.Moving.{GoesOn, SeatsGoOn, OneWent, goes_nowhere}
use Rattle.shared_store.specs.Tables.{table_of, AreNumbered}

-- the seats are still at these tables
pub tables_kept : (seats : List Seated) (k : ℕ) (v w : Seated) → get_elem? seats k ≡ some v → IsSameSeat v w → map table_of (set seats k w) ≡ map table_of seats
tables_kept seats k v w at same = map-set table_of seats k w ∙ set_again (map table_of seats) k w.table (at_map table_of seats k v at ∙ ap (λ (s : Seated). some s.table) (sym same))

-- the seat at the table of this VM went on
pub one_went : (old seats : List Seated) (vm k : ℕ) (v w : Seated) (went : Seated → Seated → Type 0) → seats ≡ old → k ≡ vm → AreNumbered (map table_of seats) → get_elem? seats k ≡ some v → IsSameSeat v w → went v w → OneWent old vm (set seats k w) went
one_went old seats vm k v w went is here numbered at same how = subst (λ (z : List Seated × ℕ). OneWent z.0 z.1 (set seats k w) went) (λ i. (is i, here i)) (record {
  before = v;
  after = w;
  there_is = at;
  new_is = refl;
  vm_is = ap (λ (s : Seated). s.table.vm) same ∙ numbered k v.table (at_map table_of seats k v at);
  same = same;
  how = how;
})

goes_called : (v w : Seated) (call : Call) (reply : Reply) → IsSameSeat v w → Called store_acts v w call reply → GoesOn w.table.vm v w (entry v.number call reply ∷ [])
goes_called v w call reply same c = record {
  same = same;
  begins = (c.others ++ entry v.number call reply ∷ [], sym (append_assoc v.seen c.others (entry v.number call reply ∷ [])) ∙ sym c.seen);
  legal = λ l. c.legal;
  entries = c.entries;
}

goes_refused : (v w : Seated) (call : Call) → IsSameSeat v w → Refused store_acts v w call → GoesOn w.table.vm v w []
goes_refused v w call same c = record {
  same = same;
  begins = (c.others, sym c.seen);
  legal = λ l. c.legal;
  entries = c.entries ∙ sym (append-nil (own v.number v.seen));
}

one_goes : (seats : List Seated) (k : ℕ) (v w : Seated) (calls : List Made) → get_elem? seats k ≡ some v → GoesOn k v w (entries_on v.number k calls) → ((n j : ℕ) → j ≢ k → entries_on n j calls ≡ []) → SeatsGoOn seats calls (set seats k w)
one_goes seats k v w calls at goes others = record {
  as_many = length-set seats k w;
  each = λ j x y at_x at_y. ⊎_elim
      (λ (t : (j ≡ k) × (w ≡ y)). let same : v ≡ x = some-injective v x (sym at ∙ subst (λ i. get_elem? seats i ≡ some x) t.0 at_x) in
      subst (λ (z : ℕ × Seated × Seated). GoesOn z.0 z.1 z.2 (entries_on z.1.number z.0 calls)) (λ i. (sym t.0 i, same i, t.1 i)) goes)
      (λ (t : (j ≢ k) × (get_elem? seats j ≡ some y)). subst (λ (z : Seated × List Entry). GoesOn j x z.0 z.1) (λ i. (some-injective x y (sym at_x ∙ t.1) i, sym (others x.number j t.0) i)) (goes_nowhere j x))
      (at_set seats k j w y at_y);
}

-- where the seat at the table of a VM was called, the seats went on by this call
pub call_goes : (old new : List Seated) (vm : ℕ) (call : Call) (reply : Reply) → OneWent old vm new (λ v w. Called store_acts v w call reply) → SeatsGoOn old (made vm call reply ∷ []) new
call_goes old new vm call reply o = let v = o.before in let w = o.after in
    subst (SeatsGoOn old (made vm call reply ∷ [])) (sym o.new_is) (one_goes old vm v w (made vm call reply ∷ []) o.there_is
    (subst (λ (z : ℕ × List Entry). GoesOn z.0 v w z.1) (λ i. (o.vm_is i, sym (ap (λ b. map (λ (m : MadeCall). entry v.number m.call m.reply) (cond b (record { vm = vm; call = call; reply = reply } ∷ []) [])) (eq-eqb vm vm refl)) i)) (goes_called v w call reply o.same o.how))
    (λ n j ne. ap (λ b. map (λ (m : MadeCall). entry n m.call m.reply) (cond b (record { vm = vm; call = call; reply = reply } ∷ []) [])) (ne_eqb vm j (λ e. ne (sym e)))))

-- where it was refused memory, they went on by no call
pub refusal_goes : (old new : List Seated) (vm : ℕ) (call : Call) → OneWent old vm new (λ v w. Refused store_acts v w call) → SeatsGoOn old [] new
refusal_goes old new vm call o =
    subst (SeatsGoOn old []) (sym o.new_is) (one_goes old vm o.before o.after [] o.there_is (subst (λ i. GoesOn i o.before o.after []) o.vm_is (goes_refused o.before o.after call o.same o.how)) (λ n j ne. refl))

module _ {A E : Type 0} where
  pub ok_more : (r : Result A E) (P Q : A → Type 0) → ((x : A) → P x → Q x) → IfOk r P → IfOk r Q
  ok_more (Ok x) P Q f h = f x h
  ok_more (Err e) P Q f h = tt

  pub ok_both : (r : Result A E) (P Q R : A → Type 0) → ((x : A) → P x → Q x → R x) → IfOk r P → IfOk r Q → IfOk r R
  ok_both (Ok x) P Q R f p q = f x p q
  ok_both (Err e) P Q R f p q = tt

  pub err_more : (r : Result A E) (P Q : Type 0) → (P → Q) → OnErr r P → OnErr r Q
  err_more (Ok x) P Q f h = tt
  err_more (Err e) P Q f h = f h
