-- One ask from one place.
use Rattle.std.proofs.Common.{Result, Ok, Err, IfOk, ◌≡◌, ◌≢◌, ℕ, List, [], ◌∷◌, cond, map, set, refl, ap, sym, subst, ◌∙◌, ⊎_elim, length-set, eq-eqb, ne_eqb}
use Rattle.std.specs.Prelude.{OnErr}
use lib.Seq.{map-set}
use mathlib.Core.Option.{some, some-injective}
use lib.ListN.{get_elem?}
use Rattle.atomic_table.proofs.Lists.{at_set, set_again, at_map}
use Rattle.metric_table.specs.Seats.{Counting}
use Rattle.store_model.specs.Made.{Made, MadeAsk, made_ask}
use Rattle.store_model.specs.declared.metric.MetricAsk.{MetricAsk}
use Rattle.store_model.specs.declared.metric.MetricReply.{MetricReply}
use Rattle.turn_table.specs.Seats.{Seated}
use Rattle.metric_seats.specs.Measuring.{Measures, asks_on, stays_still}
use Rattle.metric_seats.specs.Places.{Asked, IsSamePlace, Metered, PlaceStays, tables_of}
use Rattle.shared_store.specs.Moving as store
use Rattle.shared_seats.specs.Moving.{SeatsGoOn, places_still}
use Rattle.shared_seats.specs.Seats.{OneWent, SeatsOf}

same_tables : (v w : Metered) → IsSamePlace v w → tables_of w ≡ tables_of v
same_tables v w same = λ i. record { names = (ap (λ (s : Seated). s.table) same.0) i; words = (ap (λ (c : Counting). c.table) same.1) i }

-- the places are still at these tables
pub places_kept : (places : List Metered) (k : ℕ) (v w : Metered) → get_elem? places k ≡ some v → IsSamePlace v w → map tables_of (set places k w) ≡ map tables_of places
places_kept places k v w at same = map-set tables_of places k w ∙ set_again (map tables_of places) k (tables_of w) (at_map tables_of places k v at ∙ ap some (sym (same_tables v w same)))

-- the place at the metrics of this VM went on
pub one_went : (old : SeatsOf) (stores : List Seated) (places : List Metered) (vm k : ℕ) (v w : Metered) (went : Metered → Metered → Type 0) → record { stores = stores; metrics = places } ≡ old → k ≡ vm → get_elem? places k ≡ some v → IsSamePlace v w → went v w
    → OneWent old vm (record { stores = stores; metrics = set places k w }) went
one_went old stores places vm k v w went is here at same how = subst (λ (z : SeatsOf × ℕ). OneWent z.0 z.1 (record { stores = stores; metrics = set places k w }) went) (λ i. (is i, here i)) (record {
  before = v;
  after = w;
  there_is = at;
  new_is = refl;
  same = same;
  how = how;
})

-- one place goes on by the asks on its VM, and there are none on the others
one_goes : (old new : SeatsOf) (vm : ℕ) (made : List Made) (v w : Metered) → get_elem? old.metrics vm ≡ some v → new ≡ record old { metrics = set old.metrics vm w } → store.SeatsGoOn old.stores made old.stores → Measures v (asks_on vm made) w
    → ((j : ℕ) → j ≢ vm → asks_on j made ≡ []) → SeatsGoOn old made new
one_goes old new vm made v w at is stores goes others = subst (SeatsGoOn old made) (sym is) (record {
  stores = stores;
  as_many = length-set old.metrics vm w;
  metrics = λ j x y at_x at_y. ⊎_elim
      (λ (t : (j ≡ vm) × (w ≡ y)). let same : v ≡ x = some-injective v x (sym at ∙ subst (λ i. get_elem? old.metrics i ≡ some x) t.0 at_x) in
      subst (λ (z : ℕ × Metered × Metered). Measures z.1 (asks_on z.0 made) z.2) (λ i. (sym t.0 i, same i, t.1 i)) goes)
      (λ (t : (j ≢ vm) × (get_elem? old.metrics j ≡ some y)). subst (λ l. Measures x l y) (sym (others j t.0)) (places_still old.metrics j x y at_x t.1))
      (at_set old.metrics vm j w y at_y);
})

stores_still : (s : List Seated) (vm : ℕ) (asked : MetricAsk) (reply : MetricReply) → store.SeatsGoOn s (made_ask vm asked reply ∷ []) s
stores_still s vm asked reply = let n = store.seats_nothing s in record { as_many = n.as_many; each = n.each }

pub ask_goes : (old new : SeatsOf) (vm : ℕ) (asked : MetricAsk) (reply : MetricReply) → OneWent old vm new (λ v w. Asked v asked reply w) → SeatsGoOn old (made_ask vm asked reply ∷ []) new
ask_goes old new vm asked reply o =
    let m : MadeAsk = record { vm = vm; ask = asked; reply = reply } in
    one_goes old new vm (made_ask vm asked reply ∷ []) o.before o.after o.there_is o.new_is (stores_still old.stores vm asked reply)
    (subst (λ l. Measures o.before l o.after) (sym (ap (λ b. cond b (m ∷ []) []) (eq-eqb vm vm refl))) (record { before = o.before; stays = stays_still o.before; after = o.after; asked = o.how; rest = stays_still o.after }))
    (λ j ne. ap (λ b. cond b (m ∷ []) []) (ne_eqb vm j (λ e. ne (sym e))))

pub refusal_goes : (old new : SeatsOf) (vm : ℕ) → OneWent old vm new PlaceStays → SeatsGoOn old [] new
refusal_goes old new vm o = one_goes old new vm [] o.before o.after o.there_is o.new_is (store.seats_nothing old.stores) o.how (λ j ne. refl)

module _ {A E : Type 0} where
  pub ok_more : (r : Result A E) (P Q : A → Type 0) → ((x : A) → P x → Q x) → IfOk r P → IfOk r Q
  ok_more (Ok x) P Q f h = f x h
  ok_more (Err e) P Q f h = tt

  pub err_more : (r : Result A E) (P Q : Type 0) → (P → Q) → OnErr r P → OnErr r Q
  err_more (Ok x) P Q f h = tt
  err_more (Err e) P Q f h = f h
