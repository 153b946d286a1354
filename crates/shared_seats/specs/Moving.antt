-- What calls and asks come to, over a worker's seats.
use Rattle.std.proofs.Common.{◌≡◌, ◌==◌, true, false, ℕ, List, [], ◌∷◌, ◌++◌, length, refl, ap, sym, subst, ◌∙◌, arith}
use Rattle.std.specs.List.{filter}
use Rattle.std.proofs.lemmas.List.Elements.{filter-append}
use mathlib.Core.Option.{some, some-injective}
use lib.ListN.{get_elem?}
use Rattle.store_model.specs.Made.{Made, MadeAsk, called, measured, made_ask, asks_among}
use Rattle.store_model.specs.declared.metric.MetricAsk.{MetricAsk}
use Rattle.store_model.specs.declared.metric.MetricReply.TheVariants.{NotBuilt}
use Rattle.turn_table.proofs.Places.{at_below}
use Rattle.metric_seats.specs.Measuring.{Measures, asks_on, measures_nothing, measures_joined}
use Rattle.metric_seats.specs.Places.{Metered}
use Rattle.shared_store.specs.Moving as store
use Rattle.shared_seats.specs.Seats.{SeatsOf}

-- Each seat at a store goes on by the calls on its VM, and from each place the asks on its VM were made, one after the other.
pub record SeatsGoOn (old : SeatsOf) (made : List Made) (new : SeatsOf) : Type 0 where
  pub stores : store.SeatsGoOn old.stores made new.stores
  pub as_many : length new.metrics ≡ length old.metrics
  pub metrics : (vm : ℕ) (v w : Metered) → get_elem? old.metrics vm ≡ some v → get_elem? new.metrics vm ≡ some w → Measures v (asks_on vm made) w

-- where nothing is asked, the places may stay as they are
pub places_still : (s : List Metered) (vm : ℕ) (v w : Metered) → get_elem? s vm ≡ some v → get_elem? s vm ≡ some w → Measures v [] w
places_still s vm v w p q = subst (λ x. Measures v [] x) (some-injective v w (sym p ∙ q)) (measures_nothing v)

pub seats_nothing : (s : SeatsOf) → SeatsGoOn s [] s
seats_nothing s = record { stores = store.seats_nothing s.stores; as_many = refl; metrics = λ vm v w p q. places_still s.metrics vm v w p q }

asks_append : (a b : List Made) → asks_among (a ++ b) ≡ asks_among a ++ asks_among b
asks_append [] b = refl
asks_append (called m ∷ a) b = asks_append a b
asks_append (measured m ∷ a) b = ap (λ l. m ∷ l) (asks_append a b)

asks_on_append : (vm : ℕ) (a b : List Made) → asks_on vm (a ++ b) ≡ asks_on vm a ++ asks_on vm b
asks_on_append vm a b = ap (filter (λ (m : MadeAsk). m.vm == vm)) (asks_append a b) ∙ filter-append (λ (m : MadeAsk). m.vm == vm) (asks_among a) (asks_among b)

pub seats_joined : (s t u : SeatsOf) (a b : List Made) → SeatsGoOn s a t → SeatsGoOn t b u → SeatsGoOn s (a ++ b) u
seats_joined s t u a b p q = record {
  stores = store.seats_joined s.stores t.stores u.stores a b p.stores q.stores;
  as_many = q.as_many ∙ p.as_many;
  metrics = λ vm v w at_v at_w.
      let m = store.there t.metrics vm (let h = at_below s.metrics vm v at_v in let e = p.as_many in omega arith) in
      subst (λ x. Measures v x w) (sym (asks_on_append vm a b)) (measures_joined v m.0 w (asks_on vm a) (asks_on vm b) (p.metrics vm v m.0 at_v m.1) (q.metrics vm m.0 w m.1 at_w));
}

-- there are metrics
pub never_unbuilt : (s : SeatsOf) (vm : ℕ) (asked : MetricAsk) → true ≡ false → SeatsGoOn s (made_ask vm asked NotBuilt ∷ []) s
never_unbuilt s vm asked e = absurd (cc)
