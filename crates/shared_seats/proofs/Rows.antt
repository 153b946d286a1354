-- Places by the numbers of their VM names.
use Rattle.std.proofs.Common.{◌≡◌, ◌≢◌, ℕ, ◌+◌, ◌<◌, ◌≤◌, List, [], ◌∷◌, ◌++◌, length, get_or, set, ap, sym, subst, ◌∙◌, ⊎_elim, arith, length-set}
use mathlib.Core.Option.{some, some-injective}
use lib.ListN.{get_elem?, length-map}
use Rattle.atomic_table.proofs.Lists.{at_set, at_map}
use Rattle.turn_table.proofs.Places.{at_snoc}
use Rattle.metric_seats.specs.Places.{Metered, MetricTableId, PlacesJoined, tables_of}
use Rattle.metric_seats.specs.declared.table.MetricsClosed.{MetricsClosed}
use Rattle.shared_seats.specs.Places.{MetricsAreNumbered, ArePlaces, PlaceClosed}
use Rattle.shared_seats.proofs.Lists.{get_at}

-- the first n were joined, and the others are as they were
pub record JoinedBelow (n : ℕ) (old ended new : List Metered) : Type 0 where
  pub as_many : length new ≡ length old
  pub done : (k : ℕ) (v u w : Metered) → k < n → get_elem? old k ≡ some v → get_elem? ended k ≡ some u → get_elem? new k ≡ some w → PlacesJoined v u w
  pub others : (k : ℕ) (w : Metered) → n ≤ k → get_elem? new k ≡ some w → get_elem? old k ≡ some w

pub joined_next : (n : ℕ) (old ended new : List Metered) (v u w : Metered) → JoinedBelow n old ended new → get_elem? new n ≡ some v → get_elem? ended n ≡ some u → PlacesJoined v u w → JoinedBelow (n + 1) old ended (set new n w)
joined_next n old ended new v u w j at_v at_u is = record {
  as_many = length-set new n w ∙ j.as_many;
  done = λ k x y z h at_x at_y at_z. ⊎_elim
      (λ (t : (k ≡ n) × (w ≡ z)).
      let x_is : x ≡ v = some-injective x v (sym at_x ∙ (ap (get_elem? old) t.0 ∙ j.others n v (omega arith) at_v)) in
      let y_is : y ≡ u = some-injective y u (sym at_y ∙ (ap (get_elem? ended) t.0 ∙ at_u)) in
      subst (λ (s : Metered × Metered × Metered). PlacesJoined s.0 s.1 s.2) (λ i. (sym x_is i, sym y_is i, t.1 i)) is)
      (λ (t : (k ≢ n) × (get_elem? new k ≡ some z)). let ne = t.0 in j.done k x y z (omega arith) at_x at_y t.1)
      (at_set new n k w z at_z);
  others = λ k z h at_z. ⊎_elim
      (λ (t : (k ≡ n) × (w ≡ z)). let e = t.0 in absurd (omega arith))
      (λ (t : (k ≢ n) × (get_elem? new k ≡ some z)). j.others k z (omega arith) t.1)
      (at_set new n k w z at_z);
}

-- the table of a place
pub table_at : (tables : List MetricTableId) (places : List Metered) (k : ℕ) (v : Metered) (t : MetricTableId) → ArePlaces tables places → get_elem? places k ≡ some v → t ≡ get_or tables k t → tables_of v ≡ t
table_at tables places k v t at here is = sym (get_at tables k (tables_of v) t (ap (λ l. get_elem? l k) (sym at) ∙ at_map tables_of places k v here)) ∙ sym is

-- two lists of places at the same tables are as long
pub as_long : (tables : List MetricTableId) (a b : List Metered) → ArePlaces tables a → ArePlaces tables b → length a ≡ length b
as_long tables a b p q = sym (length-map a tables_of) ∙ (ap length (p ∙ sym q) ∙ length-map b tables_of)

pub numbered_more : (tables : List MetricTableId) (t : MetricTableId) → MetricsAreNumbered tables → t.names.vm ≡ length tables → MetricsAreNumbered (tables ++ t ∷ [])
numbered_more tables t numbered is k u at = ⊎_elim
    (λ (h : (k < length tables) × (get_elem? tables k ≡ some u)). numbered k u h.1)
    (λ (h : (k ≡ length tables) × (t ≡ u)). ap (λ (x : MetricTableId). x.names.vm) (sym h.1) ∙ (is ∙ sym h.0))
    (at_snoc tables t u k at)

abbrev pub ClosedSoFar : List Metered → List MetricsClosed → Type 0
ClosedSoFar places closed = (vm : ℕ) (v : Metered) (c : MetricsClosed) → get_elem? places vm ≡ some v → get_elem? closed vm ≡ some c → PlaceClosed v c

-- the metrics so far, and one more
pub closed_more : (places : List Metered) (closed : List MetricsClosed) (k : ℕ) (v : Metered) (c : MetricsClosed) → length closed ≡ k → get_elem? places k ≡ some v → ClosedSoFar places closed → PlaceClosed v c → ClosedSoFar places (closed ++ c ∷ [])
closed_more places closed k v c long at so_far is vm u d at_u at_d = ⊎_elim
    (λ (h : (vm < length closed) × (get_elem? closed vm ≡ some d)). so_far vm u d at_u h.1)
    (λ (h : (vm ≡ length closed) × (c ≡ d)).
    let same : v ≡ u = some-injective v u (sym at ∙ (ap (get_elem? places) (sym (h.0 ∙ long)) ∙ at_u)) in
    subst (λ (x : Metered × MetricsClosed). PlaceClosed x.0 x.1) (λ i. (same i, h.1 i)) is)
    (at_snoc closed c d vm at_d)
