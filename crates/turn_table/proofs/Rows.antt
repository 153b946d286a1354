-- The worked examples, and the entries of a closed table.
use Rattle.std.proofs.Common.{◌≡◌, ◌≢◌, ℕ, zero, suc, ◌<◌, ◌≤◌, ◌==◌, Bool, true, false, cond, List, [], ◌∷◌, length, get_or, refl, ap, sym, ◌∙◌, ⊎_elim, arith, eq-eqb, Option, Some, None}
use mathlib.Core.Logic.{dite}
use mathlib.Core.Option.{none, some}
use native.Mathlib.Decide.{ℕ_discrete, dec_le}
use Rattle.store_model.specs.History.{Acts, own, store_acts, entry}
use Rattle.store_model.specs.Store.{Store}
use Rattle.store_model.specs.declared.call.Reply.{Reply}
use Rattle.store_model.specs.declared.call.Reply.TheVariants.{Done, CasMismatch}
use Rattle.store_model.specs.declared.entry.Entry.{Entry}
use Rattle.turn_table.specs.Histories.{value_after}
use Rattle.turn_table.specs.Rows.{row, set_k, stale_row_is_not, stale_call, store_ahead, one_number_twice, lone}
use Rattle.turn_table.specs.Rule.{IsFree, IsTaken, Kept}
use Rattle.turn_table.specs.Seats.{Closed, Seated}
use Rattle.turn_table.specs.Views.{first_view}
use Rattle.turn_table.specs.declared.view.View.{View}
use Rattle.turn_table.proofs.Places.{at_snoc}

abbrev third : List Reply → Option Reply
third (a ∷ b ∷ c ∷ l) = Some c
third _ = None

pub stale_row : stale_row_is_not
stale_row e = let differ : Some (Done 3) ≡ Some CasMismatch = ap third e in absurd (cc)

pub stale : stale_call
stale t = record { others = entry 1 (set_k 50 1) (Done 2) ∷ []; foreign = refl; seen = refl; legal = refl; entries = refl }

-- nobody has seen a call
none_seen : (k : Kept store_acts 0 (lone 0 0 0 (value_after store_acts 0 row) (first_view 0))) → k.history ≡ []
none_seen k =
    let same : first_view 0 ≡ k.whole.1 = ⊎_elim (λ t. absurd (omega (arith, t.0))) (λ t. t.1) (at_snoc [] (first_view 0) k.whole.1 k.whole.0 k.whole.2) in
    sym k.whole.4 ∙ ap (λ (v : View). v.seen) (sym same)

abbrev Homes : Type 0
Homes = List (mathlib.Core.Option.Option Store)

-- the number that the next Set draws in the store at home
abbrev next_at : Homes → ℕ
next_at [] = 0
next_at (none ∷ hs) = 0
next_at (some s ∷ hs) = s.keys.next

pub store_is_ahead : store_ahead
store_is_ahead k = ⊎_elim
    (λ (free : IsFree store_acts 0 k.history (lone 0 0 0 (value_after store_acts 0 row) (first_view 0))).
    let next : 4 ≡ 1 = ap next_at free.homes ∙ ap (λ h. (value_after store_acts 0 h).keys.next) (none_seen k) in
    absurd (omega arith))
    (λ (taken : IsTaken store_acts 0 k.history (lone 0 0 0 (value_after store_acts 0 row) (first_view 0))). let next : 4 ≡ 0 = ap next_at taken.homes in absurd (omega arith))
    k.turn

apart_places : (i k : ℕ) → i < k → i ≡ k → ⊥
apart_places i k lt same = absurd (omega arith)

pub one_twice : one_number_twice
one_twice apart = let live : 0 < 1 = omega arith in apart_places 0 1 live (apart 0 1 (first_view 0) (first_view 0) refl refl live refl)

-- ---- an entry is among its worker's own
own_some : (h : List Entry) (k : ℕ) (d : Entry) → k < length h → own (get_or h k d).who h ≢ []
own_some [] k d within e = absurd (omega arith)
own_some (x ∷ xs) zero d within e = let here : x ∷ own x.who xs ≡ [] = ap (λ b. cond b (x ∷ own x.who xs) (own x.who xs)) (sym (eq-eqb x.who x.who refl)) ∙ e in absurd (cc)
own_some (x ∷ xs) (suc k) d within e = own_some xs k d (omega arith) (rest (x.who == (get_or xs k d).who) e)
  where
    rest : (b : Bool) → cond b (x ∷ own (get_or xs k d).who xs) (own (get_or xs k d).who xs) ≡ [] → own (get_or xs k d).who xs ≡ []
    rest true e = absurd (cc)
    rest false e = e

module _ {S : Type 0} (a : Acts S) where
  pub has_seat : (v : Seated) (value : S) (count : ℕ) → Closed a v value count → (k : ℕ) (d : Entry) → k < length v.seen → (1 ≤ (get_or v.seen k d).who) × ((get_or v.seen k d).who ≤ v.given)
  has_seat v value count closed k d within =
      let who : ℕ = (get_or v.seen k d).who in (
        dite (ℕ_discrete who 0) (λ (zero : who ≡ 0). absurd (own_some v.seen k d within (ap (λ n. own n v.seen) zero ∙ closed.none_of_zero))) (λ (more : who ≢ 0). omega arith),
        dite (dec_le who v.given) (λ (le : who ≤ v.given). le) (λ past. absurd (own_some v.seen k d within (closed.none_past who (omega arith)))),
      )
