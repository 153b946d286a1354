-- What calls on the shared stores come to, over a worker's seats.
use Rattle.std.proofs.Common.{◌≡◌, ◌==◌, false, ℕ, zero, suc, ◌<◌, List, [], ◌∷◌, ◌++◌, map, length, set, refl, ap, sym, subst, ◌∙◌, arith, append_assoc}
use Rattle.std.specs.List.{filter}
use Rattle.std.proofs.lemmas.List.{append-nil}
use Rattle.std.proofs.lemmas.List.Elements.{filter-append}
use mathlib.Core.List.{IsPrefix, map-append}
use mathlib.Core.Option.{some, some-injective}
use lib.ListN.{get_elem?}
use Rattle.store_model.specs.declared.entry.Entry.{Entry}
use Rattle.store_model.specs.History.{entry, own, IsLegal}
use Rattle.store_model.specs.Made.{Made, MadeCall, called, measured, made_ask, calls_among, entries_on}
use Rattle.store_model.specs.declared.metric.MetricAsk.{MetricAsk}
use Rattle.store_model.specs.declared.metric.MetricReply.TheVariants.{NotBuilt}
use Rattle.turn_table.specs.Seats.{Seated, IsSameSeat}
use Rattle.turn_table.proofs.Prefixes.{prefix_self, prefix_trans}
use Rattle.turn_table.proofs.Places.{at_below}

-- A seat at the table of a VM's number goes on by these calls of its own, and by any of others: what it had seen begins what it has seen, which is legal where the former was, and its own entries are the old ones and these calls.
pub record GoesOn (vm : ℕ) (v w : Seated) (calls : List Entry) : Type 0 where
  pub same : IsSameSeat v w
  pub begins : IsPrefix v.seen w.seen
  pub legal : IsLegal vm v.seen → IsLegal vm w.seen
  pub entries : own v.number w.seen ≡ own v.number v.seen ++ calls

-- each seat goes on by the part of the calls on its VM
pub record SeatsGoOn (old : List Seated) (calls : List Made) (new : List Seated) : Type 0 where
  pub as_many : length new ≡ length old
  pub each : (vm : ℕ) (v w : Seated) → get_elem? old vm ≡ some v → get_elem? new vm ≡ some w → GoesOn vm v w (entries_on v.number vm calls)

-- just one seat went on: the one at the table of this VM
pub record OneWent (old : List Seated) (vm : ℕ) (new : List Seated) (went : Seated → Seated → Type 0) : Type 0 where
  pub before : Seated
  pub after : Seated
  pub there_is : get_elem? old vm ≡ some before
  pub new_is : new ≡ set old vm after
  pub vm_is : after.table.vm ≡ vm
  pub same : IsSameSeat before after
  pub how : went before after

calls_append : (a b : List Made) → calls_among (a ++ b) ≡ calls_among a ++ calls_among b
calls_append [] b = refl
calls_append (called m ∷ a) b = ap (λ l. m ∷ l) (calls_append a b)
calls_append (measured m ∷ a) b = calls_append a b

entries_append : (who vm : ℕ) (a b : List Made) → entries_on who vm (a ++ b) ≡ entries_on who vm a ++ entries_on who vm b
entries_append who vm a b =
    ap (λ l. map (λ (m : MadeCall). entry who m.call m.reply) (filter (λ (m : MadeCall). m.vm == vm) l)) (calls_append a b)
    ∙ ap (map (λ (m : MadeCall). entry who m.call m.reply)) (filter-append (λ (m : MadeCall). m.vm == vm) (calls_among a) (calls_among b))
    ∙ map-append (λ (m : MadeCall). entry who m.call m.reply) (filter (λ (m : MadeCall). m.vm == vm) (calls_among a)) (filter (λ (m : MadeCall). m.vm == vm) (calls_among b))

-- what is at a place of a list
pub there : {A : Type 0} (l : List A) (k : ℕ) → k < length l → (x : A) × (get_elem? l k ≡ some x)
there [] k h = absurd (omega arith)
there (x ∷ xs) zero h = (x, refl)
there (x ∷ xs) (suc k) h = there xs k (omega arith)

pub goes_nowhere : (vm : ℕ) (v : Seated) → GoesOn vm v v []
goes_nowhere vm v = record {
  same = refl;
  begins = prefix_self v.seen;
  legal = λ l. l;
  entries = sym (append-nil (own v.number v.seen));
}

goes_further : (vm : ℕ) (u v w : Seated) (a b : List Entry) → GoesOn vm u v a → GoesOn vm v w b → GoesOn vm u w (a ++ b)
goes_further vm u v w a b p q = let n : v.number ≡ u.number = ap (λ (s : Seated). s.number) p.same in record {
  same = q.same ∙ ap (λ (s : Seated). let t : Seated = record s { seen = w.seen } in t) p.same;
  begins = prefix_trans u.seen v.seen w.seen p.begins q.begins;
  legal = λ l. q.legal (p.legal l);
  entries = ap (λ k. own k w.seen) (sym n) ∙ (q.entries ∙ (ap (λ k. own k v.seen ++ b) n ∙ (ap (λ l. l ++ b) p.entries ∙ append_assoc (own u.number u.seen) a b)));
}

-- where nothing is called, the seats may stay as they are
pub seats_nothing : (s : List Seated) → SeatsGoOn s [] s
seats_nothing s = record { as_many = refl; each = λ k v w p q. subst (λ x. GoesOn k v x []) (some-injective v w (sym p ∙ q)) (goes_nowhere k v) }

-- the same where metrics were asked for, and there are none
pub seats_unmeasured : (s : List Seated) (vm : ℕ) (ask : MetricAsk) → false ≡ false → SeatsGoOn s (made_ask vm ask NotBuilt ∷ []) s
seats_unmeasured s vm ask same = record { as_many = refl; each = λ k v w p q. subst (λ x. GoesOn k v x []) (some-injective v w (sym p ∙ q)) (goes_nowhere k v) }

-- calls, and then others, are those calls and the others
pub seats_joined : (s t u : List Seated) (a b : List Made) → SeatsGoOn s a t → SeatsGoOn t b u → SeatsGoOn s (a ++ b) u
seats_joined s t u a b p q = record {
  as_many = q.as_many ∙ p.as_many;
  each = λ k v w at_v at_w.
      let m = there t k (let h = at_below s k v at_v in let e = p.as_many in omega arith) in
      let first = p.each k v m.0 at_v m.1 in
      let second = q.each k m.0 w m.1 at_w in
      let n : m.0.number ≡ v.number = ap (λ (s : Seated). s.number) first.same in
      subst (GoesOn k v w) (sym (entries_append v.number k a b)) (goes_further k v m.0 w (entries_on v.number k a) (entries_on v.number k b) first (subst (λ i. GoesOn k m.0 w (entries_on i k b)) n second));
}
