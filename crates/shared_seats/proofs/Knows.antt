-- An id that a worker knows is that of a metric of this kind.
use Rattle.std.proofs.Common.{◌≡◌, ◌⊎◌, ⊎_elim, inl, inr, ℕ, zero, suc, ◌+◌, ◌-◌, ◌==◌, ◌&&◌, ◌<◌, ◌≤◌, Bool, true, false, cond, nat_lt, List, [], ◌∷◌, ◌++◌, length, replicate, Option, Some, None, refl, ap, sym, subst, ◌∙◌, arith, set, get_or, length-append}
use Rattle.std.proofs.lemmas.List.Quantifiers.{position-Some}
use Rattle.std.proofs.lemmas.Bool.Decides.{nat_tests}
use mathlib.Core.List.{IsPrefix}
use mathlib.Core.Option.{some}
use lib.ListN.{get_elem?}
use Rattle.atomic_table.proofs.Lists.{at_index, at_longer, at_last}
use Rattle.store_model.specs.History.{own, value_from, IsLegalFrom}
use Rattle.store_model.specs.MetricNames.{Names, define_after, define_reply, definition_in, id_given, is_same_name, names_acts, names_after, names_reply, no_names, place_among, with_name}
use Rattle.store_model.specs.Metrics.{is_kind}
use Rattle.store_model.specs.declared.call.Call.{Call}
use Rattle.store_model.specs.declared.call.Call.TheVariants.{Get, Set, Register, Resolve, Enqueue, Dequeue, Notice}
use Rattle.store_model.specs.declared.call.Reply.{Reply}
use Rattle.store_model.specs.declared.call.Reply.TheVariants.{Absent, Value, Done, CasMismatch, Full, Id, Item, Empty, Owed, NoneOwed}
use Rattle.store_model.specs.declared.entry.Entry.{Entry}
use Rattle.store_model.specs.declared.metric.MetricKind.{MetricKind}
use Rattle.store_model.specs.declared.metric.MetricKind.TheVariants.{Counter, Gauge}
use Rattle.store_model.specs.declared.metric.MetricName.{MetricName}
use Rattle.store_model.specs.declared.used.TheConstants.{MOST_METRICS}
use Rattle.turn_table.specs.Histories.{value_after, IsLegalFor}
use Rattle.turn_table.proofs.Entries.{legal_prefix}
use Rattle.metric_seats.specs.Knowing.{Kinds, kind_of, known_by, known_from, learned, learned_by, no_ids}

-- among names there is one of this id and kind
pub record Has (names : List MetricName) (id : ℕ) (kind : MetricKind) : Type 0 where
  pub place : ℕ
  pub name : MetricName
  pub id_is : id ≡ suc place
  pub at : get_elem? names place ≡ some name
  pub kind_is : name.kind ≡ kind

abbrev Fits : List MetricName → Kinds → Type 0
Fits names kinds = (id : ℕ) (kind : MetricKind) → kind_of kinds id ≡ Some kind → Has names id kind

-- ---- names stay where they are, and are 64 at most
abbrev put_last : List MetricName → MetricName → Bool → List MetricName
put_last ns m b = cond b (ns ++ m ∷ []) ns

with_keeps : (ns : List MetricName) (m : MetricName) (o : Option ℕ) (k : ℕ) (n : MetricName) → get_elem? ns k ≡ some n → get_elem? (with_name ns m o) k ≡ some n
with_keeps ns m (Some j) k n at = at
with_keeps ns m None k n at = pick (nat_lt (length ns) MOST_METRICS)
  where
    pick : (b : Bool) → get_elem? (put_last ns m b) k ≡ some n
    pick true = at_longer ns (m ∷ []) k n at
    pick false = at

with_few : (ns : List MetricName) (m : MetricName) (o : Option ℕ) → length ns ≤ MOST_METRICS → length (with_name ns m o) ≤ MOST_METRICS
with_few ns m (Some j) h = h
with_few ns m None h = pick (nat_lt (length ns) MOST_METRICS) refl
  where
    pick : (b : Bool) → nat_lt (length ns) MOST_METRICS ≡ b → length (put_last ns m b) ≤ MOST_METRICS
    pick true is = let a : length ns < 64 = grind (arith, nat_tests) in let e = length-append ns (m ∷ []) in omega arith
    pick false is = h

after_keeps : (ns : List MetricName) (o : Option MetricName) (k : ℕ) (n : MetricName) → get_elem? ns k ≡ some n → get_elem? (define_after ns o) k ≡ some n
after_keeps ns None k n at = at
after_keeps ns (Some m) k n at = with_keeps ns m (place_among ns m) k n at

after_few : (ns : List MetricName) (o : Option MetricName) → length ns ≤ MOST_METRICS → length (define_after ns o) ≤ MOST_METRICS
after_few ns None h = h
after_few ns (Some m) h = with_few ns m (place_among ns m) h

call_keeps : (s : Names) (call : Call) (k : ℕ) (n : MetricName) → get_elem? s.names k ≡ some n → get_elem? (names_after s call).names k ≡ some n
call_keeps s (Get key) k n at = at
call_keeps s (Set key value number) k n at = at
call_keeps s (Register name root) k n at = after_keeps s.names (definition_in name) k n at
call_keeps s (Resolve name) k n at = at
call_keeps s (Enqueue queue item) k n at = at
call_keeps s (Dequeue queue) k n at = at
call_keeps s Notice k n at = at

call_few : (s : Names) (call : Call) → length s.names ≤ MOST_METRICS → length (names_after s call).names ≤ MOST_METRICS
call_few s (Get key) h = h
call_few s (Set key value number) h = h
call_few s (Register name root) h = after_few s.names (definition_in name) h
call_few s (Resolve name) h = h
call_few s (Enqueue queue item) h = h
call_few s (Dequeue queue) h = h
call_few s Notice h = h

names_keep : (s : Names) (h : List Entry) (k : ℕ) (n : MetricName) → get_elem? s.names k ≡ some n → get_elem? (value_from names_acts s h).names k ≡ some n
names_keep s [] k n at = at
names_keep s (e ∷ h) k n at = names_keep (names_after s e.call) h k n (call_keeps s e.call k n at)

names_few : (s : Names) (h : List Entry) → length s.names ≤ MOST_METRICS → length (value_from names_acts s h).names ≤ MOST_METRICS
names_few s [] few = few
names_few s (e ∷ h) few = names_few (names_after s e.call) h (call_few s e.call few)

-- the names of a VM are 64 at most
pub at_most : (vm : ℕ) (h : List Entry) → length (value_after names_acts vm h).names ≤ 64
at_most vm h = names_few (no_names vm) h (omega arith)

has_more : (old new : List MetricName) (id : ℕ) (kind : MetricKind) → ((k : ℕ) (n : MetricName) → get_elem? old k ≡ some n → get_elem? new k ≡ some n) → Has old id kind → Has new id kind
has_more old new id kind keeps h = record { place = h.place; name = h.name; id_is = h.id_is; at = keeps h.place h.name h.at; kind_is = h.kind_is }

-- ---- what is learned fits
set_some : (l : Kinds) (j i : ℕ) (a k : MetricKind) → get_or (set l j (Some a)) i None ≡ Some k → ((i ≡ j) × (a ≡ k)) ⊎ (get_or l i None ≡ Some k)
set_some [] j i a k e = inr e
set_some (x ∷ l) zero zero a k e = inl (refl, cc)
set_some (x ∷ l) zero (suc i) a k e = inr e
set_some (x ∷ l) (suc j) zero a k e = inr e
set_some (x ∷ l) (suc j) (suc i) a k e = ⊎_elim (λ (t : (i ≡ j) × (a ≡ k)). inl (ap suc t.0, t.1)) (λ t. inr t) (set_some l j i a k e)

-- the kind of an id that was learned
learned_fits : (ns : List MetricName) (kinds : Kinds) (j : ℕ) (n : MetricName) → Fits ns kinds → Has ns (suc j) n.kind → Fits ns (set kinds j (Some n.kind))
learned_fits ns kinds j n fits has zero k e = absurd (cc)
learned_fits ns kinds j n fits has (suc i) k e = ⊎_elim
    (λ (t : (i ≡ j) × (n.kind ≡ k)). subst (λ (z : ℕ × MetricKind). Has ns (suc z.0) z.1) (λ d. (sym t.0 d, t.1 d)) has)
    (λ t. fits (suc i) k t)
    (set_some kinds j i n.kind k e)

kinds_alike : (a b : MetricKind) (r : Bool) → (is_kind a b && r) ≡ true → b ≡ a
kinds_alike Counter Counter r e = refl
kinds_alike Counter Gauge r e = absurd (cc)
kinds_alike Gauge Counter r e = absurd (cc)
kinds_alike Gauge Gauge r e = refl

-- a member is there whatever stands for one that is not
same_or : (n : MetricName) (l : List MetricName) (j : ℕ) → j < length l → get_or l j n ≡ get_or l j (get_or l j n)
same_or n [] j h = absurd (omega arith)
same_or n (x ∷ l) zero h = refl
same_or n (x ∷ l) (suc j) h = same_or n l j (omega arith)

define_fits : (ns : List MetricName) (kinds : Kinds) (o : Option MetricName) (id : ℕ) → Fits ns kinds → Id id ≡ define_reply ns o → Fits (define_after ns o) (learned kinds o id)
define_fits ns kinds None id fits is = absurd (cc)
define_fits ns kinds (Some n) id fits is = given (place_among ns n) refl is
  where
    fresh : (b : Bool) → Id id ≡ cond b (Id (length ns + 1)) Full → Fits (put_last ns n b) (set kinds (id - 1) (Some n.kind))
    fresh true is =
        let e : id - 1 ≡ length ns = (let same : id ≡ length ns + 1 = cc in omega arith) in
        let has : Has (ns ++ n ∷ []) (suc (length ns)) n.kind = record { place = length ns; name = n; id_is = refl; at = at_last ns n (length ns) refl; kind_is = refl } in
        subst (λ j. Fits (ns ++ n ∷ []) (set kinds j (Some n.kind))) (sym e)
        (learned_fits (ns ++ n ∷ []) kinds (length ns) n (λ i k h. has_more ns (ns ++ n ∷ []) i k (λ j m at. at_longer ns (n ∷ []) j m at) (fits i k h)) has)
    fresh false is = absurd (cc)

    given : (p : Option ℕ) → place_among ns n ≡ p → Id id ≡ id_given ns p → Fits (with_name ns n p) (set kinds (id - 1) (Some n.kind))
    given (Some j) at is =
        let e : id - 1 ≡ j = (let same : id ≡ j + 1 = cc in omega arith) in
        let found = position-Some (is_same_name n) ns j n at in
        let m = get_or ns j n in
        let has : Has ns (suc j) n.kind = record { place = j; name = m; id_is = refl; at = at_index ns j m found.0 (same_or n ns j found.0); kind_is = kinds_alike n.kind m.kind _ found.1 } in
        subst (λ i. Fits ns (set kinds i (Some n.kind))) (sym e) (learned_fits ns kinds j n fits has)
    given None at is = fresh (nat_lt (length ns) MOST_METRICS) is

call_fits : (s : Names) (kinds : Kinds) (call : Call) (reply : Reply) → Fits s.names kinds → reply ≡ names_reply s call → Fits (names_after s call).names (learned_by kinds call reply)
call_fits s kinds (Get key) reply fits is = fits
call_fits s kinds (Set key value number) reply fits is = fits
call_fits s kinds (Resolve name) reply fits is = fits
call_fits s kinds (Enqueue queue item) reply fits is = fits
call_fits s kinds (Dequeue queue) reply fits is = fits
call_fits s kinds Notice reply fits is = fits
call_fits s kinds (Register name root) reply fits is = by reply is
  where
    others : Fits (define_after s.names (definition_in name)) kinds
    others i k h = has_more s.names (define_after s.names (definition_in name)) i k (λ j m at. after_keeps s.names (definition_in name) j m at) (fits i k h)

    by : (r : Reply) → r ≡ define_reply s.names (definition_in name) → Fits (define_after s.names (definition_in name)) (learned_by kinds (Register name root) r)
    by (Id id) is = define_fits s.names kinds (definition_in name) id fits is
    by Absent is = others
    by (Value v n) is = others
    by (Done n) is = others
    by CasMismatch is = others
    by Full is = others
    by (Item i) is = others
    by Empty is = others
    by (Owed r q) is = others
    by NoneOwed is = others

entries_fit : (who : ℕ) (s : Names) (kinds : Kinds) (h : List Entry) → IsLegalFrom names_acts s h → Fits s.names kinds → Fits (value_from names_acts s h).names (known_from kinds (own who h))
entries_fit who s kinds [] legal fits = fits
entries_fit who s kinds (e ∷ h) legal fits =
    let first : e.reply ≡ names_reply s e.call = cc in
    let rest : IsLegalFrom names_acts (names_after s e.call) h = cc in
    pick (e.who == who)
    (entries_fit who (names_after s e.call) (learned_by kinds e.call e.reply) h rest (call_fits s kinds e.call e.reply fits first))
    (entries_fit who (names_after s e.call) kinds h rest (λ i k x. has_more s.names (names_after s e.call).names i k (λ j m at. call_keeps s e.call j m at) (fits i k x)))
  where
    pick : (b : Bool) → Fits (value_from names_acts (names_after s e.call) h).names (known_from kinds (e ∷ own who h)) → Fits (value_from names_acts (names_after s e.call) h).names (known_from kinds (own who h)) → Fits (value_from names_acts (names_after s e.call) h).names (known_from kinds (cond b (e ∷ own who h) (own who h)))
    pick true mine others = mine
    pick false mine others = others

none_known : (n k : ℕ) (kind : MetricKind) → get_or (replicate n None) k None ≡ Some kind → ⊥
none_known zero k kind e = absurd (cc)
none_known (suc n) zero kind e = absurd (cc)
none_known (suc n) (suc k) kind e = none_known n k kind e

none_fit : Fits [] no_ids
none_fit zero kind e = absurd (cc)
none_fit (suc k) kind e = absurd (none_known 64 k kind e)

value_append : (s : Names) (g h : List Entry) → value_from names_acts s (g ++ h) ≡ value_from names_acts (value_from names_acts s g) h
value_append s [] h = refl
value_append s (e ∷ g) h = value_append (names_after s e.call) g h

-- what a worker knows by its entries in a beginning of a legal history is so in what the whole leaves
pub known_has : (vm who : ℕ) (seen history : List Entry) (id : ℕ) (kind : MetricKind) → IsPrefix seen history → IsLegalFor names_acts vm history → kind_of (known_by (own who seen)) id ≡ Some kind → Has (value_after names_acts vm history).names id kind
known_has vm who seen history id kind p legal known =
    let here = entries_fit who (no_names vm) no_ids seen (legal_prefix names_acts vm seen history p legal) none_fit id kind known in
    let s = value_after names_acts vm seen in
    has_more s.names (value_after names_acts vm history).names id kind
    (λ k n at. subst (λ (x : Names). get_elem? x.names k ≡ some n) (sym (value_append (no_names vm) seen p.0) ∙ ap (value_after names_acts vm) p.1) (names_keep s p.0 k n at))
    here
