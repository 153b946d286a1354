-- Each call of each worker stands once.
use Rattle.std.proofs.Common.{◌≡◌, ◌∙◌, ℕ, zero, suc, ◌+◌, ◌<◌, ◌≤◌, Bool, if◌then◌else◌, All, List, [], ◌∷◌, ◌++◌, length, map, reverse, Option, refl, ap, sym, subst, arith, inl, inr, ◌⊎◌, ⊎_elim, eq-eqb, ne_eqb}
use Rattle.filter_host.specs.Called.{Calling}
use Rattle.std.proofs.lemmas.Grind.{reverse_onto}
use mathlib.Core.Option.{some, some-injective, some-ne-none}
use lib.ListN.{get_elem?}
use Rattle.fleet.specs.Fleet.{Each, HasWorked}
use Rattle.fleet.specs.Laws.{AllLivesAreMeant, AreMeant, EachVmHasOne, SeatsGoOnByLives}
use Rattle.fleet.specs.Made.{events_of_each, made_in}
use Rattle.fleet.specs.Moves.{AreFrom, seats_in}
use Rattle.fleet.specs.Run.{Ended}
use Rattle.fleet.specs.declared.post.Post.{Post}
use Rattle.gate_config.specs.declared.config.Config.{Config}
use Rattle.gate_io.specs.Nature.{Nature}
use Rattle.gate_io.specs.declared.event.Event.{Event}
use Rattle.gate_io.specs.declared.passed.Passed.{Passed}
use Rattle.metric_seats.specs.Measuring.{asks_on}
use Rattle.shared_seats.specs.Asked.{AllMade, definitions_by}
use Rattle.shared_seats.specs.Closed.{ClosedOf}
use Rattle.shared_seats.specs.Moving.{SeatsGoOn}
use Rattle.shared_seats.specs.Seats.{SeatsOf, TablesOf}
use Rattle.metric_seats.specs.declared.table.MetricsClosed.{MetricsClosed}
use Rattle.shared_seats.specs.Workers.{HasMetrics, HasOneHistory}
use Rattle.shared_store.specs.declared.closed.ClosedStore.{ClosedStore}
use Rattle.store_model.specs.History.{own}
use Rattle.store_model.specs.Made.{Made, entries_on}
use Rattle.store_model.specs.declared.entry.Entry.{Entry}
use Rattle.worker_model.specs.State.{Standing}
use Rattle.law_fleet.specs.Calls.{CallsExamples, EachCallStandsOnce, HasAll, IsOfAWorker, events_by, made_by}

-- what stands at a place of a list with one member more: a member of the list, or that one
at_end : {A : Type 0} (xs : List A) (x y : A) (k : ℕ) → get_elem? (xs ++ x ∷ []) k ≡ some y → ((get_elem? xs k ≡ some y) × (k < length xs)) ⊎ ((k ≡ length xs) × (x ≡ y))
at_end [] x y zero e = inr (refl, some-injective x y e)
at_end [] x y (suc k) e = absurd (some-ne-none y (sym e))
at_end (z ∷ xs) x y zero e = inl (e, omega arith)
at_end (z ∷ xs) x y (suc k) e = ⊎_elim (λ a. inl (a.0, (let low = a.1 in omega (arith, low)))) (λ b. inr (ap suc b.0, b.1)) (at_end xs x y k e)

none_there : {A : Type 0} (k : ℕ) (y : A) → get_elem? [] k ≡ some y → ⊥
none_there zero y e = some-ne-none y (sym e)
none_there (suc k) y e = some-ne-none y (sym e)

-- what the laws of the seats of all workers say
abbrev CallsOnce : Type 0
CallsOnce =
    (tables : TablesOf) (workers vm w : ℕ) (made : ℕ → List Made) (old new : List SeatsOf) (c : ClosedStore) → AllMade tables workers made old new → vm < length tables.stores → w < workers → (h : HasOneHistory vm new c)
    → own (w + 1) h.history ≡ entries_on (w + 1) vm (made (w + 1))

abbrev DefinitionsOnce : Type 0
DefinitionsOnce =
    (tables : TablesOf) (workers vm w : ℕ) (made : ℕ → List Made) (old new : List SeatsOf) (c : MetricsClosed) → AllMade tables workers made old new → vm < length tables.metrics → w < workers → (h : HasMetrics vm new c)
    → own (w + 1) h.history ≡ definitions_by (w + 1) (asks_on vm (made (w + 1)))

module _ {W H : Type 0} (trace_of : W → Option (List Passed)) (nature_of : W → Nature) (faults_of : W → ℕ) (calling : Calling H) (first : ℕ → List ℕ → Standing H) where
  abbrev DidIt : Post W → Post W → Type 0
  DidIt = HasWorked trace_of nature_of faults_of calling first

  abbrev by : (who : ℕ) (before after : List (Post W)) → Each DidIt before after → List Made
  by who before after each = made_by trace_of nature_of faults_of calling first who before after each

  by_here : (who : ℕ) (p q : Post W) (ps qs : List (Post W)) (each : Each DidIt (p ∷ ps) (q ∷ qs)) → p.who ≡ who → by who (p ∷ ps) (q ∷ qs) each ≡ made_in calling SeatsGoOn _ p.seats _ q.end q.again q.seats _ each.0.lives
  by_here who p q ps qs each is = ap (λ (b : Bool). if b then made_in calling SeatsGoOn _ p.seats _ q.end q.again q.seats _ each.0.lives else by who ps qs each.1) (eq-eqb p.who who is)

  by_behind : (who : ℕ) (p q : Post W) (ps qs : List (Post W)) (each : Each DidIt (p ∷ ps) (q ∷ qs)) → (p.who ≡ who → ⊥) → by who (p ∷ ps) (q ∷ qs) each ≡ by who ps qs each.1
  by_behind who p q ps qs each isnt = ap (λ (b : Bool). if b then made_in calling SeatsGoOn _ p.seats _ q.end q.again q.seats _ each.0.lives else by who ps qs each.1) (ne_eqb p.who who isnt)

  abbrev events : (who : ℕ) (before after : List (Post W)) → Each DidIt before after → List (List Event)
  events who before after each = events_by trace_of nature_of faults_of calling first who before after each

  events_here : (who : ℕ) (p q : Post W) (ps qs : List (Post W)) (each : Each DidIt (p ∷ ps) (q ∷ qs)) → p.who ≡ who
      → events who (p ∷ ps) (q ∷ qs) each ≡ events_of_each calling SeatsGoOn _ p.seats _ q.end q.again q.seats _ each.0.lives
  events_here who p q ps qs each is = ap (λ (b : Bool). if b then events_of_each calling SeatsGoOn _ p.seats _ q.end q.again q.seats _ each.0.lives else events who ps qs each.1) (eq-eqb p.who who is)

  events_behind : (who : ℕ) (p q : Post W) (ps qs : List (Post W)) (each : Each DidIt (p ∷ ps) (q ∷ qs)) → (p.who ≡ who → ⊥) → events who (p ∷ ps) (q ∷ qs) each ≡ events who ps qs each.1
  events_behind who p q ps qs each isnt = ap (λ (b : Bool). if b then events_of_each calling SeatsGoOn _ p.seats _ q.end q.again q.seats _ each.0.lives else events who ps qs each.1) (ne_eqb p.who who isnt)

  lens : (before after : List (Post W)) → Each DidIt before after → length after ≡ length before
  lens [] [] each = refl
  lens [] (q ∷ qs) each = absurd each
  lens (p ∷ ps) [] each = absurd each
  lens (p ∷ ps) (q ∷ qs) each = ap suc (lens ps qs each.1)

  turned : (ps : List (Post W)) (p : Post W) (w : ℕ) (l : SeatsOf) → get_elem? (reverse (map seats_in (p ∷ ps))) w ≡ some l
      → ((get_elem? (reverse (map seats_in ps)) w ≡ some l) × (w < length (reverse (map seats_in ps)))) ⊎ ((w ≡ length (reverse (map seats_in ps))) × (p.seats ≡ l))
  turned ps p w l at = at_end (reverse (map seats_in ps)) (seats_in p) l w (sym (ap (λ (x : List SeatsOf). get_elem? x w) (reverse_onto (map seats_in ps) (seats_in p) [])) ∙ at)

  long : (ps : List (Post W)) → length (reverse (map seats_in ps)) ≡ length ps
  long [] = refl
  long (p ∷ ps) = ap (λ (x : List SeatsOf). length x) (reverse_onto (map seats_in ps) (seats_in p) []) ∙ more (reverse (map seats_in ps)) (seats_in p) (length ps) (long ps)
    where
      more : (xs : List SeatsOf) (x : SeatsOf) (n : ℕ) → length xs ≡ n → length (xs ++ x ∷ []) ≡ suc n
      more [] x n e = ap suc e
      more (y ∷ xs) x zero e = absurd (omega (arith, e))
      more (y ∷ xs) x (suc n) e = ap suc (more xs x n (let g : suc (length xs) ≡ suc n = e in omega (arith, g)))

  -- the seats at a place went on by the calls of the worker with the next number
  at_place : SeatsGoOnByLives calling → (before after : List (Post W)) (each : Each DidIt before after) → AreFrom 0 before → (w : ℕ) (l m : SeatsOf)
      → get_elem? (reverse (map seats_in before)) w ≡ some l → get_elem? (reverse (map seats_in after)) w ≡ some m → SeatsGoOn l (by (w + 1) before after each) m
  at_place by_lives [] after each from w l m at_l at_m = absurd (none_there w l at_l)
  at_place by_lives (p ∷ ps) [] each from w l m at_l at_m = absurd each
  at_place by_lives (p ∷ ps) (q ∷ qs) each from w l m at_l at_m =
      let a = turned ps p w l at_l in
      let b = turned qs q w m at_m in
      let ls = long ps in
      let ms = long qs in
      let same = lens ps qs each.1 in
      let number = from.0 in
      ⊎_elim
      (λ (x : (get_elem? (reverse (map seats_in ps)) w ≡ some l) × (w < length (reverse (map seats_in ps)))).
      ⊎_elim
      (λ (y : (get_elem? (reverse (map seats_in qs)) w ≡ some m) × (w < length (reverse (map seats_in qs)))).
      subst (λ (ms : List Made). SeatsGoOn l ms m) (sym (by_behind (w + 1) p q ps qs each (λ (e : p.who ≡ w + 1). let low = x.1 in absurd (omega (arith, e, low, ls, number)))))
      (at_place by_lives ps qs each.1 from.1 w l m x.0 y.0))
      (λ (y : (w ≡ length (reverse (map seats_in qs))) × (q.seats ≡ m)). let low = x.1 in let is = y.0 in absurd (omega (arith, low, is, ls, ms, same)))
      b)
      (λ (x : (w ≡ length (reverse (map seats_in ps))) × (p.seats ≡ l)).
      ⊎_elim
      (λ (y : (get_elem? (reverse (map seats_in qs)) w ≡ some m) × (w < length (reverse (map seats_in qs)))). let low = y.1 in let is = x.0 in absurd (omega (arith, low, is, ls, ms, same)))
      (λ (y : (w ≡ length (reverse (map seats_in qs))) × (q.seats ≡ m)).
      let is = x.0 in
      let here : p.who ≡ w + 1 = omega (arith, is, ls, number) in
      subst (λ (ms : List Made). SeatsGoOn l ms m) (sym (by_here (w + 1) p q ps qs each here))
      (subst (λ (s : SeatsOf). SeatsGoOn s (made_in calling SeatsGoOn _ p.seats _ q.end q.again q.seats _ each.0.lives) m) x.1
      (subst (λ (s : SeatsOf). SeatsGoOn p.seats (made_in calling SeatsGoOn _ p.seats _ q.end q.again q.seats _ each.0.lives) s) y.1 (by_lives _ p.seats _ q.end q.again q.seats _ each.0.lives))))
      b)
      a

  all_made : SeatsGoOnByLives calling → (config : Config) (old new : List W) (closed : ClosedOf) (ended : Ended trace_of nature_of faults_of calling first config old new closed)
      → AllMade ended.worked.tables config.workers (λ who. by who ended.worked.before ended.worked.after ended.worked.worked) (reverse (map seats_in ended.worked.before)) (reverse (map seats_in ended.worked.after))
  all_made by_lives config old new closed ended = record {
    are_new = ended.worked.seats;
    as_many = long ended.worked.after ∙ lens ended.worked.before ended.worked.after ended.worked.worked ∙ sym (long ended.worked.before);
    each = λ w l m at_l at_m. at_place by_lives ended.worked.before ended.worked.after ended.worked.worked ended.worked.numbers w l m at_l at_m;
  }

  of_workers : (n workers : ℕ) (history : List Entry) → n ≡ workers → All (λ (e : Entry). (1 ≤ e.who) × (e.who ≤ n)) history → All (IsOfAWorker workers) history
  of_workers n workers history is all = subst (λ (k : ℕ). All (IsOfAWorker k) history) is all

  suc_of : (who : ℕ) → 1 ≤ who → (w : ℕ) × (who ≡ w + 1)
  suc_of zero low = absurd (omega (arith, low))
  suc_of (suc w) low = (w, omega arith)

  numbered_low : (ps : List (Post W)) (k : ℕ) (p : Post W) → AreFrom 0 ps → get_elem? ps k ≡ some p → p.who ≤ length ps
  numbered_low [] k p from at = absurd (none_there k p at)
  numbered_low (x ∷ ps) zero p from at =
      let is : x.who ≡ p.who = ap (λ (y : Post W). y.who) (some-injective x p at) in
      let number = from.0 in
      omega (arith, is, number)
  numbered_low (x ∷ ps) (suc k) p from at = let low = numbered_low ps k p from.1 at in omega (arith, low)

  abbrev MeantBy : (p q : Post W) → List (List Event) → List Made → Type 0
  MeantBy p q lives calls = AreMeant calling (first p.who (nature_of p.watched).seed) p.seats (trace_of p.watched) q.again q.seats (trace_of q.watched) lives calls

  -- the calls of the worker of a post are meant
  meant_at : AllLivesAreMeant calling → (before after : List (Post W)) (each : Each DidIt before after) → AreFrom 0 before → (k : ℕ) (p q : Post W) → get_elem? before k ≡ some p → get_elem? after k ≡ some q
      → MeantBy p q (events p.who before after each) (by p.who before after each)
  meant_at all [] after each from k p q at_p at_q = absurd (none_there k p at_p)
  meant_at all (x ∷ ps) [] each from k p q at_p at_q = absurd each
  meant_at all (x ∷ ps) (y ∷ qs) each from zero p q at_p at_q =
      let is_p : x ≡ p = some-injective x p at_p in
      let is_q : y ≡ q = some-injective y q at_q in
      subst (λ (z : Post W). MeantBy z q (events z.who (x ∷ ps) (y ∷ qs) each) (by z.who (x ∷ ps) (y ∷ qs) each)) is_p
      (subst (λ (z : Post W). MeantBy x z (events x.who (x ∷ ps) (y ∷ qs) each) (by x.who (x ∷ ps) (y ∷ qs) each)) is_q
      (subst (λ (z : List (List Event) × List Made). MeantBy x y z.0 z.1) (λ i. (sym (events_here x.who x y ps qs each refl) i, sym (by_here x.who x y ps qs each refl) i)) (all _ x.seats _ y.end y.again y.seats _ each.0.lives)))
  meant_at all (x ∷ ps) (y ∷ qs) each from (suc k) p q at_p at_q =
      let low = numbered_low ps k p from.1 at_p in
      let number = from.0 in
      let other : x.who ≡ p.who → ⊥ = λ e. absurd (omega (arith, e, low, number)) in
      subst (λ (z : List (List Event) × List Made). MeantBy p q z.0 z.1) (λ i. (sym (events_behind p.who x y ps qs each other) i, sym (by_behind p.who x y ps qs each other) i))
      (meant_at all ps qs each.1 from.1 k p q at_p at_q)

  pub has_all : SeatsGoOnByLives calling → AllLivesAreMeant calling → EachVmHasOne trace_of nature_of faults_of calling → CallsOnce → DefinitionsOnce → (config : Config) (old new : List W) (closed : ClosedOf) (ended : Ended trace_of nature_of faults_of calling first config old new closed) (vm : ℕ) → vm < length config.vms
      → HasAll trace_of nature_of faults_of calling first config old new closed ended vm
  has_all by_lives all_meant each_has calls_once definitions_once config old new closed ended vm low =
      let has = each_has first config old new closed vm ended low in
      let made : ℕ → List Made = λ who. by who ended.worked.before ended.worked.after ended.worked.worked in
      let lists = reverse (map seats_in ended.worked.after) in
      let all = all_made by_lives config old new closed ended in
      let stores = ended.worked.stores in
      let metrics = ended.worked.metrics in
      let as_many : length lists ≡ config.workers = all.as_many ∙ ended.worked.seats.as_many in
      record {
        one = has;
        calls = λ who from to.
            let s = suc_of who from in
            let is = s.1 in
            subst (λ (k : ℕ). own k has.calls.history ≡ entries_on k vm (made k)) (sym is)
            (calls_once ended.worked.tables config.workers vm s.0 made (reverse (map seats_in ended.worked.before)) lists has.store all (omega (arith, low, stores)) (omega (arith, to, is)) has.calls);
        no_other_calls = of_workers (length lists) config.workers has.calls.history as_many has.calls.no_others;
        definitions = λ who from to.
            let s = suc_of who from in
            let is = s.1 in
            subst (λ (k : ℕ). own k has.asks.history ≡ definitions_by k (asks_on vm (made k))) (sym is)
            (definitions_once ended.worked.tables config.workers vm s.0 made (reverse (map seats_in ended.worked.before)) lists has.metrics all (omega (arith, low, metrics)) (omega (arith, to, is)) has.asks);
        no_other_definitions = of_workers (length lists) config.workers has.asks.history as_many has.asks.no_others;
        meant = meant_at all_meant ended.worked.before ended.worked.after ended.worked.worked ended.worked.numbers;
      }

module _ {W H : Type 0} (trace_of : W → Option (List Passed)) (nature_of : W → Nature) (faults_of : W → ℕ) (calling : Calling H) where
  pub each_once : SeatsGoOnByLives calling → AllLivesAreMeant calling → EachVmHasOne trace_of nature_of faults_of calling → CallsOnce → DefinitionsOnce → EachCallStandsOnce trace_of nature_of faults_of calling
  each_once by_lives all_meant each_has calls_once definitions_once first config old new closed ended vm low =
      has_all trace_of nature_of faults_of calling first by_lives all_meant each_has calls_once definitions_once config old new closed ended vm low

  pub examples : CallsExamples trace_of nature_of faults_of calling
  examples = record {
    second = λ first p q r s worked other two one. by_here trace_of nature_of faults_of calling first 2 p q (r ∷ []) (s ∷ []) (worked, (other, tt)) two;
    first = λ first p q r s worked other two one.
        by_behind trace_of nature_of faults_of calling first 1 p q (r ∷ []) (s ∷ []) (worked, (other, tt)) (λ e. absurd (omega (arith, e, two)))
        ∙ by_here trace_of nature_of faults_of calling first 1 r s [] [] (other, tt) one;
    third = λ first p q r s worked other two one.
        by_behind trace_of nature_of faults_of calling first 3 p q (r ∷ []) (s ∷ []) (worked, (other, tt)) (λ e. absurd (omega (arith, e, two)))
        ∙ by_behind trace_of nature_of faults_of calling first 3 r s [] [] (other, tt) (λ e. absurd (omega (arith, e, one)));
    events_of_second = λ first p q r s worked other two one. events_here trace_of nature_of faults_of calling first 2 p q (r ∷ []) (s ∷ []) (worked, (other, tt)) two;
    events_of_first = λ first p q r s worked other two one.
        events_behind trace_of nature_of faults_of calling first 1 p q (r ∷ []) (s ∷ []) (worked, (other, tt)) (λ e. absurd (omega (arith, e, two)))
        ∙ events_here trace_of nature_of faults_of calling first 1 r s [] [] (other, tt) one;
  }
