-- Calls that are alone are those of one thread.
use Rattle.std.proofs.Common.{◌≡◌, ◌==◌, ◌∙◌, ℕ, zero, suc, ◌-◌, ◌<◌, ◌≤◌, Bool, true, false, cond, if◌then◌else◌, List, [], ◌∷◌, ◌++◌, length, map, reverse, get_or, All, Option, refl, ap, sym, subst, arith, ⊎_elim, eq-eqb, ne_eqb, length-set, length-append, get_or-set_same, get_or-set_other}
use Rattle.filter_host.specs.Called.{Calling}
use Rattle.std.specs.List.{filter}
use Rattle.std.proofs.lemmas.Bool.{cases_eq}
use Rattle.std.proofs.lemmas.List.{get_or_append_left, get_or-append_right}
use mathlib.Core.Option.{some, some-injective, some-ne-none}
use lib.ListN.{get_elem?, length-map}
use Rattle.filter_host.specs.Course.{calls_in}
use Rattle.gate_io.specs.Nature.{Nature}
use Rattle.gate_io.specs.declared.event.Event.{Event}
use Rattle.gate_io.specs.declared.passed.Passed.{Passed}
use Rattle.send_queue.specs.Turns.{OneTurn, events_of}
use Rattle.shared_seats.specs.Moving.{SeatsGoOn, seats_joined, seats_nothing}
use Rattle.shared_seats.specs.Seats.{SeatsOf, TablesOf}
use Rattle.shared_seats.specs.Workers.{HasOneHistory, new_seats}
use Rattle.shared_store.specs.Fresh.{fresh_stores}
use Rattle.shared_store.specs.Moving.{there}
use Rattle.shared_store.specs.Workers.{new_seat}
use Rattle.shared_store.specs.declared.closed.ClosedStore.{ClosedStore}
use Rattle.store_model.specs.History.{IsLegal, IsLegalFrom, entry, own, reply_in, replies_from, store_acts}
use Rattle.store_model.specs.Made.{Made, MadeCall, asks_among, called, calls_among, entries_on, made, measured}
use Rattle.store_model.specs.Sequential.{Performs, Stores, reply_at, store_at, stores_after}
use Rattle.store_model.specs.Store.{Store, applied, empty_store}
use Rattle.store_model.specs.declared.call.Call.TheVariants.{Dequeue}
use Rattle.store_model.specs.declared.call.Reply.TheVariants.{Absent, Empty}
use Rattle.store_model.specs.declared.entry.Entry.{Entry}
use Rattle.fleet.specs.Alone.{AloneExamples, AreAlone, AreWithin, OneWorkerIsAlone, OneWorkerIsOfOneThread, RunsAloneAreOfOneThread, own_stores}
use Rattle.fleet.specs.Made.{made_in, standing_at_end}
use Rattle.fleet.specs.Moves.{seats_in}
use Rattle.fleet.specs.declared.post.Post.{Post}
use Rattle.fleet.proofs.Calls.{lives_made}
use Rattle.fleet.proofs.Counting.{has_one}
use Rattle.fleet.proofs.Meant.{lives_are_meant}
use Rattle.fleet.proofs.OneLife.{one_life}

parts : {A : Type 0} (x y : A) (xs ys : List A) → x ∷ xs ≡ y ∷ ys → (x ≡ y) × (xs ≡ ys)
parts x y xs ys e = (cc e, cc e)

-- ---- the stores as they are at first

fresh_count : (n : ℕ) → length (fresh_stores n) ≡ n
fresh_count zero = refl
fresh_count (suc n) =
    let all = length-append (fresh_stores n) (empty_store n ∷ []) in
    let less = fresh_count n in
    omega (arith, all, less)

fresh_at : (n v : ℕ) → v < n → get_or (fresh_stores n) v (empty_store v) ≡ empty_store v
fresh_at zero v low = absurd (omega (arith, low))
fresh_at (suc n) v low =
    let count = fresh_count n in
    let none : n - n ≡ 0 = omega arith in
    ⊎_elim
    (λ (same : v ≡ n).
    subst (λ (k : ℕ). get_or (fresh_stores n ++ empty_store n ∷ []) k (empty_store k) ≡ empty_store k) (sym same)
    (get_or-append_right (fresh_stores n) (empty_store n ∷ []) n n (empty_store n) count (omega arith) ∙ ap (λ (k : ℕ). get_or (empty_store n ∷ []) k (empty_store n)) none))
    (λ (apart : v ≡ n → ⊥).
    let less : v < n = below n v low apart in
    get_or_append_left (fresh_stores n) (empty_store n ∷ []) (empty_store v) v (omega (arith, less, count)) ∙ fresh_at n v less)
    (cases_eq v n)
  where
    below : (n v : ℕ) → v < suc n → (v ≡ n → ⊥) → v < n
    below n v low apart = omega (arith, low, apart)

-- ---- one call more

-- the entries on a store, one of them in front where the call is on it
entries_if : (who v : ℕ) (m : MadeCall) (ms : List Made) (b : Bool) → (m.vm == v) ≡ b → entries_on who v (called m ∷ ms) ≡ (if b then entry who m.call m.reply ∷ entries_on who v ms else entries_on who v ms)
entries_if who v m ms b is =
    ap (λ (c : Bool). map (λ (x : MadeCall). entry who x.call x.reply) (cond c (m ∷ filter (λ (x : MadeCall). x.vm == v) (calls_among ms)) (filter (λ (x : MadeCall). x.vm == v) (calls_among ms)))) is
    ∙ split b
  where
    split : (b : Bool)
        → map (λ (x : MadeCall). entry who x.call x.reply) (cond b (m ∷ filter (λ (x : MadeCall). x.vm == v) (calls_among ms)) (filter (λ (x : MadeCall). x.vm == v) (calls_among ms)))
        ≡ (if b then entry who m.call m.reply ∷ entries_on who v ms else entries_on who v ms)
    split true = refl
    split false = refl

-- a legal history of one entry and others: its reply is the store's, and the others are legal after it
legal_parts : (s : Store) (e : Entry) (h : List Entry) → IsLegalFrom store_acts s (e ∷ h) → (e.reply ≡ (applied s e.who e.call).reply) × IsLegalFrom store_acts (applied s e.who e.call).store h
legal_parts s e h legal = parts e.reply (applied s e.who e.call).reply (map reply_in h) (replies_from store_acts (applied s e.who e.call).store h) legal

abbrev AllLegal : Stores → List Made → Type 0
AllLegal s ms = (v : ℕ) → v < length s.stores → IsLegalFrom store_acts (store_at s v) (entries_on s.who v ms)

legal_here : (s : Stores) (m : MadeCall) (ms : List Made) (v : ℕ) → m.vm ≡ v → IsLegalFrom store_acts (store_at s v) (entries_on s.who v (called m ∷ ms))
    → (m.reply ≡ reply_at s v m.call) × IsLegalFrom store_acts (applied (store_at s v) s.who m.call).store (entries_on s.who v ms)
legal_here s m ms v same legal =
    legal_parts (store_at s v) (entry s.who m.call m.reply) (entries_on s.who v ms) (subst (IsLegalFrom store_acts (store_at s v)) (entries_if s.who v m ms true (eq-eqb m.vm v same)) legal)

-- after a call the other calls on each store are legal from what it left
legal_behind : (s : Stores) (m : MadeCall) (ms : List Made) → m.vm < length s.stores → AllLegal s (called m ∷ ms) → AllLegal (stores_after s m.vm m.call) ms
legal_behind s m ms within legal v low =
    let next = stores_after s m.vm m.call in
    let count : length next.stores ≡ length s.stores = length-set s.stores m.vm (applied (store_at s m.vm) s.who m.call).store in
    let low_then : v < length s.stores = omega (arith, low, count) in
    ⊎_elim
    (λ (here : m.vm ≡ v).
    let after : store_at next v ≡ (applied (store_at s v) s.who m.call).store =
    subst (λ (k : ℕ). store_at (stores_after s k m.call) v ≡ (applied (store_at s v) s.who m.call).store) (sym here)
    (get_or-set_same s.stores v (applied (store_at s v) s.who m.call).store (empty_store v) low_then) in
    subst (λ (x : Store). IsLegalFrom store_acts x (entries_on s.who v ms)) (sym after) (legal_here s m ms v here (legal v low_then)).1)
    (λ (apart : m.vm ≡ v → ⊥).
    let after : store_at next v ≡ store_at s v = get_or-set_other s.stores m.vm v (applied (store_at s m.vm) s.who m.call).store (empty_store v) (λ e. apart (sym e)) in
    subst (λ (x : Store). IsLegalFrom store_acts x (entries_on s.who v ms)) (sym after)
    (subst (IsLegalFrom store_acts (store_at s v)) (entries_if s.who v m ms false (ne_eqb m.vm v apart)) (legal v low_then)))
    (cases_eq m.vm v)

within_still : (n k : ℕ) (calls : List MadeCall) → n ≡ k → AreWithin n calls → AreWithin k calls
within_still n k calls same h = subst (λ (x : ℕ). AreWithin x calls) same h

-- ---- all calls

parts_perform : (ms : List Made) (s : Stores) → asks_among ms ≡ [] → AreWithin (length s.stores) (calls_among ms) → AllLegal s ms → (t : Stores) × Performs s ms t
parts_perform [] s no_asks within legal = (s, refl)
parts_perform (measured m ∷ ms) s no_asks within legal = absurd (cc no_asks)
parts_perform (called m ∷ ms) s no_asks within legal =
    let next = stores_after s m.vm m.call in
    let count : length next.stores ≡ length s.stores = length-set s.stores m.vm (applied (store_at s m.vm) s.who m.call).store in
    let rest = parts_perform ms next no_asks (within_still (length s.stores) (length next.stores) (calls_among ms) (sym count) within.1) (legal_behind s m ms within.0 legal) in
    (rest.0, ((legal_here s m ms m.vm refl (legal m.vm within.0)).0, rest.1))

alone_performs : (who n : ℕ) (ms : List Made) → AreAlone who n ms → (t : Stores) × Performs (own_stores who n) ms t
alone_performs who n ms a =
    let count = fresh_count n in
    parts_perform ms (own_stores who n) a.no_asks (within_still n (length (fresh_stores n)) (calls_among ms) (sym count) a.within)
    (λ v low.
    let low_n : v < n = omega (arith, low, count) in
    subst (λ (x : Store). IsLegalFrom store_acts x (entries_on who v ms)) (sym (fresh_at n v low_n)) (a.legal v low_n))

pub runs_alone : {H : Type 0} (calling : Calling H) → RunsAloneAreOfOneThread calling
runs_alone calling who n s old from to t new life a =
    let all = alone_performs who n (calls_in life.goes.met) a in
    record {
      shared = all.0;
      run = record {
        turns = life.turns;
        goes = record { met = life.goes.met; reaches = life.goes.reaches; performed = all.1 };
        setting_is = life.setting_is;
        steps = life.steps;
        told = life.told;
        delivers = life.delivers;
      };
      turns_are = refl;
      calls_are = refl;
    }

-- ---- a fleet of one worker

-- where all entries are of one worker, they are its own
all_own : (h : List Entry) → All (λ (e : Entry). (1 ≤ e.who) × (e.who ≤ 1)) h → own 1 h ≡ h
all_own [] all = refl
all_own (e ∷ h) all =
    let first = all 0 e (omega arith) in
    let is : e.who ≡ 1 = (let low = first.0 in let high = first.1 in omega (arith, low, high)) in
    ap (λ (b : Bool). cond b (e ∷ own 1 h) (own 1 h)) (eq-eqb e.who 1 is) ∙ ap (λ (l : List Entry). e ∷ l) (all_own h (λ k d low. all (suc k) d (omega (arith, low))))

map_there : {A B : Type 0} (f : A → B) (l : List A) (k : ℕ) (x : A) → get_elem? l k ≡ some x → get_elem? (map f l) k ≡ some (f x)
map_there f [] zero x at = absurd (some-ne-none x (sym at))
map_there f [] (suc k) x at = absurd (some-ne-none x (sym at))
map_there f (y ∷ l) zero x at = ap (λ z. some (f z)) (some-injective y x at)
map_there f (y ∷ l) (suc k) x at = map_there f l k x at

-- a store's one history has the calls of its one worker alone
one_history : (tables : TablesOf) (t : SeatsOf) (calls : List Made) (closed : ClosedStore) (vm : ℕ) → SeatsGoOn (new_seats 1 1 tables) calls t → vm < length tables.stores → HasOneHistory vm (t ∷ []) closed
    → IsLegal vm (entries_on 1 vm calls)
one_history tables t calls closed vm goes low h =
    let table = there tables.stores vm low in
    let count : length (map (new_seat 1 1) tables.stores) ≡ length tables.stores = length-map tables.stores (new_seat 1 1) in
    let as_many = goes.stores.as_many in
    let seat = there t.stores vm (omega (arith, low, count, as_many)) in
    let went = goes.stores.each vm (new_seat 1 1 table.0) seat.0 (map_there (new_seat 1 1) tables.stores vm table.0 table.1) seat.1 in
    let seen = h.seen 0 t seat.0 refl seat.1 in
    subst (IsLegal vm) (sym (all_own h.history h.no_others) ∙ seen.1 ∙ went.entries) h.legal

pub one_worker : {W H : Type 0} (trace_of : W → Option (List Passed)) (nature_of : W → Nature) (faults_of : W → ℕ) (calling : Calling H) → OneWorkerIsAlone trace_of nature_of faults_of calling
one_worker {W} trace_of nature_of faults_of calling first config old new closed ended p q one before_is after_is h vm low =
    let tables = ended.worked.tables in
    let seats : p.seats ≡ new_seats 1 1 tables =
    ended.worked.seats.first p.seats (ap (λ (l : List (Post W)). get_elem? (reverse (map seats_in l)) 0) before_is) ∙ ap (λ (k : ℕ). new_seats 1 k tables) one in
    let has = has_one trace_of nature_of faults_of calling first config old new closed vm ended low in
    let count = ended.worked.stores in
    one_history tables q.seats (made_in calling SeatsGoOn _ p.seats _ q.end q.again q.seats _ h.lives) has.store vm
    (subst (λ (s : SeatsOf). SeatsGoOn s (made_in calling SeatsGoOn _ p.seats _ q.end q.again q.seats _ h.lives) q.seats) seats (lives_made calling SeatsGoOn seats_nothing seats_joined _ _ _ _ _ _ _ h.lives))
    (omega (arith, low, count)) (subst (λ (l : List (Post W)). HasOneHistory vm (reverse (map seats_in l)) has.store) after_is has.calls)

pub one_thread : {W H : Type 0} (trace_of : W → Option (List Passed)) (nature_of : W → Nature) (faults_of : W → ℕ) (calling : Calling H) → OneWorkerIsOfOneThread trace_of nature_of faults_of calling
one_thread trace_of nature_of faults_of calling first config old new closed ended p q one before_is after_is stopped again h within no_asks =
    let n = length config.vms in
    let from = first p.who (nature_of p.watched).seed in
    let calls : List Made = made_in calling SeatsGoOn from p.seats (trace_of p.watched) q.end q.again q.seats (trace_of q.watched) h.lives in
    let lived = one_life calling SeatsGoOn from p.seats (trace_of p.watched) q.end q.again q.seats (trace_of q.watched) stopped again h.lives in
    let to = standing_at_end calling SeatsGoOn from p.seats (trace_of p.watched) q.end q.again q.seats (trace_of q.watched) h.lives in
    let meant = lives_are_meant calling p.seats (trace_of p.watched) from q.end to q.seats (trace_of q.watched) lived.life in
    let life = meant.to_stop stopped in
    let same : calls_in life.goes.met ≡ calls = meant.calls_to_stop stopped ∙ lived.calls_are in
    let alone : AreAlone 1 n calls =
    record { within = within; legal = λ vm low. one_worker trace_of nature_of faults_of calling first config old new closed ended p q one before_is after_is h vm low; no_asks = no_asks } in
    let thread = runs_alone calling 1 n p.seats (trace_of p.watched) from to q.seats (trace_of q.watched) life (subst (AreAlone 1 n) (sym same) alone) in
    record {
      shared = thread.shared;
      run = thread.run;
      events_are = ap (λ (turns : List OneTurn). events_of turns ∷ []) thread.turns_are ∙ ap (λ (es : List Event). es ∷ []) (meant.events_to_stop stopped) ∙ lived.events_are;
      calls_are = thread.calls_are ∙ same;
    }

-- ---- worked examples

pub examples : AloneExamples
examples = record {
  none = λ who n. record { within = tt; legal = λ vm low. refl; no_asks = refl };
  absent = record { within = (omega arith, tt); legal = λ vm low. absent_at vm low; no_asks = refl };
  outside = λ h. absurd (let low = h.within.0 in omega (arith, low));
  of_another = λ h. absurd (let legal : Empty ∷ [] ≡ Absent ∷ [] = h.legal 1 (omega arith) in cc legal);
  with_metrics = λ h. absurd (let none = h.no_asks in cc);
}
  where
    absent_at : (vm : ℕ) → vm < 2 → IsLegal vm (entries_on 1 vm (made 1 (Dequeue 5) Absent ∷ []))
    absent_at zero low = refl
    absent_at (suc zero) low = refl
    absent_at (suc (suc vm)) low = absurd (omega (arith, low))
