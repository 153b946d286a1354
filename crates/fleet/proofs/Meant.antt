-- The turns of a life are those that its events mean, and its calls those of that meaning.
use Rattle.std.proofs.Common.{◌≡◌, ◌≢◌, ◌∙◌, ℕ, zero, suc, List, [], ◌∷◌, ◌++◌, Option, ap, inl, inr, refl, sym, subst}
use Rattle.std.proofs.lemmas.List.{append-nil}
use Rattle.filter_host.specs.Called.{Calling}
use Rattle.filter_host.specs.Course.{Course, Goes, Met, Reaches, called, calls_in, ends, heard, measured, then_do}
use Rattle.filter_host.specs.Runs.{reaches_join, reaches_part}
use Rattle.fleet.specs.Laws.{LivesAreMeant}
use Rattle.fleet.specs.Lives.{Turns}
use Rattle.fleet.specs.Made.{event_in_turn, events_in_turns, made_in_turn, made_in_turns}
use Rattle.gate_io.specs.Passing.{happened}
use Rattle.gate_io.specs.Reads.{happened-append}
use Rattle.gate_io.specs.Told.{Gains, gains_more, gains_nothing}
use Rattle.gate_io.specs.declared.event.Event.{Event}
use Rattle.gate_io.specs.declared.passed.Passed.{Passed}
use Rattle.gate_io.specs.declared.passed.Passed.TheVariants.{Asked, Gave}
use Rattle.worker_meaning.proofs.Folding.{goes_on}
use Rattle.worker_meaning.specs.Meaning.{Means, Run, last_turn, meaning, means, run}
use Rattle.send_queue.proofs.Deliveries.{delivers_none, delivers-push}
use Rattle.send_queue.specs.Turns.{OneTurn, events_of}
use Rattle.shared_seats.specs.Moving.{SeatsGoOn, seats_nothing, seats_joined}
use Rattle.store_model.specs.Made as store
use Rattle.store_model.specs.Made.{Made}
use Rattle.worker_model.specs.State.{Setting, Standing, rules_of}
use Rattle.worker_model.specs.Turn.{Outcome, outcome}
use Rattle.streams_model.specs.Turn.{turn}
use Rattle.worker_model.specs.Turned.{NoEvent, one_turn}
use Rattle.streams_model.specs.Turned.{Turned, Whole, worker_wants}
use Rattle.worker_model.specs.declared.types.Turn.{Turn}
use Rattle.worker_model.specs.declared.types.Turn.TheVariants.{Went, Stopped, WorldFault, OutOfMemory}

calls_join : (ms ns : List Met) → calls_in (ms ++ ns) ≡ calls_in ms ++ calls_in ns
calls_join [] ns = refl
calls_join (called c ∷ ms) ns = ap (λ (x : List Made). store.called c ∷ x) (calls_join ms ns)
calls_join (measured c ∷ ms) ns = ap (λ (x : List Made). store.measured c ∷ x) (calls_join ms ns)
calls_join (heard h ∷ ms) ns = calls_join ms ns

events_push : (turns : List OneTurn) (turn : OneTurn) → events_of (turns ++ turn ∷ []) ≡ events_of turns ++ turn.event ∷ []
events_push [] turn = refl
events_push (x ∷ turns) turn = ap (λ (es : List Event). x.event ∷ es) (events_push turns turn)

module _ {H S : Type 0} (calling : Calling H) (performs : S → List Made → S → Type 0) (nothing : (s : S) → performs s [] s) (joined : (s t u : S) (a b : List Made) → performs s a t → performs t b u → performs s (a ++ b) u) where
  -- a course, with the calls that were made on the way
  abbrev GoesBy : S → Course (Run H) → Course (Run H) → S → List Made → Type 0
  GoesBy s p q t calls = (goes : Goes performs s p q t) × (calls_in goes.met ≡ calls)

  abbrev last_behind : Event → Run H → Outcome H → Course (Run H)
  last_behind event before end = ends (last_turn before event end)

  -- after the meaning of events, a turn at one more, as far as it came
  goes_more : (from at : Standing H) (events : List Event) (turns : List OneTurn) (event : Event) (left : Course (Outcome H)) (s t u : S) (calls : List Made) → at.setting ≡ from.setting
      → GoesBy s (meaning calling from events) (ends (run at.state turns)) t calls → (w : Goes performs t (turn calling (rules_of at.setting) at.state event) left u)
      → GoesBy s (meaning calling from (events ++ event ∷ [])) (then_do left (last_behind event (run at.state turns))) u (calls ++ calls_in w.met)
  goes_more from at events turns event left s t u calls same m w =
      let plan = rules_of from.setting in
      let before : Run H = run at.state turns in
      let turning : Course (Outcome H) = turn calling plan at.state event in
      let now : Reaches turning w.met left = subst (λ (x : Setting). Reaches (turn calling (rules_of x) at.state event) w.met left) same w.reaches in
      let front : Reaches (then_do (meaning calling from events) (λ (b : Run H). then_do (turn calling plan b.state event) (last_behind event b))) m.0.met (then_do turning (last_behind event before)) =
      reaches_part m.0.met (meaning calling from events) (ends before) (λ (b : Run H). then_do (turn calling plan b.state event) (last_behind event b)) m.0.reaches in
      let rest : Reaches (then_do turning (last_behind event before)) w.met (then_do left (last_behind event before)) = reaches_part w.met turning left (last_behind event before) now in
      let all : Reaches (then_do (meaning calling from events) (λ (b : Run H). then_do (turn calling plan b.state event) (last_behind event b))) (m.0.met ++ w.met) (then_do left (last_behind event before)) =
      reaches_join m.0.met w.met (then_do (meaning calling from events) (λ (b : Run H). then_do (turn calling plan b.state event) (last_behind event b))) (then_do turning (last_behind event before)) (then_do left (last_behind event before)) front rest in (
        record {
          met = m.0.met ++ w.met;
          reaches = subst (λ (p : Course (Run H)). Reaches p (m.0.met ++ w.met) (then_do left (last_behind event before))) (sym (goes_on calling plan from.state events event)) all;
          performed = subst (λ (cs : List Made). performs s cs u) (sym (calls_join m.0.met w.met)) (joined s t u (calls_in m.0.met) (calls_in w.met) m.0.performed w.performed);
        },
        calls_join m.0.met w.met ∙ ap (λ (cs : List Made). cs ++ calls_in w.met) m.1,
      )

  -- turns that are meant, with their events, which were given, and their calls
  record MeantBy (s : S) (old : Option (List Passed)) (from to : Standing H) (t : S) (new : Option (List Passed)) (events : List Event) (calls : List Made) : Type 0 where
    pub all : Means calling performs s old from to t new
    pub events_are : events_of all.turns ≡ events
    pub given : happened all.steps ≡ events
    pub calls_are : calls_in all.goes.met ≡ calls

  meant_nothing : (s : S) (old : Option (List Passed)) (from : Standing H) → MeantBy s old from from s old [] []
  unfolding means
  meant_nothing s old from = record {
    all = record {
      turns = [];
      goes = record { met = []; reaches = refl; performed = nothing s };
      setting_is = refl;
      steps = [];
      told = gains_nothing old;
      delivers = delivers_none from.waiting;
    };
    events_are = refl;
    given = refl;
    calls_are = refl;
  }

  meant_more : (stop : _) (s t u : S) (old mid new : Option (List Passed)) (from at to : Standing H) (events : List Event) (calls : List Made) → MeantBy s old from at t mid events calls
      → (w : Whole calling performs stop t mid at to u new) → to.setting ≡ at.setting → MeantBy s old from to u new (events ++ w.event ∷ []) (calls ++ calls_in w.goes.met)
  meant_more stop s t u old mid new from at to events calls m w same =
      let turns = m.all.turns in
      let one = one_turn w.event w.sent in
      let goes = goes_more from at (events_of turns) turns w.event (ends (outcome to.state w.sent)) s t u calls m.all.setting_is (m.all.goes, m.calls_are) w.goes in
      let on = subst (λ (es : List Event). GoesBy s (meaning calling from es) (ends (run to.state (turns ++ one ∷ []))) u (calls ++ calls_in w.goes.met)) (sym (events_push turns one)) goes in
      let now : happened w.steps ≡ w.event ∷ [] = ap happened w.hands_over.steps_are ∙ ap (λ (es : List Event). w.event ∷ es) w.hands_over.delivered.no_event in
      record {
        all = record {
          turns = turns ++ one ∷ [];
          goes = on.0;
          setting_is = same ∙ m.all.setting_is;
          steps = m.all.steps ++ w.steps;
          told = gains_more old m.all.steps mid w.steps new m.all.told w.told;
          delivers = delivers-push from.waiting turns m.all.steps at.waiting one w.steps to.waiting m.all.delivers w.hands_over;
        };
        events_are = events_push turns one ∙ ap (λ (es : List Event). es ++ w.event ∷ []) m.events_are;
        given = happened-append m.all.steps w.steps ∙ (λ i. m.given i ++ now i);
        calls_are = on.1;
      }

  turns_meant : (n : ℕ) (s : S) (old : Option (List Passed)) (from to : Standing H) (t : S) (new : Option (List Passed)) → (h : Turns calling performs n s old from to t new)
      → MeantBy s old from to t new (events_in_turns calling performs n s old from to t new h) (made_in_turns calling performs n s old from to t new h)
  turns_meant zero s old from to t new h =
      subst (λ (x : Standing H × S × Option (List Passed)). MeantBy s old from x.0 x.1 x.2 [] []) (λ i. (sym h.0 i, sym h.1 i, sym h.2 i)) (meant_nothing s old from)
  turns_meant (suc n) s old from to t new h = meant_more _ s h.1 t old h.2 new from h.0 to _ _ (turns_meant n s old from h.0 h.1 h.2 h.3) h.4 h.5

  -- and the turn of Stop after them
  stop_meant : (end : Turn) → end ≡ Stopped → (s t u : S) (old mid new : Option (List Passed)) (from at to : Standing H) (events : List Event) (calls : List Made) → MeantBy s old from at t mid events calls
      → (h : Turned calling performs t mid at end to u new) → to.setting ≡ at.setting
      → MeantBy s old from to u new (events ++ event_in_turn calling performs end t mid at to u new h) (calls ++ made_in_turn calling performs end t mid at to u new h)
  stop_meant Went stopped s t u old mid new from at to events calls m h same = absurd (cc stopped)
  stop_meant Stopped stopped s t u old mid new from at to events calls m h same = meant_more _ s t u old mid new from at to events calls m h same
  stop_meant WorldFault stopped s t u old mid new from at to events calls m h same = absurd (cc stopped)
  stop_meant OutOfMemory stopped s t u old mid new from at to events calls m h same = absurd (cc stopped)

  -- ---- as far as a life came

  -- events that were given, and calls that their meaning makes first
  record FarBy (s : S) (old : Option (List Passed)) (from : Standing H) (end : Turn) (to : Standing H) (t : S) (new : Option (List Passed)) (events : List Event) (calls : List Made) : Type 0 where
    pub steps : List Passed
    pub told : Gains old steps new
    pub given : happened steps ≡ events
    pub left : Course (Run H)
    pub goes_by : GoesBy s (meaning calling from events) left t calls
    pub whole : end ≢ OutOfMemory → (turns : List OneTurn) × (left ≡ ends (run to.state turns))

  by_events : (s : S) (old : Option (List Passed)) (from to : Standing H) (t : S) (new : Option (List Passed)) (events : List Event) (calls : List Made) → (m : MeantBy s old from to t new events calls)
      → GoesBy s (meaning calling from events) (ends (run to.state m.all.turns)) t calls
  by_events s old from to t new events calls m =
      subst (λ (es : List Event). GoesBy s (meaning calling from es) (ends (run to.state m.all.turns)) t calls) m.events_are (m.all.goes, m.calls_are)

  far_whole : (end : Turn) (s : S) (old : Option (List Passed)) (from to : Standing H) (t : S) (new : Option (List Passed)) (events : List Event) (calls : List Made) → MeantBy s old from to t new events calls
      → FarBy s old from end to t new events calls
  far_whole end s old from to t new events calls m = record {
    steps = m.all.steps;
    told = m.all.told;
    given = m.given;
    left = ends (run to.state m.all.turns);
    goes_by = by_events s old from to t new events calls m;
    whole = λ ran. (m.all.turns, refl);
  }

  -- no event more
  far_none : (end : Turn) (s t u : S) (old mid new : Option (List Passed)) (from at to : Standing H) (events : List Event) (calls : List Made) (steps : List Passed) → MeantBy s old from at t mid events calls
      → NoEvent t mid at steps to u new → happened steps ≡ [] → FarBy s old from end to u new (events ++ []) (calls ++ [])
  far_none end s t u old mid new from at to events calls steps m h none =
      let left : Course (Run H) = ends (run at.state m.all.turns) in
      record {
        steps = m.all.steps ++ steps;
        told = gains_more old m.all.steps mid steps new m.all.told h.told;
        given = happened-append m.all.steps steps ∙ (λ i. m.given i ++ none i);
        left = left;
        goes_by = subst (λ (x : S × List Event × List Made). GoesBy s (meaning calling from x.1) left x.0 x.2) (λ i. (sym h.shared i, sym (append-nil events) i, sym (append-nil calls) i)) (by_events s old from at t mid events calls m);
        whole = λ ran. (m.all.turns, ap (λ (x : Standing H). ends (run x.state m.all.turns)) (sym h.worker));
      }

  -- an event more, in whose turn memory ran out
  far_cut : (s t u : S) (old mid new : Option (List Passed)) (from at to : Standing H) (events : List Event) (calls : List Made) (event : Event) (left : Course (Outcome H)) (taken : List Passed)
      → MeantBy s old from at t mid events calls → (w : Goes performs t (turn calling (rules_of at.setting) at.state event) left u) → Gains mid (Asked (worker_wants at) ∷ Gave event ∷ taken) new → happened taken ≡ []
      → FarBy s old from OutOfMemory to u new (events ++ event ∷ []) (calls ++ calls_in w.met)
  far_cut s t u old mid new from at to events calls event left taken m w told none = record {
    steps = m.all.steps ++ Asked (worker_wants at) ∷ Gave event ∷ taken;
    told = gains_more old m.all.steps mid (Asked (worker_wants at) ∷ Gave event ∷ taken) new m.all.told told;
    given = happened-append m.all.steps (Asked (worker_wants at) ∷ Gave event ∷ taken) ∙ (λ i. m.given i ++ event ∷ none i);
    left = then_do left (last_behind event (run at.state m.all.turns));
    goes_by = goes_more from at events m.all.turns event left s t u calls m.all.setting_is (by_events s old from at t mid events calls m) w;
    whole = λ ran. absurd (ran refl);
  }

  far : (end : Turn) (s t u : S) (old mid new : Option (List Passed)) (from at to : Standing H) (events : List Event) (calls : List Made) → MeantBy s old from at t mid events calls
      → (h : Turned calling performs t mid at end to u new) → to.setting ≡ at.setting
      → FarBy s old from end to u new (events ++ event_in_turn calling performs end t mid at to u new h) (calls ++ made_in_turn calling performs end t mid at to u new h)
  far Went s t u old mid new from at to events calls m h same = far_whole Went s old from to u new _ _ (meant_more _ s t u old mid new from at to events calls m h same)
  far Stopped s t u old mid new from at to events calls m h same = far_whole Stopped s old from to u new _ _ (meant_more _ s t u old mid new from at to events calls m h same)
  far WorldFault s t u old mid new from at to events calls m h same = far_none WorldFault s t u old mid new from at to events calls _ m h refl
  far OutOfMemory s t u old mid new from at to events calls m (inl h) same = far_none OutOfMemory s t u old mid new from at to events calls _ m h refl
  far OutOfMemory s t u old mid new from at to events calls m (inr (inl h)) same = far_cut s t u old mid new from at to events calls h.event h.left [] m h.goes h.told refl
  far OutOfMemory s t u old mid new from at to events calls m (inr (inr h)) same = far_cut s t u old mid new from at to events calls h.event (ends h.end) h.taken m h.goes h.told h.delivered.no_event

pub lives_are_meant : {H : Type 0} (calling : Calling H) → LivesAreMeant calling
lives_are_meant calling s old from end to t new life =
    let before = turns_meant calling SeatsGoOn seats_nothing seats_joined life.count s old from life.before life.at life.mid life.went in
    let stop = λ (stopped : end ≡ Stopped).
    stop_meant calling SeatsGoOn seats_nothing seats_joined end stopped s life.at t old life.mid new from life.before to _ _ before life.last life.setting_is in
    let whole = far calling SeatsGoOn seats_nothing seats_joined end s life.at t old life.mid new from life.before to _ _ before life.last life.setting_is in
    record {
      before_last = before.all;
      events = before.events_are;
      calls = before.calls_are;
      to_stop = λ stopped. (stop stopped).all;
      events_to_stop = λ stopped. (stop stopped).events_are;
      calls_to_stop = λ stopped. (stop stopped).calls_are;
      as_far = record {
        steps = whole.steps;
        told = whole.told;
        given = whole.given;
        left = whole.left;
        goes = whole.goes_by.0;
        calls = whole.goes_by.1;
        whole = whole.whole;
      };
    }
