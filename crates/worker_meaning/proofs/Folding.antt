-- Meanings, turn by turn.
use Rattle.std.proofs.Common.{◌≡◌, ℕ, List, [], ◌∷◌, ◌++◌, Option, refl, sym, ap, ◌∙◌, subst}
use Rattle.filter_host.specs.Called.{Calling}
use Rattle.filter_host.proofs.Once.{once}
use Rattle.filter_host.specs.Course.{Course, ends, asks, measures, hears, then_do, Met, Reaches, calls_in, Goes}
use Rattle.filter_host.specs.Runs.{goes_from, goes_part, reaches_join, reaches_part, then_part}
use Rattle.gate_io.specs.Told.{Gains, gains_more, gains_nothing}
use Rattle.gate_io.specs.declared.event.Event.{Event}
use Rattle.gate_io.specs.declared.passed.Passed.{Passed}
use Rattle.send_queue.proofs.Deliveries.{delivers_none, delivers-push}
use Rattle.send_queue.specs.Turns.{OneTurn, Delivers, HandsOver, events_of}
use Rattle.store_model.specs.Made.{Made}
use Rattle.worker_model.specs.Plan.{Plan}
use Rattle.worker_model.specs.State.{Setting, Standing, rules_of}
use Rattle.worker_model.specs.Steps.{Both}
use Rattle.worker_model.specs.Turn.{Outcome, outcome}
use Rattle.streams_model.specs.Turn.{turn}
use Rattle.worker_model.specs.Turned.{one_turn}
use Rattle.streams_model.specs.Turned.{Whole}
use Rattle.worker_meaning.specs.Laws.{MeaningExamples, MeaningGoesOn, MeaningIsAFunction}
use Rattle.worker_meaning.specs.Meaning.{Means, Run, first_turn, last_turn, meaning, means, run}

-- a part, then a part, then a part
then_then : {A B C : Type 0} (p : Course A) (f : A → Course B) (g : B → Course C) → then_do (then_do p f) g ≡ then_do p (λ a. then_do (f a) g)
then_then (ends a) f g = refl
then_then (asks vm call k) f g = λ i. asks vm call (λ r. then_then (k r) f g i)
then_then (measures vm call k) f g = λ i. measures vm call (λ r. then_then (k r) f g i)
then_then (hears r k) f g = λ i. hears r (λ h. then_then (k h) f g i)

module _ {H : Type 0} (calling : Calling H) (plan : Plan) where
  abbrev behind : Event → Run H → Course (Run H)
  behind event before = then_do (turn calling plan before.state event) (λ end. ends (last_turn before event end))

  abbrev in_front : Event → Outcome H → Run H → Course (Run H)
  in_front event end later = ends (first_turn event end later)

  pub goes_on : (state : Both H) (events : List Event) (event : Event)
      → means calling plan state (events ++ event ∷ [])
      ≡ then_do (means calling plan state events) (λ before. then_do (turn calling plan before.state event) (λ end. ends (last_turn before event end)))
  unfolding means
  goes_on state [] event = refl
  goes_on state (x ∷ events) event =
      (λ i. then_do (turn calling plan state x) (λ end. then_do (goes_on end.state events event i) (in_front x end)))
      ∙ (λ i. then_do (turn calling plan state x) (λ end. (
      then_then (means calling plan end.state events) (behind event) (in_front x end)
      ∙ (λ j. then_do (means calling plan end.state events) (λ before. then_then (turn calling plan before.state event) (λ last. ends (last_turn before event last)) (in_front x end) j))
      ∙ sym (then_then (means calling plan end.state events) (in_front x end) (behind event))) i))
      ∙ sym (then_then (turn calling plan state x) (λ end. then_do (means calling plan end.state events) (in_front x end)) (behind event))

  -- a turn, and then a run
  pub reaches_first : (state : Both H) (event : Event) (events : List Event) (ms ns : List Met) (end : Outcome H) (later : Run H) → Reaches (turn calling plan state event) ms (ends end)
      → Reaches (means calling plan end.state events) ns (ends later) → Reaches (means calling plan state (event ∷ events)) (ms ++ ns) (ends (first_turn event end later))
  unfolding means
  reaches_first state event events ms ns end later one more =
      let rest = λ (x : Outcome H). then_do (means calling plan x.state events) (in_front event x) in
      reaches_join ms ns (means calling plan state (event ∷ events)) (rest end) (ends (first_turn event end later)) (reaches_part ms (turn calling plan state event) (ends end) rest one)
      (reaches_part ns (means calling plan end.state events) (ends later) (in_front event end) more)

pub is_a_function : (H : Type 0) → MeaningIsAFunction H
is_a_function H calling from events ms ns a b one two same = once ms ns (meaning calling from events) a b one two same

pub examples : (H : Type 0) → MeaningExamples H
unfolding means
examples H = record { none = λ calling from. refl; stop = λ calling from now. refl }

events-push : (turns : List OneTurn) (turn : OneTurn) → events_of (turns ++ turn ∷ []) ≡ events_of turns ++ turn.event ∷ []
events-push [] turn = refl
events-push (x ∷ turns) turn = ap (λ (es : List Event). x.event ∷ es) (events-push turns turn)

-- ---- whole turns, one after the other
module _ {H S : Type 0} (calling : Calling H) (performs : S → List Made → S → Type 0) where
  -- no turn as yet
  pub means_nothing : (s : S) (old : Option (List Passed)) (from : Standing H) → performs s [] s → Means calling performs s old from from s old
  unfolding means
  means_nothing s old from nothing = record {
    turns = [];
    goes = record { met = []; reaches = refl; performed = nothing };
    setting_is = refl;
    steps = [];
    told = gains_nothing old;
    delivers = delivers_none from.waiting;
  }

  module _ (joined : (s t u : S) (a b : List Made) → performs s a t → performs t b u → performs s (a ++ b) u) where
    -- a turn, and then a run
    pub goes_first : (plan : Plan) (state : Both H) (event : Event) (events : List Event) (s t u : S) (end : Outcome H) (later : Run H) → Goes performs s (turn calling plan state event) (ends end) t
        → Goes performs t (means calling plan end.state events) (ends later) u → Goes performs s (means calling plan state (event ∷ events)) (ends (first_turn event end later)) u
    unfolding means
    goes_first plan state event events s t u end later one more =
        let rest = λ (x : Outcome H). then_do (means calling plan x.state events) (in_front calling plan event x) in
        then_part joined (in_front calling plan event end) (goes_part rest one) more

    -- one more
    pub means_more : (stop : _) (s t u : S) (old mid new : Option (List Passed)) (from at to : Standing H) → Means calling performs s old from at t mid → Whole calling performs stop t mid at to u new
        → to.setting ≡ at.setting → Means calling performs s old from to u new
    means_more stop s t u old mid new from at to m w same =
        let plan = rules_of from.setting in
        let before = run at.state m.turns in
        let end = outcome to.state w.sent in
        let one = one_turn w.event w.sent in
        let goes : Goes performs t (turn calling plan at.state w.event) (ends end) u =
        subst (λ (x : Setting). Goes performs t (turn calling (rules_of x) at.state w.event) (ends end) u) m.setting_is w.goes in
        let front : Goes performs s (then_do (meaning calling from (events_of m.turns)) (behind calling plan w.event)) (behind calling plan w.event before) t =
        goes_part (behind calling plan w.event) m.goes in
        let all : Goes performs s (then_do (meaning calling from (events_of m.turns)) (behind calling plan w.event)) (ends (last_turn before w.event end)) u =
        then_part joined (λ (x : Outcome H). ends (last_turn before w.event x)) front goes in
        let on : Goes performs s (meaning calling from (events_of m.turns ++ w.event ∷ [])) (ends (run to.state (m.turns ++ one ∷ []))) u =
        goes_from (goes_on calling plan from.state (events_of m.turns) w.event) all in
        record {
          turns = m.turns ++ one ∷ [];
          goes = subst (λ (es : List Event). Goes performs s (meaning calling from es) (ends (run to.state (m.turns ++ one ∷ []))) u) (sym (events-push m.turns one)) on;
          setting_is = same ∙ m.setting_is;
          steps = m.steps ++ w.steps;
          told = gains_more old m.steps mid w.steps new m.told w.told;
          delivers = delivers-push from.waiting m.turns m.steps at.waiting one w.steps to.waiting m.delivers w.hands_over;
        }
