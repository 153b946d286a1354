-- What the world of a worker receives.
use Rattle.std.proofs.Common.{◌≡◌, ℕ, Bool, true, false, List, [], ◌∷◌, ◌++◌, map, Option, None, Some, refl, ap, sym, ◌∙◌, subst, inl, inr}
use Rattle.filter_host.specs.Called.{Calling}
use Rattle.std.specs.Prelude.{◌==◌, if◌then◌else◌}
use Rattle.std.proofs.lemmas.List.{append-nil}
use Rattle.std.proofs.lemmas.Bool.{cases_Bool, OnTrue_at}
use Rattle.filter_host.specs.Course.{Course, ends, asks, measures, hears, Met, Reaches}
use Rattle.gate_io.specs.Events.{is_stop}
use Rattle.gate_io.specs.Passing.{asked, happened, received}
use Rattle.gate_io.specs.Reads.{received-append}
use Rattle.gate_io.specs.declared.event.Event.{Event}
use Rattle.gate_io.specs.declared.event.Sent.{Sent}
use Rattle.gate_io.specs.declared.event.What.{What}
use Rattle.gate_io.specs.declared.event.What.TheVariants.{Opened, Bytes, End, Gone, Joined, Refused, Room, Clock, Stop}
use Rattle.gate_io.specs.declared.passed.Passed.{Passed}
use Rattle.gate_io.specs.declared.passed.Passed.TheVariants.{Asked, Gave, Took}
use Rattle.gate_io.specs.declared.passed.Wants.{Wants}
use Rattle.worker_meaning.specs.Meaning.{meaning, run}
use Rattle.send_queue.proofs.Deliveries.{happened-of_turns, hands_over, stands_still}
use Rattle.send_queue.proofs.Offers.{marks_at-solid}
use Rattle.send_queue.specs.Cleared.{ended_by, without_ended}
use Rattle.send_queue.specs.Delivery.{Delivered, NeverShort, Prompt, StopsAtShort, solid}
use Rattle.send_queue.specs.Places.{marks_at}
use Rattle.send_queue.specs.Turns.{OneTurn, Delivers, HandsOver, events_of, to_go}
use Rattle.send_queue.specs.declared.place.Destination.{Destination}
use Rattle.replay_script.specs.Prints.{Told, tell}
use Rattle.worker_model.specs.Plan.{Plan}
use Rattle.worker_model.specs.Steps.{Both}
use Rattle.worker_model.specs.Turn.{Outcome}
use Rattle.streams_model.specs.Turn.{turn, turn_by}
use Rattle.worker_model.specs.Turned.{one_turn}
use Rattle.streams_model.specs.Turned.{worker_wants}
use Rattle.command_replay.specs.Delivered.{DeliveredExamples, InItsWorld, Step, events_in, met_in, placed_step, sent_in, sent_of, steps_of, turns_in}
use Rattle.command_replay.specs.Replay.{Setup, first_worker}

-- at Stop it sends nothing
abbrev IsQuiet : Step → Type 0
IsQuiet x = is_stop x.event.what ≡ true → x.sent ≡ []

abbrev pub AreQuiet : List Step → Type 0
AreQuiet [] = Unit {0}
AreQuiet (x ∷ steps) = IsQuiet x × AreQuiet steps

quiet_if : (who : ℕ) (b : Bool) (x : Step) (steps : List Step) → IsQuiet x → AreQuiet steps → AreQuiet (if b then x ∷ steps else steps)
quiet_if who true x steps one more = (one, more)
quiet_if who false x steps one more = more

quiet_of : (who : ℕ) (steps : List Step) → AreQuiet steps → AreQuiet (steps_of who steps)
quiet_of who [] quiet = tt
quiet_of who (x ∷ steps) quiet = quiet_if who (x.who == who) x (steps_of who steps) quiet.0 (quiet_of who steps quiet.1)

abbrev sent_at : {H : Type 0} → Course (Outcome H) → List Sent
sent_at (ends end) = end.sent
sent_at (asks vm call k) = []
sent_at (measures vm call k) = []
sent_at (hears r k) = []

quiet_by : {H : Type 0} (calling : Calling H) (plan : Plan) (stop : Bool) (state : Both H) (event : Event) (met : List Met) (end : Outcome H) → stop ≡ true
    → Reaches (turn_by calling plan stop state event) met (ends end) → end.sent ≡ []
quiet_by calling plan true state event [] end is h = sym (ap sent_at h)
quiet_by calling plan true state event (m ∷ met) end is h = absurd h
quiet_by calling plan false state event met end is h = absurd (cc is)

pub quiet_turn : {H : Type 0} (calling : Calling H) (plan : Plan) (state : Both H) (event : Event) (met : List Met) (end : Outcome H) → Reaches (turn calling plan state event) met (ends end)
    → is_stop event.what ≡ true → end.sent ≡ []
quiet_turn calling plan state event met end h is = quiet_by calling plan (is_stop event.what) state event met end is h

-- ---- a turn whose sends were all taken

took_all : (sent : List Sent) → received (map Took sent) ≡ sent
took_all [] = refl
took_all (x ∷ sent) = ap (λ (l : List Sent). x ∷ l) (took_all sent)

took_no_event : (sent : List Sent) → happened (map Took sent) ≡ []
took_no_event [] = refl
took_no_event (x ∷ sent) = took_no_event sent

took_not_asked : (sent : List Sent) → asked (map Took sent) ≡ []
took_not_asked [] = refl
took_not_asked (x ∷ sent) = took_not_asked sent

none_cleared : (ended : Option Destination) → without_ended ended [] ≡ []
none_cleared None = refl
none_cleared (Some place) = refl

goes_all : (turn : OneTurn) → to_go [] turn ≡ turn.sent
goes_all turn = ap (λ (l : List Sent). l ++ turn.sent) (none_cleared (ended_by turn.event.what))

abbrev passed_at : Wants → Event → List Sent → List Passed
passed_at wants event sent = Asked wants ∷ Gave event ∷ map Took (solid sent)

took_stops : (sent : List Sent) → StopsAtShort (map Took sent)
took_stops [] = tt
took_stops (s ∷ sent) = took_stops sent

took_never_short : (sent : List Sent) → NeverShort (map Took sent)
took_never_short [] = λ place h. h
took_never_short (s ∷ sent) = took_never_short sent

took_whole : (sent : List Sent) → Delivered sent (map Took (solid sent)) []
took_whole sent = record {
  goes_on = λ place. append-nil (marks_at place (received (map Took (solid sent)))) ∙ ap (marks_at place) (took_all (solid sent)) ∙ marks_at-solid place sent;
  stops = took_stops (solid sent);
  waits_short = λ place h. absurd (took_never_short (solid sent) place h);
  no_event = took_no_event (solid sent);
  not_asked = took_not_asked (solid sent);
}

took_promptly : (sent : List Sent) → Prompt [] sent (map Took (solid sent)) []
took_promptly sent = record {
  only_short = λ place none. inl refl;
  whole = λ none never. (took_all (solid sent), refl);
}

stopped_turn : (wants : Wants) (event : Event) (sent : List Sent) → event.what ≡ Stop → sent ≡ [] → HandsOver [] (one_turn event sent) (passed_at wants event sent) []
stopped_turn wants event sent is none = subst (λ (l : List Sent). HandsOver [] (one_turn event l) (passed_at wants event l) []) (sym none) (stands_still [] event wants is)

went_turn : (wants : Wants) (event : Event) (sent : List Sent) → is_stop event.what ≡ false → HandsOver [] (one_turn event sent) (passed_at wants event sent) []
went_turn wants event sent goes_on =
    let all : sent ≡ to_go [] (one_turn event sent) = sym (goes_all (one_turn event sent)) in
    hands_over [] (one_turn event sent) wants (map Took (solid sent)) [] goes_on (subst (λ (l : List Sent). Delivered l (map Took (solid sent)) []) all (took_whole sent))
    (subst (λ (l : List Sent). Prompt [] l (map Took (solid sent)) []) all (took_promptly sent))

is_the_stop : (what : What) → is_stop what ≡ true → what ≡ Stop
is_the_stop (Opened line) h = absurd (cc h)
is_the_stop (Bytes line side bytes) h = absurd (cc h)
is_the_stop (End line side) h = absurd (cc h)
is_the_stop (Gone line side) h = absurd (cc h)
is_the_stop (Joined line) h = absurd (cc h)
is_the_stop (Refused line) h = absurd (cc h)
is_the_stop (Room line side) h = absurd (cc h)
is_the_stop Clock h = absurd (cc h)
is_the_stop Stop h = refl

one_delivered : (wants : Wants) (x : Step) → IsQuiet x → HandsOver [] (one_turn x.event x.sent) (passed_at wants x.event x.sent) []
one_delivered wants x quiet = elim (cases_Bool (is_stop x.event.what)) [
  | inl stop ↦ stopped_turn wants x.event x.sent (is_the_stop x.event.what stop) (quiet stop)
  | inr goes_on ↦ went_turn wants x.event x.sent goes_on
]

-- ---- all turns of a worker

abbrev passed_in : Wants → List Step → List Passed
passed_in wants [] = []
passed_in wants (x ∷ steps) = passed_at wants x.event x.sent ++ passed_in wants steps

all_delivered : (wants : Wants) (steps : List Step) → AreQuiet steps → Delivers [] (turns_in steps) (passed_in wants steps) []
all_delivered wants [] quiet = (refl, refl)
all_delivered wants (x ∷ steps) quiet =
    (passed_at wants x.event x.sent, passed_in wants steps, [], refl, one_delivered wants x quiet.0, all_delivered wants steps quiet.1)

events_are : (steps : List Step) → events_of (turns_in steps) ≡ events_in steps
events_are [] = refl
events_are (x ∷ steps) = ap (λ (l : List Event). x.event ∷ l) (events_are steps)

abbrev solid_in : List Step → List Sent
solid_in [] = []
solid_in (x ∷ steps) = solid x.sent ++ solid_in steps

received_in : (wants : Wants) (steps : List Step) → received (passed_in wants steps) ≡ solid_in steps
received_in wants [] = refl
received_in wants (x ∷ steps) =
    received-append (passed_at wants x.event x.sent) (passed_in wants steps)
    ∙ (λ i. took_all (solid x.sent) i ++ received_in wants steps i)

-- the part of a worker

told_if : (who w : ℕ) (b : Bool) → (w == who) ≡ b → (xs : List Sent) (more : List Told) → sent_of who (tell w xs ++ more) ≡ (if b then xs ++ sent_of who more else sent_of who more)
told_if who w true is [] more = refl
told_if who w true is (x ∷ xs) more =
    ap (λ (b : Bool). if b then x ∷ sent_of who (tell w xs ++ more) else sent_of who (tell w xs ++ more)) is
    ∙ ap (λ (l : List Sent). x ∷ l) (told_if who w true is xs more)
told_if who w false is [] more = refl
told_if who w false is (x ∷ xs) more =
    ap (λ (b : Bool). if b then x ∷ sent_of who (tell w xs ++ more) else sent_of who (tell w xs ++ more)) is
    ∙ told_if who w false is xs more

solid_if : (b : Bool) (x : Step) (steps : List Step) → solid_in (if b then x ∷ steps else steps) ≡ (if b then solid x.sent ++ solid_in steps else solid_in steps)
solid_if true x steps = refl
solid_if false x steps = refl

part_of : (who : ℕ) (steps : List Step) → sent_of who (sent_in steps) ≡ solid_in (steps_of who steps)
part_of who [] = refl
part_of who (x ∷ steps) =
    told_if who x.who (x.who == who) refl (solid x.sent) (sent_in steps)
    ∙ ap (λ (l : List Sent). if x.who == who then solid x.sent ++ l else l) (part_of who steps)
    ∙ sym (solid_if (x.who == who) x (steps_of who steps))

-- what a worker's turns send is what its world receives
pub in_its_world : {H : Type 0} (setup : Setup H) (who : ℕ) (steps : List Step) (sent : List Told) → sent ≡ sent_in steps → AreQuiet steps
    → ((state : Both H) × Reaches (meaning setup.calling (first_worker setup who) (events_in (steps_of who steps))) (met_in (steps_of who steps)) (ends (run state (turns_in (steps_of who steps)))))
    → InItsWorld setup who (steps_of who steps) (sent_of who sent)
in_its_world setup who steps sent is quiet means =
    let mine = steps_of who steps in
    let wants = worker_wants (first_worker setup who) in
    let delivers = all_delivered wants mine (quiet_of who steps quiet) in
    record {
      state = means.0;
      means = means.1;
      passed = passed_in wants mine;
      happened_is = happened-of_turns [] (turns_in mine) (passed_in wants mine) [] delivers ∙ events_are mine;
      delivers = delivers;
      received_is = received_in wants mine ∙ sym (part_of who steps) ∙ ap (sent_of who) (sym is);
    }

-- ---- worked examples

idle_world : {H : Type 0} (setup : Setup H) (who : ℕ) (sent : List Sent) → InItsWorld setup who [] sent → sent ≡ []
idle_world setup who sent w = sym w.received_is ∙ ap received w.delivers.0

stopped_world : (event : Event) (passed : List Passed) → is_stop event.what ≡ true → Delivers [] (one_turn event [] ∷ []) passed [] → received passed ≡ []
stopped_world event passed is d =
    let h = d.4 in
    let still = OnTrue_at is h.stopped in
    ap received d.3
    ∙ received-append d.0 d.1
    ∙ (λ i. received (h.steps_are i) ++ received (d.5.0 i))
    ∙ ap (λ (l : List Passed). received l ++ []) still.1

pub examples : (H : Type 0) → DeliveredExamples H
examples H = record {
  of_first = refl;
  of_second = refl;
  of_third = refl;
  idle = λ setup who sent w. idle_world setup who sent w;
  stopped = λ setup who now sent w. sym w.received_is ∙ stopped_world _ w.passed refl w.delivers;
  nothing = λ setup sent m. m.sent_is ∙ none_sent m.steps m.placed_are;
}
  where
    none_sent : (steps : List Step) → map placed_step steps ≡ [] → sent_in steps ≡ []
    none_sent [] is = refl
    none_sent (x ∷ steps) is = absurd (cc is)
