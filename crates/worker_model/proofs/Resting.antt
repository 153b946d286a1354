-- After a whole turn a worker is at rest: its turn says so, and that of Stop leaves it as it was.
use Rattle.std.proofs.Common.{◌≡◌, Bool, true, false, List, [], ◌∷◌, Option, refl, ap, sym, ◌∙◌, subst}
use Rattle.filter_host.specs.Called.{Calling}
use Rattle.filter_host.specs.Course.{Course, ends, asks, measures, hears, Met, Reaches}
use Rattle.gate_io.specs.Events.{is_stop}
use Rattle.gate_io.specs.declared.event.Event.{Event}
use Rattle.gate_io.specs.declared.event.Sent.{Sent}
use Rattle.gate_io.specs.declared.passed.Passed.{Passed}
use Rattle.store_model.specs.Made.{Made}
use Rattle.worker_model.specs.Plan.{Plan}
use Rattle.worker_model.specs.Rooms.{next_of}
use Rattle.worker_model.specs.Settling.{is_rest}
use Rattle.worker_model.specs.State.{Standing, rules_of}
use Rattle.worker_model.specs.Steps.{Both}
use Rattle.worker_model.specs.Turn.{Outcome, outcome, turn_by}
use Rattle.worker_model.specs.Turned.{Whole}

abbrev IsAtRest : {H : Type 0} → Both H → Type 0
IsAtRest b = is_rest (next_of b.room) ≡ true

-- where a course ends
abbrev state_at : {H : Type 0} → Both H → Course (Outcome H) → Both H
state_at other (ends end) = end.state
state_at other (asks vm call k) = other
state_at other (measures vm call k) = other
state_at other (hears r k) = other

rest_at : {H : Type 0} (calling : Calling H) (plan : Plan) (stop : Bool) (from to : Both H) (event : Event) (met : List Met) (sent : List Sent) → Reaches (turn_by calling plan stop from event) met (ends (outcome to sent))
    → (stop ≡ false → IsAtRest to) → IsAtRest from → IsAtRest to
rest_at calling plan false from to event met sent h rest before = rest refl
rest_at calling plan true from to event [] sent h rest before = subst IsAtRest (state_is h) before
  where
    state_is : ends (outcome from []) ≡ ends (outcome to sent) → from ≡ to
    state_is e = ap (state_at from) e
rest_at calling plan true from to event (m ∷ met) sent h rest before = absurd h

pub whole_rests : {H S : Type 0} (calling : Calling H) (performs : S → List Made → S → Type 0) (stop : Bool) (s t : S) (old new : Option (List Passed)) (from to : Standing H)
    → Whole calling performs stop s old from to t new → is_rest (next_of from.state.room) ≡ true → is_rest (next_of to.state.room) ≡ true
whole_rests calling performs stop s t old new from to w before =
    rest_at calling (rules_of from.setting) (is_stop w.event.what) from.state to.state w.event w.goes.met w.sent w.goes.reaches (λ no. w.rest (sym w.is_stop ∙ no)) before
