-- What is done about callouts leaves a direction as it was, and who is dead.
use Rattle.std.proofs.Common.{◌≡◌, ℕ, Bool, true, false, refl}
use Rattle.std.specs.Prelude.{Option, None, Some}
use Rattle.callouts.specs.Steps.{After}
use Rattle.callouts.specs.declared.types.CallStep.{CallStep}
use Rattle.contexts.specs.declared.parts.CallAnswer.{CallAnswer}
use Rattle.contexts.specs.declared.parts.Own.{Own}
use Rattle.contexts.specs.declared.parts.Request.{Request}
use Rattle.contexts.specs.Stages.{own_at, held_in}
use Rattle.exchange.specs.declared.types.Exchange.{Exchange}
use Rattle.exchange.specs.Passing.{chain_of}
use Rattle.worker_model.specs.Calls.{with_call_step, take_after, close_call, put_call_answer}
use Rattle.worker_model.specs.Calls as callouts
use Rattle.worker_model.specs.Room.{Room}
use Rattle.worker_model.specs.Rooms.{begin_call, with_contexts}
use Rattle.law_chain.proofs.Holding.{hold_own, there_own}
use Rattle.law_flow.specs.Besides.{IsWhole}
use Rattle.law_flow.specs.Rooms.{IsOn, Leaves}
use Rattle.law_flow.proofs.Besides.{alike}
use Rattle.law_flow.proofs.DeadRooms.{RoomGood, Kept}
use Rattle.law_flow.proofs.DyingRooms.{Same}

-- ---- a direction

-- one begins
pub begins_call : (q : Request) (response : Bool) (n : ℕ) (x : Exchange) (room : Room) → IsOn n room x → IsWhole response x room → Leaves response n x room x (begin_call q room)
begins_call q response n x room on whole = alike response n x room (begin_call q room) on whole refl refl

-- something came of its line, or its reader said something
pub takes_after : (a : After) (response : Bool) (n : ℕ) (x : Exchange) (room : Room) → IsOn n room x → IsWhole response x room → Leaves response n x room x (take_after a room)
takes_after a response n x room on whole = by_step a.next
  where
    by_step : (o : Option CallStep) → Leaves response n x room x (with_call_step o (record room { calls = a.calls }))
    by_step None = alike response n x room (record room { calls = a.calls }) on whole refl refl
    by_step (Some step) = alike response n x room (with_call_step (Some step) (record room { calls = a.calls })) on whole refl refl

-- it is under way no more
pub closes_call : (id : ℕ) (response : Bool) (n : ℕ) (x : Exchange) (room : Room) → IsOn n room x → IsWhole response x room → Leaves response n x room x (close_call id room)
closes_call id response n x room on whole = alike response n x room (close_call id room) on whole refl refl

-- What a context has of an answer is no stage's.
answer_held : (a : Option CallAnswer) (o : Own) (r : Bool) → held_in r (Some (record o { answer = a })) ≡ held_in r (Some o)
answer_held a o true = refl
answer_held a o false = refl

pub puts_answer : (a : Option CallAnswer) (vm e : ℕ) (response : Bool) (n : ℕ) (x : Exchange) (room : Room) → IsOn n room x → IsWhole response x room
    → Leaves response n x room x (put_call_answer a vm e room)
puts_answer a vm e response n x room on whole = by_own (own_at room.hub.contexts vm e) refl
  where
    by_own : (o : Option Own) → own_at room.hub.contexts vm e ≡ o → Leaves response n x room x (with_contexts (callouts.with_call_answer a o vm e room.hub.contexts) room)
    by_own None is = alike response n x room (with_contexts (callouts.with_call_answer a None vm e room.hub.contexts) room) on whole refl refl
    by_own (Some o) is = record {
      on = record { place = on.place; line = on.line; stands = on.stands; at = on.at; number = on.number; exchange = on.exchange };
      chain = refl;
      holds = hold_own room.hub.contexts vm e o (record o { answer = a }) (chain_of response x) is (answer_held a o);
      there = there_own room.hub.contexts vm e o (record o { answer = a }) (chain_of response x) is whole;
    }

-- ---- who is dead

pub after_same : (a : After) (room : Room) → Same room (take_after a room)
after_same a room = by_step a.next
  where
    by_step : (o : Option CallStep) → Same room (with_call_step o (record room { calls = a.calls }))
    by_step None = refl
    by_step (Some step) = refl

pub after_kept : (a : After) (room : Room) → RoomGood room → Kept room (take_after a room)
after_kept a room good = by_step a.next
  where
    by_step : (o : Option CallStep) → Kept room (with_call_step o (record room { calls = a.calls }))
    by_step None = record { good = good; grows = λ w d. d }
    by_step (Some step) = record { good = good; grows = λ w d. d }

pub close_kept : (id : ℕ) (room : Room) → RoomGood room → Kept room (close_call id room)
close_kept id room good = record { good = good; grows = λ w d. d }

pub answer_kept : (a : Option CallAnswer) (vm e : ℕ) (room : Room) → RoomGood room → Kept room (put_call_answer a vm e room)
answer_kept a vm e room good = record { good = good; grows = λ w d. d }
