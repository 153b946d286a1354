-- WHAT A WORKER DOES BETWEEN MOVES that leaves a direction as it was.
use Rattle.std.specs.Prelude.{◌≡◌, ℕ, Bool, List}
use Rattle.filter_host.specs.Called.{Called, Calling}
use Rattle.filter_host.specs.Course.{ends, runs_then, Met, Reaches}
use Rattle.filter_host.specs.declared.host.Callback.{Callback}
use Rattle.exchange.specs.declared.types.Exchange.{Exchange}
use Rattle.gate_io.specs.declared.event.Event.{Event}
use Rattle.store_model.specs.declared.call.Reply.{Reply}
use Rattle.worker_model.specs.Room.{Room}
use Rattle.worker_model.specs.declared.types.Job.{Job}
use Rattle.worker_model.specs.declared.types.Owner.TheVariants as owns
use Rattle.worker_model.specs.Plan.{Plan}
use Rattle.worker_model.specs.Steps.{Both, take_notice_reply, end_at, tick_root, tells}
use Rattle.worker_model.specs.Turn.{without_sent, room_for_event}
use Rattle.exchange.specs.Passing.{chain_of}
use Rattle.law_chain.specs.Acts.{AreThere}
use Rattle.law_body.specs.Deaths.{AreDropped}
use Rattle.law_flow.specs.Besides.{OthersAreAlien, IsWhole}
use Rattle.law_flow.specs.Elsewhere.{IsBeside}
use Rattle.law_flow.specs.Rooms.{IsOn, Leaves, Meanwhile}

-- THE NEXT TURN BEGINS, a job is taken in hand, a notice was taken, a tick is due, or the exchange of another line is taken off it: that leaves the
-- direction as it was.
pub record JobsLeave : Type 0 where
  pub facing_next : (plan : Plan) (event : Event) (response : Bool) (n : ℕ) (x : Exchange) (room : Room) → IsOn n room x → IsWhole response x room
      → Leaves response n x room x (room_for_event plan event (without_sent room))
  pub in_hand : (later : List Job) (response : Bool) (n : ℕ) (x : Exchange) (room : Room) → IsOn n room x → IsWhole response x room → Leaves response n x room x (record room { jobs = later })
  pub noticing : (vm left : ℕ) (reply : Reply) (response : Bool) (n : ℕ) (x : Exchange) (room : Room) → IsOn n room x → IsWhole response x room
      → Leaves response n x room x (take_notice_reply vm left reply room)
  pub ticking : (vm root : ℕ) (response : Bool) (n : ℕ) (x : Exchange) (room : Room) → IsOn n room x → IsWhole response x room → Leaves response n x room x (tick_root vm root room).1
  pub ending : (place : ℕ) (response : Bool) (n : ℕ) (x : Exchange) (room : Room) (on : IsOn n room x) → OthersAreAlien (chain_of response x) on.place room
      → IsWhole response x room → (place ≡ on.place → ⊥) → Leaves response n x room x (end_at place room)

-- AN EXCHANGE'S END drops what its stages still hold.
abbrev pub EndsDrop : Type 0
EndsDrop = (n : ℕ) (x : Exchange) (room : Room) (on : IsOn n room x) → AreThere room.hub.contexts x.request → AreThere room.hub.contexts x.response
    → AreDropped x (end_at on.place room).hub.contexts

-- A CALLBACK WHOSE ANSWER SAYS NOTHING, such as that of a tick: it is what the law takes a worker to do besides.
abbrev pub TellsAreRuns : Type 0 → Type 0
TellsAreRuns H = (calling : Calling H) (response : Bool) (n count vm : ℕ) (name : Callback) (context first : ℕ) (x : Exchange) (room : Room) → IsOn n room x → (host : H) (ms : List Met) (b : Both H)
    → ((c : Called H) → Reaches (runs_then (calling host vm name context first 0 room.hub.moment room.hub.contexts) ends) ms (ends c) → IsBeside response n count vm owns.Nobody c x room)
    → Reaches (tells calling vm name context first host room) ms (ends b) → (y : Exchange) × Meanwhile response n count x room y b.room
