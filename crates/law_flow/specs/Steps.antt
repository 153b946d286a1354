-- STEPS OF A WORKER that move a direction, or put what was read into it.
use Rattle.std.specs.Prelude.{◌≡◌, ℕ, Bool, List, ◌∷◌}
use Rattle.filter_host.specs.Called.{Called, Calling}
use Rattle.filter_host.specs.Course.{ends, runs_then, Met, Reaches}
use Rattle.exchange.specs.declared.types.Exchange.{Exchange}
use Rattle.exchange.specs.Answering.{with_held}
use Rattle.exchange.specs.Passing.{put_read_items}
use Rattle.filter_chain.specs.declared.item.ChainItem.{ChainItem}
use Rattle.store_model.specs.Program.{Program}
use Rattle.worker_model.specs.Room.{Room}
use Rattle.worker_model.specs.declared.types.Job.{Job}
use Rattle.worker_model.specs.declared.types.Job.TheVariants as jobs
use Rattle.worker_model.specs.declared.types.Next.TheVariants as next
use Rattle.worker_model.specs.Moves.{count_of}
use Rattle.worker_model.specs.Plan.{Plan}
use Rattle.worker_model.specs.Rooms.{on_number}
use Rattle.worker_model.specs.Steps.{Both, both, callback_of, number_of, step}
use Rattle.law_flow.specs.Rooms.{IsAsked, asked_exchange, IsMove, moved_room}

-- how many pairs or bytes the callback is told of
abbrev pub told_count : {response : Bool} {n : ℕ} {x : Exchange} {room : Room} → IsAsked response n x room → ℕ
told_count {response} {n} {x} {room} q = count_of response q.ask.kind q.ask.count (asked_exchange q).place (with_held q.contexts room.hub)

-- the program of the callback
abbrev pub callback_program : {H : Type 0} {response : Bool} {n : ℕ} {x : Exchange} {room : Room} → Calling H → H → IsAsked response n x room → Program (Called H)
callback_program {H} {response} {n} {x} {room} calling host q =
    calling host q.stage.vm (callback_of response q.ask.kind) q.stage.context (told_count q) (number_of q.ask.end) room.hub.moment q.contexts

-- Where the step comes to this end by what it met, the callback came to an end by that; and where it is a move of the law, the step ends in the room
-- after that move.
pub record MoveEnds {H : Type 0} {response : Bool} {n : ℕ} {x : Exchange} {room : Room} (calling : Calling H) (host : H) (q : IsAsked response n x room) (ms : List Met) (b : Both H) : Type 0 where
  pub end : Called H
  pub reached : Reaches (runs_then (callback_program calling host q) ends) ms (ends end)
  pub moves : (count : ℕ) (m : IsMove count end q) → b ≡ both end.host (moved_room m)

-- MOVES AND PUTS ARE STEPS: a worker whose next is a move of the line, and whose lower chain does not move, calls back the stage and goes on so; one whose
-- next job is to put what was read puts it.
abbrev pub MovesAreSteps : Type 0 → Type 0
MovesAreSteps H = (calling : Calling H) (plan : Plan) (response : Bool) (n : ℕ) (x : Exchange) (room : Room) (q : IsAsked response n x room) (host : H) (ms : List Met) (b : Both H)
    → Reaches (step calling plan (next.Move q.on.place) host room) ms (ends b) → MoveEnds calling host q ms b

abbrev pub PutsAreSteps : Type 0 → Type 0
PutsAreSteps H = (calling : Calling H) (plan : Plan) (response : Bool) (n : ℕ) (items : List ChainItem) (later : List Job) (host : H) (room : Room)
    → room.jobs ≡ jobs.Put n response items ∷ later
    → step calling plan next.Work host room ≡ ends (both host (on_number (put_read_items response items) n (record room { jobs = later })))
