-- BODIES PASS THROUGH WORKERS.
use Rattle.std.specs.Prelude.{◌≡◌, ◌<◌, ◌≤◌, ℕ, suc, Bool, List, [], ◌∷◌, ◌++◌, length, drop, Option, None}
use Rattle.filter_host.specs.Called.{Called}
use Rattle.exchange.specs.declared.types.Exchange.{Exchange}
use Rattle.exchange.specs.Passing.{chain_of, put_read_items, apply_action}
use Rattle.exchange.specs.Passing as passing
use Rattle.filter_chain.specs.declared.item.Ask.{Ask}
use Rattle.filter_chain.specs.declared.item.ChainItem.{ChainItem}
use Rattle.filter_chain.specs.Flow.{flow}
use Rattle.filter_chain.specs.Items.{item_bytes}
use Rattle.worker_model.specs.Room.{Room}
use Rattle.worker_model.specs.Rooms.{on_number}
use Rattle.worker_model.specs.Steps.{action_of}
use Rattle.law_body.specs.Deeds.{Deed, comes, calls, answers, resumes, lets, turns, standing_of, left_by, AreDeeds, AreWritten, done_all}
use Rattle.law_chain.specs.PassThrough.{bare_all, bare_in, Thinner, IsInOrder, IsNew, PassesThrough}
use Rattle.law_chain.specs.Sound.{IsSound}
use Rattle.law_flow.specs.Rooms.{IsOn, running_of, Wakes, Meanwhile, IsAsked, IsMove, affected, moved_room, Run, run_deeds, run_items, run_buffers}

-- what a worker does are deeds of the law on exchanges: from the exchange and what all lines have in common to those after it
pub record AreTheDeeds {H : Type 0} {response : Bool} {n count : ℕ} {x y : Exchange} {room after : Room} (run : Run H response n count x room y after) : Type 0 where
  pub are : AreDeeds response n count (run_deeds run) (running_of None x room)
  pub last : done_all response n (run_deeds run) (running_of None x room) ≡ running_of None y after
  -- what leaves the chain by a deed of the exchange it writes, each item of it (of what is sent between such deeds nothing is said)
  pub written : IsInOrder (run_items run) → AreWritten response n (run_deeds run) (running_of None x room)

-- THE PASSED BYTES OF A DIRECTION of the exchange on a line, whatever its worker does meanwhile that is among this: moves of the direction, whose
-- callbacks for bodies and trailers return Continue; puts of what was read; and what else resumes a stage of the direction or leaves that as it was.
abbrev pub WorkersPassBodies : Type 0 → Type 0
WorkersPassBodies H = (response : Bool) (n count : ℕ) (x y : Exchange) (room after : Room) (run : Run H response n count x room y after)
    → IsNew (standing_of response (running_of None x room)) → count ≤ length (chain_of response x) → AreTheDeeds run

abbrev pub LastStagesPass : Type 0 → Type 0
LastStagesPass H = (response : Bool) (n k : ℕ) (x y : Exchange) (room after : Room) (run : Run H response n (suc k) x room y after)
    → IsNew (standing_of response (running_of None x room)) → k < length (chain_of response x) → IsInOrder (run_items run)
    → PassesThrough (run_items run) (run_buffers k run) (left_by response n (run_deeds run) (running_of None x room))
    (flow after.hub.contexts (drop (suc k) (chain_of response y))) (chain_of response y)

abbrev pub UnchangedPass : Type 0 → Type 0
UnchangedPass H = (response : Bool) (n : ℕ) (x y : Exchange) (room after : Room) (run : Run H response n 0 x room y after)
    → IsNew (standing_of response (running_of None x room)) → IsInOrder (run_items run)
    → PassesThrough (run_items run) (item_bytes (run_items run)) (left_by response n (run_deeds run) (running_of None x room))
    (flow after.hub.contexts (chain_of response y)) (chain_of response y)

-- From any state between steps in which the direction is sound: what left and what is held and waits then is what was held and waited, and what was to pass;
-- in order; what left by its deeds the exchange writes; and the direction is sound then, so that the law goes on.
pub record RunGoesOn {H : Type 0} {response : Bool} {n count : ℕ} {x y : Exchange} {room after : Room} (run : Run H response n count x room y after) (whole : List ℕ) : Type 0 where
  pub bytes : item_bytes (left_by response n (run_deeds run) (running_of None x room)) ++ flow after.hub.contexts (drop count (chain_of response y))
      ≡ flow room.hub.contexts (drop count (chain_of response x)) ++ whole
  pub order : Thinner (bare_in (chain_of response x) ++ bare_all (run_items run)) (bare_all (left_by response n (run_deeds run) (running_of None x room)) ++ bare_in (chain_of response y))
  pub written : IsInOrder (bare_in (chain_of response x) ++ bare_all (run_items run)) → AreWritten response n (run_deeds run) (running_of None x room)
  pub sound : IsSound count (standing_of response (running_of None y after))

pub record RunsGoOn (H : Type 0) : Type 0 where
  pub last_stage : (response : Bool) (n k : ℕ) (x y : Exchange) (room after : Room) (run : Run H response n (suc k) x room y after) → IsSound (suc k) (standing_of response (running_of None x room))
      → RunGoesOn run (run_buffers k run)
  pub unchanged : (response : Bool) (n : ℕ) (x y : Exchange) (room after : Room) (run : Run H response n 0 x room y after) → IsSound 0 (standing_of response (running_of None x room))
      → RunGoesOn run (item_bytes (run_items run))

-- a stage goes on, or something else becomes of the exchange
abbrev pub IsIdle : Deed → Type 0
IsIdle (comes item) = ⊥
IsIdle (calls after) = ⊥
IsIdle (answers value) = ⊥
IsIdle (resumes vm context) = Unit {0}
IsIdle (lets k) = ⊥
IsIdle (turns y after) = Unit {0}

abbrev pub AreIdle : List Deed → Type 0
AreIdle [] = Unit {0}
AreIdle (deed ∷ deeds) = IsIdle deed × AreIdle deeds

-- what resumes stages of the direction, or leaves that as it was, is a run by which nothing is put and no callback of the direction comes
pub record IsIdleRun {H : Type 0} {response : Bool} {n count : ℕ} {x y : Exchange} {room after : Room} (run : Run H response n count x room y after) : Type 0 where
  pub items : run_items run ≡ []
  pub buffers : (k : ℕ) → run_buffers k run ≡ []
  pub deeds : AreIdle (run_deeds run)

abbrev pub MeanwhileRuns : Type 0 → Type 0
MeanwhileRuns H = (response : Bool) (n count : ℕ) (x y : Exchange) (room after : Room) → Meanwhile response n count x room y after
    → (run : Run H response n count x room y after) × IsIdleRun run

-- WHAT THE EXCHANGE SENDS IS WHAT IS SENT after its own moves, its puts, and where a stage of it goes on: the lines then have in common what it left, but for
-- what host calls are told of it.
pub record OwnPartsSend (H : Type 0) : Type 0 where
  pub moves : (response : Bool) (n count : ℕ) (x : Exchange) (room : Room) (c : Called H) (q : IsAsked response n x room) (m : IsMove count c q)
      → (moved_room m).hub.sent ≡ (apply_action response q.ask.stage (action_of m.value) n m.behind (affected c q).hub).1.sent
  pub puts : (response : Bool) (n : ℕ) (items : List ChainItem) (x : Exchange) (room : Room) → IsOn n room x
      → (on_number (put_read_items response items) n room).hub.sent ≡ (put_read_items response items n x room.hub).1.sent
  pub wakes : (response : Bool) (n count : ℕ) (due : Option Ask) (x : Exchange) (room : Room) (y : Exchange) (after : Room) (w : Wakes response n count due x room y after)
      → after.hub.sent ≡ (passing.resume_context w.vm w.context response n x room.hub).1.sent
