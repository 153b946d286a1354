-- WHAT A WORKER DOES, as one direction of the exchange on a line sees that.
use Rattle.std.specs.Prelude.{◌≡◌, ℕ, Bool, false, List, [], ◌∷◌, ◌++◌, map, Option, None, Some, slice_get, slice_set}
use Rattle.contexts.specs.declared.parts.Contexts.{Contexts}
use Rattle.contexts.specs.declared.parts.Effect.{Effect}
use Rattle.filter_host.specs.Called.{Called}
use Rattle.filter_host.specs.declared.host.CallbackEnd.TheVariants as call_ends
use Rattle.exchange.specs.declared.types.Exchange.{Exchange}
use Rattle.exchange.specs.Answering.{with_held}
use Rattle.exchange.specs.Passing.{chain_of, with_chain, put_read_items, apply_action}
use Rattle.exchange.specs.Passing as passing
use Rattle.filter_chain.specs.declared.stage.Stage.{Stage}
use Rattle.filter_chain.specs.declared.item.Ask.{Ask}
use Rattle.filter_chain.specs.declared.item.Asking.TheVariants.{Asks}
use Rattle.filter_chain.specs.declared.item.ChainItem.{ChainItem}
use Rattle.filter_chain.specs.Chains.{asked}
use Rattle.worker_model.specs.Room.{Room}
use Rattle.worker_model.specs.declared.types.Line.{Line}
use Rattle.worker_model.specs.declared.types.Owner.{Owner}
use Rattle.worker_model.specs.declared.types.Owner.TheVariants as owns
use Rattle.worker_model.specs.Moves.{asks_response}
use Rattle.worker_model.specs.Rooms.{place_in, place_of, with_lines, with_contexts, room_with_sent, on_number, on_context, apply_effect, effects_of, without_effects}
use Rattle.worker_model.specs.Steps.{action_of}
use Rattle.law_chain.specs.Acts.{HoldSame, AreThere, IsCall, buffer_called}
use Rattle.law_body.specs.Deeds.{Deed, comes, calls, answers, resumes, turns, Running, IsDeed, AreDeeds}

-- the exchange on the line of a number
pub record IsOn (n : ℕ) (room : Room) (x : Exchange) : Type 0 where
  pub place : ℕ
  pub line : Line
  pub stands : place_in n room.lines ≡ Some place
  pub at : slice_get room.lines place ≡ Some line
  pub number : line.number ≡ n
  pub exchange : line.exchange ≡ Some x

abbrev pub running_of : Option Ask → Exchange → Room → Running
running_of due x room = record { due = due; exchange = x; hub = room.hub }

-- ---- what else a worker does

-- it leaves the direction as it was: its chain, and what the stages of that hold (whatever is sent)
pub record Leaves (response : Bool) (n : ℕ) (x : Exchange) (room : Room) (y : Exchange) (after : Room) : Type 0 where
  pub on : IsOn n after y
  pub chain : chain_of response y ≡ chain_of response x
  pub holds : HoldSame room.hub.contexts after.hub.contexts (chain_of response x)
  pub there : AreThere after.hub.contexts (chain_of response x)

-- it resumes a stage of the direction
pub record Wakes (response : Bool) (n count : ℕ) (due : Option Ask) (x : Exchange) (room : Room) (y : Exchange) (after : Room) : Type 0 where
  pub on : IsOn n room x
  pub vm : ℕ
  pub context : ℕ
  pub line : place_of vm context room.lines ≡ place_in n room.lines
  pub deed : IsDeed response count (resumes vm context) (running_of due x room)
  pub exchange : y ≡ (passing.resume_context vm context response n x room.hub).0
  pub room_is : after ≡ on_context (passing.resume_context vm context response) vm context room

pub data Other (response : Bool) (n count : ℕ) (due : Option Ask) (x : Exchange) (room : Room) (y : Exchange) (after : Room) : Type 0 where
  wakes : Wakes response n count due x room y after → Other response n count due x room y after
  leaves : Leaves response n x room y after → Other response n count due x room y after

-- these, one after the other
pub data Meanwhile (response : Bool) (n count : ℕ) : Exchange → Room → Exchange → Room → Type 0 where
  nothing : (x : Exchange) (room : Room) → Meanwhile response n count x room x room
  other : {x y z : Exchange} {room mid after : Room} → Other response n count None x room y mid → Meanwhile response n count y mid z after → Meanwhile response n count x room z after

-- the effects of a callback, one after the other
abbrev pub Others : Bool → ℕ → ℕ → Option Ask → ℕ → Owner → List Effect → Exchange → Room → Exchange → Type 0
Others response n count due vm own [] x room z = (z ≡ x) × IsOn n room x
Others response n count due vm own (e ∷ es) x room z =
    (y : Exchange) × Other response n count due x room y (apply_effect vm own e.context e.what room)
    × Others response n count due vm own es y (apply_effect vm own e.context e.what room) z

-- ---- a move: a stage is asked, its callback runs and ends so, its effects are done, and its action is put in force

-- a stage was asked: the chain is this then, and the contexts are these
abbrev pub asked_room : ℕ → Line → Exchange → Contexts → Room → Room
asked_room place line x h room = with_lines room (slice_set room.lines place (record line { exchange = Some x }), with_held h room.hub)

-- its callback ended, and its effects are still to be done
abbrev pub quiet_room : {H : Type 0} → Called H → Room → Room
quiet_room c room = without_effects (room_with_sent c.lines (with_contexts c.contexts room))

-- what is asked next of the direction, and of which stage
pub record IsAsked (response : Bool) (n : ℕ) (x : Exchange) (room : Room) : Type 0 where
  pub on : IsOn n room x
  pub direction : asks_response x ≡ response
  pub ask : Ask
  pub stages : List Stage
  pub contexts : Contexts
  pub asks : asked room.hub.contexts (chain_of response x) ≡ (Asks ask, stages, contexts)
  pub stage : Stage
  pub at : slice_get stages ask.stage ≡ Some stage

-- the room and the exchange then, and the room after the callback
abbrev pub asked_exchange : {response : Bool} {n : ℕ} {x : Exchange} {room : Room} → IsAsked response n x room → Exchange
asked_exchange {response} {n} {x} {room} q = with_chain response q.stages x

abbrev pub question : {response : Bool} {n : ℕ} {x : Exchange} {room : Room} → IsAsked response n x room → Room
question {response} {n} {x} {room} q = asked_room q.on.place q.on.line (with_chain response q.stages x) q.contexts room

abbrev pub stage_own : {response : Bool} {n : ℕ} {x : Exchange} {room : Room} → IsAsked response n x room → Owner
stage_own {response} {n} {x} {room} q = owns.Stage q.stage.context response

-- A move of the direction. The callback returned; it left the buffers of the stages from this count on as they were; its effects resume stages of the
-- direction, or leave it as it was; and what comes of its action is a deed of the law, so it is Continue where the callback was not for the head.
pub record IsMove {H : Type 0} {response : Bool} {n : ℕ} {x : Exchange} {room : Room} (count : ℕ) (c : Called H) (q : IsAsked response n x room) : Type 0 where
  pub runs : (x.has_ended ≡ false) × (x.is_answered ≡ false)
  -- what the callback did
  pub value : Option ℕ
  pub returned : c.end ≡ call_ends.Returned value
  pub call : IsCall count c.contexts (asked room.hub.contexts (chain_of response x))
  -- its effects, and its action
  pub behind : Exchange
  pub effects : Others response n count (Some q.ask) q.stage.vm (stage_own q) c.contexts.effects (asked_exchange q) (quiet_room c (question q)) behind
  pub answer : IsDeed response count (answers (action_of value)) (running_of (Some q.ask) behind (effects_of q.stage.vm (stage_own q) c.contexts.effects (quiet_room c (question q))))

-- the room after the effects, and after the move
abbrev pub affected : {H : Type 0} {response : Bool} {n : ℕ} {x : Exchange} {room : Room} → Called H → IsAsked response n x room → Room
affected c q = effects_of q.stage.vm (stage_own q) c.contexts.effects (quiet_room c (question q))

abbrev pub moved_exchange : {H : Type 0} {response : Bool} {n : ℕ} {x : Exchange} {room : Room} {count : ℕ} {c : Called H} {q : IsAsked response n x room} → IsMove count c q → Exchange
moved_exchange {H} {response} {n} {x} {room} {count} {c} {q} m = (apply_action response q.ask.stage (action_of m.value) n m.behind (affected c q).hub).0

abbrev pub moved_room : {H : Type 0} {response : Bool} {n : ℕ} {x : Exchange} {room : Room} {count : ℕ} {c : Called H} {q : IsAsked response n x room} → IsMove count c q → Room
moved_room {H} {response} {n} {x} {room} {count} {c} {q} m = on_number (apply_action response q.ask.stage (action_of m.value)) n (affected c q)

-- ---- items that were read are put into the chain

pub record IsPut (response : Bool) (n count : ℕ) (items : List ChainItem) (x : Exchange) (room : Room) : Type 0 where
  pub on : IsOn n room x
  pub unanswered : x.is_answered ≡ false
  pub deeds : AreDeeds response n count (map comes items) (running_of None x room)

-- ---- one after the other

pub data Part (H : Type 0) (response : Bool) (n count : ℕ) (x : Exchange) (room : Room) : Exchange → Room → Type 0 where
  moves : (c : Called H) (q : IsAsked response n x room) (m : IsMove count c q) → Part H response n count x room (moved_exchange m) (moved_room m)
  puts : (items : List ChainItem) → IsPut response n count items x room
      → Part H response n count x room (put_read_items response items n x room.hub).0 (on_number (put_read_items response items) n room)
  others : (y : Exchange) (after : Room) → Other response n count None x room y after → Part H response n count x room y after

pub data Run (H : Type 0) (response : Bool) (n count : ℕ) : Exchange → Room → Exchange → Room → Type 0 where
  rests : (x : Exchange) (room : Room) → Run H response n count x room x room
  goes : {x y z : Exchange} {room mid after : Room} → Part H response n count x room y mid → Run H response n count y mid z after → Run H response n count x room z after

-- the deeds that they are
abbrev pub other_deeds : {response : Bool} {n count : ℕ} {due : Option Ask} {x : Exchange} {room : Room} {y : Exchange} {after : Room} → Other response n count due x room y after → List Deed
other_deeds {response} {n} {count} {due} {x} {room} {y} {after} (wakes w) = resumes w.vm w.context ∷ turns y after.hub ∷ []
other_deeds {response} {n} {count} {due} {x} {room} {y} {after} (leaves l) = turns y after.hub ∷ []

abbrev pub effect_deeds : (response : Bool) (n count : ℕ) (due : Option Ask) (vm : ℕ) (own : Owner) (es : List Effect) (x : Exchange) (room : Room) (z : Exchange)
    → Others response n count due vm own es x room z → List Deed
effect_deeds response n count due vm own [] x room z are = []
effect_deeds response n count due vm own (e ∷ es) x room z are = other_deeds are.1 ++ effect_deeds response n count due vm own es are.0 (apply_effect vm own e.context e.what room) z are.2

abbrev pub part_deeds : {H : Type 0} {response : Bool} {n count : ℕ} {x : Exchange} {room : Room} {y : Exchange} {after : Room} → Part H response n count x room y after → List Deed
part_deeds {H} {response} {n} {count} {x} {room} (moves c q m) =
    calls (quiet_room c (question q)).hub
    ∷ effect_deeds response n count (Some q.ask) q.stage.vm (stage_own q) c.contexts.effects (asked_exchange q) (quiet_room c (question q)) m.behind m.effects
    ++ answers (action_of m.value) ∷ turns (moved_exchange m) (moved_room m).hub ∷ []
part_deeds {H} {response} {n} {count} {x} {room} (puts items is) = map comes items ++ turns (put_read_items response items n x room.hub).0 (on_number (put_read_items response items) n room).hub ∷ []
part_deeds (others y after is) = other_deeds is

abbrev pub run_deeds : {H : Type 0} {response : Bool} {n count : ℕ} {x y : Exchange} {room after : Room} → Run H response n count x room y after → List Deed
run_deeds (rests x room) = []
run_deeds (goes part run) = part_deeds part ++ run_deeds run

-- what was read, and what the body callbacks of the stage at a place left
abbrev pub part_items : {H : Type 0} {response : Bool} {n count : ℕ} {x : Exchange} {room : Room} {y : Exchange} {after : Room} → Part H response n count x room y after → List ChainItem
part_items (moves c q m) = []
part_items (puts items is) = items
part_items (others y after is) = []

abbrev pub run_items : {H : Type 0} {response : Bool} {n count : ℕ} {x y : Exchange} {room after : Room} → Run H response n count x room y after → List ChainItem
run_items (rests x room) = []
run_items (goes part run) = part_items part ++ run_items run

abbrev pub part_buffers : {H : Type 0} {response : Bool} {n count : ℕ} {x : Exchange} {room : Room} {y : Exchange} {after : Room} → ℕ → Part H response n count x room y after → List ℕ
part_buffers {H} {response} {n} {count} {x} {room} k (moves c q m) = buffer_called k c.contexts (asked room.hub.contexts (chain_of response x))
part_buffers k (puts items is) = []
part_buffers k (others y after is) = []

abbrev pub run_buffers : {H : Type 0} {response : Bool} {n count : ℕ} {x y : Exchange} {room after : Room} → ℕ → Run H response n count x room y after → List ℕ
run_buffers k (rests x room) = []
run_buffers k (goes part run) = part_buffers k part ++ run_buffers k run
