-- BODIES PASS THROUGH TURNS: over all steps of a worker, in turns one after the other.
use Rattle.std.specs.Prelude.{◌≡◌, ◌≤◌, ℕ, suc, Bool, List, [], ◌∷◌, ◌++◌, length, drop, None}
use Rattle.filter_host.specs.Called.{Called, Calling}
use Rattle.filter_host.specs.Course.{ends, runs_then, Met, Reaches}
use Rattle.exchange.specs.declared.types.Exchange.{Exchange}
use Rattle.exchange.specs.Passing.{chain_of}
use Rattle.filter_chain.specs.declared.item.ChainItem.{ChainItem}
use Rattle.filter_chain.specs.Chains.{asked}
use Rattle.filter_chain.specs.Flow.{flow}
use Rattle.filter_chain.specs.Items.{item_bytes}
use Rattle.gate_io.specs.declared.event.Event.{Event}
use Rattle.worker_model.specs.declared.types.Job.{Job}
use Rattle.worker_model.specs.declared.types.Job.TheVariants as jobs
use Rattle.worker_model.specs.declared.types.Next.{Next}
use Rattle.worker_model.specs.declared.types.Next.TheVariants as next
use Rattle.worker_model.specs.Plan.{Plan}
use Rattle.worker_model.specs.Rooms.{next_of}
use Rattle.worker_model.specs.Steps.{Both, both, step}
use Rattle.worker_model.specs.Turn.{without_sent, room_for_event}
use Rattle.law_flow.specs.Besides.{IsWhole}
use Rattle.law_body.specs.Deeds.{Deed, turns, standing_of, left_by, buffers_by}
use Rattle.law_chain.specs.Acts.{buffer_called}
use Rattle.law_chain.specs.PassThrough.{IsInOrder, IsNew, PassesThrough}
use Rattle.law_chain.specs.Sound.{IsSound}
use Rattle.law_flow.specs.Rooms.{IsOn, running_of, IsAsked, IsMove, IsPut, moves, puts, part_deeds, Run, run_deeds, run_items, run_buffers}
use Rattle.law_flow.specs.Stepping.{in_hand, MayBeside}
use Rattle.law_flow.specs.Steps.{callback_program}
use Rattle.law_flow.specs.Workers.{AreIdle, AreTheDeeds, RunGoesOn}

-- What a step may be, and the items that it puts into the chain of the direction: a move of the direction, each end of whose callback is a move of the
-- law; a put of what was read; or a step beside.
pub data MayStep {H : Type 0} (calling : Calling H) (response : Bool) (n count : ℕ) (x : Exchange) (b : Both H) (ms : List Met) : Next → List ChainItem → Type 0 where
  moves_own : (q : IsAsked response n x b.room) → ((c : Called H) → Reaches (runs_then (callback_program calling b.host q) ends) ms (ends c) → IsMove count c q)
      → MayStep calling response n count x b ms (next.Move q.on.place) []
  puts_own : (items : List ChainItem) (later : List Job) → b.room.jobs ≡ jobs.Put n response items ∷ later → IsPut response n count items x (in_hand later b.room)
      → MayStep calling response n count x b ms next.Work items
  is_beside : (nx : Next) → MayBeside calling response n count x b ms nx → MayStep calling response n count x b ms nx []

-- STEPS OF A WORKER from one state to another, each that which is next, and the turns between them; with the exchange that is on the line at first, and
-- the items that are put into the chain of the direction.
pub data Steps {H : Type 0} (calling : Calling H) (plan : Plan) (response : Bool) (n count : ℕ) : Exchange → Both H → List ChainItem → Both H → Type 0 where
  no_step : (x : Exchange) (b : Both H) → Steps calling plan response n count x b [] b
  one_step : (x : Exchange) (b m e : Both H) (items more : List ChainItem) (ms : List Met) → IsOn n b.room x → IsWhole response x b.room
      → MayStep calling response n count x b ms (next_of b.room) items → Reaches (step calling plan (next_of b.room) b.host b.room) ms (ends m)
      → ((y : Exchange) → IsOn n m.room y → Steps calling plan response n count y m more e) → Steps calling plan response n count x b (items ++ more) e
  next_turn : (x : Exchange) (b e : Both H) (items : List ChainItem) (event : Event) → IsOn n b.room x → IsWhole response x b.room
      → Steps calling plan response n count x (both b.host (room_for_event plan event (without_sent b.room))) items e → Steps calling plan response n count x b items e

-- ---- the deeds that these steps are

-- Of a move: what the callback that ended so was, its effects, and its action; of a put: the job is taken in hand, and what was read comes; of a step beside:
-- stages go on, or something else becomes of the exchange.
abbrev pub IsOf : {H : Type 0} {calling : Calling H} {response : Bool} {n count : ℕ} {x : Exchange} {b : Both H} {ms : List Met} {nx : Next} {items : List ChainItem}
    → MayStep calling response n count x b ms nx items → List Deed → Type 0
IsOf {H} {calling} {response} {n} {count} {x} {b} {ms} (moves_own q may) deeds =
    (c : Called H) × (reached : Reaches (runs_then (callback_program calling b.host q) ends) ms (ends c)) × (deeds ≡ part_deeds (moves c q (may c reached)))
IsOf {H} {calling} {response} {n} {count} {x} {b} {ms} (puts_own items later is put) deeds = deeds ≡ turns x (in_hand later b.room).hub ∷ part_deeds {H = H} (puts items put)
IsOf {H} {calling} {response} {n} {count} {x} {b} {ms} (is_beside nx may) deeds = AreIdle deeds

-- those of each step, one after the other, and between turns what becomes of what all lines have in common
abbrev pub AreOf : {H : Type 0} {calling : Calling H} {plan : Plan} {response : Bool} {n count : ℕ} {x : Exchange} {b e : Both H} {items : List ChainItem}
    → Steps calling plan response n count x b items e → List Deed → Type 0
AreOf (no_step x b) deeds = deeds ≡ []
AreOf {H} {calling} {plan} {response} {n} {count} (one_step x b m e items more ms on whole may reaches later) deeds =
    (first : List Deed) × (rest : List Deed) × (deeds ≡ first ++ rest) × IsOf may first × ((y : Exchange) × (there : IsOn n m.room y) × AreOf (later y there) rest)
AreOf {H} {calling} {plan} {response} {n} {count} (next_turn x b e items event on whole later) deeds =
    (rest : List Deed) × (deeds ≡ turns x (room_for_event plan event (without_sent b.room)).hub ∷ rest) × AreOf later rest

-- ---- the buffers that the callbacks of these steps left

-- Of a move: where the callback that ended so was a body callback of the stage at the place, the buffer as it left that. Of other steps: none.
abbrev pub LeavesBuffer : {H : Type 0} {calling : Calling H} {response : Bool} {n count : ℕ} {x : Exchange} {b : Both H} {ms : List Met} {nx : Next} {items : List ChainItem}
    → ℕ → MayStep calling response n count x b ms nx items → List ℕ → Type 0
LeavesBuffer {H} {calling} {response} {n} {count} {x} {b} {ms} k (moves_own q may) bytes =
    (c : Called H) × Reaches (runs_then (callback_program calling b.host q) ends) ms (ends c) × (bytes ≡ buffer_called k c.contexts (asked b.room.hub.contexts (chain_of response x)))
LeavesBuffer k (puts_own items later is put) bytes = bytes ≡ []
LeavesBuffer k (is_beside nx may) bytes = bytes ≡ []

-- OF EACH STEP THAT IS ONE list of bytes: by what the step met its callback has one end.
abbrev pub BuffersAreOne : Type 0 → Type 0
BuffersAreOne H = (calling : Calling H) (response : Bool) (n count : ℕ) (x : Exchange) (b : Both H) (ms : List Met) (nx : Next) (items : List ChainItem)
    (may : MayStep calling response n count x b ms nx items) (k : ℕ) (one other : List ℕ) → LeavesBuffer k may one → LeavesBuffer k may other → one ≡ other

-- those of each step, one after the other
abbrev pub LeaveBuffers : {H : Type 0} {calling : Calling H} {plan : Plan} {response : Bool} {n count : ℕ} {x : Exchange} {b e : Both H} {items : List ChainItem}
    → ℕ → Steps calling plan response n count x b items e → List ℕ → Type 0
LeaveBuffers k (no_step x b) bytes = bytes ≡ []
LeaveBuffers {H} {calling} {plan} {response} {n} {count} k (one_step x b m e items more ms on whole may reaches later) bytes =
    (first : List ℕ) × (rest : List ℕ) × (bytes ≡ first ++ rest) × LeavesBuffer k may first × ((y : Exchange) × (there : IsOn n m.room y) × LeaveBuffers k (later y there) rest)
LeaveBuffers k (next_turn x b e items event on whole later) bytes = LeaveBuffers k later bytes

-- What passed: these are deeds of the law on exchanges, from the state at first to that behind, and the exchange writes what leaves the chain by them; and with what
-- is held and waits then it is as that law says. The deeds are those of the steps, and what a stage's body callbacks left is what they left by these, which is
-- what the callbacks left that the steps called.
pub record HavePassed {H : Type 0} {calling : Calling H} {plan : Plan} {response : Bool} {n count : ℕ} {x : Exchange} {b : Both H} {items : List ChainItem} {e : Both H}
    (steps : Steps calling plan response n count x b items e) : Type 0 where
  pub last : Exchange
  pub on : IsOn n e.room last
  pub run : Run H response n count x b.room last e.room
  pub put : run_items run ≡ items
  pub of : AreOf steps (run_deeds run)
  pub buffers : (k : ℕ) → buffers_by response n k (run_deeds run) (running_of None x b.room) ≡ run_buffers k run
  pub left : (k : ℕ) → LeaveBuffers k steps (run_buffers k run)
  pub deeds : AreTheDeeds run
  -- where this count is that of the last stage with a body callback, from 1: what its body callbacks left
  pub last_stage : (k : ℕ) → count ≡ suc k
      → PassesThrough items (run_buffers k run) (left_by response n (run_deeds run) (running_of None x b.room)) (flow e.room.hub.contexts (drop count (chain_of response last)))
      (chain_of response last)
  -- where no buffer of its stages is changed by a callback: what was read
  pub unchanged : count ≡ 0
      → PassesThrough items (item_bytes items) (left_by response n (run_deeds run) (running_of None x b.room)) (flow e.room.hub.contexts (chain_of response last)) (chain_of response last)

-- BODIES PASS THROUGH TURNS, from an exchange whose stages were made and through which nothing passed yet. (Each callback of the
-- exchange's stages returns. One of another line or of no stage may die, and a start or a configuration may answer 0, where the exchange has no stage of its VM and no filter that fails
-- closed by that; on other deaths the law is silent.)
abbrev pub TurnsPassBodies : Type 0 → Type 0
TurnsPassBodies H = (calling : Calling H) (plan : Plan) (response : Bool) (n count : ℕ) (x : Exchange) (b e : Both H) (items : List ChainItem) (steps : Steps calling plan response n count x b items e)
    → IsOn n b.room x → IsNew (standing_of response (running_of None x b.room)) → count ≤ length (chain_of response x) → IsInOrder items → HavePassed steps

-- TURNS GO ON from any state between steps in which the direction is sound, be it after the death of a VM: these are deeds of the law on exchanges.
pub record HaveGoneOn {H : Type 0} {calling : Calling H} {plan : Plan} {response : Bool} {n count : ℕ} {x : Exchange} {b : Both H} {items : List ChainItem} {e : Both H}
    (steps : Steps calling plan response n count x b items e) : Type 0 where
  pub last : Exchange
  pub on : IsOn n e.room last
  pub run : Run H response n count x b.room last e.room
  pub put : run_items run ≡ items
  pub of : AreOf steps (run_deeds run)
  pub buffers : (k : ℕ) → buffers_by response n k (run_deeds run) (running_of None x b.room) ≡ run_buffers k run
  pub left : (k : ℕ) → LeaveBuffers k steps (run_buffers k run)
  pub last_stage : (k : ℕ) → count ≡ suc k → RunGoesOn run (run_buffers k run)
  pub unchanged : count ≡ 0 → RunGoesOn run (item_bytes items)

abbrev pub TurnsGoOn : Type 0 → Type 0
TurnsGoOn H = (calling : Calling H) (plan : Plan) (response : Bool) (n count : ℕ) (x : Exchange) (b e : Both H) (items : List ChainItem) (steps : Steps calling plan response n count x b items e)
    → IsOn n b.room x → IsSound count (standing_of response (running_of None x b.room)) → HaveGoneOn steps
