-- WHAT FALLS DUE, worked: the moment at which a worker wants to be called, responses that are due, ticks, and which VMs take notices.
use Rattle.std.specs.Prelude.{◌≡◌, ℕ, ◌+◌, ◌<◌, ◌≤◌, true, false, Bool, List, [], ◌∷◌, Option, Some, None, Contains, slice_get}
use Rattle.callouts.specs.declared.types.Callout.{Callout}
use Rattle.contexts.specs.declared.parts.Context.{Context}
use Rattle.contexts.specs.declared.parts.Contexts.{Contexts}
use Rattle.contexts.specs.declared.parts.Tick.{Tick}
use Rattle.contexts.specs.Creating.{root_context, with_new}
use Rattle.contexts.specs.Making.{no_contexts, with_vm}
use Rattle.contexts.specs.Reached.{vm_in}
use Rattle.exchange.specs.declared.types.Exchange.{Exchange}
use Rattle.exchange.specs.Leaving.{is_due}
use Rattle.filter_chain.specs.declared.item.Held.TheVariants as held
use Rattle.gate_base.specs.declared.level.Level.TheVariants.{Info}
use Rattle.worker_model.specs.Plan.{Plan}
use Rattle.worker_model.specs.Rooms.{is_dead}
use Rattle.worker_model.specs.Steps.{due_at, is_due_tick, next_tick}
use Rattle.worker_model.specs.Turn.{notices_of, ticks_due, vms_in}
use Rattle.worker_model.specs.Wants.{due_in, wants_of}
use Rattle.worker_model.specs.Room.{Room}
use Rattle.worker_model.specs.declared.types.Job.TheVariants as jobs
use Rattle.worker_model.specs.declared.types.Line.{Line}
use Rattle.law_turns.specs.Scenes.{filter_of, stage, exchange, line, room, plan_of}

-- ---- the worker

-- two VMs, of which no context is made
abbrev pub two_vms : Contexts
two_vms = with_vm [] [] (with_vm [] [] (no_contexts Info []))

abbrev pub tick : ℕ → ℕ → Tick
tick period due = record { period = period; due = due }

-- a root of a VM, by its id, with a tick that is due then; and one without a tick
abbrev pub ticking : ℕ → ℕ → ℕ → Contexts → Contexts
ticking vm id due h = with_new vm (record (root_context id 0) { tick = Some (tick 1000 due) }) h

abbrev pub idling : ℕ → ℕ → Contexts → Contexts
idling vm id h = with_new vm (root_context id 0) h

-- which of the two VMs register queues
abbrev pub telling : Bool → Bool → Plan
telling first second = record (plan_of []) { vms = 2; registers = first ∷ second ∷ [] }

-- none of them does
abbrev pub quiet : Plan
quiet = telling false false

-- an exchange of whose response nothing came
abbrev pub still : Exchange
still = exchange 0 (filter_of 0 true 2) (stage false 2 held.Nothing) (stage true 2 held.Nothing)

-- its response is due at a moment
abbrev pub until : ℕ → Exchange
until due = record still { due = Some due }

abbrev pub on_line : ℕ → Exchange → Line
on_line number x = line number (Some x)

-- a worker at a moment
abbrev pub at : ℕ → List Line → Contexts → Room
at now lines h = record (room lines h) { hub = record { moment = now; contexts = h; sent = [] } }

-- at moment 7, without lines; and with lines alone
abbrev pub ticks : Contexts → Room
ticks h = at 7 [] h

abbrev pub waits : List Line → Room
waits lines = at 7 lines two_vms

abbrev pub dead : List ℕ → Room → Room
dead vms r = record r { dead = vms }

-- ---- WHEN A WORKER WANTS TO BE CALLED: at the earliest of the moments at which a tick or a response is due and, where a VM that lives
-- registers queues, 50 milliseconds after its own; before the first event never

-- of VM 0 two roots, of VM 1 one, due at these moments
abbrev pub three_roots : ℕ → ℕ → ℕ → Contexts
three_roots first second third = ticking 1 1 third (ticking 0 2 second (ticking 0 1 first two_vms))

-- a tick of each VM, and a response, are due at these moments
abbrev pub all_due : ℕ → ℕ → ℕ → Room
all_due first second response = at 7 (on_line 1 (until response) ∷ []) (ticking 1 1 second (ticking 0 1 first two_vms))

pub record DueExamples : Type 0 where
  pub nothing : due_in quiet (waits (line 1 None ∷ on_line 2 still ∷ [])) ≡ None
  -- notices of one VM or the other, or of both; of one that died there are none
  pub notices : due_in (telling false true) (waits []) ≡ Some 50000007
  pub first_notices : due_in (telling true false) (waits []) ≡ Some 50000007
  pub both_notices : due_in (telling true true) (waits []) ≡ Some 50000007
  pub no_notices : due_in (telling false true) (dead (1 ∷ []) (waits [])) ≡ None
  pub other_died : due_in (telling false true) (dead (0 ∷ []) (waits [])) ≡ Some 50000007
  pub last_moment : due_in (telling false true) (at 18446744073709551615 [] two_vms) ≡ Some 18446744073709551615
  pub nearly_last : due_in (telling false true) (at 18446744073659551616 [] two_vms) ≡ Some 18446744073709551615
  -- ticks of the roots of one VM, and of both, in each order
  pub roots : due_in quiet (ticks (three_roots 3 5 9)) ≡ Some 3
  pub second_root : due_in quiet (ticks (three_roots 5 3 9)) ≡ Some 3
  pub other_root : due_in quiet (ticks (three_roots 9 5 3)) ≡ Some 3
  pub other_second : due_in quiet (ticks (ticking 1 2 3 (ticking 1 1 5 two_vms))) ≡ Some 3
  pub other_first : due_in quiet (ticks (ticking 1 2 5 (ticking 1 1 3 two_vms))) ≡ Some 3
  pub beside_idle : due_in quiet (ticks (idling 1 1 (idling 0 3 (ticking 0 2 5 (idling 0 1 two_vms))))) ≡ Some 5
  pub idle : due_in quiet (ticks (idling 1 1 (idling 0 1 two_vms))) ≡ None
  pub dead_root : due_in quiet (dead (0 ∷ []) (ticks (three_roots 3 5 9))) ≡ Some 9
  pub other_dead : due_in quiet (dead (1 ∷ []) (ticks (three_roots 9 5 3))) ≡ Some 5
  -- responses of lines, in each order; one whose head has come or that was answered is not waited for
  pub lines : due_in quiet (waits (on_line 1 (until 9) ∷ on_line 2 (until 4) ∷ [])) ≡ Some 4
  pub first_line : due_in quiet (waits (on_line 1 (until 4) ∷ on_line 2 (until 9) ∷ [])) ≡ Some 4
  pub beside_none : due_in quiet (waits (line 1 None ∷ on_line 2 (until 9) ∷ on_line 3 still ∷ [])) ≡ Some 9
  pub headed : due_in quiet (waits (on_line 1 (record (until 4) { is_headed = true }) ∷ [])) ≡ None
  pub answered : due_in quiet (waits (on_line 1 (record (until 4) { is_answered = true }) ∷ [])) ≡ None
  pub beside_headed : due_in quiet (waits (on_line 1 (record (until 4) { is_headed = true }) ∷ on_line 2 (until 9) ∷ [])) ≡ Some 9
  -- the earliest of all, whichever it is
  pub tick_first : due_in (telling false true) (all_due 3 5 4) ≡ Some 3
  pub other_tick : due_in (telling false true) (all_due 5 3 4) ≡ Some 3
  pub line_first : due_in (telling false true) (all_due 5 4 3) ≡ Some 3
  pub notice_first : due_in (telling false true) (all_due 60000000 50000009 50000008) ≡ Some 50000007
  pub none_to_be_told : due_in quiet (all_due 60000000 50000009 50000008) ≡ Some 50000008
  -- before the first event
  pub not_begun : due_in (telling true true) (record (all_due 3 5 4) { is_begun = false }) ≡ None
  -- so the world is asked
  pub asked : wants_of (telling false true) (waits (line 1 None ∷ [])) [] ≡ record { down = 1 ∷ []; up = []; due = Some 50000007 }
  pub asked_for_line : wants_of quiet (waits (on_line 1 (until 9) ∷ [])) [] ≡ record { down = 1 ∷ []; up = []; due = Some 9 }

-- ---- RESPONSES THAT ARE DUE: so many milliseconds after the request's head, and from that moment on, where no head has come and none
-- was answered

pub record DeadlineExamples : Type 0 where
  pub counted : due_at 5 1000 ≡ Some 1000000005
  pub endless : due_at 5 0 ≡ None
  pub capped : due_at 18446744073709551615 1 ≡ Some 18446744073709551615
  pub before : is_due 3 (until 4) ≡ false
  pub there : is_due 4 (until 4) ≡ true
  pub behind : is_due 5 (until 4) ≡ true
  pub never : is_due 5 still ≡ false
  pub headed : is_due 5 (record (until 4) { is_headed = true }) ≡ false
  pub answered : is_due 5 (record (until 4) { is_answered = true }) ≡ false
  pub ended : is_due 5 (record (until 4) { has_ended = true }) ≡ false

-- ---- TICKS: due from their moment on, once, and then a period from that event, at most at 2^64 - 1

pub record TickExamples : Type 0 where
  pub before : is_due_tick 2 (tick 2 3) ≡ false
  pub there : is_due_tick 3 (tick 2 3) ≡ true
  pub late : is_due_tick 10 (tick 2 3) ≡ true
  pub next : next_tick 3 (tick 2 3) ≡ tick 2 5
  pub next_late : next_tick 10 (tick 2 3) ≡ tick 2 12
  pub capped : next_tick 18446744073709551610 (tick 9 3) ≡ tick 9 18446744073709551615
  -- of both VMs, the first one's roots first, and each in the order of their ids
  pub roots : ticks_due (ticks (three_roots 7 6 7)) ≡ jobs.Tick 0 1 ∷ jobs.Tick 0 2 ∷ jobs.Tick 1 1 ∷ []
  pub not_yet : ticks_due (ticks (three_roots 8 6 9)) ≡ jobs.Tick 0 2 ∷ []
  pub other_only : ticks_due (ticks (idling 0 3 (three_roots 8 9 7))) ≡ jobs.Tick 1 1 ∷ []

-- ---- NOTICES: of each VM that registers queues, 16 at most

pub record NoticeExamples : Type 0 where
  pub second : notices_of (telling false true) 2 ≡ jobs.Notice 1 16 ∷ []
  pub first : notices_of (telling true false) 2 ≡ jobs.Notice 0 16 ∷ []
  pub both : notices_of (telling true true) 2 ≡ jobs.Notice 0 16 ∷ jobs.Notice 1 16 ∷ []
  pub neither : notices_of quiet 2 ≡ []

-- ---- WHATEVER THE ROOM: nothing is due before the moment that is asked for

-- a moment is asked for, and it is not after this one
abbrev pub IsBy : Option ℕ → ℕ → Type 0
IsBy None n = ⊥
IsBy (Some due) n = due ≤ n

-- of a worker that has begun: by the tick of each root of each VM that lives, by each response that is waited for, by each callout, and where a VM that lives registers
-- queues, by 50 milliseconds from its moment
pub record NothingIsDueBefore : Type 0 where
  pub ticks : (plan : Plan) (r : Room) (vm : ℕ) (c : Context) (t : Tick) → r.is_begun ≡ true → vm < vms_in r → is_dead vm r ≡ false
      → Contains (vm_in r.hub.contexts vm).contexts c → c.tick ≡ Some t → IsBy (due_in plan r) t.due
  pub responses : (plan : Plan) (r : Room) (l : Line) (x : Exchange) (due : ℕ) → r.is_begun ≡ true → Contains r.lines l → l.exchange ≡ Some x → x.due ≡ Some due
      → x.is_headed ≡ false → x.is_answered ≡ false → IsBy (due_in plan r) due
  pub callouts : (plan : Plan) (r : Room) (c : Callout) → r.is_begun ≡ true → Contains r.calls c → IsBy (due_in plan r) c.due
  pub notices : (plan : Plan) (r : Room) (vm : ℕ) → r.is_begun ≡ true → vm < vms_in r → is_dead vm r ≡ false → slice_get plan.registers vm ≡ Some true
      → IsBy (due_in plan r) (r.hub.moment + 50000000)
