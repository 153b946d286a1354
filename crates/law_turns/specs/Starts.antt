-- Worked first turns: at its first event a worker starts its VMs, and then the event happens.
use Rattle.std.specs.Prelude.{◌≡◌, ℕ, ◌==◌, false, List, [], ◌∷◌, ◌++◌, map, Option, None, Some, codes, if◌then◌else◌}
use Rattle.contexts.specs.declared.parts.Context.{Context}
use Rattle.contexts.specs.declared.parts.Contexts.{Contexts}
use Rattle.contexts.specs.declared.parts.Plugin.{Plugin}
use Rattle.contexts.specs.declared.parts.VmContexts.{VmContexts}
use Rattle.contexts.specs.Making.{no_contexts, with_vm, with_plugin}
use Rattle.filter_host.specs.Called.{Called}
use Rattle.filter_host.specs.Course.{Course}
use Rattle.filter_host.specs.declared.host.CallbackEnd.TheVariants.{Returned}
use Rattle.filter_host.specs.declared.host.Callback.{Callback}
use Rattle.filter_host.specs.declared.host.Callback.TheVariants.{Begin, ContextCreate, VmStart, Configure, Tick}
use Rattle.gate_base.specs.declared.level.Level.TheVariants.{Critical, Info}
use Rattle.gate_config.specs.declared.entries.PluginEntry.{PluginEntry}
use Rattle.gate_io.specs.declared.event.Sent.{Sent}
use Rattle.gate_io.specs.declared.event.Sent.TheVariants as sent
use Rattle.gate_io.specs.declared.event.What.TheVariants as whats
use Rattle.store_model.specs.Program.{Program, done}
use Rattle.worker_model.specs.Plan.{Plan}
use Rattle.worker_model.specs.Steps.{Both, both, next_tick, with_tick}
use Rattle.worker_model.specs.Turn.{Outcome, turn}
use Rattle.law_turns.specs.Tables.{Call, call, call_of, Deed, usual, called_of, Comes}
use Rattle.law_turns.specs.Scenes.{room, event, plan_of}

-- ---- the machines

-- what a module answers that exports the callbacks of a start too: 1, which is yes
abbrev pub ready : Callback → Option (Option ℕ)
ready Begin = Some None
ready VmStart = Some (Some 1)
ready Configure = Some (Some 1)
ready name = usual name

-- such machines, of which VM 0 does what stands in a table; their state is what was called so far
abbrev pub starting_by : List Deed → List Call → ℕ → Callback → ℕ → ℕ → ℕ → ℕ → Contexts → Program (Called (List Call))
starting_by deeds calls vm name context first second now h =
    done (called_of (if vm == 0 then deeds else []) (call_of vm name context first second) (ready name) calls h)

-- ---- the worker

abbrev pub plugin_of : ℕ → List ℕ → List ℕ → PluginEntry
plugin_of vm name configuration = record { name = name; vm = vm; configuration = configuration; fail_open = false }

-- the contexts as they are made: these VMs, with their configurations, and these plug-ins; no context is drawn
abbrev pub with_all : List PluginEntry → Contexts → Contexts
with_all [] h = h
with_all (p ∷ plugins) h = with_all plugins (with_plugin p.vm p.name p.configuration h)

-- a worker that has done nothing
abbrev pub new_worker : Contexts → Both (List Call)
new_worker h = both [] (record (room [] h) { is_begun = false })

-- the roots of the plug-ins, in their order, and the contexts of each VM
abbrev pub roots_of : Outcome (List Call) → List (Option ℕ)
roots_of o = map (λ (p : Plugin). p.root) o.state.room.hub.contexts.plugins

abbrev pub contexts_of : Outcome (List Call) → List (List ℕ)
contexts_of o = map (λ (v : VmContexts). map (λ (c : Context). c.id) v.contexts) o.state.room.hub.contexts.vms

-- ---- TWO PLUG-INS OF ONE VM, whose configuration has three bytes, and theirs one and two

abbrev pub two_of_one : List PluginEntry
two_of_one = plugin_of 0 (codes "p") (codes "a") ∷ plugin_of 0 (codes "q") (codes "bc") ∷ []

abbrev pub one_vm : Both (List Call)
one_vm = new_worker (with_all two_of_one (with_vm (codes "v") (codes "xyz") (no_contexts Info [])))

-- a connection is the first event
abbrev pub first : Course (Outcome (List Call))
first = turn (starting_by []) (plan_of two_of_one) one_vm (event 0 (whats.Opened 1))

-- The VM begins. Context 1 is made, which is the root of `p`; it is told of the start of the VM, once, and then of the configuration of `p`. Then
-- context 2 is made, which is the root of `q`, and told of the configuration of `q`. The numbers are how many bytes a configuration has.
abbrev pub first_calls : List Call
first_calls =
    call Begin 0 0 0
    ∷ call ContextCreate 1 0 0 ∷ call VmStart 1 3 0 ∷ call Configure 1 1 0
    ∷ call ContextCreate 2 0 0 ∷ call Configure 2 2 0 ∷ []

-- another connection is the next one
abbrev pub next : Both (List Call) → Course (Outcome (List Call))
next from = turn (starting_by []) (plan_of two_of_one) from (event 1 (whats.Opened 2))

pub record OneVmExample : Type 0 where
  pub starts : Comes first [] first_calls [] (1 ∷ [])
  pub roots : roots_of starts.end ≡ Some 1 ∷ Some 2 ∷ []
  pub contexts : contexts_of starts.end ≡ (1 ∷ 2 ∷ []) ∷ []
  -- nothing starts again
  pub goes_on : Comes (next starts.end.state) [] first_calls [] (1 ∷ 2 ∷ [])

-- ---- THREE PLUG-INS ON TWO VMS, the first and the third on one; and a third VM, of which no plug-in is

abbrev pub three : List PluginEntry
three = plugin_of 0 (codes "p") (codes "a") ∷ plugin_of 1 (codes "q") (codes "bc") ∷ plugin_of 0 (codes "r") [] ∷ []

abbrev pub three_plan : Plan
three_plan = record (plan_of three) { vms = 3 }

abbrev pub two_vms : Both (List Call)
two_vms = new_worker (with_all three (with_vm (codes "x") [] (with_vm (codes "w") (codes "z") (with_vm (codes "v") (codes "xyz") (no_contexts Info [])))))

abbrev pub second : Course (Outcome (List Call))
second = turn (starting_by []) three_plan two_vms (event 0 (whats.Opened 1))

-- One VM after the other, each with all of its plug-ins in their order; each draws its own ids, from 1 on. The third VM is not begun.
abbrev pub second_calls : List Call
second_calls =
    call_of 0 Begin 0 0 0
    ∷ call_of 0 ContextCreate 1 0 0 ∷ call_of 0 VmStart 1 3 0 ∷ call_of 0 Configure 1 1 0
    ∷ call_of 0 ContextCreate 2 0 0 ∷ call_of 0 Configure 2 0 0
    ∷ call_of 1 Begin 0 0 0
    ∷ call_of 1 ContextCreate 1 0 0 ∷ call_of 1 VmStart 1 1 0 ∷ call_of 1 Configure 1 2 0 ∷ []

pub record TwoVmsExample : Type 0 where
  pub starts : Comes second [] second_calls [] (1 ∷ [])
  pub roots : roots_of starts.end ≡ Some 1 ∷ Some 1 ∷ Some 2 ∷ []
  pub contexts : contexts_of starts.end ≡ (1 ∷ 2 ∷ []) ∷ (1 ∷ []) ∷ [] ∷ []
  pub all_live : starts.end.state.room.dead ≡ []

-- ---- A START THAT IS REFUSED. The same worker, whose VM 0 answers 0 to its start, or to the configuration of its first plug-in.

abbrev pub says_no : Callback → List Deed
says_no name = record { name = name; context = 1; end = Returned (Some 0); effects = [] } ∷ []

abbrev pub refused : Callback → Course (Outcome (List Call))
refused name = turn (starting_by (says_no name)) three_plan two_vms (event 0 (whats.Opened 1))

-- what the other VM is told all the same
abbrev pub other_calls : List Call
other_calls = call_of 1 Begin 0 0 0 ∷ call_of 1 ContextCreate 1 0 0 ∷ call_of 1 VmStart 1 1 0 ∷ call_of 1 Configure 1 2 0 ∷ []

abbrev pub no_start_calls : List Call
no_start_calls = call_of 0 Begin 0 0 0 ∷ call_of 0 ContextCreate 1 0 0 ∷ call_of 0 VmStart 1 3 0 ∷ other_calls

abbrev pub no_configure_calls : List Call
no_configure_calls = call_of 0 Begin 0 0 0 ∷ call_of 0 ContextCreate 1 0 0 ∷ call_of 0 VmStart 1 3 0 ∷ call_of 0 Configure 1 1 0 ∷ other_calls

abbrev pub told : List ℕ → List Sent
told text = sent.Log Critical text ∷ []

-- nothing more is called of it, no further root is made, and the line comes all the same
pub record RefusedExample : Type 0 where
  pub start : Comes (refused VmStart) [] no_start_calls (told (codes "vm v died: start")) (1 ∷ [])
  pub start_dead : start.end.state.room.dead ≡ 0 ∷ []
  pub start_roots : roots_of start.end ≡ Some 1 ∷ Some 1 ∷ None ∷ []
  pub configure : Comes (refused Configure) [] no_configure_calls (told (codes "vm v died: configure")) (1 ∷ [])
  pub configure_dead : configure.end.state.room.dead ≡ 0 ∷ []
  pub configure_roots : roots_of configure.end ≡ Some 1 ∷ Some 1 ∷ None ∷ []

-- ---- TICKS THAT STARTS SET. In its configuration each root of the two VMs sets a tick, with a period of a millisecond. It is due a period later, at most at the last
-- moment, 2^64 - 1. So a tick that is set at that moment is due at once.

-- the contexts once a callback has set what it sets
abbrev pub ticking_after : Callback → ℕ → ℕ → ℕ → Contexts → Contexts
ticking_after Configure vm root now h = with_tick vm root (next_tick now (record { period = 1000000; due = 0 })) h
ticking_after name vm root now h = h

-- machines that do so, of which VM 0 does what stands in a table besides
abbrev pub ticking_by : List Deed → List Call → ℕ → Callback → ℕ → ℕ → ℕ → ℕ → Contexts → Program (Called (List Call))
ticking_by deeds calls vm name context first second now h =
    done (called_of (if vm == 0 then deeds else []) (call_of vm name context first second) (ready name) calls (ticking_after name vm context now h))

-- the first turn of the worker of three plug-ins, at a moment
abbrev pub ticking : List Deed → ℕ → Course (Outcome (List Call))
ticking deeds now = turn (ticking_by deeds) three_plan two_vms (event now (whats.Opened 1))

-- the ticks of the three roots: VM by VM, the ids of a VM rising
abbrev pub other_tick : List Call
other_tick = call_of 1 Tick 1 0 0 ∷ []

-- the ticks of both VMs
abbrev pub all_ticks : List Call
all_ticks = call_of 0 Tick 1 0 0 ∷ call_of 0 Tick 2 0 0 ∷ other_tick

-- another event, at the last moment
abbrev pub last_moment : Both (List Call) → Course (Outcome (List Call))
last_moment from = turn (ticking_by []) three_plan from (event 18446744073709551615 (whats.Opened 2))

-- first turns at the last moment of the clock and before it
pub record StartTicksExample : Type 0 where
  -- at the last moment the ticks come in the same turn, after all starts
  pub at_last : Comes (ticking [] 18446744073709551615) [] (second_calls ++ all_ticks) [] (1 ∷ [])
  -- of a VM that died in its start none comes
  pub dead : Comes (ticking (says_no Configure) 18446744073709551615) [] (no_configure_calls ++ other_tick) (told (codes "vm v died: configure")) (1 ∷ [])
  -- a moment earlier none is due in that turn; they come at an event of the last moment
  pub earlier : Comes (ticking [] 18446744073709551614) [] second_calls [] (1 ∷ [])
  pub later : Comes (last_moment earlier.end.state) [] (second_calls ++ all_ticks) [] (1 ∷ 2 ∷ [])
