-- Two worked turns: a context answers 0 to `done`, and is deleted once it waits no longer. The callback that lets it go asks the shared
-- store, and goes on alike whatever that replies.
use Rattle.std.specs.Prelude.{ℕ, ◌==◌, false, true, List, [], ◌∷◌, ◌++◌, None, Some, codes, if◌then◌else◌}
use Rattle.contexts.specs.declared.parts.Contexts.{Contexts}
use Rattle.contexts.specs.Creating.{open_exchange, stream_created, done_with}
use Rattle.filter_host.specs.Called.{Called, called_back}
use Rattle.filter_host.specs.Course.{Course, Met, called}
use Rattle.filter_host.specs.declared.host.CallbackEnd.TheVariants.{Returned}
use Rattle.filter_host.specs.declared.host.Callback.{Callback}
use Rattle.filter_host.specs.declared.host.Callback.TheVariants.{Tick, Done, Log, Delete}
use Rattle.exchange.specs.declared.types.Exchange.{Exchange}
use Rattle.filter_chain.specs.declared.item.Held.TheVariants as held
use Rattle.gate_config.specs.declared.entries.PluginEntry.{PluginEntry}
use Rattle.gate_io.specs.declared.event.Event.{Event}
use Rattle.gate_io.specs.declared.event.Side.TheVariants.{Down}
use Rattle.gate_io.specs.declared.event.What.TheVariants as whats
use Rattle.store_model.specs.Program.{Program, ask, done}
use Rattle.store_model.specs.declared.call.Call.TheVariants.{Get}
use Rattle.store_model.specs.declared.call.Reply.{Reply}
use Rattle.worker_model.specs.Steps.{Both, with_tick}
use Rattle.worker_model.specs.Turn.{Outcome, turn}
use Rattle.law_turns.specs.Tables.{Call, call, call_of, Deed, number_of, calling_by, Comes}
use Rattle.law_turns.specs.Scenes.{get_map, plugin, contexts_with_roots, filter_of, stage, exchange, line, state, event, plan_of}

abbrev pub plugins : List PluginEntry
plugins = plugin (codes "p") false ∷ []

-- root 1 has a tick at the first second; stream 2 is of line 1
abbrev pub contexts : Contexts
contexts = stream_created 0 1 1 (open_exchange 1 get_map (with_tick 0 1 (record { period = 10000000000; due = 1000000000 }) (contexts_with_roots plugins)))

-- it holds the head of a request
abbrev pub held_up : Exchange
held_up = exchange 0 (filter_of 0 false 2) (stage false 2 (held.Head true)) (stage true 2 held.Nothing)

abbrev pub waits : List Deed
waits = record { name = Done; context = 2; end = Returned (Some 0); effects = [] } ∷ []

-- a tick asks for a value, and then says that context 2 is done with
abbrev pub lets_go : List Call → Call → Contexts → Program (Called (List Call))
lets_go calls c h = ask 0 (Get (codes "k")) (λ reply. done (called_back (Returned None) [] (calls ++ c ∷ []) (done_with 0 2 h)))

abbrev pub calling : List Call → ℕ → Callback → ℕ → ℕ → ℕ → ℕ → Contexts → Program (Called (List Call))
calling calls vm name context first second now h =
    if number_of name == 4 then lets_go calls (call_of vm name context first second) h else calling_by waits calls vm name context first second now h

abbrev pub turn_of : Both (List Call) → Event → Course (Outcome (List Call))
turn_of from e = turn calling (plan_of plugins) from e

-- THE CLIENT GOES
abbrev pub first : Course (Outcome (List Call))
first = turn_of (state (line 1 (Some held_up) ∷ []) contexts) (event 0 (whats.Gone 1 Down))

abbrev pub first_calls : List Call
first_calls = call Done 2 0 0 ∷ []

-- THE TICK
abbrev pub second : Both (List Call) → Course (Outcome (List Call))
second from = turn_of from (event 1000000000 whats.Clock)

abbrev pub second_met : Reply → List Met
second_met reply = called (record { vm = 0; call = Get (codes "k"); reply = reply }) ∷ []

abbrev pub second_calls : List Call
second_calls = first_calls ++ call Tick 1 0 0 ∷ call Log 2 0 0 ∷ call Delete 2 0 0 ∷ []

pub record WaitingExample : Type 0 where
  -- neither its log nor its end comes, and the line is there no more
  pub lingers : Comes first [] first_calls [] []
  pub goes : (reply : Reply) → Comes (second lingers.end.state) (second_met reply) second_calls [] []
