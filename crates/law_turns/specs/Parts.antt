-- A worked turn: at one event a tick, a deadline and a notice fall due. They come in that order, and all that comes of the one before the
-- next.
use Rattle.std.specs.Prelude.{true, false, List, [], ◌∷◌, ◌++◌, Some, codes}
use Rattle.contexts.specs.declared.parts.Contexts.{Contexts}
use Rattle.contexts.specs.Creating.{open_exchange, stream_created}
use Rattle.filter_host.specs.Course.{Course, Met, called}
use Rattle.filter_host.specs.declared.host.Callback.TheVariants.{Tick, QueueReady, ResponseHeaders, Done, Log, Delete}
use Rattle.exchange.specs.declared.types.Exchange.{Exchange}
use Rattle.filter_chain.specs.declared.item.Held.TheVariants as held
use Rattle.gate_config.specs.declared.entries.PluginEntry.{PluginEntry}
use Rattle.gate_io.specs.declared.event.Sent.{Sent}
use Rattle.gate_io.specs.declared.event.Sent.TheVariants as sent
use Rattle.gate_io.specs.declared.event.Side.TheVariants.{Down, Up}
use Rattle.gate_io.specs.declared.event.What.TheVariants.{Clock}
use Rattle.h1_model.specs.Unread.{new_reading}
use Rattle.store_model.specs.declared.call.Call.TheVariants as calls
use Rattle.store_model.specs.declared.call.Reply.TheVariants.{Owed, NoneOwed}
use Rattle.worker_model.specs.Plan.{Plan}
use Rattle.worker_model.specs.Steps.{with_tick}
use Rattle.worker_model.specs.Turn.{Outcome, turn}
use Rattle.law_turns.specs.Tables.{Call, call, calling_by, Comes}
use Rattle.law_turns.specs.Scenes.{line_of, get_map, plugin, contexts_with_roots, filter_of, stage, exchange, line, waits_on, state, event, plan_of}

abbrev pub plugins : List PluginEntry
plugins = plugin (codes "p") false ∷ []

-- responses are waited for one second, and the VM registers queues
abbrev pub plan : Plan
plan = record (plan_of plugins) { deadline = 1000; registers = true ∷ [] }

-- root 1 has a tick at the first second; stream 2 is of line 1
abbrev pub contexts : Contexts
contexts = stream_created 0 1 1 (open_exchange 1 get_map (with_tick 0 1 (record { period = 1000000000; due = 1000000000 }) (contexts_with_roots plugins)))

-- its request went up, and its response is due
abbrev pub asked : Exchange
asked = record (exchange 0 (filter_of 0 false 2) (stage false 2 held.Nothing) (stage true 2 held.Nothing)) {
  reader = Some (new_reading (Some (codes "GET")));
  due = Some 1000000000;
}

-- nothing is after the request; root 1 is owed a notice of an item in queue 7, and no other notice is owed
abbrev pub met : List Met
met =
    waits_on
    ∷ called (record { vm = 0; call = calls.Notice; reply = Owed 1 7 })
    ∷ called (record { vm = 0; call = calls.Notice; reply = NoneOwed }) ∷ []

abbrev pub asks : List Call
asks =
    call Tick 1 0 0 ∷ call ResponseHeaders 2 1 1 ∷ call Done 2 0 0 ∷ call Log 2 0 0 ∷ call Delete 2 0 0 ∷ call QueueReady 1 7 0 ∷ []

-- the turn at that second
abbrev pub turned : Course (Outcome (List Call))
turned = turn (calling_by []) plan (state (line 1 (Some asked) ∷ []) contexts) (event 1000000000 Clock)

abbrev pub sends : List Sent
sends =
    sent.Bytes 1 Down (line_of (codes "HTTP/1.1 504 ") ++ line_of (codes "content-length: 0") ++ line_of (codes "date: Thu, 01 Jan 1970 00:00:01 GMT") ++ line_of [])
    ∷ sent.Close 1 Up ∷ []

pub record PartsExample : Type 0 where
  -- the line stays
  pub turns : Comes turned met asks sends (1 ∷ [])
