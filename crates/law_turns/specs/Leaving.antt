-- Worked turns at whose event a client is gone, and at Stop.
use Rattle.std.specs.Prelude.{◌≡◌, ℕ, true, false, List, [], ◌∷◌, map, None, Some, codes}
use Rattle.contexts.specs.declared.parts.Context.{Context}
use Rattle.contexts.specs.declared.parts.Contexts.{Contexts}
use Rattle.contexts.specs.declared.parts.VmContexts.{VmContexts}
use Rattle.contexts.specs.Creating.{open_exchange, stream_created}
use Rattle.filter_host.specs.Course.{Course}
use Rattle.filter_host.specs.declared.host.Callback.TheVariants.{Done, Log, Delete}
use Rattle.exchange.specs.declared.types.Exchange.{Exchange}
use Rattle.filter_chain.specs.declared.item.Held.TheVariants as held
use Rattle.gate_config.specs.declared.entries.PluginEntry.{PluginEntry}
use Rattle.gate_io.specs.declared.event.Event.{Event}
use Rattle.gate_io.specs.declared.event.Sent.{Sent}
use Rattle.gate_io.specs.declared.event.Sent.TheVariants as sent
use Rattle.gate_io.specs.declared.event.Side.TheVariants.{Down, Up}
use Rattle.gate_io.specs.declared.event.What.TheVariants as whats
use Rattle.h1_model.specs.Examples.{worked_response_text}
use Rattle.h1_model.specs.Unread.{new_reading}
use Rattle.worker_model.specs.Steps.{Both, with_tick}
use Rattle.worker_model.specs.Turn.{Outcome, turn}
use Rattle.law_turns.specs.Tables.{Call, call, calling_by, Comes}
use Rattle.law_turns.specs.Scenes.{get_map, plugin, contexts_with_roots, filter_of, stage, exchange, line, state, event, plan_of}
use Rattle.law_turns.specs.Starts.{one_vm}

abbrev pub plugins : List PluginEntry
plugins = plugin (codes "p") false ∷ plugin (codes "q") false ∷ []

-- streams 3 of `p` and 4 of `q` are of line 1, at place 0
abbrev pub contexts : Contexts
contexts = stream_created 0 2 1 (stream_created 0 1 1 (open_exchange 1 get_map (contexts_with_roots plugins)))

-- Its request went up, on a connection that is open. The head of its response is held by `p`, after which the client is.
abbrev pub responding : Exchange
responding = record (exchange 0 (filter_of 0 false 3) (stage false 3 held.Nothing) (stage true 4 held.Nothing)) {
  filters = filter_of 0 false 3 ∷ filter_of 1 false 4 ∷ [];
  request = stage false 3 held.Nothing ∷ stage false 4 held.Nothing ∷ [];
  response = stage true 4 held.Nothing ∷ stage true 3 (held.Head false) ∷ [];
  reader = Some (new_reading (Some (codes "GET")));
  is_head_up = true;
}

-- line 2 has no exchange
abbrev pub busy : Both (List Call)
busy = state (line 1 (Some responding) ∷ line 2 None ∷ []) contexts

abbrev pub turn_of : Both (List Call) → Event → Course (Outcome (List Call))
turn_of from e = turn (calling_by []) (plan_of plugins) from e

-- THE CLIENT OF LINE 1 IS GONE
abbrev pub gone : Course (Outcome (List Call))
gone = turn_of busy (event 5 (whats.Gone 1 Down))

-- each context is told that it is done, of its log and of its end, and then the next one, in the order of the filters; no callback of a response
abbrev pub gone_calls : List Call
gone_calls =
    call Done 3 0 0 ∷ call Log 3 0 0 ∷ call Delete 3 0 0
    ∷ call Done 4 0 0 ∷ call Log 4 0 0 ∷ call Delete 4 0 0 ∷ []

-- the connection to the server is closed, and nothing is sent down
abbrev pub gone_sends : List Sent
gone_sends = sent.Close 1 Up ∷ []

-- what the server sent comes late
abbrev pub late : Both (List Call) → Course (Outcome (List Call))
late from = turn_of from (event 6 (whats.Bytes 1 Up worked_response_text))

-- the client of line 2 is gone
abbrev pub idle : Both (List Call) → Course (Outcome (List Call))
idle from = turn_of from (event 7 (whats.Gone 2 Down))

abbrev pub ids_of : Outcome (List Call) → List (List ℕ)
ids_of o = map (λ (v : VmContexts). map (λ (c : Context). c.id) v.contexts) o.state.room.hub.contexts.vms

pub record GoneExample : Type 0 where
  pub goes : Comes gone [] gone_calls gone_sends (2 ∷ [])
  -- the roots stay; what was held is there no more, nor is the exchange
  pub roots_stay : ids_of goes.end ≡ (1 ∷ 2 ∷ []) ∷ []
  pub place_is_free : goes.end.state.room.hub.contexts.exchanges ≡ None ∷ []
  pub comes_late : Comes (late goes.end.state) [] gone_calls [] (2 ∷ [])
  -- of a line without an exchange nothing is told or closed
  pub goes_idle : Comes (idle comes_late.end.state) [] gone_calls [] []

-- AT STOP nothing is done: the same worker, with a tick that is due; and one that has done nothing, whose VM is not started
abbrev pub ticking : Both (List Call)
ticking = state (line 1 (Some responding) ∷ line 2 None ∷ []) (with_tick 0 1 (record { period = 1000000000; due = 0 }) contexts)

pub record StopExample : Type 0 where
  pub stops : Comes (turn_of ticking (event 5 whats.Stop)) [] [] [] (1 ∷ 2 ∷ [])
  pub as_it_was : stops.end.state ≡ ticking
  pub stops_at_once : Comes (turn_of one_vm (event 0 whats.Stop)) [] [] [] []
  pub still_new : stops_at_once.end.state ≡ one_vm
