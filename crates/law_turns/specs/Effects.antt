-- Worked turns: a tick has two effects on a response whose head is held. They come in the order of the calls.
use Rattle.std.specs.Prelude.{true, false, List, [], ◌∷◌, ◌++◌, None, Some, codes}
use Rattle.contexts.specs.declared.parts.Contexts.{Contexts}
use Rattle.contexts.specs.declared.parts.Effect.{Effect}
use Rattle.contexts.specs.declared.parts.EffectKind.TheVariants.{Continue, Answer}
use Rattle.contexts.specs.Creating.{open_exchange, stream_created}
use Rattle.filter_host.specs.Course.{Course}
use Rattle.filter_host.specs.declared.host.CallbackEnd.TheVariants.{Returned}
use Rattle.filter_host.specs.declared.host.Callback.TheVariants.{Tick, Done, Log, Delete}
use Rattle.exchange.specs.declared.types.Exchange.{Exchange}
use Rattle.exchange.specs.Maps.{put_response}
use Rattle.filter_chain.specs.declared.item.Held.TheVariants as held
use Rattle.gate_config.specs.declared.entries.PluginEntry.{PluginEntry}
use Rattle.gate_io.specs.declared.event.Sent.{Sent}
use Rattle.gate_io.specs.declared.event.Sent.TheVariants.{Bytes, Close}
use Rattle.gate_io.specs.declared.event.Side.TheVariants.{Down, Up}
use Rattle.gate_io.specs.declared.event.What.TheVariants.{Clock}
use Rattle.h1_head.specs.declared.head.Length.TheVariants as lengths
use Rattle.header_maps.specs.Operations.{no_headers}
use Rattle.h1_model.specs.Examples.{worked_response}
use Rattle.h1_model.specs.Unread.{new_reading}
use Rattle.worker_model.specs.Steps.{with_tick}
use Rattle.worker_model.specs.Turn.{Outcome, turn}
use Rattle.law_turns.specs.Tables.{Call, call, Deed, calling_by, Comes}
use Rattle.law_turns.specs.Scenes.{line_of, first_date, get_map, plugin, contexts_with_roots, filter_of, stage, exchange, line, waits_on, state, event, plan_of}

abbrev pub plugins : List PluginEntry
plugins = plugin (codes "p") false ∷ []

-- root 1 has a tick, each second from moment 0 on; stream 2 is of line 1; the head of a response of 200 has come
abbrev pub contexts : Contexts
contexts =
    put_response worked_response.fields 0
    (stream_created 0 1 1 (open_exchange 1 get_map (with_tick 0 1 (record { period = 1000000000; due = 0 }) (contexts_with_roots plugins))))

-- stream 2 holds that head, after which three bytes are to come
abbrev pub responding : Exchange
responding = record (exchange 0 (filter_of 0 false 2) (stage false 2 held.Nothing) (stage true 2 (held.Head false))) {
  told = record { to_head = false; status = Some 200; length = lengths.Exactly 3; told = Some 3 };
  reader = Some (new_reading (Some (codes "GET")));
  is_headed = true;
}

-- on context 2: the response goes on, and a local response
abbrev pub goes_on : Effect
goes_on = record { context = 2; what = Continue true }

abbrev pub answers : Effect
answers = record { context = 2; what = Answer 403 no_headers [] }

abbrev pub ticks : List Effect → List Deed
ticks effects = record { name = Tick; context = 1; end = Returned None; effects = effects } ∷ []

-- no callback for heads comes
abbrev pub calls : List Call
calls = call Tick 1 0 0 ∷ call Done 2 0 0 ∷ call Log 2 0 0 ∷ call Delete 2 0 0 ∷ []

-- the turn, where the tick has these effects
abbrev pub turn_with : List Effect → Course (Outcome (List Call))
turn_with effects = turn (calling_by (ticks effects)) (plan_of plugins) (state (line 1 (Some responding) ∷ []) contexts) (event 0 Clock)

abbrev pub in_order : Course (Outcome (List Call))
in_order = turn_with (goes_on ∷ answers ∷ [])

abbrev pub swapped : Course (Outcome (List Call))
swapped = turn_with (answers ∷ goes_on ∷ [])

abbrev pub closes : List Sent
closes = Bytes 1 Down (line_of (codes "HTTP/1.1 200 ") ++ line_of (codes "content-length: 3") ++ first_date ++ line_of []) ∷ Close 1 Up ∷ Close 1 Down ∷ []

abbrev pub stays : List Sent
stays = Bytes 1 Down (line_of (codes "HTTP/1.1 403 ") ++ line_of (codes "content-length: 0") ++ first_date ++ line_of []) ∷ Close 1 Up ∷ []

pub record EffectExamples : Type 0 where
  -- the head of the server's response is out when the answer comes: both connections are closed
  pub head_first : Comes in_order [] calls closes []
  -- the other way round the answer goes down, and the line stays
  pub answer_first : Comes swapped (waits_on ∷ []) calls stays (1 ∷ [])
