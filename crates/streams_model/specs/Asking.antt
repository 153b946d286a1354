-- THE STAGE THAT IS ASKED on a line of streams.
use Rattle.std.specs.Prelude.{ℕ, Bool, true, false, List, slice_get, slice_set, Option, None, Some, option_map}
use Rattle.contexts.specs.declared.parts.Contexts.{Contexts}
use Rattle.exchange.specs.Answering.{with_held}
use Rattle.exchange.specs.declared.types.Filter.{Filter}
use Rattle.exchange.specs.declared.types.Hub.{Hub}
use Rattle.filter_chain.specs.declared.item.Ask.{Ask}
use Rattle.filter_chain.specs.declared.item.AskKind.{AskKind}
use Rattle.filter_chain.specs.declared.item.AskKind.TheVariants as kinds
use Rattle.filter_chain.specs.declared.item.Asking.{Asking}
use Rattle.filter_chain.specs.declared.item.Asking.TheVariants.{Nothing, Over, Asks}
use Rattle.filter_chain.specs.declared.stage.Stage as chain_stage
use Rattle.filter_host.specs.declared.host.Callback.{Callback}
use Rattle.filter_host.specs.declared.host.Callback.TheVariants as callbacks
use Rattle.tcp_filters.specs.Lines.{chain_of, ask_line}
use Rattle.tcp_filters.specs.declared.line.TcpLine as passing
use Rattle.tcp_filters.specs.declared.types.TcpAsking.{TcpAsking}
use Rattle.worker_model.specs.Steps.{Then, action_of}
use Rattle.worker_model.specs.declared.types.Asked.{Asked}
use Rattle.worker_model.specs.declared.types.TcpLine.{TcpLine}
use Rattle.streams_model.specs.Lines.{stream_of, with_stream, close_stream, in_line, apply_change}
use Rattle.streams_model.specs.Rooms.{on_number}
use Rattle.streams_model.specs.declared.types.Change.TheVariants as changes

-- the stage, by its VM and its context
abbrev pub asks_stage : Bool → ℕ → Ask → Option (ℕ × ℕ) → Option Asked
asks_stage response n ask None = None
asks_stage response n ask (Some (vm, context)) = Some (record { vm = vm; context = context; response = response; line = n; ask = ask; count = ask.count })

-- no stage is asked
abbrev pub with_none : passing.TcpLine × Hub → Option Asked × passing.TcpLine × Hub
with_none (s, hub) = (None, s, hub)

-- what was picked; too much for a stage ends the connection
abbrev pub asks_as : Bool → Asking → passing.TcpLine → Hub → Option Asked × passing.TcpLine × Hub
asks_as response Nothing s hub = (None, s, hub)
asks_as response (Over k) s hub = with_none (close_stream s hub)
asks_as response (Asks ask) s hub = (asks_stage response s.number ask (option_map (λ (t : chain_stage.Stage). (t.vm, t.context)) (slice_get (chain_of response s) ask.stage)), s, hub)

-- the line and the contexts are these then
abbrev pub asks_by : Hub → TcpAsking × passing.TcpLine × Contexts → Option Asked × passing.TcpLine × Hub
asks_by hub (a, s, h) = asks_as a.response a.asking s (with_held h hub)

-- the stage that is to be asked of what passes
abbrev pub asks_stream : passing.TcpLine → Hub → Option Asked × passing.TcpLine × Hub
asks_stream s hub = asks_by hub (ask_line s hub.contexts)

-- the filters stay
abbrev pub put_asked : List Filter → Option Asked × passing.TcpLine × Hub → Option Asked × TcpLine × Hub
put_asked filters (a, s, hub) = (a, with_stream filters s, hub)

-- the stage of a line that is to be asked
abbrev pub asks_line : TcpLine → Hub → Option Asked × TcpLine × Hub
asks_line l hub = put_asked l.filters (asks_stream (stream_of l) hub)

-- the line stands in its place again
abbrev pub asks_back : ℕ → List TcpLine → Option Asked × TcpLine × Hub → Option Asked × List TcpLine × Hub
asks_back place lines (a, l, hub) = (a, slice_set lines place l, hub)

-- THE STAGE THAT IS ASKED on the line at a place, if there is one
abbrev pub asks_at : ℕ → Option TcpLine → List TcpLine → Hub → Option Asked × List TcpLine × Hub
asks_at place None lines hub = (None, lines, hub)
asks_at place (Some l) lines hub = asks_back place lines (asks_line l hub)

-- Which callback it is. (No trailers come to a stream.)
abbrev pub callback_of : Bool → AskKind → Callback
callback_of false kinds.Head = callbacks.NewConnection
callback_of false kinds.Piece = callbacks.DownstreamData
callback_of false kinds.Trailers = callbacks.DownstreamData
callback_of true kinds.Head = callbacks.NewConnection
callback_of true kinds.Piece = callbacks.UpstreamData
callback_of true kinds.Trailers = callbacks.UpstreamData

-- its action is put in force
abbrev pub apply_stage_action : Asked → Then
apply_stage_action a None room = room
apply_stage_action a (Some value) room = on_number (in_line (apply_change (changes.Act a.response a.ask.stage (action_of value)))) a.line room
