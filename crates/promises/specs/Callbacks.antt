-- Which callback is called for which item, and what becomes of the lines that it logs.
use Rattle.std.specs.Prelude.{◌≡◌, ℕ, true, false, List, ◌++◌}
use Rattle.contexts.specs.declared.parts.Contexts.{Contexts}
use Rattle.filter_host.specs.declared.host.CallbackEnd.{CallbackEnd}
use Rattle.filter_host.specs.declared.host.Callback.TheVariants as callbacks
use Rattle.filter_chain.specs.declared.item.AskKind.TheVariants as kinds
use Rattle.gate_io.specs.declared.event.Sent.{Sent}
use Rattle.worker_model.specs.Room.{Room}
use Rattle.worker_model.specs.Rooms.{take_callback_end, after_callback}
use Rattle.worker_model.specs.Steps.{callback_of}
use Rattle.worker_model.specs.declared.types.Owner.{Owner}
use Rattle.streams_model.specs.Asking as streams
use Rattle.streams_model.specs.Rooms as stream_rooms

-- EACH CALLBACK IS THAT OF ITS ITEM
pub record CallbackNames : Type 0 where
  pub request_head : callback_of false kinds.Head ≡ callbacks.RequestHeaders
  pub request_body : callback_of false kinds.Piece ≡ callbacks.RequestBody
  pub request_trailers : callback_of false kinds.Trailers ≡ callbacks.RequestTrailers
  pub response_head : callback_of true kinds.Head ≡ callbacks.ResponseHeaders
  pub response_body : callback_of true kinds.Piece ≡ callbacks.ResponseBody
  pub response_trailers : callback_of true kinds.Trailers ≡ callbacks.ResponseTrailers
  -- where lines are streams of bytes: a stage is asked of a new connection as of a head
  pub new_connection : streams.callback_of false kinds.Head ≡ callbacks.NewConnection
  pub downstream_data : streams.callback_of false kinds.Piece ≡ callbacks.DownstreamData
  pub upstream_data : streams.callback_of true kinds.Piece ≡ callbacks.UpstreamData

-- THE LINES THAT A CALLBACK LOGS ARE SENT, after what was sent before. Then its effects are done, or its VM dies.
pub record LinesAreSent : Type 0 where
  -- where lines are HTTP
  pub http : (vm : ℕ) (own : Owner) (end : CallbackEnd) (lines : List Sent) (h : Contexts) (room : Room)
      → (told : Room) × (told.hub.sent ≡ room.hub.sent ++ lines) × (take_callback_end vm own end lines h room ≡ after_callback vm own end h.effects told)
  -- where they are streams of bytes
  pub streams : (vm : ℕ) (own : Owner) (end : CallbackEnd) (lines : List Sent) (h : Contexts) (room : Room)
      → (told : Room) × (told.hub.sent ≡ room.hub.sent ++ lines) × (stream_rooms.take_callback_end vm own end lines h room ≡ stream_rooms.after_callback vm own end h.effects told)
