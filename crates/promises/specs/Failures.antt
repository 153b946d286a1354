-- What the gateway answers where something fails.
use Rattle.std.specs.Prelude.{◌≡◌, ℕ, true, false, [], slice_get, is_some, Some}
use Rattle.filter_host.specs.declared.host.Death.{Death}
use Rattle.exchange.specs.Answering.{answer_directly}
use Rattle.exchange.specs.Passing.{lose_vm, is_there, refuse_exchange}
use Rattle.exchange.specs.declared.types.Exchange.{Exchange}
use Rattle.exchange.specs.declared.types.Filter.{Filter}
use Rattle.exchange.specs.declared.types.Hub.{Hub}
use Rattle.gate_io.specs.declared.event.Side.TheVariants.{Up}
use Rattle.gate_io.specs.declared.event.What.TheVariants as whats
use Rattle.worker_model.specs.Room.{Room}
use Rattle.worker_model.specs.Rooms.{lose_vm_in, on_number}
use Rattle.worker_model.specs.Steps.{exchange_on, take_event}
use Rattle.worker_model.specs.declared.types.Line.{Line}
use Rattle.worker_model.specs.declared.types.TcpLine.{TcpLine}
use Rattle.streams_model.specs.Lines as streams
use Rattle.streams_model.specs.Rooms as stream_rooms

-- an exchange runs, and has a filter of this VM that fails closed
pub record FailsClosed (vm : ℕ) (x : Exchange) : Type 0 where
  pub runs : x.has_ended ≡ false
  pub place : ℕ
  pub its : Filter
  pub at : slice_get x.filters place ≡ Some its
  pub of_vm : its.vm ≡ vm
  pub is_closed : its.fails_open ≡ false
  pub there : is_there x its ≡ true

-- a stream of bytes runs, and has a filter of this VM that fails closed
pub record StreamFailsClosed (vm : ℕ) (l : TcpLine) : Type 0 where
  pub runs : l.has_ended ≡ false
  pub place : ℕ
  pub its : Filter
  pub at : slice_get l.filters place ≡ Some its
  pub of_vm : its.vm ≡ vm
  pub is_closed : its.fails_open ≡ false
  pub there : streams.is_there l its ≡ true

-- an exchange that was not answered waits for a response that was not read to its end
pub record Waits (x : Exchange) : Type 0 where
  pub has_reader : is_some x.reader ≡ true
  pub unread : x.is_read ≡ false
  pub unanswered : x.is_answered ≡ false

-- WHAT FAILS IS ANSWERED: a filter's VM that dies, and a server that is gone or not reached
pub record FailuresAreAnswered : Type 0 where
  -- Where a VM dies of which a filter fails closed, its exchange is answered with 503 at once (or cut off, where a head of its response went down).
  pub closed : (n vm : ℕ) (x : Exchange) (hub : Hub) → FailsClosed vm x → lose_vm vm n x hub ≡ answer_directly n 503 [] [] x hub
  -- So it is with each line of a worker, when a callback's VM dies.
  pub lines : (vm place : ℕ) (death : Death) (room : Room) (l : Line) (x : Exchange) → slice_get room.lines place ≡ Some l → l.exchange ≡ Some x → FailsClosed vm x
      → (hub : Hub) × (slice_get (lose_vm_in vm death room).lines place ≡ Some (record l { exchange = Some (answer_directly l.number 503 [] [] x hub).0 }))
  -- Where the connection to the server is gone, or was refused, before the response was read, the exchange of the line is answered with 502.
  pub gone : (n : ℕ) (x : Exchange) (room : Room) → exchange_on n room ≡ Some x → Waits x → take_event (whats.Gone n Up) room ≡ on_number (refuse_exchange 502) n room
  -- A stream of bytes comes to its end, on whichever line it is, when a callback's VM dies of which a filter fails closed.
  pub streams : (vm place : ℕ) (death : Death) (room : Room) (l : TcpLine) → slice_get room.tcp place ≡ Some l → StreamFailsClosed vm l
      → (hub : Hub) × (slice_get (stream_rooms.lose_vm_in vm death room).tcp place ≡ Some (streams.in_line streams.close_stream l hub).0)
  pub not_reached : (n : ℕ) (x : Exchange) (room : Room) → exchange_on n room ≡ Some x → Waits x → take_event (whats.Refused n) room ≡ on_number (refuse_exchange 502) n room
