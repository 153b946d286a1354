-- BODIES GO ON AS THEY CAME: what goes out of a body that passes no stage is read as the body that came.
use Rattle.std.specs.List.{flat_map}
use Rattle.std.specs.Prelude.{◌≡◌, ℕ, ◌==◌, Bool, true, false, ◌&&◌, List, [], ◌∷◌, ◌++◌, map, Option, if◌then◌else◌}
use Rattle.exchange.specs.declared.types.Exchange.{Exchange}
use Rattle.exchange.specs.declared.types.Hub.{Hub}
use Rattle.exchange.specs.Heads.{with_connection}
use Rattle.exchange.specs.Leaving.{request_framing, written_framing}
use Rattle.exchange.specs.Maps.{request_trailers, response_trailers}
use Rattle.exchange.specs.Passing.{put_all_to_chain}
use Rattle.filter_chain.specs.declared.item.ChainItem.{ChainItem}
use Rattle.filter_chain.specs.declared.item.ChainItem.TheVariants.{Piece, Trailers}
use Rattle.gate_io.specs.declared.event.Sent.{Sent}
use Rattle.gate_io.specs.declared.event.Sent.TheVariants as to
use Rattle.gate_io.specs.declared.event.Side.{Side}
use Rattle.gate_io.specs.declared.event.Side.TheVariants.{Down, Up}
use Rattle.h1_model.specs.Fields.{Pair}
use Rattle.h1_model.specs.Framing.{Framing}
use Rattle.h1_model.specs.Messages.{due_behind, due_next}
use Rattle.h1_write.specs.Round.{Ending, last_bytes, last_trailers, Suits, length_said, items_read, ReadsAs}

-- ---- the bytes for one side of a line

-- both are the client's, or both the server's
abbrev pub is_same_side : Side → Side → Bool
is_same_side Down Down = true
is_same_side Down Up = false
is_same_side Up Down = false
is_same_side Up Up = true

-- those of one thing that is sent
abbrev pub bytes_of : ℕ → Side → Sent → List ℕ
bytes_of n side (to.Connect m) = []
bytes_of n side (to.Bytes m s bytes) = if (n == m) && is_same_side side s then bytes else []
bytes_of n side (to.Close m s) = []
bytes_of n side (to.Log level text) = []

-- all of them, among what is sent
abbrev pub bytes_over : ℕ → Side → List Sent → List ℕ
bytes_over n side sent = flat_map (bytes_of n side) sent

-- ---- a body as a reader hands it on

-- its end comes with its last bytes, or as trailers
abbrev pub last_of : Ending → ChainItem
last_of (last_bytes bytes) = Piece bytes true
last_of (last_trailers fields) = Trailers

-- pieces of it, and its end
abbrev pub items_of : List (List ℕ) → Ending → List ChainItem
items_of pieces ending = map (λ bytes. Piece bytes false) pieces ++ last_of ending ∷ []

-- the trailers, if it ends with some, are these
abbrev pub HasTrailers : List Pair → Ending → Type 0
HasTrailers pairs (last_bytes bytes) = Unit {0}
HasTrailers pairs (last_trailers fields) = fields.pairs ≡ pairs

-- ---- the law

-- Behind what was sent before, these bytes alone go over this side of the line. Who reads them in any text, where a body that is framed so is due, reads the bytes
-- of the pieces, joined and in order, and then the end of the body or its trailers, and nothing else. (`asked` is the method that a response answers, and none in
-- a text of requests. Of the trailers those are left that the head's Connection fields do not list.)
pub record GoesOutAs (n : ℕ) (side : Side) (framing : Framing) (pieces : List (List ℕ)) (ending : Ending) (before after : List Sent) : Type 0 where
  pub wire : List ℕ
  pub adds : bytes_over n side after ≡ bytes_over n side before ++ wire
  pub reads : (ended : Bool) (asked : Option (List ℕ)) (connection : List (List ℕ)) (front behind : List ℕ) → Suits framing pieces ending ended behind
      → ReadsAs ended asked (due_behind (due_next asked) connection (length_said framing)) front wire behind (items_read asked connection (length_said framing) pieces ending) (due_next asked)

-- WHAT GOES DOWN IS WHAT CAME UP, and what goes up is what came. The framing is that by which the bodies of the exchange are written.
pub record BodiesGoOnAsTheyCame : Type 0 where
  -- the body of a response, of an exchange that runs and has no stage that the response passes
  pub down : (n : ℕ) (pieces : List (List ℕ)) (ending : Ending) (x : Exchange) (hub : Hub) → x.response ≡ [] → x.has_ended ≡ false
      → HasTrailers (with_connection x.connection_down (response_trailers x.place hub.contexts).pairs) ending
      → GoesOutAs n Down (written_framing x) pieces ending hub.sent (put_all_to_chain true n (items_of pieces ending) (x, hub)).1.sent
  -- the body of a request, of one that was not answered either and has no stage that the request passes
  pub up : (n : ℕ) (pieces : List (List ℕ)) (ending : Ending) (x : Exchange) (hub : Hub) → x.request ≡ [] → x.has_ended ≡ false → x.is_answered ≡ false
      → HasTrailers (with_connection x.connection_up (request_trailers x.place hub.contexts).pairs) ending
      → GoesOutAs n Up (request_framing x) pieces ending hub.sent (put_all_to_chain false n (items_of pieces ending) (x, hub)).1.sent
  -- what comes in two batches comes as in one
  pub batches : (response : Bool) (n : ℕ) (first later : List ChainItem) (x : Exchange) (hub : Hub)
      → put_all_to_chain response n (first ++ later) (x, hub) ≡ put_all_to_chain response n later (put_all_to_chain response n first (x, hub))
