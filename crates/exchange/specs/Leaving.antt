-- What leaves the chains of an exchange, and what is sent then.
use Rattle.std.specs.Prelude.{ℕ, Bool, true, false, not, ◌&&◌, List, [], ◌∷◌, ◌++◌, Option, None, Some, nat_le, if◌then◌else◌}
use Rattle.filter_chain.specs.declared.item.ChainItem.{ChainItem}
use Rattle.filter_chain.specs.declared.item.ChainItem.TheVariants.{Head, Piece, Trailers}
use Rattle.gate_io.specs.declared.event.Sent.{Sent}
use Rattle.gate_io.specs.declared.event.Sent.TheVariants.{Connect, Bytes}
use Rattle.gate_io.specs.declared.event.Side.{Side}
use Rattle.gate_io.specs.declared.event.Side.TheVariants.{Down, Up}
use Rattle.h1_model.specs.Framing.{Framing, head_wire, piece_wire, trailer_wire}
use Rattle.h1_model.specs.Unread.{new_reading}
use Rattle.exchange.specs.declared.types.Exchange.{Exchange}
use Rattle.exchange.specs.declared.types.Hub.{Hub}
use Rattle.exchange.specs.Heads.{sent_head, up_tail, down_tail, connection_fields, with_connection, up_framing, down_framing, body_framing, asked_by, is_head, status_in, is_by_close, may_stay}
use Rattle.exchange.specs.Maps.{request_map, response_map, request_trailers, response_trailers}

-- bytes for a side, if there are any
abbrev pub bytes_sent_to : ℕ → Side → List ℕ → List Sent
bytes_sent_to number side [] = []
bytes_sent_to number side (b ∷ bytes) = Bytes number side (b ∷ bytes) ∷ []

-- this is sent after what was sent
abbrev pub hub_with_sent : List Sent → Hub → Hub
hub_with_sent more hub = record hub { sent = hub.sent ++ more }

-- ---- what leaves the chain of the request goes up

abbrev pub request_framing : Exchange → Framing
request_framing x = up_framing x.filters_requests x.asked

-- With the head a connection is opened, over which the response comes. What its Connection fields list goes out as no trailer after it.
abbrev pub send_request_item : ℕ → ChainItem → Exchange → Hub → Exchange × Hub
send_request_item n (Head end) x hub = (
  record x {
    reader = Some (new_reading (Some (asked_by (request_map x.place hub.contexts))));
    is_head_up = is_head (request_map x.place hub.contexts);
    connection_up = connection_fields (request_map x.place hub.contexts);
  },
  hub_with_sent (Connect n ∷ bytes_sent_to n Up (head_wire (request_framing x) (sent_head (request_map x.place hub.contexts) (up_tail x.asked.minor)))) hub,
)
send_request_item n (Piece bytes end) x hub = (x, hub_with_sent (bytes_sent_to n Up (piece_wire (request_framing x) bytes end)) hub)
send_request_item n Trailers x hub = (x, hub_with_sent (bytes_sent_to n Up (trailer_wire (request_framing x) (with_connection x.connection_up (request_trailers x.place hub.contexts).pairs))) hub)

-- ---- what leaves the chain of the response goes down

-- the framing that the head of the response tells, once it went out
abbrev pub out_framing : Exchange → Framing
out_framing x = down_framing x.filters_responses x.asked x.told x.out

-- that by which its body is written
abbrev pub written_framing : Exchange → Framing
written_framing x = body_framing x.asked x.out (out_framing x)

-- the line stays open after it
abbrev pub stays_behind : Exchange → Framing → Bool
stays_behind x framing = (may_stay x.asked && not x.closes) && not (is_by_close framing)

abbrev pub with_out : Option ℕ → Exchange → Exchange
with_out status x = record x { out = status }

-- The head settles how the response is framed, and whether the line stays open. The end of the exchange is due where the response is whole.
abbrev pub send_response_head : ℕ → Bool → Exchange → Hub → Exchange × Hub
send_response_head n end x hub = (
  record x { is_head_out = true; stays = stays_behind x (out_framing x); has_ended = end; connection_down = connection_fields (response_map x.place hub.contexts) },
  hub_with_sent (bytes_sent_to n Down (head_wire (out_framing x) (sent_head (response_map x.place hub.contexts)
      (down_tail (stays_behind x (out_framing x)) hub.moment (response_map x.place hub.contexts))))) hub,
)

abbrev pub send_response_item : ℕ → ChainItem → Exchange → Hub → Exchange × Hub
send_response_item n (Head end) x hub = send_response_head n end (with_out (status_in (response_map x.place hub.contexts)) x) hub
send_response_item n (Piece bytes end) x hub = (record x { has_ended = end }, hub_with_sent (bytes_sent_to n Down (piece_wire (written_framing x) bytes end)) hub)
send_response_item n Trailers x hub = (record x { has_ended = true }, hub_with_sent (bytes_sent_to n Down (trailer_wire (written_framing x) (with_connection x.connection_down (response_trailers x.place hub.contexts).pairs))) hub)

-- ---- one item after another, unless the exchange has ended

abbrev pub send_item : Bool → ℕ → ChainItem → Exchange × Hub → Exchange × Hub
send_item false n item (x, hub) = if x.has_ended then (x, hub) else send_request_item n item x hub
send_item true n item (x, hub) = if x.has_ended then (x, hub) else send_response_item n item x hub

abbrev pub send_items : Bool → ℕ → List ChainItem → Exchange × Hub → Exchange × Hub
send_items response n [] xh = xh
send_items response n (item ∷ items) xh = send_items response n items (send_item response n item xh)

-- the head of the response is due at a moment, and was neither read nor answered for
abbrev pub is_due_at : ℕ → Option ℕ → Exchange → Bool
is_due_at now None x = false
is_due_at now (Some due) x = ((nat_le due now && not x.is_headed) && not x.is_answered) && not x.has_ended

abbrev pub is_due : ℕ → Exchange → Bool
is_due now x = is_due_at now x.due x
