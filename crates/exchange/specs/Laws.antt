-- What holds of every exchange.
use Rattle.std.specs.Prelude.{◌≡◌, ℕ, Bool, true, false, not, ◌||◌, List, filter}
use Rattle.std.specs.List.{list_all}
use Rattle.filter_chain.specs.declared.item.ChainItem.{ChainItem}
use Rattle.filter_chain.specs.declared.item.ChainItem.TheVariants.{Head, Piece, Trailers}
use Rattle.gate_io.specs.declared.event.Side.TheVariants.{Down, Up}
use Rattle.http_header.specs.Token.{lowercase}
use Rattle.h1_model.specs.ChunkWire.{body_end}
use Rattle.h1_model.specs.Fields.{Pair, is_listed}
use Rattle.h1_model.specs.Framing.{by_chunks}
use Rattle.h1_model.specs.Wire.{is_left_out}
use Rattle.exchange.specs.declared.types.Exchange.{Exchange}
use Rattle.exchange.specs.declared.types.Hub.{Hub}
use Rattle.exchange.specs.Heads.{lacks_body}
use Rattle.exchange.specs.Leaving.{bytes_sent_to, hub_with_sent, request_framing, written_framing, send_request_item, send_response_item}
use Rattle.exchange.specs.Maps.{request_map, response_map, request_trailers, response_trailers}
use Rattle.exchange.specs.Passing.{put_all_to_chain}

-- NOTHING FOLLOWS AN ANSWER: whatever more is read of a request that was answered, nothing becomes of it
abbrev pub NothingFollowsAnAnswer : Type 0
NothingFollowsAnAnswer =
    (n : ℕ) (items : List ChainItem) (x : Exchange) (hub : Hub) → x.is_answered ≡ true → put_all_to_chain false n items (x, hub) ≡ (x, hub)

-- NO BODY GOES DOWN where the client sent HEAD, or the status that went out allows none: what leaves after the head sends nothing, and the
-- exchange ends with its end
pub record NoBodyGoesDown : Type 0 where
  pub pieces : (n : ℕ) (bytes : List ℕ) (end : Bool) (x : Exchange) (hub : Hub) → lacks_body x.asked.is_head x.out ≡ true
      → send_response_item n (Piece bytes end) x hub ≡ (record x { has_ended = end }, hub)
  pub trailers : (n : ℕ) (x : Exchange) (hub : Hub) → lacks_body x.asked.is_head x.out ≡ true
      → send_response_item n Trailers x hub ≡ (record x { has_ended = true }, hub)

-- These lines are what goes out of trailers after a head with these fields: none of them has a name that a Connection field of the head lists, in
-- any case of letters; and they are all the trailers, in order, that none lists and that go out behind any head.
pub record IsUnlisted (head trailers lines : List Pair) : Type 0 where
  pub unlisted : list_all (λ (f : Pair). not (is_listed (lowercase f.0) head)) lines ≡ true
  pub all : lines ≡ filter (λ (f : Pair). not (is_listed (lowercase f.0) head || is_left_out trailers (lowercase f.0))) trailers

-- NO TRAILER GOES OUT THAT THE HEAD'S CONNECTION LISTS (RFC 9110, section 7.6.1), as the head stood when it was written, whatever became of the
-- maps and of the exchange since then, where it still keeps what that head listed. What leaves between the two lets that be.
pub record NoListedTrailerGoesOut : Type 0 where
  pub up_lines : (n : ℕ) (end : Bool) (x later : Exchange) (hub after : Hub) → later.connection_up ≡ (send_request_item n (Head end) x hub).0.connection_up → request_framing later ≡ by_chunks
      → (lines : List Pair) × IsUnlisted (request_map x.place hub.contexts).pairs (request_trailers later.place after.contexts).pairs lines
      × ((send_request_item n Trailers later after).1 ≡ hub_with_sent (bytes_sent_to n Up (body_end lines)) after)
  pub down_lines : (n : ℕ) (end : Bool) (x later : Exchange) (hub after : Hub) → later.connection_down ≡ (send_response_item n (Head end) x hub).0.connection_down
      → written_framing later ≡ by_chunks
      → (lines : List Pair) × IsUnlisted (response_map x.place hub.contexts).pairs (response_trailers later.place after.contexts).pairs lines
      × ((send_response_item n Trailers later after).1 ≡ hub_with_sent (bytes_sent_to n Down (body_end lines)) after)
  pub up_keeps : (n : ℕ) (bytes : List ℕ) (end : Bool) (x : Exchange) (hub : Hub) → (send_request_item n (Piece bytes end) x hub).0.connection_up ≡ x.connection_up
  pub down_keeps : (n : ℕ) (bytes : List ℕ) (end : Bool) (x : Exchange) (hub : Hub) → (send_response_item n (Piece bytes end) x hub).0.connection_down ≡ x.connection_down
