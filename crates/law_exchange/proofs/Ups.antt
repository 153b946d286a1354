-- What is read of the request goes up as it is, where the exchange is not over.
use Rattle.std.proofs.Common.{◌≡◌, ℕ, Bool, true, false, ◌||◌, List, [], ◌∷◌, ◌++◌, map, refl, ap, ◌∙◌, sym, subst}
use Rattle.std.proofs.lemmas.List.{append-nil, append_assoc}
use Rattle.std.specs.Prelude.{if◌then◌else◌}
use Rattle.exchange.specs.declared.types.Exchange.{Exchange}
use Rattle.exchange.specs.declared.types.Hub.{Hub}
use Rattle.exchange.specs.Heads.{sent_head, up_tail, with_connection}
use Rattle.exchange.specs.Leaving.{bytes_sent_to, request_framing, send_request_item}
use Rattle.exchange.specs.Maps.{request_map, request_trailers}
use Rattle.exchange.specs.Passing.{take_put, put_to_chain, put_all_to_chain, put_read_items, takes_nothing}
use Rattle.filter_chain.specs.declared.item.ChainItem.{ChainItem}
use Rattle.filter_chain.specs.declared.item.ChainItem.TheVariants.{Head, Piece, Trailers}
use Rattle.filter_chain.specs.declared.stage.Stage.{Stage}
use Rattle.filter_chain.specs.Chains.{put}
use Rattle.gate_io.specs.declared.event.Sent.TheVariants.{Connect}
use Rattle.gate_io.specs.declared.event.Side.TheVariants.{Up}
use Rattle.h1_model.specs.Framing.{head_wire, piece_wire, trailer_wire}
use Rattle.law_exchange.specs.Lives.{is_over, out_item, items_out, all_out, connection_behind}
use Rattle.law_exchange.specs.Traffic.{opens, byte, up_traffic, item_traffic, traffic}
use Rattle.law_exchange.proofs.Traffic.{here, up_is_all, adds}

-- these items went up of an exchange, which is as before but for what comes back from the server
pub record GoesUp (n : ℕ) (x : Exchange) (hub : Hub) (items : List ChainItem) (y : Exchange) (after : Hub) : Type 0 where
  pub sent : up_traffic n after.sent ≡ up_traffic n hub.sent ++ traffic (request_framing x) (items_out x hub items)
  pub unfiltered : y.request ≡ []
  pub framed : request_framing y ≡ request_framing x
  pub ended : y.has_ended ≡ x.has_ended
  pub answered : y.is_answered ≡ x.is_answered

abbrev pub no_stage : Exchange → Exchange
no_stage x = record x { request = [] }

-- an item by itself
item_up : (n : ℕ) (item : ChainItem) (x : Exchange) (hub : Hub) → up_traffic n (send_request_item n item x hub).1.sent ≡ up_traffic n hub.sent ++ item_traffic (request_framing x) (out_item x hub item)
item_up n (Head end) x hub =
    let bytes : List ℕ = head_wire (request_framing x) (sent_head (request_map x.place hub.contexts) (up_tail x.asked.minor)) in
    adds n hub.sent (Connect n ∷ bytes_sent_to n Up bytes) (opens ∷ map byte bytes) (λ i. here n (opens ∷ []) i ++ up_is_all n bytes i)
item_up n (Piece bytes end) x hub = adds n hub.sent (bytes_sent_to n Up (piece_wire (request_framing x) bytes end)) (map byte (piece_wire (request_framing x) bytes end)) (up_is_all n (piece_wire (request_framing x) bytes end))
item_up n Trailers x hub =
    let bytes : List ℕ = trailer_wire (request_framing x) (with_connection x.connection_up (request_trailers x.place hub.contexts).pairs) in
    adds n hub.sent (bytes_sent_to n Up bytes) (map byte bytes) (up_is_all n bytes)

open_takes : (x : Exchange) → x.has_ended ≡ false → x.is_answered ≡ false → takes_nothing false x ≡ false
open_takes x live live_too = λ i. live i || live_too i

pub puts_is : (n : ℕ) (item : ChainItem) (x : Exchange) (hub : Hub) → x.request ≡ [] → x.has_ended ≡ false → x.is_answered ≡ false
    → put_to_chain false n item (x, hub) ≡ send_request_item n item (no_stage x) hub
puts_is n item x hub is live live_too =
    ap (λ b. if b then (x, hub) else take_put false n x hub (put hub.contexts item x.request)) (open_takes x live live_too)
    ∙ (ap (λ (s : List Stage). take_put false n x hub (put hub.contexts item s)) is
    ∙ ap (λ b. if b then (no_stage x, hub) else send_request_item n item (no_stage x) hub) live)

joined : (n : ℕ) (item : ChainItem) (items : List ChainItem) (x y : Exchange) (hub mid : Hub) → up_traffic n mid.sent ≡ up_traffic n hub.sent ++ item_traffic (request_framing x) (out_item x hub item)
    → y.has_ended ≡ x.has_ended → y.is_answered ≡ x.is_answered → request_framing y ≡ request_framing x → items_out y mid items ≡ all_out x.place x.asked.minor hub.contexts (connection_behind x.place hub.contexts x.connection_up item) items
    → (z : Exchange) (after : Hub) → GoesUp n y mid items z after → GoesUp n x hub (item ∷ items) z after
joined n item items x y hub mid sent ended answered framed same z after later = record {
  sent =
      later.sent
      ∙ ((λ i. sent i ++ traffic (framed i) (same i))
      ∙ append_assoc (up_traffic n hub.sent) (item_traffic (request_framing x) (out_item x hub item)) (traffic (request_framing x) (all_out x.place x.asked.minor hub.contexts (connection_behind x.place hub.contexts x.connection_up item) items)));
  unfiltered = later.unfiltered;
  framed = later.framed ∙ framed;
  ended = later.ended ∙ ended;
  answered = later.answered ∙ answered;
}

pub all_up : (n : ℕ) (items : List ChainItem) (x : Exchange) (hub : Hub) → x.request ≡ [] → x.has_ended ≡ false → x.is_answered ≡ false
    → GoesUp n x hub items (put_all_to_chain false n items (x, hub)).0 (put_all_to_chain false n items (x, hub)).1
all_up n [] x hub is live live_too = record { sent = sym (append-nil (up_traffic n hub.sent)); unfiltered = is; framed = refl; ended = refl; answered = refl }
all_up n (item ∷ items) x hub is live live_too =
    subst (λ (p : Exchange × Hub). GoesUp n x hub (item ∷ items) (put_all_to_chain false n items p).0 (put_all_to_chain false n items p).1) (sym (puts_is n item x hub is live live_too))
    (by_item (λ y mid unstaged unended unanswered. all_up n items y mid unstaged unended unanswered) item)
  where
    by_item : ((y : Exchange) (mid : Hub) → y.request ≡ [] → y.has_ended ≡ false → y.is_answered ≡ false → GoesUp n y mid items (put_all_to_chain false n items (y, mid)).0 (put_all_to_chain false n items (y, mid)).1)
        → (item : ChainItem) → GoesUp n x hub (item ∷ items) (put_all_to_chain false n items (send_request_item n item (no_stage x) hub)).0 (put_all_to_chain false n items (send_request_item n item (no_stage x) hub)).1
    by_item later (Head end) =
        let p : Exchange × Hub = send_request_item n (Head end) (no_stage x) hub in
        let last : Exchange × Hub = put_all_to_chain false n items p in
        joined n (Head end) items x p.0 hub p.1 (item_up n (Head end) (no_stage x) hub) refl refl refl refl last.0 last.1 (later p.0 p.1 refl live live_too)
    by_item later (Piece bytes end) =
        let p : Exchange × Hub = send_request_item n (Piece bytes end) (no_stage x) hub in
        let last : Exchange × Hub = put_all_to_chain false n items p in
        joined n (Piece bytes end) items x p.0 hub p.1 (item_up n (Piece bytes end) (no_stage x) hub) refl refl refl refl last.0 last.1 (later p.0 p.1 refl live live_too)
    by_item later Trailers =
        let p : Exchange × Hub = send_request_item n Trailers (no_stage x) hub in
        let last : Exchange × Hub = put_all_to_chain false n items p in
        joined n Trailers items x p.0 hub p.1 (item_up n Trailers (no_stage x) hub) refl refl refl refl last.0 last.1 (later p.0 p.1 refl live live_too)

-- once it is over, nothing becomes of what is read
pub none_up : (n : ℕ) (items : List ChainItem) (x : Exchange) (hub : Hub) → is_over x ≡ true → put_all_to_chain false n items (x, hub) ≡ (x, hub)
none_up n [] x hub over = refl
none_up n (item ∷ items) x hub over =
    ap (put_all_to_chain false n items) (ap (λ b. if b then (x, hub) else take_put false n x hub (put hub.contexts item x.request)) over) ∙ none_up n items x hub over

pub comes_over : (n : ℕ) (items : List ChainItem) (x : Exchange) (hub : Hub) → is_over x ≡ true → put_read_items false items n x hub ≡ (x, hub)
comes_over n items x hub over = by_answer x.is_answered
  where
    by_answer : (b : Bool) → (if b then (x, hub) else put_all_to_chain false n items (x, hub)) ≡ (x, hub)
    by_answer true = refl
    by_answer false = none_up n items x hub over

pub comes_open : (n : ℕ) (items : List ChainItem) (x : Exchange) (hub : Hub) → x.is_answered ≡ false → put_read_items false items n x hub ≡ put_all_to_chain false n items (x, hub)
comes_open n items x hub live = ap (λ b. if b then (x, hub) else put_all_to_chain false n items (x, hub)) live
