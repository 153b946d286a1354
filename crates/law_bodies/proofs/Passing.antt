-- Bodies go on as they came.
use Rattle.std.proofs.Common.{◌≡◌, ℕ, ◌==◌, Bool, true, false, ◌||◌, ◌&&◌, List, [], ◌∷◌, ◌++◌, refl, ap, ◌∙◌, sym, eq-eqb}
use Rattle.std.proofs.lemmas.Grind.{flat_map-append}
use Rattle.std.proofs.lemmas.List.{append-nil, append_assoc}
use Rattle.std.specs.Prelude.{if◌then◌else◌}
use Rattle.exchange.specs.declared.types.Exchange.{Exchange}
use Rattle.exchange.specs.declared.types.Hub.{Hub}
use Rattle.exchange.specs.Heads.{with_connection}
use Rattle.exchange.specs.Leaving.{bytes_sent_to, request_framing, written_framing, send_request_item, send_response_item}
use Rattle.exchange.specs.Maps.{request_trailers, response_trailers}
use Rattle.exchange.specs.Passing.{put_all_to_chain, put_to_chain, take_put}
use Rattle.filter_chain.specs.declared.item.ChainItem.{ChainItem}
use Rattle.filter_chain.specs.declared.item.ChainItem.TheVariants.{Piece}
use Rattle.filter_chain.specs.declared.stage.Stage.{Stage}
use Rattle.filter_chain.specs.Chains.{put}
use Rattle.gate_io.specs.declared.event.Sent.{Sent}
use Rattle.gate_io.specs.declared.event.Side.{Side}
use Rattle.gate_io.specs.declared.event.Side.TheVariants.{Down, Up}
use Rattle.h1_model.specs.Fields.{Pair}
use Rattle.h1_model.specs.Framing.{Framing, items_wire, piece_wire, trailer_wire}
use Rattle.h1_write.specs.Round.{Ending, last_bytes, last_trailers, body_items, BodyReadBack}
use Rattle.law_bodies.specs.Bodies.{is_same_side, bytes_of, bytes_over, last_of, items_of, HasTrailers, BodiesGoOnAsTheyCame}

-- ---- what is sent

same_side : (side : Side) → is_same_side side side ≡ true
same_side Down = refl
same_side Up = refl

here : (n : ℕ) (side : Side) (bytes : List ℕ) → bytes_over n side (bytes_sent_to n side bytes) ≡ bytes
here n side [] = refl
here n side (b ∷ bytes) =
    append-nil (if (n == n) && is_same_side side side then b ∷ bytes else [])
    ∙ (ap (λ c. if c && is_same_side side side then b ∷ bytes else []) (eq-eqb n n refl) ∙ ap (λ c. if c then b ∷ bytes else []) (same_side side))

adds : (n : ℕ) (side : Side) (before : List Sent) (bytes : List ℕ) → bytes_over n side (before ++ bytes_sent_to n side bytes) ≡ bytes_over n side before ++ bytes
adds n side before bytes = flat_map-append (bytes_of n side) before (bytes_sent_to n side bytes) ∙ ap (λ t. bytes_over n side before ++ t) (here n side bytes)

-- ---- an item by itself

abbrev unstaged : Bool → Exchange → Exchange
unstaged false x = record x { request = [] }
unstaged true x = record x { response = [] }

down_is : (n : ℕ) (item : ChainItem) (x : Exchange) (hub : Hub) → x.response ≡ [] → x.has_ended ≡ false → put_to_chain true n item (x, hub) ≡ send_response_item n item (unstaged true x) hub
down_is n item x hub none running =
    ap (λ b. if b || false then (x, hub) else take_put true n x hub (put hub.contexts item x.response)) running
    ∙ (ap (λ (s : List Stage). take_put true n x hub (put hub.contexts item s)) none
    ∙ ap (λ b. if b then (unstaged true x, hub) else send_response_item n item (unstaged true x) hub) running)

up_is : (n : ℕ) (item : ChainItem) (x : Exchange) (hub : Hub) → x.request ≡ [] → x.has_ended ≡ false → x.is_answered ≡ false → put_to_chain false n item (x, hub) ≡ send_request_item n item (unstaged false x) hub
up_is n item x hub none running unanswered =
    ap (λ b. if b then (x, hub) else take_put false n x hub (put hub.contexts item x.request)) (λ i. running i || unanswered i)
    ∙ (ap (λ (s : List Stage). take_put false n x hub (put hub.contexts item s)) none
    ∙ ap (λ b. if b then (unstaged false x, hub) else send_request_item n item (unstaged false x) hub) running)

-- ---- all of a body

-- those of its end
end_wire : Framing → List Pair → Ending → List ℕ
end_wire framing pairs (last_bytes bytes) = piece_wire framing bytes true
end_wire framing pairs (last_trailers fields) = trailer_wire framing pairs

end_is : (framing : Framing) (pairs : List Pair) (ending : Ending) → HasTrailers pairs ending → items_wire framing (body_items [] ending) ≡ end_wire framing pairs ending
unfolding end_wire
end_is framing pairs (last_bytes bytes) has = append-nil (piece_wire framing bytes true)
end_is framing pairs (last_trailers fields) has = append-nil (trailer_wire framing fields.pairs) ∙ ap (trailer_wire framing) has

joined : (before first later all : List ℕ) → all ≡ (before ++ first) ++ later → all ≡ before ++ (first ++ later)
joined before first later all is = is ∙ append_assoc before first later

down_last : (n : ℕ) (ending : Ending) (x : Exchange) (hub : Hub) → bytes_over n Down (send_response_item n (last_of ending) x hub).1.sent
    ≡ bytes_over n Down hub.sent ++ end_wire (written_framing x) (with_connection x.connection_down (response_trailers x.place hub.contexts).pairs) ending
unfolding end_wire
down_last n (last_bytes bytes) x hub = adds n Down hub.sent (piece_wire (written_framing x) bytes true)
down_last n (last_trailers fields) x hub = adds n Down hub.sent (trailer_wire (written_framing x) (with_connection x.connection_down (response_trailers x.place hub.contexts).pairs))

down_adds : (n : ℕ) (pieces : List (List ℕ)) (ending : Ending) (x : Exchange) (hub : Hub) → x.response ≡ [] → x.has_ended ≡ false
    → HasTrailers (with_connection x.connection_down (response_trailers x.place hub.contexts).pairs) ending
    → bytes_over n Down (put_all_to_chain true n (items_of pieces ending) (x, hub)).1.sent ≡ bytes_over n Down hub.sent ++ items_wire (written_framing x) (body_items pieces ending)
down_adds n [] ending x hub none running has =
    ap (λ (p : Exchange × Hub). bytes_over n Down p.1.sent) (down_is n (last_of ending) x hub none running)
    ∙ (down_last n ending (unstaged true x) hub
    ∙ ap (λ t. bytes_over n Down hub.sent ++ t) (sym (end_is (written_framing x) (with_connection x.connection_down (response_trailers x.place hub.contexts).pairs) ending has)))
down_adds n (bytes ∷ pieces) ending x hub none running has =
    let p : Exchange × Hub = send_response_item n (Piece bytes false) (unstaged true x) hub in
    ap (λ (q : Exchange × Hub). bytes_over n Down (put_all_to_chain true n (items_of pieces ending) q).1.sent) (down_is n (Piece bytes false) x hub none running)
    ∙ joined (bytes_over n Down hub.sent) (piece_wire (written_framing x) bytes false) (items_wire (written_framing x) (body_items pieces ending)) _
    (down_adds n pieces ending p.0 p.1 refl refl has ∙ ap (λ t. t ++ items_wire (written_framing x) (body_items pieces ending)) (adds n Down hub.sent (piece_wire (written_framing x) bytes false)))

up_last : (n : ℕ) (ending : Ending) (x : Exchange) (hub : Hub) → bytes_over n Up (send_request_item n (last_of ending) x hub).1.sent
    ≡ bytes_over n Up hub.sent ++ end_wire (request_framing x) (with_connection x.connection_up (request_trailers x.place hub.contexts).pairs) ending
unfolding end_wire
up_last n (last_bytes bytes) x hub = adds n Up hub.sent (piece_wire (request_framing x) bytes true)
up_last n (last_trailers fields) x hub = adds n Up hub.sent (trailer_wire (request_framing x) (with_connection x.connection_up (request_trailers x.place hub.contexts).pairs))

up_adds : (n : ℕ) (pieces : List (List ℕ)) (ending : Ending) (x : Exchange) (hub : Hub) → x.request ≡ [] → x.has_ended ≡ false → x.is_answered ≡ false
    → HasTrailers (with_connection x.connection_up (request_trailers x.place hub.contexts).pairs) ending
    → bytes_over n Up (put_all_to_chain false n (items_of pieces ending) (x, hub)).1.sent ≡ bytes_over n Up hub.sent ++ items_wire (request_framing x) (body_items pieces ending)
up_adds n [] ending x hub none running unanswered has =
    ap (λ (p : Exchange × Hub). bytes_over n Up p.1.sent) (up_is n (last_of ending) x hub none running unanswered)
    ∙ (up_last n ending (unstaged false x) hub
    ∙ ap (λ t. bytes_over n Up hub.sent ++ t) (sym (end_is (request_framing x) (with_connection x.connection_up (request_trailers x.place hub.contexts).pairs) ending has)))
up_adds n (bytes ∷ pieces) ending x hub none running unanswered has =
    let p : Exchange × Hub = send_request_item n (Piece bytes false) (unstaged false x) hub in
    ap (λ (q : Exchange × Hub). bytes_over n Up (put_all_to_chain false n (items_of pieces ending) q).1.sent) (up_is n (Piece bytes false) x hub none running unanswered)
    ∙ joined (bytes_over n Up hub.sent) (piece_wire (request_framing x) bytes false) (items_wire (request_framing x) (body_items pieces ending)) _
    (up_adds n pieces ending p.0 p.1 refl running unanswered has ∙ ap (λ t. t ++ items_wire (request_framing x) (body_items pieces ending)) (adds n Up hub.sent (piece_wire (request_framing x) bytes false)))

batches : (response : Bool) (n : ℕ) (first later : List ChainItem) (xh : Exchange × Hub) → put_all_to_chain response n (first ++ later) xh ≡ put_all_to_chain response n later (put_all_to_chain response n first xh)
batches response n [] later xh = refl
batches response n (item ∷ first) later xh = batches response n first later (put_to_chain response n item xh)

pub bodies_go_on : BodyReadBack → BodiesGoOnAsTheyCame
bodies_go_on back = record {
  down = λ n pieces ending x hub none running has. record {
    wire = items_wire (written_framing x) (body_items pieces ending);
    adds = down_adds n pieces ending x hub none running has;
    reads = λ ended asked connection front behind suits. back (written_framing x) pieces ending ended asked connection front behind suits;
  };
  up = λ n pieces ending x hub none running unanswered has. record {
    wire = items_wire (request_framing x) (body_items pieces ending);
    adds = up_adds n pieces ending x hub none running unanswered has;
    reads = λ ended asked connection front behind suits. back (request_framing x) pieces ending ended asked connection front behind suits;
  };
  batches = λ response n first later x hub. batches response n first later (x, hub);
}
