-- How an exchange is answered by the gateway or by a filter.
use Rattle.std.specs.Prelude.{ℕ, Bool, true, false, not, ◌&&◌, ◌||◌, ◌-◌, List, [], length, drop, if◌then◌else◌}
use Rattle.contexts.specs.declared.parts.Contexts.{Contexts}
use Rattle.filter_chain.specs.declared.stage.Stage.{Stage}
use Rattle.filter_chain.specs.declared.item.ChainItem.{ChainItem}
use Rattle.filter_chain.specs.declared.item.ChainItem.TheVariants.{Head, Piece}
use Rattle.filter_chain.specs.declared.item.PassOutcome.{PassOutcome}
use Rattle.filter_chain.specs.declared.item.PassOutcome.TheVariants as passed
use Rattle.filter_chain.specs.Chains.{put, reach_count, without_buffers}
use Rattle.gate_io.specs.declared.event.Side.TheVariants.{Down}
use Rattle.h1_model.specs.Fields.{Pair}
use Rattle.h1_model.specs.LocalReply.{local_reply_of}
use Rattle.exchange.specs.declared.types.Exchange.{Exchange}
use Rattle.exchange.specs.declared.types.Hub.{Hub}
use Rattle.exchange.specs.Heads.{is_bare, may_stay, is_final, answer_of}
use Rattle.exchange.specs.Maps.{put_response, answer_map}
use Rattle.exchange.specs.Leaving.{bytes_sent_to, hub_with_sent, send_items}

-- what the stages of both directions held is dropped
abbrev pub none_held : Exchange → Hub → Hub
none_held x hub = record hub { contexts = without_buffers (without_buffers hub.contexts x.request) x.response }

-- both connections are closed, since there is nothing more to say on the client's; no stage is left
abbrev pub cut_off : Exchange → Hub → Exchange × Hub
cut_off x hub = (record x { request = []; response = []; has_ended = true; stays = false }, none_held x hub)

-- the line stays open after an answer
abbrev pub stays_open : Exchange → Bool
stays_open x = may_stay x.asked && not x.closes

-- AN ANSWER THAT PASSES NO STAGE ends the exchange, and no stage is left. Where a response head went down before, both connections are
-- closed instead. (The status is one of a final response.)
abbrev pub answer_directly : ℕ → ℕ → List Pair → List ℕ → Exchange → Hub → Exchange × Hub
answer_directly n status fields body x hub =
    if x.is_head_out || not (is_final status) then cut_off x hub
    else (
      record x { request = []; response = []; is_head_out = true; has_ended = true; stays = stays_open x },
      hub_with_sent (bytes_sent_to n Down (local_reply_of status fields body x.asked.is_head (not (stays_open x)) hub.moment)) (none_held x hub),
    )

-- ---- what comes of passing items on in the chain of the response

abbrev pub with_held : Contexts → Hub → Hub
with_held contexts hub = record hub { contexts = contexts }

-- too much is 500
abbrev pub finish_response_put : ℕ → PassOutcome → Exchange → Hub → Exchange × Hub
finish_response_put n passed.Over x hub = answer_directly n 500 [] [] x hub
finish_response_put n (passed.Left items) x hub = send_items true n items (x, hub)

abbrev pub take_response_put : ℕ → Exchange → Hub → PassOutcome × List Stage → Exchange × Hub
take_response_put n x hub (p, stages) = finish_response_put n p (record x { response = stages }) hub

abbrev pub put_response_item : ℕ → ChainItem → Exchange × Hub → Exchange × Hub
put_response_item n item (x, hub) = if x.has_ended then (x, hub) else take_response_put n x hub (put hub.contexts item x.response)

-- ---- an answer that passes stages

-- the response stages of the filters that were reached: those that the request's head was asked of, or that it passed
abbrev pub reached_of : Exchange → List Stage
reached_of x = drop (length x.response - (if x.is_entered then reach_count x.request else 0)) x.response

-- its request goes no further, and what is told of its response is what the answer says
abbrev pub exchange_with_answer : ℕ → List ℕ → Exchange → Exchange
exchange_with_answer status body x = record x { request = []; response = reached_of x; told = answer_of x.asked status body; is_answered = true }

-- what the stages of the request held is dropped
abbrev pub with_answer : ℕ → List Pair → Exchange → Hub → Hub
with_answer status fields x hub = record hub { contexts = without_buffers (put_response (answer_map status fields) x.place hub.contexts) x.request }

-- a head with an end flag exactly where no body is sent, and then the body as one piece
abbrev pub put_answer : ℕ → List ℕ → Exchange × Hub → Exchange × Hub
put_answer n body (x, hub) =
    if is_bare x.told.length then put_response_item n (Head true) (x, hub)
    else put_response_item n (Piece body true) (put_response_item n (Head false) (x, hub))

-- AN ANSWER THAT PASSES THE RESPONSE STAGES of the filters that were reached
abbrev pub answer_through_stages : ℕ → ℕ → List Pair → List ℕ → Exchange → Hub → Exchange × Hub
answer_through_stages n status fields body x hub = put_answer n body (exchange_with_answer status body x, with_answer status fields x hub)

-- ---- which of the two

abbrev pub with_closes : Bool → Exchange → Exchange
with_closes closes x = record x { closes = x.closes || closes }

-- An answer passes no stage where a response head went down, or the final head of the server's response was read. (Its status is one of a
-- final response.)
abbrev pub is_direct : ℕ → Exchange → Bool
is_direct status x = (x.is_head_out || x.is_headed) || not (is_final status)

abbrev pub answer_open : ℕ → ℕ → List Pair → List ℕ → Exchange → Hub → Exchange × Hub
answer_open n status fields body x hub =
    if is_direct status x then answer_directly n status fields body x hub
    else answer_through_stages n status fields body x hub

-- A LOCAL RESPONSE, or a fixed answer that passes stages. An exchange is answered once.
abbrev pub answer : ℕ → Bool → ℕ → List Pair → List ℕ → Exchange → Hub → Exchange × Hub
answer n closes status fields body x hub =
    if x.has_ended || x.is_answered then (x, hub) else answer_open n status fields body (with_closes closes x) hub
