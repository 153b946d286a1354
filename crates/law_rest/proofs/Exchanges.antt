-- WHAT IS DONE TO AN EXCHANGE adds no move to those that it has left, but for items that come and stages that are made.
use Rattle.std.proofs.Common.{◌≡◌, ℕ, zero, suc, ◌+◌, ◌≤◌, Bool, true, false, List, [], ◌∷◌, length, ap, refl, arith}
use Rattle.std.specs.Prelude.{Option, None, Some, slice_get, not, ◌-◌, ◌||◌, ◌==◌, if◌then◌else◌}
use Rattle.contexts.specs.declared.parts.Contexts.{Contexts}
use Rattle.exchange.specs.declared.types.Exchange.{Exchange}
use Rattle.exchange.specs.declared.types.Hub.{Hub}
use Rattle.exchange.specs.Answering.{cut_off, answer_directly, with_held, finish_response_put, take_response_put, put_response_item, reached_of, exchange_with_answer, with_answer, answer_through_stages, with_closes, is_direct, answer_open, answer}
use Rattle.exchange.specs.Heads.{is_bare, is_final, closes_line, passes_filters}
use Rattle.exchange.specs.Leaving.{send_request_item, send_response_item, send_item, send_items, is_due}
use Rattle.exchange.specs.Passing.{chain_of, with_chain, finish_put, take_move, takes_nothing, put_to_chain, put_all_to_chain, resume_held, bypass, put_read_items, stage_of, resume_place, resume_context, close_exchange, pause_held, apply_action, fails_closed, bypass_vm_at, bypass_vm_stages, bypass_vm, lose_vm, refuse_exchange, expire_exchange}
use Rattle.filter_chain.specs.Chains.{put, continued, let_through, reach_count}
use Rattle.filter_chain.specs.Costs.{chain_cost}
use Rattle.filter_chain.specs.declared.item.ChainItem.{ChainItem}
use Rattle.filter_chain.specs.declared.item.ChainItem.TheVariants.{Head, Piece, Trailers}
use Rattle.filter_chain.specs.declared.item.PassOutcome.{PassOutcome}
use Rattle.filter_chain.specs.declared.item.PassOutcome.TheVariants as passed
use Rattle.filter_chain.specs.declared.stage.Stage.{Stage}
use Rattle.filter_chain.proofs.Weights.{put_cost, continued_cost, let_through_cost, put_length, continued_length, let_through_length, drop_cost, drop_fewer}
use Rattle.h1_model.specs.Fields.{Pair}
use Rattle.h1_model.specs.Unread.{Reading}
use Rattle.law_rest.specs.Moves.{for_each, spare_of, spare, chains_left, moves_of, moves_left}
use Rattle.law_rest.proofs.Tests.{of_if, neither, empty_of}

-- how many bytes are unread of what comes from a server
abbrev pub unread_in : Option Reading → ℕ
unread_in None = 0
unread_in (Some r) = length r.unread

-- one that was answered has no stages of its request
abbrev pub IsClear : Exchange → Type 0
IsClear x = x.is_answered ≡ true → x.request ≡ []

-- the second has so many moves more at most, and neither more filters, nor stages, nor bytes unread
pub record Adds (m : ℕ) (x y : Exchange) : Type 0 where
  pub moves : moves_left y ≤ moves_left x + m
  pub filters : length y.filters ≤ length x.filters
  pub request : length y.request ≤ length x.request
  pub response : length y.response ≤ length x.response
  pub unread : unread_in y.reader ≤ unread_in x.reader
  pub clear : IsClear x → IsClear y

pub adds_none : (x : Exchange) → Adds 0 x x
adds_none x = record { moves = omega arith; filters = omega arith; request = omega arith; response = omega arith; unread = omega arith; clear = λ c. c }

pub adds_then : {x y z : Exchange} (m n : ℕ) → Adds m x y → Adds n y z → Adds (m + n) x z
adds_then m n a b = record {
  moves = omega (arith, a.moves, b.moves);
  filters = omega (arith, a.filters, b.filters);
  request = omega (arith, a.request, b.request);
  response = omega (arith, a.response, b.response);
  unread = omega (arith, a.unread, b.unread);
  clear = λ c. b.clear (a.clear c);
}

pub adds_more : {x y : Exchange} (m n : ℕ) → m ≤ n → Adds m x y → Adds n x y
adds_more m n less a =
    record { moves = omega (arith, a.moves, less); filters = a.filters; request = a.request; response = a.response; unread = a.unread; clear = a.clear }

-- ---- numbers

moves_any : (e : Bool) (c s : ℕ) → moves_of e c s ≤ 1 + c + s
moves_any true c s = omega arith
moves_any false c s = omega arith

moves_more : (e : Bool) (c d s m : ℕ) → c ≤ d + m → moves_of e c s ≤ moves_of e d s + m
moves_more true c d s m less = omega arith
moves_more false c d s m less = omega arith

spare_out : (a h : Bool) (n : ℕ) → spare_of a true h n ≡ 0
spare_out true h n = refl
spare_out false h n = refl

pub open_moves : (x : Exchange) → x.has_ended ≡ false → moves_left x ≡ 1 + chains_left x + spare x
open_moves x is = ap (λ (e : Bool). moves_of e (chains_left x) (spare x)) is

-- ---- a chain that is another

pub with_response : (x : Exchange) (stages : List Stage) (m : ℕ) → chain_cost stages ≤ chain_cost x.response + m → length stages ≡ length x.response
    → Adds m x (record x { response = stages })
with_response x stages m less same =
    let s : spare (record x { response = stages }) ≡ spare x = ap (spare_of x.is_answered x.is_head_out x.is_headed) same in
    let a = moves_more x.has_ended (chain_cost x.request + chain_cost stages) (chains_left x) (spare x) m (omega arith) in
    let t : moves_left (record x { response = stages }) ≡ moves_of x.has_ended (chain_cost x.request + chain_cost stages) (spare x)
    = ap (moves_of x.has_ended (chain_cost x.request + chain_cost stages)) s in
    record { moves = omega arith; filters = omega arith; request = omega arith; response = omega arith; unread = omega arith; clear = λ c. c }

pub with_request : (x : Exchange) (stages : List Stage) (m : ℕ) → chain_cost stages ≤ chain_cost x.request + m → length stages ≡ length x.request
    → Adds m x (record x { request = stages })
with_request x stages m less same =
    let a = moves_more x.has_ended (chain_cost stages + chain_cost x.response) (chains_left x) (spare x) m (omega arith) in
    record {
      moves = omega arith;
      filters = omega arith;
      request = omega arith;
      response = omega arith;
      unread = omega arith;
      clear = λ c answered. empty_of stages (let e : length x.request ≡ 0 = ap length (c answered) in omega arith);
    }

-- ---- what leaves

up_adds : (n : ℕ) (item : ChainItem) (x : Exchange) (hub : Hub) → Adds 0 x (send_request_item n item x hub).0
up_adds n (Head end) x hub = record { moves = omega arith; filters = omega arith; request = omega arith; response = omega arith; unread = omega arith; clear = λ c. c }
up_adds n (Piece bytes end) x hub = adds_none x
up_adds n Trailers x hub = adds_none x

down_adds : (n : ℕ) (item : ChainItem) (x : Exchange) (hub : Hub) → x.has_ended ≡ false → Adds 0 x (send_response_item n item x hub).0
down_adds n (Head end) x hub is =
    let e = open_moves x is in
    let a = moves_any end (chains_left x) (spare_of x.is_answered true x.is_headed (length x.response)) in
    let o = spare_out x.is_answered x.is_headed (length x.response) in
    record { moves = omega arith; filters = omega arith; request = omega arith; response = omega arith; unread = omega arith; clear = λ c. c }
down_adds n (Piece bytes end) x hub is =
    let e = open_moves x is in
    let a = moves_any end (chains_left x) (spare x) in
    record { moves = omega arith; filters = omega arith; request = omega arith; response = omega arith; unread = omega arith; clear = λ c. c }
down_adds n Trailers x hub is = record { moves = omega arith; filters = omega arith; request = omega arith; response = omega arith; unread = omega arith; clear = λ c. c }

leaves_adds : (response : Bool) (n : ℕ) (item : ChainItem) (x : Exchange) (hub : Hub) → Adds 0 x (send_item response n item (x, hub)).0
leaves_adds false n item x hub = of_if (λ (r : Exchange × Hub). Adds 0 x r.0) x.has_ended (x, hub) (send_request_item n item x hub) (λ is. adds_none x) (λ is. up_adds n item x hub)
leaves_adds true n item x hub = of_if (λ (r : Exchange × Hub). Adds 0 x r.0) x.has_ended (x, hub) (send_response_item n item x hub) (λ is. adds_none x) (λ is. down_adds n item x hub is)

pub left_adds : (response : Bool) (n : ℕ) (items : List ChainItem) (x : Exchange) (hub : Hub) → Adds 0 x (send_items response n items (x, hub)).0
left_adds response n [] x hub = adds_none x
left_adds response n (item ∷ items) x hub =
    adds_then 0 0 (leaves_adds response n item x hub)
    (left_adds response n items (send_item response n item (x, hub)).0 (send_item response n item (x, hub)).1)

-- ---- answers

-- the second has ended, with no stage left
pub record IsOver (x y : Exchange) : Type 0 where
  pub none : moves_left y ≡ 0
  pub filters : length y.filters ≤ length x.filters
  pub request : y.request ≡ []
  pub response : y.response ≡ []
  pub unread : unread_in y.reader ≤ unread_in x.reader

pub over_adds : (x y : Exchange) → IsOver x y → Adds 0 x y
over_adds x y is = record {
  moves = omega (arith, is.none);
  filters = is.filters;
  request = let e : length y.request ≡ 0 = ap length is.request in omega arith;
  response = let e : length y.response ≡ 0 = ap length is.response in omega arith;
  unread = is.unread;
  clear = λ c answered. is.request;
}

pub cut_off_over : (x : Exchange) (hub : Hub) → IsOver x (cut_off x hub).0
cut_off_over x hub = record { none = refl; filters = omega arith; request = refl; response = refl; unread = omega arith }

pub directly_over : (n status : ℕ) (fields : List Pair) (body : List ℕ) (x : Exchange) (hub : Hub) → IsOver x (answer_directly n status fields body x hub).0
directly_over n status fields body x hub =
    of_if (λ (r : Exchange × Hub). IsOver x r.0) (x.is_head_out || not (is_final status)) _ _ (λ is. cut_off_over x hub)
    (λ is. record { none = refl; filters = omega arith; request = refl; response = refl; unread = omega arith })

directly_adds : (n status : ℕ) (fields : List Pair) (body : List ℕ) (x : Exchange) (hub : Hub) → Adds 0 x (answer_directly n status fields body x hub).0
directly_adds n status fields body x hub = over_adds x (answer_directly n status fields body x hub).0 (directly_over n status fields body x hub)

passed_down_adds : (n : ℕ) (p : PassOutcome) (x : Exchange) (hub : Hub) → Adds 0 x (finish_response_put n p x hub).0
passed_down_adds n passed.Over x hub = directly_adds n 500 [] [] x hub
passed_down_adds n (passed.Left items) x hub = left_adds true n items x hub

-- an item comes to the response's chain
puts_down_adds : (n : ℕ) (item : ChainItem) (x : Exchange) (hub : Hub) → Adds (length x.response + length x.response) x (put_response_item n item (x, hub)).0
puts_down_adds n item x hub =
    of_if (λ (r : Exchange × Hub). Adds (length x.response + length x.response) x r.0) x.has_ended (x, hub) (take_response_put n x hub (put hub.contexts item x.response))
    (λ is. adds_more 0 (length x.response + length x.response) (omega arith) (adds_none x))
    (λ is. adds_more (length x.response + length x.response + 0) (length x.response + length x.response) (omega arith)
    (adds_then (length x.response + length x.response) 0
    (with_response x (put hub.contexts item x.response).1 (length x.response + length x.response) (put_cost hub.contexts item x.response) (put_length hub.contexts item x.response))
    (passed_down_adds n (put hub.contexts item x.response).0 (record x { response = (put hub.contexts item x.response).1 }) hub)))

-- AN ANSWER spends what was spared for it, and what was left to do of the request
pub record Answers (x y : Exchange) : Type 0 where
  pub moves : moves_left y + chain_cost x.request ≤ 1 + chains_left x + ((length x.response + length x.response) + (length x.response + length x.response))
  pub filters : length y.filters ≤ length x.filters
  pub request : y.request ≡ []
  pub response : length y.response ≤ length x.response
  pub unread : unread_in y.reader ≤ unread_in x.reader

-- what an answer that passes stages begins with, and what it comes to
answers_by : (status : ℕ) (body : List ℕ) (x y : Exchange) (m : ℕ) → m ≤ (length (reached_of x) + length (reached_of x)) + (length (reached_of x) + length (reached_of x))
    → Adds m (exchange_with_answer status body x) y → Answers x y
answers_by status body x y m few a =
    let d = drop_cost (length x.response - (if x.is_entered then reach_count x.request else 0)) x.response in
    let f = drop_fewer (length x.response - (if x.is_entered then reach_count x.request else 0)) x.response in
    let i = moves_any x.has_ended (chain_cost [] + chain_cost (reached_of x)) 0 in
    record {
      moves = omega (arith, a.moves, d, f, i);
      filters = a.filters;
      request = empty_of y.request a.request;
      response = omega (arith, a.response, f);
      unread = a.unread;
    }

through_answers : (n status : ℕ) (fields : List Pair) (body : List ℕ) (x : Exchange) (hub : Hub) → Answers x (answer_through_stages n status fields body x hub).0
through_answers n status fields body x hub =
    of_if (λ (r : Exchange × Hub). Answers x r.0) (is_bare (exchange_with_answer status body x).told.length) _ _
    (λ is. answers_by status body x _ (length (reached_of x) + length (reached_of x)) (omega arith) (puts_down_adds n (Head true) z (with_answer status fields x hub)))
    (λ is. answers_by status body x _ ((length (reached_of x) + length (reached_of x)) + (length (reached_of x) + length (reached_of x))) (omega arith) two)
  where
    z : Exchange
    z = exchange_with_answer status body x

    two : Adds ((length (reached_of x) + length (reached_of x)) + (length (reached_of x) + length (reached_of x))) (exchange_with_answer status body x)
        (put_response_item n (Piece body true) (put_response_item n (Head false) (exchange_with_answer status body x, with_answer status fields x hub))).0
    two =
        let one = puts_down_adds n (Head false) (exchange_with_answer status body x) (with_answer status fields x hub) in
        let next = puts_down_adds n (Piece body true) (put_response_item n (Head false) (exchange_with_answer status body x, with_answer status fields x hub)).0 (put_response_item n (Head false) (exchange_with_answer status body x, with_answer status fields x hub)).1 in
        adds_then (length (reached_of x) + length (reached_of x)) (length (reached_of x) + length (reached_of x)) one
        (adds_more _ (length (reached_of x) + length (reached_of x)) (omega (arith, one.response)) next)

-- what an exchange that was not answered comes to
answers_open_moves : (n status : ℕ) (fields : List Pair) (body : List ℕ) (x : Exchange) (hub : Hub) → x.has_ended ≡ false → x.is_answered ≡ false
    → Adds 0 x (answer_open n status fields body x hub).0 × (moves_left (answer_open n status fields body x hub).0 + chain_cost x.request ≤ moves_left x)
answers_open_moves n status fields body x hub going unanswered =
    of_if (λ (r : Exchange × Hub). Adds 0 x r.0 × (moves_left r.0 + chain_cost x.request ≤ moves_left x)) (is_direct status x) _ _
    (λ is.
    let e = open_moves x going in
    let d = directly_over n status fields body x hub in
    (directly_adds n status fields body x hub, omega (arith, e, d.none)))
    (λ is.
    let heads = neither (x.is_head_out || x.is_headed) (not (is_final status)) is in
    let each = neither x.is_head_out x.is_headed heads.0 in
    let e = open_moves x going in
    let s : spare x ≡ spare_of false false false (length x.response) = λ i. spare_of (unanswered i) (each.0 i) (each.1 i) (length x.response) in
    let a = through_answers n status fields body x hub in (
      record {
        moves = omega (arith, a.moves, e, s);
        filters = a.filters;
        request = let r : length (answer_through_stages n status fields body x hub).0.request ≡ 0 = ap length a.request in omega arith;
        response = a.response;
        unread = a.unread;
        clear = λ c answered. a.request;
      },
      omega (arith, a.moves, e, s),
    ))

shutting_adds : (closes : Bool) (x : Exchange) → Adds 0 x (with_closes closes x)
shutting_adds closes x = record { moves = omega arith; filters = omega arith; request = omega arith; response = omega arith; unread = omega arith; clear = λ c. c }

pub answer_adds : (n : ℕ) (closes : Bool) (status : ℕ) (fields : List Pair) (body : List ℕ) (x : Exchange) (hub : Hub) → Adds 0 x (answer n closes status fields body x hub).0
answer_adds n closes status fields body x hub =
    of_if (λ (r : Exchange × Hub). Adds 0 x r.0) (x.has_ended || x.is_answered) _ _ (λ is. adds_none x)
    (λ is.
    let each = neither x.has_ended x.is_answered is in
    adds_then 0 0 (shutting_adds closes x) (answers_open_moves n status fields body (with_closes closes x) hub each.0 each.1).0)

-- one whose request's chain had something to do has less then
pub answer_less : (n : ℕ) (closes : Bool) (status : ℕ) (fields : List Pair) (body : List ℕ) (x : Exchange) (hub : Hub) → x.has_ended ≡ false → x.is_answered ≡ false
    → moves_left (answer n closes status fields body x hub).0 + chain_cost x.request ≤ moves_left x
answer_less n closes status fields body x hub going unanswered =
    of_if (λ (r : Exchange × Hub). moves_left r.0 + chain_cost x.request ≤ moves_left x) (x.has_ended || x.is_answered) _ _
    (λ is. let e : (x.has_ended || x.is_answered) ≡ false = λ i. (going i || unanswered i) in absurd (cc))
    (λ is. (answers_open_moves n status fields body (with_closes closes x) hub going unanswered).1)

-- ---- what is passed on

pub passed_on_adds : (response : Bool) (n : ℕ) (p : PassOutcome) (x : Exchange) (hub : Hub) → Adds 0 x (finish_put response n p x hub).0
passed_on_adds false n passed.Over x hub = answer_adds n true 413 [] [] x hub
passed_on_adds false n (passed.Left items) x hub = left_adds false n items x hub
passed_on_adds true n p x hub = passed_down_adds n p x hub

-- the stages are these now, with so much more to do
pub with_chain_adds : (response : Bool) (x : Exchange) (stages : List Stage) (m : ℕ) → chain_cost stages ≤ chain_cost (chain_of response x) + m → length stages ≡ length (chain_of response x)
    → Adds m x (with_chain response stages x)
with_chain_adds false x stages m less same = with_request x stages m less same
with_chain_adds true x stages m less same = with_response x stages m less same

went_adds : (response : Bool) (n : ℕ) (x : Exchange) (hub : Hub) (r : PassOutcome × List Stage × Contexts) → chain_cost r.1 ≤ chain_cost (chain_of response x)
    → length r.1 ≡ length (chain_of response x) → Adds 0 x (take_move response n x hub r).0
went_adds response n x hub r less same =
    adds_then 0 0 (with_chain_adds response x r.1 0 (omega arith) same) (passed_on_adds response n r.0 (with_chain response r.1 x) (with_held r.2 hub))

pub goes_on_adds : (response : Bool) (n k : ℕ) (x : Exchange) (hub : Hub) → Adds 0 x (resume_held response n k x hub).0
goes_on_adds response n k x hub =
    of_if (λ (r : Exchange × Hub). Adds 0 x r.0) x.has_ended _ _ (λ is. adds_none x)
    (λ is. went_adds response n x hub (continued hub.contexts k (chain_of response x)) (continued_cost hub.contexts k (chain_of response x)) (continued_length hub.contexts k (chain_of response x)))

gives_way_adds : (response : Bool) (n k : ℕ) (x : Exchange) (hub : Hub) → Adds 0 x (bypass response n k x hub).0
gives_way_adds response n k x hub =
    of_if (λ (r : Exchange × Hub). Adds 0 x r.0) x.has_ended _ _ (λ is. adds_none x)
    (λ is. went_adds response n x hub (let_through hub.contexts k (chain_of response x)) (let_through_cost hub.contexts k (chain_of response x)) (let_through_length hub.contexts k (chain_of response x)))

-- ---- WHAT CALLBACKS DO, AND DEATHS

resumes_at_adds : (response : Bool) (n : ℕ) (o : Option ℕ) (x : Exchange) (hub : Hub) → Adds 0 x (resume_place response n o x hub).0
resumes_at_adds response n None x hub = adds_none x
resumes_at_adds response n (Some k) x hub = goes_on_adds response n k x hub

pub resumes_adds : (vm context : ℕ) (response : Bool) (n : ℕ) (x : Exchange) (hub : Hub) → Adds 0 x (resume_context vm context response n x hub).0
resumes_adds vm context response n x hub = resumes_at_adds response n (stage_of vm context (chain_of response x)) x hub

pub closed_adds : (n : ℕ) (x : Exchange) (hub : Hub) → Adds 0 x (close_exchange n x hub).0
closed_adds n x hub =
    of_if (λ (r : Exchange × Hub). Adds 0 x r.0) x.has_ended _ _ (λ is. adds_none x) (λ is. over_adds x (cut_off x hub).0 (cut_off_over x hub))

pub acts_adds : (response : Bool) (k value n : ℕ) (x : Exchange) (hub : Hub) → Adds 0 x (apply_action response k value n x hub).0
acts_adds response k value n x hub =
    of_if (λ (r : Exchange × Hub). Adds 0 x r.0) (value == 0) _ _ (λ is. goes_on_adds response n k x (pause_held response k x hub)) (λ is. adds_none x)

opens_at_adds : (response : Bool) (vm n k : ℕ) (o : Option Stage) (x : Exchange) (hub : Hub) → Adds 0 x (bypass_vm_at response vm n k o x hub).0
opens_at_adds response vm n k None x hub = adds_none x
opens_at_adds response vm n k (Some s) x hub =
    of_if (λ (r : Exchange × Hub). Adds 0 x r.0) (s.vm == vm) _ _ (λ is. gives_way_adds response n k x hub) (λ is. adds_none x)

opens_adds : (response : Bool) (vm n k : ℕ) (x : Exchange) (hub : Hub) → Adds 0 x (bypass_vm_stages response vm n k (x, hub)).0
opens_adds response vm n zero x hub = adds_none x
opens_adds response vm n (suc k) x hub =
    adds_then 0 0 (opens_at_adds response vm n k (slice_get (chain_of response x) k) x hub)
    (opens_adds response vm n k (bypass_vm_at response vm n k (slice_get (chain_of response x) k) x hub).0 (bypass_vm_at response vm n k (slice_get (chain_of response x) k) x hub).1)

opens_all_adds : (vm n : ℕ) (x : Exchange) (hub : Hub) → Adds 0 x (bypass_vm vm n x hub).0
opens_all_adds vm n x hub =
    adds_then 0 0 (opens_adds false vm n (length x.request) x hub)
    (opens_adds true vm n (length (bypass_vm_stages false vm n (length x.request) (x, hub)).0.response) (bypass_vm_stages false vm n (length x.request) (x, hub)).0 (bypass_vm_stages false vm n (length x.request) (x, hub)).1)

pub dies_adds : (vm n : ℕ) (x : Exchange) (hub : Hub) → Adds 0 x (lose_vm vm n x hub).0
dies_adds vm n x hub =
    of_if (λ (r : Exchange × Hub). Adds 0 x r.0) x.has_ended _ _ (λ is. adds_none x)
    (λ is. of_if (λ (r : Exchange × Hub). Adds 0 x r.0) (fails_closed vm x) _ _ (λ close_exchange. directly_adds n 503 [] [] x hub) (λ goes. opens_all_adds vm n x hub))

-- ---- fixed answers

pub refused_adds : (status n : ℕ) (x : Exchange) (hub : Hub) → Adds 0 x (refuse_exchange status n x hub).0
refused_adds status n x hub =
    of_if (λ (r : Exchange × Hub). Adds 0 x r.0) (x.has_ended || x.is_answered) _ _ (λ is. adds_none x)
    (λ is. of_if (λ (r : Exchange × Hub). Adds 0 x r.0) (passes_filters status) _ _ (λ passes. answer_adds n (closes_line status) status [] [] x hub)
    (λ direct. adds_then 0 0 (shutting_adds (closes_line status) x) (directly_adds n status [] [] (with_closes (closes_line status) x) hub)))

pub expires_adds : (n : ℕ) (x : Exchange) (hub : Hub) → Adds 0 x (expire_exchange n x hub).0
expires_adds n x hub =
    of_if (λ (r : Exchange × Hub). Adds 0 x r.0) (is_due hub.moment x) _ _ (λ is. answer_adds n false 504 [] [] x hub) (λ is. adds_none x)

-- ---- items come

puts_adds : (response : Bool) (n : ℕ) (item : ChainItem) (x : Exchange) (hub : Hub) → Adds (length (chain_of response x) + length (chain_of response x)) x (put_to_chain response n item (x, hub)).0
puts_adds response n item x hub =
    of_if (λ (r : Exchange × Hub). Adds (length (chain_of response x) + length (chain_of response x)) x r.0) (takes_nothing response x) _ _
    (λ is. adds_more 0 (length (chain_of response x) + length (chain_of response x)) (omega arith) (adds_none x))
    (λ is. adds_more (length (chain_of response x) + length (chain_of response x) + 0) (length (chain_of response x) + length (chain_of response x)) (omega arith)
    (adds_then (length (chain_of response x) + length (chain_of response x)) 0
    (with_chain_adds response x (put hub.contexts item (chain_of response x)).1 (length (chain_of response x) + length (chain_of response x)) (put_cost hub.contexts item (chain_of response x))
    (put_length hub.contexts item (chain_of response x)))
    (passed_on_adds response n (put hub.contexts item (chain_of response x)).0 (with_chain response (put hub.contexts item (chain_of response x)).1 x) hub)))

chain_fewer : (response : Bool) (x y : Exchange) (m : ℕ) → Adds m x y → length (chain_of response y) ≤ length (chain_of response x)
chain_fewer false x y m a = a.request
chain_fewer true x y m a = a.response

-- what comes to stages of which there are so many at most
puts_all_adds : (s : ℕ) (response : Bool) (n : ℕ) (items : List ChainItem) (x : Exchange) (hub : Hub) → length (chain_of response x) ≤ s
    → Adds (for_each (s + s) items) x (put_all_to_chain response n items (x, hub)).0
puts_all_adds s response n [] x hub few = adds_none x
puts_all_adds s response n (item ∷ items) x hub few =
    let one = puts_adds response n item x hub in
    let fewer = chain_fewer response x (put_to_chain response n item (x, hub)).0 (length (chain_of response x) + length (chain_of response x)) one in
    let more = puts_all_adds s response n items (put_to_chain response n item (x, hub)).0 (put_to_chain response n item (x, hub)).1 (omega arith) in
    adds_then (s + s) (for_each (s + s) items) (adds_more _ (s + s) (omega arith) one) more

pub put_in_adds : (s : ℕ) (response : Bool) (items : List ChainItem) (n : ℕ) (x : Exchange) (hub : Hub) → length (chain_of response x) ≤ s
    → Adds (for_each (s + s) items) x (put_read_items response items n x hub).0
put_in_adds s response items n x hub few =
    of_if (λ (r : Exchange × Hub). Adds (for_each (s + s) items) x r.0) x.is_answered _ _ (λ is. adds_more 0 (for_each (s + s) items) (omega arith) (adds_none x))
    (λ is. puts_all_adds s response n items x hub few)
