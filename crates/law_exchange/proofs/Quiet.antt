-- Nothing but what is read of the request goes up.
use Rattle.std.proofs.Common.{◌≡◌, ℕ, zero, suc, ◌==◌, Bool, true, false, not, ◌||◌, List, [], ◌∷◌, length, refl, ◌∙◌, sym, subst}
use Rattle.std.specs.Prelude.{if◌then◌else◌, Option, None, Some, slice_get}
use Rattle.contexts.specs.declared.parts.Contexts.{Contexts}
use Rattle.exchange.specs.declared.types.Exchange.{Exchange}
use Rattle.exchange.specs.declared.types.Hub.{Hub}
use Rattle.exchange.specs.Answering.{cut_off, answer_directly, finish_response_put, take_response_put, put_response_item, exchange_with_answer, with_answer, answer_through_stages, is_direct, with_closes, answer_open, answer, stays_open, with_held}
use Rattle.exchange.specs.Heads.{is_bare, is_final, passes_filters, closes_line}
use Rattle.exchange.specs.Leaving.{bytes_sent_to, send_item, send_items, send_response_item, is_due}
use Rattle.exchange.specs.Passing.{take_move, take_put, put_to_chain, put_all_to_chain, put_read_items, resume_held, bypass, resume_context, resume_place, stage_of, apply_action, close_exchange, bypass_vm_at, bypass_vm_stages, bypass_vm, lose_vm, fails_closed, refuse_exchange, expire_exchange, takes_nothing, chain_of, pause_held}
use Rattle.filter_chain.specs.declared.item.ChainItem.{ChainItem}
use Rattle.filter_chain.specs.declared.item.ChainItem.TheVariants.{Head, Piece, Trailers}
use Rattle.filter_chain.specs.declared.item.PassOutcome.{PassOutcome}
use Rattle.filter_chain.specs.declared.item.PassOutcome.TheVariants as passed
use Rattle.filter_chain.specs.declared.stage.Stage.{Stage}
use Rattle.filter_chain.specs.Chains.{put, continued, let_through}
use Rattle.gate_io.specs.declared.event.Side.TheVariants.{Down}
use Rattle.h1_model.specs.Fields.{Pair}
use Rattle.h1_model.specs.LocalReply.{local_reply_of}
use Rattle.law_exchange.specs.Laws.{IsQuiet}
use Rattle.law_exchange.proofs.Traffic.{down_is_none, adds_none}

pub by_bool : {A : Type 0} (P : A → Type 0) (b : Bool) (a c : A) → (b ≡ true → P a) → (b ≡ false → P c) → P (if b then a else c)
by_bool P true a c here there = here refl
by_bool P false a c here there = there refl

-- quiet, of what comes of a step
abbrev pub Quiet : ℕ → Exchange → Hub → Exchange × Hub → Type 0
Quiet n x hub xh = IsQuiet n x hub xh.0 xh.1

pub stays : (n : ℕ) (x : Exchange) (hub : Hub) → x.request ≡ [] → Quiet n x hub (x, hub)
stays n x hub is = record { sends = refl; kin = record { unfiltered = is; framed = refl; stays_over = λ o. o } }

pub and_then : (n : ℕ) (x y z : Exchange) (hub mid after : Hub) → IsQuiet n x hub y mid → IsQuiet n y mid z after → IsQuiet n x hub z after
and_then n x y z hub mid after a b = record {
  sends = b.sends ∙ a.sends;
  kin = record { unfiltered = b.kin.unfiltered; framed = b.kin.framed ∙ a.kin.framed; stays_over = λ o. b.kin.stays_over (a.kin.stays_over o) };
}

-- ---- what leaves the chain of the response

over_still : (a b e : Bool) → a ≡ false → (a || b) ≡ true → (e || b) ≡ true
over_still false true false live over = refl
over_still false true true live over = refl
over_still false false e live over = absurd (cc)
over_still true b e live over = absurd (cc)

down_quiet : (n : ℕ) (item : ChainItem) (x : Exchange) (hub : Hub) → x.request ≡ [] → x.has_ended ≡ false → Quiet n x hub (send_response_item n item x hub)
down_quiet n (Head end) x hub is live = record {
  sends = adds_none n hub.sent _ (down_is_none n _);
  kin = record { unfiltered = is; framed = refl; stays_over = over_still x.has_ended x.is_answered end live };
}
down_quiet n (Piece bytes end) x hub is live = record {
  sends = adds_none n hub.sent _ (down_is_none n _);
  kin = record { unfiltered = is; framed = refl; stays_over = over_still x.has_ended x.is_answered end live };
}
down_quiet n Trailers x hub is live = record {
  sends = adds_none n hub.sent _ (down_is_none n _);
  kin = record { unfiltered = is; framed = refl; stays_over = λ o. refl };
}

leaves_quiet : (n : ℕ) (item : ChainItem) (x : Exchange) (hub : Hub) → x.request ≡ [] → Quiet n x hub (send_item true n item (x, hub))
leaves_quiet n item x hub is = by_bool (Quiet n x hub) x.has_ended (x, hub) (send_response_item n item x hub) (λ e. stays n x hub is) (λ e. down_quiet n item x hub is e)

left_quiet : (n : ℕ) (items : List ChainItem) (x : Exchange) (hub : Hub) → x.request ≡ [] → Quiet n x hub (send_items true n items (x, hub))
left_quiet n [] x hub is = stays n x hub is
left_quiet n (item ∷ items) x hub is =
    let first : Quiet n x hub (send_item true n item (x, hub)) = leaves_quiet n item x hub is in
    let mid : Exchange × Hub = send_item true n item (x, hub) in
    let last : Exchange × Hub = send_items true n items mid in
    and_then n x mid.0 last.0 hub mid.1 last.1 first (left_quiet n items mid.0 mid.1 first.kin.unfiltered)

-- ---- answers

cut_off_quiet : (n : ℕ) (x : Exchange) (hub : Hub) → Quiet n x hub (cut_off x hub)
cut_off_quiet n x hub = record { sends = refl; kin = record { unfiltered = refl; framed = refl; stays_over = λ o. refl } }

abbrev pub reply_to : ℕ → List Pair → List ℕ → Exchange → Hub → List ℕ
reply_to status fields body x hub = local_reply_of status fields body x.asked.is_head (not (stays_open x)) hub.moment

directly_quiet : (n status : ℕ) (fields : List Pair) (body : List ℕ) (x : Exchange) (hub : Hub) → Quiet n x hub (answer_directly n status fields body x hub)
directly_quiet n status fields body x hub =
    by_bool (Quiet n x hub) (x.is_head_out || not (is_final status)) (cut_off x hub) _ (λ e. cut_off_quiet n x hub)
    (λ e. record {
      sends = adds_none n hub.sent (bytes_sent_to n Down (reply_to status fields body x hub)) (down_is_none n (reply_to status fields body x hub));
      kin = record { unfiltered = refl; framed = refl; stays_over = λ o. refl };
    })

passed_down_quiet : (n : ℕ) (p : PassOutcome) (x : Exchange) (hub : Hub) → x.request ≡ [] → Quiet n x hub (finish_response_put n p x hub)
passed_down_quiet n passed.Over x hub is = directly_quiet n 500 [] [] x hub
passed_down_quiet n (passed.Left items) x hub is = left_quiet n items x hub is

abbrev with_response : List Stage → Exchange → Exchange
with_response stages x = record x { response = stages }

put_went_down_quiet : (n : ℕ) (x : Exchange) (hub : Hub) (t : PassOutcome × List Stage) → x.request ≡ [] → Quiet n x hub (take_response_put n x hub t)
put_went_down_quiet n x hub t is =
    let y : Exchange = with_response t.1 x in
    let later : Quiet n y hub (finish_response_put n t.0 y hub) = passed_down_quiet n t.0 y hub is in
    record { sends = later.sends; kin = record { unfiltered = later.kin.unfiltered; framed = later.kin.framed; stays_over = later.kin.stays_over } }

puts_down_quiet : (n : ℕ) (item : ChainItem) (x : Exchange) (hub : Hub) → x.request ≡ [] → Quiet n x hub (put_response_item n item (x, hub))
puts_down_quiet n item x hub is =
    by_bool (Quiet n x hub) x.has_ended (x, hub) (take_response_put n x hub (put hub.contexts item x.response)) (λ e. stays n x hub is)
    (λ e. put_went_down_quiet n x hub (put hub.contexts item x.response) is)

puts_two_quiet : (n : ℕ) (one two : ChainItem) (x : Exchange) (hub : Hub) → x.request ≡ [] → Quiet n x hub (put_response_item n two (put_response_item n one (x, hub)))
puts_two_quiet n one two x hub is =
    let mid : Exchange × Hub = put_response_item n one (x, hub) in
    let first : Quiet n x hub mid = puts_down_quiet n one x hub is in
    let last : Exchange × Hub = put_response_item n two mid in
    and_then n x mid.0 last.0 hub mid.1 last.1 first (puts_down_quiet n two mid.0 mid.1 first.kin.unfiltered)

through_quiet : (n status : ℕ) (fields : List Pair) (body : List ℕ) (x : Exchange) (hub : Hub) → Quiet n x hub (answer_through_stages n status fields body x hub)
through_quiet n status fields body x hub =
    let y : Exchange = exchange_with_answer status body x in
    let k : Hub = with_answer status fields x hub in
    let last : Exchange × Hub = answer_through_stages n status fields body x hub in
    and_then n x y last.0 hub k last.1 (record { sends = refl; kin = record { unfiltered = refl; framed = refl; stays_over = λ o. answered_over y.has_ended } })
    (by_bool (Quiet n y k) (is_bare y.told.length) (put_response_item n (Head true) (y, k)) (put_response_item n (Piece body true) (put_response_item n (Head false) (y, k)))
    (λ e. puts_down_quiet n (Head true) y k refl) (λ e. puts_two_quiet n (Head false) (Piece body true) y k refl))
  where
    answered_over : (b : Bool) → (b || true) ≡ true
    answered_over true = refl
    answered_over false = refl

shut_quiet : (n : ℕ) (closes_line : Bool) (x : Exchange) (hub : Hub) → x.request ≡ [] → Quiet n x hub (with_closes closes_line x, hub)
shut_quiet n closes_line x hub is = record { sends = refl; kin = record { unfiltered = is; framed = refl; stays_over = λ o. o } }

answers_open_quiet : (n status : ℕ) (fields : List Pair) (body : List ℕ) (x : Exchange) (hub : Hub) → Quiet n x hub (answer_open n status fields body x hub)
answers_open_quiet n status fields body x hub =
    by_bool (Quiet n x hub) (is_direct status x) (answer_directly n status fields body x hub) (answer_through_stages n status fields body x hub)
    (λ e. directly_quiet n status fields body x hub) (λ e. through_quiet n status fields body x hub)

pub answer_quiet : (n : ℕ) (closes_line : Bool) (status : ℕ) (fields : List Pair) (body : List ℕ) (x : Exchange) (hub : Hub) → x.request ≡ []
    → Quiet n x hub (answer n closes_line status fields body x hub)
answer_quiet n closes_line status fields body x hub is =
    by_bool (Quiet n x hub) (x.has_ended || x.is_answered) (x, hub) (answer_open n status fields body (with_closes closes_line x) hub) (λ e. stays n x hub is)
    (λ e.
    let last : Exchange × Hub = answer_open n status fields body (with_closes closes_line x) hub in
    and_then n x (with_closes closes_line x) last.0 hub hub last.1 (shut_quiet n closes_line x hub is) (answers_open_quiet n status fields body (with_closes closes_line x) hub))

-- ---- what is read of the response

puts_response_quiet : (n : ℕ) (item : ChainItem) (x : Exchange) (hub : Hub) → x.request ≡ [] → Quiet n x hub (put_to_chain true n item (x, hub))
puts_response_quiet n item x hub is =
    by_bool (Quiet n x hub) (takes_nothing true x) (x, hub) (take_put true n x hub (put hub.contexts item x.response)) (λ e. stays n x hub is)
    (λ e. put_went_down_quiet n x hub (put hub.contexts item x.response) is)

puts_responses_quiet : (n : ℕ) (items : List ChainItem) (x : Exchange) (hub : Hub) → x.request ≡ [] → Quiet n x hub (put_all_to_chain true n items (x, hub))
puts_responses_quiet n [] x hub is = stays n x hub is
puts_responses_quiet n (item ∷ items) x hub is =
    let mid : Exchange × Hub = put_to_chain true n item (x, hub) in
    let first : Quiet n x hub mid = puts_response_quiet n item x hub is in
    let last : Exchange × Hub = put_all_to_chain true n items mid in
    and_then n x mid.0 last.0 hub mid.1 last.1 first (puts_responses_quiet n items mid.0 mid.1 first.kin.unfiltered)

pub responds_quiet : (n : ℕ) (items : List ChainItem) (x : Exchange) (hub : Hub) → x.request ≡ [] → Quiet n x hub (put_read_items true items n x hub)
responds_quiet n items x hub is =
    by_bool (Quiet n x hub) x.is_answered (x, hub) (put_all_to_chain true n items (x, hub)) (λ e. stays n x hub is) (λ e. puts_responses_quiet n items x hub is)

-- ---- stages go on and are let through; the request has none

went_down_quiet : (n : ℕ) (x : Exchange) (hub : Hub) (t : PassOutcome × List Stage × Contexts) → x.request ≡ [] → Quiet n x hub (take_move true n x hub t)
went_down_quiet n x hub t is =
    let y : Exchange = with_response t.1 x in
    let k : Hub = with_held t.2 hub in
    let later : Quiet n y k (finish_response_put n t.0 y k) = passed_down_quiet n t.0 y k is in
    record { sends = later.sends; kin = record { unfiltered = later.kin.unfiltered; framed = later.kin.framed; stays_over = later.kin.stays_over } }

no_request_goes_on : (n k : ℕ) (x : Exchange) (hub : Hub) → Quiet n x hub (take_move false n x hub (continued hub.contexts k []))
no_request_goes_on n k x hub = record { sends = refl; kin = record { unfiltered = refl; framed = refl; stays_over = λ o. o } }

no_request_gives_way : (n k : ℕ) (x : Exchange) (hub : Hub) → Quiet n x hub (take_move false n x hub (let_through hub.contexts k []))
no_request_gives_way n k x hub = record { sends = refl; kin = record { unfiltered = refl; framed = refl; stays_over = λ o. o } }

goes_on_quiet : (response : Bool) (n k : ℕ) (x : Exchange) (hub : Hub) → x.request ≡ [] → Quiet n x hub (resume_held response n k x hub)
goes_on_quiet true n k x hub is =
    by_bool (Quiet n x hub) x.has_ended (x, hub) (take_move true n x hub (continued hub.contexts k x.response)) (λ e. stays n x hub is)
    (λ e. went_down_quiet n x hub (continued hub.contexts k x.response) is)
goes_on_quiet false n k x hub is =
    by_bool (Quiet n x hub) x.has_ended (x, hub) (take_move false n x hub (continued hub.contexts k x.request)) (λ e. stays n x hub is)
    (λ e. subst (λ (s : List Stage). Quiet n x hub (take_move false n x hub (continued hub.contexts k s))) (sym is) (no_request_goes_on n k x hub))

gives_way_quiet : (response : Bool) (n k : ℕ) (x : Exchange) (hub : Hub) → x.request ≡ [] → Quiet n x hub (bypass response n k x hub)
gives_way_quiet true n k x hub is =
    by_bool (Quiet n x hub) x.has_ended (x, hub) (take_move true n x hub (let_through hub.contexts k x.response)) (λ e. stays n x hub is)
    (λ e. went_down_quiet n x hub (let_through hub.contexts k x.response) is)
gives_way_quiet false n k x hub is =
    by_bool (Quiet n x hub) x.has_ended (x, hub) (take_move false n x hub (let_through hub.contexts k x.request)) (λ e. stays n x hub is)
    (λ e. subst (λ (s : List Stage). Quiet n x hub (take_move false n x hub (let_through hub.contexts k s))) (sym is) (no_request_gives_way n k x hub))

resumes_at_quiet : (response : Bool) (n : ℕ) (o : Option ℕ) (x : Exchange) (hub : Hub) → x.request ≡ [] → Quiet n x hub (resume_place response n o x hub)
resumes_at_quiet response n None x hub is = stays n x hub is
resumes_at_quiet response n (Some k) x hub is = goes_on_quiet response n k x hub is

pub resumes_quiet : (vm context : ℕ) (response : Bool) (n : ℕ) (x : Exchange) (hub : Hub) → x.request ≡ [] → Quiet n x hub (resume_context vm context response n x hub)
resumes_quiet vm context response n x hub is = resumes_at_quiet response n (stage_of vm context (chain_of response x)) x hub is

pub acts_quiet : (response : Bool) (k value n : ℕ) (x : Exchange) (hub : Hub) → x.request ≡ [] → Quiet n x hub (apply_action response k value n x hub)
acts_quiet response k value n x hub is =
    let h : Hub = pause_held response k x hub in
    let first : IsQuiet n x hub x h = record { sends = refl; kin = record { unfiltered = is; framed = refl; stays_over = λ o. o } } in
    by_bool (Quiet n x hub) (value == 0) (resume_held response n k x h) (x, h)
    (λ e. let last : Exchange × Hub = resume_held response n k x h in and_then n x x last.0 hub h last.1 first (goes_on_quiet response n k x h is)) (λ e. first)

pub closed_quiet : (n : ℕ) (x : Exchange) (hub : Hub) → x.request ≡ [] → Quiet n x hub (close_exchange n x hub)
closed_quiet n x hub is = by_bool (Quiet n x hub) x.has_ended (x, hub) (cut_off x hub) (λ e. stays n x hub is) (λ e. cut_off_quiet n x hub)

-- ---- deaths

opens_at_quiet : (response : Bool) (vm n k : ℕ) (o : Option Stage) (x : Exchange) (hub : Hub) → x.request ≡ [] → Quiet n x hub (bypass_vm_at response vm n k o x hub)
opens_at_quiet response vm n k None x hub is = stays n x hub is
opens_at_quiet response vm n k (Some s) x hub is =
    by_bool (Quiet n x hub) (s.vm == vm) (bypass response n k x hub) (x, hub) (λ e. gives_way_quiet response n k x hub is) (λ e. stays n x hub is)

opens_quiet : (response : Bool) (vm n m : ℕ) (x : Exchange) (hub : Hub) → x.request ≡ [] → Quiet n x hub (bypass_vm_stages response vm n m (x, hub))
opens_quiet response vm n zero x hub is = stays n x hub is
opens_quiet response vm n (suc k) x hub is =
    let mid : Exchange × Hub = bypass_vm_at response vm n k (slice_get (chain_of response x) k) x hub in
    let first : Quiet n x hub mid = opens_at_quiet response vm n k (slice_get (chain_of response x) k) x hub is in
    let last : Exchange × Hub = bypass_vm_stages response vm n k mid in
    and_then n x mid.0 last.0 hub mid.1 last.1 first (opens_quiet response vm n k mid.0 mid.1 first.kin.unfiltered)

opens_all_quiet : (vm n : ℕ) (x : Exchange) (hub : Hub) → x.request ≡ [] → Quiet n x hub (bypass_vm vm n x hub)
opens_all_quiet vm n x hub is =
    let mid : Exchange × Hub = bypass_vm_stages false vm n (length x.request) (x, hub) in
    let first : Quiet n x hub mid = opens_quiet false vm n (length x.request) x hub is in
    let last : Exchange × Hub = bypass_vm_stages true vm n (length mid.0.response) mid in
    and_then n x mid.0 last.0 hub mid.1 last.1 first (opens_quiet true vm n (length mid.0.response) mid.0 mid.1 first.kin.unfiltered)

pub dies_quiet : (vm n : ℕ) (x : Exchange) (hub : Hub) → x.request ≡ [] → Quiet n x hub (lose_vm vm n x hub)
dies_quiet vm n x hub is =
    by_bool (Quiet n x hub) x.has_ended (x, hub) (if fails_closed vm x then answer_directly n 503 [] [] x hub else bypass_vm vm n x hub) (λ e. stays n x hub is)
    (λ e. by_bool (Quiet n x hub) (fails_closed vm x) (answer_directly n 503 [] [] x hub) (bypass_vm vm n x hub) (λ d. directly_quiet n 503 [] [] x hub) (λ d. opens_all_quiet vm n x hub is))

-- ---- fixed answers

pub refused_quiet : (status n : ℕ) (x : Exchange) (hub : Hub) → x.request ≡ [] → Quiet n x hub (refuse_exchange status n x hub)
refused_quiet status n x hub is =
    by_bool (Quiet n x hub) (x.has_ended || x.is_answered) (x, hub)
    (if passes_filters status then answer n (closes_line status) status [] [] x hub else answer_directly n status [] [] (with_closes (closes_line status) x) hub) (λ e. stays n x hub is)
    (λ e. by_bool (Quiet n x hub) (passes_filters status) (answer n (closes_line status) status [] [] x hub) (answer_directly n status [] [] (with_closes (closes_line status) x) hub)
    (λ d. answer_quiet n (closes_line status) status [] [] x hub is)
    (λ d.
    let last : Exchange × Hub = answer_directly n status [] [] (with_closes (closes_line status) x) hub in
    and_then n x (with_closes (closes_line status) x) last.0 hub hub last.1 (shut_quiet n (closes_line status) x hub is) (directly_quiet n status [] [] (with_closes (closes_line status) x) hub)))

pub expires_quiet : (n : ℕ) (x : Exchange) (hub : Hub) → x.request ≡ [] → Quiet n x hub (expire_exchange n x hub)
expires_quiet n x hub is =
    by_bool (Quiet n x hub) (is_due hub.moment x) (answer n false 504 [] [] x hub) (x, hub) (λ e. answer_quiet n false 504 [] [] x hub is) (λ e. stays n x hub is)
