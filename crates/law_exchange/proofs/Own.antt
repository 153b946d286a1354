-- An exchange sends on its own line alone.
use Rattle.std.proofs.Common.{ℕ, zero, suc, ◌==◌, Bool, true, false, not, ◌||◌, List, [], ◌∷◌, ◌++◌, length, refl, ap, ◌∙◌, sym}
use Rattle.std.proofs.lemmas.List.{append-nil, append_assoc}
use Rattle.std.specs.Prelude.{if◌then◌else◌, Option, None, Some, slice_get}
use Rattle.contexts.specs.declared.parts.Contexts.{Contexts}
use Rattle.exchange.specs.declared.types.Exchange.{Exchange}
use Rattle.exchange.specs.declared.types.Hub.{Hub}
use Rattle.exchange.specs.Answering.{cut_off, answer_directly, finish_response_put, take_response_put, put_response_item, exchange_with_answer, with_answer, answer_through_stages, is_direct, with_closes, answer_open, answer, with_held}
use Rattle.exchange.specs.Heads.{is_bare, is_final, passes_filters, closes_line}
use Rattle.exchange.specs.Leaving.{bytes_sent_to, send_request_item, send_response_item, send_item, send_items, is_due}
use Rattle.exchange.specs.Passing as passing
use Rattle.exchange.specs.Passing.{finish_put, take_move, take_put, put_to_chain, put_all_to_chain, put_read_items, resume_held, bypass, resume_place, stage_of, chain_of, with_chain, pause_held, bypass_vm_at, bypass_vm_stages, bypass_vm, fails_closed, takes_nothing}
use Rattle.filter_chain.specs.Chains.{put, continued, let_through}
use Rattle.filter_chain.specs.declared.item.ChainItem.{ChainItem}
use Rattle.filter_chain.specs.declared.item.ChainItem.TheVariants.{Head, Piece, Trailers}
use Rattle.filter_chain.specs.declared.item.PassOutcome.{PassOutcome}
use Rattle.filter_chain.specs.declared.item.PassOutcome.TheVariants as passed
use Rattle.filter_chain.specs.declared.stage.Stage.{Stage}
use Rattle.gate_io.specs.declared.event.Sent.{Sent}
use Rattle.gate_io.specs.declared.event.Side.{Side}
use Rattle.gate_io.specs.declared.event.Side.TheVariants.{Down}
use Rattle.h1_model.specs.Fields.{Pair}
use Rattle.law_exchange.specs.Lives.{comes, responds, acts, resumes, closes, answers, dies, refuses, expires, turns}
use Rattle.law_exchange.specs.Own.{AreOn, SendsOn, ExchangesSendOnTheirLine}
use Rattle.law_exchange.proofs.Quiet.{by_bool, reply_to}

abbrev On : ℕ → Hub → Exchange × Hub → Type 0
On n hub p = SendsOn n hub p.1

none : (n : ℕ) (hub : Hub) → SendsOn n hub hub
none n hub = record { more = []; adds = sym (append-nil hub.sent); own = tt }

on_join : (n : ℕ) (a b : List Sent) → AreOn n a → AreOn n b → AreOn n (a ++ b)
on_join n [] b first later = later
on_join n (s ∷ a) b first later = (first.0, on_join n a b first.1 later)

and_then : (n : ℕ) (hub mid after : Hub) → SendsOn n hub mid → SendsOn n mid after → SendsOn n hub after
and_then n hub mid after a b = record {
  more = a.more ++ b.more;
  adds = b.adds ∙ (ap (λ l. l ++ b.more) a.adds ∙ append_assoc hub.sent a.more b.more);
  own = on_join n a.more b.more a.own b.own;
}

bytes_on : (n : ℕ) (side : Side) (bytes : List ℕ) → AreOn n (bytes_sent_to n side bytes)
bytes_on n side [] = tt
bytes_on n side (b ∷ bytes) = (refl, tt)

-- ---- what leaves

up_on : (n : ℕ) (item : ChainItem) (x : Exchange) (hub : Hub) → On n hub (send_request_item n item x hub)
up_on n (Head end) x hub = record { more = _; adds = refl; own = (refl, bytes_on n _ _) }
up_on n (Piece bytes end) x hub = record { more = _; adds = refl; own = bytes_on n _ _ }
up_on n Trailers x hub = record { more = _; adds = refl; own = bytes_on n _ _ }

down_on : (n : ℕ) (item : ChainItem) (x : Exchange) (hub : Hub) → On n hub (send_response_item n item x hub)
down_on n (Head end) x hub = record { more = _; adds = refl; own = bytes_on n _ _ }
down_on n (Piece bytes end) x hub = record { more = _; adds = refl; own = bytes_on n _ _ }
down_on n Trailers x hub = record { more = _; adds = refl; own = bytes_on n _ _ }

leaves_on : (response : Bool) (n : ℕ) (item : ChainItem) (x : Exchange) (hub : Hub) → On n hub (send_item response n item (x, hub))
leaves_on false n item x hub = by_bool (On n hub) x.has_ended (x, hub) (send_request_item n item x hub) (λ e. none n hub) (λ e. up_on n item x hub)
leaves_on true n item x hub = by_bool (On n hub) x.has_ended (x, hub) (send_response_item n item x hub) (λ e. none n hub) (λ e. down_on n item x hub)

left_on : (response : Bool) (n : ℕ) (items : List ChainItem) (x : Exchange) (hub : Hub) → On n hub (send_items response n items (x, hub))
left_on response n [] x hub = none n hub
left_on response n (item ∷ items) x hub =
    let p : Exchange × Hub = send_item response n item (x, hub) in
    and_then n hub p.1 (send_items response n items p).1 (leaves_on response n item x hub) (left_on response n items p.0 p.1)

-- ---- answers

cut_off_on : (n : ℕ) (x : Exchange) (hub : Hub) → On n hub (cut_off x hub)
cut_off_on n x hub = record { more = []; adds = sym (append-nil hub.sent); own = tt }

directly_on : (n status : ℕ) (fields : List Pair) (body : List ℕ) (x : Exchange) (hub : Hub) → On n hub (answer_directly n status fields body x hub)
directly_on n status fields body x hub =
    by_bool (On n hub) (x.is_head_out || not (is_final status)) (cut_off x hub) _ (λ e. cut_off_on n x hub)
    (λ e. record { more = bytes_sent_to n Down (reply_to status fields body x hub); adds = refl; own = bytes_on n Down (reply_to status fields body x hub) })

passed_down_on : (n : ℕ) (p : PassOutcome) (x : Exchange) (hub : Hub) → On n hub (finish_response_put n p x hub)
passed_down_on n passed.Over x hub = directly_on n 500 [] [] x hub
passed_down_on n (passed.Left items) x hub = left_on true n items x hub

put_went_down_on : (n : ℕ) (x : Exchange) (hub : Hub) (t : PassOutcome × List Stage) → On n hub (take_response_put n x hub t)
put_went_down_on n x hub t = passed_down_on n t.0 (record x { response = t.1 }) hub

puts_down_on : (n : ℕ) (item : ChainItem) (x : Exchange) (hub : Hub) → On n hub (put_response_item n item (x, hub))
puts_down_on n item x hub =
    by_bool (On n hub) x.has_ended (x, hub) (take_response_put n x hub (put hub.contexts item x.response)) (λ e. none n hub) (λ e. put_went_down_on n x hub (put hub.contexts item x.response))

through_on : (n status : ℕ) (fields : List Pair) (body : List ℕ) (x : Exchange) (hub : Hub) → On n hub (answer_through_stages n status fields body x hub)
through_on n status fields body x hub =
    let y : Exchange = exchange_with_answer status body x in
    let k : Hub = with_answer status fields x hub in
    let p : Exchange × Hub = put_response_item n (Head false) (y, k) in
    let later : SendsOn n k (answer_through_stages n status fields body x hub).1
    = by_bool (On n k) (is_bare y.told.length) (put_response_item n (Head true) (y, k)) (put_response_item n (Piece body true) p) (λ e. puts_down_on n (Head true) y k)
    (λ e. and_then n k p.1 (put_response_item n (Piece body true) p).1 (puts_down_on n (Head false) y k) (puts_down_on n (Piece body true) p.0 p.1)) in
    record { more = later.more; adds = later.adds; own = later.own }

answer_on : (n : ℕ) (shut : Bool) (status : ℕ) (fields : List Pair) (body : List ℕ) (x : Exchange) (hub : Hub) → On n hub (answer n shut status fields body x hub)
answer_on n shut status fields body x hub =
    by_bool (On n hub) (x.has_ended || x.is_answered) (x, hub) (answer_open n status fields body (with_closes shut x) hub) (λ e. none n hub)
    (λ e. by_bool (On n hub) (is_direct status (with_closes shut x)) (answer_directly n status fields body (with_closes shut x) hub) (answer_through_stages n status fields body (with_closes shut x) hub)
    (λ d. directly_on n status fields body (with_closes shut x) hub) (λ d. through_on n status fields body (with_closes shut x) hub))

-- ---- items and stages

passed_on_on : (response : Bool) (n : ℕ) (p : PassOutcome) (x : Exchange) (hub : Hub) → On n hub (finish_put response n p x hub)
passed_on_on true n p x hub = passed_down_on n p x hub
passed_on_on false n passed.Over x hub = answer_on n true 413 [] [] x hub
passed_on_on false n (passed.Left items) x hub = left_on false n items x hub

puts_on : (response : Bool) (n : ℕ) (item : ChainItem) (x : Exchange) (hub : Hub) → On n hub (put_to_chain response n item (x, hub))
puts_on response n item x hub =
    let t : PassOutcome × List Stage = put hub.contexts item (chain_of response x) in
    by_bool (On n hub) (takes_nothing response x) (x, hub) (take_put response n x hub t) (λ e. none n hub) (λ e. passed_on_on response n t.0 (with_chain response t.1 x) hub)

puts_all_on : (response : Bool) (n : ℕ) (items : List ChainItem) (x : Exchange) (hub : Hub) → On n hub (put_all_to_chain response n items (x, hub))
puts_all_on response n [] x hub = none n hub
puts_all_on response n (item ∷ items) x hub =
    let p : Exchange × Hub = put_to_chain response n item (x, hub) in
    and_then n hub p.1 (put_all_to_chain response n items p).1 (puts_on response n item x hub) (puts_all_on response n items p.0 p.1)

put_in_on : (response : Bool) (n : ℕ) (items : List ChainItem) (x : Exchange) (hub : Hub) → On n hub (put_read_items response items n x hub)
put_in_on response n items x hub = by_bool (On n hub) x.is_answered (x, hub) (put_all_to_chain response n items (x, hub)) (λ e. none n hub) (λ e. puts_all_on response n items x hub)

went_on : (response : Bool) (n : ℕ) (x : Exchange) (hub : Hub) (t : PassOutcome × List Stage × Contexts) → On n hub (take_move response n x hub t)
went_on response n x hub t =
    let later : SendsOn n (with_held t.2 hub) (take_move response n x hub t).1 = passed_on_on response n t.0 (with_chain response t.1 x) (with_held t.2 hub) in
    record { more = later.more; adds = later.adds; own = later.own }

goes_on_on : (response : Bool) (n k : ℕ) (x : Exchange) (hub : Hub) → On n hub (resume_held response n k x hub)
goes_on_on response n k x hub =
    by_bool (On n hub) x.has_ended (x, hub) (take_move response n x hub (continued hub.contexts k (chain_of response x))) (λ e. none n hub)
    (λ e. went_on response n x hub (continued hub.contexts k (chain_of response x)))

gives_way_on : (response : Bool) (n k : ℕ) (x : Exchange) (hub : Hub) → On n hub (bypass response n k x hub)
gives_way_on response n k x hub =
    by_bool (On n hub) x.has_ended (x, hub) (take_move response n x hub (let_through hub.contexts k (chain_of response x))) (λ e. none n hub)
    (λ e. went_on response n x hub (let_through hub.contexts k (chain_of response x)))

resumes_on : (response : Bool) (n : ℕ) (at : Option ℕ) (x : Exchange) (hub : Hub) → On n hub (resume_place response n at x hub)
resumes_on response n None x hub = none n hub
resumes_on response n (Some k) x hub = goes_on_on response n k x hub

acts_on : (response : Bool) (k value n : ℕ) (x : Exchange) (hub : Hub) → On n hub (passing.apply_action response k value n x hub)
acts_on response k value n x hub =
    let h : Hub = pause_held response k x hub in
    let later : SendsOn n h (passing.apply_action response k value n x hub).1
    = by_bool (On n h) (value == 0) (resume_held response n k x h) (x, h) (λ e. goes_on_on response n k x h) (λ e. none n h) in
    record { more = later.more; adds = later.adds; own = later.own }

-- ---- deaths and fixed answers

opens_at_on : (response : Bool) (vm n k : ℕ) (o : Option Stage) (x : Exchange) (hub : Hub) → On n hub (bypass_vm_at response vm n k o x hub)
opens_at_on response vm n k None x hub = none n hub
opens_at_on response vm n k (Some s) x hub = by_bool (On n hub) (s.vm == vm) (bypass response n k x hub) (x, hub) (λ e. gives_way_on response n k x hub) (λ e. none n hub)

opens_on : (response : Bool) (vm n m : ℕ) (x : Exchange) (hub : Hub) → On n hub (bypass_vm_stages response vm n m (x, hub))
opens_on response vm n zero x hub = none n hub
opens_on response vm n (suc k) x hub =
    let p : Exchange × Hub = bypass_vm_at response vm n k (slice_get (chain_of response x) k) x hub in
    and_then n hub p.1 (bypass_vm_stages response vm n k p).1 (opens_at_on response vm n k (slice_get (chain_of response x) k) x hub) (opens_on response vm n k p.0 p.1)

opens_all_on : (vm n : ℕ) (x : Exchange) (hub : Hub) → On n hub (bypass_vm vm n x hub)
opens_all_on vm n x hub =
    let p : Exchange × Hub = bypass_vm_stages false vm n (length x.request) (x, hub) in
    and_then n hub p.1 (bypass_vm_stages true vm n (length p.0.response) p).1 (opens_on false vm n (length x.request) x hub) (opens_on true vm n (length p.0.response) p.0 p.1)

dies_on : (vm n : ℕ) (x : Exchange) (hub : Hub) → On n hub (passing.lose_vm vm n x hub)
dies_on vm n x hub =
    by_bool (On n hub) x.has_ended (x, hub) (if fails_closed vm x then answer_directly n 503 [] [] x hub else bypass_vm vm n x hub) (λ e. none n hub)
    (λ e. by_bool (On n hub) (fails_closed vm x) (answer_directly n 503 [] [] x hub) (bypass_vm vm n x hub) (λ d. directly_on n 503 [] [] x hub) (λ d. opens_all_on vm n x hub))

refused_on : (status n : ℕ) (x : Exchange) (hub : Hub) → On n hub (passing.refuse_exchange status n x hub)
refused_on status n x hub =
    by_bool (On n hub) (x.has_ended || x.is_answered) (x, hub)
    (if passes_filters status then answer n (closes_line status) status [] [] x hub else answer_directly n status [] [] (with_closes (closes_line status) x) hub) (λ e. none n hub)
    (λ e. by_bool (On n hub) (passes_filters status) (answer n (closes_line status) status [] [] x hub) (answer_directly n status [] [] (with_closes (closes_line status) x) hub)
    (λ d. answer_on n (closes_line status) status [] [] x hub) (λ d. directly_on n status [] [] (with_closes (closes_line status) x) hub))

pub own_line : ExchangesSendOnTheirLine
own_line n (comes items) x hub own = put_in_on false n items x hub
own_line n (responds items) x hub own = put_in_on true n items x hub
own_line n (acts response k value) x hub own = acts_on response k value n x hub
own_line n (resumes vm context response) x hub own = resumes_on response n (stage_of vm context (chain_of response x)) x hub
own_line n closes x hub own = by_bool (On n hub) x.has_ended (x, hub) (cut_off x hub) (λ e. none n hub) (λ e. cut_off_on n x hub)
own_line n (answers shut status fields body) x hub own = answer_on n shut status fields body x hub
own_line n (dies vm) x hub own = dies_on vm n x hub
own_line n (refuses status) x hub own = refused_on status n x hub
own_line n expires x hub own =
    by_bool (On n hub) (is_due hub.moment x) (answer n false 504 [] [] x hub) (x, hub) (λ e. answer_on n false 504 [] [] x hub) (λ e. none n hub)
own_line n (turns y after) x hub own = absurd own
