-- No function of an exchange moves the clock.
use Rattle.std.proofs.Common.{◌≡◌, ℕ, zero, suc, ◌==◌, Bool, true, false, not, ◌||◌, List, [], ◌∷◌, length, refl, ◌∙◌}
use Rattle.std.specs.Prelude.{if◌then◌else◌, Option, None, Some, slice_get}
use Rattle.contexts.specs.declared.parts.Contexts.{Contexts}
use Rattle.exchange.specs.declared.types.Exchange.{Exchange}
use Rattle.exchange.specs.declared.types.Hub.{Hub}
use Rattle.exchange.specs.Answering.{cut_off, answer_directly, finish_response_put, take_response_put, put_response_item, exchange_with_answer, with_answer, answer_through_stages, is_direct, with_closes, answer_open, answer, with_held}
use Rattle.exchange.specs.Heads.{is_bare, is_final, passes_filters, closes_line}
use Rattle.exchange.specs.Leaving.{send_request_item, send_response_item, send_item, send_items, is_due}
use Rattle.exchange.specs.Passing as passing
use Rattle.exchange.specs.Passing.{finish_put, take_move, take_put, put_to_chain, put_all_to_chain, put_read_items, resume_held, bypass, resume_place, stage_of, chain_of, with_chain, pause_held, bypass_vm_at, bypass_vm_stages, bypass_vm, fails_closed, takes_nothing}
use Rattle.law_exchange.specs.Ends.{IsOwn}
use Rattle.law_exchange.specs.Lives.{Deed, comes, responds, acts, resumes, closes, answers, dies, refuses, expires, turns, done_by}
use Rattle.filter_chain.specs.Chains.{put, continued, let_through}
use Rattle.filter_chain.specs.declared.item.ChainItem.{ChainItem}
use Rattle.filter_chain.specs.declared.item.ChainItem.TheVariants.{Head, Piece, Trailers}
use Rattle.filter_chain.specs.declared.item.PassOutcome.{PassOutcome}
use Rattle.filter_chain.specs.declared.item.PassOutcome.TheVariants as passed
use Rattle.filter_chain.specs.declared.stage.Stage.{Stage}
use Rattle.h1_model.specs.Fields.{Pair}
use Rattle.law_lines.proofs.Kept.{by_bool}

abbrev At : Hub → Exchange × Hub → Type 0
At hub p = p.1.moment ≡ hub.moment

-- ---- what leaves

up_at : (n : ℕ) (item : ChainItem) (x : Exchange) (hub : Hub) → At hub (send_request_item n item x hub)
up_at n (Head end) x hub = refl
up_at n (Piece bytes end) x hub = refl
up_at n Trailers x hub = refl

down_at : (n : ℕ) (item : ChainItem) (x : Exchange) (hub : Hub) → At hub (send_response_item n item x hub)
down_at n (Head end) x hub = refl
down_at n (Piece bytes end) x hub = refl
down_at n Trailers x hub = refl

leaves_at : (response : Bool) (n : ℕ) (item : ChainItem) (x : Exchange) (hub : Hub) → At hub (send_item response n item (x, hub))
leaves_at false n item x hub = by_bool (At hub) x.has_ended (x, hub) (send_request_item n item x hub) (λ e. refl) (λ e. up_at n item x hub)
leaves_at true n item x hub = by_bool (At hub) x.has_ended (x, hub) (send_response_item n item x hub) (λ e. refl) (λ e. down_at n item x hub)

left_at : (response : Bool) (n : ℕ) (items : List ChainItem) (x : Exchange) (hub : Hub) → At hub (send_items response n items (x, hub))
left_at response n [] x hub = refl
left_at response n (item ∷ items) x hub =
    let p : Exchange × Hub = send_item response n item (x, hub) in left_at response n items p.0 p.1 ∙ leaves_at response n item x hub

-- ---- answers

directly_at : (n status : ℕ) (fields : List Pair) (body : List ℕ) (x : Exchange) (hub : Hub) → At hub (answer_directly n status fields body x hub)
directly_at n status fields body x hub = by_bool (At hub) (x.is_head_out || not (is_final status)) (cut_off x hub) _ (λ e. refl) (λ e. refl)

passed_down_at : (n : ℕ) (p : PassOutcome) (x : Exchange) (hub : Hub) → At hub (finish_response_put n p x hub)
passed_down_at n passed.Over x hub = directly_at n 500 [] [] x hub
passed_down_at n (passed.Left items) x hub = left_at true n items x hub

put_went_down_at : (n : ℕ) (x : Exchange) (hub : Hub) (t : PassOutcome × List Stage) → At hub (take_response_put n x hub t)
put_went_down_at n x hub t = passed_down_at n t.0 (record x { response = t.1 }) hub

puts_down_at : (n : ℕ) (item : ChainItem) (x : Exchange) (hub : Hub) → At hub (put_response_item n item (x, hub))
puts_down_at n item x hub =
    by_bool (At hub) x.has_ended (x, hub) (take_response_put n x hub (put hub.contexts item x.response)) (λ e. refl) (λ e. put_went_down_at n x hub (put hub.contexts item x.response))

through_at : (n status : ℕ) (fields : List Pair) (body : List ℕ) (x : Exchange) (hub : Hub) → At hub (answer_through_stages n status fields body x hub)
through_at n status fields body x hub =
    let y : Exchange = exchange_with_answer status body x in
    let k : Hub = with_answer status fields x hub in
    let p : Exchange × Hub = put_response_item n (Head false) (y, k) in
    by_bool (At k) (is_bare y.told.length) (put_response_item n (Head true) (y, k)) (put_response_item n (Piece body true) p) (λ e. puts_down_at n (Head true) y k)
    (λ e. puts_down_at n (Piece body true) p.0 p.1 ∙ puts_down_at n (Head false) y k)

answer_at : (n : ℕ) (shut : Bool) (status : ℕ) (fields : List Pair) (body : List ℕ) (x : Exchange) (hub : Hub) → At hub (answer n shut status fields body x hub)
answer_at n shut status fields body x hub =
    by_bool (At hub) (x.has_ended || x.is_answered) (x, hub) (answer_open n status fields body (with_closes shut x) hub) (λ e. refl)
    (λ e. by_bool (At hub) (is_direct status (with_closes shut x)) (answer_directly n status fields body (with_closes shut x) hub) (answer_through_stages n status fields body (with_closes shut x) hub)
    (λ d. directly_at n status fields body (with_closes shut x) hub) (λ d. through_at n status fields body (with_closes shut x) hub))

-- ---- items and stages

pub passed_on_at : (response : Bool) (n : ℕ) (p : PassOutcome) (x : Exchange) (hub : Hub) → At hub (finish_put response n p x hub)
passed_on_at true n p x hub = passed_down_at n p x hub
passed_on_at false n passed.Over x hub = answer_at n true 413 [] [] x hub
passed_on_at false n (passed.Left items) x hub = left_at false n items x hub

puts_at : (response : Bool) (n : ℕ) (item : ChainItem) (x : Exchange) (hub : Hub) → At hub (put_to_chain response n item (x, hub))
puts_at response n item x hub =
    let t : PassOutcome × List Stage = put hub.contexts item (chain_of response x) in
    by_bool (At hub) (takes_nothing response x) (x, hub) (take_put response n x hub t) (λ e. refl) (λ e. passed_on_at response n t.0 (with_chain response t.1 x) hub)

puts_all_at : (response : Bool) (n : ℕ) (items : List ChainItem) (x : Exchange) (hub : Hub) → At hub (put_all_to_chain response n items (x, hub))
puts_all_at response n [] x hub = refl
puts_all_at response n (item ∷ items) x hub =
    let p : Exchange × Hub = put_to_chain response n item (x, hub) in puts_all_at response n items p.0 p.1 ∙ puts_at response n item x hub

put_in_at : (response : Bool) (n : ℕ) (items : List ChainItem) (x : Exchange) (hub : Hub) → At hub (put_read_items response items n x hub)
put_in_at response n items x hub = by_bool (At hub) x.is_answered (x, hub) (put_all_to_chain response n items (x, hub)) (λ e. refl) (λ e. puts_all_at response n items x hub)

went_at : (response : Bool) (n : ℕ) (x : Exchange) (hub : Hub) (t : PassOutcome × List Stage × Contexts) → At hub (take_move response n x hub t)
went_at response n x hub t = passed_on_at response n t.0 (with_chain response t.1 x) (with_held t.2 hub)

goes_on_at : (response : Bool) (n k : ℕ) (x : Exchange) (hub : Hub) → At hub (resume_held response n k x hub)
goes_on_at response n k x hub =
    by_bool (At hub) x.has_ended (x, hub) (take_move response n x hub (continued hub.contexts k (chain_of response x))) (λ e. refl)
    (λ e. went_at response n x hub (continued hub.contexts k (chain_of response x)))

gives_way_at : (response : Bool) (n k : ℕ) (x : Exchange) (hub : Hub) → At hub (bypass response n k x hub)
gives_way_at response n k x hub =
    by_bool (At hub) x.has_ended (x, hub) (take_move response n x hub (let_through hub.contexts k (chain_of response x))) (λ e. refl)
    (λ e. went_at response n x hub (let_through hub.contexts k (chain_of response x)))

resumes_at_at : (response : Bool) (n : ℕ) (at : Option ℕ) (x : Exchange) (hub : Hub) → At hub (resume_place response n at x hub)
resumes_at_at response n None x hub = refl
resumes_at_at response n (Some k) x hub = goes_on_at response n k x hub

acts_at : (response : Bool) (k value n : ℕ) (x : Exchange) (hub : Hub) → At hub (passing.apply_action response k value n x hub)
acts_at response k value n x hub =
    by_bool (At hub) (value == 0) (resume_held response n k x (pause_held response k x hub)) (x, pause_held response k x hub) (λ e. goes_on_at response n k x (pause_held response k x hub)) (λ e. refl)

-- ---- deaths and fixed answers

opens_at_at : (response : Bool) (vm n k : ℕ) (o : Option Stage) (x : Exchange) (hub : Hub) → At hub (bypass_vm_at response vm n k o x hub)
opens_at_at response vm n k None x hub = refl
opens_at_at response vm n k (Some s) x hub = by_bool (At hub) (s.vm == vm) (bypass response n k x hub) (x, hub) (λ e. gives_way_at response n k x hub) (λ e. refl)

opens_all_at : (response : Bool) (vm n m : ℕ) (x : Exchange) (hub : Hub) → At hub (bypass_vm_stages response vm n m (x, hub))
opens_all_at response vm n zero x hub = refl
opens_all_at response vm n (suc k) x hub =
    let p : Exchange × Hub = bypass_vm_at response vm n k (slice_get (chain_of response x) k) x hub in
    opens_all_at response vm n k p.0 p.1 ∙ opens_at_at response vm n k (slice_get (chain_of response x) k) x hub

opened_at : (vm n : ℕ) (x : Exchange) (hub : Hub) → At hub (bypass_vm vm n x hub)
opened_at vm n x hub =
    let p : Exchange × Hub = bypass_vm_stages false vm n (length x.request) (x, hub) in
    opens_all_at true vm n (length p.0.response) p.0 p.1 ∙ opens_all_at false vm n (length x.request) x hub

dies_at : (vm n : ℕ) (x : Exchange) (hub : Hub) → At hub (passing.lose_vm vm n x hub)
dies_at vm n x hub =
    by_bool (At hub) x.has_ended (x, hub) (if fails_closed vm x then answer_directly n 503 [] [] x hub else bypass_vm vm n x hub) (λ e. refl)
    (λ e. by_bool (At hub) (fails_closed vm x) (answer_directly n 503 [] [] x hub) (bypass_vm vm n x hub) (λ d. directly_at n 503 [] [] x hub) (λ d. opened_at vm n x hub))

refused_at : (status n : ℕ) (x : Exchange) (hub : Hub) → At hub (passing.refuse_exchange status n x hub)
refused_at status n x hub =
    by_bool (At hub) (x.has_ended || x.is_answered) (x, hub)
    (if passes_filters status then answer n (closes_line status) status [] [] x hub else answer_directly n status [] [] (with_closes (closes_line status) x) hub) (λ e. refl)
    (λ e. by_bool (At hub) (passes_filters status) (answer n (closes_line status) status [] [] x hub) (answer_directly n status [] [] (with_closes (closes_line status) x) hub)
    (λ d. answer_at n (closes_line status) status [] [] x hub) (λ d. directly_at n status [] [] (with_closes (closes_line status) x) hub))

pub deed_at : (n : ℕ) (deed : Deed) (x : Exchange) (hub : Hub) → IsOwn deed → At hub (done_by n deed x hub)
deed_at n (comes items) x hub own = put_in_at false n items x hub
deed_at n (responds items) x hub own = put_in_at true n items x hub
deed_at n (acts response k value) x hub own = acts_at response k value n x hub
deed_at n (resumes vm context response) x hub own = resumes_at_at response n (stage_of vm context (chain_of response x)) x hub
deed_at n closes x hub own = by_bool (At hub) x.has_ended (x, hub) (cut_off x hub) (λ e. refl) (λ e. refl)
deed_at n (answers shut status fields body) x hub own = answer_at n shut status fields body x hub
deed_at n (dies vm) x hub own = dies_at vm n x hub
deed_at n (refuses status) x hub own = refused_at status n x hub
deed_at n expires x hub own = by_bool (At hub) (is_due hub.moment x) (answer n false 504 [] [] x hub) (x, hub) (λ e. answer_at n false 504 [] [] x hub) (λ e. refl)
deed_at n (turns y after) x hub own = absurd own
