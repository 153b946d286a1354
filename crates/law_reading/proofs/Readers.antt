-- What is done to an exchange leaves it its reader, or opens a connection with a new one.
use Rattle.std.proofs.Common.{◌≡◌, ◌⊎◌, inl, inr, ℕ, zero, suc, ◌==◌, Bool, true, false, not, ◌||◌, List, [], ◌∷◌, length, refl, ◌∙◌}
use Rattle.std.specs.Prelude.{if◌then◌else◌, Option, None, Some, slice_get}
use Rattle.contexts.specs.declared.parts.Contexts.{Contexts}
use Rattle.exchange.specs.declared.types.Exchange.{Exchange}
use Rattle.exchange.specs.declared.types.Hub.{Hub}
use Rattle.exchange.specs.Answering.{cut_off, answer_directly, finish_response_put, take_response_put, put_response_item, exchange_with_answer, with_answer, answer_through_stages, is_direct, with_closes, answer_open, answer, with_held}
use Rattle.exchange.specs.Heads.{is_bare, is_final, passes_filters, closes_line}
use Rattle.exchange.specs.Leaving.{send_request_item, send_response_item, send_item, send_items, is_due}
use Rattle.exchange.specs.Passing as passing
use Rattle.exchange.specs.Passing.{finish_put, take_move, take_put, put_to_chain, put_all_to_chain, put_read_items, resume_held, bypass, resume_place, stage_of, chain_of, with_chain, pause_held, bypass_vm_at, bypass_vm_stages, bypass_vm, fails_closed, takes_nothing}
use Rattle.filter_chain.specs.Chains.{put, continued, let_through}
use Rattle.filter_chain.specs.declared.item.ChainItem.{ChainItem}
use Rattle.filter_chain.specs.declared.item.ChainItem.TheVariants.{Head, Piece, Trailers}
use Rattle.filter_chain.specs.declared.item.PassOutcome.{PassOutcome}
use Rattle.filter_chain.specs.declared.item.PassOutcome.TheVariants as passed
use Rattle.filter_chain.specs.declared.stage.Stage.{Stage}
use Rattle.h1_model.specs.Fields.{Pair}
use Rattle.h1_model.specs.Unread.{Reading, new_reading}
use Rattle.worker_model.specs.Steps.{exchange_reading, is_answered_in}

pub by_bool : {A : Type 0} (P : A → Type 0) (b : Bool) (a c : A) → (b ≡ true → P a) → (b ≡ false → P c) → P (if b then a else c)
by_bool P true a c here there = here refl
by_bool P false a c here there = there refl

-- there is none, or nothing has come of it
abbrev pub IsYoung : Option Reading → Type 0
IsYoung o = (o ≡ None) ⊎ ((method : List ℕ) × (o ≡ Some (new_reading (Some method))))

-- The reader is the same, of an exchange that stays answered where it was; or it is a new one.
abbrev pub ReaderGoes : Option Exchange → Option Exchange → Type 0
ReaderGoes o p = ((exchange_reading p ≡ exchange_reading o) × (is_answered_in o ≡ true → is_answered_in p ≡ true)) ⊎ IsYoung (exchange_reading p)

pub reader_then : (o p q : Option Exchange) → ReaderGoes o p → ReaderGoes p q → ReaderGoes o q
reader_then o p q (inl e) (inl f) = inl (f.0 ∙ e.0, λ a. f.1 (e.1 a))
reader_then o p q (inr (inl e)) (inl f) = inr (inl (f.0 ∙ e))
reader_then o p q (inr (inr (m, e))) (inl f) = inr (inr (m, f.0 ∙ e))
reader_then o p q a (inr y) = inr y

abbrev K : Exchange → Exchange × Hub → Type 0
K x p = ReaderGoes (Some x) (Some p.0)

itself : (x : Exchange) → ReaderGoes (Some x) (Some x)
itself x = inl (refl, λ a. a)

behind : (x y z : Exchange) → ReaderGoes (Some x) (Some y) → ReaderGoes (Some y) (Some z) → ReaderGoes (Some x) (Some z)
behind x y z a b = reader_then (Some x) (Some y) (Some z) a b

-- ---- what leaves

up_kept : (n : ℕ) (item : ChainItem) (x : Exchange) (hub : Hub) → K x (send_request_item n item x hub)
up_kept n (Head end) x hub = inr (inr (_, refl))
up_kept n (Piece bytes end) x hub = itself x
up_kept n Trailers x hub = itself x

down_kept : (n : ℕ) (item : ChainItem) (x : Exchange) (hub : Hub) → K x (send_response_item n item x hub)
down_kept n (Head end) x hub = inl (refl, λ a. a)
down_kept n (Piece bytes end) x hub = inl (refl, λ a. a)
down_kept n Trailers x hub = inl (refl, λ a. a)

leaves_kept : (response : Bool) (n : ℕ) (item : ChainItem) (p : Exchange × Hub) → K p.0 (send_item response n item p)
leaves_kept false n item p = by_bool (K p.0) p.0.has_ended p (send_request_item n item p.0 p.1) (λ e. itself p.0) (λ e. up_kept n item p.0 p.1)
leaves_kept true n item p = by_bool (K p.0) p.0.has_ended p (send_response_item n item p.0 p.1) (λ e. itself p.0) (λ e. down_kept n item p.0 p.1)

left_kept : (response : Bool) (n : ℕ) (items : List ChainItem) (p : Exchange × Hub) → K p.0 (send_items response n items p)
left_kept response n [] p = itself p.0
left_kept response n (item ∷ items) p =
    let q : Exchange × Hub = send_item response n item p in
    behind p.0 q.0 (send_items response n items q).0 (leaves_kept response n item p) (left_kept response n items q)

-- ---- answers

directly_kept : (n status : ℕ) (fields : List Pair) (body : List ℕ) (x : Exchange) (hub : Hub) → K x (answer_directly n status fields body x hub)
directly_kept n status fields body x hub = by_bool (K x) (x.is_head_out || not (is_final status)) (cut_off x hub) _ (λ e. inl (refl, λ a. a)) (λ e. inl (refl, λ a. a))

chain_kept : (response : Bool) (t : List Stage) (x : Exchange) → ReaderGoes (Some x) (Some (with_chain response t x))
chain_kept false t x = inl (refl, λ a. a)
chain_kept true t x = inl (refl, λ a. a)

passed_down_kept : (n : ℕ) (p : PassOutcome) (x : Exchange) (hub : Hub) → K x (finish_response_put n p x hub)
passed_down_kept n passed.Over x hub = directly_kept n 500 [] [] x hub
passed_down_kept n (passed.Left items) x hub = left_kept true n items (x, hub)

puts_down_kept : (n : ℕ) (item : ChainItem) (p : Exchange × Hub) → K p.0 (put_response_item n item p)
puts_down_kept n item p =
    let t : PassOutcome × List Stage = put p.1.contexts item p.0.response in
    by_bool (K p.0) p.0.has_ended p (take_response_put n p.0 p.1 t) (λ e. itself p.0) (λ e. passed_down_kept n t.0 (with_chain true t.1 p.0) p.1)

through_kept : (n status : ℕ) (fields : List Pair) (body : List ℕ) (x : Exchange) (hub : Hub) → K x (answer_through_stages n status fields body x hub)
through_kept n status fields body x hub =
    let y : Exchange = exchange_with_answer status body x in
    let k : Hub = with_answer status fields x hub in
    let p : Exchange × Hub = put_response_item n (Head false) (y, k) in
    let first : ReaderGoes (Some x) (Some y) = inl (refl, λ a. refl) in
    by_bool (K x) (is_bare y.told.length) (put_response_item n (Head true) (y, k)) (put_response_item n (Piece body true) p) (λ e. behind x y (put_response_item n (Head true) (y, k)).0 first (puts_down_kept n (Head true) (y, k)))
    (λ e. behind x y (put_response_item n (Piece body true) p).0 first (behind y p.0 (put_response_item n (Piece body true) p).0 (puts_down_kept n (Head false) (y, k)) (puts_down_kept n (Piece body true) p)))

pub answer_kept : (n : ℕ) (shut : Bool) (status : ℕ) (fields : List Pair) (body : List ℕ) (x : Exchange) (hub : Hub) → K x (answer n shut status fields body x hub)
answer_kept n shut status fields body x hub =
    by_bool (K x) (x.has_ended || x.is_answered) (x, hub) (answer_open n status fields body (with_closes shut x) hub) (λ e. itself x)
    (λ e. by_bool (K x) (is_direct status (with_closes shut x)) (answer_directly n status fields body (with_closes shut x) hub) (answer_through_stages n status fields body (with_closes shut x) hub)
    (λ d. directly_kept n status fields body (with_closes shut x) hub) (λ d. through_kept n status fields body (with_closes shut x) hub))

-- ---- items and stages

pub passed_on_kept : (response : Bool) (n : ℕ) (p : PassOutcome) (x : Exchange) (hub : Hub) → K x (finish_put response n p x hub)
passed_on_kept true n p x hub = passed_down_kept n p x hub
passed_on_kept false n passed.Over x hub = answer_kept n true 413 [] [] x hub
passed_on_kept false n (passed.Left items) x hub = left_kept false n items (x, hub)

puts_kept : (response : Bool) (n : ℕ) (item : ChainItem) (p : Exchange × Hub) → K p.0 (put_to_chain response n item p)
puts_kept response n item p =
    let t : PassOutcome × List Stage = put p.1.contexts item (chain_of response p.0) in
    by_bool (K p.0) (takes_nothing response p.0) p (take_put response n p.0 p.1 t) (λ e. itself p.0)
    (λ e. behind p.0 (with_chain response t.1 p.0) (take_put response n p.0 p.1 t).0 (chain_kept response t.1 p.0) (passed_on_kept response n t.0 (with_chain response t.1 p.0) p.1))

puts_all_kept : (response : Bool) (n : ℕ) (items : List ChainItem) (p : Exchange × Hub) → K p.0 (put_all_to_chain response n items p)
puts_all_kept response n [] p = itself p.0
puts_all_kept response n (item ∷ items) p =
    let q : Exchange × Hub = put_to_chain response n item p in
    behind p.0 q.0 (put_all_to_chain response n items q).0 (puts_kept response n item p) (puts_all_kept response n items q)

pub put_in_kept : (response : Bool) (items : List ChainItem) (n : ℕ) (x : Exchange) (hub : Hub) → K x (put_read_items response items n x hub)
put_in_kept response items n x hub = by_bool (K x) x.is_answered (x, hub) (put_all_to_chain response n items (x, hub)) (λ e. itself x) (λ e. puts_all_kept response n items (x, hub))

went_kept : (response : Bool) (n : ℕ) (x : Exchange) (hub : Hub) (t : PassOutcome × List Stage × Contexts) → K x (take_move response n x hub t)
went_kept response n x hub t = behind x (with_chain response t.1 x) (take_move response n x hub t).0 (chain_kept response t.1 x) (passed_on_kept response n t.0 (with_chain response t.1 x) (with_held t.2 hub))

goes_on_kept : (response : Bool) (n k : ℕ) (x : Exchange) (hub : Hub) → K x (resume_held response n k x hub)
goes_on_kept response n k x hub =
    by_bool (K x) x.has_ended (x, hub) (take_move response n x hub (continued hub.contexts k (chain_of response x))) (λ e. itself x)
    (λ e. went_kept response n x hub (continued hub.contexts k (chain_of response x)))

gives_way_kept : (response : Bool) (n k : ℕ) (x : Exchange) (hub : Hub) → K x (bypass response n k x hub)
gives_way_kept response n k x hub =
    by_bool (K x) x.has_ended (x, hub) (take_move response n x hub (let_through hub.contexts k (chain_of response x))) (λ e. itself x)
    (λ e. went_kept response n x hub (let_through hub.contexts k (chain_of response x)))

resumes_at_kept : (response : Bool) (n : ℕ) (at : Option ℕ) (x : Exchange) (hub : Hub) → K x (resume_place response n at x hub)
resumes_at_kept response n None x hub = itself x
resumes_at_kept response n (Some k) x hub = goes_on_kept response n k x hub

pub resumes_kept : (vm context : ℕ) (response : Bool) (n : ℕ) (x : Exchange) (hub : Hub) → K x (passing.resume_context vm context response n x hub)
resumes_kept vm context response n x hub = resumes_at_kept response n (stage_of vm context (chain_of response x)) x hub

pub acts_kept : (response : Bool) (k value n : ℕ) (x : Exchange) (hub : Hub) → K x (passing.apply_action response k value n x hub)
acts_kept response k value n x hub =
    let h : Hub = pause_held response k x hub in
    by_bool (K x) (value == 0) (resume_held response n k x h) (x, h) (λ e. goes_on_kept response n k x h) (λ e. itself x)

pub closed_kept : (n : ℕ) (x : Exchange) (hub : Hub) → K x (passing.close_exchange n x hub)
closed_kept n x hub = by_bool (K x) x.has_ended (x, hub) (cut_off x hub) (λ e. itself x) (λ e. inl (refl, λ a. a))

opens_at_kept : (response : Bool) (vm n k : ℕ) (o : Option Stage) (x : Exchange) (hub : Hub) → K x (bypass_vm_at response vm n k o x hub)
opens_at_kept response vm n k None x hub = itself x
opens_at_kept response vm n k (Some s) x hub = by_bool (K x) (s.vm == vm) (bypass response n k x hub) (x, hub) (λ e. gives_way_kept response n k x hub) (λ e. itself x)

opens_kept : (response : Bool) (vm n m : ℕ) (p : Exchange × Hub) → K p.0 (bypass_vm_stages response vm n m p)
opens_kept response vm n zero p = itself p.0
opens_kept response vm n (suc k) p =
    let q : Exchange × Hub = bypass_vm_at response vm n k (slice_get (chain_of response p.0) k) p.0 p.1 in
    behind p.0 q.0 (bypass_vm_stages response vm n k q).0 (opens_at_kept response vm n k (slice_get (chain_of response p.0) k) p.0 p.1) (opens_kept response vm n k q)

opens_all_kept : (vm n : ℕ) (x : Exchange) (hub : Hub) → K x (bypass_vm vm n x hub)
opens_all_kept vm n x hub =
    let p : Exchange × Hub = bypass_vm_stages false vm n (length x.request) (x, hub) in
    behind x p.0 (bypass_vm_stages true vm n (length p.0.response) p).0 (opens_kept false vm n (length x.request) (x, hub)) (opens_kept true vm n (length p.0.response) p)

pub dies_kept : (vm n : ℕ) (x : Exchange) (hub : Hub) → K x (passing.lose_vm vm n x hub)
dies_kept vm n x hub =
    by_bool (K x) x.has_ended (x, hub) (if fails_closed vm x then answer_directly n 503 [] [] x hub else bypass_vm vm n x hub) (λ e. itself x)
    (λ e. by_bool (K x) (fails_closed vm x) (answer_directly n 503 [] [] x hub) (bypass_vm vm n x hub) (λ d. directly_kept n 503 [] [] x hub) (λ d. opens_all_kept vm n x hub))

pub refused_kept : (status n : ℕ) (x : Exchange) (hub : Hub) → K x (passing.refuse_exchange status n x hub)
refused_kept status n x hub =
    by_bool (K x) (x.has_ended || x.is_answered) (x, hub)
    (if passes_filters status then answer n (closes_line status) status [] [] x hub else answer_directly n status [] [] (with_closes (closes_line status) x) hub) (λ e. itself x)
    (λ e. by_bool (K x) (passes_filters status) (answer n (closes_line status) status [] [] x hub) (answer_directly n status [] [] (with_closes (closes_line status) x) hub)
    (λ d. answer_kept n (closes_line status) status [] [] x hub) (λ d. directly_kept n status [] [] (with_closes (closes_line status) x) hub))

pub expires_kept : (n : ℕ) (x : Exchange) (hub : Hub) → K x (passing.expire_exchange n x hub)
expires_kept n x hub = by_bool (K x) (is_due hub.moment x) (answer n false 504 [] [] x hub) (x, hub) (λ e. answer_kept n false 504 [] [] x hub) (λ e. itself x)
