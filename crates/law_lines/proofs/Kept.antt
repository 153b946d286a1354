-- What an exchange keeps, whatever is done to it.
use Rattle.std.proofs.Common.{◌≡◌, ℕ, zero, suc, ◌-◌, ◌==◌, Bool, true, false, not, ◌||◌, ◌&&◌, List, [], ◌∷◌, length, drop, refl, ap, ◌∙◌}
use Rattle.std.specs.Prelude.{if◌then◌else◌, Option, None, Some, is_some, slice_get, codes}
use Rattle.contexts.specs.declared.parts.Contexts.{Contexts}
use Rattle.exchange.specs.declared.types.Exchange.{Exchange}
use Rattle.exchange.specs.declared.types.Hub.{Hub}
use Rattle.exchange.specs.declared.types.Request.{Request}
use Rattle.exchange.specs.Answering.{cut_off, answer_directly, finish_response_put, take_response_put, put_response_item, exchange_with_answer, with_answer, answer_through_stages, is_direct, with_closes, answer_open, answer, with_held}
use Rattle.exchange.specs.Heads.{is_bare, is_final, passes_filters, closes_line, may_stay}
use Rattle.exchange.specs.Leaving.{request_framing, send_request_item, send_response_item, send_item, send_items, is_due}
use Rattle.exchange.specs.Passing as passing
use Rattle.exchange.specs.Passing.{finish_put, take_move, take_put, put_to_chain, put_all_to_chain, put_read_items, resume_held, bypass, resume_place, stage_of, chain_of, with_chain, pause_held, bypass_vm_at, bypass_vm_stages, bypass_vm, fails_closed, takes_nothing}
use Rattle.law_exchange.specs.Lives.{is_over}
use Rattle.filter_chain.specs.Chains.{put, continued, let_through, reach_count}
use Rattle.filter_chain.specs.declared.item.ChainItem.{ChainItem}
use Rattle.filter_chain.specs.declared.item.ChainItem.TheVariants.{Head, Piece, Trailers}
use Rattle.filter_chain.specs.declared.item.PassOutcome.{PassOutcome}
use Rattle.filter_chain.specs.declared.item.PassOutcome.TheVariants as passed
use Rattle.filter_chain.specs.declared.stage.Stage.{Stage}
use Rattle.h1_model.specs.Fields.{Pair}
use Rattle.h1_model.specs.Unread.{Reading}

pub by_bool : {A : Type 0} (P : A → Type 0) (b : Bool) (a c : A) → (b ≡ true → P a) → (b ≡ false → P c) → P (if b then a else c)
by_bool P true a c here there = here refl
by_bool P false a c here there = there refl

-- its line stays open only where its request was read whole
abbrev pub Staid : Exchange → Type 0
Staid x = x.stays ≡ true → x.asked.whole ≡ true

-- its reader reads a response to the method that was sent up
abbrev pub FitsIn : Option Reading → Bool → Type 0
FitsIn None to_head = Unit {0}
FitsIn (Some reading) to_head = reading.asked ≡ Some (if to_head then codes "HEAD" else codes "GET")

abbrev pub Fits : Exchange → Type 0
Fits x = FitsIn x.reader x.is_head_up

pub record Kept (x y : Exchange) : Type 0 where
  pub filters : y.filters ≡ x.filters
  pub place : y.place ≡ x.place
  pub asked : y.asked ≡ x.asked
  pub request : x.request ≡ [] → y.request ≡ []
  pub response : x.response ≡ [] → y.response ≡ []
  pub staid : Staid x → Staid y
  pub told : y.is_answered ≡ false → y.has_ended ≡ false → (x.is_answered ≡ false) × (x.has_ended ≡ false) × (y.told ≡ x.told)
  pub fits : Fits x → Fits y
  pub opened : is_some x.reader ≡ true → is_some y.reader ≡ true
  pub entered : y.is_entered ≡ x.is_entered
  pub framed : request_framing y ≡ request_framing x

abbrev K : Exchange → Exchange × Hub → Type 0
K x p = Kept x p.0

pub kept_itself : (x : Exchange) → Kept x x
kept_itself x = record { filters = refl; place = refl; asked = refl; request = λ e. e; response = λ e. e; staid = λ s. s; told = λ a e. (a, e, refl); fits = λ f. f; entered = refl; framed = refl; opened = λ o. o }

pub kept_then : (x y z : Exchange) → Kept x y → Kept y z → Kept x z
kept_then x y z a b = record {
  filters = b.filters ∙ a.filters;
  place = b.place ∙ a.place;
  asked = b.asked ∙ a.asked;
  request = λ e. b.request (a.request e);
  response = λ e. b.response (a.response e);
  staid = λ s. b.staid (a.staid s);
  told = λ o e. let later = b.told o e in let first = a.told later.0 later.1 in (first.0, first.1, later.2 ∙ first.2);
  fits = λ f. b.fits (a.fits f);
  entered = b.entered ∙ a.entered;
  framed = b.framed ∙ a.framed;
  opened = λ o. b.opened (a.opened o);
}

and_left : (a b : Bool) → (a && b) ≡ true → a ≡ true
and_left true b is = refl
and_left false b is = is

and_right : (a b : Bool) → (a && b) ≡ true → b ≡ true
and_right true b is = is
and_right false b is = absurd (cc)

may_is_whole : (q : Request) → may_stay q ≡ true → q.whole ≡ true
may_is_whole q is = and_right (not q.old_client && not q.close) q.whole is

-- ---- what leaves

up_kept : (n : ℕ) (item : ChainItem) (x : Exchange) (hub : Hub) → K x (send_request_item n item x hub)
up_kept n (Head end) x hub = record { filters = refl; place = refl; asked = refl; request = λ e. e; response = λ e. e; staid = λ s. s; told = λ a e. (a, e, refl); fits = λ f. refl; entered = refl; framed = refl; opened = λ o. refl }
up_kept n (Piece bytes end) x hub = kept_itself x
up_kept n Trailers x hub = kept_itself x

down_kept : (n : ℕ) (item : ChainItem) (x : Exchange) (hub : Hub) → x.has_ended ≡ false → K x (send_response_item n item x hub)
down_kept n (Head end) x hub runs = record {
  filters = refl;
  place = refl;
  asked = refl;
  request = λ e. e;
  response = λ e. e;
  staid = λ s e. may_is_whole x.asked (and_left (may_stay x.asked) (not x.closes) (and_left (may_stay x.asked && not x.closes) _ e));
  told = λ a e. (a, runs, refl);
  fits = λ f. f;
  entered = refl;
  framed = refl;
  opened = λ o. o;
}
down_kept n (Piece bytes end) x hub runs = record { filters = refl; place = refl; asked = refl; request = λ e. e; response = λ e. e; staid = λ s. s; told = λ a e. (a, runs, refl); fits = λ f. f; entered = refl; framed = refl; opened = λ o. o }
down_kept n Trailers x hub runs = record { filters = refl; place = refl; asked = refl; request = λ e. e; response = λ e. e; staid = λ s. s; told = λ a e. (a, runs, refl); fits = λ f. f; entered = refl; framed = refl; opened = λ o. o }

leaves_kept : (response : Bool) (n : ℕ) (item : ChainItem) (p : Exchange × Hub) → K p.0 (send_item response n item p)
leaves_kept false n item p = by_bool (K p.0) p.0.has_ended p (send_request_item n item p.0 p.1) (λ e. kept_itself p.0) (λ e. up_kept n item p.0 p.1)
leaves_kept true n item p = by_bool (K p.0) p.0.has_ended p (send_response_item n item p.0 p.1) (λ e. kept_itself p.0) (λ e. down_kept n item p.0 p.1 e)

left_kept : (response : Bool) (n : ℕ) (items : List ChainItem) (p : Exchange × Hub) → K p.0 (send_items response n items p)
left_kept response n [] p = kept_itself p.0
left_kept response n (item ∷ items) p =
    let q : Exchange × Hub = send_item response n item p in
    kept_then p.0 q.0 (send_items response n items q).0 (leaves_kept response n item p) (left_kept response n items q)

-- ---- answers

cut_off_kept : (x : Exchange) (hub : Hub) → K x (cut_off x hub)
cut_off_kept x hub = record { filters = refl; place = refl; asked = refl; request = λ e. refl; response = λ e. refl; staid = λ s e. absurd (cc); told = λ a e. absurd (cc); fits = λ f. f; entered = refl; framed = refl; opened = λ o. o }

directly_kept : (n status : ℕ) (fields : List Pair) (body : List ℕ) (x : Exchange) (hub : Hub) → K x (answer_directly n status fields body x hub)
directly_kept n status fields body x hub =
    by_bool (K x) (x.is_head_out || not (is_final status)) (cut_off x hub) _ (λ e. cut_off_kept x hub)
    (λ e. record {
      filters = refl;
      place = refl;
      asked = refl;
      request = λ e. refl;
      response = λ e. refl;
      staid = λ s e. may_is_whole x.asked (and_left (may_stay x.asked) (not x.closes) e);
      told = λ a e. absurd (cc);
      fits = λ f. f;
      entered = refl;
      framed = refl;
      opened = λ o. o;
    })

-- a chain that became another
chain_kept : (response : Bool) (t : List Stage) (x : Exchange) → (chain_of response x ≡ [] → t ≡ []) → Kept x (with_chain response t x)
chain_kept false t x is = record { filters = refl; place = refl; asked = refl; request = is; response = λ e. e; staid = λ s. s; told = λ a e. (a, e, refl); fits = λ f. f; entered = refl; framed = refl; opened = λ o. o }
chain_kept true t x is = record { filters = refl; place = refl; asked = refl; request = λ e. e; response = is; staid = λ s. s; told = λ a e. (a, e, refl); fits = λ f. f; entered = refl; framed = refl; opened = λ o. o }

passed_down_kept : (n : ℕ) (p : PassOutcome) (x : Exchange) (hub : Hub) → K x (finish_response_put n p x hub)
passed_down_kept n passed.Over x hub = directly_kept n 500 [] [] x hub
passed_down_kept n (passed.Left items) x hub = left_kept true n items (x, hub)

put_none : (h : Contexts) (item : ChainItem) (s : List Stage) → s ≡ [] → (put h item s).1 ≡ []
put_none h item s is = ap (λ (l : List Stage). (put h item l).1) is

continued_none : (h : Contexts) (k : ℕ) (s : List Stage) → s ≡ [] → (continued h k s).1 ≡ []
continued_none h k s is = ap (λ (l : List Stage). (continued h k l).1) is

through_none : (h : Contexts) (k : ℕ) (s : List Stage) → s ≡ [] → (let_through h k s).1 ≡ []
through_none h k s is = ap (λ (l : List Stage). (let_through h k l).1) is

puts_down_kept : (n : ℕ) (item : ChainItem) (p : Exchange × Hub) → K p.0 (put_response_item n item p)
puts_down_kept n item p =
    let t : PassOutcome × List Stage = put p.1.contexts item p.0.response in
    by_bool (K p.0) p.0.has_ended p (take_response_put n p.0 p.1 t) (λ e. kept_itself p.0)
    (λ e. kept_then p.0 (with_chain true t.1 p.0) (take_response_put n p.0 p.1 t).0 (chain_kept true t.1 p.0 (put_none p.1.contexts item p.0.response)) (passed_down_kept n t.0 (with_chain true t.1 p.0) p.1))

none_dropped : (k : ℕ) → ◌≡◌ {A = List Stage} (drop k []) []
none_dropped zero = refl
none_dropped (suc k) = refl

answered_kept : (status : ℕ) (body : List ℕ) (x : Exchange) → Kept x (exchange_with_answer status body x)
answered_kept status body x = record {
  filters = refl;
  place = refl;
  asked = refl;
  request = λ e. refl;
  response = λ e.
      ap (λ (s : List Stage). drop (length s - (if x.is_entered then reach_count x.request else 0)) s) e ∙ none_dropped (0 - (if x.is_entered then reach_count x.request else 0));
  staid = λ s. s;
  told = λ a e. absurd (cc);
  fits = λ f. f;
  entered = refl;
  framed = refl;
  opened = λ o. o;
}

-- from the answer on
pub through_rest : (n status : ℕ) (fields : List Pair) (body : List ℕ) (x : Exchange) (hub : Hub) → K (exchange_with_answer status body x) (answer_through_stages n status fields body x hub)
through_rest n status fields body x hub =
    let y : Exchange = exchange_with_answer status body x in
    let k : Hub = with_answer status fields x hub in
    let p : Exchange × Hub = put_response_item n (Head false) (y, k) in
    by_bool (K y) (is_bare y.told.length) (put_response_item n (Head true) (y, k)) (put_response_item n (Piece body true) p) (λ e. puts_down_kept n (Head true) (y, k))
    (λ e. kept_then y p.0 (put_response_item n (Piece body true) p).0 (puts_down_kept n (Head false) (y, k)) (puts_down_kept n (Piece body true) p))

through_kept : (n status : ℕ) (fields : List Pair) (body : List ℕ) (x : Exchange) (hub : Hub) → K x (answer_through_stages n status fields body x hub)
through_kept n status fields body x hub =
    kept_then x (exchange_with_answer status body x) (answer_through_stages n status fields body x hub).0 (answered_kept status body x) (through_rest n status fields body x hub)

shut_kept : (c : Bool) (x : Exchange) → Kept x (with_closes c x)
shut_kept c x = record { filters = refl; place = refl; asked = refl; request = λ e. e; response = λ e. e; staid = λ s. s; told = λ a e. (a, e, refl); fits = λ f. f; entered = refl; framed = refl; opened = λ o. o }

pub answer_kept : (n : ℕ) (shut : Bool) (status : ℕ) (fields : List Pair) (body : List ℕ) (x : Exchange) (hub : Hub) → K x (answer n shut status fields body x hub)
answer_kept n shut status fields body x hub =
    by_bool (K x) (x.has_ended || x.is_answered) (x, hub) (answer_open n status fields body (with_closes shut x) hub) (λ e. kept_itself x)
    (λ e. kept_then x (with_closes shut x) (answer_open n status fields body (with_closes shut x) hub).0 (shut_kept shut x)
    (by_bool (K (with_closes shut x)) (is_direct status (with_closes shut x)) (answer_directly n status fields body (with_closes shut x) hub) (answer_through_stages n status fields body (with_closes shut x) hub)
    (λ d. directly_kept n status fields body (with_closes shut x) hub) (λ d. through_kept n status fields body (with_closes shut x) hub)))

-- ---- items and stages

pub passed_on_kept : (response : Bool) (n : ℕ) (p : PassOutcome) (x : Exchange) (hub : Hub) → K x (finish_put response n p x hub)
passed_on_kept true n p x hub = passed_down_kept n p x hub
passed_on_kept false n passed.Over x hub = answer_kept n true 413 [] [] x hub
passed_on_kept false n (passed.Left items) x hub = left_kept false n items (x, hub)

puts_kept : (response : Bool) (n : ℕ) (item : ChainItem) (p : Exchange × Hub) → K p.0 (put_to_chain response n item p)
puts_kept response n item p =
    let t : PassOutcome × List Stage = put p.1.contexts item (chain_of response p.0) in
    by_bool (K p.0) (takes_nothing response p.0) p (take_put response n p.0 p.1 t) (λ e. kept_itself p.0)
    (λ e. kept_then p.0 (with_chain response t.1 p.0) (take_put response n p.0 p.1 t).0 (chain_kept response t.1 p.0 (put_none p.1.contexts item (chain_of response p.0)))
    (passed_on_kept response n t.0 (with_chain response t.1 p.0) p.1))

pub puts_all_kept : (response : Bool) (n : ℕ) (items : List ChainItem) (p : Exchange × Hub) → K p.0 (put_all_to_chain response n items p)
puts_all_kept response n [] p = kept_itself p.0
puts_all_kept response n (item ∷ items) p =
    let q : Exchange × Hub = put_to_chain response n item p in
    kept_then p.0 q.0 (put_all_to_chain response n items q).0 (puts_kept response n item p) (puts_all_kept response n items q)

pub put_in_kept : (response : Bool) (items : List ChainItem) (n : ℕ) (x : Exchange) (hub : Hub) → K x (put_read_items response items n x hub)
put_in_kept response items n x hub = by_bool (K x) x.is_answered (x, hub) (put_all_to_chain response n items (x, hub)) (λ e. kept_itself x) (λ e. puts_all_kept response n items (x, hub))

went_kept : (response : Bool) (n : ℕ) (x : Exchange) (hub : Hub) (t : PassOutcome × List Stage × Contexts) → (chain_of response x ≡ [] → t.1 ≡ []) → K x (take_move response n x hub t)
went_kept response n x hub t is =
    kept_then x (with_chain response t.1 x) (take_move response n x hub t).0 (chain_kept response t.1 x is) (passed_on_kept response n t.0 (with_chain response t.1 x) (with_held t.2 hub))

goes_on_kept : (response : Bool) (n k : ℕ) (x : Exchange) (hub : Hub) → K x (resume_held response n k x hub)
goes_on_kept response n k x hub =
    by_bool (K x) x.has_ended (x, hub) (take_move response n x hub (continued hub.contexts k (chain_of response x))) (λ e. kept_itself x)
    (λ e. went_kept response n x hub (continued hub.contexts k (chain_of response x)) (continued_none hub.contexts k (chain_of response x)))

gives_way_kept : (response : Bool) (n k : ℕ) (x : Exchange) (hub : Hub) → K x (bypass response n k x hub)
gives_way_kept response n k x hub =
    by_bool (K x) x.has_ended (x, hub) (take_move response n x hub (let_through hub.contexts k (chain_of response x))) (λ e. kept_itself x)
    (λ e. went_kept response n x hub (let_through hub.contexts k (chain_of response x)) (through_none hub.contexts k (chain_of response x)))

resumes_at_kept : (response : Bool) (n : ℕ) (at : Option ℕ) (x : Exchange) (hub : Hub) → K x (resume_place response n at x hub)
resumes_at_kept response n None x hub = kept_itself x
resumes_at_kept response n (Some k) x hub = goes_on_kept response n k x hub

pub resumes_kept : (vm context : ℕ) (response : Bool) (n : ℕ) (x : Exchange) (hub : Hub) → K x (passing.resume_context vm context response n x hub)
resumes_kept vm context response n x hub = resumes_at_kept response n (stage_of vm context (chain_of response x)) x hub

pub acts_kept : (response : Bool) (k value n : ℕ) (x : Exchange) (hub : Hub) → K x (passing.apply_action response k value n x hub)
acts_kept response k value n x hub =
    let h : Hub = pause_held response k x hub in
    by_bool (K x) (value == 0) (resume_held response n k x h) (x, h) (λ e. goes_on_kept response n k x h) (λ e. kept_itself x)

pub closed_kept : (n : ℕ) (x : Exchange) (hub : Hub) → K x (passing.close_exchange n x hub)
closed_kept n x hub = by_bool (K x) x.has_ended (x, hub) (cut_off x hub) (λ e. kept_itself x) (λ e. cut_off_kept x hub)

pub opens_at_kept : (response : Bool) (vm n k : ℕ) (o : Option Stage) (x : Exchange) (hub : Hub) → K x (bypass_vm_at response vm n k o x hub)
opens_at_kept response vm n k None x hub = kept_itself x
opens_at_kept response vm n k (Some s) x hub = by_bool (K x) (s.vm == vm) (bypass response n k x hub) (x, hub) (λ e. gives_way_kept response n k x hub) (λ e. kept_itself x)

pub opens_kept : (response : Bool) (vm n m : ℕ) (p : Exchange × Hub) → K p.0 (bypass_vm_stages response vm n m p)
opens_kept response vm n zero p = kept_itself p.0
opens_kept response vm n (suc k) p =
    let q : Exchange × Hub = bypass_vm_at response vm n k (slice_get (chain_of response p.0) k) p.0 p.1 in
    kept_then p.0 q.0 (bypass_vm_stages response vm n k q).0 (opens_at_kept response vm n k (slice_get (chain_of response p.0) k) p.0 p.1) (opens_kept response vm n k q)

opens_all_kept : (vm n : ℕ) (x : Exchange) (hub : Hub) → K x (bypass_vm vm n x hub)
opens_all_kept vm n x hub =
    let p : Exchange × Hub = bypass_vm_stages false vm n (length x.request) (x, hub) in
    kept_then x p.0 (bypass_vm_stages true vm n (length p.0.response) p).0 (opens_kept false vm n (length x.request) (x, hub)) (opens_kept true vm n (length p.0.response) p)

pub dies_kept : (vm n : ℕ) (x : Exchange) (hub : Hub) → K x (passing.lose_vm vm n x hub)
dies_kept vm n x hub =
    by_bool (K x) x.has_ended (x, hub) (if fails_closed vm x then answer_directly n 503 [] [] x hub else bypass_vm vm n x hub) (λ e. kept_itself x)
    (λ e. by_bool (K x) (fails_closed vm x) (answer_directly n 503 [] [] x hub) (bypass_vm vm n x hub) (λ d. directly_kept n 503 [] [] x hub) (λ d. opens_all_kept vm n x hub))

pub refused_kept : (status n : ℕ) (x : Exchange) (hub : Hub) → K x (passing.refuse_exchange status n x hub)
refused_kept status n x hub =
    by_bool (K x) (x.has_ended || x.is_answered) (x, hub)
    (if passes_filters status then answer n (closes_line status) status [] [] x hub else answer_directly n status [] [] (with_closes (closes_line status) x) hub) (λ e. kept_itself x)
    (λ e. by_bool (K x) (passes_filters status) (answer n (closes_line status) status [] [] x hub) (answer_directly n status [] [] (with_closes (closes_line status) x) hub)
    (λ d. answer_kept n (closes_line status) status [] [] x hub)
    (λ d. kept_then x (with_closes (closes_line status) x) (answer_directly n status [] [] (with_closes (closes_line status) x) hub).0 (shut_kept (closes_line status) x) (directly_kept n status [] [] (with_closes (closes_line status) x) hub)))

pub expires_kept : (n : ℕ) (x : Exchange) (hub : Hub) → K x (passing.expire_exchange n x hub)
expires_kept n x hub = by_bool (K x) (is_due hub.moment x) (answer n false 504 [] [] x hub) (x, hub) (λ e. answer_kept n false 504 [] [] x hub) (λ e. kept_itself x)

-- ---- what is over stays so

parts : (a b : Bool) → (a || b) ≡ false → (a ≡ false) × (b ≡ false)
parts true b is = absurd (cc)
parts false b is = (refl, is)

pub over_told : (x y : Exchange) → (y.is_answered ≡ false → y.has_ended ≡ false → (x.is_answered ≡ false) × (x.has_ended ≡ false) × (y.told ≡ x.told)) → is_over x ≡ true → is_over y ≡ true
over_told x y told over = by_test (is_over y) refl
  where
    by_test : (b : Bool) → is_over y ≡ b → is_over y ≡ true
    by_test true is = is
    by_test false is =
        let p = parts y.has_ended y.is_answered is in
        let t = told p.1 p.0 in
        let unended : is_over x ≡ false = λ i. t.1 i || t.0 i in
        absurd (cc)
