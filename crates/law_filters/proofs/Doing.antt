-- What stays true of an exchange and of what all lines have in common, whatever a worker does to it.
use Rattle.std.proofs.Common.{◌≡◌, ◌⊎◌, inl, inr, refl, ℕ, zero, suc, ◌==◌, Bool, true, false, not, ◌||◌, List, [], ◌∷◌, length}
use Rattle.std.specs.Prelude.{if◌then◌else◌, Option, None, Some, slice_get}
use Rattle.contexts.specs.Reached.{view_at}
use Rattle.contexts.specs.declared.parts.Contexts.{Contexts}
use Rattle.exchange.specs.declared.types.Exchange.{Exchange}
use Rattle.exchange.specs.declared.types.Hub.{Hub}
use Rattle.exchange.specs.Answering.{none_held, cut_off, answer_directly, with_held, finish_response_put, take_response_put, put_response_item, exchange_with_answer, with_answer, put_answer, answer_through_stages, with_closes, is_direct, answer_open, answer, stays_open}
use Rattle.exchange.specs.Heads.{is_bare, is_final, passes_filters, closes_line, status_in, sent_head, down_tail, with_connection}
use Rattle.exchange.specs.Leaving.{bytes_sent_to, hub_with_sent, out_framing, written_framing, stays_behind, send_response_head, send_response_item, send_item, send_items, is_due, with_out}
use Rattle.exchange.specs.Maps.{put_response, answer_map, response_map, response_trailers, mark, marked}
use Rattle.exchange.specs.Passing as passing
use Rattle.exchange.specs.Passing.{chain_of, finish_put, take_move, take_put, takes_nothing, put_to_chain, put_all_to_chain, resume_held, bypass, put_read_items, stage_of, resume_place, resume_context, pause_held, apply_action, fails_closed, bypass_vm_at, bypass_vm_stages, bypass_vm_response, bypass_vm, lose_vm, refuse_exchange, expire_exchange}
use Rattle.filter_chain.specs.Chains.{put as put_item, continued, let_through, paused, asked, ready, without_buffers}
use Rattle.filter_chain.specs.declared.item.Asking.{Asking}
use Rattle.filter_chain.specs.declared.item.Asking.TheVariants.{Nothing, Over, Asks}
use Rattle.filter_chain.specs.declared.item.ChainItem.{ChainItem}
use Rattle.filter_chain.specs.declared.item.ChainItem.TheVariants.{Head, Piece, Trailers}
use Rattle.filter_chain.specs.declared.item.PassOutcome.{PassOutcome}
use Rattle.filter_chain.specs.declared.item.PassOutcome.TheVariants as passed
use Rattle.filter_chain.specs.declared.stage.Stage.{Stage}
use Rattle.gate_io.specs.declared.event.Sent.{Sent}
use Rattle.gate_io.specs.declared.event.Sent.TheVariants as to
use Rattle.gate_io.specs.declared.event.Side.{Side}
use Rattle.gate_io.specs.declared.event.Side.TheVariants.{Down}
use Rattle.h1_model.specs.Fields.{Pair}
use Rattle.h1_model.specs.Framing.{head_wire, piece_wire, trailer_wire}
use Rattle.h1_model.specs.LocalReply.{local_reply_of}
use Rattle.worker_model.specs.Moves.{asks_as, asks_chain, asks_exchange, asks_response, with_none}
use Rattle.worker_model.specs.Rooms.{Changes, with_marks}
use Rattle.worker_model.specs.declared.types.Asked.{Asked}
use Rattle.law_filters.proofs.Same.{pick, SameIds, SameThird, same_then, same_view, same_cleared, same_continued, same_let_through, same_paused, same_asked}

-- no connection to a server is opened
abbrev pub NoConnects : List Sent → Type 0
NoConnects [] = Unit {0}
NoConnects (to.Connect n ∷ more) = ⊥
NoConnects (to.Bytes n side bytes ∷ more) = NoConnects more
NoConnects (to.Close n side ∷ more) = NoConnects more
NoConnects (to.Log level text ∷ more) = NoConnects more

pub bytes_connect_none : (n : ℕ) (side : Side) (bytes : List ℕ) → NoConnects (bytes_sent_to n side bytes)
bytes_connect_none n side [] = tt
bytes_connect_none n side (b ∷ bytes) = tt

-- nothing changed of an exchange but what is of its response
pub record IsAside (x y : Exchange) : Type 0 where
  pub filters : y.filters ≡ x.filters
  pub request : y.request ≡ x.request
  pub entered : y.is_entered ≡ x.is_entered
  pub answered : y.is_answered ≡ x.is_answered
  pub refusal : y.refusal ≡ x.refusal
  pub ended : x.has_ended ≡ true → y.has_ended ≡ true

-- nothing of its request comes any more
pub record IsShut (x y : Exchange) : Type 0 where
  pub filters : y.filters ≡ x.filters
  pub request : y.request ≡ []
  pub over : (y.has_ended ≡ true) ⊎ (y.is_answered ≡ true)

-- WHAT STAYS SO of an exchange on the line of a number, and of what all lines have in common
pub record IsClosed (G : ℕ → Exchange → Hub → Type 0) : Type 0 where
  pub hub : (n : ℕ) (x : Exchange) (hub : Hub) (h : Contexts) → SameIds hub.contexts h → G n x hub → G n x (record hub { contexts = h })
  pub sent : (n : ℕ) (x : Exchange) (hub : Hub) (more : List Sent) → NoConnects more → G n x hub → G n x (hub_with_sent more hub)
  pub aside : (n : ℕ) (x y : Exchange) (hub : Hub) → IsAside x y → G n x hub → G n y hub
  pub shut : (n : ℕ) (x y : Exchange) (hub : Hub) → IsShut x y → G n x hub → G n y hub

-- and also where its request moves: of these dead VMs, where no stage is asked that should not be
pub record IsMoved (D : ℕ → Type 0) (Goes : Option Asked → Type 0) (G : ℕ → Exchange → Hub → Type 0) : Type 0 where
  pub continues : (n k : ℕ) (x : Exchange) (hub : Hub) → x.has_ended ≡ false → G n x hub
      → G n (take_move false n x hub (continued hub.contexts k x.request)).0 (take_move false n x hub (continued hub.contexts k x.request)).1
  pub dies : (vm n : ℕ) (x : Exchange) (hub : Hub) → D vm → x.has_ended ≡ false → fails_closed vm x ≡ false → G n x hub → G n (bypass_vm vm n x hub).0 (bypass_vm vm n x hub).1
  pub asks : (n : ℕ) (x : Exchange) (hub : Hub) → Goes (asks_chain false n x hub (asked hub.contexts x.request)).0 → G n x hub
      → G n (asks_chain false n x hub (asked hub.contexts x.request)).1 (asks_chain false n x hub (asked hub.contexts x.request)).2

abbrev pub InBoth : (ℕ → Exchange → Hub → Type 0) → ℕ → Exchange × Hub → Type 0
InBoth G n (x, hub) = G n x hub

abbrev pub InThird : {A : Type 0} → (ℕ → Exchange → Hub → Type 0) → ℕ → A × Exchange × Hub → Type 0
InThird G n (a, x, hub) = G n x hub

abbrev pub Keeping : (ℕ → Exchange → Hub → Type 0) → Changes → Type 0
Keeping G change = (n : ℕ) (x : Exchange) (hub : Hub) → G n x hub → InBoth G n (change n x hub)

pub never : (b : Bool) → b ≡ false → b ≡ true → ⊥
never true here there = cc here
never false here there = cc there

pub by_ended : {A : Type 0} (P : A → Type 0) (b : Bool) (x y : A) → (b ≡ true → P x) → (b ≡ false → P y) → P (if b then x else y)
by_ended P true x y here there = here refl
by_ended P false x y here there = there refl

module _ (G : ℕ → Exchange → Hub → Type 0) (closed : IsClosed G) where
  -- ---- answers

  pub in_none : (n : ℕ) (x : Exchange) (y : Exchange) (hub : Hub) → G n y hub → G n y (none_held x hub)
  in_none n x y hub is =
      closed.hub n y hub (without_buffers (without_buffers hub.contexts x.request) x.response)
      (same_then hub.contexts (without_buffers hub.contexts x.request) (without_buffers (without_buffers hub.contexts x.request) x.response) (same_cleared x.request hub.contexts)
      (same_cleared x.response (without_buffers hub.contexts x.request))) is

  pub in_cut : (n : ℕ) (x : Exchange) (hub : Hub) → G n x hub → InBoth G n (cut_off x hub)
  in_cut n x hub is = in_none n x (cut_off x hub).0 hub (closed.shut n x (cut_off x hub).0 hub (record { filters = refl; request = refl; over = inl refl }) is)

  pub in_directly : (n status : ℕ) (fields : List Pair) (body : List ℕ) (x : Exchange) (hub : Hub) → G n x hub → InBoth G n (answer_directly n status fields body x hub)
  in_directly n status fields body x hub is =
      let y : Exchange = record x { request = []; response = []; is_head_out = true; has_ended = true; stays = stays_open x } in
      pick (InBoth G n) (x.is_head_out || not (is_final status)) (cut_off x hub) _ (in_cut n x hub is)
      (closed.sent n y (none_held x hub) (bytes_sent_to n Down (local_reply_of status fields body x.asked.is_head (not (stays_open x)) hub.moment))
      (bytes_connect_none n Down (local_reply_of status fields body x.asked.is_head (not (stays_open x)) hub.moment)) (in_none n x y hub (closed.shut n x y hub (record { filters = refl; request = refl; over = inl refl }) is)))

  in_down : (n : ℕ) (item : ChainItem) (x : Exchange) (hub : Hub) → x.has_ended ≡ false → G n x hub → InBoth G n (send_response_item n item x hub)
  in_down n (Head end) x hub runs is =
      let w : Exchange = with_out (status_in (response_map x.place hub.contexts)) x in
      let bytes : List ℕ = head_wire (out_framing w) (sent_head (response_map w.place hub.contexts) (down_tail (stays_behind w (out_framing w)) hub.moment (response_map w.place hub.contexts))) in
      closed.sent n (send_response_head n end w hub).0 hub (bytes_sent_to n Down bytes) (bytes_connect_none n Down bytes)
      (closed.aside n x (send_response_head n end w hub).0 hub (record { filters = refl; request = refl; entered = refl; answered = refl; refusal = refl; ended = λ e. absurd (never x.has_ended runs e) }) is)
  in_down n (Piece bytes end) x hub runs is =
      closed.sent n (record x { has_ended = end }) hub (bytes_sent_to n Down (piece_wire (written_framing x) bytes end)) (bytes_connect_none n Down (piece_wire (written_framing x) bytes end))
      (closed.aside n x (record x { has_ended = end }) hub (record { filters = refl; request = refl; entered = refl; answered = refl; refusal = refl; ended = λ e. absurd (never x.has_ended runs e) }) is)
  in_down n Trailers x hub runs is =
      let bytes : List ℕ = trailer_wire (written_framing x) (with_connection x.connection_down (response_trailers x.place hub.contexts).pairs) in
      closed.sent n (record x { has_ended = true }) hub (bytes_sent_to n Down bytes) (bytes_connect_none n Down bytes)
      (closed.aside n x (record x { has_ended = true }) hub (record { filters = refl; request = refl; entered = refl; answered = refl; refusal = refl; ended = λ e. refl }) is)

  in_leaves : (n : ℕ) (item : ChainItem) (xh : Exchange × Hub) → InBoth G n xh → InBoth G n (send_item true n item xh)
  in_leaves n item (x, hub) is = by_ended (InBoth G n) x.has_ended (x, hub) (send_response_item n item x hub) (λ e. is) (λ runs. in_down n item x hub runs is)

  pub in_left : (n : ℕ) (items : List ChainItem) (xh : Exchange × Hub) → InBoth G n xh → InBoth G n (send_items true n items xh)
  in_left n [] xh is = is
  in_left n (item ∷ items) xh is = in_left n items (send_item true n item xh) (in_leaves n item xh is)

  pub in_passed_down : (n : ℕ) (p : PassOutcome) (x : Exchange) (hub : Hub) → G n x hub → InBoth G n (finish_response_put n p x hub)
  in_passed_down n passed.Over x hub is = in_directly n 500 [] [] x hub is
  in_passed_down n (passed.Left items) x hub is = in_left n items (x, hub) is

  pub in_response : (n : ℕ) (x : Exchange) (stages : List Stage) (hub : Hub) → G n x hub → G n (record x { response = stages }) hub
  in_response n x stages hub is = closed.aside n x (record x { response = stages }) hub (record { filters = refl; request = refl; entered = refl; answered = refl; refusal = refl; ended = λ e. e }) is

  in_went_down : (n : ℕ) (x : Exchange) (hub : Hub) (r : PassOutcome × List Stage) → G n x hub → InBoth G n (take_response_put n x hub r)
  in_went_down n x hub (p, stages) is = in_passed_down n p (record x { response = stages }) hub (in_response n x stages hub is)

  in_puts_down : (n : ℕ) (item : ChainItem) (xh : Exchange × Hub) → InBoth G n xh → InBoth G n (put_response_item n item xh)
  in_puts_down n item (x, hub) is =
      pick (InBoth G n) x.has_ended (x, hub) (take_response_put n x hub (put_item hub.contexts item x.response)) is (in_went_down n x hub (put_item hub.contexts item x.response) is)

  in_puts_answer : (n : ℕ) (body : List ℕ) (xh : Exchange × Hub) → InBoth G n xh → InBoth G n (put_answer n body xh)
  in_puts_answer n body (x, hub) is =
      pick (InBoth G n) (is_bare x.told.length) (put_response_item n (Head true) (x, hub)) (put_response_item n (Piece body true) (put_response_item n (Head false) (x, hub)))
      (in_puts_down n (Head true) (x, hub) is) (in_puts_down n (Piece body true) (put_response_item n (Head false) (x, hub)) (in_puts_down n (Head false) (x, hub) is))

  in_with_answer : (n status : ℕ) (fields : List Pair) (x y : Exchange) (hub : Hub) → G n y hub → G n y (with_answer status fields x hub)
  in_with_answer n status fields x y hub is =
      let mid : Contexts = put_response (answer_map status fields) x.place hub.contexts in
      closed.hub n y hub (without_buffers mid x.request)
      (same_then hub.contexts mid (without_buffers mid x.request)
      (same_view (λ v. record v { maps = record v.maps { response = Some (answer_map status fields) } }) x.place (view_at hub.contexts.exchanges x.place) hub.contexts) (same_cleared x.request mid)) is

  in_through : (n status : ℕ) (fields : List Pair) (body : List ℕ) (x : Exchange) (hub : Hub) → G n x hub → InBoth G n (answer_through_stages n status fields body x hub)
  in_through n status fields body x hub is =
      let y : Exchange = exchange_with_answer status body x in
      in_puts_answer n body (y, with_answer status fields x hub) (in_with_answer n status fields x y hub (closed.shut n x y hub (record { filters = refl; request = refl; over = inr refl }) is))

  pub in_closes : (n : ℕ) (shut : Bool) (x : Exchange) (hub : Hub) → G n x hub → G n (with_closes shut x) hub
  in_closes n shut x hub is = closed.aside n x (with_closes shut x) hub (record { filters = refl; request = refl; entered = refl; answered = refl; refusal = refl; ended = λ e. e }) is

  in_answers_open : (n status : ℕ) (fields : List Pair) (body : List ℕ) (x : Exchange) (hub : Hub) → G n x hub → InBoth G n (answer_open n status fields body x hub)
  in_answers_open n status fields body x hub is =
      pick (InBoth G n) (is_direct status x) (answer_directly n status fields body x hub) (answer_through_stages n status fields body x hub) (in_directly n status fields body x hub is) (in_through n status fields body x hub is)

  pub in_answer : (n : ℕ) (shut : Bool) (status : ℕ) (fields : List Pair) (body : List ℕ) (x : Exchange) (hub : Hub) → G n x hub → InBoth G n (answer n shut status fields body x hub)
  in_answer n shut status fields body x hub is =
      pick (InBoth G n) (x.has_ended || x.is_answered) (x, hub) (answer_open n status fields body (with_closes shut x) hub) is (in_answers_open n status fields body (with_closes shut x) hub (in_closes n shut x hub is))

  -- ---- the chain of the response

  pub in_went : (n : ℕ) (x : Exchange) (hub : Hub) (r : PassOutcome × List Stage × Contexts) → SameThird hub.contexts r → G n x hub → InBoth G n (take_move true n x hub r)
  in_went n x hub (p, stages, held) same is = in_passed_down n p (record x { response = stages }) (with_held held hub) (closed.hub n (record x { response = stages }) hub held same (in_response n x stages hub is))

  in_puts : (n : ℕ) (item : ChainItem) (xh : Exchange × Hub) → InBoth G n xh → InBoth G n (put_to_chain true n item xh)
  in_puts n item (x, hub) is =
      pick (InBoth G n) (takes_nothing true x) (x, hub) (take_put true n x hub (put_item hub.contexts item x.response)) is (in_went_down n x hub (put_item hub.contexts item x.response) is)

  pub in_puts_all : (n : ℕ) (items : List ChainItem) (xh : Exchange × Hub) → InBoth G n xh → InBoth G n (put_all_to_chain true n items xh)
  in_puts_all n [] xh is = is
  in_puts_all n (item ∷ items) xh is = in_puts_all n items (put_to_chain true n item xh) (in_puts n item xh is)

module _ (D : ℕ → Type 0) (Goes : Option Asked → Type 0) (G : ℕ → Exchange → Hub → Type 0) (closed : IsClosed G) (moved : IsMoved D Goes G) where
  -- ---- what goes on

  in_goes_on : (response : Bool) (n k : ℕ) (x : Exchange) (hub : Hub) → G n x hub → InBoth G n (resume_held response n k x hub)
  in_goes_on false n k x hub is = by_ended (InBoth G n) x.has_ended (x, hub) (take_move false n x hub (continued hub.contexts k x.request)) (λ e. is) (λ runs. moved.continues n k x hub runs is)
  in_goes_on true n k x hub is =
      pick (InBoth G n) x.has_ended (x, hub) (take_move true n x hub (continued hub.contexts k x.response)) is
      (in_went G closed n x hub (continued hub.contexts k x.response) (same_continued hub.contexts k x.response (slice_get x.response k)) is)

  in_resumes_at : (response : Bool) (n : ℕ) (o : Option ℕ) (x : Exchange) (hub : Hub) → G n x hub → InBoth G n (resume_place response n o x hub)
  in_resumes_at response n None x hub is = is
  in_resumes_at response n (Some k) x hub is = in_goes_on response n k x hub is

  in_pauses : (response : Bool) (n k : ℕ) (x : Exchange) (hub : Hub) → G n x hub → G n x (pause_held response k x hub)
  in_pauses response n k x hub is = closed.hub n x hub (paused hub.contexts k (chain_of response x)) (same_paused hub.contexts (slice_get (chain_of response x) k)) is

  -- ---- a stage is asked

  pub in_marking : (n : ℕ) (xh : Exchange × Hub) → InBoth G n xh → InBoth G n (with_marks xh)
  in_marking n (x, hub) is = closed.hub n x hub (mark x.is_answered x.has_ended x.is_head_out x.place hub.contexts)
      (same_view (marked x.is_answered x.has_ended x.is_head_out) x.place (view_at hub.contexts.exchanges x.place) hub.contexts) is

  in_none_asked : (n : ℕ) (xh : Exchange × Hub) → InBoth G n xh → InThird G n (with_none xh)
  in_none_asked n (x, hub) is = is

  in_asks_as : (n : ℕ) (a : Asking) (x : Exchange) (hub : Hub) → G n x hub → InThird G n (asks_as true n a x hub)
  in_asks_as n Nothing x hub is = is
  in_asks_as n (Over k) x hub is = in_none_asked n (with_marks (finish_put true n passed.Over x hub)) (in_marking n (finish_put true n passed.Over x hub) (in_directly G closed n 500 [] [] x hub is))
  in_asks_as n (Asks ask) x hub is = is

  pub in_asks_chain : (n : ℕ) (x : Exchange) (hub : Hub) (r : Asking × List Stage × Contexts) → SameThird hub.contexts r → G n x hub → InThird G n (asks_chain true n x hub r)
  in_asks_chain n x hub (a, stages, h) same is = in_asks_as n a (record x { response = stages }) (with_held h hub) (closed.hub n (record x { response = stages }) hub h same (in_response G closed n x stages hub is))

  abbrev AsksOn : ℕ → Exchange → Hub → Bool → Type 0
  AsksOn n x hub response =
      Goes (asks_chain response n x hub (asked hub.contexts (chain_of response x))).0 → InThird G n (asks_chain response n x hub (asked hub.contexts (chain_of response x)))

  pub in_asks : (n : ℕ) (x : Exchange) (hub : Hub) → G n x hub → Goes (asks_exchange n x hub).0 → InThird G n (asks_exchange n x hub)
  in_asks n x hub is = by_response (asks_response x)
    where
      by_response : (response : Bool) → AsksOn n x hub response
      by_response true = λ goes. in_asks_chain n x hub (asked hub.contexts x.response) (same_asked hub.contexts x.response (ready x.response)) is
      by_response false = λ goes. moved.asks n x hub goes is

  -- ---- WHAT IS DONE TO AN EXCHANGE

  pub marked_keeps : (change : Changes) → Keeping G change → (n : ℕ) (x : Exchange) (hub : Hub) → G n x hub → InBoth G n (with_marks (change n x hub))
  marked_keeps change keep n x hub is = in_marking n (change n x hub) (keep n x hub is)

  pub responses_keep : (items : List ChainItem) → Keeping G (put_read_items true items)
  responses_keep items n x hub is = pick (InBoth G n) x.is_answered (x, hub) (put_all_to_chain true n items (x, hub)) is (in_puts_all G closed n items (x, hub) is)

  pub resumes_keep : (vm context : ℕ) (response : Bool) → Keeping G (resume_context vm context response)
  resumes_keep vm context response n x hub is = in_resumes_at response n (stage_of vm context (chain_of response x)) x hub is

  pub closes_keep : Keeping G passing.close_exchange
  closes_keep n x hub is = pick (InBoth G n) x.has_ended (x, hub) (cut_off x hub) is (in_cut G closed n x hub is)

  pub acts_keep : (response : Bool) (k value : ℕ) → Keeping G (apply_action response k value)
  acts_keep response k value n x hub is =
      pick (InBoth G n) (value == 0) (resume_held response n k x (pause_held response k x hub)) (x, pause_held response k x hub)
      (in_goes_on response n k x (pause_held response k x hub) (in_pauses response n k x hub is)) (in_pauses response n k x hub is)

  pub dies_keep : (vm : ℕ) → D vm → Keeping G (lose_vm vm)
  dies_keep vm dead n x hub is =
      by_ended (InBoth G n) x.has_ended (x, hub) (if fails_closed vm x then answer_directly n 503 [] [] x hub else bypass_vm vm n x hub) (λ e. is)
      (λ runs. by_ended (InBoth G n) (fails_closed vm x) (answer_directly n 503 [] [] x hub) (bypass_vm vm n x hub) (λ e. in_directly G closed n 503 [] [] x hub is) (λ opens. moved.dies vm n x hub dead runs opens is))

  pub refuses_keep : (status : ℕ) → Keeping G (refuse_exchange status)
  refuses_keep status n x hub is =
      pick (InBoth G n) (x.has_ended || x.is_answered) (x, hub)
      (if passes_filters status then answer n (closes_line status) status [] [] x hub else answer_directly n status [] [] (with_closes (closes_line status) x) hub) is
      (pick (InBoth G n) (passes_filters status) (answer n (closes_line status) status [] [] x hub) (answer_directly n status [] [] (with_closes (closes_line status) x) hub)
      (in_answer G closed n (closes_line status) status [] [] x hub is) (in_directly G closed n status [] [] (with_closes (closes_line status) x) hub (in_closes G closed n (closes_line status) x hub is)))

  pub expires_keep : Keeping G expire_exchange
  expires_keep n x hub is = pick (InBoth G n) (is_due hub.moment x) (answer n false 504 [] [] x hub) (x, hub) (in_answer G closed n false 504 [] [] x hub is) is

  pub answer_keeps : (status : ℕ) (fields : List Pair) (body : List ℕ) → Keeping G (λ n. answer n false status fields body)
  answer_keeps status fields body n x hub is = in_answer G closed n false status fields body x hub is

-- ---- the death of a VM, stage by stage: those of it are let through

abbrev pub Lets : (G : ℕ → Exchange → Hub → Type 0) (vm : ℕ) (response : Bool) → Type 0
Lets G vm response =
    (n k : ℕ) (s : Stage) (x : Exchange) (hub : Hub) → slice_get (chain_of response x) k ≡ Some s → (s.vm == vm) ≡ true → x.has_ended ≡ false → G n x hub
    → InBoth G n (take_move response n x hub (let_through hub.contexts k (chain_of response x)))

-- what lets stages of the response through
pub lets_response : (G : ℕ → Exchange → Hub → Type 0) (closed : IsClosed G) (vm : ℕ) → Lets G vm true
lets_response G closed vm n k s x hub at of runs is = in_went G closed n x hub (let_through hub.contexts k x.response) (same_let_through hub.contexts k x.response (slice_get x.response k)) is

module _ (G : ℕ → Exchange → Hub → Type 0) (vm : ℕ) where
  lets_at : (response : Bool) → Lets G vm response → (n k : ℕ) (o : Option Stage) (x : Exchange) (hub : Hub) → slice_get (chain_of response x) k ≡ o → G n x hub → InBoth G n (bypass_vm_at response vm n k o x hub)
  lets_at response lets n k None x hub at is = is
  lets_at response lets n k (Some s) x hub at is =
      by_ended (InBoth G n) (s.vm == vm) (bypass response n k x hub) (x, hub)
      (λ of. by_ended (InBoth G n) x.has_ended (x, hub) (take_move response n x hub (let_through hub.contexts k (chain_of response x))) (λ e. is) (λ runs. lets n k s x hub at of runs is)) (λ other. is)

  lets_all : (response : Bool) → Lets G vm response → (n k : ℕ) (xh : Exchange × Hub) → InBoth G n xh → InBoth G n (bypass_vm_stages response vm n k xh)
  lets_all response lets n zero xh is = is
  lets_all response lets n (suc k) (x, hub) is =
      lets_all response lets n k (bypass_vm_at response vm n k (slice_get (chain_of response x) k) x hub) (lets_at response lets n k (slice_get (chain_of response x) k) x hub refl is)

  lets_down : Lets G vm true → (n : ℕ) (xh : Exchange × Hub) → InBoth G n xh → InBoth G n (bypass_vm_response vm n xh)
  lets_down lets n (x, hub) is = lets_all true lets n (length x.response) (x, hub) is

  pub lets_vm : Lets G vm false → Lets G vm true → (n : ℕ) (x : Exchange) (hub : Hub) → G n x hub → InBoth G n (bypass_vm vm n x hub)
  lets_vm up down n x hub is = lets_down down n (bypass_vm_stages false vm n (length x.request) (x, hub)) (lets_all false up n (length x.request) (x, hub) is)
