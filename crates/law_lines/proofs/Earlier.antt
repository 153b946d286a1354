-- What was sent before changes nothing of what becomes of an exchange.
use Rattle.std.proofs.Common.{◌≡◌, ℕ, zero, suc, ◌==◌, Bool, true, false, not, ◌||◌, List, [], ◌∷◌, ◌++◌, length, refl, ap, ◌∙◌}
use Rattle.std.proofs.lemmas.List.{append_assoc}
use Rattle.std.specs.Prelude.{if◌then◌else◌, Option, None, Some, slice_get}
use Rattle.contexts.specs.declared.parts.Contexts.{Contexts}
use Rattle.exchange.specs.declared.types.Exchange.{Exchange}
use Rattle.exchange.specs.declared.types.Hub.{Hub}
use Rattle.exchange.specs.Answering.{cut_off, answer_directly, finish_response_put, take_response_put, put_response_item, exchange_with_answer, with_answer, answer_through_stages, is_direct, with_closes, answer_open, answer, with_held, none_held}
use Rattle.exchange.specs.Heads.{is_bare, is_final, passes_filters, closes_line}
use Rattle.exchange.specs.Leaving.{hub_with_sent, send_request_item, send_response_item, send_item, send_items, is_due}
use Rattle.exchange.specs.Passing as passing
use Rattle.exchange.specs.Passing.{finish_put, take_move, take_put, put_to_chain, put_all_to_chain, put_read_items, resume_held, bypass, resume_place, stage_of, chain_of, with_chain, pause_held, bypass_vm_at, bypass_vm_stages, bypass_vm, fails_closed, takes_nothing}
use Rattle.filter_chain.specs.Chains.{put, continued, let_through}
use Rattle.filter_chain.specs.declared.item.ChainItem.{ChainItem}
use Rattle.filter_chain.specs.declared.item.ChainItem.TheVariants.{Head, Piece, Trailers}
use Rattle.filter_chain.specs.declared.item.PassOutcome.{PassOutcome}
use Rattle.filter_chain.specs.declared.item.PassOutcome.TheVariants as passed
use Rattle.filter_chain.specs.declared.stage.Stage.{Stage}
use Rattle.gate_io.specs.declared.event.Sent.{Sent}
use Rattle.h1_model.specs.Fields.{Pair}

-- this was sent before
abbrev pub behind : List Sent → Hub → Hub
behind b hub = record hub { sent = b ++ hub.sent }

abbrev pub behind_it : List Sent → Exchange × Hub → Exchange × Hub
behind_it b p = (p.0, behind b p.1)

by_if : (b : List Sent) (c : Bool) (p q r s : Exchange × Hub) → r ≡ behind_it b p → s ≡ behind_it b q → (if c then r else s) ≡ behind_it b (if c then p else q)
by_if b true p q r s a e = a
by_if b false p q r s a e = e

with_sent : (b : List Sent) (y : Exchange) (more : List Sent) (hub : Hub) → ◌≡◌ {A = Exchange × Hub} (y, hub_with_sent more (behind b hub)) (behind_it b (y, hub_with_sent more hub))
with_sent b y more hub = λ i. (y, record hub { sent = append_assoc b hub.sent more i })

module _ (b : List Sent) where
  up_later : (n : ℕ) (item : ChainItem) (x : Exchange) (hub : Hub) → send_request_item n item x (behind b hub) ≡ behind_it b (send_request_item n item x hub)
  up_later n (Head end) x hub = with_sent b _ _ hub
  up_later n (Piece bytes end) x hub = with_sent b x _ hub
  up_later n Trailers x hub = with_sent b x _ hub

  down_later : (n : ℕ) (item : ChainItem) (x : Exchange) (hub : Hub) → send_response_item n item x (behind b hub) ≡ behind_it b (send_response_item n item x hub)
  down_later n (Head end) x hub = with_sent b _ _ hub
  down_later n (Piece bytes end) x hub = with_sent b _ _ hub
  down_later n Trailers x hub = with_sent b _ _ hub

  leaves_later : (response : Bool) (n : ℕ) (item : ChainItem) (p : Exchange × Hub) → send_item response n item (behind_it b p) ≡ behind_it b (send_item response n item p)
  leaves_later false n item p = by_if b p.0.has_ended p (send_request_item n item p.0 p.1) (behind_it b p) (send_request_item n item p.0 (behind b p.1)) refl (up_later n item p.0 p.1)
  leaves_later true n item p = by_if b p.0.has_ended p (send_response_item n item p.0 p.1) (behind_it b p) (send_response_item n item p.0 (behind b p.1)) refl (down_later n item p.0 p.1)

  left_later : (response : Bool) (n : ℕ) (items : List ChainItem) (p : Exchange × Hub) → send_items response n items (behind_it b p) ≡ behind_it b (send_items response n items p)
  left_later response n [] p = refl
  left_later response n (item ∷ items) p = ap (send_items response n items) (leaves_later response n item p) ∙ left_later response n items (send_item response n item p)

  directly_later : (n status : ℕ) (fields : List Pair) (body : List ℕ) (x : Exchange) (hub : Hub) → answer_directly n status fields body x (behind b hub) ≡ behind_it b (answer_directly n status fields body x hub)
  directly_later n status fields body x hub = by_if b (x.is_head_out || not (is_final status)) (cut_off x hub) _ (cut_off x (behind b hub)) _ refl (with_sent b _ _ (none_held x hub))

  passed_down_later : (n : ℕ) (p : PassOutcome) (x : Exchange) (hub : Hub) → finish_response_put n p x (behind b hub) ≡ behind_it b (finish_response_put n p x hub)
  passed_down_later n passed.Over x hub = directly_later n 500 [] [] x hub
  passed_down_later n (passed.Left items) x hub = left_later true n items (x, hub)

  puts_down_later : (n : ℕ) (item : ChainItem) (p : Exchange × Hub) → put_response_item n item (behind_it b p) ≡ behind_it b (put_response_item n item p)
  puts_down_later n item p =
      let t : PassOutcome × List Stage = put p.1.contexts item p.0.response in
      by_if b p.0.has_ended p (take_response_put n p.0 p.1 t) (behind_it b p) (take_response_put n p.0 (behind b p.1) t) refl (passed_down_later n t.0 (record (p.0) { response = t.1 }) p.1)

  through_later : (n status : ℕ) (fields : List Pair) (body : List ℕ) (x : Exchange) (hub : Hub) → answer_through_stages n status fields body x (behind b hub) ≡ behind_it b (answer_through_stages n status fields body x hub)
  through_later n status fields body x hub =
      let y : Exchange = exchange_with_answer status body x in
      let k : Hub = with_answer status fields x hub in
      let p : Exchange × Hub = put_response_item n (Head false) (y, k) in
      by_if b (is_bare y.told.length) (put_response_item n (Head true) (y, k)) (put_response_item n (Piece body true) p) (put_response_item n (Head true) (y, behind b k)) (put_response_item n (Piece body true) (put_response_item n (Head false) (y, behind b k)))
      (puts_down_later n (Head true) (y, k)) (ap (put_response_item n (Piece body true)) (puts_down_later n (Head false) (y, k)) ∙ puts_down_later n (Piece body true) p)

  pub answer_later : (n : ℕ) (shut : Bool) (status : ℕ) (fields : List Pair) (body : List ℕ) (x : Exchange) (hub : Hub) → answer n shut status fields body x (behind b hub) ≡ behind_it b (answer n shut status fields body x hub)
  answer_later n shut status fields body x hub =
      by_if b (x.has_ended || x.is_answered) (x, hub) (answer_open n status fields body (with_closes shut x) hub) (x, behind b hub) (answer_open n status fields body (with_closes shut x) (behind b hub)) refl
      (by_if b (is_direct status (with_closes shut x)) (answer_directly n status fields body (with_closes shut x) hub) (answer_through_stages n status fields body (with_closes shut x) hub) _ _
      (directly_later n status fields body (with_closes shut x) hub) (through_later n status fields body (with_closes shut x) hub))

  passed_on_later : (response : Bool) (n : ℕ) (p : PassOutcome) (x : Exchange) (hub : Hub) → finish_put response n p x (behind b hub) ≡ behind_it b (finish_put response n p x hub)
  passed_on_later true n p x hub = passed_down_later n p x hub
  passed_on_later false n passed.Over x hub = answer_later n true 413 [] [] x hub
  passed_on_later false n (passed.Left items) x hub = left_later false n items (x, hub)

  puts_later : (response : Bool) (n : ℕ) (item : ChainItem) (p : Exchange × Hub) → put_to_chain response n item (behind_it b p) ≡ behind_it b (put_to_chain response n item p)
  puts_later response n item p =
      let t : PassOutcome × List Stage = put p.1.contexts item (chain_of response p.0) in
      by_if b (takes_nothing response p.0) p (take_put response n p.0 p.1 t) (behind_it b p) (take_put response n p.0 (behind b p.1) t) refl
      (passed_on_later response n t.0 (with_chain response t.1 p.0) p.1)

  puts_all_later : (response : Bool) (n : ℕ) (items : List ChainItem) (p : Exchange × Hub) → put_all_to_chain response n items (behind_it b p) ≡ behind_it b (put_all_to_chain response n items p)
  puts_all_later response n [] p = refl
  puts_all_later response n (item ∷ items) p = ap (put_all_to_chain response n items) (puts_later response n item p) ∙ puts_all_later response n items (put_to_chain response n item p)

  pub put_in_later : (response : Bool) (items : List ChainItem) (n : ℕ) (x : Exchange) (hub : Hub) → put_read_items response items n x (behind b hub) ≡ behind_it b (put_read_items response items n x hub)
  put_in_later response items n x hub = by_if b x.is_answered (x, hub) (put_all_to_chain response n items (x, hub)) _ _ refl (puts_all_later response n items (x, hub))

  went_later : (response : Bool) (n : ℕ) (x : Exchange) (hub : Hub) (t : PassOutcome × List Stage × Contexts) → take_move response n x (behind b hub) t ≡ behind_it b (take_move response n x hub t)
  went_later response n x hub t = passed_on_later response n t.0 (with_chain response t.1 x) (with_held t.2 hub)

  goes_on_later : (response : Bool) (n k : ℕ) (x : Exchange) (hub : Hub) → resume_held response n k x (behind b hub) ≡ behind_it b (resume_held response n k x hub)
  goes_on_later response n k x hub =
      by_if b x.has_ended (x, hub) (take_move response n x hub (continued hub.contexts k (chain_of response x))) _ _ refl (went_later response n x hub (continued hub.contexts k (chain_of response x)))

  gives_way_later : (response : Bool) (n k : ℕ) (x : Exchange) (hub : Hub) → bypass response n k x (behind b hub) ≡ behind_it b (bypass response n k x hub)
  gives_way_later response n k x hub =
      by_if b x.has_ended (x, hub) (take_move response n x hub (let_through hub.contexts k (chain_of response x))) _ _ refl (went_later response n x hub (let_through hub.contexts k (chain_of response x)))

  resumes_at_later : (response : Bool) (n : ℕ) (at : Option ℕ) (x : Exchange) (hub : Hub) → resume_place response n at x (behind b hub) ≡ behind_it b (resume_place response n at x hub)
  resumes_at_later response n None x hub = refl
  resumes_at_later response n (Some k) x hub = goes_on_later response n k x hub

  pub resumes_later : (vm context : ℕ) (response : Bool) (n : ℕ) (x : Exchange) (hub : Hub) → passing.resume_context vm context response n x (behind b hub) ≡ behind_it b (passing.resume_context vm context response n x hub)
  resumes_later vm context response n x hub = resumes_at_later response n (stage_of vm context (chain_of response x)) x hub

  pub acts_later : (response : Bool) (k value n : ℕ) (x : Exchange) (hub : Hub) → passing.apply_action response k value n x (behind b hub) ≡ behind_it b (passing.apply_action response k value n x hub)
  acts_later response k value n x hub =
      let h : Hub = pause_held response k x hub in
      by_if b (value == 0) (resume_held response n k x h) (x, h) (resume_held response n k x (behind b h)) (x, behind b h) (goes_on_later response n k x h) refl

  pub closed_later : (n : ℕ) (x : Exchange) (hub : Hub) → passing.close_exchange n x (behind b hub) ≡ behind_it b (passing.close_exchange n x hub)
  closed_later n x hub = by_if b x.has_ended (x, hub) (cut_off x hub) (x, behind b hub) (cut_off x (behind b hub)) refl refl

  opens_at_later : (response : Bool) (vm n k : ℕ) (o : Option Stage) (p : Exchange × Hub) → bypass_vm_at response vm n k o p.0 (behind b p.1) ≡ behind_it b (bypass_vm_at response vm n k o p.0 p.1)
  opens_at_later response vm n k None p = refl
  opens_at_later response vm n k (Some s) p = by_if b (s.vm == vm) (bypass response n k p.0 p.1) p _ _ (gives_way_later response n k p.0 p.1) refl

  opens_later : (response : Bool) (vm n m : ℕ) (p : Exchange × Hub) → bypass_vm_stages response vm n m (behind_it b p) ≡ behind_it b (bypass_vm_stages response vm n m p)
  opens_later response vm n zero p = refl
  opens_later response vm n (suc k) p =
      let o : Option Stage = slice_get (chain_of response p.0) k in
      ap (bypass_vm_stages response vm n k) (opens_at_later response vm n k o p) ∙ opens_later response vm n k (bypass_vm_at response vm n k o p.0 p.1)

  opens_all_later : (vm n : ℕ) (x : Exchange) (hub : Hub) → bypass_vm vm n x (behind b hub) ≡ behind_it b (bypass_vm vm n x hub)
  opens_all_later vm n x hub =
      let p : Exchange × Hub = bypass_vm_stages false vm n (length x.request) (x, hub) in
      ap (λ (q : Exchange × Hub). bypass_vm_stages true vm n (length q.0.response) q) (opens_later false vm n (length x.request) (x, hub)) ∙ opens_later true vm n (length p.0.response) p

  pub dies_later : (vm n : ℕ) (x : Exchange) (hub : Hub) → passing.lose_vm vm n x (behind b hub) ≡ behind_it b (passing.lose_vm vm n x hub)
  dies_later vm n x hub =
      by_if b x.has_ended (x, hub) (if fails_closed vm x then answer_directly n 503 [] [] x hub else bypass_vm vm n x hub) _ _ refl
      (by_if b (fails_closed vm x) (answer_directly n 503 [] [] x hub) (bypass_vm vm n x hub) _ _ (directly_later n 503 [] [] x hub) (opens_all_later vm n x hub))

  pub refused_later : (status n : ℕ) (x : Exchange) (hub : Hub) → passing.refuse_exchange status n x (behind b hub) ≡ behind_it b (passing.refuse_exchange status n x hub)
  refused_later status n x hub =
      by_if b (x.has_ended || x.is_answered) (x, hub)
      (if passes_filters status then answer n (closes_line status) status [] [] x hub else answer_directly n status [] [] (with_closes (closes_line status) x) hub) _ _ refl
      (by_if b (passes_filters status) (answer n (closes_line status) status [] [] x hub) (answer_directly n status [] [] (with_closes (closes_line status) x) hub) _ _
      (answer_later n (closes_line status) status [] [] x hub) (directly_later n status [] [] (with_closes (closes_line status) x) hub))

  pub expires_later : (n : ℕ) (x : Exchange) (hub : Hub) → passing.expire_exchange n x (behind b hub) ≡ behind_it b (passing.expire_exchange n x hub)
  expires_later n x hub = by_if b (is_due hub.moment x) (answer n false 504 [] [] x hub) (x, hub) _ _ (answer_later n false 504 [] [] x hub) refl
