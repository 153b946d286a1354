-- What stays of the contexts, whatever is done to an exchange and to what all lines have in common.
use Rattle.std.proofs.Common.{◌≡◌, refl, ℕ, zero, suc, ◌==◌, Bool, true, false, not, ◌||◌, ◌&&◌, List, [], ◌∷◌, ◌++◌, length}
use Rattle.std.specs.Option.{option_map}
use Rattle.std.specs.Prelude.{slice_set, if◌then◌else◌, Option, None, Some, slice_get}
use Rattle.contexts.specs.Creating.{next_id, root_context, stream_context, with_context, with_root, plugin_in, plugin_at, open_place, root_created, stream_created, open_exchange, freed, freed_of, has_ended, is_referred, ended_one, end_exchange, await_done_of, without_id, without_context, delete_id}
use Rattle.contexts.specs.Lending.{stage_in, with_stage}
use Rattle.contexts.specs.Reached.{Changes, no_changes, vm_in, context_in, exchange_at, view_at, exchange_of, put_of}
use Rattle.contexts.specs.Stages.{own_at, stage_after, stage_changed, without_buffer, let_go, returned}
use Rattle.contexts.specs.declared.parts.CallAnswer.{CallAnswer}
use Rattle.contexts.specs.declared.parts.Calls.{Calls}
use Rattle.contexts.specs.declared.parts.Contexts.{Contexts}
use Rattle.contexts.specs.declared.parts.Effect.{Effect}
use Rattle.contexts.specs.declared.parts.Plugin.{Plugin}
use Rattle.contexts.specs.declared.parts.VmContexts.{VmContexts}
use Rattle.header_maps.specs.Headers.{Headers}
use Rattle.contexts.specs.declared.parts.ExchangeView.{ExchangeView}
use Rattle.contexts.specs.declared.parts.Own.{Own}
use Rattle.contexts.specs.declared.parts.StageBuffer as parts
use Rattle.exchange.specs.declared.types.Exchange.{Exchange}
use Rattle.exchange.specs.declared.types.Hub.{Hub}
use Rattle.exchange.specs.Answering.{none_held, cut_off, answer_directly, with_held, finish_response_put, take_response_put, put_response_item, exchange_with_answer, with_answer, put_answer, answer_through_stages, with_closes, is_direct, answer_open, answer}
use Rattle.exchange.specs.Heads.{is_bare, is_final, passes_filters, closes_line}
use Rattle.exchange.specs.Leaving.{send_request_item, send_response_item, send_item, send_items, is_due}
use Rattle.exchange.specs.Maps.{in_view, put_response, answer_map}
use Rattle.exchange.specs.Passing as passing
use Rattle.exchange.specs.Passing.{chain_of, with_chain, finish_put, take_move, take_put, takes_nothing, put_to_chain, put_all_to_chain, resume_held, bypass, put_read_items, stage_of, resume_place, resume_context, pause_held, apply_action, fails_closed, bypass_vm_at, bypass_vm_stages, bypass_vm_response, bypass_vm, lose_vm, refuse_exchange, expire_exchange}
use Rattle.filter_chain.specs.Chains.{put as put_item, unless_over, without_held, continued_at, continued, let_through_at, let_through, paused_at, without_buffers}
use Rattle.filter_chain.specs.Items.{holds_bytes}
use Rattle.filter_chain.specs.declared.item.ChainItem.{ChainItem}
use Rattle.filter_chain.specs.declared.item.ChainItem.TheVariants.{Head, Piece, Trailers}
use Rattle.filter_chain.specs.declared.item.PassOutcome.{PassOutcome}
use Rattle.filter_chain.specs.declared.item.PassOutcome.TheVariants as passed
use Rattle.filter_chain.specs.declared.stage.Stage.{Stage}
use Rattle.h1_model.specs.Fields.{Pair}
use Rattle.worker_model.specs.Calls as callouts

pub pick : {A : Type 0} (P : A → Type 0) (b : Bool) (x y : A) → P x → P y → P (if b then x else y)
pick P true x y here there = here
pick P false x y here there = there

-- WHAT IS TRUE OF CONTEXTS, by a number, and stays so whatever a worker itself does to them: what a host call does is not among this
pub record IsClosed (Has : ℕ → Contexts → Type 0) : Type 0 where
  -- a change that leaves the exchanges
  pub put : (m : ℕ) (s : Changes) (vm e : ℕ) (h : Contexts) → s.exchange ≡ None → Has m h → Has m (put_of s vm e h)
  -- an exchange is told something else; it is not told that an answer was asked for
  pub view : (m : ℕ) (change : ExchangeView → ExchangeView) (place : ℕ) (h : Contexts) → ((v : ExchangeView) → v.is_answering ≡ false → (change v).is_answering ≡ false) → Has m h
      → Has m (in_view change place (view_at h.exchanges place) h)
  pub free : (m n : ℕ) (h : Contexts) → Has m h → Has m (record h { exchanges = slice_set h.exchanges n None })
  pub end : (m n : ℕ) (h : Contexts) → Has m h → Has m (record h { exchanges = slice_set h.exchanges n (option_map ended_one (exchange_at h.exchanges n)) })
  pub begin : (m line : ℕ) (request : Headers) (h : Contexts) → Has m h → Has m (open_exchange line request h)
  pub vm : (m n : ℕ) (v : VmContexts) (h : Contexts) → Has m h → Has m (record h { vms = slice_set h.vms n v })
  pub plugins : (m : ℕ) (ps : List Plugin) (h : Contexts) → Has m h → Has m (record h { plugins = ps })
  pub effects : (m : ℕ) (es : List Effect) (h : Contexts) → Has m h → Has m (record h { effects = es })
  pub calls : (m : ℕ) (c : Calls) (h : Contexts) → Has m h → Has m (record h { calls = c })

abbrev pub In : (ℕ → Contexts → Type 0) → ℕ → Hub → Type 0
In Has m hub = Has m hub.contexts

abbrev pub InBoth : (ℕ → Contexts → Type 0) → ℕ → Exchange × Hub → Type 0
InBoth Has m (x, hub) = In Has m hub

abbrev pub Keeping : (ℕ → Contexts → Type 0) → (ℕ → Exchange → Hub → Exchange × Hub) → Type 0
Keeping Has change = (m n : ℕ) (x : Exchange) (hub : Hub) → In Has m hub → InBoth Has m (change n x hub)

module _ (Has : ℕ → Contexts → Type 0) (closed : IsClosed Has) where
  -- ---- contexts

  has_stage : (m : ℕ) (f : parts.StageBuffer → parts.StageBuffer) (h : Contexts) (vm e : ℕ) (r : Bool) (o : Option Own) → Has m h → Has m (stage_after f h vm e r o)
  has_stage m f h vm e r None is = is
  has_stage m f h vm e r (Some o) is = closed.put m (record no_changes { own = Some (with_stage r (f (stage_in r o)) o) }) vm e h refl is

  pub has_changed : (m : ℕ) (f : parts.StageBuffer → parts.StageBuffer) (h : Contexts) (vm e : ℕ) (r : Bool) → Has m h → Has m (stage_changed f h vm e r)
  has_changed m f h vm e r is = has_stage m f h vm e r (own_at h vm e) is

  -- what a context has of a callout's answer
  pub has_answer : (m : ℕ) (answer : Option CallAnswer) (o : Option Own) (vm e : ℕ) (h : Contexts) → Has m h → Has m (callouts.with_call_answer answer o vm e h)
  has_answer m answer None vm e h is = is
  has_answer m answer (Some o) vm e h is = closed.put m (record no_changes { own = Some (record o { answer = answer }) }) vm e h refl is

  has_freed : (m n : ℕ) (h : Contexts) → Has m h → Has m (freed n h)
  has_freed m n h is = pick (Has m) (has_ended (exchange_at h.exchanges n) && not (is_referred n h.vms)) (record h { exchanges = slice_set h.exchanges n None }) h (closed.free m n h is) is

  has_freed_of : (m : ℕ) (o : Option ℕ) (h : Contexts) → Has m h → Has m (freed_of o h)
  has_freed_of m None h is = is
  has_freed_of m (Some n) h is = has_freed m n h is

  pub has_ended_one : (m n : ℕ) (h : Contexts) → Has m h → Has m (end_exchange n h)
  has_ended_one m n h is = has_freed m n (record h { exchanges = slice_set h.exchanges n (option_map ended_one (exchange_at h.exchanges n)) }) (closed.end m n h is)

  pub has_awaited : (m vm id : ℕ) (h : Contexts) → Has m h → Has m (await_done_of vm id h)
  has_awaited m vm id h is = closed.vm m vm (record (vm_in h vm) { waiting = (vm_in h vm).waiting ++ id ∷ [] }) h is

  pub has_deleted : (m vm id : ℕ) (h : Contexts) → Has m h → Has m (delete_id vm id h)
  has_deleted m vm id h is = has_freed_of m (exchange_of (context_in h vm id)) (without_context vm id h) (closed.vm m vm (without_id id (vm_in h vm)) h is)

  pub has_root : (m vm plugin : ℕ) (h : Contexts) → Has m h → Has m (root_created vm plugin h)
  has_root m vm plugin h is =
      let plugins : List Plugin = slice_set h.plugins plugin (with_root (next_id h vm) (plugin_in h plugin)) in
      closed.vm m vm (with_context (root_context (next_id h vm) plugin) (vm_in h vm)) (record h { plugins = plugins }) (closed.plugins m plugins h is)

  pub has_stream : (m vm root line : ℕ) (h : Contexts) → Has m h → Has m (stream_created vm root line h)
  has_stream m vm root line h is = closed.vm m vm (with_context (stream_context (next_id h vm) (plugin_at (context_in h vm root)) root (open_place line h.exchanges)) (vm_in h vm)) h is

  -- ---- chains

  pub has_cleared : (m : ℕ) (ss : List Stage) (h : Contexts) → Has m h → Has m (without_buffers h ss)
  has_cleared m [] h is = is
  has_cleared m (s ∷ ss) h is = has_cleared m ss (without_buffer h s.vm s.context s.response) (has_changed m let_go h s.vm s.context s.response is)

  has_without : (m : ℕ) (h : Contexts) (s : Stage) → Has m h → Has m (without_held h s)
  has_without m h s is = pick (Has m) (holds_bytes s.held) (without_buffer h s.vm s.context s.response) h (has_changed m let_go h s.vm s.context s.response is) is

  abbrev HasThird : ℕ → PassOutcome × List Stage × Contexts → Type 0
  HasThird m (p, stages, h) = Has m h

  has_unless : (m : ℕ) (before after : Contexts) (r : PassOutcome × List Stage) → Has m before → Has m after → HasThird m (unless_over before after r)
  has_unless m before after (passed.Over, stages) one two = one
  has_unless m before after (passed.Left items, stages) one two = two

  has_continued : (m : ℕ) (h : Contexts) (k : ℕ) (stages : List Stage) (o : Option Stage) → Has m h → HasThird m (continued_at h k stages o)
  has_continued m h k stages None is = is
  has_continued m h k stages (Some s) is = has_unless m h (without_held h s) _ is (has_without m h s is)

  has_let_through : (m : ℕ) (h : Contexts) (k : ℕ) (stages : List Stage) (o : Option Stage) → Has m h → HasThird m (let_through_at h k stages o)
  has_let_through m h k stages None is = is
  has_let_through m h k stages (Some s) is = has_unless m h (without_held h s) _ is (has_without m h s is)

  has_paused : (m : ℕ) (h : Contexts) (o : Option Stage) → Has m h → Has m (paused_at h o)
  has_paused m h None is = is
  has_paused m h (Some s) is = has_changed m returned h s.vm s.context s.response is

  -- ---- answers

  pub in_none : (m : ℕ) (x : Exchange) (hub : Hub) → In Has m hub → In Has m (none_held x hub)
  in_none m x hub is = has_cleared m x.response (without_buffers hub.contexts x.request) (has_cleared m x.request hub.contexts is)

  in_directly : (m n status : ℕ) (fields : List Pair) (body : List ℕ) (x : Exchange) (hub : Hub) → In Has m hub → InBoth Has m (answer_directly n status fields body x hub)
  in_directly m n status fields body x hub is = pick (InBoth Has m) (x.is_head_out || not (is_final status)) (cut_off x hub) _ (in_none m x hub is) (in_none m x hub is)

  in_up : (m n : ℕ) (item : ChainItem) (x : Exchange) (hub : Hub) → In Has m hub → InBoth Has m (send_request_item n item x hub)
  in_up m n (Head end) x hub is = is
  in_up m n (Piece bytes end) x hub is = is
  in_up m n Trailers x hub is = is

  in_down : (m n : ℕ) (item : ChainItem) (x : Exchange) (hub : Hub) → In Has m hub → InBoth Has m (send_response_item n item x hub)
  in_down m n (Head end) x hub is = is
  in_down m n (Piece bytes end) x hub is = is
  in_down m n Trailers x hub is = is

  in_leaves : (m : ℕ) (response : Bool) (n : ℕ) (item : ChainItem) (xh : Exchange × Hub) → InBoth Has m xh → InBoth Has m (send_item response n item xh)
  in_leaves m false n item (x, hub) is = pick (InBoth Has m) x.has_ended (x, hub) (send_request_item n item x hub) is (in_up m n item x hub is)
  in_leaves m true n item (x, hub) is = pick (InBoth Has m) x.has_ended (x, hub) (send_response_item n item x hub) is (in_down m n item x hub is)

  in_left : (m : ℕ) (response : Bool) (n : ℕ) (items : List ChainItem) (xh : Exchange × Hub) → InBoth Has m xh → InBoth Has m (send_items response n items xh)
  in_left m response n [] xh is = is
  in_left m response n (item ∷ items) xh is = in_left m response n items (send_item response n item xh) (in_leaves m response n item xh is)

  in_passed_down : (m n : ℕ) (p : PassOutcome) (x : Exchange) (hub : Hub) → In Has m hub → InBoth Has m (finish_response_put n p x hub)
  in_passed_down m n passed.Over x hub is = in_directly m n 500 [] [] x hub is
  in_passed_down m n (passed.Left items) x hub is = in_left m true n items (x, hub) is

  in_went_down : (m n : ℕ) (x : Exchange) (hub : Hub) (r : PassOutcome × List Stage) → In Has m hub → InBoth Has m (take_response_put n x hub r)
  in_went_down m n x hub (p, stages) is = in_passed_down m n p (record x { response = stages }) hub is

  in_puts_down : (m n : ℕ) (item : ChainItem) (xh : Exchange × Hub) → InBoth Has m xh → InBoth Has m (put_response_item n item xh)
  in_puts_down m n item (x, hub) is =
      pick (InBoth Has m) x.has_ended (x, hub) (take_response_put n x hub (put_item hub.contexts item x.response)) is (in_went_down m n x hub (put_item hub.contexts item x.response) is)

  in_puts_answer : (m n : ℕ) (body : List ℕ) (xh : Exchange × Hub) → InBoth Has m xh → InBoth Has m (put_answer n body xh)
  in_puts_answer m n body (x, hub) is =
      pick (InBoth Has m) (is_bare x.told.length) (put_response_item n (Head true) (x, hub)) (put_response_item n (Piece body true) (put_response_item n (Head false) (x, hub)))
      (in_puts_down m n (Head true) (x, hub) is) (in_puts_down m n (Piece body true) (put_response_item n (Head false) (x, hub)) (in_puts_down m n (Head false) (x, hub) is))

  in_with_answer : (m status : ℕ) (fields : List Pair) (x : Exchange) (hub : Hub) → In Has m hub → In Has m (with_answer status fields x hub)
  in_with_answer m status fields x hub is =
      has_cleared m x.request (put_response (answer_map status fields) x.place hub.contexts) (closed.view m (λ v. record v { maps = record v.maps { response = Some (answer_map status fields) } }) x.place hub.contexts (λ v send_response_item. send_response_item) is)

  in_through : (m n status : ℕ) (fields : List Pair) (body : List ℕ) (x : Exchange) (hub : Hub) → In Has m hub → InBoth Has m (answer_through_stages n status fields body x hub)
  in_through m n status fields body x hub is = in_puts_answer m n body (exchange_with_answer status body x, with_answer status fields x hub) (in_with_answer m status fields x hub is)

  in_answers_open : (m n status : ℕ) (fields : List Pair) (body : List ℕ) (x : Exchange) (hub : Hub) → In Has m hub → InBoth Has m (answer_open n status fields body x hub)
  in_answers_open m n status fields body x hub is =
      pick (InBoth Has m) (is_direct status x) (answer_directly n status fields body x hub) (answer_through_stages n status fields body x hub) (in_directly m n status fields body x hub is) (in_through m n status fields body x hub is)

  pub in_answer : (m n : ℕ) (shut : Bool) (status : ℕ) (fields : List Pair) (body : List ℕ) (x : Exchange) (hub : Hub) → In Has m hub → InBoth Has m (answer n shut status fields body x hub)
  in_answer m n shut status fields body x hub is =
      pick (InBoth Has m) (x.has_ended || x.is_answered) (x, hub) (answer_open n status fields body (with_closes shut x) hub) is (in_answers_open m n status fields body (with_closes shut x) hub is)

  -- ---- what passes

  pub in_passed_on : (m : ℕ) (response : Bool) (n : ℕ) (p : PassOutcome) (x : Exchange) (hub : Hub) → In Has m hub → InBoth Has m (finish_put response n p x hub)
  in_passed_on m false n passed.Over x hub is = in_answer m n true 413 [] [] x hub is
  in_passed_on m false n (passed.Left items) x hub is = in_left m false n items (x, hub) is
  in_passed_on m true n p x hub is = in_passed_down m n p x hub is

  in_went : (m : ℕ) (response : Bool) (n : ℕ) (x : Exchange) (hub : Hub) (r : PassOutcome × List Stage × Contexts) → HasThird m r → InBoth Has m (take_move response n x hub r)
  in_went m response n x hub (p, stages, held) is = in_passed_on m response n p (with_chain response stages x) (with_held held hub) is

  in_put_went : (m : ℕ) (response : Bool) (n : ℕ) (x : Exchange) (hub : Hub) (r : PassOutcome × List Stage) → In Has m hub → InBoth Has m (take_put response n x hub r)
  in_put_went m response n x hub (p, stages) is = in_passed_on m response n p (with_chain response stages x) hub is

  in_puts : (m : ℕ) (response : Bool) (n : ℕ) (item : ChainItem) (xh : Exchange × Hub) → InBoth Has m xh → InBoth Has m (put_to_chain response n item xh)
  in_puts m response n item (x, hub) is =
      pick (InBoth Has m) (takes_nothing response x) (x, hub) (take_put response n x hub (put_item hub.contexts item (chain_of response x))) is
      (in_put_went m response n x hub (put_item hub.contexts item (chain_of response x)) is)

  in_puts_all : (m : ℕ) (response : Bool) (n : ℕ) (items : List ChainItem) (xh : Exchange × Hub) → InBoth Has m xh → InBoth Has m (put_all_to_chain response n items xh)
  in_puts_all m response n [] xh is = is
  in_puts_all m response n (item ∷ items) xh is = in_puts_all m response n items (put_to_chain response n item xh) (in_puts m response n item xh is)

  in_goes_on : (m : ℕ) (response : Bool) (n k : ℕ) (x : Exchange) (hub : Hub) → In Has m hub → InBoth Has m (resume_held response n k x hub)
  in_goes_on m response n k x hub is =
      pick (InBoth Has m) x.has_ended (x, hub) (take_move response n x hub (continued hub.contexts k (chain_of response x))) is
      (in_went m response n x hub (continued hub.contexts k (chain_of response x)) (has_continued m hub.contexts k (chain_of response x) (slice_get (chain_of response x) k) is))

  in_gives_way : (m : ℕ) (response : Bool) (n k : ℕ) (x : Exchange) (hub : Hub) → In Has m hub → InBoth Has m (bypass response n k x hub)
  in_gives_way m response n k x hub is =
      pick (InBoth Has m) x.has_ended (x, hub) (take_move response n x hub (let_through hub.contexts k (chain_of response x))) is
      (in_went m response n x hub (let_through hub.contexts k (chain_of response x)) (has_let_through m hub.contexts k (chain_of response x) (slice_get (chain_of response x) k) is))

  in_resumes_at : (m : ℕ) (response : Bool) (n : ℕ) (o : Option ℕ) (x : Exchange) (hub : Hub) → In Has m hub → InBoth Has m (resume_place response n o x hub)
  in_resumes_at m response n None x hub is = is
  in_resumes_at m response n (Some k) x hub is = in_goes_on m response n k x hub is

  in_pauses : (m : ℕ) (response : Bool) (k : ℕ) (x : Exchange) (hub : Hub) → In Has m hub → In Has m (pause_held response k x hub)
  in_pauses m response k x hub is = has_paused m hub.contexts (slice_get (chain_of response x) k) is

  -- ---- the death of a VM

  in_opens_at : (m : ℕ) (response : Bool) (vm n k : ℕ) (o : Option Stage) (x : Exchange) (hub : Hub) → In Has m hub → InBoth Has m (bypass_vm_at response vm n k o x hub)
  in_opens_at m response vm n k None x hub is = is
  in_opens_at m response vm n k (Some s) x hub is = pick (InBoth Has m) (s.vm == vm) (bypass response n k x hub) (x, hub) (in_gives_way m response n k x hub is) is

  in_opens : (m : ℕ) (response : Bool) (vm n k : ℕ) (xh : Exchange × Hub) → InBoth Has m xh → InBoth Has m (bypass_vm_stages response vm n k xh)
  in_opens m response vm n zero xh is = is
  in_opens m response vm n (suc k) (x, hub) is =
      in_opens m response vm n k (bypass_vm_at response vm n k (slice_get (chain_of response x) k) x hub) (in_opens_at m response vm n k (slice_get (chain_of response x) k) x hub is)

  in_opens_response : (m vm n : ℕ) (xh : Exchange × Hub) → InBoth Has m xh → InBoth Has m (bypass_vm_response vm n xh)
  in_opens_response m vm n (x, hub) is = in_opens m true vm n (length x.response) (x, hub) is

  -- ---- WHAT IS DONE TO AN EXCHANGE

  pub put_in_keeps : (response : Bool) (items : List ChainItem) → Keeping Has (put_read_items response items)
  put_in_keeps response items m n x hub is = pick (InBoth Has m) x.is_answered (x, hub) (put_all_to_chain response n items (x, hub)) is (in_puts_all m response n items (x, hub) is)

  pub resumes_keeps : (vm context : ℕ) (response : Bool) → Keeping Has (resume_context vm context response)
  resumes_keeps vm context response m n x hub is = in_resumes_at m response n (stage_of vm context (chain_of response x)) x hub is

  pub closed_keeps : Keeping Has passing.close_exchange
  closed_keeps m n x hub is = pick (InBoth Has m) x.has_ended (x, hub) (cut_off x hub) is (in_none m x hub is)

  pub acts_keeps : (response : Bool) (k value : ℕ) → Keeping Has (apply_action response k value)
  acts_keeps response k value m n x hub is =
      pick (InBoth Has m) (value == 0) (resume_held response n k x (pause_held response k x hub)) (x, pause_held response k x hub)
      (in_goes_on m response n k x (pause_held response k x hub) (in_pauses m response k x hub is)) (in_pauses m response k x hub is)

  pub dies_keeps : (vm : ℕ) → Keeping Has (lose_vm vm)
  dies_keeps vm m n x hub is =
      pick (InBoth Has m) x.has_ended (x, hub) (if fails_closed vm x then answer_directly n 503 [] [] x hub else bypass_vm vm n x hub) is
      (pick (InBoth Has m) (fails_closed vm x) (answer_directly n 503 [] [] x hub) (bypass_vm vm n x hub) (in_directly m n 503 [] [] x hub is)
      (in_opens_response m vm n (bypass_vm_stages false vm n (length x.request) (x, hub)) (in_opens m false vm n (length x.request) (x, hub) is)))

  pub refused_keeps : (status : ℕ) → Keeping Has (refuse_exchange status)
  refused_keeps status m n x hub is =
      pick (InBoth Has m) (x.has_ended || x.is_answered) (x, hub)
      (if passes_filters status then answer n (closes_line status) status [] [] x hub else answer_directly n status [] [] (with_closes (closes_line status) x) hub) is
      (pick (InBoth Has m) (passes_filters status) (answer n (closes_line status) status [] [] x hub) (answer_directly n status [] [] (with_closes (closes_line status) x) hub)
      (in_answer m n (closes_line status) status [] [] x hub is) (in_directly m n status [] [] (with_closes (closes_line status) x) hub is))

  pub expires_keeps : Keeping Has expire_exchange
  expires_keeps m n x hub is = pick (InBoth Has m) (is_due hub.moment x) (answer n false 504 [] [] x hub) (x, hub) (in_answer m n false 504 [] [] x hub is) is

  pub answer_keeps : (status : ℕ) (fields : List Pair) (body : List ℕ) → Keeping Has (λ n. answer n false status fields body)
  answer_keeps status fields body m n x hub is = in_answer m n false status fields body x hub is
