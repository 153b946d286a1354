-- What an exchange does leaves the maps of requests lists, and each connection that it opens begins with a head of a list.
use Rattle.std.proofs.Common.{◌≡◌, ℕ, zero, suc, ◌==◌, Bool, true, false, not, ◌||◌, List, [], ◌∷◌, ◌++◌, map, length, refl, ap, ◌∙◌, sym, subst}
use Rattle.std.proofs.lemmas.List.{append-nil, append_assoc}
use Rattle.std.specs.Prelude.{Option, None, Some, slice_get, if◌then◌else◌}
use Rattle.contexts.specs.declared.parts.Contexts.{Contexts}
use Rattle.exchange.specs.declared.types.Exchange.{Exchange}
use Rattle.exchange.specs.declared.types.Hub.{Hub}
use Rattle.exchange.specs.Answering.{none_held, stays_open, cut_off, answer_directly, with_held, finish_response_put, take_response_put, put_response_item, exchange_with_answer, with_answer, answer_through_stages, is_direct, with_closes, answer_open, answer}
use Rattle.exchange.specs.Heads.{is_bare, is_final, passes_filters, closes_line, sent_head, up_tail, request_of, up_framing}
use Rattle.exchange.specs.Leaving.{bytes_sent_to, hub_with_sent, request_framing, send_request_item, send_response_item, send_item, send_items, is_due}
use Rattle.exchange.specs.Maps.{request_map}
use Rattle.exchange.specs.Passing as passing
use Rattle.exchange.specs.Passing.{chain_of, with_chain, finish_put, take_move, take_put, takes_nothing, put_to_chain, put_all_to_chain, resume_held, bypass, put_read_items, resume_place, stage_of, pause_held, fails_closed, bypass_vm_at, bypass_vm_stages, bypass_vm}
use Rattle.law_exchange.specs.Ends.{IsOwn}
use Rattle.law_exchange.specs.Lives.{Deed, comes, responds, acts, resumes, closes, answers, dies, refuses, expires, turns, done_by}
use Rattle.law_exchange.specs.Own.{AreOn}
use Rattle.law_exchange.specs.Traffic.{Traffic, opens as opening, byte, closes as closing, up_traffic}
use Rattle.law_exchange.proofs.Traffic.{ups_join, here, up_is_all}
use Rattle.filter_chain.specs.Chains.{put, continued, let_through}
use Rattle.filter_chain.specs.declared.item.ChainItem.{ChainItem}
use Rattle.filter_chain.specs.declared.item.ChainItem.TheVariants.{Head, Piece, Trailers}
use Rattle.filter_chain.specs.declared.item.PassOutcome.{PassOutcome}
use Rattle.filter_chain.specs.declared.item.PassOutcome.TheVariants as passed
use Rattle.filter_chain.specs.declared.stage.Stage.{Stage}
use Rattle.gate_io.specs.declared.event.Sent.{Sent}
use Rattle.gate_io.specs.declared.event.Sent.TheVariants as to
use Rattle.gate_io.specs.declared.event.Side.TheVariants.{Down, Up}
use Rattle.header_maps.specs.Headers.{Headers}
use Rattle.h1_model.specs.Fields.{Pair}
use Rattle.h1_model.specs.Framing.{Framing, head_wire}
use Rattle.h1_model.specs.Head as model
use Rattle.h1_model.specs.LocalReply.{local_reply_of}
use Rattle.law_lines.specs.Requests.{IsJudged}
use Rattle.law_lines.proofs.Kept.{by_bool}
use Rattle.law_lines.proofs.Looks.{none_up, equal_by}
use Rattle.law_read_back.specs.Maps.{AreLists, ListOrNone, AreHeaded, written_head}
use Rattle.law_read_back.proofs.Places.{map_listed, view_lists, continued_lists, through_lists, paused_lists, cleared_lists}

-- ---- traffic

pub headed_join : (a b : List Traffic) → AreHeaded a → AreHeaded b → AreHeaded (a ++ b)
headed_join [] b e f = f
headed_join (opening ∷ a) b e f = (
  record { fields = e.0.fields; listed = e.0.listed; head = e.0.head; judged = e.0.judged; filtered = e.0.filtered; rest = e.0.rest ++ b; is = ap (λ (t : List Traffic). t ++ b) e.0.is ∙ append_assoc (map byte (written_head e.0.fields e.0.head e.0.filtered)) e.0.rest b },
  headed_join a b e.1 f,
)
headed_join (byte c ∷ a) b e f = headed_join a b e f
headed_join (closing ∷ a) b e f = headed_join a b e f

bytes_headed : (bytes : List ℕ) → AreHeaded (map byte bytes)
bytes_headed [] = tt
bytes_headed (b ∷ bytes) = bytes_headed bytes

-- ---- what is sent on a line, by the number of any

by_line : (P : ℕ → Type 0) (n m : ℕ) → P n → ((m == n) ≡ false → P m) → P m
by_line P n m same other = by_test (m == n) refl
  where
    by_test : (b : Bool) → (m == n) ≡ b → P m
    by_test true is = subst P (sym (equal_by m n is)) same
    by_test false is = other is

up_headed : (n m : ℕ) (bytes : List ℕ) → AreHeaded (up_traffic n (bytes_sent_to m Up bytes))
up_headed n m bytes = by_line (λ (k : ℕ). AreHeaded (up_traffic n (bytes_sent_to k Up bytes))) n m (subst AreHeaded (sym (up_is_all n bytes)) (bytes_headed bytes)) (λ other. subst AreHeaded (sym (none_up n m (bytes_sent_to m Up bytes) other (own bytes))) tt)
  where
    own : (w : List ℕ) → AreOn m (bytes_sent_to m Up w)
    own [] = tt
    own (b ∷ w) = (refl, tt)

pub down_headed : (n m : ℕ) (bytes : List ℕ) → AreHeaded (up_traffic n (bytes_sent_to m Down bytes))
down_headed n m [] = tt
down_headed n m (b ∷ bytes) = tt

-- a request goes up framed as that of a head that was judged, with its version
pub record UpOf (framing : Framing) (filtered : Bool) (minor : ℕ) : Type 0 where
  pub head : model.Head
  pub judged : IsJudged head
  pub framed : framing ≡ up_framing filtered (request_of head)
  pub version : minor ≡ head.minor

head_headed : (n m : ℕ) (framing : Framing) (filtered : Bool) (minor : ℕ) (fields : Headers) → UpOf framing filtered minor → ListOrNone fields
    → AreHeaded (up_traffic n (to.Connect m ∷ bytes_sent_to m Up (head_wire framing (sent_head fields (up_tail minor)))))
head_headed n m framing filtered minor fields of listed =
    by_line (λ (k : ℕ). AreHeaded (up_traffic n (to.Connect k ∷ bytes_sent_to k Up wire))) n m
    (subst AreHeaded (sym whole) (record { fields = fields; listed = listed; head = of.head; judged = of.judged; filtered = filtered; rest = []; is = ap (map byte) same ∙ sym (append-nil (map byte (written_head fields of.head filtered))) }, bytes_headed wire))
    (λ other. subst AreHeaded (sym (none_up n m (to.Connect m ∷ bytes_sent_to m Up wire) other (refl, own wire))) tt)
  where
    wire : List ℕ
    wire = head_wire framing (sent_head fields (up_tail minor))

    same : head_wire framing (sent_head fields (up_tail minor)) ≡ written_head fields of.head filtered
    same = (λ j. head_wire (of.framed j) (sent_head fields (up_tail (of.version j))))

    own : (w : List ℕ) → AreOn m (bytes_sent_to m Up w)
    own [] = tt
    own (b ∷ w) = (refl, tt)

    whole : up_traffic n (to.Connect n ∷ bytes_sent_to n Up wire) ≡ opening ∷ map byte wire
    whole = (λ j. here n (opening ∷ []) j ++ up_is_all n wire j)

-- ---- what all lines have in common

-- the maps are lists, and what went up on a line has heads of lists
pub record Fine (n : ℕ) (hub : Hub) : Type 0 where
  pub maps : AreLists hub.contexts
  pub heads : AreHeaded (up_traffic n hub.sent)

pub sends_fine : (n : ℕ) (more : List Sent) (hub : Hub) → AreHeaded (up_traffic n more) → Fine n hub → Fine n (hub_with_sent more hub)
sends_fine n more hub headed fine = record { maps = fine.maps; heads = subst AreHeaded (sym (ups_join n hub.sent more)) (headed_join (up_traffic n hub.sent) (up_traffic n more) fine.heads headed) }

pub held_fine : (n : ℕ) (h : Contexts) (hub : Hub) → AreLists h → Fine n hub → Fine n (with_held h hub)
held_fine n h hub are fine = record { maps = are; heads = fine.heads }

-- its request goes up so
abbrev pub Lim : Exchange → Type 0
Lim x = UpOf (request_framing x) x.filters_requests x.asked.minor

abbrev pub Both : ℕ → Exchange × Hub → Type 0
Both n p = Fine n p.1 × Lim p.0

pub chain_lim : (response : Bool) (stages : List Stage) (x : Exchange) → Lim x → Lim (with_chain response stages x)
chain_lim false stages x lim = lim
chain_lim true stages x lim = lim

module _ (n m : ℕ) where
  abbrev F : Exchange × Hub → Type 0
  F p = Both n p

  -- ---- what leaves the chains

  up_fine : (item : ChainItem) (x : Exchange) (hub : Hub) → F (x, hub) → F (send_request_item m item x hub)
  up_fine (Head end) x hub fine = (
    sends_fine n (to.Connect m ∷ bytes_sent_to m Up (head_wire (request_framing x) (sent_head (request_map x.place hub.contexts) (up_tail x.asked.minor)))) hub
        (head_headed n m (request_framing x) x.filters_requests x.asked.minor (request_map x.place hub.contexts) fine.1 (map_listed x.place hub.contexts fine.0.maps)) fine.0,
    fine.1,
  )
  up_fine (Piece bytes end) x hub fine = (sends_fine n _ hub (up_headed n m _) fine.0, fine.1)
  up_fine Trailers x hub fine = (sends_fine n _ hub (up_headed n m _) fine.0, fine.1)

  down_fine : (item : ChainItem) (x : Exchange) (hub : Hub) → F (x, hub) → F (send_response_item m item x hub)
  down_fine (Head end) x hub fine = (sends_fine n _ hub (down_headed n m _) fine.0, fine.1)
  down_fine (Piece bytes end) x hub fine = (sends_fine n _ hub (down_headed n m _) fine.0, fine.1)
  down_fine Trailers x hub fine = (sends_fine n _ hub (down_headed n m _) fine.0, fine.1)

  leaves_fine : (response : Bool) (item : ChainItem) (p : Exchange × Hub) → F p → F (send_item response m item p)
  leaves_fine false item p fine = by_bool (λ (q : Exchange × Hub). F q) p.0.has_ended p (send_request_item m item p.0 p.1) (λ e. fine) (λ e. up_fine item p.0 p.1 fine)
  leaves_fine true item p fine = by_bool (λ (q : Exchange × Hub). F q) p.0.has_ended p (send_response_item m item p.0 p.1) (λ e. fine) (λ e. down_fine item p.0 p.1 fine)

  left_fine : (response : Bool) (items : List ChainItem) (p : Exchange × Hub) → F p → F (send_items response m items p)
  left_fine response [] p fine = fine
  left_fine response (item ∷ items) p fine = left_fine response items (send_item response m item p) (leaves_fine response item p fine)

  -- ---- answers

  none_fine : (x : Exchange) (hub : Hub) → Fine n hub → Fine n (none_held x hub)
  none_fine x hub fine = held_fine n _ hub (cleared_lists _ x.response (cleared_lists hub.contexts x.request fine.maps)) fine

  directly_fine : (status : ℕ) (fields : List Pair) (body : List ℕ) (x : Exchange) (hub : Hub) → F (x, hub) → F (answer_directly m status fields body x hub)
  directly_fine status fields body x hub fine =
      by_bool (λ (q : Exchange × Hub). F q) (x.is_head_out || not (is_final status)) (cut_off x hub) _ (λ e. (none_fine x hub fine.0, fine.1))
      (λ e. (sends_fine n _ (none_held x hub) (down_headed n m (local_reply_of status fields body x.asked.is_head (not (stays_open x)) hub.moment)) (none_fine x hub fine.0), fine.1))

  passed_down_fine : (p : PassOutcome) (x : Exchange) (hub : Hub) → F (x, hub) → F (finish_response_put m p x hub)
  passed_down_fine passed.Over x hub fine = directly_fine 500 [] [] x hub fine
  passed_down_fine (passed.Left items) x hub fine = left_fine true items (x, hub) fine

  puts_down_fine : (item : ChainItem) (p : Exchange × Hub) → F p → F (put_response_item m item p)
  puts_down_fine item p fine =
      let t : PassOutcome × List Stage = put p.1.contexts item p.0.response in
      by_bool (λ (q : Exchange × Hub). F q) p.0.has_ended p (take_response_put m p.0 p.1 t) (λ e. fine) (λ e. passed_down_fine t.0 (with_chain true t.1 p.0) p.1 fine)

  through_fine : (status : ℕ) (fields : List Pair) (body : List ℕ) (x : Exchange) (hub : Hub) → F (x, hub) → F (answer_through_stages m status fields body x hub)
  through_fine status fields body x hub fine =
      let y : Exchange = exchange_with_answer status body x in
      let k : Hub = with_answer status fields x hub in
      let first : F (y, k) = (held_fine n _ hub (cleared_lists _ x.request (view_lists _ x.place hub.contexts (λ v has. has) fine.0.maps)) fine.0, fine.1) in
      by_bool (λ (q : Exchange × Hub). F q) (is_bare y.told.length) (put_response_item m (Head true) (y, k)) (put_response_item m (Piece body true) (put_response_item m (Head false) (y, k))) (λ e. puts_down_fine (Head true) (y, k) first)
      (λ e. puts_down_fine (Piece body true) (put_response_item m (Head false) (y, k)) (puts_down_fine (Head false) (y, k) first))

  answer_fine : (shut : Bool) (status : ℕ) (fields : List Pair) (body : List ℕ) (x : Exchange) (hub : Hub) → F (x, hub) → F (answer m shut status fields body x hub)
  answer_fine shut status fields body x hub fine =
      by_bool (λ (q : Exchange × Hub). F q) (x.has_ended || x.is_answered) (x, hub) (answer_open m status fields body (with_closes shut x) hub) (λ e. fine)
      (λ e. by_bool (λ (q : Exchange × Hub). F q) (is_direct status (with_closes shut x)) (answer_directly m status fields body (with_closes shut x) hub) (answer_through_stages m status fields body (with_closes shut x) hub)
      (λ d. directly_fine status fields body (with_closes shut x) hub fine) (λ d. through_fine status fields body (with_closes shut x) hub fine))

  -- ---- what the stages do

  pub passed_on_fine : (response : Bool) (p : PassOutcome) (x : Exchange) (hub : Hub) → F (x, hub) → F (finish_put response m p x hub)
  passed_on_fine false passed.Over x hub fine = answer_fine true 413 [] [] x hub fine
  passed_on_fine false (passed.Left items) x hub fine = left_fine false items (x, hub) fine
  passed_on_fine true p x hub fine = passed_down_fine p x hub fine

  went_fine : (response : Bool) (x : Exchange) (hub : Hub) (r : PassOutcome × List Stage × Contexts) → AreLists r.2 → F (x, hub) → F (take_move response m x hub r)
  went_fine response x hub r are fine = passed_on_fine response r.0 (with_chain response r.1 x) (with_held r.2 hub) (held_fine n r.2 hub are fine.0, chain_lim response r.1 x fine.1)

  goes_on_fine : (response : Bool) (k : ℕ) (x : Exchange) (hub : Hub) → F (x, hub) → F (resume_held response m k x hub)
  goes_on_fine response k x hub fine =
      by_bool (λ (q : Exchange × Hub). F q) x.has_ended (x, hub) (take_move response m x hub (continued hub.contexts k (chain_of response x))) (λ e. fine)
      (λ e. went_fine response x hub (continued hub.contexts k (chain_of response x)) (continued_lists hub.contexts k (chain_of response x) fine.0.maps) fine)

  gives_way_fine : (response : Bool) (k : ℕ) (x : Exchange) (hub : Hub) → F (x, hub) → F (bypass response m k x hub)
  gives_way_fine response k x hub fine =
      by_bool (λ (q : Exchange × Hub). F q) x.has_ended (x, hub) (take_move response m x hub (let_through hub.contexts k (chain_of response x))) (λ e. fine)
      (λ e. went_fine response x hub (let_through hub.contexts k (chain_of response x)) (through_lists hub.contexts k (chain_of response x) fine.0.maps) fine)

  puts_fine : (response : Bool) (item : ChainItem) (p : Exchange × Hub) → F p → F (put_to_chain response m item p)
  puts_fine response item p fine =
      let r : PassOutcome × List Stage = put p.1.contexts item (chain_of response p.0) in
      by_bool (λ (q : Exchange × Hub). F q) (takes_nothing response p.0) p (take_put response m p.0 p.1 r) (λ e. fine) (λ e. passed_on_fine response r.0 (with_chain response r.1 p.0) p.1 (fine.0, chain_lim response r.1 p.0 fine.1))

  puts_all_fine : (response : Bool) (items : List ChainItem) (p : Exchange × Hub) → F p → F (put_all_to_chain response m items p)
  puts_all_fine response [] p fine = fine
  puts_all_fine response (item ∷ items) p fine = puts_all_fine response items (put_to_chain response m item p) (puts_fine response item p fine)

  pub put_in_fine : (response : Bool) (items : List ChainItem) (x : Exchange) (hub : Hub) → F (x, hub) → F (put_read_items response items m x hub)
  put_in_fine response items x hub fine = by_bool (λ (q : Exchange × Hub). F q) x.is_answered (x, hub) (put_all_to_chain response m items (x, hub)) (λ e. fine) (λ e. puts_all_fine response items (x, hub) fine)

  resumes_at_fine : (response : Bool) (at : Option ℕ) (x : Exchange) (hub : Hub) → F (x, hub) → F (resume_place response m at x hub)
  resumes_at_fine response None x hub fine = fine
  resumes_at_fine response (Some k) x hub fine = goes_on_fine response k x hub fine

  acts_fine : (response : Bool) (k value : ℕ) (x : Exchange) (hub : Hub) → F (x, hub) → F (passing.apply_action response k value m x hub)
  acts_fine response k value x hub fine =
      let h : Hub = pause_held response k x hub in
      let held : F (x, h) = (held_fine n _ hub (paused_lists hub.contexts k (chain_of response x) fine.0.maps) fine.0, fine.1) in
      by_bool (λ (q : Exchange × Hub). F q) (value == 0) (resume_held response m k x h) (x, h) (λ e. goes_on_fine response k x h held) (λ e. held)

  -- ---- deaths, and fixed answers

  opens_at_fine : (response : Bool) (vm k : ℕ) (o : Option Stage) (x : Exchange) (hub : Hub) → F (x, hub) → F (bypass_vm_at response vm m k o x hub)
  opens_at_fine response vm k None x hub fine = fine
  opens_at_fine response vm k (Some s) x hub fine = by_bool (λ (q : Exchange × Hub). F q) (s.vm == vm) (bypass response m k x hub) (x, hub) (λ e. gives_way_fine response k x hub fine) (λ e. fine)

  opens_fine : (response : Bool) (vm k : ℕ) (p : Exchange × Hub) → F p → F (bypass_vm_stages response vm m k p)
  opens_fine response vm zero p fine = fine
  opens_fine response vm (suc k) p fine =
      opens_fine response vm k (bypass_vm_at response vm m k (slice_get (chain_of response p.0) k) p.0 p.1) (opens_at_fine response vm k (slice_get (chain_of response p.0) k) p.0 p.1 fine)

  dies_fine : (vm : ℕ) (x : Exchange) (hub : Hub) → F (x, hub) → F (passing.lose_vm vm m x hub)
  dies_fine vm x hub fine =
      let p : Exchange × Hub = bypass_vm_stages false vm m (length x.request) (x, hub) in
      by_bool (λ (q : Exchange × Hub). F q) x.has_ended (x, hub) (if fails_closed vm x then answer_directly m 503 [] [] x hub else bypass_vm vm m x hub) (λ e. fine)
      (λ e. by_bool (λ (q : Exchange × Hub). F q) (fails_closed vm x) (answer_directly m 503 [] [] x hub) (bypass_vm vm m x hub) (λ d. directly_fine 503 [] [] x hub fine)
      (λ d. opens_fine true vm (length p.0.response) p (opens_fine false vm (length x.request) (x, hub) fine)))

  refused_fine : (status : ℕ) (x : Exchange) (hub : Hub) → F (x, hub) → F (passing.refuse_exchange status m x hub)
  refused_fine status x hub fine =
      by_bool (λ (q : Exchange × Hub). F q) (x.has_ended || x.is_answered) (x, hub)
      (if passes_filters status then answer m (closes_line status) status [] [] x hub else answer_directly m status [] [] (with_closes (closes_line status) x) hub) (λ e. fine)
      (λ e. by_bool (λ (q : Exchange × Hub). F q) (passes_filters status) (answer m (closes_line status) status [] [] x hub) (answer_directly m status [] [] (with_closes (closes_line status) x) hub)
      (λ d. answer_fine (closes_line status) status [] [] x hub fine) (λ d. directly_fine status [] [] (with_closes (closes_line status) x) hub fine))

  -- ALL THAT AN EXCHANGE DOES
  pub deed_fine : (deed : Deed) (x : Exchange) (hub : Hub) → IsOwn deed → F (x, hub) → F (done_by m deed x hub)
  deed_fine (comes items) x hub is fine = put_in_fine false items x hub fine
  deed_fine (responds items) x hub is fine = put_in_fine true items x hub fine
  deed_fine (acts response k value) x hub is fine = acts_fine response k value x hub fine
  deed_fine (resumes vm context response) x hub is fine = resumes_at_fine response (stage_of vm context (chain_of response x)) x hub fine
  deed_fine closes x hub is fine = by_bool (λ (q : Exchange × Hub). F q) x.has_ended (x, hub) (cut_off x hub) (λ e. fine) (λ e. (none_fine x hub fine.0, fine.1))
  deed_fine (answers shut status fields body) x hub is fine = answer_fine shut status fields body x hub fine
  deed_fine (dies vm) x hub is fine = dies_fine vm x hub fine
  deed_fine (refuses status) x hub is fine = refused_fine status x hub fine
  deed_fine expires x hub is fine = by_bool (λ (q : Exchange × Hub). F q) (is_due hub.moment x) (answer m false 504 [] [] x hub) (x, hub) (λ e. answer_fine false 504 [] [] x hub fine) (λ e. fine)
  deed_fine (turns y after) x hub is fine = absurd is
