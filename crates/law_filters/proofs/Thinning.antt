-- Whatever is done to an exchange, its stages are those that it had, or fewer; so a filter of a dead VM that fails closed gets no part in one that runs.
use Rattle.std.proofs.Common.{◌≡◌, ◌⊎◌, inl, inr, refl, ℕ, zero, suc, ◌+◌, ◌-◌, ◌==◌, Bool, true, false, not, ◌||◌, ◌&&◌, List, [], ◌∷◌, ◌++◌, length, drop, map, ap, ◌∙◌, sym, subst}
use Rattle.std.proofs.lemmas.Bool.{eqb-true}
use Rattle.std.proofs.lemmas.List.Folds.{list_any-append}
use Rattle.std.proofs.lemmas.List.{reverse-append}
use Rattle.std.specs.List.{list_any}
use Rattle.std.specs.Prelude.{if◌then◌else◌, filter, reverse, slice_get, slice_set, nat_le, Option, None, Some}
use Rattle.contexts.specs.Stages.{with_buffered}
use Rattle.contexts.specs.declared.parts.Contexts.{Contexts}
use Rattle.exchange.specs.declared.types.Exchange.{Exchange}
use Rattle.exchange.specs.declared.types.Filter.{Filter}
use Rattle.exchange.specs.declared.types.Hub.{Hub}
use Rattle.exchange.specs.Answering.{answer_directly, with_held, finish_response_put, take_response_put, put_response_item, exchange_with_answer, with_answer, answer_through_stages, with_closes, is_direct, answer_open, answer, cut_off}
use Rattle.exchange.specs.Heads.{is_bare, is_final, passes_filters, closes_line}
use Rattle.exchange.specs.Leaving.{send_request_item, send_response_item, send_item, send_items, is_due}
use Rattle.exchange.specs.Passing.{chain_of, with_chain, finish_put, take_move, take_put, takes_nothing, put_to_chain, put_all_to_chain, resume_held, bypass, put_read_items, stage_of, resume_place, resume_context, close_exchange, pause_held, apply_action, has_stage_of, is_there, fails_closed, bypass_vm_at, bypass_vm_stages, bypass_vm, lose_vm, refuse_exchange, expire_exchange}
use Rattle.filter_chain.specs.Chains.{put as put_item, continued, continued_at, let_through, let_through_at, asked, asked_at, ready, ask_item, ask_stage, append_to, accepts, hand_over, target, with_more, without_hold, bypassed_stage, bytes_held, bytes_at, without_held, unless_over, ask_of, limit, reach_count}
use Rattle.filter_chain.specs.Items.{size, held_items, holds_bytes}
use Rattle.filter_chain.specs.declared.item.Asking.{Asking}
use Rattle.filter_chain.specs.declared.item.Asking.TheVariants.{Nothing, Over, Asks}
use Rattle.filter_chain.specs.declared.item.AskKind.TheVariants as kinds
use Rattle.filter_chain.specs.declared.item.ChainItem.{ChainItem}
use Rattle.filter_chain.specs.declared.item.ChainItem.TheVariants.{Head, Piece, Trailers}
use Rattle.filter_chain.specs.declared.item.Held.TheVariants as held
use Rattle.filter_chain.specs.declared.item.PassOutcome.{PassOutcome}
use Rattle.filter_chain.specs.declared.item.PassOutcome.TheVariants as passed
use Rattle.filter_chain.specs.declared.stage.Stage.{Stage}
use Rattle.h1_model.specs.Fields.{Pair}
use Rattle.worker_model.specs.Moves.{asks_as, asks_chain, asks_exchange, asks_response}
use Rattle.worker_model.specs.Plan.{Plan}
use Rattle.worker_model.specs.Steps.{is_live, is_gone, new_stage, exchange_with_stages, with_filter, exchange_for, filters_of, plugins_at}
use Rattle.h1_model.specs.Head as heads
use Rattle.law_filters.proofs.Doing.{by_ended, never}
use Rattle.law_filters.proofs.Rooms.{Op, op_resumes, op_closes, op_answers, op_acts, op_refuses, op_expires, op_responds}
use Rattle.law_filters.proofs.Same.{pick}
use Rattle.worker_model.specs.Rooms.{Changes}

-- ---- the contexts of stages

abbrev Id : Type 0
Id = ℕ × ℕ

abbrev id_of : Stage → Id
id_of s = (s.vm, s.context)

abbrev ids : List Stage → List Id
ids ss = map id_of ss

same_of : {A : Type 0} (a b : A) → Some a ≡ Some b → a ≡ b
same_of a b is = cc is

get_ids : (ss : List Stage) (k : ℕ) (s : Stage) → slice_get ss k ≡ Some s → slice_get (ids ss) k ≡ Some (id_of s)
get_ids [] zero s at = absurd (cc at)
get_ids [] (suc k) s at = absurd (cc at)
get_ids (x ∷ ss) zero s at = let same : x ≡ s = same_of x s at in ap (λ (y : Stage). Some (id_of y)) same
get_ids (x ∷ ss) (suc k) s at = get_ids ss k s at

set_ids : (ss : List Stage) (k : ℕ) (t : Stage) → slice_get (ids ss) k ≡ Some (id_of t) → ids (slice_set ss k t) ≡ ids ss
set_ids [] zero t at = refl
set_ids [] (suc k) t at = refl
set_ids (s ∷ ss) zero t at = let same : id_of s ≡ id_of t = same_of (id_of s) (id_of t) at in ap (λ (p : Id). p ∷ ids ss) (sym same)
set_ids (s ∷ ss) (suc k) t at = ap (λ (l : List Id). id_of s ∷ l) (set_ids ss k t at)

append_ids : (to : ℕ) (items : List ChainItem) (ss base : List Stage) (o : Option Stage) → slice_get base to ≡ o → ids ss ≡ ids base → ids (append_to to items ss o).1 ≡ ids base
append_ids to items ss base None at same = same
append_ids to items ss base (Some s) at same = set_ids ss to (with_more items s) (ap (λ (l : List Id). slice_get l to) same ∙ get_ids base to s at) ∙ same

hand_ids : (h : Contexts) (n : ℕ) (items : List ChainItem) (from : ℕ) (stages changed : List Stage) → ids changed ≡ ids stages → ids (hand_over h n items from stages changed).1 ≡ ids stages
hand_ids h n items from stages changed same =
    pick (λ (r : PassOutcome × List Stage). ids r.1 ≡ ids stages) (accepts h n (slice_get stages (target from stages))) (append_to (target from stages) items changed (slice_get stages (target from stages))) (passed.Over, stages)
    (append_ids (target from stages) items changed stages (slice_get stages (target from stages)) refl same) refl

put_ids : (h : Contexts) (item : ChainItem) (stages : List Stage) → ids (put_item h item stages).1 ≡ ids stages
put_ids h item stages = hand_ids h (size (item ∷ [])) (item ∷ []) 0 stages stages refl

unless_ids : (before after : Contexts) (r : PassOutcome × List Stage) (stages : List Stage) → ids r.1 ≡ ids stages → ids (unless_over before after r).1 ≡ ids stages
unless_ids before after (passed.Over, ss) stages is = is
unless_ids before after (passed.Left items, ss) stages is = is

continued_ids : (h : Contexts) (k : ℕ) (stages : List Stage) → ids (continued h k stages).1 ≡ ids stages
continued_ids h k stages = by_stage (slice_get stages k) refl
  where
    by_stage : (o : Option Stage) → slice_get stages k ≡ o → ids (continued_at h k stages o).1 ≡ ids stages
    by_stage None at = refl
    by_stage (Some s) at =
        unless_ids h (without_held h s) (hand_over h (length (bytes_held h s)) (held_items s.held (bytes_held h s)) (k + 1) stages (slice_set stages k (without_hold s))) stages
        (hand_ids h (length (bytes_held h s)) (held_items s.held (bytes_held h s)) (k + 1) stages (slice_set stages k (without_hold s)) (set_ids stages k (without_hold s) (get_ids stages k s at)))

let_ids : (h : Contexts) (k : ℕ) (stages : List Stage) → ids (let_through h k stages).1 ≡ ids stages
let_ids h k stages = by_stage (slice_get stages k) refl
  where
    by_stage : (o : Option Stage) → slice_get stages k ≡ o → ids (let_through_at h k stages o).1 ≡ ids stages
    by_stage None at = refl
    by_stage (Some s) at =
        unless_ids h (without_held h s) (hand_over h (length (bytes_held h s) + size s.waiting) (held_items s.held (bytes_held h s) ++ s.waiting) (k + 1) stages (slice_set stages k (bypassed_stage s))) stages
        (hand_ids h (length (bytes_held h s) + size s.waiting) (held_items s.held (bytes_held h s) ++ s.waiting) (k + 1) stages (slice_set stages k (bypassed_stage s)) (set_ids stages k (bypassed_stage s) (get_ids stages k s at)))

item_ids : (h : Contexts) (k : ℕ) (ss : List Stage) (s : Stage) (ws : List ChainItem) → slice_get ss k ≡ Some s → ids (slice_set ss k (ask_item h k s ws).1) ≡ ids ss
item_ids h k ss s [] at = set_ids ss k s (get_ids ss k s at)
item_ids h k ss s (Head end ∷ items) at = set_ids ss k (record s { waiting = items; held = held.Head end }) (get_ids ss k s at)
item_ids h k ss s (Piece bytes end ∷ items) at =
    pick (λ (r : Asking × Stage × Contexts). ids (slice_set ss k r.1) ≡ ids ss) (nat_le (length (bytes_at h s) + length bytes) limit)
    (ask_of k kinds.Piece (length (bytes_at h s) + length bytes) end, record s { waiting = items; held = held.Body end }, with_buffered h s.vm s.context s.response bytes end) (Over k, s, h)
    (set_ids ss k (record s { waiting = items; held = held.Body end }) (get_ids ss k s at)) (set_ids ss k s (get_ids ss k s at))
item_ids h k ss s (Trailers ∷ items) at = set_ids ss k (record s { waiting = items; held = held.Trailers (holds_bytes s.held) }) (get_ids ss k s at)

asked_ids : (h : Contexts) (ss : List Stage) (count : ℕ) → ids (asked_at h ss count).1 ≡ ids ss
asked_ids h ss zero = refl
asked_ids h ss (suc k) = by_stage (slice_get ss k) refl
  where
    by_stage : (o : Option Stage) → slice_get ss k ≡ o → ids (ask_stage h k ss o).1 ≡ ids ss
    by_stage None at = refl
    by_stage (Some s) at = item_ids h k ss s s.waiting at

-- ---- whether a stage of a context is there

or_first : (a b : Bool) → (a || b) ≡ false → a ≡ false
or_first true b is = is
or_first false b is = refl

or_second : (a b : Bool) → (a || b) ≡ false → b ≡ false
or_second true b is = absurd (cc is)
or_second false b is = is

or_both : (a b : Bool) → a ≡ false → b ≡ false → (a || b) ≡ false
or_both a b p q = λ i. p i || q i

abbrev is_id : ℕ → ℕ → Id → Bool
is_id vm c p = (p.0 == vm) && (p.1 == c)

has_is : (vm c : ℕ) (ss : List Stage) → has_stage_of vm c ss ≡ list_any (is_id vm c) (ids ss)
has_is vm c [] = refl
has_is vm c (s ∷ ss) = ap (λ (b : Bool). ((s.vm == vm) && (s.context == c)) || b) (has_is vm c ss)

same_has : (vm c : ℕ) (a b : List Stage) → ids b ≡ ids a → has_stage_of vm c b ≡ has_stage_of vm c a
same_has vm c a b same = has_is vm c b ∙ (ap (λ (l : List Id). list_any (is_id vm c) l) same ∙ sym (has_is vm c a))

drop_has : (vm c m : ℕ) (ss : List Stage) → has_stage_of vm c ss ≡ false → has_stage_of vm c (drop m ss) ≡ false
drop_has vm c zero [] none = refl
drop_has vm c zero (s ∷ ss) none = none
drop_has vm c (suc m) [] none = refl
drop_has vm c (suc m) (s ∷ ss) none = drop_has vm c m ss (or_second ((s.vm == vm) && (s.context == c)) (has_stage_of vm c ss) none)

-- ---- an exchange with the same filters, and no stage more

pub record Thin (x y : Exchange) : Type 0 where
  pub filters : y.filters ≡ x.filters
  pub entered : y.is_entered ≡ x.is_entered
  pub answered : x.is_answered ≡ true → y.is_answered ≡ true
  pub request : (vm c : ℕ) → has_stage_of vm c x.request ≡ false → has_stage_of vm c y.request ≡ false
  pub response : (vm c : ℕ) → has_stage_of vm c x.response ≡ false → has_stage_of vm c y.response ≡ false

pub record Keeps (x y : Exchange) : Type 0 where
  pub thin : Thin x y
  pub ended : x.has_ended ≡ true → y.has_ended ≡ true

-- nothing of that is other
pub still : (x y : Exchange) → y.filters ≡ x.filters → y.is_entered ≡ x.is_entered → y.is_answered ≡ x.is_answered → y.request ≡ x.request → y.response ≡ x.response → (x.has_ended ≡ true → y.has_ended ≡ true) → Keeps x y
still x y filters entered answered request response ended = record {
  thin = record {
    filters = filters;
    entered = entered;
    answered = λ a. answered ∙ a;
    request = λ vm c none. ap (has_stage_of vm c) request ∙ none;
    response = λ vm c none. ap (has_stage_of vm c) response ∙ none;
  };
  ended = ended;
}

itself : (x : Exchange) → Keeps x x
itself x = still x x refl refl refl refl refl (λ e. e)

-- ---- what leaves

up_keeps : (n : ℕ) (item : ChainItem) (x : Exchange) (hub : Hub) → Keeps x (send_request_item n item x hub).0
up_keeps n (Head end) x hub = still x (send_request_item n (Head end) x hub).0 refl refl refl refl refl (λ e. e)
up_keeps n (Piece bytes end) x hub = itself x
up_keeps n Trailers x hub = itself x

down_keeps : (n : ℕ) (item : ChainItem) (x : Exchange) (hub : Hub) → x.has_ended ≡ false → Keeps x (send_response_item n item x hub).0
down_keeps n (Head end) x hub runs = still x (send_response_item n (Head end) x hub).0 refl refl refl refl refl (λ e. absurd (never x.has_ended runs e))
down_keeps n (Piece bytes end) x hub runs = still x (send_response_item n (Piece bytes end) x hub).0 refl refl refl refl refl (λ e. absurd (never x.has_ended runs e))
down_keeps n Trailers x hub runs = still x (send_response_item n Trailers x hub).0 refl refl refl refl refl (λ e. refl)

send_keeps : (response : Bool) (n : ℕ) (item : ChainItem) (x : Exchange) (hub : Hub) → Keeps x (send_item response n item (x, hub)).0
send_keeps false n item x hub = by_ended (λ (q : Exchange × Hub). Keeps x q.0) x.has_ended (x, hub) (send_request_item n item x hub) (λ e. itself x) (λ e. up_keeps n item x hub)
send_keeps true n item x hub = by_ended (λ (q : Exchange × Hub). Keeps x q.0) x.has_ended (x, hub) (send_response_item n item x hub) (λ e. itself x) (λ e. down_keeps n item x hub e)

-- ---- a filter that fails closed gets no part by it

any_less : {A : Type 0} (p q : A → Bool) (these : List A) → ((a : A) → p a ≡ false → q a ≡ false) → list_any p these ≡ false → list_any q these ≡ false
any_less p q [] less none = refl
any_less p q (a ∷ these) less none = or_both (q a) (list_any q these) (less a (or_first (p a) (list_any p these) none)) (any_less p q these less (or_second (p a) (list_any p these) none))

and_less : (a b c : Bool) → (b ≡ false → c ≡ false) → (a && b) ≡ false → (a && c) ≡ false
and_less true b c less none = less none
and_less false b c less none = refl

not_yet : (e a f b : Bool) → f ≡ e → (a ≡ true → b ≡ true) → (not e && not a) ≡ false → (not f && not b) ≡ false
not_yet true a f b same still none = λ i. not (same i) && not b
not_yet false true f b same still none = by_f f b (still refl)
  where
    by_f : (f b : Bool) → b ≡ true → (not f && not b) ≡ false
    by_f true b is = refl
    by_f false b is = λ i. not (is i)
not_yet false false f b same still none = absurd (cc none)

there_less : (x y : Exchange) (f : Filter) → Thin x y → is_there x f ≡ false → is_there y f ≡ false
there_less x y f t none =
    let stages = or_first (has_stage_of f.vm f.context x.request || has_stage_of f.vm f.context x.response) (not x.is_entered && not x.is_answered) none in
    or_both (has_stage_of f.vm f.context y.request || has_stage_of f.vm f.context y.response) (not y.is_entered && not y.is_answered)
    (or_both (has_stage_of f.vm f.context y.request) (has_stage_of f.vm f.context y.response)
    (t.request f.vm f.context (or_first (has_stage_of f.vm f.context x.request) (has_stage_of f.vm f.context x.response) stages))
    (t.response f.vm f.context (or_second (has_stage_of f.vm f.context x.request) (has_stage_of f.vm f.context x.response) stages)))
    (not_yet x.is_entered x.is_answered y.is_entered y.is_answered t.entered t.answered
    (or_second (has_stage_of f.vm f.context x.request || has_stage_of f.vm f.context x.response) (not x.is_entered && not x.is_answered) none))

-- the filter is of this VM, fails closed, and has a part
abbrev pub shuts : ℕ → Exchange → Filter → Bool
shuts vm x f = ((f.vm == vm) && not f.fails_open) && is_there x f

closed_less : (vm : ℕ) (x y : Exchange) → Thin x y → fails_closed vm x ≡ false → fails_closed vm y ≡ false
closed_less vm x y t none =
    ap (λ (fs : List Filter). list_any (shuts vm y) fs) t.filters
    ∙ any_less (shuts vm x) (shuts vm y) x.filters (λ f no. and_less ((f.vm == vm) && not f.fails_open) (is_there x f) (is_there y f) (there_less x y f t) no) none

-- ---- THE EXCHANGE HAS ENDED, or no filter that fails closed by one of these VMs has a part in it

abbrev pub IsAmong : List ℕ → ℕ → Type 0
IsAmong dead vm = list_any (λ (d : ℕ). d == vm) dead ≡ true

abbrev pub Shut : List ℕ → Exchange → Type 0
Shut dead x = (x.has_ended ≡ true) ⊎ ((vm : ℕ) → IsAmong dead vm → fails_closed vm x ≡ false)

module _ (dead : List ℕ) where
  pub shut_keeps : (x y : Exchange) → Keeps x y → Shut dead x → Shut dead y
  shut_keeps x y k (inl ended) = inl (k.ended ended)
  shut_keeps x y k (inr none) = inr (λ vm is. closed_less vm x y k.thin (none vm is))

  sends : (response : Bool) (n : ℕ) (items : List ChainItem) (x : Exchange) (hub : Hub) → Shut dead x → Shut dead (send_items response n items (x, hub)).0
  sends response n [] x hub s = s
  sends response n (item ∷ items) x hub s =
      sends response n items (send_item response n item (x, hub)).0 (send_item response n item (x, hub)).1 (shut_keeps x (send_item response n item (x, hub)).0 (send_keeps response n item x hub) s)

  -- ---- answers

  directly : (n status : ℕ) (fields : List Pair) (body : List ℕ) (x : Exchange) (hub : Hub) → Shut dead (answer_directly n status fields body x hub).0
  directly n status fields body x hub = by_ended (λ (q : Exchange × Hub). Shut dead q.0) (x.is_head_out || not (is_final status)) _ _ (λ e. inl refl) (λ e. inl refl)

  finish_down : (n : ℕ) (p : PassOutcome) (x : Exchange) (hub : Hub) → Shut dead x → Shut dead (finish_response_put n p x hub).0
  finish_down n passed.Over x hub s = directly n 500 [] [] x hub
  finish_down n (passed.Left items) x hub s = sends true n items x hub s

  -- stages of the same contexts
  chained : (response : Bool) (x : Exchange) (stages : List Stage) → ids stages ≡ ids (chain_of response x) → Keeps x (with_chain response stages x)
  chained false x stages same = record {
    thin = record { filters = refl; entered = refl; answered = λ a. a; request = λ vm c none. same_has vm c x.request stages same ∙ none; response = λ vm c none. none };
    ended = λ e. e;
  }
  chained true x stages same = record {
    thin = record { filters = refl; entered = refl; answered = λ a. a; request = λ vm c none. none; response = λ vm c none. same_has vm c x.response stages same ∙ none };
    ended = λ e. e;
  }

  put_down : (n : ℕ) (item : ChainItem) (x : Exchange) (hub : Hub) → Shut dead x → Shut dead (put_response_item n item (x, hub)).0
  put_down n item x hub s =
      by_ended (λ (q : Exchange × Hub). Shut dead q.0) x.has_ended (x, hub) (take_response_put n x hub (put_item hub.contexts item x.response)) (λ e. s)
      (λ e. finish_down n (put_item hub.contexts item x.response).0 (record x { response = (put_item hub.contexts item x.response).1 }) hub
      (shut_keeps x (record x { response = (put_item hub.contexts item x.response).1 }) (chained true x (put_item hub.contexts item x.response).1 (put_ids hub.contexts item x.response)) s))

  through : (n status : ℕ) (fields : List Pair) (body : List ℕ) (x : Exchange) (hub : Hub) → Shut dead x → Shut dead (answer_through_stages n status fields body x hub).0
  through n status fields body x hub s =
      by_ended (λ (q : Exchange × Hub). Shut dead q.0) (is_bare y.told.length) _ _ (λ e. put_down n (Head true) y k here)
      (λ e. put_down n (Piece body true) (put_response_item n (Head false) (y, k)).0 (put_response_item n (Head false) (y, k)).1 (put_down n (Head false) y k here))
    where
      y : Exchange
      y = exchange_with_answer status body x

      k : Hub
      k = with_answer status fields x hub

      here : Shut dead (exchange_with_answer status body x)
      here =
          shut_keeps x (exchange_with_answer status body x)
          (record {
            thin = record {
              filters = refl;
              entered = refl;
              answered = λ a. refl;
              request = λ vm c none. refl;
              response = λ vm c none. drop_has vm c (length x.response - (if x.is_entered then reach_count x.request else 0)) x.response none;
            };
            ended = λ e. e;
          }) s

  answers : (n : ℕ) (closes : Bool) (status : ℕ) (fields : List Pair) (body : List ℕ) (x : Exchange) (hub : Hub) → Shut dead x → Shut dead (answer n closes status fields body x hub).0
  answers n closes status fields body x hub s =
      by_ended (λ (q : Exchange × Hub). Shut dead q.0) (x.has_ended || x.is_answered) (x, hub) (answer_open n status fields body (with_closes closes x) hub) (λ e. s)
      (λ e. by_ended (λ (q : Exchange × Hub). Shut dead q.0) (is_direct status (with_closes closes x)) _ _ (λ d. directly n status fields body (with_closes closes x) hub)
      (λ d. through n status fields body (with_closes closes x) hub (shut_keeps x (with_closes closes x) (still x (with_closes closes x) refl refl refl refl refl (λ e. e)) s)))

  finish : (response : Bool) (n : ℕ) (p : PassOutcome) (x : Exchange) (hub : Hub) → Shut dead x → Shut dead (finish_put response n p x hub).0
  finish false n passed.Over x hub s = answers n true 413 [] [] x hub s
  finish false n (passed.Left items) x hub s = sends false n items x hub s
  finish true n p x hub s = finish_down n p x hub s

  moves : (response : Bool) (n : ℕ) (x : Exchange) (hub : Hub) (r : PassOutcome × List Stage × Contexts) → ids r.1 ≡ ids (chain_of response x) → Shut dead x → Shut dead (take_move response n x hub r).0
  moves response n x hub (p, stages, kept) same s = finish response n p (with_chain response stages x) (with_held kept hub) (shut_keeps x (with_chain response stages x) (chained response x stages same) s)

  -- ---- what is done to it

  goes_on : (response : Bool) (n k : ℕ) (x : Exchange) (hub : Hub) → Shut dead x → Shut dead (resume_held response n k x hub).0
  goes_on response n k x hub s =
      by_ended (λ (q : Exchange × Hub). Shut dead q.0) x.has_ended (x, hub) (take_move response n x hub (continued hub.contexts k (chain_of response x))) (λ e. s)
      (λ e. moves response n x hub (continued hub.contexts k (chain_of response x)) (continued_ids hub.contexts k (chain_of response x)) s)

  resumes : (vm context : ℕ) (response : Bool) (n : ℕ) (x : Exchange) (hub : Hub) → Shut dead x → Shut dead (resume_context vm context response n x hub).0
  resumes vm context response n x hub s = by_place (stage_of vm context (chain_of response x))
    where
      by_place : (o : Option ℕ) → Shut dead (resume_place response n o x hub).0
      by_place None = s
      by_place (Some k) = goes_on response n k x hub s

  acts : (response : Bool) (k value n : ℕ) (x : Exchange) (hub : Hub) → Shut dead x → Shut dead (apply_action response k value n x hub).0
  acts response k value n x hub s = by_ended (λ (q : Exchange × Hub). Shut dead q.0) (value == 0) _ _ (λ e. goes_on response n k x (pause_held response k x hub) s) (λ e. s)

  closes : (n : ℕ) (x : Exchange) (hub : Hub) → Shut dead x → Shut dead (close_exchange n x hub).0
  closes n x hub s = by_ended (λ (q : Exchange × Hub). Shut dead q.0) x.has_ended (x, hub) (cut_off x hub) (λ e. s) (λ e. inl refl)

  refuses : (status n : ℕ) (x : Exchange) (hub : Hub) → Shut dead x → Shut dead (refuse_exchange status n x hub).0
  refuses status n x hub s =
      by_ended (λ (q : Exchange × Hub). Shut dead q.0) (x.has_ended || x.is_answered) _ _ (λ e. s)
      (λ e. by_ended (λ (q : Exchange × Hub). Shut dead q.0) (passes_filters status) _ _ (λ p. answers n (closes_line status) status [] [] x hub s) (λ p. directly n status [] [] (with_closes (closes_line status) x) hub))

  expires : (n : ℕ) (x : Exchange) (hub : Hub) → Shut dead x → Shut dead (expire_exchange n x hub).0
  expires n x hub s = by_ended (λ (q : Exchange × Hub). Shut dead q.0) (is_due hub.moment x) _ _ (λ e. answers n false 504 [] [] x hub s) (λ e. s)

  puts : (response : Bool) (n : ℕ) (item : ChainItem) (x : Exchange) (hub : Hub) → Shut dead x → Shut dead (put_to_chain response n item (x, hub)).0
  puts response n item x hub s =
      by_ended (λ (q : Exchange × Hub). Shut dead q.0) (takes_nothing response x) (x, hub) (take_put response n x hub (put_item hub.contexts item (chain_of response x))) (λ e. s)
      (λ e. finish response n (put_item hub.contexts item (chain_of response x)).0 (with_chain response (put_item hub.contexts item (chain_of response x)).1 x) hub
      (shut_keeps x (with_chain response (put_item hub.contexts item (chain_of response x)).1 x) (chained response x (put_item hub.contexts item (chain_of response x)).1 (put_ids hub.contexts item (chain_of response x))) s))

  puts_all : (response : Bool) (n : ℕ) (items : List ChainItem) (x : Exchange) (hub : Hub) → Shut dead x → Shut dead (put_all_to_chain response n items (x, hub)).0
  puts_all response n [] x hub s = s
  puts_all response n (item ∷ items) x hub s = puts_all response n items (put_to_chain response n item (x, hub)).0 (put_to_chain response n item (x, hub)).1 (puts response n item x hub s)

  pub reads_in : (response : Bool) (items : List ChainItem) (n : ℕ) (x : Exchange) (hub : Hub) → Shut dead x → Shut dead (put_read_items response items n x hub).0
  reads_in response items n x hub s = by_ended (λ (q : Exchange × Hub). Shut dead q.0) x.is_answered _ _ (λ e. s) (λ e. puts_all response n items x hub s)

  pub does : (change : Changes) → Op change → (n : ℕ) (x : Exchange) (hub : Hub) → Shut dead x → Shut dead (change n x hub).0
  does _ (op_resumes vm context response) n x hub s = resumes vm context response n x hub s
  does _ op_closes n x hub s = closes n x hub s
  does _ (op_answers status fields body) n x hub s = answers n false status fields body x hub s
  does _ (op_acts response k value) n x hub s = acts response k value n x hub s
  does _ (op_refuses status) n x hub s = refuses status n x hub s
  does _ op_expires n x hub s = expires n x hub s
  does _ (op_responds items) n x hub s = reads_in true items n x hub s

  -- a stage is asked
  asks_so : (response : Bool) (n : ℕ) (a : Asking) (x : Exchange) (hub : Hub) → Shut dead x → Shut dead (asks_as response n a x hub).1
  asks_so response n Nothing x hub s = s
  asks_so response n (Over k) x hub s = finish response n passed.Over x hub s
  asks_so response n (Asks ask) x hub s = s

  pub asks : (n : ℕ) (x : Exchange) (hub : Hub) → Shut dead x → Shut dead (asks_exchange n x hub).1
  asks n x hub s = by_response (asks_response x)
    where
      by_response : (r : Bool) → Shut dead (asks_chain r n x hub (asked hub.contexts (chain_of r x))).1
      by_response r =
          let q = asked hub.contexts (chain_of r x) in
          asks_so r n q.0 (with_chain r q.1 x) (with_held q.2 hub) (shut_keeps x (with_chain r q.1 x) (chained r x q.1 (asked_ids hub.contexts (chain_of r x) (ready (chain_of r x)))) s)

  -- ---- stages of a VM are let through

  passes_by : (response : Bool) (n k : ℕ) (x : Exchange) (hub : Hub) → Shut dead x → Shut dead (bypass response n k x hub).0
  passes_by response n k x hub s =
      by_ended (λ (q : Exchange × Hub). Shut dead q.0) x.has_ended (x, hub) (take_move response n x hub (let_through hub.contexts k (chain_of response x))) (λ e. s)
      (λ e. moves response n x hub (let_through hub.contexts k (chain_of response x)) (let_ids hub.contexts k (chain_of response x)) s)

  one_by : (response : Bool) (vm n k : ℕ) (o : Option Stage) (x : Exchange) (hub : Hub) → Shut dead x → Shut dead (bypass_vm_at response vm n k o x hub).0
  one_by response vm n k None x hub s = s
  one_by response vm n k (Some t) x hub s = by_ended (λ (q : Exchange × Hub). Shut dead q.0) (t.vm == vm) _ _ (λ e. passes_by response n k x hub s) (λ e. s)

  all_by : (response : Bool) (vm n k : ℕ) (x : Exchange) (hub : Hub) → Shut dead x → Shut dead (bypass_vm_stages response vm n k (x, hub)).0
  all_by response vm n zero x hub s = s
  all_by response vm n (suc k) x hub s =
      let p = bypass_vm_at response vm n k (slice_get (chain_of response x) k) x hub in
      all_by response vm n k p.0 p.1 (one_by response vm n k (slice_get (chain_of response x) k) x hub s)

  lets : (vm n : ℕ) (x : Exchange) (hub : Hub) → Shut dead x → Shut dead (bypass_vm vm n x hub).0
  lets vm n x hub s =
      let p = bypass_vm_stages false vm n (length x.request) (x, hub) in
      all_by true vm n (length p.0.response) p.0 p.1 (all_by false vm n (length x.request) x hub s)

  -- ---- stages are made, of VMs that live

  live_lives : (f : Filter) → is_live dead f ≡ true → list_any (λ (d : ℕ). d == f.vm) dead ≡ false
  live_lives f live = by_two f.created (list_any (λ (d : ℕ). d == f.vm) dead) live
    where
      by_two : (a b : Bool) → (a && not b) ≡ true → b ≡ false
      by_two true true is = absurd (cc is)
      by_two true false is = refl
      by_two false b is = absurd (cc is)

  other_vm : (a vm c d : ℕ) → list_any (λ (e : ℕ). e == a) dead ≡ false → IsAmong dead vm → ((a == vm) && (c == d)) ≡ false
  other_vm a vm c d lives is = by_test (a == vm) refl
    where
      by_test : (b : Bool) → (a == vm) ≡ b → (b && (c == d)) ≡ false
      by_test false e = refl
      by_test true e = absurd (never (list_any (λ (x : ℕ). x == a) dead) lives (ap (λ (v : ℕ). list_any (λ (x : ℕ). x == v) dead) (eqb-true a vm e) ∙ is))

  none_made : (response : Bool) (vm c : ℕ) (fs : List Filter) → IsAmong dead vm → has_stage_of vm c (map (new_stage response) (filter (is_live dead) fs)) ≡ false
  none_made response vm c [] is = refl
  none_made response vm c (f ∷ fs) is =
      by_ended (λ (l : List Filter). has_stage_of vm c (map (new_stage response) l) ≡ false) (is_live dead f) (f ∷ filter (is_live dead) fs) (filter (is_live dead) fs)
      (λ live. or_both ((f.vm == vm) && (f.context == c)) (has_stage_of vm c (map (new_stage response) (filter (is_live dead) fs))) (other_vm f.vm vm f.context c (live_lives f live) is) (none_made response vm c fs is))
      (λ gone. none_made response vm c fs is)

  joined_none : (vm c : ℕ) (a b : List Stage) → has_stage_of vm c a ≡ false → has_stage_of vm c b ≡ false → has_stage_of vm c (a ++ b) ≡ false
  joined_none vm c a b p q = list_any-append (λ (s : Stage). (s.vm == vm) && (s.context == c)) a b ∙ or_both (has_stage_of vm c a) (has_stage_of vm c b) p q

  reversed_none : (vm c : ℕ) (ss : List Stage) → has_stage_of vm c ss ≡ false → has_stage_of vm c (reverse ss) ≡ false
  reversed_none vm c [] none = none
  reversed_none vm c (s ∷ ss) none =
      ap (has_stage_of vm c) (reverse-append (s ∷ []) ss)
      ∙ joined_none vm c (reverse ss) (s ∷ []) (reversed_none vm c ss (or_second ((s.vm == vm) && (s.context == c)) (has_stage_of vm c ss) none))
      (or_both ((s.vm == vm) && (s.context == c)) false (or_first ((s.vm == vm) && (s.context == c)) (has_stage_of vm c ss) none) refl)

  none_of_these : {A : Type 0} (p : A → Bool) (these : List A) → ((a : A) → p a ≡ false) → list_any p these ≡ false
  none_of_these p [] all = refl
  none_of_these p (a ∷ these) all = or_both (p a) (list_any p these) (all a) (none_of_these p these all)

  pub enters : (x : Exchange) → Shut dead x → Shut dead (exchange_with_stages dead x)
  enters x s = by_ended (λ (y : Exchange). Shut dead y) (x.has_ended || x.is_answered) x y (λ e. s) (λ e. inr (λ vm is. none_of_these (shuts vm y) x.filters (one vm is)))
    where
      y : Exchange
      y = record x {
        request = map (new_stage false) (filter (is_live dead) x.filters);
        response = reverse (map (new_stage true) (filter (is_live dead) x.filters));
        is_entered = true;
      }

      one : (vm : ℕ) → IsAmong dead vm → (f : Filter) → shuts vm y f ≡ false
      one vm is f = by_test (f.vm == vm) refl
        where
          gone : f.vm ≡ vm → IsAmong dead f.vm
          gone same = ap (λ (v : ℕ). list_any (λ (d : ℕ). d == v) dead) same ∙ is

          there : IsAmong dead f.vm → is_there y f ≡ false
          there among =
              or_both (has_stage_of f.vm f.context y.request || has_stage_of f.vm f.context y.response) (not true && not y.is_answered)
              (or_both (has_stage_of f.vm f.context y.request) (has_stage_of f.vm f.context y.response) (none_made false f.vm f.context x.filters among)
              (reversed_none f.vm f.context (map (new_stage true) (filter (is_live dead) x.filters)) (none_made true f.vm f.context x.filters among))) refl

          and_none : (a b : Bool) → b ≡ false → (a && b) ≡ false
          and_none true b is_ = is_
          and_none false b is_ = refl

          by_test : (b : Bool) → (f.vm == vm) ≡ b → ((b && not f.fails_open) && is_there y f) ≡ false
          by_test false e = refl
          by_test true e = and_none (true && not f.fails_open) (is_there y f) (there (gone (eqb-true f.vm vm e)))

  -- ---- a context is made for a filter whose VM lives

  other_shuts : (vm : ℕ) (x : Exchange) (f : Filter) → list_any (λ (d : ℕ). d == f.vm) dead ≡ false → IsAmong dead vm → shuts vm x f ≡ false
  other_shuts vm x f lives is = by_test (f.vm == vm) refl
    where
      by_test : (b : Bool) → (f.vm == vm) ≡ b → ((b && not f.fails_open) && is_there x f) ≡ false
      by_test false e = refl
      by_test true e = absurd (never (list_any (λ (d : ℕ). d == f.vm) dead) lives (ap (λ (v : ℕ). list_any (λ (d : ℕ). d == v) dead) (eqb-true f.vm vm e) ∙ is))

  any_set : {A : Type 0} (p : A → Bool) (these : List A) (k : ℕ) (t : A) → list_any p these ≡ false → p t ≡ false → list_any p (slice_set these k t) ≡ false
  any_set p [] zero t none one = none
  any_set p [] (suc k) t none one = none
  any_set p (a ∷ these) zero t none one = or_both (p t) (list_any p these) one (or_second (p a) (list_any p these) none)
  any_set p (a ∷ these) (suc k) t none one = or_both (p a) (list_any p (slice_set these k t)) (or_first (p a) (list_any p these) none) (any_set p these k t (or_second (p a) (list_any p these) none) one)

  pub makes : (k : ℕ) (f : Filter) (x : Exchange) → list_any (λ (d : ℕ). d == f.vm) dead ≡ false → Shut dead x → Shut dead (with_filter k f x)
  makes k f x lives (inl ended) = inl ended
  makes k f x lives (inr none) = inr (λ vm is. any_set (shuts vm x) x.filters k f (none vm is) (other_shuts vm x f lives is))

  -- ---- an exchange begins, with the filters whose VMs live

  any_kept : (vm : ℕ) (x : Exchange) (fs : List Filter) → IsAmong dead vm → list_any (shuts vm x) (filter (λ (f : Filter). not (is_gone dead f)) fs) ≡ false
  any_kept vm x [] is = refl
  any_kept vm x (f ∷ fs) is =
      by_ended (λ (l : List Filter). list_any (shuts vm x) l ≡ false) (not (is_gone dead f)) (f ∷ filter (λ (f : Filter). not (is_gone dead f)) fs) (filter (λ (f : Filter). not (is_gone dead f)) fs)
      (λ lives. or_both (shuts vm x f) (list_any (shuts vm x) (filter (λ (f : Filter). not (is_gone dead f)) fs)) (other_shuts vm x f (not_true (is_gone dead f) lives) is) (any_kept vm x fs is)) (λ gone. any_kept vm x fs is)
    where
      not_true : (b : Bool) → not b ≡ true → b ≡ false
      not_true true is = absurd (cc is)
      not_true false is = refl

  pub begins : (plan : Plan) (place now : ℕ) (head : heads.Head) (route : Option ℕ) → Shut dead (exchange_for plan place now dead head route)
  begins plan place now head route = inr (λ vm is. any_kept vm (exchange_for plan place now dead head route) (filters_of plan.plugins (plugins_at plan.routes route)) is)

-- ---- a VM dies

pub dies : (dead : List ℕ) (vm n : ℕ) (x : Exchange) (hub : Hub) → Shut dead x → Shut (dead ++ vm ∷ []) (lose_vm vm n x hub).0
dies dead vm n x hub s = by_ended (λ (q : Exchange × Hub). Shut (dead ++ vm ∷ []) q.0) x.has_ended (x, hub) _ (λ e. inl e) (λ e. runs s)
  where
    either : (w : ℕ) → IsAmong (dead ++ vm ∷ []) w → IsAmong dead w ⊎ (vm ≡ w)
    either w is = by_both (list_any (λ (d : ℕ). d == w) dead) (vm == w) refl refl (sym (list_any-append (λ (d : ℕ). d == w) dead (vm ∷ [])) ∙ is)
      where
        by_both : (a b : Bool) → list_any (λ (d : ℕ). d == w) dead ≡ a → (vm == w) ≡ b → (a || (b || false)) ≡ true → IsAmong dead w ⊎ (vm ≡ w)
        by_both true b p q is_ = inl p
        by_both false true p q is_ = inr (eqb-true vm w q)
        by_both false false p q is_ = absurd (cc is_)

    grown : fails_closed vm x ≡ false → Shut dead x → Shut (dead ++ vm ∷ []) x
    grown none (inl ended) = inl ended
    grown none (inr others) = inr (λ w is. by_which w (either w is))
      where
        by_which : (w : ℕ) → IsAmong dead w ⊎ (vm ≡ w) → fails_closed w x ≡ false
        by_which w (inl before) = others w before
        by_which w (inr same) = subst (λ (v : ℕ). fails_closed v x ≡ false) same none

    runs : Shut dead x → Shut (dead ++ vm ∷ []) (if fails_closed vm x then answer_directly n 503 [] [] x hub else bypass_vm vm n x hub).0
    runs s =
        by_ended (λ (q : Exchange × Hub). Shut (dead ++ vm ∷ []) q.0) (fails_closed vm x) (answer_directly n 503 [] [] x hub) (bypass_vm vm n x hub) (λ e. directly (dead ++ vm ∷ []) n 503 [] [] x hub)
        (λ e. lets (dead ++ vm ∷ []) vm n x hub (grown e s))
