-- The head of a request waits for each stage, whatever is done to its exchange.
use Rattle.std.proofs.Common.{◌≡◌, ◌⊎◌, inl, inr, refl, ℕ, zero, suc, ◌+◌, Bool, true, false, not, ◌||◌, ◌&&◌, List, [], ◌∷◌, ◌++◌, length, Option, None, Some, ap, ◌∙◌, sym, subst, append_assoc, append-nil}
use Rattle.std.proofs.lemmas.Bool.{eqb-true}
use Rattle.std.specs.Option.{option_map}
use Rattle.std.specs.Prelude.{slice_get, slice_set, nat_le, if◌then◌else◌}
use Rattle.contexts.specs.Stages.{with_buffered}
use Rattle.contexts.specs.declared.parts.Contexts.{Contexts}
use Rattle.exchange.specs.declared.types.Exchange.{Exchange}
use Rattle.exchange.specs.declared.types.Hub.{Hub}
use Rattle.exchange.specs.Answering.{with_held}
use Rattle.exchange.specs.Passing.{chain_of, finish_put, take_move, take_put, takes_nothing, put_to_chain, put_all_to_chain, put_read_items}
use Rattle.filter_chain.proofs.Picks.{ready_picks}
use Rattle.filter_chain.specs.Chains.{accepts, append_to, ask_item, ask_of, ask_stage, asked, asked_at, bypassed_stage, bytes_at, bytes_held, continued, continued_at, has_head, is_any, let_through, let_through_at, limit, may_be_picked, put as put_item, ready, target, unless_over, without_held, without_hold}
use Rattle.filter_chain.specs.Items.{held_items, holds_bytes, is_free, size}
use Rattle.filter_chain.specs.declared.item.Ask.{Ask}
use Rattle.filter_chain.specs.declared.item.AskKind.TheVariants as kinds
use Rattle.filter_chain.specs.declared.item.Asking.{Asking}
use Rattle.filter_chain.specs.declared.item.Asking.TheVariants.{Nothing, Over, Asks}
use Rattle.filter_chain.specs.declared.item.ChainItem.{ChainItem}
use Rattle.filter_chain.specs.declared.item.ChainItem.TheVariants.{Head, Piece, Trailers}
use Rattle.filter_chain.specs.declared.item.Held.TheVariants as held
use Rattle.filter_chain.specs.declared.item.PassOutcome.{PassOutcome}
use Rattle.filter_chain.specs.declared.item.PassOutcome.TheVariants as passed
use Rattle.filter_chain.specs.declared.stage.Stage.{Stage}
use Rattle.gate_io.specs.declared.event.Sent.{Sent}
use Rattle.gate_io.specs.declared.event.Sent.TheVariants as to
use Rattle.law_chain.proofs.Targets.{comes_in, comes_is, goes_is}
use Rattle.worker_model.specs.Moves.{asks_as, asks_chain, asks_response, asks_stage, count_of, with_none}
use Rattle.worker_model.specs.Rooms.{with_marks}
use Rattle.worker_model.specs.declared.types.Asked.{Asked}
use Rattle.law_filters.proofs.Chains as chains
use Rattle.law_filters.proofs.Chains.{Kept, Going, comes_asked, comes_goes, comes_head, comes_more}
use Rattle.law_filters.proofs.Doing.{IsAside, IsClosed, IsMoved, IsShut, InBoth, acts_keep, answer_keeps, by_ended, closes_keep, dies_keep, expires_keep, in_answer, in_asks_chain, lets_response, lets_vm, never, refuses_keep, responses_keep, resumes_keep}
use Rattle.law_filters.proofs.Same.{pick, same_asked}
use Rattle.law_filters.specs.Heads.{Awaits, Comes, HeadWaits, HeadsWait, IsAskedHead, IsSilenced, IsStageOf, OpensNone, Waits, WaitsOn, WaitsYet}

opens_join : (a b : List Sent) → OpensNone a → OpensNone b → OpensNone (a ++ b)
opens_join [] b one two = two
opens_join (to.Connect n ∷ a) b one two = absurd one
opens_join (to.Bytes n side bytes ∷ a) b one two = opens_join a b one two
opens_join (to.Close n side ∷ a) b one two = opens_join a b one two
opens_join (to.Log level text ∷ a) b one two = opens_join a b one two

set_there : (ss : List Stage) (k : ℕ) (s new : Stage) → slice_get ss k ≡ Some s → slice_get (slice_set ss k new) k ≡ Some new
set_there [] zero s new at = absurd (cc at)
set_there [] (suc k) s new at = absurd (cc at)
set_there (x ∷ ss) zero s new at = refl
set_there (x ∷ ss) (suc k) s new at = set_there ss k s new at

module _ (vm context : ℕ) (base : List Sent) where
  -- since then no connection was opened
  abbrev pub Since : Hub → Type 0
  Since hub = (more : List Sent) × (hub.sent ≡ base ++ more) × OpensNone more

  abbrev pub G : ℕ → Exchange → Hub → Type 0
  G n x hub = Waits vm context x × Since hub

  waits_aside : (x y : Exchange) → IsAside x y → Waits vm context x → Waits vm context y
  waits_aside x y a (inl (inl ended)) = inl (inl (a.ended ended))
  waits_aside x y a (inl (inr is)) = inl (inr (a.answered ∙ is.0, a.request ∙ is.1))
  waits_aside x y a (inr is) = inr (is.0, subst (Comes vm context is.0) (sym a.request) is.1)

  waits_shut : (x y : Exchange) → IsShut x y → Waits vm context y
  waits_shut x y s = by_over s.over
    where
      by_over : (y.has_ended ≡ true) ⊎ (y.is_answered ≡ true) → Waits vm context y
      by_over (inl ended) = inl (inl ended)
      by_over (inr answered) = inl (inr (answered, s.request))

  pub closed : IsClosed G
  closed = record {
    hub = λ n x hub h same is. is;
    sent = λ n x hub more none is. (is.0, (is.1.0 ++ more, ap (λ (l : List Sent). l ++ more) is.1.1 ∙ append_assoc base is.1.0 more, opens_join is.1.0 more is.1.2 none));
    aside = λ n x y hub a is. (waits_aside x y a is.0, is.1);
    shut = λ n x y hub s is. (waits_shut x y s, is.1);
  }

  -- ---- the stages move

  abbrev MovedBy : ℕ → Exchange → Hub → PassOutcome × List Stage × Contexts → Type 0
  MovedBy n x hub r = InBoth G n (take_move false n x hub r)

  kept_moves : (n t : ℕ) (x : Exchange) (hub : Hub) (c : Contexts) (p : PassOutcome) (stages : List Stage) → p ≡ passed.Left [] → Comes vm context t stages → Since hub → MovedBy n x hub (unless_over hub.contexts c (p, stages))
  kept_moves n t x hub c p stages none comes k =
      subst (λ (q : PassOutcome). MovedBy n x hub (unless_over hub.contexts c (q, stages))) (sym none) (inr (t, comes), k)

  over_moves : (n t : ℕ) (x : Exchange) (hub : Hub) (c : Contexts) (stages : List Stage) → Comes vm context t stages → Since hub → MovedBy n x hub (unless_over hub.contexts c (passed.Over, stages))
  over_moves n t x hub c stages comes k = in_answer G closed n true 413 [] [] (record x { request = stages }) (with_held hub.contexts hub) (inr (t, comes), k)

  goes_moves : (n t k : ℕ) (x : Exchange) (hub : Hub) (c : Contexts) (bytes : ℕ) (items : List ChainItem) (ss : List Stage) (s new : Stage) → slice_get ss k ≡ Some s → Going vm context s new items → Comes vm context t ss → Since hub
      → MovedBy n x hub (unless_over hub.contexts c (if accepts hub.contexts bytes (slice_get ss (target (k + 1) ss)) then append_to (target (k + 1) ss) items (slice_set ss k new) (slice_get ss (target (k + 1) ss)) else (passed.Over, ss)))
  goes_moves n t k x hub c bytes items ss s new at g comes since =
      let there : Kept (Comes vm context t) (append_to (target (k + 1) ss) items (slice_set ss k new) (slice_get ss (target (k + 1) ss)))
      = subst (Kept (Comes vm context t)) (sym (goes_is items ss k s new at)) (comes_goes vm context k new items t ss s at g comes) in
      pick (λ (r : PassOutcome × List Stage). MovedBy n x hub (unless_over hub.contexts c r)) (accepts hub.contexts bytes (slice_get ss (target (k + 1) ss)))
      (append_to (target (k + 1) ss) items (slice_set ss k new) (slice_get ss (target (k + 1) ss))) (passed.Over, ss)
      (kept_moves n t x hub c (append_to (target (k + 1) ss) items (slice_set ss k new) (slice_get ss (target (k + 1) ss))).0 (append_to (target (k + 1) ss) items (slice_set ss k new) (slice_get ss (target (k + 1) ss))).1 there.0 there.1 since)
      (over_moves n t x hub c ss comes since)

  continued_moves : (n t k : ℕ) (x : Exchange) (hub : Hub) (ss : List Stage) (o : Option Stage) → slice_get ss k ≡ o → Comes vm context t ss → Since hub → MovedBy n x hub (continued_at hub.contexts k ss o)
  continued_moves n t k x hub ss None at comes since = (inr (t, comes), since)
  continued_moves n t k x hub ss (Some s) at comes since =
      goes_moves n t k x hub (without_held hub.contexts s) (length (bytes_held hub.contexts s)) (held_items s.held (bytes_held hub.contexts s)) ss s (without_hold s) at (chains.continues vm context s (bytes_held hub.contexts s)) comes since

  let_moves : (n t k : ℕ) (x : Exchange) (hub : Hub) (ss : List Stage) (s : Stage) → slice_get ss k ≡ Some s → (s.vm ≡ vm → ⊥) → Comes vm context t ss → Since hub → MovedBy n x hub (let_through_at hub.contexts k ss (Some s))
  let_moves n t k x hub ss s at other comes since =
      goes_moves n t k x hub (without_held hub.contexts s) (length (bytes_held hub.contexts s) + size s.waiting) (held_items s.held (bytes_held hub.contexts s) ++ s.waiting) ss s (bypassed_stage s) at
      (chains.lets vm context s (bytes_held hub.contexts s) other) comes since

  none_moves : (n k : ℕ) (x : Exchange) (hub : Hub) → x.is_answered ≡ true → Since hub → MovedBy n x hub (continued hub.contexts k [])
  none_moves n zero x hub answered since = (inl (inr (answered, refl)), since)
  none_moves n (suc k) x hub answered since = (inl (inr (answered, refl)), since)

  no_stage : (k : ℕ) (s : Stage) (ss : List Stage) → ss ≡ [] → slice_get ss k ≡ Some s → ⊥
  no_stage zero s ss none at = wrong (ap (λ (l : List Stage). slice_get l 0) (sym none) ∙ at)
    where
      wrong : ◌≡◌ {A = Option Stage} None (Some s) → ⊥
      wrong e = cc e
  no_stage (suc k) s ss none at = wrong (ap (λ (l : List Stage). slice_get l (suc k)) (sym none) ∙ at)
    where
      wrong : ◌≡◌ {A = Option Stage} None (Some s) → ⊥
      wrong e = cc e

  pub moves_on : (n k : ℕ) (x : Exchange) (hub : Hub) → x.has_ended ≡ false → Waits vm context x → Since hub → MovedBy n x hub (continued hub.contexts k x.request)
  moves_on n k x hub runs (inl (inl ended)) since = absurd (never x.has_ended runs ended)
  moves_on n k x hub runs (inl (inr is)) since = subst (λ (ss : List Stage). MovedBy n x hub (continued hub.contexts k ss)) (sym is.1) (none_moves n k x hub is.0 since)
  moves_on n k x hub runs (inr is) since = continued_moves n is.0 k x hub x.request (slice_get x.request k) refl is.1 since

  pub let_on : (n k : ℕ) (s : Stage) (x : Exchange) (hub : Hub) → slice_get x.request k ≡ Some s → (s.vm ≡ vm → ⊥) → x.has_ended ≡ false → Waits vm context x → Since hub → MovedBy n x hub (let_through hub.contexts k x.request)
  let_on n k s x hub at other runs (inl (inl ended)) since = absurd (never x.has_ended runs ended)
  let_on n k s x hub at other runs (inl (inr is)) since = absurd (no_stage k s x.request is.1 at)
  let_on n k s x hub at other runs (inr is) since =
      subst (λ (o : Option Stage). MovedBy n x hub (let_through_at hub.contexts k x.request o)) (sym at) (let_moves n is.0 k x hub x.request s at other is.1 since)

  -- ---- a stage is asked

  -- the head is asked of the stage, or waits on
  abbrev pub IsAskedOr : Option Asked × Exchange × Hub → Type 0
  IsAskedOr r = IsAskedHead vm context r.0 ⊎ (Waits vm context r.1 × Since r.2)

  over_asks : (n : ℕ) (xh : Exchange × Hub) → InBoth G n xh → IsAskedOr (with_none (with_marks xh))
  over_asks n (x, hub) is = inr is

  -- the stages are so, and what is asked is no head of the stage
  pub asks_on : (n t : ℕ) (a : Asking) (x : Exchange) (hub : Hub) → Comes vm context t x.request → Since hub → IsAskedOr (asks_as false n a x hub)
  asks_on n t Nothing x hub comes since = inr (inr (t, comes), since)
  asks_on n t (Over k) x hub comes since = over_asks n (finish_put false n passed.Over x hub) (in_answer G closed n true 413 [] [] x hub (inr (t, comes), since))
  asks_on n t (Asks ask) x hub comes since = inr (inr (t, comes), since)

  -- it is the head, and of the stage
  head_asked : (n k : ℕ) (end : Bool) (x : Exchange) (hub : Hub) (new : Stage) → slice_get x.request k ≡ Some new → IsStageOf vm context new → IsAskedOr (asks_as false n (ask_of k kinds.Head 0 end) x hub)
  head_asked n k end x hub new at is =
      let ask : Ask = record { stage = k; kind = kinds.Head; count = 0; end = end } in
      inl
      (subst
      (λ (o : Option Stage). IsAskedHead vm context (asks_stage false n ask (count_of false kinds.Head 0 x.place hub) (option_map (λ (s : Stage). (s.vm, s.context)) o))) (sym at)
      (refl, is.vm_is, is.context_is, refl))

  abbrev AsksBy : ℕ → Exchange → Hub → Asking × List Stage × Contexts → Type 0
  AsksBy n x hub r = IsAskedOr (asks_chain false n x hub r)

  stage_asks : (n t k : ℕ) (x : Exchange) (hub : Hub) (ss : List Stage) (s : Stage) (ws : List ChainItem) → slice_get ss k ≡ Some s → may_be_picked s ≡ true → s.waiting ≡ ws → Comes vm context t ss → Since hub
      → AsksBy n x hub ((ask_item hub.contexts k s ws).0, slice_set ss k (ask_item hub.contexts k s ws).1, (ask_item hub.contexts k s ws).2)
  stage_asks n t k x hub ss s [] at picked waits comes since = absurd (none (ap (λ (l : List ChainItem). is_any l && is_free s.held) (sym waits) ∙ picked))
    where
      none : (is_any [] && is_free s.held) ≡ true → ⊥
      none e = cc e
  stage_asks n t k x hub ss s (Head end ∷ items) at picked waits comes since = by_case (comes_asked vm context k t ss s (record s { waiting = items; held = held.Head end }) at picked refl (λ w. refl) comes)
    where
      by_case : (IsStageOf vm context s × HeadWaits s) ⊎ Comes vm context t (slice_set ss k (record s { waiting = items; held = held.Head end }))
          → AsksBy n x hub (ask_of k kinds.Head 0 end, slice_set ss k (record s { waiting = items; held = held.Head end }), hub.contexts)
      by_case (inl its) =
          head_asked n k end (record x { request = slice_set ss k (record s { waiting = items; held = held.Head end }) }) (with_held hub.contexts hub) (record s { waiting = items; held = held.Head end })
          (set_there ss k s (record s { waiting = items; held = held.Head end }) at) (record { vm_is = its.0.vm_is; context_is = its.0.context_is; asking = its.0.asking })
      by_case (inr later) = asks_on n t (ask_of k kinds.Head 0 end) (record x { request = slice_set ss k (record s { waiting = items; held = held.Head end }) }) (with_held hub.contexts hub) later since
  stage_asks n t k x hub ss s (Piece bytes end ∷ items) at picked waits comes since =
      pick (λ (r : Asking × Stage × Contexts). AsksBy n x hub (r.0, slice_set ss k r.1, r.2)) (nat_le (length (bytes_at hub.contexts s) + length bytes) limit)
      (ask_of k kinds.Piece (length (bytes_at hub.contexts s) + length bytes) end, record s { waiting = items; held = held.Body end }, with_buffered hub.contexts s.vm s.context s.response bytes end) (Over k, s, hub.contexts)
      (by_case (ask_of k kinds.Piece (length (bytes_at hub.contexts s) + length bytes) end) (record s { waiting = items; held = held.Body end }) (with_buffered hub.contexts s.vm s.context s.response bytes end) refl)
      (by_case (Over k) s hub.contexts refl)
    where
      no_head : HeadWaits s → ⊥
      no_head w = wrong (ap has_head (sym waits) ∙ w.waiting)
        where
          wrong : has_head (Piece bytes end ∷ items) ≡ true → ⊥
          wrong e = cc e

      by_case : (a : Asking) (new : Stage) (c : Contexts) → new.passes ≡ s.passes → AsksBy n x hub (a, slice_set ss k new, c)
      by_case a new c passes = by_asked (comes_asked vm context k t ss s new at picked passes (λ w. absurd (no_head w)) comes)
        where
          by_asked : (IsStageOf vm context s × HeadWaits s) ⊎ Comes vm context t (slice_set ss k new) → AsksBy n x hub (a, slice_set ss k new, c)
          by_asked (inl its) = absurd (no_head its.1)
          by_asked (inr later) = asks_on n t a (record x { request = slice_set ss k new }) (with_held c hub) later since
  stage_asks n t k x hub ss s (Trailers ∷ items) at picked waits comes since =
      by_asked (comes_asked vm context k t ss s (record s { waiting = items; held = held.Trailers (holds_bytes s.held) }) at picked refl (λ w. absurd (no_head w)) comes)
    where
      no_head : HeadWaits s → ⊥
      no_head w = wrong (ap has_head (sym waits) ∙ w.waiting)
        where
          wrong : has_head (Trailers ∷ items) ≡ true → ⊥
          wrong e = cc e

      by_asked : (IsStageOf vm context s × HeadWaits s) ⊎ Comes vm context t (slice_set ss k (record s { waiting = items; held = held.Trailers (holds_bytes s.held) }))
          → AsksBy n x hub (ask_of k kinds.Trailers 0 false, slice_set ss k (record s { waiting = items; held = held.Trailers (holds_bytes s.held) }), hub.contexts)
      by_asked (inl its) = absurd (no_head its.1)
      by_asked (inr later) =
          asks_on n t (ask_of k kinds.Trailers 0 false) (record x { request = slice_set ss k (record s { waiting = items; held = held.Trailers (holds_bytes s.held) }) }) (with_held hub.contexts hub) later since

  count_asks : (n t : ℕ) (x : Exchange) (hub : Hub) (ss : List Stage) (count : ℕ) → ready ss ≡ count → Comes vm context t ss → Since hub → AsksBy n x hub (asked_at hub.contexts ss count)
  count_asks n t x hub ss zero is comes since = inr (inr (t, comes), since)
  count_asks n t x hub ss (suc k) is comes since = by_stage (slice_get ss k) refl
    where
      by_stage : (o : Option Stage) → slice_get ss k ≡ o → AsksBy n x hub (ask_stage hub.contexts k ss o)
      by_stage None at = inr (inr (t, comes), since)
      by_stage (Some s) at = stage_asks n t k x hub ss s s.waiting at (ready_picks ss k s is at) refl comes since

  none_asks : (n : ℕ) (x : Exchange) (hub : Hub) → IsSilenced x → Since hub → (r : Asking × List Stage × Contexts) → (x.request ≡ [] → r.1 ≡ []) → AsksBy n x hub r
  none_asks n x hub silenced since (a, stages, c) none = by_asking a
    where
      still : IsSilenced x → Waits vm context (record x { request = stages })
      still (inl ended) = inl (inl ended)
      still (inr is) = inl (inr (is.0, none is.1))

      by_asking : (a : Asking) → AsksBy n x hub (a, stages, c)
      by_asking Nothing = inr (still silenced, since)
      by_asking (Over k) =
          over_asks n (finish_put false n passed.Over (record x { request = stages }) (with_held c hub)) (in_answer G closed n true 413 [] [] (record x { request = stages }) (with_held c hub) (still silenced, since))
      by_asking (Asks ask) = inr (still silenced, since)

  nothing_asked : (h : Contexts) (ss : List Stage) → ss ≡ [] → (asked h ss).1 ≡ []
  nothing_asked h ss none = ap (λ (l : List Stage). (asked h l).1) none

  pub request_asks : (n : ℕ) (x : Exchange) (hub : Hub) → Waits vm context x → Since hub → AsksBy n x hub (asked hub.contexts x.request)
  request_asks n x hub (inl silenced) since = none_asks n x hub silenced since (asked hub.contexts x.request) (λ none. nothing_asked hub.contexts x.request none)
  request_asks n x hub (inr is) since = count_asks n is.0 x hub x.request (ready x.request) refl is.1 since

  -- ---- what is read comes

  abbrev PutBy : ℕ → Exchange → Hub → PassOutcome × List Stage → Type 0
  PutBy n x hub r = InBoth G n (take_put false n x hub r)

  put_comes : (n t : ℕ) (item : ChainItem) (x : Exchange) (hub : Hub) (ss : List Stage) → Kept (Comes vm context t) (comes_in (item ∷ []) ss) → Since hub
      → PutBy n x hub (append_to (target 0 ss) (item ∷ []) ss (slice_get ss (target 0 ss)))
  put_comes n t item x hub ss kept since =
      let there : Kept (Comes vm context t) (append_to (target 0 ss) (item ∷ []) ss (slice_get ss (target 0 ss))) = subst (Kept (Comes vm context t)) (sym (comes_is (item ∷ []) ss)) kept in
      subst (λ (q : PassOutcome). PutBy n x hub (q, (append_to (target 0 ss) (item ∷ []) ss (slice_get ss (target 0 ss))).1)) (sym there.0) (inr (t, there.1), since)

  put_more : (n t : ℕ) (item : ChainItem) (x : Exchange) (hub : Hub) → Comes vm context t x.request → Since hub → PutBy n x hub (put_item hub.contexts item x.request)
  put_more n t item x hub comes since =
      pick (PutBy n x hub) (accepts hub.contexts (size (item ∷ [])) (slice_get x.request (target 0 x.request))) (append_to (target 0 x.request) (item ∷ []) x.request (slice_get x.request (target 0 x.request))) (passed.Over, x.request)
      (put_comes n t item x hub x.request (comes_more vm context (item ∷ []) t x.request comes) since) (in_answer G closed n true 413 [] [] x hub (inr (t, comes), since))

  puts_one : (n : ℕ) (item : ChainItem) (xh : Exchange × Hub) → InBoth G n xh → InBoth G n (put_to_chain false n item xh)
  puts_one n item (x, hub) is = by_ended (InBoth G n) (takes_nothing false x) (x, hub) (take_put false n x hub (put_item hub.contexts item x.request)) (λ e. is) (λ takes. by_waits takes is.0)
    where
      running : (a b : Bool) → (a || b) ≡ false → (a ≡ false) × (b ≡ false)
      running true b e = absurd (cc e)
      running false b e = (refl, e)

      by_waits : takes_nothing false x ≡ false → Waits vm context x → PutBy n x hub (put_item hub.contexts item x.request)
      by_waits takes (inl (inl ended)) = absurd (never x.has_ended (running x.has_ended (not false && x.is_answered) takes).0 ended)
      by_waits takes (inl (inr is)) = absurd (never x.is_answered (running x.has_ended (not false && x.is_answered) takes).1 is.0)
      by_waits takes (inr comes) = put_more n comes.0 item x hub comes.1 is.1

  puts_all : (n : ℕ) (items : List ChainItem) (xh : Exchange × Hub) → InBoth G n xh → InBoth G n (put_all_to_chain false n items xh)
  puts_all n [] xh is = is
  puts_all n (item ∷ items) xh is = puts_all n items (put_to_chain false n item xh) (puts_one n item xh is)

  pub puts_keep : (items : List ChainItem) (n : ℕ) (x : Exchange) (hub : Hub) → G n x hub → InBoth G n (put_read_items false items n x hub)
  puts_keep items n x hub is = pick (InBoth G n) x.is_answered (x, hub) (put_all_to_chain false n items (x, hub)) is (puts_all n items (x, hub) is)

  -- the head comes first
  head_put : (n t : ℕ) (end : Bool) (x : Exchange) (hub : Hub) → x.has_ended ≡ false → x.is_answered ≡ false → Awaits vm context t x.request → Since hub → InBoth G n (put_to_chain false n (Head end) (x, hub))
  head_put n t end x hub runs free awaits since =
      by_ended (InBoth G n) (takes_nothing false x) (x, hub) (take_put false n x hub (put_item hub.contexts (Head end) x.request)) (λ e. absurd (nothing x.has_ended x.is_answered runs free e))
      (λ takes.
      by_ended (PutBy n x hub) (accepts hub.contexts (size (Head end ∷ [])) (slice_get x.request (target 0 x.request))) (append_to (target 0 x.request) (Head end ∷ []) x.request (slice_get x.request (target 0 x.request)))
      (passed.Over, x.request) (λ e. put_comes n t (Head end) x hub x.request (comes_head vm context (Head end ∷ []) refl t x.request awaits) since) (λ e. absurd (fits (slice_get x.request (target 0 x.request)) e)))
    where
      nothing : (a b : Bool) → a ≡ false → b ≡ false → (a || (not false && b)) ≡ true → ⊥
      nothing true b runs free e = cc runs
      nothing false true runs free e = cc free
      nothing false false runs free e = cc e

      fits : (o : Option Stage) → accepts hub.contexts (size (Head end ∷ [])) o ≡ false → ⊥
      fits None e = cc e
      fits (Some s) e = cc e

  pub begins_keep : (end : Bool) (items : List ChainItem) (n : ℕ) (x : Exchange) (hub : Hub) → WaitsYet vm context x → Since hub → InBoth G n (put_read_items false (Head end ∷ items) n x hub)
  begins_keep end items n x hub (inl silenced) since = puts_keep (Head end ∷ items) n x hub (inl silenced, since)
  begins_keep end items n x hub (inr is) since =
      by_ended (InBoth G n) x.is_answered (x, hub) (put_all_to_chain false n (Head end ∷ items) (x, hub)) (λ e. absurd (never x.is_answered is.1 e))
      (λ free. puts_all n items (put_to_chain false n (Head end) (x, hub)) (head_put n is.2.0 end x hub is.0 is.1 is.2.1 since))

  -- ---- whatever is done

  abbrev pub Dies : ℕ → Type 0
  Dies other = other ≡ vm → ⊥

  abbrev pub NotAsked : Option Asked → Type 0
  NotAsked a = IsAskedHead vm context a → ⊥

  pub moved : IsMoved Dies NotAsked G
  moved = record {
    continues = λ n k x hub runs is. moves_on n k x hub runs is.0 is.1;
    dies = λ other n x hub apart runs opens is.
        lets_vm G other (λ m k s y after at of goes here. let_on m k s y after at (λ (e : s.vm ≡ vm). apart (sym (eqb-true s.vm other of) ∙ e)) goes here.0 here.1) (lets_response G closed other) n x hub is;
    asks = λ n x hub none is. asks_else (asks_chain false n x hub (asked hub.contexts x.request)) (request_asks n x hub is.0 is.1) none;
  }
    where
      asks_else : (r : Option Asked × Exchange × Hub) → IsAskedOr r → (IsAskedHead vm context r.0 → ⊥) → Waits vm context r.1 × Since r.2
      asks_else r (inl asked) none = absurd (none asked)
      asks_else r (inr is) none = is

-- ---- the law

pub nothing_sent : (vm context : ℕ) (hub : Hub) → Since vm context hub.sent hub
nothing_sent vm context hub = ([], sym (append-nil hub.sent), tt)

waits_on : (vm context : ℕ) (n : ℕ) (hub : Hub) (xh : Exchange × Hub) → InBoth (G vm context hub.sent) n xh → WaitsOn vm context hub xh
waits_on vm context n hub (x, after) is = record { waits = is.0; sent = is.1 }

pub heads_wait : (vm context : ℕ) → HeadsWait vm context
heads_wait vm context = record {
  resumes = λ other id response n x hub w. waits_on vm context n hub _ (resumes_keep (Dies vm context hub.sent) (NotAsked vm context hub.sent) (G vm context hub.sent) (closed vm context hub.sent) (moved vm context hub.sent) other id response n x hub (w, nothing_sent vm context hub));
  closes = λ n x hub w. waits_on vm context n hub _ (closes_keep (Dies vm context hub.sent) (NotAsked vm context hub.sent) (G vm context hub.sent) (closed vm context hub.sent) (moved vm context hub.sent) n x hub (w, nothing_sent vm context hub));
  answers = λ status fields body n x hub w. waits_on vm context n hub _ (answer_keeps (Dies vm context hub.sent) (NotAsked vm context hub.sent) (G vm context hub.sent) (closed vm context hub.sent) (moved vm context hub.sent) status fields body n x hub (w, nothing_sent vm context hub));
  acts = λ response stage value n x hub w. waits_on vm context n hub _ (acts_keep (Dies vm context hub.sent) (NotAsked vm context hub.sent) (G vm context hub.sent) (closed vm context hub.sent) (moved vm context hub.sent) response stage value n x hub (w, nothing_sent vm context hub));
  refuses = λ status n x hub w. waits_on vm context n hub _ (refuses_keep (Dies vm context hub.sent) (NotAsked vm context hub.sent) (G vm context hub.sent) (closed vm context hub.sent) (moved vm context hub.sent) status n x hub (w, nothing_sent vm context hub));
  expires = λ n x hub w. waits_on vm context n hub _ (expires_keep (Dies vm context hub.sent) (NotAsked vm context hub.sent) (G vm context hub.sent) (closed vm context hub.sent) (moved vm context hub.sent) n x hub (w, nothing_sent vm context hub));
  puts = λ response items n x hub w. waits_on vm context n hub _ (puts_of response items n x hub w);
  dies = λ other apart n x hub w. waits_on vm context n hub _ (dies_keep (Dies vm context hub.sent) (NotAsked vm context hub.sent) (G vm context hub.sent) (closed vm context hub.sent) (moved vm context hub.sent) other apart n x hub (w, nothing_sent vm context hub));
  asks = λ n x hub w. by_response n x hub w (asks_response x);
  begins = λ end items n x hub w. waits_on vm context n hub _ (begins_keep vm context hub.sent end items n x hub w (nothing_sent vm context hub));
}
  where
    puts_of : (response : Bool) (items : List ChainItem) (n : ℕ) (x : Exchange) (hub : Hub) → Waits vm context x → InBoth (G vm context hub.sent) n (put_read_items response items n x hub)
    puts_of false items n x hub w = puts_keep vm context hub.sent items n x hub (w, nothing_sent vm context hub)
    puts_of true items n x hub w =
        responses_keep (Dies vm context hub.sent) (NotAsked vm context hub.sent) (G vm context hub.sent) (closed vm context hub.sent) (moved vm context hub.sent) items n x hub (w, nothing_sent vm context hub)

    shown : (hub : Hub) (r : Option Asked × Exchange × Hub) → IsAskedOr vm context hub.sent r → IsAskedHead vm context r.0 ⊎ WaitsOn vm context hub (r.1, r.2)
    shown hub r (inl asked) = inl asked
    shown hub r (inr is) = inr (record { waits = is.0; sent = is.1 })

    by_response : (n : ℕ) (x : Exchange) (hub : Hub) → Waits vm context x → (response : Bool)
        → IsAskedHead vm context (asks_chain response n x hub (asked hub.contexts (chain_of response x))).0
        ⊎ WaitsOn vm context hub ((asks_chain response n x hub (asked hub.contexts (chain_of response x))).1, (asks_chain response n x hub (asked hub.contexts (chain_of response x))).2)
    by_response n x hub w false = shown hub (asks_chain false n x hub (asked hub.contexts x.request)) (request_asks vm context hub.sent n x hub w (nothing_sent vm context hub))
    by_response n x hub w true =
        shown hub (asks_chain true n x hub (asked hub.contexts x.response))
        (inr
        (in_asks_chain (Dies vm context hub.sent) (NotAsked vm context hub.sent) (G vm context hub.sent) (closed vm context hub.sent) (moved vm context hub.sent) n x hub (asked hub.contexts x.response)
        (same_asked hub.contexts x.response (ready x.response)) (w, nothing_sent vm context hub)))
