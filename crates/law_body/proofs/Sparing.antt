-- Whatever becomes of an exchange, stages that are spent stay so; and where a VM dies, its stages are.
use Rattle.std.proofs.Common.{◌≡◌, ◌⊎◌, ℕ, zero, suc, ◌-◌, ◌≤◌, Bool, true, false, not, ◌&&◌, ◌||◌, ◌==◌, List, [], ◌∷◌, ◌++◌, length, drop, ap, ◌∙◌, sym, refl, subst, inl, inr, ⊎_elim, arith}
use Rattle.std.proofs.lemmas.Bool.{cases_eq, eqb-false, eqb-true}
use Rattle.std.specs.Fmt.{digits}
use Rattle.std.proofs.lemmas.Option.{slice_get_within}
use Rattle.std.specs.List.{list_any}
use Rattle.std.specs.Prelude.{Option, None, Some, slice_get, if◌then◌else◌}
use Rattle.contexts.specs.declared.parts.Contexts.{Contexts}
use Rattle.exchange.specs.declared.types.Exchange.{Exchange}
use Rattle.exchange.specs.declared.types.Hub.{Hub}
use Rattle.exchange.specs.Answering.{cut_off, answer_directly, with_held, finish_response_put, take_response_put, put_response_item, exchange_with_answer, with_answer, answer_through_stages, with_closes, is_direct, answer}
use Rattle.exchange.specs.Heads.{is_bare, is_final, closes_line, passes_filters}
use Rattle.exchange.specs.Leaving.{send_request_item, send_response_item, send_item, send_items, is_due}
use Rattle.exchange.specs.Passing.{chain_of, with_chain, finish_put, take_move, takes_nothing, put_to_chain, put_all_to_chain, resume_held, bypass, put_read_items, stage_of, resume_place, resume_context, close_exchange, pause_held, apply_action, fails_closed, bypass_vm_at, bypass_vm_stages, bypass_vm, lose_vm, refuse_exchange, expire_exchange}
use Rattle.filter_chain.specs.Chains.{put, continued, let_through, reach_count, asked}
use Rattle.filter_chain.specs.declared.item.ChainItem.{ChainItem}
use Rattle.filter_chain.specs.declared.item.ChainItem.TheVariants.{Head, Piece, Trailers}
use Rattle.filter_chain.specs.declared.item.PassOutcome.{PassOutcome}
use Rattle.filter_chain.specs.declared.item.PassOutcome.TheVariants as passed
use Rattle.filter_chain.specs.declared.stage.Stage.{Stage}
use Rattle.filter_chain.specs.declared.item.Asking.{Asking}
use Rattle.filter_chain.specs.declared.item.Asking.TheVariants.{Nothing, Over, Asks}
use Rattle.h1_model.specs.Fields.{Pair}
use Rattle.httparse.proofs.OnLiterals.{httparse_on_literals}
use Rattle.law_body.specs.Spent.{Spent, OrAnswered, AreSpent, IsIn, SparesBoth, Spares, AsksOther, TheDeadAreSpared, TheDeadAreAskedNothing, DeathExample, begins, its_hub}
use Rattle.law_body.proofs.Spent.{of_if, neither, not_both, same_some, none_spent, spent_for, put_spent, continued_spent, OrOver, OverSame, let_through_opens, drop_spent, AskedSo, asked_spent}

-- nothing becomes of the stages
pub record Stays (x y : Exchange) : Type 0 where
  pub ended : x.has_ended ≡ true → y.has_ended ≡ true
  pub answered : y.is_answered ≡ x.is_answered
  pub request : y.request ≡ x.request
  pub response : y.response ≡ x.response

pub stays_here : (x : Exchange) → Stays x x
stays_here x = record { ended = λ e. e; answered = refl; request = refl; response = refl }

stays_then : (x y z : Exchange) → Stays x y → Stays y z → Stays x z
stays_then x y z one two = record {
  ended = λ e. two.ended (one.ended e);
  answered = two.answered ∙ one.answered;
  request = two.request ∙ one.request;
  response = two.response ∙ one.response;
}

-- ---- what leaves

leaves_stays : (response : Bool) (n : ℕ) (item : ChainItem) (x : Exchange) (hub : Hub) → Stays x (send_item response n item (x, hub)).0
leaves_stays false n item x hub = of_if (λ (r : Exchange × Hub). Stays x r.0) x.has_ended (x, hub) (send_request_item n item x hub) (λ is. stays_here x) (λ is. by_item item)
  where
    by_item : (i : ChainItem) → Stays x (send_request_item n i x hub).0
    by_item (Head end) = record { ended = λ e. e; answered = refl; request = refl; response = refl }
    by_item (Piece bytes end) = stays_here x
    by_item Trailers = stays_here x
leaves_stays true n item x hub = of_if (λ (r : Exchange × Hub). Stays x r.0) x.has_ended (x, hub) (send_response_item n item x hub) (λ is. stays_here x) (λ is. by_item item is)
  where
    by_item : (i : ChainItem) → x.has_ended ≡ false → Stays x (send_response_item n i x hub).0
    by_item (Head end) is = record { ended = λ e. absurd (not_both x.has_ended e is); answered = refl; request = refl; response = refl }
    by_item (Piece bytes end) is = record { ended = λ e. absurd (not_both x.has_ended e is); answered = refl; request = refl; response = refl }
    by_item Trailers is = record { ended = λ e. refl; answered = refl; request = refl; response = refl }

left_stays : (response : Bool) (n : ℕ) (items : List ChainItem) (x : Exchange) (hub : Hub) → Stays x (send_items response n items (x, hub)).0
left_stays response n [] x hub = stays_here x
left_stays response n (item ∷ items) x hub =
    stays_then x (send_item response n item (x, hub)).0 (send_items response n items (send_item response n item (x, hub))).0 (leaves_stays response n item x hub)
    (left_stays response n items (send_item response n item (x, hub)).0 (send_item response n item (x, hub)).1)

module _ (Q R : ℕ → ℕ → Type 0) where
  stays_spent : (x y : Exchange) → Stays x y → AreSpent Q R x → AreSpent Q R y
  stays_spent x y s spent = record {
    request =
        subst (λ (ss : List Stage). Spent (OrAnswered Q y) ss) (sym s.request)
        (spent_for (OrAnswered Q x) (OrAnswered Q y) x.request
        (λ j t at m. ⊎_elim (λ (q : Q j t.vm). inl q) (λ (a : y.is_answered ≡ true). inr (sym s.answered ∙ a)) m) spent.request);
    response = subst (λ (ss : List Stage). Spent R ss) (sym s.response) spent.response;
  }

  pub stays_spares : (x y : Exchange) → Stays x y → SparesBoth Q R x → SparesBoth Q R y
  stays_spares x y s spares = ⊎_elim (λ (e : x.has_ended ≡ true). inl (s.ended e)) (λ (a : AreSpent Q R x). inr (stays_spent x y s a)) spares

  -- of no stage
  no_stages : (x : Exchange) → x.request ≡ [] → x.response ≡ [] → AreSpent Q R x
  no_stages x q r = record {
    request = subst (λ (ss : List Stage). Spent (OrAnswered Q x) ss) (sym q) (none_spent (OrAnswered Q x));
    response = subst (λ (ss : List Stage). Spent R ss) (sym r) (none_spent R);
  }

  -- the exchange runs, or was ended
  running : (x : Exchange) → SparesBoth Q R x → x.has_ended ≡ false → AreSpent Q R x
  running x spares goes = ⊎_elim (λ (e : x.has_ended ≡ true). absurd (not_both x.has_ended e goes)) (λ (a : AreSpent Q R x). a) spares

  -- ---- answers

  cut_off_spares : (x : Exchange) (hub : Hub) → SparesBoth Q R (cut_off x hub).0
  cut_off_spares x hub = inl refl

  directly_spares : (n status : ℕ) (fields : List Pair) (body : List ℕ) (x : Exchange) (hub : Hub) → SparesBoth Q R (answer_directly n status fields body x hub).0
  directly_spares n status fields body x hub =
      of_if (λ (r : Exchange × Hub). SparesBoth Q R r.0) (x.is_head_out || not (is_final status)) _ _ (λ is. cut_off_spares x hub) (λ is. inl refl)

  pub passed_down_spares : (n : ℕ) (p : PassOutcome) (x : Exchange) (hub : Hub) → AreSpent Q R x → SparesBoth Q R (finish_response_put n p x hub).0
  passed_down_spares n passed.Over x hub spent = directly_spares n 500 [] [] x hub
  passed_down_spares n (passed.Left items) x hub spent = inr (stays_spent x (send_items true n items (x, hub)).0 (left_stays true n items x hub) spent)

  puts_down_spares : (n : ℕ) (item : ChainItem) (x : Exchange) (hub : Hub) → SparesBoth Q R x → SparesBoth Q R (put_response_item n item (x, hub)).0
  puts_down_spares n item x hub spares =
      of_if (λ (r : Exchange × Hub). SparesBoth Q R r.0) x.has_ended (x, hub) (take_response_put n x hub (put hub.contexts item x.response)) (λ is. spares)
      (λ is.
      let a : AreSpent Q R x = running x spares is in
      passed_down_spares n (put hub.contexts item x.response).0 (record x { response = (put hub.contexts item x.response).1 }) hub
      (record { request = a.request; response = put_spent R hub.contexts item x.response a.response }))

  -- the stages of the response from a place on are spent too
  module _ (drops : (m : ℕ) (ss : List Stage) → Spent R ss → Spent R (drop m ss)) where
    through_spares : (n status : ℕ) (fields : List Pair) (body : List ℕ) (x : Exchange) (hub : Hub) → Spent R x.response → SparesBoth Q R (answer_through_stages n status fields body x hub).0
    through_spares n status fields body x hub spent =
        of_if (λ (r : Exchange × Hub). SparesBoth Q R r.0) (is_bare (exchange_with_answer status body x).told.length) _ _ (λ is. puts_down_spares n (Head true) (exchange_with_answer status body x) (with_answer status fields x hub) here)
        (λ is.
        puts_down_spares n (Piece body true) (put_response_item n (Head false) (exchange_with_answer status body x, with_answer status fields x hub)).0
        (put_response_item n (Head false) (exchange_with_answer status body x, with_answer status fields x hub)).1
        (puts_down_spares n (Head false) (exchange_with_answer status body x) (with_answer status fields x hub) here))
      where
        here : SparesBoth Q R (exchange_with_answer status body x)
        here = inr (record { request = none_spent (OrAnswered Q (exchange_with_answer status body x)); response = drops (length x.response - (if x.is_entered then reach_count x.request else 0)) x.response spent })

    -- an exchange that has ended or was answered stays as it is
    pub answer_spares : (n : ℕ) (closes : Bool) (status : ℕ) (fields : List Pair) (body : List ℕ) (x : Exchange) (hub : Hub) → Spent R x.response
        → ((x.has_ended || x.is_answered) ≡ true → SparesBoth Q R x) → SparesBoth Q R (answer n closes status fields body x hub).0
    answer_spares n closes status fields body x hub spent same =
        of_if (λ (r : Exchange × Hub). SparesBoth Q R r.0) (x.has_ended || x.is_answered) _ _ same
        (λ is.
        of_if (λ (r : Exchange × Hub). SparesBoth Q R r.0) (is_direct status (with_closes closes x)) _ _ (λ direct. directly_spares n status fields body (with_closes closes x) hub)
        (λ goes. through_spares n status fields body (with_closes closes x) hub spent))

    pub answers : (n : ℕ) (closes : Bool) (status : ℕ) (fields : List Pair) (body : List ℕ) (x : Exchange) (hub : Hub) → SparesBoth Q R x
        → SparesBoth Q R (answer n closes status fields body x hub).0
    answers n closes status fields body x hub spares =
        of_if (λ (r : Exchange × Hub). SparesBoth Q R r.0) (x.has_ended || x.is_answered) _ _ (λ is. spares)
        (λ is.
        let a : AreSpent Q R x = running x spares (neither x.has_ended x.is_answered is).0 in
        of_if (λ (r : Exchange × Hub). SparesBoth Q R r.0) (is_direct status (with_closes closes x)) _ _ (λ direct. directly_spares n status fields body (with_closes closes x) hub)
        (λ goes. through_spares n status fields body (with_closes closes x) hub a.response))

    -- ---- what is passed on

    pub passed_on_spares : (response : Bool) (n : ℕ) (p : PassOutcome) (x : Exchange) (hub : Hub) → AreSpent Q R x → SparesBoth Q R (finish_put response n p x hub).0
    passed_on_spares false n passed.Over x hub spent = answers n true 413 [] [] x hub (inr spent)
    passed_on_spares false n (passed.Left items) x hub spent = inr (stays_spent x (send_items false n items (x, hub)).0 (left_stays false n items x hub) spent)
    passed_on_spares true n p x hub spent = passed_down_spares n p x hub spent

    -- the stages are these now
    pub put_back : (response : Bool) (stages : List Stage) (x : Exchange) → AreSpent Q R x → ((N : ℕ → ℕ → Type 0) → Spent N (chain_of response x) → Spent N stages)
        → AreSpent Q R (with_chain response stages x)
    put_back false stages x spent kept = record { request = kept (OrAnswered Q x) spent.request; response = spent.response }
    put_back true stages x spent kept = record { request = spent.request; response = kept R spent.response }

    puts_spares : (response : Bool) (n : ℕ) (item : ChainItem) (x : Exchange) (hub : Hub) → SparesBoth Q R x → SparesBoth Q R (put_to_chain response n item (x, hub)).0
    puts_spares response n item x hub spares =
        of_if (λ (r : Exchange × Hub). SparesBoth Q R r.0) (takes_nothing response x) _ _ (λ is. spares)
        (λ is.
        passed_on_spares response n (put hub.contexts item (chain_of response x)).0 (with_chain response (put hub.contexts item (chain_of response x)).1 x) hub
        (put_back response (put hub.contexts item (chain_of response x)).1 x (running x spares (neither x.has_ended (not response && x.is_answered) is).0)
        (λ N spent. put_spent N hub.contexts item (chain_of response x) spent)))

    puts_all_spares : (response : Bool) (n : ℕ) (items : List ChainItem) (x : Exchange) (hub : Hub) → SparesBoth Q R x → SparesBoth Q R (put_all_to_chain response n items (x, hub)).0
    puts_all_spares response n [] x hub spares = spares
    puts_all_spares response n (item ∷ items) x hub spares =
        puts_all_spares response n items (put_to_chain response n item (x, hub)).0 (put_to_chain response n item (x, hub)).1 (puts_spares response n item x hub spares)

    pub put_in_spares : (response : Bool) (items : List ChainItem) (n : ℕ) (x : Exchange) (hub : Hub) → SparesBoth Q R x → SparesBoth Q R (put_read_items response items n x hub).0
    put_in_spares response items n x hub spares =
        of_if (λ (r : Exchange × Hub). SparesBoth Q R r.0) x.is_answered _ _ (λ is. spares) (λ is. puts_all_spares response n items x hub spares)

    goes_on_spares : (response : Bool) (n k : ℕ) (x : Exchange) (hub : Hub) → SparesBoth Q R x → SparesBoth Q R (resume_held response n k x hub).0
    goes_on_spares response n k x hub spares =
        of_if (λ (r : Exchange × Hub). SparesBoth Q R r.0) x.has_ended _ _ (λ is. spares)
        (λ is.
        passed_on_spares response n (continued hub.contexts k (chain_of response x)).0 (with_chain response (continued hub.contexts k (chain_of response x)).1 x)
        (with_held (continued hub.contexts k (chain_of response x)).2 hub)
        (put_back response (continued hub.contexts k (chain_of response x)).1 x (running x spares is) (λ N spent. continued_spent N hub.contexts k (chain_of response x) spent)))

    pub resumes_spares : (vm context : ℕ) (response : Bool) (n : ℕ) (x : Exchange) (hub : Hub) → SparesBoth Q R x → SparesBoth Q R (resume_context vm context response n x hub).0
    resumes_spares vm context response n x hub spares = by_place (stage_of vm context (chain_of response x))
      where
        by_place : (o : Option ℕ) → SparesBoth Q R (resume_place response n o x hub).0
        by_place None = spares
        by_place (Some k) = goes_on_spares response n k x hub spares

    pub acts_spares : (response : Bool) (k value n : ℕ) (x : Exchange) (hub : Hub) → SparesBoth Q R x → SparesBoth Q R (apply_action response k value n x hub).0
    acts_spares response k value n x hub spares =
        of_if (λ (r : Exchange × Hub). SparesBoth Q R r.0) (value == 0) _ _ (λ is. goes_on_spares response n k x (pause_held response k x hub) spares) (λ is. spares)

    pub refused_spares : (status n : ℕ) (x : Exchange) (hub : Hub) → SparesBoth Q R x → SparesBoth Q R (refuse_exchange status n x hub).0
    refused_spares status n x hub spares =
        of_if (λ (r : Exchange × Hub). SparesBoth Q R r.0) (x.has_ended || x.is_answered) _ _ (λ is. spares)
        (λ is. of_if (λ (r : Exchange × Hub). SparesBoth Q R r.0) (passes_filters status) _ _ (λ passes. answers n (closes_line status) status [] [] x hub spares)
        (λ direct. directly_spares n status [] [] (with_closes (closes_line status) x) hub))

    pub expires_spares : (n : ℕ) (x : Exchange) (hub : Hub) → SparesBoth Q R x → SparesBoth Q R (expire_exchange n x hub).0
    expires_spares n x hub spares =
        of_if (λ (r : Exchange × Hub). SparesBoth Q R r.0) (is_due hub.moment x) _ _ (λ is. answers n false 504 [] [] x hub spares) (λ is. spares)

  pub closed_spares : (n : ℕ) (x : Exchange) (hub : Hub) → SparesBoth Q R x → SparesBoth Q R (close_exchange n x hub).0
  closed_spares n x hub spares = of_if (λ (r : Exchange × Hub). SparesBoth Q R r.0) x.has_ended _ _ (λ is. spares) (λ is. cut_off_spares x hub)

-- ---- a VM dies

-- it is needed of these, and of the stages of a VM from a place on
abbrev pub OrFrom : (ℕ → ℕ → Type 0) → (vm k : ℕ) → ℕ → ℕ → Type 0
OrFrom N vm k j w = N j w ⊎ ((k ≤ j) × (w ≡ vm))

from_place : (N : ℕ → ℕ → Type 0) (vm k j w : ℕ) → OrFrom N vm k j w → (j ≡ k) ⊎ OrFrom N vm (suc k) j w
from_place N vm k j w (inl n) = inr (inl n)
from_place N vm k j w (inr from) = ⊎_elim (λ (same : j ≡ k). inl same) (λ (other : j ≡ k → ⊥). inr (inr (omega arith, from.1))) (cases_eq j k)

-- none is there
past_place : (N : ℕ → ℕ → Type 0) (vm k : ℕ) (ss : List Stage) → slice_get ss k ≡ None → Spent (OrFrom N vm (suc k)) ss → Spent (OrFrom N vm k) ss
past_place N vm k ss none spent j s at m =
    ⊎_elim (λ (same : j ≡ k). absurd (never (subst (λ (i : ℕ). slice_get ss i ≡ Some s) same at))) (λ (n : OrFrom N vm (suc k) j s.vm). spent j s at n) (from_place N vm k j s.vm m)
  where
    never : slice_get ss k ≡ Some s → ⊥
    never some = cc (none, some)

-- the one there is of another VM
other_place : (N : ℕ → ℕ → Type 0) (vm k : ℕ) (ss : List Stage) (t : Stage) → slice_get ss k ≡ Some t → (t.vm ≡ vm → ⊥) → Spent (OrFrom N vm (suc k)) ss → Spent (OrFrom N vm k) ss
other_place N vm k ss t there other spent j s at (inl n) = spent j s at (inl n)
other_place N vm k ss t there other spent j s at (inr from) =
    ⊎_elim
    (λ (same : j ≡ k).
    let is : s ≡ t = same_some s t (slice_get ss k) (subst (λ (i : ℕ). slice_get ss i ≡ Some s) same at) there in
    absurd (other (sym (ap (λ (u : Stage). u.vm) is) ∙ from.1)))
    (λ (apart : j ≡ k → ⊥). spent j s at (inr (omega arith, from.1))) (cases_eq j k)

-- so many are there
all_past : (N : ℕ → ℕ → Type 0) (vm : ℕ) (ss : List Stage) → Spent N ss → Spent (OrFrom N vm (length ss)) ss
all_past N vm ss spent j s at (inl n) = spent j s at n
all_past N vm ss spent j s at (inr from) = let less = slice_get_within ss j s at in absurd (omega arith)

from_first : (N M : ℕ → ℕ → Type 0) (vm : ℕ) (ss : List Stage) → ((j w : ℕ) → M j w → N j w ⊎ (w ≡ vm)) → Spent (OrFrom N vm 0) ss → Spent M ss
from_first N M vm ss which spent = spent_for (OrFrom N vm 0) M ss (λ j s at m. ⊎_elim (λ (n : N j s.vm). inl n) (λ (is : s.vm ≡ vm). inr (omega arith, is)) (which j s.vm m)) spent

answered_then : (e b : Bool) → e ≡ false → (e || b) ≡ true → b ≡ true
answered_then true b goes is = absurd (cc)
answered_then false b goes is = is

-- of the request, the stages of the VM from a place on, and of the response none more
module _ (D : ℕ → Type 0) (vm : ℕ) where
  abbrev All : ℕ → ℕ → Type 0
  All j w = D w

  drops_all : (m : ℕ) (ss : List Stage) → Spent All ss → Spent All (drop m ss)
  drops_all m ss spent = drop_spent D m ss spent

  abbrev AtRequest : ℕ → Exchange → Type 0
  AtRequest k x = SparesBoth (OrFrom All vm k) All x

  -- what is needed where it was answered too
  mixed : (k : ℕ) (x : Exchange) (j w : ℕ) → OrAnswered (OrFrom All vm k) x j w → (j ≡ k) ⊎ OrAnswered (OrFrom All vm (suc k)) x j w
  mixed k x j w (inr answered) = inr (inr answered)
  mixed k x j w (inl needed) = ⊎_elim (λ (same : j ≡ k). inl same) (λ (n : OrFrom All vm (suc k) j w). inr (inl n)) (from_place All vm k j w needed)

  request_way : (n k : ℕ) (s : Stage) (x : Exchange) (hub : Hub) → slice_get x.request k ≡ Some s → AtRequest (suc k) x → AtRequest k (bypass false n k x hub).0
  request_way n k s x hub there spares =
      of_if (λ (r : Exchange × Hub). AtRequest k r.0) x.has_ended _ _ (λ ended. inl ended)
      (λ goes.
      let a : AreSpent (OrFrom All vm (suc k)) All x = running (OrFrom All vm (suc k)) All x spares goes in
      let o : OrOver (OrAnswered (OrFrom All vm k) x) (let_through hub.contexts k x.request) × OverSame x.request (let_through hub.contexts k x.request)
      = let_through_opens (OrAnswered (OrFrom All vm (suc k)) x) (OrAnswered (OrFrom All vm k) x) hub.contexts k x.request (λ j w m. mixed k x j w m) a.request s there in
      by_result a (let_through hub.contexts k x.request) o.0 o.1 goes)
    where
      by_result : AreSpent (OrFrom All vm (suc k)) All x → (r : PassOutcome × List Stage × Contexts) → OrOver (OrAnswered (OrFrom All vm k) x) r → OverSame x.request r → x.has_ended ≡ false
          → AtRequest k (take_move false n x hub r).0
      by_result a (passed.Over, after, h) bypass_vm_stages same goes =
          answer_spares (OrFrom All vm k) All drops_all n true 413 [] [] (record x { request = after }) (with_held h hub) a.response
          (λ is. inr (record {
            request =
                subst (λ (ss : List Stage). Spent (OrAnswered (OrFrom All vm k) x) ss) (sym same)
                (spent_for (OrAnswered (OrFrom All vm (suc k)) x) (OrAnswered (OrFrom All vm k) x) x.request (λ j t at m. inr (answered_then x.has_ended x.is_answered goes is)) a.request);
            response = a.response;
          }))
      by_result a (passed.Left items, after, h) bypass_vm_stages same goes =
          passed_on_spares (OrFrom All vm k) All drops_all false n (passed.Left items) (record x { request = after }) (with_held h hub) (record { request = bypass_vm_stages; response = a.response })

  request_at : (n k : ℕ) (x : Exchange) (hub : Hub) → AtRequest (suc k) x → AtRequest k (bypass_vm_at false vm n k (slice_get x.request k) x hub).0
  request_at n k x hub spares = by_stage (slice_get x.request k) refl
    where
      weaker : Spent (OrAnswered (OrFrom All vm k) x) x.request → AtRequest k x
      weaker spent = ⊎_elim (λ (e : x.has_ended ≡ true). inl e) (λ (a : AreSpent (OrFrom All vm (suc k)) All x). inr (record { request = spent; response = a.response })) spares

      none_there : slice_get x.request k ≡ None → AreSpent (OrFrom All vm (suc k)) All x → Spent (OrAnswered (OrFrom All vm k) x) x.request
      none_there none a j s at m =
          ⊎_elim (λ (same : j ≡ k). absurd (never s (subst (λ (i : ℕ). slice_get x.request i ≡ Some s) same at)))
          (λ (n : OrAnswered (OrFrom All vm (suc k)) x j s.vm). a.request j s at n) (mixed k x j s.vm m)
        where
          never : (s : Stage) → slice_get x.request k ≡ Some s → ⊥
          never s some = cc (none, some)

      other_there : (t : Stage) → slice_get x.request k ≡ Some t → (t.vm ≡ vm → ⊥) → AreSpent (OrFrom All vm (suc k)) All x → Spent (OrAnswered (OrFrom All vm k) x) x.request
      other_there t there other a j s at (inr answered) = a.request j s at (inr answered)
      other_there t there other a j s at (inl needed) = other_place All vm k x.request t there other (λ i u here n. a.request i u here (inl n)) j s at needed

      by_stage : (o : Option Stage) → slice_get x.request k ≡ o → AtRequest k (bypass_vm_at false vm n k o x hub).0
      by_stage None at = ⊎_elim (λ (e : x.has_ended ≡ true). inl e) (λ (a : AreSpent (OrFrom All vm (suc k)) All x). weaker (none_there at a)) spares
      by_stage (Some s) at =
          of_if (λ (r : Exchange × Hub). AtRequest k r.0) (s.vm == vm) _ _ (λ is. request_way n k s x hub at spares)
          (λ is. ⊎_elim (λ (e : x.has_ended ≡ true). inl e) (λ (a : AreSpent (OrFrom All vm (suc k)) All x). weaker (other_there s at (eqb-false s.vm vm is) a)) spares)

  requests_open : (n k : ℕ) (x : Exchange) (hub : Hub) → AtRequest k x → AtRequest 0 (bypass_vm_stages false vm n k (x, hub)).0
  requests_open n zero x hub spares = spares
  requests_open n (suc k) x hub spares =
      requests_open n k (bypass_vm_at false vm n k (slice_get x.request k) x hub).0 (bypass_vm_at false vm n k (slice_get x.request k) x hub).1 (request_at n k x hub spares)

  -- ---- those of the response then

  -- dead before, or it is that VM
  abbrev Dead : ℕ → ℕ → Type 0
  Dead j w = D w ⊎ (w ≡ vm)

  abbrev AtResponse : ℕ → Exchange → Type 0
  AtResponse k x = SparesBoth Dead (OrFrom All vm k) x

  response_way : (n k : ℕ) (s : Stage) (x : Exchange) (hub : Hub) → slice_get x.response k ≡ Some s → AtResponse (suc k) x → AtResponse k (bypass true n k x hub).0
  response_way n k s x hub there spares =
      of_if (λ (r : Exchange × Hub). AtResponse k r.0) x.has_ended _ _ (λ ended. inl ended)
      (λ goes.
      let a : AreSpent Dead (OrFrom All vm (suc k)) x = running Dead (OrFrom All vm (suc k)) x spares goes in
      let o : OrOver (OrFrom All vm k) (let_through hub.contexts k x.response) × OverSame x.response (let_through hub.contexts k x.response)
      = let_through_opens (OrFrom All vm (suc k)) (OrFrom All vm k) hub.contexts k x.response (λ j w m. from_place All vm k j w m) a.response s there in
      by_result a (let_through hub.contexts k x.response) o.0)
    where
      by_result : AreSpent Dead (OrFrom All vm (suc k)) x → (r : PassOutcome × List Stage × Contexts) → OrOver (OrFrom All vm k) r → AtResponse k (take_move true n x hub r).0
      by_result a (passed.Over, after, h) bypass_vm_stages = directly_spares Dead (OrFrom All vm k) n 500 [] [] (record x { response = after }) (with_held h hub)
      by_result a (passed.Left items, after, h) bypass_vm_stages =
          passed_down_spares Dead (OrFrom All vm k) n (passed.Left items) (record x { response = after }) (with_held h hub) (record { request = a.request; response = bypass_vm_stages })

  response_at : (n k : ℕ) (x : Exchange) (hub : Hub) → AtResponse (suc k) x → AtResponse k (bypass_vm_at true vm n k (slice_get x.response k) x hub).0
  response_at n k x hub spares = by_stage (slice_get x.response k) refl
    where
      weaker : (AreSpent Dead (OrFrom All vm (suc k)) x → Spent (OrFrom All vm k) x.response) → AtResponse k x
      weaker spent = ⊎_elim (λ (e : x.has_ended ≡ true). inl e) (λ (a : AreSpent Dead (OrFrom All vm (suc k)) x). inr (record { request = a.request; response = spent a })) spares

      by_stage : (o : Option Stage) → slice_get x.response k ≡ o → AtResponse k (bypass_vm_at true vm n k o x hub).0
      by_stage None at = weaker (λ a. past_place All vm k x.response at a.response)
      by_stage (Some s) at =
          of_if (λ (r : Exchange × Hub). AtResponse k r.0) (s.vm == vm) _ _ (λ is. response_way n k s x hub at spares)
          (λ is. weaker (λ a. other_place All vm k x.response s at (eqb-false s.vm vm is) a.response))

  responses_open : (n k : ℕ) (x : Exchange) (hub : Hub) → AtResponse k x → AtResponse 0 (bypass_vm_stages true vm n k (x, hub)).0
  responses_open n zero x hub spares = spares
  responses_open n (suc k) x hub spares =
      responses_open n k (bypass_vm_at true vm n k (slice_get x.response k) x hub).0 (bypass_vm_at true vm n k (slice_get x.response k) x hub).1 (response_at n k x hub spares)

  opens_all_spares : (n : ℕ) (x : Exchange) (hub : Hub) → SparesBoth All All x → SparesBoth Dead Dead (bypass_vm vm n x hub).0
  opens_all_spares n x hub spares =
      let one : AtRequest (length x.request) x
      = ⊎_elim (λ (e : x.has_ended ≡ true). inl e) (λ (a : AreSpent All All x). inr (record { request = begins a; response = a.response })) spares in
      let y : Exchange × Hub = bypass_vm_stages false vm n (length x.request) (x, hub) in
      let two : AtRequest 0 y.0 = requests_open n (length x.request) x hub one in
      let three : AtResponse (length y.0.response) y.0
      = ⊎_elim (λ (e : y.0.has_ended ≡ true). inl e) (λ (a : AreSpent (OrFrom All vm 0) All y.0). inr (record { request = then_ y.0 a; response = all_past All vm y.0.response a.response })) two in
      let four : AtResponse 0 (bypass_vm_stages true vm n (length y.0.response) y).0 = responses_open n (length y.0.response) y.0 y.1 three in
      ⊎_elim (λ (e : (bypass_vm_stages true vm n (length y.0.response) y).0.has_ended ≡ true). inl e)
      (λ (a : AreSpent Dead (OrFrom All vm 0) (bypass_vm_stages true vm n (length y.0.response) y).0).
      inr (record { request = a.request; response = from_first All Dead vm (bypass_vm_stages true vm n (length y.0.response) y).0.response (λ j w m. m) a.response })) four
    where
      begins : AreSpent All All x → Spent (OrAnswered (OrFrom All vm (length x.request)) x) x.request
      begins a j s at (inr answered) = a.request j s at (inr answered)
      begins a j s at (inl needed) = all_past All vm x.request (λ i u here n. a.request i u here (inl n)) j s at needed

      then_ : (y : Exchange) → AreSpent (OrFrom All vm 0) All y → Spent (OrAnswered Dead y) y.request
      then_ y a j s at (inr answered) = a.request j s at (inr answered)
      then_ y a j s at (inl needed) = a.request j s at (inl (⊎_elim (λ (d : D s.vm). inl d) (λ (is : s.vm ≡ vm). inr (omega arith, is)) needed))

  pub dies_spares : (n : ℕ) (x : Exchange) (hub : Hub) → SparesBoth All All x → SparesBoth Dead Dead (lose_vm vm n x hub).0
  dies_spares n x hub spares =
      of_if (λ (r : Exchange × Hub). SparesBoth Dead Dead r.0) x.has_ended _ _ (λ ended. inl ended)
      (λ goes. of_if (λ (r : Exchange × Hub). SparesBoth Dead Dead r.0) (fails_closed vm x) _ _ (λ closes. directly_spares Dead Dead n 503 [] [] x hub) (λ opens_. opens_all_spares n x hub spares))

-- ---- THE LAWS, of lists of VMs

any-append : (p : ℕ → Bool) (a b : List ℕ) → list_any p (a ++ b) ≡ (list_any p a || list_any p b)
any-append p [] b = refl
any-append p (x ∷ a) b = by_bool (p x) (any-append p a b)
  where
    by_bool : (c : Bool) → list_any p (a ++ b) ≡ (list_any p a || list_any p b) → (c || list_any p (a ++ b)) ≡ ((c || list_any p a) || list_any p b)
    by_bool true later = refl
    by_bool false later = later

either : (a b : Bool) → (a || b) ≡ true → (a ≡ true) ⊎ (b ≡ true)
either true b is = inl refl
either false b is = inr is

in_more : (dead : List ℕ) (vm w : ℕ) → IsIn (dead ++ vm ∷ []) w → IsIn dead w ⊎ (w ≡ vm)
in_more dead vm w is =
    ⊎_elim (λ (e : IsIn dead w). inl e) (λ (e : list_any (λ (d : ℕ). d == w) (vm ∷ []) ≡ true). inr (last e))
    (either (list_any (λ (d : ℕ). d == w) dead) (list_any (λ (d : ℕ). d == w) (vm ∷ [])) (sym (any-append (λ (d : ℕ). d == w) dead (vm ∷ [])) ∙ is))
  where
    last : list_any (λ (d : ℕ). d == w) (vm ∷ []) ≡ true → w ≡ vm
    last e = ⊎_elim (λ (same : (vm == w) ≡ true). sym (eqb-true vm w same)) (λ (none : false ≡ true). absurd (cc)) (either (vm == w) false e)

module _ (dead : List ℕ) where
  abbrev In : ℕ → ℕ → Type 0
  In j w = IsIn dead w

  drops_in : (m : ℕ) (ss : List Stage) → Spent In ss → Spent In (drop m ss)
  drops_in m ss spent = drop_spent (IsIn dead) m ss spent

  dying_spares : (vm n : ℕ) (x : Exchange) (hub : Hub) → Spares dead x → Spares (dead ++ vm ∷ []) (lose_vm vm n x hub).0
  dying_spares vm n x hub spares =
      let y : Exchange = (lose_vm vm n x hub).0 in
      ⊎_elim (λ (e : y.has_ended ≡ true). inl e)
      (λ (a : AreSpent (λ (j w : ℕ). IsIn dead w ⊎ (w ≡ vm)) (λ (j w : ℕ). IsIn dead w ⊎ (w ≡ vm)) y).
      inr (record {
        request = λ j s at m.
            a.request j s at
            (⊎_elim (λ (d : IsIn (dead ++ vm ∷ []) s.vm). inl (in_more dead vm s.vm d)) (λ (answered : y.is_answered ≡ true). inr answered) m);
        response = λ j s at m. a.response j s at (in_more dead vm s.vm m);
      })) (dies_spares (IsIn dead) vm n x hub spares)

  -- a chain that is asked
  asked_chain : (N : ℕ → ℕ → Type 0) (h : Contexts) (stages : List Stage) → Spent N stages → Spent N (asked h stages).1
  asked_chain N h stages spent = by_asking (asked h stages) (asked_spent N h stages spent)
    where
      by_asking : (r : Asking × List Stage × Contexts) → AskedSo N r → Spent N r.1
      by_asking (Nothing, after, b) so = so
      by_asking (Over k, after, b) so = so
      by_asking (Asks ask, after, b) so = so.0

  asks_other : (N : ℕ → ℕ → Type 0) (h : Contexts) (stages : List Stage) → ((j w : ℕ) → IsIn dead w → N j w) → Spent N stages → AsksOther dead (asked h stages)
  asks_other N h stages needed spent = by_asking (asked h stages) (asked_spent N h stages spent)
    where
      by_asking : (r : Asking × List Stage × Contexts) → AskedSo N r → AsksOther dead r
      by_asking (Nothing, after, b) so = tt
      by_asking (Over k, after, b) so = tt
      by_asking (Asks ask, after, b) so = λ s at is. so.1 s at (needed ask.stage s.vm is)

pub dead_are_spared : TheDeadAreSpared
dead_are_spared = record {
  dying = dying_spares;
  putting = λ response items dead n x hub spares. put_in_spares (In dead) (In dead) (drops_in dead) response items n x hub spares;
  acting = λ response k value dead n x hub spares. acts_spares (In dead) (In dead) (drops_in dead) response k value n x hub spares;
  resuming = λ vm context response dead n x hub spares. resumes_spares (In dead) (In dead) (drops_in dead) vm context response n x hub spares;
  closing = λ dead n x hub spares. closed_spares (In dead) (In dead) n x hub spares;
  answering = λ shuts_ status fields body dead n x hub spares. answers (In dead) (In dead) (drops_in dead) n shuts_ status fields body x hub spares;
  refusing = λ status dead n x hub spares. refused_spares (In dead) (In dead) (drops_in dead) status n x hub spares;
  expiring = λ dead n x hub spares. expires_spares (In dead) (In dead) (drops_in dead) n x hub spares;
  asking_requests = λ dead x h spares.
      ⊎_elim (λ (e : x.has_ended ≡ true). inl e)
      (λ (a : AreSpent (In dead) (In dead) x). inr (record { request = asked_chain dead (OrAnswered (In dead) x) h x.request a.request; response = a.response })) spares;
  asking_responses = λ dead x h spares.
      ⊎_elim (λ (e : x.has_ended ≡ true). inl e)
      (λ (a : AreSpent (In dead) (In dead) x). inr (record { request = a.request; response = asked_chain dead (In dead) h x.response a.response })) spares;
}

pub dead_are_asked_nothing : TheDeadAreAskedNothing
dead_are_asked_nothing = record {
  requests = λ dead x h spares goes.
      asks_other dead (OrAnswered (In dead) x) h x.request (λ j w is. inl is) (running (In dead) (In dead) x spares goes).request;
  responses = λ dead x h spares goes. asks_other dead (In dead) h x.response (λ j w is. is) (running (In dead) (In dead) x spares goes).response;
}

none_dead : SparesBoth (λ (j w : ℕ). IsIn [] w) (λ (j w : ℕ). IsIn [] w) begins
none_dead = inr (record {
  request = λ j s at m. ⊎_elim (λ (e : false ≡ true). absurd (cc)) (λ (e : false ≡ true). absurd (cc)) m;
  response = λ j s at (m : false ≡ true). absurd (cc);
})

pub death_example : DeathExample
unfolding httparse_on_literals digits
death_example = record {
  spared = none_dead;
  spares = dying_spares [] 0 1 begins its_hub none_dead;
  goes_on = refl;
  asked_before = refl;
  asked_then = refl;
  passes = refl;
}
