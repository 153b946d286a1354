-- Why an effect moves what comes after alone.
use Rattle.std.proofs.Common.{◌≡◌, ◌≢◌, ◌<◌, ℕ, zero, suc, ◌==◌, Bool, true, false, not, ◌&&◌, List, [], ◌∷◌, length, ap, ◌∙◌, sym, refl, subst, arith, Option, None, Some}
use Rattle.std.specs.Prelude.{slice_get, position, if◌then◌else◌}
use Rattle.std.proofs.lemmas.Bool.{eqb-true}
use Rattle.std.proofs.lemmas.List.{append-nil}
use Rattle.std.proofs.lemmas.List.Quantifiers.{position-Some}
use Rattle.std.proofs.lemmas.Option.{get_or_from_slice_get}
use Rattle.contexts.specs.declared.parts.Contexts.{Contexts}
use Rattle.contexts.specs.declared.parts.Own.{Own}
use Rattle.contexts.specs.Holding.{IsThere}
use Rattle.contexts.specs.Lending.{stage_in, with_stage}
use Rattle.contexts.specs.Reached.{vm_in, no_changes}
use Rattle.contexts.specs.Stages.{stage_after, let_go, without_buffer}
use Rattle.contexts.proofs.Holding.{holds_its_own}
use Rattle.contexts.proofs.Isolation.{all_else_stays}
use Rattle.exchange.specs.declared.types.Exchange.{Exchange}
use Rattle.exchange.specs.declared.types.Hub.{Hub}
use Rattle.exchange.specs.Answering.{with_held}
use Rattle.exchange.specs.Leaving.{send_request_item, send_response_item, send_item, send_items}
use Rattle.exchange.specs.Passing.{chain_of, with_chain, resume_held, resume_place}
use Rattle.filter_chain.specs.declared.item.ChainItem.{ChainItem}
use Rattle.filter_chain.specs.declared.item.ChainItem.TheVariants.{Head, Piece, Trailers}
use Rattle.filter_chain.specs.declared.item.PassOutcome.{PassOutcome}
use Rattle.filter_chain.specs.declared.item.PassOutcome.TheVariants as passed
use Rattle.filter_chain.specs.declared.stage.Stage.{Stage}
use Rattle.filter_chain.specs.Chains.{with_more, bytes_at, without_held, continued}
use Rattle.filter_chain.specs.Chains as chains
use Rattle.filter_chain.specs.Flow.{IsOtherThan, left_in}
use Rattle.filter_chain.specs.Items.{held_items, holds_bytes}
use Rattle.law_chain.specs.Acts.{Standing, AreThere, IsLeft, gone_on}
use Rattle.law_chain.proofs.Alike.{there_at}
use Rattle.law_chain.proofs.Steps.{goes_to, continued_is}
use Rattle.law_chain.proofs.Targets.{by_bool, ahead, comes_in, goes_in}
use Rattle.law_body.specs.Deeds.{standing_of, running_after}
use Rattle.law_body.specs.Moved.{OnlyWait, MovesAfter, MovedOn, EffectsMoveOn}
use Rattle.law_body.proofs.Deeds.{passed_is, goes_is, goes_stands}

-- ---- the chain

none_more : (s : Stage) → s ≡ with_more [] s
none_more s = λ i. record s { waiting = sym (append-nil s.waiting) i }

wait_all : (ss : List Stage) → OnlyWait ss ss
wait_all [] = tt
wait_all (s ∷ ss) = (([], none_more s), wait_all ss)

comes_waits : (items : List ChainItem) (ss : List Stage) → OnlyWait ss (comes_in items ss).1
comes_waits items [] = tt
comes_waits items (s ∷ ss) =
    by_bool (λ (r : PassOutcome × List Stage). OnlyWait (s ∷ ss) r.1) s.passes (ahead s (comes_in items ss)) (passed.Left [], with_more items s ∷ ss)
    (λ is. (([], none_more s), comes_waits items ss)) (λ is. ((items, refl), wait_all ss))

goes_moves : (items : List ChainItem) (ss : List Stage) (k : ℕ) (s : Stage) → slice_get ss k ≡ Some s → MovesAfter k ss (goes_in k (chains.without_hold s) items ss).1
goes_moves items [] k s at = absurd (cc)
goes_moves items (x ∷ xs) zero s at =
    let here : x ≡ s = (cc) in
    (ap chains.without_hold (sym here), comes_waits items xs)
goes_moves items (x ∷ xs) (suc k) s at = (refl, goes_moves items xs k s at)

-- ---- the other direction

leaves_across : (response : Bool) (n : ℕ) (item : ChainItem) (x : Exchange) (hub : Hub) → chain_of (not response) (send_item response n item (x, hub)).0 ≡ chain_of (not response) x
leaves_across false n item x hub = by_end x.has_ended item
  where
    by_end : (b : Bool) (i : ChainItem) → chain_of true (if b then (x, hub) else send_request_item n i x hub).0 ≡ x.response
    by_end true i = refl
    by_end false (Head end) = refl
    by_end false (Piece bytes end) = refl
    by_end false Trailers = refl
leaves_across true n item x hub = by_end x.has_ended item
  where
    by_end : (b : Bool) (i : ChainItem) → chain_of false (if b then (x, hub) else send_response_item n i x hub).0 ≡ x.request
    by_end true i = refl
    by_end false (Head end) = refl
    by_end false (Piece bytes end) = refl
    by_end false Trailers = refl

pub left_across : (response : Bool) (n : ℕ) (items : List ChainItem) (xh : Exchange × Hub) → chain_of (not response) (send_items response n items xh).0 ≡ chain_of (not response) xh.0
left_across response n [] xh = refl
left_across response n (item ∷ items) xh = left_across response n items (send_item response n item xh) ∙ leaves_across response n item xh.0 xh.1

pub across_with : (response : Bool) (stages : List Stage) (x : Exchange) → chain_of (not response) (with_chain response stages x) ≡ chain_of (not response) x
across_with false stages x = refl
across_with true stages x = refl

-- ---- what is held

emptied_vms : (h : Contexts) (vm e : ℕ) (r : Bool) → IsThere h vm e → (other : ℕ) → other ≢ vm → vm_in (without_buffer h vm e r) other ≡ vm_in h other
emptied_vms h vm e r there other apart =
    ap (λ (o : Option Own). vm_in (stage_after let_go h vm e r o) other) there.2
    ∙ (all_else_stays (record no_changes { own = Some (with_stage r (let_go (stage_in r there.1)) there.1) }) vm e h there.0).vms other apart

gone_vms : (h : Contexts) (s : Stage) → IsThere h s.vm s.context → (other : ℕ) → other ≢ s.vm → vm_in (without_held h s) other ≡ vm_in h other
gone_vms h s there other apart =
    by_bool (λ (k : Contexts). vm_in k other ≡ vm_in h other) (holds_bytes s.held) (without_buffer h s.vm s.context s.response) h (λ is. emptied_vms h s.vm s.context s.response there other apart) (λ is. refl)

gone_holds : (h : Contexts) (s t : Stage) → IsThere h s.vm s.context → IsOtherThan s t → bytes_at (without_held h s) t ≡ bytes_at h t
gone_holds h s t there apart =
    by_bool (λ (k : Contexts). bytes_at k t ≡ bytes_at h t) (holds_bytes s.held) (without_buffer h s.vm s.context s.response) h
    (λ is. holds_its_own.others let_go h s.vm s.context s.response t.vm t.context t.response there.0 apart) (λ is. refl)

-- ---- the stage at a place

within_there : (ss : List Stage) (k : ℕ) → k < length ss → (s : Stage) × (slice_get ss k ≡ Some s)
within_there [] k less = absurd (omega (arith, less))
within_there (x ∷ xs) zero less = (x, refl)
within_there (x ∷ xs) (suc k) less = within_there xs k (omega (arith, less))

found_at : (p : Stage → Bool) (ss : List Stage) (k : ℕ) → position p ss ≡ Some k → (s : Stage) × (slice_get ss k ≡ Some s) × (p s ≡ true)
found_at p [] k is = absurd (cc is)
found_at p (x ∷ xs) k is =
    let law = position-Some p (x ∷ xs) k x is in
    let at = within_there (x ∷ xs) k law.0 in
    (at.0, at.1, ap p (sym (get_or_from_slice_get (x ∷ xs) k at.0 x at.1)) ∙ law.1)

both_left : (a b : Bool) → (a && b) ≡ true → a ≡ true
both_left true b is = refl
both_left false b is = is

moved : (vm context : ℕ) (response : Bool) (n k : ℕ) (x : Exchange) (hub : Hub) (s : Stage) → slice_get (chain_of response x) k ≡ Some s → s.vm ≡ vm → x.has_ended ≡ false
    → AreThere hub.contexts (chain_of response x) → IsLeft (continued hub.contexts k (chain_of response x)).0
    → MovedOn vm response k x hub (resume_held response n k x hub).0 (resume_held response n k x hub).1
moved vm context response n k x hub s at own runs all left_ =
    let h : Contexts = hub.contexts in
    let ss : List Stage = chain_of response x in
    let there : IsThere h s.vm s.context = there_at h ss k s at all in
    let r : PassOutcome × List Stage × Contexts = continued h k ss in
    let is : r ≡ ((goes_to h k ss s).0, (goes_to h k ss s).1, without_held h s) = continued_is h k ss s at left_ in
    let stands : standing_of response (running_after None (resume_held response n k x hub)) ≡ (gone_on None r).1 = goes_stands response n k None x hub runs left_ in
    let chain_is : chain_of response (resume_held response n k x hub).0 ≡ (goes_to h k ss s).1
    = ap (λ (v : Standing). v.stages) stands ∙ ap (λ (q : PassOutcome × List Stage × Contexts). q.1) is in
    let contexts_are : (resume_held response n k x hub).1.contexts ≡ without_held h s
    = ap (λ (v : Standing). v.contexts) stands ∙ ap (λ (q : PassOutcome × List Stage × Contexts). q.2) is in
    record {
      chain = subst (MovesAfter k ss) (sym chain_is) (goes_moves (held_items s.held (chains.bytes_held h s)) ss k s at);
      across =
          ap (λ (xh : Exchange × Hub). chain_of (not response) xh.0) (goes_is response n k x hub runs ∙ passed_is response n r.0 (with_chain response r.1 x) (with_held r.2 hub) left_)
          ∙ (left_across response n (left_in r.0) (with_chain response r.1 x, with_held r.2 hub) ∙ across_with response r.1 x);
      holds = λ one t there_too apart.
          let same : s ≡ one = (cc (sym at ∙ there_too)) in
          ap (λ (c : Contexts). bytes_at c t) contexts_are ∙ gone_holds h s t there (subst (λ (y : Stage). IsOtherThan y t) (sym same) apart);
      vms = λ other apart. ap (λ (c : Contexts). vm_in c other) contexts_are ∙ gone_vms h s there other (λ same. apart (same ∙ own));
    }

pub effects_move_on : EffectsMoveOn
effects_move_on = record {
  moves = λ vm context response n k x hub runs is all left_.
      let found = found_at (λ (s : Stage). s.vm == vm && s.context == context) (chain_of response x) k is in
      let own : found.0.vm ≡ vm = eqb-true found.0.vm vm (both_left (found.0.vm == vm) (found.0.context == context) found.2) in
      subst (λ (xh : Exchange × Hub). MovedOn vm response k x hub xh.0 xh.1) (sym (ap (λ (o : Option ℕ). resume_place response n o x hub) is))
      (moved vm context response n k x hub found.0 found.1 own runs all left_);
  none = λ vm context response n x hub is. ap (λ (o : Option ℕ). resume_place response n o x hub) is;
}
