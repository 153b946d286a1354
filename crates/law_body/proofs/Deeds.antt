-- Deeds on an exchange are acts at the chain of a direction of it.
use Rattle.std.proofs.Common.{◌≡◌, ℕ, suc, ◌==◌, Bool, true, false, ◌||◌, ◌&&◌, List, [], ◌∷◌, ◌++◌, ap, ◌∙◌, sym, refl, subst}
use Rattle.std.specs.Prelude.{Option, None, Some, if◌then◌else◌}
use Rattle.std.proofs.lemmas.List.{append_assoc, append-nil}
use Rattle.contexts.specs.declared.parts.Contexts.{Contexts}
use Rattle.exchange.specs.declared.types.Exchange.{Exchange}
use Rattle.exchange.specs.declared.types.Hub.{Hub}
use Rattle.exchange.specs.Answering.{with_held}
use Rattle.exchange.specs.Leaving.{send_request_item, send_response_item, send_item, send_items}
use Rattle.exchange.specs.Passing.{chain_of, with_chain, finish_put, take_move, take_put, takes_nothing, put_to_chain, resume_held, bypass, pause_held, stage_of, resume_place}
use Rattle.filter_chain.specs.declared.stage.Stage.{Stage}
use Rattle.filter_chain.specs.declared.item.Ask.{Ask}
use Rattle.filter_chain.specs.declared.item.Asking.{Asking}
use Rattle.filter_chain.specs.declared.item.Asking.TheVariants.{Nothing, Over, Asks}
use Rattle.filter_chain.specs.declared.item.ChainItem.{ChainItem}
use Rattle.filter_chain.specs.declared.item.ChainItem.TheVariants.{Head, Piece, Trailers}
use Rattle.filter_chain.specs.declared.item.PassOutcome.{PassOutcome}
use Rattle.filter_chain.specs.declared.item.PassOutcome.TheVariants as passed
use Rattle.filter_chain.specs.Items.{item_bytes}
use Rattle.filter_chain.specs.Chains.{put, asked, continued, let_through}
use Rattle.filter_chain.specs.Flow.{left_in}
use Rattle.law_chain.specs.Acts.{Act, Standing, stands_after, behind, AreActs, IsLeft, IsCall, IsAnswer, gone_on, after_return, unless_at}
use Rattle.law_chain.specs.Acts as at_chain
use Rattle.law_body.specs.Deeds.{Deed, comes, calls, answers, resumes, lets, turns, Running, standing_of, running_after, called, answered, done_by, resumed, acts_of, done_all, left_by, items_put, buffers_by, IsDeed, AreDeeds, written, Writes, IsWritten, AreWritten}
use Rattle.law_body.specs.Exchanges.{GoesOn, ExchangesPassBodies}
use Rattle.law_chain.specs.PassThrough.{bare_all, bare_in, Thinner, IsInOrder, PassesThrough}
use Rattle.law_chain.specs.Laws as at_law
use Rattle.law_chain.specs.Sound.{IsSound}
use Rattle.law_chain.proofs.Order.{ends_more as bare_more, thin_both, thin_here, last_thin, order_front, order_behind, order_bare}
use Rattle.law_chain.proofs.Through.{bodies_pass}

-- ---- what leaves changes no chain and no context

record IsOnly (response : Bool) (xh after : Exchange × Hub) : Type 0 where
  chain : chain_of response after.0 ≡ chain_of response xh.0
  contexts : after.1.contexts ≡ xh.1.contexts

leaves_only : (response : Bool) (n : ℕ) (item : ChainItem) (x : Exchange) (hub : Hub) → IsOnly response (x, hub) (send_item response n item (x, hub))
leaves_only false n item x hub = by_end x.has_ended item
  where
    by_end : (b : Bool) (i : ChainItem) → IsOnly false (x, hub) (if b then (x, hub) else send_request_item n i x hub)
    by_end true i = record { chain = refl; contexts = refl }
    by_end false (Head end) = record { chain = refl; contexts = refl }
    by_end false (Piece bytes end) = record { chain = refl; contexts = refl }
    by_end false Trailers = record { chain = refl; contexts = refl }
leaves_only true n item x hub = by_end x.has_ended item
  where
    by_end : (b : Bool) (i : ChainItem) → IsOnly true (x, hub) (if b then (x, hub) else send_response_item n i x hub)
    by_end true i = record { chain = refl; contexts = refl }
    by_end false (Head end) = record { chain = refl; contexts = refl }
    by_end false (Piece bytes end) = record { chain = refl; contexts = refl }
    by_end false Trailers = record { chain = refl; contexts = refl }

left_only : (response : Bool) (n : ℕ) (items : List ChainItem) (xh : Exchange × Hub) → IsOnly response xh (send_items response n items xh)
left_only response n [] xh = record { chain = refl; contexts = refl }
left_only response n (item ∷ items) xh =
    let mid : Exchange × Hub = send_item response n item xh in
    let first : IsOnly response xh mid = leaves_only response n item xh.0 xh.1 in
    let last : IsOnly response mid (send_items response n items mid) = left_only response n items mid in
    record { chain = last.chain ∙ first.chain; contexts = last.contexts ∙ first.contexts }

-- what passes on is written
pub passed_is : (response : Bool) (n : ℕ) (p : PassOutcome) (x : Exchange) (hub : Hub) → IsLeft p → finish_put response n p x hub ≡ send_items response n (left_in p) (x, hub)
passed_is response n passed.Over x hub left_ = absurd left_
passed_is false n (passed.Left items) x hub left_ = refl
passed_is true n (passed.Left items) x hub left_ = refl

chain_with : (response : Bool) (stages : List Stage) (x : Exchange) → chain_of response (with_chain response stages x) ≡ stages
chain_with false stages x = refl
chain_with true stages x = refl

-- how the direction stands where these items left, and the stages and the contexts are these then
stands : (response : Bool) (n : ℕ) (due : Option Ask) (p : PassOutcome) (stages : List Stage) (x : Exchange) (hub : Hub) → IsLeft p
    → standing_of response (running_after due (finish_put response n p (with_chain response stages x) hub)) ≡ record { due = due; contexts = hub.contexts; stages = stages }
stands response n due p stages x hub left_ =
    let y : Exchange = with_chain response stages x in
    let only : IsOnly response (y, hub) (send_items response n (left_in p) (y, hub)) = left_only response n (left_in p) (y, hub) in
    ap (λ (xh : Exchange × Hub). standing_of response (running_after due xh)) (passed_is response n p y hub left_)
    ∙ (λ i. record { due = due; contexts = only.contexts i; stages = (only.chain ∙ chain_with response stages x) i })

-- ---- each deed

takes : (response : Bool) (x : Exchange) → x.has_ended ≡ false → x.is_answered ≡ false → takes_nothing response x ≡ false
takes false x runs unanswered = λ i. runs i || (true && unanswered i)
takes true x runs unanswered = ap (λ b. b || (false && x.is_answered)) runs

pub puts_is : (response : Bool) (n : ℕ) (item : ChainItem) (x : Exchange) (hub : Hub) → x.has_ended ≡ false → x.is_answered ≡ false
    → put_to_chain response n item (x, hub) ≡ take_put response n x hub (put hub.contexts item (chain_of response x))
puts_is response n item x hub runs unanswered =
    ap (λ b. if b then (x, hub) else take_put response n x hub (put hub.contexts item (chain_of response x))) (takes response x runs unanswered)

pub goes_is : (response : Bool) (n k : ℕ) (x : Exchange) (hub : Hub) → x.has_ended ≡ false → resume_held response n k x hub ≡ take_move response n x hub (continued hub.contexts k (chain_of response x))
goes_is response n k x hub runs = ap (λ b. if b then (x, hub) else take_move response n x hub (continued hub.contexts k (chain_of response x))) runs

pub goes_stands : (response : Bool) (n k : ℕ) (due : Option Ask) (x : Exchange) (hub : Hub) → x.has_ended ≡ false → IsLeft (continued hub.contexts k (chain_of response x)).0
    → standing_of response (running_after due (resume_held response n k x hub)) ≡ (gone_on due (continued hub.contexts k (chain_of response x))).1
goes_stands response n k due x hub runs left_ =
    let r : PassOutcome × List Stage × Contexts = continued hub.contexts k (chain_of response x) in
    ap (λ (xh : Exchange × Hub). standing_of response (running_after due xh)) (goes_is response n k x hub runs) ∙ stands response n due r.0 r.1 x (with_held r.2 hub) left_

comes_does : (response : Bool) (n : ℕ) (item : ChainItem) (w : Running) → w.exchange.has_ended ≡ false → w.exchange.is_answered ≡ false
    → IsLeft (put w.hub.contexts item (chain_of response w.exchange)).0
    → standing_of response (done_by response n (comes item) w) ≡ (at_chain.done_by (at_chain.comes item) (standing_of response w)).1
comes_does response n item w runs unanswered left_ =
    let r : PassOutcome × List Stage = put w.hub.contexts item (chain_of response w.exchange) in
    ap (λ (xh : Exchange × Hub). standing_of response (running_after w.due xh)) (puts_is response n item w.exchange w.hub runs unanswered)
    ∙ stands response n w.due r.0 r.1 w.exchange w.hub left_

calls_does : (response : Bool) (count : ℕ) (after : Hub) (w : Running) (r : Asking × List Stage × Contexts) → IsCall count after.contexts r
    → standing_of response (called response after w r) ≡ (at_chain.called after.contexts (standing_of response w) r).1
calls_does response count after w (Nothing, stages, h) call = refl
calls_does response count after w (Over k, stages, h) call = refl
calls_does response count after w (Asks ask, stages, h) call = λ i. record { due = Some ask; contexts = after.contexts; stages = chain_with response stages w.exchange i }

answers_does : (response : Bool) (n value : ℕ) (w : Running) (due : Option Ask) → w.exchange.has_ended ≡ false → IsAnswer value (standing_of response w) due
    → standing_of response (answered response n value w due) ≡ (at_chain.answered value (standing_of response w) due).1
answers_does response n value w None runs answer = absurd answer
answers_does response n value w (Some ask) runs answer = by_value (value == 0) answer.1
  where
    by_value : (b : Bool) → (b ≡ true → IsLeft (continued (after_return ask (standing_of response w)) ask.stage (chain_of response w.exchange)).0)
        → standing_of response (running_after None (if b then resume_held response n ask.stage w.exchange (pause_held response ask.stage w.exchange w.hub) else (w.exchange, pause_held response ask.stage w.exchange w.hub)))
        ≡ (if b then gone_on None (continued (after_return ask (standing_of response w)) ask.stage (chain_of response w.exchange))
        else ([], record { due = None; contexts = after_return ask (standing_of response w); stages = chain_of response w.exchange })).1
    by_value true left_ = goes_stands response n ask.stage None w.exchange (pause_held response ask.stage w.exchange w.hub) runs (left_ refl)
    by_value false left_ = refl

resumes_does : (response : Bool) (n count : ℕ) (w : Running) (o : Option ℕ) → w.exchange.has_ended ≡ false → AreActs count (resumed o) (standing_of response w)
    → standing_of response (running_after w.due (resume_place response n o w.exchange w.hub)) ≡ stands_after (resumed o) (standing_of response w)
resumes_does response n count w None runs are = refl
resumes_does response n count w (Some k) runs are = goes_stands response n k w.due w.exchange w.hub runs are.0.1

pub gives_is : (response : Bool) (n k : ℕ) (x : Exchange) (hub : Hub) → x.has_ended ≡ false → bypass response n k x hub ≡ take_move response n x hub (let_through hub.contexts k (chain_of response x))
gives_is response n k x hub runs = ap (λ b. if b then (x, hub) else take_move response n x hub (let_through hub.contexts k (chain_of response x))) runs

lets_does : (response : Bool) (n k : ℕ) (w : Running) → w.exchange.has_ended ≡ false → IsLeft (let_through w.hub.contexts k (chain_of response w.exchange)).0
    → standing_of response (running_after (unless_at k w.due) (bypass response n k w.exchange w.hub)) ≡ (gone_on (unless_at k w.due) (let_through w.hub.contexts k (chain_of response w.exchange))).1
lets_does response n k w runs left_ =
    let r : PassOutcome × List Stage × Contexts = let_through w.hub.contexts k (chain_of response w.exchange) in
    ap (λ (xh : Exchange × Hub). standing_of response (running_after (unless_at k w.due) xh)) (gives_is response n k w.exchange w.hub runs)
    ∙ stands response n (unless_at k w.due) r.0 r.1 w.exchange (with_held r.2 w.hub) left_

-- the direction stands as after the acts
pub deed_does : (response : Bool) (n count : ℕ) (deed : Deed) (w : Running) → IsDeed response count deed w
    → standing_of response (done_by response n deed w) ≡ stands_after (acts_of response deed w) (standing_of response w)
deed_does response n count (comes item) w is = comes_does response n item w is.runs.0 is.runs.1 is.acts.0
deed_does response n count (calls after) w is = calls_does response count after w (asked w.hub.contexts (chain_of response w.exchange)) is.acts.0.1
deed_does response n count (answers value) w is = answers_does response n value w w.due is.runs.0 is.acts.0
deed_does response n count (resumes vm context) w is = resumes_does response n count w (stage_of vm context (chain_of response w.exchange)) is.runs.0 is.acts
deed_does response n count (lets k) w is = lets_does response n k w is.runs.0 is.acts.0.1
deed_does response n count (turns y after) w is = λ i. record { due = w.due; contexts = after.contexts; stages = is.chain i }

-- ---- all deeds

abbrev all_acts : Bool → ℕ → List Deed → Running → List Act
all_acts response n [] w = []
all_acts response n (deed ∷ deeds) w = acts_of response deed w ++ all_acts response n deeds (done_by response n deed w)

acts_more : (count : ℕ) (a b : List Act) (v : Standing) → AreActs count a v → AreActs count b (stands_after a v) → AreActs count (a ++ b) v
acts_more count [] b v first later = later
acts_more count (act ∷ a) b v first later = (first.0, acts_more count a b (at_chain.done_by act v).1 first.1 later)

left_more : (a b : List Act) (v : Standing) → at_chain.left_by (a ++ b) v ≡ at_chain.left_by a v ++ at_chain.left_by b (stands_after a v)
left_more [] b v = refl
left_more (act ∷ a) b v =
    ap (λ (l : List ChainItem). (at_chain.done_by act v).0 ++ l) (left_more a b (at_chain.done_by act v).1)
    ∙ sym (append_assoc (at_chain.done_by act v).0 (at_chain.left_by a (at_chain.done_by act v).1) (at_chain.left_by b (stands_after a (at_chain.done_by act v).1)))

buffers_more : (k : ℕ) (a b : List Act) (v : Standing) → at_chain.buffers_by k (a ++ b) v ≡ at_chain.buffers_by k a v ++ at_chain.buffers_by k b (stands_after a v)
buffers_more k [] b v = refl
buffers_more k (act ∷ a) b v =
    ap (λ (l : List ℕ). at_chain.buffer_by k act v ++ l) (buffers_more k a b (at_chain.done_by act v).1)
    ∙ sym (append_assoc (at_chain.buffer_by k act v) (at_chain.buffers_by k a (at_chain.done_by act v).1) (at_chain.buffers_by k b (stands_after a (at_chain.done_by act v).1)))

came_more : (a b : List Act) → at_chain.items_put (a ++ b) ≡ at_chain.items_put a ++ at_chain.items_put b
came_more [] b = refl
came_more (act ∷ a) b = ap (λ (l : List ChainItem). at_chain.item_in act ++ l) (came_more a b) ∙ sym (append_assoc (at_chain.item_in act) (at_chain.items_put a) (at_chain.items_put b))

record AreAll (response : Bool) (n count : ℕ) (deeds : List Deed) (w : Running) : Type 0 where
  are : AreActs count (all_acts response n deeds w) (standing_of response w)
  lefts : at_chain.left_by (all_acts response n deeds w) (standing_of response w) ≡ left_by response n deeds w
  buffers : (k : ℕ) → at_chain.buffers_by k (all_acts response n deeds w) (standing_of response w) ≡ buffers_by response n k deeds w
  cames : at_chain.items_put (all_acts response n deeds w) ≡ items_put deeds

came_none : (o : Option ℕ) → at_chain.items_put (resumed o) ≡ []
came_none None = refl
came_none (Some k) = refl

came_one : (response : Bool) (deed : Deed) (deeds : List Deed) (w : Running) → at_chain.items_put (acts_of response deed w) ++ items_put deeds ≡ items_put (deed ∷ deeds)
came_one response (comes item) deeds w = refl
came_one response (calls after) deeds w = refl
came_one response (answers value) deeds w = refl
came_one response (resumes vm context) deeds w = ap (λ (l : List ChainItem). l ++ items_put deeds) (came_none (stage_of vm context (chain_of response w.exchange)))
came_one response (lets k) deeds w = refl
came_one response (turns y after) deeds w = refl

are_all : (response : Bool) (n count : ℕ) (deeds : List Deed) (w : Running) → AreDeeds response n count deeds w → AreAll response n count deeds w
are_all response n count [] w are = record { are = tt; lefts = refl; buffers = λ k. refl; cames = refl }
are_all response n count (deed ∷ deeds) w are =
    let v : Standing = standing_of response w in
    let a : List Act = acts_of response deed w in
    let next : Running = done_by response n deed w in
    let b : List Act = all_acts response n deeds next in
    let later : AreAll response n count deeds next = are_all response n count deeds next are.1 in
    let same : standing_of response next ≡ stands_after a v = deed_does response n count deed w are.0 in
    record {
      are = acts_more count a b v are.0.acts (subst (AreActs count b) same later.are);
      lefts = left_more a b v ∙ (ap (λ (l : List ChainItem). at_chain.left_by a v ++ l) (ap (at_chain.left_by b) (sym same) ∙ later.lefts));
      buffers = λ k. buffers_more k a b v ∙ (ap (λ (l : List ℕ). at_chain.buffers_by k a v ++ l) (ap (at_chain.buffers_by k b) (sym same) ∙ later.buffers k));
      cames = came_more a b ∙ (ap (λ (l : List ChainItem). at_chain.items_put a ++ l) later.cames ∙ came_one response deed deeds w);
    }

stands_more : (a b : List Act) (v : Standing) → stands_after (a ++ b) v ≡ stands_after b (stands_after a v)
stands_more [] b v = refl
stands_more (act ∷ a) b v = stands_more a b (at_chain.done_by act v).1

-- the direction stands as after the acts of all deeds
all_does : (response : Bool) (n count : ℕ) (deeds : List Deed) (w : Running) → AreDeeds response n count deeds w
    → standing_of response (done_all response n deeds w) ≡ stands_after (all_acts response n deeds w) (standing_of response w)
all_does response n count [] w are = refl
all_does response n count (deed ∷ deeds) w are =
    let next : Running = done_by response n deed w in
    all_does response n count deeds next are.1
    ∙ (ap (stands_after (all_acts response n deeds next)) (deed_does response n count deed w are.0)
    ∙ sym (stands_more (acts_of response deed w) (all_acts response n deeds next) (standing_of response w)))

-- ---- what left is written

-- an exchange that runs writes what leaves up to the end
left_written : (response : Bool) (n : ℕ) (items : List ChainItem) (x : Exchange) (hub : Hub) → x.has_ended ≡ false → IsInOrder items
    → send_items response n items (x, hub) ≡ written response n items (x, hub)
left_written response n [] x hub runs order = refl
left_written false n (Head end ∷ items) x hub runs order =
    ap (λ (b : Bool). send_items false n items (if b then (x, hub) else send_request_item n (Head end) x hub)) runs
    ∙ left_written false n items (send_request_item n (Head end) x hub).0 (send_request_item n (Head end) x hub).1 runs order.1
left_written false n (Piece bytes end ∷ items) x hub runs order =
    ap (λ (b : Bool). send_items false n items (if b then (x, hub) else send_request_item n (Piece bytes end) x hub)) runs
    ∙ left_written false n items x (send_request_item n (Piece bytes end) x hub).1 runs order.1
left_written false n (Trailers ∷ items) x hub runs order =
    ap (λ (b : Bool). send_items false n items (if b then (x, hub) else send_request_item n Trailers x hub)) runs
    ∙ left_written false n items x (send_request_item n Trailers x hub).1 runs order.1
left_written true n (Head false ∷ items) x hub runs order =
    let r : Exchange × Hub = send_response_item n (Head false) x hub in
    ap (λ (b : Bool). send_items true n items (if b then (x, hub) else r)) runs ∙ left_written true n items r.0 r.1 refl order.1
left_written true n (Head true ∷ items) x hub runs order =
    let r : Exchange × Hub = send_response_item n (Head true) x hub in
    ap (λ (b : Bool). send_items true n items (if b then (x, hub) else r)) runs ∙ (ap (λ (l : List ChainItem). send_items true n l r) (order.0 refl) ∙ sym (ap (λ (l : List ChainItem). written true n l r) (order.0 refl)))
left_written true n (Piece bytes false ∷ items) x hub runs order =
    let r : Exchange × Hub = send_response_item n (Piece bytes false) x hub in
    ap (λ (b : Bool). send_items true n items (if b then (x, hub) else r)) runs ∙ left_written true n items r.0 r.1 refl order.1
left_written true n (Piece bytes true ∷ items) x hub runs order =
    let r : Exchange × Hub = send_response_item n (Piece bytes true) x hub in
    ap (λ (b : Bool). send_items true n items (if b then (x, hub) else r)) runs ∙ (ap (λ (l : List ChainItem). send_items true n l r) (order.0 refl) ∙ sym (ap (λ (l : List ChainItem). written true n l r) (order.0 refl)))
left_written true n (Trailers ∷ items) x hub runs order =
    let r : Exchange × Hub = send_response_item n Trailers x hub in
    ap (λ (b : Bool). send_items true n items (if b then (x, hub) else r)) runs ∙ (ap (λ (l : List ChainItem). send_items true n l r) (order.0 refl) ∙ sym (ap (λ (l : List ChainItem). written true n l r) (order.0 refl)))

with_its_chain : (response : Bool) (x : Exchange) → with_chain response (chain_of response x) x ≡ x
with_its_chain false x = refl
with_its_chain true x = refl

with_runs : (response : Bool) (stages : List Stage) (x : Exchange) → x.has_ended ≡ false → (with_chain response stages x).has_ended ≡ false
with_runs false stages x runs = runs
with_runs true stages x runs = runs

went_written : (response : Bool) (n : ℕ) (due : Option Ask) (p : PassOutcome) (stages : List Stage) (contexts : Contexts) (w : Running) → w.exchange.has_ended ≡ false → IsLeft p
    → IsInOrder (left_in p) → Writes response n (left_in p) w (running_after due (finish_put response n p (with_chain response stages w.exchange) (with_held contexts w.hub)))
went_written response n due p stages contexts w runs left_ order = record {
  runs = runs;
  stages = stages;
  contexts = contexts;
  writes =
      passed_is response n p (with_chain response stages w.exchange) (with_held contexts w.hub) left_
      ∙ left_written response n (left_in p) (with_chain response stages w.exchange) (with_held contexts w.hub) (with_runs response stages w.exchange runs) order;
}

nothing_written : (response : Bool) (n : ℕ) (due : Option Ask) (contexts : Contexts) (w : Running) → w.exchange.has_ended ≡ false
    → Writes response n [] w (running_after due (w.exchange, with_held contexts w.hub))
nothing_written response n due contexts w runs = record {
  runs = runs;
  stages = chain_of response w.exchange;
  contexts = contexts;
  writes = ap (λ (x : Exchange). (x, with_held contexts w.hub)) (sym (with_its_chain response w.exchange));
}

-- where another stage goes on, with these contexts
goes_written : (response : Bool) (n k : ℕ) (due : Option Ask) (h : Contexts) (w : Running) → w.exchange.has_ended ≡ false
    → IsLeft (continued h k (chain_of response w.exchange)).0 → IsInOrder ((gone_on due (continued h k (chain_of response w.exchange))).0 ++ [])
    → Writes response n ((gone_on due (continued h k (chain_of response w.exchange))).0 ++ []) w (running_after due (resume_held response n k w.exchange (with_held h w.hub)))
goes_written response n k due h w runs left_ order =
    let r : PassOutcome × List Stage × Contexts = continued h k (chain_of response w.exchange) in
    subst (λ (l : List ChainItem). Writes response n l w (running_after due (resume_held response n k w.exchange (with_held h w.hub)))) (sym (append-nil (left_in r.0)))
    (subst (λ (xh : Exchange × Hub). Writes response n (left_in r.0) w (running_after due xh)) (sym (goes_is response n k w.exchange (with_held h w.hub) runs))
    (went_written response n due r.0 r.1 r.2 w runs left_ (subst IsInOrder (append-nil (left_in r.0)) order)))

lets_written : (response : Bool) (n k : ℕ) (w : Running) → w.exchange.has_ended ≡ false → IsLeft (let_through w.hub.contexts k (chain_of response w.exchange)).0
    → IsInOrder ((gone_on (unless_at k w.due) (let_through w.hub.contexts k (chain_of response w.exchange))).0 ++ []) → IsWritten response n (lets k) w
lets_written response n k w runs left_ order =
    let r : PassOutcome × List Stage × Contexts = let_through w.hub.contexts k (chain_of response w.exchange) in
    let due : Option Ask = unless_at k w.due in
    subst (λ (l : List ChainItem). Writes response n l w (running_after due (bypass response n k w.exchange w.hub))) (sym (append-nil (left_in r.0)))
    (subst (λ (xh : Exchange × Hub). Writes response n (left_in r.0) w (running_after due xh)) (sym (gives_is response n k w.exchange w.hub runs))
    (went_written response n due r.0 r.1 r.2 w runs left_ (subst IsInOrder (append-nil (left_in r.0)) order)))

comes_written : (response : Bool) (n : ℕ) (item : ChainItem) (w : Running) → w.exchange.has_ended ≡ false → w.exchange.is_answered ≡ false
    → IsLeft (put w.hub.contexts item (chain_of response w.exchange)).0 → IsInOrder (left_in (put w.hub.contexts item (chain_of response w.exchange)).0 ++ [])
    → IsWritten response n (comes item) w
comes_written response n item w runs unanswered left_ order =
    let r : PassOutcome × List Stage = put w.hub.contexts item (chain_of response w.exchange) in
    subst (λ (l : List ChainItem). Writes response n l w (running_after w.due (put_to_chain response n item (w.exchange, w.hub)))) (sym (append-nil (left_in r.0)))
    (subst (λ (xh : Exchange × Hub). Writes response n (left_in r.0) w (running_after w.due xh)) (sym (puts_is response n item w.exchange w.hub runs unanswered))
    (went_written response n w.due r.0 r.1 w.hub.contexts w runs left_ (subst IsInOrder (append-nil (left_in r.0)) order)))

calls_written : (after : Contexts) (v : Standing) (r : Asking × List Stage × Contexts) → (at_chain.called after v r).0 ++ [] ≡ []
calls_written after v (Nothing, stages, h) = refl
calls_written after v (Over k, stages, h) = refl
calls_written after v (Asks ask, stages, h) = refl

answers_written : (response : Bool) (n value : ℕ) (w : Running) (due : Option Ask) → w.exchange.has_ended ≡ false → IsAnswer value (standing_of response w) due
    → IsInOrder ((at_chain.answered value (standing_of response w) due).0 ++ [])
    → Writes response n ((at_chain.answered value (standing_of response w) due).0 ++ []) w (answered response n value w due)
answers_written response n value w None runs answer order = absurd answer
answers_written response n value w (Some ask) runs answer order = by_value (value == 0) answer.1 order
  where
    by_value : (b : Bool) → (b ≡ true → IsLeft (continued (after_return ask (standing_of response w)) ask.stage (chain_of response w.exchange)).0)
        → IsInOrder
        ((if b then gone_on None (continued (after_return ask (standing_of response w)) ask.stage (chain_of response w.exchange))
        else ([], record { due = None; contexts = after_return ask (standing_of response w); stages = chain_of response w.exchange })).0 ++ [])
        → Writes response n
        ((if b then gone_on None (continued (after_return ask (standing_of response w)) ask.stage (chain_of response w.exchange))
        else ([], record { due = None; contexts = after_return ask (standing_of response w); stages = chain_of response w.exchange })).0 ++ [])
        w
        (running_after None (if b then resume_held response n ask.stage w.exchange (pause_held response ask.stage w.exchange w.hub) else (w.exchange, pause_held response ask.stage w.exchange w.hub)))
    by_value true left_ here = goes_written response n ask.stage None (after_return ask (standing_of response w)) w runs (left_ refl) here
    by_value false left_ here = nothing_written response n None (after_return ask (standing_of response w)) w runs

resumes_written : (response : Bool) (n count : ℕ) (w : Running) (o : Option ℕ) → w.exchange.has_ended ≡ false → AreActs count (resumed o) (standing_of response w)
    → IsInOrder (at_chain.left_by (resumed o) (standing_of response w))
    → Writes response n (at_chain.left_by (resumed o) (standing_of response w)) w (running_after w.due (resume_place response n o w.exchange w.hub))
resumes_written response n count w None runs are order = nothing_written response n w.due w.hub.contexts w runs
resumes_written response n count w (Some k) runs are order = goes_written response n k w.due w.hub.contexts w runs are.0.1 order

is_written : (response : Bool) (n count : ℕ) (deed : Deed) (w : Running) → IsDeed response count deed w → IsInOrder (at_chain.left_by (acts_of response deed w) (standing_of response w))
    → IsWritten response n deed w
is_written response n count (comes item) w is order = comes_written response n item w is.runs.0 is.runs.1 is.acts.0 order
is_written response n count (calls after) w is order = calls_written after.contexts (standing_of response w) (asked w.hub.contexts (chain_of response w.exchange))
is_written response n count (answers value) w is order = answers_written response n value w w.due is.runs.0 is.acts.0 order
is_written response n count (resumes vm context) w is order = resumes_written response n count w (stage_of vm context (chain_of response w.exchange)) is.runs.0 is.acts order
is_written response n count (lets k) w is order = lets_written response n k w is.runs.0 is.acts.0.1 order
is_written response n count (turns y after) w is order = refl

-- each deed writes what leaves by it, since that is in order
pub are_written : (response : Bool) (n count : ℕ) (w : Running) (deeds : List Deed) → IsSound count (standing_of response w) → AreDeeds response n count deeds w
    → IsInOrder (bare_in (chain_of response w.exchange) ++ bare_all (items_put deeds)) → AreWritten response n deeds w
are_written response n count w [] sound are order = tt
are_written response n count w (deed ∷ deeds) sound are order =
    let v : Standing = standing_of response w in
    let acts : List Act = acts_of response deed w in
    let one : at_law.GoesOn count acts v = bodies_pass.goes_on count v acts sound are.0.acts in
    let same : standing_of response (done_by response n deed w) ≡ stands_after acts v = deed_does response n count deed w are.0 in
    let lefts : List ChainItem = bare_all (at_chain.left_by acts v) in
    let later : List ChainItem = bare_all (items_put deeds) in
    let whole : bare_in v.stages ++ bare_all (items_put (deed ∷ deeds)) ≡ (bare_in v.stages ++ bare_all (at_chain.items_put acts)) ++ later
    = ap (λ (l : List ChainItem). bare_in v.stages ++ bare_all l) (sym (came_one response deed deeds w))
    ∙ (ap (λ (l : List ChainItem). bare_in v.stages ++ l) (bare_more (at_chain.items_put acts) (items_put deeds)) ∙ sym (append_assoc (bare_in v.stages) (bare_all (at_chain.items_put acts)) later)) in
    let thin : Thinner ((bare_in v.stages ++ bare_all (at_chain.items_put acts)) ++ later) ((lefts ++ bare_in (stands_after acts v).stages) ++ later) = thin_both one.order (thin_here later) in
    let in_order : IsInOrder ((lefts ++ bare_in (stands_after acts v).stages) ++ later) = last_thin thin (subst IsInOrder whole order) in
    let both : IsInOrder (lefts ++ (bare_in (stands_after acts v).stages ++ later)) = subst IsInOrder (append_assoc lefts (bare_in (stands_after acts v).stages) later) in_order in (
      is_written response n count deed w are.0 (order_bare (at_chain.left_by acts v) (order_front lefts (bare_in (stands_after acts v).stages ++ later) both)),
      are_written response n count (done_by response n deed w) deeds (subst (IsSound count) (sym same) one.sound) are.1
          (subst (λ (u : Standing). IsInOrder (bare_in u.stages ++ later)) (sym same) (order_behind lefts (bare_in (stands_after acts v).stages ++ later) both)),
    )

-- ---- THE LAW

-- what passed is told by the same
pub passed_as : {came_a came_b left_a left_b : List ChainItem} {whole_a whole_b inside_a inside_b : List ℕ} {stages_a stages_b : List Stage} → came_a ≡ came_b → whole_a ≡ whole_b → left_a ≡ left_b
    → inside_a ≡ inside_b → stages_a ≡ stages_b → PassesThrough came_a whole_a left_a inside_a stages_a → PassesThrough came_b whole_b left_b inside_b stages_b
passed_as came_is whole_is left_is inside_is stages_is law =
    subst (λ (t : List ChainItem × List ℕ × List ChainItem × List ℕ × List Stage). PassesThrough t.0 t.1 t.2 t.3 t.4) (λ i. (came_is i, whole_is i, left_is i, inside_is i, stages_is i)) law

goes_as : {response : Bool} {n : ℕ} {deeds : List Deed} {w : Running} {whole : List ℕ} (count : ℕ) → AreAll response n count deeds w
    → standing_of response (done_all response n deeds w) ≡ stands_after (all_acts response n deeds w) (standing_of response w)
    → at_law.sources count (all_acts response n deeds w) (standing_of response w) ≡ whole → at_law.GoesOn count (all_acts response n deeds w) (standing_of response w)
    → GoesOn response n count deeds w whole
goes_as {response} {n} {deeds} {w} {whole} count all same is law = record {
  bytes = (λ i. item_bytes (sym all.lefts i) ++ behind count (same i)) ∙ (law.bytes ∙ ap (λ (l : List ℕ). behind count (standing_of response w) ++ l) is);
  order = subst (λ (t : List ChainItem × List ChainItem × Standing). Thinner (bare_in (chain_of response w.exchange) ++ bare_all t.0) (bare_all t.1 ++ bare_in t.2.stages))
      (λ i. (all.cames i, all.lefts i, sym same i)) law.order;
  sound = subst (IsSound count) (sym same) law.sound;
}

pub exchanges_pass : ExchangesPassBodies
exchanges_pass = record {
  last_stage = λ response n k w deeds new within are order.
      let all : AreAll response n (suc k) deeds w = are_all response n (suc k) deeds w are in
      let acts : List Act = all_acts response n deeds w in
      let v : Standing = standing_of response w in
      passed_as all.cames (all.buffers k) all.lefts (ap (behind (suc k)) (sym (all_does response n (suc k) deeds w are))) (ap (λ (u : Standing). u.stages) (sym (all_does response n (suc k) deeds w are)))
      (bodies_pass.last_stage k v acts new within all.are (subst IsInOrder (sym all.cames) order));
  unchanged = λ response n w deeds new are order.
      let all : AreAll response n 0 deeds w = are_all response n 0 deeds w are in
      let acts : List Act = all_acts response n deeds w in
      let v : Standing = standing_of response w in
      passed_as all.cames (ap item_bytes all.cames) all.lefts (ap (behind 0) (sym (all_does response n 0 deeds w are))) (ap (λ (u : Standing). u.stages) (sym (all_does response n 0 deeds w are)))
      (bodies_pass.unchanged v acts new all.are (subst IsInOrder (sym all.cames) order));
  last_goes_on = λ response n k w deeds sound are.
      let all : AreAll response n (suc k) deeds w = are_all response n (suc k) deeds w are in
      goes_as (suc k) all (all_does response n (suc k) deeds w are) (all.buffers k) (bodies_pass.goes_on (suc k) (standing_of response w) (all_acts response n deeds w) sound all.are);
  unchanged_goes_on = λ response n w deeds sound are.
      let all : AreAll response n 0 deeds w = are_all response n 0 deeds w are in
      goes_as 0 all (all_does response n 0 deeds w are) (ap item_bytes all.cames) (bodies_pass.goes_on 0 (standing_of response w) (all_acts response n deeds w) sound all.are);
  written = are_written;
}
