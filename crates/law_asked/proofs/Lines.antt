-- Deeds are acts, and a worker lets no stage through by those of the law.
use Rattle.std.proofs.Common.{◌≡◌, ℕ, Bool, true, false, List, [], ◌∷◌, ◌++◌, ap, ◌∙◌, sym, refl, subst}
use Rattle.std.specs.Prelude.{◌==◌, map, Option, None, Some, if◌then◌else◌}
use Rattle.std.proofs.lemmas.List.{append_assoc, append-nil}
use Rattle.contexts.specs.declared.parts.Contexts.{Contexts}
use Rattle.contexts.specs.declared.parts.Effect.{Effect}
use Rattle.exchange.specs.declared.types.Exchange.{Exchange}
use Rattle.exchange.specs.declared.types.Hub.{Hub}
use Rattle.exchange.specs.Answering.{with_held}
use Rattle.exchange.specs.Leaving.{send_request_item, send_response_item, send_item, send_items}
use Rattle.exchange.specs.Passing.{chain_of, with_chain, finish_put, put_to_chain, resume_held, bypass, pause_held, stage_of, resume_place}
use Rattle.filter_chain.specs.declared.stage.Stage.{Stage}
use Rattle.filter_chain.specs.declared.item.Asking.{Asking}
use Rattle.filter_chain.specs.declared.item.Asking.TheVariants.{Nothing, Over, Asks}
use Rattle.filter_chain.specs.declared.item.ChainItem.TheVariants.{Head, Piece, Trailers}
use Rattle.filter_chain.specs.declared.item.PassOutcome.{PassOutcome}
use Rattle.filter_chain.specs.Chains.{put, asked, continued, let_through}
use Rattle.filter_chain.specs.Flow.{left_in}
use Rattle.filter_chain.specs.declared.item.Ask.{Ask}
use Rattle.filter_chain.specs.declared.item.ChainItem.{ChainItem}
use Rattle.worker_model.specs.Room.{Room}
use Rattle.worker_model.specs.declared.types.Owner.{Owner}
use Rattle.worker_model.specs.Rooms.{apply_effect}
use Rattle.worker_model.specs.Steps.{action_of}
use Rattle.law_chain.specs.Acts.{Act, Standing, stands_after, IsLeft, IsAnswer, AreActs, gone_on, after_return, unless_at}
use Rattle.law_chain.specs.Acts as at_chain
use Rattle.law_chain.specs.PassThrough.{bare_all}
use Rattle.law_body.specs.Deeds.{Deed, comes, calls, answers, resumes, lets, turns, Running, standing_of, running_after, called, answered, done_by, resumed, acts_of, left_by, IsDeed, AreDeeds, written, Writes, IsWritten}
use Rattle.law_body.proofs.Deeds.{passed_is, puts_is, goes_is, goes_stands, gives_is}
use Rattle.law_flow.specs.Rooms.{running_of, Other, Others, IsAsked as IsAskedNext, IsMove, affected, quiet_room, question, stage_own, asked_exchange, moved_exchange, moved_room, Part, moves, others, Run, rests, goes, other_deeds, effect_deeds, part_deeds, run_deeds}
use Rattle.law_flow.specs.Rooms as rooms
use Rattle.law_asked.specs.Asked.{gone_of, AreKept}
use Rattle.law_asked.specs.Laws.{IsAsked, has_head}
use Rattle.law_asked.specs.Directions.{all_acts, IsKeptBy, AreKeptBy, MayAnswer, MayResume, MayBe, AllMayBe, DirectionsAsk, RequestsGoUp, TurnsAsk}
use Rattle.law_asked.proofs.Each.{each_is_asked, head_of}

-- ---- each deed is its acts

record IsOnly (response : Bool) (xh after : Exchange × Hub) : Type 0 where
  chain : chain_of response after.0 ≡ chain_of response xh.0
  contexts : after.1.contexts ≡ xh.1.contexts

leaves_only : (response : Bool) (n : ℕ) (item : ChainItem) (x : Exchange) (hub : Hub) → IsOnly response (x, hub) (send_item response n item (x, hub))
leaves_only false n item x hub = by_end x.has_ended item
  where
    by_end : (b : Bool) (i : ChainItem) → IsOnly false (x, hub) (if b then (x, hub) else send_request_item n i x hub)
    by_end true i = record { chain = refl; contexts = refl }
    by_end false (Head end) = record { chain = refl; contexts = refl }
    by_end false (Piece bytes end) = record { chain = refl; contexts = refl }
    by_end false Trailers = record { chain = refl; contexts = refl }
leaves_only true n item x hub = by_end x.has_ended item
  where
    by_end : (b : Bool) (i : ChainItem) → IsOnly true (x, hub) (if b then (x, hub) else send_response_item n i x hub)
    by_end true i = record { chain = refl; contexts = refl }
    by_end false (Head end) = record { chain = refl; contexts = refl }
    by_end false (Piece bytes end) = record { chain = refl; contexts = refl }
    by_end false Trailers = record { chain = refl; contexts = refl }

left_only : (response : Bool) (n : ℕ) (items : List ChainItem) (xh : Exchange × Hub) → IsOnly response xh (send_items response n items xh)
left_only response n [] xh = record { chain = refl; contexts = refl }
left_only response n (item ∷ items) xh =
    let mid : Exchange × Hub = send_item response n item xh in
    let first : IsOnly response xh mid = leaves_only response n item xh.0 xh.1 in
    let last : IsOnly response mid (send_items response n items mid) = left_only response n items mid in
    record { chain = last.chain ∙ first.chain; contexts = last.contexts ∙ first.contexts }

chain_with : (response : Bool) (stages : List Stage) (x : Exchange) → chain_of response (with_chain response stages x) ≡ stages
chain_with false stages x = refl
chain_with true stages x = refl

-- how the direction stands where these items left, and the stages and the contexts are these then
stands : (response : Bool) (n : ℕ) (due : Option Ask) (p : PassOutcome) (stages : List Stage) (x : Exchange) (hub : Hub) → IsLeft p
    → standing_of response (running_after due (finish_put response n p (with_chain response stages x) hub)) ≡ record { due = due; contexts = hub.contexts; stages = stages }
stands response n due p stages x hub left_ =
    let y : Exchange = with_chain response stages x in
    let only : IsOnly response (y, hub) (send_items response n (left_in p) (y, hub)) = left_only response n (left_in p) (y, hub) in
    ap (λ (xh : Exchange × Hub). standing_of response (running_after due xh)) (passed_is response n p y hub left_)
    ∙ (λ i. record { due = due; contexts = only.contexts i; stages = (only.chain ∙ chain_with response stages x) i })

calls_does : (response : Bool) (after : Hub) (w : Running) (r : Asking × List Stage × Contexts)
    → standing_of response (called response after w r) ≡ (at_chain.called after.contexts (standing_of response w) r).1
calls_does response after w (Nothing, stages, h) = refl
calls_does response after w (Over k, stages, h) = refl
calls_does response after w (Asks ask, stages, h) = λ i. record { due = Some ask; contexts = after.contexts; stages = chain_with response stages w.exchange i }

answers_does : (response : Bool) (n value : ℕ) (w : Running) (due : Option Ask) → w.exchange.has_ended ≡ false → MayAnswer value (standing_of response w) due → w.due ≡ due
    → standing_of response (answered response n value w due) ≡ (at_chain.answered value (standing_of response w) due).1
answers_does response n value w None runs may is = refl
answers_does response n value w (Some ask) runs may is = by_value (value == 0) may
  where
    by_value : (b : Bool) → (b ≡ true → IsLeft (continued (after_return ask (standing_of response w)) ask.stage (chain_of response w.exchange)).0)
        → standing_of response (running_after None (if b then resume_held response n ask.stage w.exchange (pause_held response ask.stage w.exchange w.hub) else (w.exchange, pause_held response ask.stage w.exchange w.hub)))
        ≡ (if b then gone_on None (continued (after_return ask (standing_of response w)) ask.stage (chain_of response w.exchange))
        else ([], record { due = None; contexts = after_return ask (standing_of response w); stages = chain_of response w.exchange })).1
    by_value true left_ = goes_stands response n ask.stage None w.exchange (pause_held response ask.stage w.exchange w.hub) runs (left_ refl)
    by_value false left_ = refl

resumes_does : (response : Bool) (n : ℕ) (w : Running) (o : Option ℕ) → w.exchange.has_ended ≡ false → MayResume (standing_of response w) o
    → standing_of response (running_after w.due (resume_place response n o w.exchange w.hub)) ≡ stands_after (resumed o) (standing_of response w)
resumes_does response n w None runs may = refl
resumes_does response n w (Some k) runs may = goes_stands response n k w.due w.exchange w.hub runs may

does_as : (response : Bool) (n : ℕ) (deed : Deed) (w : Running) → MayBe response deed w → standing_of response (done_by response n deed w) ≡ stands_after (acts_of response deed w) (standing_of response w)
does_as response n (comes item) w may =
    let r : PassOutcome × List Stage = put w.hub.contexts item (chain_of response w.exchange) in
    ap (λ (xh : Exchange × Hub). standing_of response (running_after w.due xh)) (puts_is response n item w.exchange w.hub may.0.0 may.0.1)
    ∙ stands response n w.due r.0 r.1 w.exchange w.hub may.1
does_as response n (calls after) w may = calls_does response after w (asked w.hub.contexts (chain_of response w.exchange))
does_as response n (answers value) w may = answers_does response n value w w.due may.0.0 may.1 refl
does_as response n (resumes vm context) w may = resumes_does response n w (stage_of vm context (chain_of response w.exchange)) may.0.0 may.1
does_as response n (lets k) w may =
    let r : PassOutcome × List Stage × Contexts = let_through w.hub.contexts k (chain_of response w.exchange) in
    ap (λ (xh : Exchange × Hub). standing_of response (running_after (unless_at k w.due) xh)) (gives_is response n k w.exchange w.hub may.0.0)
    ∙ stands response n (unless_at k w.due) r.0 r.1 w.exchange (with_held r.2 w.hub) may.1
does_as response n (turns y after) w may = λ i. record { due = w.due; contexts = after.contexts; stages = may i }

-- ---- what left

left_more : (a b : List Act) (v : Standing) → at_chain.left_by (a ++ b) v ≡ at_chain.left_by a v ++ at_chain.left_by b (stands_after a v)
left_more [] b v = refl
left_more (act ∷ a) b v =
    ap (λ (l : List ChainItem). (at_chain.done_by act v).0 ++ l) (left_more a b (at_chain.done_by act v).1)
    ∙ sym (append_assoc (at_chain.done_by act v).0 (at_chain.left_by a (at_chain.done_by act v).1) (at_chain.left_by b (stands_after a (at_chain.done_by act v).1)))

lefts : (response : Bool) (n : ℕ) (deeds : List Deed) (w : Running) → AllMayBe response n deeds w
    → at_chain.left_by (all_acts response n deeds w) (standing_of response w) ≡ left_by response n deeds w
lefts response n [] w may = refl
lefts response n (deed ∷ deeds) w may =
    let v : Standing = standing_of response w in
    let a : List Act = acts_of response deed w in
    let next : Running = done_by response n deed w in
    let b : List Act = all_acts response n deeds next in
    let same : standing_of response next ≡ stands_after a v = does_as response n deed w may.0 in
    left_more a b v ∙ ap (λ (l : List ChainItem). at_chain.left_by a v ++ l) (ap (at_chain.left_by b) (sym same) ∙ lefts response n deeds next may.1)

-- ---- no stage is let through

kept_more : (k : ℕ) (a b : List Act) → AreKept k a → AreKept k b → AreKept k (a ++ b)
kept_more k [] b first later = later
kept_more k (act ∷ a) b first later = (first.0, kept_more k a b first.1 later)

kept_resumed : (k : ℕ) (o : Option ℕ) → AreKept k (resumed o)
kept_resumed k None = tt
kept_resumed k (Some j) = (tt, tt)

kept_acts : (response : Bool) (k : ℕ) (deed : Deed) (w : Running) → IsKeptBy k deed → AreKept k (acts_of response deed w)
kept_acts response k (comes item) w kept = (tt, tt)
kept_acts response k (calls after) w kept = (tt, tt)
kept_acts response k (answers value) w kept = (tt, tt)
kept_acts response k (resumes vm context) w kept = kept_resumed k (stage_of vm context (chain_of response w.exchange))
kept_acts response k (lets j) w kept = (kept, tt)
kept_acts response k (turns y after) w kept = (tt, tt)

kept_all : (response : Bool) (n k : ℕ) (deeds : List Deed) (w : Running) → AreKeptBy k deeds → AreKept k (all_acts response n deeds w)
kept_all response n k [] w kept = tt
kept_all response n k (deed ∷ deeds) w kept =
    kept_more k (acts_of response deed w) (all_acts response n deeds (done_by response n deed w)) (kept_acts response k deed w kept.0)
    (kept_all response n k deeds (done_by response n deed w) kept.1)

pub directions_ask : DirectionsAsk
directions_ask response n k w deeds new may less kept =
    let acts : List Act = all_acts response n deeds w in
    let each : IsAsked k acts (standing_of response w) = each_is_asked (standing_of response w) acts k new less (kept_all response n k deeds w kept) in
    let same : at_chain.left_by acts (standing_of response w) ≡ left_by response n deeds w = lefts response n deeds w may in
    record {
      asked = each;
      left = same;
      head = λ is.
          let left_ : has_head (bare_all (at_chain.left_by acts (standing_of response w))) ≡ true = ap (λ (l : List ChainItem). has_head (bare_all l)) same ∙ is in
          let gone : has_head (gone_of k acts (standing_of response w)) ≡ true = head_of (bare_all (at_chain.left_by acts (standing_of response w))) each.leaves left_ in
          (head_of (gone_of k acts (standing_of response w)) each.goes_on gone, gone);
    }

-- ---- what leaves goes up

left_up : (n : ℕ) (items : List ChainItem) (x : Exchange) (hub : Hub) → x.has_ended ≡ false → send_items false n items (x, hub) ≡ written false n items (x, hub)
left_up n [] x hub runs = refl
left_up n (Head end ∷ items) x hub runs =
    ap (λ (b : Bool). send_items false n items (if b then (x, hub) else send_request_item n (Head end) x hub)) runs ∙ left_up n items (send_request_item n (Head end) x hub).0 (send_request_item n (Head end) x hub).1 runs
left_up n (Piece bytes end ∷ items) x hub runs =
    ap (λ (b : Bool). send_items false n items (if b then (x, hub) else send_request_item n (Piece bytes end) x hub)) runs ∙ left_up n items x (send_request_item n (Piece bytes end) x hub).1 runs
left_up n (Trailers ∷ items) x hub runs = ap (λ (b : Bool). send_items false n items (if b then (x, hub) else send_request_item n Trailers x hub)) runs ∙ left_up n items x (send_request_item n Trailers x hub).1 runs

went_up : (n : ℕ) (due : Option Ask) (p : PassOutcome) (stages : List Stage) (contexts : Contexts) (w : Running) (xh : Exchange × Hub) → w.exchange.has_ended ≡ false → IsLeft p
    → xh ≡ finish_put false n p (with_chain false stages w.exchange) (with_held contexts w.hub) → Writes false n (left_in p ++ []) w (running_after due xh)
went_up n due p stages contexts w xh runs left_ is =
    subst (λ (l : List ChainItem). Writes false n l w (running_after due xh)) (sym (append-nil (left_in p)))
    (record {
      runs = runs;
      stages = stages;
      contexts = contexts;
      writes =
          is
          ∙ (passed_is false n p (with_chain false stages w.exchange) (with_held contexts w.hub) left_
          ∙ left_up n (left_in p) (with_chain false stages w.exchange) (with_held contexts w.hub) runs);
    })

nothing_up : (n : ℕ) (due : Option Ask) (contexts : Contexts) (w : Running) → w.exchange.has_ended ≡ false → Writes false n [] w (running_after due (w.exchange, with_held contexts w.hub))
nothing_up n due contexts w runs = record { runs = runs; stages = w.exchange.request; contexts = contexts; writes = refl }

goes_up_by : (n k : ℕ) (due : Option Ask) (h : Contexts) (w : Running) → w.exchange.has_ended ≡ false → IsLeft (continued h k w.exchange.request).0
    → Writes false n ((gone_on due (continued h k w.exchange.request)).0 ++ []) w (running_after due (resume_held false n k w.exchange (with_held h w.hub)))
goes_up_by n k due h w runs left_ =
    let r : PassOutcome × List Stage × Contexts = continued h k w.exchange.request in
    went_up n due r.0 r.1 r.2 w (resume_held false n k w.exchange (with_held h w.hub)) runs left_ (goes_is false n k w.exchange (with_held h w.hub) runs)

calls_up : (after : Contexts) (v : Standing) (r : Asking × List Stage × Contexts) → (at_chain.called after v r).0 ++ [] ≡ []
calls_up after v (Nothing, stages, h) = refl
calls_up after v (Over k, stages, h) = refl
calls_up after v (Asks ask, stages, h) = refl

answers_up : (n value : ℕ) (w : Running) (due : Option Ask) → w.exchange.has_ended ≡ false → MayAnswer value (standing_of false w) due → w.due ≡ due
    → Writes false n ((at_chain.answered value (standing_of false w) due).0 ++ []) w (answered false n value w due)
answers_up n value w None runs may is = record { runs = runs; stages = w.exchange.request; contexts = w.hub.contexts; writes = refl }
answers_up n value w (Some ask) runs may is = by_value (value == 0) may
  where
    by_value : (b : Bool) → (b ≡ true → IsLeft (continued (after_return ask (standing_of false w)) ask.stage w.exchange.request).0)
        → Writes false n
        ((if b then gone_on None (continued (after_return ask (standing_of false w)) ask.stage w.exchange.request)
        else ([], record { due = None; contexts = after_return ask (standing_of false w); stages = w.exchange.request })).0 ++ [])
        w (running_after None (if b then resume_held false n ask.stage w.exchange (pause_held false ask.stage w.exchange w.hub) else (w.exchange, pause_held false ask.stage w.exchange w.hub)))
    by_value true left_ = goes_up_by n ask.stage None (after_return ask (standing_of false w)) w runs (left_ refl)
    by_value false left_ = nothing_up n None (after_return ask (standing_of false w)) w runs

resumes_up : (n : ℕ) (w : Running) (o : Option ℕ) → w.exchange.has_ended ≡ false → MayResume (standing_of false w) o
    → Writes false n (at_chain.left_by (resumed o) (standing_of false w)) w (running_after w.due (resume_place false n o w.exchange w.hub))
resumes_up n w None runs may = nothing_up n w.due w.hub.contexts w runs
resumes_up n w (Some k) runs may = goes_up_by n k w.due w.hub.contexts w runs may

one_up : (n : ℕ) (deed : Deed) (w : Running) → MayBe false deed w → IsWritten false n deed w
one_up n (comes item) w may =
    let r : PassOutcome × List Stage = put w.hub.contexts item w.exchange.request in
    went_up n w.due r.0 r.1 w.hub.contexts w (put_to_chain false n item (w.exchange, w.hub)) may.0.0 may.1 (puts_is false n item w.exchange w.hub may.0.0 may.0.1)
one_up n (calls after) w may = calls_up after.contexts (standing_of false w) (asked w.hub.contexts w.exchange.request)
one_up n (answers value) w may = answers_up n value w w.due may.0.0 may.1 refl
one_up n (resumes vm context) w may = resumes_up n w (stage_of vm context w.exchange.request) may.0.0 may.1
one_up n (lets k) w may =
    let r : PassOutcome × List Stage × Contexts = let_through w.hub.contexts k w.exchange.request in
    went_up n (unless_at k w.due) r.0 r.1 r.2 w (bypass false n k w.exchange w.hub) may.0.0 may.1 (gives_is false n k w.exchange w.hub may.0.0)
one_up n (turns y after) w may = refl

pub requests_go_up : RequestsGoUp
requests_go_up n w [] may = tt
requests_go_up n w (deed ∷ deeds) may = (one_up n deed w may.0, requests_go_up n (done_by false n deed w) deeds may.1)

-- ---- a worker's deeds

deed_may : (response : Bool) (count : ℕ) (deed : Deed) (w : Running) → IsDeed response count deed w → MayBe response deed w
deed_may response count (comes item) w is = (is.runs, is.acts.0)
deed_may response count (calls after) w is = tt
deed_may response count (answers value) w is = (is.runs, by_due w.due is.acts.0)
  where
    by_due : (due : Option Ask) → IsAnswer value (standing_of response w) due → MayAnswer value (standing_of response w) due
    by_due None answer = tt
    by_due (Some ask) answer = answer.1
deed_may response count (resumes vm context) w is = (is.runs, by_place (stage_of vm context (chain_of response w.exchange)) is.acts)
  where
    by_place : (o : Option ℕ) → AreActs count (resumed o) (standing_of response w) → MayResume (standing_of response w) o
    by_place None are = tt
    by_place (Some k) are = are.0.1
deed_may response count (lets k) w is = (is.runs, is.acts.0.1)
deed_may response count (turns y after) w is = is.chain

deeds_may : (response : Bool) (n count : ℕ) (deeds : List Deed) (w : Running) → AreDeeds response n count deeds w → AllMayBe response n deeds w
deeds_may response n count [] w are = tt
deeds_may response n count (deed ∷ deeds) w are = (deed_may response count deed w are.0, deeds_may response n count deeds (done_by response n deed w) are.1)

both_kept : (k : ℕ) (a b : List Deed) → AreKeptBy k a → AreKeptBy k b → AreKeptBy k (a ++ b)
both_kept k [] b first later = later
both_kept k (deed ∷ a) b first later = (first.0, both_kept k a b first.1 later)

kept_other : (k : ℕ) {response : Bool} {n count : ℕ} {due : Option Ask} {x : Exchange} {room : Room} {y : Exchange} {after : Room} (o : Other response n count due x room y after) → AreKeptBy k (other_deeds o)
kept_other k (rooms.wakes w) = (tt, (tt, tt))
kept_other k (rooms.leaves l) = (tt, tt)

kept_effects : (k : ℕ) (response : Bool) (n count : ℕ) (due : Option Ask) (vm : ℕ) (own : Owner) (es : List Effect) (x : Exchange) (room : Room) (z : Exchange)
    (are : Others response n count due vm own es x room z) → AreKeptBy k (effect_deeds response n count due vm own es x room z are)
kept_effects k response n count due vm own [] x room z are = tt
kept_effects k response n count due vm own (e ∷ es) x room z are =
    both_kept k (other_deeds are.1) (effect_deeds response n count due vm own es are.0 (apply_effect vm own e.context e.what room) z are.2) (kept_other k are.1)
    (kept_effects k response n count due vm own es are.0 (apply_effect vm own e.context e.what room) z are.2)

kept_comes : (k : ℕ) (items : List ChainItem) → AreKeptBy k (map comes items)
kept_comes k [] = tt
kept_comes k (item ∷ items) = (tt, kept_comes k items)

kept_part : (k : ℕ) {H : Type 0} {response : Bool} {n count : ℕ} {x : Exchange} {room : Room} {y : Exchange} {after : Room} (part : Part H response n count x room y after) → AreKeptBy k (part_deeds part)
kept_part k {H} {response} {n} {count} {x} {room} (moves c q m) = (
  tt,
  both_kept k (effect_deeds response n count (Some q.ask) q.stage.vm (stage_own q) c.contexts.effects (asked_exchange q) (quiet_room c (question q)) m.behind m.effects)
      (answers (action_of m.value) ∷ turns (moved_exchange m) (moved_room m).hub ∷ [])
      (kept_effects k response n count (Some q.ask) q.stage.vm (stage_own q) c.contexts.effects (asked_exchange q) (quiet_room c (question q)) m.behind m.effects) (tt, (tt, tt)),
)
kept_part k {H} {response} {n} {count} {x} {room} (rooms.puts items is) = both_kept k (map comes items) (turns _ _ ∷ []) (kept_comes k items) (tt, tt)
kept_part k {H} {response} {n} {count} {x} {room} (others y after is) = kept_other k is

kept_run : (k : ℕ) {H : Type 0} {response : Bool} {n count : ℕ} {x y : Exchange} {room after : Room} (run : Run H response n count x room y after) → AreKeptBy k (run_deeds run)
kept_run k (rests x room) = tt
kept_run k (goes part run) = both_kept k (part_deeds part) (run_deeds run) (kept_part k part) (kept_run k run)

pub turns_ask : {H : Type 0} → TurnsAsk H
turns_ask {H} calling plan response n count k x b e items steps passed new less =
    directions_ask response n k (running_of None x b.room) (run_deeds passed.run) new (deeds_may response n count (run_deeds passed.run) (running_of None x b.room) passed.deeds.are) less (kept_run k passed.run)
