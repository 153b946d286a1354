-- The steps that bring no item to the line of a number: moves, and the jobs that are of no line.
use Rattle.std.proofs.Common.{◌≡◌, ℕ, zero, suc, ◌==◌, Bool, true, false, not, ◌||◌, ◌&&◌, List, [], ◌∷◌, ◌++◌, map, filter, reverse, refl, ap, ◌∙◌, sym, subst}
use Rattle.filter_host.specs.Called.{Calling}
use Rattle.std.proofs.lemmas.List.{append-nil}
use Rattle.std.specs.Prelude.{Option, None, Some, is_some, slice_get, slice_set, nat_lt}
use Rattle.std.specs.List.{list_any}
use Rattle.callouts.specs.Callouts.{callout_in, is_call_line, after_heard as after_part_heard}
use Rattle.callouts.specs.Steps.{After, after_event, after_read}
use Rattle.callouts.specs.declared.types.Callout.{Callout}
use Rattle.callouts.specs.declared.types.CallStep.{CallStep}
use Rattle.callouts.specs.declared.types.CallStep.TheVariants as steps
use Rattle.contexts.specs.declared.parts.CallAnswer.{CallAnswer}
use Rattle.contexts.specs.declared.parts.Tick.{Tick}
use Rattle.contexts.specs.Creating.{plugin_in, next_id, root_created}
use Rattle.contexts.specs.Reached.{vm_in, tick_in}
use Rattle.filter_host.specs.Course.{Course, ends, asks, measures, hears}
use Rattle.filter_host.specs.Heard.{Heard}
use Rattle.filter_host.proofs.Holds.{AllEnds, all_then}
use Rattle.filter_host.specs.declared.host.Callback.{Callback}
use Rattle.filter_host.specs.declared.host.Callback.TheVariants as callbacks
use Rattle.filter_host.specs.declared.host.Death.TheVariants as deaths
use Rattle.exchange.specs.declared.types.Exchange.{Exchange}
use Rattle.exchange.specs.declared.types.Filter.{Filter}
use Rattle.exchange.specs.declared.types.Hub.{Hub}
use Rattle.exchange.specs.Answering.{cut_off, answer_directly, with_held}
use Rattle.exchange.specs.Heads.{is_final}
use Rattle.exchange.specs.Leaving.{request_framing, bytes_sent_to as sending_to}
use Rattle.exchange.specs.Passing as passing
use Rattle.exchange.specs.Passing.{chain_of, with_chain, finish_put}
use Rattle.law_exchange.specs.Lives.{answers, expires, turns, is_over, IsKin}
use Rattle.law_exchange.specs.Own.{AreOn, SendsOn}
use Rattle.law_exchange.specs.Responses.{IsKinDown}
use Rattle.law_exchange.specs.Traffic.{Traffic, up_traffic}
use Rattle.law_exchange.proofs.Own.{own_line}
use Rattle.law_exchange.proofs.Quiet.{reply_to}
use Rattle.law_exchange.proofs.Traffic.{ups_join}
use Rattle.filter_chain.specs.declared.stage.Stage as chain_stage
use Rattle.filter_chain.specs.declared.item.Asking.{Asking}
use Rattle.filter_chain.specs.declared.item.Asking.TheVariants.{Nothing, Over, Asks}
use Rattle.filter_chain.specs.declared.item.PassOutcome.TheVariants as passed
use Rattle.filter_chain.specs.Chains.{asked, ready}
use Rattle.gate_io.specs.declared.event.Side.{Side}
use Rattle.gate_io.specs.declared.event.Side.TheVariants.{Down}
use Rattle.h1_model.specs.Fields.{Pair}
use Rattle.store_model.specs.declared.call.Reply.{Reply}
use Rattle.store_model.specs.declared.call.Reply.TheVariants as replies
use Rattle.worker_model.specs.Calls.{call_job, with_call_step, answer_if, put_call_answer, has_listener, close_call}
use Rattle.worker_model.specs.Room.{Room}
use Rattle.worker_model.specs.declared.types.Asked.{Asked}
use Rattle.worker_model.specs.declared.types.Job.{Job}
use Rattle.worker_model.specs.declared.types.Job.TheVariants as jobs
use Rattle.worker_model.specs.declared.types.Line.{Line}
use Rattle.worker_model.specs.declared.types.NewContext.{NewContext}
use Rattle.worker_model.specs.declared.types.OtherStep.{OtherStep}
use Rattle.worker_model.specs.declared.types.OtherStep.TheVariants as others
use Rattle.worker_model.specs.declared.types.Owner.{Owner}
use Rattle.worker_model.specs.declared.types.Owner.TheVariants.{Nobody, Stage}
use Rattle.worker_model.specs.Moves.{asks_at, asks_line, asks_in, asks_exchange, asks_chain, asks_as, asks_response}
use Rattle.worker_model.specs.Plan.{Plan}
use Rattle.worker_model.specs.Rooms.{exchange_moves, has_move, with_marks, all_lines, with_lines, place_in, with_contexts, lose_vm_in, is_dead}
use Rattle.worker_model.specs.Steps.{Both, both, Answered, callback_result, Then, continue_with, nothing_more, called_in, called_live, calls_live, with_jobs_first, unless_zero, has_vm, finish_context, delete_context, apply_stage_action, is_drawn_out, may_root, root_jobs, create_root, with_filter, may_stream, with_stream, create_stream, create_filter, filter_at, create_context, is_live, new_stage, exchange_with_stages, tick_of, tick_root, is_due_tick, is_late, expire_all, take_notice_reply, moved, move_at, tells, made_one, made_with, roots, streams, ticks, tells_ready, ask_notice, notice_step, reads_call, drop_answer, tells_call, ends_call, works_call, works_other, works, callback_of, number_of, vm_length, plugin_length}
use Rattle.law_lines.specs.Logs.{WriteLogs}
use Rattle.law_lines.proofs.Callouts.{close_beside}
use Rattle.law_lines.proofs.Finding.{IsOnce}
use Rattle.law_lines.proofs.Kept.{Kept, Staid, over_told, by_bool, kept_itself, passed_on_kept}
use Rattle.law_lines.proofs.Upward.{Keeps, keeps_then, Still as UpStill, still_itself as up_still_itself, still_then as up_still_then, still_keeps, aside_still, answer_still, directly_still, response_still, asked_keeps}
use Rattle.law_lines.proofs.Looks.{is_n, Beside, beside_itself, sends_beside, IsPlain, LivesOn, Went, goes_aside, has_too_much, is_asked, has_filter, goes_then, Quietly, aside, equal_by, Still, still_aside, still_then, LineGoes, set_still, does_deed, note_still, looks_aside, Exs}
use Rattle.law_lines.proofs.Rooms.{AllFree, Once, Calm, calm_then, calm_of, calm_beside, calm_itself, same_sent, calm_all, died_calm, answered_calm, logs_then, CalmThen, Calmly, in_front_calm, nothing_calm, unless_zero_calm, done_calm, deletes_calm, acts_on_calm}

-- ---- a note of an exchange without filters

pub note_lives : (n : ℕ) (x y : Exchange) (hub after : Hub) → IsPlain y → IsKin x y → IsKinDown x y → Beside n hub after → (x.has_ended ≡ true → y.has_ended ≡ true)
    → (y.is_answered ≡ false → y.has_ended ≡ false → (x.is_answered ≡ false) × (x.has_ended ≡ false) × (y.told ≡ x.told)) → (is_some x.reader ≡ true → is_some y.reader ≡ true) → LivesOn n x hub y after
note_lives n x y hub after plain up down b ended told opened = record {
  deeds = turns y after ∷ [];
  plain = plain;
  lives = λ dn. (((up, b.up), (λ e. (down, b.down))), (refl, refl));
  no_request = refl;
  no_response = refl;
  ended = ended;
  told = told;
  opened = opened;
}

-- it has other stages or filters, of which there are none
pub alike_kin : (x y : Exchange) → IsPlain y → y ≡ record x { filters = y.filters; request = y.request; response = y.response; is_entered = y.is_entered } → IsKin x y × IsKinDown x y
alike_kin x y p is =
    subst (λ (z : Exchange). (z.request ≡ []) × (z.response ≡ []) → IsKin x z × IsKinDown x z) (sym is)
    (λ none. (
      record { unfiltered = none.0; framed = refl; stays_over = λ o. o },
      record {
        request = none.0;
        response = none.1;
        head = refl;
        answered = refl;
        method = refl;
        version = refl;
        framed = λ o. refl;
        stays = λ o r. refl;
        ended = λ e. (e, refl);
        ends = λ runs e. clash x.has_ended runs e;
      },
    )) (p.1, p.2)
  where
    clash : (b : Bool) → b ≡ false → b ≡ true → {A : Type 0} → A
    clash b here there = absurd (cc)

-- ---- stages are made

pub no_stages : (dead : List ℕ) (filters : List Filter) → filters ≡ [] → ◌≡◌ {A = List chain_stage.Stage} (map (new_stage false) (filter (is_live dead) filters)) []
no_stages dead filters is = ap (λ (l : List Filter). map (new_stage false) (filter (is_live dead) l)) is

no_stages_back : (dead : List ℕ) (filters : List Filter) → filters ≡ [] → ◌≡◌ {A = List chain_stage.Stage} (reverse (map (new_stage true) (filter (is_live dead) filters))) []
no_stages_back dead filters is = ap (λ (l : List Filter). reverse (map (new_stage true) (filter (is_live dead) l))) is

-- without filters none are made
pub enters_plain : (n : ℕ) (dead : List ℕ) (x : Exchange) (hub : Hub) → IsPlain x → LivesOn n x hub (exchange_with_stages dead x) hub
enters_plain n dead x hub p =
    by_bool (λ (y : Exchange). LivesOn n x hub y hub) (x.has_ended || x.is_answered) x _ (λ e. (aside n x hub hub (beside_itself n hub)).plain p)
    (λ e.
    let y : Exchange = record x { request = map (new_stage false) (filter (is_live dead) x.filters); response = reverse (map (new_stage true) (filter (is_live dead) x.filters)); is_entered = true } in
    let q : IsPlain y = (p.0, no_stages dead x.filters p.0, no_stages_back dead x.filters p.0) in
    note_lives n x y hub hub q (alike_kin x y q refl).0 (alike_kin x y q refl).1 (beside_itself n hub) (λ d. d) (λ a d. (a, d, refl)) (λ o. o))

-- the context of a filter is made
emptied_filters : (k : ℕ) (f : Filter) (fs : List Filter) → slice_set fs k f ≡ [] → fs ≡ []
emptied_filters k f [] is = refl
emptied_filters zero f (g ∷ fs) is = absurd (cc)
emptied_filters (suc k) f (g ∷ fs) is = absurd (cc)

with_filter_quietly : (n k : ℕ) (f : Filter) (x : Exchange) (hub : Hub) → Quietly n x hub (with_filter k f x) hub
with_filter_quietly n k f x hub = record {
  more = [];
  grows = sym (append-nil (up_traffic n hub.sent));
  asked = refl;
  place = refl;
  staid = λ s. s;
  filtered = emptied_filters k f x.filters;
  entered = refl;
  framed = refl;
  over = λ o. o;
  keeps = still_keeps n (x, hub) (with_filter k f x, hub) (record { minor = refl; framed = refl; reader = refl; live = λ e. (e, refl); entered = refl; answered = λ a. a; sends = refl });
  how = has_filter k f x hub;
  plain = λ p.
      let q : IsPlain (with_filter k f x) = (ap (λ (l : List Filter). slice_set l k f) p.0, p.1, p.2) in
      note_lives n x (with_filter k f x) hub hub q (alike_kin x (with_filter k f x) q refl).0 (alike_kin x (with_filter k f x) q refl).1 (beside_itself n hub) (λ d. d) (λ a d. (a, d, refl)) (λ o. o);
}

-- ---- the stage that is asked

-- what is known of any exchange
record Roughly (n : ℕ) (x : Exchange) (hub : Hub) (y : Exchange) (after : Hub) : Type 0 where
  more : List Traffic
  grows : up_traffic n after.sent ≡ up_traffic n hub.sent ++ more
  asked : y.asked ≡ x.asked
  place : y.place ≡ x.place
  staid : Staid x → Staid y
  filtered : y.filters ≡ [] → x.filters ≡ []

directly_on : (n status : ℕ) (fields : List Pair) (body : List ℕ) (x : Exchange) (hub : Hub) → SendsOn n hub (answer_directly n status fields body x hub).1
directly_on n status fields body x hub =
    by_bool (λ (p : Exchange × Hub). SendsOn n hub p.1) (x.is_head_out || not (is_final status)) (cut_off x hub) _ (λ e. record { more = []; adds = sym (append-nil hub.sent); own = tt })
    (λ e. record { more = sending_to n Down (reply_to status fields body x hub); adds = refl; own = bytes_on n Down (reply_to status fields body x hub) })
  where
    bytes_on : (n : ℕ) (side : Side) (bytes : List ℕ) → AreOn n (sending_to n side bytes)
    bytes_on n side [] = tt
    bytes_on n side (b ∷ bytes) = (refl, tt)

over_on : (response : Bool) (n : ℕ) (x : Exchange) (hub : Hub) → SendsOn n hub (finish_put response n passed.Over x hub).1
over_on false n x hub = own_line n (answers true 413 [] []) x hub tt
over_on true n x hub = directly_on n 500 [] [] x hub

asks_as_on : (response : Bool) (n : ℕ) (a : Asking) (x : Exchange) (hub : Hub) → SendsOn n hub (asks_as response n a x hub).2
asks_as_on response n Nothing x hub = record { more = []; adds = sym (append-nil hub.sent); own = tt }
asks_as_on response n (Over k) x hub = let s : SendsOn n hub (finish_put response n passed.Over x hub).1 = over_on response n x hub in record { more = s.more; adds = s.adds; own = s.own }
asks_as_on response n (Asks ask) x hub = record { more = []; adds = sym (append-nil hub.sent); own = tt }

asks_as_kept : (response : Bool) (n : ℕ) (a : Asking) (x : Exchange) (hub : Hub) → Kept x (asks_as response n a x hub).1
asks_as_kept response n Nothing x hub = kept_itself x
asks_as_kept response n (Over k) x hub = passed_on_kept response n passed.Over x hub
asks_as_kept response n (Asks ask) x hub = kept_itself x

chained : (response : Bool) (t : List chain_stage.Stage) (x : Exchange) → ((with_chain response t x).asked ≡ x.asked) × ((with_chain response t x).place ≡ x.place) × (Staid x → Staid (with_chain response t x)) × ((with_chain response t x).filters ≡ x.filters)
chained false t x = (refl, refl, (λ s. s), refl)
chained true t x = (refl, refl, (λ s. s), refl)

pub asks_on : (n m : ℕ) (x : Exchange) (hub : Hub) → SendsOn m hub (asks_exchange m x hub).2
asks_on n m x hub =
    let t = asked hub.contexts (chain_of (asks_response x) x) in
    let s : SendsOn m (with_held t.2 hub) (asks_exchange m x hub).2 = asks_as_on (asks_response x) m t.0 (with_chain (asks_response x) t.1 x) (with_held t.2 hub) in
    record { more = s.more; adds = s.adds; own = s.own }

plain_chain : (response : Bool) (x : Exchange) → IsPlain x → chain_of response x ≡ []
plain_chain false x p = p.1
plain_chain true x p = p.2

asks_plain : (n : ℕ) (x : Exchange) (hub : Hub) → IsPlain x → LivesOn n x hub (asks_exchange n x hub).1 (asks_exchange n x hub).2
asks_plain n x hub p =
    subst (λ (s : List chain_stage.Stage). LivesOn n x hub (asks_chain (asks_response x) n x hub (asked hub.contexts s)).1 (asks_chain (asks_response x) n x hub (asked hub.contexts s)).2) (sym (plain_chain (asks_response x) x p))
    (none (asks_response x))
  where
    none : (response : Bool) → LivesOn n x hub (with_chain response [] x) (with_held hub.contexts hub)
    none false =
        let y : Exchange = with_chain false [] x in let q : IsPlain y = (p.0, refl, p.2) in
        note_lives n x y hub (with_held hub.contexts hub) q (alike_kin x y q refl).0 (alike_kin x y q refl).1 (beside_itself n hub) (λ d. d) (λ a d. (a, d, refl)) (λ o. o)
    none true =
        let y : Exchange = with_chain true [] x in let q : IsPlain y = (p.0, p.1, refl) in
        note_lives n x y hub (with_held hub.contexts hub) q (alike_kin x y q refl).0 (alike_kin x y q refl).1 (beside_itself n hub) (λ d. d) (λ a d. (a, d, refl)) (λ o. o)

chain_notes : (response : Bool) (t : List chain_stage.Stage) (x : Exchange) → ((with_chain response t x).is_entered ≡ x.is_entered) × (request_framing (with_chain response t x) ≡ request_framing x) × (is_over (with_chain response t x) ≡ is_over x)
chain_notes false t x = (refl, refl, refl)
chain_notes true t x = (refl, refl, refl)

-- too much waits
over_still : (response : Bool) (n : ℕ) (x : Exchange) (hub : Hub) → UpStill n (x, hub) (finish_put response n passed.Over x hub)
over_still false n x hub = answer_still n true 413 [] [] x hub
over_still true n x hub = directly_still n 500 [] [] x hub

asks_as_still : (response : Bool) (n : ℕ) (a : Asking) (x : Exchange) (hub : Hub) → UpStill n (x, hub) ((asks_as response n a x hub).1, (asks_as response n a x hub).2)
asks_as_still response n Nothing x hub = up_still_itself n (x, hub)
asks_as_still response n (Over k) x hub =
    let p : Exchange × Hub = finish_put response n passed.Over x hub in
    up_still_then n (x, hub) p (p.0, (with_marks p).1) (over_still response n x hub) (aside_still n p.0 p.1 (with_marks p).1 refl)
asks_as_still response n (Asks ask) x hub = up_still_itself n (x, hub)

asks_keeps : (n : ℕ) (x : Exchange) (hub : Hub) → Keeps n (x, hub) ((asks_exchange n x hub).1, (asks_exchange n x hub).2)
asks_keeps n x hub = by_side (asks_response x)
  where
    Goal : Bool → Type 0
    Goal response =
        Keeps n (x, hub) ((asks_chain response n x hub (asked hub.contexts (chain_of response x))).1, (asks_chain response n x hub (asked hub.contexts (chain_of response x))).2)

    by_side : (response : Bool) → Goal response
    by_side true =
        let t = asked hub.contexts x.response in
        still_keeps n (x, hub) _ (up_still_then n (x, hub) (with_chain true t.1 x, with_held t.2 hub) _ (response_still n t.1 x hub (with_held t.2 hub) refl) (asks_as_still true n t.0 (with_chain true t.1 x) (with_held t.2 hub)))
    by_side false =
        let t = asked hub.contexts x.request in
        keeps_then n (x, hub) (with_chain false t.1 x, with_held t.2 hub) _ (asked_keeps n x hub) (still_keeps n (with_chain false t.1 x, with_held t.2 hub) _ (asks_as_still false n t.0 (with_chain false t.1 x) (with_held t.2 hub)))

asks_as_went : (response : Bool) (n : ℕ) (a : Asking) (x : Exchange) (hub : Hub) → x.has_ended ≡ false → Went n x hub (asks_as response n a x hub).1 (asks_as response n a x hub).2
asks_as_went response n Nothing x hub runs = goes_aside x hub hub (beside_itself n hub)
asks_as_went response n (Over k) x hub runs =
    let p : Exchange × Hub = finish_put response n passed.Over x hub in
    goes_then x p.0 p.0 hub p.1 (with_marks p).1 (has_too_much response x hub runs) (goes_aside p.0 p.1 (with_marks p).1 (record { up = refl; down = refl; client = refl }))
asks_as_went response n (Asks ask) x hub runs = goes_aside x hub hub (beside_itself n hub)

chained_runs : (response : Bool) (t : List chain_stage.Stage) (x : Exchange) → (with_chain response t x).has_ended ≡ x.has_ended
chained_runs false t x = refl
chained_runs true t x = refl

asks_quietly : (n : ℕ) (x : Exchange) (hub : Hub) → x.has_ended ≡ false → Quietly n x hub (asks_exchange n x hub).1 (asks_exchange n x hub).2
asks_quietly n x hub runs =
    let t = asked hub.contexts (chain_of (asks_response x) x) in
    let z : Exchange = with_chain (asks_response x) t.1 x in
    let c = chained (asks_response x) t.1 x in
    let k : Kept z (asks_exchange n x hub).1 = asks_as_kept (asks_response x) n t.0 z (with_held t.2 hub) in
    let s : SendsOn n hub (asks_exchange n x hub).2 = asks_on n n x hub in
    let alike = chain_notes (asks_response x) t.1 x in
    record {
      more = up_traffic n s.more;
      grows = ap (up_traffic n) s.adds ∙ ups_join n hub.sent s.more;
      asked = k.asked ∙ c.0;
      place = k.place ∙ c.1;
      staid = λ d. k.staid (c.2 d);
      filtered = λ e. sym c.3 ∙ (sym k.filters ∙ e);
      entered = k.entered ∙ alike.0;
      framed = k.framed ∙ alike.1;
      over = λ o. over_told z (asks_exchange n x hub).1 k.told (alike.2 ∙ o);
      keeps = asks_keeps n x hub;
      how = goes_then x z (asks_exchange n x hub).1 hub (with_held t.2 hub) (asks_exchange n x hub).2 (is_asked (asks_response x) x hub) (asks_as_went (asks_response x) n t.0 z (with_held t.2 hub) (chained_runs (asks_response x) t.1 x ∙ runs));
      plain = asks_plain n x hub;
    }

still_runs : (x : Exchange) → exchange_moves (Some x) ≡ true → x.has_ended ≡ false
still_runs x is = by_test x.has_ended refl
  where
    by_test : (b : Bool) → x.has_ended ≡ b → x.has_ended ≡ false
    by_test true ended = let never : ◌≡◌ {A = Bool} false true = (λ i. not (sym ended i) && (nat_lt 0 (ready x.request) || nat_lt 0 (ready x.response))) ∙ is in absurd (cc)
    by_test false running = running

asks_goes : (n : ℕ) (l : Line) (hub : Hub) → has_move l ≡ true → LineGoes n l hub (asks_line l hub).1 (asks_line l hub).2
asks_goes n l hub moving = by_exchange l.exchange refl
  where
    by_exchange : (o : Option Exchange) → l.exchange ≡ o → LineGoes n l hub (asks_in l o hub).1 (asks_in l o hub).2
    by_exchange None there = record { number = refl; on = λ e. looks_aside n (Some l) hub hub (beside_itself n hub); off = λ e. beside_itself n hub }
    by_exchange (Some x) there = record {
      number = refl;
      on = λ e. (
        refl,
        refl,
        subst (λ (o : Option Exchange). Exs n o hub (Some (asks_exchange l.number x hub).1) (asks_exchange l.number x hub).2) (sym there)
            (subst (λ (m : ℕ). Quietly n x hub (asks_exchange m x hub).1 (asks_exchange m x hub).2) (sym (equal_by l.number n e)) (asks_quietly n x hub (still_runs x (sym (ap exchange_moves there) ∙ moving)))),
      );
      off = λ e. sends_beside n l.number hub (asks_exchange l.number x hub).2 e (asks_on n l.number x hub);
    }

asks_still : (n k : ℕ) (o : Option Line) (lines : List Line) (hub : Hub) → IsOnce (is_n n) lines → slice_get lines k ≡ o → ((l : Line) → o ≡ Some l → has_move l ≡ true)
    → Still n lines hub (asks_at k o lines hub).1 (asks_at k o lines hub).2
asks_still n k None lines hub once there moving = still_aside n lines hub hub once (beside_itself n hub)
asks_still n k (Some l) lines hub once there moving = set_still n lines k l (asks_line l hub).1 hub (asks_line l hub).2 once there (asks_goes n l hub (moving l refl))

-- the jobs that bring the line no item: those of no line, and contexts that are made
abbrev pub IsCalm : Job → Type 0
IsCalm (jobs.Begin vm) = Unit {0}
IsCalm (jobs.Root vm plugin first) = Unit {0}
IsCalm (jobs.Start vm root) = Unit {0}
IsCalm (jobs.Configure vm root plugin) = Unit {0}
IsCalm (jobs.Tick vm root) = Unit {0}
IsCalm jobs.Expire = Unit {0}
IsCalm (jobs.Happen what) = ⊥
IsCalm (jobs.Create number k) = Unit {0}
IsCalm (jobs.Enter number) = ⊥
IsCalm (jobs.Put number response items) = ⊥
IsCalm (jobs.Refuse number status) = ⊥
IsCalm (jobs.Done c) = Unit {0}
IsCalm (jobs.Log c) = Unit {0}
IsCalm (jobs.Delete c) = Unit {0}
IsCalm (jobs.Close number stays) = ⊥
IsCalm (jobs.Notice vm left) = Unit {0}
IsCalm (jobs.Ready vm root queue) = Unit {0}
IsCalm (jobs.Other step) = Unit {0}

module _ {H : Type 0} (calling : Calling H) (logs : WriteLogs calling) (n : ℕ) (low : is_call_line n ≡ false) where
  -- ---- callbacks

  called_in_calm : (vm : ℕ) (name : Callback) (context first second : ℕ) (own : Owner) (host : H) (room : Room) → Once n room
      → AllEnds (λ (a : Answered H). Calm n room a.both.room) (called_in calling vm name context first second own host room)
  called_in_calm vm name context first second own host room once =
      logs_then (λ (a : Answered H). Calm n room a.both.room) (calling host vm name context first second room.hub.moment room.hub.contexts) _ (logs host vm name context first second room.hub.moment room.hub.contexts)
      (λ c are. answered_calm n low vm own c.end c.lines c.contexts room once are)

  calls_live_calm : (vm : ℕ) (name : Callback) (context first second : ℕ) (behind : Then) (host : H) (room : Room) → Once n room → CalmThen n behind
      → Calmly n room (calls_live calling vm name context first second behind host room)
  calls_live_calm vm name context first second behind host room once calm =
      all_then (λ (a : Answered H). Calm n room a.both.room) (λ (b : Both H). Calm n room b.room) (called_live calling vm name context first second host room) (λ a. ends (continue_with behind a))
      (by_bool (λ (p : Course (Answered H)). AllEnds (λ (a : Answered H). Calm n room a.both.room) p) (is_dead vm room) (ends (callback_result None (both host room))) (called_in calling vm name context first second Nobody host room)
      (λ e. calm_itself n room once) (λ e. called_in_calm vm name context first second Nobody host room once))
      (λ a c. calm_then n room a.both.room (behind a.value a.both.room) c (calm a.value a.both.room c.still.once))

  -- ---- a move

  moved_calm : (o : Option Asked) (host : H) (room : Room) → Once n room → Calmly n room (moved calling o host room)
  moved_calm None host room once = calm_itself n room once
  moved_calm (Some a) host room once =
      all_then (λ (b : Answered H). Calm n room b.both.room) (λ (b : Both H). Calm n room b.room)
      (called_in calling a.vm (callback_of a.response a.ask.kind) a.context a.count (number_of a.ask.end) (Stage a.context a.response) host room) (λ b. ends (continue_with (apply_stage_action a) b))
      (called_in_calm a.vm (callback_of a.response a.ask.kind) a.context a.count (number_of a.ask.end) (Stage a.context a.response) host room once)
      (λ b c. calm_then n room b.both.room (apply_stage_action a b.value b.both.room) c (acts_on_calm n a b.value b.both.room c.still.once))

  calm_first : (a b : Room) (p : Course (Both H)) → Calm n a b → Calmly n b p → Calmly n a p
  calm_first a b p calm all = weaken p all
    where
      weaken : (p : Course (Both H)) → Calmly n b p → Calmly n a p
      weaken (ends c) all = calm_then n a b c.room calm all
      weaken (asks vm call k) all = λ r. weaken (k r) (all r)
      weaken (measures vm call k) all = λ r. weaken (k r) (all r)
      weaken (hears t k) all = λ h is. weaken (k h) (all h is)

  pub move_calm : (place : ℕ) (host : H) (room : Room) → Once n room → ((l : Line) → slice_get room.lines place ≡ Some l → has_move l ≡ true) → Calmly n room (move_at calling place host room)
  move_calm place host room once moving =
      let t = asks_at place (slice_get room.lines place) room.lines room.hub in
      let mid : Room = with_lines room (t.1, t.2) in
      let calm : Calm n room mid = calm_of n room mid (asks_still n place (slice_get room.lines place) room.lines room.hub once refl moving) refl refl refl in
      calm_first room mid (moved calling t.0 host mid) calm (moved_calm t.0 host mid calm.still.once)

  -- ---- jobs

  tells_calm : (vm : ℕ) (name : Callback) (context first : ℕ) (host : H) (room : Room) → Once n room → Calmly n room (tells calling vm name context first host room)
  tells_calm vm name context first host room once = calls_live_calm vm name context first 0 nothing_more host room once (nothing_calm n)

  made_calm : (o : Option NewContext) (host : H) (room : Room) → Once n room → Calmly n room (made_one calling o host room)
  made_calm None host room once = calm_itself n room once
  made_calm (Some c) host room once = tells_calm c.vm callbacks.ContextCreate c.context c.root host room once

  made_with_calm : (host : H) (room : Room) (p : Option NewContext × Room) → Calm n room p.1 → Calmly n room (made_with calling host p)
  made_with_calm host room p calm = calm_first room p.1 (made_one calling p.0 host p.1) calm (made_calm p.0 host p.1 calm.still.once)

  root_free : (vm root plugin : ℕ) (first : Bool) → AllFree (root_jobs vm root plugin first)
  root_free vm root plugin true = (tt, (tt, tt))
  root_free vm root plugin false = (tt, tt)

  roots_calm : (vm plugin : ℕ) (first : Bool) (host : H) (room : Room) → Once n room → Calmly n room (roots calling vm plugin first host room)
  roots_calm vm plugin first host room once =
      made_with_calm host room (create_root vm plugin first room)
      (by_bool (λ (p : Option NewContext × Room). Calm n room p.1) (is_dead vm room || not (may_root vm plugin room.hub.contexts)) (None, room) _ (λ e. calm_itself n room once)
      (λ e. by_bool (λ (p : Option NewContext × Room). Calm n room p.1) (is_drawn_out vm room.hub.contexts) (None, lose_vm_in vm deaths.Ids room) _ (λ d. died_calm n vm deaths.Ids room once)
      (λ d.
      let mid : Room = with_contexts (root_created vm plugin room.hub.contexts) room in
      calm_then n room mid (with_jobs_first (root_jobs vm (next_id room.hub.contexts vm) plugin first) mid) (calm_beside n room mid once refl (same_sent n room.hub mid.hub refl) refl refl refl)
      (in_front_calm n (root_jobs vm (next_id room.hub.contexts vm) plugin first) mid once (root_free vm (next_id room.hub.contexts vm) plugin first)))))

  creating_calm : (number k : ℕ) (o : Option Filter) (room : Room) → Once n room → Calm n room (create_filter number k o room).1
  creating_calm number k None room once = calm_itself n room once
  creating_calm number k (Some f) room once = by_root (plugin_in room.hub.contexts f.plugin).root
    where
      by_root : (r : Option ℕ) → Calm n room (create_stream number k f r room).1
      by_root None = calm_itself n room once
      by_root (Some root) =
          by_bool (λ (p : Option NewContext × Room). Calm n room p.1) (is_dead f.vm room || not (may_stream f.vm root room.hub.contexts)) (None, room) _ (λ e. calm_itself n room once)
          (λ e. by_bool (λ (p : Option NewContext × Room). Calm n room p.1) (is_drawn_out f.vm room.hub.contexts) (None, lose_vm_in f.vm deaths.Ids room) (with_stream number k f root room) (λ d. died_calm n f.vm deaths.Ids room once)
          (λ d.
          let later : Room = (with_stream number k f root room).1 in
          let g : Filter = record f { created = true; context = next_id room.hub.contexts f.vm } in
          calm_of n room later
          (still_then n room.lines later.lines later.lines room.hub room.hub later.hub
          (note_still n (with_filter k g) room.lines (place_in number room.lines) room.hub once (λ x. with_filter_quietly n k g x room.hub))
          (still_aside n later.lines room.hub later.hub (note_still n (with_filter k g) room.lines (place_in number room.lines) room.hub once (λ x. with_filter_quietly n k g x room.hub)).once (same_sent n room.hub later.hub refl))) refl refl refl))

  streams_calm : (number k : ℕ) (host : H) (room : Room) → Once n room → Calmly n room (streams calling number k host room)
  streams_calm number k host room once = made_with_calm host room (create_context number k room) (creating_calm number k (filter_at number k room.lines) room once)

  ticked_calm : (vm root : ℕ) (o : Option (Option Tick)) (room : Room) → Once n room → Calm n room (tick_of vm root o room).1
  ticked_calm vm root None room once = calm_itself n room once
  ticked_calm vm root (Some None) room once = calm_itself n room once
  ticked_calm vm root (Some (Some t)) room once =
      by_bool (λ (p : Bool × Room). Calm n room p.1) (is_due_tick room.hub.moment t && has_vm vm room.hub.contexts) _ (false, room)
      (λ e. calm_beside n room _ once refl (same_sent n room.hub _ refl) refl refl refl) (λ e. calm_itself n room once)

  ticks_calm : (vm root : ℕ) (host : H) (room : Room) → Once n room → Calmly n room (ticks calling vm root host room)
  ticks_calm vm root host room once =
      let p : Bool × Room = tick_root vm root room in
      let calm : Calm n room p.1 = ticked_calm vm root (tick_in (vm_in room.hub.contexts vm).contexts root) room once in
      by_bool (Calmly n room) p.0 (tells calling vm callbacks.Tick root 0 host p.1) (ends (both host p.1))
      (λ e. calm_first room p.1 (tells calling vm callbacks.Tick root 0 host p.1) calm (tells_calm vm callbacks.Tick root 0 host p.1 calm.still.once)) (λ e. calm)

  ready_calm : (vm root queue : ℕ) (host : H) (room : Room) → Once n room → Calmly n room (tells_ready calling vm root queue host room)
  ready_calm vm root queue host room once =
      by_bool (Calmly n room) (may_stream vm root room.hub.contexts) (tells calling vm callbacks.QueueReady root queue host room) (ends (both host room)) (λ e. tells_calm vm callbacks.QueueReady root queue host room once) (λ e. calm_itself n room once)

  noticed_calm : (vm left : ℕ) (r : Reply) (room : Room) → Once n room → Calm n room (take_notice_reply vm left r room)
  noticed_calm vm left (replies.Owed root queue) room once = record {
    still = still_aside n room.lines room.hub room.hub once (beside_itself n room.hub);
    reading = refl;
    front = jobs.Ready vm root queue ∷ [];
    free = (tt, tt);
    jobs = refl;
    parts = λ o. (tt, o);
  }
  noticed_calm vm left replies.Absent room once = calm_itself n room once
  noticed_calm vm left (replies.Value value number) room once = calm_itself n room once
  noticed_calm vm left (replies.Done number) room once = calm_itself n room once
  noticed_calm vm left replies.CasMismatch room once = calm_itself n room once
  noticed_calm vm left replies.Full room once = calm_itself n room once
  noticed_calm vm left (replies.Id queue) room once = calm_itself n room once
  noticed_calm vm left (replies.Item item) room once = calm_itself n room once
  noticed_calm vm left replies.Empty room once = calm_itself n room once
  noticed_calm vm left replies.NoneOwed room once = calm_itself n room once

  notices_calm : (plan : Plan) (vm left : ℕ) (host : H) (room : Room) → Once n room → Calmly n room (notice_step plan vm left host room)
  notices_calm plan vm left host room once =
      by_bool (Calmly n room) ((left == 0 || is_dead vm room) || not (nat_lt vm plan.vms)) (ends (both host room)) (ask_notice vm left host room) (λ e. calm_itself n room once) (λ e. λ r. noticed_calm vm left r room once)

  expire_calm : (room : Room) → Once n room → Calm n room (expire_all room)
  expire_calm room once =
      by_bool (Calm n room) (list_any (is_late room.hub.moment) room.lines) (with_lines room (all_lines passing.expire_exchange room.lines room.hub)) room
      (λ e. calm_all n passing.expire_exchange room once (does_deed passing.expire_exchange expires tt (λ m x hub. refl))) (λ e. calm_itself n room once)

  -- ---- callouts

  -- they are others now, and this comes next for one of them, if anything
  call_step_calm : (calls : List Callout) (step : Option CallStep) (room : Room) → Once n room → Calm n room (with_call_step step (record room { calls = calls }))
  call_step_calm calls None room once = calm_beside n room (record room { calls = calls }) once refl (beside_itself n room.hub) refl refl refl
  call_step_calm calls (Some step) room once = record {
    still = still_aside n room.lines room.hub room.hub once (beside_itself n room.hub);
    reading = refl;
    front = call_job step ∷ [];
    free = (tt, tt);
    jobs = refl;
    parts = λ o. o;
  }

  closes_call_calm : (id : ℕ) (room : Room) → Once n room → Calm n room (close_call id room)
  closes_call_calm id room once = calm_beside n room (close_call id room) once refl (close_beside n id room.hub (close_call id room).hub low refl) refl refl refl

  answer_calm : (answer : Option CallAnswer) (vm e : ℕ) (room : Room) → Once n room → Calm n room (put_call_answer answer vm e room)
  answer_calm answer vm e room once = calm_beside n room (put_call_answer answer vm e room) once refl (same_sent n room.hub (put_call_answer answer vm e room).hub refl) refl refl refl

  drops_answer_calm : (vm e : ℕ) → CalmThen n (drop_answer vm e)
  drops_answer_calm vm e value room once = answer_calm None vm e room once

  reads_call_calm : (id : ℕ) (o : Option Callout) (host : H) (room : Room) → Once n room → Calmly n room (reads_call id o host room)
  reads_call_calm id None host room once = calm_itself n room once
  reads_call_calm id (Some c) host room once =
      let after : Heard → After = λ h. after_read id (after_part_heard h c) room.calls in
      λ h heard. call_step_calm (after h).calls (after h).next room once

  tells_call_calm : (answer : Option CallAnswer) (c : Callout) (host : H) (room : Room) → Once n room → Calmly n room (tells_call calling answer c host room)
  tells_call_calm answer c host room once =
      let mid : Room = put_call_answer answer c.vm c.context room in
      let one : Calm n room mid = answer_calm answer c.vm c.context room once in
      by_bool (Calmly n room) (has_listener c room) (calls_live calling c.vm callbacks.CallAnswered c.context c.id 0 (drop_answer c.vm c.context) host mid) (ends (both host room))
      (λ e. calm_first room mid _ one (calls_live_calm c.vm callbacks.CallAnswered c.context c.id 0 (drop_answer c.vm c.context) host mid one.still.once (drops_answer_calm c.vm c.context)))
      (λ e. calm_itself n room once)

  ends_call_calm : (answered : Bool) (id : ℕ) (o : Option Callout) (host : H) (room : Room) → Once n room → Calmly n room (ends_call calling answered id o host room)
  ends_call_calm answered id None host room once = calm_itself n room once
  ends_call_calm answered id (Some c) host room once =
      let mid : Room = close_call id room in
      let one : Calm n room mid = closes_call_calm id room once in
      calm_first room mid (tells_call calling (answer_if answered c) c host mid) one (tells_call_calm (answer_if answered c) c host mid one.still.once)

  works_call_calm : (step : CallStep) (host : H) (room : Room) → Once n room → Calmly n room (works_call calling step host room)
  works_call_calm (steps.Comes what) host room once = let a : After = after_event what room.calls in call_step_calm a.calls a.next room once
  works_call_calm (steps.Read id) host room once = reads_call_calm id (callout_in id room.calls) host room once
  works_call_calm (steps.Fail id) host room once = ends_call_calm false id (callout_in id room.calls) host room once
  works_call_calm (steps.Answer id) host room once = ends_call_calm true id (callout_in id room.calls) host room once

  works_other_calm : (step : OtherStep) (host : H) (room : Room) → Once n room → Calmly n room (works_other calling step host room)
  works_other_calm (others.Call step) host room once = works_call_calm step host room once
  works_other_calm (others.Tcp step) host room once = calm_itself n room once

  pub works_calm : (plan : Plan) (job : Job) (host : H) (room : Room) → IsCalm job → Once n room → Calmly n room (works calling plan job host room)
  works_calm plan (jobs.Begin vm) host room is once = tells_calm vm callbacks.Begin 0 0 host room once
  works_calm plan (jobs.Root vm plugin first) host room is once = roots_calm vm plugin first host room once
  works_calm plan (jobs.Start vm root) host room is once = calls_live_calm vm callbacks.VmStart root (vm_length vm room.hub.contexts) 0 (unless_zero vm deaths.Start) host room once (unless_zero_calm n vm deaths.Start)
  works_calm plan (jobs.Configure vm root plugin) host room is once =
      calls_live_calm vm callbacks.Configure root (plugin_length plugin room.hub.contexts) 0 (unless_zero vm deaths.Configure) host room once (unless_zero_calm n vm deaths.Configure)
  works_calm plan (jobs.Tick vm root) host room is once = ticks_calm vm root host room once
  works_calm plan jobs.Expire host room is once = expire_calm room once
  works_calm plan (jobs.Happen what) host room is once = absurd is
  works_calm plan (jobs.Create number k) host room is once = streams_calm number k host room once
  works_calm plan (jobs.Enter number) host room is once = absurd is
  works_calm plan (jobs.Put number response items) host room is once = absurd is
  works_calm plan (jobs.Refuse number status) host room is once = absurd is
  works_calm plan (jobs.Done c) host room is once = calls_live_calm c.vm callbacks.Done c.context 0 0 (finish_context c) host room once (done_calm n c)
  works_calm plan (jobs.Log c) host room is once = tells_calm c.vm callbacks.Log c.context 0 host room once
  works_calm plan (jobs.Delete c) host room is once = calls_live_calm c.vm callbacks.Delete c.context 0 0 (delete_context c) host room once (deletes_calm n c)
  works_calm plan (jobs.Close number stays) host room is once = absurd is
  works_calm plan (jobs.Notice vm left) host room is once = notices_calm plan vm left host room once
  works_calm plan (jobs.Ready vm root queue) host room is once = ready_calm vm root queue host room once
  works_calm plan (jobs.Other step) host room is once = works_other_calm step host room once
