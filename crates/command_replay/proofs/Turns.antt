-- One turn of a worker in the world of a script.
use Rattle.std.proofs.Common.{◌≡◌, ℕ, ◌-◌, Bool, true, false, List, [], ◌∷◌, ◌++◌, length, set, get_or, arith, refl, sym, ap, ◌∙◌, subst, Some}
use Rattle.filter_host.specs.Called.{Calling}
use Rattle.std.proofs.lemmas.List.{append-nil, append_cancel_left}
use Rattle.std.proofs.lemmas.List.Elements.{All-set}
use Rattle.std.specs.Bool.{OnTrue}
use Rattle.std.specs.Prelude.{All}
use Rattle.gate_io.specs.Passing.{happened, received}
use Rattle.gate_io.specs.Reads.{happened-append}
use Rattle.gate_io.specs.Told.{Gains}
use Rattle.gate_io.specs.declared.event.Event.{Event}
use Rattle.gate_io.specs.declared.event.Sent.{Sent}
use Rattle.gate_io.specs.declared.passed.Passed.{Passed}
use Rattle.gate_io.specs.declared.passed.Passed.TheVariants.{Asked, Gave}
use Rattle.send_queue.specs.Delivery.{solid, NeverShort}
use Rattle.send_queue.specs.Turns.{HandsOver, Delivers}
use Rattle.send_queue.proofs.Deliveries.{in_order}
use Rattle.replay_script.specs.Prints.{last_in, printed_by, tell}
use Rattle.replay_script.specs.ScriptWorld.{Playing, nature, taken_since}
use Rattle.replay_script.proofs.Worlds.{plays_its_script}
use Rattle.store_model.specs.Sequential.{Stores, Performs}
use Rattle.worker_model.specs.State.{Setting, Standing}
use Rattle.worker_model.specs.Turned.{one_turn, TookWhole}
use Rattle.streams_model.specs.Turned.{Whole}
use Rattle.command_replay.specs.Replay.{Advances, CanTurn, Seated, Turns, TurnsAt, for_worker}

same_trace : (a b : List Passed) → Some a ≡ Some b → a ≡ b
same_trace a b e = cc

-- what passed in a turn, which was told
told_steps : (before after steps : List Passed) → Gains (Some before) steps (Some after) → after ≡ before ++ steps
told_steps before after steps told = same_trace after (before ++ steps) told

one_gain : (before after a b : List Passed) → Gains (Some before) a (Some after) → Gains (Some before) b (Some after) → a ≡ b
one_gain before after a b first second = append_cancel_left before a b (sym (told_steps before after a first) ∙ told_steps before after b second)

-- the events of a turn
one_event : (waiting : List Sent) (event : Event) (sent : List Sent) (steps : List Passed) (rest : List Sent) → HandsOver waiting (one_turn event sent) steps rest → happened steps ≡ event ∷ []
one_event waiting event sent steps rest h = ap happened h.steps_are ∙ ap (λ (es : List Event). event ∷ es) h.delivered.no_event

given_once : (before after : Playing) (waiting : List Sent) (event : Event) (sent : List Sent) (steps : List Passed) (rest : List Sent) → Gains (Some before.trace) steps (Some after.trace)
    → HandsOver waiting (one_turn event sent) steps rest → happened after.trace ≡ happened before.trace ++ event ∷ []
given_once before after waiting event sent steps rest told h =
    ap happened (told_steps before.trace after.trace steps told) ∙ happened-append before.trace steps
    ∙ ap (λ (es : List Event). happened before.trace ++ es) (one_event waiting event sent steps rest h)

-- what was taken since the turn's event is what was taken in the turn
taken_in : (before after : List Passed) (waiting : List Sent) (event : Event) (sent : List Sent) (steps : List Passed) (rest : List Sent) → after ≡ before ++ steps
    → HandsOver waiting (one_turn event sent) steps rest → taken_since after ≡ received steps
taken_in before after waiting event sent steps rest is h =
    ap taken_since (is ∙ ap (λ (t : List Passed). before ++ t) h.steps_are)
    ∙ plays_its_script.share before h.taken h.wants event h.delivered.no_event ∙ sym (ap received h.steps_are)

-- a world that takes whole took all that the turn sends
taken_whole : (event : Event) (sent : List Sent) (steps : List Passed) (rest : List Sent) → HandsOver [] (one_turn event sent) steps rest → NeverShort steps
    → (received steps ≡ solid sent) × (rest ≡ [])
taken_whole event sent steps rest h never =
    let delivers : Delivers [] (one_turn event sent ∷ []) steps rest = (steps, [], rest, sym (append-nil steps), h, (refl, refl)) in
    let all = in_order (one_turn event sent ∷ []) steps rest delivers never in
    (all.0 ∙ ap solid (append-nil sent), all.1)

-- a turn of a worker for which nothing waits
pub went_turns : {H : Type 0} (calling : Calling H) (s t : Stores) (from to : Standing H) (before after : Playing) → from.waiting ≡ [] → to.setting ≡ from.setting → nature after ≡ nature before
    → TookWhole (Some before.trace) (Some after.trace) → Whole calling Performs false s (Some before.trace) from to t (Some after.trace) → Turns calling from before s to after t × (to.waiting ≡ [])
went_turns calling s t from to before after none setting same took w =
    let h : HandsOver [] (one_turn w.event w.sent) w.steps to.waiting =
    subst (λ (x : List Sent). HandsOver x (one_turn w.event w.sent) w.steps to.waiting) none w.hands_over in
    let never : NeverShort w.steps = subst NeverShort (one_gain before.trace after.trace took.steps w.steps took.told w.told) took.never in
    let all = taken_whole w.event w.sent w.steps to.waiting h never in (
      record {
        event = w.event;
        sent = w.sent;
        goes = w.goes;
        setting_is = setting;
        given = given_once before after from.waiting w.event w.sent w.steps to.waiting w.told w.hands_over;
        nature_is = same;
        steps = w.steps;
        passed_is = told_steps before.trace after.trace w.steps w.told;
        hands_over = subst (λ (x : List Sent). HandsOver [] (one_turn w.event w.sent) w.steps x) all.1 h;
        taken_is = taken_in before.trace after.trace [] w.event w.sent w.steps to.waiting (told_steps before.trace after.trace w.steps w.told) h ∙ all.0;
      },
      all.1,
    )

-- that of Stop sends nothing
pub stopped_turns : {H : Type 0} (calling : Calling H) (s t : Stores) (from to : Standing H) (before after : Playing) → from.waiting ≡ [] → to.setting ≡ from.setting → nature after ≡ nature before
    → Whole calling Performs true s (Some before.trace) from to t (Some after.trace) → Turns calling from before s to after t × (to.waiting ≡ [])
stopped_turns calling s t from to before after none setting same w =
    let h = w.hands_over in
    let still = subst (λ (b : Bool). OnTrue b ((w.sent ≡ []) × (h.taken ≡ []) × (to.waiting ≡ from.waiting))) w.is_stop h.stopped in
    let steps : received w.steps ≡ [] = ap received (h.steps_are ∙ ap (λ (x : List Passed). Asked h.wants ∷ Gave w.event ∷ x) still.1) in (
      record {
        event = w.event;
        sent = w.sent;
        goes = w.goes;
        setting_is = setting;
        given = given_once before after from.waiting w.event w.sent w.steps to.waiting w.told h;
        nature_is = same;
        steps = w.steps;
        passed_is = told_steps before.trace after.trace w.steps w.told;
        hands_over = subst (λ (x : List Sent × List Sent). HandsOver x.0 (one_turn w.event w.sent) w.steps x.1) (λ i. (none i, (still.2 ∙ none) i)) h;
        taken_is = taken_in before.trace after.trace from.waiting w.event w.sent w.steps to.waiting (told_steps before.trace after.trace w.steps w.told) h ∙ steps ∙ ap solid (sym still.0);
      },
      still.2 ∙ none,
    )

-- after a turn the worker is seated too
pub still_seated : {H : Type 0} (needs : H → ℕ) (stores : ℕ) (from to : Standing H) → Seated needs stores from → to.setting ≡ from.setting → needs to.state.host ≡ needs from.state.host → to.waiting ≡ []
    → Seated needs stores to
still_seated needs stores from to seated setting enough none =
    let vms : length to.setting.config.vms ≡ length from.setting.config.vms = ap (λ (x : Setting). length x.config.vms) setting in
    let all = seated.vms in
    let some = seated.enough in
    record { vms = omega (arith, all, vms); enough = omega (arith, some, enough); nothing_waits = none }

-- one of the workers did a turn
pub one_of : {H : Type 0} (calling : Calling H) (at : ℕ) (from to : List (Standing H)) (before after : Playing) (s t : Stores) (old new : Standing H) → old ≡ get_or from at old → to ≡ set from at new
    → Turns calling old before s new after t → TurnsAt calling at from before s to after t
one_of calling at from to before after s t old new old_is new_is turns = record { old = old; new = new; old_is = old_is; new_is = new_is; turns = turns }

pub all_can_turn : {H : Type 0} (needs : H → ℕ) (at : ℕ) (from to : List (Standing H)) (s t : Stores) (new : Standing H) → CanTurn needs from s → Seated needs (length s.stores) new → to ≡ set from at new
    → length t.stores ≡ length s.stores → CanTurn needs to t
all_can_turn needs at from to s t new can seated new_is count =
    subst (λ (n : ℕ). All (Seated needs n) to) (sym count)
    (subst (All (Seated needs (length s.stores))) (sym new_is) (All-set (Seated needs (length s.stores)) from at new seated can))

-- a turn of a worker, printed
pub advanced : {H : Type 0} (calling : Calling H) (who k : ℕ) (from to : List (Standing H)) (before after : Playing) (s mid t : Stores) (last last_then : ℕ) (waits waiting : List ℕ) (taken : List Sent) → k ≡ who
    → mid ≡ for_worker who s → TurnsAt calling (k - 1) from before mid to after t → taken ≡ taken_since after.trace → waiting ≡ waits ++ printed_by last (tell who taken)
    → last_then ≡ last_in last (tell who taken) → Advances calling who from before s last waits to after t last_then waiting
advanced calling who k from to before after s mid t last last_then waits waiting taken k_is mid_is turned is_taken is_waiting is_last =
    let at : TurnsAt calling (who - 1) from before (for_worker who s) to after t =
    subst (λ (x : ℕ × Stores). TurnsAt calling (x.0 - 1) from before x.1 to after t) (λ i. (k_is i, mid_is i)) turned in
    let sent_is : taken ≡ solid at.turns.sent = is_taken ∙ at.turns.taken_is in
    record {
      at = at;
      last_is = is_last ∙ ap (λ (x : List Sent). last_in last (tell who x)) sent_is;
      waiting_is = is_waiting ∙ ap (λ (x : List Sent). waits ++ printed_by last (tell who x)) sent_is;
    }
