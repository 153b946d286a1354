-- What a turn begins with, of the callout of an id: its failure where it is due, and the event where that is of its line.
use Rattle.std.proofs.Common.{◌≡◌, ◌+◌, ◌-◌, ◌==◌, ◌&&◌, ℕ, zero, suc, Bool, true, false, cond, List, [], ◌∷◌, ◌++◌, map, filter, refl, sym, ap, ◌∙◌, eqb-true, ne_eqb, eq-eqb, arith}
use Rattle.std.specs.Prelude.{Option, None, Some, if◌then◌else◌, nat_le, slice_get}
use Rattle.std.proofs.lemmas.Bool.{le-leb, leb-true}
use Rattle.std.proofs.lemmas.List.{append-nil}
use Rattle.std.specs.List.{list_any}
use Rattle.callouts.specs.Callouts.{first_line, line_of, is_call_line, line_in, is_of_call, callout_in, callout_at, id_of, is_due, due_at}
use Rattle.callouts.specs.declared.types.Callout.{Callout}
use Rattle.callouts.specs.declared.types.CallStep.{CallStep}
use Rattle.callouts.specs.declared.types.CallStep.TheVariants as steps
use Rattle.contexts.specs.declared.parts.Context.{Context}
use Rattle.contexts.specs.declared.parts.Contexts.{Contexts}
use Rattle.contexts.specs.declared.parts.Plugin.{Plugin}
use Rattle.contexts.specs.Creating.{next_id}
use Rattle.contexts.specs.Reached.{vm_in}
use Rattle.gate_io.specs.declared.event.Event.{Event}
use Rattle.gate_io.specs.declared.event.What.{What}
use Rattle.worker_model.specs.Plan.{Plan}
use Rattle.worker_model.specs.Room.{Room}
use Rattle.worker_model.specs.Turn.{is_of, roots_from, start_of, starts_of, vms_in, start_jobs, is_due_now, ticks_in, ticks_of, new_ticks_from, new_ticks_of, new_ticks, ticks_due, deadline_jobs, registers_at, notice_of, notices_of, fail_jobs, calls_due, comes_if, happening, agenda_of, at_moment, room_for_event}
use Rattle.worker_model.specs.declared.types.Job.{Job}
use Rattle.worker_model.specs.declared.types.Job.TheVariants as jobs
use Rattle.law_callouts.specs.Sound.{AreRising}
use Rattle.law_callouts.proofs.About.{is_at, about_step, about, pend, about_join, none_join, pick_none}
use Rattle.law_callouts.proofs.Sound.{none_above}

-- ---- the other parts say nothing of callouts

roots_none : (id vm place : ℕ) (first : Bool) (plugins : List Plugin) → about id (roots_from vm place first plugins) ≡ []
roots_none id vm place first [] = refl
roots_none id vm place first (p ∷ plugins) =
    pick_none id (is_of vm p) (jobs.Root vm place first ∷ roots_from vm (place + 1) false plugins) (roots_from vm (place + 1) first plugins) (roots_none id vm (place + 1) false plugins) (roots_none id vm (place + 1) first plugins)

starts_none : (id n : ℕ) (plugins : List Plugin) → about id (starts_of n plugins) ≡ []
starts_none id zero plugins = refl
starts_none id (suc n) plugins =
    none_join id (starts_of n plugins) (start_of n plugins) (starts_none id n plugins)
    (pick_none id (list_any (is_of n) plugins) (jobs.Begin n ∷ roots_from n 0 true plugins) [] (roots_none id n 0 true plugins) refl)

ticks_in_none : (id now vm : ℕ) (contexts : List Context) → about id (ticks_in now vm contexts) ≡ []
ticks_in_none id now vm [] = refl
ticks_in_none id now vm (c ∷ contexts) = pick_none id (is_due_now now c.tick) (jobs.Tick vm c.id ∷ ticks_in now vm contexts) (ticks_in now vm contexts) (ticks_in_none id now vm contexts) (ticks_in_none id now vm contexts)

ticks_none : (id now n : ℕ) (h : Contexts) → about id (ticks_of now n h) ≡ []
ticks_none id now zero h = refl
ticks_none id now (suc n) h = none_join id (ticks_of now n h) (ticks_in now n (vm_in h n).contexts) (ticks_none id now n h) (ticks_in_none id now n (vm_in h n).contexts)

new_from_none : (id vm n : ℕ) (plugins : List Plugin) → about id (new_ticks_from vm n plugins) ≡ []
new_from_none id vm n [] = refl
new_from_none id vm n (p ∷ plugins) =
    pick_none id (is_of vm p && nat_le n 4294967295) (jobs.Tick vm n ∷ new_ticks_from vm (n + 1) plugins) (new_ticks_from vm n plugins) (new_from_none id vm (n + 1) plugins) (new_from_none id vm n plugins)

new_ticks_none : (id n : ℕ) (h : Contexts) → about id (new_ticks_of n h) ≡ []
new_ticks_none id zero h = refl
new_ticks_none id (suc n) h = none_join id (new_ticks_of n h) (new_ticks_from n (next_id h n) h.plugins) (new_ticks_none id n h) (new_from_none id n (next_id h n) h.plugins)

due_ticks_none : (id : ℕ) (room : Room) → about id (ticks_due room) ≡ []
due_ticks_none id room =
    none_join id (ticks_of room.hub.moment (vms_in room) room.hub.contexts) (new_ticks room) (ticks_none id room.hub.moment (vms_in room) room.hub.contexts)
    (pick_none id room.is_begun [] (new_ticks_of (vms_in room) room.hub.contexts) refl (new_ticks_none id (vms_in room) room.hub.contexts))

notices_none : (id : ℕ) (plan : Plan) (n : ℕ) → about id (notices_of plan n) ≡ []
notices_none id plan zero = refl
notices_none id plan (suc n) =
    none_join id (notices_of plan n) (notice_of plan n) (notices_none id plan n)
    (pick_none id (registers_at (slice_get plan.registers n)) (jobs.Notice n 16 ∷ []) [] refl refl)

-- parts that say nothing of it, and then these
behind_none : (id : ℕ) (a b : List Job) → about id a ≡ [] → about id (a ++ b) ≡ about id b
behind_none id a b none = about_join id a b ∙ ap (λ (l : List CallStep). l ++ about id b) none

agenda_about : (id : ℕ) (plan : Plan) (what : What) (room : Room) → about id (agenda_of plan what room) ≡ about id (calls_due room) ++ about id (happening what room)
agenda_about id plan what room =
    let notices = notices_of plan (vms_in room) in
    behind_none id (start_jobs room) _ (pick_none id room.is_begun [] (starts_of (vms_in room) room.hub.contexts.plugins) refl (starts_none id (vms_in room) room.hub.contexts.plugins))
    ∙ behind_none id (ticks_due room) _ (due_ticks_none id room)
    ∙ behind_none id (deadline_jobs plan) _ (pick_none id (plan.deadline == 0) [] (jobs.Expire ∷ []) refl refl)
    ∙ about_join id (calls_due room) (happening what room ++ notices)
    ∙ ap (λ (l : List CallStep). about id (calls_due room) ++ l)
    (about_join id (happening what room) notices ∙ ap (λ (l : List CallStep). about id (happening what room) ++ l) (notices_none id plan (vms_in room)) ∙ append-nil (about id (happening what room)))

pub turn_pend : (id : ℕ) (plan : Plan) (event : Event) (room : Room) → room.jobs ≡ []
    → pend id (room_for_event plan event room) ≡ about id (calls_due (at_moment event.now room)) ++ about id (happening event.what (at_moment event.now room))
turn_pend id plan event room none =
    ap (λ (js : List Job). about id (js ++ agenda_of plan event.what (at_moment event.now room))) none ∙ agenda_about id plan event.what (at_moment event.now room)

-- ---- what is due

due_more : (id now : ℕ) (c : Callout) (calls : List Callout) (b : Bool) → is_due now c ≡ b
    → about id (fail_jobs (due_at now (c ∷ calls))) ≡ (if b then about_step id (steps.Fail c.id) ++ about id (fail_jobs (due_at now calls)) else about id (fail_jobs (due_at now calls)))
due_more id now c calls true is = ap (λ (b : Bool). about id (fail_jobs (map id_of (cond b (c ∷ filter (is_due now) calls) (filter (is_due now) calls))))) is
due_more id now c calls false is = ap (λ (b : Bool). about id (fail_jobs (map id_of (cond b (c ∷ filter (is_due now) calls) (filter (is_due now) calls))))) is

fail_away : (id n : ℕ) (p : List CallStep) → (n == id) ≡ false → about_step id (steps.Fail n) ++ p ≡ p
fail_away id n p away = ap (λ (b : Bool). (if b then steps.Fail n ∷ [] else []) ++ p) away

pub due_none : (id now : ℕ) (calls : List Callout) → callout_in id calls ≡ None → about id (fail_jobs (due_at now calls)) ≡ []
due_none id now [] none = refl
due_none id now (c ∷ calls) none = by (due_none id now calls) (c.id == id) refl none
  where
    by_due : (c.id == id) ≡ false → about id (fail_jobs (due_at now calls)) ≡ [] → (b : Bool) → is_due now c ≡ b → about id (fail_jobs (due_at now (c ∷ calls))) ≡ []
    by_due away later true due = due_more id now c calls true due ∙ fail_away id c.id _ away ∙ later
    by_due away later false due = due_more id now c calls false due ∙ later

    by : (callout_in id calls ≡ None → about id (fail_jobs (due_at now calls)) ≡ []) → (b : Bool) → (c.id == id) ≡ b → cond b (Some c) (callout_in id calls) ≡ None
        → about id (fail_jobs (due_at now (c ∷ calls))) ≡ []
    by later true is none = absurd (cc)
    by later false is none = by_due is (later none) (is_due now c) refl

pub due_some : (id now low : ℕ) (calls : List Callout) (d : Callout) → AreRising low calls → callout_in id calls ≡ Some d
    → about id (fail_jobs (due_at now calls)) ≡ (if nat_le d.due now then steps.Fail id ∷ [] else [])
due_some id now low [] d rising there = absurd (cc)
due_some id now low (c ∷ calls) d rising there = by (due_some id now c.id calls d rising.1) (c.id == id) refl there
  where
    found_here : c.id ≡ id → c ≡ d → (b : Bool) → is_due now c ≡ b → about id (fail_jobs (due_at now (c ∷ calls))) ≡ (if nat_le d.due now then steps.Fail id ∷ [] else [])
    found_here same one true due =
        let rest : about id (fail_jobs (due_at now calls)) ≡ [] = due_none id now calls (none_above id c.id calls (omega (arith, same)) rising.1) in
        due_more id now c calls true due
        ∙ ap (λ (l : List CallStep). about_step id (steps.Fail c.id) ++ l) rest
        ∙ ap (λ (b : Bool). (if b then steps.Fail c.id ∷ [] else []) ++ []) (eq-eqb c.id id same)
        ∙ ap (λ (n : ℕ). steps.Fail n ∷ []) same
        ∙ sym (ap (λ (b : Bool). if b then steps.Fail id ∷ [] else []) (ap (λ (x : Callout). nat_le x.due now) (sym one) ∙ due))
    found_here same one false due =
        let rest : about id (fail_jobs (due_at now calls)) ≡ [] = due_none id now calls (none_above id c.id calls (omega (arith, same)) rising.1) in
        due_more id now c calls false due
        ∙ rest
        ∙ sym (ap (λ (b : Bool). if b then steps.Fail id ∷ [] else []) (ap (λ (x : Callout). nat_le x.due now) (sym one) ∙ due))

    passed_by : (c.id == id) ≡ false → about id (fail_jobs (due_at now calls)) ≡ (if nat_le d.due now then steps.Fail id ∷ [] else [])
        → (b : Bool) → is_due now c ≡ b → about id (fail_jobs (due_at now (c ∷ calls))) ≡ (if nat_le d.due now then steps.Fail id ∷ [] else [])
    passed_by away later true due = due_more id now c calls true due ∙ fail_away id c.id _ away ∙ later
    passed_by away later false due = due_more id now c calls false due ∙ later

    by : (callout_in id calls ≡ Some d → about id (fail_jobs (due_at now calls)) ≡ (if nat_le d.due now then steps.Fail id ∷ [] else [])) → (b : Bool) → (c.id == id) ≡ b → cond b (Some c) (callout_in id calls) ≡ Some d
        → about id (fail_jobs (due_at now (c ∷ calls))) ≡ (if nat_le d.due now then steps.Fail id ∷ [] else [])
    by later true is there = let one : c ≡ d = (cc) in found_here (eqb-true c.id id is) one (is_due now c) refl
    by later false is there = passed_by is (later there) (is_due now c) refl

-- ---- which callout an event is of

pub line_back : (id : ℕ) → (line_of id - first_line) ≡ id
line_back id = omega arith

call_line : (id : ℕ) → is_call_line (line_of id) ≡ true
call_line id = le-leb first_line (line_of id) (omega arith)

-- the event is of the line of this id
abbrev pub on_line : ℕ → Option ℕ → Bool
on_line id None = false
on_line id (Some line) = line == line_of id

at_away : (id line : ℕ) → is_call_line line ≡ true → (line == line_of id) ≡ false → ((line - first_line) == id) ≡ false
at_away id line high away = ne_eqb (line - first_line) id (λ same. never (omega (arith, same, leb-true first_line line high)))
  where
    never : line ≡ line_of id → ⊥
    never is = let one : ◌≡◌ {A = Bool} true false = sym (eq-eqb line (line_of id) is) ∙ away in absurd (cc)

-- where none is under way on the line, the event is no part of the turn
pub deaf : (id : ℕ) (what : What) (room : Room) → callout_in id room.calls ≡ None → line_in what ≡ Some (line_of id) → happening what room ≡ []
deaf id what room gone is =
    ap (λ (l : Option ℕ). if is_of_call l then comes_if (callout_at l room.calls) what else jobs.Happen what ∷ []) is
    ∙ ap (λ (b : Bool). if b then comes_if (callout_in (line_of id - first_line) room.calls) what else jobs.Happen what ∷ []) (call_line id)
    ∙ ap (λ (n : ℕ). comes_if (callout_in n room.calls) what) (line_back id)
    ∙ ap (λ (o : Option Callout). comes_if o what) gone

comes_away : (id : ℕ) (what : What) (o : Option Callout) → is_at id (line_in what) ≡ false → about id (comes_if o what) ≡ []
comes_away id what None away = refl
comes_away id what (Some c) away = ap (λ (b : Bool). (if b then steps.Comes what ∷ [] else []) ++ []) away

comes_here : (id : ℕ) (what : What) (d : Callout) → is_at id (line_in what) ≡ true → about id (comes_if (Some d) what) ≡ steps.Comes what ∷ []
comes_here id what d here = ap (λ (b : Bool). (if b then steps.Comes what ∷ [] else []) ++ []) here

pub come_none : (id : ℕ) (what : What) (room : Room) → callout_in id room.calls ≡ None → about id (happening what room) ≡ []
come_none id what room gone = by (line_in what) refl
  where
    on_it : (line : ℕ) → line_in what ≡ Some line → (b : Bool) → (line == line_of id) ≡ b → is_call_line line ≡ true → about id (comes_if (callout_in (line - first_line) room.calls) what) ≡ []
    on_it line is true same high =
        let found : callout_in (line - first_line) room.calls ≡ None
        = ap (λ (n : ℕ). callout_in (n - first_line) room.calls) (eqb-true line (line_of id) same) ∙ (ap (λ (n : ℕ). callout_in n room.calls) (line_back id) ∙ gone) in
        ap (λ (o : Option Callout). about id (comes_if o what)) found
    on_it line is false away high = comes_away id what (callout_in (line - first_line) room.calls) (ap (is_at id) is ∙ at_away id line high away)

    by_high : (line : ℕ) → line_in what ≡ Some line → (b : Bool) → is_call_line line ≡ b → about id (if b then comes_if (callout_in (line - first_line) room.calls) what else jobs.Happen what ∷ []) ≡ []
    by_high line is true high = on_it line is (line == line_of id) refl high
    by_high line is false high = refl

    by : (l : Option ℕ) → line_in what ≡ l → about id (if is_of_call l then comes_if (callout_at l room.calls) what else jobs.Happen what ∷ []) ≡ []
    by None is = refl
    by (Some line) is = by_high line is (is_call_line line) refl

pub come_some : (id : ℕ) (what : What) (room : Room) (d : Callout) → callout_in id room.calls ≡ Some d → about id (happening what room) ≡ (if on_line id (line_in what) then steps.Comes what ∷ [] else [])
come_some id what room d there = by (line_in what) refl
  where
    on_it : (line : ℕ) → line_in what ≡ Some line → (b : Bool) → (line == line_of id) ≡ b → is_call_line line ≡ true
        → about id (comes_if (callout_in (line - first_line) room.calls) what) ≡ (if b then steps.Comes what ∷ [] else [])
    on_it line is true same high =
        let back : line - first_line ≡ id = ap (λ (n : ℕ). n - first_line) (eqb-true line (line_of id) same) ∙ line_back id in
        ap (λ (o : Option Callout). about id (comes_if o what)) (ap (λ (n : ℕ). callout_in n room.calls) back ∙ there)
        ∙ comes_here id what d (ap (is_at id) is ∙ eq-eqb (line - first_line) id back)
    on_it line is false away high = comes_away id what (callout_in (line - first_line) room.calls) (ap (is_at id) is ∙ at_away id line high away)

    low_away : (line : ℕ) → is_call_line line ≡ false → (b : Bool) → (line == line_of id) ≡ b → [] ≡ (if b then steps.Comes what ∷ [] else [])
    low_away line low true same =
        let one : ◌≡◌ {A = Bool} true false = sym (call_line id) ∙ (ap is_call_line (sym (eqb-true line (line_of id) same)) ∙ low) in absurd (cc)
    low_away line low false away = refl

    by_high : (line : ℕ) → line_in what ≡ Some line → (b : Bool) → is_call_line line ≡ b
        → about id (if b then comes_if (callout_in (line - first_line) room.calls) what else jobs.Happen what ∷ []) ≡ (if line == line_of id then steps.Comes what ∷ [] else [])
    by_high line is true high = on_it line is (line == line_of id) refl high
    by_high line is false low = low_away line low (line == line_of id) refl

    by : (l : Option ℕ) → line_in what ≡ l → about id (if is_of_call l then comes_if (callout_at l room.calls) what else jobs.Happen what ∷ []) ≡ (if on_line id l then steps.Comes what ∷ [] else [])
    by None is = refl
    by (Some line) is = by_high line is (is_call_line line) refl
