-- Each callout ends once, by its fate.
use Rattle.std.proofs.Common.{◌≡◌, ◌<◌, ◌≤◌, ◌-◌, ◌==◌, ◌&&◌, not, ◌⊎◌, inl, inr, ℕ, Bool, true, false, cond, List, [], ◌∷◌, ◌++◌, refl, sym, ap, ◌∙◌, subst, eqb-true, eq-eqb, arith}
use Rattle.std.specs.Prelude.{Option, None, Some, if◌then◌else◌, nat_le}
use Rattle.std.proofs.lemmas.List.{append-nil}
use Rattle.callouts.specs.Callouts.{first_line, line_of, line_in, callout_in, callout_at, begun as begun_at, comes_of, reads as comes_read, nothing as nothing_comes, AfterRead, goes_on, waits, answers as answered_by, breaks, Taken, has, too_long, takes, is_last, after_taken, after_stop, with_reading, after_heard}
use Rattle.callouts.specs.Fates.{Known, with_text, Fate, pending, answered, failed, Verdict, unfinished, whole, broken, Says, DecidedBy, ByText, When, ByEvent, IsFate}
use Rattle.callouts.specs.Steps.{after_event_of, after_coming, after_read, callout_after, next_after, put_callout}
use Rattle.callouts.specs.declared.types.Callout.{Callout}
use Rattle.callouts.specs.declared.types.CallStep.{CallStep}
use Rattle.callouts.specs.declared.types.CallStep.TheVariants as steps
use Rattle.contexts.specs.declared.parts.CallAnswer.{CallAnswer}
use Rattle.filter_host.proofs.Holds.{all_reached}
use Rattle.filter_host.specs.Called.{Calling}
use Rattle.filter_host.specs.Course.{ends, Met, Reaches}
use Rattle.filter_host.specs.Heard.{Heard, hands, halts}
use Rattle.filter_host.specs.declared.host.Callback.TheVariants as callbacks
use Rattle.gate_io.specs.Events.{is_stop}
use Rattle.gate_io.specs.declared.event.Event.{Event}
use Rattle.gate_io.specs.declared.event.Side.TheVariants.{Down, Up}
use Rattle.gate_io.specs.declared.event.What.{What}
use Rattle.gate_io.specs.declared.event.What.TheVariants as whats
use Rattle.h1_model.specs.Messages.{Stop, rest, over, refusal}
use Rattle.h1_model.specs.Unread.{Reading, reading_with_bytes, reading_with_end}
use Rattle.law_flow.specs.Dying.{Callee, callee, step_callee, first_callee, call_callee, told_callee, live_callee, ended_callee}
use Rattle.law_meaning.specs.Walks.{Step}
use Rattle.worker_model.specs.Calls.{call_job, with_call_step, take_after, take_call_event, close_call, has_listener, answer_if, put_call_answer}
use Rattle.worker_model.specs.Plan.{Plan}
use Rattle.worker_model.specs.Room.{Room}
use Rattle.worker_model.specs.Rooms.{is_dead, next_of}
use Rattle.worker_model.specs.Settling.{is_rest}
use Rattle.worker_model.specs.Steps.{Both, both, step, works_first, works_call, reads_call, ends_call, tells_call}
use Rattle.worker_model.specs.Turn.{happening, room_for_event, without_sent, at_moment}
use Rattle.worker_model.specs.declared.types.Job.{Job}
use Rattle.worker_model.specs.declared.types.Next.{Next}
use Rattle.law_callouts.specs.Ends.{Life, rests, steps as step_of, turns, report_by, report_at, reports_in, report_of, EndsOnce, IsOver, EndsBy, known_of, IsNew, CalloutsEndOnce, BeginsIn, CalloutsBeginNew, CalloutsAreSoundInLives}
use Rattle.law_callouts.specs.Sound.{AreUpTo, AreSound}
use Rattle.law_callouts.proofs.About.{is_at, is_about, about, pend}
use Rattle.law_callouts.proofs.Reading.{ReadsSo, new_reads, feeds_reads, ends_reads, HeardSo, hears_so}
use Rattle.law_callouts.proofs.Sound.{stays_sound, none_beyond, without_gone}
use Rattle.law_callouts.proofs.Staying.{last, Stays, here, then_stays, put_same}
use Rattle.law_callouts.proofs.Steps.{Usual, Special, KeepsGood, Any, any_good, sort, rests_empty, Fine, tells_call_so, step_so, step_silent}
use Rattle.law_callouts.proofs.Turning.{turn_pend, due_none, due_some, line_back, on_line, deaf, come_none, come_some}

-- ---- a callout, and what it is at another time

-- its VM, its context and its deadline stay
pub record Same (c d : Callout) : Type 0 where
  pub id : d.id ≡ c.id
  pub vm : d.vm ≡ c.vm
  pub context : d.context ≡ c.context
  pub due : d.due ≡ c.due

abbrev pub known : Callout → List ℕ → List ℕ → Known
known c m text = record { line = line_of c.id; method = m; due = c.due; text = text }

taken_same : (c : Callout) (is_whole : Bool) (d : Callout) (t : Taken) → Same c d → Same c (callout_after (after_taken is_whole d t))
taken_same c true d (has a) s = record { id = s.id; vm = s.vm; context = s.context; due = s.due }
taken_same c false d (has a) s = record { id = s.id; vm = s.vm; context = s.context; due = s.due }
taken_same c is_whole d too_long s = s

read_same : (c : Callout) (r : Reading) (d : Callout) → Same c d → Same c (with_reading r d)
read_same c r d s = record { id = s.id; vm = s.vm; context = s.context; due = s.due }

stop_same : (c : Callout) (why : Stop) (r : Reading) (d : Callout) → Same c d → Same c (callout_after (after_stop why r d))
stop_same c rest r d s = read_same c r d s
stop_same c over r d s = read_same c r d s
stop_same c (refusal number) r d s = read_same c r d s

heard_same : (c : Callout) (h : Heard) (d : Callout) → Same c d → Same c (callout_after (after_heard h d))
heard_same c (hands part r) d s = taken_same c (is_last part) (with_reading r d) (takes part d.answer) (read_same c r d s)
heard_same c (halts why r) d s = stop_same c why r d s

-- ---- HOW FAR IT IS

-- no step of it but that something came of its line
abbrev pub AllCome : List CallStep → Type 0
AllCome [] = Unit {0}
AllCome (steps.Comes what ∷ p) = AllCome p
AllCome (steps.Read id ∷ p) = ⊥
AllCome (steps.Fail id ∷ p) = ⊥
AllCome (steps.Answer id ∷ p) = ⊥

-- Nothing of it is to be done in this turn; its event is to come; it is being read; it has failed; or it was answered. And by what passes later its fate is this.
pub data Phase (c : Callout) (m : List ℕ) (es : List Event) (fate : Fate) (room : Room) : Type 0 where
  quiet : (d : Callout) (text : List ℕ) → callout_in c.id room.calls ≡ Some d → Same c d → ReadsSo m text false d → pend c.id room ≡ [] → IsFate (known c m text) es fate → Phase c m es fate room
  comes : (d : Callout) (text : List ℕ) (what : What) → callout_in c.id room.calls ≡ Some d → Same c d → ReadsSo m text false d → pend c.id room ≡ steps.Comes what ∷ []
      → line_in what ≡ Some (line_of c.id) → ByEvent what (known c m text) fate (λ k. IsFate k es fate) → Phase c m es fate room
  reads : (d : Callout) (text : List ℕ) (ended : Bool) (v : Verdict) → callout_in c.id room.calls ≡ Some d → Same c d → ReadsSo m text ended d → pend c.id room ≡ steps.Read c.id ∷ []
      → Says m ended text v → DecidedBy v fate (IsFate (known c m text) es fate) → Phase c m es fate room
  fails : (d : Callout) (p : List CallStep) → callout_in c.id room.calls ≡ Some d → Same c d → pend c.id room ≡ steps.Fail c.id ∷ p → AllCome p → fate ≡ failed → Phase c m es fate room
  answers : (d : Callout) → callout_in c.id room.calls ≡ Some d → Same c d → pend c.id room ≡ steps.Answer c.id ∷ [] → fate ≡ answered d.answer → Phase c m es fate room

-- it has ended
pub record Ended (id : ℕ) (room : Room) : Type 0 where
  pub gone : callout_in id room.calls ≡ None
  pub only : AllCome (pend id room)

phase_stays : (c : Callout) (m : List ℕ) (es : List Event) (fate : Fate) (old new : Room) → Stays c.id old new → c.id ≤ last old → Phase c m es fate old → Phase c m es fate new
phase_stays c m es fate old new s low (quiet d text there same reading p is) = quiet d text (s.same low ∙ there) same reading (s.pending ∙ p) is
phase_stays c m es fate old new s low (comes d text what there same reading p line by) = comes d text what (s.same low ∙ there) same reading (s.pending ∙ p) line by
phase_stays c m es fate old new s low (reads d text ended v there same reading p says by) = reads d text ended v (s.same low ∙ there) same reading (s.pending ∙ p) says by
phase_stays c m es fate old new s low (fails d p there same q only is) = fails d p (s.same low ∙ there) same (s.pending ∙ q) only is
phase_stays c m es fate old new s low (answers d there same q is) = answers d (s.same low ∙ there) same (s.pending ∙ q) is

ended_stays : (id : ℕ) (old new : Room) → Stays id old new → id ≤ last old → Ended id old → Ended id new
ended_stays id old new s low e = record { gone = s.same low ∙ e.gone; only = subst AllCome (sym s.pending) e.only }

-- ---- a step about it

-- what is in hand and to come begins with it
special_pend : (id : ℕ) (s : CallStep) (later : List Job) (room : Room) → room.jobs ≡ call_job s ∷ later → is_about id s ≡ true → pend id room ≡ s ∷ about id (later ++ room.agenda)
special_pend id s later room is it =
    ap (λ (js : List Job). about id (js ++ room.agenda)) is ∙ ap (λ (b : Bool). (if b then s ∷ [] else []) ++ about id (later ++ room.agenda)) it

first_of : (s t : CallStep) (p q : List CallStep) → s ∷ p ≡ t ∷ q → s ≡ t
first_of s t p q is = (cc)

others_of : (s t : CallStep) (p q : List CallStep) → s ∷ p ≡ t ∷ q → p ≡ q
others_of s t p q is = (cc)

never_empty : (s : CallStep) (p : List CallStep) → s ∷ p ≡ [] → ⊥
never_empty s p is = absurd (cc)

-- its own step comes next
next_pend : (id : ℕ) (s : CallStep) (room : Room) → is_about id s ≡ true → pend id (with_call_step (Some s) room) ≡ s ∷ pend id room
next_pend id s room it = ap (λ (b : Bool). (if b then s ∷ [] else []) ++ pend id room) it

-- one of an id that is the same
one_pend : (id n : ℕ) (f : ℕ → CallStep) (room : Room) → n ≡ id → is_about id (f id) ≡ true → pend id room ≡ [] → pend id (with_call_step (Some (f n)) room) ≡ f id ∷ []
one_pend id n f room same it none =
    ap (λ (x : ℕ). pend id (with_call_step (Some (f x)) room)) same ∙ (next_pend id (f id) room it ∙ ap (λ (l : List CallStep). f id ∷ l) none)

self : (id : ℕ) → (id == id) ≡ true
self id = eq-eqb id id refl

module _ (c : Callout) (m : List ℕ) (es : List Event) (fate : Fate) where
  -- its line, in an event of it
  on_its_line : (line : ℕ) → Some line ≡ Some (line_of c.id) → (line == line_of c.id) ≡ true
  on_its_line line is = let one : line ≡ line_of c.id = (cc) in eq-eqb line (line_of c.id) one

  when_true : (b : Bool) (A B : Type 0) → b ≡ true → When b A B → A
  when_true true A B is x = x
  when_true false A B is x = absurd (cc)

  -- it is read on by what came
  feeds_phase : (d : Callout) (text bytes : List ℕ) (room : Room) → callout_in c.id room.calls ≡ Some d → Same c d → ReadsSo m text false d → pend c.id room ≡ []
      → ByText (known c m text) false bytes fate (IsFate (with_text bytes (known c m text)) es fate)
      → Phase c m es fate (with_call_step (Some (steps.Read d.id)) (record room { calls = put_callout d.id (with_reading (reading_with_bytes bytes d.reader) d) room.calls }))
  feeds_phase d text bytes room there same reading none by =
      let e : Callout = with_reading (reading_with_bytes bytes d.reader) d in
      reads e (text ++ bytes) false by.0
      (subst (λ (n : ℕ). callout_in c.id (put_callout n e room.calls) ≡ Some e) (sym same.id) (put_same c.id e d room.calls same.id there))
      (read_same c (reading_with_bytes bytes d.reader) d same) (feeds_reads m text bytes d reading)
      (one_pend c.id d.id (λ n. steps.Read n) (record room { calls = put_callout d.id e room.calls }) same.id (self c.id) none) by.1 by.2

  ends_phase : (d : Callout) (text : List ℕ) (room : Room) → callout_in c.id room.calls ≡ Some d → Same c d → ReadsSo m text false d → pend c.id room ≡ []
      → ByText (known c m text) true [] fate (IsFate (known c m text) es fate)
      → Phase c m es fate (with_call_step (Some (steps.Read d.id)) (record room { calls = put_callout d.id (with_reading (reading_with_end d.reader) d) room.calls }))
  ends_phase d text room there same reading none by =
      let e : Callout = with_reading (reading_with_end d.reader) d in
      reads e (text ++ []) true by.0
      (subst (λ (n : ℕ). callout_in c.id (put_callout n e room.calls) ≡ Some e) (sym same.id) (put_same c.id e d room.calls same.id there))
      (read_same c (reading_with_end d.reader) d same) (ends_reads m text d reading)
      (one_pend c.id d.id (λ n. steps.Read n) (record room { calls = put_callout d.id e room.calls }) same.id (self c.id) none) by.1
      (subst (λ (t : List ℕ). DecidedBy by.0 fate (IsFate (known c m t) es fate)) (sym (append-nil text)) by.2)

  fails_phase : (d : Callout) (room : Room) → callout_in c.id room.calls ≡ Some d → Same c d → pend c.id room ≡ [] → fate ≡ failed → Phase c m es fate (with_call_step (Some (steps.Fail d.id)) room)
  fails_phase d room there same none is = fails d [] there same (one_pend c.id d.id (λ n. steps.Fail n) room same.id (self c.id) none) tt is

  -- SOMETHING CAME of its line
  coming_phase : (what : What) (d : Callout) (text : List ℕ) (room : Room) → callout_in c.id room.calls ≡ Some d → Same c d → ReadsSo m text false d → pend c.id room ≡ []
      → line_in what ≡ Some (line_of c.id) → ByEvent what (known c m text) fate (λ k. IsFate k es fate) → Phase c m es fate (take_after (after_coming d (comes_of what d.reader) room.calls) room)
  coming_phase (whats.Opened line) d text room there same reading none is by = quiet d text there same reading none by
  coming_phase (whats.Bytes line Down bytes) d text room there same reading none is by = quiet d text there same reading none by
  coming_phase (whats.Bytes line Up bytes) d text room there same reading none is by =
      subst (λ (b : Bool). Phase c m es fate (take_after (after_coming d (if b then nothing_comes else comes_read (reading_with_bytes bytes d.reader)) room.calls) room)) (sym reading.ended_is)
      (feeds_phase d text bytes room there same reading none (when_true (line == line_of c.id) _ _ (on_its_line line is) by))
  coming_phase (whats.End line Down) d text room there same reading none is by = quiet d text there same reading none by
  coming_phase (whats.End line Up) d text room there same reading none is by =
      subst (λ (b : Bool). Phase c m es fate (take_after (after_coming d (if b then nothing_comes else comes_read (reading_with_end d.reader)) room.calls) room)) (sym reading.ended_is)
      (ends_phase d text room there same reading none (when_true (line == line_of c.id) _ _ (on_its_line line is) by))
  coming_phase (whats.Gone line Down) d text room there same reading none is by = quiet d text there same reading none by
  coming_phase (whats.Gone line Up) d text room there same reading none is by = fails_phase d room there same none (when_true (line == line_of c.id) _ _ (on_its_line line is) by)
  coming_phase (whats.Joined line) d text room there same reading none is by = quiet d text there same reading none by
  coming_phase (whats.Refused line) d text room there same reading none is by = fails_phase d room there same none (when_true (line == line_of c.id) _ _ (on_its_line line is) by)
  coming_phase (whats.Room line side) d text room there same reading none is by = quiet d text there same reading none by
  coming_phase whats.Clock d text room there same reading none is by = quiet d text there same reading none by
  coming_phase whats.Stop d text room there same reading none is by = quiet d text there same reading none by

  comes_phase : (what : What) (d : Callout) (text : List ℕ) (room : Room) → callout_in c.id room.calls ≡ Some d → Same c d → ReadsSo m text false d → pend c.id room ≡ []
      → line_in what ≡ Some (line_of c.id) → ByEvent what (known c m text) fate (λ k. IsFate k es fate) → Phase c m es fate (take_call_event what room)
  comes_phase what d text room there same reading none is by =
      let found : callout_at (line_in what) room.calls ≡ Some d
      = ap (λ (l : Option ℕ). callout_at l room.calls) is ∙ (ap (λ (n : ℕ). callout_in n room.calls) (line_back c.id) ∙ there) in
      subst (λ (o : Option Callout). Phase c m es fate (take_after (after_event_of o what room.calls) room)) (sym found) (coming_phase what d text room there same reading none is by)

  -- ITS READER SAYS something
  decided : (v w : Verdict) (later : Type 0) → v ≡ w → DecidedBy v fate later → DecidedBy w fate later
  decided v w later is by = subst (λ (x : Verdict). DecidedBy x fate later) is by

  reading_phase : (a : AfterRead) (text : List ℕ) (ended : Bool) (v : Verdict) (d : Callout) (room : Room) → callout_in c.id room.calls ≡ Some d → Same c (callout_after a) → HeardSo m text ended a → pend c.id room ≡ []
      → Says m ended text v → DecidedBy v fate (IsFate (known c m text) es fate) → Phase c m es fate (take_after (after_read c.id a room.calls) room)
  reading_phase (goes_on e) text ended v d room there same so none says by =
      reads e text ended v (put_same c.id e d room.calls same.id there) same so
      (one_pend c.id c.id (λ n. steps.Read n) (record room { calls = put_callout c.id e room.calls }) refl (self c.id) none) says by
  reading_phase (waits e) text ended v d room there same so none says by =
      quiet e text (put_same c.id e d room.calls same.id there) same (subst (λ (b : Bool). ReadsSo m text b e) so.0 so.1) none (decided v unfinished _ (so.2 v says) by)
  reading_phase (answered_by e) text ended v d room there same so none says by =
      answers e (put_same c.id e d room.calls same.id there) same
      (one_pend c.id c.id (λ n. steps.Answer n) (record room { calls = put_callout c.id e room.calls }) refl (self c.id) none) (decided v (whole e.answer) (IsFate (known c m text) es fate) (so v says) by)
  reading_phase (breaks e) text ended v d room there same so none says by =
      fails e [] (put_same c.id e d room.calls same.id there) same
      (one_pend c.id c.id (λ n. steps.Fail n) (record room { calls = put_callout c.id e room.calls }) refl (self c.id) none) tt (decided v broken (IsFate (known c m text) es fate) (so v says) by)

-- ---- a turn begins

when_false : (b : Bool) (A B : Type 0) → b ≡ false → When b A B → B
when_false true A B is x = absurd (cc)
when_false false A B is x = x

-- an event that is not of its line says nothing of it
aside : (c : Callout) (m text : List ℕ) (fate : Fate) (later : Known → Type 0) (what : What) → on_line c.id (line_in what) ≡ false → ByEvent what (known c m text) fate later → later (known c m text)
aside c m text fate later (whats.Opened line) is by = by
aside c m text fate later (whats.Bytes line Down bytes) is by = by
aside c m text fate later (whats.Bytes line Up bytes) is by = when_false (line == line_of c.id) _ _ is by
aside c m text fate later (whats.End line Down) is by = by
aside c m text fate later (whats.End line Up) is by = when_false (line == line_of c.id) _ _ is by
aside c m text fate later (whats.Gone line Down) is by = by
aside c m text fate later (whats.Gone line Up) is by = when_false (line == line_of c.id) _ _ is by
aside c m text fate later (whats.Joined line) is by = by
aside c m text fate later (whats.Refused line) is by = when_false (line == line_of c.id) _ _ is by
aside c m text fate later (whats.Room line side) is by = by
aside c m text fate later whats.Clock is by = by
aside c m text fate later whats.Stop is by = by

its_line : (id : ℕ) (l : Option ℕ) → on_line id l ≡ true → l ≡ Some (line_of id)
its_line id None is = absurd (cc)
its_line id (Some line) is = ap Some (eqb-true line (line_of id) is)

come_only : (what : What) (b : Bool) → AllCome (if b then steps.Comes what ∷ [] else [])
come_only what true = tt
come_only what false = tt

turn_phase : (c : Callout) (m : List ℕ) (es : List Event) (fate : Fate) (plan : Plan) (event : Event) (d : Callout) (text : List ℕ) (room : Room) → AreSound room → room.jobs ≡ [] → is_stop event.what ≡ false
    → callout_in c.id room.calls ≡ Some d → Same c d → ReadsSo m text false d → IsFate (known c m text) (event ∷ es) fate → Phase c m es fate (room_for_event plan event room)
turn_phase c m es fate plan event d text room sound none goes there same reading is =
    by_due (nat_le c.due event.now) refl (when_false (is_stop event.what) _ _ goes is)
  where
    -- in hand and to come
    all : pend c.id (room_for_event plan event room) ≡ (if nat_le d.due event.now then steps.Fail c.id ∷ [] else []) ++ (if on_line c.id (line_in event.what) then steps.Comes event.what ∷ [] else [])
    all =
        turn_pend c.id plan event room none
        ∙ ap (λ (l : List CallStep). l ++ about c.id (happening event.what (at_moment event.now room))) (due_some c.id event.now 0 room.calls d sound.rising there)
        ∙ ap (λ (l : List CallStep). (if nat_le d.due event.now then steps.Fail c.id ∷ [] else []) ++ l) (come_some c.id event.what (at_moment event.now room) d there)

    by_line : (b : Bool) → on_line c.id (line_in event.what) ≡ b → nat_le c.due event.now ≡ false → ByEvent event.what (known c m text) fate (λ k. IsFate k es fate) → Phase c m es fate (room_for_event plan event room)
    by_line true on late by =
        comes d text event.what there same reading
        (all ∙ ap (λ (b : Bool). (if b then steps.Fail c.id ∷ [] else []) ++ (if on_line c.id (line_in event.what) then steps.Comes event.what ∷ [] else [])) (ap (λ (n : ℕ). nat_le n event.now) same.due ∙ late)
        ∙ ap (λ (b : Bool). if b then steps.Comes event.what ∷ [] else []) on)
        (its_line c.id (line_in event.what) on) by
    by_line false on late by =
        quiet d text there same reading
        (all ∙ ap (λ (b : Bool). (if b then steps.Fail c.id ∷ [] else []) ++ (if on_line c.id (line_in event.what) then steps.Comes event.what ∷ [] else [])) (ap (λ (n : ℕ). nat_le n event.now) same.due ∙ late)
        ∙ ap (λ (b : Bool). if b then steps.Comes event.what ∷ [] else []) on)
        (aside c m text fate (λ k. IsFate k es fate) event.what on by)

    by_due : (b : Bool) → nat_le c.due event.now ≡ b → When b (fate ≡ failed) (ByEvent event.what (known c m text) fate (λ k. IsFate k es fate)) → Phase c m es fate (room_for_event plan event room)
    by_due true late by =
        fails d (if on_line c.id (line_in event.what) then steps.Comes event.what ∷ [] else []) there same
        (all ∙ ap (λ (b : Bool). (if b then steps.Fail c.id ∷ [] else []) ++ (if on_line c.id (line_in event.what) then steps.Comes event.what ∷ [] else [])) (ap (λ (n : ℕ). nat_le n event.now) same.due ∙ late))
        (come_only event.what (on_line c.id (line_in event.what))) by
    by_due false late by = by_line (on_line c.id (line_in event.what)) refl late by

-- of one that has ended nothing is to be done
none_pend : (id : ℕ) (plan : Plan) (event : Event) (room : Room) → room.jobs ≡ [] → callout_in id room.calls ≡ None → pend id (room_for_event plan event room) ≡ []
none_pend id plan event room none gone =
    turn_pend id plan event room none
    ∙ ap (λ (l : List CallStep). l ++ about id (happening event.what (at_moment event.now room))) (due_none id event.now room.calls gone)
    ∙ come_none id event.what (at_moment event.now room) gone

rest_pend : (id : ℕ) (room : Room) → is_rest (next_of room) ≡ true → pend id room ≡ []
rest_pend id room is =
    let empty = rests_empty room is in
    ap (λ (js : List Job). about id (js ++ room.agenda)) empty.0 ∙ ap (λ (js : List Job). about id js) empty.1

-- ---- what a step of it reports

listens : (x dead y : Bool) → ((x && not dead) && y) ≡ true → dead ≡ false
listens true true y is = absurd (cc)
listens true false y is = refl
listens false dead y is = absurd (cc)

report_own : (a : Option CallAnswer) (d : Callout) (closed : Room) → report_by d.id (told_callee a d closed) ≡ (if has_listener d closed then report_of a d closed ∷ [] else [])
report_own a d closed = by (has_listener d closed) refl
  where
    by_dead : (b : Bool) → is_dead d.vm closed ≡ b → b ≡ false → report_by d.id (if is_dead d.vm closed then None else Some (report_of a d closed)) ≡ report_of a d closed ∷ []
    by_dead b is alive =
        ap (λ (x : Bool). report_by d.id (if x then None else Some (report_of a d closed))) (is ∙ alive) ∙ ap (λ (x : Bool). if x then report_of a d closed ∷ [] else []) (self d.id)

    by : (b : Bool) → has_listener d closed ≡ b
        → report_by d.id (if b then live_callee d.vm callbacks.CallAnswered d.context d.id 0 (put_call_answer a d.vm d.context closed) else None) ≡ (if b then report_of a d closed ∷ [] else [])
    by true is = by_dead (is_dead d.vm closed) refl (listens _ (is_dead d.vm closed) _ is)
    by false is = refl

abbrev report_with : Option CallAnswer → Callout → Room → (vm context id : ℕ) → List Callee
report_with a c closed vm context id = if has_listener (record c { vm = vm; context = context }) closed then callee vm callbacks.CallAnswered context id 0 (put_call_answer a vm context closed) ∷ [] else []

report_end : (a : Option CallAnswer) (c d : Callout) (closed : Room) → Same c d → report_by c.id (told_callee a d closed) ≡ (if has_listener c closed then report_of a c closed ∷ [] else [])
report_end a c d closed same =
    subst (λ (n : ℕ). report_by n (told_callee a d closed) ≡ (if has_listener d closed then report_of a d closed ∷ [] else [])) same.id (report_own a d closed)
    ∙ ap (λ (n : ℕ). report_with a c closed d.vm d.context n) same.id
    ∙ ap (λ (n : ℕ). report_with a c closed d.vm n c.id) same.context
    ∙ ap (λ (n : ℕ). report_with a c closed n c.context c.id) same.vm

-- no id is above the last one drawn
pub up_to : (id : ℕ) (calls : List Callout) (most : ℕ) (d : Callout) → callout_in id calls ≡ Some d → AreUpTo most calls → id ≤ most
up_to id [] most d there drawn = absurd (cc)
up_to id (x ∷ calls) most d there drawn = by (up_to id calls most d) (x.id == id) refl there
  where
    by : (callout_in id calls ≡ Some d → AreUpTo most calls → id ≤ most) → (b : Bool) → (x.id == id) ≡ b → cond b (Some x) (callout_in id calls) ≡ Some d → id ≤ most
    by later true same there = omega (arith, eqb-true x.id id same, drawn.0)
    by later false same there = later there drawn.1

event_of : (x y : Event) (es : List Event) → x ∷ es ≡ y ∷ [] → x ≡ y
event_of x y es is = (cc)

rest_of : (x y : Event) (es : List Event) → x ∷ es ≡ y ∷ [] → es ≡ []
rest_of x y es is = (cc)

-- a step is about one callout at most
two_ids : (s t : CallStep) → s ≡ t → is_about 0 s ≡ true → is_about 1 t ≡ true → ⊥
two_ids s t same one two = by s one (subst (λ (x : CallStep). is_about 1 x ≡ true) (sym same) two)
  where
    by_line : (l : Option ℕ) → is_at 0 l ≡ true → is_at 1 l ≡ true → ⊥
    by_line None one two = absurd (cc)
    by_line (Some line) one two = omega (arith, eqb-true (line - first_line) 0 one, eqb-true (line - first_line) 1 two)

    by : (s : CallStep) → is_about 0 s ≡ true → is_about 1 s ≡ true → ⊥
    by (steps.Comes what) one two = by_line (line_in what) one two
    by (steps.Read n) one two = omega (arith, eqb-true n 0 one, eqb-true n 1 two)
    by (steps.Fail n) one two = omega (arith, eqb-true n 0 one, eqb-true n 1 two)
    by (steps.Answer n) one two = omega (arith, eqb-true n 0 one, eqb-true n 1 two)

same_job : (s t : CallStep) (a b : List Job) → call_job s ∷ a ≡ call_job t ∷ b → s ≡ t
same_job s t a b is = (cc)

-- the one that was on the line of an id is gone
found_none : (id : ℕ) (l : Option ℕ) (calls : List Callout) → is_at id l ≡ true → callout_in id calls ≡ None → callout_at l calls ≡ None
found_none id None calls at gone = refl
found_none id (Some line) calls at gone = ap (λ (n : ℕ). callout_in n calls) (eqb-true (line - first_line) id at) ∙ gone

once : {H : Type 0} (c : Callout) (answer : Option CallAnswer) (s : Step H) (more : List (Step H)) (left : List Job)
    → report_at c.id s ≡ (if has_listener c s.before.room then report_of answer c (close_call c.id (record s.before.room { jobs = left })) ∷ [] else [])
    → reports_in c.id more ≡ [] → EndsOnce c answer (s ∷ more)
once c answer s more left reported none = record { earlier = []; ending = s; later = more; is = refl; not_before = refl; left = left; reported = reported; not_after = none }

once_more : {H : Type 0} (c : Callout) (answer : Option CallAnswer) (s : Step H) (more : List (Step H)) → report_at c.id s ≡ [] → EndsOnce c answer more → EndsOnce c answer (s ∷ more)
once_more c answer s more none x = record {
  earlier = s ∷ x.earlier;
  ending = x.ending;
  later = x.later;
  is = ap (λ (l : List (Step _)). s ∷ l) x.is;
  not_before = ap (λ (l : List Callee). l ++ reports_in c.id x.earlier) none ∙ x.not_before;
  left = x.left;
  reported = x.reported;
  not_after = x.not_after;
}

-- at rest it is quiet, or nothing
at_rest : {H : Type 0} (c : Callout) (m : List ℕ) (fate : Fate) (b : Both H) → is_rest (next_of b.room) ≡ true → Phase c m [] fate b.room → EndsBy fate c [] b
at_rest c m fate b is (quiet d text there same reading p still_open) =
    subst (λ (f : Fate). EndsBy f c [] b) (sym still_open) (refl, record { now = d; there = there; vm = same.vm; context = same.context; due = same.due })
at_rest c m fate b is (comes d text what there same reading p line by) = absurd (never_empty _ _ (sym p ∙ rest_pend c.id b.room is))
at_rest c m fate b is (reads d text ended v there same reading p says by) = absurd (never_empty _ _ (sym p ∙ rest_pend c.id b.room is))
at_rest c m fate b is (fails d q there same p only by) = absurd (never_empty _ _ (sym p ∙ rest_pend c.id b.room is))
at_rest c m fate b is (answers d there same p by) = absurd (never_empty _ _ (sym p ∙ rest_pend c.id b.room is))

begins_turn_at : {H : Type 0} (plan : Plan) (c : Callout) (m : List ℕ) (es : List Event) (fate : Fate) (event : Event) (b : Both H) → is_rest (next_of b.room) ≡ true → is_stop event.what ≡ false → AreSound b.room
    → Phase c m (event ∷ es) fate b.room → Phase c m es fate (room_for_event plan event (without_sent b.room))
begins_turn_at plan c m es fate event b is goes sound (quiet d text there same reading p still_open) =
    turn_phase c m es fate plan event d text (without_sent b.room) (record { rising = sound.rising; drawn = sound.drawn; counted = sound.counted }) (rests_empty b.room is).0 goes there same reading still_open
begins_turn_at plan c m es fate event b is goes sound (comes d text what there same reading p line by) = absurd (never_empty _ _ (sym p ∙ rest_pend c.id b.room is))
begins_turn_at plan c m es fate event b is goes sound (reads d text ended v there same reading p says by) = absurd (never_empty _ _ (sym p ∙ rest_pend c.id b.room is))
begins_turn_at plan c m es fate event b is goes sound (fails d q there same p only by) = absurd (never_empty _ _ (sym p ∙ rest_pend c.id b.room is))
begins_turn_at plan c m es fate event b is goes sound (answers d there same p by) = absurd (never_empty _ _ (sym p ∙ rest_pend c.id b.room is))

-- ---- one step

-- by its fate the answer is this
abbrev pub IsOf : Fate → Option CallAnswer → Type 0
IsOf pending answer = ⊥
IsOf (answered a) answer = answer ≡ Some a
IsOf failed answer = answer ≡ None

last_step : (o : Option CallStep) (room : Room) → last room ≤ last (with_call_step o room)
last_step None room = omega arith
last_step (Some s) room = omega arith

module _ {H : Type 0} (calling : Calling H) (IsGood : H → Type 0) (kept : KeepsGood calling IsGood) (plan : Plan) where
  -- the machines stay good, callouts stay sound, and ids are drawn rising
  pub record Safe (b m : Both H) : Type 0 where
    pub good : IsGood m.host
    pub sound : AreSound m.room
    pub drawn : last b.room ≤ last m.room

  pub data Done (c : Callout) (m : List ℕ) (es : List Event) (fate : Fate) (s : Step H) : Type 0 where
    onward : Safe s.before s.after → Phase c m es fate s.after.room → report_at c.id s ≡ [] → Done c m es fate s
    closing : Safe s.before s.after → Ended c.id s.after.room → (answer : Option CallAnswer) → IsOf fate answer → (left : List Job)
        → report_at c.id s ≡ (if has_listener c s.before.room then report_of answer c (close_call c.id (record s.before.room { jobs = left })) ∷ [] else []) → Done c m es fate s

  -- a step about it
  module _ (b t : Both H) (ms : List Met) (good : IsGood b.host) (sound : AreSound b.room) where
    abbrev taken : List Job → Room
    taken later = record b.room { jobs = later }

    taken_sound : (later : List Job) → AreSound (taken later)
    taken_sound later = record { rising = sound.rising; drawn = sound.drawn; counted = sound.counted }

    reached : (id : ℕ) (x : Special id (next_of b.room) b.room.jobs) → Reaches (step calling plan (next_of b.room) b.host b.room) ms (ends t) → Reaches (works_call calling x.doing b.host (taken x.later)) ms (ends t)
    reached id x reach =
        subst (λ (js : List Job). Reaches (works_first calling plan js b.host b.room) ms (ends t)) x.first
        (subst (λ (nx : Next). Reaches (step calling plan nx b.host b.room) ms (ends t)) x.works reach)

    reports : (id : ℕ) (x : Special id (next_of b.room) b.room.jobs) → report_by id (step_callee (next_of b.room) b.room) ≡ report_by id (call_callee x.doing (taken x.later))
    reports id x = ap (λ (nx : Next). report_by id (step_callee nx b.room)) x.works ∙ ap (λ (js : List Job). report_by id (first_callee js b.room)) x.first

    -- it ended, answered or not
    closed_by : (c : Callout) (is_answered : Bool) (d : Callout) (later : List Job) → c.id ≤ last b.room → callout_in c.id b.room.calls ≡ Some d → AllCome (about c.id (later ++ b.room.agenda))
        → Reaches (ends_call calling is_answered c.id (callout_in c.id b.room.calls) b.host (taken later)) ms (ends t) → Safe b t × Ended c.id t.room
    closed_by c is_answered d later low there only reach =
        let closed : Room = close_call c.id (taken later) in
        let fine : Fine IsGood c.id closed t
        = all_reached (Fine IsGood c.id closed) ms (tells_call calling (answer_if is_answered d) d b.host closed) t
        (tells_call_so calling IsGood kept plan c.id (answer_if is_answered d) d b.host closed good (stays_sound.ends c.id (taken later) (taken_sound later)))
        (subst (λ (o : Option Callout). Reaches (ends_call calling is_answered c.id o b.host (taken later)) ms (ends t)) there reach) in (
          record { good = fine.0; sound = fine.1.sound; drawn = fine.1.drawn },
          record { gone = fine.1.same low ∙ without_gone 0 c.id b.room.calls sound.rising; only = subst AllCome (sym fine.1.pending) only },
        )

    special_step : (c : Callout) (m : List ℕ) (es : List Event) (fate : Fate) → c.id ≤ last b.room → Phase c m es fate b.room → (x : Special c.id (next_of b.room) b.room.jobs)
        → Reaches (step calling plan (next_of b.room) b.host b.room) ms (ends t) → Done c m es fate (record { before = b; met = ms; after = t })
    special_step c m es fate low phase x reach = by phase
      where
        first : pend c.id b.room ≡ x.doing ∷ about c.id (x.later ++ b.room.agenda)
        first = special_pend c.id x.doing x.later b.room x.first x.about_it

        by : Phase c m es fate b.room → Done c m es fate (record { before = b; met = ms; after = t })
        by (quiet d text there same reading p is) = absurd (never_empty x.doing (about c.id (x.later ++ b.room.agenda)) (sym first ∙ p))
        by (comes d text what there same reading p line is) =
            let one : x.doing ≡ steps.Comes what = first_of _ _ _ _ (sym first ∙ p) in
            let none : about c.id (x.later ++ b.room.agenda) ≡ [] = others_of _ _ _ _ (sym first ∙ p) in
            let after : Safe b t × Phase c m es fate t.room
            = all_reached (λ (y : Both H). Safe b y × Phase c m es fate y.room) ms (works_call calling (steps.Comes what) b.host (taken x.later)) t (
              record {
                good = good;
                sound = stays_sound.comes what (taken x.later) (taken_sound x.later);
                drawn = last_step (after_event_of (callout_at (line_in what) b.room.calls) what b.room.calls).next (record (taken x.later) { calls = (after_event_of (callout_at (line_in what) b.room.calls) what b.room.calls).calls });
              },
              comes_phase c m es fate what d text (taken x.later) there same reading none line is,
            )
            (subst (λ (s : CallStep). Reaches (works_call calling s b.host (taken x.later)) ms (ends t)) one (reached c.id x reach)) in
            onward after.0 after.1 (reports c.id x ∙ ap (λ (s : CallStep). report_by c.id (call_callee s (taken x.later))) one)
        by (reads d text ended v there same reading p says is) =
            let one : x.doing ≡ steps.Read c.id = first_of _ _ _ _ (sym first ∙ p) in
            let none : about c.id (x.later ++ b.room.agenda) ≡ [] = others_of _ _ _ _ (sym first ∙ p) in
            let after : Safe b t × Phase c m es fate t.room
            = all_reached (λ (y : Both H). Safe b y × Phase c m es fate y.room) ms (reads_call c.id (Some d) b.host (taken x.later)) t
            (λ h heard. (
              record {
                good = good;
                sound = stays_sound.hears c.id d h (taken x.later) there (taken_sound x.later);
                drawn = last_step (next_after c.id (after_heard h d)) (record (taken x.later) { calls = put_callout c.id (callout_after (after_heard h d)) b.room.calls });
              },
              reading_phase c m es fate (after_heard h d) text ended v d (taken x.later) there (heard_same c h d same) (hears_so m text ended d h reading heard) none says is,
            ))
            (subst (λ (o : Option Callout). Reaches (reads_call c.id o b.host (taken x.later)) ms (ends t)) there
            (subst (λ (s : CallStep). Reaches (works_call calling s b.host (taken x.later)) ms (ends t)) one (reached c.id x reach))) in
            onward after.0 after.1 (reports c.id x ∙ ap (λ (s : CallStep). report_by c.id (call_callee s (taken x.later))) one)
        by (fails d p there same q only is) =
            let one : x.doing ≡ steps.Fail c.id = first_of _ _ _ _ (sym first ∙ q) in
            let rest_is : about c.id (x.later ++ b.room.agenda) ≡ p = others_of _ _ _ _ (sym first ∙ q) in
            let after : Safe b t × Ended c.id t.room
            = closed_by c false d x.later low there (subst AllCome (sym rest_is) only) (subst (λ (s : CallStep). Reaches (works_call calling s b.host (taken x.later)) ms (ends t)) one (reached c.id x reach)) in
            closing after.0 after.1 None (subst (λ (f : Fate). IsOf f None) (sym is) refl) x.later
            (reports c.id x ∙ ap (λ (s : CallStep). report_by c.id (call_callee s (taken x.later))) one
            ∙ ap (λ (o : Option Callout). report_by c.id (ended_callee false c.id o (taken x.later))) there ∙ report_end None c d (close_call c.id (taken x.later)) same)
        by (answers d there same q is) =
            let one : x.doing ≡ steps.Answer c.id = first_of _ _ _ _ (sym first ∙ q) in
            let rest_is : about c.id (x.later ++ b.room.agenda) ≡ [] = others_of _ _ _ _ (sym first ∙ q) in
            let after : Safe b t × Ended c.id t.room
            = closed_by c true d x.later low there (subst AllCome (sym rest_is) tt) (subst (λ (s : CallStep). Reaches (works_call calling s b.host (taken x.later)) ms (ends t)) one (reached c.id x reach)) in
            closing after.0 after.1 (Some d.answer) (subst (λ (f : Fate). IsOf f (Some d.answer)) (sym is) refl) x.later
            (reports c.id x ∙ ap (λ (s : CallStep). report_by c.id (call_callee s (taken x.later))) one
            ∙ ap (λ (o : Option Callout). report_by c.id (ended_callee true c.id o (taken x.later))) there ∙ report_end (Some d.answer) c d (close_call c.id (taken x.later)) same)

  -- any step
  steps_on : (c : Callout) (m : List ℕ) (es : List Event) (fate : Fate) (b t : Both H) (ms : List Met) → IsGood b.host → AreSound b.room → c.id ≤ last b.room → Phase c m es fate b.room
      → Reaches (step calling plan (next_of b.room) b.host b.room) ms (ends t) → Done c m es fate (record { before = b; met = ms; after = t })
  steps_on c m es fate b t ms good sound low phase reach = by (sort c.id (next_of b.room) b.room.jobs)
    where
      by : Usual c.id (next_of b.room) b.room.jobs ⊎ Special c.id (next_of b.room) b.room.jobs → Done c m es fate (record { before = b; met = ms; after = t })
      by (inl usual) =
          let fine : Fine IsGood c.id b.room t = all_reached (Fine IsGood c.id b.room) ms (step calling plan (next_of b.room) b.host b.room) t (step_so calling IsGood kept plan c.id b.host b.room usual good sound) reach in
          onward (record { good = fine.0; sound = fine.1.sound; drawn = fine.1.drawn }) (phase_stays c m es fate b.room t.room fine.1 low phase) (step_silent c.id (next_of b.room) b.room usual)
      by (inr x) = special_step b t ms good sound c m es fate low phase x reach

  -- after its end
  over_step : (id : ℕ) (b t : Both H) (ms : List Met) → IsGood b.host → AreSound b.room → id ≤ last b.room → Ended id b.room
      → Reaches (step calling plan (next_of b.room) b.host b.room) ms (ends t) → Safe b t × Ended id t.room × (report_by id (step_callee (next_of b.room) b.room) ≡ [])
  over_step id b t ms good sound low ended reach = by (sort id (next_of b.room) b.room.jobs)
    where
      by_doing : (x : Special id (next_of b.room) b.room.jobs) (s : CallStep) → x.doing ≡ s → AllCome (s ∷ about id (x.later ++ b.room.agenda)) → Safe b t × Ended id t.room × (report_by id (step_callee (next_of b.room) b.room) ≡ [])
      by_doing x (steps.Comes what) one only =
          let found : callout_at (line_in what) b.room.calls ≡ None = found_none id (line_in what) b.room.calls (subst (λ (s : CallStep). is_about id s ≡ true) one x.about_it) ended.gone in
          let after : Safe b t × Ended id t.room
          = all_reached (λ (y : Both H). Safe b y × Ended id y.room) ms (ends (both b.host (take_after (after_event_of None what b.room.calls) (record b.room { jobs = x.later })))) t (
            record { good = good; sound = record { rising = sound.rising; drawn = sound.drawn; counted = sound.counted }; drawn = omega arith },
            record { gone = ended.gone; only = only },
          )
          (subst (λ (o : Option Callout). Reaches (ends (both b.host (take_after (after_event_of o what b.room.calls) (record b.room { jobs = x.later })))) ms (ends t)) found
          (subst (λ (s : CallStep). Reaches (works_call calling s b.host (record b.room { jobs = x.later })) ms (ends t)) one (reached b t ms good sound id x reach))) in
          (after.0, after.1, reports b t ms good sound id x ∙ ap (λ (s : CallStep). report_by id (call_callee s (record b.room { jobs = x.later }))) one)
      by_doing x (steps.Read n) one only = absurd only
      by_doing x (steps.Fail n) one only = absurd only
      by_doing x (steps.Answer n) one only = absurd only

      by : Usual id (next_of b.room) b.room.jobs ⊎ Special id (next_of b.room) b.room.jobs → Safe b t × Ended id t.room × (report_by id (step_callee (next_of b.room) b.room) ≡ [])
      by (inl usual) =
          let fine : Fine IsGood id b.room t = all_reached (Fine IsGood id b.room) ms (step calling plan (next_of b.room) b.host b.room) t (step_so calling IsGood kept plan id b.host b.room usual good sound) reach in
          (record { good = fine.0; sound = fine.1.sound; drawn = fine.1.drawn }, ended_stays id b.room t.room fine.1 low ended, step_silent id (next_of b.room) b.room usual)
      by (inr x) = by_doing x x.doing refl (subst AllCome (special_pend id x.doing x.later b.room x.first x.about_it) ended.only)

  -- ---- whole turns

  turned_sound : (plan : Plan) (event : Event) (room : Room) → AreSound room → AreSound (room_for_event plan event (without_sent room))
  turned_sound plan event room sound = record { rising = sound.rising; drawn = sound.drawn; counted = sound.counted }

  over_life : (id : ℕ) (b e : Both H) (es : List Event) (all : List (Step H)) → Life calling plan b es all e → IsGood b.host → AreSound b.room → id ≤ last b.room → Ended id b.room → (reports_in id all ≡ []) × IsOver id e.room
  over_life id _ _ _ _ (rests b is) good sound low ended = (refl, record { gone = ended.gone; deaf = λ what line. deaf id what b.room ended.gone line })
  over_life id _ _ _ _ (step_of b m e ms es more busy reach later) good sound low ended =
      let one = over_step id b m ms good sound low ended reach in
      let far = over_life id m e es more later one.0.good one.0.sound (omega (arith, low, one.0.drawn)) one.1 in
      (ap (λ (l : List Callee). l ++ reports_in id more) one.2 ∙ far.0, far.1)
  over_life id _ _ _ _ (turns b e event es more rested goes later) good sound low ended =
      let begun : Room = room_for_event plan event (without_sent b.room) in
      over_life id (both b.host begun) e es more later good (turned_sound plan event b.room sound) low
      (record { gone = ended.gone; only = subst AllCome (sym (none_pend id plan event (without_sent b.room) (rests_empty b.room rested).0 ended.gone)) tt })

  prepend : (c : Callout) (fate : Fate) (s : Step H) (more : List (Step H)) (e : Both H) → report_at c.id s ≡ [] → EndsBy fate c more e → EndsBy fate c (s ∷ more) e
  prepend c pending s more e none x = (ap (λ (l : List Callee). l ++ reports_in c.id more) none ∙ x.0, x.1)
  prepend c (answered a) s more e none x = (once_more c (Some a) s more none x.0, x.1)
  prepend c failed s more e none x = (once_more c None s more none x.0, x.1)

  end_here : (c : Callout) (fate : Fate) (s : Step H) (more : List (Step H)) (e : Both H) (answer : Option CallAnswer) (left : List Job) → IsOf fate answer
      → report_at c.id s ≡ (if has_listener c s.before.room then report_of answer c (close_call c.id (record s.before.room { jobs = left })) ∷ [] else [])
      → reports_in c.id more ≡ [] → IsOver c.id e.room → EndsBy fate c (s ∷ more) e
  end_here c pending s more e answer left is reported none finished = absurd is
  end_here c (answered a) s more e answer left is reported none finished = (subst (λ (o : Option CallAnswer). EndsOnce c o (s ∷ more)) is (once c answer s more left reported none), finished)
  end_here c failed s more e answer left is reported none finished = (subst (λ (o : Option CallAnswer). EndsOnce c o (s ∷ more)) is (once c answer s more left reported none), finished)

  ends_life : (c : Callout) (m : List ℕ) (fate : Fate) (b e : Both H) (es : List Event) (all : List (Step H)) → Life calling plan b es all e → IsGood b.host → AreSound b.room → c.id ≤ last b.room → Phase c m es fate b.room
      → EndsBy fate c all e
  ends_life c m fate _ _ _ _ (rests b is) good sound low phase = at_rest c m fate b is phase
  ends_life c m fate _ _ _ _ (step_of b t e ms es more busy reach later) good sound low phase = by (ends_life c m fate t e es more later) (steps_on c m es fate b t ms good sound low phase reach)
    where
      by : (IsGood t.host → AreSound t.room → c.id ≤ last t.room → Phase c m es fate t.room → EndsBy fate c more e) → Done c m es fate (record { before = b; met = ms; after = t })
          → EndsBy fate c (record { before = b; met = ms; after = t } ∷ more) e
      by further (onward safe next none) = prepend c fate (record { before = b; met = ms; after = t }) more e none (further safe.good safe.sound (omega (arith, low, safe.drawn)) next)
      by further (closing safe ended answer is left reported) =
          let far = over_life c.id t e es more later safe.good safe.sound (omega (arith, low, safe.drawn)) ended in
          end_here c fate (record { before = b; met = ms; after = t }) more e answer left is reported far.0 far.1
  ends_life c m fate _ _ _ _ (turns b e event es more rested unstopped later) good sound low phase =
      ends_life c m fate (both b.host (room_for_event plan event (without_sent b.room))) e es more later good (turned_sound plan event b.room sound) low
      (begins_turn_at plan c m es fate event b rested unstopped sound phase)

pub end_once : {H : Type 0} (calling : Calling H) (IsGood : H → Type 0) → KeepsGood calling IsGood → (plan : Plan) (b e : Both H) (events : List Event) (all : List (Step H)) (c : Callout) (m : List ℕ) (fate : Fate)
    → IsGood b.host → AreSound b.room → is_rest (next_of b.room) ≡ true → callout_in c.id b.room.calls ≡ Some c → IsNew m c → Life calling plan b events all e → IsFate (known_of m c) events fate → EndsBy fate c all e
end_once calling IsGood kept plan b e events all c m fate good sound is there new life still_open =
    ends_life calling IsGood kept plan c m fate b e events all life good sound (up_to c.id b.room.calls (last b.room) c there sound.drawn)
    (quiet c [] there (record { id = refl; vm = refl; context = refl; due = refl }) (new_reads m c new.reader new.answer) (rest_pend c.id b.room is) still_open)

pub callouts_end_once : (H : Type 0) → CalloutsEndOnce H
callouts_end_once H calling plan b e events all c m fate kept sound is there new life still_open =
    end_once calling Any (any_good calling kept) plan b e events all c m fate tt sound is there new life still_open

-- ---- how it begins

module _ {H : Type 0} (calling : Calling H) (IsGood : H → Type 0) (kept : KeepsGood calling IsGood) (plan : Plan) where
  -- of an id of which nothing is in hand no step is
  unborn_life : (id : ℕ) (b e : Both H) (es : List Event) (all : List (Step H)) → es ≡ [] → Life calling plan b es all e → IsGood b.host → AreSound b.room → pend id b.room ≡ []
      → (reports_in id all ≡ []) × Stays id b.room e.room
  unborn_life id _ _ _ _ none (rests b is) good sound p = (refl, here id b.room sound)
  unborn_life id _ _ _ _ none (step_of b t e ms es more busy reach later) good sound p = by (unborn_life id t e es more none later) (sort id (next_of b.room) b.room.jobs)
    where
      by : (IsGood t.host → AreSound t.room → pend id t.room ≡ [] → (reports_in id more ≡ []) × Stays id t.room e.room) → Usual id (next_of b.room) b.room.jobs ⊎ Special id (next_of b.room) b.room.jobs
          → (reports_in id (record { before = b; met = ms; after = t } ∷ more) ≡ []) × Stays id b.room e.room
      by further (inl usual) =
          let fine : Fine IsGood id b.room t = all_reached (Fine IsGood id b.room) ms (step calling plan (next_of b.room) b.host b.room) t (step_so calling IsGood kept plan id b.host b.room usual good sound) reach in
          let far = further fine.0 fine.1.sound (fine.1.pending ∙ p) in
          (ap (λ (l : List Callee). l ++ reports_in id more) (step_silent id (next_of b.room) b.room usual) ∙ far.0, then_stays id b.room t.room e.room fine.1 far.1)
      by further (inr x) = absurd (never_empty x.doing (about id (x.later ++ b.room.agenda)) (sym (special_pend id x.doing x.later b.room x.first x.about_it) ∙ p))
  unborn_life id _ _ _ _ none (turns b e event es more rested unstopped later) good sound p = absurd (cc)

pub begin_new : {H : Type 0} (calling : Calling H) (IsGood : H → Type 0) → KeepsGood calling IsGood → (plan : Plan) (b e : Both H) (event : Event) (all : List (Step H)) (id : ℕ)
    → IsGood b.host → AreSound b.room → is_rest (next_of b.room) ≡ true → last b.room < id → Life calling plan b (event ∷ []) all e → (reports_in id all ≡ []) × (id ≤ last e.room → BeginsIn id event.now e.room)
begin_new {H} calling IsGood kept plan b e event all id good sound is high life = by_life b e (event ∷ []) all life good sound is high refl
  where
    by_life : (b e : Both H) (es : List Event) (all : List (Step H)) → Life calling plan b es all e → IsGood b.host → AreSound b.room → is_rest (next_of b.room) ≡ true → last b.room < id → es ≡ event ∷ []
        → (reports_in id all ≡ []) × (id ≤ last e.room → BeginsIn id event.now e.room)
    by_life _ _ _ _ (rests b is) good sound rested high one = absurd (cc)
    by_life _ _ _ _ (step_of b t e ms es more busy reach later) good sound rested high one = let never : ◌≡◌ {A = Bool} true false = sym rested ∙ busy in absurd (cc)
    by_life _ _ _ _ (turns b e ev es more is unstopped later) good sound rested high one =
        let begun : Room = room_for_event plan ev (without_sent b.room) in
        let far : (reports_in id more ≡ []) × Stays id begun e.room
        = unborn_life calling IsGood kept plan id (both b.host begun) e es more (rest_of ev event es one) later good (record { rising = sound.rising; drawn = sound.drawn; counted = sound.counted })
        (none_pend id plan ev (without_sent b.room) (rests_empty b.room rested).0 (none_beyond id (last b.room) b.room.calls high sound.drawn)) in (
          far.0,
          λ low. let new = far.1.begins high low in record { request = new.0; there = new.1 ∙ ap (λ (n : ℕ). Some (begun_at id n new.0)) (far.1.moment ∙ ap (λ (x : Event). x.now) (event_of ev event es one)) },
        )

pub callouts_begin_new : (H : Type 0) → CalloutsBeginNew H
callouts_begin_new H calling plan b e event all id kept sound is high life = begin_new calling Any (any_good calling kept) plan b e event all id tt sound is high life

-- ---- callouts stay sound

-- an id that the step is not about
away_from : (nx : Next) (js : List Job) → (id : ℕ) × Usual id nx js
away_from nx js = by (sort 0 nx js) (sort 1 nx js)
  where
    by : Usual 0 nx js ⊎ Special 0 nx js → Usual 1 nx js ⊎ Special 1 nx js → (id : ℕ) × Usual id nx js
    by (inl usual) other = (0, usual)
    by (inr x) (inl usual) = (1, usual)
    by (inr x) (inr y) = absurd (two_ids x.doing y.doing (same_job x.doing y.doing x.later y.later (sym x.first ∙ y.first)) x.about_it y.about_it)

pub sound_life : {H : Type 0} (calling : Calling H) (IsGood : H → Type 0) (plan : Plan) → KeepsGood calling IsGood → (b e : Both H) (es : List Event) (all : List (Step H)) → Life calling plan b es all e → IsGood b.host → AreSound b.room
    → IsGood e.host × AreSound e.room
sound_life calling IsGood plan kept _ _ _ _ (rests b is) good sound = (good, sound)
sound_life calling IsGood plan kept _ _ _ _ (step_of b t e ms es more busy reach later) good sound =
    let away : (id : ℕ) × Usual id (next_of b.room) b.room.jobs = away_from (next_of b.room) b.room.jobs in
    let fine : Fine IsGood away.0 b.room t = all_reached (Fine IsGood away.0 b.room) ms (step calling plan (next_of b.room) b.host b.room) t (step_so calling IsGood kept plan away.0 b.host b.room away.1 good sound) reach in
    sound_life calling IsGood plan kept t e es more later fine.0 fine.1.sound
sound_life calling IsGood plan kept _ _ _ _ (turns b e event es more is unstopped later) good sound =
    sound_life calling IsGood plan kept (both b.host (room_for_event plan event (without_sent b.room))) e es more later good (record { rising = sound.rising; drawn = sound.drawn; counted = sound.counted })

pub sound_lives : (H : Type 0) → CalloutsAreSoundInLives H
sound_lives H calling plan b e events all kept sound life = (sound_life calling Any plan (any_good calling kept) b e events all life tt sound).1
