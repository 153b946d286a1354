-- A turn: what held of the lines in front of its event, and holds of them after it.
use Rattle.std.proofs.Common.{◌≡◌, ℕ, zero, suc, ◌+◌, ◌==◌, Bool, true, false, not, ◌&&◌, List, [], ◌∷◌, ◌++◌, refl, ap, ◌∙◌, sym, subst}
use Rattle.std.proofs.lemmas.List.{append-nil}
use Rattle.std.specs.Prelude.{Option, None, Some, is_some, slice_get, position, nat_lt, nat_le, length, insert, if◌then◌else◌}
use Rattle.std.specs.List.{list_any}
use Rattle.callouts.specs.Callouts.{is_of_call, due_at, line_in as event_line}
use Rattle.contexts.specs.declared.parts.Context.{Context}
use Rattle.contexts.specs.declared.parts.Contexts.{Contexts}
use Rattle.contexts.specs.declared.parts.Plugin.{Plugin}
use Rattle.contexts.specs.Creating.{next_id}
use Rattle.contexts.specs.Reached.{vm_in}
use Rattle.filter_host.specs.Called.{Calling}
use Rattle.filter_host.specs.Course.{Course, ends, Met, Reaches, then_do}
use Rattle.filter_host.proofs.Holds.{AllEnds, all_then, all_reached}
use Rattle.exchange.specs.declared.types.Exchange.{Exchange}
use Rattle.exchange.specs.Passing as passing
use Rattle.gate_io.specs.declared.event.Event.{Event}
use Rattle.gate_io.specs.declared.event.Sent.TheVariants as to
use Rattle.gate_io.specs.declared.event.Side.TheVariants.{Down, Up}
use Rattle.gate_io.specs.declared.event.What.{What}
use Rattle.gate_io.specs.declared.event.What.TheVariants as whats
use Rattle.gate_io.specs.Events.{is_stop}
use Rattle.worker_model.specs.Room.{Room}
use Rattle.worker_model.specs.declared.types.Job.{Job}
use Rattle.worker_model.specs.declared.types.Job.TheVariants as jobs
use Rattle.worker_model.specs.declared.types.Line.{Line}
use Rattle.worker_model.specs.declared.types.Next.{Next}
use Rattle.worker_model.specs.declared.types.Next.TheVariants as next
use Rattle.worker_model.specs.Plan.{Plan}
use Rattle.worker_model.specs.Rooms.{next_of, next_part, has_move, moves_or, frees_or, ends_or, begins_or_rests, is_any, is_released, is_over, place_in, on_number, room_with_sent}
use Rattle.worker_model.specs.Settling.{settling, settling_none, settling_more, goes, is_rest}
use Rattle.worker_model.specs.Steps.{Both, step, works, works_first, move_at, release, end_at, begin_first_job, take_event, receive, on_lines, side_with_more, read_side, is_open, is_read_in, is_answered_in, line_reading, line_in, exchange_of_line, exchange_on, accept_line, most_lines, new_line, place_for, lose_client, lose_server, line_without_client, drop_line, is_missed}
use Rattle.worker_model.specs.Turn.{Outcome, turn, turn_by, room_for_event, fail_jobs, calls_due, happening, agenda_of, start_jobs, starts_of, start_of, roots_from, vms_in, is_of, ticks_in, ticks_of, new_ticks_from, new_ticks_of, new_ticks, ticks_due, deadline_jobs, notice_of, notices_of, is_due_now, registers_at, most_steps, outcome_of, without_sent}
use Rattle.law_reading.specs.Turns.{IsAtRest}
use Rattle.law_reading.proofs.Readers.{by_bool}
use Rattle.law_reading.proofs.Alike.{AreAlike, are_itself}
use Rattle.law_reading.proofs.Quiet.{happen_of, happens_in, happens_join, none_in_front, move_quiet}
use Rattle.worker_model.proofs.Events.{by_event}
use Rattle.law_reading.proofs.Events.{Happens, happens_is, unheard}
use Rattle.law_reading.proofs.Lines.{AreLow}
use Rattle.law_reading.proofs.Steps.{Changed, same, in_hand, Goes, goes_quiet, Leads, all_weaker, quiet_leads, reading_leads, works_lead, frees_quiet, ends_quiet}

-- ---- what is next

begin_jobless : (b : Bool) (o : Option ℕ) (js : List Job) (part : Next) → (if b then next.Read else moves_or o (if is_any js then next.Work else part)) ≡ next.Begin → js ≡ []
begin_jobless true o js part is = absurd (cc)
begin_jobless false (Some place) js part is = absurd (cc)
begin_jobless false None [] part is = refl
begin_jobless false None (job ∷ js) part is = absurd (cc)

part_rests : (o p : Option ℕ) (js : List Job) → is_rest (frees_or o (ends_or p (begins_or_rests js))) ≡ true → js ≡ []
part_rests (Some at) p js is = absurd (cc)
part_rests None (Some place) js is = absurd (cc)
part_rests None None [] is = refl
part_rests None None (job ∷ js) is = absurd (cc)

rest_left : (b : Bool) (o : Option ℕ) (js : List Job) (part : Next) → is_rest (if b then next.Read else moves_or o (if is_any js then next.Work else part)) ≡ true → (js ≡ []) × (is_rest part ≡ true)
rest_left true o js part is = absurd (cc)
rest_left false (Some place) js part is = absurd (cc)
rest_left false None [] part is = (refl, is)
rest_left false None (job ∷ js) part is = absurd (cc)

-- at rest no job is in hand, and no part of the turn is left
pub rest_empty : (room : Room) → IsAtRest room → (room.jobs ≡ []) × (in_hand room ≡ [])
rest_empty room is =
    let left = rest_left (is_some room.reading) (position has_move room.lines) room.jobs (next_part room) is in
    let agenda : room.agenda ≡ [] = part_rests (position (is_released room) room.waits) (position is_over room.lines) room.agenda left.1 in
    (left.0, λ i. happens_in (left.0 i) ++ happens_in (agenda i))

-- ---- an event leaves in hand what was

comes_hand : (side stops : Bool) (bytes : List ℕ) (m : ℕ) (room : Room) → in_hand (receive side stops bytes m room) ≡ in_hand room
comes_hand side stops bytes m room =
    by_bool (λ (r : Room). in_hand r ≡ in_hand room) (is_open (line_reading side (line_in m room.lines)) && not (side && is_answered_in (exchange_of_line (line_in m room.lines))))
    (if is_read_in side (exchange_of_line (line_in m room.lines)) then read_side m side (on_lines (side_with_more side stops bytes) m room) else on_lines (side_with_more side stops bytes) m room) room
    (λ e. by_bool (λ (r : Room). in_hand r ≡ in_hand room) (is_read_in side (exchange_of_line (line_in m room.lines))) (read_side m side (on_lines (side_with_more side stops bytes) m room)) (on_lines (side_with_more side stops bytes) m room) (λ d. refl) (λ d. refl))
    (λ e. refl)

opens_hand : (m : ℕ) (room : Room) → in_hand (accept_line m room) ≡ in_hand room
opens_hand m room =
    by_bool (λ (r : Room). in_hand r ≡ in_hand room) (is_some (place_in m room.lines)) room
    (if nat_lt (length room.lines) most_lines then record room { lines = insert room.lines (place_for m room.lines) (new_line m) } else room_with_sent (to.Close m Down ∷ []) room) (λ e. refl)
    (λ e. by_bool (λ (r : Room). in_hand r ≡ in_hand room) (nat_lt (length room.lines) most_lines) (record room { lines = insert room.lines (place_for m room.lines) (new_line m) }) (room_with_sent (to.Close m Down ∷ []) room) (λ d. refl) (λ d. refl))

down_hand : (m : ℕ) (o : Option Line) (room : Room) → in_hand (lose_client m o room) ≡ in_hand room
down_hand m None room = refl
down_hand m (Some l) room = by_bool (λ (r : Room). in_hand r ≡ in_hand room) (is_some l.exchange) (on_lines line_without_client m room) (drop_line m room) (λ e. refl) (λ e. refl)

up_hand : (m : ℕ) (o : Option Exchange) (room : Room) → in_hand (lose_server m o room) ≡ in_hand room
up_hand m o room = by_bool (λ (r : Room). in_hand r ≡ in_hand room) (is_missed o) (on_number (passing.refuse_exchange 502) m room) room (λ e. refl) (λ e. refl)

happens_hand : (w : What) (room : Room) → in_hand (take_event w room) ≡ in_hand room
happens_hand (whats.Opened m) room = opens_hand m room
happens_hand (whats.Bytes m Down bytes) room = comes_hand false false bytes m room
happens_hand (whats.Bytes m Up bytes) room = comes_hand true false bytes m room
happens_hand (whats.End m Down) room = comes_hand false true [] m room
happens_hand (whats.End m Up) room = comes_hand true true [] m room
happens_hand (whats.Gone m Down) room = down_hand m (line_in m room.lines) room
happens_hand (whats.Gone m Up) room = up_hand m (exchange_on m room) room
happens_hand (whats.Joined m) room = refl
happens_hand (whats.Refused m) room = up_hand m (exchange_on m room) room
happens_hand (whats.Room m side) room = refl
happens_hand whats.Clock room = refl
happens_hand whats.Stop room = refl

-- ---- the parts of a turn

roots_none : (vm place : ℕ) (first : Bool) (plugins : List Plugin) → happens_in (roots_from vm place first plugins) ≡ []
roots_none vm place first [] = refl
roots_none vm place first (p ∷ plugins) =
    by_bool (λ (js : List Job). happens_in js ≡ []) (is_of vm p) (jobs.Root vm place first ∷ roots_from vm (place + 1) false plugins) (roots_from vm (place + 1) first plugins) (λ e. roots_none vm (place + 1) false plugins)
    (λ e. roots_none vm (place + 1) first plugins)

start_none : (vm : ℕ) (plugins : List Plugin) → happens_in (start_of vm plugins) ≡ []
start_none vm plugins = by_bool (λ (js : List Job). happens_in js ≡ []) (list_any (is_of vm) plugins) (jobs.Begin vm ∷ roots_from vm 0 true plugins) [] (λ e. roots_none vm 0 true plugins) (λ e. refl)

both_none : (a b : List Job) → happens_in a ≡ [] → happens_in b ≡ [] → happens_in (a ++ b) ≡ []
both_none a b p q = none_in_front a b p ∙ q

starts_none : (k : ℕ) (plugins : List Plugin) → happens_in (starts_of k plugins) ≡ []
starts_none zero plugins = refl
starts_none (suc k) plugins = both_none (starts_of k plugins) (start_of k plugins) (starts_none k plugins) (start_none k plugins)

ticks_none : (now vm : ℕ) (contexts : List Context) → happens_in (ticks_in now vm contexts) ≡ []
ticks_none now vm [] = refl
ticks_none now vm (c ∷ contexts) =
    by_bool (λ (js : List Job). happens_in js ≡ []) (is_due_now now c.tick) (jobs.Tick vm c.id ∷ ticks_in now vm contexts) (ticks_in now vm contexts) (λ e. ticks_none now vm contexts) (λ e. ticks_none now vm contexts)

all_ticks_none : (now k : ℕ) (h : Contexts) → happens_in (ticks_of now k h) ≡ []
all_ticks_none now zero h = refl
all_ticks_none now (suc k) h = both_none (ticks_of now k h) (ticks_in now k (vm_in h k).contexts) (all_ticks_none now k h) (ticks_none now k (vm_in h k).contexts)

new_from_none : (vm id : ℕ) (plugins : List Plugin) → happens_in (new_ticks_from vm id plugins) ≡ []
new_from_none vm id [] = refl
new_from_none vm id (p ∷ plugins) =
    by_bool (λ (js : List Job). happens_in js ≡ []) (is_of vm p && nat_le id 4294967295) (jobs.Tick vm id ∷ new_ticks_from vm (id + 1) plugins) (new_ticks_from vm id plugins) (λ e. new_from_none vm (id + 1) plugins)
    (λ e. new_from_none vm id plugins)

new_ticks_none : (k : ℕ) (h : Contexts) → happens_in (new_ticks_of k h) ≡ []
new_ticks_none zero h = refl
new_ticks_none (suc k) h = both_none (new_ticks_of k h) (new_ticks_from k (next_id h k) h.plugins) (new_ticks_none k h) (new_from_none k (next_id h k) h.plugins)

due_ticks_none : (room : Room) → happens_in (ticks_due room) ≡ []
due_ticks_none room =
    both_none (ticks_of room.hub.moment (vms_in room) room.hub.contexts) (new_ticks room) (all_ticks_none room.hub.moment (vms_in room) room.hub.contexts)
    (by_bool (λ (js : List Job). happens_in js ≡ []) room.is_begun [] (new_ticks_of (vms_in room) room.hub.contexts) (λ e. refl) (λ e. new_ticks_none (vms_in room) room.hub.contexts))

notices_none : (plan : Plan) (k : ℕ) → happens_in (notices_of plan k) ≡ []
notices_none plan zero = refl
notices_none plan (suc k) =
    both_none (notices_of plan k) (notice_of plan k) (notices_none plan k) (by_bool (λ (js : List Job). happens_in js ≡ []) (registers_at (slice_get plan.registers k)) (jobs.Notice k 16 ∷ []) [] (λ e. refl) (λ e. refl))

-- the callouts that are due
fails_none : (ids : List ℕ) → happens_in (fail_jobs ids) ≡ []
fails_none [] = refl
fails_none (id ∷ ids) = fails_none ids

-- its event, and none where that is of a callout
event_one : (w : What) (room : Room) → is_of_call (event_line w) ≡ false → happens_in (happening w room) ≡ w ∷ []
event_one w room low =
    by_event (λ (js : List Job). happens_in js ≡ w ∷ []) w room (λ e. refl) (λ e. let never : ◌≡◌ {A = Bool} true false = sym e ∙ low in absurd (cc)) (λ e. let never : ◌≡◌ {A = Bool} true false = sym e ∙ low in absurd (cc))

event_none : (w : What) (room : Room) → is_of_call (event_line w) ≡ true → happens_in (happening w room) ≡ []
event_none w room of_call =
    by_event (λ (js : List Job). happens_in js ≡ []) w room (λ e. let never : ◌≡◌ {A = Bool} true false = sym of_call ∙ e in absurd (cc)) (λ e. refl) (λ e. refl)

agenda_hand : (plan : Plan) (w : What) (room : Room) (ws : List What) → happens_in (happening w room) ≡ ws → happens_in (agenda_of plan w room) ≡ ws
agenda_hand plan w room ws is =
    none_in_front (start_jobs room) _ (by_bool (λ (js : List Job). happens_in js ≡ []) room.is_begun [] (starts_of (vms_in room) room.hub.contexts.plugins) (λ e. refl) (λ e. starts_none (vms_in room) room.hub.contexts.plugins))
    ∙ (none_in_front (ticks_due room) _ (due_ticks_none room)
    ∙ (none_in_front (deadline_jobs plan) _ (by_bool (λ (js : List Job). happens_in js ≡ []) (plan.deadline == 0) [] (jobs.Expire ∷ []) (λ e. refl) (λ e. refl))
    ∙ (none_in_front (calls_due room) _ (fails_none (due_at room.hub.moment room.calls))
    ∙ (happens_join (happening w room) (notices_of plan (vms_in room)) ∙ ((λ i. is i ++ notices_none plan (vms_in room) i) ∙ append-nil ws)))))

pub facing_hand : (plan : Plan) (event : Event) (room : Room) (ws : List What) → room.jobs ≡ [] → happens_in (happening event.what (record room { hub = record room.hub { moment = event.now } })) ≡ ws
    → in_hand (room_for_event plan event room) ≡ ws
facing_hand plan event room ws none is =
    (λ i. happens_in (none i) ++ happens_in (agenda_of plan event.what (record room { hub = record room.hub { moment = event.now } })))
    ∙ agenda_hand plan event.what (record room { hub = record room.hub { moment = event.now } }) ws is

-- ---- what holds of lines whatever is done in steps in which no event happens

pub record Invariant (P : List Line → Type 0) : Type 0 where
  pub alike : (lines later : List Line) → AreAlike lines later → P lines → P later
  pub changed : (lines later : List Line) → Changed lines later → P lines → P later

-- what holds in front of an event, and what after it; no line in front of it is of a callout
pub record Spans (w : What) (P Q : List Line → Type 0) : Type 0 where
  pub before : Invariant P
  pub behind : Invariant Q
  pub low : (lines : List Line) → P lines → AreLow lines
  pub event : (lines later : List Line) → Happens w lines later → P lines → Q later

goes_keeps : (P : List Line → Type 0) → Invariant P → (room later : Room) → Goes room later → P room.lines → P later.lines
goes_keeps P inv room later g p = inv.alike g.mid later.lines g.alike (inv.changed room.lines g.mid g.changed p)

module _ (w : What) (P Q : List Line → Type 0) (spans : Spans w P Q) where
  -- the event is still to come, or came
  pub data InTurn (room : Room) : Type 0 where
    waits : is_of_call (event_line w) ≡ false → in_hand room ≡ w ∷ [] → P room.lines → InTurn room
    came : in_hand room ≡ [] → Q room.lines → InTurn room

  goes_in_turn : (room later : Room) → Goes room later → InTurn room → InTurn later
  goes_in_turn room later g (waits low hand p) = waits low (g.hand ∙ hand) (goes_keeps P spans.before room later g p)
  goes_in_turn room later g (came hand q) = came (g.hand ∙ hand) (goes_keeps Q spans.behind room later g q)

  module _ {H : Type 0} (calling : Calling H) (plan : Plan) where
    abbrev pub Stays : Course (Both H) → Type 0
    Stays course = AllEnds (λ (b : Both H). InTurn b.room) course

    leads_stays : (room : Room) (p : Course (Both H)) → InTurn room → Leads room p → Stays p
    leads_stays room p in_turn leads = all_weaker (λ b. Goes room b.room) (λ b. InTurn b.room) (λ b g. goes_in_turn room b.room g in_turn) p leads

    -- the event happens
    event_stays : (v : What) (later : List Job) (room : Room) → room.jobs ≡ jobs.Happen v ∷ later → InTurn room → InTurn (take_event v (record room { jobs = later }))
    event_stays v later room js (came hand q) = let e : ◌≡◌ {A = List What} (v ∷ (happens_in later ++ happens_in room.agenda)) [] = sym (ap (λ l. happens_in l ++ happens_in room.agenda) js) ∙ hand in absurd (cc)
    event_stays v later room js (waits low hand p) =
        let mid : Room = record room { jobs = later } in
        let e : ◌≡◌ {A = List What} (v ∷ (happens_in later ++ happens_in room.agenda)) (w ∷ []) = sym (ap (λ l. happens_in l ++ happens_in room.agenda) js) ∙ hand in
        let same : v ≡ w = cc in
        let none : happens_in later ++ happens_in room.agenda ≡ [] = cc in
        came (happens_hand v mid ∙ none) (spans.event room.lines (take_event v mid).lines (subst (λ (u : What). Happens u room.lines (take_event v mid).lines) same (happens_is v mid (subst (λ (u : What). is_of_call (event_line u) ≡ false) (sym same) low))) p)

    popped : (job : Job) (later : List Job) (room : Room) → room.jobs ≡ job ∷ later → happen_of job ≡ [] → InTurn room → InTurn (record room { jobs = later })
    popped job later room js none in_turn =
        goes_in_turn room (record room { jobs = later }) (record {
          mid = room.lines;
          changed = same;
          alike = are_itself room.lines;
          hand = sym (ap (λ l. happens_in l ++ happens_in room.agenda) js ∙ ap (λ l. (l ++ happens_in later) ++ happens_in room.agenda) none);
        }) in_turn

    job_stays : (job : Job) (later : List Job) (host : H) (room : Room) → room.jobs ≡ job ∷ later → InTurn room → Stays (works calling plan job host (record room { jobs = later }))
    job_stays job later host room js in_turn = by_job job js
      where
        plain : (j : Job) → room.jobs ≡ j ∷ later → happen_of j ≡ [] → Stays (works calling plan j host (record room { jobs = later }))
        plain j is none = leads_stays (record room { jobs = later }) (works calling plan j host (record room { jobs = later })) (popped j later room is none in_turn) (works_lead calling plan j host (record room { jobs = later }) none)

        by_job : (j : Job) → room.jobs ≡ j ∷ later → Stays (works calling plan j host (record room { jobs = later }))
        by_job (jobs.Happen v) is = event_stays v later room is in_turn
        by_job (jobs.Begin vm) is = plain (jobs.Begin vm) is refl
        by_job (jobs.Root vm plugin first) is = plain (jobs.Root vm plugin first) is refl
        by_job (jobs.Start vm root) is = plain (jobs.Start vm root) is refl
        by_job (jobs.Configure vm root plugin) is = plain (jobs.Configure vm root plugin) is refl
        by_job (jobs.Tick vm root) is = plain (jobs.Tick vm root) is refl
        by_job jobs.Expire is = plain jobs.Expire is refl
        by_job (jobs.Create number k) is = plain (jobs.Create number k) is refl
        by_job (jobs.Enter number) is = plain (jobs.Enter number) is refl
        by_job (jobs.Put number response items) is = plain (jobs.Put number response items) is refl
        by_job (jobs.Refuse number status) is = plain (jobs.Refuse number status) is refl
        by_job (jobs.Done c) is = plain (jobs.Done c) is refl
        by_job (jobs.Log c) is = plain (jobs.Log c) is refl
        by_job (jobs.Delete c) is = plain (jobs.Delete c) is refl
        by_job (jobs.Close number stays) is = plain (jobs.Close number stays) is refl
        by_job (jobs.Notice vm left) is = plain (jobs.Notice vm left) is refl
        by_job (jobs.Ready vm root queue) is = plain (jobs.Ready vm root queue) is refl
        by_job (jobs.Other step) is = plain (jobs.Other step) is refl

    work_stays : (js : List Job) (host : H) (room : Room) → room.jobs ≡ js → InTurn room → Stays (works_first calling plan js host room)
    work_stays [] host room is in_turn = in_turn
    work_stays (job ∷ later) host room is in_turn = job_stays job later host room is in_turn

    begin_stays : (js : List Job) (room : Room) → room.agenda ≡ js → room.jobs ≡ [] → InTurn room → InTurn (begin_first_job js room)
    begin_stays [] room is none in_turn = in_turn
    begin_stays (job ∷ later) room is none in_turn =
        goes_in_turn room (record room { jobs = job ∷ []; agenda = later }) (record {
          mid = room.lines;
          changed = same;
          alike = are_itself room.lines;
          hand = ap (λ l. l ++ happens_in later) (append-nil (happen_of job)) ∙ sym (λ i. happens_in (none i) ++ happens_in (is i));
        }) in_turn

    -- EACH STEP
    step_stays : (x : Next) (host : H) (room : Room) → next_of room ≡ x → InTurn room → Stays (step calling plan x host room)
    step_stays next.Read host room is in_turn = leads_stays room (step calling plan next.Read host room) in_turn (reading_leads plan host room room.reading)
    step_stays (next.Move place) host room is in_turn = leads_stays room (step calling plan (next.Move place) host room) in_turn (quiet_leads room (move_at calling place host room) (move_quiet calling place host room))
    step_stays next.Work host room is in_turn = work_stays room.jobs host room refl in_turn
    step_stays (next.Free at) host room is in_turn = goes_in_turn room (release at room) (goes_quiet room (release at room) (frees_quiet at room)) in_turn
    step_stays (next.End place) host room is in_turn = goes_in_turn room (end_at place room) (goes_quiet room (end_at place room) (ends_quiet place room)) in_turn
    step_stays next.Begin host room is in_turn =
        begin_stays room.agenda room refl (begin_jobless (is_some room.reading) (position has_move room.lines) room.jobs (next_part room) is) in_turn
    step_stays next.Rest host room is in_turn = in_turn

    -- and all of them
    pub settling_stays : (n : ℕ) (host : H) (room : Room) → InTurn room → Stays (settling calling plan n host room)
    settling_stays zero host room in_turn = subst Stays (sym (settling_none calling plan host room)) in_turn
    settling_stays (suc n) host room in_turn = subst Stays (sym (settling_more calling plan n host room)) (by_next (λ h r t. settling_stays n h r t) (next_of room) refl)
      where
        Later : Type 0
        Later = (h : H) (r : Room) → InTurn r → Stays (settling calling plan n h r)

        one : Later → (x : Next) → next_of room ≡ x → AllEnds (λ (b : Both H). InTurn b.room) (then_do (step calling plan x host room) (λ b. settling calling plan n b.host b.room))
        one later x is =
            all_then (λ (b : Both H). InTurn b.room) (λ (b : Both H). InTurn b.room) (step calling plan x host room) (λ b. settling calling plan n b.host b.room) (step_stays x host room is in_turn)
            (λ b t. later b.host b.room t)

        by_next : Later → (x : Next) → next_of room ≡ x → Stays (goes calling plan x (λ h r. settling calling plan n h r) host room)
        by_next later next.Read is = one later next.Read is
        by_next later (next.Move place) is = one later (next.Move place) is
        by_next later next.Work is = one later next.Work is
        by_next later (next.Free at) is = one later (next.Free at) is
        by_next later (next.End place) is = one later (next.End place) is
        by_next later next.Begin is = one later next.Begin is
        by_next later next.Rest is = in_turn

-- ---- a turn

stop_same : (w : What) (room : Room) → is_stop w ≡ true → (take_event w room).lines ≡ room.lines
stop_same (whats.Opened m) room is = absurd (cc)
stop_same (whats.Bytes m side bytes) room is = absurd (cc)
stop_same (whats.End m side) room is = absurd (cc)
stop_same (whats.Gone m side) room is = absurd (cc)
stop_same (whats.Joined m) room is = absurd (cc)
stop_same (whats.Refused m) room is = absurd (cc)
stop_same (whats.Room m side) room is = absurd (cc)
stop_same whats.Clock room is = absurd (cc)
stop_same whats.Stop room is = refl

stop_low : (w : What) → is_stop w ≡ true → is_of_call (event_line w) ≡ false
stop_low (whats.Opened m) is = absurd (cc)
stop_low (whats.Bytes m side bytes) is = absurd (cc)
stop_low (whats.End m side) is = absurd (cc)
stop_low (whats.Gone m side) is = absurd (cc)
stop_low (whats.Joined m) is = absurd (cc)
stop_low (whats.Refused m) is = absurd (cc)
stop_low (whats.Room m side) is = absurd (cc)
stop_low whats.Clock is = absurd (cc)
stop_low whats.Stop is = refl

-- nothing is in hand, and this holds of the lines
abbrev pub Ready : (List Line → Type 0) → Room → Type 0
Ready Q room = (room.jobs ≡ []) × Q room.lines

came_to_rest : (w : What) (P Q : List Line → Type 0) (spans : Spans w P Q) (room : Room) → InTurn w P Q spans room → IsAtRest (without_sent room) → Ready Q (without_sent room)
came_to_rest w P Q spans room (waits low hand p) at_rest = let e : ◌≡◌ {A = List What} (w ∷ []) [] = sym hand ∙ (rest_empty (without_sent room) at_rest).1 in absurd (cc)
came_to_rest w P Q spans room (came hand q) at_rest = ((rest_empty (without_sent room) at_rest).0, q)

pub turn_spans : {H : Type 0} (calling : Calling H) (plan : Plan) (state : Both H) (event : Event) (P Q : List Line → Type 0) → Spans event.what P Q → Ready P state.room
    → AllEnds (λ (o : Outcome H). IsAtRest o.state.room → Ready Q o.state.room) (turn calling plan state event)
turn_spans {H} calling plan state event P Q spans ready = by_stop (is_stop event.what) refl
  where
    Goal : Outcome H → Type 0
    Goal o = IsAtRest o.state.room → Ready Q o.state.room

    now : Room
    now = record state.room { hub = record state.room.hub { moment = event.now } }

    start : (b : Bool) → is_of_call (event_line event.what) ≡ b → InTurn event.what P Q spans (room_for_event plan event state.room)
    start false e = waits e (facing_hand plan event state.room (event.what ∷ []) ready.0 (event_one event.what now e)) ready.1
    start true e =
        came (facing_hand plan event state.room [] ready.0 (event_none event.what now e))
        (spans.event state.room.lines state.room.lines (unheard event.what state.room.lines e (spans.low state.room.lines ready.1)) ready.1)

    by_stop : (b : Bool) → is_stop event.what ≡ b → AllEnds Goal (turn_by calling plan b state event)
    by_stop true is = λ at_rest. (ready.0, subst Q (stop_same event.what state.room is) (spans.event state.room.lines (take_event event.what state.room).lines (happens_is event.what state.room (stop_low event.what is)) ready.1))
    by_stop false is =
        all_then (λ (b : Both H). InTurn event.what P Q spans b.room) Goal (settling calling plan most_steps state.host (room_for_event plan event state.room)) (λ b. ends (outcome_of b))
        (settling_stays event.what P Q spans calling plan most_steps state.host (room_for_event plan event state.room) (start (is_of_call (event_line event.what)) refl))
        (λ b in_turn at_rest. came_to_rest event.what P Q spans b.room in_turn at_rest)

pub turn_reached : {H : Type 0} (calling : Calling H) (plan : Plan) (state : Both H) (event : Event) (met : List Met) (end : Outcome H) (P Q : List Line → Type 0) → Spans event.what P Q
    → Reaches (turn calling plan state event) met (ends end) → IsAtRest end.state.room → Ready P state.room → Ready Q end.state.room
turn_reached {H} calling plan state event met end P Q spans reaches at_rest ready =
    all_reached (λ (o : Outcome H). IsAtRest o.state.room → Ready Q o.state.room) met (turn calling plan state event) end (turn_spans calling plan state event P Q spans ready) reaches at_rest
