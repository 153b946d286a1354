-- Turns, and what is known after them.
use Rattle.std.proofs.Common.{◌≡◌, ◌⊎◌, inl, inr, ℕ, zero, suc, ◌+◌, ◌==◌, ◌&&◌, Bool, true, false, List, [], ◌∷◌, ◌++◌, map, refl, ap, ◌∙◌, sym, subst}
use Rattle.filter_host.specs.Called.{Calling}
use Rattle.std.proofs.lemmas.Grind.{flat_map-append}
use Rattle.std.proofs.lemmas.List.{append-nil, append_assoc}
use Rattle.std.specs.Prelude.{Option, None, Some, is_some, option_map, slice_get, nat_le}
use Rattle.std.specs.List.{list_any}
use Rattle.callouts.specs.Callouts.{is_call_line}
use Rattle.contexts.specs.declared.parts.Context.{Context}
use Rattle.contexts.specs.declared.parts.Contexts.{Contexts}
use Rattle.contexts.specs.declared.parts.Plugin.{Plugin}
use Rattle.contexts.specs.Creating.{next_id}
use Rattle.contexts.specs.Reached.{vm_in}
use Rattle.filter_host.specs.Course.{Course, ends, asks, measures, hears}
use Rattle.filter_host.proofs.Holds.{AllEnds, all_then, all_reached}
use Rattle.exchange.specs.declared.types.Exchange.{Exchange}
use Rattle.exchange.specs.declared.types.Hub.{Hub}
use Rattle.exchange.specs.Heads.{is_bare, request_of, up_framing}
use Rattle.law_exchange.specs.Lives.{turns, is_over}
use Rattle.law_exchange.specs.Traffic.{Traffic, opens, byte, traffic, up_traffic, IsFront}
use Rattle.law_exchange.proofs.Traffic.{ups_join}
use Rattle.filter_chain.specs.declared.item.ChainItem.{ChainItem}
use Rattle.gate_io.specs.declared.event.Event.{Event}
use Rattle.gate_io.specs.declared.event.Sent.{Sent}
use Rattle.gate_io.specs.declared.event.What.{What}
use Rattle.gate_io.specs.Events.{is_stop}
use Rattle.h1_write.specs.Lines.{out_items, out_wire}
use Rattle.h1_write.specs.Round.{last_bytes}
use Rattle.h1_model.specs.Framing.{Framing, head_wire}
use Rattle.h1_model.specs.Head.{Head}
use Rattle.h1_model.specs.Messages.{Due}
use Rattle.h1_model.specs.Unread.{Reading}
use Rattle.send_queue.specs.Joined.{join_neighbours}
use Rattle.worker_model.specs.Room.{Room}
use Rattle.worker_model.specs.declared.types.Job.{Job}
use Rattle.worker_model.specs.declared.types.Job.TheVariants as jobs
use Rattle.worker_model.specs.declared.types.Line.{Line}
use Rattle.worker_model.specs.declared.types.ReadBatch.{ReadBatch}
use Rattle.worker_model.specs.Plan.{Plan}
use Rattle.worker_model.specs.Settling.{settling}
use Rattle.worker_model.specs.Steps.{Both, both, exchange_of_line, exchange_on, line_in, line_reading}
use Rattle.worker_model.specs.Turn.{Outcome, turn, turn_by, room_for_event, calls_due, happening, agenda_of, start_jobs, starts_of, start_of, roots_from, vms_in, is_of, ticks_in, ticks_of, new_ticks_from, new_ticks_of, new_ticks, ticks_due, deadline_jobs, notice_of, notices_of, is_due_now, registers_at, most_steps, outcome_of, without_sent}
use Rattle.worker_model.proofs.Events.{by_event, by_due}
use Rattle.law_lines.specs.Laws.{ExchangesLive, RequestsGoUpOneByOne}
use Rattle.law_lines.specs.Logs.{WriteLogs}
use Rattle.law_lines.specs.Living.{requests_in, request_in, LivesBy}
use Rattle.law_lines.specs.Requests.{AreOf, OneByOne, IsSoFar, IsOpen, GoesUpBy, HasLived}
use Rattle.law_lines.specs.Turns.{Done, Turns, new_room, sent_in}
use Rattle.law_lines.proofs.Earlier.{behind}
use Rattle.law_lines.proofs.Ending.{Went, went, IsHeadAlone, came_so, is_message, same_went, whole_reads_back}
use Rattle.law_lines.proofs.Hearing.{text_in}
use Rattle.law_lines.proofs.Joining.{ups_joined}
use Rattle.law_lines.proofs.Kept.{by_bool}
use Rattle.law_lines.proofs.Lives.{came_of, came_join, lives_with}
use Rattle.law_lines.proofs.Looks.{look, line_in_is, lives_join}
use Rattle.law_lines.proofs.Readable.{readable}
use Rattle.law_lines.proofs.Rooms.{AllParts}
use Rattle.law_lines.proofs.Stepping.{KnownAll, settling_keeps}
use Rattle.law_lines.proofs.Parts.{bare_wire, heard_bare, goes_of, all_of, came_front, all_came, read_whole, no_parts}
use Rattle.law_lines.proofs.Story.{Stream, Passage, Story, Tale, plainly, filtered, Idle, ExOk, LineOk, Known}
use Rattle.law_lines.proofs.Unused.{facing_unused, emptied_unused, new_unused, no_exchange}

-- ---- the parts of a turn

parts_join : (a b : List Job) → AllParts a → AllParts b → AllParts (a ++ b)
parts_join [] b e f = f
parts_join (job ∷ a) b e f = (e.0, parts_join a b e.1 f)

roots_parts : (vm place : ℕ) (is_first : Bool) (plugins : List Plugin) → AllParts (roots_from vm place is_first plugins)
roots_parts vm place is_first [] = tt
roots_parts vm place is_first (p ∷ plugins) =
    by_bool AllParts (is_of vm p) (jobs.Root vm place is_first ∷ roots_from vm (place + 1) false plugins) (roots_from vm (place + 1) is_first plugins) (λ e. (tt, roots_parts vm (place + 1) false plugins)) (λ e. roots_parts vm (place + 1) is_first plugins)

start_parts : (vm : ℕ) (plugins : List Plugin) → AllParts (start_of vm plugins)
start_parts vm plugins = by_bool AllParts (list_any (is_of vm) plugins) (jobs.Begin vm ∷ roots_from vm 0 true plugins) [] (λ e. (tt, roots_parts vm 0 true plugins)) (λ e. tt)

all_start_parts : (k : ℕ) (plugins : List Plugin) → AllParts (starts_of k plugins)
all_start_parts zero plugins = tt
all_start_parts (suc k) plugins = parts_join (starts_of k plugins) (start_of k plugins) (all_start_parts k plugins) (start_parts k plugins)

ticks_parts : (now vm : ℕ) (contexts : List Context) → AllParts (ticks_in now vm contexts)
ticks_parts now vm [] = tt
ticks_parts now vm (c ∷ contexts) = by_bool AllParts (is_due_now now c.tick) (jobs.Tick vm c.id ∷ ticks_in now vm contexts) (ticks_in now vm contexts) (λ e. (tt, ticks_parts now vm contexts)) (λ e. ticks_parts now vm contexts)

all_ticks_parts : (now k : ℕ) (h : Contexts) → AllParts (ticks_of now k h)
all_ticks_parts now zero h = tt
all_ticks_parts now (suc k) h = parts_join (ticks_of now k h) (ticks_in now k (vm_in h k).contexts) (all_ticks_parts now k h) (ticks_parts now k (vm_in h k).contexts)

new_from_parts : (vm id : ℕ) (plugins : List Plugin) → AllParts (new_ticks_from vm id plugins)
new_from_parts vm id [] = tt
new_from_parts vm id (p ∷ plugins) =
    by_bool AllParts (is_of vm p && nat_le id 4294967295) (jobs.Tick vm id ∷ new_ticks_from vm (id + 1) plugins) (new_ticks_from vm id plugins) (λ e. (tt, new_from_parts vm (id + 1) plugins)) (λ e. new_from_parts vm id plugins)

new_ticks_parts : (k : ℕ) (h : Contexts) → AllParts (new_ticks_of k h)
new_ticks_parts zero h = tt
new_ticks_parts (suc k) h = parts_join (new_ticks_of k h) (new_ticks_from k (next_id h k) h.plugins) (new_ticks_parts k h) (new_from_parts k (next_id h k) h.plugins)

due_ticks_parts : (room : Room) → AllParts (ticks_due room)
due_ticks_parts room =
    parts_join (ticks_of room.hub.moment (vms_in room) room.hub.contexts) (new_ticks room) (all_ticks_parts room.hub.moment (vms_in room) room.hub.contexts)
    (by_bool AllParts room.is_begun [] (new_ticks_of (vms_in room) room.hub.contexts) (λ e. tt) (λ e. new_ticks_parts (vms_in room) room.hub.contexts))

notices_parts : (plan : Plan) (k : ℕ) → AllParts (notices_of plan k)
notices_parts plan zero = tt
notices_parts plan (suc k) =
    parts_join (notices_of plan k) (notice_of plan k) (notices_parts plan k) (by_bool AllParts (registers_at (slice_get plan.registers k)) (jobs.Notice k 16 ∷ []) [] (λ e. (tt, tt)) (λ e. tt))

event_parts : (what : What) (room : Room) → AllParts (happening what room)
event_parts what room = by_event AllParts what room (λ e. (tt, tt)) (λ e. tt) (λ e. (tt, tt))

calls_parts : (room : Room) → AllParts (calls_due room)
calls_parts room = by_due AllParts room tt (λ id later e. (tt, e))

agenda_parts : (plan : Plan) (what : What) (room : Room) → AllParts (agenda_of plan what room)
agenda_parts plan what room =
    parts_join (start_jobs room) _ (by_bool AllParts room.is_begun [] (starts_of (vms_in room) room.hub.contexts.plugins) (λ e. tt) (λ e. all_start_parts (vms_in room) room.hub.contexts.plugins))
    (parts_join (ticks_due room) _ (due_ticks_parts room)
    (parts_join (deadline_jobs plan) _ (by_bool AllParts (plan.deadline == 0) [] (jobs.Expire ∷ []) (λ e. tt) (λ e. (tt, tt)))
    (parts_join (calls_due room) _ (calls_parts room)
    (parts_join (happening what room) (notices_of plan (vms_in room)) (event_parts what room) (notices_parts plan (vms_in room))))))

-- ---- what was sent is counted otherwise

module _ (plan : Plan) (n : ℕ) (past now : List Sent) (hub after : Hub) (same : up_traffic n (now ++ after.sent) ≡ up_traffic n (past ++ hub.sent)) (alike : after.contexts ≡ hub.contexts) where
  passage_past : (reading : Option ReadBatch) (js : List Job) (lines : List Line) (x : Exchange) (h : Head) (first : Exchange) (base : List Traffic) (got : List ChainItem) → Passage n past reading js lines x hub h first base got
      → Passage n now reading js lines x after h first base got
  passage_past reading js lines x h first base got p =
      record { went = p.went; adds = same ∙ p.adds; heard = p.heard; was = p.was; up = p.up; place = p.place; asked = p.asked; minor = p.minor; framed = p.framed; flow = p.flow; enters = p.enters }

  story_past : (reading : Option ReadBatch) (js : List Job) (lines : List Line) (x : Exchange) → Story plan n past reading js lines x hub → Story plan n now reading js lines x after
  story_past reading js lines x s =
      let one : LivesBy false n x (behind past hub) (turns x (behind now after) ∷ []) x (behind now after)
      = (((record { unfiltered = s.plain.1; framed = refl; stays_over = λ o. o }, same), (λ e. absurd (cc))), (refl, refl)) in
      let got : requests_in (s.deeds ++ turns x (behind now after) ∷ []) ≡ requests_in s.deeds = flat_map-append request_in s.deeds (turns x (behind now after) ∷ []) ∙ append-nil (requests_in s.deeds) in
      let outs : came_of n s.start s.start_hub (s.deeds ++ turns x (behind now after) ∷ []) ≡ came_of n s.start s.start_hub s.deeds
      = came_join n s.deeds (turns x (behind now after) ∷ []) s.start x s.start_hub (behind past hub) s.lives ∙ append-nil (came_of n s.start s.start_hub s.deeds) in
      record {
        plain = s.plain;
        head = s.head;
        start = s.start;
        start_hub = s.start_hub;
        began = s.began;
        before = s.before;
        deeds = s.deeds ++ turns x (behind now after) ∷ [];
        lives = lives_join false n s.deeds (turns x (behind now after) ∷ []) s.start x x s.start_hub (behind past hub) (behind now after) s.lives one;
        came = subst (λ l. AreOf s.head l (came_of n s.start s.start_hub (s.deeds ++ turns x (behind now after) ∷ []))) (sym got) (subst (λ l. AreOf s.head (requests_in s.deeds) l) (sym outs) s.came);
        minor = s.minor;
        passage = subst (Passage n now reading js lines x after s.head s.start (up_traffic n s.start_hub.sent)) (sym got) (passage_past reading js lines x s.head s.start (up_traffic n s.start_hub.sent) (requests_in s.deeds) s.passage);
        opened = by_opened got s.opened;
        stream = subst (Stream n reading js lines x after.contexts s.head.fields) (sym got) (subst (λ (c : Contexts). Stream n reading js lines x c s.head.fields (requests_in s.deeds)) (sym alike) s.stream);
      }
    where
      by_opened : {g : List _} → g ≡ requests_in s.deeds → (is_some x.reader ≡ true) ⊎ ((up_traffic n (past ++ hub.sent) ≡ up_traffic n s.start_hub.sent) × ((requests_in s.deeds ≡ []) ⊎ (is_over x ≡ true)))
          → (is_some x.reader ≡ true) ⊎ ((up_traffic n (now ++ after.sent) ≡ up_traffic n s.start_hub.sent) × ((g ≡ []) ⊎ (is_over x ≡ true)))
      by_opened g (inl o) = inl o
      by_opened g (inr (o, inl e)) = inr (same ∙ o, inl (g ∙ e))
      by_opened g (inr (o, inr e)) = inr (same ∙ o, inr e)

  idle_past : Idle plan n past hub → Idle plan n now after
  idle_past idle = subst (OneByOne plan) (sym same) idle

  tale_past : (reading : Option ReadBatch) (js : List Job) (lines : List Line) (x : Exchange) → Tale plan n past reading js lines x hub → Tale plan n now reading js lines x after
  tale_past reading js lines x (plainly s) = plainly (story_past reading js lines x s)
  tale_past reading js lines x (filtered o) = filtered (record {
    filters = o.filters;
    head = o.head;
    start = o.start;
    begun = o.begun;
    some = o.some;
    base = o.base;
    before = o.before;
    got = o.got;
    passage = passage_past reading js lines x o.head o.start o.base o.got o.passage;
  })

  exchange_past : (reading : Option ReadBatch) (js : List Job) (lines : List Line) (due : Due) (o : Option Exchange) → ExOk plan n past reading js lines due o hub → ExOk plan n now reading js lines due o after
  exchange_past reading js lines due None ok = record { none = ok.none; due_or = ok.due_or; idle = idle_past ok.idle }
  exchange_past reading js lines due (Some x) ok = record { staid = ok.staid; matches = ok.matches; unclosed = ok.unclosed; reads = ok.reads; tale = tale_past reading js lines x ok.tale }

  line_past : (reading : Option ReadBatch) (js : List Job) (lines : List Line) (o : Option Line) → LineOk plan n past reading js lines o hub → LineOk plan n now reading js lines o after
  line_past reading js lines None ok = (ok.0, idle_past ok.1)
  line_past reading js lines (Some l) ok = (ok.0, exchange_past reading js lines l.requests.due l.exchange ok.1)

-- ---- a turn

pub facing_known : (plan : Plan) (n : ℕ) (past : List Sent) (event : Event) (room : Room) → Known plan n past room → Known plan n past (room_for_event plan event room)
facing_known plan n past event room k = record {
  once = k.once;
  parts = agenda_parts plan event.what (record room { hub = record room.hub { moment = event.now } });
  stands = k.stands;
  alone = k.alone;
  phase = k.phase;
  line = line_past plan n past past room.hub (record room.hub { moment = event.now }) refl refl room.reading room.jobs room.lines (look n room.lines) k.line;
}

pub emptied_known : (plan : Plan) (n : ℕ) (past : List Sent) (room : Room) → Known plan n past room → Known plan n (past ++ join_neighbours room.hub.sent) (without_sent room)
emptied_known plan n past room k =
    let same : up_traffic n ((past ++ join_neighbours room.hub.sent) ++ []) ≡ up_traffic n (past ++ room.hub.sent)
    = ap (up_traffic n) (append-nil (past ++ join_neighbours room.hub.sent)) ∙ (ups_join n past (join_neighbours room.hub.sent) ∙ (ap (λ t. up_traffic n past ++ t) (ups_joined n room.hub.sent) ∙ sym (ups_join n past room.hub.sent))) in
    record {
      once = k.once;
      parts = k.parts;
      stands = k.stands;
      alone = k.alone;
      phase = k.phase;
      line = line_past plan n past (past ++ join_neighbours room.hub.sent) room.hub (record room.hub { sent = [] }) same refl room.reading room.jobs room.lines (look n room.lines) k.line;
    }

-- of all lines
pub facing_all : (plan : Plan) (past : List Sent) (event : Event) (room : Room) → KnownAll plan past room → KnownAll plan past (room_for_event plan event room)
facing_all plan past event room all = ((λ n low. facing_known plan n past event room (all.0 n low)), facing_unused plan event room all.1)

pub emptied_all : (plan : Plan) (past : List Sent) (room : Room) → KnownAll plan past room → KnownAll plan (past ++ join_neighbours room.hub.sent) (without_sent room)
emptied_all plan past room all = ((λ n low. emptied_known plan n past room (all.0 n low)), emptied_unused room all.1)

module _ {H : Type 0} (calling : Calling H) (logs : WriteLogs calling) (plan : Plan) where
  abbrev Comes : List Sent → Outcome H → Type 0
  Comes past o = KnownAll plan (past ++ o.sent) o.state.room

  turn_keeps : (past : List Sent) (state : Both H) (event : Event) → KnownAll plan past state.room → AllEnds (Comes past) (turn calling plan state event)
  turn_keeps past state event all = by_stop (is_stop event.what)
    where
      by_stop : (b : Bool) → AllEnds (Comes past) (turn_by calling plan b state event)
      by_stop true = subst (λ l. KnownAll plan l state.room) (sym (append-nil past)) all
      by_stop false =
          all_then (λ (b : Both H). KnownAll plan past b.room) (Comes past) (settling calling plan most_steps state.host (room_for_event plan event state.room)) (λ b. ends (outcome_of b))
          (settling_keeps calling logs plan past most_steps state.host (room_for_event plan event state.room) (facing_all plan past event state.room all)) (λ b k. emptied_all plan past b.room k)

  pub turns_keep : (past : List Sent) (from : Both H) (ts : List (Done H)) (to : Both H) → KnownAll plan past from.room → Turns calling plan from ts to → KnownAll plan (past ++ sent_in ts) to.room
  turns_keep past from [] to all turned = subst (λ (b : Both H). KnownAll plan (past ++ []) b.room) (sym turned) (subst (λ l. KnownAll plan l from.room) (sym (append-nil past)) all)
  turns_keep past from (t ∷ ts) to all turned =
      let one : Comes past t.end = all_reached (Comes past) t.met (turn calling plan from t.event) t.end (turn_keeps past from t.event all) turned.0 in
      subst (λ l. KnownAll plan l to.room) (append_assoc past t.end.sent (sent_in ts)) (turns_keep (past ++ t.end.sent) t.end.state ts to one turned.1)

  -- nothing is left to be sent after a turn
  any_end : {A : Type 0} (p : Course A) → AllEnds (λ (a : A). Unit {0}) p
  any_end (ends a) = tt
  any_end (asks vm call k) = λ r. any_end (k r)
  any_end (measures vm call k) = λ r. any_end (k r)
  any_end (hears t k) = λ h says. any_end (k h)

  turn_empties : (state : Both H) (event : Event) → AllEnds (λ (o : Outcome H). state.room.hub.sent ≡ [] → o.state.room.hub.sent ≡ []) (turn calling plan state event)
  turn_empties state event = by_stop (is_stop event.what)
    where
      by_stop : (b : Bool) → AllEnds (λ (o : Outcome H). state.room.hub.sent ≡ [] → o.state.room.hub.sent ≡ []) (turn_by calling plan b state event)
      by_stop true = λ e. e
      by_stop false =
          all_then (λ (b : Both H). Unit {0}) (λ (o : Outcome H). state.room.hub.sent ≡ [] → o.state.room.hub.sent ≡ []) (settling calling plan most_steps state.host (room_for_event plan event state.room)) (λ b. ends (outcome_of b))
          (any_end (settling calling plan most_steps state.host (room_for_event plan event state.room))) (λ b k e. refl)

  pub turns_empty : (from : Both H) (ts : List (Done H)) (to : Both H) → from.room.hub.sent ≡ [] → Turns calling plan from ts to → to.room.hub.sent ≡ []
  turns_empty from [] to none turned = ap (λ (b : Both H). b.room.hub.sent) turned ∙ none
  turns_empty from (t ∷ ts) to none turned =
      turns_empty t.end.state ts to
      (all_reached (λ (o : Outcome H). from.room.hub.sent ≡ [] → o.state.room.hub.sent ≡ []) t.met (turn calling plan from t.event) t.end (turn_empties from t.event) turned.0 none) turned.1

-- a new worker
pub new_known : (plan : Plan) (contexts : Contexts) (n : ℕ) → Known plan n [] (new_room contexts)
new_known plan contexts n = record {
  once = tt;
  parts = tt;
  stands = tt;
  alone = λ r is. absurd (cc);
  phase = tt;
  line = (refl, no_parts plan);
}

pub new_all : (plan : Plan) (contexts : Contexts) → KnownAll plan [] (new_room contexts)
new_all plan contexts = ((λ n low. new_known plan contexts n), new_unused contexts)

-- ---- what went up

so_far : (plan : Plan) (n : ℕ) (past : List Sent) (room : Room) (x : Exchange) → (s : Story plan n past room.reading room.jobs room.lines x room.hub) → IsSoFar x s.head (requests_in s.deeds) s.passage.went
so_far plan n past room x s =
    let w : Went plan n past room.reading room.jobs room.lines x room.hub s = went plan n past room.reading room.jobs room.lines x room.hub s in
    let same : w.goes.went ≡ s.passage.went = same_went plan n past room.reading room.jobs room.lines x room.hub s in
    record {
      request = w.request;
      sent_of = w.sent_of;
      reads_back = λ ended other room suits. w.goes.read_back ended (readable s.head w.request s.began.begun.judged w.sent_of other room) suits;
      whole_reads_back = whole_reads_back plan n past room.reading room.jobs room.lines x room.hub s;
      message = is_message plan n past room.reading room.jobs room.lines x room.hub s;
      came = came_of n s.start s.start_hub s.deeds;
      of = s.came;
      front = subst (λ (t : List Traffic). IsFront t (opens ∷ map byte (out_wire w.request))) same w.goes.front;
      all = λ live. sym same ∙ w.goes.all live;
      whole = λ live whole. subst (λ (t : List Traffic). t ≡ opens ∷ map byte (out_wire w.request)) same (by_full w live (w.full whole));
    }
  where
    alone : (framing : Framing) (g : Head) (bodies : Bool) → framing ≡ up_framing bodies (request_of s.head) → is_bare (request_of s.head).length ≡ true
        → head_wire framing g ≡ out_wire (record { framing = framing; head = g; pieces = []; ending = last_bytes [] })
    alone framing g bodies is lacks =
        subst (λ (f : Framing). head_wire f g ≡ out_wire (record { framing = f; head = g; pieces = []; ending = last_bytes [] })) (sym is) (sym (bare_wire bodies (request_of s.head) g lacks))

    by_full : (w : Went plan n past room.reading room.jobs room.lines x room.hub s) → is_over x ≡ false
        → (came_of n s.start s.start_hub s.deeds ≡ out_items w.request) ⊎ IsHeadAlone (requests_in s.deeds) (came_of n s.start s.start_hub s.deeds) w.request → w.goes.went ≡ opens ∷ map byte (out_wire w.request)
    by_full w live (inl e) = w.goes.whole live e
    by_full w live (inr e) =
        let lacks : is_bare (request_of s.head).length ≡ true
        = heard_bare s.head (requests_in s.deeds) s.passage.heard s.passage.was.now s.passage.was.was (came_so plan n past room.reading room.jobs room.lines x room.hub s) e.begins in
        w.goes.all live
        ∙ (ap (traffic w.request.framing) e.outs_are
        ∙ (append-nil (opens ∷ map byte (head_wire w.request.framing w.request.head)) ∙ ap (λ l. opens ∷ map byte l) (alone w.request.framing w.request.head w.sent_of.filtered w.sent_of.framing lacks ∙ ap out_wire (sym e.is))))

text_is : (n : ℕ) (lines : List Line) (now : Reading) → text_in n lines ≡ Some now → line_reading false (line_in n lines) ≡ Some now
text_is n lines now is = ap (line_reading false) (line_in_is n lines) ∙ (by_line (look n lines) ∙ is)
  where
    by_line : (o : Option Line) → line_reading false o ≡ option_map (λ (l : Line). l.requests) o
    by_line None = refl
    by_line (Some l) = refl

goes_up_by : (plan : Plan) (n : ℕ) (past : List Sent) (room : Room) → Known plan n past room → GoesUpBy plan n room (exchange_on n room) (up_traffic n (past ++ room.hub.sent))
goes_up_by plan n past room k =
    subst (λ (o : Option Line). GoesUpBy plan n room (exchange_of_line o) (up_traffic n (past ++ room.hub.sent))) (sym (line_in_is n room.lines)) (by_line (look n room.lines) k.line)
  where
    by_exchange : (due : Due) (o : Option Exchange) → ExOk plan n past room.reading room.jobs room.lines due o room.hub → GoesUpBy plan n room o (up_traffic n (past ++ room.hub.sent))
    by_exchange due None ok = ok.idle
    by_exchange due (Some x) ok = by_tale ok.tale
      where
        by_tale : Tale plan n past room.reading room.jobs room.lines x room.hub → IsOpen plan n room x (up_traffic n (past ++ room.hub.sent))
        by_tale (plainly s) = record {
          before = up_traffic n s.start_hub.sent;
          one_by_one = s.before;
          head = s.head;
          first = s.start;
          begun = s.began.begun;
          place = s.passage.place;
          asked = s.passage.asked;
          framed = s.passage.framed;
          heard = s.passage.heard;
          now = s.passage.was.now;
          reads = text_is n room.lines s.passage.was.now s.passage.was.at;
          was_heard = s.passage.was.was;
          came = requests_in s.deeds;
          came_first = came_front n past room.reading room.jobs room.lines x room.hub s.head s.start (up_traffic n s.start_hub.sent) (requests_in s.deeds) s.passage;
          came_all = all_came n past room.reading room.jobs room.lines x room.hub s.head s.start (up_traffic n s.start_hub.sent) (requests_in s.deeds) s.passage;
          read_whole = read_whole n past room.reading room.jobs room.lines x room.hub s.head s.start (up_traffic n s.start_hub.sent) (requests_in s.deeds) s.passage;
          went = s.passage.went;
          adds = s.passage.adds;
          goes = goes_of n past room.reading room.jobs room.lines x room.hub s.head s.start (up_traffic n s.start_hub.sent) (requests_in s.deeds) s.passage;
          all = all_of n past room.reading room.jobs room.lines x room.hub s.head s.start (up_traffic n s.start_hub.sent) (requests_in s.deeds) s.passage (ap (λ (y : Exchange). y.asked) s.began.begun.is);
          exact = λ e. so_far plan n past room x s;
        }
        by_tale (filtered o) = record {
          before = o.base;
          one_by_one = o.before;
          head = o.head;
          first = o.start;
          begun = o.begun;
          place = o.passage.place;
          asked = o.passage.asked;
          framed = o.passage.framed;
          heard = o.passage.heard;
          now = o.passage.was.now;
          reads = text_is n room.lines o.passage.was.now o.passage.was.at;
          was_heard = o.passage.was.was;
          came = o.got;
          came_first = came_front n past room.reading room.jobs room.lines x room.hub o.head o.start o.base o.got o.passage;
          came_all = all_came n past room.reading room.jobs room.lines x room.hub o.head o.start o.base o.got o.passage;
          read_whole = read_whole n past room.reading room.jobs room.lines x room.hub o.head o.start o.base o.got o.passage;
          went = o.passage.went;
          adds = o.passage.adds;
          goes = goes_of n past room.reading room.jobs room.lines x room.hub o.head o.start o.base o.got o.passage;
          all = all_of n past room.reading room.jobs room.lines x room.hub o.head o.start o.base o.got o.passage (ap (λ (y : Exchange). y.asked) o.begun.is);
          exact = λ e. absurd (o.filters e);
        }

    by_line : (o : Option Line) → LineOk plan n past room.reading room.jobs room.lines o room.hub → GoesUpBy plan n room (exchange_of_line o) (up_traffic n (past ++ room.hub.sent))
    by_line None ok = ok.1
    by_line (Some l) ok = by_exchange l.requests.due l.exchange ok.1

lived : (plan : Plan) (n : ℕ) (past : List Sent) (room : Room) (x : Exchange) → Known plan n past room → exchange_on n room ≡ Some x → x.filters ≡ [] → HasLived plan n x (behind past room.hub)
lived plan n past room x k on none = by_line (look n room.lines) k.line (sym (ap exchange_of_line (line_in_is n room.lines)) ∙ on)
  where
    by_tale : Tale plan n past room.reading room.jobs room.lines x room.hub → HasLived plan n x (behind past room.hub)
    by_tale (plainly s) = record {
      head = s.head;
      start = s.start;
      start_hub = s.start_hub;
      began = s.began;
      before = s.before;
      deeds = s.deeds;
      came = came_of n s.start s.start_hub s.deeds;
      lives = lives_with n s.deeds s.start x s.start_hub (behind past room.hub) s.lives;
      place = s.passage.place;
      asked = s.passage.asked;
      message = is_message plan n past room.reading room.jobs room.lines x room.hub s;
      of = s.came;
    }
    by_tale (filtered o) = absurd (o.filters none)

    by_exchange : (due : Due) (o : Option Exchange) → ExOk plan n past room.reading room.jobs room.lines due o room.hub → o ≡ Some x → HasLived plan n x (behind past room.hub)
    by_exchange due None ok is = absurd (cc)
    by_exchange due (Some y) ok is = let same : y ≡ x = cc in by_tale (subst (λ (z : Exchange). Tale plan n past room.reading room.jobs room.lines z room.hub) same ok.tale)

    by_line : (o : Option Line) → LineOk plan n past room.reading room.jobs room.lines o room.hub → exchange_of_line o ≡ Some x → HasLived plan n x (behind past room.hub)
    by_line None ok is = absurd (cc)
    by_line (Some l) ok is = by_exchange l.requests.due l.exchange ok.1 is

pub exchanges_live : (H : Type 0) → ExchangesLive H
exchanges_live H calling plan contexts host ts to n x logs turned on none = by_line (is_call_line n) refl
  where
    all : KnownAll plan (sent_in ts) to.room
    all = turns_keep calling logs plan [] (both host (new_room contexts)) ts to (new_all plan contexts) turned

    -- on the line of a callout there is none
    by_line : (b : Bool) → is_call_line n ≡ b → HasLived plan n x (behind (sent_in ts) to.room.hub)
    by_line false low = lived plan n (sent_in ts) to.room x (all.0 n low) on none
    by_line true high = let never : ◌≡◌ {A = Option Exchange} None (Some x) = sym (no_exchange n to.room (all.1 n high)) ∙ on in absurd (cc)

pub all_go_up_one_by_one : (H : Type 0) → RequestsGoUpOneByOne H
all_go_up_one_by_one H calling plan contexts host ts to n low logs turned =
    let k : Known plan n (sent_in ts) to.room = (turns_keep calling logs plan [] (both host (new_room contexts)) ts to (new_all plan contexts) turned).0 n low in
    let none : to.room.hub.sent ≡ [] = turns_empty calling logs plan (both host (new_room contexts)) ts to refl turned in
    subst (GoesUpBy plan n to.room (exchange_on n to.room)) (ap (up_traffic n) (append-nil (sent_in ts))) (subst (λ l. GoesUpBy plan n to.room (exchange_on n to.room) (up_traffic n (sent_in ts ++ l))) none (goes_up_by plan n (sent_in ts) to.room k))
