-- A callout goes out once: each step of a worker keeps that.
use Rattle.std.proofs.Common.{◌≡◌, ◌<◌, ◌≤◌, ◌+◌, ◌-◌, ◌==◌, ℕ, zero, suc, Bool, true, false, not, ◌||◌, cond, List, [], ◌∷◌, ◌++◌, length, refl, sym, ap, ◌∙◌, subst, ne_eqb, eq-eqb, arith, ⊎_elim}
use Rattle.std.proofs.lemmas.Bool.{cases_eq}
use Rattle.std.proofs.lemmas.List.{append-nil, append_assoc}
use Rattle.std.proofs.lemmas.List.Elements.{filter-append}
use Rattle.std.specs.Prelude.{Option, None, Some, nat_lt, slice_get, if◌then◌else◌}
use Rattle.callouts.specs.Callouts.{Coming, reads, fails, nothing, comes_of, callout_in, callout_at, line_in, line_of, first_line, begun, with_reading, after_heard as after_part_heard}
use Rattle.callouts.specs.Requests.{request_wire}
use Rattle.callouts.specs.Steps.{put_callout, after_coming, after_event_of, callout_after, next_after}
use Rattle.callouts.specs.declared.types.Callout.{Callout}
use Rattle.callouts.specs.declared.types.CallStep.{CallStep}
use Rattle.callouts.specs.declared.types.CallStep.TheVariants as steps
use Rattle.contexts.specs.declared.parts.CallAnswer.{CallAnswer}
use Rattle.contexts.specs.declared.parts.Calls.{Calls}
use Rattle.contexts.specs.declared.parts.Contexts.{Contexts}
use Rattle.contexts.specs.declared.parts.Effect.{Effect}
use Rattle.contexts.specs.declared.parts.EffectKind.{EffectKind}
use Rattle.contexts.specs.declared.parts.EffectKind.TheVariants as what
use Rattle.contexts.specs.declared.parts.Request.{Request}
use Rattle.exchange.specs.declared.types.Hub.{Hub}
use Rattle.exchange.specs.Passing as passing
use Rattle.filter_host.proofs.Holds.{AllEnds, all_then}
use Rattle.filter_host.specs.Called.{Called, Calling}
use Rattle.filter_host.specs.Course.{Course, ends}
use Rattle.filter_host.specs.Heard.{Heard}
use Rattle.filter_host.specs.declared.host.Callback.{Callback}
use Rattle.filter_host.specs.declared.host.Callback.TheVariants as callbacks
use Rattle.filter_host.specs.declared.host.CallbackEnd.{CallbackEnd}
use Rattle.filter_host.specs.declared.host.CallbackEnd.TheVariants as call_ends
use Rattle.filter_host.specs.declared.host.Death.{Death}
use Rattle.filter_host.specs.declared.host.Death.TheVariants as deaths
use Rattle.gate_io.specs.declared.event.Sent.{Sent}
use Rattle.gate_io.specs.declared.event.Sent.TheVariants as to
use Rattle.gate_io.specs.declared.event.Side.TheVariants.{Up}
use Rattle.gate_io.specs.declared.event.What.{What}
use Rattle.h1_model.specs.Unread.{Reading}
use Rattle.store_model.specs.Program.{Program, done, ask, measure}
use Rattle.worker_model.specs.Calls.{with_call_step, take_after, take_call_event, take_call_heard, close_call, has_listener, answer_if, put_call_answer}
use Rattle.worker_model.specs.Changes.{apply_change}
use Rattle.worker_model.specs.Moves.{asks_at}
use Rattle.worker_model.specs.Plan.{Plan}
use Rattle.worker_model.specs.Room.{Room}
use Rattle.worker_model.specs.Rooms.{next_call, begin_call, on_context, is_own, is_dead, apply_effect, effects_of, without_effects, room_with_sent, with_contexts, with_lines, lose_vm_in, take_callback_end, value_of_end, next_of}
use Rattle.worker_model.specs.Steps.{Both, both, Answered, callback_result, Then, continue_with, called_in, called_live, calls_live, nothing_more, unless_zero, finish_context, delete_context, drop_answer, apply_stage_action, moved, moved_with, tells, made_with, ticks_with, tells_ready, notice_step, reads_call, tells_call, ends_call, works_call, works_other, works, works_first, reads_in, reads_next, reading_on, create_root, create_context, tick_root, may_stream, callback_of, number_of, vm_length, plugin_length, run_silent_job, begin_first_job, end_at, release, release_at, take_notice_reply, after_heard, step}
use Rattle.worker_model.specs.declared.types.Asked.{Asked}
use Rattle.worker_model.specs.declared.types.Change.TheVariants as changes
use Rattle.worker_model.specs.declared.types.ContextAt.{ContextAt}
use Rattle.worker_model.specs.declared.types.Job.{Job}
use Rattle.worker_model.specs.declared.types.Job.TheVariants as jobs
use Rattle.worker_model.specs.declared.types.Line.{Line}
use Rattle.worker_model.specs.declared.types.NewContext.{NewContext}
use Rattle.worker_model.specs.declared.types.Next.{Next}
use Rattle.worker_model.specs.declared.types.Next.TheVariants as next
use Rattle.worker_model.specs.declared.types.OtherStep.{OtherStep}
use Rattle.worker_model.specs.declared.types.OtherStep.TheVariants as others
use Rattle.worker_model.specs.declared.types.Owner.{Owner}
use Rattle.worker_model.specs.declared.types.Owner.TheVariants as owns
use Rattle.worker_model.specs.declared.types.ReadBatch.{ReadBatch}
use Rattle.law_lines.specs.Isolation.{lines_on, IsFree, is_sent_on, sent_on, is_at, is_read_of, is_work_of, is_first_of, is_step_of}
use Rattle.law_lines.specs.Logs.{AreLogs, OnlyLogs, WriteLogs}
use Rattle.law_lines.proofs.Isolation.{work_in}
use Rattle.law_lines.proofs.Spared.{Spared, does_spared, died_spared, zero_spared, done_spared, deletes_spared, acts_spared, answer_spared, drops_answer_spared, rooting_spared, creating_spared, ticked_spared, noticed_spared, quietly_spared, frees_spared, ends_spared, heard_spared, AsksBeside, asks_beside}
use Rattle.law_callouts.specs.Ends.{AllOf}
use Rattle.law_callouts.specs.GoingOut.{request_out, close_out, IsDrawn, GoesOut}
use Rattle.law_callouts.specs.GoingOut as out
use Rattle.law_callouts.specs.Sound.{AreRising, AreUpTo, AreSound}
use Rattle.law_callouts.proofs.About.{pend}
use Rattle.law_callouts.proofs.Changing.{pick, resumes_keeps, closed_keeps, answer_keeps}
use Rattle.law_callouts.proofs.Ending.{up_to}
use Rattle.law_callouts.proofs.Rooms.{HasCalls, has_calls, InThird, in_asks_at, Stands, to_lines, to_context, to_died, unless_zero_keeps, done_keeps, deletes_keeps, to_answer, answer_keeps_none, acts_on_keeps, to_root, to_stream, to_tick, to_notice, to_heard, to_quietly, to_ends_at, to_frees}
use Rattle.law_callouts.proofs.Saying.{no_logs, more_sent, clear_free, Says, IsClear, continue_says, closing_says, answer_says, died_says, zero_says, done_says, deletes_says, acts_says, root_says, stream_says, ticked_says, noticed_says, quietly_says, ends_says, heard_says, asks_says}
use Rattle.law_callouts.proofs.Sound.{stays_sound, none_above, heard_id, found_id, put_sound}
use Rattle.law_callouts.proofs.Staying.{add_other, put_other, put_same, without_other}
use Rattle.law_callouts.proofs.Steps.{of_if, runs_so, KeepsGood}

positive : (id : ℕ) (calls : List Callout) (d : Callout) → callout_in id calls ≡ Some d → AreRising 0 calls → 0 < id
positive zero calls d there rising = let none : callout_in 0 calls ≡ None = none_above 0 0 calls (omega arith) rising in absurd (cc)
positive (suc k) calls d there rising = omega arith

-- the one that an event is of is found by its id
at_found : (l : Option ℕ) (calls : List Callout) (c : Callout) → callout_at l calls ≡ Some c → callout_in c.id calls ≡ Some c
at_found None calls c is = absurd (cc)
at_found (Some line) calls c is = subst (λ (k : ℕ). callout_in k calls ≡ Some c) (sym (found_id (line - first_line) calls c is)) is

-- ---- what is sent of a callout

own_request : (id : ℕ) (q : Request) → sent_on (line_of id) (request_out id q) ≡ request_out id q
own_request id q =
    let wire : List Sent = to.Bytes (line_of id) Up (request_wire q) ∷ [] in
    ap (λ (b : Bool). cond b (to.Connect (line_of id) ∷ cond b wire []) (cond b wire [])) (eq-eqb (line_of id) (line_of id) refl)

own_close : (id : ℕ) → sent_on (line_of id) (close_out id) ≡ close_out id
own_close id = ap (λ (b : Bool). cond b (close_out id) []) (eq-eqb (line_of id) (line_of id) refl)

lines_other : (m id : ℕ) → (m ≡ id → ⊥) → (line_of m == line_of id) ≡ false
lines_other m id other = ne_eqb (line_of m) (line_of id) (λ e. other (omega (arith, e)))

other_request : (m id : ℕ) (q : Request) → (m ≡ id → ⊥) → sent_on (line_of id) (request_out m q) ≡ []
other_request m id q other =
    let wire : List Sent = to.Bytes (line_of m) Up (request_wire q) ∷ [] in
    ap (λ (b : Bool). cond b (to.Connect (line_of m) ∷ cond b wire []) (cond b wire [])) (lines_other m id other)

other_close : (m id : ℕ) → (m ≡ id → ⊥) → sent_on (line_of id) (close_out m) ≡ []
other_close m id other = ap (λ (b : Bool). cond b (close_out m) []) (lines_other m id other)

module _ (id : ℕ) (past : List Sent) where
  -- callouts are sound, no client's line has the number, and so much was sent on it
  pub record Holds (room : Room) : Type 0 where
    pub sound : AreSound room
    pub clear : IsClear (line_of id) room
    pub out : GoesOut id room (past ++ room.hub.sent)

  abbrev On : Room → List Sent
  On room = sent_on (line_of id) (past ++ room.hub.sent)

  said : (old new : Room) → Says (line_of id) old new → On new ≡ On old
  said old new same =
      filter-append (is_sent_on (line_of id)) past new.hub.sent
      ∙ (ap (λ (t : List Sent). sent_on (line_of id) past ++ t) same ∙ sym (filter-append (is_sent_on (line_of id)) past old.hub.sent))

  more_on : (room after : Room) (more : List Sent) → after.hub.sent ≡ room.hub.sent ++ more → On after ≡ On room ++ sent_on (line_of id) more
  more_on room after more is =
      ap (λ (t : List Sent). sent_on (line_of id) (past ++ t)) is
      ∙ (ap (sent_on (line_of id)) (sym (append_assoc past room.hub.sent more)) ∙ filter-append (is_sent_on (line_of id)) (past ++ room.hub.sent) more)

  none_on : (room after : Room) (more : List Sent) → after.hub.sent ≡ room.hub.sent ++ more → sent_on (line_of id) more ≡ [] → On after ≡ On room
  none_on room after more is none = more_on room after more is ∙ (ap (λ (t : List Sent). On room ++ t) none ∙ append-nil (On room))

  out_still : (old new : Room) → new.hub.contexts.calls ≡ old.hub.contexts.calls → new.calls ≡ old.calls → On new ≡ On old → GoesOut id old (past ++ old.hub.sent) → GoesOut id new (past ++ new.hub.sent)
  out_still old new counts calls same (out.nothing none is) = out.nothing (λ (d : IsDrawn id new). none (d.0, subst (λ (c : Calls). id ≤ c.last) counts d.1)) (same ∙ is)
  out_still old new counts calls same (out.request c q there is) = out.request c q (ap (λ (cs : List Callout). callout_in id cs) calls ∙ there) (same ∙ is)
  out_still old new counts calls same (out.closed q drawn gone is) =
      out.closed q (drawn.0, subst (λ (c : Calls). id ≤ c.last) (sym counts) drawn.1) (ap (λ (cs : List Callout). callout_in id cs) calls ∙ gone) (same ∙ is)

  pub still_holds : (old new : Room) → Holds old → new.hub.contexts.calls ≡ old.hub.contexts.calls → new.calls ≡ old.calls → lines_on (line_of id) new.lines ≡ lines_on (line_of id) old.lines
      → Says (line_of id) old new → Holds new
  still_holds old new h counts calls lines says = record {
    sound = record {
      rising = subst (λ (cs : List Callout). AreRising 0 cs) (sym calls) h.sound.rising;
      drawn = subst (λ (cs : List Callout). AreUpTo new.hub.contexts.calls.last cs) (sym calls) (subst (λ (c : Calls). AreUpTo c.last old.calls) (sym counts) h.sound.drawn);
      counted = ap (λ (c : Calls). c.under_way) counts ∙ (h.sound.counted ∙ ap (λ (cs : List Callout). length cs) (sym calls));
    };
    clear = lines ∙ h.clear;
    out = out_still old new counts calls (said old new says) h.out;
  }

  -- ---- a callout begins, and ends

  drawn_of : (room : Room) (d : Callout) → AreSound room → callout_in id room.calls ≡ Some d → IsDrawn id room
  drawn_of room d sound there = (positive id room.calls d there sound.rising, up_to id room.calls room.hub.contexts.calls.last d there sound.drawn)

  begin_out : (q : Request) (room : Room) → AreSound room → GoesOut id room (past ++ room.hub.sent) → GoesOut id (begin_call q room) (past ++ (begin_call q room).hub.sent)
  begin_out q room sound goes = by_out goes
    where
      new : Callout
      new = begun (next_call room) room.hub.moment q

      here : next_call room ≡ id → On (begin_call q room) ≡ On room ++ request_out id q
      here is =
          more_on room (begin_call q room) (request_out (next_call room) q) refl
          ∙ ap (λ (t : List Sent). On room ++ t) (subst (λ (k : ℕ). sent_on (line_of id) (request_out k q) ≡ request_out id q) (sym is) (own_request id q))

      away : (next_call room ≡ id → ⊥) → On (begin_call q room) ≡ On room
      away other = none_on room (begin_call q room) (request_out (next_call room) q) refl (other_request (next_call room) id q other)

      stays : (next_call room ≡ id → ⊥) → callout_in id (begin_call q room).calls ≡ callout_in id room.calls
      stays other = add_other id new room.calls other

      -- one that was drawn is none that is drawn now
      later : id ≤ room.hub.contexts.calls.last → next_call room ≡ id → ⊥
      later low same = let is : room.hub.contexts.calls.last + 1 ≡ id = same in omega (arith, is, low)

      by_out : GoesOut id room (past ++ room.hub.sent) → GoesOut id (begin_call q room) (past ++ (begin_call q room).hub.sent)
      by_out (out.nothing none is) =
          ⊎_elim
          (λ (same : next_call room ≡ id). out.request new q (subst (λ (k : ℕ). callout_in k (begin_call q room).calls ≡ Some new) same (stays_sound.is_there q room sound)) (here same ∙ ap (λ (t : List Sent). t ++ request_out id q) is))
          (λ (other : next_call room ≡ id → ⊥).
          out.nothing
          (λ (d : IsDrawn id (begin_call q room)).
          let up : id ≤ room.hub.contexts.calls.last + 1 = d.1 in
          let apart : room.hub.contexts.calls.last + 1 ≡ id → ⊥ = other in
          none (d.0, omega (arith, up, apart)))
          (away other ∙ is))
          (cases_eq (next_call room) id)
      by_out (out.request c p there is) = let other = later (drawn_of room c sound there).1 in out.request c p (stays other ∙ there) (away other ∙ is)
      by_out (out.closed p drawn gone is) =
          let other = later drawn.1 in
          let low : id ≤ room.hub.contexts.calls.last = drawn.1 in
          let up : id ≤ room.hub.contexts.calls.last + 1 = omega (arith, low) in
          out.closed p (drawn.0, up) (stays other ∙ gone) (away other ∙ is)

  pub begin_holds : (q : Request) (room : Room) → Holds room → Holds (begin_call q room)
  begin_holds q room h = record { sound = stays_sound.begins q room h.sound; clear = h.clear; out = begin_out q room h.sound h.out }

  close_out_so : (m : ℕ) (d : Callout) (room : Room) → AreSound room → callout_in m room.calls ≡ Some d → GoesOut id room (past ++ room.hub.sent) → GoesOut id (close_call m room) (past ++ (close_call m room).hub.sent)
  close_out_so m d room sound there goes = ⊎_elim (λ (same : m ≡ id). here same (subst (λ (k : ℕ). callout_in k room.calls ≡ Some d) same there) goes) (λ (other : m ≡ id → ⊥). away other goes) (cases_eq m id)
    where
      here : m ≡ id → callout_in id room.calls ≡ Some d → GoesOut id room (past ++ room.hub.sent) → GoesOut id (close_call m room) (past ++ (close_call m room).hub.sent)
      here same found (out.nothing none is) = absurd (none (drawn_of room d sound found))
      here same found (out.closed q drawn gone is) = let never : ◌≡◌ {A = Option Callout} (Some d) None = sym found ∙ gone in absurd (cc)
      here same found (out.request c q at is) =
          out.closed q (drawn_of room d sound found) (subst (λ (k : ℕ). callout_in id (close_call k room).calls ≡ None) (sym same) (stays_sound.is_gone id room sound))
          (more_on room (close_call m room) (close_out m) refl
          ∙ (ap (λ (t : List Sent). On room ++ t) (subst (λ (k : ℕ). sent_on (line_of id) (close_out k) ≡ close_out id) (sym same) (own_close id)) ∙ ap (λ (t : List Sent). t ++ close_out id) is))

      away : (m ≡ id → ⊥) → GoesOut id room (past ++ room.hub.sent) → GoesOut id (close_call m room) (past ++ (close_call m room).hub.sent)
      away other (out.nothing none is) = out.nothing none (none_on room (close_call m room) (close_out m) refl (other_close m id other) ∙ is)
      away other (out.request c q at is) = out.request c q (without_other id m room.calls other ∙ at) (none_on room (close_call m room) (close_out m) refl (other_close m id other) ∙ is)
      away other (out.closed q drawn gone is) = out.closed q drawn (without_other id m room.calls other ∙ gone) (none_on room (close_call m room) (close_out m) refl (other_close m id other) ∙ is)

  pub close_holds : (m : ℕ) (d : Callout) (room : Room) → callout_in m room.calls ≡ Some d → Holds room → Holds (close_call m room)
  close_holds m d room there h = record { sound = stays_sound.ends m room h.sound; clear = h.clear; out = close_out_so m d room h.sound there h.out }

  -- ---- one stands in the place of another of its id

  put_out : (m : ℕ) (c d : Callout) (room : Room) → c.id ≡ m → AreSound room → callout_in m room.calls ≡ Some d → GoesOut id room (past ++ room.hub.sent)
      → GoesOut id (record room { calls = put_callout m c room.calls }) (past ++ room.hub.sent)
  put_out m c d room is_of sound there goes = ⊎_elim (λ (same : m ≡ id). here same (subst (λ (k : ℕ). callout_in k room.calls ≡ Some d) same there) goes) (λ (other : m ≡ id → ⊥). away other goes) (cases_eq m id)
    where
      here : m ≡ id → callout_in id room.calls ≡ Some d → GoesOut id room (past ++ room.hub.sent) → GoesOut id (record room { calls = put_callout m c room.calls }) (past ++ room.hub.sent)
      here same found (out.nothing none is) = absurd (none (drawn_of room d sound found))
      here same found (out.closed q drawn gone is) = let never : ◌≡◌ {A = Option Callout} (Some d) None = sym found ∙ gone in absurd (cc)
      here same found (out.request x q at is) = out.request c q (subst (λ (k : ℕ). callout_in id (put_callout k c room.calls) ≡ Some c) (sym same) (put_same id c d room.calls (is_of ∙ same) found)) is

      away : (m ≡ id → ⊥) → GoesOut id room (past ++ room.hub.sent) → GoesOut id (record room { calls = put_callout m c room.calls }) (past ++ room.hub.sent)
      away other (out.nothing none is) = out.nothing none is
      away other (out.request x q at is) = out.request x q (put_other id m c room.calls is_of other ∙ at) is
      away other (out.closed q drawn gone is) = out.closed q drawn (put_other id m c room.calls is_of other ∙ gone) is

  put_holds : (m : ℕ) (c d : Callout) (room : Room) → c.id ≡ m → callout_in m room.calls ≡ Some d → Holds room → Holds (record room { calls = put_callout m c room.calls })
  put_holds m c d room is_of there h = record { sound = put_sound m c room is_of h.sound; clear = h.clear; out = put_out m c d room is_of h.sound there h.out }

  next_holds : (o : Option CallStep) (room : Room) → Holds room → Holds (with_call_step o room)
  next_holds None room h = h
  next_holds (Some s) room h = still_holds room (with_call_step (Some s) room) h refl refl refl refl

  coming_holds : (c : Callout) (coming : Coming) (room : Room) → callout_in c.id room.calls ≡ Some c → Holds room → Holds (take_after (after_coming c coming room.calls) room)
  coming_holds c (reads r) room there h = next_holds (Some (steps.Read c.id)) _ (put_holds c.id (with_reading r c) c room refl there h)
  coming_holds c fails room there h = next_holds (Some (steps.Fail c.id)) (record room { calls = room.calls }) (still_holds room (record room { calls = room.calls }) h refl refl refl refl)
  coming_holds c nothing room there h = still_holds room (record room { calls = room.calls }) h refl refl refl refl

  event_holds : (w : What) (o : Option Callout) (room : Room) → callout_at (line_in w) room.calls ≡ o → Holds room → Holds (take_after (after_event_of o w room.calls) room)
  event_holds w None room is h = still_holds room (record room { calls = room.calls }) h refl refl refl refl
  event_holds w (Some c) room is h = coming_holds c (comes_of w c.reader) room (at_found (line_in w) room.calls c is) h

  pub hears_holds : (n : ℕ) (c : Callout) (t : Heard) (room : Room) → callout_in n room.calls ≡ Some c → Holds room → Holds (take_call_heard n c t room)
  hears_holds n c t room is h =
      next_holds (next_after n (after_part_heard t c)) _ (put_holds n (callout_after (after_part_heard t c)) c room (heard_id t c ∙ found_id n room.calls c is) is h)

  pub comes_holds : (w : What) (room : Room) → Holds room → Holds (take_call_event w room)
  comes_holds w room h = event_holds w (callout_at (line_in w) room.calls) room refl h

-- whatever is replied, a callback is so, and writes logs
with_logs : {H : Type 0} (P : Called H → Type 0) (p : Program (Called H)) → AllOf P p → OnlyLogs p → AllOf (λ (c : Called H). P c × AreLogs c.lines) p
with_logs P (done c) all logs = (all, logs)
with_logs P (ask vm call k) all logs = λ r. with_logs P (k r) (all r) (logs r)
with_logs P (measure vm call k) all logs = λ r. with_logs P (k r) (all r) (logs r)

module _ {H : Type 0} (calling : Calling H) (IsGood : H → Type 0) (kept : KeepsGood calling IsGood) (logs : WriteLogs calling) (plan : Plan) (id : ℕ) (past : List Sent) where
  abbrev Room_holds : Room → Type 0
  Room_holds room = Holds id past room

  abbrev pub Held : Both H → Type 0
  Held b = IsGood b.host × Holds id past b.room

  abbrev Keeps : Course (Both H) → Type 0
  Keeps c = AllEnds Held c

  abbrev KeepsAnswer : Course (Answered H) → Type 0
  KeepsAnswer c = AllEnds (λ (a : Answered H). Held a.both) c

  -- the callouts, their counts and the moment are the same
  abbrev Same : Room → Room → Type 0
  Same old new = Stands id old.hub.moment old.calls old.hub.contexts.calls (pend id old) new

  itself : (room : Room) → Same room room
  itself room = ((refl, refl), refl, refl)

  by_stands : (old new : Room) → Room_holds old → Same old new → Spared (line_of id) old new → Says (line_of id) old new → Room_holds new
  by_stands old new h s spared says = still_holds id past old new h s.0.0 s.1 spared.lines.found says

  free : (room : Room) → Room_holds room → IsFree (line_of id) room.lines
  free room h = clear_free (line_of id) room.lines h.clear

  -- ---- the effects of a callback, and deaths

  died_holds : (vm : ℕ) (death : Death) (room : Room) → Room_holds room → Room_holds (lose_vm_in vm death room)
  died_holds vm death room h =
      by_stands room (lose_vm_in vm death room) h (to_died id room.hub.moment room.calls room.hub.contexts.calls (pend id room) vm death room (itself room)) (died_spared (line_of id) vm death room (free room h))
      (died_says (line_of id) vm death room h.clear)

  does_holds : (vm : ℕ) (own : Owner) (context : ℕ) (w : EffectKind) (room : Room) → Room_holds room → Room_holds (apply_effect vm own context w room)
  does_holds vm own context (what.Continue response) room h =
      let N = room.hub.contexts.calls in
      by_stands room (apply_effect vm own context (what.Continue response) room) h
      (pick (Stands id room.hub.moment room.calls N (pend id room)) (is_own own context response) room (on_context (passing.resume_context vm context response) vm context room) (itself room)
      (to_context id room.hub.moment room.calls N (pend id room) (passing.resume_context vm context response) (resumes_keeps (HasCalls N) (has_calls N) vm context response) vm context room (itself room)))
      (does_spared (line_of id) vm own context (what.Continue response) room (free room h)) (continue_says (line_of id) vm own context response room h.clear)
  does_holds vm own context what.Close room h =
      let N = room.hub.contexts.calls in
      by_stands room (apply_effect vm own context what.Close room) h
      (to_context id room.hub.moment room.calls N (pend id room) passing.close_exchange (closed_keeps (HasCalls N) (has_calls N)) vm context room (itself room))
      (does_spared (line_of id) vm own context what.Close room (free room h)) (closing_says (line_of id) vm own context room h.clear)
  does_holds vm own context (what.Call request) room h = begin_holds id past request room h
  does_holds vm own context (what.Answer status fields body) room h =
      let N = room.hub.contexts.calls in
      by_stands room (apply_effect vm own context (what.Answer status fields body) room) h
      (to_context id room.hub.moment room.calls N (pend id room) (apply_change (changes.Answer status fields body)) (answer_keeps (HasCalls N) (has_calls N) status fields.pairs body) vm context room (itself room))
      (does_spared (line_of id) vm own context (what.Answer status fields body) room (free room h)) (answer_says (line_of id) vm own context status fields body room h.clear)

  effects_holds : (vm : ℕ) (own : Owner) (es : List Effect) (room : Room) → Room_holds room → Room_holds (effects_of vm own es room)
  effects_holds vm own [] room h = h
  effects_holds vm own (e ∷ es) room h = effects_holds vm own es (apply_effect vm own e.context e.what room) (does_holds vm own e.context e.what room h)

  end_holds : (vm : ℕ) (own : Owner) (end : CallbackEnd) (lines : List Sent) (h : Contexts) (room : Room) → h.calls ≡ room.hub.contexts.calls → AreLogs lines → Room_holds room → Room_holds (take_callback_end vm own end lines h room)
  end_holds vm own end lines h room left are holds = by_end end
    where
      mid : Room
      mid = without_effects (room_with_sent lines (with_contexts h room))

      one : Room_holds mid
      one = still_holds id past room mid holds left refl refl (more_sent (line_of id) room.hub.sent lines mid.hub.sent refl (no_logs (line_of id) lines are))

      by_end : (end : CallbackEnd) → Room_holds (take_callback_end vm own end lines h room)
      by_end (call_ends.Returned value) = effects_holds vm own h.effects mid one
      by_end (call_ends.Died death) = died_holds vm death mid one

  -- ---- callbacks

  called_holds : (vm : ℕ) (name : Callback) (context first second : ℕ) (own : Owner) (host : H) (room : Room) → IsGood host → Room_holds room → KeepsAnswer (called_in calling vm name context first second own host room)
  called_holds vm name context first second own host room good h =
      runs_so (λ (c : Called H). (IsGood c.host × (c.contexts.calls ≡ room.hub.contexts.calls)) × AreLogs c.lines) (λ (a : Answered H). Held a.both)
      (calling host vm name context first second room.hub.moment room.hub.contexts)
      (λ c. ends (callback_result (value_of_end c.end) (both c.host (take_callback_end vm own c.end c.lines c.contexts room))))
      (with_logs (λ (c : Called H). IsGood c.host × (c.contexts.calls ≡ room.hub.contexts.calls)) (calling host vm name context first second room.hub.moment room.hub.contexts)
      (kept.keeps host vm name context first second room.hub.moment room.hub.contexts good) (logs host vm name context first second room.hub.moment room.hub.contexts))
      (λ c all. (all.0.0, end_holds vm own c.end c.lines c.contexts room all.0.1 all.1 h))

  abbrev HoldsThen : Then → Type 0
  HoldsThen behind = (value : Option (Option ℕ)) (room : Room) → Room_holds room → Room_holds (behind value room)

  live_holds : (vm : ℕ) (name : Callback) (context first second : ℕ) (behind : Then) (host : H) (room : Room) → HoldsThen behind → IsGood host → Room_holds room → Keeps (calls_live calling vm name context first second behind host room)
  live_holds vm name context first second behind host room keeps good h =
      all_then (λ (a : Answered H). Held a.both) Held (called_live calling vm name context first second host room) (λ a. ends (continue_with behind a))
      (of_if (λ (c : Course (Answered H)). KeepsAnswer c) (is_dead vm room) (ends (callback_result None (both host room))) (called_in calling vm name context first second owns.Nobody host room)
      (λ is. (good, h)) (λ is. called_holds vm name context first second owns.Nobody host room good h))
      (λ a held. (held.0, keeps a.value a.both.room held.1))

  zero_holds : (vm : ℕ) (death : Death) → HoldsThen (unless_zero vm death)
  zero_holds vm death value room h =
      by_stands room (unless_zero vm death value room) h (unless_zero_keeps id room.hub.moment room.calls room.hub.contexts.calls (pend id room) vm death value room (itself room))
      (zero_spared (line_of id) vm death value room (free room h)) (zero_says (line_of id) vm death value room h.clear)

  done_holds : (c : ContextAt) → HoldsThen (finish_context c)
  done_holds c value room h =
      by_stands room (finish_context c value room) h (done_keeps id room.hub.moment room.calls room.hub.contexts.calls (pend id room) c value room (itself room)) (done_spared (line_of id) c value room (free room h))
      (done_says (line_of id) c value room h.clear)

  deletes_holds : (c : ContextAt) → HoldsThen (delete_context c)
  deletes_holds c value room h =
      by_stands room (delete_context c value room) h (deletes_keeps id room.hub.moment room.calls room.hub.contexts.calls (pend id room) c value room (itself room)) (deletes_spared (line_of id) c value room (free room h))
      (deletes_says (line_of id) c value room h.clear)

  drops_holds : (vm e : ℕ) → HoldsThen (drop_answer vm e)
  drops_holds vm e value room h =
      by_stands room (drop_answer vm e value room) h (answer_keeps_none id room.hub.moment room.calls room.hub.contexts.calls (pend id room) vm e value room (itself room))
      (drops_answer_spared (line_of id) vm e value room (free room h)) refl

  acts_holds : (a : Asked) → (a.line == line_of id) ≡ false → HoldsThen (apply_stage_action a)
  acts_holds a away value room h =
      by_stands room (apply_stage_action a value room) h (acts_on_keeps id room.hub.moment room.calls room.hub.contexts.calls (pend id room) a value room (itself room))
      (acts_spared (line_of id) a away value room (free room h)) (acts_says (line_of id) a value room h.clear)

  tells_holds : (vm : ℕ) (name : Callback) (context first : ℕ) (host : H) (room : Room) → IsGood host → Room_holds room → Keeps (tells calling vm name context first host room)
  tells_holds vm name context first host room good h = live_holds vm name context first 0 nothing_more host room (λ value room h. h) good h

  -- ---- a move

  moved_holds : (o : Option Asked) (host : H) (room : Room) → ((a : Asked) → o ≡ Some a → (a.line == line_of id) ≡ false) → IsGood host → Room_holds room → Keeps (moved calling o host room)
  moved_holds None host room away good h = (good, h)
  moved_holds (Some a) host room away good h =
      all_then (λ (r : Answered H). Held r.both) Held
      (called_in calling a.vm (callback_of a.response a.ask.kind) a.context a.count (number_of a.ask.end) (owns.Stage a.context a.response) host room) (λ b. ends (continue_with (apply_stage_action a) b))
      (called_holds a.vm (callback_of a.response a.ask.kind) a.context a.count (number_of a.ask.end) (owns.Stage a.context a.response) host room good h)
      (λ r held. (held.0, acts_holds a (away a refl) r.value r.both.room held.1))

  moves_holds : (host : H) (room : Room) (r : Option Asked × List Line × Hub) → InThird (HasCalls room.hub.contexts.calls) room.hub.moment r → AsksBeside (line_of id) room r
      → sent_on (line_of id) r.2.sent ≡ sent_on (line_of id) room.hub.sent → IsGood host → Room_holds room → Keeps (moved_with calling host room r)
  moves_holds host room (a, lines, hub) in_it beside says good h =
      moved_holds a host (with_lines room (lines, hub)) beside.away good
      (by_stands room (with_lines room (lines, hub)) h (to_lines id room.hub.moment room.calls room.hub.contexts.calls (pend id room) room (lines, hub) (itself room) in_it) beside.spared says)

  -- ---- jobs

  made_holds : (host : H) (r : Option NewContext × Room) → IsGood host → Room_holds r.1 → Keeps (made_with calling host r)
  made_holds host (None, mid) good h = (good, h)
  made_holds host (Some c, mid) good h = tells_holds c.vm callbacks.ContextCreate c.context c.root host mid good h

  ticks_holds : (vm root : ℕ) (host : H) (r : Bool × Room) → IsGood host → Room_holds r.1 → Keeps (ticks_with calling vm root host r)
  ticks_holds vm root host (due, mid) good h =
      of_if Keeps due (tells calling vm callbacks.Tick root 0 host mid) (ends (both host mid)) (λ is. tells_holds vm callbacks.Tick root 0 host mid good h) (λ is. (good, h))

  ready_holds : (vm root queue : ℕ) (host : H) (room : Room) → IsGood host → Room_holds room → Keeps (tells_ready calling vm root queue host room)
  ready_holds vm root queue host room good h =
      of_if Keeps (may_stream vm root room.hub.contexts) (tells calling vm callbacks.QueueReady root queue host room) (ends (both host room))
      (λ is. tells_holds vm callbacks.QueueReady root queue host room good h) (λ is. (good, h))

  notices_holds : (vm left : ℕ) (host : H) (room : Room) → IsGood host → Room_holds room → Keeps (notice_step plan vm left host room)
  notices_holds vm left host room good h =
      of_if Keeps ((left == 0 || is_dead vm room) || not (nat_lt vm plan.vms)) _ _ (λ is. (good, h))
      (λ is. λ reply. (
        good,
        by_stands room (take_notice_reply vm left reply room) h (to_notice id room.hub.moment room.calls room.hub.contexts.calls (pend id room) vm left reply room (itself room))
            (noticed_spared (line_of id) vm left reply room (free room h)) (noticed_says (line_of id) vm left reply room),
      ))

  -- ---- callouts

  reads_call_holds : (n : ℕ) (o : Option Callout) (host : H) (room : Room) → callout_in n room.calls ≡ o → IsGood host → Room_holds room → Keeps (reads_call n o host room)
  reads_call_holds n None host room is good h = (good, h)
  reads_call_holds n (Some c) host room is good h = λ t heard. (good, hears_holds id past n c t room is h)

  tells_call_holds : (a : Option CallAnswer) (c : Callout) (host : H) (room : Room) → IsGood host → Room_holds room → Keeps (tells_call calling a c host room)
  tells_call_holds a c host room good h =
      let mid : Room = put_call_answer a c.vm c.context room in
      let told : Course (Both H) = calls_live calling c.vm callbacks.CallAnswered c.context c.id 0 (drop_answer c.vm c.context) host mid in
      of_if Keeps (has_listener c room) told (ends (both host room))
      (λ is. live_holds c.vm callbacks.CallAnswered c.context c.id 0 (drop_answer c.vm c.context) host mid (drops_holds c.vm c.context) good
      (by_stands room mid h (to_answer id room.hub.moment room.calls room.hub.contexts.calls (pend id room) a c.vm c.context room (itself room)) (answer_spared (line_of id) a c.vm c.context room (free room h)) refl))
      (λ is. (good, h))

  ends_call_holds : (is_answered : Bool) (n : ℕ) (o : Option Callout) (host : H) (room : Room) → callout_in n room.calls ≡ o → IsGood host → Room_holds room → Keeps (ends_call calling is_answered n o host room)
  ends_call_holds is_answered n None host room is good h = (good, h)
  ends_call_holds is_answered n (Some c) host room is good h = tells_call_holds (answer_if is_answered c) c host (close_call n room) good (close_holds id past n c room is h)

  works_call_holds : (s : CallStep) (host : H) (room : Room) → IsGood host → Room_holds room → Keeps (works_call calling s host room)
  works_call_holds (steps.Comes w) host room good h = (good, comes_holds id past w room h)
  works_call_holds (steps.Read n) host room good h = reads_call_holds n (callout_in n room.calls) host room refl good h
  works_call_holds (steps.Fail n) host room good h = ends_call_holds false n (callout_in n room.calls) host room refl good h
  works_call_holds (steps.Answer n) host room good h = ends_call_holds true n (callout_in n room.calls) host room refl good h

  works_other_holds : (s : OtherStep) (host : H) (room : Room) → IsGood host → Room_holds room → Keeps (works_other calling s host room)
  works_other_holds (others.Call s) host room good h = works_call_holds s host room good h
  works_other_holds (others.Tcp s) host room good h = (good, h)

  quiet_holds : (job : Job) (host : H) (room : Room) → is_work_of (line_of id) room job ≡ false → IsGood host → Room_holds room → Held (both host (run_silent_job job room))
  quiet_holds job host room other good h = (
    good,
    by_stands room (run_silent_job job room) h (to_quietly id room.hub.moment room.calls room.hub.contexts.calls (pend id room) job room (itself room))
        (quietly_spared (line_of id) job room other (free room h)) (quietly_says (line_of id) job room other h.clear),
  )

  works_holds : (job : Job) (host : H) (room : Room) → is_work_of (line_of id) room job ≡ false → IsGood host → Room_holds room → Keeps (works calling plan job host room)
  works_holds (jobs.Root vm plugin first) host room other good h =
      made_holds host (create_root vm plugin first room) good
      (by_stands room (create_root vm plugin first room).1 h (to_root id room.hub.moment room.calls room.hub.contexts.calls (pend id room) vm plugin first room (itself room))
      (rooting_spared (line_of id) vm plugin first room (free room h)) (root_says (line_of id) vm plugin first room h.clear))
  works_holds (jobs.Create number k) host room other good h =
      made_holds host (create_context number k room) good
      (by_stands room (create_context number k room).1 h (to_stream id room.hub.moment room.calls room.hub.contexts.calls (pend id room) number k room (itself room))
      (creating_spared (line_of id) number k room other (free room h)) (stream_says (line_of id) number k room h.clear))
  works_holds (jobs.Tick vm root) host room other good h =
      ticks_holds vm root host (tick_root vm root room) good
      (by_stands room (tick_root vm root room).1 h (to_tick id room.hub.moment room.calls room.hub.contexts.calls (pend id room) vm root room (itself room))
      (ticked_spared (line_of id) vm root room (free room h)) (ticked_says (line_of id) vm root room))
  works_holds (jobs.Notice vm left) host room other good h = notices_holds vm left host room good h
  works_holds (jobs.Ready vm root queue) host room other good h = ready_holds vm root queue host room good h
  works_holds (jobs.Other s) host room other good h = works_other_holds s host room good h
  works_holds (jobs.Begin vm) host room other good h = tells_holds vm callbacks.Begin 0 0 host room good h
  works_holds (jobs.Start vm root) host room other good h =
      live_holds vm callbacks.VmStart root (vm_length vm room.hub.contexts) 0 (unless_zero vm deaths.Start) host room (zero_holds vm deaths.Start) good h
  works_holds (jobs.Configure vm root plugin) host room other good h =
      live_holds vm callbacks.Configure root (plugin_length plugin room.hub.contexts) 0 (unless_zero vm deaths.Configure) host room (zero_holds vm deaths.Configure) good h
  works_holds (jobs.Done c) host room other good h = live_holds c.vm callbacks.Done c.context 0 0 (finish_context c) host room (done_holds c) good h
  works_holds (jobs.Log c) host room other good h = tells_holds c.vm callbacks.Log c.context 0 host room good h
  works_holds (jobs.Delete c) host room other good h = live_holds c.vm callbacks.Delete c.context 0 0 (delete_context c) host room (deletes_holds c) good h
  works_holds jobs.Expire host room other good h = quiet_holds jobs.Expire host room other good h
  works_holds (jobs.Happen w) host room other good h = quiet_holds (jobs.Happen w) host room other good h
  works_holds (jobs.Enter number) host room other good h = quiet_holds (jobs.Enter number) host room other good h
  works_holds (jobs.Put number response list) host room other good h = quiet_holds (jobs.Put number response list) host room other good h
  works_holds (jobs.Refuse number status) host room other good h = quiet_holds (jobs.Refuse number status) host room other good h
  works_holds (jobs.Close number stays) host room other good h = quiet_holds (jobs.Close number stays) host room other good h

  first_holds : (js : List Job) (host : H) (room : Room) → is_first_of (line_of id) room js ≡ false → IsGood host → Room_holds room → Keeps (works_first calling plan js host room)
  first_holds [] host room other good h = (good, h)
  first_holds (job ∷ later) host room other good h =
      works_holds job host (record room { jobs = later }) (work_in calling logs plan (line_of id) room later job other) good
      (still_holds id past room (record room { jobs = later }) h refl refl refl refl)

  -- ---- a reading

  reads_holds : (o : Option ReadBatch) (host : H) (room : Room) → is_read_of (line_of id) o ≡ false → IsGood host → Room_holds room → Keeps (reads_next plan o host room)
  reads_holds None host room other good h = (good, h)
  reads_holds (Some r) host room other good h = by_reading (reading_on r room)
    where
      by_reading : (o : Option Reading) → Keeps (reads_in plan r o host room)
      by_reading None = (good, still_holds id past room (record room { reading = None }) h refl refl refl refl)
      by_reading (Some reading) = λ t heard. (
        good,
        by_stands room (after_heard plan r t (record room { reading = None })) h
            (to_heard id room.hub.moment room.calls room.hub.contexts.calls (pend id room) plan r t (record room { reading = None }) (itself room))
            (heard_spared (line_of id) plan r t room other (free room h)) (heard_says (line_of id) plan r t room other),
      )

  -- ---- EACH STEP

  begins_holds : (todo : List Job) (room : Room) → Room_holds room → Room_holds (begin_first_job todo room)
  begins_holds [] room h = h
  begins_holds (job ∷ later) room h = still_holds id past room (begin_first_job (job ∷ later) room) h refl refl refl refl

  step_at : (nx : Next) (host : H) (room : Room) → is_step_of (line_of id) nx room ≡ false → IsGood host → Room_holds room → Keeps (step calling plan nx host room)
  step_at next.Read host room other good h = reads_holds room.reading host room other good h
  step_at (next.Move place) host room other good h =
      moves_holds host room (asks_at place (slice_get room.lines place) room.lines room.hub)
      (in_asks_at (HasCalls room.hub.contexts.calls) (has_calls room.hub.contexts.calls) room.hub.moment place (slice_get room.lines place) room.lines room.hub (refl, refl))
      (asks_beside (line_of id) place room other (free room h)) (asks_says (line_of id) place room h.clear) good h
  step_at next.Work host room other good h = first_holds room.jobs host room other good h
  step_at (next.Free at) host room other good h = (
    good,
    by_stands room (release at room) h (to_frees id room.hub.moment room.calls room.hub.contexts.calls (pend id room) at (slice_get room.waits at) room (itself room)) (frees_spared (line_of id) at room (free room h))
        (by_wait (slice_get room.waits at)),
  )
    where
      by_wait : (o : Option ContextAt) → Says (line_of id) room (release_at at o room)
      by_wait None = refl
      by_wait (Some c) = refl
  step_at (next.End place) host room other good h = (
    good,
    by_stands room (end_at place room) h (to_ends_at id room.hub.moment room.calls room.hub.contexts.calls (pend id room) place room (itself room)) (ends_spared (line_of id) place room other (free room h))
        (ends_says (line_of id) place room h.clear),
  )
  step_at next.Begin host room other good h = (good, begins_holds room.agenda room h)
  step_at next.Rest host room other good h = (good, h)

  pub step_holds : (host : H) (room : Room) → is_step_of (line_of id) (next_of room) room ≡ false → IsGood host → Room_holds room → Keeps (step calling plan (next_of room) host room)
  step_holds host room other good h = step_at (next_of room) host room other good h
