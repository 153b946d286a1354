-- WHAT IS DONE ABOUT CALLOUTS leaves less to do.
use Rattle.std.proofs.Common.{◌≡◌, ℕ, suc, ◌+◌, ◌≤◌, Bool, true, false, List, [], ◌∷◌, ◌++◌, length, refl, sym, ap, ◌∙◌, subst, ◌<◌, ◌-◌, arith}
use Rattle.std.specs.Prelude.{Option, None, Some, ◌==◌, cond}
use Rattle.std.proofs.lemmas.Bool.{eqb-true}
use Rattle.std.proofs.lemmas.List.{length-append}
use Rattle.callouts.specs.Callouts.{first_line, callout_in, callout_at, on_callout, without, comes_of, Coming, reads, fails, nothing, takes, Taken, has, too_long, AfterRead, goes_on, waits, answers, breaks, with_part, after_taken, after_part, after_stop, after_heard, with_reading, is_last, line_in}
use Rattle.callouts.specs.Steps.{after_coming, after_event_of, after_event, after_read}
use Rattle.callouts.specs.declared.types.Callout.{Callout}
use Rattle.callouts.specs.declared.types.CallStep.{CallStep}
use Rattle.callouts.specs.declared.types.CallStep.TheVariants as steps
use Rattle.contexts.specs.declared.parts.CallAnswer.{CallAnswer}
use Rattle.contexts.specs.declared.parts.Contexts.{Contexts}
use Rattle.filter_host.specs.Called.{Called}
use Rattle.filter_host.specs.Course.{Course}
use Rattle.filter_host.specs.Heard.{Heard, hands, halts, Hears}
use Rattle.filter_host.specs.declared.host.Callback.{Callback}
use Rattle.filter_host.specs.declared.host.Callback.TheVariants as callbacks
use Rattle.filter_host.proofs.Holds.{AllEnds}
use Rattle.gate_io.specs.declared.event.What.{What}
use Rattle.gate_io.specs.declared.event.Side.TheVariants.{Down, Up}
use Rattle.gate_io.specs.declared.event.What.TheVariants as whats
use Rattle.h1_model.specs.Messages.{rest, over, refusal}
use Rattle.h1_model.specs.Unread.{Part, head_part, interim_part, piece, trailer_part, Reading, reading_with_bytes, reading_with_end}
use Rattle.store_model.specs.Program.{Program}
use Rattle.worker_model.specs.Room.{Room}
use Rattle.worker_model.specs.Calls.{call_job, with_call_step, take_after, take_call_event, take_call_heard, answer_if, put_call_answer, has_listener, close_call}
use Rattle.worker_model.specs.Steps.{Both, reads_call, drop_answer, tells_call, ends_call, works_call}
use Rattle.law_rest.specs.Left.{bytes_of, call_step_left, calls_left}
use Rattle.law_rest.specs.Readings.{ends_body}
use Rattle.law_rest.proofs.Jobs.{jobs_left-append}
use Rattle.law_rest.proofs.Readings.{uses_bytes, adds_none}
use Rattle.law_rest.proofs.Rooms.{AtMost, at_most_more, contexts_most, sending_most, calls_live_most}
use Rattle.law_rest.proofs.Tests.{of_if}

-- one stands in the place of another
put_left : (calls : List Callout) (id : ℕ) (old c : Callout) → callout_in id calls ≡ Some old → calls_left (on_callout id (λ (d : Callout). c) calls) + length old.reader.unread ≡ calls_left calls + length c.reader.unread
put_left [] id old c is = absurd (cc)
put_left (d ∷ calls) id old c is = by_test (λ there. put_left calls id old c there) (d.id == id) is
  where
    by_test : (callout_in id calls ≡ Some old → calls_left (on_callout id (λ (x : Callout). c) calls) + length old.reader.unread ≡ calls_left calls + length c.reader.unread)
        → (b : Bool) → cond b (Some d) (callout_in id calls) ≡ Some old
        → calls_left (cond b (c ∷ calls) (d ∷ on_callout id (λ (x : Callout). c) calls)) + length old.reader.unread ≡ length d.reader.unread + calls_left calls + length c.reader.unread
    by_test later true here = let e : d ≡ old = cc in let same : length d.reader.unread ≡ length old.reader.unread = ap (λ (x : Callout). length x.reader.unread) e in omega (arith, same)
    by_test later false there = let e = later there in omega arith

-- one is taken out
without_left : (calls : List Callout) (id : ℕ) → calls_left (without id calls) ≤ calls_left calls
without_left [] id = omega arith
without_left (d ∷ calls) id = by_test (d.id == id) (without_left calls id)
  where
    by_test : (b : Bool) → calls_left (without id calls) ≤ calls_left calls → calls_left (cond b calls (d ∷ without id calls)) ≤ length d.reader.unread + calls_left calls
    by_test true less = omega arith
    by_test false less = omega arith

-- the one that was found has that id
found_id : (calls : List Callout) (id : ℕ) (c : Callout) → callout_in id calls ≡ Some c → c.id ≡ id
found_id [] id c is = absurd (cc)
found_id (d ∷ calls) id c is = by_test (λ there. found_id calls id c there) (d.id == id) refl is
  where
    by_test : (callout_in id calls ≡ Some c → c.id ≡ id) → (b : Bool) → (d.id == id) ≡ b → cond b (Some d) (callout_in id calls) ≡ Some c → c.id ≡ id
    by_test later true same here = let e : d ≡ c = cc in sym (ap (λ (x : Callout). x.id) e) ∙ eqb-true d.id id same
    by_test later false other there = later there

found_again : (calls : List Callout) (id : ℕ) (c : Callout) → callout_in id calls ≡ Some c → callout_in c.id calls ≡ Some c
found_again calls id c is = subst (λ (x : ℕ). callout_in x calls ≡ Some c) (sym (found_id calls id c is)) is

-- ---- what is left after a step

-- one is another now, and something comes next for it
put_most : (s m n id : ℕ) (old c : Callout) (room : Room) → callout_in id room.calls ≡ Some old → m + length c.reader.unread ≤ n + length old.reader.unread → AtMost s m room
    → AtMost s n (record room { calls = on_callout id (λ (d : Callout). c) room.calls })
put_most s m n id old c room is less a = record { fit = a.fit; few = omega (arith, a.few, less, put_left room.calls id old c is) }

next_most : (s m : ℕ) (step : CallStep) (room : Room) → AtMost s m room → AtMost s (m + call_step_left step) (with_call_step (Some step) room)
next_most s m step room a = record { fit = a.fit; few = omega (arith, a.few, jobs_left-append s (call_job step ∷ []) room.jobs) }

closes_most : (s m id : ℕ) (room : Room) → AtMost s m room → AtMost s m (close_call id room)
closes_most s m id room a = record { fit = a.fit; few = omega (arith, a.few, without_left room.calls id) }

-- ---- what comes

brings : (what : What) (r : Reading) → (m n : ℕ) (s : ℕ) (c : Callout) (room : Room) → r ≡ c.reader → callout_in c.id room.calls ≡ Some c → m + 2 + length (bytes_of what) ≤ n → AtMost s m room
    → AtMost s n (take_after (after_coming c (comes_of what r) room.calls) room)
brings (whats.Opened line) r m n s c room same is less a = at_most_more s m n room (omega (arith, less)) a
brings (whats.Bytes line Down bytes) r m n s c room same is less a = at_most_more s m n room (omega (arith, less)) a
brings (whats.Bytes line Up bytes) r m n s c room same is less a =
    of_if (λ (x : Coming). AtMost s n (take_after (after_coming c x room.calls) room)) r.ended _ _ (λ e. at_most_more s m n room (omega (arith, less)) a)
    (λ e. at_most_more s (m + length bytes + 2) n _ (omega (arith, less))
    (next_most s (m + length bytes) (steps.Read c.id) _
    (put_most s m (m + length bytes) c.id c (with_reading (reading_with_bytes bytes r) c) room is
    (omega (arith, length-append r.unread bytes, ap (λ (x : Reading). length x.unread) same)) a)))
brings (whats.End line Down) r m n s c room same is less a = at_most_more s m n room (omega (arith, less)) a
brings (whats.End line Up) r m n s c room same is less a =
    of_if (λ (x : Coming). AtMost s n (take_after (after_coming c x room.calls) room)) r.ended _ _ (λ e. at_most_more s m n room (omega (arith, less)) a)
    (λ e. at_most_more s (m + 2) n _ (omega (arith, less))
    (next_most s m (steps.Read c.id) _
    (put_most s m m c.id c (with_reading (reading_with_end r) c) room is (omega (arith, ap (λ (x : Reading). length x.unread) same)) a)))
brings (whats.Gone line Down) r m n s c room same is less a = at_most_more s m n room (omega (arith, less)) a
brings (whats.Gone line Up) r m n s c room same is less a = at_most_more s (m + 1) n _ (omega (arith, less)) (next_most s m (steps.Fail c.id) room a)
brings (whats.Joined line) r m n s c room same is less a = at_most_more s m n room (omega (arith, less)) a
brings (whats.Refused line) r m n s c room same is less a = at_most_more s (m + 1) n _ (omega (arith, less)) (next_most s m (steps.Fail c.id) room a)
brings (whats.Room line side) r m n s c room same is less a = at_most_more s m n room (omega (arith, less)) a
brings whats.Clock r m n s c room same is less a = at_most_more s m n room (omega (arith, less)) a
brings whats.Stop r m n s c room same is less a = at_most_more s m n room (omega (arith, less)) a

came_most : (what : What) (line : Option ℕ) (m n s : ℕ) (room : Room) → m + 2 + length (bytes_of what) ≤ n → AtMost s m room
    → AtMost s n (take_after (after_event_of (callout_at line room.calls) what room.calls) room)
came_most what None m n s room less a = at_most_more s m n room (omega (arith, less)) a
came_most what (Some line) m n s room less a = by_callout (callout_in (line - first_line) room.calls) refl
  where
    by_callout : (o : Option Callout) → callout_in (line - first_line) room.calls ≡ o → AtMost s n (take_after (after_event_of o what room.calls) room)
    by_callout None is = at_most_more s m n room (omega (arith, less)) a
    by_callout (Some c) is = brings what c.reader m n s c room refl (found_again room.calls (line - first_line) c is) less a

-- ---- what is read

not_last : (p : Part) → is_last p ≡ false → ends_body p ≡ false
not_last (head_part h) is = refl
not_last (interim_part h) is = refl
not_last (piece bytes last) is = is
not_last (trailer_part fields) is = absurd (cc)

-- the callout that was read stands there again, with no more unread, and one step comes next
reads_on_most : (s m n id : ℕ) (old c : Callout) (step : CallStep) (room : Room) → callout_in id room.calls ≡ Some old → length c.reader.unread ≤ length old.reader.unread → m + call_step_left step ≤ n
    → AtMost s m room → AtMost s n (with_call_step (Some step) (record room { calls = on_callout id (λ (d : Callout). c) room.calls }))
reads_on_most s m n id old c step room is fewer less a =
    at_most_more s (m + call_step_left step) n _ less (next_most s m step _ (put_most s m m id old c room is (omega (arith, fewer)) a))

heard_most : (s m n id : ℕ) (c : Callout) (room : Room) (h : Heard) → Hears c.reader h → callout_in id room.calls ≡ Some c → m + 1 ≤ n → AtMost s m room → AtMost s n (take_call_heard id c h room)
heard_most s m n id c room (hands p new) heard is less a = by_taken (takes p c.answer)
  where
    by_last : (b : Bool) → is_last p ≡ b → (x : CallAnswer) → AtMost s n (take_after (after_read id (with_part b (record c { reader = new; answer = x })) room.calls) room)
    by_last true last x = reads_on_most s m n id c (record c { reader = new; answer = x }) (steps.Answer id) room is (omega (arith, adds_none c.reader (hands p new) heard)) less a
    by_last false other x = by_less (uses_bytes c.reader (hands p new) heard (not_last p other)) m refl
      where
        by_less : length new.unread < length c.reader.unread → (k : ℕ) → k ≡ m → AtMost s n (take_after (after_read id (goes_on (record c { reader = new; answer = x })) room.calls) room)
        by_less fewer k same = record { fit = a.fit; few = omega (arith, a.few, less, fewer, put_left room.calls id c (record c { reader = new; answer = x }) is, jobs_left-append s (call_job (steps.Read id) ∷ []) room.jobs) }

    by_taken : (t : Taken) → AtMost s n (take_after (after_read id (after_taken (is_last p) (with_reading new c) t) room.calls) room)
    by_taken (has x) = by_last (is_last p) refl x
    by_taken too_long = reads_on_most s m n id c (with_reading new c) (steps.Fail id) room is (omega (arith, adds_none c.reader (hands p new) heard)) less a
heard_most s m n id c room (halts rest new) heard is less a =
    put_most s m n id c (with_reading new c) room is (omega (arith, less, adds_none c.reader (halts rest new) heard)) a
heard_most s m n id c room (halts over new) heard is less a =
    reads_on_most s m n id c (with_reading new c) (steps.Answer id) room is (omega (arith, adds_none c.reader (halts over new) heard)) less a
heard_most s m n id c room (halts (refusal number) new) heard is less a =
    reads_on_most s m n id c (with_reading new c) (steps.Fail id) room is (omega (arith, adds_none c.reader (halts (refusal number) new) heard)) less a

module _ {H : Type 0} (calling : H → ℕ → Callback → ℕ → ℕ → ℕ → ℕ → Contexts → Program (Called H)) (s : ℕ) where
  reads_most : (m n id : ℕ) (host : H) (room : Room) → m + 1 ≤ n → AtMost s m room → AllEnds (λ (b : Both H). AtMost s n b.room) (reads_call id (callout_in id room.calls) host room)
  reads_most m n id host room less a = by_callout (callout_in id room.calls) refl
    where
      by_callout : (o : Option Callout) → callout_in id room.calls ≡ o → AllEnds (λ (b : Both H). AtMost s n b.room) (reads_call id o host room)
      by_callout None is = at_most_more s m n room (omega (arith, less)) a
      by_callout (Some c) is = λ h heard. heard_most s m n id c room h heard is less a

  tells_call_most : (m : ℕ) (x : Option CallAnswer) (c : Callout) (host : H) (room : Room) → AtMost s m room → AllEnds (λ (b : Both H). AtMost s m b.room) (tells_call calling x c host room)
  tells_call_most m x c host room a =
      of_if (λ (k : Course (Both H)). AllEnds (λ (b : Both H). AtMost s m b.room) k) (has_listener c room) _ _
      (λ is. calls_live_most calling s m m c.vm callbacks.CallAnswered c.context c.id 0 (drop_answer c.vm c.context) host _
      (contexts_most s m _ room a) (λ value r here. contexts_most s m _ r here))
      (λ is. a)

  ends_call_most : (m : ℕ) (answered : Bool) (id : ℕ) (o : Option Callout) (host : H) (room : Room) → AtMost s m room → AllEnds (λ (b : Both H). AtMost s m b.room) (ends_call calling answered id o host room)
  ends_call_most m answered id None host room a = a
  ends_call_most m answered id (Some c) host room a = tells_call_most m (answer_if answered c) c host (close_call id room) (closes_most s m id room a)

  pub works_call_most : (m n : ℕ) (step : CallStep) (host : H) (room : Room) → m + call_step_left step ≤ suc n → AtMost s m room
      → AllEnds (λ (b : Both H). AtMost s n b.room) (works_call calling step host room)
  works_call_most m n (steps.Comes what) host room less a = came_most what (line_in what) m n s room (omega (arith, less)) a
  works_call_most m n (steps.Read id) host room less a = reads_most m n id host room (omega (arith, less)) a
  works_call_most m n (steps.Fail id) host room less a = ends_call_most n false id (callout_in id room.calls) host room (at_most_more s m n room (omega (arith, less)) a)
  works_call_most m n (steps.Answer id) host room less a = ends_call_most n true id (callout_in id room.calls) host room (at_most_more s m n room (omega (arith, less)) a)
