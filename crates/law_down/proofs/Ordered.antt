-- Every step keeps the two sides of a line in order.
use Rattle.std.proofs.Common.{◌≡◌, ℕ, zero, suc, ◌==◌, Bool, true, false, List, [], ◌∷◌, ◌++◌, refl, ap, ◌∙◌, sym, subst}
use Rattle.std.proofs.lemmas.List.{append-nil}
use Rattle.std.specs.Prelude.{Option, None, Some, is_some, slice_get, slice_set, remove, position, if◌then◌else◌}
use Rattle.callouts.specs.Callouts.{is_call_line}
use Rattle.filter_host.specs.Called.{Calling}
use Rattle.filter_host.specs.Course.{Course, ends, asks, measures, hears}
use Rattle.filter_host.proofs.Holds.{AllEnds, all_then}
use Rattle.exchange.specs.declared.types.Exchange.{Exchange}
use Rattle.gate_io.specs.declared.event.Sent.{Sent}
use Rattle.gate_io.specs.declared.event.Side.TheVariants.{Up}
use Rattle.gate_io.specs.declared.event.What.{What}
use Rattle.h1_model.specs.Unread.{Reading}
use Rattle.worker_model.specs.Room.{Room}
use Rattle.worker_model.specs.declared.types.ContextAt.{ContextAt}
use Rattle.worker_model.specs.declared.types.Job.{Job}
use Rattle.worker_model.specs.declared.types.Job.TheVariants as jobs
use Rattle.worker_model.specs.declared.types.Line.{Line}
use Rattle.worker_model.specs.declared.types.Next.TheVariants as next
use Rattle.worker_model.specs.declared.types.ReadBatch.{ReadBatch}
use Rattle.worker_model.specs.Moves.{ended_at, ended_back, ended_in}
use Rattle.worker_model.specs.Plan.{Plan}
use Rattle.worker_model.specs.Rooms as rooms
use Rattle.worker_model.specs.Rooms.{next_of, next_part, has_move, moves_or, frees_or, ends_or, begins_or_rests, is_any, is_released}
use Rattle.worker_model.specs.Settling.{settling, settling_none, settling_rest, settling_step, is_rest}
use Rattle.worker_model.specs.Steps.{Both, step, works, works_first, release, release_at, last_jobs, begin_first_job, close_up, done_jobs, end_with, end_at}
use Rattle.law_lines.specs.Logs.{WriteLogs}
use Rattle.law_lines.proofs.Calls.{move_calm, works_calm, IsCalm}
use Rattle.law_lines.proofs.Ending.{done_free}
use Rattle.law_lines.proofs.Finding.{Seeks, missing, first as stands_first, seeks, IsOnce, set_other, only_found, set_once, set_there}
use Rattle.law_lines.proofs.Looks.{is_n, look, beside_itself}
use Rattle.law_lines.proofs.Rooms.{IsFree, AllFree, Calm}
use Rattle.law_lines.proofs.Stepping.{found_passes}
use Rattle.law_lines.proofs.Story.{Phase, Stands, LineOk, Known}
use Rattle.law_down.specs.InOrder.{State, shut, stands, lost, closes, and_then, state_after, has_up, lost_or_shut, state_in}
use Rattle.law_down.proofs.Under.{Closing, Under}
use Rattle.law_down.proofs.Calmly.{free_closing}
use Rattle.law_down.proofs.Stepping.{Whole, step_whole}
use Rattle.law_down.proofs.Quietly.{adds_none}
use Rattle.law_down.proofs.Goings.{happening, happens_in, happens_join, GoesAll, move_goes, works_goes}
use Rattle.law_down.proofs.Gone.{GoneEx, GoneOk, Change, still, sends_so, Plain, Step, plainly, faces, step_gone, Turning, turning_step, calm_step}
use Rattle.law_down.proofs.Orderly.{aside_step, gone_ended, enter_step, put_step, refuse_step, close_step}
use Rattle.law_down.proofs.Listening.{reading_step}
use Rattle.law_down.proofs.Facing.{happens_step}

-- ---- an exchange ends

free_happens : (js : List Job) → AllFree js → happens_in js ≡ []
free_happens [] free = refl
free_happens (job ∷ later) free = λ i. one job free.0 i ++ free_happens later free.1 i
  where
    one : (job : Job) → IsFree job → happening job ≡ []
    one (jobs.Happen w) is = absurd is
    one job is = refl

module _ (n : ℕ) where
  close_aside : (k : ℕ) (o : Option Reading) (s : State) → (k == n) ≡ false → state_after n (close_up k o) s ≡ Some s
  close_aside k None s other = refl
  close_aside k (Some r) s other = ap (λ (b : Bool). and_then (state_after n []) (if b then closes Up s else Some s)) other

  close_so : (k : ℕ) (g : Bool) (o : Option Reading) → (k == n) ≡ true → state_after n (close_up k o) (if g then lost_or_shut (is_some o) else stands (is_some o)) ≡ Some (if g then shut else stands false)
  close_so k true None here = refl
  close_so k false None here = refl
  close_so k true (Some r) here = ap (λ (b : Bool). and_then (state_after n []) (if b then Some shut else Some lost)) here
  close_so k false (Some r) here = ap (λ (b : Bool). and_then (state_after n []) (if b then Some (stands false) else Some (stands true))) here

  end_step : (place : ℕ) (room : Room) → IsOnce (is_n n) room.lines → room.jobs ≡ [] → position rooms.is_over room.lines ≡ Some place → GoneOk n room.jobs (look n room.lines) → Plain n room.jobs room (end_at place room)
  end_step place room once jobless at ok = by_seek (seeks rooms.is_over room.lines)
    where
      none_closing : Closing n room.jobs → ⊥
      none_closing c = subst (Closing n) jobless c

      by_line : (l : Line) → slice_get room.lines place ≡ Some l → rooms.is_over l ≡ true → Plain n room.jobs room (end_at place room)
      by_line l there over = subst (λ (o : Option Line). Plain n room.jobs room (end_with room (ended_at place o room.lines))) (sym there) (by_exchange l.exchange refl)
        where
          by_exchange : (o : Option Exchange) → l.exchange ≡ o → Plain n room.jobs room (end_with room (ended_back place room.lines (ended_in l o)))
          by_exchange None none = let never : ◌≡◌ {A = Bool} false true = ap rooms.exchange_ends (sym none) ∙ over in absurd (cc)
          by_exchange (Some x) some = record {
            change = sends_so (close_up l.number x.reader) refl (by_test (l.number == n) refl).0;
            gone = (by_test (l.number == n) refl).1;
            due = λ i. sym no_events i ++ happens_in room.agenda;
          }
            where
              no_events : happens_in ((done_jobs x.filters ++ jobs.Close l.number x.stays ∷ []) ++ room.jobs) ≡ happens_in room.jobs
              no_events =
                  happens_join (done_jobs x.filters ++ jobs.Close l.number x.stays ∷ []) room.jobs
                  ∙ ap (λ t. t ++ happens_in room.jobs) (happens_join (done_jobs x.filters) (jobs.Close l.number x.stays ∷ []) ∙ ap (λ t. t ++ []) (free_happens (done_jobs x.filters) (done_free x.filters)))

              set_so : IsOnce (is_n n) (slice_set room.lines place (record l { exchange = None }))
              set_so = set_once (is_n n) room.lines place l (record l { exchange = None }) once there refl

              by_test : (b : Bool) → (l.number == n) ≡ b
                  → (state_after n (close_up l.number x.reader) (state_in (look n room.lines)) ≡ Some (state_in (look n (slice_set room.lines place (record l { exchange = None })))))
                  × GoneOk n ((done_jobs x.filters ++ jobs.Close l.number x.stays ∷ []) ++ room.jobs) (look n (slice_set room.lines place (record l { exchange = None })))
              by_test false other =
                  let same : look n (slice_set room.lines place (record l { exchange = None })) ≡ look n room.lines = set_other (is_n n) room.lines place l (record l { exchange = None }) there other other in (
                    close_aside l.number x.reader (state_in (look n room.lines)) other ∙ ap (λ (o : Option Line). Some (state_in o)) (sym same),
                    subst (GoneOk n ((done_jobs x.filters ++ jobs.Close l.number x.stays ∷ []) ++ room.jobs)) (sym same) (gone_ended n room.jobs ((done_jobs x.filters ++ jobs.Close l.number x.stays ∷ []) ++ room.jobs) (look n room.lines) none_closing ok),
                  )
              by_test true here =
                  let before : look n room.lines ≡ Some l = only_found (is_n n) room.lines place l once there here in
                  let behind : look n (slice_set room.lines place (record l { exchange = None })) ≡ Some (record l { exchange = None })
                  = only_found (is_n n) (slice_set room.lines place (record l { exchange = None })) place (record l { exchange = None }) set_so (set_there room.lines place l (record l { exchange = None }) there) here in (
                    ap (λ (o : Option Line). state_after n (close_up l.number x.reader) (state_in o)) before
                        ∙ ((λ i. state_after n (close_up l.number x.reader) (if l.is_gone then lost_or_shut (has_up (some i)) else stands (has_up (some i))))
                        ∙ (close_so l.number l.is_gone x.reader here ∙ ap (λ (o : Option Line). Some (state_in o)) (sym behind))),
                    subst (GoneOk n ((done_jobs x.filters ++ jobs.Close l.number x.stays ∷ []) ++ room.jobs)) (sym behind)
                        (λ gone. subst (Closing n) (sym (ap (λ (js : List Job). (done_jobs x.filters ++ jobs.Close l.number x.stays ∷ []) ++ js) jobless ∙ append-nil (done_jobs x.filters ++ jobs.Close l.number x.stays ∷ [])))
                        (free_closing n (done_jobs x.filters) (jobs.Close l.number x.stays ∷ []) (done_free x.filters)
                        (here, (subst (GoneEx n room.jobs) some (subst (GoneOk n room.jobs) before ok gone)).1))),
                  )

      by_seek : Seeks rooms.is_over room.lines → Plain n room.jobs room (end_at place room)
      by_seek (missing absent none) = let e : ◌≡◌ {A = Option ℕ} None (Some place) = sym absent ∙ at in absurd (cc)
      by_seek (stands_first j l found there passes seen) =
          let same : Some j ≡ Some place = sym found ∙ at in
          let is : j ≡ place = cc in
          by_line l (subst (λ (i : ℕ). slice_get room.lines i ≡ Some l) is there) passes

-- ---- a job that was in hand

popped : (n : ℕ) (face : State → State) (room : Room) (js : List Job) (later : Room) → Change n face (record room { jobs = js }) later → Change n face room later
popped n face room js later (still same gone adds away) = still same gone adds away
popped n face room js later (sends_so more adds so) = sends_so more adds so

pop_step : (n : ℕ) (room : Room) (js ks : List Job) (later : Room) → Step n ks (record room { jobs = js }) later → Step n ks room later
pop_step n room js ks later (plainly p) = plainly (record { change = popped n _ room js later p.change; gone = p.gone; due = p.due })
pop_step n room js ks later (faces w change gone due) = faces w (popped n _ room js later change) gone due

calm_none : (job : Job) → IsCalm job → happening job ≡ []
calm_none (jobs.Happen w) is = absurd is
calm_none job is = refl

calm_pop : (n : ℕ) (job : Job) (later : List Job) → IsCalm job → Closing n (job ∷ later) → Closing n later
calm_pop n (jobs.Close m stays) later is c = absurd is
calm_pop n job later is c = c.1

module _ {H : Type 0} (calling : Calling H) (logs : WriteLogs calling) (plan : Plan) (past : List Sent) (n : ℕ) (low : is_call_line n ≡ false) where
  all_weaken : (P Q : Both H → Type 0) → ((b : Both H) → P b → Q b) → (p : Course (Both H)) → AllEnds P p → AllEnds Q p
  all_weaken P Q f (ends b) all = f b all
  all_weaken P Q f (asks vm call k) all = λ r. all_weaken P Q f (k r) (all r)
  all_weaken P Q f (measures vm call k) all = λ r. all_weaken P Q f (k r) (all r)
  all_weaken P Q f (hears t k) all = λ h says. all_weaken P Q f (k h) (all h says)

  calm_steps : (js : List Job) (mid : Room) → (Closing n js → Closing n mid.jobs) → happens_in js ≡ happens_in mid.jobs → GoneOk n js (look n mid.lines) → (p : Course (Both H)) → AllEnds (λ (b : Both H). Calm n mid b.room) p → GoesAll mid p
      → AllEnds (λ (b : Both H). Step n js mid b.room) p
  calm_steps js mid pops same ok (ends b) calm goes = plainly (calm_step n js mid b.room calm goes (λ c. subst (Closing n) (sym calm.jobs) (free_closing n calm.front mid.jobs calm.free (pops c))) same ok)
  calm_steps js mid pops same ok (asks vm call k) calm goes = λ r. calm_steps js mid pops same ok (k r) (calm r) (goes r)
  calm_steps js mid pops same ok (measures vm call k) calm goes = λ r. calm_steps js mid pops same ok (k r) (calm r) (goes r)
  calm_steps js mid pops same ok (hears t k) calm goes = λ h says. calm_steps js mid pops same ok (k h) (calm h says) (goes h says)

  module _ (host : H) (room : Room) (k : Known plan n past room) (u : Under plan n past room) (ok : GoneOk n room.jobs (look n room.lines)) where
    abbrev Takes : Course (Both H) → Type 0
    Takes course = AllEnds (λ (b : Both H). Step n room.jobs room b.room) course

    job_step : (job : Job) (later : List Job) → room.jobs ≡ job ∷ later → room.reading ≡ None → Takes (works calling plan job host (record room { jobs = later }))
    job_step job later js quiet =
        subst (λ (ks : List Job). AllEnds (λ (b : Both H). Step n ks room b.room) (works calling plan job host (record room { jobs = later }))) (sym js)
        (all_weaken (λ (b : Both H). Step n (job ∷ later) (record room { jobs = later }) b.room) (λ (b : Both H). Step n (job ∷ later) room b.room) (λ b s. pop_step n room later (job ∷ later) b.room s) (works calling plan job host (record room { jobs = later }))
        (by_job job (subst (λ (ks : List Job). GoneOk n ks (look n room.lines)) js ok) (subst (Phase room.lines) js k.phase) (subst Stands js k.stands)
        (subst (λ (r : Option ReadBatch). LineOk plan n past r (job ∷ later) room.lines (look n room.lines) room.hub) quiet (subst (λ ks. LineOk plan n past room.reading ks room.lines (look n room.lines) room.hub) js k.line))))
      where
        calm : (j : Job) → IsCalm j → GoneOk n (j ∷ later) (look n room.lines) → AllEnds (λ (b : Both H). Step n (j ∷ later) (record room { jobs = later }) b.room) (works calling plan j host (record room { jobs = later }))
        calm j is o =
            calm_steps (j ∷ later) (record room { jobs = later }) (calm_pop n j later is) (ap (λ l. l ++ happens_in later) (calm_none j is)) o (works calling plan j host (record room { jobs = later }))
            (works_calm calling logs n low plan j host (record room { jobs = later }) is k.once) (works_goes calling logs plan j host (record room { jobs = later }) is)

        by_job : (j : Job) → GoneOk n (j ∷ later) (look n room.lines) → Phase room.lines (j ∷ later) → Stands (j ∷ later) → LineOk plan n past None (j ∷ later) room.lines (look n room.lines) room.hub
            → AllEnds (λ (b : Both H). Step n (j ∷ later) (record room { jobs = later }) b.room) (works calling plan j host (record room { jobs = later }))
        by_job (jobs.Begin vm) o f s l = calm (jobs.Begin vm) tt o
        by_job (jobs.Root vm plugin is_first) o f s l = calm (jobs.Root vm plugin is_first) tt o
        by_job (jobs.Start vm root) o f s l = calm (jobs.Start vm root) tt o
        by_job (jobs.Configure vm root plugin) o f s l = calm (jobs.Configure vm root plugin) tt o
        by_job (jobs.Tick vm root) o f s l = calm (jobs.Tick vm root) tt o
        by_job jobs.Expire o f s l = calm jobs.Expire tt o
        by_job (jobs.Happen v) o f s l = happens_step n v (record room { jobs = later }) k.once s f.0 o v refl
        by_job (jobs.Create number at) o f s l = calm (jobs.Create number at) tt o
        by_job (jobs.Enter number) o f s l = plainly (enter_step n (record room { jobs = later }) k.once number o)
        by_job (jobs.Put number response items) o f s l = plainly (put_step n (record room { jobs = later }) k.once number response items o)
        by_job (jobs.Refuse number status) o f s l = plainly (refuse_step n (record room { jobs = later }) k.once number status o)
        by_job (jobs.Done c) o f s l = calm (jobs.Done c) tt o
        by_job (jobs.Log c) o f s l = calm (jobs.Log c) tt o
        by_job (jobs.Delete c) o f s l = calm (jobs.Delete c) tt o
        by_job (jobs.Close number stays) o f s l = plainly (close_step n (record room { jobs = later }) k.once plan past number stays l o)
        by_job (jobs.Notice vm left) o f s l = calm (jobs.Notice vm left) tt o
        by_job (jobs.Ready vm root queue) o f s l = calm (jobs.Ready vm root queue) tt o
        by_job (jobs.Other step) o f s l = calm (jobs.Other step) tt o

    none_closing : room.jobs ≡ [] → Closing n room.jobs → ⊥
    none_closing jobless c = subst (Closing n) jobless c

    as_is : Step n room.jobs room room
    as_is = plainly (aside_step n room.jobs room room refl (adds_none room.hub) (beside_itself n room.hub) ok refl)

    frees_step : (at : ℕ) → room.jobs ≡ [] → Step n room.jobs room (release at room)
    frees_step at jobless = by_wait (slice_get room.waits at)
      where
        by_wait : (o : Option ContextAt) → Step n room.jobs room (release_at at o room)
        by_wait None = as_is
        by_wait (Some c) =
            plainly (aside_step n room.jobs room (record room { jobs = last_jobs c ++ room.jobs; waits = remove room.waits at }) refl (adds_none room.hub) (beside_itself n room.hub)
            (gone_ended n room.jobs (last_jobs c ++ room.jobs) (look n room.lines) (none_closing jobless) ok) refl)

    begins_step : (job : Job) (later : List Job) → room.agenda ≡ job ∷ later → room.jobs ≡ [] → Step n room.jobs room (record room { jobs = job ∷ []; agenda = later })
    begins_step job later agenda jobless =
        plainly (aside_step n room.jobs room (record room { jobs = job ∷ []; agenda = later }) refl (adds_none room.hub) (beside_itself n room.hub) (gone_ended n room.jobs (job ∷ []) (look n room.lines) (none_closing jobless) ok)
        ((λ i. happens_in (jobless i) ++ happens_in (agenda i)) ∙ ap (λ l. l ++ happens_in later) (sym (append-nil (happening job)))))

    -- EACH STEP
    pub step_orders : Takes (step calling plan (next_of room) host room)
    step_orders = by_reading room.reading refl
      where
        by_agenda : room.jobs ≡ [] → (a : List Job) → room.agenda ≡ a → Takes (step calling plan (begins_or_rests a) host room)
        by_agenda jobless [] is = as_is
        by_agenda jobless (job ∷ later) is = subst (λ (l : List Job). Step n room.jobs room (begin_first_job l room)) (sym is) (begins_step job later is jobless)

        by_over : room.jobs ≡ [] → (o : Option ℕ) → position rooms.is_over room.lines ≡ o → Takes (step calling plan (ends_or o (begins_or_rests room.agenda)) host room)
        by_over jobless None is = by_agenda jobless room.agenda refl
        by_over jobless (Some place) is = plainly (end_step n place room k.once jobless is ok)

        by_waits : room.jobs ≡ [] → (o : Option ℕ) → Takes (step calling plan (frees_or o (ends_or (position rooms.is_over room.lines) (begins_or_rests room.agenda))) host room)
        by_waits jobless None = by_over jobless (position rooms.is_over room.lines) refl
        by_waits jobless (Some at) = frees_step at jobless

        by_jobs : room.reading ≡ None → (js : List Job) → room.jobs ≡ js → Takes (step calling plan (if is_any js then next.Work else next_part room) host room)
        by_jobs quiet [] is = by_waits is (position (is_released room) room.waits)
        by_jobs quiet (job ∷ later) is = subst (λ (l : List Job). Takes (works_first calling plan l host room)) (sym is) (job_step job later is quiet)

        by_moves : room.reading ≡ None → (o : Option ℕ) → position has_move room.lines ≡ o → Takes (step calling plan (moves_or o (if is_any room.jobs then next.Work else next_part room)) host room)
        by_moves quiet None is = by_jobs quiet room.jobs refl
        by_moves quiet (Some place) is =
            calm_steps room.jobs room (λ c. c) refl ok (step calling plan (next.Move place) host room)
            (move_calm calling logs n low place host room k.once (λ l there. found_passes has_move room.lines place l is there)) (move_goes calling logs place host room)

        by_reading : (o : Option ReadBatch) → room.reading ≡ o → Takes (step calling plan (next_of room) host room)
        by_reading None is =
            subst (λ (o : Option ReadBatch). Takes (step calling plan (if is_some o then next.Read else moves_or (position has_move room.lines) (if is_any room.jobs then next.Work else next_part room)) host room)) (sym is)
            (by_moves is (position has_move room.lines) refl)
        by_reading (Some r) is =
            subst (λ (o : Option ReadBatch). Takes (step calling plan (if is_some o then next.Read else moves_or (position has_move room.lines) (if is_any room.jobs then next.Work else next_part room)) host room)) (sym is)
            (all_weaken (λ (b : Both H). Plain n room.jobs room b.room) (λ (b : Both H). Step n room.jobs room b.room) (λ b p. plainly p) (step calling plan next.Read host room) (reading_step plan n past room host r is k u ok))

  -- ---- the loop

  -- what is known of the line, where the turn began as is said
  abbrev pub Orders : (start : Type 0) (w : What) (from : State) → Room → Type 0
  Orders start w from room = Whole plan past room × GoneOk n room.jobs (look n room.lines) × (start → Turning n w from room)

  module _ (start : Type 0) (w : What) (from : State) where
    both_orders : (room : Room) → Orders start w from room → (p : Course (Both H)) → AllEnds (λ (b : Both H). Whole plan past b.room) p → AllEnds (λ (b : Both H). Step n room.jobs room b.room) p → AllEnds (λ (b : Both H). Orders start w from b.room) p
    both_orders room o (ends b) whole s = (whole, step_gone n room.jobs room b.room s, (λ begun. turning_step plan n low past w from room b.room (o.0.0 n low).0 (whole.0 n low).0 s (o.2 begun)))
    both_orders room o (asks vm call k) whole s = λ r. both_orders room o (k r) (whole r) (s r)
    both_orders room o (measures vm call k) whole s = λ r. both_orders room o (k r) (whole r) (s r)
    both_orders room o (hears t k) whole s = λ h says. both_orders room o (k h) (whole h says) (s h says)

    abbrev OrdersAll : Course (Both H) → Type 0
    OrdersAll course = AllEnds (λ (b : Both H). Orders start w from b.room) course

    pub settling_orders : (k : ℕ) (host : H) (room : Room) → Orders start w from room → OrdersAll (settling calling plan k host room)
    settling_orders zero host room all = subst OrdersAll (sym (settling_none calling plan host room)) all
    settling_orders (suc k) host room all = by_rest (λ h r e. settling_orders k h r e) (is_rest (next_of room)) refl
      where
        by_rest : ((h : H) (r : Room) → Orders start w from r → OrdersAll (settling calling plan k h r)) → (b : Bool) → is_rest (next_of room) ≡ b → OrdersAll (settling calling plan (suc k) host room)
        by_rest go true is = subst OrdersAll (sym (settling_rest calling plan k (next_of room) host room refl is)) all
        by_rest go false is =
            subst OrdersAll (sym (settling_step calling plan k (next_of room) host room refl is))
            (all_then (λ (b : Both H). Orders start w from b.room) (λ (b : Both H). Orders start w from b.room) (step calling plan (next_of room) host room) (λ b. settling calling plan k b.host b.room)
            (both_orders room all (step calling plan (next_of room) host room) (step_whole calling logs plan past host room all.0)
            (step_orders host room (all.0.0 n low).0 (all.0.0 n low).1 all.1)) (λ b e. go b.host b.room e))
