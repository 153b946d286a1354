-- What is known of what went down stays so in each step.
use Rattle.std.proofs.Common.{◌≡◌, ℕ, zero, suc, Bool, true, false, List, [], ◌∷◌, ◌++◌, refl, ap, sym, subst}
use Rattle.callouts.specs.Callouts.{is_call_line}
use Rattle.filter_host.specs.Called.{Calling}
use Rattle.std.specs.Prelude.{Option, None, Some, is_some, slice_get, remove, position, if◌then◌else◌}
use Rattle.filter_host.specs.Course.{Course, ends, asks, measures, hears}
use Rattle.filter_host.proofs.Holds.{AllEnds, all_then}
use Rattle.gate_io.specs.declared.event.Sent.{Sent}
use Rattle.worker_model.specs.Room.{Room}
use Rattle.worker_model.specs.declared.types.ContextAt.{ContextAt}
use Rattle.worker_model.specs.declared.types.Job.{Job}
use Rattle.worker_model.specs.declared.types.Job.TheVariants as jobs
use Rattle.worker_model.specs.declared.types.Next.TheVariants as next
use Rattle.worker_model.specs.declared.types.ReadBatch.{ReadBatch}
use Rattle.worker_model.specs.Plan.{Plan}
use Rattle.worker_model.specs.Rooms as rooms
use Rattle.worker_model.specs.Rooms.{next_of, next_part, has_move, moves_or, frees_or, ends_or, begins_or_rests, is_any, is_released}
use Rattle.worker_model.specs.Settling.{settling, settling_none, settling_rest, settling_step, is_rest}
use Rattle.worker_model.specs.Steps.{Both, step, works, works_first, release, release_at, last_jobs, begin_first_job}
use Rattle.law_lines.specs.Clients.{client_traffic}
use Rattle.law_lines.specs.Logs.{WriteLogs}
use Rattle.law_lines.proofs.Calls.{move_calm, works_calm, IsCalm}
use Rattle.law_lines.proofs.Looks.{look, still_aside, beside_itself}
use Rattle.law_lines.proofs.Rooms.{IsPart, AllParts, Calm}
use Rattle.law_lines.proofs.Stepping.{found_passes, step_keeps}
use Rattle.law_lines.proofs.Story.{Phase, LineOk, Known}
use Rattle.law_lines.proofs.Unused.{reads_clients}
use Rattle.law_down.proofs.Callouts.{CallsSilent, silent_unused, steps_silent}
use Rattle.law_down.proofs.Under.{back_of, BackReads, LineUnder, held_on, Under, Alike, under_alike}
use Rattle.law_down.proofs.Calmly.{HasUps, line_ups, calm_under}
use Rattle.law_down.proofs.Works.{enter_under, request_under, response_under}
use Rattle.law_down.proofs.Closes.{refuse_under, close_under}
use Rattle.law_down.proofs.Happens.{happens_under}
use Rattle.law_down.proofs.Reading.{reading_under}
use Rattle.law_down.proofs.Ending.{end_under}

-- a calm job that was in hand
alike_pop : (n : ℕ) (job : Job) (later : List Job) → IsCalm job → Alike n None (job ∷ later) None later
alike_pop n (jobs.Happen w) later is = absurd is
alike_pop n (jobs.Enter m) later is = absurd is
alike_pop n (jobs.Put m response items) later is = absurd is
alike_pop n (jobs.Refuse m status) later is = absurd is
alike_pop n (jobs.Close m stays) later is = absurd is
alike_pop n job later is = record { waits = refl; ends = λ c. c.1 }

part_backs : (n : ℕ) (job : Job) → IsPart job → back_of n job ≡ []
part_backs n (jobs.Put m response items) is = absurd is
part_backs n job is = refl

-- what is known of each line of a client, and that nothing goes down on one of a callout
abbrev pub Whole : Plan → List Sent → Room → Type 0
Whole plan past room = ((n : ℕ) → is_call_line n ≡ false → Known plan n past room × Under plan n past room) × CallsSilent past room

module _ {H : Type 0} (calling : Calling H) (logs : WriteLogs calling) (plan : Plan) (past : List Sent) where
  abbrev pub Leaves : ℕ → Course (Both H) → Type 0
  Leaves n course = AllEnds (λ (b : Both H). Under plan n past b.room) course

  module _ (host : H) (room : Room) (n : ℕ) (low : is_call_line n ≡ false) (k : Known plan n past room) (u : Under plan n past room) where
    calm_all : (js : List Job) (mid : Room) → mid.reading ≡ None → Alike n None js None mid.jobs → HasUps n mid.lines → LineUnder plan n (client_traffic n (past ++ mid.hub.sent)) None js (held_on n mid.lines) → (p : Course (Both H)) → AllEnds (λ (b : Both H). Calm n mid b.room) p → Leaves n p
    calm_all js mid quiet a ups w (ends b) calm = calm_under plan n past js mid b.room quiet calm a ups w
    calm_all js mid quiet a ups w (asks vm call k) calm = λ r. calm_all js mid quiet a ups w (k r) (calm r)
    calm_all js mid quiet a ups w (measures vm call k) calm = λ r. calm_all js mid quiet a ups w (k r) (calm r)
    calm_all js mid quiet a ups w (hears t k) calm = λ h says. calm_all js mid quiet a ups w (k h) (calm h says)

    module _ (quiet : room.reading ≡ None) where
      under_now : (js : List Job) → room.jobs ≡ js → LineUnder plan n (client_traffic n (past ++ room.hub.sent)) None js (held_on n room.lines)
      under_now js is = subst (λ (r : Option ReadBatch). LineUnder plan n (client_traffic n (past ++ room.hub.sent)) r js (held_on n room.lines)) quiet (subst (λ l. LineUnder plan n (client_traffic n (past ++ room.hub.sent)) room.reading l (held_on n room.lines)) is u)

      known_now : (js : List Job) → room.jobs ≡ js → LineOk plan n past None js room.lines (look n room.lines) room.hub
      known_now js is = subst (λ (r : Option ReadBatch). LineOk plan n past r js room.lines (look n room.lines) room.hub) quiet (subst (λ l. LineOk plan n past room.reading l room.lines (look n room.lines) room.hub) is k.line)

      ups_now : HasUps n room.lines
      ups_now = line_ups plan n past None room.jobs room.lines room.hub (known_now room.jobs refl)

      job_under : (job : Job) (later : List Job) → room.jobs ≡ job ∷ later → Leaves n (works calling plan job host (record room { jobs = later }))
      job_under job later js = by_job job (known_now (job ∷ later) js) (under_now (job ∷ later) js) (subst (Phase room.lines) js k.phase)
        where
          mid : Room
          mid = record room { jobs = later }

          simple : (j : Job) → IsCalm j → LineUnder plan n (client_traffic n (past ++ room.hub.sent)) None (j ∷ later) (held_on n room.lines) → Leaves n (works calling plan j host (record room { jobs = later }))
          simple j is w = calm_all (j ∷ later) (record room { jobs = later }) quiet (alike_pop n j later is) ups_now w (works calling plan j host (record room { jobs = later })) (works_calm calling logs n low plan j host (record room { jobs = later }) is k.once)

          by_job : (j : Job) → LineOk plan n past None (j ∷ later) room.lines (look n room.lines) room.hub → LineUnder plan n (client_traffic n (past ++ room.hub.sent)) None (j ∷ later) (held_on n room.lines) → Phase room.lines (j ∷ later)
              → Leaves n (works calling plan j host (record room { jobs = later }))
          by_job (jobs.Begin vm) ok w f = simple (jobs.Begin vm) tt w
          by_job (jobs.Root vm plugin is_first) ok w f = simple (jobs.Root vm plugin is_first) tt w
          by_job (jobs.Start vm root) ok w f = simple (jobs.Start vm root) tt w
          by_job (jobs.Configure vm root plugin) ok w f = simple (jobs.Configure vm root plugin) tt w
          by_job (jobs.Tick vm root) ok w f = simple (jobs.Tick vm root) tt w
          by_job jobs.Expire ok w f = simple jobs.Expire tt w
          by_job (jobs.Happen v) ok w f = happens_under plan n past v (record room { jobs = later }) k.once quiet f.0 ups_now w v
          by_job (jobs.Create number at) ok w f = simple (jobs.Create number at) tt w
          by_job (jobs.Enter number) ok w f = enter_under plan n past (record room { jobs = later }) k.once quiet number ok w
          by_job (jobs.Put number false items) ok w f = request_under plan n past (record room { jobs = later }) k.once quiet number items ok w
          by_job (jobs.Put number true items) ok w f = response_under plan n past (record room { jobs = later }) k.once quiet number items ok w
          by_job (jobs.Refuse number status) ok w f = refuse_under plan n past (record room { jobs = later }) k.once quiet number status ok w
          by_job (jobs.Done c) ok w f = simple (jobs.Done c) tt w
          by_job (jobs.Log c) ok w f = simple (jobs.Log c) tt w
          by_job (jobs.Delete c) ok w f = simple (jobs.Delete c) tt w
          by_job (jobs.Close number stays) ok w f = close_under plan n past (record room { jobs = later }) k.once quiet number stays ok w
          by_job (jobs.Notice vm left) ok w f = simple (jobs.Notice vm left) tt w
          by_job (jobs.Ready vm root queue) ok w f = simple (jobs.Ready vm root queue) tt w
          by_job (jobs.Other step) ok w f = simple (jobs.Other step) tt w

      -- what becomes of the line's text, of what is in hand and of what is sent is nothing
      frees_under : (at : ℕ) → room.jobs ≡ [] → Under plan n past (release at room)
      frees_under at jobless = by_wait (slice_get room.waits at)
        where
          by_wait : (o : Option ContextAt) → Under plan n past (release_at at o room)
          by_wait None = u
          by_wait (Some c) =
              calm_under plan n past [] (record room { jobs = [] }) (record room { jobs = last_jobs c ++ room.jobs; waits = remove room.waits at }) quiet
              (record { still = still_aside n room.lines room.hub room.hub k.once (beside_itself n room.hub); reading = refl; front = last_jobs c; free = (tt, (tt, tt)); jobs = ap (λ l. last_jobs c ++ l) jobless; parts = λ o. o })
              (record { waits = refl; ends = λ c. c }) ups_now (under_now [] jobless)

      begins_under : (job : Job) (later : List Job) → room.agenda ≡ job ∷ later → room.jobs ≡ [] → Under plan n past (record room { jobs = job ∷ []; agenda = later })
      begins_under job later agenda jobless =
          let parts : AllParts (job ∷ later) = subst AllParts agenda k.parts in
          under_alike plan n (client_traffic n (past ++ room.hub.sent)) (client_traffic n (past ++ room.hub.sent)) None room.reading [] (job ∷ []) (held_on n room.lines) refl
          (subst (λ (r : Option ReadBatch). Alike n None [] r (job ∷ [])) (sym quiet) (record { waits = λ i. (part_backs n job parts.0 i ++ []) ++ []; ends = λ c. absurd c })) (λ x e. subst (λ (r : Option ReadBatch). BackReads n r x) (sym quiet) tt) (under_now [] jobless)

    -- EACH STEP
    pub step_under : Leaves n (step calling plan (next_of room) host room)
    step_under = by_reading room.reading refl
      where
        by_agenda : room.reading ≡ None → room.jobs ≡ [] → (a : List Job) → room.agenda ≡ a → Leaves n (step calling plan (begins_or_rests a) host room)
        by_agenda quiet jobless [] is = u
        by_agenda quiet jobless (job ∷ later) is = subst (λ (l : List Job). Under plan n past (begin_first_job l room)) (sym is) (begins_under quiet job later is jobless)

        by_over : room.reading ≡ None → room.jobs ≡ [] → (o : Option ℕ) → position rooms.is_over room.lines ≡ o → Leaves n (step calling plan (ends_or o (begins_or_rests room.agenda)) host room)
        by_over quiet jobless None is = by_agenda quiet jobless room.agenda refl
        by_over quiet jobless (Some place) is = end_under plan n past place room k.once jobless quiet is u

        by_waits : room.reading ≡ None → room.jobs ≡ [] → (o : Option ℕ) → Leaves n (step calling plan (frees_or o (ends_or (position rooms.is_over room.lines) (begins_or_rests room.agenda))) host room)
        by_waits quiet jobless None = by_over quiet jobless (position rooms.is_over room.lines) refl
        by_waits quiet jobless (Some at) = frees_under quiet at jobless

        by_jobs : room.reading ≡ None → (js : List Job) → room.jobs ≡ js → Leaves n (step calling plan (if is_any js then next.Work else next_part room) host room)
        by_jobs quiet [] is = by_waits quiet is (position (is_released room) room.waits)
        by_jobs quiet (job ∷ later) is = subst (λ (l : List Job). Leaves n (works_first calling plan l host room)) (sym is) (job_under quiet job later is)

        by_moves : room.reading ≡ None → (o : Option ℕ) → position has_move room.lines ≡ o → Leaves n (step calling plan (moves_or o (if is_any room.jobs then next.Work else next_part room)) host room)
        by_moves quiet None is = by_jobs quiet room.jobs refl
        by_moves quiet (Some place) is =
            calm_all room.jobs room quiet (record { waits = refl; ends = λ c. c }) (ups_now quiet) (under_now quiet room.jobs refl) (step calling plan (next.Move place) host room)
            (move_calm calling logs n low place host room k.once (λ l there. found_passes has_move room.lines place l is there))

        by_reading : (o : Option ReadBatch) → room.reading ≡ o → Leaves n (step calling plan (next_of room) host room)
        by_reading None is =
            subst (λ (o : Option ReadBatch). Leaves n (step calling plan (if is_some o then next.Read else moves_or (position has_move room.lines) (if is_any room.jobs then next.Work else next_part room)) host room)) (sym is)
            (by_moves is (position has_move room.lines) refl)
        by_reading (Some r) is =
            subst (λ (o : Option ReadBatch). Leaves n (step calling plan (if is_some o then next.Read else moves_or (position has_move room.lines) (if is_any room.jobs then next.Work else next_part room)) host room)) (sym is)
            (reading_under plan past room host n r is k u)

  -- ---- the loop, with what is known of what went up

  abbrev pub LeavesAll : Course (Both H) → Type 0
  LeavesAll course = AllEnds (λ (b : Both H). Whole plan past b.room) course

  both_ends : (p : Course (Both H)) → ((n : ℕ) → is_call_line n ≡ false → AllEnds (λ (b : Both H). Known plan n past b.room) p) → ((n : ℕ) → is_call_line n ≡ false → Leaves n p) → AllEnds (λ (b : Both H). CallsSilent past b.room) p → LeavesAll p
  both_ends (ends b) up down silent = ((λ n low. (up n low, down n low)), silent)
  both_ends (asks vm call k) up down silent = λ r. both_ends (k r) (λ n low. up n low r) (λ n low. down n low r) (silent r)
  both_ends (measures vm call k) up down silent = λ r. both_ends (k r) (λ n low. up n low r) (λ n low. down n low r) (silent r)
  both_ends (hears t k) up down silent = λ h says. both_ends (k h) (λ n low. up n low h says) (λ n low. down n low h says) (silent h says)

  pub step_whole : (host : H) (room : Room) → Whole plan past room → LeavesAll (step calling plan (next_of room) host room)
  step_whole host room all =
      both_ends (step calling plan (next_of room) host room) (λ n low. step_keeps calling logs plan past host room n low (reads_clients room (silent_unused past room all.1)) (λ m below. (all.0 m below).0))
      (λ n low. step_under host room n low (all.0 n low).0 (all.0 n low).1) (steps_silent calling logs plan past host room all.1)

  pub settling_whole : (k : ℕ) (host : H) (room : Room) → Whole plan past room → LeavesAll (settling calling plan k host room)
  settling_whole zero host room all = subst LeavesAll (sym (settling_none calling plan host room)) all
  settling_whole (suc k) host room all = by_rest (λ h r e. settling_whole k h r e) (is_rest (next_of room)) refl
    where
      by_rest : ((h : H) (r : Room) → Whole plan past r → LeavesAll (settling calling plan k h r)) → (b : Bool) → is_rest (next_of room) ≡ b → LeavesAll (settling calling plan (suc k) host room)
      by_rest go true is = subst LeavesAll (sym (settling_rest calling plan k (next_of room) host room refl is)) all
      by_rest go false is =
          subst LeavesAll (sym (settling_step calling plan k (next_of room) host room refl is))
          (all_then (λ (b : Both H). Whole plan past b.room) (λ (b : Both H). Whole plan past b.room) (step calling plan (next_of room) host room) (λ b. settling calling plan k b.host b.room)
          (step_whole host room all) (λ b e. go b.host b.room e))
