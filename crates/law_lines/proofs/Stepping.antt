-- What is known stays so in each step, each turn, and over turns.
use Rattle.std.proofs.Common.{◌≡◌, ℕ, zero, suc, Bool, true, false, List, [], ◌∷◌, ◌++◌, refl, ap, ◌∙◌, sym, subst}
use Rattle.callouts.specs.Callouts.{is_call_line}
use Rattle.filter_host.specs.Called.{Calling}
use Rattle.std.specs.Prelude.{Option, None, Some, is_some, slice_get, remove, position, find, if◌then◌else◌}
use Rattle.filter_host.specs.Course.{Course, ends, asks, measures, hears}
use Rattle.filter_host.proofs.Holds.{AllEnds, all_then}
use Rattle.gate_io.specs.declared.event.Sent.{Sent}
use Rattle.worker_model.specs.Room.{Room}
use Rattle.worker_model.specs.declared.types.ContextAt.{ContextAt}
use Rattle.worker_model.specs.declared.types.Job.{Job}
use Rattle.worker_model.specs.declared.types.Job.TheVariants as jobs
use Rattle.worker_model.specs.declared.types.Line.{Line}
use Rattle.worker_model.specs.declared.types.Next.{Next}
use Rattle.worker_model.specs.declared.types.Next.TheVariants as next
use Rattle.worker_model.specs.declared.types.ReadBatch.{ReadBatch}
use Rattle.worker_model.specs.Plan.{Plan}
use Rattle.worker_model.specs.Rooms as rooms
use Rattle.worker_model.specs.Rooms.{next_of, next_part, has_move, moves_or, frees_or, ends_or, begins_or_rests, is_any, is_released}
use Rattle.worker_model.specs.Settling.{settling, settling_none, settling_rest, settling_step, is_rest}
use Rattle.worker_model.specs.Steps.{Both, step, works, works_first, release, release_at, last_jobs, begin_first_job}
use Rattle.law_lines.specs.Logs.{WriteLogs}
use Rattle.law_lines.proofs.Finding.{Seeks, missing, first, seeks}
use Rattle.law_lines.proofs.Looks.{look, still_aside, beside_itself}
use Rattle.law_lines.proofs.Rooms.{IsPart, AllParts, Calm}
use Rattle.law_lines.proofs.Calls.{move_calm}
use Rattle.law_lines.proofs.Story.{put_of, NoClose, NoEnter, Tail, Stands, Phase, Rests, LineOk, Known}
use Rattle.law_lines.proofs.Calmed.{known_calm, none_once, stands_pop}
use Rattle.law_lines.proofs.Turned.{line_turn}
use Rattle.law_lines.proofs.Unused.{CallsUnused, reads_clients, steps_unused}
use Rattle.law_lines.proofs.Working.{Popped, IsSimple, simple_works, enter_works, request_works, response_works}
use Rattle.law_lines.proofs.Closing.{line_as_is, refuse_works, close_works}
use Rattle.law_lines.proofs.Happening.{happens_known}
use Rattle.law_lines.proofs.Ending.{end_known}
use Rattle.law_lines.proofs.Reading.{reading_known}

-- ---- what is next

pub none_found : {X : Type 0} (p : X → Bool) (xs : List X) → position p xs ≡ None → find p xs ≡ None
none_found p xs is = by_seek (seeks p xs)
  where
    by_seek : Seeks p xs → find p xs ≡ None
    by_seek (missing at none) = none
    by_seek (first k x at there passes found) = let e : ◌≡◌ {A = Option ℕ} None (Some k) = sym is ∙ at in absurd (cc)

pub some_found : {X : Type 0} (p : X → Bool) (xs : List X) (place : ℕ) → position p xs ≡ Some place → find p xs ≡ None → ⊥
some_found p xs place is none = by_seek (seeks p xs)
  where
    by_seek : Seeks p xs → ⊥
    by_seek (missing at gone) = let e : ◌≡◌ {A = Option ℕ} None (Some place) = sym at ∙ is in absurd (cc)
    by_seek (first k x at there passes found) = let e : ◌≡◌ {A = Option _} None (Some x) = sym none ∙ found in absurd (cc)

-- what is found at a place passes
pub found_passes : {X : Type 0} (p : X → Bool) (xs : List X) (place : ℕ) (x : X) → position p xs ≡ Some place → slice_get xs place ≡ Some x → p x ≡ true
found_passes p xs place x is there = by_seek (seeks p xs)
  where
    by_seek : Seeks p xs → p x ≡ true
    by_seek (missing at none) = let e : ◌≡◌ {A = Option ℕ} None (Some place) = sym at ∙ is in absurd (cc)
    by_seek (first k y at found passes is_it) =
        let e : Some k ≡ Some place = sym at ∙ is in let same : k ≡ place = cc in let f : Some y ≡ Some x = sym found ∙ (ap (slice_get xs) same ∙ there) in let same_x : y ≡ x = cc in ap p (sym same_x) ∙ passes

-- where a chain moves, no event is in hand
pub tail_moving : (lines : List Line) (js : List Job) → Stands js → Phase lines js → (Rests lines → ⊥) → Tail js
tail_moving lines [] stands phase moving = tt
tail_moving lines (jobs.Happen w ∷ later) stands phase moving = absurd (moving phase.1)
tail_moving lines (job ∷ later) stands phase moving = stands

part_puts : (n : ℕ) (job : Job) → IsPart job → put_of n job ≡ []
part_puts n (jobs.Put m response items) is = absurd is
part_puts n job is = refl

part_unclosed : (n : ℕ) (job : Job) → IsPart job → NoClose n (job ∷ [])
part_unclosed n (jobs.Close m stays) is = absurd is
part_unclosed n job is = tt

part_unentered : (n : ℕ) (job : Job) → IsPart job → NoEnter n (job ∷ [])
part_unentered n (jobs.Enter m) is = absurd is
part_unentered n job is = tt

part_stands : (job : Job) → IsPart job → Stands (job ∷ [])
part_stands (jobs.Happen w) is = refl
part_stands (jobs.Close m stays) is = absurd is
part_stands job is = tt

part_phase : (lines : List Line) (job : Job) → find rooms.is_over lines ≡ None → Rests lines → Phase lines (job ∷ [])
part_phase lines (jobs.Happen w) over at_rest = (over, at_rest)
part_phase lines job over at_rest = tt

-- what is known of each line of a client, and that none has the number of one of a callout
abbrev pub KnownAll : Plan → List Sent → Room → Type 0
KnownAll plan past room = ((n : ℕ) → is_call_line n ≡ false → Known plan n past room) × CallsUnused room

module _ {H : Type 0} (calling : Calling H) (logs : WriteLogs calling) (plan : Plan) (past : List Sent) where
  abbrev pub Keeps : ℕ → Course (Both H) → Type 0
  Keeps n course = AllEnds (λ (b : Both H). Known plan n past b.room) course

  -- of lines of clients, one of which may be read
  module _ (host : H) (room : Room) (n : ℕ) (low : is_call_line n ≡ false) (clients : (r : ReadBatch) → room.reading ≡ Some r → is_call_line r.line ≡ false) (all : (m : ℕ) → is_call_line m ≡ false → Known plan m past room) where
    calm_keeps : (p : Course (Both H)) → room.reading ≡ None → Tail room.jobs → (Rests room.lines → ⊥) → AllEnds (λ (b : Both H). Calm n room b.room) p → Keeps n p
    calm_keeps (ends b) quiet tail moving calm =
        known_calm plan n past room.jobs room b.room (all n low).parts tail quiet
        (subst (λ (r : Option ReadBatch). LineOk plan n past r room.jobs room.lines (look n room.lines) room.hub) quiet (all n low).line)
        (record { puts = refl; has = λ h. h; no = λ h. h; refusing = λ h. h; none = λ h. h; once = λ h. h }) calm (λ l k x y fields at some behind_it there p place asked f at_rest map proper. absurd (moving at_rest))
    calm_keeps (asks vm call k) quiet tail moving calm = λ r. calm_keeps (k r) quiet tail moving (calm r)
    calm_keeps (measures vm call k) quiet tail moving calm = λ r. calm_keeps (k r) quiet tail moving (calm r)
    calm_keeps (hears t k) quiet tail moving calm = λ h says. calm_keeps (k h) quiet tail moving (calm h says)

    job_keeps : (job : Job) (later : List Job) → room.jobs ≡ job ∷ later → room.reading ≡ None → Rests room.lines → Keeps n (works calling plan job host (record room { jobs = later }))
    job_keeps job later js quiet at_rest = by_job job pop phase stands
      where
        stands : Stands (job ∷ later)
        stands = subst Stands js (all n low).stands

        phase : Phase room.lines (job ∷ later)
        phase = subst (Phase room.lines) js (all n low).phase

        pop : Popped plan n past job (record room { jobs = later })
        pop = record {
          once = (all n low).once;
          parts = (all n low).parts;
          tail = stands_pop job later stands;
          quiet = quiet;
          rests = at_rest;
          line = subst (λ (r : Option ReadBatch). LineOk plan n past r (job ∷ later) room.lines (look n room.lines) room.hub) quiet (subst (λ l. LineOk plan n past room.reading l room.lines (look n room.lines) room.hub) js (all n low).line);
        }

        simple : (j : Job) → IsSimple j → Popped plan n past j (record room { jobs = later }) → Keeps n (works calling plan j host (record room { jobs = later }))
        simple j is p = simple_works calling logs plan n past low j host (record room { jobs = later }) p is

        by_job : (j : Job) → Popped plan n past j (record room { jobs = later }) → Phase room.lines (j ∷ later) → Stands (j ∷ later) → Keeps n (works calling plan j host (record room { jobs = later }))
        by_job (jobs.Begin vm) p f s = simple (jobs.Begin vm) tt p
        by_job (jobs.Root vm plugin is_first) p f s = simple (jobs.Root vm plugin is_first) tt p
        by_job (jobs.Start vm root) p f s = simple (jobs.Start vm root) tt p
        by_job (jobs.Configure vm root plugin) p f s = simple (jobs.Configure vm root plugin) tt p
        by_job (jobs.Tick vm root) p f s = simple (jobs.Tick vm root) tt p
        by_job jobs.Expire p f s = simple jobs.Expire tt p
        by_job (jobs.Happen w) p f s = happens_known plan n past w (record room { jobs = later }) p s f.0 w
        by_job (jobs.Create number k) p f s = simple (jobs.Create number k) tt p
        by_job (jobs.Enter number) p f s = enter_works plan n past number (record room { jobs = later }) p
        by_job (jobs.Put number false items) p f s = request_works plan n past number items (record room { jobs = later }) p
        by_job (jobs.Put number true items) p f s = response_works plan n past number items (record room { jobs = later }) p
        by_job (jobs.Refuse number status) p f s = refuse_works plan n past number status (record room { jobs = later }) p
        by_job (jobs.Done c) p f s = simple (jobs.Done c) tt p
        by_job (jobs.Log c) p f s = simple (jobs.Log c) tt p
        by_job (jobs.Delete c) p f s = simple (jobs.Delete c) tt p
        by_job (jobs.Close number stays) p f s = close_works plan n past number stays (record room { jobs = later }) p s
        by_job (jobs.Notice vm left) p f s = simple (jobs.Notice vm left) tt p
        by_job (jobs.Ready vm root queue) p f s = simple (jobs.Ready vm root queue) tt p
        by_job (jobs.Other step) p f s = simple (jobs.Other step) tt p

    idle_ok : room.reading ≡ None → room.jobs ≡ [] → LineOk plan n past None [] room.lines (look n room.lines) room.hub
    idle_ok quiet jobless =
        subst (λ (r : Option ReadBatch). LineOk plan n past r [] room.lines (look n room.lines) room.hub) quiet (subst (λ l. LineOk plan n past room.reading l room.lines (look n room.lines) room.hub) jobless (all n low).line)

    frees_keeps : (at : ℕ) → room.reading ≡ None → room.jobs ≡ [] → Known plan n past (release at room)
    frees_keeps at quiet jobless = by_wait (slice_get room.waits at)
      where
        by_wait : (o : Option ContextAt) → Known plan n past (release_at at o room)
        by_wait None = all n low
        by_wait (Some c) =
            known_calm plan n past [] (record room { jobs = [] }) (record room { jobs = last_jobs c ++ room.jobs; waits = remove room.waits at }) (all n low).parts tt quiet (idle_ok quiet jobless)
            (record { puts = refl; has = λ h. h; no = λ h. h; refusing = λ h. h; none = λ h. h; once = λ h. h })
            (record {
              still = still_aside n room.lines room.hub room.hub (all n low).once (beside_itself n room.hub);
              reading = refl;
              front = last_jobs c;
              free = (tt, (tt, tt));
              jobs = ap (λ l. last_jobs c ++ l) jobless;
              parts = λ o. o;
            }) (λ l k x y fields here some behind_it there p place asked f at_rest map proper. absurd f)

    begins_keeps : (job : Job) (later : List Job) → room.agenda ≡ job ∷ later → room.reading ≡ None → room.jobs ≡ [] → Rests room.lines → find rooms.is_over room.lines ≡ None → Known plan n past (record room { jobs = job ∷ []; agenda = later })
    begins_keeps job later agenda quiet jobless at_rest over =
        let parts : AllParts (job ∷ later) = subst AllParts agenda (all n low).parts in
        record {
          once = (all n low).once;
          parts = parts.1;
          stands = part_stands job parts.0;
          alone = λ r is. let e : ◌≡◌ {A = Option ReadBatch} None (Some r) = sym quiet ∙ is in absurd (cc);
          phase = part_phase room.lines job over at_rest;
          line = subst (λ (r : Option ReadBatch). LineOk plan n past r (job ∷ []) room.lines (look n room.lines) room.hub) (sym quiet)
              (line_turn plan n past [] None (job ∷ [])
              (record { pend = (λ i. (part_puts n job parts.0 i ++ []) ++ []); has = λ h. absurd h; no = λ h. part_unclosed n job parts.0; refusing = λ h. absurd h; none = λ h. part_unentered n job parts.0; once = λ h. none_once n (job ∷ []) (part_unentered n job parts.0); unread = refl; unfresh = λ h. h })
              room.lines room.lines (look n room.lines) (look n room.lines) room.hub room.hub refl refl (line_as_is n (look n room.lines) room.hub room.hub refl) (λ y e. tt) (idle_ok quiet jobless));
        }

    -- EACH STEP
    pub step_keeps : Keeps n (step calling plan (next_of room) host room)
    step_keeps = by_reading room.reading refl
      where
        Goal : Next → Type 0
        Goal x = Keeps n (step calling plan x host room)

        by_agenda : room.reading ≡ None → room.jobs ≡ [] → Rests room.lines → find rooms.is_over room.lines ≡ None → (a : List Job) → room.agenda ≡ a → Keeps n (step calling plan (begins_or_rests a) host room)
        by_agenda quiet jobless at_rest over [] is = all n low
        by_agenda quiet jobless at_rest over (job ∷ later) is =
            subst (λ (l : List Job). Known plan n past (begin_first_job l room)) (sym is) (begins_keeps job later is quiet jobless at_rest over)

        by_over : room.reading ≡ None → room.jobs ≡ [] → Rests room.lines → (o : Option ℕ) → position rooms.is_over room.lines ≡ o → Keeps n (step calling plan (ends_or o (begins_or_rests room.agenda)) host room)
        by_over quiet jobless at_rest None is = by_agenda quiet jobless at_rest (none_found rooms.is_over room.lines is) room.agenda refl
        by_over quiet jobless at_rest (Some place) is = end_known plan n past place room (all n low) jobless quiet is

        by_waits : room.reading ≡ None → room.jobs ≡ [] → Rests room.lines → (o : Option ℕ) → Keeps n (step calling plan (frees_or o (ends_or (position rooms.is_over room.lines) (begins_or_rests room.agenda))) host room)
        by_waits quiet jobless at_rest None = by_over quiet jobless at_rest (position rooms.is_over room.lines) refl
        by_waits quiet jobless at_rest (Some at) = frees_keeps at quiet jobless

        by_jobs : room.reading ≡ None → Rests room.lines → (js : List Job) → room.jobs ≡ js → Keeps n (step calling plan (if is_any js then next.Work else next_part room) host room)
        by_jobs quiet at_rest [] is = by_waits quiet is at_rest (position (is_released room) room.waits)
        by_jobs quiet at_rest (job ∷ later) is = subst (λ (l : List Job). Keeps n (works_first calling plan l host room)) (sym is) (job_keeps job later is quiet at_rest)

        by_moves : room.reading ≡ None → (o : Option ℕ) → position has_move room.lines ≡ o → Keeps n (step calling plan (moves_or o (if is_any room.jobs then next.Work else next_part room)) host room)
        by_moves quiet None is = by_jobs quiet (none_found has_move room.lines is) room.jobs refl
        by_moves quiet (Some place) is =
            calm_keeps (step calling plan (next.Move place) host room) quiet (tail_moving room.lines room.jobs (all n low).stands (all n low).phase (some_found has_move room.lines place is)) (some_found has_move room.lines place is)
            (move_calm calling logs n low place host room (all n low).once (λ l there. found_passes has_move room.lines place l is there))

        by_reading : (o : Option ReadBatch) → room.reading ≡ o → Keeps n (step calling plan (next_of room) host room)
        by_reading None is =
            subst (λ (o : Option ReadBatch). Keeps n (step calling plan (if is_some o then next.Read else moves_or (position has_move room.lines) (if is_any room.jobs then next.Work else next_part room)) host room)) (sym is)
            (by_moves is (position has_move room.lines) refl)
        by_reading (Some r) is =
            subst (λ (o : Option ReadBatch). Keeps n (step calling plan (if is_some o then next.Read else moves_or (position has_move room.lines) (if is_any room.jobs then next.Work else next_part room)) host room)) (sym is)
            (reading_known plan past room host n r is (all n low) (all r.line (clients r is)))

  -- ---- the loop

  abbrev pub KeepsAll : Course (Both H) → Type 0
  KeepsAll course = AllEnds (λ (b : Both H). KnownAll plan past b.room) course

  for_all : (p : Course (Both H)) → ((n : ℕ) → is_call_line n ≡ false → Keeps n p) → AllEnds (λ (b : Both H). CallsUnused b.room) p → KeepsAll p
  for_all (ends b) each unused = (each, unused)
  for_all (asks vm call k) each unused = λ r. for_all (k r) (λ n low. each n low r) (unused r)
  for_all (measures vm call k) each unused = λ r. for_all (k r) (λ n low. each n low r) (unused r)
  for_all (hears t k) each unused = λ h says. for_all (k h) (λ n low. each n low h says) (unused h says)

  pub steps_keep : (host : H) (room : Room) → KnownAll plan past room → KeepsAll (step calling plan (next_of room) host room)
  steps_keep host room all =
      for_all (step calling plan (next_of room) host room) (λ n low. step_keeps host room n low (reads_clients room all.1) all.0) (steps_unused calling logs plan host room all.1)

  pub settling_keeps : (k : ℕ) (host : H) (room : Room) → KnownAll plan past room → KeepsAll (settling calling plan k host room)
  settling_keeps zero host room all = subst KeepsAll (sym (settling_none calling plan host room)) all
  settling_keeps (suc k) host room all = by_rest (λ h r e. settling_keeps k h r e) (is_rest (next_of room)) refl
    where
      by_rest : ((h : H) (r : Room) → KnownAll plan past r → KeepsAll (settling calling plan k h r)) → (b : Bool) → is_rest (next_of room) ≡ b → KeepsAll (settling calling plan (suc k) host room)
      by_rest go true is = subst KeepsAll (sym (settling_rest calling plan k (next_of room) host room refl is)) all
      by_rest go false is =
          subst KeepsAll (sym (settling_step calling plan k (next_of room) host room refl is))
          (all_then (λ (b : Both H). KnownAll plan past b.room) (λ (b : Both H). KnownAll plan past b.room) (step calling plan (next_of room) host room) (λ b. settling calling plan k b.host b.room)
          (steps_keep host room all) (λ b e. go b.host b.room e))
