-- EACH STEP leaves less to do, whatever the machines do and whatever is read.
use Rattle.std.proofs.Common.{◌≡◌, ℕ, suc, ◌+◌, ◌*◌, ◌-◌, ◌≤◌, Bool, true, false, List, [], ◌∷◌, ◌++◌, length, ap, ◌∙◌, sym, refl, subst, arith}
use Rattle.std.specs.Prelude.{Option, None, Some, is_some, slice_get, slice_set, position, if◌then◌else◌}
use Rattle.contexts.specs.declared.parts.Contexts.{Contexts}
use Rattle.filter_host.specs.Called.{Called}
use Rattle.filter_host.specs.declared.host.Callback.{Callback}
use Rattle.filter_host.proofs.Holds.{AllEnds}
use Rattle.exchange.specs.declared.types.Exchange.{Exchange}
use Rattle.exchange.specs.declared.types.Filter.{Filter}
use Rattle.h1_model.specs.Unread.{Reading}
use Rattle.store_model.specs.Program.{Program}
use Rattle.worker_model.specs.Room.{Room}
use Rattle.worker_model.specs.declared.types.ContextAt.{ContextAt}
use Rattle.worker_model.specs.declared.types.Job.{Job}
use Rattle.worker_model.specs.declared.types.Job.TheVariants as jobs
use Rattle.worker_model.specs.declared.types.Line.{Line}
use Rattle.worker_model.specs.declared.types.Next.{Next}
use Rattle.worker_model.specs.declared.types.Next.TheVariants as next
use Rattle.worker_model.specs.declared.types.ReadBatch.{ReadBatch}
use Rattle.worker_model.specs.Moves.{ended_in, ended_at}
use Rattle.worker_model.specs.Plan.{Plan}
use Rattle.worker_model.specs.Rooms.{has_move, is_over, exchange_ends, is_any, begins_or_rests, ends_or, frees_or, moves_or, is_released, next_part, next_of}
use Rattle.worker_model.specs.Settling.{is_rest}
use Rattle.worker_model.specs.Steps.{Both, last_jobs, done_jobs, end_with, end_at, begin_first_job, release_at, release, reading_on, reads_in, reads_next, works, works_first, step}
use Rattle.law_rest.specs.Moves.{for_each}
use Rattle.law_rest.specs.Left.{reading_cost, work_left, open_left, exchange_left, job_left, jobs_left, parts_left, reading_left, AllFit, OpenFits, RoutesFit}
use Rattle.law_rest.proofs.Hearing.{heard_less}
use Rattle.law_rest.proofs.Jobs.{jobs_left-append}
use Rattle.law_rest.proofs.Lines.{set_left, set_fits, fits_at}
use Rattle.law_rest.proofs.Moving.{move_less}
use Rattle.law_rest.proofs.Rooms.{AtMost, IsLess, less_of, all_map}
use Rattle.law_rest.proofs.Sums.{remove_less}
use Rattle.law_rest.proofs.Tests.{of_if, found_at}
use Rattle.law_rest.proofs.Works.{works_most, job_some}

-- ---- a context that was released

free_less : (s at : ℕ) (room : Room) → AllFit s room.lines → position (is_released room) room.waits ≡ Some at → IsLess s room (release at room)
free_less s at room fit is = by_context (slice_get room.waits at) refl (found_at (is_released room) room.waits at is)
  where
    by_context : (o : Option ContextAt) → slice_get room.waits at ≡ o → (c : ContextAt) × (slice_get room.waits at ≡ Some c) × (is_released room c ≡ true) → IsLess s room (release_at at o room)
    by_context None there found = absurd (cc)
    by_context (Some c) there found =
        record { fit = fit; less = omega (arith, remove_less 3 room.waits at c there, jobs_left-append s (last_jobs c) room.jobs) }

-- ---- an exchange that has ended

done_left : (s : ℕ) (fs : List Filter) → jobs_left s (done_jobs fs) ≤ 4 * length fs
done_left s [] = omega arith
done_left s (f ∷ fs) =
    let e = done_left s fs in
    of_if (λ (l : List Job). jobs_left s l ≤ 4 * suc (length fs)) f.created _ _ (λ is. omega arith) (λ is. omega arith)

close_left : (s number : ℕ) (stays : Bool) → job_left s (jobs.Close number stays) ≤ 1 + reading_cost s
close_left s number true = omega arith
close_left s number false = omega arith

end_less : (s place : ℕ) (room : Room) → AllFit s room.lines → position is_over room.lines ≡ Some place → IsLess s room (end_at place room)
end_less s place room fit is = by_line (slice_get room.lines place) refl (found_at is_over room.lines place is)
  where
    by_exchange : (line : Line) (o : Option Exchange) → slice_get room.lines place ≡ Some line → line.exchange ≡ o → exchange_ends o ≡ true
        → IsLess s room (end_with room ((ended_in line o).0, slice_set room.lines place (ended_in line o).1))
    by_exchange line None there at over = absurd (cc)
    by_exchange line (Some x) there at over =
        let fits : OpenFits s (Some x) = subst (λ (o : Option Exchange). OpenFits s o) at (fits_at s room.lines place line there fit) in
        let e : open_left s line.exchange ≡ exchange_left s x = ap (open_left s) at in
        let l = set_left s room.lines place line (record line { exchange = None }) there in
        let a = jobs_left-append s (done_jobs x.filters ++ jobs.Close line.number x.stays ∷ []) room.jobs in
        let b = jobs_left-append s (done_jobs x.filters) (jobs.Close line.number x.stays ∷ []) in
        let d = done_left s x.filters in
        let c = close_left s line.number x.stays in
        record { fit = set_fits s room.lines place (record line { exchange = None }) fit tt; less = omega (arith, fits.filters) }

    by_line : (o : Option Line) → slice_get room.lines place ≡ o → (line : Line) × (slice_get room.lines place ≡ Some line) × (is_over line ≡ true)
        → IsLess s room (end_with room (ended_at place o room.lines))
    by_line None there found = absurd (cc)
    by_line (Some line) there found =
        let same : found.0 ≡ line = (cc) in
        by_exchange line line.exchange there refl (sym (ap is_over same) ∙ found.2)

-- ---- the next part of the turn

begin_less : (s : ℕ) (job : Job) (later : List Job) (room : Room) → AllFit s room.lines → room.agenda ≡ job ∷ later → IsLess s room (begin_first_job (job ∷ later) room)
begin_less s job later room fit is =
    let e : parts_left s room.agenda ≡ 1 + job_left s job + parts_left s later = ap (parts_left s) is in
    record { fit = fit; less = omega arith }

-- ---- what is being read

stops_less : (s : ℕ) (r : ReadBatch) (room : Room) → AllFit s room.lines → room.reading ≡ Some r → IsLess s room (record room { reading = None })
stops_less s r room fit is =
    let e : reading_left s room.reading ≡ reading_cost s + for_each (s + s) r.batch = ap (reading_left s) is in
    record { fit = fit; less = omega arith }

module _ {H : Type 0} (calling : H → ℕ → Callback → ℕ → ℕ → ℕ → ℕ → Contexts → Program (Called H)) (plan : Plan) where
  read_less : (s : ℕ) (r : ReadBatch) (host : H) (room : Room) → RoutesFit s plan.routes → AllFit s room.lines → room.reading ≡ Some r
      → AllEnds (λ (b : Both H). IsLess s room b.room) (reads_in plan r (reading_on r room) host room)
  read_less s r host room routes fit is = by_side (reading_on r room) refl
    where
      by_side : (o : Option Reading) → reading_on r room ≡ o → AllEnds (λ (b : Both H). IsLess s room b.room) (reads_in plan r o host room)
      by_side None at = stops_less s r room fit is
      by_side (Some reading) at = λ h hears. heard_less s plan r reading h room routes fit is at hears

  -- the job in hand
  work_less : (s : ℕ) (job : Job) (later : List Job) (host : H) (room : Room) → AllFit s room.lines → room.jobs ≡ job ∷ later
      → AllEnds (λ (b : Both H). IsLess s room b.room) (works calling plan job host (record room { jobs = later }))
  work_less s job later host room fit is =
      let e : jobs_left s room.jobs ≡ job_left s job + jobs_left s later = ap (jobs_left s) is in
      let some = job_some s job in
      all_map (λ (b : Both H). AtMost s (work_left s room - 1) b.room) (λ (b : Both H). IsLess s room b.room) (works calling plan job host (record room { jobs = later }))
      (λ b most. less_of s (work_left s room - 1) room b.room (omega arith) most)
      (works_most calling s plan (work_left s (record room { jobs = later })) (work_left s room - 1) job host (record room { jobs = later }) (omega arith) (record { fit = fit; few = omega arith }))

  -- EACH STEP
  pub step_less : (s : ℕ) (host : H) (room : Room) → RoutesFit s plan.routes → AllFit s room.lines → is_rest (next_of room) ≡ false
      → AllEnds (λ (b : Both H). IsLess s room b.room) (step calling plan (next_of room) host room)
  step_less s host room routes fit goes =
      of_if Less (is_some room.reading) _ _ (λ is some. by_reading room.reading refl is) (λ is. by_move (position has_move room.lines) refl) goes
    where
      Less : Next → Type 0
      Less n = is_rest n ≡ false → AllEnds (λ (b : Both H). IsLess s room b.room) (step calling plan n host room)

      by_reading : (o : Option ReadBatch) → room.reading ≡ o → is_some o ≡ true → AllEnds (λ (b : Both H). IsLess s room b.room) (reads_next plan o host room)
      by_reading None is some = absurd (cc)
      by_reading (Some r) is some = read_less s r host room routes fit is

      by_jobs : (l : List Job) → room.jobs ≡ l → is_any l ≡ true → AllEnds (λ (b : Both H). IsLess s room b.room) (works_first calling plan l host room)
      by_jobs [] is some = absurd (cc)
      by_jobs (job ∷ later) is some = work_less s job later host room fit is

      by_agenda : (l : List Job) → room.agenda ≡ l → Less (begins_or_rests l)
      by_agenda [] is = λ (never : true ≡ false). absurd (cc)
      by_agenda (job ∷ later) is = λ going. subst (λ (l : List Job). IsLess s room (begin_first_job l room)) (sym is) (begin_less s job later room fit is)

      by_end : (o : Option ℕ) → position is_over room.lines ≡ o → Less (ends_or o (begins_or_rests room.agenda))
      by_end None is = by_agenda room.agenda refl
      by_end (Some place) is = λ going. end_less s place room fit is

      by_free : (o : Option ℕ) → position (is_released room) room.waits ≡ o → Less (frees_or o (ends_or (position is_over room.lines) (begins_or_rests room.agenda)))
      by_free None is = by_end (position is_over room.lines) refl
      by_free (Some at) is = λ going. free_less s at room fit is

      by_move : (o : Option ℕ) → position has_move room.lines ≡ o → Less (moves_or o (if is_any room.jobs then next.Work else next_part room))
      by_move None is =
          of_if Less (is_any room.jobs) _ _ (λ some going. by_jobs room.jobs refl some) (λ none. by_free (position (is_released room) room.waits) refl)
      by_move (Some place) is = λ going. move_less calling s place host room fit is
