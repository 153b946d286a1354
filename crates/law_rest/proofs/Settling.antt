-- A TURN COMES TO REST: each step leaves less to do, so that the steps come to an end.
use Rattle.std.proofs.Common.{◌≡◌, ℕ, zero, suc, ◌<◌, Bool, true, false, List, [], ◌∷◌, sym, refl, subst, arith}
use Rattle.filter_host.specs.Called.{Calling}
use Rattle.std.specs.Prelude.{Option, None, Some, is_some, position, if◌then◌else◌}
use Rattle.filter_host.proofs.Holds.{AllEnds, all_then, all_reached}
use Rattle.worker_model.specs.Room.{Room}
use Rattle.worker_model.specs.declared.types.Job.{Job}
use Rattle.worker_model.specs.declared.types.Next.{Next}
use Rattle.worker_model.specs.declared.types.Next.TheVariants as next
use Rattle.worker_model.specs.Plan.{Plan}
use Rattle.worker_model.specs.Rooms.{has_move, is_over, is_any, begins_or_rests, ends_or, frees_or, moves_or, is_released, next_part, next_of}
use Rattle.worker_model.specs.Settling.{settling, settling_step, settling_rest, settling_none, is_rest}
use Rattle.worker_model.specs.Steps.{Both, step}
use Rattle.law_rest.specs.Laws.{IsAtRest, StepsLeaveLess, StepsComeToRest, NothingIsLeft, RestIsRest}
use Rattle.law_rest.specs.Left.{work_left, AllFit, RoutesFit}
use Rattle.law_rest.proofs.Paused.{all_rest}
use Rattle.law_rest.proofs.Rooms.{IsLess}
use Rattle.law_rest.proofs.Steps.{step_less}
use Rattle.law_rest.proofs.Tests.{of_if}

-- ---- what rest is

no_next : (room : Room) → IsAtRest room → NothingIsLeft room
no_next room rested =
    of_if Given (is_some room.reading) _ _ (λ is (never : false ≡ true). absurd (cc)) (λ is. by_move (none room.reading is) (position has_move room.lines) refl) rested
  where
    Given : Next → Type 0
    Given n = is_rest n ≡ true → NothingIsLeft room

    none : {A : Type 0} (o : Option A) → is_some o ≡ false → o ≡ None
    none None is = refl
    none (Some x) is = absurd (cc)

    no_jobs : (l : List Job) → is_any l ≡ false → l ≡ []
    no_jobs [] is = refl
    no_jobs (job ∷ more) is = absurd (cc)

    by_agenda : room.reading ≡ None → position has_move room.lines ≡ None → room.jobs ≡ [] → position (is_released room) room.waits ≡ None → position is_over room.lines ≡ None
        → (l : List Job) → room.agenda ≡ l → Given (begins_or_rests l)
    by_agenda reading moving jobs released ended [] is =
        λ here. record { reading = reading; moving = moving; paused = all_rest room.lines moving ended; jobs = jobs; released = released; ended = ended; agenda = is }
    by_agenda reading moving jobs released ended (job ∷ more) is = λ (never : false ≡ true). absurd (cc)

    by_end : room.reading ≡ None → position has_move room.lines ≡ None → room.jobs ≡ [] → position (is_released room) room.waits ≡ None → (o : Option ℕ) → position is_over room.lines ≡ o
        → Given (ends_or o (begins_or_rests room.agenda))
    by_end reading moving jobs released None is = by_agenda reading moving jobs released is room.agenda refl
    by_end reading moving jobs released (Some place) is = λ (never : false ≡ true). absurd (cc)

    by_free : room.reading ≡ None → position has_move room.lines ≡ None → room.jobs ≡ [] → (o : Option ℕ) → position (is_released room) room.waits ≡ o
        → Given (frees_or o (ends_or (position is_over room.lines) (begins_or_rests room.agenda)))
    by_free reading moving jobs None is = by_end reading moving jobs is (position is_over room.lines) refl
    by_free reading moving jobs (Some at) is = λ (never : false ≡ true). absurd (cc)

    by_move : room.reading ≡ None → (o : Option ℕ) → position has_move room.lines ≡ o → Given (moves_or o (if is_any room.jobs then next.Work else next_part room))
    by_move reading None is =
        of_if Given (is_any room.jobs) _ _ (λ some (never : false ≡ true). absurd (cc))
        (λ here. by_free reading is (no_jobs room.jobs here) (position (is_released room) room.waits) refl)
    by_move reading (Some place) is = λ (never : false ≡ true). absurd (cc)

pub rest_is_rest : RestIsRest
rest_is_rest room rested = no_next room rested

-- ---- each step

pub steps_leave_less : (H : Type 0) → StepsLeaveLess H
steps_leave_less H calling plan s b c ms routes fit goes reaches =
    let less = all_reached (λ (d : Both H). IsLess s b.room d.room) ms (step calling plan (next_of b.room) b.host b.room) c (step_less calling plan s b.host b.room routes fit goes) reaches in
    (less.fit, less.less)

-- ---- the loop

pub record Settled (s : ℕ) (room : Room) : Type 0 where
  pub fit : AllFit s room.lines
  pub rested : IsAtRest room

module _ {H : Type 0} (calling : Calling H) (plan : Plan) (s : ℕ) (routes : RoutesFit s plan.routes) where
  pub settles : (n : ℕ) (host : H) (room : Room) → AllFit s room.lines → work_left s room < n → AllEnds (λ (b : Both H). Settled s b.room) (settling calling plan n host room)
  settles zero host room fit less = absurd (omega arith)
  settles (suc n) host room fit less = by_rest (λ (b : Both H) (l : IsLess s room b.room). settles n b.host b.room l.fit (omega (arith, l.less))) (is_rest (next_of room)) refl
    where
      by_rest : ((b : Both H) → IsLess s room b.room → AllEnds (λ (c : Both H). Settled s c.room) (settling calling plan n b.host b.room)) → (r : Bool) → is_rest (next_of room) ≡ r
          → AllEnds (λ (b : Both H). Settled s b.room) (settling calling plan (suc n) host room)
      by_rest later true is =
          subst (AllEnds (λ (b : Both H). Settled s b.room)) (sym (settling_rest calling plan n (next_of room) host room refl is)) (record { fit = fit; rested = is })
      by_rest later false is =
          subst (AllEnds (λ (b : Both H). Settled s b.room)) (sym (settling_step calling plan n (next_of room) host room refl is))
          (all_then (λ (b : Both H). IsLess s room b.room) (λ (b : Both H). Settled s b.room) (step calling plan (next_of room) host room) (λ b. settling calling plan n b.host b.room)
          (step_less calling plan s host room routes fit is) later)

  -- whatever the bound, the exchanges fit
  pub settles_fitting : (n : ℕ) (host : H) (room : Room) → AllFit s room.lines → AllEnds (λ (b : Both H). AllFit s b.room.lines) (settling calling plan n host room)
  settles_fitting zero host room fit = subst (AllEnds (λ (b : Both H). AllFit s b.room.lines)) (sym (settling_none calling plan host room)) fit
  settles_fitting (suc n) host room fit = by_rest (λ (b : Both H) (l : IsLess s room b.room). settles_fitting n b.host b.room l.fit) (is_rest (next_of room)) refl
    where
      by_rest : ((b : Both H) → IsLess s room b.room → AllEnds (λ (c : Both H). AllFit s c.room.lines) (settling calling plan n b.host b.room)) → (r : Bool) → is_rest (next_of room) ≡ r
          → AllEnds (λ (b : Both H). AllFit s b.room.lines) (settling calling plan (suc n) host room)
      by_rest later true is =
          subst (AllEnds (λ (b : Both H). AllFit s b.room.lines)) (sym (settling_rest calling plan n (next_of room) host room refl is)) fit
      by_rest later false is =
          subst (AllEnds (λ (b : Both H). AllFit s b.room.lines)) (sym (settling_step calling plan n (next_of room) host room refl is))
          (all_then (λ (b : Both H). IsLess s room b.room) (λ (b : Both H). AllFit s b.room.lines) (step calling plan (next_of room) host room) (λ b. settling calling plan n b.host b.room)
          (step_less calling plan s host room routes fit is) later)

pub steps_come_to_rest : (H : Type 0) → StepsComeToRest H
steps_come_to_rest H calling plan s n b c ms routes fit less reaches =
    let all = all_reached (λ (d : Both H). Settled s d.room) ms (settling calling plan n b.host b.room) c (settles calling plan s routes n b.host b.room fit less) reaches in
    (all.fit, all.rested)
