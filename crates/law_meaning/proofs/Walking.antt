-- A turn is a walk.
use Rattle.std.proofs.Common.{◌≡◌, ℕ, zero, suc, Bool, true, false, List, [], ◌∷◌, ◌++◌, refl, ap, sym, ◌∙◌, subst, inl, inr}
use Rattle.std.specs.List.{flat_map}
use Rattle.std.proofs.lemmas.Bool.{cases_Bool}
use Rattle.std.proofs.lemmas.List.{append-nil}
use Rattle.filter_host.specs.Called.{Calling}
use Rattle.filter_host.specs.Course.{Course, ends, Met, Reaches}
use Rattle.gate_io.specs.Events.{is_stop}
use Rattle.gate_io.specs.declared.event.Event.{Event}
use Rattle.worker_model.specs.Plan.{Plan}
use Rattle.worker_model.specs.Rooms.{next_of}
use Rattle.worker_model.specs.Settling.{is_rest, settling, settling_none, settling_rest, settling_step}
use Rattle.worker_model.specs.Steps.{Both, both, step}
use Rattle.worker_model.specs.Turn.{Outcome, outcome_of, room_for_event, most_steps, turn_by}
use Rattle.streams_model.proofs.Http.{turn_is}
use Rattle.worker_model.specs.Room.{Room}
use Rattle.law_meaning.proofs.Splitting.{none_more, split}
use Rattle.law_meaning.specs.Walks.{Step, TurnsAreWalks, Walk, WalkOf, stays, steps}

module _ {H : Type 0} (calling : Calling H) (plan : Plan) where
  record Walked (from : Both H) (met : List Met) (to : Both H) : Type 0 where
    pub walk : List (Step H)
    pub walks : Walk calling plan from walk to
    pub met_is : flat_map (λ (s : Step H). s.met) walk ≡ met

  at_end : (from : Both H) (met : List Met) (to : Both H) → Reaches (ends from) met (ends to) → Walked from met to
  at_end from met to h =
      let none = none_more met from to h in
      record { walk = []; walks = subst (λ (b : Both H). Walk calling plan from [] b) none.1 (stays from); met_is = sym none.0 }

  settled : (n : ℕ) (host : H) (room : Room) (met : List Met) (to : Both H) → Reaches (settling calling plan n host room) met (ends to) → Walked (both host room) met to
  settled zero host room met to h = at_end (both host room) met to (subst (λ (p : Course (Both H)). Reaches p met (ends to)) (settling_none calling plan host room) h)
  settled (suc n) host room met to h = elim (cases_Bool (is_rest (next_of room))) [
    | inl at_rest ↦ at_end (both host room) met to (subst (λ (p : Course (Both H)). Reaches p met (ends to)) (settling_rest calling plan n (next_of room) host room refl at_rest) h)
    | inr goes_on ↦
        let s = split met (step calling plan (next_of room) host room) (λ (b : Both H). settling calling plan n b.host b.room) to
        (subst (λ (p : Course (Both H)). Reaches p met (ends to)) (settling_step calling plan n (next_of room) host room refl goes_on) h) in
        let far = settled n s.middle.host s.middle.room s.later to s.more in
        record {
          walk = record { before = both host room; met = s.first; after = s.middle } ∷ far.walk;
          walks = steps (both host room) s.middle to s.first far.walk goes_on s.one far.walks;
          met_is = ap (λ (ms : List Met). s.first ++ ms) far.met_is ∙ sym s.is;
        }
  ]

  walked : (stop : Bool) (from : Both H) (event : Event) (met : List Met) (end : Outcome H) → stop ≡ false → Reaches (turn_by calling plan stop from event) met (ends end) → WalkOf calling plan from event met end
  walked true from event met end goes h = absurd (cc goes)
  walked false from event met end goes h =
      let s = split met (settling calling plan most_steps from.host (room_for_event plan event from.room)) (λ (b : Both H). ends (outcome_of b)) end h in
      let none = none_more s.later (outcome_of s.middle) end s.more in
      let far = settled most_steps from.host (room_for_event plan event from.room) s.first s.middle s.one in
      record {
        to = s.middle;
        walk = far.walk;
        walks = far.walks;
        met_is = far.met_is ∙ sym (append-nil s.first) ∙ ap (λ (ms : List Met). s.first ++ ms) (sym none.0) ∙ sym s.is;
        end_is = sym none.1;
      }

pub turns_are_walks : (H : Type 0) → TurnsAreWalks H
turns_are_walks H calling plan from event met end http goes h =
    walked calling plan (is_stop event.what) from event met end goes (subst (λ (c : Course (Outcome H)). Reaches c met (ends end)) (turn_is calling plan from event http) h)
