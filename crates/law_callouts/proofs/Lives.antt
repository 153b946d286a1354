-- Whole turns are steps, one after another.
use Rattle.std.proofs.Common.{◌≡◌, ℕ, zero, suc, Bool, true, false, List, [], ◌∷◌, ◌++◌, map, refl, ap, sym, subst, inl, inr}
use Rattle.std.proofs.lemmas.Bool.{cases_Bool}
use Rattle.filter_host.specs.Called.{Calling}
use Rattle.filter_host.specs.Course.{Course, ends, Met, Reaches}
use Rattle.gate_io.specs.Events.{is_stop}
use Rattle.gate_io.specs.declared.event.Event.{Event}
use Rattle.worker_model.specs.Plan.{Plan}
use Rattle.worker_model.specs.Room.{Room}
use Rattle.worker_model.specs.Rooms.{next_of}
use Rattle.worker_model.specs.Settling.{is_rest, settling, settling_none, settling_rest, settling_step}
use Rattle.worker_model.specs.Steps.{Both, both, step}
use Rattle.worker_model.specs.Turn.{Outcome, outcome_of, room_for_event, without_sent, most_steps, turn_by}
use Rattle.law_meaning.specs.Turns.{Turn, Turns}
use Rattle.law_meaning.specs.Walks.{Step}
use Rattle.streams_model.proofs.Http.{turn_is}
use Rattle.law_callouts.proofs.Splitting.{none_more, split}
use Rattle.law_callouts.specs.Ends.{Life, rests, steps, turns, AreWhole, LifeOf, TurnsAreLives}

module _ {H : Type 0} (calling : Calling H) (plan : Plan) where
  -- some steps, and then more
  then_lives : (b m e : Both H) (es fs : List Event) (all more : List (Step H)) → Life calling plan b es all m → Life calling plan m fs more e → Life calling plan b (es ++ fs) (all ++ more) e
  then_lives _ _ e _ fs _ more (rests b is) later = later
  then_lives _ _ e _ fs _ more (steps b t m ms es all busy reach first) later = steps b t e ms (es ++ fs) (all ++ more) busy reach (then_lives t m e es fs all more first later)
  then_lives _ _ e _ fs _ more (turns b m event es all is goes first) later =
      turns b e event (es ++ fs) (all ++ more) is goes (then_lives (both b.host (room_for_event plan event (without_sent b.room))) m e es fs all more first later)

  record Settled (from to : Both H) : Type 0 where
    pub all : List (Step H)
    pub life : Life calling plan from [] all to

  at_end : (from to : Both H) (met : List Met) → is_rest (next_of to.room) ≡ true → Reaches (ends from) met (ends to) → Settled from to
  at_end from to met rested h =
      let none = none_more met from to h in
      record { all = []; life = subst (λ (b : Both H). Life calling plan b [] [] to) (sym none.1) (rests to rested) }

  settled : (n : ℕ) (host : H) (room : Room) (met : List Met) (to : Both H) → is_rest (next_of to.room) ≡ true → Reaches (settling calling plan n host room) met (ends to) → Settled (both host room) to
  settled zero host room met to rested h = at_end (both host room) to met rested (subst (λ (p : Course (Both H)). Reaches p met (ends to)) (settling_none calling plan host room) h)
  settled (suc n) host room met to rested h = elim (cases_Bool (is_rest (next_of room))) [
    | inl at_rest ↦ at_end (both host room) to met rested (subst (λ (p : Course (Both H)). Reaches p met (ends to)) (settling_rest calling plan n (next_of room) host room refl at_rest) h)
    | inr busy ↦
        let s = split met (step calling plan (next_of room) host room) (λ (b : Both H). settling calling plan n b.host b.room) to
        (subst (λ (p : Course (Both H)). Reaches p met (ends to)) (settling_step calling plan n (next_of room) host room refl busy) h) in
        let far = settled n s.middle.host s.middle.room s.later to rested s.more in
        record { all = record { before = both host room; met = s.first; after = s.middle } ∷ far.all; life = steps (both host room) s.middle to s.first [] far.all busy s.one far.life }
  ]

  -- one turn: where its steps lead, and what it comes to
  record OneTurn (b : Both H) (event : Event) (end : Outcome H) : Type 0 where
    pub to : Both H
    pub all : List (Step H)
    pub life : Life calling plan b (event ∷ []) all to
    pub is : end ≡ outcome_of to

  one_turn : (stop : Bool) (b : Both H) (event : Event) (met : List Met) (end : Outcome H) → is_stop event.what ≡ stop → stop ≡ false → is_rest (next_of b.room) ≡ true → is_rest (next_of end.state.room) ≡ true
      → Reaches (turn_by calling plan stop (both b.host (without_sent b.room)) event) met (ends end) → OneTurn b event end
  one_turn true b event met end kind goes is rested h = absurd (cc)
  one_turn false b event met end kind goes is rested h =
      let begun : Room = room_for_event plan event (without_sent b.room) in
      let s = split met (settling calling plan most_steps b.host begun) (λ (b : Both H). ends (outcome_of b)) end h in
      let none = none_more s.later (outcome_of s.middle) end s.more in
      let there : is_rest (next_of s.middle.room) ≡ true = subst (λ (o : Outcome H). is_rest (next_of o.state.room) ≡ true) (sym none.1) rested in
      let far : Settled (both b.host begun) s.middle = settled most_steps b.host begun s.first s.middle there s.one in
      record { to = s.middle; all = far.all; life = turns b s.middle event [] far.all is kind far.life; is = sym none.1 }

  are_lives : (b to : Both H) (all : List (Turn H)) → plan.tcp ≡ [] → is_rest (next_of b.room) ≡ true → Turns calling plan (both b.host (without_sent b.room)) all to → AreWhole all
      → LifeOf calling plan b (map (λ (t : Turn H). t.event) all) to
  are_lives b to [] http is chain whole = record { all = []; end = b; life = rests b is; is = chain }
  are_lives b to (t ∷ more) http is chain whole =
      let met = subst (λ (c : Course (Outcome H)). Reaches c t.met (ends t.end)) (turn_is calling plan (both b.host (without_sent b.room)) t.event http) chain.0 in
      let one : OneTurn b t.event t.end = one_turn (is_stop t.event.what) b t.event t.met t.end refl whole.0 is whole.1 met in
      let state : t.end.state ≡ both one.to.host (without_sent one.to.room) = ap (λ (o : Outcome H). o.state) one.is in
      let there : is_rest (next_of one.to.room) ≡ true = subst (λ (s : Both H). is_rest (next_of s.room) ≡ true) state whole.1 in
      let far : LifeOf calling plan one.to (map (λ (t : Turn H). t.event) more) to
      = are_lives one.to to more http there (subst (λ (s : Both H). Turns calling plan s more to) state chain.1) whole.2 in
      record {
        all = one.all ++ far.all;
        end = far.end;
        life = then_lives b one.to far.end (t.event ∷ []) (map (λ (t : Turn H). t.event) more) one.all far.all one.life far.life;
        is = far.is;
      }

pub turns_are_lives : (H : Type 0) → TurnsAreLives H
turns_are_lives H calling plan b to all http is chain whole = are_lives calling plan b to all http is chain whole
