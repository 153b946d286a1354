-- Why moves of other lines and of the other direction are what the law takes a worker to do besides.
use Rattle.std.proofs.Common.{◌≡◌, ℕ, Bool, not, List, [], ◌∷◌, ap, ◌∙◌, sym, refl, subst}
use Rattle.std.specs.Prelude.{Option, None, Some, slice_get}
use Rattle.filter_host.specs.Called.{Called}
use Rattle.filter_host.specs.Course.{ends, Met, Reaches}
use Rattle.filter_host.specs.declared.host.CallbackEnd.{CallbackEnd}
use Rattle.exchange.specs.declared.types.Exchange.{Exchange}
use Rattle.exchange.specs.declared.types.Hub.{Hub}
use Rattle.exchange.specs.Answering.{with_held}
use Rattle.exchange.specs.Passing.{apply_action}
use Rattle.worker_model.specs.Room.{Room}
use Rattle.worker_model.specs.declared.types.Asked.{Asked}
use Rattle.worker_model.specs.declared.types.Line.{Line}
use Rattle.worker_model.specs.declared.types.Owner.{Owner}
use Rattle.worker_model.specs.declared.types.Owner.TheVariants as owns
use Rattle.worker_model.specs.Moves.{asks_at}
use Rattle.worker_model.specs.Rooms.{with_lines, on_number, take_callback_end, value_of_end}
use Rattle.worker_model.specs.Steps.{Both, both, action_of, apply_stage_action, moved_with}
use Rattle.law_flow.specs.Elsewhere.{IsBeside, behind_effects, asked_program, IsElsewhere, OtherLinesMove, IsAcross, OtherDirectionMoves}
use Rattle.law_flow.specs.Rooms.{IsOn, Leaves, Others, leaves, asked_exchange, question, stage_own, quiet_room, Meanwhile, nothing, other}
use Rattle.law_flow.specs.Steps.{callback_program}
use Rattle.law_body.proofs.Apart.{exchanges_pass_by}
use Rattle.law_flow.proofs.Besides.{other_lines, other_direction}
use Rattle.law_flow.proofs.Effects.{effects_seen, quietly, others_run, asking_elsewhere}
use Rattle.law_flow.proofs.Moving.{Ran, behind_it, the_asked, the_lines, asks_is, move_ran}
use Rattle.law_flow.proofs.Rooms.{others_on}

pub run_then : {response : Bool} {n count : ℕ} {x y z : Exchange} {room mid after : Room} → Meanwhile response n count x room y mid → Meanwhile response n count y mid z after
    → Meanwhile response n count x room z after
run_then (nothing x room) later = later
run_then (other o first) later = other o (run_then first later)

-- a callback beside
pub record Beside (H : Type 0) (response : Bool) (n count : ℕ) (x : Exchange) (room after : Room) : Type 0 where
  pub then_is : Exchange
  pub on : IsOn n after then_is
  pub run : Meanwhile response n count x room then_is after

pub beside : {H : Type 0} (response : Bool) (n count vm : ℕ) (own : Owner) (c : Called H) (x : Exchange) (room : Room) → IsOn n room x → IsBeside response n count vm own c x room
    → Beside H response n count x room (behind_effects vm own c room)
beside {H} response n count vm own c x room on is =
    let mid : Room = quiet_room c room in
    let seen : (z : Exchange) × Others response n count None vm own c.contexts.effects x mid z = effects_seen response n count None vm own c.contexts.effects x mid is.effects in
    record {
      then_is = seen.0;
      on = others_on response n count None vm own c.contexts.effects x mid seen.0 seen.1;
      run = other (leaves (quietly response n c x room on is.holds is.there)) (others_run H response n count vm own c.contexts.effects x mid seen.0 seen.1);
    }

-- ---- another line

pub other_lines_move : (H : Type 0) → OtherLinesMove H
other_lines_move H calling plan response n count place x room on host ms b alien whole apart callbacks reaches =
    by_asked (asks_at place (slice_get room.lines place) room.lines room.hub) refl
  where
    first : Leaves response n x room x (with_lines room ((asks_at place (slice_get room.lines place) room.lines room.hub).1, (asks_at place (slice_get room.lines place) room.lines room.hub).2))
    first = asking_elsewhere response n place x room on alien whole apart

    by_asked : (r : Option Asked × List Line × Hub) → asks_at place (slice_get room.lines place) room.lines room.hub ≡ r → (y : Exchange) × Meanwhile response n count x room y b.room
    by_asked (None, lines, hub) is =
        let here : Reaches (moved_with calling host room (None, lines, hub)) ms (ends b) = subst (λ (r : Option Asked × List Line × Hub). Reaches (moved_with calling host room r) ms (ends b)) is reaches in
        let l : Leaves response n x room x (with_lines room (lines, hub)) = subst (λ (r : Option Asked × List Line × Hub). Leaves response n x room x (with_lines room (r.1, r.2))) is first in
        ended ms here l
      where
        ended : (ns : List Met) → Reaches (ends (both host (with_lines room (lines, hub)))) ns (ends b) → Leaves response n x room x (with_lines room (lines, hub))
            → (y : Exchange) × Meanwhile response n count x room y b.room
        ended [] same l =
            let is_b : b ≡ both host (with_lines room (lines, hub)) = sym (cc) in
            subst (λ (d : Both H). (y : Exchange) × Meanwhile response n count x room y d.room) (sym is_b) (x, other (leaves l) (nothing x (with_lines room (lines, hub))))
        ended (m ∷ ns) same l = absurd same
    by_asked (Some a, lines, hub) is =
        let room1 : Room = with_lines room (lines, hub) in
        let own : Owner = owns.Stage a.context a.response in
        let l : Leaves response n x room x room1 = subst (λ (r : Option Asked × List Line × Hub). Leaves response n x room x (with_lines room (r.1, r.2))) is first in
        let end : Ran (asked_program calling host a room1) (behind_it a room1) ms b = move_ran calling place host room a lines hub ms b is reaches in
        let c : Called H = end.end in
        let e : IsElsewhere response n count a c x room1 = callbacks a lines hub c is end.reached in
        let mid : Beside H response n count x room1 (behind_effects a.vm own c room1) = beside response n count a.vm own c x room1 l.on e.callback in
        let room2 : Room = behind_effects a.vm own c room1 in
        let value : Option ℕ = e.callback.value in
        let last : Room = on_number (apply_action a.response a.ask.stage (action_of value)) a.line room2 in
        let m : Leaves response n mid.then_is room2 mid.then_is last
        = other_lines.by_number (apply_action a.response a.ask.stage (action_of value)) (exchanges_pass_by.acting a.response a.ask.stage (action_of value)) response n a.line mid.then_is room2 mid.on
        (e.alien mid.then_is mid.on) (e.whole mid.then_is mid.on) (e.away mid.then_is mid.on) in
        let is_b : b ≡ both c.host last
        = end.is ∙ ap (λ (t : CallbackEnd). both c.host (apply_stage_action a (value_of_end t) (take_callback_end a.vm own t c.lines c.contexts room1))) e.callback.returned in
        subst (λ (d : Both H). (y : Exchange) × Meanwhile response n count x room y d.room) (sym is_b)
        (mid.then_is, other (leaves l) (run_then mid.run (other (leaves m) (nothing mid.then_is last))))

-- ---- the other direction

pub other_direction_moves : (H : Type 0) → OtherDirectionMoves H
other_direction_moves H calling plan response n count x room q host ms b alien whole callbacks reaches =
    let a : Asked = the_asked q in
    let room1 : Room = question q in
    let own : Owner = stage_own q in
    let l : Leaves response n x room (asked_exchange q) room1 = other_direction.asking response n x room q alien whole in
    let end : Ran (callback_program calling host q) (behind_it a room1) ms b
    = move_ran calling q.on.place host room a (the_lines q) (with_held q.contexts room.hub) ms b (asks_is q) reaches in
    let c : Called H = end.end in
    let e : IsAcross response count q c = callbacks c end.reached in
    let mid : Beside H response n count (asked_exchange q) room1 (behind_effects q.stage.vm own c room1) = beside response n count q.stage.vm own c (asked_exchange q) room1 l.on e.callback in
    let room2 : Room = behind_effects q.stage.vm own c room1 in
    let value : Option ℕ = e.callback.value in
    let last : Room = on_number (apply_action (not response) q.ask.stage (action_of value)) n room2 in
    let z : Exchange = (apply_action (not response) q.ask.stage (action_of value) n mid.then_is room2.hub).0 in
    let m : Leaves response n mid.then_is room2 z last
    = other_direction.acting response n q.ask.stage (action_of value) mid.then_is room2 mid.on (e.alien mid.then_is mid.on) (e.whole mid.then_is mid.on) (e.runs mid.then_is mid.on)
    (e.goes mid.then_is mid.on) in
    let is_b : b ≡ both c.host last
    = end.is ∙ ap (λ (t : CallbackEnd). both c.host (apply_stage_action a (value_of_end t) (take_callback_end a.vm own t c.lines c.contexts room1))) e.callback.returned in
    subst (λ (d : Both H). (y : Exchange) × Meanwhile response n count x room y d.room) (sym is_b)
    (z, other (leaves l) (run_then mid.run (other (leaves m) (nothing z last))))
