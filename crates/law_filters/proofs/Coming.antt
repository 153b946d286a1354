-- Stages are made of the exchange on a line, and what was read is put to them.
use Rattle.std.proofs.Common.{◌≡◌, ℕ, zero, suc, ◌+◌, ◌==◌, Bool, false, not, List, [], ◌∷◌, length, cond, ap, ◌∙◌, sym, refl}
use Rattle.std.proofs.lemmas.Bool.{eqb-true}
use Rattle.std.specs.List.{position_or_len}
use Rattle.std.specs.Prelude.{Option, None, Some, slice_get, slice_set, nat_lt}
use Rattle.std.proofs.Math.ListN.{length-set}
use Rattle.exchange.specs.Passing.{put_read_items}
use Rattle.exchange.specs.declared.types.Exchange.{Exchange}
use Rattle.filter_chain.specs.declared.item.ChainItem.TheVariants.{Head}
use Rattle.worker_model.specs.Room.{Room}
use Rattle.worker_model.specs.declared.types.Line.{Line}
use Rattle.worker_model.specs.Rooms.{Changes, with_marks, in_exchange, put_back, at_some, at_place, with_lines, place_in, on_number}
use Rattle.worker_model.specs.Steps.{enter_stages, exchange_of_line, exchange_on, exchange_with_stages, in_place}
use Rattle.law_lines.proofs.Finding.{set_there}
use Rattle.law_lines.proofs.Kept.{put_in_kept}
use Rattle.law_lines.proofs.Stepping.{found_passes}
use Rattle.law_filters.proofs.Entering.{stages_await, stages_entered}
use Rattle.law_filters.proofs.Waiting.{heads_wait}
use Rattle.law_filters.specs.Heads.{HeadsComeToWait, WaitsOn, WaitsYet}

position_set : {A : Type 0} (p : A → Bool) (xs : List A) (i : ℕ) (x y : A) → slice_get xs i ≡ Some x → p y ≡ p x → position_or_len p (slice_set xs i y) ≡ position_or_len p xs
position_set p [] i x y at same = refl
position_set p (z ∷ xs) zero x y at same =
    let here : z ≡ x = (cc) in
    let first : p y ≡ p z = same ∙ ap p (sym here) in
    ap (λ (b : Bool). cond (not b) (1 + position_or_len p xs) 0) first
position_set p (z ∷ xs) (suc i) x y at same = ap (λ (m : ℕ). cond (not (p z)) (1 + m) 0) (position_set p xs i x y at same)

place_set : (n : ℕ) (lines : List Line) (place : ℕ) (line new : Line) → slice_get lines place ≡ Some line → new.number ≡ line.number → place_in n (slice_set lines place new) ≡ place_in n lines
place_set n lines place line new at same =
    let p : Line → Bool = λ (l : Line). l.number == n in
    let one : position_or_len p (slice_set lines place new) ≡ position_or_len p lines = position_set p lines place line new at (ap (λ m. m == n) same) in
    let two : length (slice_set lines place new) ≡ length lines = length-set lines place new in
    λ i. cond (nat_lt (one i) (two i)) (Some (one i)) None

same_exchange : (a b : Exchange) → Some a ≡ Some b → a ≡ b
same_exchange a b e = cc e

-- the exchange on a line after a change of it
changed : (change : Changes) (n : ℕ) (room : Room) (x : Exchange) → exchange_on n room ≡ Some x → exchange_on n (on_number change n room) ≡ Some (change n x room.hub).0
changed change n room x on = by_place (place_in n room.lines) refl on
  where
    by_place : (o : Option ℕ) → place_in n room.lines ≡ o → exchange_of_line (in_place room.lines o) ≡ Some x → exchange_on n (with_lines room (at_place change room.lines o room.hub)) ≡ Some (change n x room.hub).0
    by_place None at is = absurd (cc is)
    by_place (Some place) at is = by_line (slice_get room.lines place) refl is
      where
        by_line : (o : Option Line) → slice_get room.lines place ≡ o → exchange_of_line o ≡ Some x → exchange_on n (with_lines room (at_some change room.lines place o room.hub)) ≡ Some (change n x room.hub).0
        by_line None there is = absurd (cc is)
        by_line (Some line) there is = by_exchange line.exchange is
          where
            number_is : line.number ≡ n
            number_is = eqb-true line.number n (found_passes (λ (l : Line). l.number == n) room.lines place line at there)

            by_exchange : (o : Option Exchange) → o ≡ Some x → exchange_on n (with_lines room (put_back room.lines place (in_exchange change line o room.hub))) ≡ Some (change n x room.hub).0
            by_exchange None is = absurd (cc is)
            by_exchange (Some y) is =
                let new : Line = record line { exchange = Some (with_marks (change line.number y room.hub)).0 } in
                let stands : place_in n (slice_set room.lines place new) ≡ Some place = place_set n room.lines place line new there refl ∙ at in
                ap (λ (o : Option ℕ). exchange_of_line (in_place (slice_set room.lines place new) o)) stands
                ∙ (ap exchange_of_line (set_there room.lines place line new there)
                ∙ (ap (λ (m : ℕ). Some (change m y room.hub).0) number_is ∙ ap (λ (z : Exchange). Some (change n z room.hub).0) (same_exchange y x is)))

pub heads_come_to_wait : HeadsComeToWait
heads_come_to_wait n k end items room x f on runs free at live =
    let made : Room = on_number (enter_stages room.dead) n room in
    let y : Exchange = exchange_with_stages room.dead x in
    let there : exchange_on n made ≡ Some y = changed (enter_stages room.dead) n room x on in
    let w : WaitsYet f.vm f.context y = stages_await room.dead x k f runs free at live in
    let begins : WaitsOn f.vm f.context made.hub (put_read_items false (Head end ∷ items) n y made.hub) = (heads_wait f.vm f.context).begins end items n y made.hub w in
    ((put_read_items false (Head end ∷ items) n y made.hub).0, changed (put_read_items false (Head end ∷ items)) n made y there, (put_in_kept false (Head end ∷ items) n y made.hub).entered ∙ stages_entered room.dead x runs free, begins.waits)
