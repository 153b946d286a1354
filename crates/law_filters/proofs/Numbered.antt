-- What is done to the exchange on a line leaves the lines and what they have in common.
use Rattle.std.proofs.Common.{◌≡◌, ℕ, ◌==◌, refl, ap, ◌∙◌, sym}
use Rattle.std.proofs.lemmas.Bool.{eqb-true}
use Rattle.std.specs.Option.{option_map}
use Rattle.std.specs.Prelude.{Option, None, Some, slice_get, slice_set}
use Rattle.exchange.specs.declared.types.Exchange.{Exchange}
use Rattle.worker_model.specs.Room.{Room}
use Rattle.worker_model.specs.declared.types.Line.{Line}
use Rattle.worker_model.specs.Rooms.{Changes, with_marks, in_exchange, put_back, at_some, at_place, with_lines, place_in, on_number}
use Rattle.worker_model.specs.Steps.{exchange_of_line, exchange_on, in_place, line_at, line_at_place, on_line, with_exchange}
use Rattle.law_lines.proofs.Finding.{IsOnce}
use Rattle.law_lines.proofs.Looks.{is_n, line_in_is, look, equal_is}
use Rattle.law_lines.proofs.OnLines.{on_same}
use Rattle.law_lines.proofs.Stepping.{found_passes}
use Rattle.law_filters.proofs.Before.{IsFound, find_it}

same_exchange : (a b : Exchange) → Some a ≡ Some b → a ≡ b
same_exchange a b e = cc e

-- the line has the new exchange, and all lines have this in common
pub record Becomes (change : Changes) (n : ℕ) (room : Room) (x : Exchange) (new : Room) : Type 0 where
  pub lines : new.lines ≡ on_line (with_exchange (change n x room.hub).0) n room.lines
  pub hub : new.hub ≡ (with_marks (change n x room.hub)).1

pub number_is : (change : Changes) (n : ℕ) (room : Room) (x : Exchange) → exchange_on n room ≡ Some x → Becomes change n room x (on_number change n room)
number_is change n room x on = by_place (place_in n room.lines) refl on
  where
    y : Exchange
    y = (change n x room.hub).0

    by_line : (place : ℕ) (o : Option Line) → place_in n room.lines ≡ Some place → slice_get room.lines place ≡ o → exchange_of_line o ≡ Some x
        → ((with_lines room (at_some change room.lines place o room.hub)).lines ≡ line_at (with_exchange y) room.lines place o) × ((with_lines room (at_some change room.lines place o room.hub)).hub ≡ (with_marks (change n x room.hub)).1)
    by_line place None at there is = absurd (cc is)
    by_line place (Some line) at there is = by_exchange line.exchange is
      where
        number_is_n : line.number ≡ n
        number_is_n = eqb-true line.number n (found_passes (λ (l : Line). l.number == n) room.lines place line at there)

        by_exchange : (o : Option Exchange) → o ≡ Some x
            → ((with_lines room (put_back room.lines place (in_exchange change line o room.hub))).lines ≡ slice_set room.lines place (with_exchange y line)) × ((with_lines room (put_back room.lines place (in_exchange change line o room.hub))).hub ≡ (with_marks (change n x room.hub)).1)
        by_exchange None is = absurd (cc is)
        by_exchange (Some z) is =
            let same : z ≡ x = same_exchange z x is in
            ((λ i. slice_set room.lines place (record line { exchange = Some (change (number_is_n i) (same i) room.hub).0 })), (λ i. (with_marks (change (number_is_n i) (same i) room.hub)).1))

    by_place : (o : Option ℕ) → place_in n room.lines ≡ o → exchange_of_line (in_place room.lines o) ≡ Some x → Becomes change n room x (on_number change n room)
    by_place None at is = absurd (cc is)
    by_place (Some place) at is =
        let r = by_line place (slice_get room.lines place) at refl is in
        record {
          lines = ap (λ (p : Option ℕ). (with_lines room (at_place change room.lines p room.hub)).lines) at ∙ (r.0 ∙ ap (λ (p : Option ℕ). line_at_place (with_exchange y) room.lines p) (sym at));
          hub = ap (λ (p : Option ℕ). (with_lines room (at_place change room.lines p room.hub)).hub) at ∙ r.1;
        }

-- it is the exchange on the line then
pub becomes_on : (change : Changes) (n : ℕ) (room new : Room) (x : Exchange) → IsOnce (is_n n) room.lines → exchange_on n room ≡ Some x → Becomes change n room x new → exchange_on n new ≡ Some (change n x room.hub).0
becomes_on change n room new x once on b =
    let y : Exchange = (change n x room.hub).0 in
    let f : IsFound n room x = find_it n room x on in
    let found : look n new.lines ≡ Some (with_exchange y f.line)
    = ap (look n) b.lines ∙ (on_same n n (with_exchange y) room.lines (λ l. refl) once (equal_is n n refl) ∙ ap (option_map (with_exchange y)) f.there) in
    ap exchange_of_line (line_in_is n new.lines ∙ found)
