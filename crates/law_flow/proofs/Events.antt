-- Why what happens on lines leaves a direction as it was.
use Rattle.std.proofs.Common.{◌≡◌, ◌<◌, ℕ, zero, suc, ◌+◌, ◌==◌, Bool, true, false, not, ◌&&◌, List, [], ◌∷◌, length, get_or, cond, ap, ◌∙◌, sym, refl, eq-eqb, ne_eqb, arith}
use Rattle.std.specs.List.{position_or_len, list_any, insert, remove}
use Rattle.std.specs.Prelude.{Option, None, Some, is_some, slice_get, nat_lt, if◌then◌else◌}
use Rattle.std.proofs.lemmas.Bool.{eqb-true}
use Rattle.std.proofs.lemmas.List.Quantifiers.{position-Some}
use Rattle.std.proofs.lemmas.Option.{get_or_from_slice_get}
use Rattle.exchange.specs.declared.types.Exchange.{Exchange}
use Rattle.exchange.specs.declared.types.Hub.{Hub}
use Rattle.exchange.specs.Passing.{chain_of, refuse_exchange, expire_exchange}
use Rattle.gate_io.specs.declared.event.Side.TheVariants.{Down, Up}
use Rattle.gate_io.specs.declared.event.What.{What}
use Rattle.gate_io.specs.declared.event.What.TheVariants as whats
use Rattle.worker_model.specs.Room.{Room}
use Rattle.worker_model.specs.declared.types.Line.{Line}
use Rattle.worker_model.specs.Rooms.{with_marks, in_exchange, put_back, at_some, at_place, with_lines, all_lines, place_in, on_number}
use Rattle.worker_model.specs.Steps.{enter_stages, in_place, line_in, exchange_of_line, exchange_on, change_line, on_lines, without_place, drop_line, close_line, read_side, end_line, refusal_sent, refuse_in, refuse_line, most_lines, new_line, place_for, accept_line, side_with_more, with_further, line_reading, is_open, is_answered_in, is_read_in, receive, exchange_without_client, line_without_client, lose_client, is_missed, lose_server, take_event, is_late}
use Rattle.law_flow.specs.Besides.{OthersAreAlien, IsWhole}
use Rattle.law_flow.specs.Events.{LosesNone, EventsLeave}
use Rattle.law_flow.specs.Rooms.{IsOn, Leaves}
use Rattle.law_body.proofs.Apart.{exchanges_pass_by}
use Rattle.law_flow.proofs.Besides.{stays, on_other, other_lines}
use Rattle.law_flow.proofs.Deaths.{all_lines_leave}
use Rattle.law_chain.proofs.Holding.{hold_all, hold_then, hold_by_vms, there_by_vms}
use Rattle.law_flow.proofs.Lines.{marking_vms}
use Rattle.law_flow.proofs.Readings.{Gentle, IsSoft, soft_exchange, lines_gentle}

by_bool : {A : Type 0} (P : A → Type 0) (b : Bool) (a c : A) → (b ≡ true → P a) → (b ≡ false → P c) → P (if b then a else c)
by_bool P true a c here there = here refl
by_bool P false a c here there = there refl

-- ---- the first line of a number

abbrev found : ℕ → List Line → Option Line
found n [] = None
found n (l ∷ lines) = if l.number == n then Some l else found n lines

first_at : (n : ℕ) (lines : List Line) (i : ℕ) (line d : Line) → slice_get lines i ≡ Some line → line.number ≡ n → ((k : ℕ) → k < i → ((get_or lines k d).number == n) ≡ false)
    → found n lines ≡ Some line
first_at n [] i line d at number none = absurd (cc)
first_at n (l ∷ lines) zero line d at number none =
    let here : l ≡ line = (cc) in
    let yes_ : (l.number == n) ≡ true = eq-eqb l.number n (ap (λ (k : Line). k.number) here ∙ number) in
    rw yes_ (ap (λ (k : Line). Some k) here)
first_at n (l ∷ lines) (suc i) line d at number none =
    let no_ : (l.number == n) ≡ false = none 0 (omega arith) in
    rw no_ (first_at n lines i line d at number (λ k less. none (suc k) (omega arith)))

to_found : (n : ℕ) (room : Room) (x : Exchange) (on : IsOn n room x) → found n room.lines ≡ Some on.line
to_found n room x on =
    let first = position-Some (λ (l : Line). l.number == n) room.lines on.place on.line on.stands in
    first_at n room.lines on.place on.line on.line on.at on.number first.2

record Stands (n : ℕ) (lines : List Line) (line : Line) : Type 0 where
  place : ℕ
  position : position_or_len (λ (l : Line). l.number == n) lines ≡ place
  less : place < length lines
  at : slice_get lines place ≡ Some line
  number : line.number ≡ n

from_found : (n : ℕ) (lines : List Line) (line : Line) → found n lines ≡ Some line → Stands n lines line
from_found n [] line is = absurd (cc)
from_found n (l ∷ lines) line is = by_number (from_found n lines line) (l.number == n) refl
  where
    by_number : (found n lines ≡ Some line → Stands n lines line) → (b : Bool) → (l.number == n) ≡ b → Stands n (l ∷ lines) line
    by_number later true e =
        let here : Some l ≡ Some line = rw e at is in
        let one : l ≡ line = (cc) in
        record { place = 0; position = rw e; less = omega arith; at = here; number = ap (λ (k : Line). k.number) (sym one) ∙ eqb-true l.number n e }
    by_number later false e =
        let s : Stands n lines line = later (rw e at is) in
        record { place = suc s.place; position = rw e (ap (λ (m : ℕ). 1 + m) s.position ∙ (omega arith)); less = omega (arith, s.less); at = s.at; number = s.number }

less_test : (a b : ℕ) → a < b → nat_lt a b ≡ true
less_test a b less = grind (arith, less)

on_found : (n : ℕ) (room : Room) (x : Exchange) (line : Line) → found n room.lines ≡ Some line → line.exchange ≡ Some x → IsOn n room x
on_found n room x line is has =
    let s : Stands n room.lines line = from_found n room.lines line is in
    record {
      place = s.place;
      line = line;
      stands =
          (λ i. cond (nat_lt (s.position i) (length room.lines)) (Some (s.position i)) None)
          ∙ ap (λ (b : Bool). cond b (Some s.place) None) (less_test s.place (length room.lines) s.less);
      at = s.at;
      number = s.number;
      exchange = has;
    }

found_inserted : (n : ℕ) (lines : List Line) (i : ℕ) (new : Line) → (new.number == n) ≡ false → found n (insert lines i new) ≡ found n lines
found_inserted n [] zero new no_ = rw no_
found_inserted n [] (suc i) new no_ = rw no_
found_inserted n (l ∷ lines) zero new no_ = rw no_
found_inserted n (l ∷ lines) (suc i) new no_ = ap (λ (o : Option Line). if l.number == n then Some l else o) (found_inserted n lines i new no_)

found_removed : (n : ℕ) (lines : List Line) (i : ℕ) (line : Line) → slice_get lines i ≡ Some line → (line.number == n) ≡ false → found n (remove lines i) ≡ found n lines
found_removed n [] i line at no_ = absurd (cc)
found_removed n (l ∷ lines) zero line at no_ =
    let here : l ≡ line = (cc) in
    let no_here : (l.number == n) ≡ false = ap (λ (k : Line). k.number == n) here ∙ no_ in
    rw no_here
found_removed n (l ∷ lines) (suc i) line at no_ = ap (λ (o : Option Line). if l.number == n then Some l else o) (found_removed n lines i line at no_)

-- ---- rooms whose contexts are the same

relined : (response : Bool) (n : ℕ) (x : Exchange) (room after : Room) (on : IsOn n room x) → IsWhole response x room → found n after.lines ≡ found n room.lines
    → after.hub.contexts.vms ≡ room.hub.contexts.vms → Leaves response n x room x after
relined response n x room after on whole is vms = record {
  on = on_found n after x on.line (is ∙ to_found n room x on) on.exchange;
  chain = refl;
  holds = hold_by_vms room.hub.contexts after.hub.contexts (chain_of response x) vms;
  there = there_by_vms room.hub.contexts after.hub.contexts (chain_of response x) vms whole;
}

none_past : {A : Type 0} (xs : List A) (i : ℕ) → i < length xs → slice_get xs i ≡ None → ⊥
none_past [] i less at = omega arith
none_past (x ∷ xs) zero less at = cc at
none_past (x ∷ xs) (suc i) less at = none_past xs i (omega arith) at

-- the line at the place of another number is another one
other_number : (m : ℕ) (room : Room) (place : ℕ) (d line : Line) → place_in m room.lines ≡ Some place → slice_get room.lines place ≡ Some line → line.number ≡ m
other_number m room place d line stands at =
    let first = position-Some (λ (l : Line). l.number == m) room.lines place line stands in
    eqb-true line.number m (sym (ap (λ (k : Line). k.number == m) (get_or_from_slice_get room.lines place line line at)) ∙ first.1)

drops_leave : (number : ℕ) (response : Bool) (n : ℕ) (x : Exchange) (room : Room) → IsOn n room x → IsWhole response x room → (number ≡ n → ⊥) → Leaves response n x room x (drop_line number room)
drops_leave number response n x room on whole apart = by_place (place_in number room.lines) refl
  where
    by_line : (place : ℕ) → place_in number room.lines ≡ Some place → (l : Option Line) → slice_get room.lines place ≡ l
        → Leaves response n x room x (record room { lines = remove room.lines place })
    by_line place stands None at =
        let first = position-Some (λ (l : Line). l.number == number) room.lines place on.line stands in
        absurd (none_past room.lines place first.0 at)
    by_line place stands (Some line) at =
        let m : line.number ≡ number = other_number number room place line line stands at in
        relined response n x room (record room { lines = remove room.lines place }) on whole
        (found_removed n room.lines place line at (ne_eqb line.number n (λ e. apart (sym m ∙ e)))) refl

    by_place : (o : Option ℕ) → place_in number room.lines ≡ o → Leaves response n x room x (record room { lines = without_place room.lines o })
    by_place None stands = relined response n x room (record room { lines = room.lines }) on whole refl refl
    by_place (Some place) stands = by_line place stands (slice_get room.lines place) refl

closes_leave : (number : ℕ) (response : Bool) (n : ℕ) (x : Exchange) (room : Room) → IsOn n room x → IsWhole response x room → (number ≡ n → ⊥) → Leaves response n x room x (close_line number room)
closes_leave number response n x room on whole apart =
    let l : Leaves response n x room x (drop_line number room) = drops_leave number response n x room on whole apart in
    record {
      on = record { place = l.on.place; line = l.on.line; stands = l.on.stands; at = l.on.at; number = l.on.number; exchange = l.on.exchange };
      chain = refl;
      holds = l.holds;
      there = l.there;
    }

ends_leave : (number : ℕ) (stay : Bool) (response : Bool) (n : ℕ) (x : Exchange) (room : Room) → IsOn n room x → IsWhole response x room → (number ≡ n → ⊥) → (o : Option Line)
    → Leaves response n x room x (end_line o number stay room)
ends_leave number stay response n x room on whole apart None = stays response n x room on whole
ends_leave number stay response n x room on whole apart (Some line) =
    by_bool (Leaves response n x room x) line.is_gone (drop_line number room) (if stay then read_side number false room else close_line number room)
    (λ e. drops_leave number response n x room on whole apart)
    (λ e.
    by_bool (Leaves response n x room x) stay (read_side number false room) (close_line number room)
    (λ d. relined response n x room (read_side number false room) on whole refl refl) (λ d. closes_leave number response n x room on whole apart))

-- ---- refusals

apart_place : (n number : ℕ) (x : Exchange) (room : Room) (on : IsOn n room x) → (number ≡ n → ⊥) → place_in number room.lines ≡ Some on.place → ⊥
apart_place n number x room on apart stands = apart (sym (other_number number room on.place on.line on.line stands on.at) ∙ on.number)

refuses_leave : (number status : ℕ) (response : Bool) (n : ℕ) (x : Exchange) (room : Room) (on : IsOn n room x) → OthersAreAlien (chain_of response x) on.place room
    → IsWhole response x room → (number ≡ n → ⊥) → (o : Option Line) → Leaves response n x room x (refuse_line o number status room)
refuses_leave number status response n x room on alien whole apart None = stays response n x room on whole
refuses_leave number status response n x room on alien whole apart (Some line) = by_exchange line.exchange
  where
    by_exchange : (e : Option Exchange) → Leaves response n x room x (refuse_in number status e room)
    by_exchange (Some y) =
        other_lines.by_number (refuse_exchange status) (exchanges_pass_by.refusing status) response n number x room on alien whole (apart_place n number x room on apart)
    by_exchange None =
        let mid : Room = refusal_sent number status room in
        let told : Leaves response n x room x mid
        = by_bool (Leaves response n x room x) _ _ room (λ e. relined response n x room _ on whole refl refl) (λ e. stays response n x room on whole) in
        let last : Leaves response n x mid x (close_line number mid) = closes_leave number response n x mid told.on told.there apart in
        record {
          on = last.on;
          chain = refl;
          holds = hold_then room.hub.contexts mid.hub.contexts (close_line number mid).hub.contexts (chain_of response x) told.holds last.holds;
          there = last.there;
        }

-- ---- stages of another exchange are made

enters_leave : (dead : List ℕ) (response : Bool) (n : ℕ) (x : Exchange) (room : Room) (on : IsOn n room x) → IsWhole response x room → (o : Option ℕ) → (o ≡ Some on.place → ⊥)
    → Leaves response n x room x (with_lines room (at_place (enter_stages dead) room.lines o room.hub))
enters_leave dead response n x room on whole None apart = relined response n x room (with_lines room (room.lines, room.hub)) on whole refl refl
enters_leave dead response n x room on whole (Some place) apart = by_line (slice_get room.lines place) refl
  where
    by_exchange : (line : Line) → slice_get room.lines place ≡ Some line → (e : Option Exchange)
        → Leaves response n x room x (with_lines room (put_back room.lines place (in_exchange (enter_stages dead) line e room.hub)))
    by_exchange line at None = record {
      on = on_other n room x on place line line room.hub at refl (λ e. apart (ap (λ (p : ℕ). Some p) e));
      chain = refl;
      holds = hold_all room.hub.contexts (chain_of response x);
      there = whole;
    }
    by_exchange line at (Some y) =
        let r : Exchange × Hub = enter_stages dead line.number y room.hub in
        let last : Exchange × Hub = with_marks r in
        record {
          on = on_other n room x on place line (record line { exchange = Some last.0 }) last.1 at refl (λ e. apart (ap (λ (p : ℕ). Some p) e));
          chain = refl;
          holds = hold_by_vms room.hub.contexts last.1.contexts (chain_of response x) (marking_vms r);
          there = there_by_vms room.hub.contexts last.1.contexts (chain_of response x) (marking_vms r) whole;
        }

    by_line : (l : Option Line) → slice_get room.lines place ≡ l → Leaves response n x room x (with_lines room (at_some (enter_stages dead) room.lines place l room.hub))
    by_line None at = relined response n x room (with_lines room (room.lines, room.hub)) on whole refl refl
    by_line (Some line) at = by_exchange line at line.exchange

-- ---- events

gentle_leaves : (response : Bool) (n : ℕ) (x : Exchange) (room : Room) (place : ℕ) (after : Room) → IsWhole response x room → Gentle n x room place after
    → (y : Exchange) × Leaves response n x room y after
gentle_leaves response n x room place after whole g = (
  g.then_is,
  record {
    on = g.on;
    chain = by_direction response;
    holds = hold_by_vms room.hub.contexts after.hub.contexts (chain_of response x) g.vms;
    there = there_by_vms room.hub.contexts after.hub.contexts (chain_of response x) g.vms whole;
  },
)
  where
    by_direction : (r : Bool) → chain_of r g.then_is ≡ chain_of r x
    by_direction false = g.request
    by_direction true = g.response

further_soft : (up stop : Bool) (bytes : List ℕ) → IsSoft (side_with_more up stop bytes)
further_soft false stop bytes = record { number = λ line. refl; exchange = λ line x is. (x, is, refl, refl) }
further_soft true stop bytes = soft_exchange (with_further stop bytes) (λ x. refl) (λ x. refl)

lost_soft : IsSoft line_without_client
lost_soft =
    let s : IsSoft (change_line exchange_without_client) = soft_exchange exchange_without_client (λ x. refl) (λ x. refl) in
    record { number = λ line. s.number line; exchange = λ line x is. s.exchange line x is }

further_leaves : (up stop : Bool) (bytes : List ℕ) (number : ℕ) (response : Bool) (n : ℕ) (x : Exchange) (room : Room) (on : IsOn n room x) → IsWhole response x room
    → (y : Exchange) × Leaves response n x room y (on_lines (side_with_more up stop bytes) number room)
further_leaves up stop bytes number response n x room on whole =
    gentle_leaves response n x room on.place (on_lines (side_with_more up stop bytes) number room) whole
    (lines_gentle (side_with_more up stop bytes) (further_soft up stop bytes) n x room on (place_in number room.lines))

reads_after : (number : ℕ) (up : Bool) (response : Bool) (n : ℕ) (x : Exchange) (room mid : Room) → (y : Exchange) × Leaves response n x room y mid
    → (y : Exchange) × Leaves response n x room y (read_side number up mid)
reads_after number up response n x room mid l = (
  l.0,
  record {
    on = record { place = l.1.on.place; line = l.1.on.line; stands = l.1.on.stands; at = l.1.on.at; number = l.1.on.number; exchange = l.1.on.exchange };
    chain = l.1.chain;
    holds = l.1.holds;
    there = l.1.there;
  },
)

comes_leave : (up stop : Bool) (bytes : List ℕ) (number : ℕ) (response : Bool) (n : ℕ) (x : Exchange) (room : Room) (on : IsOn n room x) → IsWhole response x room
    → (y : Exchange) × Leaves response n x room y (receive up stop bytes number room)
comes_leave up stop bytes number response n x room on whole =
    let line : Option Line = line_in number room.lines in
    let mid : Room = on_lines (side_with_more up stop bytes) number room in
    let l : (y : Exchange) × Leaves response n x room y mid = further_leaves up stop bytes number response n x room on whole in
    by_bool (λ (r : Room). (y : Exchange) × Leaves response n x room y r) (is_open (line_reading up line) && not (up && is_answered_in (exchange_of_line line)))
    (if is_read_in up (exchange_of_line line) then read_side number up mid else mid) room
    (λ e.
    by_bool (λ (r : Room). (y : Exchange) × Leaves response n x room y r) (is_read_in up (exchange_of_line line)) (read_side number up mid) mid
    (λ d. reads_after number up response n x room mid l) (λ d. l))
    (λ e. (x, stays response n x room on whole))

opens_leave : (number : ℕ) (response : Bool) (n : ℕ) (x : Exchange) (room : Room) (on : IsOn n room x) → IsWhole response x room → Leaves response n x room x (accept_line number room)
opens_leave number response n x room on whole =
    by_bool (Leaves response n x room x) (is_some (place_in number room.lines)) room
    (if nat_lt (length room.lines) most_lines then record room { lines = insert room.lines (place_for number room.lines) (new_line number) } else _)
    (λ e. stays response n x room on whole)
    (λ e.
    by_bool (Leaves response n x room x) (nat_lt (length room.lines) most_lines) (record room { lines = insert room.lines (place_for number room.lines) (new_line number) }) _
    (λ d.
    relined response n x room (record room { lines = insert room.lines (place_for number room.lines) (new_line number) }) on whole
    (found_inserted n room.lines (place_for number room.lines) (new_line number) (ne_eqb number n (λ same. fresh same e))) refl)
    (λ d. relined response n x room _ on whole refl refl))
  where
    fresh : number ≡ n → is_some (place_in number room.lines) ≡ false → ⊥
    fresh same none =
        let there : is_some (place_in number room.lines) ≡ true = ap (λ (m : ℕ). is_some (place_in m room.lines)) same ∙ ap (λ (o : Option ℕ). is_some o) on.stands in
        cc (there, none)

down_leaves : (number : ℕ) (response : Bool) (n : ℕ) (x : Exchange) (room : Room) (on : IsOn n room x) → IsWhole response x room → (o : Option Line) → line_in number room.lines ≡ o
    → (y : Exchange) × Leaves response n x room y (lose_client number o room)
down_leaves number response n x room on whole None is = (x, stays response n x room on whole)
down_leaves number response n x room on whole (Some line) is =
    by_bool (λ (r : Room). (y : Exchange) × Leaves response n x room y r) (is_some line.exchange) (on_lines line_without_client number room) (drop_line number room)
    (λ e. gentle_leaves response n x room on.place (on_lines line_without_client number room) whole (lines_gentle line_without_client lost_soft n x room on (place_in number room.lines)))
    (λ e. (x, drops_leave number response n x room on whole (λ same. has_one same e)))
  where
    has_one : number ≡ n → is_some line.exchange ≡ false → ⊥
    has_one same none =
        let found_ : line_in number room.lines ≡ Some on.line
        = ap (λ (m : ℕ). line_in m room.lines) same ∙ (ap (in_place room.lines) on.stands ∙ on.at) in
        let both_ : Some line ≡ Some on.line = sym is ∙ found_ in
        let one : line ≡ on.line = (cc) in
        let there : is_some line.exchange ≡ true = ap (λ (k : Line). is_some k.exchange) one ∙ ap (λ (e : Option Exchange). is_some e) on.exchange in
        cc (there, none)

up_leaves : (number : ℕ) (response : Bool) (n : ℕ) (x : Exchange) (room : Room) (on : IsOn n room x) → OthersAreAlien (chain_of response x) on.place room → IsWhole response x room
    → (is_missed (exchange_on number room) ≡ true → place_in number room.lines ≡ Some on.place → ⊥) → (y : Exchange) × Leaves response n x room y (lose_server number (exchange_on number room) room)
up_leaves number response n x room on alien whole none =
    by_bool (λ (r : Room). (y : Exchange) × Leaves response n x room y r) (is_missed (exchange_on number room)) (on_number (refuse_exchange 502) number room) room
    (λ e. (x, other_lines.by_number (refuse_exchange 502) (exchanges_pass_by.refusing 502) response n number x room on alien whole (none e)))
    (λ e. (x, stays response n x room on whole))

happens_leave : (w : What) (response : Bool) (n : ℕ) (x : Exchange) (room : Room) (on : IsOn n room x) → OthersAreAlien (chain_of response x) on.place room → IsWhole response x room
    → LosesNone w n on.place room → (y : Exchange) × Leaves response n x room y (take_event w room)
happens_leave (whats.Opened number) response n x room on alien whole none = (x, opens_leave number response n x room on whole)
happens_leave (whats.Bytes number Down bytes) response n x room on alien whole none = comes_leave false false bytes number response n x room on whole
happens_leave (whats.Bytes number Up bytes) response n x room on alien whole none = comes_leave true false bytes number response n x room on whole
happens_leave (whats.End number Down) response n x room on alien whole none = comes_leave false true [] number response n x room on whole
happens_leave (whats.End number Up) response n x room on alien whole none = comes_leave true true [] number response n x room on whole
happens_leave (whats.Gone number Down) response n x room on alien whole none = down_leaves number response n x room on whole (line_in number room.lines) refl
happens_leave (whats.Gone number Up) response n x room on alien whole none = up_leaves number response n x room on alien whole none
happens_leave (whats.Joined number) response n x room on alien whole none = (x, stays response n x room on whole)
happens_leave (whats.Refused number) response n x room on alien whole none = up_leaves number response n x room on alien whole none
happens_leave (whats.Room number side) response n x room on alien whole none = (x, stays response n x room on whole)
happens_leave whats.Clock response n x room on alien whole none = (x, stays response n x room on whole)
happens_leave whats.Stop response n x room on alien whole none = (x, stays response n x room on whole)

pub events_leave : EventsLeave
events_leave = record {
  happening = happens_leave;
  closing = λ number stay response n x room on whole apart. ends_leave number stay response n x room on whole apart (line_in number room.lines);
  refusing = λ number status response n x room on alien whole apart. refuses_leave number status response n x room on alien whole apart (line_in number room.lines);
  entering_other = λ dead m response n x room on whole apart. enters_leave dead response n x room on whole (place_in m room.lines) apart;
  expiring = λ response n x room on alien whole nothing.
      by_bool (Leaves response n x room x) (list_any (is_late room.hub.moment) room.lines) (with_lines room (all_lines expire_exchange room.lines room.hub)) room
      (λ e. all_lines_leave.on_all expire_exchange exchanges_pass_by.expiring response n x room on alien whole nothing) (λ e. stays response n x room on whole);
}
