-- A change of the exchange on a line.
use Rattle.std.proofs.Common.{◌≡◌, ℕ, zero, suc, ◌+◌, ◌==◌, Bool, not, List, [], ◌∷◌, length, cond, ap, ◌∙◌, sym, refl}
use Rattle.std.specs.List.{position_or_len}
use Rattle.std.specs.Prelude.{Option, None, Some, slice_get, slice_set, nat_lt}
use Rattle.std.proofs.Math.ListN.{length-set}
use Rattle.contexts.specs.declared.parts.Contexts.{Contexts}
use Rattle.contexts.specs.declared.parts.ExchangeView.{ExchangeView}
use Rattle.contexts.specs.Reached.{view_at}
use Rattle.exchange.specs.declared.types.Exchange.{Exchange}
use Rattle.exchange.specs.declared.types.Hub.{Hub}
use Rattle.exchange.specs.Maps.{in_view, marked, mark}
use Rattle.worker_model.specs.Room.{Room}
use Rattle.worker_model.specs.declared.types.Line.{Line}
use Rattle.worker_model.specs.Rooms.{Changes, with_marks, with_result, in_exchange, put_back, at_some, at_place, with_lines, place_in, on_number, on_context, place_of}
use Rattle.law_flow.specs.Rooms.{IsOn}

-- ---- lists

pub get_set : {A : Type 0} (xs : List A) (i : ℕ) (x y : A) → slice_get xs i ≡ Some x → slice_get (slice_set xs i y) i ≡ Some y
get_set [] i x y at = absurd (cc)
get_set (z ∷ xs) zero x y at = refl
get_set (z ∷ xs) (suc i) x y at = get_set xs i x y at

position_set : {A : Type 0} (p : A → Bool) (xs : List A) (i : ℕ) (x y : A) → slice_get xs i ≡ Some x → p y ≡ p x → position_or_len p (slice_set xs i y) ≡ position_or_len p xs
position_set p [] i x y at same = refl
position_set p (z ∷ xs) zero x y at same =
    let here : z ≡ x = (cc) in
    let first : p y ≡ p z = same ∙ ap p (sym here) in
    ap (λ (b : Bool). cond (not b) (1 + position_or_len p xs) 0) first
position_set p (z ∷ xs) (suc i) x y at same = ap (λ (m : ℕ). cond (not (p z)) (1 + m) 0) (position_set p xs i x y at same)

pub place_set : (n : ℕ) (lines : List Line) (place : ℕ) (line new : Line) → slice_get lines place ≡ Some line → new.number ≡ line.number → place_in n (slice_set lines place new) ≡ place_in n lines
place_set n lines place line new at same =
    let p : Line → Bool = λ (l : Line). l.number == n in
    let one : position_or_len p (slice_set lines place new) ≡ position_or_len p lines = position_set p lines place line new at (ap (λ m. m == n) same) in
    let two : length (slice_set lines place new) ≡ length lines = length-set lines place new in
    λ i. cond (nat_lt (one i) (two i)) (Some (one i)) None

-- ---- the line with another exchange

abbrev pub with_exchange : ℕ → Line → Exchange × Hub → Room → Room
with_exchange place line (x, hub) room = record room { lines = slice_set room.lines place (record line { exchange = Some x }); hub = hub }

pub on_set : (n : ℕ) (room : Room) (x : Exchange) (on : IsOn n room x) (xh : Exchange × Hub) → IsOn n (with_exchange on.place on.line xh room) xh.0
on_set n room x on xh = record {
  place = on.place;
  line = record on.line { exchange = Some xh.0 };
  stands = place_set n room.lines on.place on.line (record on.line { exchange = Some xh.0 }) on.at refl ∙ on.stands;
  at = get_set room.lines on.place on.line (record on.line { exchange = Some xh.0 }) on.at;
  number = on.number;
  exchange = refl;
}

at_is : (change : Changes) (n : ℕ) (room : Room) (x : Exchange) (on : IsOn n room x) (o : Option ℕ) → o ≡ Some on.place
    → with_lines room (at_place change room.lines o room.hub) ≡ with_exchange on.place on.line (with_marks (change n x room.hub)) room
at_is change n room x on o is =
    ap (λ (p : Option ℕ). with_lines room (at_place change room.lines p room.hub)) is
    ∙ (ap (λ (l : Option Line). with_lines room (at_some change room.lines on.place l room.hub)) on.at
    ∙ (ap (λ (e : Option Exchange). with_lines room (put_back room.lines on.place (in_exchange change on.line e room.hub))) on.exchange
    ∙ ap (λ (m : ℕ). with_lines room (put_back room.lines on.place (with_result on.line (with_marks (change m x room.hub))))) on.number))

pub on_number_is : (change : Changes) (n : ℕ) (room : Room) (x : Exchange) (on : IsOn n room x) → on_number change n room ≡ with_exchange on.place on.line (with_marks (change n x room.hub)) room
on_number_is change n room x on = at_is change n room x on (place_in n room.lines) on.stands

pub on_context_is : (change : Changes) (vm context n : ℕ) (room : Room) (x : Exchange) (on : IsOn n room x) → place_of vm context room.lines ≡ place_in n room.lines
    → on_context change vm context room ≡ with_exchange on.place on.line (with_marks (change n x room.hub)) room
on_context_is change vm context n room x on same = at_is change n room x on (place_of vm context room.lines) (same ∙ on.stands)

-- ---- what host calls are told of the exchange is no part of its stages

pub mark_vms : (answered ended out : Bool) (place : ℕ) (h : Contexts) → (mark answered ended out place h).vms ≡ h.vms
mark_vms answered ended out place h = by_view (view_at h.exchanges place)
  where
    by_view : (v : Option ExchangeView) → (in_view (marked answered ended out) place v h).vms ≡ h.vms
    by_view None = refl
    by_view (Some v) = refl

pub marking_vms : (xh : Exchange × Hub) → (with_marks xh).1.contexts.vms ≡ xh.1.contexts.vms
marking_vms (x, hub) = mark_vms x.is_answered x.has_ended x.is_head_out x.place hub.contexts
