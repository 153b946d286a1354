use Rattle.std.proofs.Common.{rules, ◌<◌, ap, sym, subst, ◌∙◌}
use Rattle.turn_table.specs.Seats.{Seated, Joined, seated, view_in}
use Rattle.turn_table.specs.Steps.{Known}
use Rattle.turn_table.specs.declared.view.View.{View}
use Rattle.turn_table.proofs.Calls.{joins}
use Rattle.turn_table.proofs.Meets.{joins_seats, looks}
use Rattle.turn_table.proofs.table.TurnTable.join.Goals as goal

pub join_seat-requires : goal.join_seat-requires
join_seat-requires g c =
    let view = ap view_in c.pass_out-pass.ensures.view in
    let one = ap (λ (v : View). v.number) (sym view) ∙ (ap (λ (x : Seated). x.number) c.seat.view_is ∙ c.requires.2) in
    let other = ap view_in c.into_seat.ensures.2 in
    let live = subst (λ (v : View). 0 < v.number) other (subst (λ n. 0 < n) c.other.invariant.1 c.other.invariant.3) in
    let idle = ap (λ (v : View). v.holds) (sym view) ∙ c.seat.invariant.4 in
    let other_idle = ap (λ (v : View). v.holds) (sym other) ∙ c.other.invariant.4 in
    (search rules, search rules, search rules, search rules, joins_seats g.S.Turned.acts _ _ _ _ _ one live idle other_idle)

pub load-requires : goal.load-requires
load-requires g c =
    let view = ap view_in c.pass_out-pass.ensures.view in
    let one = ap (λ (v : View). v.number) (sym view) ∙ (ap (λ (x : Seated). x.number) c.seat.view_is ∙ c.requires.2) in
    (search rules, search rules, looks g.S.Turned.acts _ _ _ _ (ap (λ m. m.0.number) c.join_seat.ensures.2 ∙ one))

pub returns : goal.returns
returns g c =
    let a = g.S.Turned.acts in
    let v : View = c.pass_out-pass.result.me.0 in
    let w : View = c.into_seat.result.me.0 in
    let is = ap (λ m. m.0) c.join_seat.ensures.2 in
    let made = joins a c.seat.inside.badge.table_id c.other.inside.badge.table_id v w (subst (Known a) is c.load.ensures.2.1) in
    let first = ap (λ (x : View). seated c.seat.inside.badge.table_id x) (sym (ap view_in c.pass_out-pass.ensures.view)) ∙ c.seat.view_is in
    let second = ap (λ (x : View). seated c.other.inside.badge.table_id x) (sym (ap view_in c.into_seat.ensures.2)) ∙ c.other.view_is in
    let now = sym is ∙ (sym (ap (λ m. m.0) c.load.ensures.2.0) ∙ sym (ap view_in c.into_badge.ensures.2)) in
    let table = sym c.pass_out-pass.ensures.same.0 ∙ (sym c.join_seat.ensures.0 ∙ (sym c.load.ensures.0 ∙ sym c.into_badge.ensures.0)) in
    let P : Seated × Seated × Seated → Type 0 = λ t. Joined a t.0 t.1 t.2 in
    subst P (λ i. (first i, second i, seated (table i) (now i))) made
