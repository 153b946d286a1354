use Rattle.std.proofs.Common.{ap, sym, subst, ◌∙◌}
use Rattle.turn_table.specs.Seats.{Seated, HasAll, Closed, seated, view_in}
use Rattle.turn_table.specs.Steps.{IsLast}
use Rattle.turn_table.specs.declared.view.View.{View}
use Rattle.turn_table.proofs.Calls.{closed}
use Rattle.turn_table.proofs.Closes.{closes}
use Rattle.turn_table.proofs.table.TurnTable.close.Goals as goal

pub returns : goal.returns
returns g c =
    let a = g.S.Turned.acts in
    let view = ap view_in c.into_seat.ensures.2 in
    let one = ap (λ (v : View). v.number) (sym view) ∙ (ap (λ (x : Seated). x.number) c.seat.view_is ∙ c.requires.1) in
    let idle = ap (λ (v : View). v.holds) (sym view) ∙ c.seat.invariant.4 in
    let last = subst IsLast view (subst HasAll (sym c.seat.view_is) c.requires.2) in
    let shut = closes a _ _ _ _ _ one idle last c.close_with-closed.ensures.values.2 in
    let seat = ap (λ (x : View). seated c.seat.inside.badge.table_id x) (sym view) ∙ c.seat.view_is in
    subst (λ v. Closed a v c.take-value.result c.word-count.result) seat
    (closed a c.seat.inside.badge.table_id c.into_seat.result.me.0 _ _ _ _ shut c.word-count.ensures c.take-value.ensures.value)
