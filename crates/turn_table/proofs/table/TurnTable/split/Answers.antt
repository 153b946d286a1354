use Rattle.std.proofs.Common.{rules, ap, sym, ◌∙◌}
use Rattle.turn_table.specs.Seats.{Seated, view_in}
use Rattle.turn_table.specs.declared.view.View.{View}
use Rattle.turn_table.proofs.Parts.{splits_turn}
use Rattle.turn_table.proofs.table.TurnTable.split.Goals as goal

pub split_seat-next-requires : goal.split_seat-next-requires
split_seat-next-requires g c =
    let view = ap view_in c.pass_out-pass.ensures.view in
    let one = ap (λ (v : View). v.number) (sym view) ∙ (ap (λ (x : Seated). x.number) c.seat.view_is ∙ c.requires.1) in
    (search rules, search rules, splits_turn g.S.Turned.acts _ _ _ one)
