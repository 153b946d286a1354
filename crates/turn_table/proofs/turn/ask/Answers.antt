use Rattle.std.proofs.Common.{◌∷◌, ap, ◌∙◌, sym}
use Rattle.atomic_table.specs.Table.{rest}
use Rattle.turn_table.specs.Histories.{value_after}
use Rattle.turn_table.proofs.turn.ask.Goals as goal

pub slot_mut-value-requires : goal.slot_mut-value-requires
slot_mut-value-requires g c =
    let home = value_after g.S.Turned.acts c.args.pass.now.me.0.vm c.args.pass.now.me.0.seen in
    (c.requires.table.0, (home, c.requires.value ∙ ap (λ cs. (0, home) ∷ rest cs) (sym c.requires.value)))
