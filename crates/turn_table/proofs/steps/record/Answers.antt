use Rattle.std.proofs.Common.{rules, sym, subst, ◌≡◌}
use Rattle.store_model.specs.declared.entry.Entry.{Entry}
use Rattle.turn_table.specs.Histories.{value_after}
use Rattle.turn_table.proofs.Keeps.{records_entry}
use Rattle.turn_table.proofs.steps.record.Goals as goal

pub fetch_add-requires : goal.fetch_add-requires
fetch_add-requires g c =
    let a = g.S.Turned.acts in
    let Answered : Entry → Type 0 = λ e. (e.who ≡ c.args.pass.now.me.0.number) × (e.reply ≡ a.reply e.who e.call (value_after a c.args.pass.now.me.0.vm c.args.pass.now.me.0.seen)) in
    let answered = subst Answered (sym c.requires.named) c.requires.answered in
    (search rules, search rules, records_entry a _ _ _ _ g.E.Naming.entry c.requires.holds answered.0 answered.1)
