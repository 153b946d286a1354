use Rattle.std.proofs.Common.{rules, ◌≡◌, [], ◌∷◌, ◌∙◌, ap, sym, subst}
use Rattle.atomic_table.specs.Table.{opening}
use Rattle.turn_table.specs.Rule.{Kept}
use Rattle.turn_table.specs.Views.{first_view}
use Rattle.turn_table.proofs.Keeps.{opens}
use Rattle.turn_table.proofs.table.TurnTable.new.Goals as goal

pub new-requires-2 : goal.new-requires-2
new-requires-2 g c =
    let a = g.S.Turned.acts in
    let vm = c.vm-vm.result in
    let start : c.args.start ≡ a.empty vm = c.requires ∙ ap a.empty (sym c.vm-vm.ensures) in
    let is : c.push.new.self.items ≡ a.empty vm ∷ [] = search rules in
    subst (λ xs. Kept a vm (opening (0 ∷ 0 ∷ 0 ∷ []) xs (first_view vm))) (sym is) (opens a vm)
