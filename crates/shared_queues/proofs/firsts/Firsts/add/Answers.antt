use Rattle.std.proofs.Common.{◌≡◌, ◌<◌, ◌++◌, ◌∷◌, [], length, refl, sym, ap, subst, arith}
use Rattle.std.specs.Prelude.{replicate}
use Rattle.std.proofs.lemmas.List.{length-map, length_push}
use Rattle.shared_queues.specs.Firsts.{Standing}
use Rattle.shared_queues.specs.Tree.{IsTree}
use Rattle.shared_queues.specs.declared.firsts.Place.{Place}
use Rattle.shared_queues.proofs.Trees.{right_push}
use Rattle.shared_queues.proofs.firsts.Firsts.add.Goals as goal

pub invariant_of-self-2 : goal.invariant_of-self-2
invariant_of-self-2 c =
    let ps = c.self.inside.places.items in
    let p : Place = record { who = c.args.who; first = 18446744073709551615; least = replicate 8 18446744073709551615 } in
    let grown : c.push.new.self.items ≡ ps ++ p ∷ [] = c.in_ok-push.ensures.items in
    let few : length ps < 65536 = omega (arith, c.requires, ap (λ (s : Standing). length s.whos) c.self.view_is, length-map ps (λ (x : Place). x.who)) in
    subst IsTree (sym grown) (record { few = omega (arith, few, length_push ps p); right = right_push ps p refl refl c.self.invariant.right })
