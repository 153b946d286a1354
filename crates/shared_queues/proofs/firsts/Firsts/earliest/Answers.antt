use Rattle.std.proofs.Common.{◌≡◌, ◌+◌, ◌-◌, ◌<◌, List, arith, sym, ap, ◌∙◌, length}
use Rattle.shared_queues.specs.Tree.{own, least_at, place_at}
use Rattle.shared_queues.specs.declared.firsts.Place.{Place}
use Rattle.shared_queues.proofs.Trees.{none_owed, one_owed}
use Rattle.shared_queues.proofs.firsts.Firsts.earliest.Goals as goal

pub returns-then-least : goal.returns-then-least
returns-then-least c =
    let w = c.get.result - 1 in
    let same : w + 1 ≡ c.args.who = omega (arith, c.get.ensures.number, c.get.ensures.range.0) in
    let top : least_at c.self.inside.places.items 0 w ≡ 18446744073709551615 = ap (λ (l : List Place). least_at l 0 w) (sym c.as_slice-places.ensures.value) ∙ sym c.least_at-least.ensures ∙ c.if-least.true in
    none_owed c.self.inside.places.items c.args.self.now c.args.who w c.self.view_is c.self.invariant.right (omega (arith, c.get.ensures.range.1, c.get.ensures.range.0)) same top

pub returns : goal.returns
returns c =
    let w = c.get.result - 1 in
    let ps = c.self.inside.places.items in
    let is = c.as_slice-places.ensures.value in
    let same : w + 1 ≡ c.args.who = omega (arith, c.get.ensures.number, c.get.ensures.range.0) in
    let top : least_at ps 0 w ≡ c.least_at-least.result = ap (λ (l : List Place). least_at l 0 w) (sym is) ∙ sym c.least_at-least.ensures in
    let within : c.place_of.result < length ps = omega (arith, c.place_of.ensures.within, ap (λ (l : List Place). length l) is) in
    let here : own (place_at ps c.place_of.result) w ≡ c.least_at-least.result = ap (λ (l : List Place). own (place_at l c.place_of.result) w) (sym is) ∙ c.place_of.ensures.here in
    one_owed ps c.args.self.now c.args.who w c.place_of.result c.least_at-least.result c.self.view_is c.self.invariant.right (omega (arith, c.get.ensures.range.1, c.get.ensures.range.0)) same top (omega (arith, c.if-least.false, c.least_at-least.type_inv)) within here
