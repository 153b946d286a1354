use Rattle.std.proofs.Common.{◌≡◌, ◌==◌, List, Some, None, sym, ◌∙◌, subst}
use Rattle.std.specs.List.{position}
use Rattle.contexts.specs.declared.parts.Context.{Context}
use Rattle.contexts.proofs.Places.{tick_is, tick_gone}
use Rattle.contexts.proofs.parts.Contexts.set_tick.Goals as goal

pub returns-in-Some-place_of : goal.returns-in-Some-place_of
returns-in-Some-place_of c =
    let at = subst (λ (xs : List Context). position (λ (k : Context). k.id == c.in-Some.root) xs ≡ Some c.in-Some-place_of.at) c.as_slice.ensures (sym c.place_of.ensures ∙ c.in-Some-place_of.is) in
    tick_is c.args.self.now c.args.vm c.get.result c.in-Some.root c.get.ensures.number c.get_mut-v.result.now c.requires c.get_mut-v.ensures.value (sym c.root.ensures ∙ c.in-Some.is) c.args.tick c.in-Some-place_of.at c.get_mut.result.now at c.get_mut.ensures.value

pub returns-in_default-place_of : goal.returns-in_default-place_of
returns-in_default-place_of c =
    let at = subst (λ (xs : List Context). position (λ (k : Context). k.id == c.in-Some.root) xs ≡ None) c.as_slice.ensures (sym c.place_of.ensures ∙ c.in_default-place_of.is) in
    tick_gone c.args.self.now c.args.vm c.get.result c.in-Some.root c.get.ensures.number c.get_mut-v.result.now c.requires c.get_mut-v.ensures.value (sym c.root.ensures ∙ c.in-Some.is) c.args.tick at
