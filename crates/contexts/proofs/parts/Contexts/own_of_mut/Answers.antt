use Rattle.std.proofs.Common.{◌≡◌, ◌==◌, List, Some, None, inl, inr, sym, ◌∙◌, subst}
use Rattle.std.specs.List.{position}
use Rattle.contexts.specs.declared.parts.Context.{Context}
use Rattle.contexts.proofs.Places.{own_is, own_seen, none_seen, vms_kept}
use Rattle.contexts.proofs.parts.Contexts.own_of_mut.Goals as goal

pub returns-in-Some : goal.returns-in-Some
returns-in-Some c =
    let at = subst (λ (xs : List Context). position (λ (k : Context). k.id == c.args.id) xs ≡ Some c.in-Some.at) c.as_slice.ensures (sym c.place_of.ensures ∙ c.in-Some.is) in (
      (λ j. inl (c.c-1.given, λ z. own_is c.args.self.now c.args.vm c.args.id c.get.result c.in-Some.at c.get.ensures.number c.get_mut-v.result.now c.requires c.get_mut-v.ensures.value c.get_mut-c.result.now at c.get_mut-c.ensures.value z j)),
      record { lends = tt; value = own_seen c.args.self.now c.args.vm c.args.id c.get.result c.in-Some.at c.get.ensures.number c.get_mut-v.result.now c.requires c.get_mut-v.ensures.value c.get_mut-c.result.now at c.get_mut-c.ensures.value },
    )

pub returns-in-None : goal.returns-in-None
returns-in-None c =
    let at = subst (λ (xs : List Context). position (λ (k : Context). k.id == c.args.id) xs ≡ None) c.as_slice.ensures (sym c.place_of.ensures ∙ c.in-None.is) in
    ((λ j. inr (vms_kept c.args.self.now c.args.vm c.args.id c.get.result 0 c.get.ensures.number c.get_mut-v.result.now c.requires c.get_mut-v.ensures.value j)), record { lends = tt; value = none_seen c.args.self.now c.args.vm c.args.id c.get.result 0 c.get.ensures.number c.get_mut-v.result.now c.requires c.get_mut-v.ensures.value at })
