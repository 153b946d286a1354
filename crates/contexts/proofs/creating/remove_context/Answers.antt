use Rattle.std.proofs.Common.{◌≡◌, ◌==◌, List, Some, None, sym, ◌∙◌, subst}
use Rattle.std.specs.List.{position}
use Rattle.contexts.specs.declared.parts.Context.{Context}
use Rattle.contexts.specs.Reached.{context_no}
use Rattle.contexts.proofs.Places.{removed_at, removed_none}
use Rattle.contexts.proofs.creating.remove_context.Goals as goal

pub returns-in-Some : goal.returns-in-Some
returns-in-Some c =
    removed_at context_no c.args.id c.in-Some.at c.args.contexts.now c.remove.new.self
    (subst (λ (xs : List Context). position (λ (k : Context). k.id == c.args.id) xs ≡ Some c.in-Some.at) c.as_slice.ensures (sym c.place_of.ensures ∙ c.in-Some.is)) c.remove.ensures.rest

pub returns-in_default : goal.returns-in_default
returns-in_default c =
    removed_none context_no c.args.id c.args.contexts.now
    (subst (λ (xs : List Context). position (λ (k : Context). k.id == c.args.id) xs ≡ None) c.as_slice.ensures (sym c.place_of.ensures ∙ c.in_default.is))
