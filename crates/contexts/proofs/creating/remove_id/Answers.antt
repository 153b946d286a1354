use Rattle.std.proofs.Common.{◌≡◌, ◌==◌, ℕ, List, Some, None, sym, ◌∙◌, subst}
use Rattle.std.specs.List.{position}
use Rattle.contexts.specs.Creating.{itself}
use Rattle.contexts.proofs.Places.{removed_at, removed_none}
use Rattle.contexts.proofs.creating.remove_id.Goals as goal

pub returns-in-Some : goal.returns-in-Some
returns-in-Some c =
    removed_at itself c.args.id c.in-Some.at c.args.ids.now c.remove.new.self
    (subst (λ (xs : List ℕ). position (λ k. itself k == c.args.id) xs ≡ Some c.in-Some.at) c.as_slice.ensures (sym c.id_place.ensures ∙ c.in-Some.is)) c.remove.ensures.rest

pub returns-in_default : goal.returns-in_default
returns-in_default c =
    removed_none itself c.args.id c.args.ids.now
    (subst (λ (xs : List ℕ). position (λ k. itself k == c.args.id) xs ≡ None) c.as_slice.ensures (sym c.id_place.ensures ∙ c.in_default.is))
