use Rattle.std.proofs.Common.{◌≡◌, ◌==◌, List, Some, None, position, sym, ◌∙◌, subst}
use Rattle.contexts.proofs.Places.{removed_at, removed_none}
use Rattle.callouts.specs.declared.types.Callout.{Callout}
use Rattle.callouts.specs.Callouts.{id_of}
use Rattle.callouts.proofs.Places.{found, not_found}
use Rattle.callouts.proofs.list.take.Goals as goal

pub returns-in-Some-clause-value : goal.returns-in-Some-clause-value
returns-in-Some-clause-value c =
    sym (found c.args.id c.in-Some.at c.args.calls.now c.remove.result
    (subst (λ (xs : List Callout). position (λ (x : Callout). x.id == c.args.id) xs ≡ Some c.in-Some.at) c.as_slice.ensures (sym c.place_in.ensures ∙ c.in-Some.is)) c.remove.ensures.value)

pub returns-in-Some-clause-rest : goal.returns-in-Some-clause-rest
returns-in-Some-clause-rest c =
    removed_at id_of c.args.id c.in-Some.at c.args.calls.now c.remove.new.self
    (subst (λ (xs : List Callout). position (λ (x : Callout). x.id == c.args.id) xs ≡ Some c.in-Some.at) c.as_slice.ensures (sym c.place_in.ensures ∙ c.in-Some.is)) c.remove.ensures.rest

pub returns-in-None-clause-value : goal.returns-in-None-clause-value
returns-in-None-clause-value c =
    sym (not_found c.args.id c.args.calls.now
    (subst (λ (xs : List Callout). position (λ (x : Callout). x.id == c.args.id) xs ≡ None) c.as_slice.ensures (sym c.place_in.ensures ∙ c.in-None.is)))

pub returns-in-None-clause-rest : goal.returns-in-None-clause-rest
returns-in-None-clause-rest c =
    removed_none id_of c.args.id c.args.calls.now
    (subst (λ (xs : List Callout). position (λ (x : Callout). x.id == c.args.id) xs ≡ None) c.as_slice.ensures (sym c.place_in.ensures ∙ c.in-None.is))
