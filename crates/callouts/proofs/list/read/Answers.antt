use Rattle.std.proofs.Common.{◌≡◌, ◌==◌, List, Some, None, position, sym, ◌∙◌, subst}
use Rattle.callouts.specs.declared.types.Callout.{Callout}
use Rattle.callouts.proofs.Once.{if_ok}
use Rattle.callouts.proofs.Places.{heard_at, none_heard, found_within}
use Rattle.callouts.proofs.list.read.Goals as goal

pub hear_in-requires : goal.hear_in-requires
hear_in-requires c =
    found_within c.args.id c.in-Some.at c.args.calls.now
    (subst (λ (xs : List Callout). position (λ (x : Callout). x.id == c.args.id) xs ≡ Some c.in-Some.at) c.as_slice.ensures (sym c.place_in.ensures ∙ c.in-Some.is))

pub returns-in-Some : goal.returns-in-Some
returns-in-Some c =
    let at : position (λ (x : Callout). x.id == c.args.id) c.args.calls.now ≡ Some c.in-Some.at = subst (λ (xs : List Callout). position (λ (x : Callout). x.id == c.args.id) xs ≡ Some c.in-Some.at) c.as_slice.ensures (sym c.place_in.ensures ∙ c.in-Some.is) in
    if_ok c.hear_in.result (λ next h. heard_at c.args.id c.in-Some.at next c.args.calls.now c.hear_in.new.calls at h) c.hear_in.ensures

pub returns-in-None : goal.returns-in-None
returns-in-None c =
    none_heard c.args.id c.args.calls.now (subst (λ (xs : List Callout). position (λ (x : Callout). x.id == c.args.id) xs ≡ None) c.as_slice.ensures (sym c.place_in.ensures ∙ c.in-None.is))
