use Rattle.std.proofs.Common.{◌≡◌, List, IfOk, sym, ◌∙◌, subst}
use Rattle.callouts.specs.declared.types.Callout.{Callout}
use Rattle.callouts.specs.Steps.{AtPlace, ComesAs}
use Rattle.callouts.proofs.list.come_in.Goals as goal

pub returns-clause-ok : goal.returns-clause-ok
returns-clause-ok c =
    let same : c.into_vec-items.result.items ≡ c.args.calls.now = c.into_vec-items.ensures ∙ c.replace-taken.ensures.value in
    subst (λ (xs : List Callout). IfOk c.come_at-next.result (λ next. AtPlace (ComesAs c.args.what.now next) c.args.at xs c.from_vec.result)) same
    (subst (λ (ys : List Callout). IfOk c.come_at-next.result (λ next. AtPlace (ComesAs c.args.what.now next) c.args.at c.into_vec-items.result.items ys)) (sym c.from_vec.ensures) c.come_at-next.ensures.ok)
