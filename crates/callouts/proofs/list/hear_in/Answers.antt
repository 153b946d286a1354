use Rattle.std.proofs.Common.{◌≡◌, List, IfOk, sym, ◌∙◌, subst}
use Rattle.callouts.specs.declared.types.Callout.{Callout}
use Rattle.callouts.specs.Steps.{AtPlace, HearsTo}
use Rattle.callouts.proofs.list.hear_in.Goals as goal

pub returns : goal.returns
returns c =
    let same : c.into_vec-items.result.items ≡ c.args.calls.now = c.into_vec-items.ensures ∙ c.replace-taken.ensures.value in
    subst (λ (xs : List Callout). IfOk c.hear_at-next.result (λ next. AtPlace (HearsTo next) c.args.at xs c.from_vec.result)) same
    (subst (λ (ys : List Callout). IfOk c.hear_at-next.result (λ next. AtPlace (HearsTo next) c.args.at c.into_vec-items.result.items ys)) (sym c.from_vec.ensures) c.hear_at-next.ensures)
