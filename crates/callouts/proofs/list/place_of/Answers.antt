use Rattle.std.proofs.Common.{◌==◌, ℕ, Option, position, sym, ap, ◌∙◌}
use Rattle.callouts.specs.declared.types.Callout.{Callout}
use Rattle.callouts.specs.Steps.{place_on}
use Rattle.callouts.proofs.list.place_of.Goals as goal

pub returns-in-Some : goal.returns-in-Some
returns-in-Some c =
    c.place_in.ensures
    ∙ ap (λ (n : ℕ). position (λ (x : Callout). x.id == n) c.args.calls.now) c.id_at.ensures
    ∙ ap (λ (o : Option ℕ). place_on o c.args.calls.now) (sym (sym c.line_in.ensures ∙ c.in-Some.is))

pub returns-in-None : goal.returns-in-None
returns-in-None c = ap (λ (o : Option ℕ). place_on o c.args.calls.now) (sym (sym c.line_in.ensures ∙ c.in-None.is))
