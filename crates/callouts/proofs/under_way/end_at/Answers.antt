use Rattle.std.proofs.Common.{List, Option, IfOk, refl, sym, subst}
use Rattle.callouts.specs.declared.types.CallStep.{CallStep}
use Rattle.callouts.specs.UnderWay.{EndsAt}
use Rattle.callouts.proofs.under_way.end_at.Goals as goal

pub returns-in-None : goal.returns-in-None
returns-in-None c = subst (λ (n : Option CallStep). EndsAt n c.args.at c.args.calls.now c.new.result c.args.calls.now) (sym c.in-None.is) (c.new.ensures, refl)

pub returns-in-Some : goal.returns-in-Some
returns-in-Some c = subst (λ (n : Option CallStep). IfOk c.end_by.result (λ fates. EndsAt n c.args.at c.args.calls.now fates c.end_by.new.calls)) (sym c.in-Some.is) c.end_by.ensures
