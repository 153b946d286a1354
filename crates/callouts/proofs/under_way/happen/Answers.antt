use Rattle.std.proofs.Common.{◌≡◌, List, Some, None, sym, ◌∙◌, subst}
use Rattle.callouts.specs.declared.types.Callout.{Callout}
use Rattle.callouts.specs.Callouts.{line_in}
use Rattle.callouts.specs.Steps.{place_of}
use Rattle.callouts.proofs.UnderWay.{none_ends}
use Rattle.callouts.proofs.under_way.happen.Goals as goal

pub happen_at-requires : goal.happen_at-requires
happen_at-requires c = subst (λ (xs : List Callout). place_of c.args.what.now xs ≡ Some c.in-Some.at) c.as_slice.ensures (sym c.place_of.ensures ∙ c.in-Some.is)

pub returns-in-None : goal.returns-in-None
returns-in-None c =
    none_ends (line_in c.args.what.now) c.args.what.now c.args.calls.now c.new.result
    (subst (λ (xs : List Callout). place_of c.args.what.now xs ≡ None) c.as_slice.ensures (sym c.place_of.ensures ∙ c.in-None.is)) c.new.ensures
