use Rattle.std.proofs.Common.{◌≡◌, List, Some, None, sym, ◌∙◌, subst}
use Rattle.callouts.specs.declared.types.Callout.{Callout}
use Rattle.callouts.specs.Callouts.{line_in}
use Rattle.callouts.specs.Steps.{place_of}
use Rattle.callouts.proofs.Once.{if_ok, ok_then}
use Rattle.callouts.proofs.Places.{came_at, none_at, within}
use Rattle.callouts.proofs.list.comes.Goals as goal

pub come_in-requires : goal.come_in-requires
come_in-requires c =
    within (line_in c.args.what.now) c.in-Some.at c.args.calls.now (subst (λ (xs : List Callout). place_of c.args.what.now xs ≡ Some c.in-Some.at) c.as_slice.ensures (sym c.place_of.ensures ∙ c.in-Some.is))

pub returns-in-Some-clause-calls : goal.returns-in-Some-clause-calls
returns-in-Some-clause-calls c =
    let at : place_of c.args.what.now c.args.calls.now ≡ Some c.in-Some.at = subst (λ (xs : List Callout). place_of c.args.what.now xs ≡ Some c.in-Some.at) c.as_slice.ensures (sym c.place_of.ensures ∙ c.in-Some.is) in
    ok_then c.come_in.result (λ next h. (came_at (line_in c.args.what.now) c.args.what.now c.in-Some.at next c.args.calls.now c.come_in.new.calls at h).0) c.come_in.ensures.ok

pub returns-in-Some-clause-next : goal.returns-in-Some-clause-next
returns-in-Some-clause-next c =
    let at : place_of c.args.what.now c.args.calls.now ≡ Some c.in-Some.at = subst (λ (xs : List Callout). place_of c.args.what.now xs ≡ Some c.in-Some.at) c.as_slice.ensures (sym c.place_of.ensures ∙ c.in-Some.is) in
    if_ok c.come_in.result (λ next h. (came_at (line_in c.args.what.now) c.args.what.now c.in-Some.at next c.args.calls.now c.come_in.new.calls at h).1) c.come_in.ensures.ok

pub returns-in-None-clause-calls : goal.returns-in-None-clause-calls
returns-in-None-clause-calls c =
    (none_at (line_in c.args.what.now) c.args.what.now c.args.calls.now (subst (λ (xs : List Callout). place_of c.args.what.now xs ≡ None) c.as_slice.ensures (sym c.place_of.ensures ∙ c.in-None.is))).0

pub returns-in-None-clause-next : goal.returns-in-None-clause-next
returns-in-None-clause-next c =
    (none_at (line_in c.args.what.now) c.args.what.now c.args.calls.now (subst (λ (xs : List Callout). place_of c.args.what.now xs ≡ None) c.as_slice.ensures (sym c.place_of.ensures ∙ c.in-None.is))).1
