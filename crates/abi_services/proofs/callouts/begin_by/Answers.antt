use Rattle.std.proofs.Common.{◌≡◌, sym, ◌∙◌, subst}
use Rattle.std.specs.Prelude.{IfOk}
use Rattle.contexts.specs.Reached.{seen, put}
use Rattle.abi_model.specs.Calls.{Made, told}
use Rattle.abi_services.proofs.Refused.{called_by}
use Rattle.abi_services.proofs.callouts.begin_by.Goals as goal

pub returns-clause-made : goal.returns-clause-made
returns-clause-made c =
    let s = seen c.args.contexts.now c.args.vm in
    subst (λ (m : Made). IfOk c.begin_for.result (λ o. o ≡ told m))
    (sym (called_by c.args.asker c.args.inputs.now c.args.timeout_ms s.reach.own s (sym c.has_context.ensures ∙ c.if-not-has_context.false) (sym c.is_upstream.ensures ∙ c.if-not-is_upstream.false)))
    c.begin_for.ensures.made

pub returns-clause-changes : goal.returns-clause-changes
returns-clause-changes c =
    let s = seen c.args.contexts.now c.args.vm in
    subst (λ (m : Made). IfOk c.begin_for.result (λ o. c.begin_for.new.contexts ≡ put m.changes c.args.vm c.args.contexts.now))
    (sym (called_by c.args.asker c.args.inputs.now c.args.timeout_ms s.reach.own s (sym c.has_context.ensures ∙ c.if-not-has_context.false) (sym c.is_upstream.ensures ∙ c.if-not-is_upstream.false)))
    c.begin_for.ensures.changes
