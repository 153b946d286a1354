use Rattle.std.proofs.Common.{sym, subst}
use Rattle.std.specs.Prelude.{IfErr}
use Rattle.std.proofs.lemmas.Result.{err_from_is_err_and}
use Rattle.wasm_syntax.specs.declared.module.Module.{Module}
use Rattle.wasm_syntax.specs.Grammar.{Spells}
use Rattle.wasm_syntax.specs.Validity.{IsValid}
use Rattle.wasm_invoke.specs.Readied.{EndsAnyhow}
use Rattle.wasm_invoke.proofs.Joined.{linked_by, unlinked_by}
use Rattle.wasm_invoke.proofs.calls.linked.Goals as goal

pub returns-in_err-new-clause-refused : goal.returns-in_err-new-clause-refused
returns-in_err-new-clause-refused c =
    let m = c.in_ok-module-2.module in
    let spelled = subst (λ (m : Module). Spells c.args.bytes.now m) (sym c.in_ok-module-2.ensures.same) c.in_ok-module.ensures.read in
    let valid = subst (λ (m : Module). IsValid m) (sym c.in_ok-module-2.ensures.same) c.in_ok-module-2.ensures.valid in
    let p = err_from_is_err_and c.from_residual-in_err-new.result c.from_residual-in_err-new.ensures.1 in
    subst (λ r. IfErr r (EndsAnyhow c.args.bytes.now)) (sym p.1)
    (subst (λ e. EndsAnyhow c.args.bytes.now e) (sym p.2)
    (unlinked_by c.args.bytes.now m c.in_err-new.field-0.0 spelled valid c.in_err-new.ensures))

pub returns-clause-linked : goal.returns-clause-linked
returns-clause-linked c =
    let m = c.in_ok-module-2.module in
    let spelled = subst (λ (m : Module). Spells c.args.bytes.now m) (sym c.in_ok-module-2.ensures.same) c.in_ok-module.ensures.read in
    let valid = subst (λ (m : Module). IsValid m) (sym c.in_ok-module-2.ensures.same) c.in_ok-module-2.ensures.valid in
    linked_by c.args.bytes.now m c.in_ok-new.field-0 spelled valid c.in_ok-new.ensures
