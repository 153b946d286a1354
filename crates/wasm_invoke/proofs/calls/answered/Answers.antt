use Rattle.std.proofs.Common.{◌≡◌, List, Err, map, string_bytes, sym, subst}
use Rattle.std.proofs.lemmas.Result.{err_from_is_err_and}
use Rattle.wasm_syntax.specs.declared.types.Value.{Value}
use Rattle.wasm_machine.specs.Machines.{program_at, Takes}
use Rattle.wasm_invoke.specs.Exports.{exported}
use Rattle.wasm_invoke.specs.Invoking.{Invokes}
use Rattle.wasm_invoke.specs.Readied.{IsReadied, AreGiven}
use Rattle.wasm_invoke.proofs.Joined.{refused_by, given_takes, answered_by}
use Rattle.wasm_invoke.proofs.calls.answered.Goals as goal

pub returns-in_default : goal.returns-in_default
returns-in_default c = λ bytes export r. (r.of, r.is, sym (subst (λ o. o ≡ exported export r.of.exports) c.in_default.is r.function_is))

pub returns-in_err-values : goal.returns-in_err-values
returns-in_err-values c = λ bytes export r.
    let words = map string_bytes c.args.words.now in
    let p = err_from_is_err_and c.from_residual.result c.from_residual.ensures.1 in
    let ready = subst (λ o. IsReadied bytes export c.args.ready.now.start o c.args.ready.now.machine) c.in-Some.is r in
    subst (λ r. Invokes bytes export words r) (sym p.1)
    (subst (λ e. Invokes bytes export words (Err e)) (sym p.2)
    (refused_by bytes export words c.args.ready.now.start c.in-Some.func c.args.ready.now.machine c.in_err-values.field-0.0 ready c.in_err-values.ensures.refused))

pub called-requires-clause-takes : goal.called-requires-clause-takes
called-requires-clause-takes c =
    subst (λ (vs : List Value). Takes (program_at c.args.ready.now.machine) c.in-Some.func vs) (sym c.as_slice.ensures.value)
    (given_takes (program_at c.args.ready.now.machine) c.in-Some.func (map string_bytes c.args.words.now) c.in_ok-values.values.items c.in_ok-values.ensures.are)

pub returns : goal.returns
returns c = λ bytes export r.
    let words = map string_bytes c.args.words.now in
    let ready = subst (λ o. IsReadied bytes export c.args.ready.now.start o c.args.ready.now.machine) c.in-Some.is r in
    let given = subst (λ (vs : List Value). AreGiven (program_at c.args.ready.now.machine) c.in-Some.func words vs) (sym c.as_slice.ensures.value) c.in_ok-values.ensures.are in
    answered_by bytes export words c.args.ready.now.start c.in-Some.func c.as_slice.result.now c.args.ready.now.machine c.called.result ready given c.called.ensures
