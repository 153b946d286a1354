use Rattle.std.proofs.Common.{sym, subst}
use Rattle.std.proofs.lemmas.Result.{err_from_is_err_and}
use Rattle.wasm_syntax.specs.Reduction.{Program}
use Rattle.wasm_machine.specs.Machines.{program_at, config_at, Takes}
use Rattle.wasm_invoke.specs.Invoking.{started}
use Rattle.wasm_invoke.specs.Readied.{AsksNobody}
use Rattle.wasm_invoke.proofs.Joined.{ended_by, went_on}
use Rattle.wasm_invoke.proofs.calls.called.Goals as goal

pub returns-in_err-run_start : goal.returns-in_err-run_start
returns-in_err-run_start c =
    let m = c.args.machine.now in
    let p = err_from_is_err_and c.from_residual.result c.from_residual.ensures.1 in
    rw (p.1, p.2) (ended_by (program_at m) c.args.func c.args.args.now (started (program_at m) c.args.start (config_at m)) (config_at c.run_start.new.machine) c.in_err-run_start.field-0.0 c.in_err-run_start.ensures.started)

pub call-requires-clause-takes : goal.call-requires-clause-takes
call-requires-clause-takes c = subst (λ (p : Program). Takes p c.args.func c.args.args.now) (sym c.in_ok-run_start.ensures.program) c.requires.takes

pub call-requires-clause-alone : goal.call-requires-clause-alone
call-requires-clause-alone c = subst (λ (p : Program). AsksNobody p) (sym c.in_ok-run_start.ensures.program) c.requires.alone

pub returns : goal.returns
returns c =
    let m = c.args.machine.now in
    went_on (program_at m) (program_at c.run_start.new.machine) c.args.func c.args.args.now (started (program_at m) c.args.start (config_at m)) (config_at c.run_start.new.machine) c.call.result c.in_ok-run_start.ensures.started c.in_ok-run_start.ensures.program c.call.ensures
