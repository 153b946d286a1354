use Rattle.std.proofs.Common.{◌++◌, codes, refl}
use Rattle.command_statuses.specs.Statuses.{cause_end}
use Rattle.command_statuses.proofs.Written.{all_written, front_written, more_written, on_err, ok_map, err_map}
use Rattle.command_statuses.proofs.lines.report_module.Goals as goal

pub returns-in_err-write_three-clause-err : goal.returns-in_err-write_three-clause-err
returns-in_err-write_three-clause-err g c =
    on_err c.from_residual.result _ (front_written (codes "wasmgate: module ") c.args.vm.now (codes " ") c.args.vm.now (c.args.cause.now ++ cause_end c.args.place) _ _ refl c.in_err-write_three.ensures.err)

pub returns-clause-ok : goal.returns-clause-ok
returns-clause-ok g c =
    ok_map c.write_cause.result _ _ (λ last. all_written (codes "wasmgate: module ") c.args.vm.now (codes " ") c.args.vm.now (c.args.cause.now ++ cause_end c.args.place) _ (g.E.Sink.taken c.write_three.new.sink) _ refl c.in_ok-write_three.ensures.ok last)
    c.write_cause.ensures.ok

pub returns-clause-err : goal.returns-clause-err
returns-clause-err g c =
    err_map c.write_cause.result _ _ (λ last. more_written (codes "wasmgate: module ") c.args.vm.now (codes " ") c.args.vm.now (c.args.cause.now ++ cause_end c.args.place) _ (g.E.Sink.taken c.write_three.new.sink) _ refl c.in_ok-write_three.ensures.ok last)
    c.write_cause.ensures.err
