use Rattle.std.proofs.Common.{decimal, ◌∷◌, ◌++◌, [], codes}
use Rattle.gate_io.specs.Told.{gains_then_front, gains_front_of_more}
use Rattle.commands.specs.Call.{result_line}
use Rattle.commands.proofs.Answered.{on_err, err_map}
use Rattle.commands.proofs.call.print.Goals as goal

pub returns-in_err-print_result-clause-err : goal.returns-in_err-print_result-clause-err
returns-in_err-print_result-clause-err g c =
    on_err c.from_residual.result _ (gains_front_of_more _ (result_line c.args.invoked.now.result) (codes "fuel " ++ (decimal c.args.invoked.now.used ++ (10 ∷ []))) _ c.in_err-print_result.ensures.err)

pub returns-clause-err : goal.returns-clause-err
returns-clause-err g c =
    err_map c.write_numbered.result _ _ (λ last.
    gains_then_front _ (result_line c.args.invoked.now.result) (g.O.Sink.taken c.print_result.new.out) (codes "fuel " ++ (decimal c.args.invoked.now.used ++ (10 ∷ []))) _ c.in_ok-print_result.ensures.ok last)
    c.write_numbered.ensures.err
