use Rattle.std.proofs.Common.{◌++◌}
use Rattle.gate_io.specs.Told.{gains_then_front, gains_front_of_more}
use Rattle.command_statuses.proofs.Written.{on_err, err_map}
use Rattle.command_statuses.proofs.lines.write_three.Goals as goal

pub returns-in_err-write_whole-clause-err : goal.returns-in_err-write_whole-clause-err
returns-in_err-write_whole-clause-err g c =
    on_err c.from_residual.result _ (gains_front_of_more _ c.args.first.now (c.args.second.now ++ c.args.third.now) _ c.in_err-write_whole.ensures.err)

pub returns-clause-err : goal.returns-clause-err
returns-clause-err g c =
    err_map c.write_two.result _ _ (λ last. gains_then_front _ c.args.first.now (g.O.Sink.taken c.write_whole.new.sink) (c.args.second.now ++ c.args.third.now) _ c.in_ok-write_whole.ensures.ok last)
    c.write_two.ensures.err
