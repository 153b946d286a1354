use Rattle.gate_io.specs.Told.{gains_then_front, gains_front_of_more}
use Rattle.command_statuses.specs.Statuses.{cause_end}
use Rattle.command_statuses.proofs.Written.{on_err, err_map}
use Rattle.command_statuses.proofs.lines.write_cause.Goals as goal

pub returns-in_err-write_whole-clause-err : goal.returns-in_err-write_whole-clause-err
returns-in_err-write_whole-clause-err g c =
    on_err c.from_residual.result _ (gains_front_of_more _ c.args.cause.now (cause_end c.args.place) _ c.in_err-write_whole.ensures.err)

pub returns-clause-err : goal.returns-clause-err
returns-clause-err g c =
    err_map c.write_end.result _ _ (λ last. gains_then_front _ c.args.cause.now (g.E.Sink.taken c.write_whole.new.sink) (cause_end c.args.place) _ c.in_ok-write_whole.ensures.ok last)
    c.write_end.ensures.err
