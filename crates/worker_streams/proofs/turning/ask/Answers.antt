use Rattle.filter_host.specs.Runs.{cut_part, goes_part}
use Rattle.worker_callbacks.proofs.Quietly.{room_ends_on}
use Rattle.worker_streams.proofs.turning.ask.Goals as goal

pub returns-in_err-value-clause-run : goal.returns-in_err-value-clause-run
returns-in_err-value-clause-run g c =
    cut_part _ _ c.from_residual.result c.from_residual.ensures.0 (rw (c.name_of-name.ensures, c.number_of-end.ensures) at c.in_err-value.ensures.run)

pub returns-clause-run : goal.returns-clause-run
returns-clause-run g c =
    room_ends_on _ _ _ c.act_on.result c.act_on.ensures (goes_part _ (rw (c.name_of-name.ensures, c.number_of-end.ensures) at c.in_ok-value.ensures.run))
