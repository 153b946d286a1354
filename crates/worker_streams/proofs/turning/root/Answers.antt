use Rattle.filter_host.specs.Runs.{cut_short, goes_still}
use Rattle.worker_streams.proofs.turning.root.Goals as goal

pub returns-in_err-made-clause-run : goal.returns-in_err-made-clause-run
returns-in_err-made-clause-run g c =
    cut_short _ c.from_residual.result c.from_residual.ensures.0 (goes_still g.S.Shared.performs _ _ _ (g.met.S.Shared.nothing c.args.shared.now))
