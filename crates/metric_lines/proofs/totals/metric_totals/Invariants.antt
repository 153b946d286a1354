use Rattle.std.proofs.Common.{◌≡◌, [], take}
use Rattle.metric_lines.specs.Totals.{put_all, totals_from}
use Rattle.metric_lines.proofs.totals.metric_totals.Given as goal

-- the metrics so far, in order
abbrev pub invariant-loop-place : goal.invariant-loop-place
invariant-loop-place l = l.told.items ≡ put_all (totals_from l.closed.totals 1 (take l.place l.closed.names.names)) []
