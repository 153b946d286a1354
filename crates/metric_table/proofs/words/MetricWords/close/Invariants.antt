use Rattle.std.proofs.Common.{◌≡◌, ◌≤◌, take, vec_capacity}
use Rattle.metric_table.proofs.words.MetricWords.close.Given as goal

-- the words so far, and there is room for the others
abbrev pub invariant-loop-place : goal.invariant-loop-place
invariant-loop-place l = (l.words.items ≡ take l.place l.closed.words.items) × (1024 ≤ vec_capacity l.words)
