use Rattle.std.proofs.Common.{◌≡◌, ◌++◌, drop}
use Rattle.h1_stream.proofs.next.copied.Given as goal

-- those copied, and what is left
abbrev pub invariant-loop-value : goal.invariant-loop-value
invariant-loop-value l = l.copy ++ drop l.value-index l.values ≡ l.values
