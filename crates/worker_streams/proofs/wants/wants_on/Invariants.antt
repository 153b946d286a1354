use Rattle.std.proofs.Common.{◌≡◌, take}
use Rattle.streams_model.specs.Wants.{down_of, up_of}
use Rattle.worker_streams.proofs.wants.wants_on.Given as goal

-- what is wanted of the lines that were looked at
abbrev pub invariant-loop-l : goal.invariant-loop-l
invariant-loop-l l =
    (l.wants.down ≡ down_of l.outbox (take l.l-index l.lines))
    × (l.wants.up ≡ up_of l.outbox (take l.l-index l.lines))
