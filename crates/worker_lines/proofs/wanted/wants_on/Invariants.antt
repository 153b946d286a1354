use Rattle.std.proofs.Common.{◌≡◌, take}
use Rattle.gate_io.specs.declared.event.Side.TheVariants.{Down, Up}
use Rattle.worker_model.specs.Wants.{wanted_of}
use Rattle.worker_lines.proofs.wanted.wants_on.Given as goal

-- what is wanted of the lines that were looked at
abbrev pub invariant-loop-line : goal.invariant-loop-line
invariant-loop-line l =
    (l.wants.down ≡ wanted_of Down l.outbox (take l.line-index l.lines))
    × (l.wants.up ≡ wanted_of Up l.outbox (take l.line-index l.lines))
