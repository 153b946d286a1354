use Rattle.std.proofs.Common.{arith}
use Rattle.worker_lines.proofs.Wished.{sound_set}
use Rattle.worker_lines.proofs.lines.Lines.change.Goals as goal

pub invariant_of-self : goal.invariant_of-self
invariant_of-self c =
    sound_set _ _ _ _ _ _ _ _ _ c.self.invariant c.with-self-inside.ensures.here c.with-self-inside.ensures.others c.touch.ensures
    (omega (arith, c.if-place-len.false, c.len.ensures)) c.index_mut.ensures.value c.change_line.ensures.number
