use Rattle.std.proofs.Common.{◌≡◌, Some, arith}
use Rattle.worker_model.specs.Rooms.{place_in}
use Rattle.worker_lines.proofs.Readings.{hears_at, if_ok}
use Rattle.worker_lines.proofs.Wished.{sound_set}
use Rattle.worker_lines.proofs.lines.Lines.hear.Goals as goal

pub invariant_of-self : goal.invariant_of-self
invariant_of-self c =
    sound_set _ _ _ _ _ _ _ _ _ c.self.invariant c.with-self-inside.ensures.here c.with-self-inside.ensures.others c.touch.ensures
    (omega (arith, c.if-place-len.false, c.len.ensures)) c.index_mut.ensures.value c.hear_line.ensures.number

pub returns : goal.returns
returns c =
    let view = c.self.view_is in
    let found = c.place_in.ensures in
    let is = c.in-Some.is in
    let at : place_in c.args.number c.self.inside.list.items ≡ Some c.in-Some.place = (cc) in
    rw (← c.self.view_is)
    (if_ok c.hear_line.result (λ s heard. hears_at c.args.up c.args.number c.in-Some.place c.self.inside.list.items c.index_mut.result.now c.hear_line.new.line s at c.index_mut.ensures.value heard) c.hear_line.ensures.done)
