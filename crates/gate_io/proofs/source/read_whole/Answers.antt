use Rattle.std.proofs.Common.{arith, ℕ, length-take, take}
use Rattle.gate_io.proofs.Fronts.{on_err, took_more}
use Rattle.gate_io.proofs.source.read_whole.Goals as goal

pub returns-in_err-extend_from_slice-clause-err : goal.returns-in_err-extend_from_slice-clause-err
returns-in_err-extend_from_slice-clause-err g c =
    on_err c.from_residual-in_err-extend_from_slice.result _
    (took_more _ c.loop-room.bytes _ (take c.in_ok-n.n c.read.new.room) _ _ c.loop-room.invariant.taken c.in_ok-n.ensures.taken
    (omega (arith, length-take {A = ℕ}, c.in_ok-n.ensures.bound)))
