use Rattle.std.proofs.Common.{arith, length-drop}
use Rattle.std.proofs.lemmas.List.{take_rest}
use Rattle.gate_io.proofs.Fronts.{on_err, front_only, front_more}
use Rattle.gate_io.proofs.sink.write_whole.Goals as goal

pub returns-in_err-at-clause-err : goal.returns-in_err-at-clause-err
returns-in_err-at-clause-err g c =
    on_err c.from_residual.result _ (front_only (g.O.Sink.taken c.args.sink.now) c.args.bytes.now c.loop-at.at (g.O.Sink.taken c.loop-at.sink) (g.O.Sink.taken c.write.new.self) c.loop-at.invariant.gained c.in_err-at.ensures.taken)

pub loop-at-preserved : goal.loop-at-preserved
loop-at-preserved g c = record {
  within = omega (arith, rw (take_rest, length-drop) at c.in_ok-at.ensures.bound, c.loop-at-test.true);
  gained = front_more (g.O.Sink.taken c.args.sink.now) c.args.bytes.now c.loop-at.at c.in_ok-at.field-0 (g.O.Sink.taken c.loop-at.sink) (g.O.Sink.taken c.write.new.self) c.loop-at.invariant.gained (rw take_rest at c.in_ok-at.ensures.taken);
  faults = omega (arith, c.loop-at.invariant.faults, c.in_ok-at.ensures.faults);
}
