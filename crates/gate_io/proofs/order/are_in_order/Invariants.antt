use Rattle.std.proofs.Common.{drop}
use Rattle.gate_io.specs.Events.{AreInOrder, nothing_given}
use Rattle.gate_io.proofs.order.are_in_order.Given as goal

abbrev pub invariant-loop-event : goal.invariant-loop-event
invariant-loop-event l = record {
  so_far : AreInOrder (record { now = l.now; stopped = l.stopped }) (drop l.event-index l.events) → AreInOrder nothing_given l.events;
  rest : AreInOrder nothing_given l.events → AreInOrder (record { now = l.now; stopped = l.stopped }) (drop l.event-index l.events);
}
