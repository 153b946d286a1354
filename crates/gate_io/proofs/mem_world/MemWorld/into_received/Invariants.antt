use Rattle.std.proofs.Common.{◌≡◌, ◌++◌}
use Rattle.gate_io.specs.Passing.{received}
use Rattle.gate_io.proofs.mem_world.MemWorld.into_received.Given as goal

abbrev pub invariant-loop-step : goal.invariant-loop-step
invariant-loop-step l = l.list ++ received l.step-iterator.rest.items ≡ received l.fn.self.trace
