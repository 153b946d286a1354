-- What the calls of a host change: the contexts of its worker, and the lines that go into the log.
use Rattle.std.specs.Prelude.{List}
use Rattle.contexts.specs.declared.parts.Contexts.{Contexts}
use Rattle.gate_io.specs.declared.event.Sent.{Sent}

pub record HostState : Type 0 where
  pub contexts : Contexts
  pub lines : List Sent

abbrev pub host_state : Contexts → List Sent → HostState
host_state contexts lines = record { contexts = contexts; lines = lines }
