use Rattle.gate_io.specs.Scripts.{gives_its_events}
use Rattle.gate_io.proofs.laws.memory_worlds_give_their_events.Goals as goal

pub returns : goal.returns
returns c = gives_its_events
