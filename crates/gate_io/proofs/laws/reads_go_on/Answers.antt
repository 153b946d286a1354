use Rattle.gate_io.specs.Reads.{happened_gains, received_gains, asked_gains, short_gains}
use Rattle.gate_io.proofs.laws.reads_go_on.Goals as goal

pub returns : goal.returns
returns c = record { events = happened_gains; sent = received_gains; wants = asked_gains; shortfalls = short_gains }
