use Rattle.local_reply.proofs.FramingProofs.{framing_examples, out_examples}
use Rattle.local_reply.proofs.laws.framing_examples.Goals as goal

pub returns : goal.returns
returns c = record { framings = framing_examples; wires = out_examples }
