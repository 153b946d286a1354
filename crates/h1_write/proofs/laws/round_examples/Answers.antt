use Rattle.h1_write.proofs.RoundExamples.{response_examples, request_examples}
use Rattle.h1_write.proofs.laws.round_examples.Goals as goal

pub returns : goal.returns
returns c = record { response = response_examples; request = request_examples }
