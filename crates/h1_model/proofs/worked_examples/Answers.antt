use Rattle.h1_model.proofs.Examples.{worked_head_is, closing_head_is, worked_response_is, response_examples, order_examples, line_examples, field_examples, wire_examples, length_examples, response_length_examples, bare_examples, list_examples, target_examples, refusal_examples}
use Rattle.h1_model.proofs.worked_examples.Goals as goal

pub returns : goal.returns
returns c = record {
  head = worked_head_is;
  closing = closing_head_is;
  response = worked_response_is;
  lines = line_examples;
  fields = field_examples;
  wires = wire_examples;
  lengths = length_examples;
  response_lengths = response_length_examples;
  bare = bare_examples;
  responses = response_examples;
  order = order_examples;
  lists = list_examples;
  targets = target_examples;
  refusals = refusal_examples;
}
