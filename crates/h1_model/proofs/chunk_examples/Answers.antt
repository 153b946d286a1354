use Rattle.h1_model.proofs.ChunkExamples.{worked_body, size_examples, place_examples, trailer_examples, wire_examples}
use Rattle.h1_model.proofs.chunk_examples.Goals as goal

pub returns : goal.returns
returns c = record {
  body = worked_body;
  sizes = size_examples;
  places = place_examples;
  trailers = trailer_examples;
  wires = wire_examples;
}
