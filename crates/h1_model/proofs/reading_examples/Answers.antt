use Rattle.h1_model.proofs.ReadingExamples.{counted_examples, unbounded_examples, coded_examples, section_examples, listed_examples, left_examples, placed_examples}
use Rattle.h1_model.proofs.reading_examples.Goals as goal

pub returns : goal.returns
returns c = record {
  counted = counted_examples;
  unbounded = unbounded_examples;
  coded = coded_examples;
  sections = section_examples;
  listed = listed_examples;
  left = left_examples;
  placed = placed_examples;
}
