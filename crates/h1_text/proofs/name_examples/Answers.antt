use Rattle.h1_text.proofs.Worked.{search_examples, mark_examples}
use Rattle.h1_text.proofs.name_examples.Goals as goal

pub returns : goal.returns
returns c = record {
  search = search_examples;
  marks = mark_examples;
}
