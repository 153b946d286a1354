-- The worked examples of names that are looked for.
use Rattle.std.proofs.Common.{refl}
use Rattle.httparse.specs.Grammar.{trim_ows}
use Rattle.h1_text.specs.Examples.{SearchExamples, MarkExamples}

pub search_examples : SearchExamples
search_examples = record {
  first = refl;
  second = refl;
  third = refl;
  like = refl;
  way = refl;
  longer = refl;
  front = refl;
  empty = refl;
}

pub mark_examples : MarkExamples
unfolding trim_ows
mark_examples = record {
  first = refl;
  second = refl;
  third = refl;
  blanks = refl;
  none = refl;
}
