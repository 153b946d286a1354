-- Bodies and targets, by computation.
use Rattle.std.proofs.Common.{refl}
use Rattle.matchit.proofs.OnLiterals.{matchit_on_literals}
use Rattle.law_turns.specs.Rules.{FilteringExamples, TargetExamples}

pub filtering_examples : FilteringExamples
filtering_examples = record {
  last_of_two = refl;
  first_of_two = refl;
  alone = refl;
  none_of_them = refl;
  no_filter = refl;
  responses = refl;
  responses_last = refl;
  no_responses = refl;
  no_filter_back = refl;
  by_vm = refl;
  told = refl;
  all_told = refl;
  nobody = refl;
}

pub target_examples : TargetExamples
unfolding matchit_on_literals
target_examples = record {
  query = refl;
  empty_query = refl;
  slash = refl;
  slash_query = refl;
  longer = refl;
  star = refl;
  literal = refl;
  literal_query = refl;
  other_query = refl;
  no_route = refl;
}
