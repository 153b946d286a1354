-- Two lines, worked.
use Rattle.std.proofs.Common.{◌≡◌, [], ◌∷◌, refl}
use Rattle.law_lines.specs.Examples.{open_plan}
use Rattle.law_lines.specs.Isolation.{IsFree}
use Rattle.law_lines.specs.IsolationExamples.{answering, trapping, the_filter, two_lines, behind, IsolationExample}
use Rattle.law_lines.specs.Logs.{WriteLogs}
use Rattle.law_lines.proofs.Isolation.{each_leaves}
use Rattle.worker_model.specs.Steps.{both}

two_free : IsFree 2 two_lines.lines
two_free = ((λ e. absurd (cc)), ((λ e. (refl, refl, refl)), tt))

answers_log : WriteLogs answering
answers_log host vm name context first second now h = tt

traps_log : WriteLogs trapping
traps_log host vm name context first second now h = tt

pub isolation_example : IsolationExample
isolation_example = record {
  free = two_free;
  not_free = λ free. filtered_one (free.0 refl).0;
  moves = refl;
  of_one = refl;
  not_of_two = refl;
  answers = record {
    reaches = refl;
    sends = λ e. cc;
    nothing = refl;
    line = refl;
    untouched = each_leaves answering open_plan 2 (both 0 two_lines) (behind answering) [] answers_log two_free refl refl;
  };
  traps = record {
    reaches = refl;
    sends = λ e. cc;
    nothing = refl;
    line = refl;
    untouched = each_leaves trapping open_plan 2 (both 0 two_lines) (behind trapping) [] traps_log two_free refl refl;
  };
}
  where
    filtered_one : the_filter ∷ [] ≡ [] → ⊥
    filtered_one e = cc
