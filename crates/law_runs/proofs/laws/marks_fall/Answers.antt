use Rattle.law_runs.proofs.Denying.{mark_examples}
use Rattle.law_runs.proofs.Marks.{deaths_drop_marks, changes_are_told, workers_raise_none}
use Rattle.law_runs.proofs.laws.marks_fall.Goals as goal

pub returns-clause-deaths : goal.returns-clause-deaths
returns-clause-deaths g c = deaths_drop_marks

pub returns-clause-changes : goal.returns-clause-changes
returns-clause-changes g c = changes_are_told

pub returns-clause-raised : goal.returns-clause-raised
returns-clause-raised g c = workers_raise_none

pub returns-clause-worked : goal.returns-clause-worked
returns-clause-worked g c = mark_examples
