use Rattle.std.proofs.Common.{refl}
use Rattle.store_model.specs.History.{store_acts}
use Rattle.store_model.specs.Store.{empty_store}
use Rattle.turn_table.proofs.Keeps.{opens, any_mark}
use Rattle.turn_table.proofs.Rows.{store_is_ahead, one_twice}
use Rattle.turn_table.specs.Rows.{lone}
use Rattle.turn_table.specs.Views.{first_view}
use Rattle.turn_table.proofs.law.worked_tables.Goals as goal

pub returns-clause-new_table_keeps : goal.returns-clause-new_table_keeps
returns-clause-new_table_keeps c = opens store_acts 0

pub returns-clause-any_mark_keeps : goal.returns-clause-any_mark_keeps
returns-clause-any_mark_keeps c asleep = any_mark store_acts 0 (lone 0 0 0 (empty_store 0) (first_view 0)) (opens store_acts 0) _ asleep refl

pub returns-clause-store_ahead : goal.returns-clause-store_ahead
returns-clause-store_ahead c = store_is_ahead

pub returns-clause-one_number_twice : goal.returns-clause-one_number_twice
returns-clause-one_number_twice c = one_twice
