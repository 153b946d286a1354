use Rattle.shared_seats.proofs.Laws.{calls_once, definitions_once}
use Rattle.shared_seats.proofs.law.each_call_and_definition_stands_once.Goals as goal

pub returns-clause-calls : goal.returns-clause-calls
returns-clause-calls c = calls_once

pub returns-clause-definitions : goal.returns-clause-definitions
returns-clause-definitions c = definitions_once
