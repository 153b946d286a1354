-- The laws of turns, whatever the machines do.
use Rattle.filter_host.proofs.Once.{once}
use Rattle.law_turns.specs.Laws.{TurnsAreFunctionsOver, MoreStepsChangeNothingOver}
use Rattle.worker_model.specs.Turn.{turn}
use Rattle.worker_model.proofs.More.{more_steps}

pub turns_are_functions : (H : Type 0) → TurnsAreFunctionsOver H
turns_are_functions H calling plan state event ms ns a b one two same = once ms ns (turn calling plan state event) a b one two same

pub more_change_nothing : (H : Type 0) → MoreStepsChangeNothingOver H
more_change_nothing H calling plan n k b c ms reaches at_rest = more_steps calling plan n k b c ms reaches at_rest
