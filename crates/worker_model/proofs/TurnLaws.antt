-- The laws of turns.
use Rattle.filter_host.proofs.Once.{once}
use Rattle.worker_model.specs.Laws.{TurnsAreFunctions, MoreStepsChangeNothing}
use Rattle.worker_model.specs.NoCalls.{no_calling}
use Rattle.worker_model.specs.Turn.{turn}
use Rattle.worker_model.proofs.More.{more_steps}

pub turns_are_functions : TurnsAreFunctions
turns_are_functions plan state event ms ns a b one two same = once ms ns (turn no_calling plan state event) a b one two same

pub more_change_nothing : MoreStepsChangeNothing
more_change_nothing plan n k b c ms reaches at_rest = more_steps no_calling plan n k b c ms reaches at_rest
