use Rattle.store_model.specs.History.{entry}
use Rattle.turn_table.proofs.turn.turn.Given as goal

abbrev pub ghosts-record : goal.ghosts-record
ghosts-record g a = record { entry = entry a.who a.call.now a.reply.now }
