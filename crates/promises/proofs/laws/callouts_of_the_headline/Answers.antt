use Rattle.promises.proofs.Upwards.{lives_send_callouts}
use Rattle.promises.proofs.laws.callouts_of_the_headline.Goals as goal

pub returns : goal.returns
returns c = lives_send_callouts c.meanings_are_turns.ensures c.workers_send_callouts_once.ensures c.made_vms_are_in_place.ensures
