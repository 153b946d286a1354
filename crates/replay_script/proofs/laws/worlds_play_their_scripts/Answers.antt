use Rattle.replay_script.proofs.Worlds.{plays_its_script}
use Rattle.replay_script.proofs.laws.worlds_play_their_scripts.Goals as goal

pub returns : goal.returns
returns c = plays_its_script
