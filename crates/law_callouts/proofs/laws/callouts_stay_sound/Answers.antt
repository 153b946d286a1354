use Rattle.law_callouts.proofs.Sound.{stays_sound}
use Rattle.law_callouts.proofs.laws.callouts_stay_sound.Goals as goal

pub returns : goal.returns
returns c = stays_sound
