use Rattle.h1_model.proofs.Cuts as laws
use Rattle.h1_model.proofs.unread_is_cut.Goals as goal

pub returns : goal.returns
returns c = laws.unread_is_cut
