use Rattle.law_read_back.proofs.Calling.{machines_keep_lists}
use Rattle.law_read_back.proofs.Shaping.{heads_have_field_lists}
use Rattle.law_read_back.proofs.laws.machines_keep_lists.Goals as goal

pub returns : goal.returns
returns c = record { callbacks = machines_keep_lists; first = heads_have_field_lists }
