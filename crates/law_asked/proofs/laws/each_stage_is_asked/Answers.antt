use Rattle.law_asked.proofs.Each.{each_is_asked, heads_are_asked}
use Rattle.law_asked.proofs.laws.each_stage_is_asked.Goals as goal

pub returns-clause-items : goal.returns-clause-items
returns-clause-items c = each_is_asked

pub returns-clause-heads : goal.returns-clause-heads
returns-clause-heads c = heads_are_asked
