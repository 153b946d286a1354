use Rattle.h1_model.proofs.Totals as laws
use Rattle.h1_model.proofs.each_text.Goals as goal

pub returns : goal.returns
returns c = laws.each_text
