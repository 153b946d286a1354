use Rattle.h1_model.proofs.Received as laws
use Rattle.h1_model.proofs.whole_fits.Goals as goal

pub returns : goal.returns
returns c = laws.whole_fits
