use Rattle.law_vms.proofs.Fits.{fit_examples}
use Rattle.law_vms.proofs.laws.worked_fits.Goals as goal

pub returns : goal.returns
returns c = fit_examples
