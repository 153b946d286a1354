use Rattle.std.proofs.Common.{refl}
use Rattle.hex.specs.Hex.{encode_with}
use Rattle.vm_host.specs.Fits.{type_in}
use Rattle.filter_report.proofs.laws.worked_reports.Goals as goal

pub returns : goal.returns
unfolding encode_with type_in
returns c = record { nothing = refl; marked = refl; older = refl; both = refl; starts = refl; connections = refl; all = refl }
