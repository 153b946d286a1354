use Rattle.std.proofs.Common.{refl}
use Rattle.std.specs.Fmt.{digits}
use Rattle.hex.specs.Hex.{encode_with}
use Rattle.metric_lines.proofs.law.worked_lines.Goals as goal

pub returns-clause-counter_and_gauge_told : goal.returns-clause-counter_and_gauge_told
unfolding digits encode_with
returns-clause-counter_and_gauge_told c = refl

pub returns-clause-bounds_told : goal.returns-clause-bounds_told
unfolding digits encode_with
returns-clause-bounds_told c = refl
