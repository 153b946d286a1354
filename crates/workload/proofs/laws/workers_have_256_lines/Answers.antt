use Rattle.std.proofs.Common.{arith}
use Rattle.workload.proofs.Lines.{is_share}
use Rattle.workload.proofs.laws.workers_have_256_lines.Goals as goal

pub returns : goal.returns
returns c = record { first = is_share 0 (omega arith); second = is_share 1 (omega arith); third = is_share 2 (omega arith); fourth = is_share 3 (omega arith) }
