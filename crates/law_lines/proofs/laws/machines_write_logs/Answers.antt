use Rattle.law_lines.proofs.Machines.{machines_write_logs}
use Rattle.law_lines.proofs.laws.machines_write_logs.Goals as goal

pub returns : goal.returns
returns c = machines_write_logs
