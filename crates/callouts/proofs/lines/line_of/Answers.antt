use Rattle.std.proofs.Common.{◌<◌, arith}
use Rattle.callouts.specs.Callouts.{last_id}
use Rattle.callouts.proofs.Once.{is_there}
use Rattle.callouts.proofs.lines.line_of.Goals as goal

pub returns-clause-none : goal.returns-clause-none
returns-clause-none c = is_there (last_id < c.args.id) c.new.result (c.new.ensures.valid.1 (omega arith))
