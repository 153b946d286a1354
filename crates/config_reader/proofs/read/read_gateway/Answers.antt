use Rattle.std.proofs.Common.{sym}
use Rattle.toml.specs.Data.{no_members}
use Rattle.toml.specs.View.{table_view}
use Rattle.config_reader.specs.Whole.{gateway_of}
use Rattle.config_reader.proofs.Fits.{gateway_is}
use Rattle.config_reader.proofs.read.read_gateway.Goals as goal

pub gateway_of-requires-clause-workers : goal.gateway_of-requires-clause-workers
gateway_of-requires-clause-workers c = (gateway_is c.args.routes (gateway_of no_members) (table_view c.args.table.now) (sym (rw c.in_default-fault.is at c.in-Ok.ensures))).workers

pub gateway_of-requires-clause-deadline : goal.gateway_of-requires-clause-deadline
gateway_of-requires-clause-deadline c = (gateway_is c.args.routes (gateway_of no_members) (table_view c.args.table.now) (sym (rw c.in_default-fault.is at c.in-Ok.ensures))).deadline
