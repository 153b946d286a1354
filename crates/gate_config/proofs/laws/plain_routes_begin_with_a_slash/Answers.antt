use Rattle.gate_config.proofs.Slashes.{plain_routes_taken}
use Rattle.gate_config.proofs.laws.plain_routes_begin_with_a_slash.Goals as goal

pub returns : goal.returns
returns c = plain_routes_taken
