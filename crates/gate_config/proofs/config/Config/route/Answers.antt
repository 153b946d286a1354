use Rattle.gate_config.proofs.Within.{within}
use Rattle.gate_config.proofs.config.Config.route.Goals as goal

pub returns-clause-within : goal.returns-clause-within
returns-clause-within c = rw c.look_up.ensures (within c.args.self.now.routes c.args.path.now)
