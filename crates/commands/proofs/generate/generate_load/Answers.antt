use Rattle.commands.proofs.Generator.{takes}
use Rattle.commands.proofs.generate.generate_load.Goals as goal

pub generate-requires-clause-takes : goal.generate-requires-clause-takes
generate-requires-clause-takes g c κs within = takes
