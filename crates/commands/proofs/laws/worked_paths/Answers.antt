use Rattle.std.proofs.Common.{refl}
use Rattle.commands.proofs.laws.worked_paths.Goals as goal

pub returns : goal.returns
returns c = record { plain = λ judged. refl; of_file = refl; refused = λ number key. refl; checked = refl; called = λ judged. refl; reported = λ judged. refl; generated = λ judged. refl }
