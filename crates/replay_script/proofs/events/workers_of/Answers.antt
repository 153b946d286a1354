use Rattle.std.proofs.Common.{◌≡◌, ℕ, List, sym, subst, arith}
use Rattle.std.specs.Prelude.{All}
use Rattle.std.proofs.lemmas.Grind.{common_steps}
use Rattle.replay_script.specs.Scripts.{workers_of}
use Rattle.replay_script.proofs.Crews.{IsThere, all_there}
use Rattle.replay_script.proofs.events.workers_of.Goals as goal

pub returns-clause-there : goal.returns-clause-there
returns-clause-there c = λ workers low lines.
    let are : c.push-2.new.self.items ≡ workers_of c.args.commands.now = grind (arith, common_steps) in
    subst (λ (ws : List ℕ). All (IsThere workers) ws) (sym are) (all_there workers c.args.commands.now low lines)
