use Rattle.std.proofs.Common.{take, subst, sym, List, ℕ}
use Rattle.std.proofs.lemmas.List.{take_more}
use Rattle.replay_script.specs.Commands.{IsFree}
use Rattle.replay_script.proofs.Spaces.{free_and}
use Rattle.replay_script.proofs.split.split_once.Goals as goal

pub loop-at-preserved : goal.loop-at-preserved
loop-at-preserved c =
    subst (λ (xs : List ℕ). IsFree c.args.byte xs) (sym (take_more c.args.text.now c.loop-at.at 0 c.loop-at-test.true))
    (free_and c.args.byte (take c.loop-at.at c.args.text.now) _ c.loop-at.invariant c.if-b-byte.false)
