use Rattle.std.proofs.Common.{refl, set}
use Rattle.command_replay.proofs.Answered.{ok_map}
use Rattle.command_replay.proofs.Turns.{one_of}
use Rattle.command_replay.proofs.crew.turn_at.Goals as goal

pub returns-clause-turns : goal.returns-clause-turns
returns-clause-turns g c =
    ok_map c.turn_of.result _ _
    (λ turns. one_of g.H.Host.calling c.args.at c.args.workers.now (set c.args.workers.now c.args.at c.turn_of.new.worker) c.args.world.now c.turn_of.new.world c.args.shared.now c.turn_of.new.shared
    c.get_mut.result.now c.turn_of.new.worker c.get_mut.ensures.value refl turns) c.turn_of.ensures.turns
