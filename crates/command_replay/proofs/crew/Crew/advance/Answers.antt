use Rattle.command_replay.proofs.Answered.{ok_two}
use Rattle.command_replay.proofs.Turns.{advanced}
use Rattle.command_replay.proofs.crew.Crew.advance.Goals as goal

pub returns-clause-advances : goal.returns-clause-advances
returns-clause-advances g c =
    ok_two c.print_all.result _ _ _
    (λ text last. advanced g.H.Host.calling c.args.who c.get.result c.args.self.now.workers c.turn_at.new.workers c.args.self.now.world c.turn_at.new.world c.args.self.now.shared c.as_worker.new.self c.turn_at.new.shared
    c.args.self.now.last c.print_all.new.last c.args.pending.now c.print_all.new.out c.taken.result.now c.get.ensures.number c.as_worker.ensures c.in_ok-turn_at.ensures.turns c.taken.ensures text last)
    c.print_all.ensures.text c.print_all.ensures.last
