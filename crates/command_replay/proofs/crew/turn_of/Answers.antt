use Rattle.std.specs.Prelude.{refl}
use Rattle.command_replay.proofs.Turns.{went_turns, stopped_turns, still_seated}
use Rattle.command_replay.proofs.crew.turn_of.Goals as goal

pub returns-in-Went-clause-turns : goal.returns-in-Went-clause-turns
returns-in-Went-clause-turns g c =
    (went_turns g.H.Host.calling c.args.shared.now c.turn.new.shared c.args.worker.now c.turn.new.self c.args.world.now c.turn.new.world c.requires.nothing_waits c.turn.ensures.setting c.turn.ensures.nature
    (c.turn.ensures.whole refl c.in-Went.is) c.in-Went.ensures.turned).0

pub returns-in-Went-clause-seated : goal.returns-in-Went-clause-seated
returns-in-Went-clause-seated g c =
    still_seated g.H.Host.needs _ c.args.worker.now c.turn.new.self c.requires c.turn.ensures.setting c.turn.ensures.needs
    (went_turns g.H.Host.calling c.args.shared.now c.turn.new.shared c.args.worker.now c.turn.new.self c.args.world.now c.turn.new.world c.requires.nothing_waits c.turn.ensures.setting c.turn.ensures.nature
    (c.turn.ensures.whole refl c.in-Went.is) c.in-Went.ensures.turned).1

pub returns-in-Stopped-clause-turns : goal.returns-in-Stopped-clause-turns
returns-in-Stopped-clause-turns g c =
    (stopped_turns g.H.Host.calling c.args.shared.now c.turn.new.shared c.args.worker.now c.turn.new.self c.args.world.now c.turn.new.world c.requires.nothing_waits c.turn.ensures.setting c.turn.ensures.nature
    c.in-Stopped.ensures.turned).0

pub returns-in-Stopped-clause-seated : goal.returns-in-Stopped-clause-seated
returns-in-Stopped-clause-seated g c =
    still_seated g.H.Host.needs _ c.args.worker.now c.turn.new.self c.requires c.turn.ensures.setting c.turn.ensures.needs
    (stopped_turns g.H.Host.calling c.args.shared.now c.turn.new.shared c.args.worker.now c.turn.new.self c.args.world.now c.turn.new.world c.requires.nothing_waits c.turn.ensures.setting c.turn.ensures.nature
    c.in-Stopped.ensures.turned).1
