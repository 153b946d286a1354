use Rattle.std.proofs.Common.{inl, inr, subst, sym, refl}
use Rattle.std.specs.Prelude.{IsTrue}
use Rattle.gate_io.specs.Nature.{Nature}
use Rattle.gate_io.specs.declared.ends.WorldEnd.TheVariants as ends
use Rattle.worker.proofs.Quietly.{cut_of}
use Rattle.worker.proofs.Turns.{took_whole, stopped, went, unanswered, partly_sent, no_event, heard_so, refused_as, in_room, turned_at, turned_from}
use Rattle.worker_model.specs.declared.types.Turn.TheVariants.{Went, Stopped, WorldFault, OutOfMemory}
use Rattle.worker.proofs.worker.Worker.turn.Goals as goal

pub returns-in-Err-Failed-clause-turned : goal.returns-in-Err-Failed-clause-turned
returns-in-Err-Failed-clause-turned g c =
    turned_at g.H.Host.calling g.S.Shared.performs c.args.shared.now (g.W.World.trace c.args.world.now) _ _ WorldFault _ c.args.shared.now (g.W.World.trace c.ask.new.world) (in_room _ _ _ c.self.view_is c.ask.ensures.room)
    (no_event _ _ _ _ _ (refused_as _ _ ends.Failed _ _ c.in-Err-Failed.field-0-is c.in-Err-Failed.ensures.trace))

pub returns-in-Err-OutOfMemory-clause-turned : goal.returns-in-Err-OutOfMemory-clause-turned
returns-in-Err-OutOfMemory-clause-turned g c =
    turned_at g.H.Host.calling g.S.Shared.performs c.args.shared.now (g.W.World.trace c.args.world.now) _ _ OutOfMemory _ c.args.shared.now (g.W.World.trace c.ask.new.world) (in_room _ _ _ c.self.view_is c.ask.ensures.room)
    (inl (no_event _ _ _ _ _ (refused_as _ _ ends.OutOfMemory _ _ c.in-Err-OutOfMemory.field-0-is c.in-Err-OutOfMemory.ensures.trace)))

pub returns-in-Stop-clause-turned : goal.returns-in-Stop-clause-turned
returns-in-Stop-clause-turned g c =
    turned_at g.H.Host.calling g.S.Shared.performs c.args.shared.now (g.W.World.trace c.args.world.now) _ _ Stopped _ c.args.shared.now (g.W.World.trace c.ask.new.world) (in_room _ _ _ c.self.view_is c.ask.ensures.room)
    (stopped g.H.Host.calling g.S.Shared.performs g.met.S.Shared.nothing _ _ _ _ _ _ c.in-Ok.event refl c.in-Stop.is refl c.in-Ok.ensures.trace)

pub returns-in_default-react-clause-turned : goal.returns-in_default-react-clause-turned
returns-in_default-react-clause-turned g c =
    turned_at g.H.Host.calling g.S.Shared.performs c.args.shared.now (g.W.World.trace c.args.world.now) _ _ OutOfMemory _ c.react.new.shared (g.W.World.trace c.ask.new.world) (in_room _ _ _ c.self.view_is c.ask.ensures.room)
    (inr (inl (unanswered g.H.Host.calling g.S.Shared.performs _ _ _ _ _ _ _ c.in-Ok.event refl c.in_default.not-Stop refl
    (cut_of g.S.Shared.performs _ _ _ _ c.react.result c.in_default-react.not-Ok c.react.ensures.run) c.in-Ok.ensures.trace)))

pub returns-clause-turned : goal.returns-clause-turned
returns-clause-turned g c =
    turned_at g.H.Host.calling g.S.Shared.performs c.args.shared.now (g.W.World.trace c.args.world.now) _ _ Went _ c.react.new.shared (g.W.World.trace c.deliver.new.world) (in_room _ _ _ c.self.view_is c.ask.ensures.room)
    (went g.H.Host.calling g.S.Shared.performs _ _ _ _ _ _ _ _ _ c.in-Ok.event _ c.in-Ok-react.sent.items refl c.in_default.not-Stop refl
    c.in-Ok-react.ensures.empty c.in-Ok-react.ensures.rest c.clear.ensures c.in-Ok-react.ensures.run c.in-Ok.ensures.trace c.in-Ok-deliver.ensures.offered)

pub returns-in-Err-clause-turned : goal.returns-in-Err-clause-turned
returns-in-Err-clause-turned g c =
    turned_at g.H.Host.calling g.S.Shared.performs c.args.shared.now (g.W.World.trace c.args.world.now) _ _ OutOfMemory _ c.react.new.shared (g.W.World.trace c.deliver.new.world) (in_room _ _ _ c.self.view_is c.ask.ensures.room)
    (inr (inr (partly_sent g.H.Host.calling g.S.Shared.performs c.in-Err.field-0 _ _ _ _ _ _ _ _ c.react.new.host c.react.new.room _ _ c.in-Ok.event _ c.in-Ok-react.sent.items
    refl c.in_default.not-Stop refl c.in-Ok-react.ensures.empty c.clear.ensures c.in-Ok-react.ensures.run c.in-Ok.ensures.trace c.in-Err.ensures.offered)))

pub returns-clause-whole : goal.returns-clause-whole
returns-clause-whole g c = λ whole went.
    took_whole _ _ _ _ _ _ _ c.in-Ok.event (subst (λ (n : Nature). IsTrue n.takes_whole) (sym c.in-Ok.ensures.nature) whole) c.in-Ok.ensures.trace c.in-Ok-deliver.ensures.offered

pub returns-in-Err-Failed-clause-heard : goal.returns-in-Err-Failed-clause-heard
returns-in-Err-Failed-clause-heard g c =
    turned_from g.H.Host.calling g.S.Shared.performs (g.W.World.nature c.args.world.now).obeys (g.W.World.last c.args.world.now) (g.W.World.last c.ask.new.world) c.args.shared.now (g.W.World.trace c.args.world.now) _ _ WorldFault _ c.args.shared.now (g.W.World.trace c.ask.new.world) (in_room _ _ _ c.self.view_is c.ask.ensures.room) (
      no_event _ _ _ _ _ (refused_as _ _ ends.Failed _ _ c.in-Err-Failed.field-0-is c.in-Err-Failed.ensures.trace),
      c.in-Err-Failed.ensures.last,
    )

pub returns-in-Err-OutOfMemory-clause-heard : goal.returns-in-Err-OutOfMemory-clause-heard
returns-in-Err-OutOfMemory-clause-heard g c =
    turned_from g.H.Host.calling g.S.Shared.performs (g.W.World.nature c.args.world.now).obeys (g.W.World.last c.args.world.now) (g.W.World.last c.ask.new.world) c.args.shared.now (g.W.World.trace c.args.world.now) _ _ OutOfMemory _ c.args.shared.now (g.W.World.trace c.ask.new.world) (in_room _ _ _ c.self.view_is c.ask.ensures.room) (
      inl (no_event _ _ _ _ _ (refused_as _ _ ends.OutOfMemory _ _ c.in-Err-OutOfMemory.field-0-is c.in-Err-OutOfMemory.ensures.trace)),
      c.in-Err-OutOfMemory.ensures.last,
    )

pub returns-in-Stop-clause-heard : goal.returns-in-Stop-clause-heard
unfolding stopped
returns-in-Stop-clause-heard g c =
    turned_from g.H.Host.calling g.S.Shared.performs (g.W.World.nature c.args.world.now).obeys (g.W.World.last c.args.world.now) (g.W.World.last c.ask.new.world) c.args.shared.now (g.W.World.trace c.args.world.now) _ _ Stopped _ c.args.shared.now (g.W.World.trace c.ask.new.world) (in_room _ _ _ c.self.view_is c.ask.ensures.room) (
      stopped g.H.Host.calling g.S.Shared.performs g.met.S.Shared.nothing _ _ _ _ _ _ c.in-Ok.event refl c.in-Stop.is refl c.in-Ok.ensures.trace,
      heard_so _ _ _ _ _ _ c.in-Ok.event refl c.in-Ok.ensures.event c.in-Ok.ensures.obeys c.in-Ok.ensures.last refl,
    )

pub returns-in_default-react-clause-heard : goal.returns-in_default-react-clause-heard
unfolding unanswered
returns-in_default-react-clause-heard g c =
    turned_from g.H.Host.calling g.S.Shared.performs (g.W.World.nature c.args.world.now).obeys (g.W.World.last c.args.world.now) (g.W.World.last c.ask.new.world) c.args.shared.now (g.W.World.trace c.args.world.now) _ _ OutOfMemory _ c.react.new.shared (g.W.World.trace c.ask.new.world) (in_room _ _ _ c.self.view_is c.ask.ensures.room) (
      inr (inl (unanswered g.H.Host.calling g.S.Shared.performs _ _ _ _ _ _ _ c.in-Ok.event refl c.in_default.not-Stop refl
          (cut_of g.S.Shared.performs _ _ _ _ c.react.result c.in_default-react.not-Ok c.react.ensures.run) c.in-Ok.ensures.trace)),
      heard_so _ _ _ _ _ _ c.in-Ok.event refl c.in-Ok.ensures.event c.in-Ok.ensures.obeys c.in-Ok.ensures.last refl,
    )

pub returns-in-Err-clause-heard : goal.returns-in-Err-clause-heard
unfolding partly_sent
returns-in-Err-clause-heard g c =
    turned_from g.H.Host.calling g.S.Shared.performs (g.W.World.nature c.args.world.now).obeys (g.W.World.last c.args.world.now) (g.W.World.last c.deliver.new.world) c.args.shared.now (g.W.World.trace c.args.world.now) _ _ OutOfMemory _ c.react.new.shared (g.W.World.trace c.deliver.new.world) (in_room _ _ _ c.self.view_is c.ask.ensures.room) (
      inr (inr (partly_sent g.H.Host.calling g.S.Shared.performs c.in-Err.field-0 _ _ _ _ _ _ _ _ c.react.new.host c.react.new.room _ _ c.in-Ok.event _ c.in-Ok-react.sent.items
          refl c.in_default.not-Stop refl c.in-Ok-react.ensures.empty c.clear.ensures c.in-Ok-react.ensures.run c.in-Ok.ensures.trace c.in-Err.ensures.offered)),
      heard_so _ _ _ _ _ _ c.in-Ok.event refl c.in-Ok.ensures.event c.in-Ok.ensures.obeys c.in-Ok.ensures.last c.deliver.ensures.last,
    )

pub returns-clause-heard : goal.returns-clause-heard
unfolding went
returns-clause-heard g c =
    turned_from g.H.Host.calling g.S.Shared.performs (g.W.World.nature c.args.world.now).obeys (g.W.World.last c.args.world.now) (g.W.World.last c.deliver.new.world) c.args.shared.now (g.W.World.trace c.args.world.now) _ _ Went _ c.react.new.shared (g.W.World.trace c.deliver.new.world) (in_room _ _ _ c.self.view_is c.ask.ensures.room) (
      went g.H.Host.calling g.S.Shared.performs _ _ _ _ _ _ _ _ _ c.in-Ok.event _ c.in-Ok-react.sent.items refl c.in_default.not-Stop refl
          c.in-Ok-react.ensures.empty c.in-Ok-react.ensures.rest c.clear.ensures c.in-Ok-react.ensures.run c.in-Ok.ensures.trace c.in-Ok-deliver.ensures.offered,
      heard_so _ _ _ _ _ _ c.in-Ok.event refl c.in-Ok.ensures.event c.in-Ok.ensures.obeys c.in-Ok.ensures.last c.deliver.ensures.last,
    )
