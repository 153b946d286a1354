use Rattle.std.proofs.Common.{◌∙◌, List, ℕ, ap, sym, subst, inl}
use Rattle.worker_model.specs.State.{Standing}
use Rattle.fleet.specs.Lives.{Life, first_of}
use Rattle.fleet.proofs.lives.live_once.Goals as goal

pub returns-clause-life : goal.returns-clause-life
returns-clause-life g c =
    let begun = c.in-Ok.ensures.new ∙ ap (λ (seed : List ℕ). first_of g.H.Host.exported g.H.Host.registering c.args.config.now (g.M.MakesHost.made c.args.maker.now c.args.config.now) c.args.who seed) c.seed.ensures in
    inl (record {
      after = c.take_turns-end.new.worker;
      life = subst (λ (w : Standing g.row.H.Denot). Life g.H.Host.calling g.S.Shared.performs c.args.shared.now (g.W.World.trace c.args.world.now) w c.take_turns-end.result c.take_turns-end.new.worker c.take_turns-end.new.shared (g.W.World.trace c.take_turns-end.new.world)) begun c.take_turns-end.ensures.life;
      took_is = sym c.took.ensures;
    })
