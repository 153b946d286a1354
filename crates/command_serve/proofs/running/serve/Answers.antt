use Rattle.std.proofs.Common.{◌∙◌, ℕ, List, [], ◌∷◌, map, Option, ap, sym, subst, inr}
use Rattle.fleet.specs.Lives.{first_of}
use Rattle.gate_io.specs.Told.{Gains}
use Rattle.gate_io.specs.declared.settings.Settings.{Settings}
use Rattle.worker_model.specs.State.{Standing}
use Rattle.command_serve.specs.Serving.{Ends, Eyes, settings_of}
use Rattle.command_serve.proofs.Ending.{ends_so}
use Rattle.command_serve.proofs.running.serve.Goals as goal

pub returns-clause-serves : goal.returns-clause-serves
returns-clause-serves g c =
    let W : Type 0 = g.row.S-W.Denot in
    let eyes : Eyes W = record { trace = g.S.W.World.trace; last = g.S.W.World.last; nature = g.S.W.World.nature; faults = g.S.W.World.faults } in
    let first : ℕ → List ℕ → Standing g.row.H.Denot = first_of g.H.Host.exported g.H.Host.registering c.args.config.now (g.M.MakesHost.made c.args.maker.now c.args.config.now) in
    let settings : Settings = settings_of c.args.config.now c.args.stop_after in
    let given : List W = c.in-Ok-start.worlds.items in
    let noted = subst (λ (s : Settings). Gains (g.S.Site.started c.args.site.now) (s ∷ []) (g.S.Site.started c.start.new.self)) c.in-Ok.ensures c.in-Ok-start.ensures.started in
    inr (record {
      started = subst (λ (o : Option (List Settings)). Gains (g.S.Site.started c.args.site.now) (settings ∷ []) o) (sym c.give_back.ensures.started) noted;
      worlds = given;
      count = c.in-Ok-start.ensures.count ∙ ap (λ (s : Settings). s.workers) c.in-Ok.ensures;
      fresh = c.in-Ok-start.ensures.fresh;
      seeds = subst (λ (o : Option (List (List ℕ))). Gains (g.S.Site.seeds c.args.site.now) (map (λ (w : W). (g.S.W.World.nature w).seed) given) o) (sym c.give_back.ensures.seeds) c.in-Ok-start.ensures.seeds;
      ends = subst (λ (back : List W). Ends eyes g.H.Host.calling first c.args.config.now c.finish.result given back (g.O.Sink.taken c.args.out.now) (g.O.Sink.taken c.finish.new.out)) (sym c.give_back.ensures.returned)
          (ends_so eyes g.H.Host.calling first c.args.config.now given c.run_fleet-ran.new.worlds.items (g.O.Sink.taken c.args.out.now) (g.O.Sink.taken c.finish.new.out) c.run_fleet-ran.result c.finish.result
          c.run_fleet-ran.ensures.ran c.run_fleet-ran.ensures.fault c.finish.ensures.finishes);
    })
