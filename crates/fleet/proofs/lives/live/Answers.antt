use Rattle.std.proofs.Common.{rules, ◌≡◌, ◌∙◌, ◌&&◌, suc, true, arith, subst, true≢false}
use Rattle.gate_io.specs.Nature.{Nature}
use Rattle.fleet.specs.Lives.{OneLife, first_of, is_memory}
use Rattle.fleet.proofs.Ending.{lives_cut, one_more_ended}
use Rattle.fleet.proofs.lives.live.Goals as goal

pub lives-preserved : goal.lives-preserved
lives-preserved g c =
    let so = c.lives.invariant in
    let first = λ (n : Nature). first_of g.H.Host.exported g.H.Host.registering c.args.config.now (g.M.MakesHost.made c.args.maker.now c.args.config.now) c.args.who n.seed in
    let one = subst (λ (n : Nature). OneLife g.H.Host.calling g.S.Shared.performs (first n) c.lives.shared (g.W.World.trace c.lives.watched) c.live_once-end.result.0 c.live_once-end.result.1 c.live_once-end.new.shared (g.W.World.trace c.live_once-end.new.world)) so.nature c.live_once-end.ensures.life in
    let both : (is_memory c.live_once-end.result.0 && c.live_once-end.result.1) ≡ true = search rules in
    record {
      stores = c.live_once-end.ensures.stores ∙ so.stores;
      nature = c.in-Ok.ensures.nature ∙ c.live_once-end.ensures.nature ∙ so.nature;
      faults = omega (arith, so.faults, c.live_once-end.ensures.faults, c.in-Ok.ensures.faults);
      early = (
        suc so.early.0,
        (λ e. absurd (true≢false e)),
        one_more_ended g.H.Host.calling g.S.Shared.performs (first (g.W.World.nature c.args.watched.now)) so.early.0 c.args.shared.now (g.W.World.trace c.args.watched.now) c.lives.shared (g.W.World.trace c.lives.watched)
            c.live_once-end.result.0 c.live_once-end.result.1 c.live_once-end.new.shared (g.W.World.trace c.live_once-end.new.world) (g.W.World.trace c.close_all.new.self) so.early.2 both one c.in-Ok.ensures.all,
        (λ e. omega arith),
      );
    }

pub returns-in-Err-clause-lives : goal.returns-in-Err-clause-lives
returns-in-Err-clause-lives g c =
    let so = c.lives.invariant in
    let first = λ (n : Nature). first_of g.H.Host.exported g.H.Host.registering c.args.config.now (g.M.MakesHost.made c.args.maker.now c.args.config.now) c.args.who n.seed in
    let one = subst (λ (n : Nature). OneLife g.H.Host.calling g.S.Shared.performs (first n) c.lives.shared (g.W.World.trace c.lives.watched) c.live_once-end.result.0 c.live_once-end.result.1 c.live_once-end.new.shared (g.W.World.trace c.live_once-end.new.world)) so.nature c.live_once-end.ensures.life in
    let both : (is_memory c.live_once-end.result.0 && c.live_once-end.result.1) ≡ true = search rules in
    lives_cut g.H.Host.calling g.S.Shared.performs (first (g.W.World.nature c.args.watched.now)) so.early.0 c.args.shared.now (g.W.World.trace c.args.watched.now) c.lives.shared (g.W.World.trace c.lives.watched)
    c.live_once-end.result.0 c.live_once-end.result.1 c.live_once-end.new.shared (g.W.World.trace c.live_once-end.new.world) (g.W.World.trace c.close_all.new.self) so.early.2 both one c.in-Err.ensures.closes
