use Rattle.std.proofs.Common.{rules}
use Rattle.gate_live.proofs.Worlds.{drawn_more}
use Rattle.gate_live.proofs.live_site.other_worlds.Goals as goal

pub loop-preserved : goal.loop-preserved
loop-preserved g c =
    record {
      untouched = λ before. c.in_ok-add_world.ensures.untouched (c.loop.invariant.untouched before);
      seeds = λ first before.
          drawn_more first (g.R.SeedSource.drawn c.loop.rt) (g.R.SeedSource.drawn c.draw_seed.new.self) c.loop.worlds.items c.add_world.new.worlds.items c.in_ok-seed.seed (c.loop.invariant.seeds first before) c.in_ok-seed.ensures.drawn c.in_ok-add_world.ensures.seeds;
      count = (let one = c.in_ok-add_world.ensures.count in let sofar = c.loop.invariant.count in search rules);
      unused = λ before. c.in_ok-add_world.ensures.offered (c.loop.invariant.unused before);
    }
