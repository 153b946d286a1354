use Rattle.std.proofs.Common.{◌∙◌, suc, arith}
use Rattle.fleet.proofs.lives.take_turns.Goals as goal

pub turns-preserved : goal.turns-preserved
turns-preserved g c = record {
  setting = c.turn.ensures.setting ∙ c.turns.invariant.setting;
  needs = c.turn.ensures.needs ∙ c.turns.invariant.needs;
  stores = c.turn.ensures.stores ∙ c.turns.invariant.stores;
  nature = c.turn.ensures.nature ∙ c.turns.invariant.nature;
  faults = omega (arith, c.turns.invariant.faults, c.turn.ensures.faults);
  went = (suc c.turns.invariant.went.0, (c.turns.worker, c.turns.shared, g.W.World.trace c.turns.world, c.turns.invariant.went.1, c.in-Went.ensures.turned, c.turn.ensures.setting));
}

pub returns-in_default : goal.returns-in_default
returns-in_default g c = record {
  stores = c.turn.ensures.stores ∙ c.turns.invariant.stores;
  nature = c.turn.ensures.nature ∙ c.turns.invariant.nature;
  faults = omega (arith, c.turns.invariant.faults, c.turn.ensures.faults);
  fault = λ e h. omega (arith, c.turns.invariant.faults, c.turn.ensures.fault e h);
  life = record { count = c.turns.invariant.went.0; before = c.turns.worker; at = c.turns.shared; mid = g.W.World.trace c.turns.world; went = c.turns.invariant.went.1; last = c.turn.ensures.turned; setting_is = c.turn.ensures.setting; ended = c.in_default.not-Went };
}
