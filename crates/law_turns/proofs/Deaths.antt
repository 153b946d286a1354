-- Lines of VMs that died, by computation.
use Rattle.std.proofs.Common.{refl}
use Rattle.law_turns.specs.Deaths.{DeathLines}

pub death_lines : DeathLines
death_lines = record {
  unreachable = refl;
  divide = refl;
  overflow = refl;
  outside = refl;
  no_element = refl;
  other_type = refl;
  stack = refl;
  exited = refl;
  fuel = refl;
  start = refl;
  configure = refl;
  ids = refl;
  no_name = refl;
}
