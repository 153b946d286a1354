-- The numbers of levels, by computation.
use Rattle.std.proofs.Common.{refl}
use Rattle.law_vms.specs.Levels.{LevelExamples}

pub level_examples : LevelExamples
level_examples = record {
  trace = refl;
  debug = refl;
  info = refl;
  warn = refl;
  error = refl;
  critical = refl;
  at_0 = refl;
  at_1 = refl;
  at_2 = refl;
  at_3 = refl;
  at_4 = refl;
  at_5 = refl;
}
