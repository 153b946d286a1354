-- The numbers of the levels of log lines, both ways.
use Rattle.std.specs.Prelude.{◌≡◌}
use Rattle.abi_services.specs.Logging.{level_at}
use Rattle.contexts.specs.Reached.{level_no}
use Rattle.gate_base.specs.declared.level.Level.TheVariants.{Trace, Debug, Info, Warn, Error, Critical}

pub record LevelExamples : Type 0 where
  pub trace : level_no Trace ≡ 0
  pub debug : level_no Debug ≡ 1
  pub info : level_no Info ≡ 2
  pub warn : level_no Warn ≡ 3
  pub error : level_no Error ≡ 4
  pub critical : level_no Critical ≡ 5
  -- what a guest says
  pub at_0 : level_at 0 ≡ Trace
  pub at_1 : level_at 1 ≡ Debug
  pub at_2 : level_at 2 ≡ Info
  pub at_3 : level_at 3 ≡ Warn
  pub at_4 : level_at 4 ≡ Error
  pub at_5 : level_at 5 ≡ Critical
