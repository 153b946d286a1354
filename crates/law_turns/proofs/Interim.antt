-- Interim heads.
use Rattle.std.proofs.Common.{refl}
use Rattle.law_turns.specs.Interim.{InterimKeepsLines, InterimExample}

pub interim_keeps_lines : InterimKeepsLines
interim_keeps_lines = record {
  lines = λ plan r h new old. refl;
  contexts = λ plan r h new old. refl;
  jobs = λ plan r h new old. refl;
  agenda = λ plan r h new old. refl;
  waits = λ plan r h new old. refl;
  dead = λ plan r h new old. refl;
  is_begun = λ plan r h new old. refl;
  moment = λ plan r h new old. refl;
  goes_on = λ plan r h new old. refl;
}

pub interim_example : InterimExample
interim_example = record {
  exchange = refl;
  due = refl;
  sends = refl;
  old_client = refl;
  old_due = refl;
}
