-- WHAT THE LOG IS TOLD of a VM that died, word by word.
use Rattle.std.specs.Prelude.{◌≡◌, ℕ, List, [], codes}
use Rattle.filter_host.specs.declared.host.Death.{Death}
use Rattle.filter_host.specs.declared.host.Death.TheVariants as deaths
use Rattle.gate_base.specs.declared.cause.Cause.TheVariants as causes
use Rattle.worker_model.specs.Rooms.{death_text}

abbrev pub told : Death → List ℕ
told death = death_text (codes "v") death

pub record DeathLines : Type 0 where
  pub unreachable : told (deaths.Trapped causes.Unreachable) ≡ codes "vm v died: unreachable"
  pub divide : told (deaths.Trapped causes.Divide) ≡ codes "vm v died: divide"
  pub overflow : told (deaths.Trapped causes.Overflow) ≡ codes "vm v died: overflow"
  pub outside : told (deaths.Trapped causes.Memory) ≡ codes "vm v died: memory"
  pub no_element : told (deaths.Trapped causes.Table) ≡ codes "vm v died: table"
  pub other_type : told (deaths.Trapped causes.Type) ≡ codes "vm v died: type"
  pub stack : told (deaths.Trapped causes.Stack) ≡ codes "vm v died: stack"
  pub exited : told (deaths.Trapped causes.Exit) ≡ codes "vm v died: exit"
  pub fuel : told deaths.FuelSpent ≡ codes "vm v died: fuel"
  pub start : told deaths.Start ≡ codes "vm v died: start"
  pub configure : told deaths.Configure ≡ codes "vm v died: configure"
  pub ids : told deaths.Ids ≡ codes "vm v died: ids"
  pub no_name : death_text [] deaths.Ids ≡ codes "vm  died: ids"
