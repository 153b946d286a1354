-- What the generator's load comes to, as a status.
use Rattle.std.specs.Prelude.{◌≡◌, ℕ, List, Option}
use Rattle.command_generate.specs.Generating.{Generates}
use Rattle.command_generate.specs.declared.running.GenerateEnd.{GenerateEnd}
use Rattle.command_generate.specs.declared.running.GenerateEnd.TheVariants as generating
use Rattle.command_replay_filters.specs.Filtered.{machines_of}
use Rattle.command_statuses.specs.declared.status.Status.{Status}
use Rattle.command_statuses.specs.declared.status.Status.TheVariants.{Done, OutFault, OutOfMemory}
use Rattle.vm_host.specs.Slots.{calling, exported_in, registering_in}

-- how a run of it ended, by the status
abbrev pub generate_status : GenerateEnd → Status
generate_status generating.Done = Done
generate_status generating.OutFault = OutFault
generate_status generating.OutOfMemory = OutOfMemory

-- HOW `generate` ENDS: the load's four workers ran over the machines of its filter, and the output took what they came to, a front of it where
-- it failed, or nothing where memory ran out
pub record Generated (n : ℕ) (status : Status) (old new : Option (List ℕ)) : Type 0 where
  pub end : GenerateEnd
  pub status_is : status ≡ generate_status end
  pub generates : Generates exported_in registering_in calling machines_of n end old new
