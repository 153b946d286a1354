-- How a run ends.
use Rattle.std.proofs.Common.{ℕ, Bool, List, Option}
use Rattle.filter_host.specs.Called.{Calling}
use Rattle.filter_host.specs.declared.host.Callback.{Callback}
use Rattle.gate_config.specs.declared.config.Config.{Config}
use Rattle.command_generate.specs.Generating.{Generates, Ran, Tells}
use Rattle.command_generate.specs.declared.running.GenerateEnd.{GenerateEnd}
use Rattle.command_generate.specs.declared.running.GenerateEnd.TheVariants.{Done, OutFault, OutOfMemory}

module _ {H : Type 0} (exported : H → ℕ → Callback → Bool) (registering : H → ℕ → Bool) (calling : Calling H) (made : Config → H) (n : ℕ) (taken took : Option (List ℕ)) where
  pub told : (end : GenerateEnd) (text : List ℕ) → Ran exported registering calling made n text → Tells end text taken took → Generates exported registering calling made n end taken took
  told Done text ran t = (text, ran, t)
  told OutFault text ran t = (text, ran, t)
  told OutOfMemory text ran t = t
