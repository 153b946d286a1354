-- Callbacks where there are no machines: each is one that is missing.
use Rattle.std.specs.Prelude.{ℕ, [], None}
use Rattle.contexts.specs.declared.parts.Contexts.{Contexts}
use Rattle.filter_host.specs.Called.{Called, called_back}
use Rattle.filter_host.specs.declared.host.CallbackEnd.TheVariants.{Returned}
use Rattle.filter_host.specs.declared.host.Callback.{Callback}
use Rattle.store_model.specs.Program.{Program, done}
use Rattle.worker_model.specs.declared.no_machines.NoMachines.{NoMachines}

abbrev pub no_calling : NoMachines → ℕ → Callback → ℕ → ℕ → ℕ → ℕ → Contexts → Program (Called NoMachines)
no_calling host vm name context first second now contexts = done (called_back (Returned None) [] host contexts)
