-- What bytes are: a module that a VM can run, or none, with why.
use Rattle.std.specs.Prelude.{◌≡◌, ℕ, List, None, Some}
use Rattle.wasm_syntax.specs.declared.module.Module.{Module}
use Rattle.wasm_syntax.specs.Grammar.{Spells, FirstFault}
use Rattle.wasm_syntax.specs.Validity.{IsValid}
use Rattle.vm_host.specs.declared.fitting.FitEnd.{FitEnd}
use Rattle.vm_host.specs.Fits.{fit_fault}
use Rattle.config_files.specs.declared.modules.ModuleFault.{ModuleFault}
use Rattle.config_files.specs.declared.modules.ModuleFault.TheVariants.{Unread, Invalid, Misfit}
use Rattle.config_files.specs.declared.modules.ModuleEnd.{ModuleEnd}
use Rattle.config_files.specs.declared.modules.ModuleEnd.TheVariants.{Refused, OutOfMemory}

-- the bytes spell this module, and it is valid
pub record IsModule (bytes : List ℕ) (m : Module) : Type 0 where
  pub spelled : Spells bytes m
  pub valid : IsValid m

-- the bytes are a module, which is one of a filter whose memory may have so many pages
pub record IsFilter (bytes : List ℕ) (pages : ℕ) (m : Module) : Type 0 where
  pub is : IsModule bytes m
  pub fits : fit_fault m pages ≡ None

-- the bytes spell a module that is not valid
pub record IsInvalid (bytes : List ℕ) : Type 0 where
  pub of : Module
  pub spelled : Spells bytes of
  pub invalid : IsValid of → ⊥

-- the bytes are a module, and this is the first that stands against its being a filter's
pub record IsMisfit (bytes : List ℕ) (pages : ℕ) (end : FitEnd) : Type 0 where
  pub of : Module
  pub is : IsModule bytes of
  pub misfit : fit_fault of pages ≡ Some end

-- this is the first fault of the bytes, as the module of a VM whose memory may have so many pages
abbrev pub HasFault : List ℕ → (pages : ℕ) → ModuleFault → Type 0
HasFault bytes pages (Unread number place) = FirstFault bytes number place
HasFault bytes pages Invalid = IsInvalid bytes
HasFault bytes pages (Misfit end) = IsMisfit bytes pages end

abbrev pub IsNoFilter : List ℕ → (pages : ℕ) → ModuleEnd → Type 0
IsNoFilter bytes pages (Refused fault) = HasFault bytes pages fault
IsNoFilter bytes pages OutOfMemory = Unit {0}
