-- One call of an exported function of a module, on a host that offers nothing (WebAssembly Core 1.0, sections 4.5.4 and 4.5.5).
use Rattle.std.specs.Prelude.{◌≡◌, ℕ, ◌-◌, List, [], Option, None, Some, slice_get, Result, Ok, Err}
use Rattle.gate_base.specs.declared.cause.Cause.{Cause}
use Rattle.wasm_syntax.specs.declared.types.Value.{Value}
use Rattle.wasm_syntax.specs.declared.types.FunctionType.{FunctionType}
use Rattle.wasm_syntax.specs.declared.module.Module.{Module}
use Rattle.wasm_syntax.specs.Grammar.{Spells, FirstFault}
use Rattle.wasm_syntax.specs.Validity.{IsValid}
use Rattle.wasm_syntax.specs.Reduction.{Program}
use Rattle.wasm_syntax.specs.ReductionSteps.{Config, invoked_config}
use Rattle.wasm_syntax.specs.ReductionRuns.{Stopped, has_finished, has_asked, has_trapped, has_spent, goes_on, is_stuck, run}
use Rattle.wasm_syntax.specs.ReductionPrograms.{program_of, first_config}
use Rattle.wasm_store.specs.declared.links.Judged.TheVariants.{Unknown}
use Rattle.wasm_store.specs.Linking.{Host, link_fault}
use Rattle.wasm_flat.specs.Holds.{HasType}
use Rattle.wasm_invoke.specs.declared.ends.Refusal.{Refusal}
use Rattle.wasm_invoke.specs.declared.ends.Refusal.TheVariants as refusals
use Rattle.wasm_invoke.specs.declared.ends.End.{End}
use Rattle.wasm_invoke.specs.declared.ends.End.TheVariants as ends
use Rattle.wasm_invoke.specs.declared.ends.Invoked.{Invoked}
use Rattle.wasm_invoke.specs.Arguments.{AllFit, values_of}
use Rattle.wasm_invoke.specs.Exports.{exported}

-- the units that each of the two calls has, and how many pages a memory may have
abbrev pub budget : ℕ
budget = 10000000

abbrev pub pages : ℕ
pages = 128

-- a host that offers nothing
abbrev pub nothing_offered : Host
nothing_offered home name t = Unknown

-- ---- runs

-- how the call went: it gave this, with so many units; it trapped; or it needed a unit that was not there. (`astray` stands for what
-- does not come: a module that imports nothing asks its host for nothing, and a valid one never gets stuck.)
pub data Went : Type 0 where
  answered : Option Value → (used : ℕ) → Went
  trapped : Cause → Went
  spent : Went
  astray : Went

-- what the start function leaves: a configuration to go on from, or the end of it all
pub data Started : Type 0 where
  begins : Config → Started
  ends_with : Went → Started

abbrev pub started_as : Stopped → Started
started_as (has_finished v c left) = begins c
started_as (has_asked x args c left) = ends_with astray
started_as (has_trapped cause left) = ends_with (trapped cause)
started_as (has_spent left) = ends_with spent
started_as goes_on = ends_with astray
started_as is_stuck = ends_with astray

-- the start function runs first, if there is one, with a budget of its own
abbrev pub started : Program → Option ℕ → Config → Started
started p None c = begins c
started p (Some x) c = started_as (run p budget (invoked_config x (slice_get p.functions x) [] c))

abbrev pub went_as : Stopped → Went
went_as (has_finished v c left) = answered v (budget - left)
went_as (has_asked x args c left) = astray
went_as (has_trapped cause left) = trapped cause
went_as (has_spent left) = spent
went_as goes_on = astray
went_as is_stuck = astray

abbrev pub called : Program → ℕ → List Value → Started → Went
called p x args (begins c) = went_as (run p budget (invoked_config x (slice_get p.functions x) args c))
called p x args (ends_with w) = w

-- THE CALL of a function of the module, by its index, with these arguments
abbrev pub went : Module → ℕ → List Value → Went
went m x args = called (program_of m pages) x args (started (program_of m pages) m.start (first_config m))

-- ---- what stands in front of it

-- the bytes spell a module that is valid and linked
pub record IsModule (bytes : List ℕ) (m : Module) : Type 0 where
  pub spelled : Spells bytes m
  pub valid : IsValid m
  pub linked : link_fault nothing_offered m pages ≡ None

-- the words are arguments of the function
pub record AreArguments (m : Module) (x : ℕ) (words : List (List ℕ)) : Type 0 where
  pub type : FunctionType
  pub typed : HasType (program_of m pages) x type
  pub fit : AllFit type.parameters words

-- the exported function was called with the arguments that the words write, and it went so
pub record Goes (bytes export : List ℕ) (words : List (List ℕ)) (w : Went) : Type 0 where
  pub of : Module
  pub is : IsModule bytes of
  pub index : ℕ
  pub export_is : exported export of.exports ≡ Some index
  pub arguments : AreArguments of index words
  pub how : went of index (values_of arguments.type.parameters words) ≡ w

-- a refusal stands: the first fault of bytes that spell no module; a module that is not valid; the first cause against linking; no
-- function of that name is exported; or the words are no arguments of it
abbrev pub Refuses : List ℕ → List ℕ → List (List ℕ) → Refusal → Type 0
Refuses bytes export words (refusals.Unread number place) = FirstFault bytes number place
Refuses bytes export words refusals.Invalid = (m : Module) × Spells bytes m × (IsValid m → ⊥)
Refuses bytes export words (refusals.Unlinked fault) = (m : Module) × Spells bytes m × IsValid m × (link_fault nothing_offered m pages ≡ Some fault)
Refuses bytes export words refusals.NoExport = (m : Module) × IsModule bytes m × (exported export m.exports ≡ None)
Refuses bytes export words refusals.Arguments =
    (m : Module) × (x : ℕ) × IsModule bytes m × (exported export m.exports ≡ Some x) × (AreArguments m x words → ⊥)

-- THE ANSWER
abbrev pub Invokes : List ℕ → List ℕ → List (List ℕ) → Result Invoked End → Type 0
Invokes bytes export words (Ok i) = Goes bytes export words (answered i.result i.used)
Invokes bytes export words (Err (ends.Refused r)) = Refuses bytes export words r
Invokes bytes export words (Err (ends.Trapped cause)) = Goes bytes export words (trapped cause)
Invokes bytes export words (Err ends.FuelSpent) = Goes bytes export words spent
Invokes bytes export words (Err ends.OutOfMemory) = Unit {0}
