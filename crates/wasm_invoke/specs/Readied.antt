-- The steps of an invocation, as its parts say them.
use Rattle.std.specs.Prelude.{◌≡◌, ℕ, List, [], Option, None, Some, Result, Ok, Err}
use Rattle.wasm_syntax.specs.declared.types.Value.{Value}
use Rattle.wasm_syntax.specs.declared.types.FunctionType.{FunctionType}
use Rattle.wasm_syntax.specs.declared.module.Module.{Module}
use Rattle.wasm_syntax.specs.Typing.{Is}
use Rattle.wasm_syntax.specs.Reduction.{imported, Program}
use Rattle.wasm_syntax.specs.ReductionSteps.{Config}
use Rattle.wasm_syntax.specs.ReductionPrograms.{program_of, first_config}
use Rattle.wasm_store.specs.Instances.{Instantiated}
use Rattle.wasm_store.specs.Linking.{IsLinked}
use Rattle.wasm_machine.specs.declared.machine.Mode.TheVariants.{Resting}
use Rattle.wasm_flat.specs.Holds.{HasType}
use Rattle.wasm_machine.specs.Machines.{View, program_at, config_at, Takes}
use Rattle.wasm_invoke.specs.declared.ends.End.{End}
use Rattle.wasm_invoke.specs.declared.ends.End.TheVariants as ends
use Rattle.wasm_invoke.specs.declared.ends.Invoked.{Invoked}
use Rattle.wasm_invoke.specs.declared.ends.Refusal.TheVariants as refusals
use Rattle.wasm_invoke.specs.Arguments.{AllFit, values_of}
use Rattle.wasm_invoke.specs.Exports.{exported}
use Rattle.wasm_invoke.specs.Invoking.{pages, Went, answered, trapped, spent, Started, begins, ends_with, IsModule, Invokes}

-- the instance of the module that the bytes spell
pub record IsLinkedModule (bytes : List ℕ) (i : Instantiated) : Type 0 where
  pub of : Module
  pub is : IsModule bytes of
  pub linked : IsLinked of pages i

-- the invocation ends so, whatever is exported and given
abbrev pub EndsAnyhow : List ℕ → End → Type 0
EndsAnyhow bytes e = (export : List ℕ) (words : List (List ℕ)) → Invokes bytes export words (Err e)

-- the machine of the module that the bytes spell, on which nothing has run, with the functions that are to be called
pub record IsReadied (bytes export : List ℕ) (start function : Option ℕ) (v : View) : Type 0 where
  pub of : Module
  pub is : IsModule bytes of
  pub program : program_at v ≡ program_of of pages
  pub config : config_at v ≡ first_config of
  pub pending : v.pending ≡ []
  pub mode : v.mode ≡ Resting
  pub start_is : start ≡ of.start
  pub function_is : function ≡ exported export of.exports

-- no function of the host's is there to be asked
abbrev pub AsksNobody : Program → Type 0
AsksNobody p = (x : ℕ) (t : FunctionType) → Is p.functions x (imported t) → ⊥

-- the values are those that the words write as arguments of the function
pub record AreGiven (p : Program) (x : ℕ) (words : List (List ℕ)) (values : List Value) : Type 0 where
  pub type : FunctionType
  pub typed : HasType p x type
  pub fit : AllFit type.parameters words
  pub are : values ≡ values_of type.parameters words

-- the words are no arguments, or memory ran out
abbrev pub AreRefused : Program → ℕ → List (List ℕ) → End → Type 0
AreRefused p x words (ends.Refused refusals.Arguments) = (t : FunctionType) → HasType p x t → AllFit t.parameters words → ⊥
AreRefused p x words ends.OutOfMemory = Unit {0}
AreRefused p x words e = ⊥

-- where there is a start function, it takes nothing
abbrev pub TakesNothing : Program → Option ℕ → Type 0
TakesNothing p None = Unit {0}
TakesNothing p (Some x) = Takes p x []

-- the start function has run: the machine goes on from there; or it ended so
abbrev pub StartsAs : Result (Unit {0}) End → Config → Started → Type 0
StartsAs (Ok u) c s = s ≡ begins c
StartsAs (Err (ends.Trapped cause)) c s = s ≡ ends_with (trapped cause)
StartsAs (Err ends.FuelSpent) c s = s ≡ ends_with spent
StartsAs (Err (ends.Refused r)) c s = ⊥
StartsAs (Err ends.OutOfMemory) c s = ⊥

-- the call went so
abbrev pub WentAs : Result Invoked End → Went → Type 0
WentAs (Ok i) w = w ≡ answered i.result i.used
WentAs (Err (ends.Trapped cause)) w = w ≡ trapped cause
WentAs (Err ends.FuelSpent) w = w ≡ spent
WentAs (Err (ends.Refused r)) w = ⊥
WentAs (Err ends.OutOfMemory) w = ⊥
