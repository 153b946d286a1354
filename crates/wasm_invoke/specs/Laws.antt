-- What holds of every call.
use Rattle.std.specs.Prelude.{◌≡◌, ◌≢◌, ℕ, List, Result, Err}
use Rattle.wasm_invoke.specs.declared.ends.End.{End}
use Rattle.wasm_invoke.specs.declared.ends.End.TheVariants as ends
use Rattle.wasm_invoke.specs.declared.ends.Invoked.{Invoked}
use Rattle.wasm_invoke.specs.Invoking.{Goes, Invokes, Refuses, Went}
use Rattle.wasm_invoke.specs.declared.ends.Refusal.{Refusal}

-- two answers to one call are the same, unless memory ran out in one
abbrev pub OneAnswer : Type 0
OneAnswer =
    (bytes export : List ℕ) (words : List (List ℕ)) (r s : Result Invoked End)
    → r ≢ Err ends.OutOfMemory → s ≢ Err ends.OutOfMemory
    → Invokes bytes export words r → Invokes bytes export words s → r ≡ s

-- a call that is refused goes in no way, and one that goes goes in one
abbrev pub OneWay : Type 0
OneWay = (bytes export : List ℕ) (words : List (List ℕ)) (v w : Went) → Goes bytes export words v → Goes bytes export words w → v ≡ w

abbrev pub RefusedOrGoes : Type 0
RefusedOrGoes = (bytes export : List ℕ) (words : List (List ℕ)) (r : Refusal) (w : Went) → Refuses bytes export words r → Goes bytes export words w → ⊥
