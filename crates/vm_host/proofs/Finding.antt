-- What is found in lists.
use Rattle.std.proofs.Common.{◌≡◌, ◌≤◌, ℕ, List, ◌++◌, length, drop, subst}
use Rattle.std.specs.Prelude.{slice_get}
use Rattle.std.proofs.lemmas.List.{drop_all}
use Rattle.wasm_syntax.specs.declared.module.Import.{Import}
use Rattle.wasm_syntax.specs.Validity.{function_of, imports_of}

-- after all imports stand the module's own
pub behind_imports : (imports : List Import) (own : List ℕ) (n left x : ℕ) → length imports ≤ n → slice_get (imports_of function_of (drop n imports) ++ own) left ≡ slice_get (imports_of function_of imports ++ own) x →
    slice_get own left ≡ slice_get (imports_of function_of imports ++ own) x
behind_imports imports own n left x all is =
    subst (λ (is : List Import). slice_get (imports_of function_of is ++ own) left ≡ slice_get (imports_of function_of imports ++ own) x) (drop_all n imports all) is
