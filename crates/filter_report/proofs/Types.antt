-- The types of functions by index, with one import more.
use Rattle.std.proofs.Common.{◌≡◌, ℕ, ◌+◌, ◌<◌, List, [], ◌∷◌, ◌++◌, length, take, get_or, ap, sym, ◌∙◌, arith}
use Rattle.std.specs.List.{cons_option}
use Rattle.std.proofs.lemmas.List.{take_more}
use Rattle.std.proofs.lemmas.List.Elements.{filter_map-append}
use Rattle.wasm_syntax.specs.declared.module.Import.{Import}
use Rattle.wasm_syntax.specs.Validity.{imports_of, function_of}

pub imported_more : (imports : List Import) (n : ℕ) (i : Import) → n < length imports → i ≡ get_or imports n i
    → imports_of function_of (take (n + 1) imports) ≡ imports_of function_of (take n imports) ++ cons_option (function_of i.kind) []
imported_more imports n i lt read =
    let parts : take (n + 1) imports ≡ take n imports ++ i ∷ [] = take_more imports n i lt ∙ ap (λ x. take n imports ++ x ∷ []) (sym read) in
    ap (imports_of function_of) parts ∙ filter_map-append (λ (j : Import). function_of j.kind) (take n imports) (i ∷ [])
