-- A module with nothing in it is valid.
use Rattle.std.proofs.Common.{refl, ℕ, ◌<◌, arith, []}
use Rattle.std.proofs.lemmas.List.Elements.{All-nil}
use Rattle.wasm_syntax.specs.declared.valid.Part.{Part}
use Rattle.wasm_syntax.specs.declared.valid.Part.TheVariants as part
use Rattle.wasm_syntax.specs.Grammar.{empty_module}
use Rattle.wasm_syntax.specs.Validity.{IsValid, IsGood, IsBounded, entries_of}

nothing_bad : (p : Part) (n : ℕ) → n < entries_of empty_module p → IsGood empty_module p n
nothing_bad part.Signature n lt = absurd (omega arith)
nothing_bad part.Import n lt = absurd (omega arith)
nothing_bad part.Function n lt = absurd (omega arith)
nothing_bad part.Table n lt = absurd (omega arith)
nothing_bad part.Memory n lt = absurd (omega arith)
nothing_bad part.Global n lt = absurd (omega arith)
nothing_bad part.Element n lt = absurd (omega arith)
nothing_bad part.Segment n lt = absurd (omega arith)
nothing_bad part.Start n lt = absurd (omega arith)
nothing_bad part.Export n lt = absurd (omega arith)
nothing_bad part.Code n lt = absurd (omega arith)

pub empty_is_valid : IsValid empty_module
empty_is_valid = record { entries = nothing_bad; coded = refl; bounded = All-nil IsBounded }
