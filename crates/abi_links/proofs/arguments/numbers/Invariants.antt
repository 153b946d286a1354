use Rattle.std.proofs.Common.{◌≡◌, ◌<◌, ℕ, map, take}
use Rattle.std.specs.Prelude.{slice_index_or}
use Rattle.wasm_syntax.specs.declared.types.Value.TheVariants.{I32}
use Rattle.abi_links.specs.Numbers.{number_of, IsWithin}
use Rattle.abi_links.proofs.arguments.numbers.Given as goal

abbrev pub invariant-loop-v : goal.invariant-loop-v
invariant-loop-v l = record { numbers : l.out ≡ map number_of (take l.v-index l.args); within : (k : ℕ) → k < l.v-index → IsWithin (slice_index_or l.args k (I32 0)) }
