-- Worked examples of linking.
use Rattle.std.specs.Prelude.{ℕ, pos, negsuc, List, [], ◌∷◌, None}
use Rattle.wasm_syntax.specs.declared.types.Limits.{Limits}
use Rattle.wasm_syntax.specs.declared.instr.Instr.TheVariants as instr
use Rattle.wasm_syntax.specs.declared.module.ImportKind.{ImportKind}
use Rattle.wasm_syntax.specs.declared.module.ImportKind.TheVariants as imported
use Rattle.wasm_syntax.specs.declared.module.Import.{Import}
use Rattle.wasm_syntax.specs.declared.module.Element.{Element}
use Rattle.wasm_syntax.specs.declared.module.Segment.{Segment}
use Rattle.wasm_syntax.specs.declared.module.Module.{Module}
use Rattle.wasm_syntax.specs.Grammar.{empty_module}
use Rattle.wasm_syntax.specs.ValidExamples.{nothing_to_nothing}
use Rattle.wasm_syntax.specs.StoreExamples.{no_maximum, segment, element}
use Rattle.wasm_store.specs.declared.links.Judged.{Judged}
use Rattle.wasm_store.specs.declared.links.Judged.TheVariants as judged
use Rattle.wasm_store.specs.Linking.{Host}

-- a host that knows no name of no bytes, has those of one byte, and the longer ones with another type
abbrev pub by_length : List ℕ → Judged
by_length [] = judged.Unknown
by_length (b ∷ []) = judged.Linked
by_length (b ∷ c ∷ bs) = judged.OtherType

abbrev pub host : Host
host home name t = by_length name

abbrev pub wants : List ℕ → ImportKind → Import
wants name kind = record { «module» = []; name = name; kind = kind }

abbrev pub linked : Import
linked = wants (102 ∷ []) (imported.Function 0)

abbrev pub unknown : Import
unknown = wants [] (imported.Function 0)

abbrev pub of_other_type : Import
of_other_type = wants (102 ∷ 102 ∷ []) (imported.Function 0)

abbrev pub a_memory : Import
a_memory = wants (102 ∷ []) (imported.Memory no_maximum)

-- a module with a memory of one page and a table of one element
abbrev pub having : List Import → List Element → List Segment → Module
having imports elements segments = record empty_module {
  types = nothing_to_nothing ∷ [];
  imports = imports;
  tables = no_maximum ∷ [];
  memories = no_maximum ∷ [];
  elements = elements;
  segments = segments;
}
