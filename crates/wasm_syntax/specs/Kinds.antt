-- The ids of sections and the bytes of kinds (WebAssembly Core 1.0 sections 5.5.2, 5.5.5 and 5.5.10).
use Rattle.std.specs.Prelude.{ℕ}
use Rattle.wasm_syntax.specs.declared.kinds.SectionKind.{SectionKind}
use Rattle.wasm_syntax.specs.declared.kinds.SectionKind.TheVariants as kind
use Rattle.wasm_syntax.specs.declared.kinds.ExternalKind.{ExternalKind}
use Rattle.wasm_syntax.specs.declared.kinds.ExternalKind.TheVariants as external

abbrev pub id_of : SectionKind → ℕ
id_of kind.Custom = 0
id_of kind.Type = 1
id_of kind.Import = 2
id_of kind.Function = 3
id_of kind.Table = 4
id_of kind.Memory = 5
id_of kind.Global = 6
id_of kind.Export = 7
id_of kind.Start = 8
id_of kind.Element = 9
id_of kind.Code = 10
id_of kind.Data = 11

abbrev pub byte_of_kind : ExternalKind → ℕ
byte_of_kind external.Function = 0
byte_of_kind external.Table = 1
byte_of_kind external.Memory = 2
byte_of_kind external.Global = 3
