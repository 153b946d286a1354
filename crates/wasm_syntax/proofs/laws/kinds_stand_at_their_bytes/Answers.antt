use Rattle.std.proofs.Common.{◌≡◌, Some, refl}
use Rattle.std.specs.Prelude.{slice_get}
use Rattle.wasm_syntax.specs.declared.kinds.TheConstants.{SECTIONS, EXTERNAL_KINDS}
use Rattle.wasm_syntax.specs.declared.kinds.SectionKind.{SectionKind}
use Rattle.wasm_syntax.specs.declared.kinds.SectionKind.TheVariants as kind
use Rattle.wasm_syntax.specs.declared.kinds.ExternalKind.{ExternalKind}
use Rattle.wasm_syntax.specs.declared.kinds.ExternalKind.TheVariants as external
use Rattle.wasm_syntax.specs.Kinds.{id_of, byte_of_kind}
use Rattle.wasm_syntax.proofs.laws.kinds_stand_at_their_bytes.Goals as goal

sections_stand : (k : SectionKind) → slice_get SECTIONS (id_of k) ≡ Some k
sections_stand kind.Custom = refl
sections_stand kind.Type = refl
sections_stand kind.Import = refl
sections_stand kind.Function = refl
sections_stand kind.Table = refl
sections_stand kind.Memory = refl
sections_stand kind.Global = refl
sections_stand kind.Export = refl
sections_stand kind.Start = refl
sections_stand kind.Element = refl
sections_stand kind.Code = refl
sections_stand kind.Data = refl

kinds_stand : (k : ExternalKind) → slice_get EXTERNAL_KINDS (byte_of_kind k) ≡ Some k
kinds_stand external.Function = refl
kinds_stand external.Table = refl
kinds_stand external.Memory = refl
kinds_stand external.Global = refl

pub returns : goal.returns
returns c = record { sections = sections_stand; kinds = kinds_stand }
