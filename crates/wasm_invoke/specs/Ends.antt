-- The ends that those of the reader, the validator and linking are.
use Rattle.wasm_reader.specs.declared.ends.ReadEnd.{ReadEnd}
use Rattle.wasm_reader.specs.declared.ends.ReadEnd.TheVariants as reader
use Rattle.wasm_validator.specs.declared.module.ValidEnd.{ValidEnd}
use Rattle.wasm_validator.specs.declared.module.ValidEnd.TheVariants as validator
use Rattle.wasm_store.specs.declared.instance.LinkEnd.{LinkEnd}
use Rattle.wasm_store.specs.declared.instance.LinkEnd.TheVariants as linking
use Rattle.wasm_invoke.specs.declared.ends.End.{End}
use Rattle.wasm_invoke.specs.declared.ends.End.TheVariants as ends
use Rattle.wasm_invoke.specs.declared.ends.Refusal.TheVariants as refusals

abbrev pub of_reader : ReadEnd → End
of_reader (reader.Refused number place) = ends.Refused (refusals.Unread number place)
of_reader reader.OutOfMemory = ends.OutOfMemory

abbrev pub of_validator : ValidEnd → End
of_validator (validator.Invalid p index place) = ends.Refused refusals.Invalid
of_validator validator.OutOfMemory = ends.OutOfMemory

abbrev pub of_linking : LinkEnd → End
of_linking (linking.UnknownImport index) = ends.Refused (refusals.Unlinked (linking.UnknownImport index))
of_linking (linking.ImportType index) = ends.Refused (refusals.Unlinked (linking.ImportType index))
of_linking linking.PagesOverCap = ends.Refused (refusals.Unlinked linking.PagesOverCap)
of_linking (linking.ElementOutside index) = ends.Refused (refusals.Unlinked (linking.ElementOutside index))
of_linking (linking.DataOutside index) = ends.Refused (refusals.Unlinked (linking.DataOutside index))
of_linking linking.OutOfMemory = ends.OutOfMemory
