-- What the parts of an instance are seen as.
use Rattle.wasm_store.specs.declared.instance.Parts.{Parts}
use Rattle.wasm_store.specs.Instances.{Instantiated}

abbrev pub seen_as : Parts → Instantiated
seen_as p = record { of = p.module; memory = p.memory; table = p.table; globals = p.globals }
