-- The types of locals, however they are kept.
use Rattle.std.specs.Prelude.{List, replicate}
use Rattle.wasm_syntax.specs.declared.types.ValueType.{ValueType}
use Rattle.wasm_syntax.specs.declared.locals.Kept.{Kept}
use Rattle.wasm_syntax.specs.declared.locals.Kept.TheVariants.{Same, Each, Runs}

abbrev pub kept_types : Kept → List ValueType
kept_types (Same n t) = replicate n t
kept_types (Each types) = types.items
kept_types (Runs runs) = runs
