-- What the code's marks say of the nesting.
use Rattle.wasm_syntax.specs.Nested as nested
use Rattle.wasm_validator.specs.declared.mark.Mark.{Mark}
use Rattle.wasm_validator.specs.declared.mark.Mark.TheVariants as mark

abbrev pub told : Mark → nested.Mark
told (mark.Block t) = nested.begins_block t
told (mark.Loop t) = nested.begins_loop t
told (mark.If t) = nested.begins_if t
told mark.Else = nested.at_else
told mark.End = nested.at_end
told mark.Alone = nested.stands_alone
