use Rattle.std.proofs.Common.{◌∙◌, sym, ap}
use Rattle.std.specs.Prelude.{replicate}
use Rattle.std.proofs.lemmas.List.{take-replicate}
use Rattle.wasm_syntax.specs.declared.types.ValueType.TheVariants.{I32, I64}
use Rattle.wasm_syntax.proofs.locals.alike.Goals as goal

pub returns-in-I32 : goal.returns-in-I32
returns-in-I32 c = take-replicate c.args.n 4096 I32 c.requires ∙ ap (replicate c.args.n) (sym c.in-I32.is)

pub returns-in-I64 : goal.returns-in-I64
returns-in-I64 c = take-replicate c.args.n 4096 I64 c.requires ∙ ap (replicate c.args.n) (sym c.in-I64.is)
