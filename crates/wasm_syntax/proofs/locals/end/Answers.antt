use Rattle.std.proofs.Common.{◌∙◌, sym}
use Rattle.wasm_syntax.proofs.RunLists.{end-last, end-none}
use Rattle.wasm_syntax.proofs.locals.end.Goals as goal

pub returns-in-Some : goal.returns-in-Some
returns-in-Some c = sym (end-last 0 c.args.runs.now _ (sym c.last.ensures ∙ c.in-Some.is))

pub returns-in-None : goal.returns-in-None
returns-in-None c = sym (end-none 0 c.args.runs.now (sym c.last.ensures ∙ c.in-None.is))
