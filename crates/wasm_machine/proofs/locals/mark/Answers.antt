use Rattle.std.proofs.Common.{◌++◌, ◌∙◌, ap, false}
use Rattle.std.proofs.lemmas.List.{take-replicate}
use Rattle.wasm_machine.proofs.locals.mark.Goals as goal

pub returns-clause-items : goal.returns-clause-items
returns-clause-items c = c.append.ensures.items ∙ ap (λ bs. c.args.given.now.items ++ bs) (take-replicate c.args.count 4096 false c.requires.few)
