use Rattle.std.proofs.Common.{◌+◌, ◌∷◌, ◌++◌, ◌∙◌, suc, take, drop, ap, arith, ◌≡◌, ◌<◌, length}
use Rattle.std.proofs.lemmas.List.{set_split}
use Rattle.wasm_machine.proofs.locals.put.Goals as goal

pub returns-then-k-len-clause-items : goal.returns-then-k-len-clause-items
returns-then-k-len-clause-items c =
    let vs = c.args.values.now.items in
    let within : c.args.k < length vs = omega (arith, c.if-k-len.true, c.len.ensures, c.args.values.now.ok.0) in
    let one : suc c.args.k ≡ c.args.k + 1 = omega arith in
    set_split vs c.args.k c.args.v within ∙ ap (λ n. take c.args.k vs ++ c.args.v ∷ drop n vs) one
