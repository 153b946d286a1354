use Rattle.std.proofs.Common.{◌≡◌, ◌+◌, ◌++◌, List, ◌∷◌, [], take, ap, sym, subst, ◌∙◌, append_assoc}
use Rattle.wasm_syntax.specs.declared.module.Global.{Global}
use Rattle.wasm_syntax.specs.Validity.{imports_of, global_of, types_of_globals}
use Rattle.wasm_validator.proofs.Finding.{types-more}
use Rattle.wasm_validator.proofs.scope.globals.Goals as goal

pub loop-g-preserved : goal.loop-g-preserved
loop-g-preserved c =
    let n = c.loop-g.g-index in
    let imported = imports_of global_of c.args.m.now.imports in
    let one = c.g-item.result.of ∷ [] in
    let more = subst (λ (gs : List Global). types_of_globals (take (n + 1) gs) ≡ types_of_globals (take n gs) ++ one) c.as_slice-g-items.ensures (types-more c.as_slice-g-items.result.now n c.g-item.result c.loop-g-test.true c.g-item.is) in
    c.in_ok-push.ensures.ok
    ∙ ap (λ xs. xs ++ one) c.loop-g.invariant
    ∙ append_assoc imported (types_of_globals (take n c.args.m.now.globals)) one
    ∙ ap (λ xs. imported ++ xs) (sym more)
