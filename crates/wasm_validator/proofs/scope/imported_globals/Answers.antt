use Rattle.std.proofs.Common.{◌++◌, [], take, ap, sym, ◌∙◌}
use Rattle.std.specs.List.{cons_option}
use Rattle.wasm_syntax.specs.Validity.{imports_of, global_of}
use Rattle.wasm_validator.proofs.Finding.{imports-more}
use Rattle.wasm_validator.proofs.scope.imported_globals.Goals as goal

pub loop-i-preserved : goal.loop-i-preserved
loop-i-preserved c =
    c.in_ok-push_some.ensures
    ∙ ap (λ xs. xs ++ cons_option c.global_in.result []) c.loop-i.invariant
    ∙ ap (λ o. imports_of global_of (take c.loop-i.i-index c.args.imports.now) ++ cons_option o []) c.global_in.ensures
    ∙ sym (imports-more global_of c.args.imports.now c.loop-i.i-index c.i-item.result c.loop-i-test.true c.i-item.is)
