use Rattle.std.proofs.Common.{◌++◌, [], ap, sym, ◌∙◌}
use Rattle.std.specs.List.{cons_option}
use Rattle.wasm_syntax.specs.Validity.{function_of}
use Rattle.filter_report.proofs.Types.{imported_more}
use Rattle.filter_report.proofs.functions.imported_types.Goals as goal

pub loop-i-preserved : goal.loop-i-preserved
loop-i-preserved c =
    c.in_ok-push_type.ensures ∙ ap (λ xs. xs ++ cons_option (function_of c.i-item.result.kind) []) c.loop-i.invariant
    ∙ sym (imported_more c.args.imports.now c.loop-i.i-index c.i-item.result c.loop-i-test.true c.i-item.is)
