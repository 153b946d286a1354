use Rattle.std.proofs.Common.{◌∙◌, List, sym, ap}
use Rattle.std.specs.Prelude.{slice_get}
use Rattle.wasm_syntax.specs.declared.types.ValueType.{ValueType}
use Rattle.wasm_syntax.proofs.RunLists.{there, not_there}
use Rattle.wasm_syntax.proofs.locals.LocalRuns.get.Goals as goal

pub returns-in-Some : goal.returns-in-Some
returns-in-Some c =
    let rs = c.self.inside.runs in
    let o = rw c.as_slice-runs.ensures at c.over.ensures.over in
    let at = rw c.as_slice-runs.ensures at c.run_at.ensures in
    sym (there rs c.over.result c.args.x c.in-Some.run' c.self.invariant o (sym at ∙ c.in-Some.is)) ∙ ap (λ (l : List ValueType). slice_get l c.args.x) c.self.view_is

pub returns-in-None : goal.returns-in-None
returns-in-None c =
    let rs = c.self.inside.runs in
    let o = rw c.as_slice-runs.ensures at c.over.ensures.over in
    let le = rw c.as_slice-runs.ensures at c.over.ensures.place in
    let at = rw c.as_slice-runs.ensures at c.run_at.ensures in
    sym (not_there rs c.over.result c.args.x c.self.invariant le o (sym at ∙ c.in-None.is)) ∙ ap (λ (l : List ValueType). slice_get l c.args.x) c.self.view_is
