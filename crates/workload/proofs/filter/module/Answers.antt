use Rattle.std.proofs.Common.{Result, Err, subst}
use Rattle.wasm_reader.specs.Steps.{Answers}
use Rattle.wasm_reader.specs.declared.ends.ReadEnd.{ReadEnd}
use Rattle.wasm_syntax.specs.declared.module.Module.{Module}
use Rattle.workload.specs.Filter.{queue_filter}
use Rattle.workload.proofs.filter.module.Goals as goal

pub valid-requires-clause-same : goal.valid-requires-clause-same
valid-requires-clause-same c =
    subst (λ (r : Result Module ReadEnd). Answers r queue_filter) c.in-Ok.is (c.read_module.ensures.spelled queue_filter c.filter_is_a_module.ensures.spelled)

pub unreachable-requires : goal.unreachable-requires
unreachable-requires c =
    subst (λ (e : ReadEnd). Answers {A = Module} (Err e) queue_filter) c.in-Err-Refused.field-0-is
    (subst (λ (r : Result Module ReadEnd). Answers r queue_filter) c.in-Err-Refused.is (c.read_module.ensures.spelled queue_filter c.filter_is_a_module.ensures.spelled))
