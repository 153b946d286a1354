use Rattle.std.proofs.Common.{◌≡◌, Ok, ◌∙◌}
use Rattle.replay_script.proofs.Spaces.{decimal_is_text, decimal_is_read, worker_fits, worker_is_byte, worker_is_kept}
use Rattle.replay_script.proofs.spelling.worker_of.Goals as goal

pub returns-in-Ok-parse-clause-only : goal.returns-in-Ok-parse-clause-only
returns-in-Ok-parse-clause-only c = λ n worker e.
    let read : c.parse.result ≡ Ok n = decimal_is_read 8 n _ c.parse.result (worker_is_byte n worker) (worker_fits n worker) (c.in-Ok.ensures.cases.0 ∙ e) c.parse.ensures.value.0 in
    let same : c.in-Ok-parse.number ≡ n = cc (read, c.in-Ok-parse.is) in
    worker_is_kept c.new.result _ n worker same c.new.ensures.valid.1 c.new.ensures.value

pub returns-in-Err-parse-clause-only : goal.returns-in-Err-parse-clause-only
returns-in-Err-parse-clause-only c = λ n worker e.
    let read : c.parse.result ≡ Ok n = decimal_is_read 8 n _ c.parse.result (worker_is_byte n worker) (worker_fits n worker) (c.in-Ok.ensures.cases.0 ∙ e) c.parse.ensures.value.0 in
    cc (read, c.in-Err-parse.is)

pub returns-in-Err-clause-only : goal.returns-in-Err-clause-only
returns-in-Err-clause-only c = λ n worker e. absurd (c.in-Err.ensures.cases.0 (decimal_is_text n _ (worker_fits n worker) e))
