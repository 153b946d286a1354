use Rattle.std.proofs.Common.{◌≡◌, Ok, ◌∙◌}
use Rattle.replay_script.proofs.Spaces.{decimal_is_text, decimal_is_read}
use Rattle.replay_script.proofs.spelling.at_of.Goals as goal

pub returns-in-Ok-parse-clause-only : goal.returns-in-Ok-parse-clause-only
returns-in-Ok-parse-clause-only c = λ n low e.
    let read : c.parse.result ≡ Ok n = decimal_is_read 64 n _ c.parse.result low low (c.in-Ok.ensures.cases.0 ∙ e) c.parse.ensures.value.0 in
    cc (read, c.in-Ok-parse.is)

pub returns-in-Err-parse-clause-only : goal.returns-in-Err-parse-clause-only
returns-in-Err-parse-clause-only c = λ n low e.
    let read : c.parse.result ≡ Ok n = decimal_is_read 64 n _ c.parse.result low low (c.in-Ok.ensures.cases.0 ∙ e) c.parse.ensures.value.0 in
    cc (read, c.in-Err-parse.is)

pub returns-in-Err-clause-only : goal.returns-in-Err-clause-only
returns-in-Err-clause-only c = λ n low e. absurd (c.in-Err.ensures.cases.0 (decimal_is_text n _ low e))
