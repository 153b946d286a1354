use Rattle.std.proofs.Common.{◌≡◌, Ok, ◌∙◌}
use Rattle.replay_script.proofs.Spaces.{decimal_is_text, decimal_is_read, line_fits, line_is_kept}
use Rattle.replay_script.proofs.spelling.line_of.Goals as goal

pub returns-in-Ok-parse-clause-only : goal.returns-in-Ok-parse-clause-only
returns-in-Ok-parse-clause-only c = λ n line e.
    let read : c.parse.result ≡ Ok n = decimal_is_read 32 n _ c.parse.result line.high (line_fits n line) (c.in-Ok.ensures.cases.0 ∙ e) c.parse.ensures.value.0 in
    let same : c.in-Ok-parse.number ≡ n = cc (read, c.in-Ok-parse.is) in
    line_is_kept c.new.result _ n line same c.new.ensures.valid.1 c.new.ensures.value

pub returns-in-Err-parse-clause-only : goal.returns-in-Err-parse-clause-only
returns-in-Err-parse-clause-only c = λ n line e.
    let read : c.parse.result ≡ Ok n = decimal_is_read 32 n _ c.parse.result line.high (line_fits n line) (c.in-Ok.ensures.cases.0 ∙ e) c.parse.ensures.value.0 in
    cc (read, c.in-Err-parse.is)

pub returns-in-Err-clause-only : goal.returns-in-Err-clause-only
returns-in-Err-clause-only c = λ n line e. absurd (c.in-Err.ensures.cases.0 (decimal_is_text n _ (line_fits n line) e))
