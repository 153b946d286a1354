use Rattle.std.proofs.Common.{arith, add-one}
use Rattle.h1_model.proofs.LineLemmas.{whole_lines-no_feed, whole_lines-feed}
use Rattle.h1_text.proofs.lines.line_len.Goals as goal

pub returns-in_err-at-clause-lines : goal.returns-in_err-at-clause-lines
returns-in_err-at-clause-lines c =
    rw c.from_residual.ensures (whole_lines-no_feed _ (λ k lt. c.in_err-at.ensures k (omega arith) lt))

pub returns-clause-lines : goal.returns-clause-lines
returns-clause-lines c =
    let found = c.in_ok-at.ensures in
    rw add-one (whole_lines-feed c.args.text.now c.in_ok-at.at found.0.high found.1 (λ k lt. found.0.before k (omega arith) lt))
