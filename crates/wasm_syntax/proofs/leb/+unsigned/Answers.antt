use Rattle.std.proofs.Common.{rules, ◌<◌, ◌+◌, ◌*◌, ◌-◌, ◌^◌, arith}
use Rattle.std.proofs.lemmas.Result.{err_from_is_err_and}
use Rattle.wasm_syntax.proofs.Steps.{u_none, u_done, u_unused, u_long, u_more_err, u_more_ok, last_fits, more_fits, power_at_most}
use Rattle.wasm_syntax.proofs.leb.+unsigned.Goals as goal

pub returns-then-at-b-clause-exact : goal.returns-then-at-b-clause-exact
returns-then-at-b-clause-exact t c = u_none 16 c.args.more c.args.b.now c.args.at c.if-at-b.true

pub returns-then-byte-ge16-clause-exact : goal.returns-then-byte-ge16-clause-exact
returns-then-byte-ge16-clause-exact t c = u_unused 16 c.args.more c.args.b.now c.args.at (omega arith) c.if-more-eq0.true c.if-byte-lt128.true c.if-byte-ge16.true

pub returns-then-byte-lt128-clause-exact : goal.returns-then-byte-lt128-clause-exact
returns-then-byte-lt128-clause-exact t c = u_done 16 c.args.more c.args.b.now c.args.at c.from.result (omega arith) c.if-byte-lt128.true (λ e. omega arith) c.from.ensures

pub returns-then-byte-lt128-clause-fits : goal.returns-then-byte-lt128-clause-fits
returns-then-byte-lt128-clause-fits t c = last_fits 16 c.args.more c.from.result (omega arith) (omega arith) (λ e. omega arith)

pub returns-then-more-eq0-2-clause-exact : goal.returns-then-more-eq0-2-clause-exact
returns-then-more-eq0-2-clause-exact t c = u_long 16 c.args.more c.args.b.now c.args.at (omega arith) c.if-more-eq0-2.true c.if-byte-lt128.false

pub returns-in_err-high-clause-exact : goal.returns-in_err-high-clause-exact
returns-in_err-high-clause-exact t c =
    let p = err_from_is_err_and c.from_residual.result c.from_residual.ensures.1 in
    rw (p.1, p.2) (u_more_err 16 c.args.more c.args.b.now c.args.at c.in_err-high.field-0.0 (omega arith) (omega arith) (omega arith) c.in_err-high.ensures.exact)

pub overflow_mul-result : goal.overflow_mul-result
overflow_mul-result t c = let h : 128 * c.in_ok-high.high < 2 ^ 32 = omega (arith, c.in_ok-high.ensures.fits, power_at_most (c.args.more - 1) 3 (omega arith)) in search rules

pub overflow_add-result-2 : goal.overflow_add-result-2
overflow_add-result-2 t c = let h : c.from-2.result + 128 * c.in_ok-high.high < 2 ^ 32 = omega (arith, c.in_ok-high.ensures.fits, power_at_most (c.args.more - 1) 3 (omega arith)) in search rules

pub returns-clause-exact : goal.returns-clause-exact
returns-clause-exact t c = u_more_ok 16 c.args.more c.args.b.now c.args.at c.in_ok-high.high c.in_ok-high.place c.from-2.result (omega arith) (omega arith) (omega arith) (omega arith) c.in_ok-high.ensures.exact

pub returns-clause-fits : goal.returns-clause-fits
returns-clause-fits t c = more_fits 16 c.args.more c.from-2.result c.in_ok-high.high (omega arith) (omega arith) c.in_ok-high.ensures.fits
