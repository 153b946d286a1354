use Rattle.std.proofs.Common.{rules, ℕ, ◌≡◌, ◌≤◌, ◌*◌, ◌-◌, ◌^◌, get_or, arith}
use Rattle.std.proofs.lemmas.Int.{ints, to_z-of_z}
use Rattle.std.specs.Int.{w64}
use Rattle.std.proofs.lemmas.Result.{err_from_is_err_and}
use mir.Val.{to_z, of_z}
use Rattle.wasm_syntax.specs.Numbers.{signed_last}
use Rattle.wasm_syntax.proofs.Steps.{s_none, s_done, s_unused, s_long, s_more_err, s_more_ok, last_within, more_within, times_fits, times_bound, smaller, sum_is, high_fits}
use Rattle.wasm_syntax.proofs.leb.+signed.Goals as goal

pub returns-then-at-b-clause-exact : goal.returns-then-at-b-clause-exact
returns-then-at-b-clause-exact t c = s_none c.args.limit c.args.more c.args.b.now c.args.at c.if-at-b.true

pub returns-then-not-is_of_size-clause-exact : goal.returns-then-not-is_of_size-clause-exact
returns-then-not-is_of_size-clause-exact t c =
    let no = c.if-not-is_of_size.ensures.no in
    s_unused c.args.limit c.args.more c.args.b.now c.args.at (omega arith) no.0 c.if-byte-lt128.true no.1 no.2

pub returns-then-byte-lt128-clause-exact : goal.returns-then-byte-lt128-clause-exact
returns-then-byte-lt128-clause-exact t c =
    let v : to_z w64 (of_z w64 c.last_value.result) ≡ signed_last (get_or c.args.b.now c.args.at 0) = omega (arith, ints, c.last_value.ensures) in
    s_done c.args.limit c.args.more c.args.b.now c.args.at (to_z w64 (of_z w64 c.last_value.result)) (omega arith) c.if-byte-lt128.true c.if-not-is_of_size.ensures.yes v

pub returns-then-byte-lt128-clause-fits : goal.returns-then-byte-lt128-clause-fits
returns-then-byte-lt128-clause-fits t c =
    let v : to_z w64 (of_z w64 c.last_value.result) ≡ signed_last (get_or c.args.b.now c.args.at 0) = omega (arith, ints, c.last_value.ensures) in
    rw v (last_within c.args.limit c.args.more (get_or c.args.b.now c.args.at 0) c.requires.some c.requires.low c.if-byte-lt128.true c.if-not-is_of_size.ensures.yes)

pub returns-then-more-eq0-clause-exact : goal.returns-then-more-eq0-clause-exact
returns-then-more-eq0-clause-exact t c = s_long c.args.limit c.args.more c.args.b.now c.args.at (omega arith) c.if-more-eq0.true c.if-byte-lt128.false

pub signed-requires : goal.signed-requires
signed-requires t c =
    let size : c.args.limit * 128 ^ (c.args.more - 1) ≤ 2 ^ 63 = smaller c.args.limit c.args.more (2 ^ 63) (omega arith) c.requires.size in
    (search rules, (omega arith, (c.requires.some, (c.requires.low, size))))

pub returns-in_err-high-clause-exact : goal.returns-in_err-high-clause-exact
returns-in_err-high-clause-exact t c =
    let p = err_from_is_err_and c.from_residual.result c.from_residual.ensures.1 in
    rw (p.1, p.2) (s_more_err c.args.limit c.args.more c.args.b.now c.args.at c.in_err-high.field-0.0 (omega arith) (omega arith) (omega arith) c.in_err-high.ensures.exact)

pub overflow_mul-result : goal.overflow_mul-result
overflow_mul-result t c =
    let size : 128 * (c.args.limit * 128 ^ (c.args.more - 1)) ≤ 2 ^ 63 = omega (arith, times_bound c.args.limit c.args.more (omega arith), c.requires.size) in
    let m : ℕ = c.args.limit * 128 ^ (c.args.more - 1) in
    rw (to_z-of_z w64 c.in_ok-high.high (high_fits m c.in_ok-high.high size c.in_ok-high.ensures.fits)) (times_fits m c.in_ok-high.high size c.in_ok-high.ensures.fits)

pub returns-clause-exact : goal.returns-clause-exact
returns-clause-exact t c =
    let size : 128 * (c.args.limit * 128 ^ (c.args.more - 1)) ≤ 2 ^ 63 = omega (arith, times_bound c.args.limit c.args.more (omega arith), c.requires.size) in
    s_more_ok c.args.limit c.args.more c.args.b.now c.args.at c.in_ok-high.place c.in_ok-high.high _ (omega arith) (omega arith) (omega arith)
    (sum_is (c.args.limit * 128 ^ (c.args.more - 1)) (get_or c.args.b.now c.args.at 0 - 128) c.from.result c.in_ok-high.high (omega arith) c.from.ensures size c.in_ok-high.ensures.fits)
    c.in_ok-high.ensures.exact

pub returns-clause-fits : goal.returns-clause-fits
returns-clause-fits t c =
    let times = times_bound c.args.limit c.args.more (omega arith) in
    let size : 128 * (c.args.limit * 128 ^ (c.args.more - 1)) ≤ 2 ^ 63 = omega (arith, times, c.requires.size) in
    let m : ℕ = c.args.limit * 128 ^ (c.args.more - 1) in
    rw (sum_is m (get_or c.args.b.now c.args.at 0 - 128) c.from.result c.in_ok-high.high (omega arith) c.from.ensures size c.in_ok-high.ensures.fits)
    (more_within m (c.args.limit * 128 ^ c.args.more) (get_or c.args.b.now c.args.at 0 - 128) c.in_ok-high.high (omega arith) times c.in_ok-high.ensures.fits)
