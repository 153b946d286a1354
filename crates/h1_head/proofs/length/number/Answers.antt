use Rattle.std.proofs.Common.{◌≡◌, ◌+◌, ◌*◌, get_or, drop, ap, sym, ◌∙◌, arith}
use Rattle.std.proofs.lemmas.List.{drop_more}
use Rattle.std.proofs.lemmas.Str.{digit_value_digit}
use Rattle.std.specs.Char.{digit_value}
use Rattle.std.specs.Str.Parse.{digits_value_after, digits_value}
use Rattle.h1_head.proofs.Measured.{digits_value_after-grows, number_of-large}
use Rattle.h1_head.proofs.length.number.Goals as goal

pub returns-then-n-digit : goal.returns-then-n-digit
returns-then-n-digit c =
    let member = c.args.member.now in
    let i = c.loop-byte.byte-index in
    let n = c.loop-byte.n in
    let k = c.if-not-is_ascii_digit.ensures in
    let v : digits_value_after 10 (n * 10 + digit_value (get_or member i 0)) (drop (i + 1) member) ≡ digits_value 10 member =
    ap (digits_value_after 10 n) (sym (drop_more member i 0 c.loop-byte-test.true)) ∙ c.loop-byte.invariant.value in
    let grows = digits_value_after-grows (n * 10 + digit_value (get_or member i 0)) (drop (i + 1) member) in
    let tens : digit_value (get_or member i 0) + 48 ≡ get_or member i 0 = digit_value_digit (get_or member i 0) k.cases in
    sym (number_of-large member (omega (arith, v, grows, tens)))
