use Rattle.std.proofs.Common.{◌≡◌, ◌+◌, ◌*◌, get_or, drop, ap, sym, ◌∙◌, arith}
use Rattle.std.proofs.lemmas.List.{drop_more}
use Rattle.std.specs.Char.{digit_value}
use Rattle.std.specs.Str.Parse.{digits_value_after, digits_value}
use Rattle.h1_chunks.proofs.Sizes.{digits_value_after-grows, number_of_digits-large}
use Rattle.h1_chunks.proofs.size.number_of_digits.Goals as goal

pub returns-then-n-gt-ROOM_LIMIT : goal.returns-then-n-gt-ROOM_LIMIT
returns-then-n-gt-ROOM_LIMIT c =
    let digits = c.args.digits.now in
    let i = c.loop-byte.byte-index in
    let n = c.loop-byte.n in
    let v : digits_value_after 16 (n * 16 + digit_value (get_or digits i 0)) (drop (i + 1) digits) ≡ digits_value 16 digits =
    ap (digits_value_after 16 n) (sym (drop_more digits i 0 c.loop-byte-test.true)) ∙ c.loop-byte.invariant.value in
    let grows = digits_value_after-grows (n * 16 + digit_value (get_or digits i 0)) (drop (i + 1) digits) in
    sym (number_of_digits-large digits (omega (arith, v, grows, c.if-n-gt-ROOM_LIMIT.true)))
