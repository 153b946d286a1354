use Rattle.std.proofs.Common.{◌<◌, ◌≤◌, length, ap, sym, ◌∙◌, arith}
use Rattle.http_header.specs.Token.{lowercase}
use Rattle.header_maps.specs.Pairs.{Pair, is_named}
use Rattle.header_maps.proofs.Looking.{found_here, found_nowhere}
use Rattle.header_maps.proofs.pairs.place_of.Goals as goal

pub returns-then-is_same_word : goal.returns-then-is_same_word
returns-then-is_same_word c =
    let within : c.loop-at.at < length c.args.items.now = omega (arith, c.len-at-end.ensures, c.loop-at-test.true) in
    let named = ap (λ (p : Pair). is_named (lowercase c.args.name.now) p) (sym c.pair.ensures) ∙ sym c.if-is_same_word.ensures in
    found_here (is_named (lowercase c.args.name.now)) c.args.items.now c.loop-at.at _ c.loop-at.invariant within named

pub returns : goal.returns
returns c =
    let end : length c.args.items.now ≤ c.loop-at.at = omega (arith, c.len-at-end.ensures, c.loop-at-test.false) in
    found_nowhere (is_named (lowercase c.args.name.now)) c.args.items.now c.loop-at.at c.loop-at.invariant end
