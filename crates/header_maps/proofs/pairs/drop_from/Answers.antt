use Rattle.std.proofs.Common.{◌<◌, ◌≤◌, ◌++◌, List, take, drop, length, ap, sym, subst, ◌∙◌, arith}
use Rattle.http_header.specs.Token.{lowercase}
use Rattle.header_maps.specs.Operations.{without}
use Rattle.header_maps.specs.Pairs.{Pair, is_named}
use Rattle.header_maps.proofs.Looking.{taken_out}
use Rattle.header_maps.proofs.pairs.drop_from.Goals as goal

pub loop-at-preserved-then-is_same_word : goal.loop-at-preserved-then-is_same_word
loop-at-preserved-then-is_same_word c =
    let n = lowercase c.args.name.now in
    let within : c.loop-at.at < length c.loop-at.items = omega (arith, c.len.ensures, c.loop-at-test.true) in
    let named = ap (λ (p : Pair). is_named (lowercase c.args.name.now) p) (sym c.pair.ensures) ∙ sym c.if-is_same_word.ensures in
    let out = taken_out n c.loop-at.items c.loop-at.at _ within named in
    record {
      within = subst (λ (ps : List Pair). c.loop-at.at ≤ length ps) (sym c.remove.ensures) out.within;
      kept = ap (λ (ps : List Pair). take c.loop-at.at ps ++ without (lowercase c.args.name.now) (drop c.loop-at.at ps)) c.remove.ensures ∙ out.same ∙ c.loop-at.invariant.kept;
    }
