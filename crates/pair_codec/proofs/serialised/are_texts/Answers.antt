use Rattle.std.proofs.Common.{sym, ◌∙◌}
use Rattle.std.specs.Prelude.{is_some}
use Rattle.pair_codec.specs.Reading.{texts_in}
use Rattle.pair_codec.proofs.Texts.{no_pair, with_pair}
use Rattle.pair_codec.proofs.serialised.are_texts.Goals as goal

pub returns-then-not-has_pair : goal.returns-then-not-has_pair
returns-then-not-has_pair c =
    no_pair (is_some (texts_in c.args.count c.args.sizes.now c.args.texts.now)) c.args.count c.loop-k.k c.loop-k-test.true c.args.sizes.now c.loop-k.rest.now
    c.word_at-name.result c.word_at-value.result c.word_at-name.ensures c.word_at-value.ensures c.loop-k.invariant (sym c.has_pair.ensures ∙ c.if-not-has_pair.true)

pub loop-k-preserved : goal.loop-k-preserved
loop-k-preserved c =
    with_pair (is_some (texts_in c.args.count c.args.sizes.now c.args.texts.now)) c.args.count c.loop-k.k c.loop-k-test.true c.args.sizes.now c.loop-k.rest.now
    c.word_at-name.result c.word_at-value.result c.word_at-name.ensures c.word_at-value.ensures c.loop-k.invariant c.behind_pair-rest.result.now
    (sym c.has_pair.ensures ∙ c.if-not-has_pair.false) c.behind_pair-rest.ensures
