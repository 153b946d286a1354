use Rattle.std.proofs.Common.{ℕ, List, ap, ◌∙◌}
use Rattle.command_generate.specs.Items.{put_in}
use Rattle.command_generate.proofs.Texts.{one_more}
use Rattle.command_generate.proofs.items.texts_of.Goals as goal

pub loop-item-preserved : goal.loop-item-preserved
loop-item-preserved c =
    c.in_ok-put.ensures ∙ ap (λ (t : List ℕ). put_in t c.loop-item.texts.items) c.as_slice.ensures ∙ ap (put_in c.item-item.result) c.loop-item.invariant
    ∙ one_more c.args.items.now c.loop-item.item-index c.item-item.result c.loop-item-test.true c.item-item.is
