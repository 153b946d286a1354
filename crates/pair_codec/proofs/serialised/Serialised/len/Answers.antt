use Rattle.std.proofs.Common.{length, ap, sym, ◌∙◌}
use Rattle.pair_codec.proofs.Left.{left_length}
use Rattle.pair_codec.proofs.serialised.Serialised.len.Goals as goal

pub returns : goal.returns
returns c = sym (left_length c.self.inside.count c.self.inside.sizes.now c.self.inside.texts.now c.self.invariant.read) ∙ ap length c.self.view_is
