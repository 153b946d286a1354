use Rattle.std.proofs.Common.{sym, ◌∙◌, arith}
use Rattle.std.proofs.lemmas.List.{length-drop}
use Rattle.pair_codec.proofs.Left.{one_more, pair_there, behind_read, first_left}
use Rattle.pair_codec.proofs.serialised.Serialised.pop_first.Goals as goal

pub pair_at-pair-requires : goal.pair_at-pair-requires
pair_at-pair-requires c =
    pair_there c.self.inside.count c.self.inside.sizes.now c.self.inside.texts.now (one_more c.self.inside.count (search arith)) c.self.invariant.read
    c.word_at-name.result c.word_at-value.result c.word_at-name.ensures c.word_at-value.ensures

pub behind_pair-texts-requires : goal.behind_pair-texts-requires
behind_pair-texts-requires c =
    pair_there c.self.inside.count c.self.inside.sizes.now c.self.inside.texts.now (one_more c.self.inside.count (search arith)) c.self.invariant.read
    c.word_at-name.result c.word_at-value.result c.word_at-name.ensures c.word_at-value.ensures

pub invariant_of-self : goal.invariant_of-self
invariant_of-self c = record {
  sized = rw c.behind_sizes-sizes.ensures (let n = length-drop 8 c.self.inside.sizes.now in search arith);
  read = behind_read c.self.inside.count c.self.inside.sizes.now c.self.inside.texts.now (one_more c.self.inside.count (search arith)) c.self.invariant.read
      c.word_at-name.result c.word_at-value.result c.word_at-name.ensures c.word_at-value.ensures
      c.behind_sizes-sizes.result.now c.behind_pair-texts.result.now c.behind_sizes-sizes.ensures c.behind_pair-texts.ensures;
}

pub returns-clause-first : goal.returns-clause-first
returns-clause-first c =
    sym c.self.view_is
    ∙ first_left c.self.inside.count c.self.inside.sizes.now c.self.inside.texts.now (one_more c.self.inside.count (search arith)) c.self.invariant.read
    c.word_at-name.result c.word_at-value.result c.word_at-name.ensures c.word_at-value.ensures
    c.behind_sizes-sizes.result.now c.behind_pair-texts.result.now _ c.behind_sizes-sizes.ensures c.behind_pair-texts.ensures c.pair_at-pair.ensures
