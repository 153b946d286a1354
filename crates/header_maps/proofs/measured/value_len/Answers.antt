use Rattle.std.proofs.Common.{List, ap, ◌∙◌}
use Rattle.std.specs.Prelude.{sum_by}
use Rattle.http_header.specs.Token.{lowercase}
use Rattle.header_maps.specs.Pairs.{Pair, values_of}
use Rattle.header_maps.proofs.Lengths.{with_comma, joined_len}
use Rattle.header_maps.proofs.measured.value_len.Goals as goal

pub returns-clause-len : goal.returns-clause-len
returns-clause-len c =
    let n = lowercase c.args.name.now in
    joined_len (values_of n c.args.list.now.pairs) c.size_with_commas.result c.checked_sub.result
    (c.size_with_commas.ensures.size ∙ ap (λ (ps : List Pair). sum_by with_comma (values_of n ps)) c.texts.ensures) c.checked_sub.ensures
