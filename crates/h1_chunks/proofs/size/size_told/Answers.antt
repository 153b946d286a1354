use Rattle.std.proofs.Common.{ap, ◌∙◌, take}
use Rattle.std.specs.Char.{is_ascii_hexdigit}
use Rattle.std.specs.List.{list_all}
use Rattle.h1_chunks.proofs.Sizes.{list_all-prefix}
use Rattle.h1_chunks.proofs.size.size_told.Goals as goal

pub number_of_digits-requires : goal.number_of_digits-requires
number_of_digits-requires c =
    ap (λ n. list_all is_ascii_hexdigit (take n c.args.front.now)) c.digit_count-count.ensures.count
    ∙ list_all-prefix is_ascii_hexdigit c.args.front.now
