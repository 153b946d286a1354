use Rattle.std.proofs.Common.{ap, ◌∙◌, List}
use Rattle.std.specs.List.{remove}
use Rattle.header_maps.specs.Pairs.{Pair}
use Rattle.header_maps.specs.Places.{pairs_in}
use Rattle.header_maps.specs.declared.texts.Place.{Place}
use Rattle.header_maps.proofs.Places.{pairs_removed}
use Rattle.header_maps.proofs.texts.Texts.remove.Goals as goal

pub returns : goal.returns
returns c =
    ap (λ (ps : List Place). pairs_in c.self.inside.bytes.items ps) c.remove.ensures.items
    ∙ pairs_removed c.self.inside.bytes.items c.self.inside.places.items c.args.at
    ∙ ap (λ (ps : List Pair). remove ps c.args.at) c.self.view_is
