use Rattle.http_header.specs.Token.{lowercase}
use Rattle.header_maps.specs.Pairs.{values_of}
use Rattle.header_maps.proofs.Bounds.{joined_bound, if_joined}
use Rattle.header_maps.proofs.list.HeaderList.get.Goals as goal

pub returns-clause-bound : goal.returns-clause-bound
returns-clause-bound c =
    if_joined c.joined_values.result (values_of (lowercase c.args.name.now) c.self.inside.items) c.joined_values.ensures
    (joined_bound c.self.inside.kind c.self.inside.items (lowercase c.args.name.now) c.self.invariant)
