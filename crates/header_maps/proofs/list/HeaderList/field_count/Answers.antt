use Rattle.std.proofs.Common.{arith}
use Rattle.header_maps.proofs.Kept.{counted}
use Rattle.header_maps.proofs.list.HeaderList.field_count.Goals as goal

-- the pairs behind the pseudo-headers are the fields
pub returns-clause-count : goal.returns-clause-count
returns-clause-count c =
    let k = counted c.self.inside.kind c.self.inside.items c.self.invariant in rw (← c.self.view_is) (omega (arith, k.sum))
