use Rattle.std.proofs.Common.{sym}
use Rattle.header_maps.proofs.Kept.{headers_without}
use Rattle.header_maps.proofs.list.HeaderList.remove.Goals as goal

pub invariant_of-self : goal.invariant_of-self
invariant_of-self c =
    rw (c.tighten.ensures, c.drop_from.ensures) (headers_without c.self.inside.kind c.self.inside.items c.args.name.now c.self.invariant (sym c.if-not-is_field_name.ensures))
