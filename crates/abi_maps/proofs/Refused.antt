-- The fields of a local response are set as those of a map.
use Rattle.std.proofs.Common.{◌≡◌, List, Option, None, Some, refl}
use Rattle.header_maps.specs.Pairs.{Pair}
use Rattle.abi_maps.specs.Maps.{set_by}
use Rattle.abi_maps.specs.Streams.{no_fields, fields_by}

pub fields_are_set : (o : Option (List Pair)) → fields_by o ≡ set_by o no_fields
fields_are_set None = refl
fields_are_set (Some pairs) = refl
