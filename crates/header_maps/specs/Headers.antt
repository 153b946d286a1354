-- What a header list is seen as.
use Rattle.std.specs.Prelude.{List}
use Rattle.header_maps.specs.declared.kind.ListKind.{ListKind}
use Rattle.header_maps.specs.Pairs.{Pair}

-- its kind, and its pairs in order, the pseudo-headers with the fields
pub record Headers : Type 0 where
  pub kind : ListKind
  pub pairs : List Pair
