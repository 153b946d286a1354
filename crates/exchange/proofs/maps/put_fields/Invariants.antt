use Rattle.std.proofs.Common.{◌≡◌, drop}
use Rattle.exchange.specs.Maps.{with_fields}
use Rattle.exchange.proofs.maps.put_fields.Given as goal

abbrev pub invariant-loop-at : goal.invariant-loop-at
invariant-loop-at l = with_fields l.map (drop l.at l.fields.pairs) ≡ with_fields l.fn.map l.fields.pairs
