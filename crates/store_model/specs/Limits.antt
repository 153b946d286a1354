-- What the two parts of a store may use together.
use Rattle.std.specs.Prelude.{◌+◌, ◌≤◌, ◌&&◌, Bool, nat_le}
use Rattle.store_model.specs.declared.used.Used.{Used}
use Rattle.store_model.specs.declared.used.TheConstants.{MOST_NAMES, MOST_BYTES}

-- both parts stay within the limits together
abbrev pub fits : Used → Used → Bool
fits a b = nat_le (a.names + b.names) MOST_NAMES && nat_le (a.bytes + b.bytes) MOST_BYTES

-- one part is within the limits
pub record IsWithin (u : Used) : Type 0 where
  pub names : u.names ≤ MOST_NAMES
  pub bytes : u.bytes ≤ MOST_BYTES
