-- What waits for a connection, and when it is enough.
use Rattle.std.specs.Prelude.{◌≡◌, ℕ, Bool, false, nat_le, List, ◌++◌, length, Option, None, Some}
use Rattle.gate_io.specs.Told.{Gains}
use Rattle.live_lines.specs.declared.upstream.Upstream.{Upstream}

-- Of what waited, and then of what came, a front went to the connection, where it tells what it took, and the rest waits.
pub record GoesOn (took : Option (List ℕ)) (waiting came : List ℕ) (took_now : Option (List ℕ)) (waiting_now : List ℕ) : Type 0 where
  pub gone : List ℕ
  pub in_order : gone ++ waiting_now ≡ waiting ++ came
  pub taken : Gains took gone took_now

-- there is a connection to the server, and 65,536 bytes or more wait for it
abbrev pub is_full : {P : Type 0} → Option (Upstream P) → Bool
is_full None = false
is_full (Some up) = nat_le 65536 (length up.waiting)
