-- What a look-up for a Set tells of a key.
use Rattle.std.specs.Prelude.{ℕ, ◌+◌, List, Option, Some, None, length}
use Rattle.store_model.specs.Keys.{Held}
use Rattle.shared_data.specs.declared.data.Found.{Found}

abbrev pub found_of : Option Held → Option Found
found_of None = None
found_of (Some h) = Some (record { number = h.number; value_len = length h.value })

abbrev pub number_found : Option Found → ℕ
number_found None = 0
number_found (Some f) = f.number

-- what an entry that was found uses
abbrev pub found_names : Option Found → ℕ
found_names None = 0
found_names (Some f) = 1

abbrev pub found_bytes : List ℕ → Option Found → ℕ
found_bytes key None = 0
found_bytes key (Some f) = length key + f.value_len
