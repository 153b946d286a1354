-- The entries of the map, as the keys of a store.
use Rattle.std.specs.Prelude.{◌≡◌, ℕ, ◌≤◌, List, map, Vec}
use Rattle.std.specs.declared.alloc.Global.{Global}
use Rattle.std.specs.List.Sorted.{IsStrictlySortedBy}
use Rattle.std.specs.Map.{keys_of}
use Rattle.store_model.specs.Keys.{Held, Keys, bytes_cmp, used_by_keys}
use Rattle.store_model.specs.Limits.{IsWithin}
use Rattle.shared_data.specs.declared.data.Kept.{Kept}

abbrev pub seen_kept : Kept → Held
seen_kept k = record { value = k.value; number = k.number }

abbrev pub seen_entry : Vec ℕ Global × Kept → List ℕ × Held
seen_entry e = (e.0.items, seen_kept e.1)

abbrev pub seen_keys : List (Vec ℕ Global × Kept) → ℕ → Keys
seen_keys entries next = record { entries = map seen_entry entries; next = next }

-- the keys ascend, the bytes are counted, the limits hold, and the next number is at most one past the last
pub record IsKept (d : Keys) (bytes : ℕ) : Type 0 where
  pub ordered : IsStrictlySortedBy bytes_cmp (keys_of d.entries)
  pub counted : bytes ≡ (used_by_keys d).bytes
  pub within : IsWithin (used_by_keys d)
  pub next : d.next ≤ 4294967296
