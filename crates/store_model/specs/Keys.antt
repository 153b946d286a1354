-- The keys of one store.
use Rattle.std.specs.Prelude.{ℕ, ◌+◌, ◌==◌, ◌&&◌, ◌||◌, Bool, List, [], length, sum_by, Option, Some, None, nat_le, if◌then◌else◌}
use Rattle.std.specs.declared.cmp.Ordering.{Ordering}
use Rattle.std.specs.Ordering.{nat_cmp}
use Rattle.std.specs.Cmp.Lexicographic.{slice_cmp}
use Rattle.std.specs.Map.{lookup}
use Rattle.std.specs.BTreeMap.{insert_entry}
use Rattle.std.specs.Str.{bytes_eq}
use Rattle.store_model.specs.Limits.{fits}
use Rattle.store_model.specs.declared.used.Used.{Used}
use Rattle.store_model.specs.declared.used.TheConstants.{MOST_NUMBER}
use Rattle.store_model.specs.declared.call.Reply.{Reply}
use Rattle.store_model.specs.declared.call.Reply.TheVariants.{Absent, Value, Done, CasMismatch, Full}

-- what is kept under a key: its value, and the number of the Set that gave it
pub record Held : Type 0 where
  pub value : List ℕ
  pub number : ℕ

-- the keys, each once, in the order of their bytes, and the number that the next Set draws
pub record Keys : Type 0 where
  pub entries : List (List ℕ × Held)
  pub next : ℕ

abbrev pub no_keys : Keys
no_keys = record { entries = []; next = 1 }

-- bytes compare as words do
abbrev pub bytes_cmp : List ℕ → List ℕ → Ordering
bytes_cmp = slice_cmp nat_cmp

-- what is kept under a key, if it is there
abbrev pub held_at : Keys → List ℕ → Option Held
held_at d key = lookup (bytes_eq key) d.entries

-- the value under the key, with the next number
abbrev pub put : Keys → List ℕ → List ℕ → Keys
put d key value = record { entries = insert_entry bytes_cmp d.entries key (record { value = value; number = d.next }); next = d.next + 1 }

-- how many keys, and the bytes of keys and values
abbrev pub used_by_keys : Keys → Used
used_by_keys d = record { names = length d.entries; bytes = sum_by (λ e. length e.0 + length e.1.value) d.entries }

-- Get: the value, or that the key is not there
abbrev pub reply_of_held : Option Held → Reply
reply_of_held None = Absent
reply_of_held (Some h) = Value h.value h.number

abbrev pub get_reply : Keys → List ℕ → Reply
get_reply d key = reply_of_held (held_at d key)

-- no Set draws number 0, so it stands for no key
abbrev pub number_of : Option Held → ℕ
number_of None = 0
number_of (Some h) = h.number

-- Set: number 0 is always accepted, another one exactly where it is the key's
abbrev pub accepts : Keys → List ℕ → ℕ → Bool
accepts d key number = (number == 0) || (number == number_of (held_at d key))

-- there is a number to draw, and the store after it is within the limits
abbrev pub has_room_for : Used → Keys → List ℕ → List ℕ → Bool
has_room_for other d key value = nat_le d.next MOST_NUMBER && fits (used_by_keys (put d key value)) other

abbrev pub set_reply : Used → Keys → List ℕ → List ℕ → ℕ → Reply
set_reply other d key value number = if accepts d key number then (if has_room_for other d key value then Done d.next else Full) else CasMismatch

abbrev pub set_after : Used → Keys → List ℕ → List ℕ → ℕ → Keys
set_after other d key value number = if accepts d key number && has_room_for other d key value then put d key value else d
