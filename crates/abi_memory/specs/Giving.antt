-- How bytes and numbers are given to a guest.
use Rattle.std.specs.Prelude.{◌≡◌, ℕ, zero, suc, ◌&&◌, Bool, List, [], ◌∷◌, length, Option, Some, None, Result, Ok, Err, if◌then◌else◌}
use Rattle.gate_base.specs.declared.cause.Cause.{Cause}
use Rattle.wasm_syntax.specs.Memory.{bytes_of}
use Rattle.abi_types.specs.GuestAt.{GuestAt, is_range, wrote, Alloced, alloc_gave, alloc_none, alloc_trapped, alloc_spent, alloc_open, allocating}
use Rattle.abi_memory.specs.declared.give.GiveEnd.{GiveEnd}
use Rattle.abi_memory.specs.declared.give.GiveEnd.TheVariants.{InvalidAccess, NoAllocator, Trapped, FuelSpent}
use Rattle.abi_memory.specs.declared.give.Place.{Place}

-- the guest, to which it was given or not, or how the callback ended, with the fuel that is left
pub data Gave : Type 0 where
  gave : GuestAt → Gave
  refused : GuestAt → Gave
  no_allocator : GuestAt → Gave
  gave_trapped : Cause → (left : ℕ) → Gave
  gave_spent : (left : ℕ) → Gave
  gave_open : Gave

abbrev pub has_place : ℕ → ℕ → GuestAt → Bool
has_place at len g = is_range g.config.store.memory at len

-- a number of four bytes
abbrev pub numbered : ℕ → ℕ → GuestAt → GuestAt
numbered at v g = wrote at (bytes_of 4 v) g

abbrev pub numbering : ℕ → ℕ → GuestAt → Gave
numbering at v g = if has_place at 4 g then gave (numbered at v g) else refused g

-- so many bytes at a place are inside, and the two places where the guest is told of them
abbrev pub has_room : (ptr len : ℕ) → Place → GuestAt → Bool
has_room ptr len p g = has_place ptr len g && (has_place p.pointer 4 g && has_place p.size 4 g)

-- the bytes at a place, and then the place and the size at two others
abbrev pub placed : ℕ → List ℕ → Place → GuestAt → GuestAt
placed ptr bytes p g = numbered p.size (length bytes) (numbered p.pointer ptr (wrote ptr bytes g))

abbrev pub placing : ℕ → List ℕ → Place → GuestAt → Gave
placing ptr bytes p g = if has_room ptr (length bytes) p g then gave (placed ptr bytes p g) else refused g

abbrev pub placing_at : ℕ → List ℕ → Place → GuestAt → Gave
placing_at zero bytes p g = refused g
placing_at (suc ptr) bytes p g = placing (suc ptr) bytes p g

abbrev pub giving_by : Alloced → List ℕ → Place → Gave
giving_by (alloc_gave ptr g) bytes p = placing_at ptr bytes p g
giving_by (alloc_none g) bytes p = no_allocator g
giving_by (alloc_trapped c n) bytes p = gave_trapped c n
giving_by (alloc_spent n) bytes p = gave_spent n
giving_by alloc_open bytes p = gave_open

-- THE BYTES ARE GIVEN; none need no allocation
abbrev pub giving : List ℕ → Place → GuestAt → Gave
giving [] p g = placing 0 [] p g
giving (b ∷ bs) p g = giving_by (allocating (length (b ∷ bs)) g) (b ∷ bs) p

-- the same, as the code tells it
abbrev pub gave_as : Result (Unit {0}) GiveEnd → GuestAt → Gave
gave_as (Ok x) g = gave g
gave_as (Err InvalidAccess) g = refused g
gave_as (Err NoAllocator) g = no_allocator g
gave_as (Err (Trapped c)) g = gave_trapped c g.fuel
gave_as (Err FuelSpent) g = gave_spent g.fuel

abbrev pub Gives : Gave → Result (Unit {0}) GiveEnd → GuestAt → Type 0
Gives x r g = x ≡ gave_as r g

-- a place was found for them, where they are given then; or the end is that of giving them
abbrev pub placed_as : Result ℕ GiveEnd → List ℕ → Place → GuestAt → Gave
placed_as (Ok ptr) bytes p g = gave (placed ptr bytes p g)
placed_as (Err end) bytes p g = gave_as (Err end) g

-- A PLACE FOR SO MANY BYTES, whatever they are: from the guest before, what was found, and the guest then
abbrev pub FindsPlace : ℕ → Place → GuestAt → Result ℕ GiveEnd → GuestAt → Type 0
FindsPlace len p g r h = (bytes : List ℕ) → length bytes ≡ len → giving bytes p g ≡ placed_as r bytes p h

abbrev pub RestsAfterGiving : {A : Type 0} → Result A GiveEnd → Type 0 → Type 0
RestsAfterGiving (Ok x) rests = rests
RestsAfterGiving (Err InvalidAccess) rests = rests
RestsAfterGiving (Err NoAllocator) rests = rests
RestsAfterGiving (Err (Trapped c)) rests = Unit {0}
RestsAfterGiving (Err FuelSpent) rests = Unit {0}

abbrev pub numbered_as : Option (Unit {0}) → GuestAt → Gave
numbered_as (Some x) g = gave g
numbered_as None g = refused g
