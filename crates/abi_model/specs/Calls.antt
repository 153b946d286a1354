-- What a host call is: it sees the contexts, and says what it changes and what it gives.
use Rattle.std.specs.Prelude.{◌≡◌, ◌<◌, ◌^◌, ℕ, List, length, if◌then◌else◌}
use Rattle.gate_base.specs.declared.cause.Cause.{Cause}
use Rattle.wasm_syntax.specs.Memory.{bytes_of}
use Rattle.abi_types.specs.GuestAt.{GuestAt, wrote}
use Rattle.abi_memory.specs.Giving.{Gave, gave, refused, no_allocator, gave_trapped, gave_spent, gave_open, has_place, giving, numbering}
use Rattle.abi_memory.specs.declared.give.Place.{Place}
use Rattle.contexts.specs.declared.parts.Contexts.{Contexts}
use Rattle.contexts.specs.Reached.{Seen, Changes, no_changes, put}
use Rattle.abi_model.specs.Rows.{all_inside, input_bytes, places_of}
use Rattle.abi_model.specs.declared.table.Param.{Param}
use Rattle.abi_model.specs.declared.opening.Inputs.{Inputs}
use Rattle.abi_model.specs.declared.ends.Gives.{Gives}
use Rattle.abi_model.specs.declared.ends.Gives.TheVariants.{Nothing, Bytes, Number, Numbers, BytesAndNumber, Wide, Written}
use Rattle.abi_model.specs.declared.ends.Places.{Places}
use Rattle.abi_model.specs.declared.ends.Outcome.{Outcome}
use Rattle.abi_model.specs.declared.ends.HostEnd.{HostEnd}
use Rattle.abi_model.specs.declared.ends.HostEnd.TheVariants.{Status, Trapped, FuelSpent, OutOfMemory}

-- ---- the last step: handing over

abbrev pub gave_then : Gave → (GuestAt → Gave) → Gave
gave_then (gave g) go = go g
gave_then (refused g) go = refused g
gave_then (no_allocator g) go = no_allocator g
gave_then (gave_trapped c n) go = gave_trapped c n
gave_then (gave_spent n) go = gave_spent n
gave_then gave_open go = gave_open

abbrev pub told_at : Places → Place
told_at p = record { pointer = p.first; size = p.second }

-- bytes at a place
abbrev pub writing_at : ℕ → List ℕ → GuestAt → Gave
writing_at at bytes g = if has_place at (length bytes) g then gave (wrote at bytes g) else refused g

abbrev pub handing : Gives → Places → GuestAt → Gave
handing Nothing p g = gave g
handing (Bytes bs) p g = giving bs (told_at p) g
handing (Number n) p g = numbering p.first n g
handing (Numbers n m) p g = gave_then (numbering p.first n g) (λ d. numbering p.second m d)
handing (BytesAndNumber bs n) p g = gave_then (giving bs (told_at p) g) (λ d. numbering p.third n d)
handing (Wide n) p g = writing_at p.first (bytes_of 8 n) g
handing (Written bs) p g = writing_at p.first bs g

abbrev pub AreShort : Gives → Type 0
AreShort Nothing = Unit {0}
AreShort (Bytes bs) = length bs < 2 ^ 32
AreShort (Number n) = Unit {0}
AreShort (Numbers n m) = Unit {0}
AreShort (BytesAndNumber bs n) = length bs < 2 ^ 32
AreShort (Wide n) = Unit {0}
AreShort (Written bs) = length bs < 2 ^ 32

-- ---- how a call ends for the guest

pub data Called : Type 0 where
  called : (status : ℕ) → GuestAt → Called
  called_trapped : Cause → (left : ℕ) → Called
  called_spent : (left : ℕ) → Called
  called_open : Called

-- `outside` is the status of a range that is not inside
abbrev pub finishing : (outside status : ℕ) → Gave → Called
finishing outside status (gave g) = called status g
finishing outside status (refused g) = called outside g
finishing outside status (no_allocator g) = called 10 g
finishing outside status (gave_trapped c n) = called_trapped c n
finishing outside status (gave_spent n) = called_spent n
finishing outside status gave_open = called_open

-- the same, as the code tells it; of want of memory nothing is said
abbrev pub CallEnds : Called → HostEnd → GuestAt → Type 0
CallEnds x (Status s) g = x ≡ called s g
CallEnds x (Trapped c) g = x ≡ called_trapped c g.fuel
CallEnds x FuelSpent g = x ≡ called_spent g.fuel
CallEnds x OutOfMemory g = Unit {0}

abbrev pub RestsAfterCall : HostEnd → Type 0 → Type 0
RestsAfterCall (Status s) rests = rests
RestsAfterCall (Trapped c) rests = Unit {0}
RestsAfterCall FuelSpent rests = Unit {0}
RestsAfterCall OutOfMemory rests = rests

-- ---- THE CALL ITSELF: from its arguments, the bytes taken and what it sees, its status, its changes, and what it gives
pub record Made : Type 0 where
  pub status : ℕ
  pub changes : Changes
  pub gives : Gives

abbrev pub answers : ℕ → Made
answers n = record { status = n; changes = no_changes; gives = Nothing }

-- done, with these changes
abbrev pub changing : Changes → Made
changing c = record { status = 0; changes = c; gives = Nothing }

-- a call that changes nothing
abbrev pub reads : Outcome → Made
reads o = record { status = o.status; changes = no_changes; gives = o.gives }

abbrev pub only : ℕ → Outcome
only n = record { status = n; gives = Nothing }

abbrev pub given : Gives → Outcome
given x = record { status = 0; gives = x }

-- what the code tells of it
abbrev pub told : Made → Outcome
told m = record { status = m.status; gives = m.gives }

abbrev pub Own : Type 0
Own = List ℕ → Inputs → Seen → Made

-- ---- THE ORDER: the ranges and places; the call itself, its values first and then its effect; handing over

-- what a call does to the guest and to what it sees
pub record Does : Type 0 where
  pub called : Called
  pub changes : Changes

abbrev pub ending : (outside : ℕ) → List Param → List ℕ → GuestAt → Outcome → Called
ending outside row args g o = finishing outside o.status (handing o.gives (places_of row args) g)

abbrev pub does_made : (outside : ℕ) → List Param → List ℕ → GuestAt → Made → Does
does_made outside row args g m = record { called = ending outside row args g (told m); changes = m.changes }

-- THE CALL of a row
abbrev pub does : (outside : ℕ) → List Param → Own → List ℕ → GuestAt → Seen → Does
does outside row own args g s =
    if all_inside g.config.store.memory row 0 args
    then does_made outside row args g (own args (input_bytes g.config.store.memory row args) s)
    else (record { called = called outside g; changes = no_changes })

-- where memory ran out nothing was done to them
abbrev pub ContextsEnd : Changes → ℕ → Contexts → HostEnd → Contexts → Type 0
ContextsEnd c vm h (Status s) k = k ≡ put c vm h
ContextsEnd c vm h (Trapped x) k = k ≡ put c vm h
ContextsEnd c vm h FuelSpent k = k ≡ put c vm h
ContextsEnd c vm h OutOfMemory k = k ≡ h

-- THE SAME OF THE CONTEXTS: what the call sees of them, and what they are afterwards
pub record Ends (d : Does) (vm : ℕ) (h : Contexts) (end : HostEnd) (g : GuestAt) (k : Contexts) : Type 0 where
  pub called : CallEnds d.called end g
  pub contexts : ContextsEnd d.changes vm h end k
