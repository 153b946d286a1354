-- What a step of reading gives, told by the grammar's reading of the bytes from its place on.
use Rattle.std.specs.Prelude.{◌≡◌, ◌≢◌, ℕ, ◌-◌, ◌≤◌, ◌<◌, List, length, drop, Result, Ok, Err}
use Rattle.wasm_syntax.specs.declared.module.Module.{Module}
use Rattle.wasm_syntax.specs.declared.section.Section.{Section}
use Rattle.wasm_syntax.specs.Grammar.{with_sections, FirstFault}
use Rattle.wasm_syntax.specs.Format.{Fault, Reading, ok, fault, Fence, Ends, Passes, Format}
use Rattle.wasm_syntax.specs.declared.leb.LebEnd.{LebEnd}
use Rattle.wasm_syntax.specs.declared.leb.LebEnd.TheVariants.{Truncated, TooLong, UnusedBits}
use Rattle.wasm_reader.specs.declared.ends.ReadEnd.{ReadEnd}
use Rattle.wasm_reader.specs.declared.ends.ReadEnd.TheVariants.{Refused, OutOfMemory}
use Rattle.wasm_reader.specs.declared.ends.Bounds.{Bounds}
use Rattle.wasm_reader.specs.declared.ends.Bounds.TheVariants as bounds

-- places are counted from the front of the input, the grammar's from its end
abbrev pub fence_of : List ℕ → Bounds → Fence
fence_of b (bounds.Ends end size) = Ends (length b - end) (length b - size)
fence_of b (bounds.Passes size) = Passes (length b - size)

abbrev pub AreWithin : List ℕ → Bounds → Type 0
AreWithin b (bounds.Ends end size) = (end ≤ length b) × (size ≤ length b)
AreWithin b (bounds.Passes size) = size ≤ length b

-- the value with the place behind it, or the refusal with its place; want of memory is free
abbrev pub Gives : {A : Type 0} → List ℕ → Result (A × ℕ) ReadEnd → Reading A → Type 0
Gives b (Ok x) read = (x.1 ≤ length b) × (read ≡ ok x.0 (drop x.1 b))
Gives b (Err OutOfMemory) read = Unit {0}
Gives b (Err (Refused number place)) read = (place ≤ length b) × (read ≡ fault number (length b - place))

-- the same of a rule, from a place on
abbrev pub Reads : {A : Type 0} → Format A → List ℕ → ℕ → Bounds → Result (A × ℕ) ReadEnd → Type 0
Reads m b at k result = Gives b result (m.reads (fence_of b k) (drop at b))

-- what check says of a place
abbrev pub IsInside : ℕ → Bounds → Type 0
IsInside place (bounds.Ends end size) = place ≤ end
IsInside place (bounds.Passes size) = Unit {0}

abbrev pub IsPast : ℕ → Bounds → ReadEnd → Type 0
IsPast place (bounds.Ends end size) e = (end < place) × (e ≡ Refused 8 size)
IsPast place (bounds.Passes size) e = ⊥

-- a number that was read at a place
abbrev pub numbered : {A : Type 0} → List ℕ → ℕ → Result (A × ℕ) LebEnd → Reading A
numbered b at (Ok x) = ok x.0 (drop x.1 b)
numbered b at (Err Truncated) = fault 2 0
numbered b at (Err TooLong) = fault 3 (length b - at)
numbered b at (Err UnusedBits) = fault 3 (length b - at)

-- where a size stands
abbrev pub size_place : Bounds → ℕ
size_place (bounds.Ends end size) = size
size_place (bounds.Passes size) = size

-- what the end of a section or body says, at the place behind its content
abbrev pub IsFull : ℕ → Bounds → Type 0
IsFull place (bounds.Ends end size) = place ≡ end
IsFull place (bounds.Passes size) = ⊥

abbrev pub IsNotFull : List ℕ → ℕ → Bounds → ReadEnd → Type 0
IsNotFull b place (bounds.Ends end size) e = (place ≢ end) × (e ≡ Refused 8 size)
IsNotFull b place (bounds.Passes size) e = e ≡ Refused 2 (length b)

-- what reading the whole gives
abbrev pub GivesModule : {A : Type 0} → List ℕ → Result A ReadEnd → Result A Fault → Type 0
GivesModule b (Ok m) read = read ≡ Ok m
GivesModule b (Err OutOfMemory) read = Unit {0}
GivesModule b (Err (Refused number place)) read = (place ≤ length b) × (read ≡ Err (record { number = number; left = length b - place }))

-- a module with what is still read
abbrev pub made_from : Module → Reading (List Section) → Result Module Fault
made_from m (Ok x) = Ok (with_sections m x.0)
made_from m (Err e) = Err e

-- the answer is that module, or memory ran out
abbrev pub Answers : {A : Type 0} → Result A ReadEnd → A → Type 0
Answers (Ok x) m = x ≡ m
Answers (Err OutOfMemory) m = Unit {0}
Answers (Err (Refused number place)) m = ⊥

-- the answer is that refusal, or memory ran out
abbrev pub Refuses : {A : Type 0} → Result A ReadEnd → ℕ → ℕ → Type 0
Refuses (Ok x) n p = ⊥
Refuses (Err OutOfMemory) n p = Unit {0}
Refuses (Err (Refused number place)) n p = (number ≡ n) × (place ≡ p)

-- a refusal is the first fault
abbrev pub IsFirstFault : List ℕ → ReadEnd → Type 0
IsFirstFault b OutOfMemory = Unit {0}
IsFirstFault b (Refused number place) = FirstFault b number place
