-- The items that a module is made of: bytes, numbers, and the bytes of names and data.
use Rattle.std.specs.Prelude.{◌≡◌, ℕ, ℤ, ◌+◌, ◌-◌, Bool, true, false, List, [], ◌∷◌, ◌++◌, length, take, drop, Option, Some, None, Result, Ok, Err, nat_lt, nat_le, nat_eq, if◌then◌else◌}
use Rattle.wasm_syntax.specs.declared.leb.LebEnd.{LebEnd}
use Rattle.wasm_syntax.specs.declared.leb.LebEnd.TheVariants.{Truncated, TooLong, UnusedBits}
use Rattle.wasm_syntax.specs.Numbers.{IsUnsigned, IsSigned, u32_at, s32_at, s64_at}
use Rattle.wasm_syntax.specs.Format.{Reading, ok, fault, and_then, tested, Fence, Ends, Passes, size_of, Format, item, bounded, repeated, ◌>>=◌}

-- ---- a byte, judged by what may stand there: a value, or the row of its fault

pub record IsByte {A : Type 0} (judge : ℕ → Result A ℕ) (x : A) (text : List ℕ) : Type 0 where
  pub byte : ℕ
  pub alone : text ≡ byte ∷ []
  pub judged : judge byte ≡ Ok x

abbrev pub judged_as : {A : Type 0} → Result A ℕ → ℕ → List ℕ → Reading A
judged_as (Ok x) left rest = ok x rest
judged_as (Err number) left rest = fault number left

-- with no byte left the input ends inside the item (2)
abbrev pub byte_at : {A : Type 0} → (ℕ → Result A ℕ) → List ℕ → Reading A
byte_at judge [] = fault 2 0
byte_at judge (b ∷ bs) = judged_as (judge b) (length (b ∷ bs)) bs

abbrev pub byte_as : {A : Type 0} → (ℕ → Result A ℕ) → Format A
byte_as judge = item (IsByte judge) (byte_at judge)

-- ---- numbers: one that the input cuts off is row 2, one that is too long or sets unused bits row 3

abbrev pub number_or_fault : {A : Type 0} → ℕ → Result (A × List ℕ) LebEnd → Reading A
number_or_fault left (Ok x) = Ok x
number_or_fault left (Err Truncated) = fault 2 0
number_or_fault left (Err TooLong) = fault 3 left
number_or_fault left (Err UnusedBits) = fault 3 left

abbrev pub u32 : Format ℕ
u32 = item (λ v text. IsUnsigned 32 text v) (λ bytes. number_or_fault (length bytes) (u32_at bytes))

abbrev pub s32 : Format ℤ
s32 = item (λ v text. IsSigned 32 text v) (λ bytes. number_or_fault (length bytes) (s32_at bytes))

abbrev pub s64 : Format ℤ
s64 = item (λ v text. IsSigned 64 text v) (λ bytes. number_or_fault (length bytes) (s64_at bytes))

-- a count that has to be the one that was declared before, where one was: else it is row 4
abbrev pub agrees : Option ℕ → ℕ → Bool
agrees None n = true
agrees (Some declared) n = nat_eq n declared

abbrev pub agreed_u32 : Option ℕ → Format ℕ
agreed_u32 declared = item (λ n text. IsUnsigned 32 text n × (agrees declared n ≡ true)) (λ bytes. and_then (number_or_fault (length bytes) (u32_at bytes)) (λ n rest. tested (agrees declared n) 4 (length bytes) n rest))

-- ---- so many bytes, of a name or of data. Those that are not accepted are row 7

abbrev pub AreBytesOf : (List ℕ → Bool) → ℕ → List ℕ → List ℕ → Type 0
AreBytesOf accept n xs text = (text ≡ xs) × (length xs ≡ n) × (accept xs ≡ true)

abbrev pub bytes_at : (List ℕ → Bool) → ℕ → List ℕ → Reading (List ℕ)
bytes_at accept n bytes = if nat_lt (length bytes) n then fault 2 0 else tested (accept (take n bytes)) 7 (length bytes) (take n bytes) (drop n bytes)

abbrev pub bytes_of : (List ℕ → Bool) → ℕ → Format (List ℕ)
bytes_of accept n = item (AreBytesOf accept n) (bytes_at accept n)

-- ---- a count and so many members

abbrev pub at_most : ℕ → ℕ → Bool
at_most bound n = nat_le n bound

-- no vector but one of bytes has more than 65,536 entries
abbrev pub vector : {A : Type 0} → Format A → Format (List A)
vector m = bounded (at_most 65536) u32 >>= λ n. repeated n m

-- ---- a size, and content of that size

pub record IsSized {A : Type 0} (content : A → List ℕ → Type 0) (x : A) (text : List ℕ) : Type 0 where
  pub front : List ℕ
  pub back : List ℕ
  pub parts : text ≡ front ++ back
  pub size : IsUnsigned 32 front (length back)
  pub filled : content x back

-- where content of that size, which these bytes begin with, ends
abbrev pub fence_at : ℕ → ℕ → List ℕ → Fence
fence_at n size rest = if nat_lt (length rest) n then Passes size else Ends (length rest - n) size

-- Content that passes the section that holds it, where the input has that section's bytes, is judged
-- as soon as its size is read.
abbrev pub crosses : Fence → ℕ → ℕ → Bool
crosses (Ends left size) n have = nat_lt have (left + n)
crosses (Passes size) n have = false

-- Where items are left over the size does not fit (8). Where the input ends before the content does, and
-- no item is at fault, the input is cut off (2).
abbrev pub filled_at : {A : Type 0} → Fence → A → List ℕ → Reading A
filled_at (Ends left size) x rest = tested (nat_eq (length rest) left) 8 size x rest
filled_at (Passes size) x rest = fault 2 0

abbrev pub sized_at : {A : Type 0} → Format A → Fence → ℕ → List ℕ → ℕ → Reading A
sized_at m k n rest size =
    if crosses k n (length rest) then fault 8 (size_of k)
    else and_then (m.reads (fence_at n size rest) rest) (λ x r. filled_at (fence_at n size rest) x r)

abbrev pub sized : {A : Type 0} → Format A → Format A
sized m = record {
  spells = IsSized m.spells;
  reads = λ k bytes. and_then (u32.reads k bytes) (λ n rest. sized_at m k n rest (length bytes));
}

-- ---- a size, and of that size content and then any bytes

pub record IsSizedWithTail {A : Type 0} (content : A → List ℕ → Type 0) (x : A) (text : List ℕ) : Type 0 where
  pub front : List ℕ
  pub back : List ℕ
  pub tail : List ℕ
  pub parts : text ≡ front ++ (back ++ tail)
  pub size : IsUnsigned 32 front (length (back ++ tail))
  pub filled : content x back

-- all bytes up to the end
abbrev pub skipped_at : {A : Type 0} → Fence → A → List ℕ → Reading A
skipped_at (Ends left size) x rest = ok x (drop (length rest - left) rest)
skipped_at (Passes size) x rest = fault 2 0

abbrev pub tailed_at : {A : Type 0} → Format A → Fence → ℕ → List ℕ → ℕ → Reading A
tailed_at m k n rest size =
    if crosses k n (length rest) then fault 8 (size_of k)
    else and_then (m.reads (fence_at n size rest) rest) (λ x r. skipped_at (fence_at n size rest) x r)

abbrev pub sized_with_tail : {A : Type 0} → Format A → Format A
sized_with_tail m = record {
  spells = IsSizedWithTail m.spells;
  reads = λ k bytes. and_then (u32.reads k bytes) (λ n rest. tailed_at m k n rest (length bytes));
}
