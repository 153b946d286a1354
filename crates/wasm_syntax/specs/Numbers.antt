-- Numbers as WebAssembly Core 1.0 section 5.2.2 spells them (LEB128): seven bits a byte, the lowest
-- first, and a byte from 128 on says that another follows. A spelling need not be the shortest.
-- The lists are of bytes; what stands for a byte list says so by AreBytes where it matters.
use Rattle.std.specs.Prelude.{◌≡◌, ℕ, ℤ, pos, negsuc, Bool, unsigned_abs, ◌/◌, ◌%◌, ◌+◌, ◌-◌, ◌*◌, ◌^◌, ◌<◌, ◌≤◌, ◌+ℤ◌, ◌-ℤ◌, ◌*ℤ◌, ◌≤ℤ◌, ◌<ℤ◌, ◌⊎◌, ◌||◌, zero, suc, List, [], ◌∷◌, ◌++◌, length, take, Result, Ok, Err, nat_lt, nat_le, if◌then◌else◌}
use Rattle.std.specs.Int.{int_rem_euclid, int_div_euclid}
use Rattle.std.specs.List.{AllByRecursion}
use Rattle.wasm_syntax.specs.declared.leb.LebEnd.{LebEnd}
use Rattle.wasm_syntax.specs.declared.leb.LebEnd.TheVariants.{Truncated, TooLong, UnusedBits}

abbrev pub AreBytes : List ℕ → Type 0
AreBytes bytes = AllByRecursion (λ b. b < 256) bytes

-- The bytes spell v as an unsigned number of that many bits (uN).
abbrev pub IsUnsigned : ℕ → List ℕ → ℕ → Type 0
IsUnsigned bits [] v = ⊥
IsUnsigned bits (b ∷ []) v = (b < 128) × (b < 2 ^ bits) × (v ≡ b)
IsUnsigned bits (b ∷ c ∷ bs) v = (128 ≤ b) × (7 < bits) × ((m : ℕ) × IsUnsigned (bits - 7) (c ∷ bs) m × (v ≡ (b - 128) + 128 * m))

-- The bytes spell v as a signed number of that many bits (sN): bit 6 of the last byte is the sign.
abbrev pub IsSignedLast : ℕ → ℕ → ℤ → Type 0
IsSignedLast bits b v = ((b < 64) × (b < 2 ^ (bits - 1)) × (v ≡ pos b)) ⊎ ((64 ≤ b) × (b < 128) × (128 ≤ b + 2 ^ (bits - 1)) × (v ≡ pos b -ℤ pos 128))

abbrev pub IsSigned : ℕ → List ℕ → ℤ → Type 0
IsSigned bits [] v = ⊥
IsSigned bits (b ∷ []) v = IsSignedLast bits b v
IsSigned bits (b ∷ c ∷ bs) v = (128 ≤ b) × (7 < bits) × ((m : ℤ) × IsSigned (bits - 7) (c ∷ bs) m × (v ≡ pos (b - 128) +ℤ pos 128 *ℤ m))

-- from - m on, and below m
abbrev pub IsWithin : ℕ → ℤ → Type 0
IsWithin m z = (pos 0 ≤ℤ (z +ℤ pos m)) × (z <ℤ pos m)

-- A last byte below 128 stands for a number from - limit on and below limit.
abbrev pub IsOfSize : ℕ → ℕ → Type 0
IsOfSize limit b = (b < limit) ⊎ (128 ≤ b + limit)

-- ---- where no number stands at the front

-- The input ends before the number's last byte, and before the last of the bytes that it may have.
abbrev pub EndsEarly : ℕ → List ℕ → Type 0
EndsEarly most bytes = (length bytes < most) × AllByRecursion (λ b. 128 ≤ b) bytes

-- The last byte that the number may have says that another follows, whether or not that is there.
abbrev pub PassesMost : ℕ → List ℕ → Type 0
PassesMost most bytes = (most ≤ length bytes) × AllByRecursion (λ b. 128 ≤ b) (take most bytes)

-- The number has all the bytes that it may have, and the last one sets a bit past the number's size.
abbrev pub SetsUnusedBits : ℕ → (ℕ → Type 0) → List ℕ → Type 0
SetsUnusedBits most sets [] = ⊥
SetsUnusedBits zero sets (b ∷ bs) = ⊥
SetsUnusedBits (suc zero) sets (b ∷ bs) = (b < 128) × sets b
SetsUnusedBits (suc (suc most)) sets (b ∷ bs) = (128 ≤ b) × SetsUnusedBits (suc most) sets bs

-- Which fault it is, for a number of at most so many bytes.
abbrev pub IsNumberFault : LebEnd → ℕ → (ℕ → Type 0) → List ℕ → Type 0
IsNumberFault Truncated most sets bytes = EndsEarly most bytes
IsNumberFault TooLong most sets bytes = PassesMost most bytes
IsNumberFault UnusedBits most sets bytes = SetsUnusedBits most sets bytes

-- Of the last byte an unsigned number may set the bits below limit, a power of two. A signed number
-- may have there a number below limit, or that minus 128 where it is from - limit on.
abbrev pub SetsBeyond : ℕ → ℕ → Type 0
SetsBeyond limit b = limit ≤ b

abbrev pub SetsBeyondSign : ℕ → ℕ → Type 0
SetsBeyondSign limit b = ((limit ≤ b) × (b < 64)) ⊎ ((64 ≤ b) × (b + limit < 128))

-- ---- reading from left to right: the number and the bytes behind it, or the fault

abbrev pub behind : {A : Type 0} → (A → A) → Result (A × List ℕ) LebEnd → Result (A × List ℕ) LebEnd
behind f (Ok x) = Ok (f x.0, x.1)
behind f (Err e) = Err e

-- limit is for the last byte, behind which more bytes may stand
unfoldable pub unsigned_at : ℕ → ℕ → List ℕ → Result (ℕ × List ℕ) LebEnd
unsigned_at limit more [] = Err Truncated
unsigned_at limit zero (b ∷ bs) = if nat_lt b 128 then (if nat_lt b limit then Ok (b, bs) else Err UnusedBits) else Err TooLong
unsigned_at limit (suc more) (b ∷ bs) = if nat_lt b 128 then Ok (b, bs) else behind (λ m. (b - 128) + 128 * m) (unsigned_at limit more bs)

-- what a last byte below 128 stands for
abbrev pub signed_last : ℕ → ℤ
signed_last b = if nat_lt b 64 then pos b else pos b -ℤ pos 128

unfoldable pub signed_at : ℕ → ℕ → List ℕ → Result (ℤ × List ℕ) LebEnd
signed_at limit more [] = Err Truncated
signed_at limit zero (b ∷ bs) = if nat_lt b 128 then (if nat_lt b limit || nat_le 128 (b + limit) then Ok (signed_last b, bs) else Err UnusedBits) else Err TooLong
signed_at limit (suc more) (b ∷ bs) = if nat_lt b 128 then Ok (signed_last b, bs) else behind (λ m. pos (b - 128) +ℤ pos 128 *ℤ m) (signed_at limit more bs)

abbrev pub u32_at : List ℕ → Result (ℕ × List ℕ) LebEnd
u32_at bytes = unsigned_at 16 4 bytes

abbrev pub s32_at : List ℕ → Result (ℤ × List ℕ) LebEnd
s32_at bytes = signed_at 8 4 bytes

abbrev pub s64_at : List ℕ → Result (ℤ × List ℕ) LebEnd
s64_at bytes = signed_at 1 9 bytes

-- A number with the place behind it, in an input of that many bytes.
abbrev pub placed : {A : Type 0} → ℕ → Result (A × List ℕ) LebEnd → Result (A × ℕ) LebEnd
placed len (Ok x) = Ok (x.0, len - length x.1)
placed len (Err e) = Err e

-- ---- the shortest spelling

-- Of the byte lists that spell the same the text is as short as any.
pub record IsShortest (spells : List ℕ → Type 0) (text : List ℕ) : Type 0 where
  pub bytes : AreBytes text
  pub spelled : spells text
  pub least : (other : List ℕ) → AreBytes other → spells other → length text ≤ length other

-- such a text stands at the end of what was there
abbrev pub Appends : (List ℕ → Type 0) → List ℕ → List ℕ → Type 0
Appends spells old new = (text : List ℕ) × spells text × (new ≡ old ++ text)

-- its bytes, of which at most `more` stand behind the first
unfoldable pub unsigned_bytes : ℕ → ℕ → List ℕ
unsigned_bytes zero v = v ∷ []
unsigned_bytes (suc more) v = if nat_lt v 128 then v ∷ [] else (128 + v % 128) ∷ unsigned_bytes more (v / 128)

-- the low seven bits of a signed number, and the number without them
abbrev pub low_bits : ℤ → ℕ
low_bits v = unsigned_abs (int_rem_euclid v (pos 128))

abbrev pub high_part : ℤ → ℤ
high_part v = int_div_euclid v (pos 128)

-- from -64 on and below 64
abbrev pub is_small : ℤ → Bool
is_small (pos n) = nat_lt n 64
is_small (negsuc n) = nat_lt n 64

unfoldable pub signed_bytes : ℕ → ℤ → List ℕ
signed_bytes zero v = low_bits v ∷ []
signed_bytes (suc more) v = if is_small v then low_bits v ∷ [] else (128 + low_bits v) ∷ signed_bytes more (high_part v)

abbrev pub u32_bytes : ℕ → List ℕ
u32_bytes v = unsigned_bytes 4 v

abbrev pub s32_bytes : ℤ → List ℕ
s32_bytes v = signed_bytes 4 v

abbrev pub s64_bytes : ℤ → List ℕ
s64_bytes v = signed_bytes 9 v
