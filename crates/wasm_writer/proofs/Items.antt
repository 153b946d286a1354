-- How bytes, numbers, vectors and sized content are written.
use Rattle.std.proofs.Common.{◌≡◌, ℕ, ℤ, pos, negsuc, zero, suc, ◌+◌, ◌-◌, ◌*◌, ◌/◌, ◌%◌, ◌^◌, ◌<◌, ◌≤◌, ◌+ℤ◌, ◌-ℤ◌, ◌*ℤ◌, Bool, true, Option, List, [], ◌∷◌, ◌++◌, length, Result, Ok, inl, inr, refl, sym, ap, subst, ◌∙◌, arith}
use Rattle.std.specs.List.{flat_map}
use Rattle.std.specs.Prelude.{FitsSigned}
use Rattle.std.specs.Int.{w32, w64}
use Rattle.std.proofs.lemmas.List.{length-append}
use Rattle.std.proofs.lemmas.Bool.{cases_lt}
use Rattle.std.proofs.lemmas.Nat.{pow-add}
use Rattle.std.proofs.lemmas.Int.{ints}
use Rattle.std.proofs.Math.Nat.{pow-suc}
use Rattle.wasm_syntax.specs.Numbers.{AreBytes, IsUnsigned, IsSigned, IsSignedLast, IsWithin, unsigned_bytes, u32_bytes, s32_bytes, s64_bytes}
use Rattle.wasm_syntax.specs.Format.{Format, Follows, bounded, repeated}
use Rattle.wasm_syntax.specs.Items.{IsByte, u32, agrees, agreed_u32, AreBytesOf, at_most, vector, IsSized}
use Rattle.wasm_syntax.proofs.Written.{unsigned_bytes_more, unsigned_bytes_last}
use Rattle.wasm_syntax.proofs.Shortest.{unsigned_shortest, word_shortest, long_shortest}
use Rattle.wasm_writer.specs.Written.{size_bytes, vector_bytes, sized_bytes}
use Rattle.wasm_writer.proofs.Forms.{IsWritten, same_written, with_written, only_written, follows_written, repeated_length, repeated_written, front_bytes, back_bytes, bytes_join}

-- ---- a byte

pub byte_written : {A : Type 0} (judge : ℕ → Result A ℕ) (w : A → List ℕ) → ((b : ℕ) (x : A) → judge b ≡ Ok x → w x ≡ b ∷ []) → IsWritten (IsByte judge) w
byte_written judge w h = only_written (IsByte judge) w (λ x text s. h s.byte x s.judged ∙ sym s.alone)

-- ---- numbers

pub unsigned_fits : (bits v : ℕ) (text : List ℕ) → AreBytes text → IsUnsigned bits text v → v < 2 ^ bits
unsigned_fits bits v [] are s = absurd s
unsigned_fits bits v (b ∷ []) are s = let e : v ≡ b = s.2 in let h : b < 2 ^ bits = s.1 in rw e h
unsigned_fits bits v (b ∷ c ∷ cs) are s =
    let t = s.2 in
    let i : t.0 < 2 ^ (bits - 7) = unsigned_fits (bits - 7) t.0 (c ∷ cs) are.1 t.1 in
    let e : v ≡ (b - 128) + 128 * t.0 = t.2 in
    let small : b < 256 = are.0 in
    let long : 7 < bits = s.1 in
    let k : bits ≡ 7 + (bits - 7) = omega arith in
    let p : 2 ^ bits ≡ 2 ^ 7 * 2 ^ (bits - 7) = ap (λ (n : ℕ). 2 ^ n) k ∙ pow-add 2 7 (bits - 7) in
    let q : 2 ^ bits ≡ 128 * 2 ^ (bits - 7) = p in
    omega (arith, i, e, small, q)

pub u32_written : IsWritten (λ v text. IsUnsigned 32 text v) u32_bytes
u32_written = record { shortest = λ v other are s. unsigned_shortest v (unsigned_fits 32 v other are s) }

-- a number that has its last byte sooner
less_bytes : (more d v : ℕ) → v < 128 * 128 ^ more → unsigned_bytes (more + d) v ≡ unsigned_bytes more v
less_bytes zero d v lt = let s : v < 128 = omega arith in unsigned_bytes_last (0 + d) v s ∙ sym (unsigned_bytes_last 0 v s)
less_bytes (suc more) d v lt = elim (cases_lt v 128) [
  | inl small ↦ unsigned_bytes_last (suc more + d) v small ∙ sym (unsigned_bytes_last (suc more) v small)
  | inr large ↦
      let p : 128 ^ suc more ≡ 128 * 128 ^ more = rw pow-suc (omega arith) in
      let bound : v < 128 * (128 * 128 ^ more) = rw (← p) lt in
      let k : suc more + d ≡ suc (more + d) = omega arith in
      ap (λ (n : ℕ). unsigned_bytes n v) k ∙ unsigned_bytes_more (more + d) v large ∙ ap (λ (l : List ℕ). (128 + v % 128) ∷ l) (less_bytes more d (v / 128) (omega arith)) ∙ sym (unsigned_bytes_more more v large)
]

-- a size below 2^32 is written as a number
pub size_is_number : (n : ℕ) → n < 2 ^ 32 → size_bytes n ≡ u32_bytes n
size_is_number n lt = less_bytes 4 5 n (omega arith)

pub size_written : IsWritten (λ v text. IsUnsigned 32 text v) size_bytes
size_written = same_written _ u32_bytes size_bytes u32_written (λ v text are s. size_is_number v (unsigned_fits 32 v text are s))

last_fits : (bits b : ℕ) (v : ℤ) → IsSignedLast bits b v → IsWithin (2 ^ (bits - 1)) v
last_fits bits b v (inl p) = let e : v ≡ pos b = p.2 in let h : b < 2 ^ (bits - 1) = p.1 in rw e (omega (arith, ints), omega (arith, ints))
last_fits bits b v (inr p) =
    let e : v ≡ pos b -ℤ pos 128 = p.3 in let h : 128 ≤ b + 2 ^ (bits - 1) = p.2 in let lt : b < 128 = p.1 in
    rw e (omega (arith, ints), omega (arith, ints))

more_fits : (b m n : ℕ) (high v : ℤ) → b < 256 → n ≡ 128 * m → IsWithin m high → v ≡ pos (b - 128) +ℤ pos 128 *ℤ high → IsWithin n v
more_fits b m n (pos k) v small e h is = let lt : k < m = omega (arith, ints, h.1) in rw is (omega (arith, ints), omega (arith, ints))
more_fits b m n (negsuc k) v small e h is = let lt : k < m = omega (arith, ints, h.0) in rw is (omega (arith, ints), omega (arith, ints))

pub signed_fits : (bits : ℕ) (v : ℤ) (text : List ℕ) → AreBytes text → IsSigned bits text v → IsWithin (2 ^ (bits - 1)) v
signed_fits bits v [] are s = absurd s
signed_fits bits v (b ∷ []) are s = last_fits bits b v s
signed_fits bits v (b ∷ c ∷ cs) are s =
    let t = s.2 in
    let long : 7 < bits = s.1 in
    let i = signed_fits (bits - 7) t.0 (c ∷ cs) are.1 t.1 in
    let k : bits - 1 ≡ 7 + (bits - 7 - 1) = omega arith in
    more_fits b (2 ^ (bits - 7 - 1)) (2 ^ (bits - 1)) t.0 v are.0 (ap (λ (n : ℕ). 2 ^ n) k ∙ pow-add 2 7 (bits - 7 - 1)) i t.2

word_fits : (v : ℤ) → IsWithin (2 ^ 31) v → FitsSigned w32 v
word_fits (pos n) h = let b : n < 2 ^ 31 = omega (arith, ints, h.1) in record { sfits = b }
word_fits (negsuc n) h = let b : n < 2 ^ 31 = omega (arith, ints, h.0) in record { sfits = b }

long_fits : (v : ℤ) → IsWithin (2 ^ 63) v → FitsSigned w64 v
long_fits (pos n) h = let b : n < 2 ^ 63 = omega (arith, ints, h.1) in record { sfits = b }
long_fits (negsuc n) h = let b : n < 2 ^ 63 = omega (arith, ints, h.0) in record { sfits = b }

pub s32_written : IsWritten (λ v text. IsSigned 32 text v) s32_bytes
s32_written = record { shortest = λ v other are s. word_shortest v (word_fits v (signed_fits 32 v other are s)) }

pub s64_written : IsWritten (λ v text. IsSigned 64 text v) s64_bytes
s64_written = record { shortest = λ v other are s. long_shortest v (long_fits v (signed_fits 64 v other are s)) }

pub bounded_written : {A : Type 0} (within : A → Bool) (m : Format A) (w : A → List ℕ) → IsWritten m.spells w → IsWritten (bounded within m).spells w
bounded_written within m w h = with_written m.spells (λ x. within x ≡ true) w h

pub agreed_written : (declared : Option ℕ) → IsWritten (agreed_u32 declared).spells size_bytes
agreed_written declared = with_written (λ n text. IsUnsigned 32 text n) (λ n. agrees declared n ≡ true) size_bytes size_written

-- ---- bytes

pub bytes_written : (accept : List ℕ → Bool) (n : ℕ) → IsWritten (AreBytesOf accept n) (λ xs. xs)
bytes_written accept n = only_written (AreBytesOf accept n) (λ xs. xs) (λ xs text s. sym s.0)

pub text_written : (accept : List ℕ → Bool) → IsWritten (Follows (λ n text. IsUnsigned 32 text n) (λ n. AreBytesOf accept n)) sized_bytes
text_written accept =
    follows_written (λ n text. IsUnsigned 32 text n) (λ n. AreBytesOf accept n) size_bytes (λ n xs. xs) sized_bytes size_written (bytes_written accept)
    (λ n xs front back s t. ap (λ (k : ℕ). size_bytes k ++ xs) t.1)

-- ---- vectors

pub counted_written : {A : Type 0} (count : Format ℕ) (m : Format A) (w : A → List ℕ) → IsWritten count.spells size_bytes → IsWritten m.spells w → IsWritten (Follows count.spells (λ n. (repeated n m).spells)) (vector_bytes w)
counted_written count m w a b =
    follows_written count.spells (λ n. (repeated n m).spells) size_bytes (λ n. flat_map w) (vector_bytes w) a (λ n. repeated_written n m w b)
    (λ n xs front back s t. ap (λ (k : ℕ). size_bytes k ++ flat_map w xs) (repeated_length n m xs back t))

pub vector_written : {A : Type 0} (m : Format A) (w : A → List ℕ) → IsWritten m.spells w → IsWritten (vector m).spells (vector_bytes w)
vector_written m w b = counted_written (bounded (at_most 65536) u32) m w (bounded_written (at_most 65536) u32 size_bytes size_written) b

-- ---- sized content

-- a smaller number takes no more bytes
pub monotone : (more a b : ℕ) → a ≤ b → length (unsigned_bytes more a) ≤ length (unsigned_bytes more b)
unfolding unsigned_bytes
monotone zero a b le = omega arith
monotone (suc more) a b le = elim (cases_lt b 128) [
  | inl small ↦ rw (unsigned_bytes_last (suc more) b small, unsigned_bytes_last (suc more) a (omega arith)) (omega arith)
  | inr large ↦ elim (cases_lt a 128) [
    | inl low ↦ rw (unsigned_bytes_more more b large, unsigned_bytes_last (suc more) a low) (omega arith)
    | inr high ↦ let i = monotone more (a / 128) (b / 128) (omega arith) in rw (unsigned_bytes_more more b large, unsigned_bytes_more more a high) (omega arith)
  ]
]

pub sized_written : {A : Type 0} (spells : A → List ℕ → Type 0) (w : A → List ℕ) → IsWritten spells w → IsWritten (IsSized spells) (λ x. sized_bytes (w x))
sized_written spells w h = record {
  shortest = λ x other are s.
      let b = back_bytes other s.front s.back s.parts are in
      let p = h.shortest x s.back b s.filled in
      let le : length (w x) ≤ length s.back = p.least s.back b s.filled in
      let fits : length s.back < 2 ^ 32 = unsigned_fits 32 (length s.back) s.front (front_bytes other s.front s.back s.parts are) s.size in
      let lt : length (w x) < 2 ^ 32 = omega arith in
      let q = unsigned_shortest (length (w x)) lt in
      let e : size_bytes (length (w x)) ≡ u32_bytes (length (w x)) = size_is_number (length (w x)) lt in
      record {
        bytes = bytes_join (size_bytes (length (w x))) (w x) (subst AreBytes (sym e) q.bytes) p.bytes;
        spelled = record { front = size_bytes (length (w x)); back = w x; parts = refl; size = subst (λ (l : List ℕ). IsUnsigned 32 l (length (w x))) (sym e) q.spelled; filled = p.spelled };
        least = λ more d t.
            let c = back_bytes more t.front t.back t.parts d in
            let f = front_bytes more t.front t.back t.parts d in
            let m = p.least t.back c t.filled in
            let fits2 : length t.back < 2 ^ 32 = unsigned_fits 32 (length t.back) t.front f t.size in
            let n = (unsigned_shortest (length t.back) fits2).least t.front f t.size in
            let o = monotone 4 (length (w x)) (length t.back) m in
            omega (arith, m, n, o, ap length e, length-append (size_bytes (length (w x))) (w x), ap length t.parts, length-append t.front t.back);
      };
}
