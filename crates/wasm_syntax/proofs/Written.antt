-- The bytes that a loop has written so far, and those that are still to come.
use Rattle.std.proofs.Common.{◌≡◌, ℕ, ℤ, pos, negsuc, zero, suc, true, false, ◌+◌, ◌-◌, ◌*◌, ◌/◌, ◌%◌, ◌^◌, ◌<◌, ◌≤◌, ◌++◌, List, [], ◌∷◌, length, take, set, refl, sym, ap, subst, inl, inr, ◌∙◌, append_assoc, add-one, arith}
use Rattle.std.proofs.Math.Seq.{take-suc-set}
use Rattle.std.proofs.Math.ListN.{length-set}
use Rattle.std.proofs.lemmas.Bool.{lt-ltb, le-ltb, cases_lt}
use Rattle.std.proofs.lemmas.Int.{ints}
use Rattle.wasm_syntax.specs.Numbers.{unsigned_bytes, signed_bytes, low_bits, high_part, is_small, IsWithin}
use Rattle.wasm_syntax.proofs.Steps.{power_more}

-- what is written, and then what is left of the number
pub record IsUnsignedSoFar (v rest len : ℕ) (bytes : List ℕ) : Type 0 where
  pub room : length bytes ≡ 5
  pub within : len ≤ 4
  pub small : rest < 16 * 128 ^ (4 - len)
  pub joined : take len bytes ++ unsigned_bytes (4 - len) rest ≡ unsigned_bytes 4 v

-- one byte more
written_byte : (bytes : List ℕ) (len x : ℕ) (tail : List ℕ) → len < length bytes → take (len + 1) (set bytes len x) ++ tail ≡ take len bytes ++ (x ∷ tail)
written_byte bytes len x tail lt = rw (add-one len, take-suc-set bytes len x lt, append_assoc (take len bytes) (x ∷ []) tail) refl

pub unsigned_bytes_more : (more v : ℕ) → 128 ≤ v → unsigned_bytes (suc more) v ≡ (128 + v % 128) ∷ unsigned_bytes more (v / 128)
unfolding unsigned_bytes
unsigned_bytes_more more v le = rw (le-ltb v 128 le) refl

pub unsigned_bytes_last : (more v : ℕ) → v < 128 → unsigned_bytes more v ≡ v ∷ []
unfolding unsigned_bytes
unsigned_bytes_last zero v lt = refl
unsigned_bytes_last (suc more) v lt = rw (lt-ltb v 128 lt) refl

room_left : (len rest : ℕ) → len ≤ 4 → rest < 16 * 128 ^ (4 - len) → 128 ≤ rest → len < 4
room_left len rest le small large = elim (cases_lt len 4) [
  | inl lt ↦ lt
  | inr ge ↦ absurd (let e : 4 - len ≡ 0 = omega arith in let h : rest < 16 * 128 ^ 0 = subst (λ (n : ℕ). rest < 16 * 128 ^ n) e small in omega arith)
]

pub unsigned_goes_on : (v rest len : ℕ) (bytes : List ℕ) → IsUnsignedSoFar v rest len bytes → 128 ≤ rest
    → IsUnsignedSoFar v (rest / 128) (len + 1) (set bytes len (128 + rest % 128))
unsigned_goes_on v rest len bytes h le =
    let lt : len < 4 = room_left len rest h.within h.small le in
    let k : 4 - len ≡ suc (4 - (len + 1)) = omega arith in
    let p : 128 ^ (4 - len) ≡ 128 * 128 ^ (4 - len - 1) = power_more (4 - len) (omega arith) in
    let q : 4 - len - 1 ≡ 4 - (len + 1) = omega arith in
    let small : rest < 16 * (128 * 128 ^ (4 - (len + 1))) = rw (← q, ← p) h.small in
    record {
      room = rw length-set h.room;
      within = omega arith;
      small = omega arith;
      joined = written_byte bytes len (128 + rest % 128) (unsigned_bytes (4 - (len + 1)) (rest / 128)) (omega (arith, h.room))
          ∙ ap (λ (l : List ℕ). take len bytes ++ l) (sym (unsigned_bytes_more (4 - (len + 1)) rest le) ∙ ap (λ (n : ℕ). unsigned_bytes n rest) (sym k))
          ∙ h.joined;
    }

pub unsigned_is_written : (v rest len : ℕ) (bytes : List ℕ) → IsUnsignedSoFar v rest len bytes → rest < 128 → take (len + 1) (set bytes len rest) ≡ unsigned_bytes 4 v
unsigned_is_written v rest len bytes h lt =
    rw (add-one len, take-suc-set bytes len rest (omega (arith, h.room, h.within))) (ap (λ (l : List ℕ). take len bytes ++ l) (sym (unsigned_bytes_last (4 - len) rest lt)) ∙ h.joined)

-- the beginning
pub unsigned_starts : (v : ℕ) (bytes : List ℕ) → length bytes ≡ 5 → v < 2 ^ 32 → IsUnsignedSoFar v v 0 bytes
unsigned_starts v bytes room lt = record { room = room; within = omega arith; small = omega arith; joined = refl }

-- ---- signed numbers

pub record IsSignedSoFar (v rest : ℤ) (len : ℕ) (bytes : List ℕ) : Type 0 where
  pub room : length bytes ≡ 10
  pub within : len ≤ 9
  pub small : IsWithin (128 ^ (9 - len)) rest
  pub joined : take len bytes ++ signed_bytes (9 - len) rest ≡ signed_bytes 9 v

pub signed_bytes_more : (more : ℕ) (v : ℤ) → is_small v ≡ false → signed_bytes (suc more) v ≡ (128 + low_bits v) ∷ signed_bytes more (high_part v)
unfolding signed_bytes
signed_bytes_more more v large = rw large refl

pub signed_bytes_zero : (v : ℤ) → signed_bytes 0 v ≡ low_bits v ∷ []
unfolding signed_bytes
signed_bytes_zero v = refl

pub signed_bytes_last : (more : ℕ) (v : ℤ) → is_small v ≡ true → signed_bytes more v ≡ low_bits v ∷ []
unfolding signed_bytes
signed_bytes_last zero v s = refl
signed_bytes_last (suc more) v s = rw s refl

-- ±1 is small
small_one : (v : ℤ) → IsWithin 1 v → is_small v ≡ true
small_one (pos n) h = let b : n < 1 = omega (arith, ints, h.1) in lt-ltb n 64 (omega arith)
small_one (negsuc n) h = let b : n < 1 = omega (arith, ints, h.0) in lt-ltb n 64 (omega arith)

signed_room : (len : ℕ) (rest : ℤ) → len ≤ 9 → IsWithin (128 ^ (9 - len)) rest → is_small rest ≡ false → len < 9
signed_room len rest le small large = elim (cases_lt len 9) [
  | inl lt ↦ lt
  | inr ge ↦ absurd (
      let e : 9 - len ≡ 0 = omega arith in
      let h : IsWithin 1 rest = subst (λ (n : ℕ). IsWithin (128 ^ n) rest) e small in
      let t : is_small rest ≡ true = small_one rest h in cc)
]

pub high_within : (m : ℕ) (v : ℤ) → IsWithin (128 * m) v → IsWithin m (high_part v)
high_within m (pos n) h = let b : n < 128 * m = omega (arith, ints, h.1) in (omega (arith, ints), omega (arith, ints))
high_within m (negsuc n) h = let b : n < 128 * m = omega (arith, ints, h.0) in (omega (arith, ints), omega (arith, ints))

pub signed_goes_on : (v rest : ℤ) (len : ℕ) (bytes : List ℕ) → IsSignedSoFar v rest len bytes → is_small rest ≡ false
    → IsSignedSoFar v (high_part rest) (len + 1) (set bytes len (128 + low_bits rest))
signed_goes_on v rest len bytes h large =
    let lt : len < 9 = signed_room len rest h.within h.small large in
    let k : 9 - len ≡ suc (9 - (len + 1)) = omega arith in
    let p : 128 ^ (9 - len) ≡ 128 * 128 ^ (9 - len - 1) = power_more (9 - len) (omega arith) in
    let q : 9 - len - 1 ≡ 9 - (len + 1) = omega arith in
    let small : IsWithin (128 * 128 ^ (9 - (len + 1))) rest = rw (← q, ← p) h.small in
    record {
      room = rw length-set h.room;
      within = omega arith;
      small = high_within (128 ^ (9 - (len + 1))) rest small;
      joined = written_byte bytes len (128 + low_bits rest) (signed_bytes (9 - (len + 1)) (high_part rest)) (omega (arith, h.room))
          ∙ ap (λ (l : List ℕ). take len bytes ++ l) (sym (signed_bytes_more (9 - (len + 1)) rest large) ∙ ap (λ (n : ℕ). signed_bytes n rest) (sym k))
          ∙ h.joined;
    }

pub signed_is_written : (v rest : ℤ) (len : ℕ) (bytes : List ℕ) → IsSignedSoFar v rest len bytes → is_small rest ≡ true → take (len + 1) (set bytes len (low_bits rest)) ≡ signed_bytes 9 v
signed_is_written v rest len bytes h s =
    rw (add-one len, take-suc-set bytes len (low_bits rest) (omega (arith, h.room, h.within))) (ap (λ (l : List ℕ). take len bytes ++ l) (sym (signed_bytes_last (9 - len) rest s)) ∙ h.joined)

pub signed_goes_on_as : (v rest next : ℤ) (len low : ℕ) (bytes : List ℕ) → IsSignedSoFar v rest len bytes → is_small rest ≡ false → next ≡ high_part rest → low ≡ low_bits rest
    → IsSignedSoFar v next (len + 1) (set bytes len (128 + low))
signed_goes_on_as v rest next len low bytes h large n l = rw (n, l) (signed_goes_on v rest len bytes h large)

pub signed_is_written_as : (v w rest : ℤ) (len low : ℕ) (bytes : List ℕ) → IsSignedSoFar v rest len bytes → is_small rest ≡ true → low ≡ low_bits rest → v ≡ w
    → take (len + 1) (set bytes len low) ≡ signed_bytes 9 w
signed_is_written_as v w rest len low bytes h s l e = rw (l, ← e) (signed_is_written v rest len bytes h s)
