-- The bytes that are written spell the number, and none are fewer.
use Rattle.std.proofs.Common.{◌≡◌, ℕ, ℤ, pos, negsuc, zero, suc, true, false, ◌+◌, ◌-◌, ◌*◌, ◌/◌, ◌%◌, ◌^◌, ◌<◌, ◌≤◌, ◌+ℤ◌, ◌-ℤ◌, ◌*ℤ◌, ◌++◌, Result, Ok, Err, List, [], ◌∷◌, length, ◌⊎◌, inl, inr, refl, sym, ap, subst, ◌∙◌, arith}
use Rattle.std.specs.Prelude.{OnOk, FitsSigned}
use Rattle.std.specs.Int.{w32, w64}
use Rattle.std.proofs.lemmas.Bool.{ltb-true, lt-ltb, cases_lt}
use Rattle.std.proofs.Math.Pow.{pow_mono}
use Rattle.std.proofs.Math.Nat.{pow-suc}
use Rattle.std.proofs.lemmas.Int.{ints}
use Rattle.wasm_syntax.specs.Numbers.{AreBytes, IsUnsigned, IsSigned, IsSignedLast, IsShortest, IsWithin, Appends, unsigned_bytes, signed_bytes, low_bits, high_part, is_small}
use Rattle.wasm_syntax.proofs.NumberLaws.{wide, wide_signed, narrow}
use Rattle.wasm_syntax.proofs.Written.{unsigned_bytes_more, unsigned_bytes_last, signed_bytes_more, signed_bytes_last, signed_bytes_zero, high_within}

-- ---- unsigned

one_more : (bits b m v : ℕ) (text : List ℕ) → 128 ≤ b → 7 < bits → v ≡ (b - 128) + 128 * m → IsUnsigned (bits - 7) text m → IsUnsigned bits (b ∷ text) v
one_more bits b m v [] le lt is s = absurd s
one_more bits b m v (c ∷ cs) le lt is s = (le, lt, (m, s, is))

wide_top : (top : ℕ) → top ≤ 7 → 2 ^ top ≤ 128
wide_top top low = let h : 2 ^ top ≤ 2 ^ 7 = pow_mono low in omega arith

power_suc : (more : ℕ) → 128 ^ suc more ≡ 128 * 128 ^ more
power_suc more = rw pow-suc (omega arith)

-- top is how many bits the last byte may have
pub unsigned_spelled : (top more bits v : ℕ) → 0 < top → top ≤ 7 → bits ≡ top + 7 * more → v < 2 ^ top * 128 ^ more → IsUnsigned bits (unsigned_bytes more v) v
unfolding unsigned_bytes
unsigned_spelled top zero bits v some low size lt =
    let t : bits ≡ top = omega arith in
    let small : v < 2 ^ top = omega arith in
    let le : 2 ^ top ≤ 128 = wide_top top low in
    (omega arith, rw t small, refl)
unsigned_spelled top (suc more) bits v some low size lt = elim (cases_lt v 128) [
  | inl small ↦ rw (unsigned_bytes_last (suc more) v small) (small, omega (arith, wide bits (omega arith)), refl)
  | inr large ↦
      let p : 128 ^ suc more ≡ 128 * 128 ^ more = power_suc more in
      let bound : v < 2 ^ top * (128 * 128 ^ more) = rw (← p) lt in
      rw (unsigned_bytes_more more v large) (one_more bits (128 + v % 128) (v / 128) v (unsigned_bytes more (v / 128)) (omega arith) (omega arith) (omega arith)
      (unsigned_spelled top more (bits - 7) (v / 128) some low (omega arith) (omega arith)))
]

pub unsigned_least : (bits more v : ℕ) (other : List ℕ) → AreBytes other → IsUnsigned bits other v → length (unsigned_bytes more v) ≤ length other
unfolding unsigned_bytes
unsigned_least bits more v [] bytes s = absurd s
unsigned_least bits more v (b ∷ []) bytes s = rw (unsigned_bytes_last more v (let e : v ≡ b = s.2 in omega (arith, s.0))) (omega arith)
unsigned_least bits zero v (b ∷ c ∷ cs) bytes s = omega arith
unsigned_least bits (suc more) v (b ∷ c ∷ cs) bytes s = elim (cases_lt v 128) [
  | inl small ↦ rw (unsigned_bytes_last (suc more) v small) (omega arith)
  | inr large ↦
      let h = s.2 in
      let m : v / 128 ≡ h.0 = omega (arith, h.2, s.0, bytes.0) in
      let i = unsigned_least (bits - 7) more h.0 (c ∷ cs) bytes.1 h.1 in
      rw (unsigned_bytes_more more v large, m) (omega arith)
]

pub unsigned_are_bytes : (top more v : ℕ) → top ≤ 7 → v < 2 ^ top * 128 ^ more → AreBytes (unsigned_bytes more v)
unfolding unsigned_bytes
unsigned_are_bytes top zero v low lt = let le : 2 ^ top ≤ 128 = wide_top top low in (omega arith, tt)
unsigned_are_bytes top (suc more) v low lt = elim (cases_lt v 128) [
  | inl small ↦ rw (unsigned_bytes_last (suc more) v small) (omega arith, tt)
  | inr large ↦
      let p : 128 ^ suc more ≡ 128 * 128 ^ more = power_suc more in
      let bound : v < 2 ^ top * (128 * 128 ^ more) = rw (← p) lt in
      rw (unsigned_bytes_more more v large) (omega arith, unsigned_are_bytes top more (v / 128) low (omega arith))
]

pub unsigned_shortest : (v : ℕ) → v < 2 ^ 32 → IsShortest (λ text. IsUnsigned 32 text v) (unsigned_bytes 4 v)
unsigned_shortest v lt = record {
  bytes = unsigned_are_bytes 4 4 v (omega arith) (omega arith);
  spelled = unsigned_spelled 4 4 32 v (omega arith) (omega arith) refl (omega arith);
  least = λ other bytes s. unsigned_least 32 4 v other bytes s;
}

-- ---- signed

small_is : (v : ℤ) → IsWithin 64 v → is_small v ≡ true
small_is (pos n) h = let b : n < 64 = omega (arith, ints, h.1) in lt-ltb n 64 b
small_is (negsuc n) h = let b : n < 64 = omega (arith, ints, h.0) in lt-ltb n 64 b

is_within : (v : ℤ) → is_small v ≡ true → IsWithin 64 v
is_within (pos n) s = let b : n < 64 = ltb-true n 64 s in (omega (arith, ints), omega (arith, ints))
is_within (negsuc n) s = let b : n < 64 = ltb-true n 64 s in (omega (arith, ints), omega (arith, ints))

wider : (m n : ℕ) (v : ℤ) → m ≤ n → IsWithin m v → IsWithin n v
wider m n v le h = (omega (arith, ints, h.0), omega (arith, ints, h.1))

small_cases : (v : ℤ) → (is_small v ≡ true) ⊎ (is_small v ≡ false)
small_cases v = elim (is_small v) as (λ b. (b ≡ true) ⊎ (b ≡ false)) [ true ↦ inl refl | false ↦ inr refl ]

one_more_signed : (bits b : ℕ) (m v : ℤ) (text : List ℕ) → 128 ≤ b → 7 < bits → v ≡ pos (b - 128) +ℤ pos 128 *ℤ m → IsSigned (bits - 7) text m → IsSigned bits (b ∷ text) v
one_more_signed bits b m v [] le lt is s = absurd s
one_more_signed bits b m v (c ∷ cs) le lt is s = (le, lt, (m, s, is))

minus_above : (a b : ℕ) → a < b → pos a -ℤ pos b ≡ negsuc (b - suc a)
minus_above a b lt = omega (arith, ints)

negative_is : (n : ℕ) → n < 128 → negsuc n ≡ pos (127 - n) -ℤ pos 128
negative_is n lt = let e : 128 - suc (127 - n) ≡ n = omega arith in ap negsuc (sym e) ∙ sym (minus_above (127 - n) 128 (omega arith))

last_spelled : (bits : ℕ) (v : ℤ) → IsWithin 64 v → IsWithin (2 ^ (bits - 1)) v → IsSignedLast bits (low_bits v) v
last_spelled bits (pos n) h g =
    let b : n < 64 = omega (arith, ints, h.1) in
    let c : n < 2 ^ (bits - 1) = omega (arith, ints, g.1) in
    let e : n % 128 ≡ n = omega arith in
    inl (rw e b, rw e c, ap pos (sym e))
last_spelled bits (negsuc n) h g =
    let b : n < 64 = omega (arith, ints, h.0) in
    let c : n < 2 ^ (bits - 1) = omega (arith, ints, g.0) in
    let e : n % 128 ≡ n = omega arith in
    rw e (inr (omega arith, omega arith, omega arith, negative_is n (omega arith)))

parts_of : (v : ℤ) → v ≡ pos (128 + low_bits v - 128) +ℤ pos 128 *ℤ high_part v
parts_of (pos n) = omega (arith, ints)
parts_of (negsuc n) = omega (arith, ints)

low_below : (v : ℤ) → low_bits v < 128
low_below (pos n) = omega arith
low_below (negsuc n) = omega arith

times_negative : (low k : ℕ) → low < 128 → pos low +ℤ pos 128 *ℤ negsuc k ≡ negsuc (128 * k + (127 - low))
times_negative low k lt = omega (arith, ints)

high_is : (low : ℕ) (m : ℤ) → low < 128 → high_part (pos low +ℤ pos 128 *ℤ m) ≡ m
high_is low (pos k) lt = ap pos (omega arith)
high_is low (negsuc k) lt =
    let e : pos low +ℤ pos 128 *ℤ negsuc k ≡ negsuc (128 * k + (127 - low)) = times_negative low k lt in
    ap high_part e ∙ ap negsuc (omega arith)

-- top is how many bits the last byte may have, its sign among them
pub signed_spelled : (top more bits : ℕ) (v : ℤ) → 0 < top → top ≤ 7 → bits ≡ top + 7 * more → IsWithin (2 ^ (top - 1) * 128 ^ more) v → IsSigned bits (signed_bytes more v) v
signed_spelled top zero bits v some low size h =
    let t : bits - 1 ≡ top - 1 = omega arith in
    let one : 2 ^ (top - 1) * 128 ^ 0 ≡ 2 ^ (top - 1) = omega arith in
    let g : IsWithin (2 ^ (top - 1)) v = subst (λ (n : ℕ). IsWithin n v) one h in
    let s : IsWithin 64 v = wider (2 ^ (top - 1)) 64 v (narrow top low) g in
    rw (signed_bytes_last 0 v (small_is v s)) (last_spelled bits v s (rw t g))
signed_spelled top (suc more) bits v some low size h = elim (small_cases v) [
  | inl small ↦
      let s : IsWithin 64 v = is_within v small in
      rw (signed_bytes_last (suc more) v small) (last_spelled bits v s (wider 64 (2 ^ (bits - 1)) v (wide_signed bits (omega arith)) s))
  | inr large ↦
      let p : 2 ^ (top - 1) * 128 ^ suc more ≡ 128 * (2 ^ (top - 1) * 128 ^ more) = rw (power_suc more) (omega arith) in
      let g : IsWithin (128 * (2 ^ (top - 1) * 128 ^ more)) v = subst (λ (n : ℕ). IsWithin n v) p h in
      rw (signed_bytes_more more v large) (one_more_signed bits (128 + low_bits v) (high_part v) v (signed_bytes more (high_part v)) (omega arith) (omega arith) (parts_of v)
      (signed_spelled top more (bits - 7) (high_part v) some low (omega arith) (high_within (2 ^ (top - 1) * 128 ^ more) v g)))
]

last_is_small : (bits b : ℕ) (v : ℤ) → IsSignedLast bits b v → is_small v ≡ true
last_is_small bits b v (inl p) = small_is v (let a : b < 64 = p.0 in let e : v ≡ pos b = p.2 in (omega (arith, ints), omega (arith, ints)))
last_is_small bits b v (inr p) = small_is v (let a : b < 128 = p.1 in let l : 64 ≤ b = p.0 in let e : v ≡ pos b -ℤ pos 128 = p.3 in (omega (arith, ints), omega (arith, ints)))

pub signed_least : (bits more : ℕ) (v : ℤ) (other : List ℕ) → AreBytes other → IsSigned bits other v → length (signed_bytes more v) ≤ length other
signed_least bits more v [] bytes s = absurd s
signed_least bits more v (b ∷ []) bytes s = rw (signed_bytes_last more v (last_is_small bits b v s)) (omega arith)
signed_least bits zero v (b ∷ c ∷ cs) bytes s = rw (signed_bytes_zero v) (omega arith)
signed_least bits (suc more) v (b ∷ c ∷ cs) bytes s = elim (small_cases v) [
  | inl small ↦ rw (signed_bytes_last (suc more) v small) (omega arith)
  | inr large ↦
      let h = s.2 in
      let m : high_part v ≡ h.0 = ap high_part h.2 ∙ high_is (b - 128) h.0 (omega (arith, bytes.0)) in
      let i = signed_least (bits - 7) more h.0 (c ∷ cs) bytes.1 h.1 in
      rw (signed_bytes_more more v large, m) (omega arith)
]

pub signed_are_bytes : (more : ℕ) (v : ℤ) → AreBytes (signed_bytes more v)
signed_are_bytes zero v = rw (signed_bytes_zero v) (omega (arith, low_below v), tt)
signed_are_bytes (suc more) v = elim (small_cases v) [
  | inl small ↦ rw (signed_bytes_last (suc more) v small) (omega (arith, low_below v), tt)
  | inr large ↦ rw (signed_bytes_more more v large) (omega (arith, low_below v), signed_are_bytes more (high_part v))
]

pub signed_shortest : (top more bits : ℕ) (v : ℤ) → 0 < top → top ≤ 7 → bits ≡ top + 7 * more → IsWithin (2 ^ (top - 1) * 128 ^ more) v → IsShortest (λ text. IsSigned bits text v) (signed_bytes more v)
signed_shortest top more bits v some low size h = record {
  bytes = signed_are_bytes more v;
  spelled = signed_spelled top more bits v some low size h;
  least = λ other bytes s. signed_least bits more v other bytes s;
}

-- a number that has its last byte sooner
pub signed_bytes_of_less : (more d : ℕ) (v : ℤ) → IsWithin (64 * 128 ^ more) v → signed_bytes (more + d) v ≡ signed_bytes more v
signed_bytes_of_less zero d v h =
    let one : 64 * 128 ^ 0 ≡ 64 = omega arith in
    let s : is_small v ≡ true = small_is v (subst (λ (n : ℕ). IsWithin n v) one h) in
    signed_bytes_last (0 + d) v s ∙ sym (signed_bytes_last 0 v s)
signed_bytes_of_less (suc more) d v h = elim (small_cases v) [
  | inl small ↦ signed_bytes_last (suc more + d) v small ∙ sym (signed_bytes_last (suc more) v small)
  | inr large ↦
      let p : 64 * 128 ^ suc more ≡ 128 * (64 * 128 ^ more) = rw (power_suc more) (omega arith) in
      let g : IsWithin (128 * (64 * 128 ^ more)) v = subst (λ (n : ℕ). IsWithin n v) p h in
      let k : suc more + d ≡ suc (more + d) = omega arith in
      ap (λ (n : ℕ). signed_bytes n v) k ∙ signed_bytes_more (more + d) v large ∙ ap (λ (l : List ℕ). (128 + low_bits v) ∷ l) (signed_bytes_of_less more d (high_part v) (high_within (64 * 128 ^ more) v g)) ∙ sym (signed_bytes_more more v large)
]

-- ---- what a call that puts the bytes at the end leaves

pub appended : {T E : Type 0} (r : Result T E) (spells : List ℕ → Type 0) (old new piece text : List ℕ) → OnOk r (new ≡ old ++ piece) → piece ≡ text → spells text → OnOk r (Appends spells old new)
appended (Ok x) spells old new piece text h is s = (text, s, h ∙ ap (λ (l : List ℕ). old ++ l) is)
appended (Err e) spells old new piece text h is s = h

pub appended_exact : {T E : Type 0} (r : Result T E) (old new piece text : List ℕ) → OnOk r (new ≡ old ++ piece) → piece ≡ text → OnOk r (new ≡ old ++ text)
appended_exact (Ok x) old new piece text h is = h ∙ ap (λ (l : List ℕ). old ++ l) is
appended_exact (Err e) old new piece text h is = h

-- a number of 32 bits, written as one of 64
pub word_as_long : (v w : ℤ) → w ≡ v → FitsSigned w32 v → signed_bytes 9 w ≡ signed_bytes 4 v
word_as_long v w is fits = ap (signed_bytes 9) is ∙ signed_bytes_of_less 4 5 v (omega (arith, ints), omega (arith, ints))

pub word_shortest : (v : ℤ) → FitsSigned w32 v → IsShortest (λ text. IsSigned 32 text v) (signed_bytes 4 v)
word_shortest v fits = signed_shortest 4 4 32 v (omega arith) (omega arith) refl (omega (arith, ints), omega (arith, ints))

pub long_shortest : (v : ℤ) → FitsSigned w64 v → IsShortest (λ text. IsSigned 64 text v) (signed_bytes 9 v)
long_shortest v fits = signed_shortest 1 9 64 v (omega arith) (omega arith) refl (omega (arith, ints), omega (arith, ints))
