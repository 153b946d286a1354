-- Rotations as sums, the odd part of a number, and shifts that round down.
use Rattle.std.proofs.Common.{◌≡◌, refl, sym, ap, ap₂, subst, ◌∙◌, ℕ, zero, suc, ◌+◌, ◌-◌, ◌*◌, ◌/◌, ◌%◌, ◌^◌, ◌<◌, ℤ, pos, negsuc, bit_or, to_z, SFits, arith, add-zero, add_comm, mul-one, div-one, pow-suc, mod-eq_of_lt, mod-lt, div-add-mod', mul_assoc}
use Rattle.std.proofs.lemmas.Nat.{or_shifted, or_comm, mod-pow-add, shl-shr, shr_below}
use Rattle.std.proofs.Math.Nat.{mul-mod_left, mod_self, div-eq_of_lt}
use Rattle.std.proofs.Math.Facts.{to_z-of_z, sfits_to_z}
use Rattle.std.specs.Int.{w32, w64, int_div_euclid}
use Rattle.std.specs.Int.Bits.{or_self}
use Rattle.std.specs.Int.Signed.{mag_shr, shr_z}
use lib.Count.{under, count_trailing_zeros}
use Rattle.wasm_syntax.specs.declared.types.ValueType.{ValueType}
use Rattle.wasm_syntax.specs.declared.types.ValueType.TheVariants.{I32, I64}
use Rattle.wasm_syntax.specs.Operators.{size, signed, count, ictz, ishr_s, irotl, irotr}

-- ---- rotations: what leaves above by k places, and what comes in below

by_places : (m k n : ℕ) → n < 2 ^ (m + k) → bit_or ((n * 2 ^ k) % 2 ^ (m + k)) (n / 2 ^ m) ≡ (n * 2 ^ k) % 2 ^ (m + k) + n / 2 ^ m
by_places m k n h =
    let e : (n * 2 ^ k) % 2 ^ (m + k) ≡ (n % 2 ^ m) * 2 ^ k =
    mod-pow-add (n * 2 ^ k) m k ∙ ap₂ (λ (x y : ℕ). (x % 2 ^ m) * 2 ^ k + y) (shl-shr n k) (mul-mod_left n (2 ^ k)) ∙ add-zero _ in
    let below : n / 2 ^ m < 2 ^ k = shr_below n k m (subst (λ (x : ℕ). n < 2 ^ x) (add_comm m k) h) in
    ap (λ (x : ℕ). bit_or x (n / 2 ^ m)) e ∙ or_shifted (n % 2 ^ m) k (n / 2 ^ m) below ∙ sym (ap (λ (x : ℕ). x + n / 2 ^ m) e)

in_size : (N m k n : ℕ) → m + k ≡ N → n < 2 ^ N → bit_or ((n * 2 ^ k) % 2 ^ N) (n / 2 ^ m) ≡ (n * 2 ^ k) % 2 ^ N + n / 2 ^ m
in_size N m k n e = subst (λ (x : ℕ). n < 2 ^ x → bit_or ((n * 2 ^ k) % 2 ^ x) (n / 2 ^ m) ≡ (n * 2 ^ k) % 2 ^ x + n / 2 ^ m) e (by_places m k n)

-- the count that std takes
same_count : (N k : ℕ) → k < N → k % N ≡ k
same_count N k l = mod-eq_of_lt l

rest_of_count : (N k : ℕ) → k < N → 0 < k → (N - k % N) % N ≡ N - k
rest_of_count N k l some = ap (λ (x : ℕ). (N - x) % N) (mod-eq_of_lt l) ∙ mod-eq_of_lt (omega arith)

minus_none : (N : ℕ) → N - 0 ≡ N
minus_none N = omega arith

no_rest : (N : ℕ) → 0 < N → (N - zero % N) % N ≡ 0
no_rest N l =
    ap (λ (x : ℕ). (N - x) % N) (mod-eq_of_lt l) ∙ ap (λ (x : ℕ). x % N) (minus_none N) ∙ mod_self N

left_turn : (N k n : ℕ) → k < N → n < 2 ^ N → bit_or ((n * 2 ^ (k % N)) % 2 ^ N) (n / 2 ^ ((N - k % N) % N)) ≡ (n * 2 ^ k) % 2 ^ N + n / 2 ^ (N - k)
left_turn N zero n l h =
    let whole : (n * 2 ^ 0) % 2 ^ N ≡ n = ap (λ (x : ℕ). x % 2 ^ N) (mul-one n) ∙ mod-eq_of_lt h in
    ap₂ (λ (x y : ℕ). bit_or ((n * 2 ^ x) % 2 ^ N) (n / 2 ^ y)) (same_count N zero l) (no_rest N l)
    ∙ ap₂ (λ (x y : ℕ). bit_or x y) whole (div-one n) ∙ or_self n
    ∙ sym (ap₂ (λ (x y : ℕ). x + y) whole (div-eq_of_lt h) ∙ add-zero n)
    ∙ ap (λ (x : ℕ). (n * 2 ^ 0) % 2 ^ N + n / 2 ^ x) (sym (minus_none N))
left_turn N (suc k) n l h =
    ap₂ (λ (x y : ℕ). bit_or ((n * 2 ^ x) % 2 ^ N) (n / 2 ^ y)) (same_count N (suc k) l) (rest_of_count N (suc k) l (omega arith))
    ∙ in_size N (N - suc k) (suc k) n (omega arith) h

right_turn : (N k n : ℕ) → k < N → n < 2 ^ N → bit_or (n / 2 ^ (k % N)) ((n * 2 ^ ((N - k % N) % N)) % 2 ^ N) ≡ n / 2 ^ k + (n * 2 ^ (N - k)) % 2 ^ N
right_turn N zero n l h =
    let whole : (n * 2 ^ 0) % 2 ^ N ≡ n = ap (λ (x : ℕ). x % 2 ^ N) (mul-one n) ∙ mod-eq_of_lt h in
    ap₂ (λ (x y : ℕ). bit_or (n / 2 ^ x) ((n * 2 ^ y) % 2 ^ N)) (same_count N zero l) (no_rest N l)
    ∙ ap₂ (λ (x y : ℕ). bit_or x y) (div-one n) whole ∙ or_self n
    ∙ sym (ap₂ (λ (x y : ℕ). x + y) (div-one n) (mul-mod_left n (2 ^ N)) ∙ add-zero n)
    ∙ ap (λ (x : ℕ). n / 2 ^ 0 + (n * 2 ^ x) % 2 ^ N) (sym (minus_none N))
right_turn N (suc k) n l h =
    ap₂ (λ (x y : ℕ). bit_or (n / 2 ^ x) ((n * 2 ^ y) % 2 ^ N)) (same_count N (suc k) l) (rest_of_count N (suc k) l (omega arith))
    ∙ or_comm (n / 2 ^ suc k) ((n * 2 ^ (N - suc k)) % 2 ^ N)
    ∙ in_size N (suc k) (N - suc k) n (omega arith) h
    ∙ add_comm ((n * 2 ^ (N - suc k)) % 2 ^ N) (n / 2 ^ suc k)

pub left : (t : ValueType) (i j : ℕ) → i < 2 ^ size t → irotl t i j ≡ (i * 2 ^ count t j) % 2 ^ size t + i / 2 ^ (size t - count t j)
left I32 i j h = left_turn 32 (j % 32) i (mod-lt j (omega arith)) h
left I64 i j h = left_turn 64 (j % 64) i (mod-lt j (omega arith)) h

pub right : (t : ValueType) (i j : ℕ) → i < 2 ^ size t → irotr t i j ≡ i / 2 ^ count t j + (i * 2 ^ (size t - count t j)) % 2 ^ size t
right I32 i j h = right_turn 32 (j % 32) i (mod-lt j (omega arith)) h
right I64 i j h = right_turn 64 (j % 64) i (mod-lt j (omega arith)) h

-- ---- a signed shift to the right rounds down

floor : (z : ℤ) (m : ℕ) → shr_z z m ≡ int_div_euclid z (pos m)
floor (pos a) m = refl
floor (negsuc a) m = refl

pub rounds_down : (t : ValueType) (i j : ℕ) → i < 2 ^ size t → signed t (ishr_s t i j) ≡ int_div_euclid (signed t i) (pos (2 ^ count t j))
rounds_down I32 i j h =
    let f : SFits w32 (to_z w32 i) = sfits_to_z (record { fits = h }) in
    to_z-of_z {w = w32} (record { sfits = omega (arith, mag_shr (to_z w32 i) (2 ^ (j % 32)), f.sfits) }) ∙ floor (to_z w32 i) (2 ^ (j % 32))
rounds_down I64 i j h =
    let f : SFits w64 (to_z w64 i) = sfits_to_z (record { fits = h }) in
    to_z-of_z {w = w64} (record { sfits = omega (arith, mag_shr (to_z w64 i) (2 ^ (j % 64)), f.sfits) }) ∙ floor (to_z w64 i) (2 ^ (j % 64))

-- ---- trailing zeros

odd_step : (i d t m : ℕ) → i % 2 ≡ d → (d ≡ 0 → i / 2 ≡ (2 * m + 1) * 2 ^ t) → (o : ℕ) × (i ≡ (2 * o + 1) * 2 ^ under d t)
odd_step i zero t m e half =
    let parts = div-add-mod' i 2 in
    let twice : (2 * m + 1) * 2 ^ suc t ≡ (2 * m + 1) * 2 ^ t * 2 = ap (λ (x : ℕ). (2 * m + 1) * x) (pow-suc 2 t) ∙ sym (mul_assoc (2 * m + 1) (2 ^ t) 2) in
    let h = half refl in
    (m, omega (arith, parts, e, h) ∙ ap (λ (x : ℕ). x * 2) h ∙ sym twice)
odd_step i (suc d) t m e half =
    let parts = div-add-mod' i 2 in
    let few : i % 2 < 2 = mod-lt i (omega arith) in
    (i / 2, omega (arith, parts, few, e) ∙ sym (mul-one (2 * (i / 2) + 1)))

half_some : (i : ℕ) → 0 < i → i % 2 ≡ 0 → 0 < i / 2
half_some i some e = let parts = div-add-mod' i 2 in omega (arith, parts, e)

half_below : (i k : ℕ) → i < 2 ^ suc k → i / 2 < 2 ^ k
half_below i k h = let parts = div-add-mod' i 2 in let p = pow-suc 2 k in omega (arith, parts, p)

-- with what the half is, where it is not 0
odd_from_half : (i t : ℕ) → 0 < i → (0 < i / 2 → (m : ℕ) × (i / 2 ≡ (2 * m + 1) * 2 ^ t)) → (d : ℕ) → i % 2 ≡ d → (o : ℕ) × (i ≡ (2 * o + 1) * 2 ^ under d t)
odd_from_half i t some half zero e = let h = half (half_some i some e) in odd_step i zero t h.0 e (λ z. h.1)
odd_from_half i t some half (suc d) e = odd_step i (suc d) t 0 e (λ z. absurd (omega (arith, z)))

odd_part : (k i : ℕ) → 0 < i → i < 2 ^ k → (o : ℕ) × (i ≡ (2 * o + 1) * 2 ^ count_trailing_zeros k i)
unfolding lib.Count.count_trailing_zeros
odd_part zero i some h = absurd (omega (arith, some, h))
odd_part (suc k) i some h = odd_from_half i (count_trailing_zeros k (i / 2)) some (λ s. odd_part k (i / 2) s (half_below i k h)) (i % 2) refl

pub lowest : (t : ValueType) (i : ℕ) → 0 < i → i < 2 ^ size t → (o : ℕ) × (i ≡ (2 * o + 1) * 2 ^ ictz t i)
lowest I32 i some h = odd_part 32 i some h
lowest I64 i some h = odd_part 64 i some h

pub no_lowest : (t : ValueType) → ictz t 0 ≡ size t
unfolding lib.Count.count_trailing_zeros
no_lowest I32 = refl
no_lowest I64 = refl
