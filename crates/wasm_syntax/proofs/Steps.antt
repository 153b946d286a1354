-- One byte of a number that is read at a place of a list.
use Rattle.std.proofs.Common.{◌≡◌, ℕ, ℤ, pos, zero, suc, ◌+◌, ◌-◌, ◌*◌, ◌^◌, ◌<◌, ◌≤◌, ◌+ℤ◌, ◌*ℤ◌, ◌⊎◌, ◌||◌, true, ltb, leb, List, ◌∷◌, length, get_or, drop, Result, Ok, Err, inl, inr, refl, ap, arith}
use Rattle.std.proofs.lemmas.Bool.{lt-ltb, le-ltb, lt-leb, le-leb, cases_lt}
use Rattle.std.proofs.Math.Bool.{or-true}
use Rattle.std.proofs.lemmas.Int.{ints, to_z-of_z}
use Rattle.std.specs.Int.{w64}
use mir.Val.{SFits, to_z, of_z}
use Rattle.std.proofs.lemmas.List.{length-drop, drop_all, drop_more}
use Rattle.std.proofs.Math.Nat.{one-le-pow, pow-le-pow_right, pow-suc, mul-le-mul}
use Rattle.wasm_syntax.specs.declared.leb.LebEnd.{LebEnd}
use Rattle.wasm_syntax.specs.declared.leb.LebEnd.TheVariants.{Truncated, TooLong, UnusedBits}
use Rattle.wasm_syntax.specs.Numbers.{behind, unsigned_at, signed_at, signed_last, placed, IsWithin, IsOfSize}

-- ---- places

-- what stands behind one byte
pub length_behind : (xs : List ℕ) (i : ℕ) → i < length xs → length xs - length (drop (i + 1) xs) ≡ i + 1
length_behind xs i lt = omega (arith, length-drop (i + 1) xs)

pub behind_err : {A : Type 0} (f : A → A) (len : ℕ) (e : LebEnd) (r : Result (A × List ℕ) LebEnd) → Err e ≡ placed len r → Err e ≡ placed len (behind f r)
behind_err f len e (Ok x) h = absurd cc
behind_err f len e (Err d) h = h

pub behind_ok : {A : Type 0} (f : A → A) (len : ℕ) (v : A) (place : ℕ) (r : Result (A × List ℕ) LebEnd) → Ok (v, place) ≡ placed len r → Ok (f v, place) ≡ placed len (behind f r)
behind_ok {A = A} f len v place (Ok x) h =
    let e : (v, place) ≡ (x.0, len - length x.1) = cc in
    ap (λ (p : A × ℕ). Ok (f p.0, p.1)) e
behind_ok f len v place (Err d) h = absurd cc

-- ---- unsigned numbers

pub unsigned_none : (limit more : ℕ) (xs : List ℕ) (i : ℕ) → length xs ≤ i → unsigned_at limit more (drop i xs) ≡ Err Truncated
unfolding unsigned_at
unsigned_none limit zero xs i le = rw (drop_all i xs le) refl
unsigned_none limit (suc more) xs i le = rw (drop_all i xs le) refl

pub unsigned_done : (limit more : ℕ) (b : ℕ) (bs : List ℕ) → b < 128 → (more ≡ 0 → b < limit) → unsigned_at limit more (b ∷ bs) ≡ Ok (b, bs)
unfolding unsigned_at
unsigned_done limit zero b bs lt fits = rw (lt-ltb b 128 lt, lt-ltb b limit (fits refl)) refl
unsigned_done limit (suc more) b bs lt fits = rw (lt-ltb b 128 lt) refl

pub unsigned_unused : (limit b : ℕ) (bs : List ℕ) → b < 128 → limit ≤ b → unsigned_at limit 0 (b ∷ bs) ≡ Err UnusedBits
unfolding unsigned_at
unsigned_unused limit b bs lt le = rw (lt-ltb b 128 lt, le-ltb b limit le) refl

pub unsigned_long : (limit b : ℕ) (bs : List ℕ) → 128 ≤ b → unsigned_at limit 0 (b ∷ bs) ≡ Err TooLong
unfolding unsigned_at
unsigned_long limit b bs le = rw (le-ltb b 128 le) refl

pub unsigned_more : (limit more b : ℕ) (bs : List ℕ) → 128 ≤ b → 0 < more → unsigned_at limit more (b ∷ bs) ≡ behind (λ m. (b - 128) + 128 * m) (unsigned_at limit (more - 1) bs)
unfolding unsigned_at
unsigned_more limit zero b bs le some = absurd (omega arith)
unsigned_more limit (suc more) b bs le some = let e : suc more - 1 ≡ more = omega arith in rw (le-ltb b 128 le, e) refl

-- ---- the same at a place of the input

pub unsigned_next : (limit more b : ℕ) (bs : List ℕ) → 128 ≤ b → unsigned_at limit (suc more) (b ∷ bs) ≡ behind (λ m. (b - 128) + 128 * m) (unsigned_at limit more bs)
unfolding unsigned_at
unsigned_next limit more b bs le = rw (le-ltb b 128 le) refl

pub u_none : (limit more : ℕ) (xs : List ℕ) (i : ℕ) → i ≡ length xs → Err Truncated ≡ placed {A = ℕ} (length xs) (unsigned_at limit more (drop i xs))
u_none limit more xs i e = rw (unsigned_none limit more xs i (omega arith)) refl

pub u_done : (limit more : ℕ) (xs : List ℕ) (i v : ℕ) → i < length xs → get_or xs i 0 < 128 → (more ≡ 0 → get_or xs i 0 < limit) → v ≡ get_or xs i 0
    → Ok (v, i + 1) ≡ placed (length xs) (unsigned_at limit more (drop i xs))
u_done limit more xs i v lt low fits is =
    rw (drop_more xs i 0 lt, unsigned_done limit more (get_or xs i 0) (drop (i + 1) xs) low fits, length_behind xs i lt, is) refl

pub u_unused : (limit more : ℕ) (xs : List ℕ) (i : ℕ) → i < length xs → more ≡ 0 → get_or xs i 0 < 128 → limit ≤ get_or xs i 0
    → Err UnusedBits ≡ placed {A = ℕ} (length xs) (unsigned_at limit more (drop i xs))
u_unused limit more xs i lt none low le =
    rw (drop_more xs i 0 lt, none, unsigned_unused limit (get_or xs i 0) (drop (i + 1) xs) low le) refl

pub u_long : (limit more : ℕ) (xs : List ℕ) (i : ℕ) → i < length xs → more ≡ 0 → 128 ≤ get_or xs i 0
    → Err TooLong ≡ placed {A = ℕ} (length xs) (unsigned_at limit more (drop i xs))
u_long limit more xs i lt none le =
    rw (drop_more xs i 0 lt, none, unsigned_long limit (get_or xs i 0) (drop (i + 1) xs) le) refl

pub u_more_err : (limit more : ℕ) (xs : List ℕ) (i : ℕ) (e : LebEnd) → i < length xs → 0 < more → 128 ≤ get_or xs i 0
    → Err e ≡ placed {A = ℕ} (length xs) (unsigned_at limit (more - 1) (drop (i + 1) xs)) → Err e ≡ placed {A = ℕ} (length xs) (unsigned_at limit more (drop i xs))
u_more_err limit more xs i e lt some le h =
    rw (drop_more xs i 0 lt, unsigned_more limit more (get_or xs i 0) (drop (i + 1) xs) le some) (behind_err _ (length xs) e (unsigned_at limit (more - 1) (drop (i + 1) xs)) h)

pub u_more_ok : (limit more : ℕ) (xs : List ℕ) (i high place low : ℕ) → i < length xs → 0 < more → 128 ≤ get_or xs i 0 → low ≡ get_or xs i 0 - 128
    → Ok (high, place) ≡ placed (length xs) (unsigned_at limit (more - 1) (drop (i + 1) xs)) → Ok (low + 128 * high, place) ≡ placed (length xs) (unsigned_at limit more (drop i xs))
u_more_ok limit more xs i high place low lt some le is h =
    rw (drop_more xs i 0 lt, unsigned_more limit more (get_or xs i 0) (drop (i + 1) xs) le some, is)
    (behind_ok (λ m. (get_or xs i 0 - 128) + 128 * m) (length xs) high place (unsigned_at limit (more - 1) (drop (i + 1) xs)) h)

-- ---- how large a number is

pub power_more : (more : ℕ) → 0 < more → 128 ^ more ≡ 128 * 128 ^ (more - 1)
power_more zero some = absurd (omega arith)
power_more (suc k) some = let e : suc k - 1 ≡ k = omega arith in rw e (omega arith)

pub power_is_some : (more : ℕ) → 1 ≤ 128 ^ more
power_is_some more = one-le-pow more 128 (omega arith)

pub power_at_most : (more most : ℕ) → more ≤ most → 128 ^ more ≤ 128 ^ most
power_at_most more most le = pow-le-pow_right (omega arith) le

-- a byte below 128, where more may follow or it is below the limit
pub last_fits : (limit more b : ℕ) → 1 ≤ limit → b < 128 → (more ≡ 0 → b < limit) → b < limit * 128 ^ more
last_fits limit zero b some lt fits = omega (arith, fits refl)
last_fits limit (suc k) b some lt fits = let p : 1 * 1 ≤ limit * 128 ^ k = mul-le-mul some (power_is_some k) in rw (pow-suc 128 k) (omega arith)

pub more_fits : (limit more low high : ℕ) → 0 < more → low < 128 → high < limit * 128 ^ (more - 1) → low + 128 * high < limit * 128 ^ more
more_fits limit more low high some lt h = rw (power_more more some) (omega arith)

-- ---- signed numbers

pub signed_none : (limit more : ℕ) (xs : List ℕ) (i : ℕ) → length xs ≤ i → signed_at limit more (drop i xs) ≡ Err Truncated
unfolding signed_at
signed_none limit zero xs i le = rw (drop_all i xs le) refl
signed_none limit (suc more) xs i le = rw (drop_all i xs le) refl

-- the last byte stands for a number of the size
abbrev pub Stands : ℕ → ℕ → ℕ → Type 0
Stands limit more b = more ≡ 0 → IsOfSize limit b

pub either_stands : (limit b : ℕ) → (b < limit) ⊎ (128 ≤ b + limit) → (ltb b limit || leb 128 (b + limit)) ≡ true
either_stands limit b (inl lt) = rw (lt-ltb b limit lt) refl
either_stands limit b (inr le) = rw (le-leb 128 (b + limit) le) (or-true (ltb b limit))

pub signed_done : (limit more : ℕ) (b : ℕ) (bs : List ℕ) → b < 128 → Stands limit more b → signed_at limit more (b ∷ bs) ≡ Ok (signed_last b, bs)
unfolding signed_at
signed_done limit zero b bs lt fits = rw (lt-ltb b 128 lt, either_stands limit b (fits refl)) refl
signed_done limit (suc more) b bs lt fits = rw (lt-ltb b 128 lt) refl

pub signed_unused : (limit b : ℕ) (bs : List ℕ) → b < 128 → limit ≤ b → b + limit < 128 → signed_at limit 0 (b ∷ bs) ≡ Err UnusedBits
unfolding signed_at
signed_unused limit b bs lt le above = rw (lt-ltb b 128 lt, le-ltb b limit le, lt-leb 128 (b + limit) above) refl

pub signed_long : (limit b : ℕ) (bs : List ℕ) → 128 ≤ b → signed_at limit 0 (b ∷ bs) ≡ Err TooLong
unfolding signed_at
signed_long limit b bs le = rw (le-ltb b 128 le) refl

pub signed_more : (limit more b : ℕ) (bs : List ℕ) → 128 ≤ b → 0 < more → signed_at limit more (b ∷ bs) ≡ behind (λ m. pos (b - 128) +ℤ pos 128 *ℤ m) (signed_at limit (more - 1) bs)
unfolding signed_at
signed_more limit zero b bs le some = absurd (omega arith)
signed_more limit (suc more) b bs le some = let e : suc more - 1 ≡ more = omega arith in rw (le-ltb b 128 le, e) refl

pub signed_next : (limit more b : ℕ) (bs : List ℕ) → 128 ≤ b → signed_at limit (suc more) (b ∷ bs) ≡ behind (λ m. pos (b - 128) +ℤ pos 128 *ℤ m) (signed_at limit more bs)
unfolding signed_at
signed_next limit more b bs le = rw (le-ltb b 128 le) refl

pub s_none : (limit more : ℕ) (xs : List ℕ) (i : ℕ) → i ≡ length xs → Err Truncated ≡ placed {A = ℤ} (length xs) (signed_at limit more (drop i xs))
s_none limit more xs i e = rw (signed_none limit more xs i (omega arith)) refl

pub s_done : (limit more : ℕ) (xs : List ℕ) (i : ℕ) (v : ℤ) → i < length xs → get_or xs i 0 < 128 → Stands limit more (get_or xs i 0) → v ≡ signed_last (get_or xs i 0)
    → Ok (v, i + 1) ≡ placed (length xs) (signed_at limit more (drop i xs))
s_done limit more xs i v lt low fits is =
    rw (drop_more xs i 0 lt, signed_done limit more (get_or xs i 0) (drop (i + 1) xs) low fits, length_behind xs i lt, is) refl

pub s_unused : (limit more : ℕ) (xs : List ℕ) (i : ℕ) → i < length xs → more ≡ 0 → get_or xs i 0 < 128 → limit ≤ get_or xs i 0 → get_or xs i 0 + limit < 128
    → Err UnusedBits ≡ placed {A = ℤ} (length xs) (signed_at limit more (drop i xs))
s_unused limit more xs i lt none low le above =
    rw (drop_more xs i 0 lt, none, signed_unused limit (get_or xs i 0) (drop (i + 1) xs) low le above) refl

pub s_long : (limit more : ℕ) (xs : List ℕ) (i : ℕ) → i < length xs → more ≡ 0 → 128 ≤ get_or xs i 0
    → Err TooLong ≡ placed {A = ℤ} (length xs) (signed_at limit more (drop i xs))
s_long limit more xs i lt none le =
    rw (drop_more xs i 0 lt, none, signed_long limit (get_or xs i 0) (drop (i + 1) xs) le) refl

pub s_more_err : (limit more : ℕ) (xs : List ℕ) (i : ℕ) (e : LebEnd) → i < length xs → 0 < more → 128 ≤ get_or xs i 0
    → Err e ≡ placed {A = ℤ} (length xs) (signed_at limit (more - 1) (drop (i + 1) xs)) → Err e ≡ placed {A = ℤ} (length xs) (signed_at limit more (drop i xs))
s_more_err limit more xs i e lt some le h =
    rw (drop_more xs i 0 lt, signed_more limit more (get_or xs i 0) (drop (i + 1) xs) le some) (behind_err _ (length xs) e (signed_at limit (more - 1) (drop (i + 1) xs)) h)

pub s_more_ok : (limit more : ℕ) (xs : List ℕ) (i place : ℕ) (high v : ℤ) → i < length xs → 0 < more → 128 ≤ get_or xs i 0 → v ≡ pos (get_or xs i 0 - 128) +ℤ pos 128 *ℤ high
    → Ok (high, place) ≡ placed (length xs) (signed_at limit (more - 1) (drop (i + 1) xs)) → Ok (v, place) ≡ placed (length xs) (signed_at limit more (drop i xs))
s_more_ok limit more xs i place high v lt some le is h =
    rw (drop_more xs i 0 lt, signed_more limit more (get_or xs i 0) (drop (i + 1) xs) le some, is)
    (behind_ok (λ m. pos (get_or xs i 0 - 128) +ℤ pos 128 *ℤ m) (length xs) high place (signed_at limit (more - 1) (drop (i + 1) xs)) h)

-- ---- how large a signed number is

-- with no more bytes the bound is the limit, and else at least 128
pub bound_cases : (limit more : ℕ) → 1 ≤ limit → ((more ≡ 0) × (limit * 128 ^ more ≡ limit)) ⊎ (128 ≤ limit * 128 ^ more)
bound_cases limit zero some = inl (refl, omega arith)
bound_cases limit (suc k) some = inr (let p : 1 * 1 ≤ limit * 128 ^ k = mul-le-mul some (power_is_some k) in rw (pow-suc 128 k) (omega arith))

within_last : (m b : ℕ) → b < 128 → ((b < m) × (m ≤ 64)) ⊎ ((64 ≤ b) × (128 ≤ b + m)) ⊎ (128 ≤ m) → IsWithin m (signed_last b)
within_last m b lt h = elim (cases_lt b 64) [
  | inl low ↦ rw (lt-ltb b 64 low) (elim h [ inl p ↦ (omega (arith, ints), omega (arith, ints)) | inr p ↦ (omega (arith, ints), omega (arith, ints)) ])
  | inr high ↦ rw (le-ltb b 64 high) (elim h [ inl p ↦ absurd (omega arith) | inr p ↦ (omega (arith, ints), omega (arith, ints)) ])
]

pub last_within : (limit more b : ℕ) → 1 ≤ limit → limit ≤ 64 → b < 128 → Stands limit more b → IsWithin (limit * 128 ^ more) (signed_last b)
last_within limit more b some le lt fits = elim (bound_cases limit more some) [
  | inl p ↦ rw (p.1) (within_last limit b lt (elim (fits p.0) [ inl low ↦ inl (low, le) | inr high ↦ inr (inl (omega arith, high)) ]))
  | inr large ↦ within_last (limit * 128 ^ more) b lt (inr (inr large))
]

pub more_within : (m n low : ℕ) (high : ℤ) → low < 128 → n ≡ 128 * m → IsWithin m high → IsWithin n (pos low +ℤ pos 128 *ℤ high)
more_within m n low high lt is h = (omega (arith, ints, h.0, h.1), omega (arith, ints, h.0, h.1))

pub times_fits : (m : ℕ) (high : ℤ) → 128 * m ≤ 2 ^ 63 → IsWithin m high → SFits w64 (pos 128 *ℤ high)
times_fits m high le h = omega (arith, ints, h.0, h.1)

pub times_bound : (limit more : ℕ) → 0 < more → limit * 128 ^ more ≡ 128 * (limit * 128 ^ (more - 1))
times_bound limit more some = rw (power_more more some) (omega arith)

pub smaller : (limit more top : ℕ) → 0 < more → limit * 128 ^ more ≤ top → limit * 128 ^ (more - 1) ≤ top
smaller limit more top some le = omega (arith, times_bound limit more some)

pub high_fits : (m : ℕ) (high : ℤ) → 128 * m ≤ 2 ^ 63 → IsWithin m high → SFits w64 high
high_fits m high le h = omega (arith, ints, h.0, h.1)

pub sum_fits : (m low : ℕ) (high : ℤ) → low < 128 → 128 * m ≤ 2 ^ 63 → IsWithin m high → SFits w64 (pos low +ℤ pos 128 *ℤ high)
sum_fits m low high lt le h = omega (arith, ints, h.0, h.1)

pub low_fits : (low : ℕ) → low < 128 → SFits w64 (pos low)
low_fits low lt = omega (arith, ints)

-- the sum as the code computes it
pub sum_is : (m low : ℕ) (l high : ℤ) → low < 128 → l ≡ pos low → 128 * m ≤ 2 ^ 63 → IsWithin m high
    → to_z w64 (of_z w64 (to_z w64 (of_z w64 l) +ℤ to_z w64 (of_z w64 (pos 128 *ℤ to_z w64 (of_z w64 high))))) ≡ pos low +ℤ pos 128 *ℤ high
sum_is m low l high lt is le h =
    rw (is, to_z-of_z w64 (pos low) (low_fits low lt), to_z-of_z w64 high (high_fits m high le h), to_z-of_z w64 (pos 128 *ℤ high) (times_fits m high le h), to_z-of_z w64 (pos low +ℤ pos 128 *ℤ high) (sum_fits m low high lt le h)) refl
