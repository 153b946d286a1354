-- The bytes of a number, as the machine has them.
use Rattle.std.proofs.Common.{◌≡◌, refl, ◌∙◌, ap, sym, ℕ, zero, suc, ◌+◌, ◌/◌, ◌%◌, ◌^◌, ◌≤◌, List, ◌∷◌, length, Some, None, arith, if◌then◌else◌}
use Rattle.std.specs.Int.{w64, byte_at, bytes_low_first, to_le_bytes}
use Rattle.std.proofs.Math.Nat.{div-one, div-div-eq-div-mul, pow-suc}
use Rattle.std.proofs.lemmas.Bool.{le-leb}
use Rattle.wasm_syntax.specs.Memory.{bytes_of, written, store}

byte-of : (i v : ℕ) → byte_at i v ≡ v / 256 ^ i % 256
byte-of zero v = ap (λ n. n % 256) (sym (div-one v))
byte-of (suc i) v = refl

one_higher : (i v : ℕ) → v / 256 ^ suc i ≡ v / 256 ^ i / 256
one_higher i v = ap (λ n. v / n) (pow-suc 256 i) ∙ sym (div-div-eq-div-mul v (256 ^ i) 256)

from_place : (i k v : ℕ) → bytes_low_first i k v ≡ bytes_of k (v / 256 ^ i)
from_place i zero v = refl
from_place i (suc k) v =
    ap (λ b. b ∷ bytes_low_first (suc i) k v) (byte-of i v)
    ∙ ap (λ bs. v / 256 ^ i % 256 ∷ bs) (from_place (suc i) k v ∙ ap (bytes_of k) (one_higher i v))

pub all_eight : (v : ℕ) → to_le_bytes w64 v ≡ bytes_of 8 v
all_eight v = from_place 0 8 v ∙ ap (bytes_of 8) (div-one v)

-- what writes just these bytes inside stores the number
pub stored_eight : (m n low : List ℕ) (at width v : ℕ) → width ≡ 8 → low ≡ to_le_bytes w64 v → (at + length low ≤ length m) × (n ≡ written m at low) → store m at width v ≡ Some n
stored_eight m n low at width v eight is h =
    let same : low ≡ bytes_of 8 v = is ∙ all_eight v in
    let long : length low ≡ 8 = ap length is in
    let within : at + 8 ≤ length m = let a = h.0 in omega (arith, long, a) in
    ap (λ w. store m at w v) eight
    ∙ ap (λ b. if b then Some (written m at (bytes_of 8 v)) else None) (le-leb (at + 8) (length m) within)
    ∙ ap (λ bs. Some (written m at bs)) (sym same)
    ∙ ap (λ xs. Some xs) (sym h.1)
