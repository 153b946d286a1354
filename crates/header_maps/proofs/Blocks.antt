-- Texts that are compared in blocks.
use Rattle.std.proofs.Common.{◌≡◌, ℕ, ◌≤◌, suc, zero, List, [], ◌∷◌, length, take, drop, refl, sym, ap, ◌∙◌, arith}
use Rattle.std.proofs.Math.Bool.{and_assoc}
use Rattle.std.specs.Char.{to_ascii_lowercase}
use Rattle.std.specs.Prelude.{◌&&◌, ◌==◌, bytes_eq}
use Rattle.http_header.specs.Token.{lowercase}

-- texts are equal where their first bytes are, and those behind them
pub same_in_parts : (n : ℕ) (a b : List ℕ) → n ≤ length a → n ≤ length b
    → bytes_eq (lowercase a) (lowercase b)
    ≡ (bytes_eq (lowercase (take n a)) (lowercase (take n b)) && bytes_eq (lowercase (drop n a)) (lowercase (drop n b)))
same_in_parts zero a b _ _ = refl
same_in_parts (suc n) [] b p _ = absurd (omega (arith, p))
same_in_parts (suc n) (x ∷ a) [] _ q = absurd (omega (arith, q))
same_in_parts (suc n) (x ∷ a) (y ∷ b) p q =
    ap (λ r. to_ascii_lowercase x == to_ascii_lowercase y && r) (same_in_parts n a b (omega (arith, p)) (omega (arith, q)))
    ∙ sym (and_assoc (to_ascii_lowercase x == to_ascii_lowercase y)
    (bytes_eq (lowercase (take n a)) (lowercase (take n b))) (bytes_eq (lowercase (drop n a)) (lowercase (drop n b))))

-- so it is of texts that are split at a place
pub same_when_split : (n : ℕ) (a b p q r s : List ℕ) → p ≡ take n a → q ≡ take n b → r ≡ drop n a → s ≡ drop n b → n ≤ length a
    → length a ≡ length b
    → bytes_eq (lowercase a) (lowercase b) ≡ (bytes_eq (lowercase p) (lowercase q) && bytes_eq (lowercase r) (lowercase s))
same_when_split n a b p q r s ep eq er es fits long = rw (ep, eq, er, es) (same_in_parts n a b fits (omega (arith, fits, long)))
