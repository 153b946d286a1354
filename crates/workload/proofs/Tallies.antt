-- Counts of lists after one another.
use Rattle.std.proofs.Common.{◌≡◌, ◌∙◌, ℕ, ◌+◌, ◌*◌, ◌/◌, ◌%◌, ◌^◌, ◌<◌, List, [], ◌∷◌, ◌++◌, length, get_or, take, refl, ap, sym, arith}
use Rattle.std.proofs.Math.Nat.{mod-add-div, mul-add-mod_self_left}
use Rattle.std.proofs.lemmas.List.{take_more}
use Rattle.std.proofs.lemmas.List.Sums.{sum_by-append, sum_by_push}
use Rattle.std.specs.List.{sum_by}
use Rattle.gate_io.specs.declared.event.Sent.{Sent}
use Rattle.gate_io.specs.declared.event.Sent.TheVariants.{Connect, Bytes, Close, Log}
use Rattle.gate_io.specs.declared.event.Side.TheVariants.{Down, Up}
use Rattle.workload.specs.Tallies.{connects_of, down_of, sum_of, tally_of, up_of, with_sent}
use Rattle.workload.specs.declared.tally.Tally.{Tally}

mod_sum : (m a b : ℕ) → (a % m + b) % m ≡ (a + b) % m
mod_sum m a b =
    let e : a + b ≡ m * (a / m) + (a % m + b) = omega (arith, mod-add-div a m) in
    sym (ap (λ (n : ℕ). n % m) e ∙ mul-add-mod_self_left m (a / m) (a % m + b))

-- a count that goes on
on : (m a b t : ℕ) → t ≡ a + b → (a % m + b) % m ≡ t % m
on m a b t e = mod_sum m a b ∙ ap (λ (n : ℕ). n % m) (sym e)

-- and one that stays
stays : (m a t : ℕ) → t ≡ a + 0 → a % m ≡ t % m
stays m a t e = let f : a ≡ t = omega (arith, e) in ap (λ (n : ℕ). n % m) f

both : (m a b t : ℕ) → t ≡ a + b → t % m ≡ (a % m + b % m) % m
both m a b t e =
    let f : a % m + b ≡ b + a % m = omega arith in
    let g : b % m + a % m ≡ a % m + b % m = omega arith in
    ap (λ (n : ℕ). n % m) e ∙ sym (mod_sum m a b) ∙ ap (λ (n : ℕ). n % m) f ∙ sym (mod_sum m b (a % m)) ∙ ap (λ (n : ℕ). n % m) g

tally : (c u d e v f : ℕ) → c ≡ e → u ≡ v → d ≡ f → ◌≡◌ {A = Tally} (record { connects = c; up = u; down = d }) (record { connects = e; up = v; down = f })
tally c u d e v f p q r = cc

pub pushed : (xs : List Sent) (s : Sent) → with_sent (tally_of xs) s ≡ tally_of (xs ++ s ∷ [])
pushed xs (Connect line) =
    tally _ _ _ _ _ _ (on (2 ^ 64) _ 1 _ (sum_by_push connects_of xs (Connect line))) (stays (2 ^ 64) _ _ (sum_by_push up_of xs (Connect line))) (stays (2 ^ 64) _ _ (sum_by_push down_of xs (Connect line)))
pushed xs (Bytes line Up bytes) =
    tally _ _ _ _ _ _ (stays (2 ^ 64) _ _ (sum_by_push connects_of xs (Bytes line Up bytes))) (on (2 ^ 64) _ (length bytes) _ (sum_by_push up_of xs (Bytes line Up bytes)))
    (stays (2 ^ 64) _ _ (sum_by_push down_of xs (Bytes line Up bytes)))
pushed xs (Bytes line Down bytes) =
    tally _ _ _ _ _ _ (stays (2 ^ 64) _ _ (sum_by_push connects_of xs (Bytes line Down bytes))) (stays (2 ^ 64) _ _ (sum_by_push up_of xs (Bytes line Down bytes)))
    (on (2 ^ 64) _ (length bytes) _ (sum_by_push down_of xs (Bytes line Down bytes)))
pushed xs (Close line side) =
    tally _ _ _ _ _ _ (stays (2 ^ 64) _ _ (sum_by_push connects_of xs (Close line side))) (stays (2 ^ 64) _ _ (sum_by_push up_of xs (Close line side)))
    (stays (2 ^ 64) _ _ (sum_by_push down_of xs (Close line side)))
pushed xs (Log level text) =
    tally _ _ _ _ _ _ (stays (2 ^ 64) _ _ (sum_by_push connects_of xs (Log level text))) (stays (2 ^ 64) _ _ (sum_by_push up_of xs (Log level text)))
    (stays (2 ^ 64) _ _ (sum_by_push down_of xs (Log level text)))

-- one more of a list
pub one_more : (xs : List Sent) (i : ℕ) (s : Sent) → i < length xs → get_or xs i s ≡ s → with_sent (tally_of (take i xs)) s ≡ tally_of (take (i + 1) xs)
one_more xs i s low is =
    let e : take (i + 1) xs ≡ take i xs ++ s ∷ [] = take_more xs i s low ∙ ap (λ (x : Sent). take i xs ++ x ∷ []) is in
    pushed (take i xs) s ∙ ap tally_of (sym e)

pub add_up : (a b : List Sent) → tally_of (a ++ b) ≡ sum_of (tally_of a) (tally_of b)
add_up a b = tally _ _ _ _ _ _ (both (2 ^ 64) _ _ _ (sum_by-append connects_of a b)) (both (2 ^ 64) _ _ _ (sum_by-append up_of a b)) (both (2 ^ 64) _ _ _ (sum_by-append down_of a b))
