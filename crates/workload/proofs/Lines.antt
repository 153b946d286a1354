-- The lines of a worker.
use Rattle.std.proofs.Common.{◌≡◌, ◌∙◌, ℕ, zero, suc, ◌+◌, ◌*◌, ◌%◌, ◌<◌, List, [], ◌∷◌, ◌++◌, length, true, false, refl, ap, sym, arith, append_assoc, length-append, Bool}
use Rattle.std.proofs.lemmas.Bool.{eq-eqb, ne_eqb}
use Rattle.std.proofs.lemmas.List.{append-nil}
use Rattle.std.specs.Prelude.{if◌then◌else◌}
use Rattle.gate_io.specs.declared.event.Event.{Event}
use Rattle.gate_io.specs.MemoryWorld.{stop_at}
use Rattle.workload.specs.Events.{events_of, exchange, given_of, share}
use Rattle.workload.specs.Examples.{IsShare, every_fourth, opened, opened_by}
use Rattle.workload.proofs.Sharing.{nobody_first, one_more}

-- ---- a request of the worker, and one of another

pick : (n who i : ℕ) (b : Bool) → List Event
pick n who i b = given_of n who i ++ (if b then exchange (i + 1) (i + n) else [])

mine : (n who i : ℕ) → 1 + i % 4 ≡ who → given_of n who (i + 1) ≡ given_of n who i ++ exchange (i + 1) (i + n)
unfolding pick
mine n who i is = one_more n who i ∙ ap (pick n who i) (eq-eqb (1 + i % 4) who is)

other : (n who i : ℕ) → (1 + i % 4 ≡ who → ⊥) → given_of n who (i + 1) ≡ given_of n who i
unfolding pick
other n who i differs = one_more n who i ∙ ap (pick n who i) (ne_eqb (1 + i % 4) who differs) ∙ append-nil (given_of n who i)

-- ---- four requests, of which one is the worker's

-- three numbers from one on
next : (n who i j : ℕ) → i ≡ j → given_of n who i ≡ given_of n who j
next n who i j e = ap (given_of n who) e

quarter : (n w m : ℕ) → w < 4 → m % 4 ≡ 0 → given_of n (w + 1) (m + 4) ≡ given_of n (w + 1) m ++ exchange (m + w + 1) (m + w + n)
quarter n zero m low e =
    next n 1 (m + 4) (m + 3 + 1) (omega arith) ∙ other n 1 (m + 3) (λ d. omega (arith, d, e))
    ∙ next n 1 (m + 3) (m + 2 + 1) (omega arith) ∙ other n 1 (m + 2) (λ d. omega (arith, d, e))
    ∙ next n 1 (m + 2) (m + 1 + 1) (omega arith) ∙ other n 1 (m + 1) (λ d. omega (arith, d, e))
    ∙ mine n 1 m (omega (arith, e)) ∙ ap (λ (k : ℕ). given_of n 1 m ++ exchange (k + 1) (k + n)) (let f : m ≡ m + 0 = omega arith in f)
quarter n (suc zero) m low e =
    next n 2 (m + 4) (m + 3 + 1) (omega arith) ∙ other n 2 (m + 3) (λ d. omega (arith, d, e))
    ∙ next n 2 (m + 3) (m + 2 + 1) (omega arith) ∙ other n 2 (m + 2) (λ d. omega (arith, d, e))
    ∙ next n 2 (m + 2) (m + 1 + 1) (omega arith) ∙ mine n 2 (m + 1) (omega (arith, e))
    ∙ ap (λ (xs : List Event). xs ++ exchange (m + 1 + 1) (m + 1 + n)) (other n 2 m (λ d. omega (arith, d, e)))
quarter n (suc (suc zero)) m low e =
    next n 3 (m + 4) (m + 3 + 1) (omega arith) ∙ other n 3 (m + 3) (λ d. omega (arith, d, e))
    ∙ next n 3 (m + 3) (m + 2 + 1) (omega arith) ∙ mine n 3 (m + 2) (omega (arith, e))
    ∙ ap (λ (xs : List Event). xs ++ exchange (m + 2 + 1) (m + 2 + n))
    (next n 3 (m + 2) (m + 1 + 1) (omega arith) ∙ other n 3 (m + 1) (λ d. omega (arith, d, e)) ∙ other n 3 m (λ d. omega (arith, d, e)))
quarter n (suc (suc (suc zero))) m low e =
    next n 4 (m + 4) (m + 3 + 1) (omega arith) ∙ mine n 4 (m + 3) (omega (arith, e))
    ∙ ap (λ (xs : List Event). xs ++ exchange (m + 3 + 1) (m + 3 + n))
    (next n 4 (m + 3) (m + 2 + 1) (omega arith) ∙ other n 4 (m + 2) (λ d. omega (arith, d, e))
    ∙ next n 4 (m + 2) (m + 1 + 1) (omega arith) ∙ other n 4 (m + 1) (λ d. omega (arith, d, e)) ∙ other n 4 m (λ d. omega (arith, d, e)))
quarter n (suc (suc (suc (suc w)))) m low e = absurd (omega (arith, low))

-- ---- all requests

opened-append : (a b : List Event) → opened (a ++ b) ≡ opened a ++ opened b
opened-append [] b = refl
opened-append (event ∷ a) b = ap (λ (l : List ℕ). opened_by event.what ++ l) (opened-append a b) ∙ sym (append_assoc (opened_by event.what) (opened a) (opened b))

fourths_more : (first k : ℕ) → every_fourth first (suc k) ≡ every_fourth first k ++ (first + 4 * k) ∷ []
fourths_more first zero = ap (λ (j : ℕ). j ∷ []) (let e : first ≡ first + 4 * 0 = omega arith in e)
fourths_more first (suc k) =
    ap (λ (l : List ℕ). first ∷ l) (fourths_more (first + 4) k ∙ ap (λ (j : ℕ). every_fourth (first + 4) k ++ j ∷ []) (let e : first + 4 + 4 * k ≡ first + 4 * suc k = omega arith in e))

four_more : (n w k : ℕ) → w < 4 → given_of n (w + 1) (4 * suc k) ≡ given_of n (w + 1) (4 * k) ++ exchange (4 * k + w + 1) (4 * k + w + n)
four_more n w k low = next n (w + 1) (4 * suc k) (4 * k + 4) (omega arith) ∙ quarter n w (4 * k) low (omega arith)

lines : (n w k : ℕ) → w < 4 → opened (given_of n (w + 1) (4 * k)) ≡ every_fourth (w + 1) k
lines n w zero low = ap opened (nobody_first n (w + 1))
lines n w (suc k) low =
    ap opened (four_more n w k low) ∙ opened-append (given_of n (w + 1) (4 * k)) (exchange (4 * k + w + 1) (4 * k + w + n))
    ∙ ap (λ (l : List ℕ). l ++ (4 * k + w + 1) ∷ []) (lines n w k low) ∙ ap (λ (j : ℕ). every_fourth (w + 1) k ++ j ∷ []) (let e : 4 * k + w + 1 ≡ w + 1 + 4 * k = omega arith in e)
    ∙ sym (fourths_more (w + 1) k)

many : (n w k : ℕ) → w < 4 → length (given_of n (w + 1) (4 * k)) ≡ 4 * k
many n w zero low = ap (λ (l : List Event). length l) (nobody_first n (w + 1))
many n w (suc k) low =
    let e = length-append (given_of n (w + 1) (4 * k)) (exchange (4 * k + w + 1) (4 * k + w + n)) in
    let f : length (given_of n (w + 1) (4 * suc k)) ≡ length (given_of n (w + 1) (4 * k) ++ exchange (4 * k + w + 1) (4 * k + w + n)) = ap (λ (l : List Event). length l) (four_more n w k low) in
    omega (arith, e, f, many n w k low)

pub is_share : (w : ℕ) → w < 4 → IsShare (w + 1)
is_share w low = record {
  events = λ n. (let e = length-append (given_of n (w + 1) 1024) (stop_at 0 ∷ []) in let f : length (given_of n (w + 1) 1024) ≡ 1024 = many n w 256 low in omega (arith, e, f));
  lines = λ n. opened-append (given_of n (w + 1) 1024) (stop_at 0 ∷ []) ∙ append-nil (opened (given_of n (w + 1) 1024)) ∙ lines n w 256 low;
}
