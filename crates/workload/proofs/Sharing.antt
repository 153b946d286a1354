-- The events of a worker, one request after another.
use Rattle.std.proofs.Common.{◌≡◌, ◌∙◌, ℕ, zero, suc, ◌+◌, ◌%◌, ◌^◌, ◌<◌, ◌≤◌, List, [], ◌∷◌, ◌++◌, length, true, false, refl, ap, sym, subst, arith, add-one, length-append, replicate, codes, Bool, append_assoc}
use Rattle.std.proofs.lemmas.Bool.{eq-eqb, ne_eqb}
use Rattle.std.proofs.lemmas.Fmt.{length-decimal-le}
use Rattle.std.proofs.lemmas.List.{append-nil, length-replicate}
use Rattle.std.proofs.lemmas.Nat.{mod_below}
use Rattle.std.specs.Fmt.{decimal}
use Rattle.std.specs.Prelude.{if◌then◌else◌, nat_eq}
use Rattle.gate_io.specs.declared.event.Event.{Event}
use Rattle.gate_io.specs.Events.{AreInOrder, in_order_more, last_of, last_of-append, nothing_given}
use Rattle.gate_io.specs.MemoryWorld.{stop_at}
use Rattle.workload.specs.Events.{events_of, exchange, given_of, head, request, share}

pub nobody_first : (n who : ℕ) → given_of n who 0 ≡ []
unfolding given_of
nobody_first n who = refl

pub one_more : (n who i : ℕ) → given_of n who (i + 1) ≡ given_of n who i ++ share n who i
unfolding given_of
one_more n who i = let e : i + 1 ≡ suc i = omega arith in ap (λ (k : ℕ). given_of n who k) e

-- four put after one another
pub four : (o p q r s : List Event) (a b c d : Event) → p ≡ o ++ a ∷ [] → q ≡ p ++ b ∷ [] → r ≡ q ++ c ∷ [] → s ≡ r ++ d ∷ [] → s ≡ o ++ (a ∷ b ∷ c ∷ d ∷ [])
four o p q r s a b c d e f g h =
    h ∙ ap (λ (xs : List Event). xs ++ d ∷ []) (g ∙ ap (λ (xs : List Event). xs ++ c ∷ []) (f ∙ ap (λ (xs : List Event). xs ++ b ∷ []) e)) ∙ simp append_assoc

-- a request that is the worker's, put after others, and one that is not
pub put_mine : (n who i line number : ℕ) (old new : List Event) → new ≡ old ++ exchange line number → 1 + i % 4 ≡ who → line ≡ i + 1 → number ≡ i + n → new ≡ old ++ share n who i
put_mine n who i line number old new put is here there =
    put ∙ (λ k. old ++ exchange (here k) (there k)) ∙ ap (λ (b : Bool). old ++ (if b then exchange (i + 1) (i + n) else [])) (sym (eq-eqb (1 + i % 4) who is))

pub put_none : (n who i : ℕ) (old : List Event) → (1 + i % 4 ≡ who → ⊥) → old ≡ old ++ share n who i
put_none n who i old differs = sym (ap (λ (b : Bool). old ++ (if b then exchange (i + 1) (i + n) else [])) (ne_eqb (1 + i % 4) who differs) ∙ append-nil old)

-- three texts put after one another
pub three : (t p q r a b d : List ℕ) → p ≡ t ++ a → q ≡ p ++ b → r ≡ q ++ d → r ≡ t ++ (a ++ (b ++ d))
three t p q r a b d e f g = g ∙ ap (λ (x : List ℕ). x ++ d) (f ∙ ap (λ (x : List ℕ). x ++ b) e) ∙ simp append_assoc

-- ---- the order

short : (n : ℕ) → n < 1024 → length (decimal n) ≤ 20
short n low = length-decimal-le 20 n (omega arith) (omega (arith, low)) (omega (arith, low))

head_short : (number : ℕ) → length (head number) ≤ 200
head_short number =
    let first = short (number % 8) (omega (arith, mod_below number 8 (omega arith))) in
    let second = short (number % 1024) (mod_below number 1024 (omega arith)) in
    simp length-append (omega (arith, first, second))

head_there : (number : ℕ) → 1 ≤ length (head number)
head_there number = omega arith

low_size : (number : ℕ) → 1 ≤ length (request number)
low_size number = omega arith

high_size : (number : ℕ) → length (request number) ≤ 16384
high_size number =
    let h = head_short number in
    let r = mod_below number 1024 (omega arith) in
    let e = length-append (head number) (replicate (number % 1024) 120) in
    omega (arith, h, r, e, length-replicate {A = ℕ} (number % 1024) 120)

exchange_in_order : (line number : ℕ) → AreInOrder nothing_given (exchange line number)
exchange_in_order line number = (
  record { rises = omega arith; stays = λ stopped. cc; sized = tt },
  (
    record { rises = omega arith; stays = λ stopped. cc; sized = (low_size number, high_size number) },
    (record { rises = omega arith; stays = λ stopped. cc; sized = (omega arith, omega arith) }, (record { rises = omega arith; stays = λ stopped. cc; sized = tt }, tt)),
  ),
)

share_in_order : (n who i : ℕ) → AreInOrder nothing_given (share n who i)
share_in_order n who i = elim (nat_eq (1 + i % 4) who) as (λ (b : Bool). AreInOrder nothing_given (if b then exchange (i + 1) (i + n) else [])) [ true ↦ exchange_in_order (i + 1) (i + n) | false ↦ tt ]

share_last : (n who i : ℕ) → last_of nothing_given (share n who i) ≡ nothing_given
share_last n who i = elim (nat_eq (1 + i % 4) who) as (λ (b : Bool). last_of nothing_given (if b then exchange (i + 1) (i + n) else []) ≡ nothing_given) [ true ↦ refl | false ↦ refl ]

given_last : (n who k : ℕ) → last_of nothing_given (given_of n who k) ≡ nothing_given
unfolding given_of
given_last n who zero = refl
given_last n who (suc i) =
    last_of-append nothing_given (given_of n who i) (share n who i) ∙ ap (λ (l : _). last_of l (share n who i)) (given_last n who i) ∙ share_last n who i

given_in_order : (n who k : ℕ) → AreInOrder nothing_given (given_of n who k)
unfolding given_of
given_in_order n who zero = tt
given_in_order n who (suc i) =
    in_order_more nothing_given (given_of n who i) (share n who i) (given_in_order n who i) (subst (λ (l : _). AreInOrder l (share n who i)) (sym (given_last n who i)) (share_in_order n who i))

pub all_in_order : (n who : ℕ) → AreInOrder nothing_given (events_of n who)
all_in_order n who =
    in_order_more nothing_given (given_of n who 1024) (stop_at 0 ∷ []) (given_in_order n who 1024)
    (subst (λ (l : _). AreInOrder l (stop_at 0 ∷ [])) (sym (given_last n who 1024)) (record { rises = omega arith; stays = λ stopped. refl; sized = tt }, tt))
