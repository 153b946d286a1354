-- From lists to places in the input.
use Rattle.std.proofs.Common.{◌≡◌, ℕ, suc, ◌*◌, ◌^◌, ◌+◌, ◌-◌, ◌<◌, ◌≤◌, ◌++◌, ◌↔◌, List, [], length, take, drop, slice_range, Result, Ok, Err, inl, inr, refl, sym, ap, subst, ◌∙◌, arith}
use Rattle.std.specs.Prelude.{IfOk, ℤ}
use Rattle.std.proofs.lemmas.Bool.{cases_lt}
use Rattle.std.proofs.lemmas.List.{length-drop, length-append, take_at, drop_at, drop-drop}
use Rattle.std.proofs.lemmas.List.Folds.{drop_split}
use Rattle.wasm_syntax.specs.declared.leb.LebEnd.{LebEnd}
use Rattle.wasm_syntax.specs.Numbers.{placed, IsNumberFault, unsigned_at, signed_at, IsUnsigned, IsSigned}
use Rattle.wasm_syntax.proofs.NumberLaws.{Fronts, unsigned_takes, unsigned_again, signed_takes, signed_again}
use Rattle.wasm_syntax.proofs.NumberFaults.{ReadsBytes, fault_is, is_fault}

-- what is read is spelled up to the place behind it
pub number_placed : {A : Type 0} (spells : A → List ℕ → Type 0) (b : List ℕ) (at : ℕ) (r : Result (A × List ℕ) LebEnd) → at ≤ length b
    → ((v : A) (rest : List ℕ) → r ≡ Ok (v, rest) → Fronts (spells v) (drop at b) rest)
    → IfOk (placed (length b) r) (λ x. (x.1 ≤ length b) × spells x.0 (slice_range b at x.1))
number_placed spells b at (Ok x) le h =
    let f = h x.0 x.1 refl in
    let parts : length (drop at b) ≡ length f.text + length x.1 = ap length f.parts ∙ length-append f.text x.1 in
    let len : length b - length x.1 - at ≡ length f.text = omega (arith, parts, length-drop at b) in
    (omega arith, subst (λ (t : List ℕ). spells x.0 t) (sym (ap (λ (l : List ℕ). take (length b - length x.1 - at) l) f.parts ∙ take_at f.text x.1 (length b - length x.1 - at) (sym len))) f.spelled)
number_placed spells b at (Err e) le h = tt

-- what is spelled up to a place is read up to there
pub number_only : {A : Type 0} (spells : A → List ℕ → Type 0) (b : List ℕ) (at : ℕ) (reads : List ℕ → Result (A × List ℕ) LebEnd)
    → ((v : A) → spells v [] → ⊥)
    → ((text rest : List ℕ) (v : A) → spells v text → reads (text ++ rest) ≡ Ok (v, rest))
    → (v : A) (place : ℕ) → place ≤ length b → spells v (slice_range b at place) → placed (length b) (reads (drop at b)) ≡ Ok (v, place)
number_only spells b at reads none again v place le s = elim (cases_lt place at) [
  | inl lt ↦ absurd (none v (subst (λ (n : ℕ). spells v (take n (drop at b))) (let z : place - at ≡ 0 = omega arith in z) s))
  | inr ge ↦ rw (drop_split b at place ge, again (slice_range b at place) (drop place b) v s)
      (ap (λ (n : ℕ). Ok (v, n)) (let e : length b - length (drop place b) ≡ place = omega (arith, length-drop place b) in e))
]

placed_is_err : {A : Type 0} (len : ℕ) (r : Result (A × List ℕ) LebEnd) (e : LebEnd) → placed len r ≡ Err e → r ≡ Err e
placed_is_err len (Ok x) e h = absurd cc
placed_is_err len (Err d) e h = cc

-- a fault is answered exactly where it is there
pub fault_at : {A : Type 0} (reads : ℕ → List ℕ → Result (A × List ℕ) LebEnd) (sets : ℕ → Type 0) (h : ReadsBytes A reads sets) (e : LebEnd) (more : ℕ) (b : List ℕ) (at : ℕ) (r : Result (A × ℕ) LebEnd)
    → r ≡ placed (length b) (reads more (drop at b)) → (r ≡ Err e) ↔ IsNumberFault e (suc more) sets (drop at b)
fault_at reads sets h e more b at r is = (
  (λ x. fault_is reads sets h e more (drop at b) (placed_is_err (length b) (reads more (drop at b)) e (sym is ∙ x))),
  (λ f. is ∙ ap (placed (length b)) (is_fault reads sets h e more (drop at b) f)),
)

-- ---- the same for a result that is what reading gives

pub unsigned_number : (b : List ℕ) (at : ℕ) (r : Result (ℕ × ℕ) LebEnd) → at ≤ length b → r ≡ placed (length b) (unsigned_at 16 4 (drop at b))
    → IfOk r (λ x. (x.1 ≤ length b) × IsUnsigned 32 (slice_range b at x.1) x.0)
unsigned_number b at r le is =
    subst (λ (y : Result (ℕ × ℕ) LebEnd). IfOk y (λ x. (x.1 ≤ length b) × IsUnsigned 32 (slice_range b at x.1) x.0)) (sym is)
    (number_placed (λ v text. IsUnsigned 32 text v) b at (unsigned_at 16 4 (drop at b)) le (λ v rest e. unsigned_takes 4 4 32 (drop at b) v rest (omega arith) refl e))

pub unsigned_only : (b : List ℕ) (at : ℕ) (r : Result (ℕ × ℕ) LebEnd) → r ≡ placed (length b) (unsigned_at 16 4 (drop at b))
    → (n place : ℕ) → place ≤ length b → IsUnsigned 32 (slice_range b at place) n → r ≡ Ok (n, place)
unsigned_only b at r is n place le s =
    is ∙ number_only (λ v text. IsUnsigned 32 text v) b at (unsigned_at 16 4) (λ v x. x) (λ text rest v x. unsigned_again 4 4 32 text v rest (omega arith) refl x) n place le s

-- top bits in the last byte
pub signed_number : (top more bits : ℕ) (b : List ℕ) (at : ℕ) (r : Result (ℤ × ℕ) LebEnd) → 0 < top → top ≤ 7 → bits ≡ top + 7 * more → at ≤ length b
    → r ≡ placed (length b) (signed_at (2 ^ (top - 1)) more (drop at b)) → IfOk r (λ x. (x.1 ≤ length b) × IsSigned bits (slice_range b at x.1) x.0)
signed_number top more bits b at r some low size le is =
    subst (λ (y : Result (ℤ × ℕ) LebEnd). IfOk y (λ x. (x.1 ≤ length b) × IsSigned bits (slice_range b at x.1) x.0)) (sym is)
    (number_placed (λ v text. IsSigned bits text v) b at (signed_at (2 ^ (top - 1)) more (drop at b)) le (λ v rest e. signed_takes top more bits (drop at b) v rest some low size e))

pub signed_only : (top more bits : ℕ) (b : List ℕ) (at : ℕ) (r : Result (ℤ × ℕ) LebEnd) → top ≤ 7 → bits ≡ top + 7 * more → r ≡ placed (length b) (signed_at (2 ^ (top - 1)) more (drop at b))
    → (n : ℤ) (place : ℕ) → place ≤ length b → IsSigned bits (slice_range b at place) n → r ≡ Ok (n, place)
signed_only top more bits b at r low size is n place le s =
    is ∙ number_only (λ v text. IsSigned bits text v) b at (signed_at (2 ^ (top - 1)) more) (λ v x. x) (λ text rest v x. signed_again top more bits text v rest low size x) n place le s

-- what stands behind a number is the input from its place on
pub number_rest : {A : Type 0} (spells : A → List ℕ → Type 0) (b : List ℕ) (at : ℕ) (r : Result (A × List ℕ) LebEnd) → at ≤ length b
    → ((v : A) (rest : List ℕ) → r ≡ Ok (v, rest) → Fronts (spells v) (drop at b) rest)
    → IfOk (placed (length b) r) (λ x. r ≡ Ok (x.0, drop x.1 b))
number_rest spells b at (Ok x) le h =
    let f = h x.0 x.1 refl in
    let parts : length (drop at b) ≡ length f.text + length x.1 = ap length f.parts ∙ length-append f.text x.1 in
    let place : length b - length x.1 ≡ at + length f.text = omega (arith, parts, length-drop at b) in
    let rest : drop (length b - length x.1) b ≡ x.1 = ap (λ (n : ℕ). drop n b) place ∙ sym (drop-drop (length f.text) at b) ∙ ap (drop (length f.text)) f.parts ∙ drop_at f.text x.1 (length f.text) refl in
    ap (λ (l : List ℕ). Ok (x.0, l)) (sym rest)
number_rest spells b at (Err e) le h = tt

pub unsigned_rest : (b : List ℕ) (at : ℕ) (r : Result (ℕ × ℕ) LebEnd) → at ≤ length b → r ≡ placed (length b) (unsigned_at 16 4 (drop at b))
    → IfOk r (λ x. unsigned_at 16 4 (drop at b) ≡ Ok (x.0, drop x.1 b))
unsigned_rest b at r le is =
    subst (λ (y : Result (ℕ × ℕ) LebEnd). IfOk y (λ x. unsigned_at 16 4 (drop at b) ≡ Ok (x.0, drop x.1 b))) (sym is)
    (number_rest (λ v text. IsUnsigned 32 text v) b at (unsigned_at 16 4 (drop at b)) le (λ v rest e. unsigned_takes 4 4 32 (drop at b) v rest (omega arith) refl e))

pub signed_rest : (top more bits : ℕ) (b : List ℕ) (at : ℕ) (r : Result (ℤ × ℕ) LebEnd) → 0 < top → top ≤ 7 → bits ≡ top + 7 * more → at ≤ length b
    → r ≡ placed (length b) (signed_at (2 ^ (top - 1)) more (drop at b)) → IfOk r (λ x. signed_at (2 ^ (top - 1)) more (drop at b) ≡ Ok (x.0, drop x.1 b))
signed_rest top more bits b at r some low size le is =
    subst (λ (y : Result (ℤ × ℕ) LebEnd). IfOk y (λ x. signed_at (2 ^ (top - 1)) more (drop at b) ≡ Ok (x.0, drop x.1 b))) (sym is)
    (number_rest (λ v text. IsSigned bits text v) b at (signed_at (2 ^ (top - 1)) more (drop at b)) le (λ v rest e. signed_takes top more bits (drop at b) v rest some low size e))
