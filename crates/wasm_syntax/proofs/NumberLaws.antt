-- What reading from left to right gives is what the spelling says.
use Rattle.std.proofs.Common.{◌≡◌, ℕ, ℤ, pos, zero, suc, ◌+◌, ◌-◌, ◌*◌, ◌^◌, ◌<◌, ◌≤◌, ◌+ℤ◌, ◌-ℤ◌, ◌*ℤ◌, ◌⊎◌, ◌++◌, List, [], ◌∷◌, Result, Ok, Err, inl, inr, refl, sym, ap, ◌∙◌, arith}
use Rattle.std.proofs.lemmas.Bool.{lt-ltb, le-ltb, cases_lt}
use Rattle.std.proofs.Math.Pow.{pow_mono}
use Rattle.wasm_syntax.specs.declared.leb.LebEnd.{LebEnd}
use Rattle.wasm_syntax.specs.declared.leb.LebEnd.TheVariants.{TooLong, UnusedBits}
use Rattle.wasm_syntax.specs.Numbers.{IsUnsigned, IsSigned, IsSignedLast, IsOfSize, behind, unsigned_at, signed_at, signed_last}
use Rattle.wasm_syntax.proofs.Steps.{unsigned_done, unsigned_unused, unsigned_long, unsigned_next, signed_done, signed_unused, signed_long, signed_next}

-- a step that did not fail
pub behind_is_ok : {A : Type 0} (f : A → A) (r : Result (A × List ℕ) LebEnd) (v : A) (rest : List ℕ) → behind f r ≡ Ok (v, rest) → (high : A) × (r ≡ Ok (high, rest)) × (f high ≡ v)
behind_is_ok {A = A} f (Ok x) v rest h =
    let e : (f x.0, x.1) ≡ (v, rest) = cc in
    (x.0, ap (λ (l : List ℕ). Ok (x.0, l)) (ap (λ (p : A × List ℕ). p.1) e), ap (λ (p : A × List ℕ). p.0) e)
behind_is_ok f (Err d) v rest h = absurd cc

pub behind_is_err : {A : Type 0} (f : A → A) (r : Result (A × List ℕ) LebEnd) (e : LebEnd) → behind f r ≡ Err e → r ≡ Err e
behind_is_err f (Ok x) e h = absurd cc
behind_is_err f (Err d) e h = cc

-- a spelling at the front of bytes, and the rest
pub record Fronts (spells : List ℕ → Type 0) (bytes rest : List ℕ) : Type 0 where
  pub text : List ℕ
  pub spelled : spells text
  pub parts : bytes ≡ text ++ rest

-- ---- unsigned: the last byte has `top` bits, and the number has `bits`

pub wide : (bits : ℕ) → 7 ≤ bits → 128 ≤ 2 ^ bits
wide bits le = let h : 2 ^ 7 ≤ 2 ^ bits = pow_mono le in omega arith

more_unsigned : (bits b m v : ℕ) (bs rest text : List ℕ) → 128 ≤ b → 7 < bits → (b - 128) + 128 * m ≡ v → IsUnsigned (bits - 7) text m → bs ≡ text ++ rest → Fronts (λ text. IsUnsigned bits text v) (b ∷ bs) rest
more_unsigned bits b m v bs rest [] le lt is s p = absurd s
more_unsigned bits b m v bs rest (c ∷ cs) le lt is s p =
    record { text = b ∷ c ∷ cs; spelled = (le, lt, (m, s, sym is)); parts = ap (λ (l : List ℕ). b ∷ l) p }

pub unsigned_takes : (top more bits : ℕ) (bytes : List ℕ) (v : ℕ) (rest : List ℕ) → 0 < top → bits ≡ top + 7 * more → unsigned_at (2 ^ top) more bytes ≡ Ok (v, rest)
    → Fronts (λ text. IsUnsigned bits text v) bytes rest
unfolding unsigned_at
unsigned_takes top zero bits [] v rest some size e = absurd cc
unsigned_takes top (suc more) bits [] v rest some size e = absurd cc
unsigned_takes top zero bits (b ∷ bs) v rest some size e = elim (cases_lt b 128) [
  | inl lt ↦ elim (cases_lt b (2 ^ top)) [
    | inl fits ↦
        let e2 : Ok (b, bs) ≡ Ok (v, rest) = sym (unsigned_done (2 ^ top) 0 b bs lt (λ _. fits)) ∙ e in
        let p : (b, bs) ≡ (v, rest) = cc in
        record { text = b ∷ []; spelled = (lt, (let s : bits ≡ top = omega arith in rw s fits), sym (ap (λ (q : ℕ × List ℕ). q.0) p)); parts = ap (λ (q : ℕ × List ℕ). b ∷ q.1) p }
    | inr le ↦ absurd (let x : Err UnusedBits ≡ Ok (v, rest) = sym (unsigned_unused (2 ^ top) b bs lt le) ∙ e in cc)
  ]
  | inr le ↦ absurd (let x : Err TooLong ≡ Ok (v, rest) = sym (unsigned_long (2 ^ top) b bs le) ∙ e in cc)
]
unsigned_takes top (suc more) bits (b ∷ bs) v rest some size e = elim (cases_lt b 128) [
  | inl lt ↦
      let e2 : Ok (b, bs) ≡ Ok (v, rest) = sym (unsigned_done (2 ^ top) (suc more) b bs lt (λ z. absurd (omega arith))) ∙ e in
      let p : (b, bs) ≡ (v, rest) = cc in
      record { text = b ∷ []; spelled = (lt, omega (arith, wide bits (omega arith)), sym (ap (λ (q : ℕ × List ℕ). q.0) p)); parts = ap (λ (q : ℕ × List ℕ). b ∷ q.1) p }
  | inr le ↦
      let e2 : behind (λ m. (b - 128) + 128 * m) (unsigned_at (2 ^ top) more bs) ≡ Ok (v, rest) = sym (unsigned_next (2 ^ top) more b bs le) ∙ e in
      let h = behind_is_ok (λ m. (b - 128) + 128 * m) (unsigned_at (2 ^ top) more bs) v rest e2 in
      let i = unsigned_takes top more (bits - 7) bs h.0 rest some (omega arith) h.1 in
      more_unsigned bits b h.0 v bs rest i.text le (omega arith) h.2 i.spelled i.parts
]

pub unsigned_again : (top more bits : ℕ) (text : List ℕ) (v : ℕ) (rest : List ℕ) → top ≤ 7 → bits ≡ top + 7 * more → IsUnsigned bits text v → unsigned_at (2 ^ top) more (text ++ rest) ≡ Ok (v, rest)
unsigned_again top more bits [] v rest le size s = absurd s
unsigned_again top more bits (b ∷ []) v rest le size s =
    rw (s.2) (unsigned_done (2 ^ top) more b rest s.0 (λ z. let t : bits ≡ top = omega arith in rw (← t) (s.1)))
unsigned_again top zero bits (b ∷ c ∷ cs) v rest le size s = absurd (omega arith)
unsigned_again top (suc more) bits (b ∷ c ∷ cs) v rest le size s =
    let h = s.2 in
    let e : unsigned_at (2 ^ top) (suc more) (b ∷ ((c ∷ cs) ++ rest)) ≡ behind (λ m. (b - 128) + 128 * m) (unsigned_at (2 ^ top) more ((c ∷ cs) ++ rest)) = unsigned_next (2 ^ top) more b ((c ∷ cs) ++ rest) s.0 in
    let i = unsigned_again top more (bits - 7) (c ∷ cs) h.0 rest le (omega arith) h.1 in
    e ∙ ap (behind (λ m. (b - 128) + 128 * m)) i ∙ ap (λ (n : ℕ). Ok (n, rest)) (sym h.2)

-- ---- signed: the last byte has `top` bits, its sign among them

pub of_size_cases : (limit b : ℕ) → IsOfSize limit b ⊎ ((limit ≤ b) × (b + limit < 128))
of_size_cases limit b = elim (cases_lt b limit) [
  | inl lt ↦ inl (inl lt)
  | inr le ↦ elim (cases_lt (b + limit) 128) [ inl below ↦ inr (le, below) | inr above ↦ inl (inr above) ]
]

pub wide_signed : (bits : ℕ) → 8 ≤ bits → 64 ≤ 2 ^ (bits - 1)
wide_signed bits le = let le7 : 7 ≤ bits - 1 = omega arith in let h : 2 ^ 7 ≤ 2 ^ (bits - 1) = pow_mono le7 in omega arith

pub narrow : (top : ℕ) → top ≤ 7 → 2 ^ (top - 1) ≤ 64
narrow top le = let le6 : top - 1 ≤ 6 = omega arith in let h : 2 ^ (top - 1) ≤ 2 ^ 6 = pow_mono le6 in omega arith

last_low : (b : ℕ) → b < 64 → signed_last b ≡ pos b
last_low b lt = rw (lt-ltb b 64 lt) refl

last_high : (b : ℕ) → 64 ≤ b → signed_last b ≡ pos b -ℤ pos 128
last_high b le = rw (le-ltb b 64 le) refl

-- a last byte spells what it stands for, where it is of the size
last_spells : (bits b : ℕ) (v : ℤ) → b < 128 → ((2 ^ (bits - 1) ≤ 64) × IsOfSize (2 ^ (bits - 1)) b) ⊎ (64 ≤ 2 ^ (bits - 1)) → signed_last b ≡ v → IsSignedLast bits b v
last_spells bits b v lt size is = elim (cases_lt b 64) [
  | inl low ↦ inl (low, (elim size [ inl p ↦ (elim p.1 [ inl x ↦ x | inr y ↦ omega arith ]) | inr large ↦ omega arith ]), sym is ∙ last_low b low)
  | inr high ↦ inr (high, lt, (elim size [ inl p ↦ (elim p.1 [ inl x ↦ omega arith | inr y ↦ y ]) | inr large ↦ omega arith ]), sym is ∙ last_high b high)
]

-- and stands for what it spells
last_stands : (bits b : ℕ) (v : ℤ) → IsSignedLast bits b v → (b < 128) × IsOfSize (2 ^ (bits - 1)) b × (signed_last b ≡ v)
last_stands bits b v (inl p) = (omega (arith, p.0), inl p.1, last_low b p.0 ∙ sym p.2)
last_stands bits b v (inr p) = (p.1, inr p.2, last_high b p.0 ∙ sym p.3)

more_signed : (bits b : ℕ) (m v : ℤ) (bs rest text : List ℕ) → 128 ≤ b → 7 < bits → pos (b - 128) +ℤ pos 128 *ℤ m ≡ v → IsSigned (bits - 7) text m → bs ≡ text ++ rest → Fronts (λ text. IsSigned bits text v) (b ∷ bs) rest
more_signed bits b m v bs rest [] le lt is s p = absurd s
more_signed bits b m v bs rest (c ∷ cs) le lt is s p =
    record { text = b ∷ c ∷ cs; spelled = (le, lt, (m, s, sym is)); parts = ap (λ (l : List ℕ). b ∷ l) p }

pub signed_takes : (top more bits : ℕ) (bytes : List ℕ) (v : ℤ) (rest : List ℕ) → 0 < top → top ≤ 7 → bits ≡ top + 7 * more → signed_at (2 ^ (top - 1)) more bytes ≡ Ok (v, rest)
    → Fronts (λ text. IsSigned bits text v) bytes rest
unfolding signed_at
signed_takes top zero bits [] v rest some low size e = absurd cc
signed_takes top (suc more) bits [] v rest some low size e = absurd cc
signed_takes top zero bits (b ∷ bs) v rest some low size e = elim (cases_lt b 128) [
  | inl lt ↦ elim (of_size_cases (2 ^ (top - 1)) b) [
    | inl fits ↦
        let e2 : Ok (signed_last b, bs) ≡ Ok (v, rest) = sym (signed_done (2 ^ (top - 1)) 0 b bs lt (λ _. fits)) ∙ e in
        let p : (signed_last b, bs) ≡ (v, rest) = cc in
        let t : bits ≡ top = omega arith in
        record { text = b ∷ []; spelled = last_spells bits b v lt (inl (rw t (narrow top low, fits))) (ap (λ (q : ℤ × List ℕ). q.0) p); parts = ap (λ (q : ℤ × List ℕ). b ∷ q.1) p }
    | inr past ↦ absurd (let x : Err UnusedBits ≡ Ok (v, rest) = sym (signed_unused (2 ^ (top - 1)) b bs lt past.0 past.1) ∙ e in cc)
  ]
  | inr le ↦ absurd (let x : Err TooLong ≡ Ok (v, rest) = sym (signed_long (2 ^ (top - 1)) b bs le) ∙ e in cc)
]
signed_takes top (suc more) bits (b ∷ bs) v rest some low size e = elim (cases_lt b 128) [
  | inl lt ↦
      let e2 : Ok (signed_last b, bs) ≡ Ok (v, rest) = sym (signed_done (2 ^ (top - 1)) (suc more) b bs lt (λ z. absurd (omega arith))) ∙ e in
      let p : (signed_last b, bs) ≡ (v, rest) = cc in
      record { text = b ∷ []; spelled = last_spells bits b v lt (inr (wide_signed bits (omega arith))) (ap (λ (q : ℤ × List ℕ). q.0) p); parts = ap (λ (q : ℤ × List ℕ). b ∷ q.1) p }
  | inr le ↦
      let e2 : behind (λ m. pos (b - 128) +ℤ pos 128 *ℤ m) (signed_at (2 ^ (top - 1)) more bs) ≡ Ok (v, rest) = sym (signed_next (2 ^ (top - 1)) more b bs le) ∙ e in
      let h = behind_is_ok (λ m. pos (b - 128) +ℤ pos 128 *ℤ m) (signed_at (2 ^ (top - 1)) more bs) v rest e2 in
      let i = signed_takes top more (bits - 7) bs h.0 rest some low (omega arith) h.1 in
      more_signed bits b h.0 v bs rest i.text le (omega arith) h.2 i.spelled i.parts
]

pub signed_again : (top more bits : ℕ) (text : List ℕ) (v : ℤ) (rest : List ℕ) → top ≤ 7 → bits ≡ top + 7 * more → IsSigned bits text v → signed_at (2 ^ (top - 1)) more (text ++ rest) ≡ Ok (v, rest)
signed_again top more bits [] v rest le size s = absurd s
signed_again top more bits (b ∷ []) v rest le size s =
    let h = last_stands bits b v s in
    signed_done (2 ^ (top - 1)) more b rest h.0 (λ z. let t : bits ≡ top = omega arith in rw (← t) (h.1)) ∙ ap (λ (n : ℤ). Ok (n, rest)) h.2
signed_again top zero bits (b ∷ c ∷ cs) v rest le size s = absurd (omega arith)
signed_again top (suc more) bits (b ∷ c ∷ cs) v rest le size s =
    let h = s.2 in
    let i = signed_again top more (bits - 7) (c ∷ cs) h.0 rest le (omega arith) h.1 in
    signed_next (2 ^ (top - 1)) more b ((c ∷ cs) ++ rest) s.0 ∙ ap (behind (λ m. pos (b - 128) +ℤ pos 128 *ℤ m)) i ∙ ap (λ (n : ℤ). Ok (n, rest)) (sym h.2)
