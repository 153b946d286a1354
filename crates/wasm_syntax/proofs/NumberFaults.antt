-- Each fault of a number is the one that is there, and where it is there it is answered.
use Rattle.std.proofs.Common.{◌≡◌, ℕ, ℤ, pos, zero, suc, ◌+◌, ◌-◌, ◌*◌, ◌<◌, ◌≤◌, ◌+ℤ◌, ◌*ℤ◌, ◌⊎◌, List, [], ◌∷◌, Result, Ok, Err, inl, inr, refl, sym, ap, subst, ◌∙◌, arith}
use Rattle.std.proofs.lemmas.Bool.{cases_lt}
use Rattle.wasm_syntax.specs.declared.leb.LebEnd.{LebEnd}
use Rattle.wasm_syntax.specs.declared.leb.LebEnd.TheVariants.{Truncated, TooLong, UnusedBits}
use Rattle.wasm_syntax.specs.Numbers.{IsNumberFault, SetsBeyond, SetsBeyondSign, IsOfSize, behind, unsigned_at, signed_at, signed_last}
use Rattle.wasm_syntax.proofs.Steps.{unsigned_done, unsigned_unused, unsigned_long, unsigned_next, signed_done, signed_unused, signed_long, signed_next}
use Rattle.wasm_syntax.proofs.NumberLaws.{behind_is_err, of_size_cases}

-- how one byte is read
pub record ReadsBytes (A : Type 0) (reads : ℕ → List ℕ → Result (A × List ℕ) LebEnd) (sets : ℕ → Type 0) : Type 0 where
  pub none : (more : ℕ) → reads more [] ≡ Err Truncated
  pub last : (b : ℕ) (bs : List ℕ) → b < 128 → (sets b × (reads 0 (b ∷ bs) ≡ Err UnusedBits)) ⊎ ((sets b → ⊥) × (v : A) × (reads 0 (b ∷ bs) ≡ Ok (v, bs)))
  pub long : (b : ℕ) (bs : List ℕ) → 128 ≤ b → reads 0 (b ∷ bs) ≡ Err TooLong
  pub stops : (more b : ℕ) (bs : List ℕ) → b < 128 → (v : A) × (reads (suc more) (b ∷ bs) ≡ Ok (v, bs))
  pub goes : (more b : ℕ) (bs : List ℕ) → 128 ≤ b → (f : A → A) × (reads (suc more) (b ∷ bs) ≡ behind f (reads more bs))

-- a fault one byte on
later : (e : LebEnd) (more : ℕ) (sets : ℕ → Type 0) (b : ℕ) (bs : List ℕ) → 128 ≤ b → IsNumberFault e (suc more) sets bs → IsNumberFault e (suc (suc more)) sets (b ∷ bs)
later Truncated more sets b bs le h = (omega arith, (le, h.1))
later TooLong more sets b bs le h = (omega arith, (le, h.1))
later UnusedBits more sets b bs le h = (le, h)

sooner : (e : LebEnd) (more : ℕ) (sets : ℕ → Type 0) (b : ℕ) (bs : List ℕ) → IsNumberFault e (suc (suc more)) sets (b ∷ bs) → (128 ≤ b) × IsNumberFault e (suc more) sets bs
sooner Truncated more sets b bs h = (h.1.0, (omega arith, h.1.1))
sooner TooLong more sets b bs h = (h.1.0, (omega arith, h.1.1))
sooner UnusedBits more sets b bs h = (h.0, h.1)

err_is : {A : Type 0} (e d : LebEnd) (r : Result A LebEnd) → r ≡ Err d → r ≡ Err e → d ≡ e
err_is e d r p q = let x : Err d ≡ r = sym p in let y : r ≡ Err e = q in cc

same_fault : (e d : LebEnd) (most : ℕ) (sets : ℕ → Type 0) (bytes : List ℕ) → d ≡ e → IsNumberFault d most sets bytes → IsNumberFault e most sets bytes
same_fault e d most sets bytes h f = subst (λ (x : LebEnd). IsNumberFault x most sets bytes) h f

pub fault_is : {A : Type 0} (reads : ℕ → List ℕ → Result (A × List ℕ) LebEnd) (sets : ℕ → Type 0) (h : ReadsBytes A reads sets) (e : LebEnd) (more : ℕ) (bytes : List ℕ)
    → reads more bytes ≡ Err e → IsNumberFault e (suc more) sets bytes
fault_is reads sets h e more [] r = same_fault e Truncated (suc more) sets [] (err_is e Truncated (reads more []) (h.none more) r) (omega arith, tt)
fault_is reads sets h e zero (b ∷ bs) r = elim (cases_lt b 128) [
  | inl lt ↦ elim (h.last b bs lt) [
    | inl p ↦ same_fault e UnusedBits 1 sets (b ∷ bs) (err_is e UnusedBits (reads 0 (b ∷ bs)) p.1 r) (lt, p.0)
    | inr p ↦ absurd (let x : Ok (p.1, bs) ≡ Err e = sym p.2 ∙ r in cc)
  ]
  | inr le ↦ same_fault e TooLong 1 sets (b ∷ bs) (err_is e TooLong (reads 0 (b ∷ bs)) (h.long b bs le) r) (omega arith, (le, tt))
]
fault_is reads sets h e (suc more) (b ∷ bs) r = elim (cases_lt b 128) [
  | inl lt ↦ let p = h.stops more b bs lt in absurd (let x : Ok (p.0, bs) ≡ Err e = sym p.1 ∙ r in cc)
  | inr le ↦
      let p = h.goes more b bs le in
      later e more sets b bs le (fault_is reads sets h e more bs (behind_is_err p.0 (reads more bs) e (sym p.1 ∙ r)))
]

pub is_fault : {A : Type 0} (reads : ℕ → List ℕ → Result (A × List ℕ) LebEnd) (sets : ℕ → Type 0) (h : ReadsBytes A reads sets) (e : LebEnd) (more : ℕ) (bytes : List ℕ)
    → IsNumberFault e (suc more) sets bytes → reads more bytes ≡ Err e
is_fault reads sets h Truncated more [] f = h.none more
is_fault reads sets h TooLong more [] f = absurd (omega (arith, f.0))
is_fault reads sets h UnusedBits more [] f = absurd f
is_fault reads sets h Truncated zero (b ∷ bs) f = absurd (omega (arith, f.0))
is_fault reads sets h TooLong zero (b ∷ bs) f = h.long b bs f.1.0
is_fault reads sets h UnusedBits zero (b ∷ bs) f = elim (h.last b bs f.0) [ inl p ↦ p.1 | inr p ↦ absurd (p.0 f.1) ]
is_fault reads sets h e (suc more) (b ∷ bs) f =
    let s = sooner e more sets b bs f in
    let p = h.goes more b bs s.0 in
    p.1 ∙ ap (behind p.0) (is_fault reads sets h e more bs s.1)

-- ---- both kinds of numbers

unsigned_empty : (limit more : ℕ) → unsigned_at limit more [] ≡ Err Truncated
unfolding unsigned_at
unsigned_empty limit zero = refl
unsigned_empty limit (suc more) = refl

signed_empty : (limit more : ℕ) → signed_at limit more [] ≡ Err Truncated
unfolding signed_at
signed_empty limit zero = refl
signed_empty limit (suc more) = refl

sets_beyond : (limit b : ℕ) → limit ≤ b → b + limit < 128 → SetsBeyondSign limit b
sets_beyond limit b le below = elim (cases_lt b 64) [ inl low ↦ inl (le, low) | inr high ↦ inr (high, below) ]

not_both : (limit b : ℕ) → limit ≤ 64 → IsOfSize limit b → SetsBeyondSign limit b → ⊥
not_both limit b le (inl lt) (inl p) = omega (arith, p.0)
not_both limit b le (inl lt) (inr p) = omega (arith, p.0)
not_both limit b le (inr ge) (inl p) = omega (arith, p.1)
not_both limit b le (inr ge) (inr p) = omega (arith, p.1)

pub unsigned_reads : (limit : ℕ) → ReadsBytes ℕ (unsigned_at limit) (SetsBeyond limit)
unsigned_reads limit = record {
  none = λ more. unsigned_empty limit more;
  last = λ b bs lt. elim (cases_lt b limit) [
    | inl fits ↦ inr ((λ le. omega arith), b, unsigned_done limit 0 b bs lt (λ _. fits))
    | inr le ↦ inl (le, unsigned_unused limit b bs lt le)
  ];
  long = λ b bs le. unsigned_long limit b bs le;
  stops = λ more b bs lt. (b, unsigned_done limit (suc more) b bs lt (λ z. absurd (omega arith)));
  goes = λ more b bs le. ((λ m. (b - 128) + 128 * m), unsigned_next limit more b bs le);
}

pub signed_reads : (limit : ℕ) → limit ≤ 64 → ReadsBytes ℤ (signed_at limit) (SetsBeyondSign limit)
signed_reads limit low = record {
  none = λ more. signed_empty limit more;
  last = λ b bs lt. elim (of_size_cases limit b) [
    | inl fits ↦ inr ((λ p. not_both limit b low fits p), signed_last b, signed_done limit 0 b bs lt (λ _. fits))
    | inr past ↦ inl (sets_beyond limit b past.0 past.1, signed_unused limit b bs lt past.0 past.1)
  ];
  long = λ b bs le. signed_long limit b bs le;
  stops = λ more b bs lt. (signed_last b, signed_done limit (suc more) b bs lt (λ z. absurd (omega arith)));
  goes = λ more b bs le. ((λ m. pos (b - 128) +ℤ pos 128 *ℤ m), signed_next limit more b bs le);
}
