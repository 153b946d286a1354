-- Where fuel is spent.
use Rattle.std.proofs.Common.{◌≡◌, ℕ, zero, suc, ◌-◌, ◌⊎◌, inl, inr, refl, sym, ap, subst, ◌∙◌}
use Rattle.wasm_syntax.specs.Reduction.{Program}
use Rattle.wasm_syntax.specs.ReductionSteps.{Config, Stepped, moves, finished, asks_host, traps, overflows, no_step, step}
use Rattle.wasm_syntax.specs.ReductionRuns.{Stopped, has_asked, has_trapped, has_spent, goes_on, unit_if, walk_by, walk, enough, run}
use Rattle.wasm_syntax.specs.ReductionLaws.{IsCutShort, NeedsMore, ComesTo, is_there, comes_on, SpentByNeed}
use Rattle.wasm_syntax.proofs.RunLaws.{pay_spent, pay_goes, pay_either, runs_to_its_end}

-- ---- what is needed where it is spent

abbrev Spends : Program → ℕ → ℕ → Config → Type 0
Spends p left n c = (d : Config) × ComesTo p left d n c × NeedsMore left (step p d)

same_left : (n left : ℕ) → has_spent n ≡ has_spent left → n ≡ left
same_left n left e = cc

-- at once
needs : (p : Program) (c : Config) (s : Stepped) (n left : ℕ) → step p c ≡ s → has_spent n ≡ has_spent left → NeedsMore n s → Spends p left n c
needs p c s n left is e short =
    subst (λ (k : ℕ). Spends p k n c) (same_left n left e) (c, is_there, subst (λ (x : Stepped). NeedsMore n x) (sym is) short)

spent_by : (p : Program) (g n left : ℕ) (c : Config) (s : Stepped) → step p c ≡ s → walk_by s n (λ m d. walk p g m d) ≡ has_spent left →
    ((m : ℕ) (d : Config) → walk p g m d ≡ has_spent left → Spends p left m d) → Spends p left n c
spent_by p g n left c (moves units d) is e ih =
    pay_either (λ x. x ≡ has_spent left → Spends p left n c) units n (λ m. walk p g m d) (λ short f. needs p c (moves units d) n left is f short)
    (λ le f. let s = ih (n - units) d f in (s.0, comes_on n units c d le is s.1, s.2)) e
spent_by p g n left c (finished v d) is e ih = absurd cc
spent_by p g n left c (asks_host is_paid x args d) is e ih =
    pay_either (λ y. y ≡ has_spent left → Spends p left n c) (unit_if is_paid) n (λ m. has_asked x args d m) (λ short f. needs p c (asks_host is_paid x args d) n left is f short) (λ le f. absurd cc) e
spent_by p g n left c (traps t) is e ih =
    pay_either (λ x. x ≡ has_spent left → Spends p left n c) 1 n (λ m. has_trapped t m) (λ short f. needs p c (traps t) n left is f short) (λ le f. absurd cc) e
spent_by p g n left c overflows is e ih = absurd cc
spent_by p g n left c no_step is e ih = absurd cc

walks_spent : (p : Program) (g n left : ℕ) (c : Config) → walk p g n c ≡ has_spent left → Spends p left n c
unfolding walk
walks_spent p zero n left c e = absurd cc
walks_spent p (suc g) n left c e = spent_by p g n left c (step p c) refl e (λ m d. walks_spent p g m left d)

-- ---- and it is spent where that is needed

step_spends : (n : ℕ) (s : Stepped) (go : ℕ → Config → Stopped) → NeedsMore n s → walk_by s n go ≡ has_spent n
step_spends n (moves units d) go short = pay_spent units n (λ m. go m d) short
step_spends n (finished v d) go short = absurd short
step_spends n (asks_host is_paid x args d) go short = pay_spent (unit_if is_paid) n (λ m. has_asked x args d m) short
step_spends n (traps c) go short = pay_spent 1 n (λ m. has_trapped c m) short
step_spends n overflows go short = absurd short
step_spends n no_step go short = absurd short

-- in as many steps as are walked
abbrev SpentOrShort : Program → ℕ → ℕ → ℕ → Config → Type 0
SpentOrShort p left g n c = (walk p g n c ≡ has_spent left) ⊎ (walk p g n c ≡ goes_on)

comes_spends : (p : Program) (left : ℕ) (d : Config) (n : ℕ) (c : Config) → ComesTo p left d n c → NeedsMore left (step p d) → (g : ℕ) → SpentOrShort p left g n c
unfolding walk
comes_spends p left d n c x short zero = inr refl
comes_spends p left d k x is_there short (suc g) = inl (step_spends left (step p d) (λ m e. walk p g m e) short)
comes_spends p left d k x (comes_on n units c e le is rest) short (suc g) =
    let here : walk_by (step p c) n (λ m f. walk p g m f) ≡ walk p g (n - units) e = ap (λ (s : Stepped). walk_by s n (λ m f. walk p g m f)) is ∙ pay_goes units n (λ m. walk p g m e) le in
    elim (comes_spends p left d (n - units) e rest short g) [
      | inl h ↦ inl (here ∙ h)
      | inr h ↦ inr (here ∙ h)
    ]

never_short : (p : Program) (n : ℕ) (c : Config) → run p n c ≡ goes_on → ⊥
never_short p n c e = runs_to_its_end p n c (subst (λ (x : Stopped). IsCutShort x) (sym e) tt)

is_spent : (p : Program) (n left : ℕ) (c : Config) → Spends p left n c → run p n c ≡ has_spent left
is_spent p n left c s = elim (comes_spends p left s.0 n c s.1 s.2 (enough n c)) [
  | inl h ↦ h
  | inr h ↦ absurd (never_short p n c h)
]

pub spent_by_need : SpentByNeed
spent_by_need p n left c = (λ e. walks_spent p (enough n c) n left c e, λ s. is_spent p n left c s)
