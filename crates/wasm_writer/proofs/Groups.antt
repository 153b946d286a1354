-- Locals in groups: the groups so far, and those of the locals that are still to come.
use Rattle.std.proofs.Common.{◌≡◌, ℕ, zero, suc, ◌+◌, ◌<◌, ◌≤◌, List, [], ◌∷◌, ◌++◌, length, drop, refl, sym, ap, ◌∙◌, append_assoc, arith}
use Rattle.std.specs.Prelude.{replicate}
use Rattle.std.proofs.lemmas.List.{drop_all}
use Rattle.wasm_syntax.specs.declared.types.ValueType.{ValueType}
use Rattle.wasm_syntax.specs.declared.types.ValueType.TheVariants.{I32, I64}
use Rattle.wasm_writer.specs.declared.locals.Group.{Group}
use Rattle.wasm_writer.specs.Written.{group, groups_from, groups_of}

pub groups_end : (n : ℕ) (t : ValueType) → groups_from n t [] ≡ group n t ∷ []
unfolding groups_from
groups_end n I32 = refl
groups_end n I64 = refl

pub one_more : (n : ℕ) (t : ValueType) (ts : List ValueType) → groups_from n t (t ∷ ts) ≡ groups_from (n + 1) t ts
unfolding groups_from
one_more n I32 ts = refl
one_more n I64 ts = refl

pub another : (n : ℕ) (t u : ValueType) (ts : List ValueType) → (u ≡ t → ⊥) → groups_from n t (u ∷ ts) ≡ group n t ∷ groups_from 1 u ts
unfolding groups_from
another n I32 I32 ts ne = absurd (ne refl)
another n I32 I64 ts ne = refl
another n I64 I32 ts ne = refl
another n I64 I64 ts ne = absurd (ne refl)

-- ---- so many of one type in front

pub same_run : (k n : ℕ) (t : ValueType) (ts : List ValueType) → groups_from n t (replicate k t ++ ts) ≡ groups_from (n + k) t ts
same_run zero n t ts = ap (λ (m : ℕ). groups_from m t ts) (omega arith)
same_run (suc k) n t ts = one_more n t (replicate k t ++ ts) ∙ (same_run k (n + 1) t ts ∙ ap (λ (m : ℕ). groups_from m t ts) (omega arith))

pub other_run : (k n : ℕ) (t u : ValueType) (ts : List ValueType) → (u ≡ t → ⊥) → groups_from n t (replicate (suc k) u ++ ts) ≡ group n t ∷ groups_from (suc k) u ts
other_run k n t u ts ne = another n t u (replicate k u ++ ts) ne ∙ ap (λ (l : List Group). group n t ∷ l) (same_run k 1 u ts ∙ ap (λ (m : ℕ). groups_from m u ts) (omega arith))

run_begins : (k n : ℕ) (t u : ValueType) (ts : List ValueType) → 0 < k → (u ≡ t → ⊥) → groups_from n t (replicate k u ++ ts) ≡ group n t ∷ groups_from k u ts
run_begins zero n t u ts some ne = absurd (omega (arith, some))
run_begins (suc k) n t u ts some ne = other_run k n t u ts ne

run_starts : (k : ℕ) (t : ValueType) (ts : List ValueType) → 0 < k → groups_of (replicate k t ++ ts) ≡ groups_from k t ts
run_starts zero t ts some = absurd (omega (arith, some))
run_starts (suc k) t ts some = same_run k 1 t ts ∙ ap (λ (m : ℕ). groups_from m t ts) (omega arith)

pub record IsGroupedSoFar (all : List ValueType) (groups : List Group) (t : ValueType) (count at : ℕ) : Type 0 where
  pub few : count ≤ at
  pub within : at ≤ length all
  pub joined : groups ++ groups_from count t (drop at all) ≡ groups_of all

pub groups_start : (all : List ValueType) (n : ℕ) (t : ValueType) → 0 < n → n ≤ length all → drop 0 all ≡ replicate n t ++ drop (0 + n) all → IsGroupedSoFar all [] t n n
groups_start all n t some le run =
    let e : 0 + n ≡ n = omega arith in
    let whole : all ≡ replicate n t ++ drop n all = run ∙ ap (λ (k : ℕ). replicate n t ++ drop k all) e in
    record { few = omega arith; within = le; joined = sym (run_starts n t (drop n all) some) ∙ sym (ap groups_of whole) }

pub same_goes_on : (all : List ValueType) (groups : List Group) (t u : ValueType) (count at n : ℕ) → IsGroupedSoFar all groups t count at → at + n ≤ length all → u ≡ t → drop at all ≡ replicate n u ++ drop (at + n) all
    → IsGroupedSoFar all groups t (count + n) (at + n)
same_goes_on all groups t u count at n h le e run = record {
  few = omega (arith, h.few);
  within = le;
  joined = ap (λ (gs : List Group). groups ++ gs)
      (sym (ap (groups_from count t) (run ∙ ap (λ (v : ValueType). replicate n v ++ drop (at + n) all) e) ∙ same_run n count t (drop (at + n) all))) ∙ h.joined;
}

pub other_goes_on : (all : List ValueType) (groups new : List Group) (t u : ValueType) (count at n : ℕ) → IsGroupedSoFar all groups t count at → 0 < n → at + n ≤ length all → (u ≡ t → ⊥) → drop at all ≡ replicate n u ++ drop (at + n) all
    → new ≡ groups ++ group count t ∷ [] → IsGroupedSoFar all new u n (at + n)
other_goes_on all groups new t u count at n h some le ne run e = rw e (record {
  few = omega arith;
  within = le;
  joined = append_assoc groups (group count t ∷ []) (groups_from n u (drop (at + n) all))
      ∙ ap (λ (gs : List Group). groups ++ gs) (sym (ap (groups_from count t) run ∙ run_begins n count t u (drop (at + n) all) some ne)) ∙ h.joined;
})

pub groups_are_all : (all : List ValueType) (groups new : List Group) (t : ValueType) (count at : ℕ) → IsGroupedSoFar all groups t count at → length all ≤ at → new ≡ groups ++ group count t ∷ [] → new ≡ groups_of all
groups_are_all all groups new t count at h le e =
    e ∙ (ap (λ (gs : List Group). groups ++ gs) (sym (ap (groups_from count t) (drop_all at all le) ∙ groups_end count t)) ∙ h.joined)

pub none_grouped : (all : List ValueType) → length all ≡ 0 → [] ≡ groups_of all
none_grouped [] e = refl
none_grouped (t ∷ ts) e = absurd (omega (arith, e))
