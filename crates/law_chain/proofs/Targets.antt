-- Where items go that come to a chain, or that a stage of it lets go: to the next stage that does not pass everything.
use Rattle.std.proofs.Common.{◌≡◌, ℕ, zero, suc, ◌+◌, Bool, true, false, not, List, [], ◌∷◌, cond, ap, ◌∙◌, sym, refl, arith}
use Rattle.std.specs.List.{position_or_len}
use Rattle.std.specs.Prelude.{Option, None, Some, slice_get, slice_set, if◌then◌else◌}
use Rattle.filter_chain.specs.declared.stage.Stage.{Stage}
use Rattle.filter_chain.specs.declared.item.ChainItem.{ChainItem}
use Rattle.filter_chain.specs.declared.item.PassOutcome.{PassOutcome}
use Rattle.filter_chain.specs.declared.item.PassOutcome.TheVariants as passed
use Rattle.filter_chain.specs.Chains.{target, append_to, with_more}

pub by_bool : {A : Type 0} (P : A → Type 0) (b : Bool) (a c : A) → (b ≡ true → P a) → (b ≡ false → P c) → P (if b then a else c)
by_bool P true a c here there = here refl
by_bool P false a c here there = there refl

-- a stage in front
abbrev pub ahead : Stage → PassOutcome × List Stage → PassOutcome × List Stage
ahead s (p, ss) = (p, s ∷ ss)

-- items come
abbrev pub comes_in : List ChainItem → List Stage → PassOutcome × List Stage
comes_in items [] = (passed.Left items, [])
comes_in items (s ∷ ss) = if s.passes then ahead s (comes_in items ss) else (passed.Left [], with_more items s ∷ ss)

-- the stage at a place is another one then, and lets items go
abbrev pub goes_in : ℕ → Stage → List ChainItem → List Stage → PassOutcome × List Stage
goes_in k t items [] = (passed.Left items, [])
goes_in zero t items (s ∷ ss) = ahead t (comes_in items ss)
goes_in (suc k) t items (s ∷ ss) = ahead s (goes_in k t items ss)

onto_ahead : (to : ℕ) (items : List ChainItem) (s : Stage) (ss : List Stage) (o : Option Stage) → append_to (suc to) items (s ∷ ss) o ≡ ahead s (append_to to items ss o)
onto_ahead to items s ss None = refl
onto_ahead to items s ss (Some t) = refl

target_next : (k : ℕ) (x : Stage) (xs : List Stage) → target (suc k) (x ∷ xs) ≡ suc (target k xs)
target_next k x xs = omega arith

target_here : (x : Stage) (xs : List Stage) → x.passes ≡ false → target 0 (x ∷ xs) ≡ 0
target_here x xs is =
    let e : position_or_len (λ (t : Stage). not t.passes) (x ∷ xs) ≡ 0 = ap (λ (c : Bool). cond (not (not c)) (1 + position_or_len (λ (t : Stage). not t.passes) xs) 0) is in
    omega (arith, e)

target_there : (x : Stage) (xs : List Stage) → x.passes ≡ true → target 0 (x ∷ xs) ≡ suc (target 0 xs)
target_there x xs is =
    let e : position_or_len (λ (t : Stage). not t.passes) (x ∷ xs) ≡ 1 + position_or_len (λ (t : Stage). not t.passes) xs
    = ap (λ (c : Bool). cond (not (not c)) (1 + position_or_len (λ (t : Stage). not t.passes) xs) 0) is in
    omega (arith, e)

pub comes_is : (items : List ChainItem) (ss : List Stage) → append_to (target 0 ss) items ss (slice_get ss (target 0 ss)) ≡ comes_in items ss
comes_is items [] = refl
comes_is items (s ∷ ss) = by_passes (comes_is items ss) s.passes refl
  where
    by_passes : append_to (target 0 ss) items ss (slice_get ss (target 0 ss)) ≡ comes_in items ss → (b : Bool) → s.passes ≡ b
        → append_to (target 0 (s ∷ ss)) items (s ∷ ss) (slice_get (s ∷ ss) (target 0 (s ∷ ss))) ≡ (if s.passes then ahead s (comes_in items ss) else (passed.Left [], with_more items s ∷ ss))
    by_passes later true is =
        let to : target 0 (s ∷ ss) ≡ suc (target 0 ss) = target_there s ss is in
        (λ i. append_to (to i) items (s ∷ ss) (slice_get (s ∷ ss) (to i)))
        ∙ (onto_ahead (target 0 ss) items s ss (slice_get ss (target 0 ss))
        ∙ (ap (ahead s) later ∙ ap (λ (c : Bool). if c then ahead s (comes_in items ss) else (passed.Left [], with_more items s ∷ ss)) (sym is)))
    by_passes later false is =
        let to : target 0 (s ∷ ss) ≡ zero = target_here s ss is in
        (λ i. append_to (to i) items (s ∷ ss) (slice_get (s ∷ ss) (to i)))
        ∙ ap (λ (c : Bool). if c then ahead s (comes_in items ss) else (passed.Left [], with_more items s ∷ ss)) (sym is)

goes_from : (items : List ChainItem) (ss : List Stage) (k : ℕ) (s t : Stage) → slice_get ss k ≡ Some s
    → append_to (target (suc k) ss) items (slice_set ss k t) (slice_get ss (target (suc k) ss)) ≡ goes_in k t items ss
goes_from items [] k s t at = absurd (cc)
goes_from items (x ∷ xs) zero s t at =
    (λ i. append_to (target_next zero x xs i) items (t ∷ xs) (slice_get (x ∷ xs) (target_next zero x xs i)))
    ∙ (onto_ahead (target 0 xs) items t xs (slice_get xs (target 0 xs)) ∙ ap (ahead t) (comes_is items xs))
goes_from items (x ∷ xs) (suc k) s t at =
    (λ i. append_to (target_next (suc k) x xs i) items (x ∷ slice_set xs k t) (slice_get (x ∷ xs) (target_next (suc k) x xs i)))
    ∙ (onto_ahead (target (suc k) xs) items x (slice_set xs k t) (slice_get xs (target (suc k) xs)) ∙ ap (ahead x) (goes_from items xs k s t at))

pub goes_is : (items : List ChainItem) (ss : List Stage) (k : ℕ) (s t : Stage) → slice_get ss k ≡ Some s
    → append_to (target (k + 1) ss) items (slice_set ss k t) (slice_get ss (target (k + 1) ss)) ≡ goes_in k t items ss
goes_is items ss k s t at =
    let next : k + 1 ≡ suc k = omega arith in
    (λ i. append_to (target (next i) ss) items (slice_set ss k t) (slice_get ss (target (next i) ss))) ∙ goes_from items ss k s t at
