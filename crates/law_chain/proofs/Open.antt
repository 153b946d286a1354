-- Stages that were let through stay empty, and the last one with a body callback is none of them.
use Rattle.std.proofs.Common.{◌≡◌, ℕ, zero, suc, true, false, List, [], ◌∷◌, ap, refl, subst}
use Rattle.std.specs.Prelude.{Some, slice_get, slice_set}
use Rattle.filter_chain.specs.declared.stage.Stage.{Stage}
use Rattle.filter_chain.specs.declared.item.ChainItem.{ChainItem}
use Rattle.filter_chain.specs.declared.item.PassOutcome.{PassOutcome}
use Rattle.filter_chain.specs.declared.item.PassOutcome.TheVariants as passed
use Rattle.filter_chain.specs.Chains.{with_more}
use Rattle.law_chain.specs.Sound.{IsEmpty, AreOpen, IsCut}
use Rattle.law_chain.proofs.Targets.{by_bool, ahead, comes_in, goes_in}

pub open_at : (ss : List Stage) (k : ℕ) (s : Stage) → slice_get ss k ≡ Some s → AreOpen ss → s.passes ≡ true → IsEmpty s
open_at [] k s at all = absurd (cc)
open_at (x ∷ xs) zero s at all =
    let here : x ≡ s = (cc) in
    subst (λ (y : Stage). y.passes ≡ true → IsEmpty y) here all.0
open_at (x ∷ xs) (suc k) s at all = open_at xs k s at all.1

pub open_comes : (items : List ChainItem) (ss : List Stage) → AreOpen ss → AreOpen (comes_in items ss).1
open_comes items [] all = tt
open_comes items (s ∷ ss) all =
    by_bool (λ (r : PassOutcome × List Stage). AreOpen r.1) s.passes (ahead s (comes_in items ss)) (passed.Left [], with_more items s ∷ ss)
    (λ is. (all.0, open_comes items ss all.1)) (λ is. (λ passes. absurd (cc (is, passes)), all.1))

pub open_goes : (items : List ChainItem) (ss : List Stage) (k : ℕ) (t : Stage) → (t.passes ≡ true → IsEmpty t) → AreOpen ss → AreOpen (goes_in k t items ss).1
open_goes items [] k t one all = tt
open_goes items (x ∷ xs) zero t one all = (one, open_comes items xs all.1)
open_goes items (x ∷ xs) (suc k) t one all = (all.0, open_goes items xs k t one all.1)

pub open_set : (ss : List Stage) (k : ℕ) (t : Stage) → (t.passes ≡ true → IsEmpty t) → AreOpen ss → AreOpen (slice_set ss k t)
open_set [] k t one all = tt
open_set (x ∷ xs) zero t one all = (one, all.1)
open_set (x ∷ xs) (suc k) t one all = (all.0, open_set xs k t one all.1)

-- ---- the cut

pub cut_tail : (n : ℕ) (x : Stage) (xs : List Stage) → IsCut (suc n) (x ∷ xs) → IsCut n xs
cut_tail zero x xs cut = tt
cut_tail (suc n) x xs cut = cut

pub stays_comes : (n : ℕ) (items : List ChainItem) (ss : List Stage) → IsCut n ss → IsCut n (comes_in items ss).1
stays_comes zero items ss cut = tt
stays_comes (suc n) items [] cut = absurd cut
stays_comes (suc zero) items (s ∷ ss) cut =
    by_bool (λ (r : PassOutcome × List Stage). IsCut (suc zero) r.1) s.passes (ahead s (comes_in items ss)) (passed.Left [], with_more items s ∷ ss) (λ is. cut) (λ is. cut)
stays_comes (suc (suc n)) items (s ∷ ss) cut =
    by_bool (λ (r : PassOutcome × List Stage). IsCut (suc (suc n)) r.1) s.passes (ahead s (comes_in items ss)) (passed.Left [], with_more items s ∷ ss)
    (λ is. stays_comes (suc n) items ss cut) (λ is. cut)

pub stays_goes : (n : ℕ) (items : List ChainItem) (ss : List Stage) (k : ℕ) (s t : Stage) → slice_get ss k ≡ Some s → (suc k ≡ n → s.passes ≡ false → t.passes ≡ false) → IsCut n ss
    → IsCut n (goes_in k t items ss).1
stays_goes zero items ss k s t at one cut = tt
stays_goes (suc n) items [] k s t at one cut = absurd cut
stays_goes (suc zero) items (x ∷ xs) zero s t at one cut =
    let here : x ≡ s = (cc) in
    one refl (subst (λ (y : Stage). y.passes ≡ false) here cut)
stays_goes (suc (suc n)) items (x ∷ xs) zero s t at one cut = stays_comes (suc n) items xs cut
stays_goes (suc zero) items (x ∷ xs) (suc k) s t at one cut = cut
stays_goes (suc (suc n)) items (x ∷ xs) (suc k) s t at one cut = stays_goes (suc n) items xs k s t at (λ is. one (ap suc is)) cut

pub stays_set : (n : ℕ) (ss : List Stage) (k : ℕ) (s t : Stage) → slice_get ss k ≡ Some s → (s.passes ≡ false → t.passes ≡ false) → IsCut n ss → IsCut n (slice_set ss k t)
stays_set zero ss k s t at one cut = tt
stays_set (suc n) [] k s t at one cut = absurd cut
stays_set (suc zero) (x ∷ xs) zero s t at one cut =
    let here : x ≡ s = (cc) in
    one (subst (λ (y : Stage). y.passes ≡ false) here cut)
stays_set (suc (suc n)) (x ∷ xs) zero s t at one cut = cut
stays_set (suc zero) (x ∷ xs) (suc k) s t at one cut = cut
stays_set (suc (suc n)) (x ∷ xs) (suc k) s t at one cut = stays_set (suc n) xs k s t at one cut
