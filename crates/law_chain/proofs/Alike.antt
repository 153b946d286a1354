-- Stages stay those of their contexts, whatever becomes of what they hold.
use Rattle.std.proofs.Common.{◌≡◌, ℕ, zero, suc, List, [], ◌∷◌, length, ap, ◌∙◌, sym, refl, subst}
use Rattle.std.specs.Prelude.{Some, slice_get, slice_set}
use Rattle.contexts.specs.declared.parts.Contexts.{Contexts}
use Rattle.contexts.specs.Holding.{IsThere}
use Rattle.filter_chain.specs.declared.stage.Stage.{Stage}
use Rattle.filter_chain.specs.declared.item.ChainItem.{ChainItem}
use Rattle.filter_chain.specs.declared.item.PassOutcome.{PassOutcome}
use Rattle.filter_chain.specs.declared.item.PassOutcome.TheVariants as passed
use Rattle.filter_chain.specs.Chains.{with_more}
use Rattle.filter_chain.specs.Flow.{IsOtherThan, NoneIs, IsAlone}
use Rattle.law_chain.specs.Acts.{AreThere}
use Rattle.law_chain.specs.PassThrough.{AreApart}
use Rattle.law_chain.proofs.Targets.{by_bool, ahead, comes_in, goes_in}

-- the same stage, but for what waits at it and what it holds
pub record IsSame (s t : Stage) : Type 0 where
  pub vm : t.vm ≡ s.vm
  pub context : t.context ≡ s.context
  pub response : t.response ≡ s.response

pub same_here : (s : Stage) → IsSame s s
same_here s = record { vm = refl; context = refl; response = refl }

abbrev pub AreSame : List Stage → List Stage → Type 0
AreSame [] [] = Unit {0}
AreSame [] (t ∷ ts) = ⊥
AreSame (s ∷ ss) [] = ⊥
AreSame (s ∷ ss) (t ∷ ts) = IsSame s t × AreSame ss ts

pub same_all : (ss : List Stage) → AreSame ss ss
same_all [] = tt
same_all (s ∷ ss) = (same_here s, same_all ss)

pub same_set : (ss : List Stage) (k : ℕ) (s t : Stage) → slice_get ss k ≡ Some s → IsSame s t → AreSame ss (slice_set ss k t)
same_set [] k s t at same = tt
same_set (x ∷ xs) zero s t at same =
    let here : x ≡ s = (cc) in
    (subst (λ (y : Stage). IsSame y t) (sym here) same, same_all xs)
same_set (x ∷ xs) (suc k) s t at same = (same_here x, same_set xs k s t at same)

more_same : (items : List ChainItem) (s : Stage) → IsSame s (with_more items s)
more_same items s = record { vm = refl; context = refl; response = refl }

pub comes_same : (items : List ChainItem) (ss : List Stage) → AreSame ss (comes_in items ss).1
comes_same items [] = tt
comes_same items (s ∷ ss) =
    by_bool (λ (r : PassOutcome × List Stage). AreSame (s ∷ ss) r.1) s.passes (ahead s (comes_in items ss)) (passed.Left [], with_more items s ∷ ss)
    (λ is. (same_here s, comes_same items ss)) (λ is. (more_same items s, same_all ss))

-- what a stage holds goes to the next one
pub goes_same : (items : List ChainItem) (ss : List Stage) (k : ℕ) (s t : Stage) → slice_get ss k ≡ Some s → IsSame s t → AreSame ss (goes_in k t items ss).1
goes_same items [] k s t at same = absurd (cc)
goes_same items (x ∷ xs) zero s t at same =
    let here : x ≡ s = (cc) in
    (subst (λ (y : Stage). IsSame y t) (sym here) same, comes_same items xs)
goes_same items (x ∷ xs) (suc k) s t at same = (same_here x, goes_same items xs k s t at same)

-- ---- they are as many, there, apart, and asked

pub same_length : (ss ts : List Stage) → AreSame ss ts → length ts ≡ length ss
same_length [] [] same = refl
same_length [] (t ∷ ts) same = absurd same
same_length (s ∷ ss) [] same = absurd same
same_length (s ∷ ss) (t ∷ ts) same = ap suc (same_length ss ts same.1)

pub there_same : (h : Contexts) (ss ts : List Stage) → AreSame ss ts → AreThere h ss → AreThere h ts
there_same h [] [] same there = tt
there_same h [] (t ∷ ts) same there = absurd same
there_same h (s ∷ ss) [] same there = absurd same
there_same h (s ∷ ss) (t ∷ ts) same there = (
  subst (λ vm. IsThere h vm t.context) (sym same.0.vm) (subst (λ context. IsThere h s.vm context) (sym same.0.context) there.0),
  there_same h ss ts same.1 there.1,
)

other_same : (s t u v : Stage) → IsSame s u → IsSame t v → IsOtherThan s t → IsOtherThan u v
other_same s t u v a b apart = λ vm context response. apart (sym b.vm ∙ (vm ∙ a.vm)) (sym b.context ∙ (context ∙ a.context)) (sym b.response ∙ (response ∙ a.response))

none_same : (s u : Stage) (ss ts : List Stage) → IsSame s u → AreSame ss ts → NoneIs s ss → NoneIs u ts
none_same s u [] [] a same none = tt
none_same s u [] (t ∷ ts) a same none = absurd same
none_same s u (x ∷ ss) [] a same none = absurd same
none_same s u (x ∷ ss) (t ∷ ts) a same none = (other_same s x u t a same.0 none.0, none_same s u ss ts a same.1 none.1)

pub apart_same : (ss ts : List Stage) → AreSame ss ts → AreApart ss → AreApart ts
apart_same [] [] same apart = tt
apart_same [] (t ∷ ts) same apart = absurd same
apart_same (s ∷ ss) [] same apart = absurd same
apart_same (s ∷ ss) (t ∷ ts) same apart = (none_same s t ss ts same.0 same.1 apart.0, apart_same ss ts same.1 apart.1)

-- ---- one of them

other_back : (s t : Stage) → IsOtherThan s t → IsOtherThan t s
other_back s t apart = λ vm context response. apart (sym vm) (sym context) (sym response)

none_at : (t : Stage) (ss : List Stage) (k : ℕ) (s : Stage) → slice_get ss k ≡ Some s → NoneIs t ss → IsOtherThan t s
none_at t [] k s at none = absurd (cc)
none_at t (x ∷ xs) zero s at none =
    let here : x ≡ s = (cc) in
    subst (λ (y : Stage). IsOtherThan t y) here none.0
none_at t (x ∷ xs) (suc k) s at none = none_at t xs k s at none.1

pub alone_at : (ss : List Stage) (k : ℕ) (s : Stage) → slice_get ss k ≡ Some s → AreApart ss → IsAlone s k ss
alone_at [] k s at apart = tt
alone_at (x ∷ xs) zero s at apart =
    let here : x ≡ s = (cc) in
    subst (λ (y : Stage). NoneIs y xs) here apart.0
alone_at (x ∷ xs) (suc k) s at apart = (other_back x s (none_at x xs k s at apart.0), alone_at xs k s at apart.1)

pub there_at : (h : Contexts) (ss : List Stage) (k : ℕ) (s : Stage) → slice_get ss k ≡ Some s → AreThere h ss → IsThere h s.vm s.context
there_at h [] k s at there = absurd (cc)
there_at h (x ∷ xs) zero s at there =
    let here : x ≡ s = (cc) in
    subst (λ (y : Stage). IsThere h y.vm y.context) here there.0
there_at h (x ∷ xs) (suc k) s at there = there_at h xs k s at there.1
