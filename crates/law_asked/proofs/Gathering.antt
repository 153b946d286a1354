-- Of items that are gathered.
use Rattle.std.proofs.Common.{◌≡◌, ℕ, zero, suc, List, [], ◌∷◌, ◌++◌, ap, sym, refl, subst}
use Rattle.std.proofs.lemmas.List.{append_assoc}
use Rattle.filter_chain.specs.declared.item.ChainItem.{ChainItem}
use Rattle.law_chain.specs.PassThrough.{bare, bare_all, Thinner}
use Rattle.law_chain.specs.PassThrough as thin
use Rattle.law_asked.specs.Asked.{where_same, Gathered, none, keeps, joins, drops}

pub gather_here : (ms : List ChainItem) → Gathered ms ms
gather_here [] = none
gather_here (i ∷ ms) = keeps (gather_here ms)

pub gather_same : (ms ns : List ChainItem) → ms ≡ ns → Gathered ms ns
gather_same ms ns same = subst (λ (l : List ChainItem). Gathered ms l) same (gather_here ms)

pub gather_both : {a b c d : List ChainItem} → Gathered a b → Gathered c d → Gathered (a ++ c) (b ++ d)
gather_both none r = r
gather_both (keeps q) r = keeps (gather_both q r)
gather_both (joins q) r = joins (gather_both q r)
gather_both (drops q) r = drops (gather_both q r)

pub gather_then : {a b c : List ChainItem} → Gathered a b → Gathered b c → Gathered a c
gather_then none r = r
gather_then (drops q) r = drops (gather_then q r)
gather_then (keeps q) (keeps r) = keeps (gather_then q r)
gather_then (keeps q) (joins r) = joins (gather_then q r)
gather_then (keeps q) (drops r) = drops (gather_then q r)
gather_then (joins q) (keeps r) = joins (gather_then q r)
gather_then (joins q) (joins r) = joins (gather_then q r)
gather_then (joins q) (drops r) = drops (gather_then q r)

pub of_thin : {a b : List ChainItem} → Thinner a b → Gathered a b
of_thin thin.none = none
of_thin (thin.keeps q) = keeps (of_thin q)
of_thin (thin.drops q) = drops (of_thin q)

-- the ends of both are moved
pub gather_at : (a b c d : List ChainItem) → a ≡ b → c ≡ d → Gathered b d → Gathered a c
gather_at a b c d first second q = subst (λ (l : List ChainItem). Gathered l c) (sym first) (subst (λ (l : List ChainItem). Gathered b l) (sym second) q)

-- what is behind both stays
pub gather_front : (a b c d : List ChainItem) → Gathered a (b ++ c) → Gathered (a ++ d) (b ++ (c ++ d))
gather_front a b c d q = subst (λ (l : List ChainItem). Gathered (a ++ d) l) (append_assoc b c d) (gather_both q (gather_here d))

-- what comes in between two steps
pub gather_steps : (a x y b u v c : List ChainItem) → Gathered (a ++ x) (u ++ b) → Gathered (b ++ y) (v ++ c) → Gathered (a ++ (x ++ y)) ((u ++ v) ++ c)
gather_steps a x y b u v c p q =
    gather_at (a ++ (x ++ y)) ((a ++ x) ++ y) ((u ++ v) ++ c) (u ++ (v ++ c)) (sym (append_assoc a x y)) (append_assoc u v c)
    (gather_then (gather_front (a ++ x) u b y p) (gather_both (gather_here u) q))

-- ---- where two places are one

pub where_none : (k j : ℕ) → where_same k j [] ≡ []
where_none zero zero = refl
where_none zero (suc j) = refl
where_none (suc k) zero = refl
where_none (suc k) (suc j) = where_none k j

pub where_apart : (k j : ℕ) (items : List ChainItem) → (j ≡ k → ⊥) → where_same k j items ≡ []
where_apart zero zero items apart = absurd (apart refl)
where_apart zero (suc j) items apart = refl
where_apart (suc k) zero items apart = refl
where_apart (suc k) (suc j) items apart = where_apart k j items (λ is. apart (ap suc is))

pub where_gathers : (k j : ℕ) {a b : List ChainItem} → Gathered a b → Gathered (where_same k j a) (where_same k j b)
where_gathers zero zero q = q
where_gathers zero (suc j) q = none
where_gathers (suc k) zero q = none
where_gathers (suc k) (suc j) q = where_gathers k j q
