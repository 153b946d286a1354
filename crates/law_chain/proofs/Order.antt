-- Nothing overtakes the end of a message in a chain.
use Rattle.std.proofs.Common.{◌≡◌, ℕ, zero, suc, Bool, true, false, ◌||◌, List, [], ◌∷◌, ◌++◌, ap, ◌∙◌, sym, refl, subst}
use Rattle.std.specs.List.{list_any}
use Rattle.std.specs.Prelude.{Some, slice_get, slice_set, drop}
use Rattle.std.proofs.lemmas.List.{append_assoc, append-nil}
use Rattle.filter_chain.specs.declared.stage.Stage.{Stage}
use Rattle.filter_chain.specs.declared.item.ChainItem.{ChainItem}
use Rattle.filter_chain.specs.declared.item.ChainItem.TheVariants.{Head, Piece, Trailers}
use Rattle.filter_chain.specs.declared.item.Held.{Held}
use Rattle.filter_chain.specs.declared.item.Held.TheVariants as held
use Rattle.filter_chain.specs.Items.{piece_of, held_items}
use Rattle.filter_chain.specs.declared.item.PassOutcome.{PassOutcome}
use Rattle.filter_chain.specs.declared.item.PassOutcome.TheVariants as passed
use Rattle.filter_chain.specs.Chains.{with_more, without_hold, bypassed_stage}
use Rattle.filter_chain.specs.Flow.{left_in}
use Rattle.law_chain.specs.PassThrough.{is_end, IsInOrder, bare, bare_all, bare_held, bare_at, bare_in, Thinner, none, keeps, drops}
use Rattle.law_chain.specs.Sound.{IsEmpty, AreOpen}
use Rattle.law_chain.proofs.Targets.{by_bool, ahead, comes_in, goes_in}

-- ---- items without their bytes

pub ends_more : (a b : List ChainItem) → bare_all (a ++ b) ≡ bare_all a ++ bare_all b
ends_more [] b = refl
ends_more (i ∷ a) b = ap (λ (l : List ChainItem). bare i ∷ l) (ends_more a b)

-- ---- the same but for some pieces

pub thin_here : (ms : List ChainItem) → Thinner ms ms
thin_here [] = none
thin_here (b ∷ ms) = keeps (thin_here ms)

pub thin_same : (ms ns : List ChainItem) → ms ≡ ns → Thinner ms ns
thin_same ms ns same = subst (λ (l : List ChainItem). Thinner ms l) same (thin_here ms)

pub thin_both : {a b c d : List ChainItem} → Thinner a b → Thinner c d → Thinner (a ++ c) (b ++ d)
thin_both none r = r
thin_both (keeps q) r = keeps (thin_both q r)
thin_both (drops q) r = drops (thin_both q r)

pub thin_then : {a b c : List ChainItem} → Thinner a b → Thinner b c → Thinner a c
thin_then none r = r
thin_then (drops q) r = drops (thin_then q r)
thin_then (keeps q) (keeps r) = keeps (thin_then q r)
thin_then (keeps q) (drops r) = drops (thin_then q r)

-- ---- an end is last

thin_none : {a b : List ChainItem} → Thinner a b → a ≡ [] → b ≡ []
thin_none none is = refl
thin_none (keeps q) is = absurd (cc)
thin_none (drops q) is = absurd (cc)

pub last_thin : {a b : List ChainItem} → Thinner a b → IsInOrder a → IsInOrder b
last_thin none last = last
last_thin (drops q) last = last_thin q last.1
last_thin (keeps q) last = (λ is. thin_none q (last.0 is), last_thin q last.1)

end_bare : (i : ChainItem) → is_end (bare i) ≡ is_end i
end_bare (Head end) = refl
end_bare (Piece bytes end) = refl
end_bare Trailers = refl

pub last_in : (items : List ChainItem) → IsInOrder items → IsInOrder (bare_all items)
last_in [] order = tt
last_in (i ∷ items) order = (λ is. ap bare_all (order.0 (sym (end_bare i) ∙ is)), last_in items order.1)

pub none_both : (a b : List ChainItem) → a ++ b ≡ [] → (a ≡ []) × (b ≡ [])
none_both [] b is = (refl, is)
none_both (x ∷ a) b is = absurd (cc)

pub order_bare : (items : List ChainItem) → IsInOrder (bare_all items) → IsInOrder items
order_bare [] order = tt
order_bare (i ∷ items) order = (λ is. no_item items (order.0 (end_bare i ∙ is)), order_bare items order.1)
  where
    no_item : (items : List ChainItem) → bare_all items ≡ [] → items ≡ []
    no_item [] is = refl
    no_item (j ∷ items) is = absurd (cc is)

pub order_front : (a b : List ChainItem) → IsInOrder (a ++ b) → IsInOrder a
order_front [] b order = tt
order_front (i ∷ a) b order = (λ is. (none_both a b (order.0 is)).0, order_front a b order.1)

pub order_behind : (a b : List ChainItem) → IsInOrder (a ++ b) → IsInOrder b
order_behind [] b order = order
order_behind (i ∷ a) b order = order_behind a b order.1

pub last_left : (items : List ChainItem) (ms : List ChainItem) → IsInOrder (bare_all items ++ ms) → list_any is_end items ≡ true → ms ≡ []
last_left [] ms last some = absurd (cc)
last_left (i ∷ items) ms last some = by_end (last_left items ms last.1) (is_end i) refl
  where
    by_end : (list_any is_end items ≡ true → ms ≡ []) → (b : Bool) → is_end i ≡ b → ms ≡ []
    by_end later true is = (none_both (bare_all items) ms (last.0 (end_bare i ∙ is))).1
    by_end later false is = later (ap (λ (c : Bool). c || list_any is_end items) (sym is) ∙ some)

-- ---- an item comes

more_ends : (items : List ChainItem) (s : Stage) → bare_at (with_more items s) ≡ bare_at s ++ bare_all items
more_ends items s = ap (λ (l : List ChainItem). bare_held s.held ++ l) (ends_more s.waiting items) ∙ sym (append_assoc (bare_held s.held) (bare_all s.waiting) (bare_all items))

empty_bare : (s : Stage) → IsEmpty s → bare_at s ≡ []
empty_bare s empty = λ i. bare_held (empty.holding i) ++ bare_all (empty.waiting i)

pub comes_ends : (items : List ChainItem) (ss : List Stage) → AreOpen ss
    → Thinner (bare_in ss ++ bare_all items) (bare_all (left_in (comes_in items ss).0) ++ bare_in (comes_in items ss).1)
comes_ends items [] all = thin_same (bare_all items) (bare_all items ++ []) (sym (append-nil (bare_all items)))
comes_ends items (s ∷ ss) all =
    by_bool (λ (r : PassOutcome × List Stage). Thinner ((bare_in ss ++ bare_at s) ++ bare_all items) (bare_all (left_in r.0) ++ bare_in r.1)) s.passes (ahead s (comes_in items ss))
    (passed.Left [], with_more items s ∷ ss)
    (λ is.
    let r : PassOutcome × List Stage = comes_in items ss in
    let nothing : bare_at s ≡ [] = empty_bare s (all.0 is) in
    let from : bare_in ss ++ bare_all items ≡ (bare_in ss ++ bare_at s) ++ bare_all items
    = sym (ap (λ (l : List ChainItem). (bare_in ss ++ l) ++ bare_all items) nothing ∙ ap (λ (l : List ChainItem). l ++ bare_all items) (append-nil (bare_in ss))) in
    let to : bare_all (left_in r.0) ++ bare_in r.1 ≡ bare_all (left_in r.0) ++ (bare_in r.1 ++ bare_at s)
    = sym (ap (λ (l : List ChainItem). bare_all (left_in r.0) ++ (bare_in r.1 ++ l)) nothing ∙ ap (λ (l : List ChainItem). bare_all (left_in r.0) ++ l) (append-nil (bare_in r.1))) in
    subst (λ (l : List ChainItem). Thinner l (bare_all (left_in r.0) ++ (bare_in r.1 ++ bare_at s))) from
    (subst (Thinner (bare_in ss ++ bare_all items)) to (comes_ends items ss all.1)))
    (λ is.
    thin_same ((bare_in ss ++ bare_at s) ++ bare_all items) (bare_in ss ++ bare_at (with_more items s))
    (append_assoc (bare_in ss) (bare_at s) (bare_all items) ∙ ap (λ (l : List ChainItem). bare_in ss ++ l) (sym (more_ends items s))))

-- ---- a stage is asked

pub set_ends : (ss : List Stage) (k : ℕ) (s t : Stage) → slice_get ss k ≡ Some s → bare_at t ≡ bare_at s → bare_in (slice_set ss k t) ≡ bare_in ss
set_ends [] k s t at same = refl
set_ends (x ∷ xs) zero s t at same =
    let here : x ≡ s = (cc) in
    ap (λ (l : List ChainItem). bare_in xs ++ l) (same ∙ ap bare_at (sym here))
set_ends (x ∷ xs) (suc k) s t at same = ap (λ (l : List ChainItem). l ++ bare_at x) (set_ends xs k s t at same)

-- ---- what a stage holds goes on

piece_ends : (bytes : List ℕ) (end : Bool) → Thinner (Piece [] end ∷ []) (bare_all (piece_of bytes end))
piece_ends [] false = drops none
piece_ends [] true = keeps none
piece_ends (b ∷ bytes) end = keeps none

pub held_thin : (h : Held) (bytes : List ℕ) → Thinner (bare_held h) (bare_all (held_items h bytes))
held_thin held.Nothing bytes = none
held_thin (held.Head end) bytes = keeps none
held_thin (held.Body end) bytes = piece_ends bytes end
held_thin (held.Trailers false) bytes = keeps none
held_thin (held.Trailers true) [] = drops (keeps none)
held_thin (held.Trailers true) (b ∷ bytes) = keeps (keeps none)

goes_on_ends : (items : List ChainItem) (ss : List Stage) (k : ℕ) (s t : Stage) → slice_get ss k ≡ Some s → AreOpen ss → Thinner (bare_at s) (bare_all items ++ bare_at t)
    → Thinner (bare_in ss) (bare_all (left_in (goes_in k t items ss).0) ++ bare_in (goes_in k t items ss).1)
goes_on_ends items [] k s t at all thin = absurd (cc)
goes_on_ends items (x ∷ xs) zero s t at all thin =
    let here : x ≡ s = (cc) in
    let r : PassOutcome × List Stage = comes_in items xs in
    let first : Thinner (bare_at x) (bare_all items ++ bare_at t) = subst (λ (y : Stage). Thinner (bare_at y) (bare_all items ++ bare_at t)) (sym here) thin in
    let second : Thinner ((bare_in xs ++ bare_all items) ++ bare_at t) ((bare_all (left_in r.0) ++ bare_in r.1) ++ bare_at t)
    = thin_both (comes_ends items xs all.1) (thin_here (bare_at t)) in
    thin_then (thin_both (thin_here (bare_in xs)) first)
    (subst (λ (l : List ChainItem). Thinner l (bare_all (left_in r.0) ++ (bare_in r.1 ++ bare_at t))) (append_assoc (bare_in xs) (bare_all items) (bare_at t))
    (subst (Thinner ((bare_in xs ++ bare_all items) ++ bare_at t)) (append_assoc (bare_all (left_in r.0)) (bare_in r.1) (bare_at t)) second))
goes_on_ends items (x ∷ xs) (suc k) s t at all thin =
    let r : PassOutcome × List Stage = goes_in k t items xs in
    subst (Thinner (bare_in xs ++ bare_at x)) (append_assoc (bare_all (left_in r.0)) (bare_in r.1) (bare_at x))
    (thin_both (goes_on_ends items xs k s t at all.1 thin) (thin_here (bare_at x)))

pub goes_ends : (bytes : List ℕ) (ss : List Stage) (k : ℕ) (s : Stage) → slice_get ss k ≡ Some s → AreOpen ss
    → Thinner (bare_in ss) (bare_all (left_in (goes_in k (without_hold s) (held_items s.held bytes) ss).0) ++ bare_in (goes_in k (without_hold s) (held_items s.held bytes) ss).1)
goes_ends bytes ss k s at all = goes_on_ends (held_items s.held bytes) ss k s (without_hold s) at all (thin_both (held_thin s.held bytes) (thin_here (bare_all s.waiting)))

-- with what waits
pub through_ends : (bytes : List ℕ) (ss : List Stage) (k : ℕ) (s : Stage) → slice_get ss k ≡ Some s → AreOpen ss
    → Thinner (bare_in ss)
    (bare_all (left_in (goes_in k (bypassed_stage s) (held_items s.held bytes ++ s.waiting) ss).0) ++ bare_in (goes_in k (bypassed_stage s) (held_items s.held bytes ++ s.waiting) ss).1)
through_ends bytes ss k s at all =
    let items : List ChainItem = held_items s.held bytes ++ s.waiting in
    goes_on_ends items ss k s (bypassed_stage s) at all
    (subst (Thinner (bare_at s)) (sym (append-nil (bare_all items) ∙ ends_more (held_items s.held bytes) s.waiting)) (thin_both (held_thin s.held bytes) (thin_here (bare_all s.waiting))))

-- ---- where all ends have left

pub ends_behind : (n : ℕ) (ss : List Stage) → bare_in ss ≡ [] → bare_in (drop n ss) ≡ []
ends_behind zero ss is = is
ends_behind (suc n) [] is = refl
ends_behind (suc n) (s ∷ ss) is = ends_behind n ss (none_both (bare_in ss) (bare_at s) is).0
