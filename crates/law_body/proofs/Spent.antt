-- A stage that passes everything, and at which nothing waits, stays so, and is asked nothing, whatever is done to its chain.
use Rattle.std.proofs.Common.{◌≡◌, ◌⊎◌, ℕ, zero, suc, ◌+◌, Bool, true, false, not, ◌||◌, List, [], ◌∷◌, ◌++◌, length, drop, cond, ap, ◌∙◌, sym, refl, subst, inl, inr, ⊎_elim, arith}
use Rattle.std.specs.List.{position_or_len}
use Rattle.std.specs.Prelude.{Option, None, Some, nat_le, slice_get, slice_set, if◌then◌else◌}
use Rattle.contexts.specs.declared.parts.Contexts.{Contexts}
use Rattle.filter_chain.specs.declared.item.Asking.{Asking}
use Rattle.filter_chain.specs.declared.item.Asking.TheVariants.{Nothing, Over, Asks}
use Rattle.filter_chain.specs.declared.item.ChainItem.{ChainItem}
use Rattle.filter_chain.specs.declared.item.ChainItem.TheVariants.{Head, Piece, Trailers}
use Rattle.filter_chain.specs.declared.item.PassOutcome.{PassOutcome}
use Rattle.filter_chain.specs.declared.item.PassOutcome.TheVariants as passed
use Rattle.filter_chain.specs.declared.stage.Stage.{Stage}
use Rattle.filter_chain.specs.Chains.{limit, bytes_at, target, with_more, append_to, accepts, hand_over, put, without_hold, bypassed_stage, unless_over, bytes_held, without_held, continued_at, continued, let_through_at, let_through, ask_item, with_stage, ask_stage, asked_at, asked, ready}
use Rattle.law_body.specs.Spent.{IsSpent, Spent}
use Rattle.filter_chain.specs.Items.{size, held_items, holds_bytes}
use Rattle.filter_chain.specs.declared.item.Held.TheVariants as held

pub of_if : {A : Type 0} (P : A → Type 0) (b : Bool) (p q : A) → (b ≡ true → P p) → (b ≡ false → P q) → P (if b then p else q)
of_if P true p q here there = here refl
of_if P false p q here there = there refl

pub neither : (a b : Bool) → (a || b) ≡ false → (a ≡ false) × (b ≡ false)
neither true b is = absurd (cc)
neither false b is = (refl, is)

pub not_both : (b : Bool) → b ≡ true → b ≡ false → ⊥
not_both b holds fails = cc

-- ---- where one is another then

pub got : {A : Type 0} (xs : List A) (k : ℕ) (t : A) (j : ℕ) (s : A) → slice_get (slice_set xs k t) j ≡ Some s → ((j ≡ k) × (s ≡ t)) ⊎ (slice_get xs j ≡ Some s)
got [] k t j s at = inr at
got (x ∷ xs) zero t zero s at = inl (refl, (cc))
got (x ∷ xs) zero t (suc j) s at = inr at
got (x ∷ xs) (suc k) t zero s at = inr at
got (x ∷ xs) (suc k) t (suc j) s at =
    ⊎_elim (λ (e : (j ≡ k) × (s ≡ t)). inl (ap suc e.0, e.1)) (λ (e : slice_get xs j ≡ Some s). inr e) (got xs k t j s at)

pub same_some : {A : Type 0} (s t : A) (o : Option A) → o ≡ Some s → o ≡ Some t → s ≡ t
same_some s t o one two = cc

-- ---- where items go

target_next : (k : ℕ) (x : Stage) (xs : List Stage) → target (suc k) (x ∷ xs) ≡ suc (target k xs)
target_next k x xs = omega arith

target_there : (x : Stage) (xs : List Stage) → x.passes ≡ true → target 0 (x ∷ xs) ≡ suc (target 0 xs)
target_there x xs is =
    let e : position_or_len (λ (t : Stage). not t.passes) (x ∷ xs) ≡ 1 + position_or_len (λ (t : Stage). not t.passes) xs
    = ap (λ (c : Bool). cond (not (not c)) (1 + position_or_len (λ (t : Stage). not t.passes) xs) 0) is in
    omega (arith, e)

target_here : (x : Stage) (xs : List Stage) → x.passes ≡ false → target 0 (x ∷ xs) ≡ 0
target_here x xs is =
    let e : position_or_len (λ (t : Stage). not t.passes) (x ∷ xs) ≡ 0 = ap (λ (c : Bool). cond (not (not c)) (1 + position_or_len (λ (t : Stage). not t.passes) xs) 0) is in
    omega (arith, e)

-- to a stage that does not pass everything
pub takes_items : (from : ℕ) (ss : List Stage) (s : Stage) → slice_get ss (target from ss) ≡ Some s → s.passes ≡ false
takes_items from [] s at = absurd (cc)
takes_items (suc from) (x ∷ xs) s at = takes_items from xs s (subst (λ (n : ℕ). slice_get (x ∷ xs) n ≡ Some s) (target_next from x xs) at)
takes_items zero (x ∷ xs) s at = by_passes (takes_items zero xs s) x.passes refl
  where
    by_passes : (slice_get xs (target 0 xs) ≡ Some s → s.passes ≡ false) → (b : Bool) → x.passes ≡ b → s.passes ≡ false
    by_passes later true is = later (subst (λ (n : ℕ). slice_get (x ∷ xs) n ≡ Some s) (target_there x xs is) at)
    by_passes later false is =
        let here : Some x ≡ Some s = subst (λ (n : ℕ). slice_get (x ∷ xs) n ≡ Some s) (target_here x xs is) at in
        let same : x ≡ s = same_some x s (Some x) refl here in
        sym (ap (λ (t : Stage). t.passes) same) ∙ is

-- ---- spent stages

pub none_spent : (N : ℕ → ℕ → Type 0) → Spent N []
none_spent N j s at n = absurd (cc at)

pub spent_for : (N M : ℕ → ℕ → Type 0) (ss : List Stage) → ((j : ℕ) (s : Stage) → slice_get ss j ≡ Some s → M j s.vm → N j s.vm) → Spent N ss → Spent M ss
spent_for N M ss fewer spent j s at m = spent j s at (fewer j s at m)

module _ (N : ℕ → ℕ → Type 0) where
  pub set_spent : (ss : List Stage) (k : ℕ) (t : Stage) → Spent N ss → (N k t.vm → IsSpent t) → Spent N (slice_set ss k t)
  set_spent ss k t spent new j s at n =
      ⊎_elim
      (λ (e : (j ≡ k) × (s ≡ t)).
      let needed : N k t.vm = subst (λ (i : ℕ). N i t.vm) e.0 (subst (λ (u : Stage). N j u.vm) e.1 n) in
      subst IsSpent (sym e.1) (new needed))
      (λ (e : slice_get ss j ≡ Some s). spent j s e n) (got ss k t j s at)

  given_spent : (h : Contexts) (n : ℕ) (items : List ChainItem) (from : ℕ) (stages changed : List Stage) → Spent N stages → Spent N changed → Spent N (hand_over h n items from stages changed).1
  given_spent h n items from stages changed spent new =
      of_if (λ (r : PassOutcome × List Stage). Spent N r.1) (accepts h n (slice_get stages (target from stages))) _ _ (λ is. by_stage (slice_get stages (target from stages)) refl) (λ is. spent)
    where
      by_stage : (o : Option Stage) → slice_get stages (target from stages) ≡ o → Spent N (append_to (target from stages) items changed o).1
      by_stage None at = new
      by_stage (Some s) at =
          set_spent changed (target from stages) (with_more items s) new
          (λ needed. absurd (not_both s.passes ((spent (target from stages) s at needed).passes) (takes_items from stages s at)))

  pub put_spent : (h : Contexts) (item : ChainItem) (stages : List Stage) → Spent N stages → Spent N (put h item stages).1
  put_spent h item stages spent = given_spent h (size (item ∷ [])) (item ∷ []) 0 stages stages spent spent

  over_same : (before after : Contexts) (r : PassOutcome × List Stage) → Spent N r.1 → Spent N (unless_over before after r).1
  over_same before after (passed.Over, stages) spent = spent
  over_same before after (passed.Left items, stages) spent = spent

  pub continued_spent : (h : Contexts) (k : ℕ) (stages : List Stage) → Spent N stages → Spent N (continued h k stages).1
  continued_spent h k stages spent = by_stage (slice_get stages k) refl
    where
      by_stage : (o : Option Stage) → slice_get stages k ≡ o → Spent N (continued_at h k stages o).1
      by_stage None at = spent
      by_stage (Some s) at =
          over_same h (without_held h s) (hand_over h (length (bytes_held h s)) (held_items s.held (bytes_held h s)) (k + 1) stages (slice_set stages k (without_hold s)))
          (given_spent h (length (bytes_held h s)) (held_items s.held (bytes_held h s)) (k + 1) stages (slice_set stages k (without_hold s)) spent
          (set_spent stages k (without_hold s) spent (λ needed. let is : IsSpent s = spent k s at needed in record { passes = is.passes; waiting = is.waiting })))

  -- what is so where a stage is asked: it is none of those of which it is needed
  abbrev pub AskedSo : Asking × List Stage × Contexts → Type 0
  AskedSo (Nothing, after, h) = Spent N after
  AskedSo (Over k, after, h) = Spent N after
  AskedSo (Asks ask, after, h) = Spent N after × ((s : Stage) → slice_get after ask.stage ≡ Some s → N ask.stage s.vm → ⊥)

  -- where the stage at a place becomes this, of the same VM, to which something came that waited
  asks_so : (stages : List Stage) (k : ℕ) (s t : Stage) (i : ChainItem) (w : List ChainItem) → Spent N stages → slice_get stages k ≡ Some s → s.waiting ≡ i ∷ w → t.vm ≡ s.vm
      → Spent N (slice_set stages k t) × ((u : Stage) → slice_get (slice_set stages k t) k ≡ Some u → N k u.vm → ⊥)
  asks_so stages k s t i w spent at some same =
      let never : N k s.vm → ⊥ = λ (needed : N k s.vm). let is : IsSpent s = spent k s at needed in cc (some, is.waiting) in (
        set_spent stages k t spent (λ needed. absurd (never (subst (λ (v : ℕ). N k v) same needed))),
        λ u there needed.
            ⊎_elim (λ (e : (k ≡ k) × (u ≡ t)). never (subst (λ (v : ℕ). N k v) (ap (λ (x : Stage). x.vm) e.1 ∙ same) needed))
            (λ (e : slice_get stages k ≡ Some u). never (subst (λ (x : Stage). N k x.vm) (same_some u s (slice_get stages k) e at) needed)) (got stages k t k u there),
      )

  pub asked_spent : (h : Contexts) (stages : List Stage) → Spent N stages → AskedSo (asked h stages)
  asked_spent h stages spent = by_ready (ready stages)
    where
      by_item : (k : ℕ) (s : Stage) → slice_get stages k ≡ Some s → (w : List ChainItem) → s.waiting ≡ w → AskedSo (with_stage k stages (ask_item h k s w))
      by_item k s at [] is = set_spent stages k s spent (λ needed. spent k s at needed)
      by_item k s at (Head end ∷ w) is = asks_so stages k s (record s { waiting = w; held = held.Head end }) (Head end) w spent at is refl
      by_item k s at (Piece bytes end ∷ w) is =
          of_if (λ (r : Asking × Stage × Contexts). AskedSo (with_stage k stages r)) (nat_le (length (bytes_at h s) + length bytes) limit) _ _
          (λ fits. asks_so stages k s (record s { waiting = w; held = held.Body end }) (Piece bytes end) w spent at is refl) (λ much. set_spent stages k s spent (λ needed. spent k s at needed))
      by_item k s at (Trailers ∷ w) is = asks_so stages k s (record s { waiting = w; held = held.Trailers (holds_bytes s.held) }) Trailers w spent at is refl

      by_stage : (k : ℕ) (o : Option Stage) → slice_get stages k ≡ o → AskedSo (ask_stage h k stages o)
      by_stage k None at = spent
      by_stage k (Some s) at = by_item k s at s.waiting refl

      by_ready : (n : ℕ) → AskedSo (asked_at h stages n)
      by_ready zero = spent
      by_ready (suc k) = by_stage k (slice_get stages k) refl

-- ---- a stage is let through

-- it is spent then, unless what it held and what waited at it is too much
abbrev pub OrOver : (ℕ → ℕ → Type 0) → PassOutcome × List Stage × Contexts → Type 0
OrOver M (passed.Over, after, h) = Unit {0}
OrOver M (passed.Left items, after, h) = Spent M after

-- what was too much changed nothing
abbrev pub OverSame : List Stage → PassOutcome × List Stage × Contexts → Type 0
OverSame stages (passed.Over, after, h) = after ≡ stages
OverSame stages (passed.Left items, after, h) = Unit {0}

set_get : {A : Type 0} (xs : List A) (k : ℕ) (s t : A) → slice_get xs k ≡ Some s → slice_get (slice_set xs k t) k ≡ Some t
set_get [] k s t at = absurd (cc)
set_get (x ∷ xs) zero s t at = refl
set_get (x ∷ xs) (suc k) s t at = set_get xs k s t at

-- where it is needed of so many more than before as stand at a place, and the stage there is let through
module _ (N M : ℕ → ℕ → Type 0) (h : Contexts) (k : ℕ) (stages : List Stage) (more : (j w : ℕ) → M j w → (j ≡ k) ⊎ N j w) (spent : Spent N stages) where
  opened_spent : (s : Stage) → slice_get stages k ≡ Some s → Spent M (slice_set stages k (bypassed_stage s))
  opened_spent s there j t at m =
      ⊎_elim
      (λ (same : j ≡ k).
      let here : slice_get (slice_set stages k (bypassed_stage s)) k ≡ Some t = subst (λ (i : ℕ). slice_get (slice_set stages k (bypassed_stage s)) i ≡ Some t) same at in
      let is : t ≡ bypassed_stage s = same_some t (bypassed_stage s) (slice_get (slice_set stages k (bypassed_stage s)) k) here (set_get stages k s (bypassed_stage s) there) in
      subst IsSpent (sym is) (record { passes = refl; waiting = refl }))
      (λ (n : N j t.vm).
      ⊎_elim (λ (e : (j ≡ k) × (t ≡ bypassed_stage s)). subst IsSpent (sym e.1) (record { passes = refl; waiting = refl }))
      (λ (e : slice_get stages j ≡ Some t). spent j t e n) (got stages k (bypassed_stage s) j t at))
      (more j t.vm m)

  abbrev Opens : PassOutcome × List Stage → Type 0
  Opens (passed.Over, after) = after ≡ stages
  Opens (passed.Left items, after) = Spent M after

  onto_opens : (s : Stage) (items : List ChainItem) → slice_get stages k ≡ Some s → (o : Option Stage) → slice_get stages (target (k + 1) stages) ≡ o
      → Opens (append_to (target (k + 1) stages) items (slice_set stages k (bypassed_stage s)) o)
  onto_opens s items there None at = opened_spent s there
  onto_opens s items there (Some u) at =
      set_spent M (slice_set stages k (bypassed_stage s)) (target (k + 1) stages) (with_more items u) (opened_spent s there)
      (λ m. absurd
      (⊎_elim (λ (same : target (k + 1) stages ≡ k). never same)
      (λ (n : N (target (k + 1) stages) u.vm). not_both u.passes ((spent (target (k + 1) stages) u at n).passes) (takes_items (k + 1) stages u at))
      (more (target (k + 1) stages) u.vm m)))
    where
      never : target (k + 1) stages ≡ k → ⊥
      never same = omega arith

  through_opens : (s : Stage) → slice_get stages k ≡ Some s → OrOver M (let_through_at h k stages (Some s)) × OverSame stages (let_through_at h k stages (Some s))
  through_opens s there = by_given _ (of_if Opens (accepts h (length (bytes_held h s) + size s.waiting) (slice_get stages (target (k + 1) stages))) _ _
      (λ is. onto_opens s (held_items s.held (bytes_held h s) ++ s.waiting) there (slice_get stages (target (k + 1) stages)) refl) (λ is. refl))
    where
      by_given : (r : PassOutcome × List Stage) → Opens r → OrOver M (unless_over h (without_held h s) r) × OverSame stages (unless_over h (without_held h s) r)
      by_given (passed.Over, after) opens = (tt, opens)
      by_given (passed.Left items, after) opens = (opens, tt)

  pub let_through_opens : (s : Stage) → slice_get stages k ≡ Some s → OrOver M (let_through h k stages) × OverSame stages (let_through h k stages)
  let_through_opens s there = subst (λ (o : Option Stage). OrOver M (let_through_at h k stages o) × OverSame stages (let_through_at h k stages o)) (sym there) (through_opens s there)

-- ---- stages that are dropped, where it is needed by the VM alone

pub drop_spent : (D : ℕ → Type 0) (m : ℕ) (ss : List Stage) → Spent (λ (j w : ℕ). D w) ss → Spent (λ (j w : ℕ). D w) (drop m ss)
drop_spent D zero ss spent = spent
drop_spent D (suc m) [] spent = spent
drop_spent D (suc m) (x ∷ xs) spent = drop_spent D m xs (λ j s at d. spent (suc j) s at d)
