-- The head of a request is past no stage that was not asked, whatever is done to its chain.
use Rattle.std.proofs.Common.{◌≡◌, ◌⊎◌, inl, inr, refl, ℕ, zero, suc, Bool, true, false, ◌&&◌, List, [], ◌∷◌, ◌++◌, Some, ap, ◌∙◌, sym, subst}
use Rattle.std.specs.Prelude.{slice_get, slice_set}
use Rattle.filter_chain.specs.Chains.{has_head, is_head, is_any, may_be_picked, with_more, without_hold, bypassed_stage}
use Rattle.filter_chain.specs.Items.{held_items, is_free}
use Rattle.filter_chain.specs.declared.item.ChainItem.{ChainItem}
use Rattle.filter_chain.specs.declared.item.ChainItem.TheVariants.{Head, Piece, Trailers}
use Rattle.filter_chain.specs.declared.item.Held.{Held}
use Rattle.filter_chain.specs.declared.item.Held.TheVariants as held
use Rattle.filter_chain.specs.declared.item.PassOutcome.{PassOutcome}
use Rattle.filter_chain.specs.declared.item.PassOutcome.TheVariants as passed
use Rattle.filter_chain.specs.declared.stage.Stage.{Stage}
use Rattle.law_chain.proofs.Targets.{by_bool, ahead, comes_in, goes_in}
use Rattle.law_filters.specs.Heads.{IsIdle, AreIdle, IsStageOf, HeadWaits, Awaits, Comes}

-- nothing left, and the stages are so
abbrev pub Kept : (List Stage → Type 0) → PassOutcome × List Stage → Type 0
Kept P r = (r.0 ≡ passed.Left []) × P r.1

stage_same : (a b : Stage) → Some a ≡ Some b → a ≡ b
stage_same a b is = cc is

not_both : (b : Bool) → b ≡ false → b ≡ true → ⊥
not_both true here there = cc here
not_both false here there = cc there

head_more : (ws items : List ChainItem) → has_head ws ≡ true → has_head (ws ++ items) ≡ true
head_more [] items is = absurd (cc is)
head_more (Head end ∷ ws) items is = refl
head_more (Piece bytes end ∷ ws) items is = absurd (cc is)
head_more (Trailers ∷ ws) items is = absurd (cc is)

idle_more : (s : Stage) → IsIdle s → IsIdle (with_more [] s)
idle_more s is = record { waiting = ap (λ (l : List ChainItem). l ++ []) is.waiting; holding = is.holding }

module _ (vm context : ℕ) where
  -- ---- items come to a chain

  idle_comes : (ss : List Stage) → AreIdle ss → Kept AreIdle (comes_in [] ss)
  idle_comes [] idle = (refl, tt)
  idle_comes (s ∷ ss) idle =
      let later : Kept AreIdle (comes_in [] ss) = idle_comes ss idle.1 in
      by_bool (Kept AreIdle) s.passes (ahead s (comes_in [] ss)) (passed.Left [], with_more [] s ∷ ss) (λ e. (later.0, (idle.0, later.1))) (λ e. (refl, (idle_more s idle.0, idle.1)))

  stage_more : (items : List ChainItem) (s : Stage) → IsStageOf vm context s → IsStageOf vm context (with_more items s)
  stage_more items s is = record { vm_is = is.vm_is; context_is = is.context_is; asking = is.asking }

  awaits_comes : (t : ℕ) (ss : List Stage) → Awaits vm context t ss → Kept (Awaits vm context t) (comes_in [] ss)
  awaits_comes zero [] is = absurd is
  awaits_comes (suc t) [] is = absurd is
  awaits_comes zero (s ∷ ss) is =
      by_bool (Kept (Awaits vm context zero)) s.passes (ahead s (comes_in [] ss)) (passed.Left [], with_more [] s ∷ ss) (λ e. absurd (not_both s.passes is.0.asking e))
      (λ e. (refl, (stage_more [] s is.0, idle_more s is.1, is.2)))
  awaits_comes (suc t) (s ∷ ss) is =
      let later : Kept (Awaits vm context t) (comes_in [] ss) = awaits_comes t ss is.1 in
      by_bool (Kept (Awaits vm context (suc t))) s.passes (ahead s (comes_in [] ss)) (passed.Left [], with_more [] s ∷ ss) (λ e. (later.0, (is.0, later.1))) (λ e. (refl, (idle_more s is.0, is.1)))

  head_first : (items : List ChainItem) (s : Stage) → has_head items ≡ true → IsIdle s → HeadWaits (with_more items s)
  head_first items s first is = record { waiting = ap (λ (l : List ChainItem). has_head (l ++ items)) is.waiting ∙ first; holding = is.holding }

  pub comes_head : (items : List ChainItem) → has_head items ≡ true → (t : ℕ) (ss : List Stage) → Awaits vm context t ss → Kept (Comes vm context t) (comes_in items ss)
  comes_head items first zero [] is = absurd is
  comes_head items first (suc t) [] is = absurd is
  comes_head items first zero (s ∷ ss) is =
      by_bool (Kept (Comes vm context zero)) s.passes (ahead s (comes_in items ss)) (passed.Left [], with_more items s ∷ ss) (λ e. absurd (not_both s.passes is.0.asking e))
      (λ e. (refl, (stage_more items s is.0, head_first items s first is.1, is.2)))
  comes_head items first (suc t) (s ∷ ss) is =
      let later : Kept (Comes vm context t) (comes_in items ss) = comes_head items first t ss is.1 in
      by_bool (Kept (Comes vm context (suc t))) s.passes (ahead s (comes_in items ss)) (passed.Left [], with_more items s ∷ ss) (λ e. (later.0, inr later.1))
      (λ e. (refl, inl (e, inl (head_first items s first is.0), is.1)))

  waits_more : (items : List ChainItem) (s : Stage) → HeadWaits s → HeadWaits (with_more items s)
  waits_more items s is = record { waiting = head_more s.waiting items is.waiting; holding = is.holding }

  place_more : (items : List ChainItem) (s : Stage) → HeadWaits s ⊎ (is_head s.held ≡ true) → HeadWaits (with_more items s) ⊎ (is_head (with_more items s).held ≡ true)
  place_more items s (inl waits) = inl (waits_more items s waits)
  place_more items s (inr holds) = inr holds

  pub comes_more : (items : List ChainItem) (t : ℕ) (ss : List Stage) → Comes vm context t ss → Kept (Comes vm context t) (comes_in items ss)
  comes_more items zero [] is = absurd is
  comes_more items (suc t) [] is = absurd is
  comes_more items zero (s ∷ ss) is =
      by_bool (Kept (Comes vm context zero)) s.passes (ahead s (comes_in items ss)) (passed.Left [], with_more items s ∷ ss) (λ e. absurd (not_both s.passes is.0.asking e))
      (λ e. (refl, (stage_more items s is.0, waits_more items s is.1, is.2)))
  comes_more items (suc t) (s ∷ ss) (inl at) =
      by_bool (Kept (Comes vm context (suc t))) s.passes (ahead s (comes_in items ss)) (passed.Left [], with_more items s ∷ ss) (λ e. absurd (not_both s.passes at.0 e))
      (λ e. (refl, inl (at.0, place_more items s at.1, at.2)))
  comes_more items (suc t) (s ∷ ss) (inr later) =
      let on : Kept (Comes vm context t) (comes_in items ss) = comes_more items t ss later in
      by_bool (Kept (Comes vm context (suc t))) s.passes (ahead s (comes_in items ss)) (passed.Left [], with_more items s ∷ ss) (λ e. (on.0, inr on.1)) (λ e. (refl, inr later))

  -- ---- a stage lets items go, and is another one then

  pub record Going (s t : Stage) (items : List ChainItem) : Type 0 where
    pub idle : IsIdle s → IsIdle t × (items ≡ [])
    pub stage : IsStageOf vm context s → IsStageOf vm context t
    pub waits : IsStageOf vm context s → HeadWaits s → HeadWaits t × (items ≡ [])
    pub head : s.passes ≡ false → HeadWaits s ⊎ (is_head s.held ≡ true) → ((t.passes ≡ false) × (HeadWaits t ⊎ (is_head t.held ≡ true)) × (items ≡ [])) ⊎ (has_head items ≡ true)

  idle_at : (ss : List Stage) (k : ℕ) (s : Stage) → slice_get ss k ≡ Some s → AreIdle ss → IsIdle s
  idle_at [] zero s at idle = absurd (cc at)
  idle_at [] (suc k) s at idle = absurd (cc at)
  idle_at (x ∷ ss) zero s at idle = subst IsIdle (stage_same x s at) idle.0
  idle_at (x ∷ ss) (suc k) s at idle = idle_at ss k s at idle.1

  awaits_at : (t : ℕ) (ss : List Stage) (k : ℕ) (s : Stage) → slice_get ss k ≡ Some s → Awaits vm context t ss → IsIdle s
  awaits_at zero [] k s at is = absurd is
  awaits_at (suc t) [] k s at is = absurd is
  awaits_at zero (x ∷ ss) zero s at is = subst IsIdle (stage_same x s at) is.1
  awaits_at zero (x ∷ ss) (suc k) s at is = idle_at ss k s at is.2
  awaits_at (suc t) (x ∷ ss) zero s at is = subst IsIdle (stage_same x s at) is.0
  awaits_at (suc t) (x ∷ ss) (suc k) s at is = awaits_at t ss k s at is.1

  idle_goes : (k : ℕ) (t : Stage) (ss : List Stage) (s : Stage) → slice_get ss k ≡ Some s → IsIdle t → AreIdle ss → Kept AreIdle (goes_in k t [] ss)
  idle_goes zero t [] s at new idle = absurd (cc at)
  idle_goes (suc k) t [] s at new idle = absurd (cc at)
  idle_goes zero t (x ∷ ss) s at new idle = let later : Kept AreIdle (comes_in [] ss) = idle_comes ss idle.1 in (later.0, (new, later.1))
  idle_goes (suc k) t (x ∷ ss) s at new idle = let later : Kept AreIdle (goes_in k t [] ss) = idle_goes k t ss s at new idle.1 in (later.0, (idle.0, later.1))

  awaits_goes : (k : ℕ) (new : Stage) (t : ℕ) (ss : List Stage) (s : Stage) → slice_get ss k ≡ Some s → IsIdle new → (IsStageOf vm context s → IsStageOf vm context new) → Awaits vm context t ss
      → Kept (Awaits vm context t) (goes_in k new [] ss)
  awaits_goes k new zero [] s at idle stage is = absurd is
  awaits_goes k new (suc t) [] s at idle stage is = absurd is
  awaits_goes zero new zero (x ∷ ss) s at idle stage is =
      let later : Kept AreIdle (comes_in [] ss) = idle_comes ss is.2 in
      (later.0, (stage (subst (IsStageOf vm context) (stage_same x s at) is.0), idle, later.1))
  awaits_goes zero new (suc t) (x ∷ ss) s at idle stage is =
      let later : Kept (Awaits vm context t) (comes_in [] ss) = awaits_comes t ss is.1 in (later.0, (idle, later.1))
  awaits_goes (suc k) new zero (x ∷ ss) s at idle stage is =
      let later : Kept AreIdle (goes_in k new [] ss) = idle_goes k new ss s at idle is.2 in (later.0, (is.0, is.1, later.1))
  awaits_goes (suc k) new (suc t) (x ∷ ss) s at idle stage is =
      let later : Kept (Awaits vm context t) (goes_in k new [] ss) = awaits_goes k new t ss s at idle stage is.1 in (later.0, (is.0, later.1))

  as_none : (P : List Stage → Type 0) (f : List ChainItem → PassOutcome × List Stage) (items : List ChainItem) → items ≡ [] → Kept P (f []) → Kept P (f items)
  as_none P f items none kept = subst (λ (l : List ChainItem). Kept P (f l)) (sym none) kept

  pub comes_goes : (k : ℕ) (new : Stage) (items : List ChainItem) (t : ℕ) (ss : List Stage) (s : Stage) → slice_get ss k ≡ Some s → Going s new items → Comes vm context t ss
      → Kept (Comes vm context t) (goes_in k new items ss)
  comes_goes k new items zero [] s at g is = absurd is
  comes_goes k new items (suc t) [] s at g is = absurd is
  comes_goes zero new items zero (x ∷ ss) s at g is =
      let same : x ≡ s = stage_same x s at in
      let its : IsStageOf vm context s = subst (IsStageOf vm context) same is.0 in
      let on = g.waits its (subst HeadWaits same is.1) in
      let later : Kept AreIdle (comes_in items ss) = as_none AreIdle (λ l. comes_in l ss) items on.1 (idle_comes ss is.2) in
      (later.0, (g.stage its, on.0, later.1))
  comes_goes zero new items (suc t) (x ∷ ss) s at g (inl is) =
      let same : x ≡ s = stage_same x s at in
      by_head (g.head (ap (λ (y : Stage). y.passes) (sym same) ∙ is.0) (subst (λ (y : Stage). HeadWaits y ⊎ (is_head y.held ≡ true)) same is.1))
    where
      by_head : ((new.passes ≡ false) × (HeadWaits new ⊎ (is_head new.held ≡ true)) × (items ≡ [])) ⊎ (has_head items ≡ true) → Kept (Comes vm context (suc t)) (goes_in zero new items (x ∷ ss))
      by_head (inl stays) =
          let later : Kept (Awaits vm context t) (comes_in items ss) = as_none (Awaits vm context t) (λ l. comes_in l ss) items stays.2 (awaits_comes t ss is.2) in (later.0, inl (stays.0, stays.1, later.1))
      by_head (inr goes) = let later : Kept (Comes vm context t) (comes_in items ss) = comes_head items goes t ss is.2 in (later.0, inr later.1)
  comes_goes zero new items (suc t) (x ∷ ss) s at g (inr is) = let later : Kept (Comes vm context t) (comes_in items ss) = comes_more items t ss is in (later.0, inr later.1)
  comes_goes (suc k) new items zero (x ∷ ss) s at g is =
      let on = g.idle (idle_at ss k s at is.2) in
      let later : Kept AreIdle (goes_in k new items ss) = as_none AreIdle (λ l. goes_in k new l ss) items on.1 (idle_goes k new ss s at on.0 is.2) in
      (later.0, (is.0, is.1, later.1))
  comes_goes (suc k) new items (suc t) (x ∷ ss) s at g (inl is) =
      let on = g.idle (awaits_at t ss k s at is.2) in
      let later : Kept (Awaits vm context t) (goes_in k new items ss) = as_none (Awaits vm context t) (λ l. goes_in k new l ss) items on.1 (awaits_goes k new t ss s at on.0 g.stage is.2) in
      (later.0, inl (is.0, is.1, later.1))
  comes_goes (suc k) new items (suc t) (x ∷ ss) s at g (inr is) =
      let later : Kept (Comes vm context t) (goes_in k new items ss) = comes_goes k new items t ss s at g is in (later.0, inr later.1)

  -- ---- what is held goes on; a stage is let through

  nothing_held : (h : Held) (bytes : List ℕ) → h ≡ held.Nothing → held_items h bytes ≡ []
  nothing_held h bytes is = ap (λ (x : Held). held_items x bytes) is

  head_held : (h : Held) (bytes : List ℕ) (more : List ChainItem) → is_head h ≡ true → has_head (held_items h bytes ++ more) ≡ true
  head_held held.Nothing bytes more is = absurd (cc is)
  head_held (held.Head end) bytes more is = refl
  head_held (held.Body end) bytes more is = absurd (cc is)
  head_held (held.Trailers body) bytes more is = absurd (cc is)

  head_only : (h : Held) (bytes : List ℕ) → is_head h ≡ true → has_head (held_items h bytes) ≡ true
  head_only held.Nothing bytes is = absurd (cc is)
  head_only (held.Head end) bytes is = refl
  head_only (held.Body end) bytes is = absurd (cc is)
  head_only (held.Trailers body) bytes is = absurd (cc is)

  pub continues : (s : Stage) (bytes : List ℕ) → Going s (without_hold s) (held_items s.held bytes)
  continues s bytes = record {
    idle = λ is. (record { waiting = is.waiting; holding = refl }, nothing_held s.held bytes is.holding);
    stage = λ is. record { vm_is = is.vm_is; context_is = is.context_is; asking = is.asking };
    waits = λ its is. (record { waiting = is.waiting; holding = refl }, nothing_held s.held bytes is.holding);
    head = λ asks at. by_place asks at;
  }
    where
      by_place : s.passes ≡ false → HeadWaits s ⊎ (is_head s.held ≡ true)
          → (((without_hold s).passes ≡ false) × (HeadWaits (without_hold s) ⊎ (is_head (without_hold s).held ≡ true)) × (held_items s.held bytes ≡ [])) ⊎ (has_head (held_items s.held bytes) ≡ true)
      by_place asks (inl is) = inl (asks, inl (record { waiting = is.waiting; holding = refl }), nothing_held s.held bytes is.holding)
      by_place asks (inr is) = inr (head_only s.held bytes is)

  pub lets : (s : Stage) (bytes : List ℕ) → (s.vm ≡ vm → ⊥) → Going s (bypassed_stage s) (held_items s.held bytes ++ s.waiting)
  lets s bytes other = record {
    idle = λ is. (record { waiting = refl; holding = refl }, ap (λ (l : List ChainItem). l ++ s.waiting) (nothing_held s.held bytes is.holding) ∙ is.waiting);
    stage = λ is. absurd (other is.vm_is);
    waits = λ its is. absurd (other its.vm_is);
    head = λ asks at. inr (by_place at);
  }
    where
      by_place : HeadWaits s ⊎ (is_head s.held ≡ true) → has_head (held_items s.held bytes ++ s.waiting) ≡ true
      by_place (inl is) = ap (λ (l : List ChainItem). has_head (l ++ s.waiting)) (nothing_held s.held bytes is.holding) ∙ is.waiting
      by_place (inr is) = head_held s.held bytes s.waiting is

  -- ---- a stage is asked

  idle_unpicked : (s : Stage) → IsIdle s → may_be_picked s ≡ true → ⊥
  idle_unpicked s is picked = never (ap (λ (l : List ChainItem). is_any l && is_free s.held) (sym is.waiting) ∙ picked)
    where
      never : (is_any [] && is_free s.held) ≡ true → ⊥
      never e = cc e

  held_unpicked : (a : Bool) (h : Held) → is_head h ≡ true → (a && is_free h) ≡ true → ⊥
  held_unpicked a held.Nothing is picked = cc is
  held_unpicked true (held.Head end) is picked = cc picked
  held_unpicked false (held.Head end) is picked = cc picked
  held_unpicked a (held.Body end) is picked = cc is
  held_unpicked a (held.Trailers body) is picked = cc is

  -- the stage that is asked has the head, or the head is where it was, but that the stage where it waited holds it now
  pub comes_asked : (k t : ℕ) (ss : List Stage) (s new : Stage) → slice_get ss k ≡ Some s → may_be_picked s ≡ true → (new.passes ≡ s.passes) → (HeadWaits s → is_head new.held ≡ true) → Comes vm context t ss
      → (IsStageOf vm context s × HeadWaits s) ⊎ Comes vm context t (slice_set ss k new)
  comes_asked k zero [] s new at picked passes holds is = absurd is
  comes_asked k (suc t) [] s new at picked passes holds is = absurd is
  comes_asked zero zero (x ∷ ss) s new at picked passes holds is = let same : x ≡ s = stage_same x s at in inl (subst (IsStageOf vm context) same is.0, subst HeadWaits same is.1)
  comes_asked zero (suc t) (x ∷ ss) s new at picked passes holds (inl is) = by_place (subst (λ (y : Stage). HeadWaits y ⊎ (is_head y.held ≡ true)) (stage_same x s at) is.1)
    where
      by_place : HeadWaits s ⊎ (is_head s.held ≡ true) → (IsStageOf vm context s × HeadWaits s) ⊎ Comes vm context (suc t) (new ∷ ss)
      by_place (inl waits) = inr (inl (passes ∙ (ap (λ (y : Stage). y.passes) (sym (stage_same x s at)) ∙ is.0), inr (holds waits), is.2))
      by_place (inr held_is) = absurd (held_unpicked (is_any s.waiting) s.held held_is picked)
  comes_asked zero (suc t) (x ∷ ss) s new at picked passes holds (inr is) = inr (inr is)
  comes_asked (suc k) zero (x ∷ ss) s new at picked passes holds is = absurd (idle_unpicked s (idle_at ss k s at is.2) picked)
  comes_asked (suc k) (suc t) (x ∷ ss) s new at picked passes holds (inl is) = absurd (idle_unpicked s (awaits_at t ss k s at is.2) picked)
  comes_asked (suc k) (suc t) (x ∷ ss) s new at picked passes holds (inr is) = under (comes_asked k t ss s new at picked passes holds is)
    where
      under : (IsStageOf vm context s × HeadWaits s) ⊎ Comes vm context t (slice_set ss k new) → (IsStageOf vm context s × HeadWaits s) ⊎ Comes vm context (suc t) (x ∷ slice_set ss k new)
      under (inl asked) = inl asked
      under (inr later) = inr (inr later)
