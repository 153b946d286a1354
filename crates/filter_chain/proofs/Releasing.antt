-- What is done to two stages of a chain may be done in either order.
use Rattle.std.proofs.Common.{◌≡◌, ◌<◌, ◌≤◌, ℕ, zero, suc, ◌+◌, true, false, List, [], ◌∷◌, ◌++◌, length, Option, None, Some, refl, sym, ap, ◌∙◌, length-set, arith}
use Rattle.std.specs.Prelude.{slice_get, slice_set, slice_index_or, if◌then◌else◌}
use Rattle.contexts.specs.declared.parts.Contexts.{Contexts}
use Rattle.filter_chain.specs.declared.stage.Stage.{Stage}
use Rattle.filter_chain.specs.declared.item.ChainItem.{ChainItem}
use Rattle.filter_chain.specs.declared.item.PassOutcome.{PassOutcome}
use Rattle.filter_chain.specs.declared.item.PassOutcome.TheVariants as passed
use Rattle.filter_chain.specs.Items.{size, held_items}
use Rattle.filter_chain.specs.Chains.{target, with_more, append_to, accepts, hand_over_to, unless_over, without_hold, bypassed_stage, bytes_held, without_held, waiting_of, without_waiting, continued, continued_at, let_through, let_through_at}

set_apart : {A : Type 0} (xs : List A) (i j : ℕ) (a b : A) → i < j → slice_set (slice_set xs i a) j b ≡ slice_set (slice_set xs j b) i a
set_apart [] i j a b less = refl
set_apart (x ∷ xs) zero zero a b less = absurd (omega (arith, less))
set_apart (x ∷ xs) zero (suc j) a b less = refl
set_apart (x ∷ xs) (suc i) zero a b less = absurd (omega (arith, less))
set_apart (x ∷ xs) (suc i) (suc j) a b less = ap (λ ys. x ∷ ys) (set_apart xs i j a b (omega (arith, less)))

get_apart : {A : Type 0} (xs : List A) (i j : ℕ) (b : A) → i < j → slice_get (slice_set xs j b) i ≡ slice_get xs i
get_apart [] i j b less = refl
get_apart (x ∷ xs) zero zero b less = absurd (omega (arith, less))
get_apart (x ∷ xs) zero (suc j) b less = refl
get_apart (x ∷ xs) (suc i) zero b less = absurd (omega (arith, less))
get_apart (x ∷ xs) (suc i) (suc j) b less = get_apart xs i j b (omega (arith, less))

-- items that go on past a stage leave it
pub kept_behind : (items : List ChainItem) (stages : List Stage) (k to : ℕ) (o : Option Stage) → k < to → slice_get (append_to to items stages o).1 k ≡ slice_get stages k
kept_behind items stages k to None less = refl
kept_behind items stages k to (Some r) less = get_apart stages k to (with_more items r) less

went_on : (h c : Contexts) (items : List ChainItem) (stages : List Stage) (k to : ℕ) (t : Stage) (o : Option Stage) → k < to →
    unless_over h c (append_to to items (slice_set stages k t) o) ≡ ((append_to to items stages o).0, slice_set (append_to to items stages o).1 k t, c)
went_on h c items stages k to t None less = refl
went_on h c items stages k to t (Some r) less = λ i. (passed.Left [], set_apart stages k to t (with_more items r) less i, c)

went : (h c : Contexts) (n : ℕ) (items : List ChainItem) (stages : List Stage) (k to : ℕ) (t : Stage) (o : Option Stage) → k < to → accepts h n o ≡ true →
    unless_over h c (hand_over_to h n items to stages (slice_set stages k t) o) ≡ ((append_to to items stages o).0, slice_set (append_to to items stages o).1 k t, c)
went h c n items stages k to t o less room =
    ap (λ b. unless_over h c (if b then append_to to items (slice_set stages k t) o else (passed.Over, stages))) room ∙ went_on h c items stages k to t o less

over : (h c : Contexts) (n : ℕ) (items : List ChainItem) (stages changed : List Stage) (to : ℕ) (o : Option Stage) → accepts h n o ≡ false →
    unless_over h c (hand_over_to h n items to stages changed o) ≡ (passed.Over, stages, h)
over h c n items stages changed to o room = ap (λ b. unless_over h c (if b then append_to to items changed o else (passed.Over, stages))) room

get_by : {A : Type 0} (xs : List A) (k : ℕ) (d : A) → k < length xs → slice_get xs k ≡ Some (slice_index_or xs k d)
get_by [] k d within = absurd (omega (arith, within))
get_by (x ∷ xs) zero d within = refl
get_by (x ∷ xs) (suc k) d within = get_by xs k d (omega (arith, within))

pub there : {A : Type 0} (xs : List A) (k : ℕ) (s : A) → k < length xs → s ≡ slice_index_or xs k s → slice_get xs k ≡ Some s
there xs k s within is = get_by xs k s within ∙ ap Some (sym is)

some_is : {A : Type 0} {a b : A} → Some a ≡ Some b → a ≡ b
some_is same = cc

one_of : {A : Type 0} (xs : List A) (k : ℕ) (s t : A) → slice_get xs k ≡ Some s → t ≡ slice_index_or xs k t → k < length xs → t ≡ s
one_of xs k s t is at within = some_is (sym (there xs k t within at) ∙ is)

onto_length : (items : List ChainItem) (stages : List Stage) (to : ℕ) (o : Option Stage) → length (append_to to items stages o).1 ≡ length stages
onto_length items stages to None = refl
onto_length items stages to (Some r) = length-set stages to (with_more items r)

module _ (h : Contexts) (k to n : ℕ) (stages : List Stage) (within : k < length stages) (to_is : to ≡ target (k + 1) stages) (behind : k + 1 ≤ to) (s : Stage) (s_is : s ≡ slice_index_or stages k s) where
  at_k : slice_get stages k ≡ Some s
  at_k = there stages k s within s_is

  -- what the stage holds goes on, and then the stage is let go of
  pub releases : (s2 t u : Stage) (items : List ChainItem) (p : PassOutcome) (after : List Stage) (d : Contexts) →
      n ≡ length (bytes_held h s) → accepts h (n + 0) (slice_get stages to) ≡ true → s2 ≡ slice_index_or stages k s2 → items ≡ held_items s2.held (bytes_held h s2) →
      append_to to items stages (slice_get stages to) ≡ (p, after) → u ≡ slice_index_or after k u → t ≡ without_hold u → d ≡ without_held h u →
      continued h k stages ≡ (p, slice_set after k t, d)
  releases s2 t u items p after d count room s2_is items_are passed u_is t_is d_is =
      let o = slice_get stages to in
      let same2 : s2 ≡ s = one_of stages k s s2 at_k s2_is within in
      let items_of : items ≡ held_items s.held (bytes_held h s) = items_are ∙ ap (λ (z : Stage). held_items z.held (bytes_held h z)) same2 in
      let after_is : (append_to to items stages o).1 ≡ after = ap (λ (r : PassOutcome × List Stage). r.1) passed in
      let kept : slice_get after k ≡ Some s = ap (λ (xs : List Stage). slice_get xs k) (sym after_is) ∙ kept_behind items stages k to o (omega (arith, behind)) ∙ at_k in
      let long : k < length after = omega (arith, within, ap length after_is, onto_length items stages to o) in
      let same : u ≡ s = one_of after k s u kept u_is long in
      let room_is : accepts h (length (bytes_held h s)) o ≡ true = ap (λ m. accepts h m o) (sym count ∙ (omega arith)) ∙ room in
      ap (continued_at h k stages) at_k
      ∙ (λ i. unless_over h (without_held h s) (hand_over_to h (length (bytes_held h s)) (sym items_of i) (sym to_is i) stages (slice_set stages k (without_hold s)) (slice_get stages (sym to_is i))))
      ∙ went h (without_held h s) (length (bytes_held h s)) items stages k to (without_hold s) o (omega (arith, behind)) room_is
      ∙ (λ i. ((passed i).0, slice_set (passed i).1 k (without_hold (sym same i)), without_held h (sym same i)))
      ∙ (λ i. (p, slice_set after k (sym t_is i), sym d_is i))

-- ---- the same, where all that waits goes on too

get_before : {A : Type 0} (xs : List A) (i j : ℕ) (a : A) → i < j → slice_get (slice_set xs i a) j ≡ slice_get xs j
get_before [] i j a less = refl
get_before (x ∷ xs) zero zero a less = absurd (omega (arith, less))
get_before (x ∷ xs) zero (suc j) a less = refl
get_before (x ∷ xs) (suc i) zero a less = absurd (omega (arith, less))
get_before (x ∷ xs) (suc i) (suc j) a less = get_before xs i j a (omega (arith, less))

set_twice : {A : Type 0} (xs : List A) (i : ℕ) (a b : A) → slice_set (slice_set xs i a) i b ≡ slice_set xs i b
set_twice [] i a b = refl
set_twice (x ∷ xs) zero a b = refl
set_twice (x ∷ xs) (suc i) a b = ap (λ ys. x ∷ ys) (set_twice xs i a b)

get_set : {A : Type 0} (xs : List A) (i : ℕ) (a b : A) → slice_get xs i ≡ Some b → slice_get (slice_set xs i a) i ≡ Some a
get_set [] i a b is = absurd (cc)
get_set (x ∷ xs) zero a b is = refl
get_set (x ∷ xs) (suc i) a b is = get_set xs i a b is

onto_set : (items : List ChainItem) (stages : List Stage) (k to : ℕ) (t : Stage) (o : Option Stage) → k < to → append_to to items (slice_set stages k t) o ≡ ((append_to to items stages o).0, slice_set (append_to to items stages o).1 k t)
onto_set items stages k to t None less = refl
onto_set items stages k to t (Some r) less = λ i. (passed.Left [], set_apart stages k to t (with_more items r) less i)

-- a stage at which nothing waits any more
abbrev pub idle : Stage → Stage
idle s = record s { waiting = [] }

-- what goes on after a stage, when that waits for nothing, is as before
pub put_back : (stages : List Stage) (k : ℕ) (s t : Stage) (ws : List ChainItem) → k < length stages → s ≡ slice_index_or stages k s → t ≡ slice_index_or (slice_set stages k (record s { waiting = [] })) k t → ws ≡ s.waiting →
    slice_set (slice_set stages k (record s { waiting = [] })) k (record t { waiting = ws }) ≡ stages
put_back stages k s t ws within s_is t_is ws_is =
    let at : slice_get stages k ≡ Some s = there stages k s within s_is in
    let same : t ≡ record s { waiting = [] } = one_of (slice_set stages k (record s { waiting = [] })) k (record s { waiting = [] }) t (get_set stages k (record s { waiting = [] }) s at) t_is (omega (arith, within, length-set stages k (record s { waiting = [] }))) in
    set_twice stages k (record s { waiting = [] }) (record t { waiting = ws })
    ∙ (λ i. slice_set stages k (record (same i) { waiting = ws_is i }))
    ∙ set_own stages k s at
  where
    set_own : (xs : List Stage) (i : ℕ) (x : Stage) → slice_get xs i ≡ Some x → slice_set xs i x ≡ xs
    set_own [] i x is = refl
    set_own (y ∷ xs) zero x is = ap (λ z. z ∷ xs) (sym (some_is is))
    set_own (y ∷ xs) (suc i) x is = ap (λ ys. y ∷ ys) (set_own xs i x is)

module _ (h : Contexts) (k to n : ℕ) (stages : List Stage) (within : k < length stages) (to_is : to ≡ target (k + 1) stages) (behind : k + 1 ≤ to) (s : Stage) (s_is : s ≡ slice_index_or stages k s) where
  at_s : slice_get stages k ≡ Some s
  at_s = there stages k s within s_is

  pub lets : (s1 s2 t u : Stage) (items : List ChainItem) (p : PassOutcome) (after : List Stage) (d : Contexts) →
      n ≡ length (bytes_held h s) → s1 ≡ slice_index_or stages k s1 → accepts h (n + size s1.waiting) (slice_get stages to) ≡ true → s2 ≡ slice_index_or stages k s2 → items ≡ held_items s2.held (bytes_held h s2) →
      (let rest = without_waiting k stages (slice_get stages k) in append_to to (items ++ waiting_of (slice_get stages k)) rest (slice_get rest to) ≡ (p, after)) →
      u ≡ slice_index_or after k u → (u.waiting ≡ [] → t ≡ bypassed_stage u) → d ≡ without_held h u →
      let_through h k stages ≡ (p, slice_set after k t, d)
  lets s1 s2 t u items p after d count s1_is room s2_is items_are passed u_is t_is d_is =
      let o = slice_get stages to in
      let same1 : s1 ≡ s = one_of stages k s s1 at_s s1_is within in
      let same2 : s2 ≡ s = one_of stages k s s2 at_s s2_is within in
      let all : List ChainItem = items ++ s.waiting in
      let items_of : items ≡ held_items s.held (bytes_held h s) = items_are ∙ ap (λ (z : Stage). held_items z.held (bytes_held h z)) same2 in
      let rest_is : slice_get (slice_set stages k (idle s)) to ≡ o = get_before stages k to (idle s) (omega (arith, behind)) in
      let went_is : append_to to all (slice_set stages k (idle s)) o ≡ (p, after)
      = ap (λ (r : Option Stage). append_to to all (slice_set stages k (idle s)) r) (sym rest_is)
      ∙ (λ i. append_to to (items ++ waiting_of (sym at_s i)) (without_waiting k stages (sym at_s i)) (slice_get (without_waiting k stages (sym at_s i)) to)) ∙ passed in
      let parts : append_to to all (slice_set stages k (idle s)) o ≡ ((append_to to all stages o).0, slice_set (append_to to all stages o).1 k (idle s)) = onto_set all stages k to (idle s) o (omega (arith, behind)) in
      let both : (p, after) ≡ ((append_to to all stages o).0, slice_set (append_to to all stages o).1 k (idle s)) = sym went_is ∙ parts in
      let there_k : slice_get (append_to to all stages o).1 k ≡ Some s = kept_behind all stages k to o (omega (arith, behind)) ∙ at_s in
      let after_k : slice_get after k ≡ Some (idle s) = ap (λ (r : PassOutcome × List Stage). slice_get r.1 k) both ∙ get_set (append_to to all stages o).1 k (idle s) s there_k in
      let long : k < length after = omega (arith, within, ap (λ (r : PassOutcome × List Stage). length r.1) both, length-set (append_to to all stages o).1 k (idle s), onto_length all stages to o) in
      let same : u ≡ idle s = one_of after k (idle s) u after_k u_is long in
      let opened_is : t ≡ bypassed_stage s = t_is (ap (λ (z : Stage). z.waiting) same) ∙ ap bypassed_stage same in
      let room_is : accepts h (length (bytes_held h s) + size s.waiting) o ≡ true = (λ i. accepts h (sym count i + size (sym same1 i).waiting) o) ∙ room in
      ap (let_through_at h k stages) at_s
      ∙ (λ i. unless_over h (without_held h s) (hand_over_to h (length (bytes_held h s) + size s.waiting) (sym items_of i ++ s.waiting) (sym to_is i) stages (slice_set stages k (bypassed_stage s)) (slice_get stages (sym to_is i))))
      ∙ went h (without_held h s) (length (bytes_held h s) + size s.waiting) all stages k to (bypassed_stage s) o (omega (arith, behind)) room_is
      ∙ (λ i. ((append_to to all stages o).0, sym (set_twice (append_to to all stages o).1 k (idle s) (bypassed_stage s)) i, without_held h s))
      ∙ (λ i. ((sym both i).0, slice_set (sym both i).1 k (bypassed_stage s), without_held h (sym same i)))
      ∙ (λ i. (p, slice_set after k (sym opened_is i), sym d_is i))
