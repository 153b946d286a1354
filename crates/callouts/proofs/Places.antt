-- Callouts by their ids and their places.
use Rattle.std.proofs.Common.{◌≡◌, ◌<◌, ◌-◌, ℕ, ◌==◌, Bool, true, false, cond, List, [], ◌∷◌, length, Option, None, Some, Result, Ok, Err, IfOk, OnOk, slice_get, slice_set, slice_index_or, position, sym, ap, ◌∙◌, subst, refl}
use Rattle.std.proofs.lemmas.Bool.{eqb-true, ltb-false}
use Rattle.std.proofs.lemmas.List.{set-get_or}
use Rattle.std.proofs.lemmas.List.Folds.{find_at}
use Rattle.std.proofs.lemmas.List.Quantifiers.{position-Some}
use Rattle.std.proofs.lemmas.Option.{get_or_from_slice_get, slice_get_past, slice_get_read}
use Rattle.std.specs.List.{position_or_len}
use Rattle.contexts.proofs.Places.{found_at, changed_at}
use Rattle.gate_io.specs.declared.event.What.{What}
use Rattle.callouts.specs.declared.types.Callout.{Callout}
use Rattle.callouts.specs.declared.types.CallStep.{CallStep}
use Rattle.callouts.specs.declared.types.CallStep.TheVariants as steps
use Rattle.callouts.specs.Callouts.{id_of, callout_in, callout_at, first_line, comes_of, Coming, reads, fails, nothing, after_heard, with_reading}
use Rattle.callouts.specs.Steps.{put_callout, after_coming, after_event_of, callout_by, next_by, callout_after, next_after, ReadsOn, ComesAs, HearsTo, AtPlace, place_on}

-- the one of an id stands at this place
module _ (k i : ℕ) (xs : List Callout) (c : Callout) (at : position (λ (x : Callout). x.id == k) xs ≡ Some i) (there : slice_get xs i ≡ Some c) where
  read_back : slice_index_or xs i c ≡ c
  read_back = get_or_from_slice_get xs i c c there

  pub found : callout_in k xs ≡ Some c
  found = found_at id_of k c i xs at ∙ ap Some read_back

  pub numbered : c.id ≡ k
  numbered = eqb-true c.id k (ap (λ (x : Callout). x.id == k) (sym read_back) ∙ (position-Some (λ (x : Callout). x.id == k) xs i c at).1)

  pub put_at : (d : Callout) → put_callout k d xs ≡ slice_set xs i d
  put_at d = changed_at id_of k c (λ (old : Callout). d) i xs at

  pub set_back : slice_set xs i c ≡ xs
  set_back = ap (slice_set xs i) (sym read_back) ∙ set-get_or xs i c

  -- what comes of its line becomes of the list
  pub came : (coming : Coming) (next : Option CallStep) (d : Callout) (ys : List Callout) → d ≡ callout_by coming c → next ≡ next_by c.id coming → ys ≡ slice_set xs i d
      → (ys ≡ (after_coming c coming xs).calls) × (next ≡ (after_coming c coming xs).next)
  came (reads r) next d ys same next_is is =
      (is ∙ ap (slice_set xs i) same ∙ sym (put_at (with_reading r c)) ∙ ap (λ (n : ℕ). put_callout n (with_reading r c) xs) (sym numbered), next_is)
  came fails next d ys same next_is is = (is ∙ ap (slice_set xs i) same ∙ set_back, next_is)
  came nothing next d ys same next_is is = (is ∙ ap (slice_set xs i) same ∙ set_back, next_is)

  -- and what its reader hears
  pub heard : (next : Option CallStep) (d : Callout) (ys : List Callout) → HearsTo next c d → ys ≡ slice_set xs i d → ReadsOn k (Some c) xs next ys
  heard next d ys hears is = (
    hears.0,
    hears.1,
    is ∙ ap (slice_set xs i) hears.2.0 ∙ sym (put_at (callout_after (after_heard hears.0 c))),
    hears.2.1 ∙ ap (λ (n : ℕ). next_after n (after_heard hears.0 c)) numbered,
  )

none_is : {A : Type 0} {a : A} → None ≡ Some a → ⊥
none_is same = cc

lt_false : (b : Bool) (n : ℕ) → cond b (Some n) None ≡ None → b ≡ false
lt_false true n is = cc
lt_false false n is = refl

-- it is not under way
pub not_found : (k : ℕ) (xs : List Callout) → position (λ (x : Callout). x.id == k) xs ≡ None → callout_in k xs ≡ None
not_found k xs is =
    let p : Callout → Bool = λ x. x.id == k in
    find_at p xs ∙ slice_get_past xs (position_or_len p xs) (ltb-false _ _ (lt_false _ _ is))

pub found_within : (k i : ℕ) (xs : List Callout) → position (λ (x : Callout). x.id == k) xs ≡ Some i → i < length xs
found_within k i [] at = absurd (none_is at)
found_within k i (x ∷ xs) at = (position-Some (λ (y : Callout). y.id == k) (x ∷ xs) i x at).0

-- ---- an event

pub came_at : (o : Option ℕ) (what : What) (i : ℕ) (next : Option CallStep) (xs ys : List Callout) → place_on o xs ≡ Some i → AtPlace (ComesAs what next) i xs ys
    → (ys ≡ (after_event_of (callout_at o xs) what xs).calls) × (next ≡ (after_event_of (callout_at o xs) what xs).next)
came_at None what i next xs ys at h = absurd (none_is at)
came_at (Some line) what i next xs ys at h =
    subst (λ (o : Option Callout). (ys ≡ (after_event_of o what xs).calls) × (next ≡ (after_event_of o what xs).next)) (sym (found (line - first_line) i xs h.0 at h.2))
    (came (line - first_line) i xs h.0 at h.2 (comes_of what h.0.reader) next h.1 ys h.3.0 h.3.1 h.4)

pub none_at : (o : Option ℕ) (what : What) (xs : List Callout) → place_on o xs ≡ None
    → (xs ≡ (after_event_of (callout_at o xs) what xs).calls) × (None ≡ (after_event_of (callout_at o xs) what xs).next)
none_at None what xs at = (refl, refl)
none_at (Some line) what xs at =
    subst (λ (o : Option Callout). (xs ≡ (after_event_of o what xs).calls) × (None ≡ (after_event_of o what xs).next)) (sym (not_found (line - first_line) xs at)) (refl, refl)

-- ---- a reading

pub heard_at : (k i : ℕ) (next : Option CallStep) (xs ys : List Callout) → position (λ (x : Callout). x.id == k) xs ≡ Some i → AtPlace (HearsTo next) i xs ys
    → ReadsOn k (callout_in k xs) xs next ys
heard_at k i next xs ys at h =
    subst (λ (o : Option Callout). ReadsOn k o xs next ys) (sym (found k i xs h.0 at h.2)) (heard k i xs h.0 at h.2 next h.1 ys h.3 h.4)

pub none_heard : (k : ℕ) (xs : List Callout) → position (λ (x : Callout). x.id == k) xs ≡ None → ReadsOn k (callout_in k xs) xs None xs
none_heard k xs at = subst (λ (o : Option Callout). ReadsOn k o xs None xs) (sym (not_found k xs at)) (refl, refl)

-- a place that was found is one of the list
pub within : (o : Option ℕ) (i : ℕ) (xs : List Callout) → place_on o xs ≡ Some i → i < length xs
within None i xs at = absurd (none_is at)
within (Some line) i xs at = found_within (line - first_line) i xs at

-- ---- the one at a place is lent

pub came_here : {E : Type 0} (r : Result (Option CallStep) E) (what : What) (i : ℕ) (xs : List Callout) (c d : Callout) → i < length xs → c ≡ slice_index_or xs i c
    → OnOk r (d ≡ callout_by (comes_of what c.reader) c) → IfOk r (λ next. next ≡ next_by c.id (comes_of what c.reader)) → IfOk r (λ next. AtPlace (ComesAs what next) i xs (slice_set xs i d))
came_here (Ok next) what i xs c d low value same next_is = (c, d, slice_get_read xs (length xs) i c refl low value, (same, next_is), refl)
came_here (Err e) what i xs c d low value same next_is = next_is

pub same_here : (i : ℕ) (xs : List Callout) (c d : Callout) → c ≡ slice_index_or xs i c → d ≡ c → slice_set xs i d ≡ xs
same_here i xs c d value same = ap (slice_set xs i) (same ∙ value) ∙ set-get_or xs i c

pub heard_here : {E : Type 0} (r : Result (Option CallStep) E) (i : ℕ) (xs : List Callout) (c d : Callout) → i < length xs → c ≡ slice_index_or xs i c
    → IfOk r (λ next. HearsTo next c d) → IfOk r (λ next. AtPlace (HearsTo next) i xs (slice_set xs i d))
heard_here (Ok next) i xs c d low value hears = (c, d, slice_get_read xs (length xs) i c refl low value, hears, refl)
heard_here (Err e) i xs c d low value hears = hears
