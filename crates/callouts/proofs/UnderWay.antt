-- Callouts by themselves: what is heard of one leads on, and what becomes of the list.
use Rattle.std.proofs.Common.{◌≡◌, ◌<◌, ◌≤◌, ◌+◌, ◌-◌, ℕ, zero, suc, ◌==◌, Bool, true, false, not, cond, List, [], ◌∷◌, ◌++◌, length, take, drop, filter, Option, None, Some, Result, Ok, Err, IfOk, slice_get, slice_set, slice_index_or, get_or, position, remove, length-append, refl, sym, ap, ◌∙◌, subst, arith}
use Rattle.std.proofs.lemmas.Bool.{false≢true}
use Rattle.std.proofs.lemmas.Option.{slice_get_within, slice_get_read}
use Rattle.std.proofs.lemmas.List.{drop_more, length-take-le}
use Rattle.std.proofs.Math.Seq.{take-append_seam, drop-append_seam}
use Rattle.contexts.proofs.Places.{removed_at, from_some}
use Rattle.filter_host.specs.Heard.{Heard, hands, halts, Hears}
use Rattle.gate_io.specs.declared.event.What.{What}
use Rattle.h1_model.specs.Messages.{rest, over, refusal}
use Rattle.callouts.specs.declared.types.Callout.{Callout}
use Rattle.callouts.specs.declared.types.CallStep.{CallStep}
use Rattle.callouts.specs.declared.types.CallStep.TheVariants as steps
use Rattle.callouts.specs.declared.types.Fated.{Fated}
use Rattle.callouts.specs.Callouts.{id_of, is_due, first_line, callout_at, without, failed, answered, comes_of, Coming, reads, fails, nothing, AfterRead, goes_on, waits, answers, breaks, Taken, has, too_long, takes, is_last, after_taken, after_heard, with_reading}
use Rattle.callouts.specs.Steps.{put_callout, callout_by, next_by, callout_after, next_after, IsAfter, HearsTo, AtPlace, place_on}
use Rattle.callouts.specs.UnderWay.{GoesOn, ReadsThrough, BringsTo, fates_of, calls_after, EndsBy, Goes, LeadsTo, Led, is_read, ReadsOut, ComesThrough, EndsWith, EndsAt, without_due}
use Rattle.callouts.proofs.Places.{found, not_found, numbered, put_at}

-- ---- a callout keeps its id

taken_id : (w : Bool) (c : Callout) (t : Taken) → (callout_after (after_taken w c t)).id ≡ c.id
taken_id true c (has a) = refl
taken_id false c (has a) = refl
taken_id w c too_long = refl

heard_id : (h : Heard) (c : Callout) → (callout_after (after_heard h c)).id ≡ c.id
heard_id (hands p r) c = taken_id (is_last p) (with_reading r c) (takes p c.answer)
heard_id (halts rest r) c = refl
heard_id (halts over r) c = refl
heard_id (halts (refusal number) r) c = refl

-- ---- one part more is heard

goes_map : (a : AfterRead) {P Q : Callout → Type 0} → ((x : Callout) → P x → Q x) → Goes a P → Goes a Q
goes_map (goes_on x) f p = f x p
goes_map (waits x) f p = p
goes_map (answers x) f p = p
goes_map (breaks x) f p = p

goes_through : (b a : AfterRead) (heard : List Heard) {P Q : Callout → Type 0} → ((x : Callout) → P x → Q x) → Goes b P → GoesOn b a heard Q
goes_through (goes_on x) a heard f p = f x p
goes_through (waits x) a heard f p = absurd p
goes_through (answers x) a heard f p = absurd p
goes_through (breaks x) a heard f p = absurd p

step_goes : (a : AfterRead) (e : Callout) (n : ℕ) → e ≡ callout_after a → is_read (next_after n a) ≡ true → Goes a (λ x. e ≡ x)
step_goes (goes_on x) e n same r = same
step_goes (waits x) e n same r = absurd (false≢true r)
step_goes (answers x) e n same r = absurd (false≢true r)
step_goes (breaks x) e n same r = absurd (false≢true r)

settles : (a : AfterRead) (n : ℕ) (later : Callout → Type 0) → is_read (next_after n a) ≡ false → GoesOn a a [] later
settles (goes_on x) n later r = absurd (false≢true (sym r))
settles (waits x) n later r = (refl, refl)
settles (answers x) n later r = (refl, refl)
settles (breaks x) n later r = (refl, refl)

leads_more : (heard : List Heard) (c d e : Callout) (h : Heard) → LeadsTo heard c d → LeadsTo (h ∷ []) d e → LeadsTo (heard ++ h ∷ []) c e
leads_more [] c d e h first last = subst (λ (x : Callout). LeadsTo (h ∷ []) x e) first last
leads_more (g ∷ heard) c d e h first last = (first.0, goes_map (after_heard g c) (λ x l. leads_more heard x d e h l last) first.1)

leads_out : (heard : List Heard) (c d : Callout) (a : AfterRead) (h : Heard) → LeadsTo heard c d → ReadsThrough (h ∷ []) d a → ReadsThrough (heard ++ h ∷ []) c a
leads_out [] c d a h first last = subst (λ (x : Callout). ReadsThrough (h ∷ []) x a) first last
leads_out (g ∷ heard) c d a h first last = (first.0, goes_through (after_heard g c) a (heard ++ h ∷ []) (λ x l. leads_out heard x d a h l last) first.1)

pub led_none : (c : Callout) → Led c c
led_none c = ([], refl, refl)

pub led_more : (c d e : Callout) (next : Option CallStep) → Led c d → HearsTo next d e → is_read next ≡ true → Led c e
led_more c d e next led h r = (
  led.0 ++ h.0 ∷ [],
  leads_more led.0 c d e h.0 led.1 (h.1, step_goes (after_heard h.0 d) e d.id h.2.0 (ap is_read (sym h.2.1) ∙ r)),
  ap id_of h.2.0 ∙ heard_id h.0 d ∙ led.2,
)

pub led_out : (c d e : Callout) (next : Option CallStep) → Led c d → HearsTo next d e → is_read next ≡ false → ReadsOut c next e
led_out c d e next led h r = (
  led.0 ++ h.0 ∷ [],
  after_heard h.0 d,
  leads_out led.0 c d (after_heard h.0 d) h.0 led.1
      (h.1, settles (after_heard h.0 d) d.id (λ x. ReadsThrough [] x (after_heard h.0 d)) (ap is_read (sym h.2.1) ∙ r)),
  (h.2.0, h.2.1 ∙ ap (λ (n : ℕ). next_after n (after_heard h.0 d)) led.2),
)

-- ---- what comes is read as far as it goes

through : (coming : Coming) (old mid new : Callout) (next out : Option CallStep) → mid ≡ callout_by coming old → next ≡ next_by old.id coming → is_read next ≡ true → ReadsOut mid out new
    → (a : AfterRead) × BringsTo coming old a × IsAfter old a out new
through (reads r) old mid new next out same next_is is reads_out =
    let o : ReadsOut (with_reading r old) out new = subst (λ (m : Callout). ReadsOut m out new) same reads_out in
    (o.1, (o.0, o.2), o.3)
through fails old mid new next out same next_is is reads_out = absurd (false≢true (sym (ap is_read next_is) ∙ is))
through nothing old mid new next out same next_is is reads_out = absurd (false≢true (sym (ap is_read next_is) ∙ is))

no_further : (coming : Coming) (old new : Callout) (next : Option CallStep) → new ≡ callout_by coming old → next ≡ next_by old.id coming → is_read next ≡ false
    → (a : AfterRead) × BringsTo coming old a × IsAfter old a next new
no_further (reads r) old new next same next_is is = absurd (false≢true (sym is ∙ ap is_read next_is))
no_further fails old new next same next_is is = (breaks old, refl, (same, next_is))
no_further nothing old new next same next_is is = (waits old, refl, (same, next_is))

pub comes_through : (what : What) (old mid new : Callout) (next out : Option CallStep) → mid ≡ callout_by (comes_of what old.reader) old → next ≡ next_by old.id (comes_of what old.reader)
    → is_read next ≡ true → ReadsOut mid out new → ComesThrough what out old new
comes_through what old mid new next out same next_is is reads_out = through (comes_of what old.reader) old mid new next out same next_is is reads_out

pub comes_only : (what : What) (old new : Callout) (next : Option CallStep) → new ≡ callout_by (comes_of what old.reader) old → next ≡ next_by old.id (comes_of what old.reader)
    → is_read next ≡ false → ComesThrough what next old new
comes_only what old new next same next_is is = no_further (comes_of what old.reader) old new next same next_is is

-- the one at a place is lent
pub through_here : {E : Type 0} (r : Result (Option CallStep) E) (what : What) (i : ℕ) (xs : List Callout) (c d : Callout) → i < length xs → c ≡ slice_index_or xs i c
    → IfOk r (λ next. ComesThrough what next c d) → IfOk r (λ next. AtPlace (ComesThrough what next) i xs (slice_set xs i d))
through_here (Ok next) what i xs c d low value comes = (c, d, slice_get_read xs (length xs) i c refl low value, comes, refl)
through_here (Err e) what i xs c d low value comes = comes

-- ---- what becomes of the list

get_set : {A : Type 0} (xs : List A) (i : ℕ) (d : A) → i < length xs → slice_get (slice_set xs i d) i ≡ Some d
get_set [] i d within = absurd (omega (arith, within))
get_set (x ∷ xs) zero d within = refl
get_set (x ∷ xs) (suc i) d within = get_set xs i d (omega (arith, within))

remove_set : {A : Type 0} (xs : List A) (i : ℕ) (d : A) → remove (slice_set xs i d) i ≡ remove xs i
remove_set [] i d = refl
remove_set (x ∷ xs) zero d = refl
remove_set (x ∷ xs) (suc i) d = ap (λ ys. x ∷ ys) (remove_set xs i d)

pub set_length : {A : Type 0} (xs : List A) (i : ℕ) (d : A) → length (slice_set xs i d) ≡ length xs
set_length [] i d = refl
set_length (x ∷ xs) zero d = refl
set_length (x ∷ xs) (suc i) d = ap suc (set_length xs i d)

none_is : {A : Type 0} {a : A} → None ≡ Some a → ⊥
none_is same = cc

module _ (k i : ℕ) (xs : List Callout) (c : Callout) (at : position (λ (x : Callout). x.id == k) xs ≡ Some i) (there : slice_get xs i ≡ Some c) (d : Callout) (mid : List Callout)
    (is : mid ≡ slice_set xs i d) (fates : List Fated) (ys : List Callout) where
  put_back : (x : Callout) → d ≡ x → ys ≡ mid → ys ≡ put_callout c.id x xs
  put_back x same left = left ∙ is ∙ ap (slice_set xs i) same ∙ sym (put_at k i xs c at there x) ∙ ap (λ (n : ℕ). put_callout n x xs) (sym (numbered k i xs c at there))

  taken_out : ys ≡ remove mid i → ys ≡ without c.id xs
  taken_out left =
      removed_at id_of k i xs ys at (left ∙ ap (λ (zs : List Callout). remove zs i) is ∙ remove_set xs i d) ∙ ap (λ (n : ℕ). without n xs) (sym (numbered k i xs c at there))

  taken_is : (x e : Callout) → d ≡ x → slice_get mid i ≡ Some e → e ≡ x
  taken_is x e same got =
      from_some (sym got ∙ ap (λ (zs : List Callout). slice_get zs i) is ∙ get_set xs i d (slice_get_within xs i c there)) ∙ same

  ended : (a : AfterRead) → d ≡ callout_after a → EndsAt (next_after c.id a) i mid fates ys → (fates ≡ fates_of a) × (ys ≡ calls_after c.id a xs)
  ended (goes_on x) same ends = (ends.0, put_back x same ends.1)
  ended (waits x) same ends = (ends.0, put_back x same ends.1)
  ended (answers x) same ends = (ends.2 ∙ ap (λ (e : Callout). answered e ∷ []) (taken_is x ends.0 same ends.1), taken_out ends.3)
  ended (breaks x) same ends = (ends.2 ∙ ap (λ (e : Callout). failed e ∷ []) (taken_is x ends.0 same ends.1), taken_out ends.3)

pub ends_at : (o : Option ℕ) (what : What) (i : ℕ) (next : Option CallStep) (xs mid ys : List Callout) (fates : List Fated) → place_on o xs ≡ Some i
    → AtPlace (ComesThrough what next) i xs mid → EndsAt next i mid fates ys → EndsBy (callout_at o xs) what xs fates ys
ends_at None what i next xs mid ys fates at h ends = absurd (none_is at)
ends_at (Some line) what i next xs mid ys fates at h ends =
    let c = h.0 in
    let d = h.1 in
    let a = h.3.0 in
    let e = ended (line - first_line) i xs c at h.2 d mid h.4 fates ys a h.3.2.0 (subst (λ (n : Option CallStep). EndsAt n i mid fates ys) h.3.2.1 ends) in
    subst (λ (o : Option Callout). EndsBy o what xs fates ys) (sym (found (line - first_line) i xs c at h.2)) (a, h.3.1, e.0, e.1)

pub none_ends : (o : Option ℕ) (what : What) (xs : List Callout) (fates : List Fated) → place_on o xs ≡ None → fates ≡ [] → EndsBy (callout_at o xs) what xs fates xs
none_ends None what xs fates at none = (none, refl)
none_ends (Some line) what xs fates at none = subst (λ (o : Option Callout). EndsBy o what xs fates xs) (sym (not_found (line - first_line) xs at)) (none, refl)

-- a place of the list is one still
pub still_within : {B : Callout → Callout → Type 0} (i : ℕ) (xs ys : List Callout) → i < length xs → AtPlace B i xs ys → i < length ys
still_within i xs ys low h = subst (λ (n : ℕ). i < n) (sym (ap length h.4 ∙ set_length xs i h.1)) low

-- one that has failed, and one that was answered
pub fail_ends : {id : ℕ} (s : CallStep) (i : ℕ) (xs ys : List Callout) (c : Callout) (fates : List Fated) → s ≡ steps.Fail id → slice_get xs i ≡ Some c → fates ≡ failed c ∷ [] → ys ≡ remove xs i
    → EndsWith s i xs fates ys
fail_ends {id} s i xs ys c fates is got told left = subst (λ (t : CallStep). EndsWith t i xs fates ys) (sym is) (c, got, told, left)

pub answer_ends : {id : ℕ} (s : CallStep) (i : ℕ) (xs ys : List Callout) (c : Callout) (fates : List Fated) → s ≡ steps.Answer id → slice_get xs i ≡ Some c → fates ≡ answered c ∷ [] → ys ≡ remove xs i
    → EndsWith s i xs fates ys
answer_ends {id} s i xs ys c fates is got told left = subst (λ (t : CallStep). EndsWith t i xs fates ys) (sym is) (c, got, told, left)

pub read_ends : {id : ℕ} (s : CallStep) (i : ℕ) (xs : List Callout) (fates : List Fated) → s ≡ steps.Read id → fates ≡ [] → EndsWith s i xs fates xs
read_ends {id} s i xs fates is none = subst (λ (t : CallStep). EndsWith t i xs fates xs) (sym is) (none, refl)

pub comes_ends : {what : What} (s : CallStep) (i : ℕ) (xs : List Callout) (fates : List Fated) → s ≡ steps.Comes what → fates ≡ [] → EndsWith s i xs fates xs
comes_ends {what} s i xs fates is none = subst (λ (t : CallStep). EndsWith t i xs fates xs) (sym is) (none, refl)

-- ---- those that are due are taken out

-- one is taken out, and one stays
pub record IsOut (now : ℕ) (xs : List Callout) (i : ℕ) : Type 0 where
  pub within : i ≤ length (remove xs i)
  pub same : take i (remove xs i) ++ without_due now (drop i (remove xs i)) ≡ take i xs ++ without_due now (drop i xs)

pub due_out : (now : ℕ) (xs : List Callout) (i : ℕ) (d : Callout) → i < length xs → is_due now (get_or xs i d) ≡ true → IsOut now xs i
due_out now xs i d l h =
    let front : length (take i xs) ≡ i = length-take-le i xs (omega (arith, l)) in
    let count = length-append (take i xs) (drop (suc i) xs) in
    let first : take i (remove xs i) ≡ take i xs = ap (λ k. take k (remove xs i)) (sym front) ∙ take-append_seam (take i xs) (drop (suc i) xs) in
    let left : drop i (remove xs i) ≡ drop (suc i) xs = ap (λ k. drop k (remove xs i)) (sym front) ∙ drop-append_seam (take i xs) (drop (suc i) xs) in
    let there : without_due now (drop i xs) ≡ without_due now (drop (i + 1) xs) = ap (without_due now) (drop_more xs i d l) ∙ rw h refl in
    let one : suc i ≡ i + 1 = omega arith in
    record {
      within = omega (arith, front, count);
      same = ap (λ (ys : List Callout). ys ++ without_due now (drop i (remove xs i))) first
          ∙ ap (λ (ys : List Callout). take i xs ++ without_due now ys) (left ∙ ap (λ k. drop k xs) one)
          ∙ ap (λ (ys : List Callout). take i xs ++ ys) (sym there);
    }
