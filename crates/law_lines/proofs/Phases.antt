-- How far a message has come, through the stages of a chain, whatever the stages hold of its bytes.
use Rattle.std.proofs.Common.{◌≡◌, ℕ, zero, suc, ◌+◌, Bool, true, false, not, ◌&&◌, cond, List, [], ◌∷◌, ◌++◌, map, length, refl, ap, ◌∙◌, sym, subst, arith}
use Rattle.std.specs.Prelude.{Option, None, Some, slice_get, slice_set, nat_le, if◌then◌else◌}
use Rattle.std.specs.List.{position_or_len}
use Rattle.contexts.specs.declared.parts.Contexts.{Contexts}
use Rattle.contexts.specs.Stages.{with_buffered}
use Rattle.filter_chain.specs.declared.stage.Stage.{Stage}
use Rattle.filter_chain.specs.declared.item.ChainItem.{ChainItem}
use Rattle.filter_chain.specs.declared.item.ChainItem.TheVariants.{Head, Piece, Trailers}
use Rattle.filter_chain.specs.declared.item.AskKind.TheVariants as kinds
use Rattle.filter_chain.specs.declared.item.Asking.{Asking}
use Rattle.filter_chain.specs.declared.item.Asking.TheVariants.{Over}
use Rattle.filter_chain.specs.declared.item.Held.{Held}
use Rattle.filter_chain.specs.declared.item.Held.TheVariants as held
use Rattle.filter_chain.specs.declared.item.PassOutcome.{PassOutcome}
use Rattle.filter_chain.specs.declared.item.PassOutcome.TheVariants as passed
use Rattle.filter_chain.specs.Items.{held_items, holds_bytes, is_free, size}
use Rattle.filter_chain.specs.Chains.{limit, target, accepts, append_to, hand_over, put, bytes_at, bytes_held, without_held, without_hold, bypassed_stage, unless_over, continued_at, continued, let_through_at, let_through, ask_item, ask_stage, asked_at, asked, ask_of, ready, is_any}
use Rattle.filter_chain.specs.Flow.{left_in}
use Rattle.filter_chain.proofs.Picks.{ready_picks}

-- nothing of it, its head and no end, all of it: its head alone, or with a body; or it is none
pub data Phase : Type 0 where
  fresh : Phase
  inside : Phase
  bare : Phase
  whole : Phase
  broken : Phase

abbrev pub with_end : Bool → Phase
with_end true = whole
with_end false = inside

abbrev pub headed : Bool → Phase
headed true = bare
headed false = inside

abbrev pub step : Phase → ChainItem → Phase
step fresh (Head end) = headed end
step fresh (Piece bytes end) = broken
step fresh Trailers = broken
step inside (Head end) = broken
step inside (Piece bytes end) = with_end end
step inside Trailers = whole
step bare (Head end) = broken
step bare (Piece bytes end) = broken
step bare Trailers = broken
step whole (Head end) = broken
step whole (Piece bytes end) = broken
step whole Trailers = broken
step broken (Head end) = broken
step broken (Piece bytes end) = broken
step broken Trailers = broken

abbrev pub run : Phase → List ChainItem → Phase
run p [] = p
run p (i ∷ items) = run (step p i) items

abbrev pub IsSound : Phase → Type 0
IsSound fresh = Unit {0}
IsSound inside = Unit {0}
IsSound bare = Unit {0}
IsSound whole = Unit {0}
IsSound broken = ⊥

pub run_join : (p : Phase) (a b : List ChainItem) → run p (a ++ b) ≡ run (run p a) b
run_join p [] b = refl
run_join p (i ∷ a) b = run_join (step p i) a b

step_broken : (i : ChainItem) → step broken i ≡ broken
step_broken (Head end) = refl
step_broken (Piece bytes end) = refl
step_broken Trailers = refl

pub run_broken : (items : List ChainItem) → run broken items ≡ broken
run_broken [] = refl
run_broken (i ∷ items) = ap (λ (p : Phase). run p items) (step_broken i) ∙ run_broken items

-- a front of what is sound is so
pub sound_run : (p : Phase) (items : List ChainItem) → IsSound (run p items) → IsSound p
sound_run fresh items is = tt
sound_run inside items is = tt
sound_run bare items is = tt
sound_run whole items is = tt
sound_run broken items is = subst IsSound (run_broken items) is

pub sound_step : (p : Phase) (i : ChainItem) → IsSound (step p i) → IsSound p
sound_step p i is = sound_run p (i ∷ []) is

-- ---- stages

-- after what a stage holds; its bytes are a piece, or none
abbrev pub holds : Phase → Held → Phase
holds p held.Nothing = p
holds p (held.Head end) = step p (Head end)
holds p (held.Body end) = step p (Piece [] end)
holds p (held.Trailers body) = step p Trailers

abbrev pub stage : Phase → Stage → Phase
stage p s = run (holds p s.held) s.waiting

-- after what the stages have, the last first
abbrev pub chain : Phase → List Stage → Phase
chain p [] = p
chain p (s ∷ ss) = stage (chain p ss) s

sound_holds : (p : Phase) (h : Held) → IsSound (holds p h) → IsSound p
sound_holds p held.Nothing is = is
sound_holds p (held.Head end) is = sound_step p (Head end) is
sound_holds p (held.Body end) is = sound_step p (Piece [] end) is
sound_holds p (held.Trailers body) is = sound_step p Trailers is

sound_stage : (p : Phase) (s : Stage) → IsSound (stage p s) → IsSound p
sound_stage p s is = sound_holds p s.held (sound_run (holds p s.held) s.waiting is)

pub sound_chain : (p : Phase) (ss : List Stage) → IsSound (chain p ss) → IsSound p
sound_chain p [] is = is
sound_chain p (s ∷ ss) is = sound_chain p ss (sound_stage (chain p ss) s is)

-- what a stage holds, as items
held_run : (p : Phase) (h : Held) (bytes : List ℕ) → IsSound (holds p h) → run p (held_items h bytes) ≡ holds p h
held_run p held.Nothing bytes is = refl
held_run p (held.Head end) bytes is = refl
held_run p (held.Body false) [] is = by_phase p is
  where
    by_phase : (q : Phase) → IsSound (step q (Piece [] false)) → q ≡ step q (Piece [] false)
    by_phase fresh is = absurd is
    by_phase inside is = refl
    by_phase bare is = absurd is
    by_phase whole is = absurd is
    by_phase broken is = absurd is
held_run p (held.Body true) [] is = refl
held_run p (held.Body end) (b ∷ bytes) is = by_phase p
  where
    by_phase : (q : Phase) → step q (Piece (b ∷ bytes) end) ≡ step q (Piece [] end)
    by_phase fresh = refl
    by_phase inside = refl
    by_phase bare = refl
    by_phase whole = refl
    by_phase broken = refl
held_run p (held.Trailers false) bytes is = refl
held_run p (held.Trailers true) [] is = refl
held_run p (held.Trailers true) (b ∷ bytes) is = by_phase p
  where
    by_phase : (q : Phase) → step (step q (Piece (b ∷ bytes) false)) Trailers ≡ step q Trailers
    by_phase fresh = refl
    by_phase inside = refl
    by_phase bare = refl
    by_phase whole = refl
    by_phase broken = refl

-- one that passes everything has nothing
abbrev pub IsIdle : Stage → Type 0
IsIdle s = s.passes ≡ true → (s.held ≡ held.Nothing) × (s.waiting ≡ [])

abbrev pub AreIdle : List Stage → Type 0
AreIdle [] = Unit {0}
AreIdle (s ∷ ss) = IsIdle s × AreIdle ss

idle_stage : (p : Phase) (s : Stage) → IsIdle s → s.passes ≡ true → stage p s ≡ p
idle_stage p s idle passes = λ i. run (holds p ((idle passes).0 i)) ((idle passes).1 i)

-- ---- items that are handed on from a place

-- the phase after all stages where these items come between the stage at the place and the one before it
abbrev pub handing : ℕ → Phase → List ChainItem → List Stage → Phase
handing zero p items ss = run (chain p ss) items
handing (suc k) p items [] = run p items
handing (suc k) p items (s ∷ ss) = stage (handing k p items ss) s

-- from the place on the stages are the same
abbrev Agree : ℕ → List Stage → List Stage → Type 0
Agree zero xs ys = xs ≡ ys
Agree (suc k) [] [] = Unit {0}
Agree (suc k) [] (y ∷ ys) = ⊥
Agree (suc k) (x ∷ xs) [] = ⊥
Agree (suc k) (x ∷ xs) (y ∷ ys) = Agree k xs ys

-- what becomes of a chain: what left, and the stages, with this phase after them
pub record Goes (p : Phase) (out : List ChainItem) (after : List Stage) (behind : Phase) : Type 0 where
  pub is : chain (run p out) after ≡ behind
  pub idle : AreIdle after

abbrev left_of : PassOutcome × List Stage → List ChainItem
left_of r = left_in r.0

onto_next : (j : ℕ) (items : List ChainItem) (x : Stage) (changed : List Stage) (o : Option Stage)
    → (left_of (append_to (suc j) items (x ∷ changed) o) ≡ left_of (append_to j items changed o)) × ((append_to (suc j) items (x ∷ changed) o).1 ≡ x ∷ (append_to j items changed o).1)
onto_next j items x changed None = (refl, refl)
onto_next j items x changed (Some s) = (refl, refl)

goes_next : (p : Phase) (j : ℕ) (items : List ChainItem) (x : Stage) (changed : List Stage) (o : Option Stage) (behind : Phase) → IsIdle x
    → Goes p (left_of (append_to j items changed o)) (append_to j items changed o).1 behind → Goes p (left_of (append_to (suc j) items (x ∷ changed) o)) (append_to (suc j) items (x ∷ changed) o).1 (stage behind x)
goes_next p j items x changed None behind idle g = record { is = ap (λ (q : Phase). stage q x) g.is; idle = (idle, g.idle) }
goes_next p j items x changed (Some s) behind idle g = record { is = ap (λ (q : Phase). stage q x) g.is; idle = (idle, g.idle) }

-- where the first that does not pass everything stands
abbrev stops : Stage → Bool
stops s = not s.passes

first_stop : (s : Stage) (ss : List Stage) → position_or_len stops (s ∷ ss) ≡ cond (not (stops s)) (1 + position_or_len stops ss) 0
first_stop s ss = refl

lands_first : (p : Phase) (items : List ChainItem) (ss : List Stage) → AreIdle ss
    → Goes p (left_of (append_to (position_or_len stops ss) items ss (slice_get ss (position_or_len stops ss)))) (append_to (position_or_len stops ss) items ss (slice_get ss (position_or_len stops ss))).1 (run (chain p ss) items)
lands_first p items [] idle = record { is = refl; idle = tt }
lands_first p items (s ∷ ss) idle = by_passes s.passes refl (lands_first p items ss idle.1)
  where
    Goal : ℕ → Type 0
    Goal j = Goes p (left_of (append_to j items (s ∷ ss) (slice_get (s ∷ ss) j))) (append_to j items (s ∷ ss) (slice_get (s ∷ ss) j)).1 (run (stage (chain p ss) s) items)

    by_passes : (b : Bool) → s.passes ≡ b
        → Goes p (left_of (append_to (position_or_len stops ss) items ss (slice_get ss (position_or_len stops ss)))) (append_to (position_or_len stops ss) items ss (slice_get ss (position_or_len stops ss))).1 (run (chain p ss) items)
        → Goal (position_or_len stops (s ∷ ss))
    by_passes true is later =
        let at : position_or_len stops (s ∷ ss) ≡ suc (position_or_len stops ss) = first_stop s ss ∙ (ap (λ (b : Bool). cond (not (not b)) (1 + position_or_len stops ss) 0) is ∙ omega arith) in
        let g = goes_next p (position_or_len stops ss) items s ss (slice_get ss (position_or_len stops ss)) (run (chain p ss) items) idle.0 later in
        subst Goal (sym at) (record { is = g.is ∙ (idle_stage (run (chain p ss) items) s idle.0 is ∙ ap (λ (q : Phase). run q items) (sym (idle_stage (chain p ss) s idle.0 is))); idle = g.idle })
    by_passes false is later =
        let at : position_or_len stops (s ∷ ss) ≡ 0 = first_stop s ss ∙ ap (λ b. cond (not (not b)) (1 + position_or_len stops ss) 0) is in
        subst Goal (sym at)
        (record { is = run_join (holds (chain p ss) s.held) s.waiting items; idle = ((λ e. let never : ◌≡◌ {A = Bool} true false = sym e ∙ is in absurd (cc)), idle.1) })

abbrev Lands : Phase → ℕ → List ChainItem → List Stage → List Stage → ℕ → Type 0
Lands p k items stages changed j = Goes p (left_of (append_to j items changed (slice_get stages j))) (append_to j items changed (slice_get stages j)).1 (handing k p items changed)

target_first : (ss : List Stage) → target zero ss ≡ position_or_len stops ss
target_first ss = omega arith

target_next : (k : ℕ) (x : Stage) (xs : List Stage) → target (suc k) (x ∷ xs) ≡ suc (target k xs)
target_next k x xs = omega arith

lands : (p : Phase) (k : ℕ) (items : List ChainItem) (stages changed : List Stage) → Agree k stages changed → AreIdle changed → Lands p k items stages changed (target k stages)
lands p zero items stages changed same idle =
    subst (λ (l : List Stage). Lands p zero items l changed (target zero l)) (sym same) (subst (Lands p zero items changed changed) (sym (target_first changed)) (lands_first p items changed idle))
lands p (suc k) items [] [] same idle = none_there (target (suc k) [])
  where
    none_there : (j : ℕ) → Lands p (suc k) items [] [] j
    none_there zero = record { is = refl; idle = tt }
    none_there (suc j) = record { is = refl; idle = tt }
lands p (suc k) items [] (y ∷ ys) same idle = absurd same
lands p (suc k) items (x ∷ xs) [] same idle = absurd same
lands p (suc k) items (x ∷ xs) (y ∷ ys) same idle =
    subst (Lands p (suc k) items (x ∷ xs) (y ∷ ys)) (sym (target_next k x xs)) (goes_next p (target k xs) items y ys (slice_get xs (target k xs)) (handing k p items ys) idle.0 (lands p k items xs ys same idle.1))

-- ---- what is given, unless it is too much

-- what became of it: too much, and the stages are as before; or it went on
pub record Given (p : Phase) (behind : Phase) (before : List Stage) (r : PassOutcome × List Stage) : Type 0 where
  pub over : r.0 ≡ passed.Over → r.1 ≡ before
  pub goes : (items : List ChainItem) → r.0 ≡ passed.Left items → Goes p items r.1 behind

onto_left : (to : ℕ) (items : List ChainItem) (changed : List Stage) (o : Option Stage) → (append_to to items changed o).0 ≡ passed.Left (left_of (append_to to items changed o))
onto_left to items changed None = refl
onto_left to items changed (Some s) = refl

never_over : (items : List ChainItem) → passed.Over ≡ passed.Left items → {A : Type 0} → A
never_over items is = absurd (cc)

left_same : (a b : List ChainItem) → passed.Left a ≡ passed.Left b → a ≡ b
left_same a b is = cc

given_goes : (p : Phase) (h : Contexts) (n k : ℕ) (items : List ChainItem) (stages changed : List Stage) → Agree k stages changed → AreIdle changed
    → Given p (handing k p items changed) stages (hand_over h n items k stages changed)
given_goes p h n k items stages changed same idle = by_room (accepts h n (slice_get stages (target k stages)))
  where
    all : PassOutcome × List Stage
    all = append_to (target k stages) items changed (slice_get stages (target k stages))

    by_room : (b : Bool) → Given p (handing k p items changed) stages (if b then all else (passed.Over, stages))
    by_room false = record { over = λ e. refl; goes = λ out e. never_over out e }
    by_room true = record {
      over = λ e. never_over (left_of all) (sym e ∙ onto_left (target k stages) items changed (slice_get stages (target k stages)));
      goes = λ out e. subst (λ (l : List ChainItem). Goes p l all.1 (handing k p items changed)) (left_same (left_of all) out (sym (onto_left (target k stages) items changed (slice_get stages (target k stages))) ∙ e)) (lands p k items stages changed same idle);
    }

-- PUT
pub put_goes : (p : Phase) (h : Contexts) (item : ChainItem) (stages : List Stage) → AreIdle stages → Given p (step (chain p stages) item) stages (put h item stages)
put_goes p h item stages idle = given_goes p h (size (item ∷ [])) zero (item ∷ []) stages stages refl idle

-- ---- a stage that lets go

pub record Sets (p : Phase) (k : ℕ) (stages changed : List Stage) (items : List ChainItem) : Type 0 where
  pub same : Agree (suc k) stages changed
  pub idle : AreIdle changed
  pub is : handing (suc k) p items changed ≡ chain p stages

sets : (p : Phase) (k : ℕ) (stages : List Stage) (s t : Stage) (items : List ChainItem) → slice_get stages k ≡ Some s → AreIdle stages → IsIdle t → IsSound (chain p stages)
    → ((q : Phase) → IsSound (stage q s) → stage (run q items) t ≡ stage q s) → Sets p k stages (slice_set stages k t) items
sets p k [] s t items at idle idle_t sound moves = absurd (cc)
sets p zero (x ∷ xs) s t items at idle idle_t sound moves =
    let here : x ≡ s = cc in
    record { same = refl; idle = (idle_t, idle.1); is = moves (chain p xs) (subst (λ (y : Stage). IsSound (stage (chain p xs) y)) here sound) ∙ ap (stage (chain p xs)) (sym here) }
sets p (suc k) (x ∷ xs) s t items at idle idle_t sound moves =
    let later : Sets p k xs (slice_set xs k t) items = sets p k xs s t items at idle.1 idle_t (sound_stage (chain p xs) x sound) moves in
    record { same = later.same; idle = (idle.0, later.idle); is = ap (λ (q : Phase). stage q x) later.is }

-- what went on of it, and the contexts
pub record GoesOn (p : Phase) (behind : Phase) (before : List Stage) (r : PassOutcome × List Stage × Contexts) : Type 0 where
  pub over : r.0 ≡ passed.Over → r.1 ≡ before
  pub goes : (items : List ChainItem) → r.0 ≡ passed.Left items → Goes p items r.1 behind

unless : (p behind : Phase) (before : List Stage) (h k : Contexts) (r : PassOutcome × List Stage) → Given p behind before r → GoesOn p behind before (unless_over h k r)
unless p behind before h k (passed.Over, stages) g = record { over = g.over; goes = g.goes }
unless p behind before h k (passed.Left items, stages) g = record { over = g.over; goes = g.goes }

one_more : (k : ℕ) → k + 1 ≡ suc k
one_more k = omega arith

let_go_moves : (s : Stage) (bytes : List ℕ) (q : Phase) → IsSound (stage q s) → stage (run q (held_items s.held bytes)) (without_hold s) ≡ stage q s
let_go_moves s bytes q sound = ap (λ (r : Phase). run r s.waiting) (held_run q s.held bytes (sound_run (holds q s.held) s.waiting sound))

opened_moves : (s : Stage) (bytes : List ℕ) (q : Phase) → IsSound (stage q s) → stage (run q (held_items s.held bytes ++ s.waiting)) (bypassed_stage s) ≡ stage q s
opened_moves s bytes q sound = run_join q (held_items s.held bytes) s.waiting ∙ let_go_moves s bytes q sound

idle_at : (stages : List Stage) (k : ℕ) (s : Stage) → slice_get stages k ≡ Some s → AreIdle stages → IsIdle s
idle_at [] k s at idle = absurd (cc)
idle_at (x ∷ xs) zero s at idle = let here : x ≡ s = cc in subst IsIdle here idle.0
idle_at (x ∷ xs) (suc k) s at idle = idle_at xs k s at idle.1

let_go_idle : (s : Stage) → IsIdle s → IsIdle (without_hold s)
let_go_idle s idle passes = (refl, (idle passes).1)

none_goes : (p : Phase) (h : Contexts) (stages : List Stage) → AreIdle stages → GoesOn p (chain p stages) stages (passed.Left [], stages, h)
none_goes p h stages idle = record {
  over = λ e. refl;
  goes = λ out e. subst (λ (l : List ChainItem). Goes p l stages (chain p stages)) (left_same [] out e) (record { is = refl; idle = idle });
}

-- CONTINUE
pub continued_goes : (p : Phase) (h : Contexts) (k : ℕ) (stages : List Stage) → AreIdle stages → IsSound (chain p stages) → GoesOn p (chain p stages) stages (continued h k stages)
continued_goes p h k stages idle sound = by_stage (slice_get stages k) refl
  where
    by_stage : (o : Option Stage) → slice_get stages k ≡ o → GoesOn p (chain p stages) stages (continued_at h k stages o)
    by_stage None at = none_goes p h stages idle
    by_stage (Some s) at =
        let t : Sets p k stages (slice_set stages k (without_hold s)) (held_items s.held (bytes_held h s))
        = sets p k stages s (without_hold s) (held_items s.held (bytes_held h s)) at idle (let_go_idle s (idle_at stages k s at idle)) sound (let_go_moves s (bytes_held h s)) in
        unless p (chain p stages) stages h (without_held h s) (hand_over h (length (bytes_held h s)) (held_items s.held (bytes_held h s)) (k + 1) stages (slice_set stages k (without_hold s)))
        (subst (λ (j : ℕ). Given p (chain p stages) stages (hand_over h (length (bytes_held h s)) (held_items s.held (bytes_held h s)) j stages (slice_set stages k (without_hold s)))) (sym (one_more k))
        (subst (λ (q : Phase). Given p q stages (hand_over h (length (bytes_held h s)) (held_items s.held (bytes_held h s)) (suc k) stages (slice_set stages k (without_hold s)))) t.is
        (given_goes p h (length (bytes_held h s)) (suc k) (held_items s.held (bytes_held h s)) stages (slice_set stages k (without_hold s)) t.same t.idle)))

-- LET THROUGH
pub through_goes : (p : Phase) (h : Contexts) (k : ℕ) (stages : List Stage) → AreIdle stages → IsSound (chain p stages) → GoesOn p (chain p stages) stages (let_through h k stages)
through_goes p h k stages idle sound = by_stage (slice_get stages k) refl
  where
    by_stage : (o : Option Stage) → slice_get stages k ≡ o → GoesOn p (chain p stages) stages (let_through_at h k stages o)
    by_stage None at = none_goes p h stages idle
    by_stage (Some s) at =
        let items : List ChainItem = held_items s.held (bytes_held h s) ++ s.waiting in
        let n : ℕ = length (bytes_held h s) + size s.waiting in
        let t : Sets p k stages (slice_set stages k (bypassed_stage s)) items = sets p k stages s (bypassed_stage s) items at idle (λ e. (refl, refl)) sound (opened_moves s (bytes_held h s)) in
        unless p (chain p stages) stages h (without_held h s) (hand_over h n items (k + 1) stages (slice_set stages k (bypassed_stage s)))
        (subst (λ (j : ℕ). Given p (chain p stages) stages (hand_over h n items j stages (slice_set stages k (bypassed_stage s)))) (sym (one_more k))
        (subst (λ (q : Phase). Given p q stages (hand_over h n items (suc k) stages (slice_set stages k (bypassed_stage s)))) t.is
        (given_goes p h n (suc k) items stages (slice_set stages k (bypassed_stage s)) t.same t.idle)))

-- ---- ASK

-- the stages, and the phase after them
pub record Asks (p : Phase) (behind : Phase) (after : List Stage) : Type 0 where
  pub is : chain p after ≡ behind
  pub idle : AreIdle after

sets_one : (p : Phase) (k : ℕ) (stages : List Stage) (s t : Stage) → slice_get stages k ≡ Some s → AreIdle stages → IsIdle t → IsSound (chain p stages)
    → ((q : Phase) → IsSound (stage q s) → stage q t ≡ stage q s) → Asks p (chain p stages) (slice_set stages k t)
sets_one p k [] s t at idle idle_t sound moves = absurd (cc)
sets_one p zero (x ∷ xs) s t at idle idle_t sound moves =
    let here : x ≡ s = cc in
    record { is = moves (chain p xs) (subst (λ (y : Stage). IsSound (stage (chain p xs) y)) here sound) ∙ ap (stage (chain p xs)) (sym here); idle = (idle_t, idle.1) }
sets_one p (suc k) (x ∷ xs) s t at idle idle_t sound moves =
    let later : Asks p (chain p xs) (slice_set xs k t) = sets_one p k xs s t at idle.1 idle_t (sound_stage (chain p xs) x sound) moves in
    record { is = ap (λ (q : Phase). stage q x) later.is; idle = (idle.0, later.idle) }

-- the first that waits is held then
holds_next : (q : Phase) (g : Held) (i : ChainItem) (next : Held) → is_free g ≡ true → IsSound (step (holds q g) i) → ((bytes : List ℕ) (end : Bool) → i ≡ Piece bytes end → next ≡ held.Body end)
    → ((end : Bool) → i ≡ Head end → next ≡ held.Head end) → (i ≡ Trailers → next ≡ held.Trailers (holds_bytes g)) → holds q next ≡ step (holds q g) i
holds_next q held.Nothing (Head end) next free sound piece head trailers = ap (holds q) (head end refl)
holds_next q held.Nothing (Piece bytes end) next free sound piece head trailers = ap (holds q) (piece bytes end refl) ∙ by_phase q
  where
    by_phase : (r : Phase) → step r (Piece [] end) ≡ step r (Piece bytes end)
    by_phase fresh = refl
    by_phase inside = refl
    by_phase bare = refl
    by_phase whole = refl
    by_phase broken = refl
holds_next q held.Nothing Trailers next free sound piece head trailers = ap (holds q) (trailers refl)
holds_next q (held.Head end) i next free sound piece head trailers = absurd (cc)
holds_next q (held.Trailers body) i next free sound piece head trailers = absurd (cc)
holds_next q (held.Body false) (Head end) next free sound piece head trailers = absurd (by_phase q sound)
  where
    by_phase : (r : Phase) → IsSound (step (step r (Piece [] false)) (Head end)) → ⊥
    by_phase fresh is = is
    by_phase inside is = is
    by_phase bare is = is
    by_phase whole is = is
    by_phase broken is = is
holds_next q (held.Body true) i next free sound piece head trailers = absurd (by_item i sound)
  where
    by_phase : (r : Phase) (j : ChainItem) → IsSound (step (step r (Piece [] true)) j) → ⊥
    by_phase fresh (Head end) is = is
    by_phase fresh (Piece bytes end) is = is
    by_phase fresh Trailers is = is
    by_phase inside (Head end) is = is
    by_phase inside (Piece bytes end) is = is
    by_phase inside Trailers is = is
    by_phase bare (Head end) is = is
    by_phase bare (Piece bytes end) is = is
    by_phase bare Trailers is = is
    by_phase whole (Head end) is = is
    by_phase whole (Piece bytes end) is = is
    by_phase whole Trailers is = is
    by_phase broken (Head end) is = is
    by_phase broken (Piece bytes end) is = is
    by_phase broken Trailers is = is

    by_item : (j : ChainItem) → IsSound (step (step q (Piece [] true)) j) → ⊥
    by_item j is = by_phase q j is
holds_next q (held.Body false) (Piece bytes end) next free sound piece head trailers = ap (holds q) (piece bytes end refl) ∙ by_phase q sound
  where
    by_phase : (r : Phase) → IsSound (step (step r (Piece [] false)) (Piece bytes end)) → step r (Piece [] end) ≡ step (step r (Piece [] false)) (Piece bytes end)
    by_phase fresh is = refl
    by_phase inside is = refl
    by_phase bare is = refl
    by_phase whole is = refl
    by_phase broken is = refl
holds_next q (held.Body false) Trailers next free sound piece head trailers = ap (holds q) (trailers refl) ∙ by_phase q sound
  where
    by_phase : (r : Phase) → IsSound (step (step r (Piece [] false)) Trailers) → step r Trailers ≡ step (step r (Piece [] false)) Trailers
    by_phase fresh is = refl
    by_phase inside is = refl
    by_phase bare is = refl
    by_phase whole is = refl
    by_phase broken is = refl

and_right : (a b : Bool) → (a && b) ≡ true → b ≡ true
and_right true b is = is
and_right false b is = absurd (cc)

item_asked : (p : Phase) (h : Contexts) (k : ℕ) (stages : List Stage) (s : Stage) (waits : List ChainItem) → s.waiting ≡ waits → is_free s.held ≡ true → slice_get stages k ≡ Some s → AreIdle stages → IsSound (chain p stages)
    → Asks p (chain p stages) (slice_set stages k (ask_item h k s waits).1)
item_asked p h k stages s waits is free at idle sound = by_waits waits is
  where
    Goal : Stage → Type 0
    Goal t = Asks p (chain p stages) (slice_set stages k t)

    as_is : Goal s
    as_is = sets_one p k stages s s at idle (idle_at stages k s at idle) sound (λ q e. refl)

    no_pass : (i : ChainItem) (more : List ChainItem) → s.waiting ≡ i ∷ more → s.passes ≡ true → ⊥
    no_pass i more waiting passes = let none : s.waiting ≡ [] = ((idle_at stages k s at idle) passes).1 in absurd (cc)

    next : (i : ChainItem) (more : List ChainItem) (g : Held) → s.waiting ≡ i ∷ more → ((q : Phase) → IsSound (step (holds q s.held) i) → holds q g ≡ step (holds q s.held) i)
        → Goal (record s { waiting = more; held = g })
    next i more g waiting same =
        sets_one p k stages s (record s { waiting = more; held = g }) at idle (λ e. absurd (no_pass i more waiting e)) sound
        (λ q e.
        let run_so : IsSound (run (step (holds q s.held) i) more) = subst (λ (l : List ChainItem). IsSound (run (holds q s.held) l)) waiting e in
        ap (λ (r : Phase). run r more) (same q (sound_run (step (holds q s.held) i) more run_so)) ∙ ap (λ (l : List ChainItem). run (holds q s.held) l) (sym waiting))

    piece_end : (bytes : List ℕ) (end : Bool) (b : List ℕ) (e : Bool) → Piece bytes end ≡ Piece b e → held.Body end ≡ held.Body e
    piece_end bytes end b e same = let e_is : end ≡ e = cc in ap held.Body e_is

    head_end : (end e : Bool) → Head end ≡ Head e → held.Head end ≡ held.Head e
    head_end end e same = let e_is : end ≡ e = cc in ap held.Head e_is

    by_waits : (ws : List ChainItem) → s.waiting ≡ ws → Goal (ask_item h k s ws).1
    by_waits [] waiting = as_is
    by_waits (Head end ∷ more) waiting =
        next (Head end) more (held.Head end) waiting (λ q e. holds_next q s.held (Head end) (held.Head end) free e (λ b f same. absurd (cc)) (λ f same. head_end end f same) (λ same. absurd (cc)))
    by_waits (Piece bytes end ∷ more) waiting = by_room (nat_le (length (bytes_at h s) + length bytes) limit)
      where
        by_room : (b : Bool)
            → Goal (if◌then◌else◌ {A = Asking × Stage × Contexts} b (ask_of k kinds.Piece (length (bytes_at h s) + length bytes) end, record s { waiting = more; held = held.Body end }, with_buffered h s.vm s.context s.response bytes end) (Over k, s, h)).1
        by_room true = next (Piece bytes end) more (held.Body end) waiting (λ q e. holds_next q s.held (Piece bytes end) (held.Body end) free e (λ b f same. piece_end bytes end b f same) (λ f same. absurd (cc)) (λ same. absurd (cc)))
        by_room false = as_is
    by_waits (Trailers ∷ more) waiting =
        next Trailers more (held.Trailers (holds_bytes s.held)) waiting (λ q e. holds_next q s.held Trailers (held.Trailers (holds_bytes s.held)) free e (λ b f same. absurd (cc)) (λ f same. absurd (cc)) (λ same. refl))

pub asked_goes : (p : Phase) (h : Contexts) (stages : List Stage) → AreIdle stages → IsSound (chain p stages) → Asks p (chain p stages) (asked h stages).1
asked_goes p h stages idle sound = by_ready (ready stages) refl
  where
    same : Asks p (chain p stages) stages
    same = record { is = refl; idle = idle }

    by_stage : (k : ℕ) → ready stages ≡ suc k → (o : Option Stage) → slice_get stages k ≡ o → Asks p (chain p stages) (ask_stage h k stages o).1
    by_stage k is None at = same
    by_stage k is (Some s) at = item_asked p h k stages s s.waiting refl (and_right (is_any s.waiting) (is_free s.held) (ready_picks stages k s is at)) at idle sound

    by_ready : (n : ℕ) → ready stages ≡ n → Asks p (chain p stages) (asked_at h stages n).1
    by_ready zero is = same
    by_ready (suc k) is = by_stage k is (slice_get stages k) refl

-- ---- stages that are new have nothing

pub made_phase : {A : Type 0} (f : A → Stage) → ((a : A) → ((f a).passes ≡ false) × ((f a).held ≡ held.Nothing) × ((f a).waiting ≡ [])) → (p : Phase) (l : List A) → chain p (map f l) ≡ p
made_phase f new p [] = refl
made_phase f new p (a ∷ l) = (λ i. run (holds (chain p (map f l)) ((new a).1 i)) ((new a).2 i)) ∙ made_phase f new p l

pub made_idle : {A : Type 0} (f : A → Stage) → ((a : A) → (f a).passes ≡ false) → (l : List A) → AreIdle (map f l)
made_idle f new [] = tt
made_idle f new (a ∷ l) = ((λ e. let never : ◌≡◌ {A = Bool} true false = sym e ∙ new a in absurd (cc)), made_idle f new l)
