-- Which connections stand as more passes.
use Rattle.std.proofs.Common.{◌≡◌, ◌∙◌, ◌+◌, ◌&&◌, ◌||◌, not, ℕ, ◌<◌, ◌≤◌, eq-eqb, ⊎_elim, Bool, true, false, List, [], ◌∷◌, ◌++◌, append_assoc, length, take, Option, None, Some, Result, Ok, Err, nat_lt, refl, ap, sym, subst, arith, if◌then◌else◌}
use Rattle.std.proofs.lemmas.Bool.{cases_eq}
use Rattle.std.proofs.lemmas.List.{append-nil}
use Rattle.gate_io.specs.Passing.{asking, sending, taking, piece}
use Rattle.gate_io.specs.Told.{Gains, gains_more, gains_nothing}
use Rattle.gate_io.specs.declared.ends.WorldEnd.{WorldEnd}
use Rattle.gate_io.specs.declared.ends.WorldEnd.TheVariants as ends
use Rattle.gate_io.specs.declared.event.Sent.{Sent}
use Rattle.gate_io.specs.declared.event.Sent.TheVariants.{Close}
use Rattle.gate_io.specs.declared.event.Side.{Side}
use Rattle.gate_io.specs.declared.event.Side.TheVariants.{Down, Up}
use Rattle.gate_io.specs.declared.passed.Passed.{Passed}
use Rattle.gate_io.specs.declared.passed.Passed.TheVariants.{Asked, Gave, Took, Short}
use Rattle.gate_io.specs.declared.passed.Wants.{Wants}
use Rattle.fleet.specs.Closing.{AllClosed, AreStanding, AreCloses, AreRising, Behind, Closes, ClosesAll, NothingStands, SomeClosed, after_step, after_sent, closes_of, connection, is_in, is_one, is_side, low_behind, one_if, rank, side_rank, stands, stands_from}
use Rattle.fleet.specs.declared.watched.Connection.{Connection}
use Rattle.fleet.proofs.Listing.{put_behind, same}

more_steps : (c : Connection) (now : Bool) (xs ys : List Passed) → stands_from c now (xs ++ ys) ≡ stands_from c (stands_from c now xs) ys
more_steps c now [] ys = refl
more_steps c now (x ∷ xs) ys = more_steps c (after_step c now x) xs ys

-- the list goes on as what passed
pub standing_more : (old : Option (List Passed)) (steps : List Passed) (new : Option (List Passed)) (list after : List Connection) → Gains old steps new → AreStanding old list
    → ((c : Connection) → is_in c after ≡ stands_from c (is_in c list) steps) → AreStanding new after
standing_more None steps new list after gains are each = subst (λ (o : Option (List Passed)). AreStanding o after) (sym gains) tt
standing_more (Some trace) steps new list after gains are each =
    subst (λ (o : Option (List Passed)). AreStanding o after) (sym gains)
    (λ c. each c ∙ ap (λ b. stands_from c b steps) (are c) ∙ sym (more_steps c false trace steps))

abbrev pub Still : List Passed → Type 0
Still steps = (c : Connection) (now : Bool) → stands_from c now steps ≡ now

pub stands_still : (old : Option (List Passed)) (steps : List Passed) (new : Option (List Passed)) (list : List Connection) → Gains old steps new → AreStanding old list → Still steps → AreStanding new list
stands_still old steps new list gains are still = standing_more old steps new list list gains are (λ c. sym (still c (is_in c list)))

short_still : (b : Bool) (line : ℕ) (side : Side) → Still (if b then Short line side ∷ [] else [])
short_still true line side c now = refl
short_still false line side c now = refl

piece_still : (line : ℕ) (side : Side) (bytes : List ℕ) → Still (piece line side bytes)
piece_still line side [] c now = refl
piece_still line side (b ∷ bytes) c now = refl

pub sending_still : {E : Type 0} (line : ℕ) (side : Side) (bytes : List ℕ) (result : Result ℕ E) → Still (sending line side bytes result)
sending_still line side bytes (Ok n) c now =
    more_steps c now (piece line side (take n bytes)) (if nat_lt n (length bytes) then Short line side ∷ [] else [])
    ∙ short_still (nat_lt n (length bytes)) line side c (stands_from c now (piece line side (take n bytes)))
    ∙ piece_still line side (take n bytes) c now
sending_still line side bytes (Err e) c now = refl

pub log_still : {T E : Type 0} (result : Result T E) (sent : Sent) → ((c : Connection) (now : Bool) → after_sent c now sent ≡ now) → Still (taking sent result)
log_still (Ok x) sent h c now = h c now
log_still (Err e) sent h c now = refl

pub asked_still : (wants : Wants) (e : WorldEnd) → Still (asking wants (Err e))
asked_still wants ends.Failed c now = refl
asked_still wants ends.OutOfMemory c now = refl

one_more : (steps : List Passed) (line : ℕ) (side : Side) → AreCloses steps → AreCloses (steps ++ Took (Close line side) ∷ [])
one_more [] line side h = (tt, tt)
one_more (Asked wants ∷ steps) line side h = absurd h
one_more (Gave event ∷ steps) line side h = absurd h
one_more (Took sent ∷ steps) line side h = (h.0, one_more steps line side h.1)
one_more (Short l s ∷ steps) line side h = absurd h

-- ---- how often each is closed

closes_join : (c : Connection) (xs ys : List Passed) → closes_of c (xs ++ ys) ≡ closes_of c xs + closes_of c ys
closes_join c [] ys = omega arith
closes_join c (Asked wants ∷ xs) ys = closes_join c xs ys
closes_join c (Gave event ∷ xs) ys = closes_join c xs ys
closes_join c (Took sent ∷ xs) ys = let more = closes_join c xs ys in omega (arith, more)
closes_join c (Short line side ∷ xs) ys = closes_join c xs ys

-- one that stands and is closed stands no more, and another is as before
counted : (it now : Bool) → (it ≡ true → now ≡ true) → one_if it + one_if (not it && now) ≡ one_if now
counted true true h = refl
counted true false h = absurd (cc (h refl))
counted false true h = refl
counted false false h = refl

-- the connection stands, where that is told
abbrev pub StandsNow : Option (List Passed) → Connection → Type 0
StandsNow None c = Unit {0}
StandsNow (Some trace) c = stands c trace ≡ true

pub listed_stands : (told : Option (List Passed)) (list : List Connection) (c : Connection) → AreStanding told list → is_in c list ≡ true → StandsNow told c
listed_stands None list c are here = tt
listed_stands (Some trace) list c are here = sym (are c) ∙ here

some_closed_none : (told : Option (List Passed)) → Behind SomeClosed told []
some_closed_none None = tt
some_closed_none (Some trace) = λ c. let same = ap (λ (t : List Passed). one_if (stands c t)) (append-nil trace) in omega (arith, same)

some_closed_more : (trace steps : List Passed) (line : ℕ) (side : Side) → SomeClosed trace steps → stands (connection line side) (trace ++ steps) ≡ true → SomeClosed trace (steps ++ Took (Close line side) ∷ [])
some_closed_more trace steps line side so stood c =
    let it = is_one c (connection line side) in
    let now = stands c (trace ++ steps) in
    let is : it ≡ true → now ≡ true = λ one. ap (λ (d : Connection). stands d (trace ++ steps)) (same c (connection line side) one) ∙ stood in
    let after : stands c (trace ++ (steps ++ Took (Close line side) ∷ [])) ≡ (not it && now) =
    ap (stands c) (sym (append_assoc trace steps (Took (Close line side) ∷ []))) ∙ more_steps c false (trace ++ steps) (Took (Close line side) ∷ []) in
    let left : one_if (stands c (trace ++ (steps ++ Took (Close line side) ∷ []))) ≡ one_if (not it && now) = ap one_if after in
    let one : one_if it + one_if (not it && now) ≡ one_if now = counted it now is in
    let both : closes_of c (steps ++ Took (Close line side) ∷ []) ≡ closes_of c steps + (one_if it + 0) = closes_join c steps (Took (Close line side) ∷ []) in
    let before = so c in
    omega (arith, left, one, both, before)

one_more_closed : (old mid : Option (List Passed)) (steps : List Passed) (line : ℕ) (side : Side) → Behind SomeClosed old steps → Gains old steps mid → StandsNow mid (connection line side)
    → Behind SomeClosed old (steps ++ Took (Close line side) ∷ [])
one_more_closed None mid steps line side so told stood = tt
one_more_closed (Some trace) mid steps line side so told stood =
    some_closed_more trace steps line side so (subst (λ (o : Option (List Passed)). StandsNow o (connection line side)) told stood)

-- ---- in which order

abbrev closing : Connection → Passed
closing c = Took (Close c.line c.side)

side_low : (s : Side) → side_rank s ≤ 1
side_low Up = omega arith
side_low Down = omega arith

-- of two connections in one place both are one
rank_side : (s t : Side) → side_rank s ≡ side_rank t → is_side s t ≡ true
rank_side Down Down e = refl
rank_side Down Up e = absurd (omega (arith, e))
rank_side Up Down e = absurd (omega (arith, e))
rank_side Up Up e = refl

rank_one : (c d : Connection) → rank c ≡ rank d → is_one c d ≡ true
rank_one c d e =
    let low = side_low c.side in
    let low_too = side_low d.side in
    let line : c.line ≡ d.line = omega (arith, e, low, low_too) in
    let side : side_rank c.side ≡ side_rank d.side = omega (arith, e, low, low_too) in
    ap (λ b. b && is_side c.side d.side) (eq-eqb c.line d.line line) ∙ rank_side c.side d.side side

above : (c d : Connection) → rank c ≤ rank d → is_one d c ≡ false → rank c < rank d
above c d low apart =
    ⊎_elim
    (λ (e : rank c ≡ rank d). absurd (let one : is_one d c ≡ true = rank_one d c (sym e) in cc (sym one ∙ apart)))
    (λ (n : rank c ≡ rank d → ⊥). omega (arith, low, n))
    (cases_eq (rank c) (rank d))

-- after a close, one of a connection above it
rising_more : (low : ℕ) (steps : List Passed) (c d : Connection) → AreRising low (steps ++ closing c ∷ []) → rank c < rank d → AreRising low ((steps ++ closing c ∷ []) ++ closing d ∷ [])
rising_more low [] c d h less = (h.0, (less, tt))
rising_more low (Asked wants ∷ steps) c d h less = rising_more low steps c d h less
rising_more low (Gave event ∷ steps) c d h less = rising_more low steps c d h less
rising_more low (Took sent ∷ steps) c d h less = (h.0, rising_more (low_behind low sent) steps c d h.1 less)
rising_more low (Short line side ∷ steps) c d h less = rising_more low steps c d h less

left_of : (b now : Bool) → (not b && now) ≡ true → (b ≡ false) × (now ≡ true)
left_of true now h = absurd (cc h)
left_of false now h = (refl, h)

-- Some are closed, and the closes go on rising whichever of the list is closed next.
pub record ClosesThen (old new : Option (List Passed)) (list : List Connection) : Type 0 where
  pub so : Closes old new
  pub next : (c : Connection) → is_in c list ≡ true → AreRising 0 (so.steps ++ closing c ∷ [])

pub no_close : (told : Option (List Passed)) (list : List Connection) → ClosesThen told told list
no_close told list = record {
  so = record { steps = []; closes = tt; some = some_closed_none told; rising = tt; told = gains_nothing told };
  next = λ c here. (omega arith, tt);
}

pub closes_more : (old mid new : Option (List Passed)) (list after : List Connection) (one : Connection) → ClosesThen old mid list → is_in one list ≡ true
    → ((c : Connection) → is_in c list ≡ true → rank one ≤ rank c) → ((c : Connection) → is_in c after ≡ (not (is_one c one) && is_in c list)) → StandsNow mid one → Gains mid (closing one ∷ []) new → ClosesThen old new after
closes_more old mid new list after one a here least left stood b = record {
  so = record {
    steps = a.so.steps ++ closing one ∷ [];
    closes = one_more a.so.steps one.line one.side a.so.closes;
    some = one_more_closed old mid a.so.steps one.line one.side a.so.some a.so.told stood;
    rising = a.next one here;
    told = gains_more old a.so.steps mid (closing one ∷ []) new a.so.told b;
  };
  next = λ c there.
      let two = left_of (is_one c one) (is_in c list) (sym (left c) ∙ there) in
      rising_more 0 a.so.steps one c (a.next one here) (above one c (least c two.1) two.0);
}

-- the least of those so far
pub least_more : (first new x : Connection) (xs : List Connection) → ((c : Connection) → is_in c xs ≡ true → rank first ≤ rank c) → rank new ≤ rank first → rank new ≤ rank x
    → (c : Connection) → is_in c (xs ++ x ∷ []) ≡ true → rank new ≤ rank c
least_more first new x xs least low low_too c here =
    either (is_in c xs) (is_one c x) (sym (put_behind x xs c) ∙ here)
    (λ e. let most = least c e in omega (arith, most, low))
    (λ e. subst (λ (d : Connection). rank new ≤ rank d) (sym (same c x e)) low_too)
  where
    either : {A : Type 0} (a b : Bool) → (a || b) ≡ true → (a ≡ true → A) → (b ≡ true → A) → A
    either true b h f g = f refl
    either false b h f g = g h

pub nothing_stands : (told : Option (List Passed)) (list : List Connection) → AreStanding told list → list ≡ [] → NothingStands told
nothing_stands None list are none = tt
nothing_stands (Some trace) list are none = λ c. sym (are c) ∙ ap (λ (l : List Connection). is_in c l) none

-- where none stands, all were closed
all_closed : (old : Option (List Passed)) (steps : List Passed) (new : Option (List Passed)) → Behind SomeClosed old steps → Gains old steps new → NothingStands new → Behind AllClosed old steps
all_closed None steps new so told none = tt
all_closed (Some trace) steps new so told none =
    let nothing : NothingStands (Some (trace ++ steps)) = subst NothingStands told none in
    λ c. (let left = ap one_if (nothing c) in let before = so c in omega (arith, left, before))

pub closes_all : (old new : Option (List Passed)) → Closes old new → NothingStands new → ClosesAll old new
closes_all old new a none = record { steps = a.steps; closes = a.closes; all = all_closed old a.steps new a.some a.told none; rising = a.rising; told = a.told; none_stands = none }
