-- Lines by their numbers, one after another.
use Rattle.std.proofs.Common.{◌≡◌, ◌⊎◌, inl, inr, ℕ, suc, ◌+◌, ◌<◌, ◌≤◌, ◌==◌, Bool, true, false, not, cond, List, [], ◌∷◌, length, refl, ap, ◌∙◌, sym, subst, one-add, arith}
use Rattle.std.proofs.lemmas.Bool.Decides.{leb_tells, eqb_tells}
use Rattle.std.specs.Prelude.{Option, None, Some, is_some, option_map, slice_get, position, nat_lt, insert, if◌then◌else◌}
use Rattle.std.specs.List.{position_or_len}
use Rattle.callouts.specs.Callouts.{is_call_line}
use Rattle.worker_model.specs.declared.types.Line.{Line}
use Rattle.worker_model.specs.Rooms.{place_in}
use Rattle.worker_model.specs.Steps.{on_line, line_at, line_at_place, in_place, line_in, without_place, new_line, place_for}
use Rattle.law_reading.specs.Lines.{AreAbove, AreRising}
use Rattle.law_reading.proofs.Alike.{AreAlike}
use Prim.Native.Nat.compare

-- ---- the first that passes

lt_zero : (m : ℕ) → nat_lt 0 (suc m) ≡ true
lt_zero m = by_test (leb_tells 1 (suc m))
  where
    by_test : ((nat_lt 0 (suc m) ≡ true) × (1 ≤ suc m)) ⊎ ((nat_lt 0 (suc m) ≡ false) × (suc m < 1)) → nat_lt 0 (suc m) ≡ true
    by_test (inl is) = is.0
    by_test (inr other) = let never : ⊥ = omega (arith, other.1) in absurd never

pos_if : (b : Bool) (k m : ℕ) → cond (nat_lt (cond (not b) (1 + k) 0) (suc m)) (Some (cond (not b) (1 + k) 0)) None ≡ cond b (Some 0) (option_map (λ (n : ℕ). suc n) (cond (nat_lt k m) (Some k) None))
pos_if true k m = ap (λ b. cond b (Some 0) None) (lt_zero m)
pos_if false k m = rw (one-add, compare.suc-suc) (by_lt (nat_lt k m))
  where
    by_lt : (c : Bool) → cond c (Some (suc k)) None ≡ option_map (λ (n : ℕ). suc n) (cond c (Some k) None)
    by_lt true = refl
    by_lt false = refl

position_cons : {X : Type 0} (p : X → Bool) (x : X) (xs : List X) → position p (x ∷ xs) ≡ cond (p x) (Some 0) (option_map (λ (n : ℕ). suc n) (position p xs))
position_cons p x xs = pos_if (p x) (position_or_len p xs) (length xs)

pub equal_by : (a b : ℕ) → (a == b) ≡ true → a ≡ b
equal_by a b is = by_test (eqb_tells a b)
  where
    by_test : (((a == b) ≡ true) × (a ≡ b)) ⊎ (((a == b) ≡ false) × (a ≡ b → ⊥)) → a ≡ b
    by_test (inl e) = e.1
    by_test (inr e) = absurd (cc)

pub equal_is : (a b : ℕ) → a ≡ b → (a == b) ≡ true
equal_is a b is = by_test (eqb_tells a b)
  where
    by_test : (((a == b) ≡ true) × (a ≡ b)) ⊎ (((a == b) ≡ false) × (a ≡ b → ⊥)) → (a == b) ≡ true
    by_test (inl e) = e.0
    by_test (inr e) = absurd (e.1 is)

pub other_by : (a b : ℕ) → (a == b) ≡ false → a ≡ b → ⊥
other_by a b is same = let e : (a == b) ≡ true = equal_is a b same in absurd (cc)

pub other_is : (a b : ℕ) → (a ≡ b → ⊥) → (a == b) ≡ false
other_is a b is = by_test (eqb_tells a b)
  where
    by_test : (((a == b) ≡ true) × (a ≡ b)) ⊎ (((a == b) ≡ false) × (a ≡ b → ⊥)) → (a == b) ≡ false
    by_test (inl e) = absurd (is e.1)
    by_test (inr e) = e.0

-- ---- by recursion

abbrev pub found_in : ℕ → List Line → Option Line
found_in n [] = None
found_in n (l ∷ lines) = if l.number == n then Some l else found_in n lines

abbrev pub set_in : (Line → Line) → ℕ → List Line → List Line
set_in f n [] = []
set_in f n (l ∷ lines) = if l.number == n then f l ∷ lines else l ∷ set_in f n lines

abbrev pub without : ℕ → List Line → List Line
without n [] = []
without n (l ∷ lines) = if l.number == n then lines else l ∷ without n lines

abbrev pub with_new : ℕ → List Line → List Line
with_new n [] = new_line n ∷ []
with_new n (l ∷ lines) = if nat_lt n l.number then new_line n ∷ l ∷ lines else l ∷ with_new n lines

here : (n : ℕ) (l : Line) (lines : List Line) → place_in n (l ∷ lines) ≡ cond (l.number == n) (Some 0) (option_map (λ (k : ℕ). suc k) (place_in n lines))
here n l lines = position_cons (λ (line : Line). line.number == n) l lines

pub line_in_found : (n : ℕ) (lines : List Line) → line_in n lines ≡ found_in n lines
line_in_found n [] = refl
line_in_found n (l ∷ lines) = ap (in_place (l ∷ lines)) (here n l lines) ∙ by_test (line_in_found n lines) (l.number == n)
  where
    later : (o : Option ℕ) → in_place (l ∷ lines) (option_map (λ (k : ℕ). suc k) o) ≡ in_place lines o
    later None = refl
    later (Some k) = refl

    by_test : line_in n lines ≡ found_in n lines → (b : Bool) → in_place (l ∷ lines) (cond b (Some 0) (option_map (λ (k : ℕ). suc k) (place_in n lines))) ≡ (if b then Some l else found_in n lines)
    by_test rest true = refl
    by_test rest false = later (place_in n lines) ∙ rest

pub on_line_set : (f : Line → Line) (n : ℕ) (lines : List Line) → on_line f n lines ≡ set_in f n lines
on_line_set f n [] = refl
on_line_set f n (l ∷ lines) = ap (line_at_place f (l ∷ lines)) (here n l lines) ∙ by_test (on_line_set f n lines) (l.number == n)
  where
    at : (k : ℕ) (o : Option Line) → line_at f (l ∷ lines) (suc k) o ≡ l ∷ line_at f lines k o
    at k None = refl
    at k (Some x) = refl

    later : (o : Option ℕ) → line_at_place f (l ∷ lines) (option_map (λ (k : ℕ). suc k) o) ≡ l ∷ line_at_place f lines o
    later None = refl
    later (Some k) = at k (slice_get lines k)

    by_test : on_line f n lines ≡ set_in f n lines → (b : Bool) → line_at_place f (l ∷ lines) (cond b (Some 0) (option_map (λ (k : ℕ). suc k) (place_in n lines))) ≡ (if b then f l ∷ lines else l ∷ set_in f n lines)
    by_test rest true = refl
    by_test rest false = later (place_in n lines) ∙ ap (λ ls. l ∷ ls) rest

pub drops_without : (n : ℕ) (lines : List Line) → without_place lines (place_in n lines) ≡ without n lines
drops_without n [] = refl
drops_without n (l ∷ lines) = ap (without_place (l ∷ lines)) (here n l lines) ∙ by_test (drops_without n lines) (l.number == n)
  where
    later : (o : Option ℕ) → without_place (l ∷ lines) (option_map (λ (k : ℕ). suc k) o) ≡ l ∷ without_place lines o
    later None = refl
    later (Some k) = refl

    by_test : without_place lines (place_in n lines) ≡ without n lines → (b : Bool) → without_place (l ∷ lines) (cond b (Some 0) (option_map (λ (k : ℕ). suc k) (place_in n lines))) ≡ (if b then lines else l ∷ without n lines)
    by_test rest true = refl
    by_test rest false = later (place_in n lines) ∙ ap (λ ls. l ∷ ls) rest

pub inserts_new : (n : ℕ) (lines : List Line) → insert lines (place_for n lines) (new_line n) ≡ with_new n lines
inserts_new n [] = refl
inserts_new n (l ∷ lines) = by_test (inserts_new n lines) (nat_lt n l.number)
  where
    by_test : insert lines (place_for n lines) (new_line n) ≡ with_new n lines → (b : Bool) → insert (l ∷ lines) (cond (not b) (1 + place_for n lines) 0) (new_line n) ≡ (if b then new_line n ∷ l ∷ lines else l ∷ with_new n lines)
    by_test rest true = refl
    by_test rest false = rw one-add (ap (λ ls. l ∷ ls) rest)

pub placed_found : (n : ℕ) (lines : List Line) → is_some (place_in n lines) ≡ is_some (found_in n lines)
placed_found n [] = refl
placed_found n (l ∷ lines) = ap is_some (here n l lines) ∙ by_test (placed_found n lines) (l.number == n)
  where
    later : (o : Option ℕ) → is_some (option_map (λ (k : ℕ). suc k) o) ≡ is_some o
    later None = refl
    later (Some k) = refl

    by_test : is_some (place_in n lines) ≡ is_some (found_in n lines) → (b : Bool) → is_some (cond b (Some 0) (option_map (λ (k : ℕ). suc k) (place_in n lines))) ≡ is_some (if b then Some l else found_in n lines)
    by_test rest true = refl
    by_test rest false = later (place_in n lines) ∙ rest

-- ---- numbers rise

pub by_if : {A : Type 0} (P : A → Type 0) (b : Bool) (a c : A) → (b ≡ true → P a) → (b ≡ false → P c) → P (if b then a else c)
by_if P true a c here there = here refl
by_if P false a c here there = there refl

above_alike : (k : ℕ) (lines later : List Line) → AreAlike lines later → AreAbove k lines → AreAbove k later
above_alike k [] [] alike above = tt
above_alike k [] (m ∷ later) alike above = absurd alike
above_alike k (l ∷ lines) [] alike above = absurd alike
above_alike k (l ∷ lines) (m ∷ later) alike above = (subst (λ n. k < n) (sym alike.0.number) above.0, above_alike k lines later alike.1 above.1)

pub rising_alike : (lines later : List Line) → AreAlike lines later → AreRising lines → AreRising later
rising_alike [] [] alike rising = tt
rising_alike [] (m ∷ later) alike rising = absurd alike
rising_alike (l ∷ lines) [] alike rising = absurd alike
rising_alike (l ∷ lines) (m ∷ later) alike rising =
    (subst (λ n. AreAbove n later) (sym alike.0.number) (above_alike l.number lines later alike.1 rising.0), rising_alike lines later alike.1 rising.1)

abbrev pub Numbered : (Line → Line) → Type 0
Numbered f = (l : Line) → (f l).number ≡ l.number

above_set : (f : Line → Line) → Numbered f → (n k : ℕ) (lines : List Line) → AreAbove k lines → AreAbove k (set_in f n lines)
above_set f same n k [] above = tt
above_set f same n k (l ∷ lines) above =
    by_if (AreAbove k) (l.number == n) (f l ∷ lines) (l ∷ set_in f n lines) (λ e. (subst (λ j. k < j) (sym (same l)) above.0, above.1)) (λ e. (above.0, above_set f same n k lines above.1))

pub rising_set : (f : Line → Line) → Numbered f → (n : ℕ) (lines : List Line) → AreRising lines → AreRising (set_in f n lines)
rising_set f same n [] rising = tt
rising_set f same n (l ∷ lines) rising =
    by_if AreRising (l.number == n) (f l ∷ lines) (l ∷ set_in f n lines) (λ e. (subst (λ j. AreAbove j lines) (sym (same l)) rising.0, rising.1))
    (λ e. (above_set f same n l.number lines rising.0, rising_set f same n lines rising.1))

above_without : (n k : ℕ) (lines : List Line) → AreAbove k lines → AreAbove k (without n lines)
above_without n k [] above = tt
above_without n k (l ∷ lines) above = by_if (AreAbove k) (l.number == n) lines (l ∷ without n lines) (λ e. above.1) (λ e. (above.0, above_without n k lines above.1))

pub rising_without : (n : ℕ) (lines : List Line) → AreRising lines → AreRising (without n lines)
rising_without n [] rising = tt
rising_without n (l ∷ lines) rising =
    by_if AreRising (l.number == n) lines (l ∷ without n lines) (λ e. rising.1) (λ e. (above_without n l.number lines rising.0, rising_without n lines rising.1))

above_new : (n k : ℕ) (lines : List Line) → k < n → AreAbove k lines → AreAbove k (with_new n lines)
above_new n k [] more above = (more, tt)
above_new n k (l ∷ lines) more above =
    by_if (AreAbove k) (nat_lt n l.number) (new_line n ∷ l ∷ lines) (l ∷ with_new n lines) (λ e. (more, above)) (λ e. (above.0, above_new n k lines more above.1))

above_lower : (n k : ℕ) (lines : List Line) → n < k → AreAbove k lines → AreAbove n lines
above_lower n k [] less above = tt
above_lower n k (l ∷ lines) less above = (omega (arith, less, above.0), above_lower n k lines less above.1)

pub not_first : (n : ℕ) (l : Line) (lines : List Line) → found_in n (l ∷ lines) ≡ None → (l.number ≡ n → ⊥) × (found_in n lines ≡ None)
not_first n l lines none = by_test (l.number == n) refl none
  where
    by_test : (b : Bool) → (l.number == n) ≡ b → (if b then Some l else found_in n lines) ≡ None → (l.number ≡ n → ⊥) × (found_in n lines ≡ None)
    by_test true is e = absurd (cc)
    by_test false is e = (other_by l.number n is, e)

pub rising_new : (n : ℕ) (lines : List Line) → found_in n lines ≡ None → AreRising lines → AreRising (with_new n lines)
rising_new n [] none rising = (tt, tt)
rising_new n (l ∷ lines) none rising = by_test (λ gone. rising_new n lines gone rising.1) (leb_tells (suc n) l.number)
  where
    apart : (l.number ≡ n → ⊥) × (found_in n lines ≡ None)
    apart = not_first n l lines none

    by_test : (found_in n lines ≡ None → AreRising (with_new n lines)) → ((nat_lt n l.number ≡ true) × (suc n ≤ l.number)) ⊎ ((nat_lt n l.number ≡ false) × (l.number < suc n)) → AreRising (with_new n (l ∷ lines))
    by_test rest (inl (is, less)) = subst (λ (b : Bool). AreRising (if b then new_line n ∷ l ∷ lines else l ∷ with_new n lines)) (sym is) ((less, above_lower n l.number lines less rising.0), rising)
    by_test rest (inr (is, most)) =
        let below : l.number < n = omega (arith, most, apart.0) in
        subst (λ (b : Bool). AreRising (if b then new_line n ∷ l ∷ lines else l ∷ with_new n lines)) (sym is) (above_new n l.number lines below rising.0, rest apart.1)

-- ---- how many there are

pub length_alike : (lines later : List Line) → AreAlike lines later → length later ≡ length lines
length_alike [] [] alike = refl
length_alike [] (m ∷ later) alike = absurd alike
length_alike (l ∷ lines) [] alike = absurd alike
length_alike (l ∷ lines) (m ∷ later) alike = ap suc (length_alike lines later alike.1)

pub length_set : (f : Line → Line) (n : ℕ) (lines : List Line) → length (set_in f n lines) ≡ length lines
length_set f n [] = refl
length_set f n (l ∷ lines) = by_if (λ (ls : List Line). length ls ≡ suc (length lines)) (l.number == n) (f l ∷ lines) (l ∷ set_in f n lines) (λ e. refl) (λ e. ap suc (length_set f n lines))

pub length_without : (n : ℕ) (lines : List Line) → length (without n lines) ≤ length lines
length_without n [] = omega arith
length_without n (l ∷ lines) =
    by_if (λ (ls : List Line). length ls ≤ suc (length lines)) (l.number == n) lines (l ∷ without n lines) (λ e. omega arith) (λ e. omega (arith, length_without n lines))

pub length_new : (n : ℕ) (lines : List Line) → length (with_new n lines) ≡ suc (length lines)
length_new n [] = refl
length_new n (l ∷ lines) =
    by_if (λ (ls : List Line). length ls ≡ suc (suc (length lines))) (nat_lt n l.number) (new_line n ∷ l ∷ lines) (l ∷ with_new n lines) (λ e. refl) (λ e. ap suc (length_new n lines))

-- ---- none of them is the line of a callout

abbrev pub AreLow : List Line → Type 0
AreLow [] = Unit {0}
AreLow (l ∷ lines) = (is_call_line l.number ≡ false) × AreLow lines

pub low_alike : (lines later : List Line) → AreAlike lines later → AreLow lines → AreLow later
low_alike [] [] alike low = tt
low_alike [] (m ∷ later) alike low = absurd alike
low_alike (l ∷ lines) [] alike low = absurd alike
low_alike (l ∷ lines) (m ∷ later) alike low = (ap is_call_line alike.0.number ∙ low.0, low_alike lines later alike.1 low.1)

pub low_set : (f : Line → Line) → Numbered f → (n : ℕ) (lines : List Line) → AreLow lines → AreLow (set_in f n lines)
low_set f same n [] low = tt
low_set f same n (l ∷ lines) low =
    by_if AreLow (l.number == n) (f l ∷ lines) (l ∷ set_in f n lines) (λ e. (ap is_call_line (same l) ∙ low.0, low.1)) (λ e. (low.0, low_set f same n lines low.1))

pub low_without : (n : ℕ) (lines : List Line) → AreLow lines → AreLow (without n lines)
low_without n [] low = tt
low_without n (l ∷ lines) low = by_if AreLow (l.number == n) lines (l ∷ without n lines) (λ e. low.1) (λ e. (low.0, low_without n lines low.1))

pub low_new : (n : ℕ) → is_call_line n ≡ false → (lines : List Line) → AreLow lines → AreLow (with_new n lines)
low_new n is [] low = (is, tt)
low_new n is (l ∷ lines) low = by_if AreLow (nat_lt n l.number) (new_line n ∷ l ∷ lines) (l ∷ with_new n lines) (λ e. (is, low)) (λ e. (low.0, low_new n is lines low.1))

-- so the line of a callout is none of them
pub none_low : (n : ℕ) → is_call_line n ≡ true → (lines : List Line) → AreLow lines → found_in n lines ≡ None
none_low n is [] low = refl
none_low n is (l ∷ lines) low =
    by_if (λ (o : Option Line). o ≡ None) (l.number == n) (Some l) (found_in n lines)
    (λ e. let never : ◌≡◌ {A = Bool} true false = sym is ∙ (ap is_call_line (sym (equal_by l.number n e)) ∙ low.0) in absurd (cc))
    (λ e. none_low n is lines low.1)
