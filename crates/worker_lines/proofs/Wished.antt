-- What is known of the lines stays so.
use Rattle.std.proofs.Common.{◌≡◌, ◌==◌, get_or, ◌≤◌, ◌<◌, ℕ, zero, suc, ◌+◌, List, [], ◌∷◌, length, map, Bool, true, false, cond, refl, sym, ap, ◌∙◌, subst, arith, Option, Some, None, ◌⊎◌, inl, inr, nat_lt}
use Rattle.std.proofs.lemmas.Bool.Decides.{eqb_tells}
use Rattle.std.specs.List.{position_or_len}
use Rattle.std.specs.Prelude.{not, slice_get, slice_set, position, filter, option_map}
use Rattle.std.proofs.lemmas.Option.{slice_get-map, slice_get_past, slice_get_read}
use Rattle.gate_io.specs.declared.event.Sent.{Sent}
use Rattle.gate_io.specs.declared.event.Side.TheVariants.{Down, Up}
use Rattle.worker_model.specs.Rooms.{has_move, is_over}
use Rattle.worker_lines.specs.Stirring.{Covers}
use Rattle.worker_model.specs.Steps.{exchange_reading}
use Rattle.worker_model.specs.Wants.{earlier, is_wanted, wanted_of, with_lines, due_on, reads_more}
use Rattle.worker_lines.specs.Wishes.{wish_of, takes_on, takes_up, falls_due, lines_with, with_wishes, Fits, Touched, Listed, Lists, Sees, Sound}
use Rattle.exchange.specs.declared.types.Exchange.{Exchange}
use Rattle.h1_model.specs.Unread.{Reading}
use Rattle.worker_lines.specs.declared.kept.Kept.{Kept}
use Rattle.worker_lines.specs.declared.span.Span.{Span}
use Rattle.worker_model.specs.declared.types.Line.{Line}
use Rattle.worker_model.specs.declared.types.Seen.{Seen}
use Rattle.worker_model.specs.declared.types.Wish.{Wish}
use Rattle.worker_lines.specs.declared.wishes.Wishes.{Wishes}
use Rattle.worker_lines.proofs.Firsts.{low_or_high}
use Rattle.worker_lines.proofs.Stirs.{stirs_set, stirs_all, stirs_calm}

-- numbers that a test finds equal are one
pub same_by : (a b : ℕ) → (a == b) ≡ true → a ≡ b
same_by a b is = by_test (eqb_tells a b)
  where
    by_test : (((a == b) ≡ true) × (a ≡ b)) ⊎ (((a == b) ≡ false) × (a ≡ b → ⊥)) → a ≡ b
    by_test (inl e) = e.1
    by_test (inr e) = absurd (cc)

-- a member that is not set is as it was
get_other : {X : Type 0} (xs : List X) (at k : ℕ) (x : X) → (k ≡ at) ⊎ (slice_get (slice_set xs at x) k ≡ slice_get xs k)
get_other [] at k x = inr refl
get_other (z ∷ zs) zero zero x = inl refl
get_other (z ∷ zs) zero (suc k) x = inr refl
get_other (z ∷ zs) (suc at) zero x = inr refl
get_other (z ∷ zs) (suc at) (suc k) x = by (get_other zs at k x)
  where
    by : (k ≡ at) ⊎ (slice_get (slice_set zs at x) k ≡ slice_get zs k) → (suc k ≡ suc at) ⊎ (slice_get (slice_set (z ∷ zs) (suc at) x) (suc k) ≡ slice_get (z ∷ zs) (suc k))
    by (inl same) = inl (ap suc same)
    by (inr there) = inr there

fits_set : (old new : Span) (each : List Wish) (lines : List Line) (at : ℕ) (line : Line) → Fits old each lines → Covers new at → ((k : ℕ) → Covers old k → Covers new k)
    → Fits new each (slice_set lines at line)
fits_set old new each lines at line fits here others = record { at = λ k. by k (fits.at k) (get_other lines at k line) }
  where
    by : (k : ℕ) → Covers old k ⊎ (slice_get each k ≡ option_map wish_of (slice_get lines k)) → (k ≡ at) ⊎ (slice_get (slice_set lines at line) k ≡ slice_get lines k)
        → Covers new k ⊎ (slice_get each k ≡ option_map wish_of (slice_get (slice_set lines at line) k))
    by k known (inl same) = inl (subst (λ (n : ℕ). Covers new n) (sym same) here)
    by k (inl was) (inr there) = inl (others k was)
    by k (inr is) (inr there) = inr (is ∙ sym (ap (λ (o : Option Line). option_map wish_of o) there))

pub fits_all : (span : Span) (each : List Wish) (lines : List Line) → span.is_all ≡ true → Fits span each lines
fits_all span each lines all = record { at = λ k. inl (λ not_all. absurd (cc)) }

pub fits_each : (span : Span) (each : List Wish) (lines : List Line) → each ≡ map wish_of lines → Fits span each lines
fits_each span each lines is = record { at = λ k. inr (ap (λ (ws : List Wish). slice_get ws k) is ∙ slice_get-map wish_of lines k) }

-- nothing is said where something was done to all lines
pub lists_all : (wishes : Wishes) → wishes.touched.is_all ≡ true → Lists wishes
lists_all wishes all = record { at = λ some. absurd (cc) }

pub lists_of : (wishes : Wishes) → Listed wishes.kept → Lists wishes
lists_of wishes listed = record { at = λ some. listed }

not_all : (span : Span) (b : Bool) → span.is_all ≡ b → ((k : ℕ) → Covers span k → ⊥) → span.is_all ≡ false
not_all span false is none = is
not_all span true is none = absurd (none 0 (λ some. absurd (cc)))

pub lists_whole : (wishes : Wishes) → Lists wishes → ((k : ℕ) → Covers wishes.touched k → ⊥) → Listed wishes.kept
lists_whole wishes lists none = lists.at (not_all wishes.touched wishes.touched.is_all refl none)

pub length_set : {X : Type 0} (xs : List X) (at : ℕ) (x : X) → length (slice_set xs at x) ≡ length xs
length_set [] at x = refl
length_set (z ∷ zs) zero x = refl
length_set (z ∷ zs) (suc at) x = ap suc (length_set zs at x)

-- the first that passes is at the same place, where a member is set that passes as the one before did
first_set : {X : Type 0} (p : X → Bool) (xs : List X) (at : ℕ) (x y : X) → slice_get xs at ≡ Some x → p y ≡ p x → position_or_len p (slice_set xs at y) ≡ position_or_len p xs
first_set p [] at x y there same = refl
first_set p (z ∷ xs) zero x y there same = let one : z ≡ x = (cc) in ap (λ (b : Bool). cond (not b) (1 + position_or_len p xs) 0) (same ∙ sym (ap p one))
first_set p (z ∷ xs) (suc at) x y there same = ap (λ (n : ℕ). cond (not (p z)) (1 + n) 0) (first_set p xs at x y there same)

place_set : {X : Type 0} (p : X → Bool) (xs : List X) (at : ℕ) (x y : X) → slice_get xs at ≡ Some x → p y ≡ p x → position p (slice_set xs at y) ≡ position p xs
place_set p xs at x y there same =
    let first = first_set p xs at x y there same in
    let long = length_set xs at y in
    let P : ℕ → ℕ → Type 0 = λ n m. cond (nat_lt n m) (Some n) None ≡ position p xs in
    subst (λ (n : ℕ). P n (length (slice_set xs at y))) (sym first) (subst (λ (m : ℕ). P (position_or_len p xs) m) (sym long) refl)

sees_set : (seen : Option Seen) (lines : List Line) (at : ℕ) (line before : Line) → Sees seen lines → slice_get lines at ≡ Some before → line.number ≡ before.number → Sees seen (slice_set lines at line)
sees_set seen lines at line before sees there same = record {
  at = λ s is. place_set (λ (l : Line). l.number == s.number) lines at before line there (ap (λ (n : ℕ). n == s.number) same) ∙ sees.at s is;
}

-- whatever is put at a place that is covered, with the number that was there
pub sound_set : (old new : Span) (was is : Wishes) (seen : Option Seen) (lines : List Line) (at : ℕ) (line before : Line) → Sound old was seen lines
    → Covers new at → ((k : ℕ) → Covers old k → Covers new k) → Touched was at is
    → at < length lines → before ≡ get_or lines at before → line.number ≡ before.number → Sound new is seen (slice_set lines at line)
sound_set old new was is seen lines at line before sound here others touched low value number = record {
  sees = sees_set seen lines at line before sound.sees (slice_get_read lines (length lines) at before refl low value) number;
  stirs = stirs_set old new lines at line sound.stirs here others;
  fits = subst (λ (kept : Kept). Fits is.touched kept.each.items (slice_set lines at line)) (sym touched.same)
      (fits_set was.touched is.touched was.kept.each.items lines at line sound.fits touched.here touched.others);
  lists = record { at = λ some. subst Listed (sym touched.same) (sound.lists.at (sym touched.all ∙ some)) };
}

-- all are covered, and none was looked for
pub sound_all : (span : Span) (wishes : Wishes) (seen : Option Seen) (lines : List Line) → span.is_all ≡ true → wishes.touched.is_all ≡ true → seen ≡ None → Sound span wishes seen lines
sound_all span wishes seen lines due touched none = record {
  sees = record { at = λ s is. absurd (cc) };
  stirs = stirs_all span lines due;
  fits = fits_all wishes.touched wishes.kept.each.items lines touched;
  lists = lists_all wishes touched;
}

-- nothing is due
pub sound_calm : (old new : Span) (wishes : Wishes) (seen : Option Seen) (lines : List Line) → Sound old wishes seen lines → position has_move lines ≡ None → position is_over lines ≡ None → Sound new wishes seen lines
sound_calm old new wishes seen lines sound first next = record { sees = sound.sees; stirs = stirs_calm new lines first next; fits = sound.fits; lists = sound.lists }

-- they were looked at again
pub sound_renewed : (due : Span) (was is : Wishes) (seen : Option Seen) (lines : List Line) → Sound due was seen lines → Fits is.touched is.kept.each.items lines → Lists is → Sound due is seen lines
sound_renewed due was is seen lines sound fits lists = record { sees = sound.sees; stirs = sound.stirs; fits = fits; lists = lists }

-- the world is to be asked to call at another moment
pub sound_called : (due : Span) (wishes : Wishes) (seen : Option Seen) (lines : List Line) (moment : Option ℕ) → Sound due wishes seen lines
    → Sound due (record wishes { kept = record wishes.kept { wants = record wishes.kept.wants { due = moment } } }) seen lines
sound_called due wishes seen lines moment sound = record {
  sees = sound.sees;
  stirs = sound.stirs;
  fits = sound.fits;
  lists = record { at = λ some. let listed = sound.lists.at some in record { down = listed.down; up = listed.up; first = listed.first } };
}

-- another was looked for
pub sound_seen : (due : Span) (wishes : Wishes) (was : Option Seen) (number place : ℕ) (lines : List Line) → Sound due wishes was lines
    → position (λ (line : Line). line.number == number) lines ≡ Some place → Sound due wishes (Some (record { number = number; place = place })) lines
sound_seen due wishes was number place lines sound found = record { sees = record { at = λ s is. by s is }; stirs = sound.stirs; fits = sound.fits; lists = sound.lists }
  where
    by : (s : Seen) → ◌≡◌ {A = Option Seen} (Some (record { number = number; place = place })) (Some s) → position (λ (line : Line). line.number == s.number) lines ≡ Some s.place
    by s is =
        let n : number ≡ s.number = (cc) in
        let p : place ≡ s.place = (cc) in
        subst (λ (m : ℕ). position (λ (line : Line). line.number == m) lines ≡ Some s.place) n (found ∙ ap Some p)

-- lists that give the same at each place are the same
all_same : {X Y : Type 0} (f : X → Y) (ys : List Y) (xs : List X) → ((k : ℕ) → slice_get ys k ≡ option_map f (slice_get xs k)) → ys ≡ map f xs
all_same f [] [] same = refl
all_same f [] (x ∷ xs) same = let at = same 0 in absurd (cc)
all_same f (y ∷ ys) [] same = let at = same 0 in absurd (cc)
all_same f (y ∷ ys) (x ∷ xs) same = by (all_same f ys xs (λ k. same (suc k))) (same 0)
  where
    by : ys ≡ map f xs → Some y ≡ Some (f x) → y ∷ ys ≡ f x ∷ map f xs
    by rest head = let first : y ≡ f x = (cc) in (cc)

pub fits_whole : (span : Span) (each : List Wish) (lines : List Line) → Fits span each lines → ((k : ℕ) → Covers span k → ⊥) → each ≡ map wish_of lines
fits_whole span each lines fits none = all_same wish_of each lines (λ k. by k (fits.at k))
  where
    by : (k : ℕ) → Covers span k ⊎ (slice_get each k ≡ option_map wish_of (slice_get lines k)) → slice_get each k ≡ option_map wish_of (slice_get lines k)
    by k (inl covered) = absurd (none k covered)
    by k (inr is) = is

-- ---- what is wanted, by what each line wants

up_same : (line : Line) → takes_up line.exchange ≡ is_wanted Up [] line
up_same line = by line.exchange
  where
    on : (o : Option Reading) → takes_on o ≡ reads_more o
    on None = refl
    on (Some reading) = refl

    by : (x : Option Exchange) → takes_up x ≡ reads_more (exchange_reading x)
    by None = refl
    by (Some x) = on x.reader

due_same : (x : Option Exchange) → falls_due x ≡ due_on x
due_same None = refl
due_same (Some x) = refl

-- one line more
module _ (takes : Wish → Bool) (wants : Line → Bool) (same : (line : Line) → takes (wish_of line) ≡ wants line) where
  pub wished_is : (lines : List Line) → lines_with takes (map wish_of lines) ≡ map (λ (line : Line). line.number) (filter wants lines)
  wished_is [] = refl
  wished_is (x ∷ xs) = by (wished_is xs) (takes (wish_of x)) (wants x) (same x)
    where
      by : lines_with takes (map wish_of xs) ≡ map (λ (line : Line). line.number) (filter wants xs) → (a b : Bool) → a ≡ b
          → map (λ (w : Wish). w.number) (cond a (wish_of x ∷ filter takes (map wish_of xs)) (filter takes (map wish_of xs)))
          ≡ map (λ (line : Line). line.number) (cond b (x ∷ filter wants xs) (filter wants xs))
      by rest true true is = ap (λ (ns : List ℕ). x.number ∷ ns) rest
      by rest false false is = rest
      by rest true false is = absurd (cc)
      by rest false true is = absurd (cc)

pub wished_down : (each : List Wish) (waiting : List Sent) (lines : List Line) → waiting ≡ [] → each ≡ map wish_of lines → lines_with (λ w. w.down) each ≡ wanted_of Down waiting lines
wished_down each waiting lines none is =
    ap (λ (ws : List Wish). lines_with (λ w. w.down) ws) is ∙ wished_is (λ w. w.down) (is_wanted Down []) (λ line. refl) lines ∙ sym (ap (λ (w : List Sent). wanted_of Down w lines) none)

pub wished_up : (each : List Wish) (waiting : List Sent) (lines : List Line) → waiting ≡ [] → each ≡ map wish_of lines → lines_with (λ w. w.up) each ≡ wanted_of Up waiting lines
wished_up each waiting lines none is =
    ap (λ (ws : List Wish). lines_with (λ w. w.up) ws) is ∙ wished_is (λ w. w.up) (is_wanted Up []) up_same lines ∙ sym (ap (λ (w : List Sent). wanted_of Up w lines) none)

due_in_all : (due : Option ℕ) (lines : List Line) → with_wishes due (map wish_of lines) ≡ with_lines due lines
due_in_all due [] = refl
due_in_all due (x ∷ xs) = ap (λ (d : Option ℕ). with_wishes (earlier due d) (map wish_of xs)) (due_same x.exchange) ∙ due_in_all (earlier due (due_on x.exchange)) xs

pub wished_due : (due : Option ℕ) (each : List Wish) (lines : List Line) → each ≡ map wish_of lines → with_wishes due each ≡ with_lines due lines
wished_due due each lines is = ap (λ (ws : List Wish). with_wishes due ws) is ∙ due_in_all due lines

-- ---- lines that are looked at again, one after the other

-- what is known, but for places that were touched and are still to come
pub record FitsFrom (touched : Span) (from : ℕ) (each : List Wish) (lines : List Line) : Type 0 where
  pub at : (k : ℕ) → (Covers touched k × from ≤ k) ⊎ (slice_get each k ≡ option_map wish_of (slice_get lines k))

pub fits_start : (touched : Span) (from : ℕ) (each : List Wish) (lines : List Line) → Fits touched each lines → ((k : ℕ) → Covers touched k → from ≤ k) → FitsFrom touched from each lines
fits_start touched from each lines fits low = record { at = λ k. by k (fits.at k) }
  where
    by : (k : ℕ) → Covers touched k ⊎ (slice_get each k ≡ option_map wish_of (slice_get lines k)) → (Covers touched k × from ≤ k) ⊎ (slice_get each k ≡ option_map wish_of (slice_get lines k))
    by k (inl covered) = inl (covered, low k covered)
    by k (inr is) = inr is

set_here : {X : Type 0} (xs : List X) (at : ℕ) (x : X) → at < length xs → slice_get (slice_set xs at x) at ≡ Some x
set_here [] at x low = absurd (omega arith)
set_here (z ∷ zs) zero x low = refl
set_here (z ∷ zs) (suc at) x low = set_here zs at x (omega arith)

pub fits_next : (touched : Span) (at : ℕ) (each : List Wish) (lines : List Line) (line : Line) → FitsFrom touched at each lines → slice_get lines at ≡ Some line → at < length each
    → FitsFrom touched (at + 1) (slice_set each at (wish_of line)) lines
fits_next touched at each lines line fits there low = record { at = λ k. by k (fits.at k) (get_other each at k (wish_of line)) }
  where
    here : (k : ℕ) → k ≡ at → (Covers touched k × at + 1 ≤ k) ⊎ (slice_get (slice_set each at (wish_of line)) k ≡ option_map wish_of (slice_get lines k))
    here k same = inr (subst (λ (n : ℕ). slice_get (slice_set each at (wish_of line)) n ≡ option_map wish_of (slice_get lines n)) (sym same)
        (set_here each at (wish_of line) low ∙ sym (ap (λ (o : Option Line). option_map wish_of o) there)))

    further : (k : ℕ) → (Covers touched k × at ≤ k) → k < at + 1 ⊎ at + 1 ≤ k → (Covers touched k × at + 1 ≤ k) ⊎ (slice_get (slice_set each at (wish_of line)) k ≡ option_map wish_of (slice_get lines k))
    further k covered (inr high) = inl (covered.0, high)
    further k covered (inl less) = here k (let past = covered.1 in omega (arith, less, past))

    by : (k : ℕ) → (Covers touched k × at ≤ k) ⊎ (slice_get each k ≡ option_map wish_of (slice_get lines k)) → (k ≡ at) ⊎ (slice_get (slice_set each at (wish_of line)) k ≡ slice_get each k)
        → (Covers touched k × at + 1 ≤ k) ⊎ (slice_get (slice_set each at (wish_of line)) k ≡ option_map wish_of (slice_get lines k))
    by k known (inl same) = here k same
    by k (inr is) (inr other) = inr (other ∙ is)
    by k (inl covered) (inr other) = further k covered (low_or_high k (at + 1))

pub fits_end : (touched : Span) (end : ℕ) (each : List Wish) (lines : List Line) → length each ≡ length lines → ((k : ℕ) → k < length lines → Covers touched k → k < end) → FitsFrom touched end each lines
    → each ≡ map wish_of lines
fits_end touched end each lines long high fits = all_same wish_of each lines (λ k. by k (fits.at k))
  where
    by : (k : ℕ) → (Covers touched k × end ≤ k) ⊎ (slice_get each k ≡ option_map wish_of (slice_get lines k)) → slice_get each k ≡ option_map wish_of (slice_get lines k)
    by k (inr is) = is
    by k (inl covered) = past (low_or_high k (length lines))
      where
        past : k < length lines ⊎ length lines ≤ k → slice_get each k ≡ option_map wish_of (slice_get lines k)
        past (inl low) = let less = high k low covered.0 in absurd (omega (arith, less, covered.1))
        past (inr behind) =
            slice_get_past each k (let same = long in omega (arith, same, behind))
            ∙ sym (ap (λ (o : Option Line). option_map wish_of o) (slice_get_past lines k behind))
