-- Lists of what lines want, where one of them wants something else.
use Rattle.std.proofs.Common.{◌≡◌, ◌≤◌, ◌<◌, ℕ, zero, suc, ◌+◌, List, [], ◌∷◌, ◌++◌, length, map, take, get_or, Bool, true, false, cond, refl, sym, ap, ◌∙◌, subst, arith, Option, Some, None}
use Rattle.std.specs.Prelude.{slice_get, slice_set, nat_le}
use Rattle.std.specs.List.{filter, insert, remove}
use Rattle.worker_model.specs.declared.types.Wish.{Wish}
use Rattle.worker_model.specs.declared.types.Line.{Line}
use Rattle.worker_model.specs.Wants.{with_lines}
use Rattle.worker_model.specs.Wants.{earlier}
use Rattle.worker_lines.specs.Wishes.{wish_of, lines_with, with_wishes}
use Rattle.worker_lines.proofs.Wished.{wished_due}

-- one wish more in front, by whether it is among those
abbrev with_one : Bool → ℕ → List ℕ → List ℕ
with_one b n ns = cond b (n ∷ ns) ns

module _ (takes : Wish → Bool) where
  front : (w : Wish) (ws : List Wish) → lines_with takes (w ∷ ws) ≡ with_one (takes w) w.number (lines_with takes ws)
  front w ws = by (takes w)
    where
      by : (b : Bool) → map (λ (x : Wish). x.number) (cond b (w ∷ filter takes ws) (filter takes ws)) ≡ with_one b w.number (lines_with takes ws)
      by true = refl
      by false = refl

  same_some : (w was : Wish) → ◌≡◌ {A = Option Wish} (Some w) (Some was) → w ≡ was
  same_some w was is = (cc)

  -- of the same number, and among them as before
  pub wished_same : (each : List Wish) (at : ℕ) (was is : Wish) → slice_get each at ≡ Some was → takes was ≡ takes is → is.number ≡ was.number
      → lines_with takes (slice_set each at is) ≡ lines_with takes each
  wished_same [] at was is there same number = refl
  wished_same (w ∷ ws) zero was is there same number =
      let here = same_some w was there in
      front is ws ∙ ap (λ (b : Bool). with_one b is.number (lines_with takes ws)) (sym same) ∙ ap (λ (n : ℕ). with_one (takes was) n (lines_with takes ws)) number
      ∙ sym (front was ws) ∙ ap (λ (x : Wish). lines_with takes (x ∷ ws)) (sym here)
  wished_same (w ∷ ws) (suc at) was is there same number =
      front w (slice_set ws at is) ∙ ap (λ (ns : List ℕ). with_one (takes w) w.number ns) (wished_same ws at was is there same number) ∙ sym (front w ws)

  -- with one more in front, at a place that is counted from there
  more_in_front : (b : Bool) (n m : ℕ) (ns ms : List ℕ) → with_one b n (insert ns (length ms) m) ≡ insert (with_one b n ns) (length (with_one b n ms)) m
  more_in_front true n m ns ms = refl
  more_in_front false n m ns ms = refl

  less_in_front : (b : Bool) (n : ℕ) (ns ms : List ℕ) → with_one b n (remove ns (length ms)) ≡ remove (with_one b n ns) (length (with_one b n ms))
  less_in_front true n ns ms = refl
  less_in_front false n ns ms = refl

  -- it is among them, and was not
  pub wished_more : (each : List Wish) (at : ℕ) (was is : Wish) → slice_get each at ≡ Some was → takes was ≡ false → takes is ≡ true
      → lines_with takes (slice_set each at is) ≡ insert (lines_with takes each) (length (lines_with takes (take at each))) is.number
  wished_more [] at was is there off on = absurd (cc)
  wished_more (w ∷ ws) zero was is there off on =
      let here = same_some w was there in
      let without : lines_with takes (w ∷ ws) ≡ lines_with takes ws = ap (λ (x : Wish). lines_with takes (x ∷ ws)) here ∙ front was ws ∙ ap (λ (b : Bool). with_one b was.number (lines_with takes ws)) off in
      front is ws ∙ ap (λ (b : Bool). with_one b is.number (lines_with takes ws)) on ∙ sym (ap (λ (ns : List ℕ). is.number ∷ ns) without)
  wished_more (w ∷ ws) (suc at) was is there off on =
      front w (slice_set ws at is) ∙ ap (λ (ns : List ℕ). with_one (takes w) w.number ns) (wished_more ws at was is there off on)
      ∙ more_in_front (takes w) w.number is.number (lines_with takes ws) (lines_with takes (take at ws))
      ∙ ap (λ (ns : List ℕ). insert ns (length (with_one (takes w) w.number (lines_with takes (take at ws)))) is.number) (sym (front w ws))
      ∙ ap (λ (ns : List ℕ). insert (lines_with takes (w ∷ ws)) (length ns) is.number) (sym (front w (take at ws)))

  -- it is not among them, and was
  pub wished_less : (each : List Wish) (at : ℕ) (was is : Wish) → slice_get each at ≡ Some was → takes was ≡ true → takes is ≡ false
      → lines_with takes (slice_set each at is) ≡ remove (lines_with takes each) (length (lines_with takes (take at each)))
  wished_less [] at was is there on off = absurd (cc)
  wished_less (w ∷ ws) zero was is there on off =
      let here = same_some w was there in
      let with_it : lines_with takes (w ∷ ws) ≡ was.number ∷ lines_with takes ws = ap (λ (x : Wish). lines_with takes (x ∷ ws)) here ∙ front was ws ∙ ap (λ (b : Bool). with_one b was.number (lines_with takes ws)) on in
      front is ws ∙ ap (λ (b : Bool). with_one b is.number (lines_with takes ws)) off ∙ sym (ap (λ (ns : List ℕ). remove ns 0) with_it)
  wished_less (w ∷ ws) (suc at) was is there on off =
      front w (slice_set ws at is) ∙ ap (λ (ns : List ℕ). with_one (takes w) w.number ns) (wished_less ws at was is there on off)
      ∙ less_in_front (takes w) w.number (lines_with takes ws) (lines_with takes (take at ws))
      ∙ ap (λ (ns : List ℕ). remove ns (length (with_one (takes w) w.number (lines_with takes (take at ws))))) (sym (front w ws))
      ∙ ap (λ (ns : List ℕ). remove (lines_with takes (w ∷ ws)) (length ns)) (sym (front w (take at ws)))

  -- as many as are among those in front stand in front
  up_to : (b : Bool) (n : ℕ) (ms ns : List ℕ) → length ms ≤ length ns → length (with_one b n ms) ≤ length (with_one b n ns)
  up_to true n ms ns low = omega (arith, low)
  up_to false n ms ns low = low

  below : (b : Bool) (n : ℕ) (ms ns : List ℕ) → length ms < length ns → length (with_one b n ms) < length (with_one b n ns)
  below true n ms ns low = omega (arith, low)
  below false n ms ns low = low

  pub count_up_to : (each : List Wish) (at : ℕ) → length (lines_with takes (take at each)) ≤ length (lines_with takes each)
  count_up_to [] zero = omega arith
  count_up_to [] (suc at) = omega arith
  count_up_to (w ∷ ws) zero = omega arith
  count_up_to (w ∷ ws) (suc at) =
      subst (λ (ns : List ℕ). length (lines_with takes (w ∷ take at ws)) ≤ length ns) (sym (front w ws))
      (subst (λ (ms : List ℕ). length ms ≤ length (with_one (takes w) w.number (lines_with takes ws))) (sym (front w (take at ws)))
      (up_to (takes w) w.number (lines_with takes (take at ws)) (lines_with takes ws) (count_up_to ws at)))

  pub count_below : (each : List Wish) (at : ℕ) (was : Wish) → slice_get each at ≡ Some was → takes was ≡ true → length (lines_with takes (take at each)) < length (lines_with takes each)
  count_below [] at was there on = absurd (cc)
  count_below (w ∷ ws) zero was there on =
      let here = same_some w was there in
      let with_it : lines_with takes (w ∷ ws) ≡ was.number ∷ lines_with takes ws = ap (λ (x : Wish). lines_with takes (x ∷ ws)) here ∙ front was ws ∙ ap (λ (b : Bool). with_one b was.number (lines_with takes ws)) on in
      subst (λ (ns : List ℕ). 0 < length ns) (sym with_it) (omega arith)
  count_below (w ∷ ws) (suc at) was there on =
      subst (λ (ns : List ℕ). length (lines_with takes (w ∷ take at ws)) < length ns) (sym (front w ws))
      (subst (λ (ms : List ℕ). length ms < length (with_one (takes w) w.number (lines_with takes ws))) (sym (front w (take at ws)))
      (below (takes w) w.number (lines_with takes (take at ws)) (lines_with takes ws) (count_below ws at was there on)))

-- a response that falls due when it did
pub due_same : (each : List Wish) (at : ℕ) (was is : Wish) (due : Option ℕ) → slice_get each at ≡ Some was → was.due ≡ is.due → with_wishes due (slice_set each at is) ≡ with_wishes due each
due_same [] at was is due there same = refl
due_same (w ∷ ws) zero was is due there same =
    let here : w ≡ was = (cc) in
    ap (λ (d : Option ℕ). with_wishes (earlier due d) ws) (sym same ∙ sym (ap (λ (x : Wish). x.due) here))
due_same (w ∷ ws) (suc at) was is due there same = due_same ws at was is (earlier due w.due) there same

-- the earliest of three
pub earlier_of : (a b c : Option ℕ) → earlier (earlier a b) c ≡ earlier a (earlier b c)
earlier_of None b c = refl
earlier_of (Some a) None c = refl
earlier_of (Some a) (Some b) None = by (nat_le a b)
  where
    by : (x : Bool) → earlier (cond x (Some a) (Some b)) None ≡ cond x (Some a) (Some b)
    by true = refl
    by false = refl
earlier_of (Some a) (Some b) (Some c) = grind arith

-- of a moment and of responses
pub with_first : (due : Option ℕ) (each : List Wish) → with_wishes due each ≡ earlier due (with_wishes None each)
with_first None each = refl
with_first (Some d) [] = refl
with_first (Some d) (w ∷ ws) =
    with_first (earlier (Some d) w.due) ws ∙ earlier_of (Some d) w.due (with_wishes None ws) ∙ ap (λ (x : Option ℕ). earlier (Some d) x) (sym (with_first w.due ws))

-- the same of lines
pub first_line : (due first : Option ℕ) (lines : List Line) → first ≡ with_wishes None (map wish_of lines) → earlier due first ≡ with_lines due lines
first_line due first lines is =
    ap (λ (x : Option ℕ). earlier due x) is ∙ sym (with_first due (map wish_of lines)) ∙ wished_due due (map wish_of lines) lines refl

-- ---- a list with one number more or less

-- what is carried is put in place of the next
pub insert_next : (ns : List ℕ) (at n : ℕ) (d : ℕ) → at < length ns → insert (slice_set ns at n) (at + 1) (get_or ns at d) ≡ insert ns at n
insert_next [] at n d low = absurd (omega arith)
insert_next (m ∷ ns) zero n d low = refl
insert_next (m ∷ ns) (suc at) n d low =
    let e : suc at + 1 ≡ suc (at + 1) = omega arith in
    rw e (ap (λ (ms : List ℕ). m ∷ ms) (insert_next ns at n d (omega arith)))

pub insert_end : (ns : List ℕ) (n : ℕ) → insert ns (length ns) n ≡ ns ++ n ∷ []
insert_end [] n = refl
insert_end (m ∷ ns) n = ap (λ (ms : List ℕ). m ∷ ms) (insert_end ns n)

-- the next stands in place of what is left out
pub remove_next : (ns : List ℕ) (at d : ℕ) → at + 1 < length ns → remove (slice_set ns at (get_or ns (at + 1) d)) (at + 1) ≡ remove ns at
remove_next [] at d low = absurd (omega arith)
remove_next (m ∷ ns) (suc at) d low =
    let e : suc at + 1 ≡ suc (at + 1) = omega arith in
    rw e (ap (λ (ms : List ℕ). m ∷ ms) (remove_next ns at d (omega arith)))
remove_next (m ∷ []) zero d low = absurd (omega arith)
remove_next (m ∷ k ∷ ns) zero d low = refl

pub remove_end : (ms : List ℕ) (m : ℕ) → remove (ms ++ m ∷ []) (length ms) ≡ ms
remove_end [] m = refl
remove_end (k ∷ ms) m = ap (λ (x : List ℕ). k ∷ x) (remove_end ms m)
