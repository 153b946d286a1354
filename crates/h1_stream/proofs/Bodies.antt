-- What stands at a place in a body, and what is unread next there.
use Rattle.std.proofs.Common.{◌≡◌, ◌⊎◌, ℕ, suc, ◌+◌, ◌-◌, ◌≤◌, ◌<◌, Bool, true, false, List, [], ◌∷◌, length, take, drop, Option, Some, min, refl, sym, ap, ◌∙◌, subst, inl, inr, arith}
use Rattle.std.proofs.lemmas.List.{length-take-le, length-drop}
use Rattle.h1_model.specs.Messages.{request, interim, response, octet, end, trailers, counted, unbounded, Due, body, due_next, stop_short, counted_step, unbounded_step, Step, item, stop, StepsTo}
use Rattle.h1_model.specs.Unread.{Next, piece, part, Carries, by_itself, piece_before, IsNoOctet, IsNext}
use Rattle.h1_model.proofs.Carried.{take_carries, take_carries_unbounded}
use Rattle.h1_stream.specs.Behind.{is_no_end}

-- a step by itself
pub alone : (ended : Bool) (asked : Option (List ℕ)) (due : Due) (text : List ℕ) (step : Step) (next : Next) → StepsTo ended asked due text step
    → by_itself step ≡ Some next → IsNext ended asked due text next
alone ended asked due text step next there is = inl (record { step = step; there = there; is = is })

-- a piece with the end after it
pub with_end : (ended : Bool) (asked : Option (List ℕ)) (due mid after : Due) (text bytes : List ℕ) (used n : ℕ)
    → Carries ended asked due text bytes used mid → 0 < length bytes → length bytes ≤ 16384
    → StepsTo ended asked mid (drop used text) (item end n after) → IsNext ended asked due text (part (piece bytes true) (used + n) after)
with_end ended asked due mid after text bytes used n carried some few there =
    inr (record {
      bytes = bytes;
      used = used;
      mid = mid;
      behind = item end n after;
      carried = carried;
      some = some;
      few = few;
      there = there;
      all = inl tt;
      is = refl;
    })

no_end_before : (step : Step) (bytes : List ℕ) (used : ℕ) (mid : Due) → is_no_end step ≡ true
    → part (piece bytes false) used mid ≡ piece_before bytes used mid step
no_end_before (item (request h) n due) bytes used mid e = refl
no_end_before (item (interim h) n due) bytes used mid e = refl
no_end_before (item (response h) n due) bytes used mid e = refl
no_end_before (item (octet b) n due) bytes used mid e = refl
no_end_before (item end n due) bytes used mid e = cc
no_end_before (item (trailers fields) n due) bytes used mid e = refl
no_end_before (stop why) bytes used mid e = refl

-- a piece with something else after it
pub without_end : (ended : Bool) (asked : Option (List ℕ)) (due mid : Due) (text bytes : List ℕ) (used : ℕ) (step : Step)
    → Carries ended asked due text bytes used mid → 0 < length bytes → length bytes ≤ 16384
    → StepsTo ended asked mid (drop used text) step → is_no_end step ≡ true → IsNoOctet step ⊎ (length bytes ≡ 16384)
    → IsNext ended asked due text (part (piece bytes false) used mid)
without_end ended asked due mid text bytes used step carried some few there no_end all =
    inr (record {
      bytes = bytes;
      used = used;
      mid = mid;
      behind = step;
      carried = carried;
      some = some;
      few = few;
      there = there;
      all = all;
      is = no_end_before step bytes used mid no_end;
    })

-- ---- bodies of so many bytes

-- what is left of a body of which some is left
counted_behind : (ended : Bool) (asked : Option (List ℕ)) (k n len : ℕ) (text : List ℕ) → n ≡ suc k → (0 < length text → len ≡ 16384)
    → (step : Step) × StepsTo ended asked (body (counted n)) text step × (is_no_end step ≡ true) × (IsNoOctet step ⊎ (len ≡ 16384))
counted_behind ended asked k n len [] is full =
    (stop (stop_short ended asked), ap (λ (m : ℕ). stop (stop_short ended asked)) is ∙ ap (λ (m : ℕ). counted_step ended asked m []) (sym is), refl, inl tt)
counted_behind ended asked k n len (b ∷ text) is full =
    let full_is : len ≡ 16384 = full (omega arith) in
    (item (octet b) 1 (body (counted k)), ap (λ (m : ℕ). counted_step ended asked m (b ∷ text)) (sym is), refl, inr full_is)

pub counted_whole : (ended : Bool) (asked : Option (List ℕ)) (n len : ℕ) (text bytes : List ℕ) → len ≡ min (min (length text) 16384) n
    → bytes ≡ take len text → 0 < n → 0 < length text → n - len ≡ 0
    → IsNext ended asked (body (counted n)) text (part (piece bytes true) len (due_next asked))
counted_whole ended asked n len text bytes len_is bytes_is some there none_left =
    let fits : len ≤ length text = omega arith in
    let size : length (take len text) ≡ len = length-take-le len text fits in
    let carried : Carries ended asked (body (counted n)) text (take len text) len (body (counted (n - len))) = take_carries ended asked n len text (omega arith) fits in
    let behind : StepsTo ended asked (body (counted (n - len))) (drop len text) (item end 0 (due_next asked)) =
    ap (λ (m : ℕ). counted_step ended asked m (drop len text)) (sym none_left) in
    let whole = with_end ended asked (body (counted n)) (body (counted (n - len))) (due_next asked) text (take len text) len 0 carried (omega arith) (omega arith) behind in
    let moved : IsNext ended asked (body (counted n)) text (part (piece bytes true) (len + 0) (due_next asked)) =
    subst (λ (bs : List ℕ). IsNext ended asked (body (counted n)) text (part (piece bs true) (len + 0) (due_next asked))) (sym bytes_is) whole in
    let same : len + 0 ≡ len = omega arith in
    subst (λ (m : ℕ). IsNext ended asked (body (counted n)) text (part (piece bytes true) m (due_next asked))) same moved

pub counted_part : (ended : Bool) (asked : Option (List ℕ)) (n len : ℕ) (text bytes : List ℕ) → len ≡ min (min (length text) 16384) n
    → bytes ≡ take len text → 0 < n → 0 < length text → 0 < n - len
    → IsNext ended asked (body (counted n)) text (part (piece bytes false) len (body (counted (n - len))))
counted_part ended asked n len text bytes len_is bytes_is some there left =
    let fits : len ≤ length text = omega arith in
    let size : length (take len text) ≡ len = length-take-le len text fits in
    let carried : Carries ended asked (body (counted n)) text (take len text) len (body (counted (n - len))) = take_carries ended asked n len text (omega arith) fits in
    let one : n - len ≡ suc (n - len - 1) = omega arith in
    let full : 0 < length (drop len text) → length (take len text) ≡ 16384 = λ more. omega (arith, length-drop len text) in
    let b = counted_behind ended asked (n - len - 1) (n - len) (length (take len text)) (drop len text) one full in
    let piece_is = without_end ended asked (body (counted n)) (body (counted (n - len))) text (take len text) len b.0 carried (omega arith) (omega arith) b.1 b.2 b.3 in
    subst (λ (bs : List ℕ). IsNext ended asked (body (counted n)) text (part (piece bs false) len (body (counted (n - len))))) (sym bytes_is) piece_is

-- ---- bodies that end with the line

unbounded_behind : (ended : Bool) (asked : Option (List ℕ)) (len : ℕ) (text : List ℕ) → 0 < length text → len ≡ 16384
    → (step : Step) × StepsTo ended asked (body unbounded) text step × (is_no_end step ≡ true) × (IsNoOctet step ⊎ (len ≡ 16384))
unbounded_behind ended asked len [] some full = absurd (omega arith)
unbounded_behind true asked len (b ∷ text) some full = (item (octet b) 1 (body unbounded), refl, refl, inr full)
unbounded_behind false asked len (b ∷ text) some full = (item (octet b) 1 (body unbounded), refl, refl, inr full)

pub unbounded_full : (ended : Bool) (asked : Option (List ℕ)) (len : ℕ) (text bytes : List ℕ) → len ≡ min (length text) 16384
    → bytes ≡ take len text → 0 < length text → len < length text
    → IsNext ended asked (body unbounded) text (part (piece bytes false) len (body unbounded))
unbounded_full ended asked len text bytes len_is bytes_is some more =
    let size : length (take len text) ≡ len = length-take-le len text (omega arith) in
    let carried = take_carries_unbounded ended asked len text (omega arith) in
    let left : 0 < length (drop len text) = omega (arith, length-drop len text) in
    let full : length (take len text) ≡ 16384 = omega arith in
    let b = unbounded_behind ended asked (length (take len text)) (drop len text) left full in
    let piece_is = without_end ended asked (body unbounded) (body unbounded) text (take len text) len b.0 carried (omega arith) (omega arith) b.1 b.2 b.3 in
    subst (λ (bs : List ℕ). IsNext ended asked (body unbounded) text (part (piece bs false) len (body unbounded))) (sym bytes_is) piece_is

-- nothing is left after all of a text
drop_nothing : (len : ℕ) (text : List ℕ) → length text ≤ len → drop len text ≡ []
drop_nothing len text all = no_bytes (drop len text) (omega (arith, length-drop len text))
  where
    no_bytes : (t : List ℕ) → length t ≡ 0 → t ≡ []
    no_bytes [] e = refl
    no_bytes (b ∷ t) e = absurd (omega arith)

pub unbounded_whole : (asked : Option (List ℕ)) (len : ℕ) (text bytes : List ℕ) → len ≡ min (length text) 16384
    → bytes ≡ take len text → 0 < length text → length text ≤ len
    → IsNext true asked (body unbounded) text (part (piece bytes true) len (due_next asked))
unbounded_whole asked len text bytes len_is bytes_is some all =
    let size : length (take len text) ≡ len = length-take-le len text (omega arith) in
    let carried = take_carries_unbounded true asked len text (omega arith) in
    let behind : StepsTo true asked (body unbounded) (drop len text) (item end 0 (due_next asked)) =
    ap (λ (t : List ℕ). unbounded_step true asked t) (sym (drop_nothing len text all)) in
    let whole = with_end true asked (body unbounded) (body unbounded) (due_next asked) text (take len text) len 0 carried (omega arith) (omega arith) behind in
    let moved : IsNext true asked (body unbounded) text (part (piece bytes true) (len + 0) (due_next asked)) =
    subst (λ (bs : List ℕ). IsNext true asked (body unbounded) text (part (piece bs true) (len + 0) (due_next asked))) (sym bytes_is) whole in
    let same : len + 0 ≡ len = omega arith in
    subst (λ (m : ℕ). IsNext true asked (body unbounded) text (part (piece bytes true) m (due_next asked))) same moved

pub unbounded_open : (asked : Option (List ℕ)) (len : ℕ) (text bytes : List ℕ) → len ≡ min (length text) 16384
    → bytes ≡ take len text → 0 < length text → length text ≤ len
    → IsNext false asked (body unbounded) text (part (piece bytes false) len (body unbounded))
unbounded_open asked len text bytes len_is bytes_is some all =
    let size : length (take len text) ≡ len = length-take-le len text (omega arith) in
    let carried = take_carries_unbounded false asked len text (omega arith) in
    let behind : StepsTo false asked (body unbounded) (drop len text) (stop (stop_short false asked)) =
    ap (λ (t : List ℕ). unbounded_step false asked t) (sym (drop_nothing len text all)) in
    let piece_is = without_end false asked (body unbounded) (body unbounded) text (take len text) len (stop (stop_short false asked)) carried (omega arith) (omega arith) behind refl (inl tt) in
    subst (λ (bs : List ℕ). IsNext false asked (body unbounded) text (part (piece bs false) len (body unbounded))) (sym bytes_is) piece_is
