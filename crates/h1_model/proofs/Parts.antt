-- What is unread next is one thing, and a refusal stays.
use Rattle.std.proofs.Common.{◌≡◌, ℕ, suc, ◌+◌, ◌-◌, ◌<◌, ◌≤◌, Bool, true, false, cond, List, [], ◌∷◌, ◌++◌, length, drop, eqb, Option, None, Some, bytes_eq, codes, Result, Ok, Err, refl, sym, ap, ◌∙◌, subst, inl, inr, arith}
use Rattle.std.proofs.lemmas.List.{drop-drop}
use Rattle.std.specs.Prelude.{◌⊎◌}
use Rattle.h1_model.specs.Lines.{Cut, whole, too_large, unfinished, head_cut, empty_line_bytes, after_empty_lines}
use Rattle.h1_model.specs.Head.{Head, HeadStep, found, not_yet, refused, step_of, IsAnswer, IsResponseAnswer, IsStepAt, SpellsBy}
use Rattle.h1_model.specs.Messages.{Item, request, interim, response, octet, end, trailers, counted, coded, unbounded, Due, head, body, done, Stop, over, refusal, Step, item, stop, due_behind, is_interim, item_of, stop_at, step_from, SpellsHead, IsCodedStep, StepsTo}
use Rattle.h1_model.specs.Chunks as chunks
use Rattle.h1_model.specs.Trailers.{piece_limit}
use Rattle.h1_model.specs.Unread.{Part, head_part, interim_part, piece, trailer_part, Next, part, none, Carries, by_itself, piece_before, IsNoOctet, IsNext, Reading, due_at, unread_at, Halts}
use Rattle.h1_model.specs.ReadingLaws.{OnePart, RefusedStays}
use Rattle.h1_model.proofs.EmptyLines.{empty_front, after-behind}
use Rattle.h1_model.proofs.Readings.{Answers, StepsTo-unique, item_is_no_stop, same_item, refused_at}
use Rattle.h1_model.proofs.Sections.{further, section_stops}

-- ---- a stop, and a part

part_is_no_stop : (p : Part) (used : ℕ) (due : Due) (why : Stop) → none why ≡ part p used due → ⊥
part_is_no_stop p used due why e = cc

some_part : (p : Part) (used : ℕ) (due : Due) (why : Stop) → Some (part p used due) ≡ Some (none why) → ⊥
some_part p used due why e = cc

pub same_part : (p q : Part) (n m : ℕ) (d e : Due) → ◌≡◌ {A = Option Next} (Some (part p n d)) (Some (part q m e)) → (p ≡ q) × (n ≡ m) × (d ≡ e)
same_part p q n m d e x = (cc, cc, cc)

pub same_next : (p q : Part) (n m : ℕ) (d e : Due) → part p n d ≡ part q m e → (p ≡ q) × (n ≡ m) × (d ≡ e)
same_next p q n m d e x = (cc, cc, cc)

piece_is_no_stop : (bytes : List ℕ) (used : ℕ) (mid : Due) (s : Step) (why : Stop) → none why ≡ piece_before bytes used mid s → ⊥
piece_is_no_stop bytes used mid (item (request h) n due) why e = part_is_no_stop (piece bytes false) used mid why e
piece_is_no_stop bytes used mid (item (interim h) n due) why e = part_is_no_stop (piece bytes false) used mid why e
piece_is_no_stop bytes used mid (item (response h) n due) why e = part_is_no_stop (piece bytes false) used mid why e
piece_is_no_stop bytes used mid (item (octet b) n due) why e = part_is_no_stop (piece bytes false) used mid why e
piece_is_no_stop bytes used mid (item end n due) why e = part_is_no_stop (piece bytes true) (used + n) due why e
piece_is_no_stop bytes used mid (item (trailers fields) n due) why e = part_is_no_stop (piece bytes false) used mid why e
piece_is_no_stop bytes used mid (stop w) why e = part_is_no_stop (piece bytes false) used mid why e

-- where no part is next, no item is
pub none_is_stop : (ended : Bool) (asked : Option (List ℕ)) (due : Due) (text : List ℕ) (why : Stop)
    → IsNext ended asked due text (none why) → StepsTo ended asked due text (stop why)
none_is_stop ended asked due text why (inr x) = absurd (piece_is_no_stop x.bytes x.used x.mid x.behind why x.is)
none_is_stop ended asked due text why (inl x) = by_step x.step x.there x.is
  where
    by_step : (s : Step) → StepsTo ended asked due text s → by_itself s ≡ Some (none why) → StepsTo ended asked due text (stop why)
    by_step (item (request h) n next) there e = absurd (some_part (head_part h) n next why e)
    by_step (item (interim h) n next) there e = absurd (some_part (interim_part h) n next why e)
    by_step (item (response h) n next) there e = absurd (some_part (head_part h) n next why e)
    by_step (item (octet b) n next) there e = absurd (cc)
    by_step (item end n next) there e = absurd (some_part (piece [] true) n next why e)
    by_step (item (trailers fields) n next) there e = absurd (some_part (trailer_part fields) n next why e)
    by_step (stop w) there e = let same : w ≡ why = cc in subst (λ (v : Stop). StepsTo ended asked due text (stop v)) same there

pub stop_is_none : (ended : Bool) (asked : Option (List ℕ)) (due : Due) (text : List ℕ) (why : Stop)
    → StepsTo ended asked due text (stop why) → IsNext ended asked due text (none why)
stop_is_none ended asked due text why there = inl (record { step = stop why; there = there; is = refl })

-- ---- one part

octet_is_alone : (s : Step) (b n : ℕ) (due : Due) (next : Next) → s ≡ item (octet b) n due → by_itself s ≡ Some next → ⊥
octet_is_alone s b n due next is e = no (sym (ap by_itself is) ∙ e)
  where
    no : ◌≡◌ {A = Option Next} None (Some next) → ⊥
    no x = cc

octet_is_octet : (s : Step) (b n : ℕ) (due : Due) → s ≡ item (octet b) n due → IsNoOctet s → ⊥
octet_is_octet s b n due is x = subst IsNoOctet is x

-- a run that is not full ends before a step that is no byte
run_goes_on : (ended : Bool) (asked : Option (List ℕ)) (due mid next : Due) (text : List ℕ) (room used b n : ℕ) (s : Step)
    → used ≡ 0 → mid ≡ due → StepsTo ended asked mid (drop used text) s → IsNoOctet s ⊎ (0 ≡ room) → 0 < room
    → StepsTo ended asked due text (item (octet b) n next) → ⊥
run_goes_on ended asked due mid next text room used b n s start same there (inr full) some byte = omega arith
run_goes_on ended asked due mid next text room used b n s start same there (inl no_byte) some byte =
    let at_start : StepsTo ended asked mid text s = subst (λ (k : ℕ). StepsTo ended asked mid (drop k text) s) start there in
    let here : StepsTo ended asked due text s = subst (λ (d : Due). StepsTo ended asked d text s) same at_start in
    octet_is_octet s b n next (StepsTo-unique ended asked due text s (item (octet b) n next) here byte) no_byte

one_run : (ended : Bool) (asked : Option (List ℕ)) (room : ℕ) (due : Due) (text xs ys : List ℕ) (u v : ℕ) (m n : Due) (s t : Step)
    → Carries ended asked due text xs u m → Carries ended asked due text ys v n → length xs ≤ room → length ys ≤ room
    → StepsTo ended asked m (drop u text) s → StepsTo ended asked n (drop v text) t
    → IsNoOctet s ⊎ (length xs ≡ room) → IsNoOctet t ⊎ (length ys ≡ room) → (xs ≡ ys) × (u ≡ v) × (m ≡ n)
one_run ended asked room due text [] [] u v m n s t x y few some here there all every = (refl, x.0 ∙ sym y.0, x.1 ∙ sym y.1)
one_run ended asked room due text [] (b ∷ ys) u v m n s t x y few some here there all every =
    absurd (run_goes_on ended asked due m y.2 text room u b y.0 s x.0 x.1 here all (omega arith) y.3)
one_run ended asked room due text (b ∷ xs) [] u v m n s t x y few some here there all every =
    absurd (run_goes_on ended asked due n x.2 text room v b x.0 t y.0 y.1 there every (omega arith) x.3)
one_run ended asked room due text (b ∷ xs) (c ∷ ys) u v m n s t x y few some here there all every =
    let same = same_item (octet b) (octet c) x.0 y.0 x.2 y.2
    (StepsTo-unique ended asked due text (item (octet b) x.0 x.2) (item (octet c) y.0 y.2) x.3 y.3) in
    let byte : b ≡ c = same_byte b c same.0 in
    let used_moved : Carries ended asked y.2 (drop x.0 text) ys y.1 n =
    subst (λ (k : ℕ). Carries ended asked y.2 (drop k text) ys y.1 n) (sym same.1) y.4 in
    let moved : Carries ended asked x.2 (drop x.0 text) ys y.1 n =
    subst (λ (d : Due). Carries ended asked d (drop x.0 text) ys y.1 n) (sym same.2) used_moved in
    let here_is : drop u text ≡ drop x.1 (drop x.0 text) = ap (λ k. drop k text) x.5 ∙ sym (drop-drop x.1 x.0 text) in
    let there_is : drop v text ≡ drop y.1 (drop x.0 text) =
    ap (λ k. drop k text) (y.5 ∙ ap (λ k. k + y.1) (sym same.1)) ∙ sym (drop-drop y.1 x.0 text) in
    let later = one_run ended asked (room - 1) x.2 (drop x.0 text) xs ys x.1 y.1 m n s t x.4 moved (omega arith) (omega arith)
    (subst (λ (r : List ℕ). StepsTo ended asked m r s) here_is here) (subst (λ (r : List ℕ). StepsTo ended asked n r t) there_is there)
    (less (length xs) s all) (less (length ys) t every) in
    (λ k. byte k ∷ later.0 k, x.5 ∙ (λ k. same.1 k + later.1 k) ∙ sym y.5, later.2)
  where
    same_byte : (b c : ℕ) → octet b ≡ octet c → b ≡ c
    same_byte b c e = cc

    less : (k : ℕ) (s : Step) → IsNoOctet s ⊎ (suc k ≡ room) → IsNoOctet s ⊎ (k ≡ room - 1)
    less k s (inl x) = inl x
    less k s (inr e) = inr (omega arith)

no_alone_piece : (ended : Bool) (asked : Option (List ℕ)) (due mid : Due) (text bytes : List ℕ) (used : ℕ) (s : Step) (next : Next)
    → StepsTo ended asked due text s → by_itself s ≡ Some next → Carries ended asked due text bytes used mid → 0 < length bytes → ⊥
no_alone_piece ended asked due mid text [] used s next there is carried some = omega arith
no_alone_piece ended asked due mid text (b ∷ bytes) used s next there is x some =
    octet_is_alone s b x.0 x.2 next (StepsTo-unique ended asked due text s (item (octet b) x.0 x.2) there x.3) is

pub one_part : OnePart
one_part ended asked due text a b (inl x) (inl y) =
    same (sym x.is ∙ ap by_itself (StepsTo-unique ended asked due text x.step y.step x.there y.there) ∙ y.is)
  where
    same : Some a ≡ Some b → a ≡ b
    same e = cc
one_part ended asked due text a b (inl x) (inr y) =
    absurd (no_alone_piece ended asked due y.mid text y.bytes y.used x.step a x.there x.is y.carried y.some)
one_part ended asked due text a b (inr x) (inl y) =
    absurd (no_alone_piece ended asked due x.mid text x.bytes x.used y.step b y.there y.is x.carried x.some)
one_part ended asked due text a b (inr x) (inr y) =
    let same = one_run ended asked piece_limit due text x.bytes y.bytes x.used y.used x.mid y.mid x.behind y.behind
    x.carried y.carried x.few y.few x.there y.there x.all y.all in
    let used_moved : StepsTo ended asked x.mid (drop y.used text) x.behind =
    subst (λ (k : ℕ). StepsTo ended asked x.mid (drop k text) x.behind) same.1 x.there in
    let moved : StepsTo ended asked y.mid (drop y.used text) x.behind =
    subst (λ (d : Due). StepsTo ended asked d (drop y.used text) x.behind) same.2 used_moved in
    let behind : x.behind ≡ y.behind = StepsTo-unique ended asked y.mid (drop y.used text) x.behind y.behind moved y.there in
    x.is ∙ (λ k. piece_before (same.0 k) (same.1 k) (same.2 k) (behind k)) ∙ sym y.is

-- ---- the empty lines in front of a head

-- a head that is not found
abbrev IsStop : HeadStep → Type 0
IsStop a = (h : Head) (used : ℕ) → a ≡ found h used → ⊥

stop_moves : (answers : Answers) (large n k : ℕ) (text : List ℕ) (c : Cut) (a : HeadStep) → IsStop a
    → IsStepAt answers large n text c a → IsStepAt answers large k text c a
stop_moves answers large n k text (whole len) a stops x = (x.0, x.1, by_answer x.0 x.2)
  where
    by_answer : (r : Result Head ℕ) → a ≡ step_of (n + len) r → a ≡ step_of (k + len) r
    by_answer (Ok h) e = absurd (stops h (n + len) e)
    by_answer (Err number) e = e
stop_moves answers large n k text too_large a stops x = x
stop_moves answers large n k text unfinished a stops x = x

stop_by : (answers : Answers) (large : ℕ) (s t : List ℕ) (a : HeadStep) → after_empty_lines s ≡ after_empty_lines t → IsStop a
    → SpellsBy answers large s a → SpellsBy answers large t a
stop_by answers large s t a same stops x =
    let moved = stop_moves answers large (empty_line_bytes s) (empty_line_bytes t) (after_empty_lines s) (head_cut (after_empty_lines s)) a stops x in
    subst (λ (r : List ℕ). IsStepAt answers large (empty_line_bytes t) r (head_cut r) a) same moved

stop_spelled : (asked : Option (List ℕ)) (s t : List ℕ) (a : HeadStep) → after_empty_lines s ≡ after_empty_lines t → IsStop a
    → SpellsHead asked s a → SpellsHead asked t a
stop_spelled None s t a same stops x = stop_by IsAnswer 431 s t a same stops x
stop_spelled (Some asked) s t a same stops x = stop_by (IsResponseAnswer (bytes_eq asked (codes "HEAD"))) 502 s t a same stops x

stop_at-same : (ended : Bool) (asked : Option (List ℕ)) (s t : List ℕ) → after_empty_lines s ≡ after_empty_lines t
    → stop_at ended asked s ≡ stop_at ended asked t
stop_at-same false None s t same = refl
stop_at-same true None s t same = ap (λ (r : List ℕ). cond (eqb (length r) 0) over (refusal 400)) same
stop_at-same ended (Some asked) s t same = refl

-- where a head is due, two texts with the same after their empty lines stop alike
pub head_stop : (ended : Bool) (asked : Option (List ℕ)) (s t : List ℕ) (why : Stop) → after_empty_lines s ≡ after_empty_lines t
    → StepsTo ended asked head s (stop why) → StepsTo ended asked head t (stop why)
head_stop ended asked s t why same x = by_step x.0 x.1 x.2
  where
    no_item : (asked : Option (List ℕ)) (h : Head) (n : ℕ) → stop why ≡ item_of asked h n → ⊥
    no_item None h n e = item_is_no_stop (request h) n (due_behind head h.connection h.length) why (sym e)
    no_item (Some asked) h n e = by_kind (is_interim h.fields.kind) e
      where
        by_kind : (b : Bool) → stop why ≡ cond b (item (interim h) n head) (item (response h) n (due_behind done h.connection h.length)) → ⊥
        by_kind true e = item_is_no_stop (interim h) n head why (sym e)
        by_kind false e = item_is_no_stop (response h) n (due_behind done h.connection h.length) why (sym e)

    by_step : (a : HeadStep) → SpellsHead asked s a → stop why ≡ step_from ended asked s a → StepsTo ended asked head t (stop why)
    by_step (found h n) spells e = absurd (no_item asked h n e)
    by_step not_yet spells e = (not_yet, stop_spelled asked s t not_yet same (λ h n e. cc) spells, e ∙ ap stop (stop_at-same ended asked s t same))
    by_step (refused number) spells e = (refused number, stop_spelled asked s t (refused number) same (λ h n e. cc) spells, e)

-- with so many bytes more in front of it

item_moves : (answers : Answers) (large k at : ℕ) (text : List ℕ) (c : Cut) (h : Head) (used : ℕ)
    → IsStepAt answers large at text c (found h used) → IsStepAt answers large (k + at) text c (found h (k + used))
item_moves answers large k at text (whole len) h used x = (x.0, x.1, by_answer x.0 x.2)
  where
    same_used : (g : Head) → found h used ≡ found g (at + len) → used ≡ at + len
    same_used g e = cc

    same_head : (g : Head) → found h used ≡ found g (at + len) → h ≡ g
    same_head g e = cc

    by_answer : (r : Result Head ℕ) → found h used ≡ step_of (at + len) r → found h (k + used) ≡ step_of (k + at + len) r
    by_answer (Ok g) e =
        let place : k + used ≡ k + at + len = omega (arith, same_used g e) in
        (λ j. found (same_head g e j) (place j))
    by_answer (Err number) e = absurd (cc)
item_moves answers large k at text too_large h used x = absurd (cc)
item_moves answers large k at text unfinished h used x = absurd (cc)

item_by : (answers : Answers) (large k : ℕ) (s t : List ℕ) (h : Head) (used : ℕ) → empty_line_bytes s ≡ k + empty_line_bytes t
    → after_empty_lines s ≡ after_empty_lines t → SpellsBy answers large t (found h used) → SpellsBy answers large s (found h (k + used))
item_by answers large k s t h used more same x =
    let moved = item_moves answers large k (empty_line_bytes t) (after_empty_lines t) (head_cut (after_empty_lines t)) h used x in
    let there : IsStepAt answers large (k + empty_line_bytes t) (after_empty_lines s) (head_cut (after_empty_lines s)) (found h (k + used)) =
    subst (λ (r : List ℕ). IsStepAt answers large (k + empty_line_bytes t) r (head_cut r) (found h (k + used))) (sym same) moved in
    subst (λ (n : ℕ). IsStepAt answers large n (after_empty_lines s) (head_cut (after_empty_lines s)) (found h (k + used))) (sym more) there

item_spelled : (asked : Option (List ℕ)) (k : ℕ) (s t : List ℕ) (h : Head) (used : ℕ) → empty_line_bytes s ≡ k + empty_line_bytes t
    → after_empty_lines s ≡ after_empty_lines t → SpellsHead asked t (found h used) → SpellsHead asked s (found h (k + used))
item_spelled None k s t h used more same x = item_by IsAnswer 431 k s t h used more same x
item_spelled (Some asked) k s t h used more same x =
    item_by (IsResponseAnswer (bytes_eq asked (codes "HEAD"))) 502 k s t h used more same x

further_item : (asked : Option (List ℕ)) (k : ℕ) (h : Head) (used : ℕ) → further k (item_of asked h used) ≡ item_of asked h (k + used)
further_item None k h used = refl
further_item (Some asked) k h used = by_kind (is_interim h.fields.kind)
  where
    by_kind : (b : Bool)
        → further k (cond b (item (interim h) used head) (item (response h) used (due_behind done h.connection h.length)))
        ≡ cond b (item (interim h) (k + used) head) (item (response h) (k + used) (due_behind done h.connection h.length))
    by_kind true = refl
    by_kind false = refl

-- a head behind more empty lines
pub head_item_behind : (ended : Bool) (asked : Option (List ℕ)) (k : ℕ) (s t : List ℕ) (i : Item) (used : ℕ) (next : Due) → empty_line_bytes s ≡ k + empty_line_bytes t
    → after_empty_lines s ≡ after_empty_lines t → StepsTo ended asked head t (item i used next) → StepsTo ended asked head s (item i (k + used) next)
head_item_behind ended asked k s t i used next more same x = by_step x.0 x.1 x.2
  where
    by_step : (a : HeadStep) → SpellsHead asked t a → item i used next ≡ step_from ended asked t a → StepsTo ended asked head s (item i (k + used) next)
    by_step (found h n) spells e =
        (found h (k + n), item_spelled asked k s t h n more same spells, ap (further k) e ∙ further_item asked k h n)
    by_step not_yet spells e = absurd (item_is_no_stop i used next (stop_at ended asked t) e)
    by_step (refused number) spells e = absurd (item_is_no_stop i used next (refusal number) e)

-- ---- a refusal stays

pub after-after : (text : List ℕ) → after_empty_lines (after_empty_lines text) ≡ after_empty_lines text
after-after text =
    let f = empty_front text in
    sym (after-behind f.lines (after_empty_lines text)) ∙ ap after_empty_lines (sym f.are)

waits_there : (ended : Bool) (asked : Option (List ℕ)) (due : Due) (text : List ℕ) (why : Stop)
    → StepsTo ended asked due text (stop why) → StepsTo ended asked (due_at due text) (unread_at due text) (stop why)
waits_there ended asked head text why x = head_stop ended asked text (after_empty_lines text) why (sym (after-after text)) x
waits_there ended asked (body (counted n)) text why x = x
waits_there ended asked (body (coded connection place)) text why x = by_sought (chunks.sought place text) refl x
  where
    by_sought : (s : chunks.Sought) → chunks.sought place text ≡ s → IsCodedStep ended asked connection text s (stop why)
        → StepsTo ended asked (body (coded connection (chunks.place_taken place s))) (drop (chunks.section_taken s) text) (stop why)
    by_sought (chunks.data_at at left) is y = subst (λ (s : chunks.Sought). IsCodedStep ended asked connection text s (stop why)) (sym is) y
    by_sought (chunks.section_at at) is y = section_stops ended asked connection at (drop at text) why y
    by_sought chunks.waiting is y = subst (λ (s : chunks.Sought). IsCodedStep ended asked connection text s (stop why)) (sym is) y
    by_sought chunks.malformed is y = subst (λ (s : chunks.Sought). IsCodedStep ended asked connection text s (stop why)) (sym is) y
waits_there ended asked (body unbounded) text why x = x
waits_there ended asked done text why x = x

-- where a reader halts, it halts again
pub halts_again : (r s : Reading) (why : Stop) → Halts r why s → StepsTo s.ended s.asked s.due s.unread (stop why)
halts_again r s why h =
    let there = waits_there r.ended r.asked r.due r.unread why (none_is_stop r.ended r.asked r.due r.unread why h.next) in
    subst (λ (q : Reading). StepsTo q.ended q.asked q.due q.unread (stop why)) (sym h.is) there

pub refused_stays : RefusedStays
refused_stays = record {
  again = λ r s number h. stop_is_none s.ended s.asked s.due s.unread (refusal number) (halts_again r s (refusal number) h);
  longer = λ r s number more ended h goes_on.
      (let open_still : s.ended ≡ false = ap (λ (q : Reading). q.ended) h.is ∙ goes_on in
      let there : StepsTo false s.asked s.due s.unread (stop (refusal number)) =
      subst (λ (e : Bool). StepsTo e s.asked s.due s.unread (stop (refusal number))) open_still (halts_again r s (refusal number) h) in
      stop_is_none ended s.asked s.due (s.unread ++ more) (refusal number) (refused_at s.asked s.due s.unread more ended number there));
}
