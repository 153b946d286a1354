-- What a reader hands on uses up bytes, but for an end.
use Rattle.std.proofs.Common.{◌≡◌, ℕ, zero, suc, ◌+◌, ◌-◌, ◌<◌, ◌≤◌, Bool, true, false, cond, List, [], ◌∷◌, length, take, get_or, Option, None, Some, bytes_eq, codes, Result, Ok, Err, refl, sym, ap, subst, inl, inr, arith}
use Rattle.std.proofs.lemmas.List.{length-drop}
use Rattle.std.specs.Prelude.{◌==◌, ◌||◌, nat_le, nat_lt}
use Rattle.filter_host.specs.Heard.{Heard, hands, halts, Hears}
use Rattle.h1_model.specs.Fields.{Pair}
use Rattle.h1_model.specs.Lines.{head_limit, line_limit, whole_lines, with_first, section_of, empty_line_bytes, after_empty_lines, Cut, whole, too_large, unfinished, cut_open, cut_lines, cut_of, head_cut}
use Rattle.httparse.specs.Ascii.{line_feed}
use Rattle.h1_model.specs.Head.{Head, HeadStep, found, not_yet, refused, step_of, IsAnswer, IsResponseAnswer, IsStepAt}
use Rattle.h1_model.specs.Chunks as chunks
use Rattle.h1_model.specs.Trailers as trailing
use Rattle.h1_model.specs.Trailers.{IsEnd}
use Rattle.h1_model.specs.Messages.{Item, request, interim, response, octet, end, trailers, counted, coded, unbounded, Due, head, body, done, rest, over, refusal, Step, item, stop, due_behind, due_after, due_next, is_interim, item_of, stop_at, step_from, malformed_status, stop_short, trailers_left, end_step, section_step, IsCodedStep, SpellsHead, StepsTo}
use Rattle.h1_model.specs.Unread.{Part, head_part, interim_part, piece, trailer_part, Next, part, none, Carries, by_itself, piece_before, IsNext, Reading, unread_at}
use Rattle.h1_model.proofs.ChunkLaws.{sought_fits}
use Rattle.h1_model.proofs.Growth.{head_cut_fits}
use Rattle.h1_model.proofs.Readings.{item_is_no_stop, same_item}
use Rattle.h1_model.proofs.Parts.{same_part, same_next}
use Rattle.law_rest.specs.Readings.{ends_body, behind, UsesBytes, ReadingsUseBytes}

-- ---- a head takes bytes

line_some : (text line : List ℕ) (lines : List (List ℕ)) → whole_lines text ≡ line ∷ lines → 0 < length line
line_some [] line lines is = absurd (cc)
line_some (b ∷ bytes) line lines is = by_test (b == line_feed) is
  where
    by_first : (after : List (List ℕ)) → with_first b after ≡ line ∷ lines → 0 < length line
    by_first [] e = absurd (cc)
    by_first (l ∷ ls) e = let same : b ∷ l ≡ line = (cc) in omega (arith, ap length same)

    by_test : (t : Bool) → cond t ((b ∷ []) ∷ whole_lines bytes) (with_first b (whole_lines bytes)) ≡ line ∷ lines → 0 < length line
    by_test true e = let same : b ∷ [] ≡ line = (cc) in omega (arith, ap length same)
    by_test false e = by_first (whole_lines bytes) e

open_not_whole : (bytes lines len : ℕ) → cut_open bytes lines ≡ whole len → ⊥
open_not_whole bytes lines len is = by_test (nat_le head_limit bytes || nat_lt line_limit lines) is
  where
    by_test : (t : Bool) → cond t too_large unfinished ≡ whole len → ⊥
    by_test true e = cc
    by_test false e = cc

cut_some : (bytes len : ℕ) (text : List ℕ) (lines : List (List ℕ)) → whole_lines text ≡ lines → cut_of bytes lines ≡ whole len → 0 < len
cut_some bytes len text [] there is = absurd (open_not_whole bytes 0 len is)
cut_some bytes len text (first ∷ after) there is = by_section (section_of after) is
  where
    by_test : (t : Bool) (n : ℕ) → cond t too_large (whole (length first + n)) ≡ whole len → 0 < len
    by_test true n e = absurd (cc)
    by_test false n e = let same : length first + n ≡ len = (cc) in omega (arith, same, line_some text first after there)

    by_section : (o : Option (ℕ × ℕ)) → cut_lines bytes (length first) (length after) o ≡ whole len → 0 < len
    by_section None e = absurd (open_not_whole bytes (length after) len e)
    by_section (Some s) e = by_test (nat_lt line_limit s.0) s.1 e

-- so many bytes, and there are some
abbrev IsSome : ℕ → List ℕ → Type 0
IsSome n text = (0 < n) × (0 < length text)

found_some : (answers : List ℕ → Result Head ℕ → Type 0) (large : ℕ) (text : List ℕ) (h : Head) (n : ℕ) (cut : Cut) → head_cut (after_empty_lines text) ≡ cut
    → IsStepAt answers large (empty_line_bytes text) (after_empty_lines text) cut (found h n) → IsSome n text
found_some answers large text h n (whole len) is x =
    let some = cut_some (length (take head_limit (after_empty_lines text))) len (take head_limit (after_empty_lines text)) (whole_lines (take head_limit (after_empty_lines text))) refl is in
    let fits = (head_cut_fits (after_empty_lines text) len is).0 in
    by_answer some fits x.0 x.2
  where
    by_answer : 0 < len → len ≤ length (after_empty_lines text) → (a : Result Head ℕ) → found h n ≡ step_of (empty_line_bytes text + len) a → IsSome n text
    by_answer some fits (Ok g) e = let same : n ≡ empty_line_bytes text + len = (cc) in (omega arith, omega (arith, length-drop (empty_line_bytes text) text))
    by_answer some fits (Err k) e = absurd (cc)
found_some answers large text h n too_large is x = absurd (cc)
found_some answers large text h n unfinished is x = absurd (cc)

head_some : (asked : Option (List ℕ)) (text : List ℕ) (h : Head) (n : ℕ) → SpellsHead asked text (found h n) → IsSome n text
head_some None text h n x = found_some IsAnswer 431 text h n (head_cut (after_empty_lines text)) refl x
head_some (Some asked) text h n x = found_some (IsResponseAnswer (bytes_eq asked (codes "HEAD"))) 502 text h n (head_cut (after_empty_lines text)) refl x

-- ---- each item that is no end does

abbrev is_end : Item → Bool
is_end (request h) = false
is_end (interim h) = false
is_end (response h) = false
is_end (octet b) = false
is_end end = true
is_end (trailers fields) = true

no_end : (i j : Item) → i ≡ j → is_end j ≡ true → is_end i ≡ false → ⊥
no_end i j same one other = let e : is_end i ≡ is_end j = ap is_end same in cc

ended_item : (asked : Option (List ℕ)) (i : Item) (n used : ℕ) (next : Due) (fields : List Pair) → item i n next ≡ end_step asked used fields → is_end i ≡ false → ⊥
ended_item asked i n used next [] e other = no_end i end (same_item i end n used next (due_next asked) e).0 refl other
ended_item asked i n used next (f ∷ fields) e other =
    no_end i (trailers (f ∷ fields)) (same_item i (trailers (f ∷ fields)) n used next (due_next asked) e).0 refl other

found_uses : (asked : Option (List ℕ)) (h : Head) (m : ℕ) (i : Item) (n : ℕ) (next : Due) → item i n next ≡ item_of asked h m → n ≡ m
found_uses None h m i n next e = (same_item i (request h) n m next (due_after h) e).1
found_uses (Some asked) h m i n next e = by_kind (is_interim h.fields.kind) e
  where
    by_kind : (b : Bool) → item i n next ≡ cond b (item (interim h) m head) (item (response h) m (due_behind done h.connection h.length)) → n ≡ m
    by_kind true e = (same_item i (interim h) n m next head e).1
    by_kind false e = (same_item i (response h) n m next (due_behind done h.connection h.length) e).1

coded_some : (ended : Bool) (asked : Option (List ℕ)) (connection : List (List ℕ)) (place : chunks.Place) (text : List ℕ) (i : Item) (n : ℕ) (next : Due) (s : chunks.Sought)
    → chunks.sought place text ≡ s → IsCodedStep ended asked connection text s (item i n next) → is_end i ≡ false → IsSome n text
coded_some ended asked connection place text i n next (chunks.data_at at left) is x other =
    let fits : at < length text = sought_fits place text at left is in
    let same : n ≡ at + 1 = (same_item i (octet (get_or text at 0)) n (at + 1) next (body (coded connection (chunks.inside (left - 1)))) x).1 in
    (omega arith, omega arith)
coded_some ended asked connection place text i n next (chunks.section_at at) is x other = by_step x.0 x.2
  where
    by_step : (c : trailing.ChunkStep) → item i n next ≡ section_step ended asked connection c → IsSome n text
    by_step (trailing.carried run) e = absurd (item_is_no_stop i n next rest e)
    by_step (trailing.ended fields used) e = absurd (ended_item asked i n used next (trailers_left asked connection fields) e other)
    by_step trailing.not_yet e = absurd (item_is_no_stop i n next (stop_short ended asked) e)
    by_step (trailing.refused number) e = absurd (item_is_no_stop i n next (malformed_status asked) e)
coded_some ended asked connection place text i n next chunks.waiting is x other = absurd (item_is_no_stop i n next (stop_short ended asked) x)
coded_some ended asked connection place text i n next chunks.malformed is x other = absurd (item_is_no_stop i n next (malformed_status asked) x)

item_some : (ended : Bool) (asked : Option (List ℕ)) (due : Due) (text : List ℕ) (i : Item) (n : ℕ) (next : Due) → StepsTo ended asked due text (item i n next)
    → is_end i ≡ false → IsSome n text
item_some ended asked head text i n next x other = by_step x.0 x.1 x.2
  where
    by_step : (h : HeadStep) → SpellsHead asked text h → item i n next ≡ step_from ended asked text h → IsSome n text
    by_step (found h m) spells e =
        let same = found_uses asked h m i n next e in
        let some = head_some asked text h m spells in
        (omega (arith, same, some.0), some.1)
    by_step not_yet spells e = absurd (item_is_no_stop i n next (stop_at ended asked text) e)
    by_step (refused k) spells e = absurd (item_is_no_stop i n next (refusal k) e)
item_some ended asked (body (counted zero)) text i n next x other = absurd (no_end i end (same_item i end n 0 next (due_next asked) x).0 refl other)
item_some ended asked (body (counted (suc k))) [] i n next x other = absurd (item_is_no_stop i n next (stop_short ended asked) x)
item_some ended asked (body (counted (suc k))) (b ∷ text) i n next x other =
    let same : n ≡ 1 = (same_item i (octet b) n 1 next (body (counted k)) x).1 in (omega arith, omega arith)
item_some ended asked (body (coded connection place)) text i n next x other =
    coded_some ended asked connection place text i n next (chunks.sought place text) refl x other
item_some false asked (body unbounded) [] i n next x other = absurd (item_is_no_stop i n next rest x)
item_some true asked (body unbounded) [] i n next x other = absurd (no_end i end (same_item i end n 0 next (due_next asked) x).0 refl other)
item_some ended asked (body unbounded) (b ∷ text) i n next x other =
    let same : n ≡ 1 = (same_item i (octet b) n 1 next (body unbounded) x).1 in (omega arith, omega arith)
item_some ended asked done text i n next x other = absurd (item_is_no_stop i n next over x)

-- ---- each part that does not end a body does

alone_some : (ended : Bool) (asked : Option (List ℕ)) (due : Due) (text : List ℕ) (s : Step) (p : Part) (used : ℕ) (next : Due) → StepsTo ended asked due text s
    → by_itself s ≡ Some (part p used next) → ends_body p ≡ false → IsSome used text
alone_some ended asked due text (stop why) p used next x e goes = absurd (no e)
  where
    no : ◌≡◌ {A = Option Next} (Some (none why)) (Some (part p used next)) → ⊥
    no e = cc
alone_some ended asked due text (item i n d) p used next x e goes = by_item i x e
  where
    as_used : n ≡ used → IsSome n text → IsSome used text
    as_used same some = subst (λ (m : ℕ). IsSome m text) same some

    closed : (q : Part) → q ≡ p → ends_body q ≡ true → IsSome used text
    closed q same is = let e : ends_body q ≡ ends_body p = ap ends_body same in absurd (cc)

    by_item : (i : Item) → StepsTo ended asked due text (item i n d) → by_itself (item i n d) ≡ Some (part p used next) → IsSome used text
    by_item (request h) x e = as_used (same_part (head_part h) p n used d next e).1 (item_some ended asked due text (request h) n d x refl)
    by_item (interim h) x e = as_used (same_part (interim_part h) p n used d next e).1 (item_some ended asked due text (interim h) n d x refl)
    by_item (response h) x e = as_used (same_part (head_part h) p n used d next e).1 (item_some ended asked due text (response h) n d x refl)
    by_item (octet b) x e = absurd (cc)
    by_item end x e = closed (piece [] true) (same_part (piece [] true) p n used d next e).0 refl
    by_item (trailers fields) x e = closed (trailer_part fields) (same_part (trailer_part fields) p n used d next e).0 refl

carried_some : (ended : Bool) (asked : Option (List ℕ)) (due : Due) (text bytes : List ℕ) (used : ℕ) (mid : Due) → Carries ended asked due text bytes used mid
    → 0 < length bytes → IsSome used text
carried_some ended asked due text [] used mid c some = absurd (omega arith)
carried_some ended asked due text (b ∷ bytes) used mid c some =
    let first = item_some ended asked due text (octet b) c.0 c.2 c.3 refl in
    (omega (arith, first.0, c.5), first.1)

piece_uses : (bytes : List ℕ) (m : ℕ) (mid : Due) (s : Step) (p : Part) (used : ℕ) (next : Due) → part p used next ≡ piece_before bytes m mid s → m ≤ used
piece_uses bytes m mid (item (request h) n d) p used next e = omega (arith, (same_next p (piece bytes false) used m next mid e).1)
piece_uses bytes m mid (item (interim h) n d) p used next e = omega (arith, (same_next p (piece bytes false) used m next mid e).1)
piece_uses bytes m mid (item (response h) n d) p used next e = omega (arith, (same_next p (piece bytes false) used m next mid e).1)
piece_uses bytes m mid (item (octet b) n d) p used next e = omega (arith, (same_next p (piece bytes false) used m next mid e).1)
piece_uses bytes m mid (item end n d) p used next e = omega (arith, (same_next p (piece bytes true) used (m + n) next d e).1)
piece_uses bytes m mid (item (trailers fields) n d) p used next e = omega (arith, (same_next p (piece bytes false) used m next mid e).1)
piece_uses bytes m mid (stop why) p used next e = omega (arith, (same_next p (piece bytes false) used m next mid e).1)

part_some : (ended : Bool) (asked : Option (List ℕ)) (due : Due) (text : List ℕ) (p : Part) (used : ℕ) (next : Due) → IsNext ended asked due text (part p used next)
    → ends_body p ≡ false → IsSome used text
part_some ended asked due text p used next (inl x) goes = alone_some ended asked due text x.step p used next x.there x.is goes
part_some ended asked due text p used next (inr x) goes =
    let some = carried_some ended asked due text x.bytes x.used x.mid x.carried x.some in
    let more = piece_uses x.bytes x.used x.mid x.behind p used next x.is in
    (omega (arith, some.0, more), some.1)

-- ---- what a reader says

no_more : (due : Due) (text : List ℕ) → length (unread_at due text) ≤ length text
no_more head text = omega (arith, length-drop (empty_line_bytes text) text)
no_more (body (counted n)) text = omega arith
no_more (body (coded connection place)) text = omega (arith, length-drop (chunks.section_taken (chunks.sought place text)) text)
no_more (body unbounded) text = omega arith
no_more done text = omega arith

pub uses_bytes : (old : Reading) (heard : Heard) → Hears old heard → UsesBytes old heard
uses_bytes old (hands p new) x = λ goes.
    let some = part_some old.ended old.asked old.due old.unread p x.used x.due x.next goes in
    subst (λ (r : Reading). length r.unread < length old.unread) (sym x.is) (omega (arith, length-drop x.used old.unread, some.0, some.1))
uses_bytes old (halts why new) x = subst (λ (r : Reading). length r.unread ≤ length old.unread) (sym x.is) (no_more old.due old.unread)

pub adds_none : (old : Reading) (heard : Heard) → Hears old heard → length (behind heard).unread ≤ length old.unread
adds_none old (hands p new) x = subst (λ (r : Reading). length r.unread ≤ length old.unread) (sym x.is) (omega (arith, length-drop x.used old.unread))
adds_none old (halts why new) x = uses_bytes old (halts why new) x

pub readings_use_bytes : ReadingsUseBytes
readings_use_bytes = record { uses = uses_bytes; adds_none = adds_none }
