-- A reader that rests has little unread.
use Rattle.std.proofs.Common.{◌≡◌, ℕ, zero, suc, ◌+◌, ◌-◌, ◌<◌, ◌≤◌, Bool, true, false, cond, ◌&&◌, ◌||◌, List, [], ◌∷◌, ◌++◌, length, take, drop, eqb, get_or, Option, None, Some, bytes_eq, codes, Result, Ok, Err, refl, sym, ap, ◌∙◌, subst, inl, inr, arith}
use Rattle.std.proofs.lemmas.Bool.{leb-false, ltb-false, eqb-true}
use Rattle.std.proofs.lemmas.List.{length-take, length-drop}
use Rattle.std.specs.Prelude.{nat_le, nat_lt}
use Rattle.h1_model.specs.Fields.{Pair}
use Rattle.h1_model.specs.Lines.{head_limit, whole_lines, section_of, empty_line_bytes, after_empty_lines, Cut, whole, too_large, unfinished, cut_at, cut_open, cut_lines, cut_of, window_cut, head_cut}
use Rattle.h1_model.specs.Head.{Head, HeadStep, found, not_yet, refused, step_of, IsAnswer, IsResponseAnswer, IsStepAt}
use Rattle.h1_model.specs.Length.{BodyLength, nothing, exactly, chunked, until_end}
use Rattle.h1_model.specs.Chunks as chunks
use Rattle.h1_model.specs.Trailers as trailing
use Rattle.h1_model.specs.Trailers.{section_cut}
use Rattle.h1_model.specs.Messages.{Item, request, interim, response, octet, end, trailers, Body, counted, coded, unbounded, Due, head, body, done, Stop, rest, over, refusal, Step, item, stop, due_behind, due_next, is_interim, item_of, stop_at, step_from, malformed_status, stop_short, counted_step, unbounded_step, trailers_left, end_step, section_step, IsCodedStep, SpellsHead, StepsTo}
use Rattle.h1_model.specs.Unread.{Part, head_part, interim_part, piece, trailer_part, Next, part, none, Carries, by_itself, piece_before, IsNext, Reading, new_reading, due_at, unread_at, awaiting_bytes, Halts, Act, feeds, ends, hands, halts, DoesAll}
use Rattle.h1_model.specs.ReadingLaws.{RestsAreShort}
use Rattle.h1_model.proofs.Readings.{item_is_no_stop, same_stop, same_item}
use Rattle.h1_model.proofs.Parts.{none_is_stop, same_part, same_next}

-- ---- cuts

open_short : (n lines : ℕ) → cut_open n lines ≡ unfinished → n < 65536
open_short n lines e = by_test (nat_le 65536 n) (nat_lt 100 lines) refl e
  where
    by_test : (a b : Bool) → nat_le 65536 n ≡ a → cond (a || b) too_large unfinished ≡ unfinished → n < 65536
    by_test true b is e = absurd (cc)
    by_test false true is e = absurd (cc)
    by_test false false is e = omega (arith, leb-false 65536 n is)

lines_short : (n first lines : ℕ) (s : Option (ℕ × ℕ)) → cut_lines n first lines s ≡ unfinished → n < 65536
lines_short n first lines None e = open_short n lines e
lines_short n first lines (Some (l, m)) e = by_test (nat_lt 100 l) e
  where
    by_test : (b : Bool) → cond b too_large (whole (first + m)) ≡ unfinished → n < 65536
    by_test true e = absurd (cc)
    by_test false e = absurd (cc)

cut_short : (n : ℕ) (lines : List (List ℕ)) → cut_of n lines ≡ unfinished → n < 65536
cut_short n [] e = open_short n 0 e
cut_short n (first ∷ after) e = lines_short n (length first) (length after) (section_of after) e

taken_short : (text : List ℕ) → length (take 65536 text) < 65536 → length text < 65536
taken_short text short = omega (arith, short, length-take 65536 text)

head_short : (text : List ℕ) → head_cut text ≡ unfinished → length text < 65536
head_short text e = taken_short text (cut_short (length (take 65536 text)) (whole_lines (take 65536 text)) e)

section_short : (text : List ℕ) → section_cut text ≡ unfinished → length text < 65536
section_short text e =
    taken_short text (lines_short (length (take 65536 text)) 0 (length (whole_lines (take 65536 text))) (section_of (whole_lines (take 65536 text))) e)

-- ---- heads

not_yet_short : (asked : Option (List ℕ)) (text : List ℕ) → SpellsHead asked text not_yet → length (after_empty_lines text) < 65536
not_yet_short None text x = by_cut (head_cut (after_empty_lines text)) refl x
  where
    by_cut : (c : Cut) → head_cut (after_empty_lines text) ≡ c → IsStepAt IsAnswer 431 (empty_line_bytes text) (after_empty_lines text) c not_yet
        → length (after_empty_lines text) < 65536
    by_cut (whole len) is x = absurd (no_step (empty_line_bytes text + len) x.0 x.2)
      where
        no_step : (n : ℕ) (r : Result Head ℕ) → not_yet ≡ step_of n r → ⊥
        no_step n (Ok h) e = cc
        no_step n (Err k) e = cc
    by_cut too_large is x = absurd (cc)
    by_cut unfinished is x = head_short (after_empty_lines text) is
not_yet_short (Some asked) text x = by_cut (head_cut (after_empty_lines text)) refl x
  where
    by_cut : (c : Cut) → head_cut (after_empty_lines text) ≡ c
        → IsStepAt (IsResponseAnswer (bytes_eq asked (codes "HEAD"))) 502 (empty_line_bytes text) (after_empty_lines text) c not_yet
        → length (after_empty_lines text) < 65536
    by_cut (whole len) is x = absurd (no_step (empty_line_bytes text + len) x.0 x.2)
      where
        no_step : (n : ℕ) (r : Result Head ℕ) → not_yet ≡ step_of n r → ⊥
        no_step n (Ok h) e = cc
        no_step n (Err k) e = cc
    by_cut too_large is x = absurd (cc)
    by_cut unfinished is x = head_short (after_empty_lines text) is

no_rest_refused : (number : ℕ) → stop rest ≡ stop (refusal number) → ⊥
no_rest_refused number e = no (same_stop rest (refusal number) e)
  where
    no : rest ≡ refusal number → ⊥
    no e = cc

no_rest_item : (i : Item) (used : ℕ) (next : Due) → stop rest ≡ item i used next → ⊥
no_rest_item i used next e = item_is_no_stop i used next rest (sym e)

no_rest_malformed : (asked : Option (List ℕ)) → stop rest ≡ stop (malformed_status asked) → ⊥
no_rest_malformed None e = no_rest_refused 400 e
no_rest_malformed (Some asked) e = no_rest_refused 502 e

head_rests : (ended : Bool) (asked : Option (List ℕ)) (text : List ℕ) → StepsTo ended asked head text (stop rest) → length (after_empty_lines text) < 65536
head_rests ended asked text x = by_step x.0 x.1 x.2
  where
    no_item : (asked : Option (List ℕ)) (of : Head) (n : ℕ) → stop rest ≡ item_of asked of n → ⊥
    no_item None of n e = no_rest_item (request of) n (due_behind head of.connection of.length) e
    no_item (Some asked) of n e = by_kind (is_interim of.fields.kind) e
      where
        by_kind : (b : Bool) → stop rest ≡ cond b (item (interim of) n head) (item (response of) n (due_behind done of.connection of.length)) → ⊥
        by_kind true e = no_rest_item (interim of) n head e
        by_kind false e = no_rest_item (response of) n (due_behind done of.connection of.length) e

    by_step : (h : HeadStep) → SpellsHead asked text h → stop rest ≡ step_from ended asked text h → length (after_empty_lines text) < 65536
    by_step (found of n) spells e = absurd (no_item asked of n e)
    by_step not_yet spells e = not_yet_short asked text spells
    by_step (refused n) spells e = absurd (no_rest_refused n e)

-- ---- bodies

counted_rests : (ended : Bool) (asked : Option (List ℕ)) (n : ℕ) (text : List ℕ) → stop rest ≡ counted_step ended asked n text → length text < 65536
counted_rests ended asked zero text e = absurd (no_rest_item end 0 (due_next asked) e)
counted_rests ended asked (suc n) [] e = omega arith
counted_rests ended asked (suc n) (b ∷ text) e = absurd (no_rest_item (octet b) 1 (body (counted n)) e)

unbounded_rests : (ended : Bool) (asked : Option (List ℕ)) (text : List ℕ) → stop rest ≡ unbounded_step ended asked text → length text < 65536
unbounded_rests ended asked [] e = omega arith
unbounded_rests ended asked (b ∷ text) e = absurd (no_rest_item (octet b) 1 (body unbounded) e)

-- ---- size lines

-- a size line is short, and so is the front of one
ended_short : (size len : ℕ) (behind : List ℕ) (s n : ℕ) → chunks.line_ended size len behind ≡ chunks.sized s n → n ≡ len + 2
ended_short size len [] s n e = absurd (cc)
ended_short size len (cr ∷ []) s n e = absurd (cc)
ended_short size len (cr ∷ b ∷ bytes) s n e = by_test (eqb b 10) e
  where
    same : chunks.sized size (len + 2) ≡ chunks.sized s n → n ≡ len + 2
    same e = cc

    by_test : (t : Bool) → cond t (chunks.sized size (len + 2)) chunks.no_size ≡ chunks.sized s n → n ≡ len + 2
    by_test true e = same e
    by_test false e = absurd (cc)

open_behind : (size len : ℕ) (behind : List ℕ) → chunks.line_ended size len behind ≡ chunks.size_open → length behind ≤ 1
open_behind size len [] e = omega arith
open_behind size len (cr ∷ []) e = omega arith
open_behind size len (cr ∷ b ∷ bytes) e = by_test (eqb b 10) e
  where
    by_test : (t : Bool) → cond t (chunks.sized size (len + 2)) chunks.no_size ≡ chunks.size_open → length (cr ∷ b ∷ bytes) ≤ 1
    by_test true e = absurd (cc)
    by_test false e = absurd (cc)

told_open : (o : Option ℕ) (len : ℕ) (behind : List ℕ) → chunks.told_step o len behind ≡ chunks.size_open → length behind ≤ 1
told_open None len behind e = absurd (cc)
told_open (Some size) len behind e = open_behind size len behind e

told_sized : (o : Option ℕ) (len : ℕ) (behind : List ℕ) (s n : ℕ) → chunks.told_step o len behind ≡ chunks.sized s n → n ≡ len + 2
told_sized None len behind s n e = absurd (cc)
told_sized (Some size) len behind s n e = ended_short size len behind s n e

front_short : (front behind : List ℕ) → chunks.front_step front behind ≡ chunks.size_open → length front + length behind ≤ 4095
front_short front behind e = by_test (nat_lt 4096 (length front + 2)) refl e
  where
    by_test : (b : Bool) → nat_lt 4096 (length front + 2) ≡ b
        → cond b chunks.no_size (chunks.told_step (chunks.size_told front) (length front) behind) ≡ chunks.size_open → length front + length behind ≤ 4095
    by_test true is e = absurd (cc)
    by_test false is e =
        omega (arith, ltb-false 4096 (length front + 2) is, told_open (chunks.size_told front) (length front) behind e)

front_sized : (front behind : List ℕ) (s n : ℕ) → chunks.front_step front behind ≡ chunks.sized s n → n ≤ 4096
front_sized front behind s n e = by_test (nat_lt 4096 (length front + 2)) refl e
  where
    by_test : (b : Bool) → nat_lt 4096 (length front + 2) ≡ b
        → cond b chunks.no_size (chunks.told_step (chunks.size_told front) (length front) behind) ≡ chunks.sized s n → n ≤ 4096
    by_test true is e = absurd (cc)
    by_test false is e =
        omega (arith, ltb-false 4096 (length front + 2) is, told_sized (chunks.size_told front) (length front) behind s n e)

size_short : (text : List ℕ) (s : chunks.SizeStep) → chunks.size_step text ≡ s → chunks.behind_size text s ≡ chunks.waiting → length text ≤ 4096
size_short text chunks.no_size is e = absurd (cc)
size_short text chunks.size_open is e = by_test (eqb (length text) 0) refl is
  where
    front : List ℕ
    front = chunks.front_of text

    by_test : (b : Bool) → eqb (length text) 0 ≡ b
        → cond b chunks.size_open (chunks.front_step front (drop (length front) text)) ≡ chunks.size_open → length text ≤ 4096
    by_test true empty e = omega (arith, eqb-true (length text) 0 empty)
    by_test false empty e =
        omega (arith, front_short front (drop (length front) text) e, length-drop (length front) text)
size_short text (chunks.sized size used) is e = by_size (eqb size 0) e
  where
    front : List ℕ
    front = chunks.front_of text

    by_front : (b : Bool) → cond b chunks.size_open (chunks.front_step front (drop (length front) text)) ≡ chunks.sized size used → used ≤ 4096
    by_front true e = absurd (cc)
    by_front false e = front_sized front (drop (length front) text) size used e

    by_room : (b : Bool) → nat_lt used (length text) ≡ b → cond b (chunks.data_at used size) chunks.waiting ≡ chunks.waiting → length text ≤ 4096
    by_room true there e = absurd (cc)
    by_room false there e = omega (arith, ltb-false used (length text) there, by_front (eqb (length text) 0) is)

    by_size : (b : Bool) → cond b (chunks.section_at used) (cond (nat_lt used (length text)) (chunks.data_at used size) chunks.waiting) ≡ chunks.waiting
        → length text ≤ 4096
    by_size true e = absurd (cc)
    by_size false e = by_room (nat_lt used (length text)) refl e

data_short : (text : List ℕ) → chunks.behind_data text ≡ chunks.waiting → length text ≤ 4098
data_short [] e = omega arith
data_short (cr ∷ []) e = omega arith
data_short (cr ∷ lf ∷ text) e = by_test (eqb cr 13 && eqb lf 10) e
  where
    by_moved : (s : chunks.Sought) → chunks.sought_after 2 s ≡ chunks.waiting → s ≡ chunks.waiting
    by_moved (chunks.data_at at left) e = absurd (cc)
    by_moved (chunks.section_at at) e = absurd (cc)
    by_moved chunks.waiting e = refl
    by_moved chunks.malformed e = absurd (cc)

    by_test : (b : Bool) → cond b (chunks.sought_after 2 (chunks.behind_size text (chunks.size_step text))) chunks.malformed ≡ chunks.waiting
        → length (cr ∷ lf ∷ text) ≤ 4098
    by_test true e =
        omega (arith, size_short text (chunks.size_step text) refl (by_moved (chunks.behind_size text (chunks.size_step text)) e))
    by_test false e = absurd (cc)

-- ---- the chunked coding

abbrev IsBefore : chunks.Place → Type 0
IsBefore chunks.size_line = Unit {0}
IsBefore (chunks.inside left) = Unit {0}
IsBefore chunks.section = Unit {0}
IsBefore chunks.over = ⊥

sought_short : (place : chunks.Place) (text : List ℕ) → IsBefore place → chunks.sought place text ≡ chunks.waiting → length text < 65536
sought_short chunks.size_line text before e = omega (arith, size_short text (chunks.size_step text) refl e)
sought_short chunks.section text before e = absurd (cc)
sought_short chunks.over text before e = absurd before
sought_short (chunks.inside left) text before e = by_left (eqb left 0) e
  where
    by_text : (b : Bool) → nat_lt 0 (length text) ≡ b → cond b (chunks.data_at 0 left) chunks.waiting ≡ chunks.waiting → length text < 65536
    by_text true there e = absurd (cc)
    by_text false there e = omega (arith, ltb-false 0 (length text) there)

    by_left : (b : Bool) → cond b (chunks.behind_data text) (cond (nat_lt 0 (length text)) (chunks.data_at 0 left) chunks.waiting) ≡ chunks.waiting
        → length text < 65536
    by_left true e = omega (arith, data_short text e)
    by_left false e = by_text (nat_lt 0 (length text)) refl e

no_rest_end : (asked : Option (List ℕ)) (used : ℕ) (fields : List Pair) → stop rest ≡ end_step asked used fields → ⊥
no_rest_end asked used [] e = no_rest_item end used (due_next asked) e
no_rest_end asked used (f ∷ fields) e = no_rest_item (trailers (f ∷ fields)) used (due_next asked) e

section_rests : (ended : Bool) (asked : Option (List ℕ)) (connection : List (List ℕ)) (at : ℕ) (text : List ℕ) (c : trailing.ChunkStep)
    → trailing.IsEnd at text (section_cut text) c → stop rest ≡ section_step ended asked connection c → length text < 65536
section_rests ended asked connection at text c x e = by_cut (section_cut text) refl x
  where
    by_end : (o : Option (List Pair)) (used : ℕ) → stop rest ≡ section_step ended asked connection (trailing.end_of used o) → ⊥
    by_end None used e = no_rest_malformed asked e
    by_end (Some fields) used e = no_rest_end asked used (trailers_left asked connection fields) e

    by_cut : (cut : Cut) → section_cut text ≡ cut → trailing.IsEnd at text cut c → length text < 65536
    by_cut (whole len) is x =
        absurd (by_end x.trailers (at + length (take len text)) (e ∙ ap (section_step ended asked connection) x.is))
    by_cut too_large is x = absurd (no_rest_malformed asked (e ∙ ap (section_step ended asked connection) x))
    by_cut unfinished is x = section_short text is

coded_rests : (ended : Bool) (asked : Option (List ℕ)) (connection : List (List ℕ)) (place : chunks.Place) (text : List ℕ) → IsBefore place
    → (s : chunks.Sought) → chunks.sought place text ≡ s → IsCodedStep ended asked connection text s (stop rest)
    → length (drop (chunks.section_taken s) text) < 65536
coded_rests ended asked connection place text before (chunks.data_at at left) is x =
    absurd (no_rest_item (octet (get_or text at 0)) (at + 1) (body (coded connection (chunks.inside (left - 1)))) x)
coded_rests ended asked connection place text before (chunks.section_at at) is x = section_rests ended asked connection at (drop at text) x.0 x.1 x.2
coded_rests ended asked connection place text before chunks.waiting is x = sought_short place text before is
coded_rests ended asked connection place text before chunks.malformed is x = absurd (no_rest_malformed asked x)

-- ---- readings

abbrev IsLive : Due → Type 0
IsLive head = Unit {0}
IsLive (body (counted n)) = Unit {0}
IsLive (body (coded connection place)) = IsBefore place
IsLive (body unbounded) = Unit {0}
IsLive done = Unit {0}

due_rests : (ended : Bool) (asked : Option (List ℕ)) (due : Due) (text : List ℕ) → IsLive due → StepsTo ended asked due text (stop rest)
    → length (unread_at due text) < 65536
due_rests ended asked head text live x = head_rests ended asked text x
due_rests ended asked (body (counted n)) text live x = counted_rests ended asked n text x
due_rests ended asked (body (coded connection place)) text live x = coded_rests ended asked connection place text live (chunks.sought place text) refl x
due_rests ended asked (body unbounded) text live x = unbounded_rests ended asked text x
due_rests ended asked done text live x = absurd (no (same_stop rest over x))
  where
    no : rest ≡ over → ⊥
    no e = cc

-- what is due after an item is live
next_live : (asked : Option (List ℕ)) → IsLive (due_next asked)
next_live None = tt
next_live (Some asked) = tt

behind_live : (bare : Due) (connection : List (List ℕ)) (l : BodyLength) → IsLive bare → IsLive (due_behind bare connection l)
behind_live bare connection nothing live = live
behind_live bare connection (exactly n) live = tt
behind_live bare connection chunked live = tt
behind_live bare connection until_end live = tt

taken_live : (i j : Item) (n m : ℕ) (d e : Due) → item i n d ≡ item j m e → IsLive e → IsLive d
taken_live i j n m d e same live = subst IsLive (sym (same_item i j n m d e same).2) live

head_live : (ended : Bool) (asked : Option (List ℕ)) (text : List ℕ) (i : Item) (n : ℕ) (d : Due) → StepsTo ended asked head text (item i n d) → IsLive d
head_live ended asked text i n d x = by_step asked x.0 x.2
  where
    by_step : (asked : Option (List ℕ)) (a : HeadStep) → item i n d ≡ step_from ended asked text a → IsLive d
    by_step None (found h m) e =
        taken_live i (request h) n m d (due_behind head h.connection h.length) e (behind_live head h.connection h.length tt)
    by_step (Some asked) (found h m) e = by_kind (is_interim h.fields.kind) e
      where
        by_kind : (b : Bool) → item i n d ≡ cond b (item (interim h) m head) (item (response h) m (due_behind done h.connection h.length)) → IsLive d
        by_kind true e = taken_live i (interim h) n m d head e tt
        by_kind false e =
            taken_live i (response h) n m d (due_behind done h.connection h.length) e (behind_live done h.connection h.length tt)
    by_step asked not_yet e = absurd (item_is_no_stop i n d (stop_at ended asked text) e)
    by_step asked (refused k) e = absurd (item_is_no_stop i n d (refusal k) e)

counted_live : (ended : Bool) (asked : Option (List ℕ)) (k : ℕ) (text : List ℕ) (i : Item) (n : ℕ) (d : Due) → item i n d ≡ counted_step ended asked k text → IsLive d
counted_live ended asked zero text i n d e = taken_live i end n 0 d (due_next asked) e (next_live asked)
counted_live ended asked (suc k) [] i n d e = absurd (item_is_no_stop i n d (stop_short ended asked) e)
counted_live ended asked (suc k) (b ∷ text) i n d e = taken_live i (octet b) n 1 d (body (counted k)) e tt

unbounded_live : (ended : Bool) (asked : Option (List ℕ)) (text : List ℕ) (i : Item) (n : ℕ) (d : Due) → item i n d ≡ unbounded_step ended asked text → IsLive d
unbounded_live false asked [] i n d e = absurd (item_is_no_stop i n d rest e)
unbounded_live true asked [] i n d e = taken_live i end n 0 d (due_next asked) e (next_live asked)
unbounded_live ended asked (b ∷ text) i n d e = taken_live i (octet b) n 1 d (body unbounded) e tt

coded_live : (ended : Bool) (asked : Option (List ℕ)) (connection : List (List ℕ)) (text : List ℕ) (i : Item) (n : ℕ) (d : Due) (s : chunks.Sought)
    → IsCodedStep ended asked connection text s (item i n d) → IsLive d
coded_live ended asked connection text i n d (chunks.data_at at left) x =
    taken_live i (octet (get_or text at 0)) n (at + 1) d (body (coded connection (chunks.inside (left - 1)))) x tt
coded_live ended asked connection text i n d (chunks.section_at at) x = by_step x.0 x.2
  where
    by_end : (used : ℕ) (fields : List Pair) → item i n d ≡ end_step asked used fields → IsLive d
    by_end used [] e = taken_live i end n used d (due_next asked) e (next_live asked)
    by_end used (f ∷ fields) e = taken_live i (trailers (f ∷ fields)) n used d (due_next asked) e (next_live asked)

    by_step : (c : trailing.ChunkStep) → item i n d ≡ section_step ended asked connection c → IsLive d
    by_step (trailing.carried run) e = absurd (item_is_no_stop i n d rest e)
    by_step (trailing.ended fields used) e = by_end used (trailers_left asked connection fields) e
    by_step trailing.not_yet e = absurd (item_is_no_stop i n d (stop_short ended asked) e)
    by_step (trailing.refused number) e = absurd (item_is_no_stop i n d (malformed_status asked) e)
coded_live ended asked connection text i n d chunks.waiting x = absurd (item_is_no_stop i n d (stop_short ended asked) x)
coded_live ended asked connection text i n d chunks.malformed x = absurd (item_is_no_stop i n d (malformed_status asked) x)

item_live : (ended : Bool) (asked : Option (List ℕ)) (due : Due) (text : List ℕ) (i : Item) (n : ℕ) (d : Due) → StepsTo ended asked due text (item i n d) → IsLive d
item_live ended asked head text i n d x = head_live ended asked text i n d x
item_live ended asked (body (counted k)) text i n d x = counted_live ended asked k text i n d x
item_live ended asked (body (coded connection place)) text i n d x = coded_live ended asked connection text i n d (chunks.sought place text) x
item_live ended asked (body unbounded) text i n d x = unbounded_live ended asked text i n d x
item_live ended asked done text i n d x = absurd (item_is_no_stop i n d over x)

carried_live : (ended : Bool) (asked : Option (List ℕ)) (due : Due) (text bytes : List ℕ) (used : ℕ) (mid : Due) → IsLive due
    → Carries ended asked due text bytes used mid → IsLive mid
carried_live ended asked due text [] used mid live c = subst IsLive (sym c.1) live
carried_live ended asked due text (b ∷ bytes) used mid live c =
    carried_live ended asked c.2 (drop c.0 text) bytes c.1 mid (item_live ended asked due text (octet b) c.0 c.2 c.3) c.4

-- a part that a step is by itself, and one that stands in front of a step
alone_live : (ended : Bool) (asked : Option (List ℕ)) (due : Due) (text : List ℕ) (s : Step) (p : Part) (used : ℕ) (next : Due)
    → StepsTo ended asked due text s → by_itself s ≡ Some (part p used next) → IsLive next
alone_live ended asked due text (stop why) p used next x e = absurd (no e)
  where
    no : ◌≡◌ {A = Option Next} (Some (none why)) (Some (part p used next)) → ⊥
    no e = cc
alone_live ended asked due text (item i n d) p used next x e = subst IsLive (same i e) (item_live ended asked due text i n d x)
  where
    same : (i : Item) → by_itself (item i n d) ≡ Some (part p used next) → d ≡ next
    same (request h) e = (same_part (head_part h) p n used d next e).2
    same (interim h) e = (same_part (interim_part h) p n used d next e).2
    same (response h) e = (same_part (head_part h) p n used d next e).2
    same (octet b) e = absurd (cc)
    same end e = (same_part (piece [] true) p n used d next e).2
    same (trailers fields) e = (same_part (trailer_part fields) p n used d next e).2

piece_live : (ended : Bool) (asked : Option (List ℕ)) (mid : Due) (text bytes : List ℕ) (m : ℕ) (s : Step) (p : Part) (used : ℕ) (next : Due)
    → IsLive mid → StepsTo ended asked mid text s → part p used next ≡ piece_before bytes m mid s → IsLive next
piece_live ended asked mid text bytes m s p used next live x e = by_step s x e
  where
    open_piece : part p used next ≡ part (piece bytes false) m mid → IsLive next
    open_piece e = subst IsLive (sym (same_next p (piece bytes false) used m next mid e).2) live

    by_step : (s : Step) → StepsTo ended asked mid text s → part p used next ≡ piece_before bytes m mid s → IsLive next
    by_step (item (request h) n d) x e = open_piece e
    by_step (item (interim h) n d) x e = open_piece e
    by_step (item (response h) n d) x e = open_piece e
    by_step (item (octet b) n d) x e = open_piece e
    by_step (item end n d) x e =
        subst IsLive (sym (same_next p (piece bytes true) used (m + n) next d e).2) (item_live ended asked mid text end n d x)
    by_step (item (trailers fields) n d) x e = open_piece e
    by_step (stop why) x e = open_piece e

part_live : (ended : Bool) (asked : Option (List ℕ)) (due : Due) (text : List ℕ) (p : Part) (used : ℕ) (next : Due) → IsLive due
    → IsNext ended asked due text (part p used next) → IsLive next
part_live ended asked due text p used next live (inl x) = alone_live ended asked due text x.step p used next x.there x.is
part_live ended asked due text p used next live (inr x) =
    piece_live ended asked x.mid (drop x.used text) x.bytes x.used x.behind p used next
    (carried_live ended asked due text x.bytes x.used x.mid live x.carried) x.there x.is

waits_live : (due : Due) (text : List ℕ) → IsLive due → IsLive (due_at due text)
waits_live head text live = tt
waits_live (body (counted n)) text live = tt
waits_live (body (coded connection place)) text live = by_sought (chunks.sought place text)
  where
    by_sought : (s : chunks.Sought) → IsBefore (chunks.place_taken place s)
    by_sought (chunks.data_at at left) = live
    by_sought (chunks.section_at at) = tt
    by_sought chunks.waiting = live
    by_sought chunks.malformed = live
waits_live (body unbounded) text live = tt
waits_live done text live = tt

acts_live : (acts : List Act) (old r : Reading) → IsLive old.due → DoesAll old acts r → IsLive r.due
acts_live [] old r live d = subst (λ (q : Reading). IsLive q.due) (sym d) live
acts_live (feeds bytes ∷ acts) old r live d =
    acts_live acts d.0 r (subst (λ (q : Reading). IsLive q.due) (sym d.1.1) live) d.2
acts_live (ends ∷ acts) old r live d =
    acts_live acts d.0 r (subst (λ (q : Reading). IsLive q.due) (sym d.1) live) d.2
acts_live (hands p ∷ acts) old r live d =
    let next : IsLive d.1.due = part_live old.ended old.asked old.due old.unread p d.1.used d.1.due live d.1.next in
    acts_live acts d.0 r (subst (λ (q : Reading). IsLive q.due) (sym d.1.is) next) d.2
acts_live (halts why ∷ acts) old r live d =
    acts_live acts d.0 r (subst (λ (q : Reading). IsLive q.due) (sym d.1.is) (waits_live old.due old.unread live)) d.2

pub rests_are_short : RestsAreShort
rests_are_short asked acts r s does halted =
    let live : IsLive r.due = acts_live acts (new_reading asked) r tt does in
    let short = due_rests r.ended r.asked r.due r.unread live (none_is_stop r.ended r.asked r.due r.unread rest halted.next) in
    subst (λ (q : Reading). length q.unread < 65536) (sym halted.is) short
