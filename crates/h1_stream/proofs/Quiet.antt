-- A piece without LF finishes no head and no trailer section.
use Rattle.std.proofs.Common.{◌≡◌, ℕ, ◌+◌, ◌<◌, ◌≤◌, Bool, true, false, List, [], ◌∷◌, ◌++◌, length, take, drop, Option, None, Some, refl, sym, ap, ◌∙◌, subst, arith, length-append, inl}
use Rattle.std.specs.Prelude.{not, is_some, MatchOption, if◌then◌else◌, ◌||◌, ◌==◌, nat_le, nat_lt, bytes_eq, codes}
use Rattle.std.specs.List.{list_all}
use Rattle.std.proofs.lemmas.List.{take_all, append_assoc, append-nil}
use Rattle.std.proofs.lemmas.List.Folds.{list_all-append}
use Rattle.std.proofs.lemmas.Bool.{lt-leb, and_from}
use Rattle.h1_model.specs.Lines.{with_first, whole_lines, empty_len, empty_line_bytes, after_empty_lines, section_of, Cut, too_large, unfinished, cut_open, cut_lines, cut_of, window_cut, head_cut, head_limit, line_limit}
use Rattle.h1_model.specs.Head.{not_yet, IsStepAt, IsAnswer, IsResponseAnswer}
use Rattle.h1_model.specs.Chunks.{Place, section, Sought, sought, waiting, place_taken, section_taken}
use Rattle.h1_model.specs.Messages.{counted, coded, unbounded, Due, head, body, done, rest, IsCodedStep, SpellsHead, stop, stop_at}
use Rattle.h1_model.specs.Trailers as trailing
use Rattle.h1_model.specs.Trailers.{window_section, section_cut, IsEnd}
use Rattle.h1_model.specs.Unread.{Reading, none, IsNext, Halts, due_at, unread_at}
use Rattle.h1_chunks.specs.Waits.{extends, IsWithinSize}
use Rattle.h1_stream.specs.declared.reader.Quiet.{Quiet}
use Rattle.h1_stream.specs.declared.reader.Quiet.TheVariants as quiets
use Rattle.h1_stream.specs.Quiet.{IsOpen, IsSizeOpen, IsQuiet, is_quiet}

lines_behind : (t p : List ℕ) → whole_lines p ≡ [] → whole_lines (t ++ p) ≡ whole_lines t
lines_behind [] p h = h
lines_behind (b ∷ t) p h = ap (λ (after : List (List ℕ)). if b == 10 then (b ∷ []) ∷ after else with_first b after) (lines_behind t p h)

pick : (a b c : Bool) → c ≡ false → (if a || b then too_large else unfinished) ≡ unfinished → (if c || b then too_large else unfinished) ≡ unfinished
pick true b c e h = absurd (let bad : too_large ≡ unfinished = h in cc)
pick false true c e h = absurd (let bad : too_large ≡ unfinished = h in cc)
pick false false true e h = absurd (let bad : true ≡ false = e in cc)
pick false false false e h = refl

open_more : (n m lines : ℕ) → m < 65536 → cut_open n lines ≡ unfinished → cut_open m lines ≡ unfinished
open_more n m lines lt h = pick (nat_le head_limit n) (nat_lt line_limit lines) (nat_le head_limit m) (lt-leb 65536 m lt) h

lines_more : (n m first lines : ℕ) (o : Option (ℕ × ℕ)) → m < 65536 → cut_lines n first lines o ≡ unfinished → cut_lines m first lines o ≡ unfinished
lines_more n m first lines None lt h = open_more n m lines lt h
lines_more n m first lines (Some s) lt h = h

cut_more : (n m : ℕ) (ls : List (List ℕ)) → m < 65536 → cut_of n ls ≡ unfinished → cut_of m ls ≡ unfinished
cut_more n m [] lt h = open_more n m 0 lt h
cut_more n m (first ∷ after) lt h = lines_more n m (length first) (length after) (section_of after) lt h

small_cut : (x : List ℕ) → length x < 65536 → head_cut x ≡ cut_of (length x) (whole_lines x)
small_cut x lt = ap window_cut (take_all 65536 x (omega (arith, lt)))

-- where a section ends whose lines these are, in a text of so many bytes
abbrev section_by : ℕ → List (List ℕ) → Cut
section_by n ls = cut_lines n 0 (length ls) (section_of ls)

small_section : (x : List ℕ) → length x < 65536 → section_cut x ≡ section_by (length x) (whole_lines x)
small_section x lt = ap window_section (take_all 65536 x (omega (arith, lt)))

short_front : (t p : List ℕ) → length t + length p < 65536 → length (t ++ p) < 65536
short_front t p lt = let all : length (t ++ p) ≡ length t + length p = length-append t p in omega (arith, all, lt)

head_stays : (t p : List ℕ) → whole_lines p ≡ [] → length t + length p < 65536 → IsOpen head t → IsOpen head (t ++ p)
head_stays t p none_there lt (s, h) =
    let lt' = short_front t p lt in
    let same : whole_lines (t ++ p) ≡ whole_lines t = lines_behind t p none_there in (
      ap empty_len same ∙ s,
      small_cut (t ++ p) lt' ∙ ap (cut_of (length (t ++ p))) same
          ∙ cut_more (length t) (length (t ++ p)) (whole_lines t) lt' (sym (small_cut t (omega (arith, lt))) ∙ h),
    )

section_stays : (t p : List ℕ) → whole_lines p ≡ [] → length t + length p < 65536 → section_cut t ≡ unfinished → section_cut (t ++ p) ≡ unfinished
section_stays t p none_there lt h =
    let lt' = short_front t p lt in
    let same : whole_lines (t ++ p) ≡ whole_lines t = lines_behind t p none_there in
    small_section (t ++ p) lt' ∙ ap (section_by (length (t ++ p))) same
    ∙ lines_more (length t) (length (t ++ p)) 0 (length (whole_lines t)) (section_of (whole_lines t)) lt'
    (sym (small_section t (omega (arith, lt))) ∙ h)

open_stays : (due : Due) (t p : List ℕ) → whole_lines p ≡ [] → length t + length p < 65536 → IsOpen due t → IsOpen due (t ++ p)
open_stays head t p none_there lt h = head_stays t p none_there lt h
open_stays (body (counted n)) t p none_there lt h = h
open_stays (body (coded connection place)) t p none_there lt (is, h) = (is, section_stays t p none_there lt h)
open_stays (body unbounded) t p none_there lt h = h
open_stays done t p none_there lt h = h

-- more of a size line's extensions
size_stays : (due : Due) (t p : List ℕ) → list_all extends p ≡ true → length t + length p ≤ 4094 → IsSizeOpen due t → IsSizeOpen due (t ++ p)
size_stays head t p all lt h = h
size_stays (body (counted n)) t p all lt h = h
size_stays (body (coded connection place)) t p all lt (h, small) =
    let len : length (t ++ p) ≡ length t + length p = length-append t p in (
      λ more more_all room.
          let both : list_all extends (p ++ more) ≡ true = list_all-append extends p more ∙ and_from (list_all extends p) (list_all extends more) all more_all in
          let more_len : length (p ++ more) ≡ length p + length more = length-append p more in
          ap (sought place) (append_assoc t p more) ∙ h (p ++ more) both (omega (arith, room, len, more_len)),
      omega (arith, len, lt),
    )
size_stays (body unbounded) t p all lt h = h
size_stays done t p all lt h = h

pub stays_lines : (ended : Bool) (due : Due) (t p : List ℕ) → (whole_lines p ≡ []) × (length t + length p < 65536) → IsQuiet quiets.Lines ended due t
    → IsQuiet quiets.Lines ended due (t ++ p)
stays_lines ended due t p (none_there, lt) (e, h) = (e, open_stays due t p none_there lt h)

pub stays_size : (ended : Bool) (due : Due) (t p : List ℕ) → (list_all extends p ≡ true) × (length t + length p ≤ 4094) → IsQuiet quiets.Size ended due t
    → IsQuiet quiets.Size ended due (t ++ p)
stays_size ended due t p (all, lt) (e, h) = (e, size_stays due t p all lt h)

spelled : (asked : Option (List ℕ)) (t : List ℕ) → empty_line_bytes t ≡ 0 → head_cut t ≡ unfinished → SpellsHead asked t not_yet
spelled None t s h =
    let cut : head_cut (after_empty_lines t) ≡ unfinished = ap (λ (n : ℕ). head_cut (drop n t)) s ∙ h in
    subst (λ (c : Cut). IsStepAt IsAnswer 431 (empty_line_bytes t) (after_empty_lines t) c not_yet) (sym cut) refl
spelled (Some a) t s h =
    let cut : head_cut (after_empty_lines t) ≡ unfinished = ap (λ (n : ℕ). head_cut (drop n t)) s ∙ h in
    subst (λ (c : Cut). IsStepAt (IsResponseAnswer (bytes_eq a (codes "HEAD"))) 502 (empty_line_bytes t) (after_empty_lines t) c not_yet) (sym cut) refl

still : (asked : Option (List ℕ)) (t : List ℕ) → rest ≡ stop_at false asked t
still None t = refl
still (Some a) t = refl

-- where a head is due
head_none : (asked : Option (List ℕ)) (t : List ℕ) → IsOpen head t → IsNext false asked head t (none rest)
head_none asked t (s, h) = inl (record { step = stop rest; there = (not_yet, spelled asked t s h, ap stop (still asked t)); is = refl })

-- and where a trailer section is
section_none : (asked : Option (List ℕ)) (connection : List (List ℕ)) (t : List ℕ) → section_cut t ≡ unfinished
    → IsNext false asked (body (coded connection section)) t (none rest)
section_none asked connection t h =
    let ends : IsEnd 0 t (section_cut t) trailing.not_yet = subst (λ (c : Cut). IsEnd 0 t c trailing.not_yet) (sym h) refl in
    inl (record { step = stop rest; there = (trailing.not_yet, ends, refl); is = refl })

open_none : (asked : Option (List ℕ)) (due : Due) (t : List ℕ) → IsOpen due t → IsNext false asked due t (none rest)
open_none asked head t h = head_none asked t h
open_none asked (body (counted n)) t h = absurd h
open_none asked (body (coded connection place)) t (is, h) =
    subst (λ (p : Place). IsNext false asked (body (coded connection p)) t (none rest)) (sym is) (section_none asked connection t h)
open_none asked (body unbounded) t h = absurd h
open_none asked done t h = absurd h

-- and nothing is dropped
due_kept : (due : Due) (t : List ℕ) → IsOpen due t → due ≡ due_at due t
due_kept head t h = refl
due_kept (body (counted n)) t h = refl
due_kept (body (coded connection place)) t (is, h) =
    subst (λ (p : Place). body (coded connection p) ≡ due_at (body (coded connection p)) t) (sym is) refl
due_kept (body unbounded) t h = refl
due_kept done t h = refl

unread_kept : (due : Due) (t : List ℕ) → IsOpen due t → t ≡ unread_at due t
unread_kept head t (s, h) = sym (ap (λ (n : ℕ). drop n t) s)
unread_kept (body (counted n)) t h = refl
unread_kept (body (coded connection place)) t (is, h) =
    subst (λ (p : Place). t ≡ unread_at (body (coded connection p)) t) (sym is) refl
unread_kept (body unbounded) t h = refl
unread_kept done t h = refl

-- nothing is next within a size line
size_waits : (place : Place) (t : List ℕ) → IsWithinSize place t → length t ≤ 4094 → sought place t ≡ waiting
size_waits place t h small = sym (ap (sought place) (append-nil t)) ∙ h [] refl (omega (arith, small))

size_none : (asked : Option (List ℕ)) (due : Due) (t : List ℕ) → IsSizeOpen due t → IsNext false asked due t (none rest)
size_none asked head t h = absurd h
size_none asked (body (counted n)) t h = absurd h
size_none asked (body (coded connection place)) t (h, small) =
    inl (record {
      step = stop rest;
      there = subst (λ (s : Sought). IsCodedStep false asked connection t s (stop rest)) (sym (size_waits place t h small)) refl;
      is = refl;
    })
size_none asked (body unbounded) t h = absurd h
size_none asked done t h = absurd h

size_due : (due : Due) (t : List ℕ) → IsSizeOpen due t → due ≡ due_at due t
size_due head t h = absurd h
size_due (body (counted n)) t h = absurd h
size_due (body (coded connection place)) t (h, small) = sym (ap (λ s. body (coded connection (place_taken place s))) (size_waits place t h small))
size_due (body unbounded) t h = absurd h
size_due done t h = absurd h

size_unread : (due : Due) (t : List ℕ) → IsSizeOpen due t → t ≡ unread_at due t
size_unread head t h = absurd h
size_unread (body (counted n)) t h = absurd h
size_unread (body (coded connection place)) t (h, small) = sym (ap (λ s. drop (section_taken s) t) (size_waits place t h small))
size_unread (body unbounded) t h = absurd h
size_unread done t h = absurd h

halts_from : (r : Reading) → r.ended ≡ false → IsNext false r.asked r.due r.unread (none rest) → r.due ≡ due_at r.due r.unread → r.unread ≡ unread_at r.due r.unread
    → Halts r rest r
halts_from r e next due_is unread_is = record {
  next = subst (λ (b : Bool). IsNext b r.asked r.due r.unread (none rest)) (sym e) next;
  is = (λ j. record r { due = due_is j; unread = unread_is j });
}

-- nothing as yet, and nothing is dropped
pub halts : (r : Reading) (q : Quiet) → is_quiet q ≡ true → IsQuiet q r.ended r.due r.unread → Halts r rest r
halts r quiets.No is h = absurd (let wrong : false ≡ true = is in cc)
halts r quiets.Lines is (e, h) =
    halts_from r e (open_none r.asked r.due r.unread h) (due_kept r.due r.unread h) (unread_kept r.due r.unread h)
halts r quiets.Size is (e, h) =
    halts_from r e (size_none r.asked r.due r.unread h) (size_due r.due r.unread h) (size_unread r.due r.unread h)
