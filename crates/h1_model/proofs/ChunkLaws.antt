-- The laws of the chunked coding.
use Rattle.std.proofs.Common.{◌≡◌, ℕ, zero, suc, ◌+◌, ◌-◌, ◌*◌, ◌<◌, ◌≤◌, Bool, true, false, cond, eqb, ◌&&◌, List, [], ◌∷◌, ◌++◌, map, length, take, drop, get_or, Option, None, Some, refl, sym, ap, subst, ◌∙◌, inl, inr, arith}
use Rattle.std.proofs.lemmas.Bool.{cond-true, cond-false, cases_lt, ne_eqb, eq-eqb, lt-ltb, ltb-true, lt-leb, or_right, le-leb, leb-true, and_from, and_parts, false≢true}
use Rattle.std.proofs.lemmas.List.{length-append, length-drop, length-take, take-append-le, take_all, drop_all, drop-drop, drop-append-le, get_or_append_left}
use Rattle.std.proofs.lemmas.List.Folds.{prefix_len-append, length-prefix_len, list_all-append}
use Rattle.std.proofs.lemmas.List.Sums.{prefix_len-le-length}
use Rattle.std.proofs.Math.Seq.{take-append-add}
use Rattle.std.specs.Prelude.{nat_lt, nat_le, ◌⊎◌}
use Rattle.h1_model.specs.Length.{length_limit}
use Rattle.std.specs.List.{list_all, prefix_len, take_while}
use Rattle.std.specs.Char.{is_ascii_hexdigit, digit_value}
use Rattle.std.specs.Str.Parse.{digits_value_after, digits_value}
use Rattle.httparse.specs.Grammar.{is_ows, skip_ows, Field}
use Rattle.httparse.specs.Spans.{name_and_value}
use Rattle.httparse.proofs.GrammarLemmas.{section_unique}
use Rattle.h1_model.specs.Fields.{Pair}
use Rattle.h1_model.specs.Lines.{Cut, whole, too_large, unfinished, whole_lines, section_of, cut_open, cut_lines}
use Rattle.h1_model.proofs.Growth.{lines_grow, section_of-append, ManyOrNone, section_of-longer, IsDone, section_fits}
use Rattle.h1_model.specs.Chunks.{is_before_end, front_of, number_of_digits, is_no_line_end, are_extensions, size_told, line_ended, told_step, front_step, SizeStep, sized, size_open, no_size, size_step, Place, size_line, inside, section, over, Sought, data_at, section_at, waiting, malformed, sought, behind_size, behind_data, sought_after, Run, no_run, with_byte, if_data, run_of}
use Rattle.h1_model.specs.Trailers.{ChunkStep, carried, not_yet, EndsWith, window_section, IsSection, kept_trailers, end_of, IsEnd, IsBehind, SpellsChunks, section_cut}
use Rattle.h1_model.specs.ChunkLaws.{OneChunkStep, is_last, LastStepStays, SizeStays, SoughtStays, joined, RunsJoin}

-- ---- one step

one_section : (front : List ℕ) (a b : Option (List Pair)) → IsSection front a → IsSection front b → a ≡ b
one_section front None None x y = refl
one_section front None (Some b) x y = absurd (x y.fields y.last y.reads)
one_section front (Some a) None x y = absurd (y x.fields x.last x.reads)
one_section front (Some a) (Some b) x y =
    let same = section_unique front x.fields y.fields x.last y.last [] [] x.reads y.reads in
    ap Some (x.are ∙ ap (λ (fs : List Field). kept_trailers (map name_and_value fs)) same.0 ∙ sym y.are)

pub one_end : (at : ℕ) (text : List ℕ) (cut : Cut) (a b : ChunkStep) → IsEnd at text cut a → IsEnd at text cut b → a ≡ b
one_end at text (whole len) a b x y =
    x.is ∙ ap (end_of (at + length (take len text))) (one_section (take len text) x.trailers y.trailers x.section y.section) ∙ sym y.is
one_end at text too_large a b x y = x ∙ sym y
one_end at text unfinished a b x y = x ∙ sym y

one_behind : (place : Place) (text : List ℕ) (s : Sought) (a b : ChunkStep) → IsBehind place text s a → IsBehind place text s b → a ≡ b
one_behind place text (data_at at left) a b x y = x ∙ sym y
one_behind place text (section_at at) a b x y = one_end at (drop at text) (section_cut (drop at text)) a b x y
one_behind place text waiting a b x y = x ∙ sym y
one_behind place text malformed a b x y = x ∙ sym y

pub one_chunk_step : OneChunkStep
one_chunk_step place text a b x y = one_behind place text (sought place text) a b x y

-- ---- the front that passes a test, under more bytes

prefix_stays : (p : ℕ → Bool) (xs ys : List ℕ) → prefix_len p xs < length xs → prefix_len p (xs ++ ys) ≡ prefix_len p xs
prefix_stays p xs ys short = prefix_len-append p xs ys ∙ cond-false _ _ _ (ne_eqb (prefix_len p xs) (length xs) (λ e. omega (arith, e)))

prefix_goes : (p : ℕ → Bool) (xs ys : List ℕ) → prefix_len p xs ≡ length xs → prefix_len p (xs ++ ys) ≡ length xs + prefix_len p ys
prefix_goes p xs ys all = prefix_len-append p xs ys ∙ cond-true _ _ _ (eq-eqb _ _ all)

-- the test fails at some byte, or at none
prefix_cases : (p : ℕ → Bool) (xs : List ℕ) → (prefix_len p xs < length xs) ⊎ (prefix_len p xs ≡ length xs)
prefix_cases p xs =
    elim (cases_lt (prefix_len p xs) (length xs)) [
      | inl short ↦ inl short
      | inr long ↦ inr (omega (arith, prefix_len-le-length p xs))
    ]

take_stays : (p : ℕ → Bool) (xs ys : List ℕ) → prefix_len p xs < length xs → take_while p (xs ++ ys) ≡ take_while p xs
take_stays p xs ys short =
    ap (λ n. take n (xs ++ ys)) (prefix_stays p xs ys short) ∙ take-append-le (prefix_len p xs) xs ys (omega arith)

take_goes : (p : ℕ → Bool) (xs ys : List ℕ) → prefix_len p xs ≡ length xs → take_while p (xs ++ ys) ≡ xs ++ take_while p ys
take_goes p xs ys all =
    ap (λ n. take n (xs ++ ys)) (prefix_goes p xs ys all) ∙ take-append-add xs ys (prefix_len p ys)

take_whole : (p : ℕ → Bool) (xs : List ℕ) → prefix_len p xs ≡ length xs → take_while p xs ≡ xs
take_whole p xs all = ap (λ n. take n xs) all ∙ take_all (length xs) xs (omega arith)

-- ---- what tells no size, tells none with more bytes after it

value_after-append : (n : ℕ) (xs ys : List ℕ) → digits_value_after 16 n (xs ++ ys) ≡ digits_value_after 16 (digits_value_after 16 n xs) ys
value_after-append n [] ys = refl
value_after-append n (x ∷ xs) ys = value_after-append (n * 16 + digit_value x) xs ys

value_after-grows : (n : ℕ) (ds : List ℕ) → n ≤ digits_value_after 16 n ds
value_after-grows n [] = omega arith
value_after-grows n (d ∷ ds) = omega (arith, value_after-grows (n * 16 + digit_value d) ds)

no_some : (n : ℕ) → ◌≡◌ {A = Option ℕ} (Some n) None → ⊥
no_some n e = cc

abbrev is_size : List ℕ → Bool
is_size ds = (nat_lt 0 (length ds) && nat_le (length ds) 16) && nat_le (digits_value 16 ds) length_limit

digits_none : (f g : List ℕ) → 0 < length f → number_of_digits f ≡ None → number_of_digits (f ++ g) ≡ None
digits_none f g some none = by_test (is_size (f ++ g)) refl
  where
    by_test : (b : Bool) → is_size (f ++ g) ≡ b → number_of_digits (f ++ g) ≡ None
    by_test false is = cond-false _ _ _ is
    by_test true is =
        let parts = and_parts _ _ is in
        let len = leb-true (length (f ++ g)) 16 (and_parts _ _ parts.0).1 in
        let value = leb-true (digits_value 16 (f ++ g)) length_limit parts.1 in
        let less : digits_value 16 f ≤ digits_value 16 (f ++ g) =
        omega (arith, value_after-append 0 f g, value_after-grows (digits_value_after 16 0 f) g) in
        let one : is_size f ≡ true =
        and_from _ _ (and_from _ _ (lt-ltb 0 (length f) some) (le-leb (length f) 16 (omega (arith, length-append f g))))
        (le-leb (digits_value 16 f) length_limit (omega arith)) in
        absurd (no_some (digits_value 16 f) (sym (cond-true (is_size f) (Some (digits_value 16 f)) None one) ∙ none))

and_false : (a b c : Bool) → (a && b) ≡ false → (a && (b && c)) ≡ false
and_false true true c e = absurd (false≢true (sym e))
and_false true false c e = refl
and_false false b c e = refl

extensions_false : (t g : List ℕ) → are_extensions (skip_ows t) ≡ false → are_extensions (skip_ows (t ++ g)) ≡ false
extensions_false [] g e = absurd (false≢true (sym e))
extensions_false (b ∷ bs) g e = by_blank (extensions_false bs g) (is_ows b) refl e
  where
    by_blank : (are_extensions (skip_ows bs) ≡ false → are_extensions (skip_ows (bs ++ g)) ≡ false) → (x : Bool) → is_ows b ≡ x → are_extensions (skip_ows (b ∷ bs)) ≡ false → are_extensions (skip_ows (b ∷ (bs ++ g))) ≡ false
    by_blank later true blank e =
        ap are_extensions (cond-true (is_ows b) (skip_ows (bs ++ g)) (b ∷ (bs ++ g)) blank)
        ∙ later (sym (ap are_extensions (cond-true (is_ows b) (skip_ows bs) (b ∷ bs) blank)) ∙ e)
    by_blank later false other e =
        ap are_extensions (cond-false (is_ows b) (skip_ows (bs ++ g)) (b ∷ (bs ++ g)) other)
        ∙ ap (λ x. eqb b 59 && x) (list_all-append is_no_line_end bs g)
        ∙ and_false (eqb b 59) (list_all is_no_line_end bs) (list_all is_no_line_end g)
        (sym (ap are_extensions (cond-false (is_ows b) (skip_ows bs) (b ∷ bs) other)) ∙ e)

-- the size that digits and what stands after them tell
abbrev told_of : List ℕ → List ℕ → Option ℕ
told_of digits tail = cond (are_extensions (skip_ows tail)) (number_of_digits digits) None

told_none : (b : Bool) (n : Option ℕ) → n ≡ None → cond b n None ≡ None
told_none true n e = e
told_none false n e = refl

tail_none : (digits t g : List ℕ) → told_of digits t ≡ None → told_of digits (t ++ g) ≡ None
tail_none digits t g none = by_test (are_extensions (skip_ows t)) refl
  where
    by_test : (b : Bool) → are_extensions (skip_ows t) ≡ b → told_of digits (t ++ g) ≡ None
    by_test true is =
        told_none (are_extensions (skip_ows (t ++ g))) (number_of_digits digits)
        (sym (cond-true (are_extensions (skip_ows t)) (number_of_digits digits) None is) ∙ none)
    by_test false is = cond-false _ _ _ (extensions_false t g is)

size_told-none : (f g : List ℕ) → 0 < length f → size_told f ≡ None → size_told (f ++ g) ≡ None
size_told-none f g some none =
    elim (prefix_cases is_ascii_hexdigit f) [
      | inl short ↦
          let digits = take_while is_ascii_hexdigit f in
          let same = take_stays is_ascii_hexdigit f g short in
          let len = length-prefix_len is_ascii_hexdigit f in
          ap (λ (ds : List ℕ). told_of ds (drop (length ds) (f ++ g))) same
          ∙ ap (told_of digits) (drop-append-le (length digits) f g (omega arith))
          ∙ tail_none digits (drop (length digits) f) g none
      | inr all ↦
          let whole = take_whole is_ascii_hexdigit f all in
          let none_left : drop (length f) f ≡ [] = drop_all (length f) f (omega arith) in
          let number : number_of_digits f ≡ None =
          sym (ap (λ (ds : List ℕ). told_of ds (drop (length ds) f)) whole ∙ ap (told_of f) none_left) ∙ none in
          told_none _ _ (ap number_of_digits (take_goes is_ascii_hexdigit f g all)
          ∙ digits_none f (take_while is_ascii_hexdigit g) some number)
    ]

-- ---- size lines under more bytes

ended_grows : (size len : ℕ) (behind more : List ℕ) → (line_ended size len behind ≡ size_open → ⊥)
    → line_ended size len (behind ++ more) ≡ line_ended size len behind
ended_grows size len [] more closed = absurd (closed refl)
ended_grows size len (cr ∷ []) more closed = absurd (closed refl)
ended_grows size len (cr ∷ b ∷ bytes) more closed = refl

told_grows : (told : Option ℕ) (len : ℕ) (behind more : List ℕ) → (told_step told len behind ≡ size_open → ⊥)
    → told_step told len (behind ++ more) ≡ told_step told len behind
told_grows None len behind more closed = refl
told_grows (Some size) len behind more closed = ended_grows size len behind more closed

front_grows : (f behind more : List ℕ) → (front_step f behind ≡ size_open → ⊥) → front_step f (behind ++ more) ≡ front_step f behind
front_grows f behind more closed = by_test (nat_lt 4096 (length f + 2)) refl
  where
    by_test : (b : Bool) → nat_lt 4096 (length f + 2) ≡ b → front_step f (behind ++ more) ≡ front_step f behind
    by_test true long = cond-true _ _ _ long ∙ sym (cond-true (nat_lt 4096 (length f + 2)) no_size (told_step (size_told f) (length f) behind) long)
    by_test false fits =
        let here = cond-false (nat_lt 4096 (length f + 2)) no_size (told_step (size_told f) (length f) behind) fits in
        cond-false _ _ _ fits ∙ told_grows (size_told f) (length f) behind more (λ e. closed (here ∙ e)) ∙ sym here

-- a text without CR
front_open : (f g behind : List ℕ) → 0 < length f → (front_step f [] ≡ size_open → ⊥) → front_step (f ++ g) behind ≡ front_step f []
front_open f g behind some closed = by_test (nat_lt 4096 (length f + 2)) refl
  where
    by_told : (o : Option ℕ) → size_told f ≡ o → nat_lt 4096 (length f + 2) ≡ false → front_step (f ++ g) behind ≡ no_size
    by_told None none fits =
        ap (λ (o : Option ℕ). cond (nat_lt 4096 (length (f ++ g) + 2)) no_size (told_step o (length (f ++ g)) behind)) (size_told-none f g some none)
        ∙ both (nat_lt 4096 (length (f ++ g) + 2))
      where
        both : (b : Bool) → cond b no_size no_size ≡ no_size
        both true = refl
        both false = refl
    by_told (Some n) is fits =
        absurd (closed (cond-false (nat_lt 4096 (length f + 2)) no_size (told_step (size_told f) (length f) []) fits
        ∙ ap (λ o. told_step o (length f) []) is))

    by_test : (b : Bool) → nat_lt 4096 (length f + 2) ≡ b → front_step (f ++ g) behind ≡ front_step f []
    by_test true long =
        cond-true _ _ _ (lt-ltb 4096 (length (f ++ g) + 2) (omega (arith, ltb-true 4096 (length f + 2) long, length-append f g)))
        ∙ sym (cond-true (nat_lt 4096 (length f + 2)) no_size (told_step (size_told f) (length f) []) long)
    by_test false fits = by_told (size_told f) refl fits ∙ sym (closed_is (size_told f) refl fits)
      where
        closed_is : (o : Option ℕ) → size_told f ≡ o → nat_lt 4096 (length f + 2) ≡ false → front_step f [] ≡ no_size
        closed_is None none fits =
            cond-false (nat_lt 4096 (length f + 2)) no_size (told_step (size_told f) (length f) []) fits
            ∙ ap (λ o. told_step o (length f) []) none
        closed_is (Some n) is fits =
            absurd (closed (cond-false (nat_lt 4096 (length f + 2)) no_size (told_step (size_told f) (length f) []) fits
            ∙ ap (λ o. told_step o (length f) []) is))

-- a text that is not empty is its front and what stands after it
step_some : (text : List ℕ) → 0 < length text → size_step text ≡ front_step (front_of text) (drop (length (front_of text)) text)
step_some text some = cond-false _ _ _ (ne_eqb (length text) 0 (λ e. omega arith))

pub size_stays : SizeStays
size_stays [] more s is closed = absurd (closed (sym is))
size_stays (x ∷ xs) more s is closed =
    let text = x ∷ xs in
    let some : 0 < length text = omega arith in
    let here = step_some text some in
    let longer = step_some (text ++ more) (omega arith) in
    let open_not : front_step (front_of text) (drop (length (front_of text)) text) ≡ size_open → ⊥ =
    λ e. closed (sym is ∙ here ∙ e) in
    elim (prefix_cases is_before_end text) [
      | inl short ↦
          let same = take_stays is_before_end text more short in
          let f = front_of text in
          let len = length-prefix_len is_before_end text in
          longer
          ∙ ap (λ (t : List ℕ). front_step t (drop (length t) (text ++ more))) same
          ∙ ap (front_step f) (drop-append-le (length f) text more (omega arith))
          ∙ front_grows f (drop (length f) text) more open_not ∙ sym here ∙ is
      | inr all ↦
          let whole = take_whole is_before_end text all in
          let none_left : drop (length text) text ≡ [] = drop_all (length text) text (omega arith) in
          let flat : front_step (front_of text) (drop (length (front_of text)) text) ≡ front_step text [] =
          ap (λ (t : List ℕ). front_step t (drop (length t) text)) whole ∙ ap (front_step text) none_left in
          longer
          ∙ ap (λ (t : List ℕ). front_step t (drop (length t) (text ++ more))) (take_goes is_before_end text more all)
          ∙ front_open text (front_of more) (drop (length (text ++ front_of more)) (text ++ more)) some (λ e. open_not (flat ∙ e))
          ∙ sym flat ∙ sym here ∙ is
    ]

-- ---- what is sought, under more bytes

behind_stays : (text more : List ℕ) (s : SizeStep) (t : Sought) → size_step text ≡ s → behind_size text s ≡ t → (t ≡ waiting → ⊥)
    → behind_size (text ++ more) (size_step (text ++ more)) ≡ t
behind_stays text more size_open t is e closed = absurd (closed (sym e))
behind_stays text more no_size t is e closed = ap (behind_size (text ++ more)) (size_stays text more no_size is no_open) ∙ e
  where
    no_open : no_size ≡ size_open → ⊥
    no_open x = cc
behind_stays text more (sized size used) t is e closed =
    ap (behind_size (text ++ more)) (size_stays text more (sized size used) is no_open) ∙ by_last (eqb size 0) refl
  where
    no_open : sized size used ≡ size_open → ⊥
    no_open x = cc

    by_room : (b : Bool) → nat_lt used (length text) ≡ b → eqb size 0 ≡ false → behind_size (text ++ more) (sized size used) ≡ t
    by_room true there other =
        cond-false _ _ _ other
        ∙ cond-true _ _ _ (lt-ltb used (length (text ++ more)) (omega (arith, ltb-true used (length text) there, length-append text more)))
        ∙ sym (cond-false (eqb size 0) (section_at used) (cond (nat_lt used (length text)) (data_at used size) waiting) other
        ∙ cond-true (nat_lt used (length text)) (data_at used size) waiting there) ∙ e
    by_room false there other =
        absurd (closed (sym e ∙ cond-false (eqb size 0) (section_at used) (cond (nat_lt used (length text)) (data_at used size) waiting) other
        ∙ cond-false (nat_lt used (length text)) (data_at used size) waiting there))

    by_last : (b : Bool) → eqb size 0 ≡ b → behind_size (text ++ more) (sized size used) ≡ t
    by_last true last =
        cond-true _ _ _ last
        ∙ sym (cond-true (eqb size 0) (section_at used) (cond (nat_lt used (length text)) (data_at used size) waiting) last) ∙ e
    by_last false other = by_room (nat_lt used (length text)) refl other

moved_closed : (s t : Sought) → sought_after 2 s ≡ t → (t ≡ waiting → ⊥) → s ≡ waiting → ⊥
moved_closed s t e closed is = closed (sym e ∙ ap (sought_after 2) is)

cr_alone : (b : Bool) (t : Sought) → cond b waiting malformed ≡ t → (t ≡ waiting → ⊥) → (b ≡ false) × (malformed ≡ t)
cr_alone true t e closed = absurd (closed (sym e))
cr_alone false t e closed = (refl, e)

data_stays : (text more : List ℕ) (t : Sought) → behind_data text ≡ t → (t ≡ waiting → ⊥) → behind_data (text ++ more) ≡ t
data_stays [] more t e closed = absurd (closed (sym e))
data_stays (cr ∷ []) [] t e closed = e
data_stays (cr ∷ []) (m ∷ more) t e closed =
    let alone = cr_alone (eqb cr 13) t e closed in
    ap (λ b. cond (b && eqb m 10) (sought_after 2 (behind_size more (size_step more))) malformed) alone.0 ∙ alone.1
data_stays (cr ∷ lf ∷ text) more t e closed = by_test (eqb cr 13 && eqb lf 10) e
  where
    by_test : (b : Bool) → cond b (sought_after 2 (behind_size text (size_step text))) malformed ≡ t
        → cond b (sought_after 2 (behind_size (text ++ more) (size_step (text ++ more)))) malformed ≡ t
    by_test true e =
        ap (sought_after 2) (behind_stays text more (size_step text) (behind_size text (size_step text)) refl refl (moved_closed _ t e closed)) ∙ e
    by_test false e = e

pub sought_stays : SoughtStays
sought_stays size_line text more s e closed = behind_stays text more (size_step text) s refl e closed
sought_stays section text more s e closed = e
sought_stays over text more s e closed = absurd (closed (sym e))
sought_stays (inside left) text more s e closed = by_left (eqb left 0) e
  where
    by_text : (b : Bool) → nat_lt 0 (length text) ≡ b → cond b (data_at 0 left) waiting ≡ s
        → cond (nat_lt 0 (length (text ++ more))) (data_at 0 left) waiting ≡ s
    by_text true there e =
        cond-true _ _ _ (lt-ltb 0 (length (text ++ more)) (omega (arith, ltb-true 0 (length text) there, length-append text more))) ∙ e
    by_text false there e = absurd (closed (sym e))

    by_left : (b : Bool) → cond b (behind_data text) (cond (nat_lt 0 (length text)) (data_at 0 left) waiting) ≡ s
        → cond b (behind_data (text ++ more)) (cond (nat_lt 0 (length (text ++ more))) (data_at 0 left) waiting) ≡ s
    by_left true e = data_stays text more s e closed
    by_left false e = by_text (nat_lt 0 (length text)) refl e

-- ---- runs under more bytes

size_fits : (text : List ℕ) (s : SizeStep) (at left : ℕ) → behind_size text s ≡ data_at at left → at < length text
size_fits text size_open at left e = absurd (no_waiting e)
  where
    no_waiting : waiting ≡ data_at at left → ⊥
    no_waiting x = cc
size_fits text no_size at left e = absurd (no_fault e)
  where
    no_fault : malformed ≡ data_at at left → ⊥
    no_fault x = cc
size_fits text (sized size used) at left e = by_last (eqb size 0) e
  where
    same_at : data_at used size ≡ data_at at left → used ≡ at
    same_at x = cc

    by_room : (b : Bool) → nat_lt used (length text) ≡ b → cond b (data_at used size) waiting ≡ data_at at left → at < length text
    by_room true there e = omega (arith, same_at e, ltb-true used (length text) there)
    by_room false there e = absurd (cc)

    by_last : (b : Bool) → cond b (section_at used) (cond (nat_lt used (length text)) (data_at used size) waiting) ≡ data_at at left → at < length text
    by_last true e = absurd (cc)
    by_last false e = by_room (nat_lt used (length text)) refl e

moved_fits : (text : List ℕ) (s : Sought) (at left : ℕ) → ((a l : ℕ) → s ≡ data_at a l → a < length text) → sought_after 2 s ≡ data_at at left
    → at < length text + 2
moved_fits text (data_at a l) at left fits e = let same : 2 + a ≡ at = cc in omega (arith, same, fits a l refl)
moved_fits text (section_at a) at left fits e = absurd (cc)
moved_fits text waiting at left fits e = absurd (cc)
moved_fits text malformed at left fits e = absurd (cc)

data_fits : (text : List ℕ) (at left : ℕ) → behind_data text ≡ data_at at left → at < length text
data_fits [] at left e = absurd (cc)
data_fits (cr ∷ []) at left e = by_test (eqb cr 13) e
  where
    by_test : (b : Bool) → cond b waiting malformed ≡ data_at at left → at < length (cr ∷ [])
    by_test true e = absurd (cc)
    by_test false e = absurd (cc)
data_fits (cr ∷ lf ∷ text) at left e = by_test (eqb cr 13 && eqb lf 10) e
  where
    by_test : (b : Bool) → cond b (sought_after 2 (behind_size text (size_step text))) malformed ≡ data_at at left → at < length (cr ∷ lf ∷ text)
    by_test true e =
        omega (arith, moved_fits text (behind_size text (size_step text)) at left (λ a l is. size_fits text (size_step text) a l is) e)
    by_test false e = absurd (cc)

pub sought_fits : (p : Place) (text : List ℕ) (at left : ℕ) → sought p text ≡ data_at at left → at < length text
sought_fits size_line text at left e = size_fits text (size_step text) at left e
sought_fits section text at left e = absurd (cc)
sought_fits over text at left e = absurd (cc)
sought_fits (inside n) text at left e = by_left (eqb n 0) e
  where
    by_text : (b : Bool) → nat_lt 0 (length text) ≡ b → cond b (data_at 0 n) waiting ≡ data_at at left → at < length text
    by_text true there e = let same : 0 ≡ at = cc in omega (arith, same, ltb-true 0 (length text) there)
    by_text false there e = absurd (cc)

    by_left : (b : Bool) → cond b (behind_data text) (cond (nat_lt 0 (length text)) (data_at 0 n) waiting) ≡ data_at at left → at < length text
    by_left true e = data_fits text at left e
    by_left false e = by_text (nat_lt 0 (length text)) refl e

-- the run after what is sought
abbrev pub run_behind : ℕ → Place → List ℕ → Sought → Run
run_behind room p text s =
    if_data s (no_run p) (λ at left. with_byte (get_or text at 0) (at + 1) (run_of room (inside (left - 1)) (drop (at + 1) text)))

pub run_step : (room : ℕ) (p : Place) (text : List ℕ) (s : Sought) → sought p text ≡ s → run_of (suc room) p text ≡ run_behind room p text s
unfolding run_of
run_step room p text s is = ap (run_behind room p text) is

pub run_zero : (p : Place) (text : List ℕ) → run_of 0 p text ≡ no_run p
unfolding run_of
run_zero p text = refl

-- what is carried after a run in a longer text
abbrev rest_of : ℕ → List ℕ → Run → Run
rest_of n text a = joined a (run_of (n - length a.bytes) a.place (drop a.used text))

rest_of_none : (n : ℕ) (p : Place) (text : List ℕ) → run_of n p text ≡ rest_of n text (no_run p)
rest_of_none n p text =
    let r = run_of n p text in
    let all : n - 0 ≡ n = omega arith in
    let sum : 0 + r.used ≡ r.used = omega arith in
    sym (ap (λ k. joined (no_run p) (run_of k p text)) all
    ∙ ap (λ k. record { bytes = r.bytes; used = k; place = r.place }) sum)

rest_of_byte : (n at b : ℕ) (text : List ℕ) (a : Run)
    → with_byte b (at + 1) (rest_of n (drop (at + 1) text) a) ≡ rest_of (suc n) text (with_byte b (at + 1) a)
rest_of_byte n at b text a =
    let less : suc n - suc (length a.bytes) ≡ n - length a.bytes = omega arith in
    let later : drop a.used (drop (at + 1) text) ≡ drop (at + 1 + a.used) text = drop-drop a.used (at + 1) text ∙ ap (λ k. drop k text) (omega arith) in
    let r = run_of (n - length a.bytes) a.place (drop a.used (drop (at + 1) text)) in
    let sum : at + 1 + (a.used + r.used) ≡ at + 1 + a.used + r.used = omega arith in
    ap (λ k. record { bytes = b ∷ (a.bytes ++ r.bytes); used = k; place = r.place }) sum
    ∙ ap (λ (t : List ℕ). joined (with_byte b (at + 1) a) (run_of (n - length a.bytes) a.place t)) later
    ∙ ap (λ k. joined (with_byte b (at + 1) a) (run_of k a.place (drop (at + 1 + a.used) text))) (sym less)

pub runs_join : RunsJoin
runs_join zero p text more =
    run_zero p (text ++ more) ∙ sym (run_zero p (text ++ more)) ∙ rest_of_none 0 p (text ++ more)
    ∙ ap (rest_of 0 (text ++ more)) (sym (run_zero p text))
runs_join (suc n) p text more = by_sought (sought p text) refl (λ q t m. runs_join n q t m)
  where
    other : (s : Sought) → sought p text ≡ s → run_behind n p text s ≡ no_run p
        → run_of (suc n) p (text ++ more) ≡ rest_of (suc n) (text ++ more) (run_of (suc n) p text)
    other s is none =
        rest_of_none (suc n) p (text ++ more) ∙ ap (rest_of (suc n) (text ++ more)) (sym (run_step n p text s is ∙ none))

    by_sought : (s : Sought) → sought p text ≡ s → ((q : Place) (t m : List ℕ) → run_of n q (t ++ m) ≡ rest_of n (t ++ m) (run_of n q t))
        → run_of (suc n) p (text ++ more) ≡ rest_of (suc n) (text ++ more) (run_of (suc n) p text)
    by_sought (section_at at) is later = other (section_at at) is refl
    by_sought waiting is later = other waiting is refl
    by_sought malformed is later = other malformed is refl
    by_sought (data_at at left) is later =
        let fits = sought_fits p text at left is in
        let stays = sought_stays p text more (data_at at left) is no_waiting in
        let b = get_or text at 0 in
        let q = inside (left - 1) in
        let same : drop (at + 1) (text ++ more) ≡ drop (at + 1) text ++ more = drop-append-le (at + 1) text more (omega arith) in
        let a = run_of n q (drop (at + 1) text) in
        run_step n p (text ++ more) (data_at at left) stays
        ∙ ap (λ c. with_byte c (at + 1) (run_of n q (drop (at + 1) (text ++ more)))) (get_or_append_left text more 0 at fits)
        ∙ ap (λ (t : List ℕ). with_byte b (at + 1) (run_of n q t)) same
        ∙ ap (with_byte b (at + 1)) (later q (drop (at + 1) text) more)
        ∙ ap (λ (t : List ℕ). with_byte b (at + 1) (rest_of n t a)) (sym same)
        ∙ rest_of_byte n at b (text ++ more) a
        ∙ ap (rest_of (suc n) (text ++ more)) (sym (run_step n p text (data_at at left) is))
      where
        no_waiting : data_at at left ≡ waiting → ⊥
        no_waiting x = cc

-- ---- sections under more bytes

cut_open-many : (bytes lines : ℕ) → 100 < lines → cut_open bytes lines ≡ too_large
cut_open-many bytes lines many = cond-true _ _ _ (or_right (nat_le 65536 bytes) (nat_lt 100 lines) (lt-ltb 100 lines many))

cut_open-done : (bytes lines : ℕ) → bytes < 65536 → IsDone (cut_open bytes lines) → 100 < lines
cut_open-done bytes lines short done = by_test (nat_lt 100 lines) refl
  where
    by_test : (t : Bool) → nat_lt 100 lines ≡ t → 100 < lines
    by_test true many = ltb-true 100 lines many
    by_test false few = absurd (done (rw (lt-leb 65536 bytes short, few)))

-- a section that has come or grown too large, in less than 65,536 bytes: more lines change nothing
cut_grows : (n k : ℕ) (lines others : List (List ℕ)) (o : Option (ℕ × ℕ)) → section_of lines ≡ o → n < 65536
    → IsDone (cut_lines n 0 (length lines) o)
    → cut_lines k 0 (length (lines ++ others)) (section_of (lines ++ others)) ≡ cut_lines n 0 (length lines) o
cut_grows n k lines others (Some s) e short done =
    ap (cut_lines k 0 (length (lines ++ others))) (section_of-append lines others s e)
cut_grows n k lines others None e short done =
    let many = cut_open-done n (length lines) short done in
    by_section (section_of (lines ++ others)) refl (section_of-longer lines others e) many ∙ sym (cut_open-many n (length lines) many)
  where
    by_section : (o : Option (ℕ × ℕ)) → section_of (lines ++ others) ≡ o → ManyOrNone (length lines) (section_of (lines ++ others))
        → 100 < length lines → cut_lines k 0 (length (lines ++ others)) (section_of (lines ++ others)) ≡ too_large
    by_section None is longer many =
        ap (cut_lines k 0 (length (lines ++ others))) is
        ∙ cut_open-many k (length (lines ++ others)) (omega (arith, length-append lines others))
    by_section (Some s) is longer many =
        ap (cut_lines k 0 (length (lines ++ others))) is
        ∙ cond-true _ _ _ (lt-ltb 100 s.0 (omega (arith, longer.many s is)))

window_grows : (w more : List ℕ) → length w < 65536 → IsDone (window_section w) → window_section (w ++ more) ≡ window_section w
window_grows w more short done =
    let grown = lines_grow w more in
    ap (λ (ls : List (List ℕ)). cut_lines (length (w ++ more)) 0 (length ls) (section_of ls)) grown.are
    ∙ cut_grows (length w) (length (w ++ more)) (whole_lines w) grown.others (section_of (whole_lines w)) refl short done

cut_stays : (text more : List ℕ) → IsDone (section_cut text) → section_cut (text ++ more) ≡ section_cut text
cut_stays text more done =
    elim (cases_lt (length text) 65536) [
      | inl short ↦
          let all : take 65536 text ≡ text = take_all 65536 text (omega arith) in
          let e : 65536 ≡ length text + (65536 - length text) = omega arith in
          let longer : take 65536 (text ++ more) ≡ text ++ take (65536 - length text) more =
          ap (λ n. take n (text ++ more)) e ∙ take-append-add text more (65536 - length text) in
          let done_here : IsDone (window_section text) = λ u. done (ap window_section all ∙ u) in
          ap window_section longer ∙ window_grows text (take (65536 - length text) more) short done_here ∙ ap window_section (sym all)
      | inr long ↦ ap window_section (take-append-le 65536 text more long)
    ]

-- a whole section lies within its text
pub cut_fits : (text : List ℕ) (len : ℕ) → section_cut text ≡ whole len → len ≤ length text
cut_fits text len cut = by_section (section_of (whole_lines (take 65536 text))) refl cut
  where
    same_len : (n : ℕ) → whole n ≡ whole len → n ≡ len
    same_len n e = cc

    not_large : too_large ≡ whole len → ⊥
    not_large e = cc

    by_few : (s : ℕ × ℕ) (b : Bool) → cond b too_large (whole (0 + s.1)) ≡ whole len → s.1 ≡ len
    by_few s true e = absurd (not_large e)
    by_few s false e = omega (arith, same_len (0 + s.1) e)

    by_open : (b : Bool) → cond b too_large unfinished ≡ whole len → ⊥
    by_open true e = cc
    by_open false e = cc

    by_section : (o : Option (ℕ × ℕ)) → section_of (whole_lines (take 65536 text)) ≡ o
        → cut_lines (length (take 65536 text)) 0 (length (whole_lines (take 65536 text))) o ≡ whole len → len ≤ length text
    by_section None is e = absurd (by_open _ e)
    by_section (Some s) is e =
        omega (arith, by_few s (nat_lt 100 s.0) e, section_fits (whole_lines (take 65536 text)) (take 65536 text) s refl is, length-take 65536 text)

-- ---- where a section begins

ended_fits : (told size used len : ℕ) (behind : List ℕ) → line_ended told len behind ≡ sized size used → used ≤ len + length behind
ended_fits told size used len [] e = absurd (cc)
ended_fits told size used len (cr ∷ []) e = absurd (cc)
ended_fits told size used len (cr ∷ b ∷ bytes) e = by_test (eqb b 10) e
  where
    by_test : (t : Bool) → cond t (sized told (len + 2)) no_size ≡ sized size used → used ≤ len + length (cr ∷ b ∷ bytes)
    by_test true e = let same : len + 2 ≡ used = cc in omega arith
    by_test false e = absurd (cc)

told_fits : (told : Option ℕ) (size used len : ℕ) (behind : List ℕ) → told_step told len behind ≡ sized size used → used ≤ len + length behind
told_fits None size used len behind e = absurd (cc)
told_fits (Some n) size used len behind e = ended_fits n size used len behind e

front_fits : (f behind : List ℕ) (size used : ℕ) → front_step f behind ≡ sized size used → used ≤ length f + length behind
front_fits f behind size used e = by_test (nat_lt 4096 (length f + 2)) e
  where
    by_test : (b : Bool) → cond b no_size (told_step (size_told f) (length f) behind) ≡ sized size used → used ≤ length f + length behind
    by_test true e = absurd (cc)
    by_test false e = told_fits (size_told f) size used (length f) behind e

sized_fits : (text : List ℕ) (size used : ℕ) → size_step text ≡ sized size used → used ≤ length text
sized_fits [] size used e = absurd (cc)
sized_fits (x ∷ xs) size used e =
    let text = x ∷ xs in
    let f = front_of text in
    let fits = front_fits f (drop (length f) text) size used (sym (step_some text (omega arith)) ∙ e) in
    omega (arith, fits, length-drop (length f) text, length-prefix_len is_before_end text, prefix_len-le-length is_before_end text)

size_section : (text : List ℕ) (s : SizeStep) (at : ℕ) → size_step text ≡ s → behind_size text s ≡ section_at at → at ≤ length text
size_section text size_open at is e = absurd (cc)
size_section text no_size at is e = absurd (cc)
size_section text (sized size used) at is e = by_last (eqb size 0) e
  where
    by_room : (b : Bool) → cond b (data_at used size) waiting ≡ section_at at → ⊥
    by_room true e = cc
    by_room false e = cc

    by_last : (b : Bool) → cond b (section_at used) (cond (nat_lt used (length text)) (data_at used size) waiting) ≡ section_at at → at ≤ length text
    by_last true e = let same : used ≡ at = cc in omega (arith, same, sized_fits text size used is)
    by_last false e = absurd (by_room (nat_lt used (length text)) e)

moved_section : (text : List ℕ) (s : Sought) (at : ℕ) → ((a : ℕ) → s ≡ section_at a → a ≤ length text) → sought_after 2 s ≡ section_at at
    → at ≤ length text + 2
moved_section text (section_at a) at fits e = let same : 2 + a ≡ at = cc in omega (arith, same, fits a refl)
moved_section text (data_at a l) at fits e = absurd (cc)
moved_section text waiting at fits e = absurd (cc)
moved_section text malformed at fits e = absurd (cc)

data_section : (text : List ℕ) (at : ℕ) → behind_data text ≡ section_at at → at ≤ length text
data_section [] at e = absurd (cc)
data_section (cr ∷ []) at e = by_test (eqb cr 13) e
  where
    by_test : (b : Bool) → cond b waiting malformed ≡ section_at at → at ≤ length (cr ∷ [])
    by_test true e = absurd (cc)
    by_test false e = absurd (cc)
data_section (cr ∷ lf ∷ text) at e = by_test (eqb cr 13 && eqb lf 10) e
  where
    by_test : (b : Bool) → cond b (sought_after 2 (behind_size text (size_step text))) malformed ≡ section_at at → at ≤ length (cr ∷ lf ∷ text)
    by_test true e =
        omega (arith, moved_section text (behind_size text (size_step text)) at (λ a is. size_section text (size_step text) a refl is) e)
    by_test false e = absurd (cc)

pub section_within : (p : Place) (text : List ℕ) (at : ℕ) → sought p text ≡ section_at at → at ≤ length text
section_within size_line text at e = size_section text (size_step text) at refl e
section_within section text at e = let same : 0 ≡ at = cc in omega (arith, same)
section_within over text at e = absurd (cc)
section_within (inside n) text at e = by_left (eqb n 0) e
  where
    by_text : (b : Bool) → cond b (data_at 0 n) waiting ≡ section_at at → ⊥
    by_text true e = cc
    by_text false e = cc

    by_left : (b : Bool) → cond b (behind_data text) (cond (nat_lt 0 (length text)) (data_at 0 n) waiting) ≡ section_at at → at ≤ length text
    by_left true e = data_section text at e
    by_left false e = absurd (by_text (nat_lt 0 (length text)) e)

-- ---- ends and refusals

not_last : (s step : ChunkStep) → step ≡ s → is_last s ≡ false → is_last step ≡ true → ⊥
not_last s step is other last = false≢true (sym other ∙ sym (ap is_last is) ∙ last)

pub end_stays : (at : ℕ) (t more : List ℕ) (cut : Cut) (step : ChunkStep) → section_cut t ≡ cut → IsEnd at t cut step → is_last step ≡ true
    → IsEnd at (t ++ more) (section_cut (t ++ more)) step
end_stays at t more (whole len) step is end last =
    let stays : section_cut (t ++ more) ≡ whole len = cut_stays t more (λ e. not_open (sym is ∙ e)) ∙ is in
    let front : take len (t ++ more) ≡ take len t = take-append-le len t more (cut_fits t len is) in
    subst (λ (c : Cut). IsEnd at (t ++ more) c step) (sym stays) (subst (λ (f : List ℕ). EndsWith at f step) (sym front) end)
  where
    not_open : whole len ≡ unfinished → ⊥
    not_open e = cc
end_stays at t more too_large step is end last =
    let stays : section_cut (t ++ more) ≡ too_large = cut_stays t more (λ e. not_open (sym is ∙ e)) ∙ is in
    subst (λ (c : Cut). IsEnd at (t ++ more) c step) (sym stays) end
  where
    not_open : too_large ≡ unfinished → ⊥
    not_open e = cc
end_stays at t more unfinished step is end last = absurd (not_last not_yet step end refl last)

behind_last : (p : Place) (text more : List ℕ) (s : Sought) (step : ChunkStep) → sought p text ≡ s → IsBehind p text s step
    → is_last step ≡ true → SpellsChunks p (text ++ more) step
behind_last p text more (data_at at left) step is spelled last = absurd (not_last (carried (run_of 16384 p text)) step spelled refl last)
behind_last p text more waiting step is spelled last = absurd (not_last not_yet step spelled refl last)
behind_last p text more malformed step is spelled last =
    subst (λ (s : Sought). IsBehind p (text ++ more) s step) (sym (sought_stays p text more malformed is no_waiting)) spelled
  where
    no_waiting : malformed ≡ waiting → ⊥
    no_waiting e = cc
behind_last p text more (section_at at) step is spelled last =
    let same : drop at (text ++ more) ≡ drop at text ++ more = drop-append-le at text more (section_within p text at is) in
    let end = end_stays at (drop at text) more (section_cut (drop at text)) step refl spelled last in
    subst (λ (s : Sought). IsBehind p (text ++ more) s step) (sym (sought_stays p text more (section_at at) is no_waiting))
    (subst (λ (t : List ℕ). IsEnd at t (section_cut t) step) (sym same) end)
  where
    no_waiting : section_at at ≡ waiting → ⊥
    no_waiting e = cc

pub last_step_stays : LastStepStays
last_step_stays p text more step spelled last = behind_last p text more (sought p text) step refl spelled last
