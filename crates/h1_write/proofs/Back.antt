-- What is written of a chunked body is read back.
use Rattle.std.proofs.Common.{◌≡◌, ℕ, zero, suc, ◌+◌, ◌-◌, ◌<◌, ◌≤◌, Bool, true, false, cond, eqb, List, [], ◌∷◌, ◌++◌, length, drop, get_or, Some, refl, sym, ap, subst, ◌∙◌, append_assoc, zero-add, arith}
use Rattle.std.proofs.lemmas.Bool.{cond-true, cond-false, ne_eqb, lt-ltb, leb-true, and_parts}
use Rattle.std.proofs.lemmas.Grind.{flat_map-append}
use Rattle.std.proofs.lemmas.List.{append-nil, drop-drop, length-append, length-drop}
use Rattle.std.proofs.lemmas.List.Elements.{All-nil}
use Rattle.std.proofs.Math.Seq.{drop-append-add, get_or-append_seam}
use Rattle.std.specs.List.{concat, list_all}
use Rattle.std.specs.Prelude.{nat_lt}
use Rattle.httparse.specs.Ascii.{crlf_bytes}
use Rattle.httparse.specs.Grammar.{crlf, IsField}
use Rattle.httparse.proofs.OnLiterals.{httparse_on_literals}
use Rattle.h1_model.specs.ChunkWire.{chunk_of, chunks_of, last_chunk}
use Rattle.h1_model.specs.Chunks.{Place, size_line, inside, start, Sought, data_at, section_at, waiting, malformed, sought, behind_size, behind_data, sought_after, size_step, sized, size_open, Run, no_run, with_byte, if_data, run_of}
use Rattle.h1_model.specs.Fields.{Pair}
use Rattle.h1_model.specs.Framing.{OutItem, piece, trailers, by_chunks, items_wire}
use Rattle.h1_model.specs.Length.{length_limit}
use Rattle.h1_model.specs.Trailers.{ended, IsBehind, IsEnd, section_cut}
use Rattle.h1_write.specs.Laws.{is_short, ReadsFrom, middle_items, body_wire, PiecesReadBack, EndsThere, EndReadBack, trailed_wire, section_wire, TrailersReadBack}
use Rattle.h1_write.proofs.Sizes.{size_text, size_read}

-- ---- one byte, and the data of one chunk

-- the run after what is sought
abbrev run_behind : ℕ → Place → List ℕ → Sought → Run
run_behind room p text s =
    if_data s (no_run p) (λ at left. with_byte (get_or text at 0) (at + 1) (run_of room (inside (left - 1)) (drop (at + 1) text)))

run_data : (room : ℕ) (p : Place) (text : List ℕ) (at left : ℕ) → sought p text ≡ data_at at left
    → run_of (suc room) p text ≡ with_byte (get_or text at 0) (at + 1) (run_of room (inside (left - 1)) (drop (at + 1) text))
unfolding run_of
run_data room p text at left is = ap (run_behind room p text) is

run_ends : (room : ℕ) (p : Place) (text : List ℕ) (at : ℕ) → sought p text ≡ section_at at → run_of room p text ≡ no_run p
unfolding run_of
run_ends zero p text at is = refl
run_ends (suc room) p text at is = ap (run_behind room p text) is

reads_by : (room : ℕ) (p : Place) (text bytes section : List ℕ) (r : Run) → run_of room p text ≡ r → r.bytes ≡ bytes
    → (at : ℕ) → sought r.place (drop r.used text) ≡ section_at at → drop at (drop r.used text) ≡ section
    → ReadsFrom room p text bytes section
reads_by room p text bytes section r is carried at due rest = record {
  carried = ap (λ (x : Run). x.bytes) is ∙ carried;
  at = at;
  due = subst (λ (x : Run). sought x.place (drop x.used text) ≡ section_at at) (sym is) due;
  rest = subst (λ (x : Run). drop at (drop x.used text) ≡ section) (sym is) rest;
}

-- a byte of data after the coding in front of it
step_back : (n room : ℕ) (p : Place) (front : List ℕ) (b : ℕ) (more bytes section : List ℕ) (l : ℕ) → n ≡ suc room
    → sought p (front ++ b ∷ more) ≡ data_at (length front) (suc l) → ReadsFrom room (inside l) more bytes section
    → ReadsFrom n p (front ++ b ∷ more) (b ∷ bytes) section
step_back n room p front b more bytes section l count is r =
    let text = front ++ b ∷ more in
    let at = length front in
    let inner = run_of room (inside l) more in
    let first : get_or text at 0 ≡ b = get_or-append_seam front b more 0 in
    let behind : drop (at + 1) text ≡ more = drop-append-add front (b ∷ more) 1 in
    let left : suc l - 1 ≡ l = omega arith in
    let run : run_of n p text ≡ with_byte b (at + 1) inner =
    ap (λ k. run_of k p text) count
    ∙ run_data room p text at (suc l) is
    ∙ ap (λ x. with_byte x (at + 1) (run_of room (inside (suc l - 1)) (drop (at + 1) text))) first
    ∙ ap (λ k. with_byte b (at + 1) (run_of room (inside k) (drop (at + 1) text))) left
    ∙ ap (λ (t : List ℕ). with_byte b (at + 1) (run_of room (inside l) t)) behind in
    let later : drop (at + 1 + inner.used) text ≡ drop inner.used more =
    ap (λ k. drop k text) (omega arith) ∙ sym (drop-drop inner.used (at + 1) text) ∙ ap (drop inner.used) behind in
    reads_by n p text (b ∷ bytes) section (with_byte b (at + 1) inner) run (ap (λ (t : List ℕ). b ∷ t) r.carried) r.at
    (ap (sought inner.place) later ∙ r.due) (ap (drop r.at) later ∙ r.rest)

sought_inside : (left : ℕ) (text : List ℕ) → 0 < left → 0 < length text → sought (inside left) text ≡ data_at 0 left
sought_inside left text some here =
    cond-false (eqb left 0) (behind_data text) (cond (nat_lt 0 (length text)) (data_at 0 left) waiting) (ne_eqb left 0 (λ e. omega arith))
    ∙ cond-true (nat_lt 0 (length text)) (data_at 0 left) waiting (lt-ltb 0 (length text) here)

-- the data of a chunk, from inside it on
inside_back : (xs more bytes section : List ℕ) (room : ℕ) → ReadsFrom room (inside 0) more bytes section
    → ReadsFrom (length xs + room) (inside (length xs)) (xs ++ more) (xs ++ bytes) section
inside_back [] more bytes section room r = subst (λ n. ReadsFrom n (inside 0) more bytes section) (sym (zero-add room)) r
inside_back (x ∷ xs) more bytes section room r =
    step_back (length (x ∷ xs) + room) (length xs + room) (inside (length (x ∷ xs))) [] x (xs ++ more) (xs ++ bytes) section (length xs)
    (omega arith) (sought_inside (length (x ∷ xs)) ((x ∷ xs) ++ more) (omega arith) (omega arith))
    (inside_back xs more bytes section room r)

-- ---- where a size line is due: at the start, or after the CR LF of a chunk

abbrev due_place : Bool → Place
due_place false = size_line
due_place true = inside 0

abbrev lead : Bool → List ℕ
lead false = []
lead true = crlf_bytes

moved_zero : (s : Sought) → s ≡ sought_after 0 s
moved_zero (data_at at left) = ap (λ k. data_at k left) (sym (zero-add at))
moved_zero (section_at at) = ap section_at (sym (zero-add at))
moved_zero waiting = refl
moved_zero malformed = refl

sought_due : (b : Bool) (text : List ℕ) (s : Sought) → behind_size text (size_step text) ≡ s
    → sought (due_place b) (lead b ++ text) ≡ sought_after (length (lead b)) s
sought_due false text s e = e ∙ moved_zero s
sought_due true text s e = ap (sought_after 2) e

-- the last chunk
last_read : (section : List ℕ) → behind_size (last_chunk ++ section) (size_step (last_chunk ++ section)) ≡ section_at 3
last_read section =
    let text = last_chunk ++ section in
    let some : eqb (length text) 0 ≡ false = ne_eqb (length text) 0 (λ e. omega arith) in
    ap (behind_size text) (cond-false (eqb (length text) 0) size_open (sized 0 3) some)

end_back : (b : Bool) (room : ℕ) (section : List ℕ) → ReadsFrom room (due_place b) (lead b ++ (last_chunk ++ section)) [] section
end_back b room section =
    let text = lead b ++ (last_chunk ++ section) in
    let is : sought (due_place b) text ≡ section_at (length (lead b) + 3) = sought_due b (last_chunk ++ section) (section_at 3) (last_read section) in
    reads_by room (due_place b) text [] section (no_run (due_place b)) (run_ends room (due_place b) text (length (lead b) + 3) is) refl
    (length (lead b) + 3) is (behind b)
  where
    behind : (c : Bool) → drop (length (lead c) + 3) (lead c ++ (last_chunk ++ section)) ≡ section
    behind false = refl
    behind true = refl

-- the size line of a chunk, and its first byte of data
data_read : (n b : ℕ) (more : List ℕ) → 0 < n → n ≤ length_limit
    → behind_size (size_text n ++ b ∷ more) (size_step (size_text n ++ b ∷ more)) ≡ data_at (length (size_text n)) n
data_read n b more some small =
    let text = size_text n ++ b ∷ more in
    let used = length (size_text n) in
    ap (behind_size text) (size_read n (b ∷ more) some small)
    ∙ cond-false (eqb n 0) (section_at used) (cond (nat_lt used (length text)) (data_at used n) waiting) (ne_eqb n 0 (λ e. omega arith))
    ∙ cond-true (nat_lt used (length text)) (data_at used n) waiting
    (lt-ltb used (length text) (omega (arith, length-append (size_text n) (b ∷ more))))

first_sought : (b : Bool) (n x : ℕ) (more : List ℕ) → 0 < n → n ≤ length_limit
    → sought (due_place b) ((lead b ++ size_text n) ++ x ∷ more) ≡ data_at (length (lead b ++ size_text n)) n
first_sought b n x more some small =
    ap (sought (due_place b)) (append_assoc (lead b) (size_text n) (x ∷ more))
    ∙ sought_due b (size_text n ++ x ∷ more) (data_at (length (size_text n)) n) (data_read n x more some small)
    ∙ ap (λ k. data_at k n) (sym (length-append (lead b) (size_text n)))

-- a chunk in parts
chunk_parts : (front : List ℕ) (x : ℕ) (xs rest behind : List ℕ)
    → (front ++ size_text (length (x ∷ xs))) ++ x ∷ (xs ++ (crlf_bytes ++ (rest ++ behind))) ≡ front ++ ((chunk_of (x ∷ xs) ++ rest) ++ behind)
chunk_parts front x xs rest behind = simp append_assoc

-- ---- all pieces

pieces_back : (b : Bool) (pieces : List (List ℕ)) (section : List ℕ) (room : ℕ) → list_all is_short pieces ≡ true
    → length (concat pieces) ≤ room
    → ReadsFrom room (due_place b) (lead b ++ (chunks_of pieces ++ (last_chunk ++ section))) (concat pieces) section
pieces_back b [] section room short fits = end_back b room section
pieces_back b ([] ∷ pieces) section room short fits =
    pieces_back b pieces section room (and_parts (is_short []) (list_all is_short pieces) short).1 fits
pieces_back b ((x ∷ xs) ∷ pieces) section room short fits =
    let n = length (x ∷ xs) in
    let both = and_parts (is_short (x ∷ xs)) (list_all is_short pieces) short in
    let small : n ≤ length_limit = leb-true n length_limit both.0 in
    let sum : length (concat ((x ∷ xs) ∷ pieces)) ≡ n + length (concat pieces) = length-append (x ∷ xs) (concat pieces) in
    let rest = chunks_of pieces ++ (last_chunk ++ section) in
    let later = pieces_back true pieces section (room - n) both.1 (omega arith) in
    let here = step_back room (length xs + (room - n)) (due_place b) (lead b ++ size_text n) x (xs ++ (crlf_bytes ++ rest)) (xs ++ concat pieces) section
    (length xs) (omega arith) (first_sought b n x (xs ++ (crlf_bytes ++ rest)) (omega arith) small)
    (inside_back xs (crlf_bytes ++ rest) (concat pieces) section (room - n) later) in
    subst (λ (t : List ℕ). ReadsFrom room (due_place b) t (x ∷ (xs ++ concat pieces)) section)
    (chunk_parts (lead b) x xs (chunks_of pieces) (last_chunk ++ section)) here

-- ---- items

wire_middle : (pieces : List (List ℕ)) (items : List OutItem)
    → items_wire by_chunks (middle_items pieces ++ items) ≡ chunks_of pieces ++ items_wire by_chunks items
wire_middle [] items = refl
wire_middle (p ∷ pieces) items =
    ap (λ (t : List ℕ). t ++ items_wire by_chunks (middle_items pieces ++ items)) (append-nil (chunk_of p))
    ∙ ap (λ (t : List ℕ). chunk_of p ++ t) (wire_middle pieces items)
    ∙ sym (append_assoc (chunk_of p) (chunks_of pieces) (items_wire by_chunks items))

body_wire_is : (pieces : List (List ℕ)) (last : List ℕ)
    → chunks_of (pieces ++ last ∷ []) ++ (last_chunk ++ crlf_bytes) ≡ body_wire pieces last
body_wire_is pieces last =
    ap (λ (t : List ℕ). t ++ (last_chunk ++ crlf_bytes)) (flat_map-append chunk_of pieces (last ∷ []))
    ∙ regroup (chunks_of pieces) (chunk_of last) (last_chunk ++ crlf_bytes)
    ∙ sym (wire_middle pieces (piece last true ∷ []))
  where
    regroup : (a b c : List ℕ) → (a ++ (b ++ [])) ++ c ≡ a ++ ((b ++ c) ++ [])
    regroup a b c = simp (append_assoc, append-nil)

pub pieces_read_back : PiecesReadBack
pieces_read_back pieces last room short fits =
    subst (λ (t : List ℕ). ReadsFrom room start t (concat (pieces ++ last ∷ [])) crlf_bytes) (body_wire_is pieces last)
    (pieces_back false (pieces ++ last ∷ []) crlf_bytes room short fits)

pub trailers_read_back : TrailersReadBack
trailers_read_back pieces fields room short fits =
    let section = section_wire fields in
    let same : chunks_of pieces ++ (last_chunk ++ section) ≡ trailed_wire pieces fields =
    ap (λ (t : List ℕ). chunks_of pieces ++ t) (sym (append-nil (last_chunk ++ section))) ∙ sym (wire_middle pieces (trailers fields ∷ [])) in
    subst (λ (t : List ℕ). ReadsFrom room start t (concat pieces) section) same (pieces_back false pieces section room short fits)

-- ---- the end

-- after the bytes stands a section that is read as these fields
pub ends_there : (room : ℕ) (text bytes section : List ℕ) (fields : List Pair) → ReadsFrom room start text bytes section → 0 < length section
    → ((at : ℕ) → IsEnd at section (section_cut section) (ended fields (at + length section)))
    → EndsThere text (run_of room start text) fields
ends_there room text bytes section fields r some is =
    let run = run_of room start text in
    let behind = drop run.used text in
    let used = r.at + length section in
    let here : IsEnd r.at (drop r.at behind) (section_cut (drop r.at behind)) (ended fields used) =
    subst (λ (t : List ℕ). IsEnd r.at t (section_cut t) (ended fields used)) (sym r.rest) (is r.at) in
    record {
      used = used;
      spelled = subst (λ (s : Sought). IsBehind run.place behind s (ended fields used)) (sym r.due) here;
      all = omega (arith, ap length r.rest, length-drop r.at behind, length-drop run.used text);
    }

empty_section : (at : ℕ) → IsEnd at crlf_bytes (section_cut crlf_bytes) (ended [] (at + 2))
unfolding httparse_on_literals
empty_section at = record {
  trailers = Some [];
  section = record { fields = []; last = crlf; reads = (All-nil IsField, refl); are = refl };
  is = refl;
}

pub end_read_back : EndReadBack
end_read_back pieces last room short fits =
    ends_there room (body_wire pieces last) (concat (pieces ++ last ∷ [])) crlf_bytes [] (pieces_read_back pieces last room short fits)
    (omega arith) empty_section
