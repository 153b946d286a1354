-- What the text of a callout's line says is what its reader says, however the text was cut.
use Rattle.std.proofs.Common.{◌≡◌, ◌<◌, ◌+◌, ℕ, Bool, true, false, List, [], ◌∷◌, ◌++◌, length, drop, map, refl, sym, ap, ◌∙◌, subst, arith}
use Rattle.std.specs.Prelude.{Option, Some, if◌then◌else◌, nat_lt}
use Rattle.std.proofs.lemmas.Bool.{lt-ltb, ltb-true}
use Rattle.std.proofs.lemmas.List.{append-nil, append_assoc, drop-drop, length-append}
use Rattle.body_buffers.specs.Bodies.{body_limit}
use Rattle.contexts.specs.declared.parts.CallAnswer.{CallAnswer}
use Rattle.header_maps.specs.Headers.{Headers}
use Rattle.header_maps.specs.Operations.{no_headers}
use Rattle.header_maps.specs.declared.kind.ListKind.TheVariants.{Plain}
use Rattle.h1_model.specs.Messages.{Item, request, interim, response, octet, end, trailers, Due, head, Stop, rest, over, refusal, Messages}
use Rattle.h1_model.specs.ReadingLaws.{IsWholeReading}
use Rattle.h1_model.specs.Unread.{Part, head_part, interim_part, piece, trailer_part, none, IsNext, Reading, new_reading, Act, feeds, ends, hands, DoesAll, text_of, end_if, items_in, items_handed, Unread}
use Rattle.h1_model.proofs.Fronts.{pieces_are_a_front}
use Rattle.h1_model.proofs.Pieces.{pieces_are_whole, cuts_alike}
use Rattle.callouts.specs.Fates.{head_in, body_in, trailers_in, answer_in, Verdict, unfinished, whole, broken, verdict_by, verdict_of, Says}

-- ---- what items say

abbrev pub head_of : List Item → Headers
head_of [] = no_headers
head_of (request h ∷ items) = h.fields
head_of (interim h ∷ items) = head_of items
head_of (response h ∷ items) = h.fields
head_of (octet b ∷ items) = head_of items
head_of (end ∷ items) = head_of items
head_of (trailers fields ∷ items) = head_of items

abbrev pub bytes_of : List Item → List ℕ
bytes_of [] = []
bytes_of (request h ∷ items) = bytes_of items
bytes_of (interim h ∷ items) = bytes_of items
bytes_of (response h ∷ items) = bytes_of items
bytes_of (octet b ∷ items) = b ∷ bytes_of items
bytes_of (end ∷ items) = bytes_of items
bytes_of (trailers fields ∷ items) = bytes_of items

abbrev pub trailers_of : List Item → Headers
trailers_of [] = no_headers
trailers_of (request h ∷ items) = trailers_of items
trailers_of (interim h ∷ items) = trailers_of items
trailers_of (response h ∷ items) = trailers_of items
trailers_of (octet b ∷ items) = trailers_of items
trailers_of (end ∷ items) = trailers_of items
trailers_of (trailers fields ∷ items) = record { kind = Plain; pairs = fields }

abbrev pub answer_by : Headers → List ℕ → Headers → CallAnswer
answer_by fields bytes more = record { fields = fields; body = bytes; trailers = more }

abbrev pub answer_of : List Item → CallAnswer
answer_of items = answer_by (head_of items) (bytes_of items) (trailers_of items)

pub same_answer : (f g : Headers) (a b : List ℕ) (t u : Headers) → f ≡ g → a ≡ b → t ≡ u → answer_by f a t ≡ answer_by g b u
same_answer f g a b t u one two three =
    ap (λ (x : Headers). answer_by x a t) one ∙ ap (λ (x : List ℕ). answer_by g x t) two ∙ ap (λ (x : Headers). answer_by g b x) three

-- ---- pieces

octets_head : (bytes : List ℕ) (items : List Item) → head_of (map octet bytes ++ items) ≡ head_of items
octets_head [] items = refl
octets_head (b ∷ bytes) items = octets_head bytes items

octets_bytes : (bytes : List ℕ) (items : List Item) → bytes_of (map octet bytes ++ items) ≡ bytes ++ bytes_of items
octets_bytes [] items = refl
octets_bytes (b ∷ bytes) items = ap (λ (l : List ℕ). b ∷ l) (octets_bytes bytes items)

octets_trailers : (bytes : List ℕ) (items : List Item) → trailers_of (map octet bytes ++ items) ≡ trailers_of items
octets_trailers [] items = refl
octets_trailers (b ∷ bytes) items = octets_trailers bytes items

end_head : (last : Bool) (items : List Item) → head_of (end_if last ++ items) ≡ head_of items
end_head true items = refl
end_head false items = refl

end_bytes : (last : Bool) (items : List Item) → bytes_of (end_if last ++ items) ≡ bytes_of items
end_bytes true items = refl
end_bytes false items = refl

end_trailers : (last : Bool) (items : List Item) → trailers_of (end_if last ++ items) ≡ trailers_of items
end_trailers true items = refl
end_trailers false items = refl

piece_head : (bytes : List ℕ) (last : Bool) (items : List Item) → head_of ((map octet bytes ++ end_if last) ++ items) ≡ head_of items
piece_head bytes last items = ap head_of (append_assoc (map octet bytes) (end_if last) items) ∙ (octets_head bytes (end_if last ++ items) ∙ end_head last items)

piece_bytes : (bytes : List ℕ) (last : Bool) (items : List Item) → bytes_of ((map octet bytes ++ end_if last) ++ items) ≡ bytes ++ bytes_of items
piece_bytes bytes last items =
    ap bytes_of (append_assoc (map octet bytes) (end_if last) items) ∙ (octets_bytes bytes (end_if last ++ items) ∙ ap (λ (l : List ℕ). bytes ++ l) (end_bytes last items))

piece_trailers : (bytes : List ℕ) (last : Bool) (items : List Item) → trailers_of ((map octet bytes ++ end_if last) ++ items) ≡ trailers_of items
piece_trailers bytes last items = ap trailers_of (append_assoc (map octet bytes) (end_if last) items) ∙ (octets_trailers bytes (end_if last ++ items) ∙ end_trailers last items)

-- ---- what parts say

abbrev pub items_all : Option (List ℕ) → List Part → List Item
items_all asked [] = []
items_all asked (p ∷ parts) = items_in asked p ++ items_all asked parts

parts_head : (m : List ℕ) (parts : List Part) → head_in parts ≡ head_of (items_all (Some m) parts)
parts_head m [] = refl
parts_head m (head_part h ∷ parts) = refl
parts_head m (interim_part h ∷ parts) = parts_head m parts
parts_head m (piece bytes last ∷ parts) = parts_head m parts ∙ sym (piece_head bytes last (items_all (Some m) parts))
parts_head m (trailer_part fields ∷ parts) = parts_head m parts

parts_bytes : (m : List ℕ) (parts : List Part) → body_in parts ≡ bytes_of (items_all (Some m) parts)
parts_bytes m [] = refl
parts_bytes m (head_part h ∷ parts) = parts_bytes m parts
parts_bytes m (interim_part h ∷ parts) = parts_bytes m parts
parts_bytes m (piece bytes last ∷ parts) = ap (λ (l : List ℕ). bytes ++ l) (parts_bytes m parts) ∙ sym (piece_bytes bytes last (items_all (Some m) parts))
parts_bytes m (trailer_part fields ∷ parts) = parts_bytes m parts

parts_trailers : (m : List ℕ) (parts : List Part) → trailers_in parts ≡ trailers_of (items_all (Some m) parts)
parts_trailers m [] = refl
parts_trailers m (head_part h ∷ parts) = parts_trailers m parts
parts_trailers m (interim_part h ∷ parts) = parts_trailers m parts
parts_trailers m (piece bytes last ∷ parts) = parts_trailers m parts ∙ sym (piece_trailers bytes last (items_all (Some m) parts))
parts_trailers m (trailer_part fields ∷ parts) = refl

-- a verdict by items
abbrev pub by_stop : CallAnswer → Stop → Verdict
by_stop a rest = unfinished
by_stop a over = whole a
by_stop a (refusal number) = broken

abbrev pub verdict_at : List Item → Stop → Verdict
verdict_at items why = if nat_lt body_limit (length (bytes_of items)) then broken else by_stop (answer_of items) why

by_parts : (a : CallAnswer) (parts : List Part) (why : Stop) → answer_in parts ≡ a → verdict_by parts why ≡ by_stop a why
by_parts a parts rest is = refl
by_parts a parts over is = ap whole is
by_parts a parts (refusal number) is = refl

parts_verdict : (m : List ℕ) (parts : List Part) (why : Stop) → verdict_of parts why ≡ verdict_at (items_all (Some m) parts) why
parts_verdict m parts why =
    let items = items_all (Some m) parts in
    ap (λ (l : List ℕ). if nat_lt body_limit (length l) then broken else verdict_by parts why) (parts_bytes m parts)
    ∙ ap (λ (v : Verdict). if nat_lt body_limit (length (bytes_of items)) then broken else v)
    (by_parts (answer_of items) parts why (same_answer _ _ _ _ _ _ (parts_head m parts) (parts_bytes m parts) (parts_trailers m parts)))

-- ---- the text's own reading, as one of a reader

abbrev pub place : Option (List ℕ) → Bool → Due → List ℕ → Reading
place asked ended due unread = record { asked = asked; ended = ended; due = due; unread = unread }

record Unreads (asked : Option (List ℕ)) (ended : Bool) (due : Due) (text : List ℕ) (parts : List Part) (why : Stop) : Type 0 where
  pub at_end : Reading
  pub does : DoesAll (place asked ended due text) (map hands parts) at_end
  pub stops : IsNext at_end.ended at_end.asked at_end.due at_end.unread (none why)
  pub ended_is : at_end.ended ≡ ended

unread_does : (text : List ℕ) (ended : Bool) (asked : Option (List ℕ)) (due : Due) (at : ℕ) (parts : List Part) (why : Stop) → Unread text ended asked due at parts why → Unreads asked ended due (drop at text) parts why
unread_does text ended asked due at [] why u = record { at_end = place asked ended due (drop at text); does = refl; stops = u; ended_is = refl }
unread_does text ended asked due at (p ∷ parts) why u =
    let later : Unreads asked ended u.1 (drop (at + u.0) text) parts why = unread_does text ended asked u.1 (at + u.0) parts why u.3 in
    record {
      at_end = later.at_end;
      does = (
        place asked ended u.1 (drop (at + u.0) text),
        record { used = u.0; due = u.1; next = u.2; is = ap (λ (l : List ℕ). place asked ended u.1 l) (sym (drop-drop u.0 at text)) },
        later.does,
      );
      stops = later.stops;
      ended_is = later.ended_is;
    }

hands_text : (parts : List Part) → text_of (map hands parts) ≡ []
hands_text [] = refl
hands_text (p ∷ parts) = hands_text parts

hands_items : (asked : Option (List ℕ)) (parts : List Part) → items_handed asked (map hands parts) ≡ items_all asked parts
hands_items asked [] = refl
hands_items asked (p ∷ parts) = ap (λ (l : List Item). items_in asked p ++ l) (hands_items asked parts)

-- a reading of the whole text, which says this
record ReadsAll (m : List ℕ) (ended : Bool) (text : List ℕ) (v : Verdict) : Type 0 where
  pub acts : List Act
  pub at_end : Reading
  pub why : Stop
  pub does : DoesAll (new_reading (Some m)) acts at_end
  pub text_is : text_of acts ≡ text
  pub ended_is : at_end.ended ≡ ended
  pub stops : IsNext at_end.ended at_end.asked at_end.due at_end.unread (none why)
  pub says : v ≡ verdict_at (items_handed (Some m) acts) why

says_reads : (m : List ℕ) (ended : Bool) (text : List ℕ) (v : Verdict) → Says m ended text v → ReadsAll m ended text v
says_reads m false text v s =
    let u : Unreads (Some m) false head text s.0 s.1 = unread_does text false (Some m) head 0 s.0 s.1 s.2 in
    record {
      acts = feeds text ∷ map hands s.0;
      at_end = u.at_end;
      why = s.1;
      does = (place (Some m) false head text, (refl, refl), u.does);
      text_is = ap (λ (l : List ℕ). text ++ l) (hands_text s.0) ∙ append-nil text;
      ended_is = u.ended_is;
      stops = u.stops;
      says = s.3 ∙ (parts_verdict m s.0 s.1 ∙ ap (λ (l : List Item). verdict_at l s.1) (sym (hands_items (Some m) s.0)));
    }
says_reads m true text v s =
    let u : Unreads (Some m) true head text s.0 s.1 = unread_does text true (Some m) head 0 s.0 s.1 s.2 in
    record {
      acts = feeds text ∷ ends ∷ map hands s.0;
      at_end = u.at_end;
      why = s.1;
      does = (place (Some m) false head text, (refl, refl), (place (Some m) true head text, refl, u.does));
      text_is = ap (λ (l : List ℕ). text ++ l) (hands_text s.0) ∙ append-nil text;
      ended_is = u.ended_is;
      stops = u.stops;
      says = s.3 ∙ (parts_verdict m s.0 s.1 ∙ ap (λ (l : List Item). verdict_at l s.1) (sym (hands_items (Some m) s.0)));
    }

-- WHAT A READER SAYS that has no further part is what the text says
pub halted_says : (m : List ℕ) (ended : Bool) (text : List ℕ) (v : Verdict) (acts : List Act) (r : Reading) (why : Stop) → Says m ended text v → DoesAll (new_reading (Some m)) acts r → text_of acts ≡ text
    → r.ended ≡ ended → IsNext r.ended r.asked r.due r.unread (none why) → v ≡ verdict_at (items_handed (Some m) acts) why
halted_says m ended text v acts r why says does text_is ended_is stops =
    let w : ReadsAll m ended text v = says_reads m ended text v says in
    let alike = cuts_alike (Some m) w.acts acts w.at_end r w.why why w.does does (w.text_is ∙ sym text_is) (w.ended_is ∙ sym ended_is) w.stops stops in
    w.says ∙ (ap (λ (l : List Item). verdict_at l w.why) alike.0 ∙ ap (λ (x : Stop). verdict_at (items_handed (Some m) acts) x) alike.1)

-- ---- lists of items, joined

pub bytes_join : (a b : List Item) → bytes_of (a ++ b) ≡ bytes_of a ++ bytes_of b
bytes_join [] b = refl
bytes_join (request h ∷ a) b = bytes_join a b
bytes_join (interim h ∷ a) b = bytes_join a b
bytes_join (response h ∷ a) b = bytes_join a b
bytes_join (octet x ∷ a) b = ap (λ (l : List ℕ). x ∷ l) (bytes_join a b)
bytes_join (end ∷ a) b = bytes_join a b
bytes_join (trailers fields ∷ a) b = bytes_join a b

-- A BODY THAT IS TOO LONG so far is too long in the whole text
pub burst_says : (m : List ℕ) (ended : Bool) (text : List ℕ) (v : Verdict) (acts : List Act) (r : Reading) → Says m ended text v → DoesAll (new_reading (Some m)) acts r → text_of acts ≡ text
    → r.ended ≡ ended → nat_lt body_limit (length (bytes_of (items_handed (Some m) acts))) ≡ true → v ≡ broken
burst_says m ended text v acts r says does text_is ended_is burst =
    let w : ReadsAll m ended text v = says_reads m ended text v says in
    let all : IsWholeReading (Some m) w.acts w.at_end.ended w.why = pieces_are_whole (Some m) w.acts w.at_end w.why w.does w.stops in
    let spelled : Messages (text_of acts) r.ended (Some m) all.items w.why
    = subst (λ (t : List ℕ). Messages t r.ended (Some m) all.items w.why) (w.text_is ∙ sym text_is)
    (subst (λ (e : Bool). Messages (text_of w.acts) e (Some m) all.items w.why) (w.ended_is ∙ sym ended_is) all.spelled) in
    let front = pieces_are_a_front.so_far (Some m) acts r all.items w.why does spelled in
    let joined : bytes_of (items_handed (Some m) w.acts) ≡ bytes_of (items_handed (Some m) acts) ++ bytes_of front.0
    = ap bytes_of (sym all.same ∙ sym front.1) ∙ bytes_join (items_handed (Some m) acts) front.0 in
    let sizes : length (bytes_of (items_handed (Some m) w.acts)) ≡ length (bytes_of (items_handed (Some m) acts)) + length (bytes_of front.0)
    = ap (λ (l : List ℕ). length l) joined ∙ length-append (bytes_of (items_handed (Some m) acts)) (bytes_of front.0) in
    let less : body_limit < length (bytes_of (items_handed (Some m) acts)) = ltb-true body_limit (length (bytes_of (items_handed (Some m) acts))) burst in
    w.says ∙ ap (λ (b : Bool). if b then broken else by_stop (answer_of (items_handed (Some m) w.acts)) w.why)
    (lt-ltb body_limit (length (bytes_of (items_handed (Some m) w.acts))) (omega (arith, less, sizes)))
