-- What the reader of a callout hands on, by what is due: one head, then a body, then its end; and a text that has ended leaves no rest.
use Rattle.std.proofs.Common.{◌≡◌, ◌<◌, ◌+◌, inl, inr, ℕ, zero, suc, Bool, true, false, List, [], ◌∷◌, length, drop, take, refl, sym, ap, ◌∙◌, subst, arith}
use Rattle.std.specs.Prelude.{Option, None, Some, if◌then◌else◌}
use Rattle.h1_model.specs.Chunks as chunks
use Rattle.h1_model.specs.Fields.{Pair}
use Rattle.h1_model.specs.Head.{HeadStep, found, not_yet, refused}
use Rattle.h1_model.specs.Length.{BodyLength, nothing, exactly, chunked, until_end}
use Rattle.h1_model.specs.Lines.{Cut, whole, too_large, unfinished}
use Rattle.h1_model.specs.Messages.{request, interim, response, octet, end, trailers, Body, counted, coded, unbounded, Due, head, body, done, Stop, rest, Step, item, stop, due_behind, is_interim, step_from, counted_step, unbounded_step, trailers_left, end_step, section_step, IsCodedStep, BodyStepsTo, StepsTo}
use Rattle.h1_model.specs.Trailers as trailing
use Rattle.h1_model.specs.Unread.{Part, head_part, interim_part, piece, trailer_part, Next, part, none, Carries, by_itself, piece_before, IsPiece, IsNext, Reading, Hands}
use Rattle.callouts.specs.Callouts.{is_bare, is_last}
use Rattle.law_callouts.proofs.Changing.{pick}

-- ---- steps of a text

abbrev pub IsBody : Due → Type 0
IsBody head = ⊥
IsBody (body b) = Unit {0}
IsBody done = ⊥

abbrev pub ItemShape : Due → Step → Type 0
ItemShape due (stop why) = Unit {0}
ItemShape head (item (request h) used next) = ⊥
ItemShape head (item (interim h) used next) = next ≡ head
ItemShape head (item (response h) used next) = next ≡ due_behind done h.connection h.length
ItemShape head (item (octet b) used next) = ⊥
ItemShape head (item end used next) = ⊥
ItemShape head (item (trailers fields) used next) = ⊥
ItemShape (body b) (item (request h) used next) = ⊥
ItemShape (body b) (item (interim h) used next) = ⊥
ItemShape (body b) (item (response h) used next) = ⊥
ItemShape (body b) (item (octet x) used next) = IsBody next
ItemShape (body b) (item end used next) = next ≡ done
ItemShape (body b) (item (trailers fields) used next) = next ≡ done
ItemShape done (item i used next) = ⊥

head_shape : (ended : Bool) (m text : List ℕ) (h : HeadStep) → ItemShape head (step_from ended (Some m) text h)
head_shape ended m text (found h used) = pick (ItemShape head) (is_interim h.fields.kind) (item (interim h) used head) (item (response h) used (due_behind done h.connection h.length)) refl refl
head_shape ended m text not_yet = tt
head_shape ended m text (refused number) = tt

counted_shape : (ended : Bool) (m : List ℕ) (b : Body) (n : ℕ) (text : List ℕ) → ItemShape (body b) (counted_step ended (Some m) n text)
counted_shape ended m b zero text = refl
counted_shape ended m b (suc n) [] = tt
counted_shape ended m b (suc n) (x ∷ text) = tt

unbounded_shape : (ended : Bool) (m : List ℕ) (b : Body) (text : List ℕ) → ItemShape (body b) (unbounded_step ended (Some m) text)
unbounded_shape false m b [] = tt
unbounded_shape true m b [] = refl
unbounded_shape ended m b (x ∷ text) = tt

end_shape : (m : List ℕ) (b : Body) (used : ℕ) (fields : List Pair) → ItemShape (body b) (end_step (Some m) used fields)
end_shape m b used [] = refl
end_shape m b used (f ∷ fields) = refl

section_shape : (ended : Bool) (m : List ℕ) (b : Body) (connection : List (List ℕ)) (c : trailing.ChunkStep) → ItemShape (body b) (section_step ended (Some m) connection c)
section_shape ended m b connection (trailing.carried run) = tt
section_shape ended m b connection (trailing.ended fields used) = end_shape m b used (trailers_left (Some m) connection fields)
section_shape ended m b connection trailing.not_yet = tt
section_shape ended m b connection (trailing.refused number) = tt

coded_shape : (ended : Bool) (m : List ℕ) (b : Body) (connection : List (List ℕ)) (text : List ℕ) (s : chunks.Sought) (step : Step) → IsCodedStep ended (Some m) connection text s step → ItemShape (body b) step
coded_shape ended m b connection text (chunks.data_at at left) step is = subst (ItemShape (body b)) (sym is) tt
coded_shape ended m b connection text (chunks.section_at at) step is = subst (ItemShape (body b)) (sym is.2) (section_shape ended m b connection is.0)
coded_shape ended m b connection text chunks.waiting step is = subst (ItemShape (body b)) (sym is) tt
coded_shape ended m b connection text chunks.malformed step is = subst (ItemShape (body b)) (sym is) tt

body_shape : (ended : Bool) (m : List ℕ) (b : Body) (text : List ℕ) (step : Step) → BodyStepsTo ended (Some m) b text step → ItemShape (body b) step
body_shape ended m (counted n) text step is = subst (ItemShape (body (counted n))) (sym is) (counted_shape ended m (counted n) n text)
body_shape ended m (coded connection place) text step is = coded_shape ended m (coded connection place) connection text (chunks.sought place text) step is
body_shape ended m unbounded text step is = subst (ItemShape (body unbounded)) (sym is) (unbounded_shape ended m unbounded text)

step_shape : (ended : Bool) (m : List ℕ) (due : Due) (text : List ℕ) (step : Step) → StepsTo ended (Some m) due text step → ItemShape due step
step_shape ended m head text step x = subst (ItemShape head) (sym x.2) (head_shape ended m text x.0)
step_shape ended m (body b) text step x = body_shape ended m b text step x
step_shape ended m done text step x = subst (ItemShape done) (sym x) tt

-- ---- parts

abbrev pub PieceShape : Bool → Due → Type 0
PieceShape true next = next ≡ done
PieceShape false next = IsBody next

-- what a part may be, by what is due before it and after it
abbrev pub PartShape : Due → Part → Due → Type 0
PartShape head (head_part h) next = next ≡ due_behind done h.connection h.length
PartShape head (interim_part h) next = next ≡ head
PartShape head (piece bytes last) next = ⊥
PartShape head (trailer_part fields) next = ⊥
PartShape (body b) (head_part h) next = ⊥
PartShape (body b) (interim_part h) next = ⊥
PartShape (body b) (piece bytes last) next = PieceShape last next
PartShape (body b) (trailer_part fields) next = next ≡ done
PartShape done p next = ⊥

abbrev NextShape : Due → Next → Type 0
NextShape due (part p used next) = PartShape due p next
NextShape due (none why) = Unit {0}

alone_shape : (due : Due) (step : Step) → ItemShape due step → (nx : Next) → by_itself step ≡ Some nx → NextShape due nx
alone_shape due (stop why) shape nx is = let one : none why ≡ nx = (cc) in subst (NextShape due) one tt
alone_shape head (item (request h) used next) shape nx is = absurd shape
alone_shape head (item (interim h) used next) shape nx is = let one : part (interim_part h) used next ≡ nx = (cc) in subst (NextShape head) one shape
alone_shape head (item (response h) used next) shape nx is = let one : part (head_part h) used next ≡ nx = (cc) in subst (NextShape head) one shape
alone_shape head (item (octet b) used next) shape nx is = absurd shape
alone_shape head (item end used next) shape nx is = absurd shape
alone_shape head (item (trailers fields) used next) shape nx is = absurd shape
alone_shape (body b) (item (request h) used next) shape nx is = absurd shape
alone_shape (body b) (item (interim h) used next) shape nx is = absurd shape
alone_shape (body b) (item (response h) used next) shape nx is = absurd shape
alone_shape (body b) (item (octet x) used next) shape nx is = absurd (cc)
alone_shape (body b) (item end used next) shape nx is = let one : part (piece [] true) used next ≡ nx = (cc) in subst (NextShape (body b)) one shape
alone_shape (body b) (item (trailers fields) used next) shape nx is = let one : part (trailer_part fields) used next ≡ nx = (cc) in subst (NextShape (body b)) one shape
alone_shape done (item i used next) shape nx is = absurd shape

-- a byte is of a body, and after it a body is due
octet_bodies : (due : Due) (b used : ℕ) (next : Due) → ItemShape due (item (octet b) used next) → IsBody due × IsBody next
octet_bodies head b used next shape = absurd shape
octet_bodies (body x) b used next shape = (tt, shape)
octet_bodies done b used next shape = absurd shape

carried_bodies : (ended : Bool) (m : List ℕ) (due : Due) (text : List ℕ) (b : ℕ) (bytes : List ℕ) (used : ℕ) (next : Due) → Carries ended (Some m) due text (b ∷ bytes) used next → IsBody due × IsBody next
carried_bodies ended m due text b [] used next c =
    let one : IsBody due × IsBody c.2 = octet_bodies due b c.0 c.2 (step_shape ended m due text (item (octet b) c.0 c.2) c.3) in
    (one.0, subst IsBody (sym c.4.1) one.1)
carried_bodies ended m due text b (x ∷ bytes) used next c =
    let one : IsBody due × IsBody c.2 = octet_bodies due b c.0 c.2 (step_shape ended m due text (item (octet b) c.0 c.2) c.3) in
    (one.0, (carried_bodies ended m c.2 (drop c.0 text) x bytes c.1 next c.4).1)

-- in a body a piece of bytes comes, with its end or without
behind_shape : (due mid : Due) (bytes : List ℕ) (used : ℕ) (step : Step) → IsBody due → IsBody mid → ItemShape mid step → NextShape due (piece_before bytes used mid step)
behind_shape head mid bytes used step one two shape = absurd one
behind_shape done mid bytes used step one two shape = absurd one
behind_shape (body b) head bytes used step one two shape = absurd two
behind_shape (body b) done bytes used step one two shape = absurd two
behind_shape (body b) (body c) bytes used (item (request h) n next) one two shape = absurd shape
behind_shape (body b) (body c) bytes used (item (interim h) n next) one two shape = absurd shape
behind_shape (body b) (body c) bytes used (item (response h) n next) one two shape = absurd shape
behind_shape (body b) (body c) bytes used (item (octet x) n next) one two shape = tt
behind_shape (body b) (body c) bytes used (item end n next) one two shape = shape
behind_shape (body b) (body c) bytes used (item (trailers fields) n next) one two shape = tt
behind_shape (body b) (body c) bytes used (stop why) one two shape = tt

piece_shape : (ended : Bool) (m : List ℕ) (due : Due) (text : List ℕ) (nx : Next) → IsPiece ended (Some m) due text nx → NextShape due nx
piece_shape ended m due text nx p = subst (NextShape due) (sym p.is) (by p.bytes p.some p.carried)
  where
    by : (bytes : List ℕ) → 0 < length bytes → Carries ended (Some m) due text bytes p.used p.mid → NextShape due (piece_before p.bytes p.used p.mid p.behind)
    by [] some c = absurd (omega (arith, some))
    by (b ∷ bytes) some c =
        let bodies : IsBody due × IsBody p.mid = carried_bodies ended m due text b bytes p.used p.mid c in
        behind_shape due p.mid p.bytes p.used p.behind bodies.0 bodies.1 (step_shape ended m p.mid (drop p.used text) p.behind p.there)

next_shape : (ended : Bool) (m : List ℕ) (due : Due) (text : List ℕ) (nx : Next) → IsNext ended (Some m) due text nx → NextShape due nx
next_shape ended m due text nx (inl alone) = alone_shape due alone.step (step_shape ended m due text alone.step alone.there) nx alone.is
next_shape ended m due text nx (inr p) = piece_shape ended m due text nx p

-- WHAT A READER HANDS ON, by what is due
pub part_shape : (m : List ℕ) (old : Reading) (p : Part) (new : Reading) → old.asked ≡ Some m → Hands old p new → PartShape old.due p new.due
part_shape m old p new asked h =
    let next : IsNext old.ended (Some m) old.due old.unread (part p h.used h.due) = subst (λ (a : Option (List ℕ)). IsNext old.ended a old.due old.unread (part p h.used h.due)) asked h.next in
    subst (PartShape old.due p) (sym (ap (λ (r : Reading). r.due) h.is)) (next_shape old.ended m old.due old.unread (part p h.used h.due) next)

-- after the last part nothing is due
bare_done : (connection : List (List ℕ)) (length : BodyLength) → is_bare length ≡ true → due_behind done connection length ≡ done
bare_done connection nothing is = refl
bare_done connection (exactly n) is = absurd (cc)
bare_done connection chunked is = absurd (cc)
bare_done connection until_end is = absurd (cc)

pub last_done : (due : Due) (p : Part) (next : Due) → is_last p ≡ true → PartShape due p next → next ≡ done
last_done head (head_part h) next last shape = shape ∙ bare_done h.connection h.length last
last_done head (interim_part h) next last shape = absurd (cc)
last_done head (piece bytes e) next last shape = absurd shape
last_done head (trailer_part fields) next last shape = absurd shape
last_done (body b) (head_part h) next last shape = absurd shape
last_done (body b) (interim_part h) next last shape = absurd shape
last_done (body b) (piece bytes true) next last shape = shape
last_done (body b) (piece bytes false) next last shape = absurd (cc)
last_done (body b) (trailer_part fields) next last shape = shape
last_done done p next last shape = absurd shape

-- ---- a text that has ended leaves no rest

end_rests : (m : List ℕ) (used : ℕ) (fields : List Pair) → stop rest ≡ end_step (Some m) used fields → ⊥
end_rests m used [] is = absurd (cc)
end_rests m used (f ∷ fields) is = absurd (cc)

section_rests : (m : List ℕ) (connection : List (List ℕ)) (at : ℕ) (text : List ℕ) (cut : Cut) (c : trailing.ChunkStep) → trailing.IsEnd at text cut c → stop rest ≡ section_step true (Some m) connection c → ⊥
section_rests m connection at text (whole len) (trailing.carried run) e is = by e.trailers e.is
  where
    by : (o : Option (List Pair)) → trailing.carried run ≡ trailing.end_of (at + length (take len text)) o → ⊥
    by None is = absurd (cc)
    by (Some fields) is = absurd (cc)
section_rests m connection at text too_large (trailing.carried run) e is = absurd (cc)
section_rests m connection at text unfinished (trailing.carried run) e is = absurd (cc)
section_rests m connection at text cut (trailing.ended fields used) e is = end_rests m used (trailers_left (Some m) connection fields) is
section_rests m connection at text cut trailing.not_yet e is = absurd (cc)
section_rests m connection at text cut (trailing.refused number) e is = absurd (cc)

coded_rests : (m : List ℕ) (connection : List (List ℕ)) (text : List ℕ) (s : chunks.Sought) → IsCodedStep true (Some m) connection text s (stop rest) → ⊥
coded_rests m connection text (chunks.data_at at left) is = absurd (cc)
coded_rests m connection text (chunks.section_at at) is = section_rests m connection at (drop at text) (trailing.section_cut (drop at text)) is.0 is.1 is.2
coded_rests m connection text chunks.waiting is = absurd (cc)
coded_rests m connection text chunks.malformed is = absurd (cc)

counted_rests : (m : List ℕ) (n : ℕ) (text : List ℕ) → stop rest ≡ counted_step true (Some m) n text → ⊥
counted_rests m zero text is = absurd (cc)
counted_rests m (suc n) [] is = absurd (cc)
counted_rests m (suc n) (b ∷ text) is = absurd (cc)

unbounded_rests : (m text : List ℕ) → stop rest ≡ unbounded_step true (Some m) text → ⊥
unbounded_rests m [] is = absurd (cc)
unbounded_rests m (b ∷ text) is = absurd (cc)

body_rests : (m : List ℕ) (b : Body) (text : List ℕ) → BodyStepsTo true (Some m) b text (stop rest) → ⊥
body_rests m (counted n) text is = counted_rests m n text is
body_rests m (coded connection place) text is = coded_rests m connection text (chunks.sought place text) is
body_rests m unbounded text is = unbounded_rests m text is

head_rests : (m text : List ℕ) (h : HeadStep) → stop rest ≡ step_from true (Some m) text h → ⊥
head_rests m text (found h used) is = by (is_interim h.fields.kind) is
  where
    by : (b : Bool) → stop rest ≡ (if b then item (interim h) used head else item (response h) used (due_behind done h.connection h.length)) → ⊥
    by true is = absurd (cc)
    by false is = absurd (cc)
head_rests m text not_yet is = absurd (cc)
head_rests m text (refused number) is = absurd (cc)

step_rests : (m : List ℕ) (due : Due) (text : List ℕ) → StepsTo true (Some m) due text (stop rest) → ⊥
step_rests m head text x = head_rests m text x.0 x.2
step_rests m (body b) text x = body_rests m b text x
step_rests m done text x = absurd (cc)

alone_rests : (m : List ℕ) (due : Due) (text : List ℕ) (step : Step) → StepsTo true (Some m) due text step → by_itself step ≡ Some (none rest) → ⊥
alone_rests m due text (stop why) there is = let one : why ≡ rest = (cc) in step_rests m due text (subst (λ (w : Stop). StepsTo true (Some m) due text (stop w)) one there)
alone_rests m due text (item (request h) used next) there is = absurd (cc)
alone_rests m due text (item (interim h) used next) there is = absurd (cc)
alone_rests m due text (item (response h) used next) there is = absurd (cc)
alone_rests m due text (item (octet b) used next) there is = absurd (cc)
alone_rests m due text (item end used next) there is = absurd (cc)
alone_rests m due text (item (trailers fields) used next) there is = absurd (cc)

before_rests : (bytes : List ℕ) (used : ℕ) (mid : Due) (step : Step) → none rest ≡ piece_before bytes used mid step → ⊥
before_rests bytes used mid (item (request h) n next) is = absurd (cc)
before_rests bytes used mid (item (interim h) n next) is = absurd (cc)
before_rests bytes used mid (item (response h) n next) is = absurd (cc)
before_rests bytes used mid (item (octet b) n next) is = absurd (cc)
before_rests bytes used mid (item end n next) is = absurd (cc)
before_rests bytes used mid (item (trailers fields) n next) is = absurd (cc)
before_rests bytes used mid (stop why) is = absurd (cc)

pub ended_rests : (m : List ℕ) (due : Due) (text : List ℕ) → IsNext true (Some m) due text (none rest) → ⊥
ended_rests m due text (inl alone) = alone_rests m due text alone.step alone.there alone.is
ended_rests m due text (inr p) = before_rests p.bytes p.used p.mid p.behind p.is
