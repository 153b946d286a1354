-- What a reader hands on, by what is due.
use Rattle.std.proofs.Common.{◌≡◌, inl, inr, ℕ, zero, suc, ◌<◌, Bool, true, false, List, [], ◌∷◌, length, drop, refl, sym, subst, arith}
use Rattle.std.specs.Prelude.{Option, None, Some}
use Rattle.h1_model.specs.Chunks as chunks
use Rattle.h1_model.specs.Fields.{Pair}
use Rattle.h1_model.specs.Head.{Head, HeadStep, found, not_yet, refused}
use Rattle.h1_model.specs.Messages.{request, interim, response, octet, end, trailers, Body, counted, coded, unbounded, Due, head, body, done, over, Step, item, stop, StepsTo, BodyStepsTo, IsCodedStep, SpellsHead, due_behind, due_after, due_next, is_interim, item_of, step_from, counted_step, unbounded_step, end_step, section_step, trailers_left}
use Rattle.h1_model.specs.Trailers as trailing
use Rattle.h1_model.specs.Unread.{Part, head_part, interim_part, piece, trailer_part, Next, part, none, Carries, by_itself, piece_before, IsNoOctet, IsNext, due_at}
use Rattle.law_lines.proofs.Kept.{by_bool}

-- what is left of a body is due
abbrev pub InBody : Due → Type 0
InBody head = ⊥
InBody (body b) = Unit {0}
InBody done = ⊥

-- what is due after a head
abbrev pub due_past : Option (List ℕ) → Head → Due
due_past None h = due_after h
due_past (Some asked) h = due_behind done h.connection h.length

-- where a head is due, it is a head, or an interim one in front of a response
abbrev pub HeadNext : Option (List ℕ) → List ℕ → Part → ℕ → Due → Type 0
HeadNext asked text (head_part h) used due = SpellsHead asked text (found h used) × (due ≡ due_past asked h)
HeadNext None text (interim_part h) used due = ⊥
HeadNext (Some asked) text (interim_part h) used due = due ≡ head
HeadNext asked text (piece bytes last) used due = ⊥
HeadNext asked text (trailer_part fields) used due = ⊥

-- where a body is due, it is a piece or trailers
abbrev pub BodyNext : Option (List ℕ) → Part → Due → Type 0
BodyNext asked (head_part h) due = ⊥
BodyNext asked (interim_part h) due = ⊥
BodyNext asked (piece bytes false) due = InBody due
BodyNext asked (piece bytes true) due = due ≡ due_next asked
BodyNext asked (trailer_part fields) due = due ≡ due_next asked

-- ---- a head is due

abbrev AtHead : Option (List ℕ) → List ℕ → Option Next → Type 0
AtHead asked text None = Unit {0}
AtHead asked text (Some (none why)) = Unit {0}
AtHead asked text (Some (part p used due)) = HeadNext asked text p used due

response_alone : (asked : List ℕ) (text : List ℕ) (h : Head) (n : ℕ) → SpellsHead (Some asked) text (found h n) → AtHead (Some asked) text (by_itself (item_of (Some asked) h n))
response_alone asked text h n spells =
    by_bool (λ (s : Step). AtHead (Some asked) text (by_itself s)) (is_interim h.fields.kind) (item (interim h) n head) (item (response h) n (due_behind done h.connection h.length)) (λ e. refl) (λ e. (spells, refl))

alone_head : (ended : Bool) (asked : Option (List ℕ)) (text : List ℕ) (h : HeadStep) → SpellsHead asked text h → AtHead asked text (by_itself (step_from ended asked text h))
alone_head ended None text (found h n) spells = (spells, refl)
alone_head ended None text not_yet spells = tt
alone_head ended None text (refused n) spells = tt
alone_head ended (Some asked) text (found h n) spells = response_alone asked text h n spells
alone_head ended (Some asked) text not_yet spells = tt
alone_head ended (Some asked) text (refused n) spells = tt

no_octet_head : (ended : Bool) (asked : Option (List ℕ)) (text : List ℕ) (h : HeadStep) → IsNoOctet (step_from ended asked text h)
no_octet_head ended None text (found h n) = tt
no_octet_head ended None text not_yet = tt
no_octet_head ended None text (refused n) = tt
no_octet_head ended (Some asked) text (found h n) = by_bool IsNoOctet (is_interim h.fields.kind) (item (interim h) n head) (item (response h) n (due_behind done h.connection h.length)) (λ e. tt) (λ e. tt)
no_octet_head ended (Some asked) text not_yet = tt
no_octet_head ended (Some asked) text (refused n) = tt

no_bytes_head : (ended : Bool) (asked : Option (List ℕ)) (text bytes : List ℕ) (used : ℕ) (mid : Due) → 0 < length bytes → Carries ended asked head text bytes used mid → ⊥
no_bytes_head ended asked text [] used mid some carries = omega arith
no_bytes_head ended asked text (b ∷ bytes) used mid some carries = subst IsNoOctet (sym carries.3.2) (no_octet_head ended asked text carries.3.0)

pub head_next : (ended : Bool) (asked : Option (List ℕ)) (text : List ℕ) (p : Part) (used : ℕ) (due : Due) → IsNext ended asked head text (part p used due) → HeadNext asked text p used due
head_next ended asked text p used due (inl a) =
    subst (AtHead asked text) a.is (subst (λ (s : Step). AtHead asked text (by_itself s)) (sym a.there.2) (alone_head ended asked text a.there.0 a.there.1))
head_next ended asked text p used due (inr a) = absurd (no_bytes_head ended asked text a.bytes a.used a.mid a.some a.carried)

-- ---- a body is due

abbrev BodyStep : Option (List ℕ) → Step → Type 0
BodyStep asked (item (request h) n due) = ⊥
BodyStep asked (item (interim h) n due) = ⊥
BodyStep asked (item (response h) n due) = ⊥
BodyStep asked (item (octet b) n due) = InBody due
BodyStep asked (item end n due) = due ≡ due_next asked
BodyStep asked (item (trailers fields) n due) = due ≡ due_next asked
BodyStep asked (stop why) = Unit {0}

counted_is : (ended : Bool) (asked : Option (List ℕ)) (n : ℕ) (text : List ℕ) → BodyStep asked (counted_step ended asked n text)
counted_is ended asked zero text = refl
counted_is ended asked (suc n) [] = tt
counted_is ended asked (suc n) (b ∷ text) = tt

unbounded_is : (ended : Bool) (asked : Option (List ℕ)) (text : List ℕ) → BodyStep asked (unbounded_step ended asked text)
unbounded_is false asked [] = tt
unbounded_is true asked [] = refl
unbounded_is false asked (b ∷ text) = tt
unbounded_is true asked (b ∷ text) = tt

end_is : (asked : Option (List ℕ)) (used : ℕ) (fields : List Pair) → BodyStep asked (end_step asked used fields)
end_is asked used [] = refl
end_is asked used (f ∷ fields) = refl

section_is : (ended : Bool) (asked : Option (List ℕ)) (connection : List (List ℕ)) (c : trailing.ChunkStep) → BodyStep asked (section_step ended asked connection c)
section_is ended asked connection (trailing.carried run) = tt
section_is ended asked connection (trailing.ended fields used) = end_is asked used (trailers_left asked connection fields)
section_is ended asked connection trailing.not_yet = tt
section_is ended asked connection (trailing.refused number) = tt

coded_is : (ended : Bool) (asked : Option (List ℕ)) (connection : List (List ℕ)) (text : List ℕ) (s : chunks.Sought) (step : Step) → IsCodedStep ended asked connection text s step → BodyStep asked step
coded_is ended asked connection text (chunks.data_at at left) step is = subst (BodyStep asked) (sym is) tt
coded_is ended asked connection text (chunks.section_at at) step is = subst (BodyStep asked) (sym is.2) (section_is ended asked connection is.0)
coded_is ended asked connection text chunks.waiting step is = subst (BodyStep asked) (sym is) tt
coded_is ended asked connection text chunks.malformed step is = subst (BodyStep asked) (sym is) tt

body_is : (ended : Bool) (asked : Option (List ℕ)) (b : Body) (text : List ℕ) (step : Step) → BodyStepsTo ended asked b text step → BodyStep asked step
body_is ended asked (counted n) text step is = subst (BodyStep asked) (sym is) (counted_is ended asked n text)
body_is ended asked (coded connection place) text step is = coded_is ended asked connection text (chunks.sought place text) step is
body_is ended asked unbounded text step is = subst (BodyStep asked) (sym is) (unbounded_is ended asked text)

due_is : (ended : Bool) (asked : Option (List ℕ)) (due : Due) (text : List ℕ) (step : Step) → InBody due → StepsTo ended asked due text step → BodyStep asked step
due_is ended asked head text step inside is = absurd inside
due_is ended asked (body b) text step inside is = body_is ended asked b text step is
due_is ended asked done text step inside is = absurd inside

carries_on : (ended : Bool) (asked : Option (List ℕ)) (bytes : List ℕ) (due : Due) (text : List ℕ) (used : ℕ) (next : Due) → InBody due → Carries ended asked due text bytes used next → InBody next
carries_on ended asked [] due text used next inside carries = subst InBody (sym carries.1) inside
carries_on ended asked (b ∷ bytes) due text used next inside carries =
    carries_on ended asked bytes carries.2 (drop carries.0 text) carries.1 next (due_is ended asked due text (item (octet b) carries.0 carries.2) inside carries.3) carries.4

abbrev AtBody : Option (List ℕ) → Option Next → Type 0
AtBody asked None = Unit {0}
AtBody asked (Some (none why)) = Unit {0}
AtBody asked (Some (part p used due)) = BodyNext asked p due

alone_body : (asked : Option (List ℕ)) (step : Step) → BodyStep asked step → AtBody asked (by_itself step)
alone_body asked (item (request h) n due) is = absurd is
alone_body asked (item (interim h) n due) is = absurd is
alone_body asked (item (response h) n due) is = absurd is
alone_body asked (item (octet b) n due) is = tt
alone_body asked (item end n due) is = is
alone_body asked (item (trailers fields) n due) is = is
alone_body asked (stop why) is = tt

piece_body : (asked : Option (List ℕ)) (bytes : List ℕ) (used : ℕ) (mid : Due) (step : Step) → InBody mid → BodyStep asked step → AtBody asked (Some (piece_before bytes used mid step))
piece_body asked bytes used mid (item (request h) n due) inside is = absurd is
piece_body asked bytes used mid (item (interim h) n due) inside is = absurd is
piece_body asked bytes used mid (item (response h) n due) inside is = absurd is
piece_body asked bytes used mid (item (octet b) n due) inside is = inside
piece_body asked bytes used mid (item end n due) inside is = is
piece_body asked bytes used mid (item (trailers fields) n due) inside is = inside
piece_body asked bytes used mid (stop why) inside is = inside

pub body_next : (ended : Bool) (asked : Option (List ℕ)) (due : Due) (text : List ℕ) (p : Part) (used : ℕ) (next : Due) → InBody due → IsNext ended asked due text (part p used next) → BodyNext asked p next
body_next ended asked due text p used next inside (inl a) =
    subst (AtBody asked) a.is (alone_body asked a.step (due_is ended asked due text a.step inside a.there))
body_next ended asked due text p used next inside (inr a) =
    let mid : InBody a.mid = carries_on ended asked a.bytes due text a.used a.mid inside a.carried in
    subst (λ (x : Next). AtBody asked (Some x)) (sym a.is) (piece_body asked a.bytes a.used a.mid a.behind mid (due_is ended asked a.mid (drop a.used text) a.behind mid a.there))

-- ---- nothing is due

pub done_next : (ended : Bool) (asked : Option (List ℕ)) (text : List ℕ) (p : Part) (used : ℕ) (next : Due) → IsNext ended asked done text (part p used next) → ⊥
done_next ended asked text p used next (inl a) = let e : by_itself (stop over) ≡ Some (part p used next) = subst (λ (s : Step). by_itself s ≡ Some (part p used next)) a.there a.is in absurd (cc)
done_next ended asked text p used next (inr a) = never a.bytes a.some a.carried
  where
    never : (bytes : List ℕ) → 0 < length bytes → Carries ended asked done text bytes a.used a.mid → ⊥
    never [] some carries = omega arith
    never (b ∷ bytes) some carries = let e : item (octet b) carries.0 carries.2 ≡ stop over = carries.3 in absurd (cc)

-- what it waits for is of the kind that was due
pub waits_in : (due : Due) (text : List ℕ) → InBody due → InBody (due_at due text)
waits_in head text inside = inside
waits_in (body (counted n)) text inside = tt
waits_in (body (coded connection place)) text inside = tt
waits_in (body unbounded) text inside = tt
waits_in done text inside = inside
