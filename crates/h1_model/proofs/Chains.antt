-- Items that a text spells one after the other, from one place on to another, and those that a part says.
use Rattle.std.proofs.Common.{◌≡◌, ℕ, zero, suc, ◌+◌, ◌-◌, ◌<◌, ◌≤◌, Bool, true, false, cond, List, [], ◌∷◌, ◌++◌, map, length, drop, get_or, Option, None, Some, option_map, refl, sym, ap, ◌∙◌, subst, inl, inr, arith}
use Rattle.std.proofs.lemmas.Bool.{false≢true}
use Rattle.std.proofs.lemmas.List.{drop-drop, drop-append-le, append-nil, map-append}
use Rattle.std.specs.Prelude.{◌⊎◌}
use Rattle.h1_model.specs.Fields.{Pair}
use Rattle.h1_model.specs.Lines.{empty_line_bytes, after_empty_lines}
use Rattle.h1_model.specs.Head.{Head, HeadStep, found, not_yet, refused}
use Rattle.h1_model.specs.Chunks as chunks
use Rattle.h1_model.specs.Trailers as trailing
use Rattle.h1_model.specs.Messages.{Item, request, interim, response, octet, end, trailers, Placed, Body, counted, coded, unbounded, Due, head, body, done, Stop, rest, over, refusal, Step, item, stop, due_behind, due_next, is_interim, stop_at, step_from, malformed_status, stop_short, counted_step, unbounded_step, trailers_left, end_step, section_step, IsCodedStep, BodyStepsTo, StepsTo, lead_of, SpellsFrom}
use Rattle.h1_model.specs.Unread.{Part, head_part, interim_part, piece, trailer_part, Next, part, none, Carries, by_itself, piece_before, IsNext, head_item, items_in}
use Rattle.h1_model.specs.ReadingLaws.{item_at}
use Rattle.h1_model.proofs.Readings.{item_stays, item_is_no_stop, same_item, place_fits}
use Rattle.h1_model.proofs.Parts.{head_item_behind, same_part, same_next}
use Rattle.h1_model.proofs.Sections.{section_goes_behind, no_section_octet}

-- ---- chains

-- from the place `at` on, where that is due, the text spells these items up to the place `to`, where `next` is due
abbrev pub Chain : List ℕ → Bool → Option (List ℕ) → Due → ℕ → List Placed → Due → ℕ → Type 0
Chain text ended asked due at [] next to = (next ≡ due) × (to ≡ at)
Chain text ended asked due at (placed ∷ items) next to =
    (used : ℕ) × (mid : Due) × StepsTo ended asked due (drop at text) (item placed.item used mid)
    × (placed.from ≡ at + lead_of due (drop at text)) × (placed.to ≡ at + used)
    × Chain text ended asked mid (at + used) items next to

pub chain_joins : (text : List ℕ) (ended : Bool) (asked : Option (List ℕ)) (due : Due) (at : ℕ) (xs ys : List Placed) (mid next : Due) (to far : ℕ)
    → Chain text ended asked due at xs mid to → Chain text ended asked mid to ys next far → Chain text ended asked due at (xs ++ ys) next far
chain_joins text ended asked due at [] ys mid next to far x y =
    subst (λ (d : Due). Chain text ended asked d at ys next far) x.0 (subst (λ (n : ℕ). Chain text ended asked mid n ys next far) x.1 y)
chain_joins text ended asked due at (p ∷ xs) ys mid next to far x y =
    (x.0, x.1, x.2, x.3, x.4, chain_joins text ended asked x.1 (at + x.0) xs ys mid next to far x.5 y)

-- the text spells a chain of items, and then stops
pub chain_spells : (text : List ℕ) (ended : Bool) (asked : Option (List ℕ)) (due : Due) (at : ℕ) (items : List Placed) (next : Due) (to : ℕ) (why : Stop)
    → Chain text ended asked due at items next to → StepsTo ended asked next (drop to text) (stop why) → SpellsFrom text ended asked due at items why
chain_spells text ended asked due at [] next to why x there =
    subst (λ (d : Due). StepsTo ended asked d (drop at text) (stop why)) x.0
    (subst (λ (n : ℕ). StepsTo ended asked next (drop n text) (stop why)) x.1 there)
chain_spells text ended asked due at (p ∷ items) next to why x there =
    (x.0, x.1, x.2, x.3, x.4, chain_spells text ended asked x.1 (at + x.0) items next to why x.5 there)

-- a chain in a text that goes on is one in every longer text
pub chain_grows : (text more : List ℕ) (ended : Bool) (asked : Option (List ℕ)) (due : Due) (at : ℕ) (items : List Placed) (next : Due) (to : ℕ)
    → at ≤ length text → Chain text false asked due at items next to → Chain (text ++ more) ended asked due at items next to
chain_grows text more ended asked due at [] next to fits x = x
chain_grows text more ended asked due at (p ∷ items) next to fits x =
    let s = item_stays ended asked due (drop at text) more p.item x.0 x.1 x.2 in
    let split : drop at (text ++ more) ≡ drop at text ++ more = drop-append-le at text more fits in
    let there : StepsTo ended asked due (drop at (text ++ more)) (item p.item x.0 x.1) =
    subst (λ (t : List ℕ). StepsTo ended asked due t (item p.item x.0 x.1)) (sym split) s.there in
    let lead : lead_of due (drop at (text ++ more)) ≡ lead_of due (drop at text) = ap (lead_of due) split ∙ s.lead in (
      x.0,
      x.1,
      there,
      x.3 ∙ ap (λ n. at + n) (sym lead),
      x.4,
      chain_grows text more ended asked x.1 (at + x.0) items next to (place_fits text asked due at p.item x.0 x.1 fits x.2) x.5,
    )

pub chain_fits : (text : List ℕ) (asked : Option (List ℕ)) (due : Due) (at : ℕ) (items : List Placed) (next : Due) (to : ℕ)
    → at ≤ length text → Chain text false asked due at items next to → to ≤ length text
chain_fits text asked due at [] next to fits x = omega (arith, x.1)
chain_fits text asked due at (p ∷ items) next to fits x =
    chain_fits text asked x.1 (at + x.0) items next to (place_fits text asked due at p.item x.0 x.1 fits x.2) x.5

-- an item in its place
abbrev pub placed_at : (text : List ℕ) (due : Due) (at used : ℕ) (i : Item) → Placed
placed_at text due at used i = record { item = i; from = at + lead_of due (drop at text); to = at + used }

pub one_item : (text : List ℕ) (ended : Bool) (asked : Option (List ℕ)) (due : Due) (at : ℕ) (i : Item) (used : ℕ) (next : Due)
    → StepsTo ended asked due (drop at text) (item i used next) → Chain text ended asked due at (placed_at text due at used i ∷ []) next (at + used)
one_item text ended asked due at i used next there = (used, next, there, refl, refl, (refl, refl))

-- ---- which items come where

-- an item of a body
abbrev is_in_body : Item → Bool
is_in_body (request h) = false
is_in_body (interim h) = false
is_in_body (response h) = false
is_in_body (octet b) = true
is_in_body end = true
is_in_body (trailers fields) = true

in_body : (i j : Item) (n m : ℕ) (d e : Due) → item i n d ≡ item j m e → is_in_body j ≡ true → is_in_body i ≡ true
in_body i j n m d e same is = ap is_in_body (same_item i j n m d e same).0 ∙ is

end_in_body : (asked : Option (List ℕ)) (m : ℕ) (fields : List Pair) (i : Item) (n : ℕ) (d : Due) → item i n d ≡ end_step asked m fields → is_in_body i ≡ true
end_in_body asked m [] i n d e = in_body i end n m d (due_next asked) e refl
end_in_body asked m (f ∷ fields) i n d e = in_body i (trailers (f ∷ fields)) n m d (due_next asked) e refl

counted_in_body : (ended : Bool) (asked : Option (List ℕ)) (k : ℕ) (text : List ℕ) (i : Item) (n : ℕ) (d : Due) → item i n d ≡ counted_step ended asked k text
    → is_in_body i ≡ true
counted_in_body ended asked zero text i n d e = in_body i end n 0 d (due_next asked) e refl
counted_in_body ended asked (suc k) [] i n d e = absurd (item_is_no_stop i n d (stop_short ended asked) e)
counted_in_body ended asked (suc k) (b ∷ text) i n d e = in_body i (octet b) n 1 d (body (counted k)) e refl

unbounded_in_body : (ended : Bool) (asked : Option (List ℕ)) (text : List ℕ) (i : Item) (n : ℕ) (d : Due) → item i n d ≡ unbounded_step ended asked text
    → is_in_body i ≡ true
unbounded_in_body false asked [] i n d e = absurd (item_is_no_stop i n d rest e)
unbounded_in_body true asked [] i n d e = in_body i end n 0 d (due_next asked) e refl
unbounded_in_body ended asked (b ∷ text) i n d e = in_body i (octet b) n 1 d (body unbounded) e refl

coded_in_body : (ended : Bool) (asked : Option (List ℕ)) (connection : List (List ℕ)) (text : List ℕ) (s : chunks.Sought) (i : Item) (n : ℕ) (d : Due)
    → IsCodedStep ended asked connection text s (item i n d) → is_in_body i ≡ true
coded_in_body ended asked connection text (chunks.data_at at left) i n d e =
    in_body i (octet (get_or text at 0)) n (at + 1) d (body (coded connection (chunks.inside (left - 1)))) e refl
coded_in_body ended asked connection text (chunks.section_at at) i n d x = by_step x.0 x.2
  where
    by_step : (c : trailing.ChunkStep) → item i n d ≡ section_step ended asked connection c → is_in_body i ≡ true
    by_step (trailing.carried run) e = absurd (item_is_no_stop i n d rest e)
    by_step trailing.not_yet e = absurd (item_is_no_stop i n d (stop_short ended asked) e)
    by_step (trailing.refused k) e = absurd (item_is_no_stop i n d (malformed_status asked) e)
    by_step (trailing.ended fields m) e = end_in_body asked m (trailers_left asked connection fields) i n d e
coded_in_body ended asked connection text chunks.waiting i n d e = absurd (item_is_no_stop i n d (stop_short ended asked) e)
coded_in_body ended asked connection text chunks.malformed i n d e = absurd (item_is_no_stop i n d (malformed_status asked) e)

body_item : (ended : Bool) (asked : Option (List ℕ)) (b : Body) (text : List ℕ) (i : Item) (n : ℕ) (d : Due) → BodyStepsTo ended asked b text (item i n d)
    → is_in_body i ≡ true
body_item ended asked (counted k) text i n d x = counted_in_body ended asked k text i n d x
body_item ended asked (coded connection place) text i n d x = coded_in_body ended asked connection text (chunks.sought place text) i n d x
body_item ended asked unbounded text i n d x = unbounded_in_body ended asked text i n d x

-- the head that comes where one is due
record IsHeadItem (asked : Option (List ℕ)) (i : Item) : Type 0 where
  of : Head
  kind : (i ≡ interim of) ⊎ (i ≡ head_item asked of)

head_step_item : (ended : Bool) (asked : Option (List ℕ)) (text : List ℕ) (i : Item) (n : ℕ) (d : Due) → StepsTo ended asked head text (item i n d)
    → IsHeadItem asked i
head_step_item ended asked text i n d x = by_step asked x.0 x.2
  where
    by_step : (asked : Option (List ℕ)) (a : HeadStep) → item i n d ≡ step_from ended asked text a → IsHeadItem asked i
    by_step None (found h m) e =
        record { of = h; kind = inr (same_item i (request h) n m d (due_behind head h.connection h.length) e).0 }
    by_step (Some asked) (found h m) e = by_kind (is_interim h.fields.kind) e
      where
        by_kind : (b : Bool) → item i n d ≡ cond b (item (interim h) m head) (item (response h) m (due_behind done h.connection h.length)) → IsHeadItem (Some asked) i
        by_kind true e = record { of = h; kind = inl (same_item i (interim h) n m d head e).0 }
        by_kind false e = record { of = h; kind = inr (same_item i (response h) n m d (due_behind done h.connection h.length) e).0 }
    by_step asked not_yet e = absurd (item_is_no_stop i n d (stop_at ended asked text) e)
    by_step asked (refused k) e = absurd (item_is_no_stop i n d (refusal k) e)

no_body_item : (asked : Option (List ℕ)) (i : Item) → IsHeadItem asked i → is_in_body i ≡ false
no_body_item asked i x = by_kind asked x.kind
  where
    by_kind : (asked : Option (List ℕ)) → (i ≡ interim x.of) ⊎ (i ≡ head_item asked x.of) → is_in_body i ≡ false
    by_kind asked (inl is) = ap is_in_body is
    by_kind None (inr is) = ap is_in_body is
    by_kind (Some asked) (inr is) = ap is_in_body is

-- a head is one of the side that is read
request_is : (ended : Bool) (asked : Option (List ℕ)) (due : Due) (text : List ℕ) (h : Head) (n : ℕ) (d : Due)
    → StepsTo ended asked due text (item (request h) n d) → request h ≡ head_item asked h
request_is ended None due text h n d x = refl
request_is ended (Some asked) head text h n d x = by_kind (head_step_item ended (Some asked) text (request h) n d x)
  where
    no_interim : (g : Head) → request h ≡ interim g → ⊥
    no_interim g e = cc

    no_response : (g : Head) → request h ≡ response g → ⊥
    no_response g e = cc

    by_item : (g : Head) → (request h ≡ interim g) ⊎ (request h ≡ response g) → request h ≡ response h
    by_item g (inl e) = absurd (no_interim g e)
    by_item g (inr e) = absurd (no_response g e)

    by_kind : IsHeadItem (Some asked) (request h) → request h ≡ response h
    by_kind k = by_item k.of k.kind
request_is ended (Some asked) (body b) text h n d x = absurd (false≢true (body_item ended (Some asked) b text (request h) n d x))
request_is ended (Some asked) done text h n d x = absurd (item_is_no_stop (request h) n d over x)

response_is : (ended : Bool) (asked : Option (List ℕ)) (due : Due) (text : List ℕ) (h : Head) (n : ℕ) (d : Due)
    → StepsTo ended asked due text (item (response h) n d) → response h ≡ head_item asked h
response_is ended (Some asked) due text h n d x = refl
response_is ended None head text h n d x = by_kind (head_step_item ended None text (response h) n d x)
  where
    no_interim : (g : Head) → response h ≡ interim g → ⊥
    no_interim g e = cc

    no_request : (g : Head) → response h ≡ request g → ⊥
    no_request g e = cc

    by_item : (g : Head) → (response h ≡ interim g) ⊎ (response h ≡ request g) → response h ≡ request h
    by_item g (inl e) = absurd (no_interim g e)
    by_item g (inr e) = absurd (no_request g e)

    by_kind : IsHeadItem None (response h) → response h ≡ request h
    by_kind k = by_item k.of k.kind
response_is ended None (body b) text h n d x = absurd (false≢true (body_item ended None b text (response h) n d x))
response_is ended None done text h n d x = absurd (item_is_no_stop (response h) n d over x)

-- ---- the items of a part

pub record PartChain (text : List ℕ) (ended : Bool) (asked : Option (List ℕ)) (due : Due) (at : ℕ) (p : Part) (next : Due) (to : ℕ) : Type 0 where
  pub items : List Placed
  pub chain : Chain text ended asked due at items next to
  pub same : map item_at items ≡ items_in asked p

chain_alone : (text : List ℕ) (ended : Bool) (asked : Option (List ℕ)) (due : Due) (at : ℕ) (p : Part) (used : ℕ) (next : Due) (s : Step)
    → StepsTo ended asked due (drop at text) s → by_itself s ≡ Some (part p used next) → PartChain text ended asked due at p next (at + used)
chain_alone text ended asked due at p used next s = by_step s
  where
    made : (i : Item) (q : Part) (n : ℕ) (d : Due) → StepsTo ended asked due (drop at text) (item i n d) → Some (part q n d) ≡ Some (part p used next)
        → i ∷ [] ≡ items_in asked q → PartChain text ended asked due at p next (at + used)
    made i q n d there e is =
        let same = same_part q p n used d next e in
        let used_moved : StepsTo ended asked due (drop at text) (item i used d) =
        subst (λ (k : ℕ). StepsTo ended asked due (drop at text) (item i k d)) same.1 there in
        let moved : StepsTo ended asked due (drop at text) (item i used next) =
        subst (λ (c : Due). StepsTo ended asked due (drop at text) (item i used c)) same.2 used_moved in
        record {
          items = placed_at text due at used i ∷ [];
          chain = one_item text ended asked due at i used next moved;
          same = is ∙ ap (items_in asked) same.0;
        }

    by_step : (s : Step) → StepsTo ended asked due (drop at text) s → by_itself s ≡ Some (part p used next)
        → PartChain text ended asked due at p next (at + used)
    by_step (item (request h) n d) there e =
        made (request h) (head_part h) n d there e (ap (λ (i : Item). i ∷ []) (request_is ended asked due (drop at text) h n d there))
    by_step (item (interim h) n d) there e = made (interim h) (interim_part h) n d there e refl
    by_step (item (response h) n d) there e =
        made (response h) (head_part h) n d there e (ap (λ (i : Item). i ∷ []) (response_is ended asked due (drop at text) h n d there))
    by_step (item (octet b) n d) there e = absurd (cc)
    by_step (item end n d) there e = made end (piece [] true) n d there e refl
    by_step (item (trailers fields) n d) there e = made (trailers fields) (trailer_part fields) n d there e refl
    by_step (stop why) there e = absurd (no_part e)
      where
        no_part : ◌≡◌ {A = Option Next} (Some (none why)) (Some (part p used next)) → ⊥
        no_part e = cc

-- the bytes of a run
pub record RunChain (text : List ℕ) (ended : Bool) (asked : Option (List ℕ)) (due : Due) (at : ℕ) (bytes : List ℕ) (next : Due) (to : ℕ) : Type 0 where
  pub items : List Placed
  pub chain : Chain text ended asked due at items next to
  pub same : map item_at items ≡ map octet bytes

pub chain_run : (text : List ℕ) (ended : Bool) (asked : Option (List ℕ)) (due : Due) (at : ℕ) (bytes : List ℕ) (used : ℕ) (next : Due)
    → Carries ended asked due (drop at text) bytes used next → RunChain text ended asked due at bytes next (at + used)
chain_run text ended asked due at [] used next x = record { items = []; chain = (x.1, omega (arith, x.0)); same = refl }
chain_run text ended asked due at (b ∷ bytes) used next x =
    let carried : Carries ended asked x.2 (drop (at + x.0) text) bytes x.1 next =
    subst (λ (t : List ℕ). Carries ended asked x.2 t bytes x.1 next) (drop-drop x.0 at text) x.4 in
    let r = chain_run text ended asked x.2 (at + x.0) bytes x.1 next carried in
    let place : at + x.0 + x.1 ≡ at + used = omega (arith, x.5) in
    record {
      items = placed_at text due at x.0 (octet b) ∷ r.items;
      chain = (
        x.0,
        x.2,
        x.3,
        refl,
        refl,
        subst (λ (n : ℕ). Chain text ended asked x.2 (at + x.0) r.items next n) place r.chain,
      );
      same = ap (λ (is : List Item). octet b ∷ is) r.same;
    }

chain_piece : (text : List ℕ) (ended : Bool) (asked : Option (List ℕ)) (due : Due) (at : ℕ) (p : Part) (used : ℕ) (next : Due)
    → (bytes : List ℕ) (m : ℕ) (mid : Due) (s : Step) → RunChain text ended asked due at bytes mid (at + m)
    → StepsTo ended asked mid (drop (at + m) text) s → part p used next ≡ piece_before bytes m mid s
    → PartChain text ended asked due at p next (at + used)
chain_piece text ended asked due at p used next bytes m mid s r = by_step s
  where
    bare : part p used next ≡ part (piece bytes false) m mid → PartChain text ended asked due at p next (at + used)
    bare e =
        let same = same_next p (piece bytes false) used m next mid e in
        let due_moved : Chain text ended asked due at r.items next (at + m) =
        subst (λ (d : Due). Chain text ended asked due at r.items d (at + m)) (sym same.2) r.chain in
        record {
          items = r.items;
          chain = subst (λ (n : ℕ). Chain text ended asked due at r.items next (at + n)) (sym same.1) due_moved;
          same = r.same ∙ sym (append-nil (map octet bytes)) ∙ ap (items_in asked) (sym same.0);
        }

    by_step : (s : Step) → StepsTo ended asked mid (drop (at + m) text) s → part p used next ≡ piece_before bytes m mid s
        → PartChain text ended asked due at p next (at + used)
    by_step (item (request h) n d) there e = bare e
    by_step (item (interim h) n d) there e = bare e
    by_step (item (response h) n d) there e = bare e
    by_step (item (octet b) n d) there e = bare e
    by_step (item (trailers fields) n d) there e = bare e
    by_step (stop why) there e = bare e
    by_step (item end n d) there e =
        let same = same_next p (piece bytes true) used (m + n) next d e in
        let last : List Placed = placed_at text mid (at + m) n end ∷ [] in
        let joined : Chain text ended asked due at (r.items ++ last) d (at + m + n) =
        chain_joins text ended asked due at r.items last mid d (at + m) (at + m + n) r.chain (one_item text ended asked mid (at + m) end n d there) in
        let place : at + m + n ≡ at + used = omega (arith, same.1) in
        let due_moved : Chain text ended asked due at (r.items ++ last) next (at + m + n) =
        subst (λ (c : Due). Chain text ended asked due at (r.items ++ last) c (at + m + n)) (sym same.2) joined in
        record {
          items = r.items ++ last;
          chain = subst (λ (k : ℕ). Chain text ended asked due at (r.items ++ last) next k) place due_moved;
          same = map-append item_at r.items last ∙ ap (λ (is : List Item). is ++ (end ∷ [])) r.same ∙ ap (items_in asked) (sym same.0);
        }

pub chain_part : (text : List ℕ) (ended : Bool) (asked : Option (List ℕ)) (due : Due) (at : ℕ) (p : Part) (used : ℕ) (next : Due)
    → IsNext ended asked due (drop at text) (part p used next) → PartChain text ended asked due at p next (at + used)
chain_part text ended asked due at p used next (inl x) = chain_alone text ended asked due at p used next x.step x.there x.is
chain_part text ended asked due at p used next (inr x) =
    let there : StepsTo ended asked x.mid (drop (at + x.used) text) x.behind =
    subst (λ (t : List ℕ). StepsTo ended asked x.mid t x.behind) (drop-drop x.used at text) x.there in
    chain_piece text ended asked due at p used next x.bytes x.used x.mid x.behind (chain_run text ended asked due at x.bytes x.used x.mid x.carried) there x.is

-- ---- a part behind empty lines

abbrev more : ℕ → Next → Next
more k (part p used next) = part p (k + used) next
more k (none why) = none why

more_alone : (k : ℕ) (i : Item) (n : ℕ) (d : Due) → by_itself (item i (k + n) d) ≡ option_map (more k) (by_itself (item i n d))
more_alone k (request h) n d = refl
more_alone k (interim h) n d = refl
more_alone k (response h) n d = refl
more_alone k (octet b) n d = refl
more_alone k end n d = refl
more_alone k (trailers fields) n d = refl

-- what is unread next after a last chunk's line is so in front of it
pub section_part_behind : (ended : Bool) (asked : Option (List ℕ)) (connection : List (List ℕ)) (place : chunks.Place) (k : ℕ) (text : List ℕ)
    → (p : Part) (used : ℕ) (next : Due) → chunks.sought place text ≡ chunks.section_at k
    → IsNext ended asked (body (coded connection chunks.section)) (drop k text) (part p used next)
    → IsNext ended asked (body (coded connection place)) text (part p (k + used) next)
section_part_behind ended asked connection place k text p used next is (inl x) = by_step x.step x.there x.is
  where
    by_step : (a : Step) → StepsTo ended asked (body (coded connection chunks.section)) (drop k text) a → by_itself a ≡ Some (part p used next)
        → IsNext ended asked (body (coded connection place)) text (part p (k + used) next)
    by_step (item i n d) there e = inl (record {
      step = item i (k + n) d;
      there = subst (λ (s : chunks.Sought). IsCodedStep ended asked connection text s (item i (k + n) d)) (sym is)
          (section_goes_behind ended asked connection k (drop k text) (item i n d) there);
      is = more_alone k i n d ∙ ap (option_map (more k)) e;
    })
    by_step (stop why) there e = absurd (no_part e)
      where
        no_part : ◌≡◌ {A = Option Next} (Some (none why)) (Some (part p used next)) → ⊥
        no_part e = cc
section_part_behind ended asked connection place k text p used next is (inr x) = absurd (no_bytes x.bytes x.used x.mid x.carried x.some)
  where
    no_bytes : (bytes : List ℕ) (n : ℕ) (mid : Due) → Carries ended asked (body (coded connection chunks.section)) (drop k text) bytes n mid → 0 < length bytes → ⊥
    no_bytes [] n mid c some = omega arith
    no_bytes (b ∷ bytes) n mid c some = no_section_octet ended asked connection (drop k text) b c.0 c.2 c.3

-- where a head is due, what is unread next behind empty lines is so in front of them
pub head_part_behind : (ended : Bool) (asked : Option (List ℕ)) (k : ℕ) (s t : List ℕ) (p : Part) (used : ℕ) (next : Due) → empty_line_bytes s ≡ k + empty_line_bytes t
    → after_empty_lines s ≡ after_empty_lines t → IsNext ended asked head t (part p used next) → IsNext ended asked head s (part p (k + used) next)
head_part_behind ended asked k s t p used next further same (inl x) = by_step x.step x.there x.is
  where
    by_step : (a : Step) → StepsTo ended asked head t a → by_itself a ≡ Some (part p used next) → IsNext ended asked head s (part p (k + used) next)
    by_step (item i n d) there e = inl (record {
      step = item i (k + n) d;
      there = head_item_behind ended asked k s t i n d further same there;
      is = more_alone k i n d ∙ ap (option_map (more k)) e;
    })
    by_step (stop why) there e = absurd (no_part e)
      where
        no_part : ◌≡◌ {A = Option Next} (Some (none why)) (Some (part p used next)) → ⊥
        no_part e = cc
head_part_behind ended asked k s t p used next further same (inr x) = absurd (no_bytes x.bytes x.used x.mid x.carried x.some)
  where
    no_bytes : (bytes : List ℕ) (n : ℕ) (mid : Due) → Carries ended asked head t bytes n mid → 0 < length bytes → ⊥
    no_bytes [] n mid c some = omega arith
    no_bytes (b ∷ bytes) n mid c some =
        false≢true (sym (no_body_item asked (octet b) (head_step_item ended asked t (octet b) c.0 c.2 c.3)))
