-- What is written of a body is read back as its bytes and its end.
use Rattle.std.proofs.Common.{◌≡◌, ℕ, ◌+◌, ◌-◌, ◌≤◌, Bool, true, false, cond, eqb, List, [], ◌∷◌, ◌++◌, length, take, drop, map, Option, None, Some, refl, sym, ap, subst, ◌∙◌, append_assoc, arith}
use Rattle.std.proofs.lemmas.Bool.{eqb-true}
use Rattle.std.proofs.lemmas.List.{append-nil, length-append, map-append, take_all, nil_from_length}
use Rattle.std.proofs.Math.Seq.{drop-append-add, drop-append_seam}
use Rattle.std.specs.List.{concat, list_all}
use Rattle.h1_model.specs.Chunks.{start, run_of}
use Rattle.h1_model.specs.Fields.{Pair}
use Rattle.h1_model.specs.Framing.{Framing, no_body, by_length, by_chunks, by_close, piece_wire, trailer_wire, items_wire}
use Rattle.h1_model.specs.Length.{nothing, exactly}
use Rattle.h1_model.specs.Messages.{Item, octet, end, Placed, Due, body, counted, coded, unbounded, Stop, Step, item, due_behind, due_next, end_step, section_step, trailers_left, StepsTo, SpellsFrom}
use Rattle.h1_model.specs.ReadingLaws.{item_at}
use Rattle.h1_model.specs.Trailers as trailing
use Rattle.h1_model.specs.Unread.{Carries}
use Rattle.h1_model.specs.Wire.{sent_fields}
use Rattle.h1_model.proofs.Carried.{run_carries, take_carries, take_carries_unbounded, coded_there}
use Rattle.h1_model.proofs.Chains.{Chain, chain_joins, chain_grows, placed_at, one_item, RunChain, chain_run}
use Rattle.h1_write.specs.Laws.{is_short, EndsThere, read_field, body_wire, trailed_wire}
use Rattle.h1_write.specs.Round.{Ending, last_bytes, last_trailers, body_items, all_pieces, body_bytes, FitsSection, length_said, end_item, items_read, place_behind, ReadsAs, BodyReadBack}
use Rattle.h1_write.proofs.Back.{pieces_read_back, end_read_back, trailers_read_back}
use Rattle.h1_write.proofs.Ending.{trailed_end_read_back}

-- ---- chains of items

-- what is spelled after a chain is spelled after its items
chain_then : (text : List ℕ) (ended : Bool) (asked : Option (List ℕ)) (due : Due) (at : ℕ) (xs ys : List Placed) (mid : Due) (to : ℕ) (why : Stop)
    → Chain text ended asked due at xs mid to → SpellsFrom text ended asked mid to ys why → SpellsFrom text ended asked due at (xs ++ ys) why
chain_then text ended asked due at [] ys mid to why x y =
    subst (λ (d : Due). SpellsFrom text ended asked d at ys why) x.0 (subst (λ (n : ℕ). SpellsFrom text ended asked mid n ys why) x.1 y)
chain_then text ended asked due at (p ∷ xs) ys mid to why x y =
    (x.0, x.1, x.2, x.3, x.4, chain_then text ended asked x.1 (at + x.0) xs ys mid to why x.5 y)

chain_place : (text : List ℕ) (ended : Bool) (asked : Option (List ℕ)) (due : Due) (at : ℕ) (xs : List Placed) (mid : Due) (to : ℕ)
    → Chain text ended asked due at xs mid to → place_behind at xs ≡ to
chain_place text ended asked due at [] mid to x = sym x.1
chain_place text ended asked due at (p ∷ xs) mid to x =
    ap (λ n. place_behind n xs) x.4 ∙ chain_place text ended asked x.1 (at + x.0) xs mid to x.5

-- a chain of these items
pub record Chained (text : List ℕ) (ended : Bool) (asked : Option (List ℕ)) (due : Due) (at : ℕ) (items : List Item) (next : Due) (to : ℕ) : Type 0 where
  pub placed : List Placed
  pub chain : Chain text ended asked due at placed next to
  pub are : map item_at placed ≡ items

-- bytes of a body, and an item after them
run_then : (text : List ℕ) (ended : Bool) (asked : Option (List ℕ)) (due : Due) (at : ℕ) (bytes : List ℕ) (mid : Due) (to : ℕ) (i : Item) (used : ℕ) (next : Due)
    → RunChain text ended asked due at bytes mid to → StepsTo ended asked mid (drop to text) (item i used next)
    → Chained text ended asked due at (map octet bytes ++ i ∷ []) next (to + used)
run_then text ended asked due at bytes mid to i used next r there =
    let last : List Placed = placed_at text mid to used i ∷ [] in
    record {
      placed = r.items ++ last;
      chain = chain_joins text ended asked due at r.items last mid next to (to + used) r.chain (one_item text ended asked mid to i used next there);
      are = map-append item_at r.items last ∙ ap (λ (is : List Item). is ++ i ∷ []) r.same;
    }

-- a chain over all of the wire, in the text up to its end or with what is behind
reads_chain : (ended : Bool) (asked : Option (List ℕ)) (due : Due) (front wire behind : List ℕ) (items : List Item) (next : Due)
    → Chained (front ++ (wire ++ behind)) ended asked due (length front) items next (length (front ++ wire))
    → ReadsAs ended asked due front wire behind items next
reads_chain ended asked due front wire behind items next c = record {
  placed = c.placed;
  are = c.are;
  uses_all = chain_place (front ++ (wire ++ behind)) ended asked due (length front) c.placed next (length (front ++ wire)) c.chain;
  spelled = λ later why. λ x. chain_then (front ++ (wire ++ behind)) ended asked due (length front) c.placed later next (length (front ++ wire)) why c.chain x;
}

pub reads_grown : (ended : Bool) (asked : Option (List ℕ)) (due : Due) (front wire behind : List ℕ) (items : List Item) (next : Due)
    → Chained (front ++ wire) false asked due (length front) items next (length (front ++ wire)) → ReadsAs ended asked due front wire behind items next
reads_grown ended asked due front wire behind items next c =
    let fits : length front ≤ length (front ++ wire) = omega (arith, length-append front wire) in
    let longer : Chain ((front ++ wire) ++ behind) ended asked due (length front) c.placed next (length (front ++ wire)) =
    chain_grows (front ++ wire) behind ended asked due (length front) c.placed next (length (front ++ wire)) fits c.chain in
    let moved : Chain (front ++ (wire ++ behind)) ended asked due (length front) c.placed next (length (front ++ wire)) =
    subst (λ (t : List ℕ). Chain t ended asked due (length front) c.placed next (length (front ++ wire))) (append_assoc front wire behind) longer in
    reads_chain ended asked due front wire behind items next (record { placed = c.placed; chain = moved; are = c.are })

-- ---- bodies

-- the bytes of a body after the front of a text, and its end after them
carried_chain : (ended : Bool) (asked : Option (List ℕ)) (due : Due) (front wire bytes : List ℕ) (used : ℕ) (mid : Due) (i : Item) (last : ℕ) (next : Due)
    → Carries ended asked due wire bytes used mid → StepsTo ended asked mid (drop used wire) (item i last next) → used + last ≡ length wire
    → Chained (front ++ wire) ended asked due (length front) (map octet bytes ++ i ∷ []) next (length (front ++ wire))
carried_chain ended asked due front wire bytes used mid i last next carried there all =
    let text = front ++ wire in
    let at = length front in
    let here : Carries ended asked due (drop at text) bytes used mid =
    subst (λ (t : List ℕ). Carries ended asked due t bytes used mid) (sym (drop-append_seam front wire)) carried in
    let behind : StepsTo ended asked mid (drop (at + used) text) (item i last next) =
    subst (λ (t : List ℕ). StepsTo ended asked mid t (item i last next)) (sym (drop-append-add front wire used)) there in
    let place : at + used + last ≡ length text = omega (arith, all, length-append front wire) in
    let c = run_then text ended asked due at bytes mid (at + used) i last next (chain_run text ended asked due at bytes used mid here) behind in
    subst (λ (n : ℕ). Chained text ended asked due at (map octet bytes ++ i ∷ []) next n) place c

end_step_is : (asked : Option (List ℕ)) (used : ℕ) (fields : List Pair) → end_step asked used fields ≡ item (end_item fields) used (due_next asked)
end_step_is asked used [] = refl
end_step_is asked used (f ∷ fields) = refl

-- in chunks
chunked_chain : (asked : Option (List ℕ)) (connection : List (List ℕ)) (front wire bytes : List ℕ) (room : ℕ) (fields : List Pair)
    → (run_of room start wire).bytes ≡ bytes → EndsThere wire (run_of room start wire) fields
    → Chained (front ++ wire) false asked (body (coded connection start)) (length front)
    (map octet bytes ++ end_item (trailers_left asked connection fields) ∷ []) (due_next asked) (length (front ++ wire))
chunked_chain asked connection front wire bytes room fields are e =
    let run = run_of room start wire in
    let left = trailers_left asked connection fields in
    let there : StepsTo false asked (body (coded connection run.place)) (drop run.used wire) (section_step false asked connection (trailing.ended fields e.used)) =
    coded_there false asked connection run.place (drop run.used wire) (trailing.ended fields e.used) e.spelled tt in
    let moved : StepsTo false asked (body (coded connection run.place)) (drop run.used wire) (item (end_item left) e.used (due_next asked)) =
    subst (λ (s : Step). StepsTo false asked (body (coded connection run.place)) (drop run.used wire) s) (end_step_is asked e.used left) there in
    subst (λ (bs : List ℕ). Chained (front ++ wire) false asked (body (coded connection start)) (length front) (map octet bs ++ end_item left ∷ []) (due_next asked) (length (front ++ wire))) are
    (carried_chain false asked (body (coded connection start)) front wire run.bytes run.used (body (coded connection run.place)) (end_item left) e.used (due_next asked)
    (run_carries false asked connection room start wire) moved e.all)

-- by a length
counted_chain : (asked : Option (List ℕ)) (front wire : List ℕ)
    → Chained (front ++ wire) false asked (body (counted (length wire))) (length front) (map octet wire ++ end ∷ []) (due_next asked) (length (front ++ wire))
counted_chain asked front wire =
    let n = length wire in
    let left : n - n ≡ 0 = omega arith in
    let carried : Carries false asked (body (counted n)) wire (take n wire) n (body (counted (n - n))) =
    take_carries false asked n n wire (omega arith) (omega arith) in
    let whole : Carries false asked (body (counted n)) wire wire n (body (counted (n - n))) =
    subst (λ (t : List ℕ). Carries false asked (body (counted n)) wire t n (body (counted (n - n)))) (take_all n wire (omega arith)) carried in
    let none : Carries false asked (body (counted n)) wire wire n (body (counted 0)) =
    subst (λ (k : ℕ). Carries false asked (body (counted n)) wire wire n (body (counted k))) left whole in
    carried_chain false asked (body (counted n)) front wire wire n (body (counted 0)) end 0 (due_next asked) none refl (omega arith)

-- by the end of the line
open_chain : (asked : Option (List ℕ)) (front wire : List ℕ)
    → Chained (front ++ wire) true asked (body unbounded) (length front) (map octet wire ++ end ∷ []) (due_next asked) (length (front ++ wire))
open_chain asked front wire =
    let n = length wire in
    let carried : Carries true asked (body unbounded) wire (take n wire) n (body unbounded) = take_carries_unbounded true asked n wire (omega arith) in
    let whole : Carries true asked (body unbounded) wire wire n (body unbounded) =
    subst (λ (t : List ℕ). Carries true asked (body unbounded) wire t n (body unbounded)) (take_all n wire (omega arith)) carried in
    let none : drop n wire ≡ [] = sym (ap (drop n) (append-nil wire)) ∙ drop-append_seam wire [] in
    let there : StepsTo true asked (body unbounded) (drop n wire) (item end 0 (due_next asked)) =
    subst (λ (t : List ℕ). StepsTo true asked (body unbounded) t (item end 0 (due_next asked))) (sym none) refl in
    carried_chain true asked (body unbounded) front wire wire n (body unbounded) end 0 (due_next asked) whole there (omega arith)

-- ---- what is written of a body

-- bytes go out as they are, and trailers do not
record IsPlain (framing : Framing) : Type 0 where
  bytes : (bytes : List ℕ) (last : Bool) → piece_wire framing bytes last ≡ bytes
  none : (fields : List Pair) → trailer_wire framing fields ≡ []

plain_wire : (framing : Framing) (pieces : List (List ℕ)) (ending : Ending) → IsPlain framing
    → items_wire framing (body_items pieces ending) ≡ body_bytes pieces ending
plain_wire framing [] (last_bytes bytes) is = ap (λ (t : List ℕ). t ++ []) (is.bytes bytes true)
plain_wire framing [] (last_trailers fields) is = ap (λ (t : List ℕ). t ++ []) (is.none fields.pairs)
plain_wire framing (p ∷ pieces) (last_bytes bytes) is =
    λ t. is.bytes p false t ++ plain_wire framing pieces (last_bytes bytes) is t
plain_wire framing (p ∷ pieces) (last_trailers fields) is =
    λ t. is.bytes p false t ++ plain_wire framing pieces (last_trailers fields) is t

length_plain : (n : ℕ) → IsPlain (by_length n)
length_plain n = record { bytes = λ bytes last. refl; none = λ fields. refl }

close_plain : IsPlain by_close
close_plain = record { bytes = λ bytes last. refl; none = λ fields. refl }

-- nothing is written where there is no body
no_wire : (pieces : List (List ℕ)) (ending : Ending) → items_wire no_body (body_items pieces ending) ≡ []
no_wire [] (last_bytes bytes) = refl
no_wire [] (last_trailers fields) = refl
no_wire (p ∷ pieces) ending = no_wire pieces ending

-- ---- each framing

-- where nothing is written, nothing is read
nothing_chain : (asked : Option (List ℕ)) (front : List ℕ)
    → Chained (front ++ []) false asked (due_next asked) (length front) [] (due_next asked) (length (front ++ []))
nothing_chain asked front = record { placed = []; chain = (refl, ap length (append-nil front)); are = refl }

abbrev BodyReads : Framing → List (List ℕ) → Ending → Bool → Option (List ℕ) → List (List ℕ) → List ℕ → List ℕ → Type 0
BodyReads framing pieces ending ended asked connection front behind =
    ReadsAs ended asked (due_behind (due_next asked) connection (length_said framing)) front (items_wire framing (body_items pieces ending)) behind
    (items_read asked connection (length_said framing) pieces ending) (due_next asked)

none_back : (pieces : List (List ℕ)) (ending : Ending) (ended : Bool) (asked : Option (List ℕ)) (connection : List (List ℕ)) (front behind : List ℕ)
    → BodyReads no_body pieces ending ended asked connection front behind
none_back pieces ending ended asked connection front behind =
    subst (λ (t : List ℕ). ReadsAs ended asked (due_next asked) front t behind [] (due_next asked)) (sym (no_wire pieces ending))
    (reads_grown ended asked (due_next asked) front [] behind [] (due_next asked) (nothing_chain asked front))

length_back : (n : ℕ) (pieces : List (List ℕ)) (ending : Ending) (ended : Bool) (asked : Option (List ℕ)) (connection : List (List ℕ)) (front behind : List ℕ)
    → length (body_bytes pieces ending) ≡ n → BodyReads (by_length n) pieces ending ended asked connection front behind
length_back n pieces ending ended asked connection front behind fits =
    let bytes = body_bytes pieces ending in
    let wire = items_wire (by_length n) (body_items pieces ending) in
    let same : bytes ≡ wire = sym (plain_wire (by_length n) pieces ending (length_plain n)) in
    by_number (eqb n 0) refl same
  where
    Read : List ℕ → Bool → Type 0
    Read wire none =
        ReadsAs ended asked (due_behind (due_next asked) connection (cond none nothing (exactly n))) front wire behind
        (items_read asked connection (cond none nothing (exactly n)) pieces ending) (due_next asked)

    by_number : (none : Bool) → eqb n 0 ≡ none → body_bytes pieces ending ≡ items_wire (by_length n) (body_items pieces ending)
        → Read (items_wire (by_length n) (body_items pieces ending)) none
    by_number true e same =
        let no_bytes : [] ≡ body_bytes pieces ending = sym (nil_from_length (body_bytes pieces ending) (fits ∙ eqb-true n 0 e)) in
        subst (λ (t : List ℕ). Read t true) (no_bytes ∙ same)
        (reads_grown ended asked (due_next asked) front [] behind [] (due_next asked) (nothing_chain asked front))
    by_number false e same =
        let bytes = body_bytes pieces ending in
        let told : ReadsAs ended asked (body (counted (length bytes))) front bytes behind (map octet bytes ++ end ∷ []) (due_next asked) =
        reads_grown ended asked (body (counted (length bytes))) front bytes behind (map octet bytes ++ end ∷ []) (due_next asked)
        (counted_chain asked front bytes) in
        let moved : Read bytes false =
        subst (λ (k : ℕ). ReadsAs ended asked (body (counted k)) front bytes behind (map octet bytes ++ end ∷ []) (due_next asked)) fits told in
        subst (λ (t : List ℕ). Read t false) same moved

close_back : (pieces : List (List ℕ)) (ending : Ending) (ended : Bool) (asked : Option (List ℕ)) (connection : List (List ℕ)) (front behind : List ℕ)
    → ended ≡ true → behind ≡ [] → BodyReads by_close pieces ending ended asked connection front behind
close_back pieces ending ended asked connection front behind last none =
    let bytes = body_bytes pieces ending in
    let items = map octet bytes ++ end ∷ [] in
    let same : bytes ≡ items_wire by_close (body_items pieces ending) = sym (plain_wire by_close pieces ending close_plain) in
    let text : front ++ bytes ≡ front ++ (bytes ++ []) = ap (λ (t : List ℕ). front ++ t) (sym (append-nil bytes)) in
    let whole : Chained (front ++ (bytes ++ [])) true asked (body unbounded) (length front) items (due_next asked) (length (front ++ bytes)) =
    subst (λ (t : List ℕ). Chained t true asked (body unbounded) (length front) items (due_next asked) (length (front ++ bytes))) text
    (open_chain asked front bytes) in
    let there : ReadsAs true asked (body unbounded) front bytes [] items (due_next asked) =
    reads_chain true asked (body unbounded) front bytes [] items (due_next asked) whole in
    let moved : ReadsAs ended asked (body unbounded) front bytes [] items (due_next asked) =
    subst (λ (b : Bool). ReadsAs b asked (body unbounded) front bytes [] items (due_next asked)) (sym last) there in
    let ends : ReadsAs ended asked (body unbounded) front bytes behind items (due_next asked) =
    subst (λ (t : List ℕ). ReadsAs ended asked (body unbounded) front bytes t items (due_next asked)) (sym none) moved in
    subst (λ (t : List ℕ). ReadsAs ended asked (body unbounded) front t behind items (due_next asked)) same ends

chunks_back : (pieces : List (List ℕ)) (ending : Ending) (ended : Bool) (asked : Option (List ℕ)) (connection : List (List ℕ)) (front behind : List ℕ)
    → list_all is_short (all_pieces pieces ending) ≡ true → FitsSection ending → BodyReads by_chunks pieces ending ended asked connection front behind
chunks_back pieces (last_bytes last) ended asked connection front behind short fits =
    let bytes = concat (pieces ++ last ∷ []) in
    let room = length bytes in
    let wire = body_wire pieces last in
    let items = map octet bytes ++ end_item (trailers_left asked connection []) ∷ [] in
    let there : ReadsAs ended asked (body (coded connection start)) front wire behind items (due_next asked) =
    reads_grown ended asked (body (coded connection start)) front wire behind items (due_next asked)
    (chunked_chain asked connection front wire bytes room [] (pieces_read_back pieces last room short (omega arith)).carried
    (end_read_back pieces last room short (omega arith))) in
    subst (λ (i : Item). ReadsAs ended asked (body (coded connection start)) front wire behind (map octet bytes ++ i ∷ []) (due_next asked)) (no_trailers asked) there
  where
    no_trailers : (asked : Option (List ℕ)) → end_item (trailers_left asked connection []) ≡ end
    no_trailers None = refl
    no_trailers (Some method) = refl
chunks_back pieces (last_trailers fields) ended asked connection front behind short fits =
    let bytes = concat pieces in
    let room = length bytes in
    let wire = trailed_wire pieces fields in
    let sent = map read_field (sent_fields fields.pairs) in
    let items = map octet bytes ++ end_item (trailers_left asked connection sent) ∷ [] in
    reads_grown ended asked (body (coded connection start)) front wire behind items (due_next asked)
    (chunked_chain asked connection front wire bytes room sent (trailers_read_back pieces fields room short (omega arith)).carried
    (trailed_end_read_back pieces fields room short (omega arith) fits.0 fits.1))

pub body_read_back : BodyReadBack
body_read_back no_body pieces ending ended asked connection front behind suits = none_back pieces ending ended asked connection front behind
body_read_back (by_length n) pieces ending ended asked connection front behind suits =
    length_back n pieces ending ended asked connection front behind suits
body_read_back by_chunks pieces ending ended asked connection front behind suits =
    chunks_back pieces ending ended asked connection front behind suits.0 suits.1
body_read_back by_close pieces ending ended asked connection front behind suits =
    close_back pieces ending ended asked connection front behind suits.0 suits.1
