-- Readings of parts of a text join, to whole messages and whole texts.
use Rattle.std.proofs.Common.{◌≡◌, ℕ, ◌+◌, Bool, true, false, List, [], ◌∷◌, ◌++◌, length, drop, map, Option, None, Some, refl, sym, ap, subst, ◌∙◌, append_assoc}
use Rattle.std.proofs.lemmas.Bool.{false≢true}
use Rattle.std.specs.List.{flat_map}
use Rattle.std.proofs.lemmas.List.{append-nil, length-append, map-append}
use Rattle.std.proofs.Math.Seq.{drop-append_seam}
use Rattle.h1_model.specs.Framing.{Framing, no_body, by_length, by_chunks, by_close, items_wire}
use Rattle.h1_model.specs.Head.{not_yet}
use Rattle.h1_model.specs.Messages.{Item, Placed, Due, head, done, item, stop, due_behind, due_next, step_from, StepsTo, SpellsFrom}
use Rattle.h1_model.specs.ReadingLaws.{item_at}
use Rattle.h1_model.proofs.Chains.{Chain, placed_at, one_item}
use Rattle.h1_write.specs.Round.{Ending, body_items, Suits, length_said, items_read, place_behind, ReadsAs, IsReadAs, stop_behind, BodyIsAll, ReadingsJoin, HeadReadBack, MessageReadBack, MessageIsAll, IsHeadWith, Sent, sent_wire, sent_items, AreRequests, RequestsReadBack, AreInterims, bytes_at, head_at, AnswerReadBack}
use Rattle.h1_write.proofs.Round.{reads_grown, body_read_back}

-- ---- readings join

place_joins : (at : ℕ) (xs ys : List Placed) → place_behind at (xs ++ ys) ≡ place_behind (place_behind at xs) ys
place_joins at [] ys = refl
place_joins at (p ∷ xs) ys = place_joins p.to xs ys

pub readings_join : ReadingsJoin
readings_join ended asked due mid next front wire more behind xs ys x y =
    let place : length ((front ++ wire) ++ more) ≡ length (front ++ (wire ++ more)) = ap length (append_assoc front wire more) in
    record {
      placed = x.placed ++ y.placed;
      are = map-append item_at x.placed y.placed ∙ (λ t. x.are t ++ y.are t);
      uses_all = place_joins (length front) x.placed y.placed ∙ ap (λ n. place_behind n y.placed) x.uses_all ∙ y.uses_all ∙ place;
      spelled = λ later why. λ z.
          let inner : front ++ ((wire ++ more) ++ behind) ≡ (front ++ wire) ++ (more ++ behind) =
          ap (λ (t : List ℕ). front ++ t) (append_assoc wire more behind) ∙ sym (append_assoc front wire (more ++ behind)) in
          let outer : front ++ (wire ++ (more ++ behind)) ≡ front ++ ((wire ++ more) ++ behind) =
          ap (λ (t : List ℕ). front ++ t) (sym (append_assoc wire more behind)) in
          let at_more : SpellsFrom (front ++ ((wire ++ more) ++ behind)) ended asked next (length ((front ++ wire) ++ more)) later why =
          subst (λ (n : ℕ). SpellsFrom (front ++ ((wire ++ more) ++ behind)) ended asked next n later why) (sym place) z in
          let second : SpellsFrom ((front ++ wire) ++ (more ++ behind)) ended asked mid (length (front ++ wire)) (y.placed ++ later) why =
          y.spelled later why (subst (λ (t : List ℕ). SpellsFrom t ended asked next (length ((front ++ wire) ++ more)) later why) inner at_more) in
          let moved : SpellsFrom (front ++ (wire ++ (more ++ behind))) ended asked mid (length (front ++ wire)) (y.placed ++ later) why =
          subst (λ (t : List ℕ). SpellsFrom t ended asked mid (length (front ++ wire)) (y.placed ++ later) why) (append_assoc front wire (more ++ behind)) second in
          let first : SpellsFrom (front ++ (wire ++ (more ++ behind))) ended asked due (length front) (x.placed ++ (y.placed ++ later)) why =
          x.spelled (y.placed ++ later) why moved in
          let whole : SpellsFrom (front ++ ((wire ++ more) ++ behind)) ended asked due (length front) (x.placed ++ (y.placed ++ later)) why =
          subst (λ (t : List ℕ). SpellsFrom t ended asked due (length front) (x.placed ++ (y.placed ++ later)) why) outer first in
          subst (λ (ps : List Placed). SpellsFrom (front ++ ((wire ++ more) ++ behind)) ended asked due (length front) ps why)
          (sym (append_assoc x.placed y.placed later)) whole;
    }

-- ---- heads and messages

pub head_read_back : HeadReadBack
head_read_back bytes i next ended asked front behind there =
    let text = front ++ bytes in
    let at = length front in
    let here : StepsTo false asked head (drop at text) (item i (length bytes) next) =
    subst (λ (t : List ℕ). StepsTo false asked head t (item i (length bytes) next)) (sym (drop-append_seam front bytes)) there in
    let chain : Chain text false asked head at (placed_at text head at (length bytes) i ∷ []) next (at + length bytes) =
    one_item text false asked head at i (length bytes) next here in
    let place : at + length bytes ≡ length text = sym (length-append front bytes) in
    let moved : Chain text false asked head at (placed_at text head at (length bytes) i ∷ []) next (length text) =
    subst (λ (n : ℕ). Chain text false asked head at (placed_at text head at (length bytes) i ∷ []) next n) place chain in
    reads_grown ended asked head front bytes behind (i ∷ []) next
    (record { placed = placed_at text head at (length bytes) i ∷ []; chain = moved; are = refl })

pub message_read_back : MessageReadBack
message_read_back bytes i framing pieces ending ended asked connection front behind is suits =
    let due = due_behind (due_next asked) connection (length_said framing) in
    let wire = items_wire framing (body_items pieces ending) in
    readings_join ended asked head due (due_next asked) front bytes wire behind (i ∷ []) (items_read asked connection (length_said framing) pieces ending)
    (head_read_back bytes i due ended asked front (wire ++ behind) is)
    (body_read_back framing pieces ending ended asked connection (front ++ bytes) behind suits)

-- ---- whole texts

nothing_behind : (ended : Bool) (asked : Option (List ℕ)) (text : List ℕ) → SpellsFrom text ended asked (due_next asked) (length text) [] (stop_behind ended asked)
nothing_behind ended None text =
    let none : drop (length text) text ≡ [] = sym (ap (drop (length text)) (append-nil text)) ∙ drop-append_seam text [] in
    subst (λ (t : List ℕ). StepsTo ended None head t (stop (stop_behind ended None))) (sym none) (not_yet, refl, at_end ended)
  where
    at_end : (ended : Bool) → stop (stop_behind ended None) ≡ step_from ended None [] not_yet
    at_end true = refl
    at_end false = refl
nothing_behind ended (Some asked) text = refl

pub whole_back : (ended : Bool) (asked : Option (List ℕ)) (due : Due) (wire : List ℕ) (items : List Item) → ReadsAs ended asked due [] wire [] items (due_next asked)
    → IsReadAs wire ended asked due items (stop_behind ended asked)
whole_back ended asked due wire items r =
    let same : wire ++ [] ≡ wire = append-nil wire in
    let why = stop_behind ended asked in
    let behind : SpellsFrom (wire ++ []) ended asked (due_next asked) (length wire) [] why =
    subst (λ (t : List ℕ). SpellsFrom t ended asked (due_next asked) (length wire) [] why) (sym same) (nothing_behind ended asked wire) in
    let spelled : SpellsFrom (wire ++ []) ended asked due 0 r.placed why =
    subst (λ (ps : List Placed). SpellsFrom (wire ++ []) ended asked due 0 ps why) (append-nil r.placed) (r.spelled [] why behind) in
    record {
      placed = r.placed;
      are = r.are;
      uses_all = r.uses_all;
      spelled = subst (λ (t : List ℕ). SpellsFrom t ended asked due 0 r.placed why) same spelled;
    }

pub body_is_all : BodyIsAll
body_is_all framing pieces ending ended asked connection suits =
    whole_back ended asked (due_behind (due_next asked) connection (length_said framing)) (items_wire framing (body_items pieces ending))
    (items_read asked connection (length_said framing) pieces ending) (body_read_back framing pieces ending ended asked connection [] [] suits)

pub message_is_all : MessageIsAll
message_is_all bytes i framing pieces ending ended asked connection is suits =
    whole_back ended asked head (bytes ++ items_wire framing (body_items pieces ending)) (i ∷ items_read asked connection (length_said framing) pieces ending)
    (message_read_back bytes i framing pieces ending ended asked connection [] [] is suits)

-- ---- whole lines

-- a body that suits a text that goes on suits every one
suits_all : (framing : Framing) (pieces : List (List ℕ)) (ending : Ending) (ended : Bool) (behind : List ℕ) → Suits framing pieces ending false []
    → Suits framing pieces ending ended behind
suits_all no_body pieces ending ended behind suits = suits
suits_all (by_length n) pieces ending ended behind suits = suits
suits_all by_chunks pieces ending ended behind suits = suits
suits_all by_close pieces ending ended behind suits = absurd (false≢true suits.0)

none_read : (ended : Bool) (asked : Option (List ℕ)) (due : Due) (front behind : List ℕ) → ReadsAs ended asked due front [] behind [] due
none_read ended asked due front behind =
    reads_grown ended asked due front [] behind [] due (record { placed = []; chain = (refl, ap length (append-nil front)); are = refl })

requests_from : (sent : List Sent) (ended : Bool) (front : List ℕ) → AreRequests sent
    → ReadsAs ended None head front (flat_map sent_wire sent) [] (flat_map (sent_items None) sent) head
requests_from [] ended front are = none_read ended None head front []
requests_from (s ∷ sent) ended front are =
    let behind = flat_map sent_wire sent ++ [] in
    readings_join ended None head head head front (sent_wire s) (flat_map sent_wire sent) [] (sent_items None s) (flat_map (sent_items None) sent)
    (message_read_back s.bytes s.item s.framing s.pieces s.ending ended None s.connection front behind are.0
    (suits_all s.framing s.pieces s.ending ended behind are.1))
    (requests_from sent ended (front ++ sent_wire s) are.2)

pub requests_read_back : RequestsReadBack
requests_read_back sent ended are =
    whole_back ended None head (flat_map sent_wire sent) (flat_map (sent_items None) sent) (requests_from sent ended [] are)

answer_from : (asked : List ℕ) (heads : List (List ℕ × Item)) (s : Sent) (ended : Bool) (front : List ℕ) → AreInterims asked heads
    → IsHeadWith (Some asked) s.bytes s.item s.connection s.framing → Suits s.framing s.pieces s.ending ended []
    → ReadsAs ended (Some asked) head front (flat_map bytes_at heads ++ sent_wire s) [] (map head_at heads ++ sent_items (Some asked) s) done
answer_from asked [] s ended front are is suits =
    message_read_back s.bytes s.item s.framing s.pieces s.ending ended (Some asked) s.connection front [] is suits
answer_from asked (h ∷ heads) s ended front are is suits =
    let more = flat_map bytes_at heads ++ sent_wire s in
    subst (λ (t : List ℕ). ReadsAs ended (Some asked) head front t [] (head_at h ∷ (map head_at heads ++ sent_items (Some asked) s)) done)
    (sym (append_assoc h.0 (flat_map bytes_at heads) (sent_wire s)))
    (readings_join ended (Some asked) head head done front h.0 more [] (head_at h ∷ []) (map head_at heads ++ sent_items (Some asked) s)
    (head_read_back h.0 h.1 head ended (Some asked) front (more ++ []) are.0)
    (answer_from asked heads s ended (front ++ h.0) are.1 is suits))

pub answer_read_back : AnswerReadBack
answer_read_back asked heads s ended are is suits =
    whole_back ended (Some asked) head (flat_map bytes_at heads ++ sent_wire s) (map head_at heads ++ sent_items (Some asked) s)
    (answer_from asked heads s ended [] are is suits)
