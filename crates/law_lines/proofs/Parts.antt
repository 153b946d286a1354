-- What an exchange sent up is one message, whatever filters it has; and the exchanges one after the other.
use Rattle.std.proofs.Common.{◌≡◌, inl, inr, ℕ, Bool, true, false, List, [], ◌∷◌, ◌++◌, map, refl, ap, ◌∙◌, sym, subst}
use Rattle.std.proofs.lemmas.Grind.{flat_map-append}
use Rattle.std.proofs.lemmas.List.{append-nil, map-append}
use Rattle.std.specs.List.{flat_map}
use Rattle.std.specs.Prelude.{Option, None, Some, is_some}
use Rattle.exchange.specs.declared.types.Exchange.{Exchange}
use Rattle.exchange.specs.declared.types.Hub.{Hub}
use Rattle.exchange.specs.declared.types.Request.{Request}
use Rattle.exchange.specs.Heads.{is_bare, length_in, length_of, request_of, up_framing}
use Rattle.exchange.specs.Leaving.{request_framing}
use Rattle.law_exchange.specs.Lives.{is_over}
use Rattle.law_exchange.specs.Responses.{IsBody, IsMessage}
use Rattle.law_exchange.specs.Traffic.{Traffic, opens, byte, closes, traffic, IsFront}
use Rattle.filter_chain.specs.declared.item.ChainItem.{ChainItem}
use Rattle.filter_chain.specs.declared.item.ChainItem.TheVariants as items
use Rattle.filter_chain.specs.declared.stage.Stage.{Stage}
use Rattle.gate_io.specs.declared.event.Sent.{Sent}
use Rattle.h1_write.specs.Lines.{out_wire}
use Rattle.h1_write.specs.Round.{Ending, last_bytes, last_trailers, body_items}
use Rattle.h1_model.specs.Framing.{Framing, no_body, by_length, framing_of, OutItem, item_wire, items_wire}
use Rattle.h1_model.specs.Framing as out
use Rattle.h1_model.specs.Head.{Head}
use Rattle.h1_model.specs.Unread.{Reading}
use Rattle.worker_model.specs.declared.types.Job.{Job}
use Rattle.worker_model.specs.declared.types.Line.{Line}
use Rattle.worker_model.specs.declared.types.ReadBatch.{ReadBatch}
use Rattle.worker_model.specs.Plan.{Plan}
use Rattle.worker_model.specs.Steps.{head_item}
use Rattle.law_lines.specs.Heard.{items_heard, WasHeard}
use Rattle.law_lines.specs.Requests.{is_whole, AreEmpty, IsAllOfOne, GoesUp, sends_nothing, sends_request, Part, IsPart, close_behind, traffic_of, AreParts, OneByOne}
use Rattle.law_lines.proofs.Items.{message_front}
use Rattle.law_lines.proofs.Phases.{Phase, fresh, inside, bare, whole, broken, step, run, run_broken, IsSound, holds, chain}
use Rattle.law_lines.proofs.Story.{IsRefusing, pending, Flow, flows, ceases, Passage}
use Rattle.law_lines.proofs.Upward.{AreMade, is_any}

-- ---- a body as it goes out

record OfBody (p : Phase) (outs : List OutItem) : Type 0 where
  pieces : List (List ℕ)
  ending : Ending
  front : IsFront outs (body_items pieces ending)
  full : p ≡ whole → outs ≡ body_items pieces ending

none_made : (minor : ℕ) (more : List ChainItem) (outs : List OutItem) → AreMade minor more outs → IsSound (run whole more) → outs ≡ []
none_made minor [] [] are sound = refl
none_made minor [] (o ∷ outs) are sound = absurd are
none_made minor (i ∷ more) [] are sound = absurd are
none_made minor (items.Head end ∷ more) (o ∷ outs) are sound = absurd (broken_stays more sound)
  where
    broken_stays : (l : List ChainItem) → IsSound (run (run whole (items.Head end ∷ [])) l) → ⊥
    broken_stays [] is = is
    broken_stays (items.Head e ∷ l) is = broken_stays l is
    broken_stays (items.Piece b e ∷ l) is = broken_stays l is
    broken_stays (items.Trailers ∷ l) is = broken_stays l is
none_made minor (items.Piece bytes end ∷ more) (o ∷ outs) are sound = absurd (broken_stays more sound)
  where
    broken_stays : (l : List ChainItem) → IsSound (run (run whole (items.Piece bytes end ∷ [])) l) → ⊥
    broken_stays [] is = is
    broken_stays (items.Head e ∷ l) is = broken_stays l is
    broken_stays (items.Piece b e ∷ l) is = broken_stays l is
    broken_stays (items.Trailers ∷ l) is = broken_stays l is
none_made minor (items.Trailers ∷ more) (o ∷ outs) are sound = absurd (broken_stays more sound)
  where
    broken_stays : (l : List ChainItem) → IsSound (run (run whole (items.Trailers ∷ [])) l) → ⊥
    broken_stays [] is = is
    broken_stays (items.Head e ∷ l) is = broken_stays l is
    broken_stays (items.Piece b e ∷ l) is = broken_stays l is
    broken_stays (items.Trailers ∷ l) is = broken_stays l is

-- a head after a head is none
no_head : (l : List ChainItem) → IsSound (run (run inside (items.Head true ∷ [])) l) → ⊥
no_head [] is = is
no_head (items.Head e ∷ l) is = no_head l is
no_head (items.Piece b e ∷ l) is = no_head l is
no_head (items.Trailers ∷ l) is = no_head l is

body_made : (minor : ℕ) (more : List ChainItem) (outs : List OutItem) → AreMade minor more outs → IsSound (run inside more) → OfBody (run inside more) outs
body_made minor [] [] are sound = record { pieces = []; ending = last_bytes []; front = (body_items [] (last_bytes []), refl); full = λ e. absurd (cc) }
body_made minor [] (o ∷ outs) are sound = absurd are
body_made minor (i ∷ more) [] are sound = absurd are
body_made minor (items.Head end ∷ more) (o ∷ outs) are sound = absurd (no_head more sound)
body_made minor (items.Piece bytes false ∷ more) (out.piece went last ∷ outs) are sound =
    let later : OfBody (run inside more) outs = body_made minor more outs are.1 sound in
    record {
      pieces = bytes ∷ later.pieces;
      ending = later.ending;
      front = (later.front.0, (λ i. out.piece (are.0.0 i) (are.0.1 i) ∷ later.front.1 i));
      full = λ e. (λ i. out.piece (are.0.0 i) (are.0.1 i) ∷ later.full e i);
    }
body_made minor (items.Piece bytes true ∷ more) (out.piece went last ∷ outs) are sound = record {
  pieces = [];
  ending = last_bytes bytes;
  front = ([], (λ i. out.piece (are.0.0 i) (are.0.1 i) ∷ (none_made minor more outs are.1 sound i ++ [])));
  full = λ e. (λ i. out.piece (are.0.0 i) (are.0.1 i) ∷ none_made minor more outs are.1 sound i);
}
body_made minor (items.Piece bytes end ∷ more) (out.head g ∷ outs) are sound = absurd are.0
body_made minor (items.Piece bytes end ∷ more) (out.interim g ∷ outs) are sound = absurd are.0
body_made minor (items.Piece bytes end ∷ more) (out.trailers fields ∷ outs) are sound = absurd are.0
body_made minor (items.Trailers ∷ more) (out.trailers fields ∷ outs) are sound = record {
  pieces = [];
  ending = last_trailers fields;
  front = ([], (λ i. out.trailers fields ∷ (none_made minor more outs are.1 sound i ++ [])));
  full = λ e. (λ i. out.trailers fields ∷ none_made minor more outs are.1 sound i);
}
body_made minor (items.Trailers ∷ more) (out.head g ∷ outs) are sound = absurd are.0
body_made minor (items.Trailers ∷ more) (out.interim g ∷ outs) are sound = absurd are.0
body_made minor (items.Trailers ∷ more) (out.piece went last ∷ outs) are sound = absurd are.0

-- its traffic is its bytes
body_bytes : (framing : Framing) (minor : ℕ) (more : List ChainItem) (outs : List OutItem) → AreMade minor more outs → IsSound (run inside more) → traffic framing outs ≡ map byte (items_wire framing outs)
body_bytes framing minor [] [] are sound = refl
body_bytes framing minor [] (o ∷ outs) are sound = absurd are
body_bytes framing minor (i ∷ more) [] are sound = absurd are
body_bytes framing minor (items.Head end ∷ more) (o ∷ outs) are sound = absurd (no_head more sound)
body_bytes framing minor (items.Piece bytes false ∷ more) (out.piece went last ∷ outs) are sound =
    ap (λ t. map byte (item_wire framing (out.piece went last)) ++ t) (body_bytes framing minor more outs are.1 sound) ∙ sym (map-append byte (item_wire framing (out.piece went last)) (items_wire framing outs))
body_bytes framing minor (items.Piece bytes true ∷ more) (out.piece went last ∷ outs) are sound =
    let none : outs ≡ [] = none_made minor more outs are.1 sound in
    ap (λ (l : List OutItem). map byte (item_wire framing (out.piece went last)) ++ traffic framing l) none
    ∙ (sym (map-append byte (item_wire framing (out.piece went last)) []) ∙ ap (λ (l : List OutItem). map byte (item_wire framing (out.piece went last) ++ items_wire framing l)) (sym none))
body_bytes framing minor (items.Piece bytes end ∷ more) (out.head g ∷ outs) are sound = absurd are.0
body_bytes framing minor (items.Piece bytes end ∷ more) (out.interim g ∷ outs) are sound = absurd are.0
body_bytes framing minor (items.Piece bytes end ∷ more) (out.trailers fields ∷ outs) are sound = absurd are.0
body_bytes framing minor (items.Trailers ∷ more) (out.trailers fields ∷ outs) are sound =
    let none : outs ≡ [] = none_made minor more outs are.1 sound in
    ap (λ (l : List OutItem). map byte (item_wire framing (out.trailers fields)) ++ traffic framing l) none
    ∙ (sym (map-append byte (item_wire framing (out.trailers fields)) []) ∙ ap (λ (l : List OutItem). map byte (item_wire framing (out.trailers fields) ++ items_wire framing l)) (sym none))
body_bytes framing minor (items.Trailers ∷ more) (out.head g ∷ outs) are sound = absurd are.0
body_bytes framing minor (items.Trailers ∷ more) (out.interim g ∷ outs) are sound = absurd are.0
body_bytes framing minor (items.Trailers ∷ more) (out.piece went last ∷ outs) are sound = absurd are.0

-- ---- all that went up

-- nothing comes after a message that is whole
whole_not : (p : Phase) (l : List ChainItem) → run whole l ≡ p → (p ≡ whole → ⊥) → (p ≡ broken → ⊥) → ⊥
whole_not p [] is w b = w (sym is)
whole_not p (items.Head e ∷ l) is w b = b (sym is ∙ run_broken l)
whole_not p (items.Piece bytes e ∷ l) is w b = b (sym is ∙ run_broken l)
whole_not p (items.Trailers ∷ l) is w b = b (sym is ∙ run_broken l)

bare_whole : (l : List ChainItem) → run bare l ≡ whole → ⊥
bare_whole [] is = cc
bare_whole (items.Head e ∷ l) is = let never : broken ≡ whole = sym (run_broken l) ∙ is in cc
bare_whole (items.Piece bytes e ∷ l) is = let never : broken ≡ whole = sym (run_broken l) ∙ is in cc
bare_whole (items.Trailers ∷ l) is = let never : broken ≡ whole = sym (run_broken l) ∙ is in cc

whole_bare : (l : List ChainItem) → run whole l ≡ bare → ⊥
whole_bare l is = whole_not bare l is (λ e. cc) (λ e. cc)

inside_bare : (l : List ChainItem) → run inside l ≡ bare → ⊥
inside_bare [] is = cc
inside_bare (items.Head e ∷ l) is = let never : broken ≡ bare = sym (run_broken l) ∙ is in cc
inside_bare (items.Piece bytes false ∷ l) is = inside_bare l is
inside_bare (items.Piece bytes true ∷ l) is = whole_bare l is
inside_bare (items.Trailers ∷ l) is = whole_bare l is

bare_sound : (l : List ChainItem) → IsSound (run bare l) → IsSound (run whole l)
bare_sound [] is = tt
bare_sound (items.Head e ∷ l) is = is
bare_sound (items.Piece bytes e ∷ l) is = is
bare_sound (items.Trailers ∷ l) is = is

-- after a head with an end flag nothing comes
record Behind (framing : Framing) (outs : List OutItem) : Type 0 where
  pieces : List (List ℕ)
  ending : Ending
  front : IsFront outs (body_items pieces ending)
  bytes : traffic framing outs ≡ map byte (items_wire framing outs)

behind_head : (framing : Framing) (minor : ℕ) (end : Bool) (more : List ChainItem) (outs : List OutItem) → AreMade minor more outs → IsSound (run fresh (items.Head end ∷ more)) → Behind framing outs
behind_head framing minor false more outs are sound =
    let b : OfBody (run inside more) outs = body_made minor more outs are sound in
    record { pieces = b.pieces; ending = b.ending; front = b.front; bytes = body_bytes framing minor more outs are sound }
behind_head framing minor true more outs are sound =
    let none : outs ≡ [] = none_made minor more outs are (bare_sound more sound) in
    subst (Behind framing) (sym none) (record { pieces = []; ending = last_bytes []; front = (body_items [] (last_bytes []), refl); bytes = refl })

all_made : (h : Head) (first : Exchange) (t : List Traffic) (left : List ChainItem) (outs : List OutItem) → AreMade h.minor left outs → t ≡ traffic (request_framing first) outs → IsSound (run fresh left) → GoesUp h first t
all_made h first t [] [] are is sound = sends_nothing is
all_made h first t [] (o ∷ outs) are is sound = absurd are
all_made h first t (i ∷ left) [] are is sound = absurd are
all_made h first t (items.Head end ∷ left) (out.head g ∷ outs) are is sound =
    let b : Behind (request_framing first) outs = behind_head (request_framing first) h.minor end left outs are.1 sound in
    sends_request (record {
      request = record { framing = request_framing first; head = g; pieces = b.pieces; ending = b.ending };
      made = record { fields = are.0.0; head = are.0.1; framing = refl };
      items = outs;
      front = b.front;
      is =
          is
          ∙ (ap (λ s. (opens ∷ map byte (item_wire (request_framing first) (out.head g))) ++ s) b.bytes
          ∙ ap (λ s. opens ∷ s) (sym (map-append byte (item_wire (request_framing first) (out.head g)) (items_wire (request_framing first) outs))));
    })
all_made h first t (items.Head end ∷ left) (out.interim g ∷ outs) are is sound = absurd are.0
all_made h first t (items.Head end ∷ left) (out.piece went last ∷ outs) are is sound = absurd are.0
all_made h first t (items.Head end ∷ left) (out.trailers fields ∷ outs) are is sound = absurd are.0
all_made h first t (items.Piece bytes end ∷ left) (o ∷ outs) are is sound = absurd (broken_stays left sound)
  where
    broken_stays : (l : List ChainItem) → IsSound (run (run fresh (items.Piece bytes end ∷ [])) l) → ⊥
    broken_stays [] e = e
    broken_stays (items.Head f ∷ l) e = broken_stays l e
    broken_stays (items.Piece b f ∷ l) e = broken_stays l e
    broken_stays (items.Trailers ∷ l) e = broken_stays l e
all_made h first t (items.Trailers ∷ left) (o ∷ outs) are is sound = absurd (broken_stays left sound)
  where
    broken_stays : (l : List ChainItem) → IsSound (run (run fresh (items.Trailers ∷ [])) l) → ⊥
    broken_stays [] e = e
    broken_stays (items.Head f ∷ l) e = broken_stays l e
    broken_stays (items.Piece b f ∷ l) e = broken_stays l e
    broken_stays (items.Trailers ∷ l) e = broken_stays l e

-- ---- all of it

-- the traffic of a head and what comes after it
head_first : (framing : Framing) (g : Head) (outs : List OutItem) → traffic framing outs ≡ map byte (items_wire framing outs) → traffic framing (out.head g ∷ outs) ≡ opens ∷ map byte (items_wire framing (out.head g ∷ outs))
head_first framing g outs bytes =
    ap (λ s. (opens ∷ map byte (item_wire framing (out.head g))) ++ s) bytes ∙ ap (λ s. opens ∷ s) (sym (map-append byte (item_wire framing (out.head g)) (items_wire framing outs)))

fresh_stays : (i : ChainItem) (left : List ChainItem) (p : Phase) → step fresh i ≡ broken → run fresh (i ∷ left) ≡ p → (p ≡ broken → ⊥) → ⊥
fresh_stays i left p breaks is not = not (sym is ∙ (ap (λ (q : Phase). run q left) breaks ∙ run_broken left))

-- where the phase is whole, the body came to its end
whole_made : (h : Head) (first : Exchange) (t : List Traffic) (left : List ChainItem) (outs : List OutItem) → AreMade h.minor left outs → t ≡ traffic (request_framing first) outs → run fresh left ≡ whole → IsAllOfOne h first t
whole_made h first t [] outs are is all = absurd (cc)
whole_made h first t (i ∷ left) [] are is all = absurd are
whole_made h first t (items.Head true ∷ left) (out.head g ∷ outs) are is all = absurd (bare_whole left all)
whole_made h first t (items.Head false ∷ left) (out.head g ∷ outs) are is all =
    let sound : IsSound (run inside left) = subst IsSound (sym all) tt in
    let b : OfBody (run inside left) outs = body_made h.minor left outs are.1 sound in
    record {
      request = record { framing = request_framing first; head = g; pieces = b.pieces; ending = b.ending };
      made = record { fields = are.0.0; head = are.0.1; framing = refl };
      is = is ∙ (head_first (request_framing first) g outs (body_bytes (request_framing first) h.minor left outs are.1 sound) ∙ ap (λ (l : List OutItem). opens ∷ map byte (items_wire (request_framing first) (out.head g ∷ l))) (b.full all));
    }
whole_made h first t (items.Head end ∷ left) (out.interim g ∷ outs) are is all = absurd are.0
whole_made h first t (items.Head end ∷ left) (out.piece went last ∷ outs) are is all = absurd are.0
whole_made h first t (items.Head end ∷ left) (out.trailers fields ∷ outs) are is all = absurd are.0
whole_made h first t (items.Piece bytes end ∷ left) (o ∷ outs) are is all = absurd (fresh_stays (items.Piece bytes end) left whole refl all (λ e. cc))
whole_made h first t (items.Trailers ∷ left) (o ∷ outs) are is all = absurd (fresh_stays items.Trailers left whole refl all (λ e. cc))

-- a request without a body is written without chunks: its head is all of it
pub bare_wire : (filtered : Bool) (q : Request) (g : Head) → is_bare q.length ≡ true
    → out_wire (record { framing = up_framing filtered q; head = g; pieces = []; ending = last_bytes [] }) ≡ item_wire (up_framing filtered q) (out.head g)
bare_wire filtered q g is =
    subst (λ (f : Framing). out_wire (record { framing = f; head = g; pieces = []; ending = last_bytes [] }) ≡ item_wire f (out.head g)) (sym framed) (by_told q.told)
  where
    framed : up_framing filtered q ≡ framing_of true filtered false None q.told (length_of q.length)
    framed = ap (λ b. framing_of b filtered false None q.told (length_of q.length)) is

    by_told : (told : Option ℕ) → out_wire (record { framing = framing_of true filtered false None told (length_of q.length); head = g; pieces = []; ending = last_bytes [] })
        ≡ item_wire (framing_of true filtered false None told (length_of q.length)) (out.head g)
    by_told None = append-nil (item_wire no_body (out.head g))
    by_told (Some n) = append-nil (item_wire (by_length n) (out.head g))

bare_made : (h : Head) (first : Exchange) (t : List Traffic) (left : List ChainItem) (outs : List OutItem) → AreMade h.minor left outs → t ≡ traffic (request_framing first) outs → run fresh left ≡ bare → is_bare first.asked.length ≡ true
    → IsAllOfOne h first t
bare_made h first t [] outs are is all lacks = absurd (cc)
bare_made h first t (i ∷ left) [] are is all lacks = absurd are
bare_made h first t (items.Head false ∷ left) (out.head g ∷ outs) are is all lacks = absurd (inside_bare left all)
bare_made h first t (items.Head true ∷ left) (out.head g ∷ outs) are is all lacks =
    let none : outs ≡ [] = none_made h.minor left outs are.1 (bare_sound left (subst IsSound (sym all) tt)) in
    record {
      request = record { framing = request_framing first; head = g; pieces = []; ending = last_bytes [] };
      made = record { fields = are.0.0; head = are.0.1; framing = refl };
      is = is ∙ (ap (λ (l : List OutItem). traffic (request_framing first) (out.head g ∷ l)) none ∙ (append-nil (opens ∷ map byte (item_wire (request_framing first) (out.head g))) ∙ ap (λ l. opens ∷ map byte l) (sym (bare_wire first.filters_requests first.asked g lacks))));
    }
bare_made h first t (items.Head end ∷ left) (out.interim g ∷ outs) are is all lacks = absurd are.0
bare_made h first t (items.Head end ∷ left) (out.piece went last ∷ outs) are is all lacks = absurd are.0
bare_made h first t (items.Head end ∷ left) (out.trailers fields ∷ outs) are is all lacks = absurd are.0
bare_made h first t (items.Piece bytes end ∷ left) (o ∷ outs) are is all lacks = absurd (fresh_stays (items.Piece bytes end) left bare refl all (λ e. cc))
bare_made h first t (items.Trailers ∷ left) (o ∷ outs) are is all lacks = absurd (fresh_stays items.Trailers left bare refl all (λ e. cc))

-- stages that are empty hold no phase back
empty_chain : (p : Phase) (stages : List Stage) → AreEmpty stages → chain p stages ≡ p
empty_chain p [] are = refl
empty_chain p (s ∷ stages) are = (λ i. run (holds (chain p stages) (are.0 i)) (are.1 i)) ∙ empty_chain p stages are.2

-- the first of them is a head with an end flag
abbrev pub begins_bare : List ChainItem → Bool
begins_bare [] = false
begins_bare (items.Head end ∷ a) = end
begins_bare (items.Piece bytes end ∷ a) = false
begins_bare (items.Trailers ∷ a) = false

-- a body whose last item is there is whole
whole_body : (a : List ChainItem) → IsBody a → is_whole a ≡ true → run inside a ≡ whole
whole_body [] body all = absurd (cc)
whole_body (items.Head end ∷ a) body all = absurd body
whole_body (items.Piece bytes false ∷ a) body all = whole_body a body all
whole_body (items.Piece bytes true ∷ a) body all = ap (run whole) body
whole_body (items.Trailers ∷ a) body all = ap (run whole) body

-- a message with its last item is whole: by its head alone, which says so, or with a body
pub data IsWholeBy (a : List ChainItem) : Type 0 where
  by_head : begins_bare a ≡ true → run fresh a ≡ bare → IsWholeBy a
  by_body : run fresh a ≡ whole → IsWholeBy a

whole_phase : (a : List ChainItem) → IsMessage a → is_whole a ≡ true → IsWholeBy a
whole_phase [] message all = absurd (cc)
whole_phase (items.Head false ∷ a) message all = by_body (whole_body a message all)
whole_phase (items.Head true ∷ a) message all = by_head refl (ap (run bare) message)
whole_phase (items.Piece bytes end ∷ a) message all = absurd message
whole_phase (items.Trailers ∷ a) message all = absurd message

-- a head that was heard says so where its request has no body
pub heard_bare : (h : Head) (got heard : List ChainItem) (now : Reading) → WasHeard h heard now → IsFront got heard → begins_bare got ≡ true → is_bare (request_of h).length ≡ true
heard_bare h [] heard now was front begins = absurd (cc)
heard_bare h (items.Head end ∷ got) heard now was front begins =
    let joined : items.Head end ∷ (got ++ front.0) ≡ head_item h ∷ items_heard was.acts = front.1 ∙ was.are in
    let same : end ≡ is_bare (length_in h.length) = cc in
    sym same ∙ begins
heard_bare h (items.Piece bytes end ∷ got) heard now was front begins = absurd (cc)
heard_bare h (items.Trailers ∷ got) heard now was front begins = absurd (cc)

module _ (n : ℕ) (past : List Sent) (reading : Option ReadBatch) (js : List Job) (lines : List Line) (x : Exchange) (hub : Hub) (h : Head) (first : Exchange) (base : List Traffic) (got : List ChainItem)
    (p : Passage n past reading js lines x hub h first base got) where
  -- WHAT CAME to its chain is a front of what was heard, and all of it where nothing is in hand
  pub came_front : IsFront got p.heard
  came_front = by_flow p.flow
    where
      by_flow : Flow n reading js x got p.heard → IsFront got p.heard
      by_flow (flows proper same) = (pending n reading js, same)
      by_flow (ceases message none is front) = front

  pub all_came : is_over x ≡ false → reading ≡ None → js ≡ [] → got ≡ p.heard
  all_came live quiet jobless = by_flow p.flow
    where
      by_flow : Flow n reading js x got p.heard → got ≡ p.heard
      by_flow (flows proper same) = sym (append-nil got) ∙ (ap (λ l. got ++ l) (λ i. pending n (sym quiet i) (sym jobless i)) ∙ same)
      by_flow (ceases message none (inl over) front) = let never : ◌≡◌ {A = Bool} true false = sym over ∙ live in absurd (cc)
      by_flow (ceases message none (inr is) front) = absurd (subst (IsRefusing n) jobless is)

  -- what came has the last item exactly where the exchange takes its request for read whole
  pub read_whole : is_over x ≡ false → reading ≡ None → js ≡ [] → is_whole got ≡ x.asked.whole
  read_whole live quiet jobless = by_flow p.flow
    where
      by_flow : Flow n reading js x got p.heard → is_whole got ≡ x.asked.whole
      by_flow (flows proper same) = ap is_whole (sym (append-nil got) ∙ ap (λ l. got ++ l) (λ i. pending n (sym quiet i) (sym jobless i))) ∙ proper.2
      by_flow (ceases message none (inl over) front) = let never : ◌≡◌ {A = Bool} true false = sym over ∙ live in absurd (cc)
      by_flow (ceases message none (inr is) front) = absurd (subst (IsRefusing n) jobless is)

  -- ALL OF IT, where no stage has any
  pub all_of : first.asked ≡ request_of h → is_over x ≡ false → AreEmpty x.request → is_whole got ≡ true → IsAllOfOne h first p.went
  all_of asked live empty all =
      let message : IsMessage got = by_flow p.flow in
      by_phase (whole_phase got message all) (sym (empty_chain (run fresh p.up.left) x.request empty) ∙ p.up.through live) (subst (λ m. AreMade m p.up.left p.up.outs) p.minor p.up.are) (p.up.is ∙ ap (λ f. traffic f p.up.outs) p.framed)
    where
      by_flow : Flow n reading js x got p.heard → IsMessage got
      by_flow (flows proper same) = message_front got (pending n reading js) proper.1
      by_flow (ceases message none is front) = message

      by_phase : IsWholeBy got → run fresh p.up.left ≡ run fresh got → AreMade h.minor p.up.left p.up.outs → p.went ≡ traffic (request_framing first) p.up.outs → IsAllOfOne h first p.went
      by_phase (by_head begins is) phase are went =
          bare_made h first p.went p.up.left p.up.outs are went (phase ∙ is) (ap (λ (q : Request). is_bare q.length) asked ∙ heard_bare h got p.heard p.was.now p.was.was came_front begins)
      by_phase (by_body is) phase are went = whole_made h first p.went p.up.left p.up.outs are went (phase ∙ is)

  -- AN EXCHANGE SENDS UP ONE MESSAGE
  pub goes_of : GoesUp h first p.went
  goes_of =
      all_made h first p.went p.up.left p.up.outs (subst (λ m. AreMade m p.up.left p.up.outs) p.minor p.up.are) (p.up.is ∙ ap (λ f. traffic f p.up.outs) p.framed) p.up.left_sound

  -- where a connection was opened, something went up
  pub closes_so : (o : Option Reading) → x.reader ≡ o → (closing : List Traffic) → (o ≡ None → closing ≡ []) → (is_some o ≡ true → closing ≡ closes ∷ []) → closing ≡ close_behind p.went
  closes_so o is closing none some = by_left p.up.left p.up.outs p.up.are p.up.is p.up.left_sound (ap is_some (sym is) ∙ p.up.opened)
    where
      none_some : (q : Option Reading) → is_some q ≡ false → q ≡ None
      none_some None e = refl
      none_some (Some r) e = absurd (cc)

      by_left : (left : List ChainItem) (outs : List OutItem) → AreMade x.asked.minor left outs → p.went ≡ traffic (request_framing x) outs → IsSound (run fresh left) → is_some o ≡ is_any left → closing ≡ close_behind p.went
      by_left [] [] are went sound opened = none (none_some o opened) ∙ ap close_behind (sym went)
      by_left [] (q ∷ outs) are went sound opened = absurd are
      by_left (i ∷ left) [] are went sound opened = absurd are
      by_left (items.Head end ∷ left) (out.head g ∷ outs) are went sound opened = some opened ∙ ap close_behind (sym went)
      by_left (items.Head end ∷ left) (out.interim g ∷ outs) are went sound opened = absurd are.0
      by_left (items.Head end ∷ left) (out.piece b e ∷ outs) are went sound opened = absurd are.0
      by_left (items.Head end ∷ left) (out.trailers f ∷ outs) are went sound opened = absurd are.0
      by_left (items.Piece bytes end ∷ left) (q ∷ outs) are went sound opened = absurd (no_piece left sound)
        where
          no_piece : (l : List ChainItem) → IsSound (run (run fresh (items.Piece bytes end ∷ [])) l) → ⊥
          no_piece [] e = e
          no_piece (items.Head f ∷ l) e = no_piece l e
          no_piece (items.Piece b f ∷ l) e = no_piece l e
          no_piece (items.Trailers ∷ l) e = no_piece l e
      by_left (items.Trailers ∷ left) (q ∷ outs) are went sound opened = absurd (no_trailers left sound)
        where
          no_trailers : (l : List ChainItem) → IsSound (run (run fresh (items.Trailers ∷ [])) l) → ⊥
          no_trailers [] e = e
          no_trailers (items.Head f ∷ l) e = no_trailers l e
          no_trailers (items.Piece b f ∷ l) e = no_trailers l e
          no_trailers (items.Trailers ∷ l) e = no_trailers l e

-- ---- one after the other

are_more : (plan : Plan) (parts : List Part) (p : Part) → AreParts plan parts → IsPart plan p → AreParts plan (parts ++ p ∷ [])
are_more plan [] p are is = (is, tt)
are_more plan (q ∷ parts) p are is = (are.0, are_more plan parts p are.1 is)

pub no_parts : (plan : Plan) → OneByOne plan []
no_parts plan = record { parts = []; are = tt; is = refl }

pub one_part : (plan : Plan) (before total : List Traffic) (p : Part) → OneByOne plan before → IsPart plan p → total ≡ before ++ traffic_of p → OneByOne plan total
one_part plan before total p o is all = record {
  parts = o.parts ++ p ∷ [];
  are = are_more plan o.parts p o.are is;
  is = all ∙ (ap (λ t. t ++ traffic_of p) o.is ∙ (ap (λ t. flat_map traffic_of o.parts ++ t) (sym (append-nil (traffic_of p))) ∙ sym (flat_map-append traffic_of o.parts (p ∷ []))));
}
