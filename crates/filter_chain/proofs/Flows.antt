-- Bytes pass a chain: proofs.
use Rattle.std.proofs.Common.{◌≡◌, ℕ, zero, suc, ◌+◌, Bool, true, false, List, [], ◌∷◌, ◌++◌, length, ap, ◌∙◌, sym, refl}
use Rattle.std.specs.Prelude.{Option, None, Some, slice_get, slice_set, nat_le, if◌then◌else◌}
use Rattle.std.proofs.lemmas.List.{append_assoc}
use Rattle.contexts.specs.declared.parts.Contexts.{Contexts}
use Rattle.contexts.specs.Stages.{with_buffered, without_buffer, with_callback_answered, with_bytes, returned}
use Rattle.contexts.specs.Stages.{let_go as nothing}
use Rattle.contexts.specs.Holding.{IsThere}
use Rattle.contexts.proofs.Holding.{holds_its_own}
use Rattle.filter_chain.specs.declared.stage.Stage.{Stage}
use Rattle.filter_chain.specs.declared.item.ChainItem.{ChainItem}
use Rattle.filter_chain.specs.declared.item.ChainItem.TheVariants.{Head, Piece, Trailers}
use Rattle.filter_chain.specs.declared.item.Held.{Held}
use Rattle.filter_chain.specs.declared.item.Held.TheVariants as held
use Rattle.filter_chain.specs.declared.item.PassOutcome.{PassOutcome}
use Rattle.filter_chain.specs.declared.item.PassOutcome.TheVariants as passed
use Rattle.filter_chain.specs.Items.{bytes_in, item_bytes, piece_of, held_items, holds_bytes}
use Rattle.filter_chain.specs.Chains.{limit, target, accepts, with_more, append_to, hand_over_to, hand_over, bytes_at, bytes_held, without_held, without_hold, unless_over, continued_at, continued, ask_item, ask_stage, paused_at}
use Rattle.filter_chain.specs.Flow.{stage_bytes, flow, left_in, IsOtherThan, NoneIs, IsAlone, Stands, Act, puts, asks, pauses, continues, Does, DoesAll, items_put, WhatPassesIsWhatCame}

-- ---- items
joined_more : (a b : List ChainItem) → item_bytes (a ++ b) ≡ item_bytes a ++ item_bytes b
joined_more [] b = refl
joined_more (i ∷ a) b = ap (λ (x : List ℕ). bytes_in i ++ x) (joined_more a b) ∙ sym (append_assoc (bytes_in i) (item_bytes a) (item_bytes b))

append_none : (xs : List ℕ) → xs ++ [] ≡ xs
append_none [] = refl
append_none (x ∷ xs) = ap (λ (l : List ℕ). x ∷ l) (append_none xs)

joined_piece : (bytes : List ℕ) (end : Bool) → item_bytes (piece_of bytes end) ≡ bytes
joined_piece [] false = refl
joined_piece [] true = refl
joined_piece (b ∷ bytes) end = append_none (b ∷ bytes)

-- what a stage holds, as items, is its bytes
joined_held : (h : Held) (bytes : List ℕ) → item_bytes (held_items h (if holds_bytes h then bytes else [])) ≡ (if holds_bytes h then bytes else [])
joined_held held.Nothing bytes = refl
joined_held (held.Head end) bytes = refl
joined_held (held.Body end) bytes = joined_piece bytes end
joined_held (held.Trailers false) bytes = refl
joined_held (held.Trailers true) bytes = joined_more (piece_of bytes false) (Trailers ∷ []) ∙ (append_none (item_bytes (piece_of bytes false)) ∙ joined_piece bytes false)

-- ---- all stages but one have what they had
AllSame : Contexts → Contexts → List Stage → Type 0
AllSame b c [] = Unit {0}
AllSame b c (s ∷ ss) = (stage_bytes c s ≡ stage_bytes b s) × AllSame b c ss

SameBut : Contexts → Contexts → ℕ → List Stage → Type 0
SameBut b c k [] = Unit {0}
SameBut b c zero (s ∷ ss) = AllSame b c ss
SameBut b c (suc k) (s ∷ ss) = (stage_bytes c s ≡ stage_bytes b s) × SameBut b c k ss

all_here : (b : Contexts) (ss : List Stage) → AllSame b b ss
unfolding AllSame
all_here b [] = tt
all_here b (s ∷ ss) = (refl, all_here b ss)

same_here : (b : Contexts) (k : ℕ) (ss : List Stage) → SameBut b b k ss
unfolding SameBut
same_here b k [] = tt
same_here b zero (s ∷ ss) = all_here b ss
same_here b (suc k) (s ∷ ss) = (refl, same_here b k ss)

-- what a change of one stage's buffer keeps
abbrev pub Keeps : Contexts → Contexts → Stage → Type 0
Keeps b c s = (t : Stage) → IsOtherThan s t → bytes_at c t ≡ bytes_at b t

all_set : (b c : Contexts) (s : Stage) (ss : List Stage) → Keeps b c s → NoneIs s ss → AllSame b c ss
unfolding AllSame
all_set b c s [] keeps alone = tt
all_set b c s (t ∷ ss) keeps alone = (ap (λ (l : List ℕ). l ++ item_bytes t.waiting) (keeps t alone.0), all_set b c s ss keeps alone.1)

same_set : (b c : Contexts) (s : Stage) (k : ℕ) (ss : List Stage) → Keeps b c s → IsAlone s k ss → SameBut b c k ss
unfolding SameBut
same_set b c s k [] keeps alone = tt
same_set b c s zero (t ∷ ss) keeps alone = all_set b c s ss keeps alone
same_set b c s (suc k) (t ∷ ss) keeps alone = (ap (λ (l : List ℕ). l ++ item_bytes t.waiting) (keeps t alone.0), same_set b c s k ss keeps alone.1)

flow_all : (b c : Contexts) (ss : List Stage) → AllSame b c ss → flow c ss ≡ flow b ss
unfolding AllSame
flow_all b c [] same = refl
flow_all b c (s ∷ ss) same = λ i. flow_all b c ss same.1 i ++ same.0 i

-- ---- ASK: the stage has what it had
flow_set : (b c : Contexts) (stages : List Stage) (k : ℕ) (s t : Stage) → slice_get stages k ≡ Some s → stage_bytes c t ≡ stage_bytes b s → SameBut b c k stages
    → flow c (slice_set stages k t) ≡ flow b stages
unfolding SameBut
flow_set b c [] k s t is keeps same = refl
flow_set b c (x ∷ xs) zero s t is keeps same =
    let here : x ≡ s = (cc) in
    let there : stage_bytes c t ≡ stage_bytes b x = keeps ∙ ap (stage_bytes b) (sym here) in
    λ i. flow_all b c xs same i ++ there i
flow_set b c (x ∷ xs) (suc k) s t is keeps same = λ i. flow_set b c xs k s t is keeps same.1 i ++ same.0 i

asks_item : (b : Contexts) (k : ℕ) (stages : List Stage) (s : Stage) (w : List ChainItem) → s.waiting ≡ w → Stands b stages k s
    → flow (ask_item b k s w).2 (slice_set stages k (ask_item b k s w).1) ≡ flow b stages
asks_item b k stages s [] waits is = flow_set b b stages k s s is.at refl (same_here b k stages)
asks_item b k stages s (Head end ∷ w) waits is =
    flow_set b b stages k s (record s { waiting = w; held = held.Head end }) is.at (ap (λ (l : List ChainItem). bytes_at b s ++ item_bytes l) (sym waits)) (same_here b k stages)
asks_item b k stages s (Trailers ∷ w) waits is =
    flow_set b b stages k s (record s { waiting = w; held = held.Trailers (holds_bytes s.held) }) is.at (ap (λ (l : List ChainItem). bytes_at b s ++ item_bytes l) (sym waits)) (same_here b k stages)
asks_item b k stages s (Piece bytes end ∷ w) waits is = by_room (nat_le (length (bytes_at b s) + length bytes) limit) refl
  where
    by_room : (r : Bool) → nat_le (length (bytes_at b s) + length bytes) limit ≡ r
        → flow (ask_item b k s (Piece bytes end ∷ w)).2 (slice_set stages k (ask_item b k s (Piece bytes end ∷ w)).1) ≡ flow b stages
    by_room true fits_ =
        rw fits_
        (flow_set b (with_buffered b s.vm s.context s.response bytes end) stages k s (record s { waiting = w; held = held.Body end }) is.at
        (ap (λ (l : List ℕ). l ++ item_bytes w) (holds_its_own.filled_here b s.vm s.context s.response bytes end is.there)
        ∙ (append_assoc (bytes_at b s) bytes (item_bytes w) ∙ ap (λ (l : List ChainItem). bytes_at b s ++ item_bytes l) (sym waits)))
        (same_set b (with_buffered b s.vm s.context s.response bytes end) s k stages (λ t other. holds_its_own.others (with_bytes bytes end) b s.vm s.context s.response t.vm t.context t.response is.there.0 other) is.alone))
    by_room false fits_ = rw fits_ (flow_set b b stages k s s is.at refl (same_here b k stages))

-- what is in the chain is as before
pub asks_keep : (b : Contexts) (k : ℕ) (stages : List Stage) (s : Stage) → Stands b stages k s
    → flow (ask_stage b k stages (Some s)).2 (ask_stage b k stages (Some s)).1 ≡ flow b stages
asks_keep b k stages s is = asks_item b k stages s s.waiting refl is

-- ---- PAUSE: the bytes stay
set_own : (xs : List Stage) (i : ℕ) (x : Stage) → slice_get xs i ≡ Some x → slice_set xs i x ≡ xs
set_own [] i x is = refl
set_own (y ∷ xs) zero x is = ap (λ z. z ∷ xs) (cc)
set_own (y ∷ xs) (suc i) x is = ap (λ ys. y ∷ ys) (set_own xs i x is)

pub pauses_keep : (b : Contexts) (k : ℕ) (stages : List Stage) (s : Stage) → Stands b stages k s → flow (paused_at b (Some s)) stages ≡ flow b stages
pauses_keep b k stages s is =
    let c : Contexts = with_callback_answered b s.vm s.context s.response in
    ap (flow c) (sym (set_own stages k s is.at))
    ∙ flow_set b c stages k s s is.at (ap (λ (l : List ℕ). l ++ item_bytes s.waiting) (holds_its_own.answered_here b s.vm s.context s.response is.there))
    (same_set b c s k stages (λ t other. holds_its_own.others returned b s.vm s.context s.response t.vm t.context t.response is.there.0 other) is.alone)

-- ---- CONTINUE: what the stage held is at the next one, after what that has, or it has left
onto_cons : (t : ℕ) (items : List ChainItem) (x : Stage) (changed : List Stage) (o : Option Stage) (c : Contexts)
    → item_bytes (left_in (append_to (suc t) items (x ∷ changed) o).0) ++ flow c (append_to (suc t) items (x ∷ changed) o).1
    ≡ (item_bytes (left_in (append_to t items changed o).0) ++ flow c (append_to t items changed o).1) ++ stage_bytes c x
onto_cons t items x changed None c = sym (append_assoc (item_bytes items) (flow c changed) (stage_bytes c x))
onto_cons t items x changed (Some s) c = refl

goes_next : (b c : Contexts) (items : List ChainItem) (stages : List Stage) (k : ℕ) (s t : Stage) → slice_get stages k ≡ Some s → item_bytes items ++ stage_bytes c t ≡ stage_bytes b s → SameBut b c k stages
    → item_bytes (left_in (append_to (suc k) items (slice_set stages k t) (slice_get stages (suc k))).0) ++ flow c (append_to (suc k) items (slice_set stages k t) (slice_get stages (suc k))).1 ≡ flow b stages
unfolding SameBut AllSame
goes_next b c items [] k s t is keeps same = absurd (cc)
goes_next b c items (x ∷ []) zero s t is keeps same =
    let here : x ≡ s = (cc) in
    keeps ∙ ap (stage_bytes b) (sym here)
goes_next b c items (x ∷ r ∷ back) zero s t is keeps same =
    let here : x ≡ s = (cc) in
    let there : item_bytes items ++ stage_bytes c t ≡ stage_bytes b x = keeps ∙ ap (stage_bytes b) (sym here) in
    let more : stage_bytes c (with_more items r) ≡ stage_bytes b r ++ item_bytes items
    = ap (λ (l : List ℕ). bytes_at c r ++ l) (joined_more r.waiting items) ∙ (sym (append_assoc (bytes_at c r) (item_bytes r.waiting) (item_bytes items)) ∙ ap (λ (l : List ℕ). l ++ item_bytes items) same.0) in
    (λ i. (flow_all b c back same.1 i ++ more i) ++ stage_bytes c t)
    ∙ (ap (λ (l : List ℕ). l ++ stage_bytes c t) (sym (append_assoc (flow b back) (stage_bytes b r) (item_bytes items)))
    ∙ (append_assoc (flow b back ++ stage_bytes b r) (item_bytes items) (stage_bytes c t) ∙ ap (λ (l : List ℕ). (flow b back ++ stage_bytes b r) ++ l) there))
goes_next b c items (x ∷ xs) (suc k) s t is keeps same =
    onto_cons (suc k) items x (slice_set xs k t) (slice_get xs (suc k)) c ∙ (λ i. goes_next b c items xs k s t is keeps same.1 i ++ same.0 i)

handed_keeps : (b c : Contexts) (n : ℕ) (items : List ChainItem) (stages : List Stage) (k : ℕ) (t : Stage) (o : Option Stage)
    → item_bytes (left_in (append_to (suc k) items (slice_set stages k t) o).0) ++ flow c (append_to (suc k) items (slice_set stages k t) o).1 ≡ flow b stages
    → item_bytes (left_in (unless_over b c (hand_over_to b n items (suc k) stages (slice_set stages k t) o)).0)
    ++ flow (unless_over b c (hand_over_to b n items (suc k) stages (slice_set stages k t) o)).2 (unless_over b c (hand_over_to b n items (suc k) stages (slice_set stages k t) o)).1 ≡ flow b stages
handed_keeps b c n items stages k t None keeps = keeps
handed_keeps b c n items stages k t (Some r) keeps = by_room (accepts b n (Some r)) refl
  where
    by_room : (f : Bool) → accepts b n (Some r) ≡ f
        → item_bytes (left_in (unless_over b c (hand_over_to b n items (suc k) stages (slice_set stages k t) (Some r))).0)
        ++ flow (unless_over b c (hand_over_to b n items (suc k) stages (slice_set stages k t) (Some r))).2 (unless_over b c (hand_over_to b n items (suc k) stages (slice_set stages k t) (Some r))).1 ≡ flow b stages
    by_room true is = rw is keeps
    by_room false is = rw is

-- what the stage held, as bytes, in front of what it has then
held_goes : (b : Contexts) (s : Stage) → IsThere b s.vm s.context → item_bytes (held_items s.held (bytes_held b s)) ++ stage_bytes (without_held b s) (without_hold s) ≡ stage_bytes b s
held_goes b s there = ap (λ (l : List ℕ). l ++ stage_bytes (without_held b s) (without_hold s)) (joined_held s.held (bytes_at b s)) ∙ by_held (holds_bytes s.held) refl
  where
    by_held : (h : Bool) → holds_bytes s.held ≡ h → bytes_held b s ++ stage_bytes (without_held b s) (without_hold s) ≡ stage_bytes b s
    by_held true is = rw is (ap (λ (l : List ℕ). bytes_at b s ++ (l ++ item_bytes s.waiting)) (holds_its_own.emptied_here b s.vm s.context s.response there))
    by_held false is = rw is

held_same : (b : Contexts) (s : Stage) (k : ℕ) (stages : List Stage) → IsAlone s k stages → IsThere b s.vm s.context → SameBut b (without_held b s) k stages
held_same b s k stages alone there = by_held (holds_bytes s.held) refl
  where
    by_held : (h : Bool) → holds_bytes s.held ≡ h → SameBut b (without_held b s) k stages
    by_held true is = rw is (same_set b (without_buffer b s.vm s.context s.response) s k stages (λ t other. holds_its_own.others nothing b s.vm s.context s.response t.vm t.context t.response there.0 other) alone)
    by_held false is = rw is (same_here b k stages)

-- what has left now, and what is in the chain then, is what was in it; no stage after this one passes everything
pub continues_keep : (b : Contexts) (k : ℕ) (stages : List Stage) (s : Stage) → Stands b stages k s → target (k + 1) stages ≡ suc k
    → item_bytes (left_in (continued_at b k stages (Some s)).0) ++ flow (continued_at b k stages (Some s)).2 (continued_at b k stages (Some s)).1 ≡ flow b stages
continues_keep b k stages s is next =
    rw next
    (handed_keeps b (without_held b s) (length (bytes_held b s)) (held_items s.held (bytes_held b s)) stages k (without_hold s) (slice_get stages (suc k))
    (goes_next b (without_held b s) (held_items s.held (bytes_held b s)) stages k s (without_hold s) is.at (held_goes b s is.there) (held_same b s k stages is.alone is.there)))

-- ---- PUT: an item comes in after all that is in the chain
pub puts_more : (b : Contexts) (item : ChainItem) (s : Stage) (ss : List Stage) → flow b (with_more (item ∷ []) s ∷ ss) ≡ flow b (s ∷ ss) ++ bytes_in item
puts_more b item s ss =
    ap (λ (l : List ℕ). flow b ss ++ (bytes_at b s ++ l)) (joined_more s.waiting (item ∷ []) ∙ ap (λ (l : List ℕ). item_bytes s.waiting ++ l) (append_none (bytes_in item)))
    ∙ (ap (λ (l : List ℕ). flow b ss ++ l) (sym (append_assoc (bytes_at b s) (item_bytes s.waiting) (bytes_in item))) ∙ sym (append_assoc (flow b ss) (stage_bytes b s) (bytes_in item)))

-- ---- ALL OF IT
pub does_keep : (b : Contexts) (stages : List Stage) (act : Act) (out : List ChainItem) (c : Contexts) (after : List Stage) → Does b stages act out c after
    → item_bytes out ++ flow c after ≡ flow b stages ++ item_bytes (items_put (act ∷ []))
does_keep b stages (puts item) out c after does =
    (λ i. item_bytes (does.5 i) ++ flow (does.3 i) (does.4 i))
    ∙ (puts_more b item does.0 does.1 ∙ (ap (λ (l : List ℕ). flow b (does.0 ∷ does.1) ++ l) (sym (append_none (bytes_in item))) ∙ (λ i. flow b (sym does.2 i) ++ (bytes_in item ++ []))))
does_keep b stages (asks k) out c after does =
    (λ i. item_bytes (does.4 i) ++ flow (does.2 i) (does.3 i)) ∙ (asks_keep b k stages does.0 does.1 ∙ sym (append_none (flow b stages)))
does_keep b stages (pauses k) out c after does =
    (λ i. item_bytes (does.4 i) ++ flow (does.2 i) (does.3 i)) ∙ (pauses_keep b k stages does.0 does.1 ∙ sym (append_none (flow b stages)))
does_keep b stages (continues k) out c after does =
    (λ i. item_bytes (does.5 i) ++ flow (does.3 i) (does.4 i)) ∙ (continues_keep b k stages does.0 does.1 does.2 ∙ sym (append_none (flow b stages)))

came_more : (act : Act) (acts : List Act) → item_bytes (items_put (act ∷ acts)) ≡ item_bytes (items_put (act ∷ [])) ++ item_bytes (items_put acts)
came_more (puts item) acts = ap (λ (l : List ℕ). l ++ item_bytes (items_put acts)) (sym (append_none (bytes_in item)))
came_more (asks k) acts = refl
came_more (pauses k) acts = refl
came_more (continues k) acts = refl

-- WHAT LEFT, AND WHAT IS IN THE CHAIN, IS WHAT WAS IN IT AND WHAT CAME
pub all_keep : WhatPassesIsWhatCame
all_keep b stages [] out c after does = (λ i. item_bytes (does.0 i) ++ flow (does.1 i) (does.2 i)) ∙ sym (append_none (flow b stages))
all_keep b stages (act ∷ acts) out c after does =
    ap (λ (o : List ChainItem). item_bytes o ++ flow c after) does.6
    ∙ (ap (λ (l : List ℕ). l ++ flow c after) (joined_more does.0 does.1)
    ∙ (append_assoc (item_bytes does.0) (item_bytes does.1) (flow c after)
    ∙ (ap (λ (l : List ℕ). item_bytes does.0 ++ l) (all_keep does.2 does.3 acts does.1 c after does.5)
    ∙ (sym (append_assoc (item_bytes does.0) (flow does.2 does.3) (item_bytes (items_put acts)))
    ∙ (ap (λ (l : List ℕ). l ++ item_bytes (items_put acts)) (does_keep b stages act does.0 does.2 does.3 does.4)
    ∙ (append_assoc (flow b stages) (item_bytes (items_put (act ∷ []))) (item_bytes (items_put acts)) ∙ ap (λ (l : List ℕ). flow b stages ++ l) (sym (came_more act acts))))))))
