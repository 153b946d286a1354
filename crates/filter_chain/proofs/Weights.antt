-- HOW MUCH IS LEFT TO DO in a chain: asking does some of it, and what is passed on adds none. No buffer counts.
use Rattle.std.proofs.Common.{◌≡◌, ℕ, zero, suc, ◌+◌, ◌*◌, ◌<◌, ◌≤◌, Bool, true, false, List, [], ◌∷◌, ◌++◌, length, ap, ◌∙◌, sym, refl, subst, arith}
use Rattle.std.specs.Prelude.{Option, None, Some, slice_get, slice_set, drop, nat_le, if◌then◌else◌}
use Rattle.std.proofs.Math.ListN.{length-set}
use Rattle.filter_chain.specs.declared.stage.Stage.{Stage}
use Rattle.filter_chain.specs.declared.item.ChainItem.{ChainItem}
use Rattle.filter_chain.specs.declared.item.ChainItem.TheVariants.{Head, Piece, Trailers}
use Rattle.filter_chain.specs.declared.item.Held.{Held}
use Rattle.filter_chain.specs.declared.item.Held.TheVariants as held
use Rattle.filter_chain.specs.declared.item.Asking.{Asking}
use Rattle.filter_chain.specs.declared.item.Asking.TheVariants.{Nothing, Over, Asks}
use Rattle.contexts.specs.declared.parts.Contexts.{Contexts}
use Rattle.filter_chain.specs.Items.{size, piece_of, held_items, holds_bytes, is_free}
use Rattle.filter_chain.specs.declared.item.PassOutcome.{PassOutcome}
use Rattle.filter_chain.specs.declared.item.PassOutcome.TheVariants as passed
use Rattle.filter_chain.specs.Chains.{limit, target, fits, with_more, append_to, hand_over_to, hand_over, put, unless_over, bytes_held, without_held, without_hold, bypassed_stage, continued, continued_at, let_through, let_through_at, ask_item, may_be_picked, accepts, bytes_at}
use Rattle.filter_chain.specs.Costs.{cost_of_items, held_cost, stage_cost, chain_cost}

costs_more : (c : ℕ) (a b : List ChainItem) → cost_of_items c (a ++ b) ≡ cost_of_items c a + cost_of_items c b
costs_more c [] b = omega arith
costs_more c (i ∷ a) b = let e = costs_more c a b in omega arith

costs_less : (c d : ℕ) (a : List ChainItem) → c ≤ d → cost_of_items c a ≤ cost_of_items d a
costs_less c d [] less = omega arith
costs_less c d (i ∷ a) less = let e = costs_less c d a less in omega arith

-- ---- one stage among the others
pub cost_set : (stages : List Stage) (k : ℕ) (s t : Stage) → slice_get stages k ≡ Some s → ((r : ℕ) → stage_cost r t < stage_cost r s) → chain_cost (slice_set stages k t) < chain_cost stages
cost_set [] k s t is less = absurd (cc)
cost_set (x ∷ xs) zero s t is less =
    let here : x ≡ s = (cc) in
    let e : stage_cost (length xs) t < stage_cost (length xs) x = subst (λ (y : Stage). stage_cost (length xs) t < stage_cost (length xs) y) (sym here) (less (length xs)) in
    omega arith
cost_set (x ∷ xs) (suc k) s t is less =
    let e = cost_set xs k s t is less in
    let l : length (slice_set xs k t) ≡ length xs = length-set xs k t in
    rw l (omega arith)

-- ASK of a stage that may be asked does some of it (where it is not too much)
abbrev pub DoesSome : Stage → Asking × Stage × Contexts → Type 0
DoesSome s (Nothing, t, b) = Unit {0}
DoesSome s (Over k, t, b) = Unit {0}
DoesSome s (Asks ask, t, b) = (r : ℕ) → stage_cost r t < stage_cost r s

trailers_less : (h : Held) (r : ℕ) → is_free h ≡ true → held_cost r (held.Trailers (holds_bytes h)) < (2 + (r + r)) + held_cost r h
trailers_less held.Nothing r free = omega arith
trailers_less (held.Head end) r free = absurd (cc)
trailers_less (held.Body end) r free = omega arith
trailers_less (held.Trailers body) r free = absurd (cc)

pub asks_fall : (b : Contexts) (k : ℕ) (s : Stage) (w : List ChainItem) → s.waiting ≡ w → is_free s.held ≡ true → DoesSome s (ask_item b k s w)
asks_fall b k s [] waits free = tt
asks_fall b k s (Head end ∷ w) waits free = λ r. let e : cost_of_items (2 + (r + r)) s.waiting ≡ (2 + (r + r)) + cost_of_items (2 + (r + r)) w = ap (cost_of_items (2 + (r + r))) waits in omega arith
asks_fall b k s (Piece bytes end ∷ w) waits free = by_room (nat_le (length (bytes_at b s) + length bytes) limit) refl
  where
    by_room : (f : Bool) → nat_le (length (bytes_at b s) + length bytes) limit ≡ f → DoesSome s (ask_item b k s (Piece bytes end ∷ w))
    by_room true is = rw is (λ r. let e : cost_of_items (2 + (r + r)) s.waiting ≡ (2 + (r + r)) + cost_of_items (2 + (r + r)) w = ap (cost_of_items (2 + (r + r))) waits in omega arith)
    by_room false is = rw is tt
asks_fall b k s (Trailers ∷ w) waits free =
    λ r. let e : cost_of_items (2 + (r + r)) s.waiting ≡ (2 + (r + r)) + cost_of_items (2 + (r + r)) w = ap (cost_of_items (2 + (r + r))) waits in let f = trailers_less s.held r free in omega arith

-- ---- what is passed on adds none: the items cost less at the next stage than they did here
passes_on : (items : List ChainItem) (stages : List Stage) (k : ℕ) (s t : Stage) → slice_get stages k ≡ Some s → ((r : ℕ) → stage_cost r t + cost_of_items (r + r) items ≤ stage_cost r s)
    → chain_cost (append_to (suc k) items (slice_set stages k t) (slice_get stages (suc k))).1 ≤ chain_cost stages
passes_on items [] k s t is less = absurd (cc)
passes_on items (x ∷ []) zero s t is less =
    let here : x ≡ s = (cc) in
    let e : stage_cost 0 t + cost_of_items 0 items ≤ stage_cost 0 x = subst (λ (y : Stage). stage_cost 0 t + cost_of_items 0 items ≤ stage_cost 0 y) (sym here) (less 0) in
    omega arith
passes_on items (x ∷ n ∷ back) zero s t is less =
    let here : x ≡ s = (cc) in
    let r : ℕ = length (n ∷ back) in
    let e : stage_cost r t + cost_of_items (r + r) items ≤ stage_cost r x = subst (λ (y : Stage). stage_cost r t + cost_of_items (r + r) items ≤ stage_cost r y) (sym here) (less r) in
    let m : cost_of_items (2 + (length back + length back)) (n.waiting ++ items) ≡ cost_of_items (2 + (length back + length back)) n.waiting + cost_of_items (2 + (length back + length back)) items
    = costs_more (2 + (length back + length back)) n.waiting items in
    let l : cost_of_items (2 + (length back + length back)) items ≤ cost_of_items (r + r) items = costs_less (2 + (length back + length back)) (r + r) items (omega arith) in
    omega arith
passes_on items (x ∷ xs) (suc k) s t is less =
    let e = passes_on items xs k s t is less in
    cons (slice_get xs (suc k)) e
  where
    cons : (o : Option Stage) → chain_cost (append_to (suc k) items (slice_set xs k t) o).1 ≤ chain_cost xs
        → chain_cost (append_to (suc (suc k)) items (x ∷ slice_set xs k t) o).1 ≤ chain_cost xs + stage_cost (length xs) x
    cons None e =
        let l : length (slice_set xs k t) ≡ length xs = length-set xs k t in
        rw l (omega arith)
    cons (Some n) e =
        let l : length (slice_set (slice_set xs k t) (suc k) (with_more items n)) ≡ length xs = length-set (slice_set xs k t) (suc k) (with_more items n) ∙ length-set xs k t in
        rw l (omega arith)

piece_cost : (c : ℕ) (bytes : List ℕ) (end : Bool) → cost_of_items c (piece_of bytes end) ≤ c
piece_cost c [] false = omega arith
piece_cost c [] true = omega arith
piece_cost c (b ∷ bytes) end = omega arith

held_less : (h : Held) (bytes : List ℕ) (r : ℕ) → cost_of_items (r + r) (held_items h bytes) ≤ held_cost r h
held_less held.Nothing bytes r = omega arith
held_less (held.Head end) bytes r = omega arith
held_less (held.Body end) bytes r = let e = piece_cost (r + r) bytes end in omega arith
held_less (held.Trailers false) bytes r = omega arith
held_less (held.Trailers true) bytes r =
    let e = piece_cost (r + r) bytes false in
    let m = costs_more (r + r) (piece_of bytes false) (Trailers ∷ []) in
    omega arith

-- CONTINUE and LET THROUGH
pub continues_less : (bytes : List ℕ) (stages : List Stage) (k : ℕ) (s : Stage) → slice_get stages k ≡ Some s
    → chain_cost (append_to (suc k) (held_items s.held bytes) (slice_set stages k (without_hold s)) (slice_get stages (suc k))).1 ≤ chain_cost stages
continues_less bytes stages k s is = passes_on (held_items s.held bytes) stages k s (without_hold s) is (λ r. let e = held_less s.held bytes r in omega arith)

pub lets_less : (bytes : List ℕ) (stages : List Stage) (k : ℕ) (s : Stage) → slice_get stages k ≡ Some s
    → chain_cost (append_to (suc k) (held_items s.held bytes ++ s.waiting) (slice_set stages k (bypassed_stage s)) (slice_get stages (suc k))).1 ≤ chain_cost stages
lets_less bytes stages k s is =
    passes_on (held_items s.held bytes ++ s.waiting) stages k s (bypassed_stage s) is
    (λ r. let e = held_less s.held bytes r in let m = costs_more (r + r) (held_items s.held bytes) s.waiting in let l = costs_less (r + r) (2 + (r + r)) s.waiting (omega arith) in omega arith)

-- ---- the same of whole calls, wherever the items go

-- a place after another
abbrev pub Beyond : ℕ → ℕ → Type 0
Beyond zero zero = ⊥
Beyond zero (suc t) = Unit {0}
Beyond (suc k) zero = ⊥
Beyond (suc k) (suc t) = Beyond k t

beyond : (k t : ℕ) → k < t → Beyond k t
beyond zero zero less = absurd (omega arith)
beyond zero (suc t) less = tt
beyond (suc k) zero less = absurd (omega arith)
beyond (suc k) (suc t) less = beyond k t (omega arith)

-- items that come to a chain
pub more_cost : (items : List ChainItem) (xs : List Stage) (u : ℕ) (n : Stage) → slice_get xs u ≡ Some n → chain_cost (slice_set xs u (with_more items n)) ≤ chain_cost xs + cost_of_items (length xs + length xs) items
more_cost items [] u n is = absurd (cc)
more_cost items (x ∷ xs) zero n is =
    let here : x ≡ n = (cc) in
    let m : cost_of_items (2 + (length xs + length xs)) (x.waiting ++ items) ≡ cost_of_items (2 + (length xs + length xs)) x.waiting + cost_of_items (2 + (length xs + length xs)) items
    = costs_more (2 + (length xs + length xs)) x.waiting items in
    let l : cost_of_items (2 + (length xs + length xs)) items ≤ cost_of_items (length (x ∷ xs) + length (x ∷ xs)) items = costs_less (2 + (length xs + length xs)) (length (x ∷ xs) + length (x ∷ xs)) items (omega arith) in
    subst (λ (y : Stage). chain_cost (with_more items y ∷ xs) ≤ chain_cost (x ∷ xs) + cost_of_items (length (x ∷ xs) + length (x ∷ xs)) items) here (omega arith)
more_cost items (x ∷ xs) (suc u) n is =
    let e = more_cost items xs u n is in
    let l : cost_of_items (length xs + length xs) items ≤ cost_of_items (length (x ∷ xs) + length (x ∷ xs)) items = costs_less (length xs + length xs) (length (x ∷ xs) + length (x ∷ xs)) items (omega arith) in
    let k : length (slice_set xs u (with_more items n)) ≡ length xs = length-set xs u (with_more items n) in
    rw k (omega arith)

onto_cost : (items : List ChainItem) (xs : List Stage) (u : ℕ) (o : Option Stage) → slice_get xs u ≡ o → chain_cost (append_to u items xs o).1 ≤ chain_cost xs + cost_of_items (length xs + length xs) items
onto_cost items xs u None is = omega arith
onto_cost items xs u (Some n) is = more_cost items xs u n is

onto_behind : (items : List ChainItem) (x : Stage) (xs : List Stage) (u : ℕ) (o : Option Stage) → (append_to (suc u) items (x ∷ xs) o).1 ≡ x ∷ (append_to u items xs o).1
onto_behind items x xs u None = refl
onto_behind items x xs u (Some n) = refl

onto_length : (items : List ChainItem) (xs : List Stage) (u : ℕ) (o : Option Stage) → length (append_to u items xs o).1 ≡ length xs
onto_length items xs u None = refl
onto_length items xs u (Some n) = length-set xs u (with_more items n)

passes_far : (items : List ChainItem) (stages : List Stage) (k t : ℕ) (s new : Stage) → Beyond k t → slice_get stages k ≡ Some s → ((r : ℕ) → stage_cost r new + cost_of_items (r + r) items ≤ stage_cost r s)
    → chain_cost (append_to t items (slice_set stages k new) (slice_get stages t)).1 ≤ chain_cost stages
passes_far items [] k t s new far is less = absurd (cc)
passes_far items (x ∷ xs) zero zero s new far is less = elim far [ ]
passes_far items (x ∷ xs) zero (suc u) s new far is less =
    let here : x ≡ s = (cc) in
    let e : stage_cost (length xs) new + cost_of_items (length xs + length xs) items ≤ stage_cost (length xs) x
    = subst (λ (y : Stage). stage_cost (length xs) new + cost_of_items (length xs + length xs) items ≤ stage_cost (length xs) y) (sym here) (less (length xs)) in
    let m = onto_cost items xs u (slice_get xs u) refl in
    let l = onto_length items xs u (slice_get xs u) in
    rw (onto_behind items new xs u (slice_get xs u), l) (omega arith)
passes_far items (x ∷ xs) (suc k) zero s new far is less = elim far [ ]
passes_far items (x ∷ xs) (suc k) (suc t) s new far is less =
    let e = passes_far items xs k t s new far is less in
    let l : length (append_to t items (slice_set xs k new) (slice_get xs t)).1 ≡ length xs = onto_length items (slice_set xs k new) t (slice_get xs t) ∙ length-set xs k new in
    rw (onto_behind items x (slice_set xs k new) t (slice_get xs t), l) (omega arith)

handed_cost : (b : Contexts) (n : ℕ) (items : List ChainItem) (t c : ℕ) (stages changed : List Stage) (o : Option Stage) → chain_cost (append_to t items changed o).1 ≤ c → chain_cost stages ≤ c
    → chain_cost (hand_over_to b n items t stages changed o).1 ≤ c
handed_cost b n items t c stages changed o less same = by_room (accepts b n o) refl
  where
    by_room : (f : Bool) → accepts b n o ≡ f → chain_cost (hand_over_to b n items t stages changed o).1 ≤ c
    by_room true is = rw is less
    by_room false is = rw is same

unless_same : (b c : Contexts) (r : PassOutcome × List Stage) → (unless_over b c r).1 ≡ r.1
unless_same b c (passed.Over, stages) = refl
unless_same b c (passed.Left items, stages) = refl

-- CONTINUE adds nothing
pub continued_cost : (b : Contexts) (k : ℕ) (stages : List Stage) → chain_cost (continued b k stages).1 ≤ chain_cost stages
continued_cost b k stages = by_stage (slice_get stages k) refl
  where
    by_stage : (o : Option Stage) → slice_get stages k ≡ o → chain_cost (continued_at b k stages o).1 ≤ chain_cost stages
    by_stage None is = omega arith
    by_stage (Some s) is =
        rw (unless_same b (without_held b s) (hand_over b (length (bytes_held b s)) (held_items s.held (bytes_held b s)) (k + 1) stages (slice_set stages k (without_hold s))))
        (handed_cost b (length (bytes_held b s)) (held_items s.held (bytes_held b s)) (target (k + 1) stages) (chain_cost stages) stages (slice_set stages k (without_hold s)) (slice_get stages (target (k + 1) stages))
        (passes_far (held_items s.held (bytes_held b s)) stages k (target (k + 1) stages) s (without_hold s) (beyond k (target (k + 1) stages) (omega arith)) is (λ r. let e = held_less s.held (bytes_held b s) r in omega arith))
        (omega arith))

-- LET THROUGH adds nothing
pub let_through_cost : (b : Contexts) (k : ℕ) (stages : List Stage) → chain_cost (let_through b k stages).1 ≤ chain_cost stages
let_through_cost b k stages = by_stage (slice_get stages k) refl
  where
    by_stage : (o : Option Stage) → slice_get stages k ≡ o → chain_cost (let_through_at b k stages o).1 ≤ chain_cost stages
    by_stage None is = omega arith
    by_stage (Some s) is =
        rw (unless_same b (without_held b s) (hand_over b (length (bytes_held b s) + size s.waiting) (held_items s.held (bytes_held b s) ++ s.waiting) (k + 1) stages (slice_set stages k (bypassed_stage s))))
        (handed_cost b (length (bytes_held b s) + size s.waiting) (held_items s.held (bytes_held b s) ++ s.waiting) (target (k + 1) stages) (chain_cost stages) stages (slice_set stages k (bypassed_stage s))
        (slice_get stages (target (k + 1) stages))
        (passes_far (held_items s.held (bytes_held b s) ++ s.waiting) stages k (target (k + 1) stages) s (bypassed_stage s) (beyond k (target (k + 1) stages) (omega arith)) is
        (λ r. let e = held_less s.held (bytes_held b s) r in let m = costs_more (r + r) (held_items s.held (bytes_held b s)) s.waiting in let l = costs_less (r + r) (2 + (r + r)) s.waiting (omega arith) in omega arith))
        (omega arith))

-- PUT adds what the item costs
pub put_cost : (b : Contexts) (item : ChainItem) (stages : List Stage) → chain_cost (put b item stages).1 ≤ chain_cost stages + (length stages + length stages)
put_cost b item stages =
    let e = onto_cost (item ∷ []) stages (target 0 stages) (slice_get stages (target 0 stages)) refl in
    handed_cost b (size (item ∷ [])) (item ∷ []) (target 0 stages) (chain_cost stages + (length stages + length stages)) stages stages (slice_get stages (target 0 stages)) (omega arith) (omega arith)

-- ---- no call makes a chain longer
handed_length : (b : Contexts) (n : ℕ) (items : List ChainItem) (t : ℕ) (stages changed : List Stage) (o : Option Stage) → length changed ≡ length stages
    → length (hand_over_to b n items t stages changed o).1 ≡ length stages
handed_length b n items t stages changed o same = by_room (accepts b n o) refl
  where
    by_room : (f : Bool) → accepts b n o ≡ f → length (hand_over_to b n items t stages changed o).1 ≡ length stages
    by_room true is = rw is (onto_length items changed t o ∙ same)
    by_room false is = rw is

pub put_length : (b : Contexts) (item : ChainItem) (stages : List Stage) → length (put b item stages).1 ≡ length stages
put_length b item stages = handed_length b (size (item ∷ [])) (item ∷ []) (target 0 stages) stages stages (slice_get stages (target 0 stages)) refl

pub continued_length : (b : Contexts) (k : ℕ) (stages : List Stage) → length (continued b k stages).1 ≡ length stages
continued_length b k stages = by_stage (slice_get stages k)
  where
    by_stage : (o : Option Stage) → length (continued_at b k stages o).1 ≡ length stages
    by_stage None = refl
    by_stage (Some s) =
        rw (unless_same b (without_held b s) (hand_over b (length (bytes_held b s)) (held_items s.held (bytes_held b s)) (k + 1) stages (slice_set stages k (without_hold s))))
        (handed_length b (length (bytes_held b s)) (held_items s.held (bytes_held b s)) (target (k + 1) stages) stages (slice_set stages k (without_hold s)) (slice_get stages (target (k + 1) stages)) (length-set stages k (without_hold s)))

pub let_through_length : (b : Contexts) (k : ℕ) (stages : List Stage) → length (let_through b k stages).1 ≡ length stages
let_through_length b k stages = by_stage (slice_get stages k)
  where
    by_stage : (o : Option Stage) → length (let_through_at b k stages o).1 ≡ length stages
    by_stage None = refl
    by_stage (Some s) =
        rw (unless_same b (without_held b s) (hand_over b (length (bytes_held b s) + size s.waiting) (held_items s.held (bytes_held b s) ++ s.waiting) (k + 1) stages (slice_set stages k (bypassed_stage s))))
        (handed_length b (length (bytes_held b s) + size s.waiting) (held_items s.held (bytes_held b s) ++ s.waiting) (target (k + 1) stages) stages (slice_set stages k (bypassed_stage s)) (slice_get stages (target (k + 1) stages))
        (length-set stages k (bypassed_stage s)))

pub drop_cost : (n : ℕ) (stages : List Stage) → chain_cost (drop n stages) ≤ chain_cost stages
drop_cost zero stages = omega arith
drop_cost (suc n) [] = omega arith
drop_cost (suc n) (s ∷ ss) = let e = drop_cost n ss in omega arith

pub drop_fewer : (n : ℕ) (stages : List Stage) → length (drop n stages) ≤ length stages
drop_fewer zero stages = omega arith
drop_fewer (suc n) [] = omega arith
drop_fewer (suc n) (s ∷ ss) = let e = drop_fewer n ss in omega arith
