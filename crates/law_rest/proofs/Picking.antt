-- THE STAGE THAT IS PICKED has something that waits, so asking it does some of what is left to do, or it has too much.
use Rattle.std.proofs.Common.{◌≡◌, ℕ, zero, suc, ◌+◌, ◌<◌, ◌≤◌, true, List, [], ◌∷◌, length, ap, ◌∙◌, sym, refl, arith}
use Rattle.std.proofs.Math.ListN.{length-set}
use Rattle.std.specs.Prelude.{Option, None, Some, slice_get, slice_set, nat_le}
use Rattle.contexts.specs.declared.parts.Contexts.{Contexts}
use Rattle.filter_chain.specs.Chains.{ready, is_any, asked, asked_at, ask_stage, ask_item, with_stage, bytes_at, limit}
use Rattle.filter_chain.specs.Costs.{cost_of_items, chain_cost}
use Rattle.filter_chain.specs.Items.{is_free}
use Rattle.filter_chain.specs.declared.item.Asking.{Asking}
use Rattle.filter_chain.specs.declared.item.Asking.TheVariants.{Nothing, Over, Asks}
use Rattle.filter_chain.specs.declared.item.ChainItem.{ChainItem}
use Rattle.filter_chain.specs.declared.item.ChainItem.TheVariants.{Head, Piece, Trailers}
use Rattle.filter_chain.specs.declared.stage.Stage.{Stage}
use Rattle.filter_chain.proofs.Picks.{ready_picks}
use Rattle.filter_chain.proofs.Weights.{cost_set, DoesSome, asks_fall}
use Rattle.law_rest.proofs.Tests.{of_if, both_hold}

-- the stage is asked, or it has too much, and is as it was
abbrev Picks : Stage → Asking × Stage × Contexts → Type 0
Picks s (Nothing, t, h) = ⊥
Picks s (Over k, t, h) = t ≡ s
Picks s (Asks ask, t, h) = Unit {0}

picks : (h : Contexts) (k : ℕ) (s : Stage) (w : List ChainItem) → is_any w ≡ true → Picks s (ask_item h k s w)
picks h k s [] some = absurd (cc)
picks h k s (Head end ∷ w) some = tt
picks h k s (Piece bytes end ∷ w) some =
    of_if (λ (r : Asking × Stage × Contexts). Picks s r) (nat_le (length (bytes_at h s) + length bytes) limit) _ _ (λ is. tt) (λ is. refl)
picks h k s (Trailers ∷ w) some = tt

-- there was something to do: less is left where a callback is to come, and where it is too much the chain is as it was
abbrev pub DoesPick : List Stage → Asking × List Stage × Contexts → Type 0
DoesPick stages (Nothing, after, h) = ⊥
DoesPick stages (Over k, after, h) = (after ≡ stages) × (0 < chain_cost stages)
DoesPick stages (Asks ask, after, h) = (chain_cost after < chain_cost stages) × (length after ≡ length stages)

set_same : (stages : List Stage) (k : ℕ) (s t : Stage) → slice_get stages k ≡ Some s → t ≡ s → slice_set stages k t ≡ stages
set_same [] k s t is same = absurd (cc)
set_same (x ∷ xs) zero s t is same = let here : x ≡ s = (cc) in ap (λ (y : Stage). y ∷ xs) (same ∙ sym here)
set_same (x ∷ xs) (suc k) s t is same = ap (λ (l : List Stage). x ∷ l) (set_same xs k s t is same)

some_cost : (c : ℕ) (w : List ChainItem) → is_any w ≡ true → c ≤ cost_of_items c w
some_cost c [] some = absurd (cc)
some_cost c (i ∷ w) some = omega arith

cost_there : (stages : List Stage) (k : ℕ) (s : Stage) → slice_get stages k ≡ Some s → is_any s.waiting ≡ true → 0 < chain_cost stages
cost_there [] k s is some = absurd (cc)
cost_there (x ∷ xs) zero s is some =
    let here : x ≡ s = (cc) in
    let more : is_any x.waiting ≡ true = ap (λ (y : Stage). is_any y.waiting) here ∙ some in
    let c = some_cost (2 + (length xs + length xs)) x.waiting more in
    omega arith
cost_there (x ∷ xs) (suc k) s is some = let e = cost_there xs k s is some in omega arith

picked_at : (stages : List Stage) (k : ℕ) (s : Stage) (r : Asking × Stage × Contexts) → slice_get stages k ≡ Some s → is_any s.waiting ≡ true → DoesSome s r → Picks s r
    → DoesPick stages (with_stage k stages r)
picked_at stages k s (Nothing, t, h) at some does is = elim is [ ]
picked_at stages k s (Over j, t, h) at some does is = (set_same stages k s t at is, cost_there stages k s at some)
picked_at stages k s (Asks ask, t, h) at some does is = (cost_set stages k s t at does, length-set stages k t)

within : (stages : List Stage) (k : ℕ) → slice_get stages k ≡ None → length stages ≤ k
within [] k is = omega arith
within (x ∷ xs) zero is = absurd (cc)
within (x ∷ xs) (suc k) is = let e = within xs k is in omega arith

pub asked_picks : (h : Contexts) (stages : List Stage) → 0 < ready stages → DoesPick stages (asked h stages)
asked_picks h stages some = by_ready (ready stages) refl
  where
    by_stage : (k : ℕ) → ready stages ≡ suc k → (o : Option Stage) → slice_get stages k ≡ o → DoesPick stages (ask_stage h k stages o)
    by_stage k is None at = let e = within stages k at in absurd (omega arith)
    by_stage k is (Some s) at =
        let both = both_hold (is_any s.waiting) (is_free s.held) (ready_picks stages k s is at) in
        picked_at stages k s (ask_item h k s s.waiting) at both.0 (asks_fall h k s s.waiting refl both.1) (picks h k s s.waiting both.0)

    by_ready : (n : ℕ) → ready stages ≡ n → DoesPick stages (asked_at h stages n)
    by_ready zero is = absurd (omega arith)
    by_ready (suc k) is = by_stage k is (slice_get stages k) refl
