-- THE STAGE THAT IS ASKED may be picked, so asking does some of what is left to do.
use Rattle.std.proofs.Common.{◌≡◌, ℕ, zero, suc, ◌+◌, ◌-◌, ◌<◌, ◌≤◌, Bool, true, false, List, [], ◌∷◌, length, take, get_or, ap, ◌∙◌, sym, refl, subst, arith}
use Rattle.std.specs.Prelude.{Option, None, Some, slice_get, slice_set, not, ◌&&◌}
use Rattle.std.specs.List.{suffix_len}
use Rattle.std.proofs.lemmas.List.{take_all}
use Rattle.std.proofs.lemmas.Option.{get_or_from_slice_get}
use Rattle.filter_chain.specs.declared.stage.Stage.{Stage}
use Rattle.filter_chain.specs.declared.item.ChainItem.{ChainItem}
use Rattle.filter_chain.specs.declared.item.Asking.{Asking}
use Rattle.filter_chain.specs.declared.item.Asking.TheVariants.{Nothing, Over, Asks}
use Rattle.filter_chain.specs.Items.{is_free}
use Rattle.filter_chain.specs.Chains.{ready, may_be_picked, is_any, asked, asked_at, ask_stage, ask_item, with_stage}
use Rattle.filter_chain.proofs.Sizes.{ready_less, ready_here}
use Rattle.contexts.specs.declared.parts.Contexts.{Contexts}
use Rattle.filter_chain.specs.Costs.{chain_cost, stage_cost, Falls}
use Rattle.filter_chain.proofs.Weights.{cost_set, DoesSome, asks_fall}

picks : (xs : List Stage) (n k : ℕ) (s : Stage) → n ≤ length xs → n ≡ suc k + suffix_len (λ t. not (may_be_picked t)) (take n xs) → slice_get xs k ≡ Some s → may_be_picked s ≡ true
picks xs zero k s within is at = absurd (omega arith)
picks xs (suc i) k s within is at = by_pick (λ less same. picks xs i k s less same at) (may_be_picked (get_or xs (suc i - 1) s)) refl
  where
    by_pick : (i ≤ length xs → i ≡ suc k + suffix_len (λ t. not (may_be_picked t)) (take i xs) → may_be_picked s ≡ true) → (b : Bool) → may_be_picked (get_or xs (suc i - 1) s) ≡ b → may_be_picked s ≡ true
    by_pick earlier true it =
        let one : suc i - 1 ≡ i = omega arith in
        let none : suffix_len (λ (t : Stage). not (may_be_picked t)) (take (suc i) xs) ≡ 0 = ready_here xs (suc i) s (omega arith) within it in
        let same : suc i - 1 ≡ k = omega arith in
        sym (ap may_be_picked (ap (λ (j : ℕ). get_or xs j s) same ∙ get_or_from_slice_get xs k s s at)) ∙ it
    by_pick earlier false it =
        let one : suc i - 1 ≡ i = omega arith in
        let less : suffix_len (λ (t : Stage). not (may_be_picked t)) (take (suc i) xs) ≡ 1 + suffix_len (λ (t : Stage). not (may_be_picked t)) (take (suc i - 1) xs)
        = ready_less xs (suc i) s (omega arith) within it in
        let here : suffix_len (λ (t : Stage). not (may_be_picked t)) (take (suc i - 1) xs) ≡ suffix_len (λ (t : Stage). not (may_be_picked t)) (take i xs)
        = ap (λ (j : ℕ). suffix_len (λ (t : Stage). not (may_be_picked t)) (take j xs)) one in
        earlier (omega arith) (omega arith)

pub ready_picks : (xs : List Stage) (k : ℕ) (s : Stage) → ready xs ≡ suc k → slice_get xs k ≡ Some s → may_be_picked s ≡ true
ready_picks xs k s is at =
    let all : suffix_len (λ (t : Stage). not (may_be_picked t)) (take (length xs) xs) ≡ suffix_len (λ (t : Stage). not (may_be_picked t)) xs
    = ap (suffix_len (λ (t : Stage). not (may_be_picked t))) (take_all (length xs) xs (omega arith)) in
    picks xs (length xs) k s (omega arith) (omega arith) at

free_of : (a b : Bool) → (a && b) ≡ true → b ≡ true
free_of true b is = is
free_of false b is = absurd (cc)

falls_at : (stages : List Stage) (k : ℕ) (s : Stage) (r : Asking × Stage × Contexts) → slice_get stages k ≡ Some s → DoesSome s r → Falls stages (with_stage k stages r)
falls_at stages k s (Nothing, t, b) at some = tt
falls_at stages k s (Over j, t, b) at some = tt
falls_at stages k s (Asks ask, t, b) at some = cost_set stages k s t at some

pub asked_falls : (b : Contexts) (stages : List Stage) → Falls stages (asked b stages)
asked_falls b stages = by_ready (ready stages) refl
  where
    by_stage : (k : ℕ) → ready stages ≡ suc k → (o : Option Stage) → slice_get stages k ≡ o → Falls stages (ask_stage b k stages o)
    by_stage k is None at = tt
    by_stage k is (Some s) at =
        falls_at stages k s (ask_item b k s s.waiting) at (asks_fall b k s s.waiting refl (free_of (is_any s.waiting) (is_free s.held) (ready_picks stages k s is at)))

    by_ready : (n : ℕ) → ready stages ≡ n → Falls stages (asked_at b stages n)
    by_ready zero is = tt
    by_ready (suc k) is = by_stage k is (slice_get stages k) refl
