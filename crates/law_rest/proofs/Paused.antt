-- WHERE NO STAGE IS TO BE ASKED each stage at which an item waits is paused.
use Rattle.std.proofs.Common.{◌≡◌, ℕ, zero, suc, ◌+◌, ◌-◌, ◌<◌, ◌≤◌, Bool, true, false, List, [], ◌∷◌, length, take, get_or, ap, ◌∙◌, sym, refl, inl, inr, arith}
use Rattle.std.proofs.lemmas.Bool.{ltb-true, ltb-false}
use Rattle.std.proofs.lemmas.List.{take_all}
use Rattle.std.proofs.lemmas.List.Sums.{prefix_len-le-length, suffix_len-le-length, suffix_len-take_yes, suffix_len-take_no}
use Rattle.std.specs.List.{prefix_len, suffix_len, position_or_len}
use Rattle.std.specs.Prelude.{Option, None, Some, ◌⊎◌, not, ◌&&◌, ◌||◌, nat_lt, position, cond}
use Rattle.exchange.specs.declared.types.Exchange.{Exchange}
use Rattle.filter_chain.specs.Chains.{ready, may_be_picked, is_any}
use Rattle.filter_chain.specs.Items.{is_free}
use Rattle.filter_chain.specs.declared.item.Held.{Held}
use Rattle.filter_chain.specs.declared.item.Held.TheVariants as held
use Rattle.filter_chain.specs.declared.item.ChainItem.{ChainItem}
use Rattle.filter_chain.specs.declared.stage.Stage.{Stage}
use Rattle.worker_model.specs.Rooms.{has_move, exchange_moves, exchange_ends, is_over}
use Rattle.worker_model.specs.declared.types.Line.{Line}
use Rattle.law_rest.specs.Laws.{IsPaused, WaitWherePaused, OpenRests, AllRest}
use Rattle.law_rest.proofs.Tests.{is_not, neither}

-- ---- what passes no test

-- as many as there are pass it from the front on: so the first does, and as many as there are after it
each_passes : {X : Type 0} (p : X → Bool) (x : X) (xs : List X) → prefix_len p (x ∷ xs) ≡ suc (length xs) → (p x ≡ true) × (prefix_len p xs ≡ length xs)
each_passes p x xs all = by_first (p x) refl all
  where
    by_first : (b : Bool) → p x ≡ b → cond b (1 + prefix_len p xs) 0 ≡ suc (length xs) → (p x ≡ true) × (prefix_len p xs ≡ length xs)
    by_first true is all = (is, omega arith)
    by_first false is all = absurd (omega arith)

-- nowhere does it pass
nowhere : {X : Type 0} (p : X → Bool) (xs : List X) → position p xs ≡ None → position_or_len p xs ≡ length xs
nowhere p xs none = by_place (nat_lt (position_or_len p xs) (length xs)) refl none
  where
    by_place : (b : Bool) → nat_lt (position_or_len p xs) (length xs) ≡ b → cond b (Some (position_or_len p xs)) None ≡ None → position_or_len p xs ≡ length xs
    by_place true is none = absurd (cc)
    by_place false is none = omega (arith, ltb-false (position_or_len p xs) (length xs) is, prefix_len-le-length (λ x. not (p x)) xs)

-- as many as there are pass it from the end back: so each does
back_passes : {X : Type 0} (p : X → Bool) (xs : List X) (d : X) (n : ℕ) → n ≤ length xs → suffix_len p (take n xs) ≡ n → (k : ℕ) → k < n → p (get_or xs k d) ≡ true
back_passes p xs d zero within all k less = absurd (omega arith)
back_passes p xs d (suc i) within all k less = by_last (λ fewer rest below. back_passes p xs d i fewer rest k below) (p (get_or xs (suc i - 1) d)) refl
  where
    one : suc i - 1 ≡ i
    one = omega arith

    by_last : (i ≤ length xs → suffix_len p (take i xs) ≡ i → k < i → p (get_or xs k d) ≡ true) → (b : Bool) → p (get_or xs (suc i - 1) d) ≡ b → p (get_or xs k d) ≡ true
    by_last earlier false is = let none : suffix_len p (take (suc i) xs) ≡ 0 = suffix_len-take_no p xs (suc i) d (omega arith) within is in absurd (omega arith)
    by_last earlier true is =
        let more : suffix_len p (take (suc i) xs) ≡ 1 + suffix_len p (take (suc i - 1) xs) = suffix_len-take_yes p xs (suc i) d (omega arith) within is in
        let here : suffix_len p (take (suc i - 1) xs) ≡ suffix_len p (take i xs) = ap (λ (j : ℕ). suffix_len p (take j xs)) one in
        let rest : suffix_len p (take i xs) ≡ i = omega (arith, all, more, here) in
        by_place is rest (nat_lt k i) refl
      where
        by_place : p (get_or xs (suc i - 1) d) ≡ true → suffix_len p (take i xs) ≡ i → (b : Bool) → nat_lt k i ≡ b → p (get_or xs k d) ≡ true
        by_place is rest true below = earlier (omega (arith, within)) rest (ltb-true k i below)
        by_place is rest false above =
            let last : k ≡ suc i - 1 = omega (arith, ltb-false k i above, less) in ap (λ (j : ℕ). p (get_or xs j d)) last ∙ is

-- ---- stages

-- no stage may be picked
none_ready : (stages : List Stage) → ready stages ≡ 0 → (k : ℕ) (d : Stage) → k < length stages → not (may_be_picked (get_or stages k d)) ≡ true
none_ready stages none k d less =
    let whole : take (length stages) stages ≡ stages = take_all (length stages) stages (omega arith) in
    let most : suffix_len (λ (s : Stage). not (may_be_picked s)) stages ≤ length stages = suffix_len-le-length (λ (s : Stage). not (may_be_picked s)) stages in
    let all : suffix_len (λ (s : Stage). not (may_be_picked s)) stages ≡ length stages = omega (arith, most, none) in
    back_passes (λ (s : Stage). not (may_be_picked s)) stages d (length stages) (omega arith) (ap (suffix_len (λ (s : Stage). not (may_be_picked s))) whole ∙ all) k less

paused_of : (h : Held) → is_free h ≡ false → IsPaused h
paused_of held.Nothing is = absurd (cc)
paused_of (held.Head end) is = tt
paused_of (held.Body end) is = absurd (cc)
paused_of (held.Trailers body) is = tt

waits_paused : (w : List ChainItem) (h : Held) → not (is_any w && is_free h) ≡ true → (w ≡ []) ⊎ IsPaused h
waits_paused [] h is = inl refl
waits_paused (i ∷ w) h is = inr (paused_of h (is_not (is_free h) is))

all_paused : (stages : List Stage) → ((k : ℕ) (d : Stage) → k < length stages → not (may_be_picked (get_or stages k d)) ≡ true) → WaitWherePaused stages
all_paused [] none = tt
all_paused (s ∷ stages) none =
    (waits_paused s.waiting s.held (none 0 s (omega arith)), all_paused stages (λ k d less. none (suc k) d (omega (arith, less))))

chain_paused : (stages : List Stage) → nat_lt 0 (ready stages) ≡ false → WaitWherePaused stages
chain_paused stages is = all_paused stages (none_ready stages (omega (arith, ltb-false 0 (ready stages) is)))

-- ---- lines

moves_not : (ended some : Bool) → ended ≡ false → (not ended && some) ≡ false → some ≡ false
moves_not true some going is = absurd (cc)
moves_not false some going is = is

open_rests : (o : Option Exchange) → not (exchange_moves o) ≡ true → not (exchange_ends o) ≡ true → OpenRests o
open_rests None has_move ends = tt
open_rests (Some x) has_move ends =
    let going : x.has_ended ≡ false = is_not x.has_ended ends in
    let still : (not x.has_ended && (nat_lt 0 (ready x.request) || nat_lt 0 (ready x.response))) ≡ false =
    is_not (not x.has_ended && (nat_lt 0 (ready x.request) || nat_lt 0 (ready x.response))) has_move in
    let both = neither (nat_lt 0 (ready x.request)) (nat_lt 0 (ready x.response))
    (moves_not x.has_ended (nat_lt 0 (ready x.request) || nat_lt 0 (ready x.response)) going still) in
    (going, chain_paused x.request both.0, chain_paused x.response both.1)

lines_rest : (lines : List Line) → prefix_len (λ (l : Line). not (has_move l)) lines ≡ length lines → prefix_len (λ (l : Line). not (is_over l)) lines ≡ length lines → AllRest lines
lines_rest [] moving ended = tt
lines_rest (l ∷ lines) moving ended =
    let m = each_passes (λ (l : Line). not (has_move l)) l lines moving in
    let e = each_passes (λ (l : Line). not (is_over l)) l lines ended in
    (open_rests l.exchange m.0 e.0, lines_rest lines m.1 e.1)

pub all_rest : (lines : List Line) → position has_move lines ≡ None → position is_over lines ≡ None → AllRest lines
all_rest lines moving ended = lines_rest lines (nowhere has_move lines moving) (nowhere is_over lines ended)
