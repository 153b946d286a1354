-- Steps over lists of items and of stages.
use Rattle.std.proofs.Common.{◌≡◌, ℕ, ◌+◌, ◌<◌, ◌≤◌, List, [], ◌∷◌, ◌++◌, length, drop, get_or, take, ◌-◌, ap, ◌∙◌, arith, true, false}
use Rattle.std.specs.Prelude.{not, suc, remove}
use Rattle.std.specs.List.{position_or_len, suffix_len}
use Rattle.std.proofs.lemmas.List.Sums.{suffix_len-take_yes, suffix_len-take_no}
use Rattle.std.proofs.lemmas.List.{drop_more, drop_all}
use Rattle.filter_chain.specs.declared.item.ChainItem.{ChainItem}
use Rattle.filter_chain.specs.declared.stage.Stage.{Stage}
use Rattle.filter_chain.specs.Items.{size, bytes_in}
use Rattle.filter_chain.specs.Chains.{target, may_be_picked}

pub size_more : (items : List ChainItem) (i : ℕ) (d : ChainItem) → i < length items → size (drop i items) ≡ length (bytes_in (get_or items i d)) + size (drop (i + 1) items)
size_more items i d inside = ap size (drop_more items i d inside)

pub size_all : (items : List ChainItem) (i : ℕ) → length items ≤ i → size (drop i items) ≡ 0
size_all items i past = ap size (drop_all i items past)

pub size_append : (xs ys : List ChainItem) → size (xs ++ ys) ≡ size xs + size ys
size_append [] ys = omega arith
size_append (x ∷ xs) ys = omega (arith, size_append xs ys)

passes_more : (s : Stage) (ss : List Stage) → s.passes ≡ true → position_or_len (λ (t : Stage). not t.passes) (s ∷ ss) ≡ 1 + position_or_len (λ (t : Stage). not t.passes) ss
passes_more s ss is = rw is

passes_not : (s : Stage) (ss : List Stage) → s.passes ≡ false → position_or_len (λ (t : Stage). not t.passes) (s ∷ ss) ≡ 0
passes_not s ss no' = rw no'

pub target_more : (stages : List Stage) (i : ℕ) (d : Stage) → i < length stages → (get_or stages i d).passes ≡ true → target (i + 1) stages ≡ target i stages
target_more stages i d inside is =
    let e : position_or_len (λ (t : Stage). not t.passes) (drop i stages) ≡ 1 + position_or_len (λ (t : Stage). not t.passes) (drop (i + 1) stages)
    = ap (position_or_len (λ (t : Stage). not t.passes)) (drop_more stages i d inside) ∙ passes_more (get_or stages i d) (drop (i + 1) stages) is in
    omega arith

pub target_here : (stages : List Stage) (i : ℕ) (d : Stage) → i < length stages → (get_or stages i d).passes ≡ false → target i stages ≡ i
target_here stages i d inside no' =
    let e : position_or_len (λ (t : Stage). not t.passes) (drop i stages) ≡ 0
    = ap (position_or_len (λ (t : Stage). not t.passes)) (drop_more stages i d inside) ∙ passes_not (get_or stages i d) (drop (i + 1) stages) no' in
    omega arith

pub target_past : (stages : List Stage) (i : ℕ) → length stages ≤ i → target i stages ≡ i
target_past stages i past =
    let e : position_or_len (λ (t : Stage). not t.passes) (drop i stages) ≡ 0 = ap (position_or_len (λ (t : Stage). not t.passes)) (drop_all i stages past) in
    omega arith

pub ready_less : (stages : List Stage) (n : ℕ) (d : Stage) → 0 < n → n ≤ length stages → may_be_picked (get_or stages (n - 1) d) ≡ false
    → suffix_len (λ s. not (may_be_picked s)) (take n stages) ≡ 1 + suffix_len (λ s. not (may_be_picked s)) (take (n - 1) stages)
ready_less stages n d some within no' = suffix_len-take_yes (λ s. not (may_be_picked s)) stages n d some within (ap not no')

pub ready_here : (stages : List Stage) (n : ℕ) (d : Stage) → 0 < n → n ≤ length stages → may_be_picked (get_or stages (n - 1) d) ≡ true
    → suffix_len (λ s. not (may_be_picked s)) (take n stages) ≡ 0
ready_here stages n d some within is = suffix_len-take_no (λ s. not (may_be_picked s)) stages n d some within (ap not is)

pub keeps_last : (xs : List Stage) (n : ℕ) → n < length xs → drop (length (remove xs 0) - n) (remove xs 0) ≡ drop (length xs - n) xs
keeps_last [] n some = absurd (omega arith)
keeps_last (x ∷ xs) n some =
    let e : suc (length xs) - n ≡ suc (length xs - n) = omega arith in
    rw e
