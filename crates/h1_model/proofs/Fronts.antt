-- What was handed on by any moment is a front of what the text spells.
use Rattle.std.proofs.Common.{◌≡◌, ℕ, ◌+◌, Bool, false, List, [], ◌∷◌, ◌++◌, map, drop, Option, refl, sym, subst, inl, inr, arith}
use Rattle.h1_model.specs.Fronts.{IsFront, PiecesAreAFront, AreFronts, FrontsOfOneText}
use Rattle.h1_model.specs.Messages.{Item, Placed, Due, head, Stop, item, stop, SpellsFrom, Messages}
use Rattle.h1_model.specs.ReadingLaws.{item_at}
use Rattle.h1_model.specs.Unread.{Reading, new_reading, Act, DoesAll, text_of, items_handed}
use Rattle.h1_model.proofs.Chains.{Chain, chain_grows}
use Rattle.h1_model.proofs.Pieces.{HandedOn, handed_on}
use Rattle.h1_model.proofs.Readings.{StepsTo-unique, item_is_no_stop, same_item}

-- a chain from a place on, where another item was used up to the same place
moved_to : (text : List ℕ) (ended : Bool) (asked : Option (List ℕ)) (at n m : ℕ) (d e : Due) (xs : List Placed) (next : Due) (to : ℕ) → n ≡ m → d ≡ e
    → Chain text ended asked d (at + n) xs next to → Chain text ended asked e (at + m) xs next to
moved_to text ended asked at n m d e xs next to used due x =
    subst (λ (c : Due). Chain text ended asked c (at + m) xs next to) due (subst (λ (k : ℕ). Chain text ended asked d (at + k) xs next to) used x)

longer_front : (i j : Item) (xs ys : List Item) → i ≡ j → IsFront xs ys → IsFront (i ∷ xs) (j ∷ ys)
longer_front i j xs ys same x = (x.0, λ k. same k ∷ x.1 k)

-- a chain is a front of what the text spells from there on
chain_front : (text : List ℕ) (ended : Bool) (asked : Option (List ℕ)) (due : Due) (at : ℕ) (xs ys : List Placed) (next : Due) (to : ℕ) (why : Stop)
    → Chain text ended asked due at xs next to → SpellsFrom text ended asked due at ys why → IsFront (map item_at xs) (map item_at ys)
chain_front text ended asked due at [] ys next to why x y = (map item_at ys, refl)
chain_front text ended asked due at (p ∷ xs) [] next to why x y =
    absurd (item_is_no_stop p.item x.0 x.1 why (StepsTo-unique ended asked due (drop at text) (item p.item x.0 x.1) (stop why) x.2 y))
chain_front text ended asked due at (p ∷ xs) (q ∷ ys) next to why x y =
    let same = same_item p.item q.item x.0 y.0 x.1 y.1
    (StepsTo-unique ended asked due (drop at text) (item p.item x.0 x.1) (item q.item y.0 y.1) x.2 y.2) in
    let moved : Chain text ended asked y.1 (at + y.0) xs next to = moved_to text ended asked at x.0 y.0 x.1 y.1 xs next to same.1 same.2 x.5 in
    longer_front p.item q.item (map item_at xs) (map item_at ys) same.0
    (chain_front text ended asked y.1 (at + y.0) xs ys next to why moved y.5)

longer_fronts : (i j : Item) (xs ys : List Item) → i ≡ j → AreFronts xs ys → AreFronts (i ∷ xs) (j ∷ ys)
longer_fronts i j xs ys same (inl x) = inl (longer_front i j xs ys same x)
longer_fronts i j xs ys same (inr x) = inr (longer_front j i ys xs (sym same) x)

-- of two chains from one place on one is a front of the other
chains_front : (text : List ℕ) (ended : Bool) (asked : Option (List ℕ)) (due : Due) (at : ℕ) (xs ys : List Placed) (next last : Due) (to far : ℕ)
    → Chain text ended asked due at xs next to → Chain text ended asked due at ys last far → AreFronts (map item_at xs) (map item_at ys)
chains_front text ended asked due at [] ys next last to far x y = inl (map item_at ys, refl)
chains_front text ended asked due at (p ∷ xs) [] next last to far x y = inr (map item_at (p ∷ xs), refl)
chains_front text ended asked due at (p ∷ xs) (q ∷ ys) next last to far x y =
    let same = same_item p.item q.item x.0 y.0 x.1 y.1
    (StepsTo-unique ended asked due (drop at text) (item p.item x.0 x.1) (item q.item y.0 y.1) x.2 y.2) in
    let moved : Chain text ended asked y.1 (at + y.0) xs next to = moved_to text ended asked at x.0 y.0 x.1 y.1 xs next to same.1 same.2 x.5 in
    longer_fronts p.item q.item (map item_at xs) (map item_at ys) same.0
    (chains_front text ended asked y.1 (at + y.0) xs ys next last to far moved y.5)

-- ---- what was handed on

front_of : (asked : Option (List ℕ)) (acts : List Act) (text : List ℕ) (ended : Bool) (xs ys : List Placed) (next : Due) (at : ℕ) (why : Stop)
    → map item_at xs ≡ items_handed asked acts → Chain text ended asked head 0 xs next at → Messages text ended asked ys why
    → IsFront (items_handed asked acts) (map item_at ys)
front_of asked acts text ended xs ys next at why same chain spelled =
    subst (λ (is : List Item). IsFront is (map item_at ys)) same (chain_front text ended asked head 0 xs ys next at why chain spelled)

fronts_of : (asked : Option (List ℕ)) (acts others : List Act) (text : List ℕ) (ended : Bool) (xs ys : List Placed) (next last : Due) (at far : ℕ)
    → map item_at xs ≡ items_handed asked acts → map item_at ys ≡ items_handed asked others
    → Chain text ended asked head 0 xs next at → Chain text ended asked head 0 ys last far
    → AreFronts (items_handed asked acts) (items_handed asked others)
fronts_of asked acts others text ended xs ys next last at far same also x y =
    let fronts : AreFronts (map item_at xs) (map item_at ys) = chains_front text ended asked head 0 xs ys next last at far x y in
    subst (λ (is : List Item). AreFronts (items_handed asked acts) is) also
    (subst (λ (is : List Item). AreFronts is (map item_at ys)) same fronts)

-- what was handed on of a text that has not ended is a chain in every longer text
grown : (asked : Option (List ℕ)) (acts : List Act) (more : List ℕ) (now ended : Bool) (h : HandedOn asked acts now) → now ≡ false
    → Chain (text_of acts ++ more) ended asked head 0 h.items h.next h.at
grown asked acts more now ended h goes_on =
    chain_grows (text_of acts) more ended asked head 0 h.items h.next h.at (omega arith)
    (subst (λ (e : Bool). Chain (text_of acts) e asked head 0 h.items h.next h.at) goes_on h.chain)

pub pieces_are_a_front : PiecesAreAFront
pieces_are_a_front = record {
  so_far = λ asked acts r items why does spelled.
      let h : HandedOn asked acts r.ended = handed_on asked acts r does in
      front_of asked acts (text_of acts) r.ended h.items items h.next h.at why h.same h.chain spelled;
  longer = λ asked acts r more ended items why does goes_on spelled.
      let h : HandedOn asked acts r.ended = handed_on asked acts r does in
      front_of asked acts (text_of acts ++ more) ended h.items items h.next h.at why h.same (grown asked acts more r.ended ended h goes_on) spelled;
}

same_fronts : (asked : Option (List ℕ)) (acts others : List Act) (r s : Reading) → DoesAll (new_reading asked) acts r → DoesAll (new_reading asked) others s
    → text_of acts ≡ text_of others → r.ended ≡ s.ended → AreFronts (items_handed asked acts) (items_handed asked others)
same_fronts asked acts others r s does did text ended =
    let h : HandedOn asked acts r.ended = handed_on asked acts r does in
    let g : HandedOn asked others s.ended = handed_on asked others s did in
    let ended_moved : Chain (text_of acts) s.ended asked head 0 h.items h.next h.at =
    subst (λ (e : Bool). Chain (text_of acts) e asked head 0 h.items h.next h.at) ended h.chain in
    let moved : Chain (text_of others) s.ended asked head 0 h.items h.next h.at =
    subst (λ (t : List ℕ). Chain t s.ended asked head 0 h.items h.next h.at) text ended_moved in
    fronts_of asked acts others (text_of others) s.ended h.items g.items h.next g.next h.at g.at h.same g.same moved g.chain

longer_of_one : (asked : Option (List ℕ)) (acts others : List Act) (r s : Reading) (more : List ℕ) → DoesAll (new_reading asked) acts r
    → DoesAll (new_reading asked) others s → r.ended ≡ false → text_of others ≡ text_of acts ++ more
    → AreFronts (items_handed asked acts) (items_handed asked others)
longer_of_one asked acts others r s more does did goes_on text =
    let h : HandedOn asked acts r.ended = handed_on asked acts r does in
    let g : HandedOn asked others s.ended = handed_on asked others s did in
    let moved : Chain (text_of acts ++ more) s.ended asked head 0 g.items g.next g.at =
    subst (λ (t : List ℕ). Chain t s.ended asked head 0 g.items g.next g.at) text g.chain in
    fronts_of asked acts others (text_of acts ++ more) s.ended h.items g.items h.next g.next h.at g.at h.same g.same
    (grown asked acts more r.ended s.ended h goes_on) moved

pub fronts_of_one_text : FrontsOfOneText
fronts_of_one_text = record { same = same_fronts; longer = longer_of_one }
