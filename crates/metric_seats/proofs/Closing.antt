-- Where every place came back to worker 1's, so did every seat at the words.
use Rattle.std.proofs.Common.{◌≡◌, ℕ, zero, suc, List, [], ◌∷◌, map, ap, sym, ◌∙◌, refl, arith}
use mathlib.Core.Option.{some, some-injective, some-ne-none}
use lib.ListN.{get_elem?}
use Rattle.atomic_table.proofs.Lists.{at_map}
use Rattle.metric_table.specs.Seats.{Counting}
use Rattle.metric_table.specs.Seats as counting
use Rattle.metric_table.specs.declared.view.Ended as words
use Rattle.turn_table.specs.Seats.{Seated, HasAll}
use Rattle.turn_table.specs.declared.view.Ended.{Ended}
use Rattle.metric_seats.specs.Places.{AreOne}

-- a member of a mapped list comes of one
mapped_of : {A B : Type 0} (f : A → B) (l : List A) (k : ℕ) (b : B) → get_elem? (map f l) k ≡ some b → (a : A) × (get_elem? l k ≡ some a) × (f a ≡ b)
mapped_of f [] k b e = absurd (some-ne-none b (sym e))
mapped_of f (x ∷ l) zero b e = (x, refl, some-injective (f x) b e)
mapped_of f (x ∷ l) (suc k) b e = mapped_of f l k b e

pub all_words : (names : Seated) (words : Counting) → AreOne names words → HasAll names → counting.HasAll words
all_words names seat one has n low high =
    let x = has n low (let g = one.given in omega arith) in
    let number : Ended → ℕ = λ e. e.number in
    let here = sym (ap (λ l. get_elem? l x.0) one.ended) ∙ at_map number names.ended x.0 x.1 x.2 in
    let m = mapped_of (λ (e : words.Ended). e.number) seat.ended x.0 (number x.1) here in
    (x.0, m.0, m.1, m.2 ∙ x.3)
