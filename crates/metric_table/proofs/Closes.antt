-- The words at the end, where the seat of number 1 is the only live one.
use Rattle.std.proofs.Common.{◌≡◌, ℕ, zero, suc, ◌+◌, List, [], ◌∷◌, ◌++◌, length, get_or, take, ap, sym, subst, ◌∙◌, arith, add-one}
use mathlib.Core.Option.{some, some-injective, some-ne-none}
use lib.ListN.{get_elem?}
use Rattle.atomic_table.specs.Table.{Final, Seen}
use Rattle.metric_table.specs.Rule.{IsRow, Kept}
use Rattle.metric_table.specs.Seats.{Shut, counting}
use Rattle.metric_table.specs.declared.view.View.{View}
use Rattle.atomic_table.specs.Seated.{TableId}

pub closes : (t : TableId) (id : ℕ) (v : View) (ws : List ℕ) (xs : List Unit) → v.number ≡ 1 → Final (Seen Kept id v) ws xs → Shut (counting t v) ws
closes t id v ws xs one (s, seen, words, long, slots) =
    let r = seen.0 in
    let at = seen.1 in
    let k = r.knows id v at (omega arith) in
    let l = r.leads id v at one in
    record {
      as_many = ap length (sym words) ∙ r.as_many;
      own = subst (λ (x : List ℕ × ℕ). IsRow x.0 x.1 v.own) (λ i. (words i, one i)) k.own;
      ended = λ i e there. subst (λ w. IsRow w e.number e.own) words (l.remains i e there).own;
      none_past = λ place past. ap (λ w. get_or w place 0) (sym words) ∙ l.none_past place past;
    }

-- one more word was taken over
pub taken_more : (l : List ℕ) (n x : ℕ) → get_elem? l n ≡ some x → take (suc n) l ≡ take n l ++ x ∷ []
taken_more [] n x e = absurd (some-ne-none x (sym e))
taken_more (y ∷ l) zero x e = ap (λ z. z ∷ []) (some-injective y x e)
taken_more (y ∷ l) (suc n) x e = ap (λ r. y ∷ r) (taken_more l n x e)

pub taken : (items words more : List ℕ) (n x : ℕ) → items ≡ take n words → get_elem? words n ≡ some x → more ≡ items ++ x ∷ [] → more ≡ take (n + 1) words
taken items words more n x is at made = made ∙ (ap (λ l. l ++ x ∷ []) is ∙ (sym (taken_more words n x at) ∙ ap (λ k. take k words) (sym (add-one n))))
