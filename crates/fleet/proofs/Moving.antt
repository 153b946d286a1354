-- One post more, and one less.
use Rattle.std.proofs.Common.{◌≡◌, ◌∙◌, ℕ, ◌+◌, List, [], ◌∷◌, ◌++◌, map, reverse, ap, sym, arith, append_assoc, length-append}
use Rattle.std.proofs.lemmas.List.{reverse-append, map-append}
use Rattle.fleet.specs.Moves.{AreFrom}
use Rattle.fleet.specs.declared.post.Post.{Post}

pub reverse_more : {A B : Type 0} (f : A → B) (ps : List A) (p : A) → reverse (map f (ps ++ p ∷ [])) ≡ f p ∷ reverse (map f ps)
reverse_more f ps p = ap reverse (map-append f ps (p ∷ [])) ∙ reverse-append (map f ps) (f p ∷ [])

-- a member leaves one list for the other, and both together stay
pub moved : {A B : Type 0} (f : A → B) (xs : List B) (ps : List A) (p : A) (all : List B) → (xs ++ f p ∷ []) ++ reverse (map f ps) ≡ all → xs ++ reverse (map f (ps ++ p ∷ [])) ≡ all
moved f xs ps p all e = ap (λ (l : List _). xs ++ l) (reverse_more f ps p) ∙ sym (append_assoc xs (f p ∷ []) (reverse (map f ps))) ∙ e

pub moved_back : {A B : Type 0} (f : A → B) (xs : List B) (ps : List A) (p : A) (all : List B) → xs ++ reverse (map f (ps ++ p ∷ [])) ≡ all → (xs ++ f p ∷ []) ++ reverse (map f ps) ≡ all
moved_back f xs ps p all e = append_assoc xs (f p ∷ []) (reverse (map f ps)) ∙ sym (ap (λ (l : List _). xs ++ l) (reverse_more f ps p)) ∙ e

pub one_more : {W : Type 0} (low : ℕ) (ps : List (Post W)) (p : Post W) → AreFrom (low + 1) ps → p.who ≡ low + 1 → AreFrom low (ps ++ p ∷ [])
one_more low [] p rest who = (omega (arith, who), tt)
one_more low (q ∷ ps) p rest who = ((let e = length-append ps (p ∷ []) in let first = rest.0 in omega (arith, e, first)), one_more low ps p rest.1 who)
