-- What a loop puts at the end of what it has put so far.
use Rattle.std.proofs.Common.{◌≡◌, ◌∙◌, ap, sym, subst, ℕ, suc, ◌+◌, ◌<◌, List, [], ◌∷◌, ◌++◌, length, take, drop, set, get_or, map, arith, append_assoc}
use Rattle.std.proofs.lemmas.List.{length-append, length-take-le, map-append}
use Rattle.std.proofs.Math.Seq.{set-append_seam, take-suc, drop-cons}
use Rattle.wasm_syntax.specs.Memory.{written}

pub written_more : {A : Type 0} (old : List A) (at : ℕ) (xs : List A) (x : A) → at + length xs < length old → set (written old at xs) (at + length xs) x ≡ written old at (xs ++ x ∷ [])
written_more old at xs x lt =
    let k = at + length xs in
    let front = take at old ++ xs in
    let rest = drop (suc k) old in
    let long : length front ≡ k = length-append (take at old) xs ∙ ap (λ n. n + length xs) (length-take-le at old (omega arith)) in
    let shape : written old at xs ≡ front ++ get_or old k x ∷ rest = ap (λ ys. take at old ++ (xs ++ ys)) (drop-cons old k x lt) ∙ sym (append_assoc (take at old) xs (get_or old k x ∷ rest)) in
    let set_it : set (front ++ get_or old k x ∷ rest) k x ≡ front ++ x ∷ rest = subst (λ n. set (front ++ get_or old k x ∷ rest) n x ≡ front ++ x ∷ rest) long (set-append_seam front (get_or old k x) rest x) in
    let longer : suc k ≡ at + length (xs ++ x ∷ []) = let l = length-append xs (x ∷ []) in omega (arith, l) in
    ap (λ ys. set ys k x) shape ∙ set_it ∙ append_assoc (take at old) xs (x ∷ rest) ∙ ap (λ ys. take at old ++ ys) (sym (append_assoc xs (x ∷ []) rest)) ∙ ap (λ n. take at old ++ ((xs ++ x ∷ []) ++ drop n old)) longer

-- the first n + 1 members are the first n and one more
pub one_more : {A : Type 0} (xs : List A) (n : ℕ) (x d : A) → n < length xs → x ≡ get_or xs n d → take (n + 1) xs ≡ take n xs ++ x ∷ []
one_more xs n x d lt read =
    let next : n + 1 ≡ suc n = omega arith in
    ap (λ (k : ℕ). take k xs) next ∙ take-suc xs n d lt ∙ ap (λ y. take n xs ++ y ∷ []) (sym read)

pub mapped_more : {A B : Type 0} (f : A → B) (xs : List A) (n : ℕ) (x d : A) → n < length xs → x ≡ get_or xs n d → map f (take (n + 1) xs) ≡ map f (take n xs) ++ f x ∷ []
mapped_more f xs n x d lt read = ap (map f) (one_more xs n x d lt read) ∙ map-append f (take n xs) (x ∷ [])
