-- Empty lines in front of a text: a text stands after those that are skipped, and is read there as in front of them.
use Rattle.std.proofs.Common.{◌≡◌, ℕ, ◌+◌, Bool, true, false, eqb, ◌&&◌, ◌||◌, List, [], ◌∷◌, ◌++◌, length, drop, refl, sym, ap, ◌∙◌, subst, arith}
use Rattle.std.proofs.lemmas.Bool.{eqb-true}
use Rattle.std.proofs.Math.Seq.{drop-append-add}
use Rattle.h1_model.specs.Lines.{whole_lines, is_empty_line, empty_len, empty_line_bytes, after_empty_lines}
use Rattle.h1_model.proofs.LineLemmas.{empty_len-other}

-- empty lines, each ended by LF, or by CR LF where it is true
abbrev pub empties : List Bool → List ℕ
empties [] = []
empties (true ∷ lines) = 13 ∷ 10 ∷ empties lines
empties (false ∷ lines) = 10 ∷ empties lines

pub empties-append : (xs ys : List Bool) → empties (xs ++ ys) ≡ empties xs ++ empties ys
empties-append [] ys = refl
empties-append (true ∷ xs) ys = ap (λ (t : List ℕ). 13 ∷ 10 ∷ t) (empties-append xs ys)
empties-append (false ∷ xs) ys = ap (λ (t : List ℕ). 10 ∷ t) (empties-append xs ys)

-- they are skipped with those after them
pub skipped-behind : (lines : List Bool) (text : List ℕ) → empty_line_bytes (empties lines ++ text) ≡ length (empties lines) + empty_line_bytes text
skipped-behind [] text = omega arith
skipped-behind (true ∷ lines) text =
    let here : empty_line_bytes (empties (true ∷ lines) ++ text) ≡ 2 + empty_line_bytes (empties lines ++ text) = refl in
    here ∙ omega (arith, skipped-behind lines text)
skipped-behind (false ∷ lines) text =
    let here : empty_line_bytes (empties (false ∷ lines) ++ text) ≡ 1 + empty_line_bytes (empties lines ++ text) = refl in
    here ∙ omega (arith, skipped-behind lines text)

pub after-behind : (lines : List Bool) (text : List ℕ) → after_empty_lines (empties lines ++ text) ≡ after_empty_lines text
after-behind lines text =
    ap (λ n. drop n (empties lines ++ text)) (skipped-behind lines text) ∙ drop-append-add (empties lines) text (empty_line_bytes text)

-- a text stands after the empty lines that are skipped
pub record EmptyFront (text : List ℕ) : Type 0 where
  pub lines : List Bool
  pub are : text ≡ empties lines ++ after_empty_lines text

feed_first : (text : List ℕ) → EmptyFront text → EmptyFront (10 ∷ text)
feed_first text f = record {
  lines = false ∷ f.lines;
  are = ap (λ (t : List ℕ). 10 ∷ t) f.are
      ∙ ap (λ (t : List ℕ). 10 ∷ (empties f.lines ++ t)) (sym (after-behind (false ∷ []) text));
}

return_first : (text : List ℕ) → EmptyFront text → EmptyFront (13 ∷ 10 ∷ text)
return_first text f = record {
  lines = true ∷ f.lines;
  are = ap (λ (t : List ℕ). 13 ∷ 10 ∷ t) f.are
      ∙ ap (λ (t : List ℕ). 13 ∷ 10 ∷ (empties f.lines ++ t)) (sym (after-behind (true ∷ []) text));
}

none_first : (text : List ℕ) → empty_line_bytes text ≡ 0 → EmptyFront text
none_first text none = record { lines = []; are = ap (λ n. drop n text) (sym none) }

-- the first line is not empty
none_skipped : (b c : ℕ) (text : List ℕ) → eqb b 10 ≡ false → (eqb b 13 && eqb c 10) ≡ false → empty_line_bytes (b ∷ c ∷ text) ≡ 0
none_skipped b c text other no_return = by_feed (eqb c 10) refl
  where
    by_line : (x y z t : Bool) → x ≡ false → (y && z) ≡ false → ((x && t) || (y && (z && true))) ≡ false
    by_line true y z t e f = absurd (cc)
    by_line false true true t e f = f
    by_line false true false t e f = refl
    by_line false false z t e f = refl

    by_rest : (ls : List (List ℕ)) → whole_lines text ≡ ls → eqb c 10 ≡ false → empty_line_bytes (b ∷ c ∷ text) ≡ 0
    by_rest [] are inside =
        let lines : whole_lines (b ∷ c ∷ text) ≡ [] = rw (other, inside, are) in
        ap empty_len lines
    by_rest (l ∷ ls) are inside =
        let lines : whole_lines (b ∷ c ∷ text) ≡ (b ∷ c ∷ l) ∷ ls = rw (other, inside, are) in
        let filled : is_empty_line (b ∷ c ∷ l) ≡ false = rw (other, inside) (no_last (eqb b 13)) in
        ap empty_len lines ∙ empty_len-other (b ∷ c ∷ l) ls filled
      where
        no_last : (x : Bool) → (x && false) ≡ false
        no_last true = refl
        no_last false = refl

    by_feed : (t : Bool) → eqb c 10 ≡ t → empty_line_bytes (b ∷ c ∷ text) ≡ 0
    by_feed true feed =
        let lines : whole_lines (b ∷ c ∷ text) ≡ (b ∷ c ∷ []) ∷ whole_lines text = rw (other, feed) in
        let filled : is_empty_line (b ∷ c ∷ []) ≡ false = by_line (eqb b 10) (eqb b 13) (eqb c 10) false other no_return in
        ap empty_len lines ∙ empty_len-other (b ∷ c ∷ []) (whole_lines text) filled
    by_feed false inside = by_rest (whole_lines text) refl inside

two_first : (b c : ℕ) (text : List ℕ) → EmptyFront (c ∷ text) → EmptyFront text → EmptyFront (b ∷ c ∷ text)
two_first b c text one two = by_feed (eqb b 10) refl
  where
    by_return : (x y : Bool) → eqb b 13 ≡ x → eqb c 10 ≡ y → eqb b 10 ≡ false → EmptyFront (b ∷ c ∷ text)
    by_return true true first second other =
        subst (λ (n : ℕ). EmptyFront (n ∷ c ∷ text)) (sym (eqb-true b 13 first))
        (subst (λ (n : ℕ). EmptyFront (13 ∷ n ∷ text)) (sym (eqb-true c 10 second)) (return_first text two))
    by_return true false first second other = none_first (b ∷ c ∷ text) (none_skipped b c text other (rw (first, second)))
    by_return false y first second other = none_first (b ∷ c ∷ text) (none_skipped b c text other (rw first))

    by_feed : (t : Bool) → eqb b 10 ≡ t → EmptyFront (b ∷ c ∷ text)
    by_feed true feed = subst (λ (n : ℕ). EmptyFront (n ∷ c ∷ text)) (sym (eqb-true b 10 feed)) (feed_first (c ∷ text) one)
    by_feed false other = by_return (eqb b 13) (eqb c 10) refl refl other

pub empty_front : (text : List ℕ) → EmptyFront text
empty_front [] = record { lines = []; are = refl }
empty_front (b ∷ []) = by_feed (eqb b 10) refl
  where
    by_feed : (t : Bool) → eqb b 10 ≡ t → EmptyFront (b ∷ [])
    by_feed true feed = subst (λ (n : ℕ). EmptyFront (n ∷ [])) (sym (eqb-true b 10 feed)) (feed_first [] (record { lines = []; are = refl }))
    by_feed false other =
        let none : whole_lines (b ∷ []) ≡ [] = rw other in
        none_first (b ∷ []) (ap empty_len none)
empty_front (b ∷ c ∷ text) = two_first b c text (empty_front (c ∷ text)) (empty_front text)
