-- Texts in order, and their lines.
use Rattle.std.proofs.Common.{◌≡◌, ◌∙◌, ℕ, suc, ◌+◌, ◌≤◌, ◌<◌, Bool, true, false, cond, nat_lt, List, [], ◌∷◌, ◌++◌, length, get_or, take, drop, drop-cons, Some, None, refl, ap, sym, arith}
use Rattle.std.specs.Prelude.{not, position}
use Rattle.std.specs.List.{position_or_len}
use Rattle.std.proofs.lemmas.Bool.Decides.{nat_tests}
use Rattle.std.proofs.lemmas.List.{take_more}
use Rattle.std.proofs.lemmas.List.Sums.{prefix_len-le-length}
use Rattle.command_generate.specs.Items.{count_of, item_line, lines_of, put_all, put_in}

module _ {A : Type 0} (p : A → Bool) (l : List A) where
  pub place_found : (at : ℕ) → Some at ≡ position p l → at ≡ position_or_len p l
  place_found at e = by (nat_lt (position_or_len p l) (length l)) e
    where
      by : (b : Bool) → Some at ≡ cond b (Some (position_or_len p l)) None → at ≡ position_or_len p l
      by true e = cc
      by false e = absurd (cc)

  pub place_at_end : None ≡ position p l → length l ≡ position_or_len p l
  place_at_end e = by (nat_lt (position_or_len p l) (length l)) refl e
    where
      by : (b : Bool) → nat_lt (position_or_len p l) (length l) ≡ b → None ≡ cond b (Some (position_or_len p l)) None → length l ≡ position_or_len p l
      by true is e = absurd (cc)
      by false is e =
          let low : length l ≤ position_or_len p l = grind (arith, nat_tests) in
          let high = prefix_len-le-length (λ x. not (p x)) l in omega arith

put_more : (items texts : List (List ℕ)) (item : List ℕ) → put_all (items ++ item ∷ []) texts ≡ put_in item (put_all items texts)
put_more [] texts item = refl
put_more (x ∷ items) texts item = put_more items (put_in x texts) item

pub one_more : (items : List (List ℕ)) (k : ℕ) (item : List ℕ) → k < length items → item ≡ get_or items k item → put_in item (put_all (take k items) []) ≡ put_all (take (k + 1) items) []
one_more items k item low is =
    let e : take (k + 1) items ≡ take k items ++ item ∷ [] = take_more items k item low ∙ ap (λ (x : List ℕ). take k items ++ x ∷ []) (sym is) in
    sym (put_more (take k items) [] item) ∙ ap (λ (l : List (List ℕ)). put_all l []) (sym e)

-- the lines of what is left begin with that of the next text
pub one_line : (items texts : List (List ℕ)) (k : ℕ) (text : List ℕ) → k < length texts → text ≡ get_or texts k text
    → lines_of items (drop k texts) ≡ item_line text (count_of text items) ++ lines_of items (drop (k + 1) texts)
one_line items texts k text low is =
    let e : k + 1 ≡ suc k = omega arith in
    ap (lines_of items) (drop-cons texts k text low)
    ∙ ap (λ (t : List ℕ). item_line t (count_of t items) ++ lines_of items (drop (suc k) texts)) (sym is)
    ∙ ap (λ (j : ℕ). item_line text (count_of text items) ++ lines_of items (drop j texts)) (sym e)
