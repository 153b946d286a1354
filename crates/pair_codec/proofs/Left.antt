-- One pair after another that is left.
use Rattle.std.proofs.Common.{◌≡◌, ◌<◌, ℕ, zero, suc, ◌-◌, Bool, true, false, List, [], ◌∷◌, drop, length, Option, None, Some, refl, sym, ap, ◌∙◌, arith}
use Rattle.std.specs.Prelude.{is_some}
use Rattle.std.specs.Option.{option_map}
use Rattle.header_maps.specs.Pairs.{Pair}
use Rattle.pair_codec.specs.Reading.{word_in, has_pair, pair_in, behind_pair, texts_in}
use Rattle.pair_codec.specs.Left.{or_none}
use Rattle.pair_codec.proofs.Texts.{next_of}

pub some_or_none : (o : Option (List Pair)) → is_some o ≡ true → Some (or_none o) ≡ o
some_or_none None is = absurd (cc)
some_or_none (Some ps) is = refl

-- ---- the first of them

there_by : (name value : ℕ) (b : Bool) (n : ℕ) (sizes texts : List ℕ) → is_some (next_of name value b n sizes texts) ≡ true → b ≡ true
there_by name value true n sizes texts is = refl
there_by name value false n sizes texts is = is

rest_by : (p : Pair) (o : Option (List Pair)) → is_some (option_map (λ ps. p ∷ ps) o) ≡ true → is_some o ≡ true
rest_by p None is = is
rest_by p (Some ps) is = refl

cons_by : (p : Pair) (o : Option (List Pair)) → is_some o ≡ true → or_none (option_map (λ ps. p ∷ ps) o) ≡ p ∷ or_none o
cons_by p None is = absurd (cc)
cons_by p (Some ps) is = refl

module _ (n : ℕ) (sizes texts : List ℕ) (is : is_some (texts_in (suc n) sizes texts) ≡ true) where
  abbrev name : ℕ
  name = word_in sizes

  abbrev value : ℕ
  value = word_in (drop 4 sizes)

  abbrev behind : Option (List Pair)
  behind = texts_in n (drop 8 sizes) (behind_pair name value texts)

  pub first_there : has_pair name value texts ≡ true
  first_there = there_by name value (has_pair name value texts) n sizes texts is

  opened : texts_in (suc n) sizes texts ≡ option_map (λ ps. pair_in name value texts ∷ ps) behind
  opened = ap (λ b. next_of name value b n sizes texts) first_there

  pub rest_read : is_some behind ≡ true
  rest_read = rest_by (pair_in name value texts) behind (sym (ap is_some opened) ∙ is)

  pub first_is : or_none (texts_in (suc n) sizes texts) ≡ pair_in name value texts ∷ or_none behind
  first_is = ap or_none opened ∙ cons_by (pair_in name value texts) behind rest_read

-- the same of a count that is not 0
module _ (count : ℕ) (sizes texts : List ℕ) (more : count ≡ suc (count - 1)) (is : is_some (texts_in count sizes texts) ≡ true)
    (name value : ℕ) (name_is : name ≡ word_in sizes) (value_is : value ≡ word_in (drop 4 sizes)) where
  read : is_some (texts_in (suc (count - 1)) sizes texts) ≡ true
  read = sym (ap (λ n. is_some (texts_in n sizes texts)) more) ∙ is

  pub pair_there : has_pair name value texts ≡ true
  pair_there = (λ j. has_pair (name_is j) (value_is j) texts) ∙ first_there (count - 1) sizes texts read

  pub behind_read : (left rest : List ℕ) → left ≡ drop 8 sizes → rest ≡ behind_pair name value texts → is_some (texts_in (count - 1) left rest) ≡ true
  behind_read left rest left_is rest_is = (λ j. is_some (texts_in (count - 1) (left_is j) ((rest_is ∙ (λ i. behind_pair (name_is i) (value_is i) texts)) j))) ∙ rest_read (count - 1) sizes texts read

  pub first_left : (left rest : List ℕ) (pair : Pair) → left ≡ drop 8 sizes → rest ≡ behind_pair name value texts → pair ≡ pair_in name value texts
      → or_none (texts_in count sizes texts) ≡ pair ∷ or_none (texts_in (count - 1) left rest)
  first_left left rest pair left_is rest_is pair_is =
      ap (λ n. or_none (texts_in n sizes texts)) more ∙ first_is (count - 1) sizes texts read
      ∙ sym (λ j. (pair_is ∙ (λ i. pair_in (name_is i) (value_is i) texts)) j ∷ or_none (texts_in (count - 1) (left_is j) ((rest_is ∙ (λ i. behind_pair (name_is i) (value_is i) texts)) j)))

pub one_more : (n : ℕ) → 0 < n → n ≡ suc (n - 1)
one_more n some = omega (arith, some)

-- ---- how many they are

pub left_length : (n : ℕ) (sizes texts : List ℕ) → is_some (texts_in n sizes texts) ≡ true → length (or_none (texts_in n sizes texts)) ≡ n
left_length zero sizes [] is = refl
left_length zero sizes (x ∷ texts) is = absurd (cc)
left_length (suc n) sizes texts is =
    ap length (first_is n sizes texts is)
    ∙ ap suc (left_length n (drop 8 sizes) (behind_pair (word_in sizes) (word_in (drop 4 sizes)) texts) (rest_read n sizes texts is))
