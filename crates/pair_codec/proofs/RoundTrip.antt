-- What is written is read back, and what is read was written so.
use Rattle.std.proofs.Common.{◌≡◌, ◌<◌, ◌≤◌, ℕ, zero, suc, ◌+◌, ◌*◌, ◌^◌, Bool, true, false, ◌&&◌, ◌==◌, nat_lt, nat_le, List, [], ◌∷◌, ◌++◌, take, drop, length, Option, None, Some, refl, sym, ap, ◌∙◌, subst, if◌then◌else◌, arith, inl, inr}
use Rattle.std.specs.Prelude.{slice_index, sum_by}
use Rattle.std.specs.Int.{w32, to_le_bytes}
use Rattle.std.specs.List.{flat_map, list_all}
use Rattle.std.specs.Option.{option_map}
use Rattle.std.proofs.lemmas.List.{append_assoc, length-append, length-take, length-drop, length-take-le, drop_more, take_at, drop_at, drop-drop, take-append-drop}
use Rattle.std.proofs.lemmas.List.Sums.{sum_by-cons}
use Rattle.std.proofs.lemmas.Nat.{from_le_bytes-to_le_bytes_4, le_bytes_4}
use Rattle.std.proofs.lemmas.Bool.Decides.{nat_tests}
use Rattle.header_maps.specs.Kept.{byte_limit, is_short}
use Rattle.header_maps.specs.Pairs.{Pair}
use Rattle.header_maps.specs.Operations.{size_of, pair_size}
use Rattle.pair_codec.specs.Serialised.{pairs_bytes, sizes_bytes, texts_bytes, text_bytes, is_sized, are_sized}
use Rattle.pair_codec.specs.Reading.{word_in, has_text, has_pair, pair_in, behind_pair, texts_in, pairs_in}
use Rattle.pair_codec.specs.Laws.{ReadBack, WrittenSo, SizeIsLength}
use Rattle.pair_codec.proofs.Texts.{next_of}

-- ---- tests

both : (a b : Bool) → a ≡ true → b ≡ true → (a && b) ≡ true
both true b p q = q
both false b p q = absurd (cc)

first_of : (a b : Bool) → (a && b) ≡ true → a ≡ true
first_of true b p = refl
first_of false b p = p

second_of : (a b : Bool) → (a && b) ≡ true → b ≡ true
second_of true b p = p
second_of false b p = absurd (cc)

is_lt : (a b : ℕ) → a < b → nat_lt a b ≡ true
is_lt a b h = grind (arith, nat_tests)

is_le : (a b : ℕ) → a ≤ b → nat_le a b ≡ true
is_le a b h = grind (arith, nat_tests)

lt_is : (a b : ℕ) → nat_lt a b ≡ true → a < b
lt_is a b h = grind (arith, nat_tests)

le_is : (a b : ℕ) → nat_le a b ≡ true → a ≤ b
le_is a b h = grind (arith, nat_tests)

-- ---- a text

index_behind : (t rest : List ℕ) → slice_index (t ++ 0 ∷ rest) (length t) ≡ 0
index_behind [] rest = refl
index_behind (x ∷ t) rest = index_behind t rest

text_is : (t rest : List ℕ) → text_bytes t ++ rest ≡ t ++ 0 ∷ rest
text_is t rest = append_assoc t (0 ∷ []) rest

has_back : (t rest : List ℕ) → has_text (length t) (t ++ 0 ∷ rest) ≡ true
has_back t rest =
    let long : length t < length (t ++ 0 ∷ rest) = omega (arith, length-append t (0 ∷ rest)) in
    both (nat_lt (length t) (length (t ++ 0 ∷ rest))) (slice_index (t ++ 0 ∷ rest) (length t) == 0)
    (is_lt (length t) (length (t ++ 0 ∷ rest)) long) (ap (λ n. n == 0) (index_behind t rest))

rest_back : (t rest : List ℕ) → drop (length t + 1) (t ++ 0 ∷ rest) ≡ rest
rest_back t rest = sym (drop-drop 1 (length t) (t ++ 0 ∷ rest)) ∙ ap (λ xs. drop 1 xs) (drop_at t (0 ∷ rest) (length t) refl)

-- ---- a pair

module _ (p : Pair) (rest : List ℕ) where
  abbrev whole : List ℕ
  whole = p.0 ++ 0 ∷ (p.1 ++ 0 ∷ rest)

  texts_are : texts_bytes p ++ rest ≡ whole
  texts_are = append_assoc (text_bytes p.0) (text_bytes p.1) rest ∙ text_is p.0 (text_bytes p.1 ++ rest) ∙ ap (λ xs. p.0 ++ 0 ∷ xs) (text_is p.1 rest)

  second_back : drop (length p.0 + 1) whole ≡ p.1 ++ 0 ∷ rest
  second_back = rest_back p.0 (p.1 ++ 0 ∷ rest)

  pair_there : has_pair (length p.0) (length p.1) whole ≡ true
  pair_there =
      both (has_text (length p.0) whole) (has_text (length p.1) (drop (length p.0 + 1) whole)) (has_back p.0 (p.1 ++ 0 ∷ rest))
      (ap (has_text (length p.1)) second_back ∙ has_back p.1 rest)

  pair_back : pair_in (length p.0) (length p.1) whole ≡ p
  pair_back = λ i. (take_at p.0 (0 ∷ (p.1 ++ 0 ∷ rest)) (length p.0) refl i, (ap (take (length p.1)) second_back ∙ take_at p.1 (0 ∷ rest) (length p.1) refl) i)

  behind_back : behind_pair (length p.0) (length p.1) whole ≡ rest
  behind_back = sym (drop-drop (length p.1 + 1) (length p.0 + 1) whole) ∙ ap (drop (length p.1 + 1)) second_back ∙ rest_back p.1 rest

-- ---- all of them

texts_back : (ps : List Pair) (junk : List ℕ) → list_all is_sized ps ≡ true → texts_in (length ps) (flat_map sizes_bytes ps ++ junk) (flat_map texts_bytes ps) ≡ Some ps
texts_back [] junk sized = refl
texts_back (p ∷ ps) junk sized =
    let mine = first_of (is_sized p) (list_all is_sized ps) sized in
    let name_fits = lt_is (length p.0) (2 ^ 32) (first_of (nat_lt (length p.0) (2 ^ 32)) (nat_lt (length p.1) (2 ^ 32)) mine) in
    let value_fits = lt_is (length p.1) (2 ^ 32) (second_of (nat_lt (length p.0) (2 ^ 32)) (nat_lt (length p.1) (2 ^ 32)) mine) in
    let sizes = flat_map sizes_bytes (p ∷ ps) ++ junk in
    let rest = flat_map texts_bytes ps in
    let left = flat_map sizes_bytes ps ++ junk in
    (λ i. next_of (from_le_bytes-to_le_bytes_4 (length p.0) name_fits i) (from_le_bytes-to_le_bytes_4 (length p.1) value_fits i)
    (has_pair (from_le_bytes-to_le_bytes_4 (length p.0) name_fits i) (from_le_bytes-to_le_bytes_4 (length p.1) value_fits i) (texts_are p rest i)) (length ps) sizes (texts_are p rest i))
    ∙ ap (λ b. next_of (length p.0) (length p.1) b (length ps) sizes (whole p rest)) (pair_there p rest)
    ∙ (λ i. option_map (λ qs. pair_back p rest i ∷ qs) (texts_in (length ps) left (behind_back p rest i)))
    ∙ ap (option_map (λ qs. p ∷ qs)) (texts_back ps junk (second_of (is_sized p) (list_all is_sized ps) sized))

sizes_length : (ps : List Pair) → length (flat_map sizes_bytes ps) ≡ 8 * length ps
sizes_length [] = refl
sizes_length (p ∷ ps) = let e = sizes_length ps in omega arith

texts_length : (ps : List Pair) → 8 * length ps + length (flat_map texts_bytes ps) + 4 ≡ size_of ps
texts_length [] = refl
texts_length (p ∷ ps) =
    let e : 8 * length ps + length (flat_map texts_bytes ps) + 4 ≡ 4 + sum_by pair_size ps = texts_length ps in
    let s : size_of (p ∷ ps) ≡ 4 + (10 + length p.0 + length p.1 + sum_by pair_size ps) = ap (λ n. 4 + n) (sum_by-cons pair_size p ps) in
    let a : length (flat_map texts_bytes (p ∷ ps)) ≡ length (texts_bytes p) + length (flat_map texts_bytes ps) = length-append (texts_bytes p) (flat_map texts_bytes ps) in
    let b : length (texts_bytes p) ≡ length (text_bytes p.0) + length (text_bytes p.1) = length-append (text_bytes p.0) (text_bytes p.1) in
    let c : length (text_bytes p.0) ≡ length p.0 + 1 = length-append p.0 (0 ∷ []) in
    let d : length (text_bytes p.1) ≡ length p.1 + 1 = length-append p.1 (0 ∷ []) in
    omega arith

pub size_is_length : SizeIsLength
size_is_length ps =
    let a = length-append (flat_map sizes_bytes ps) (flat_map texts_bytes ps) in
    let b = sizes_length ps in
    let c = texts_length ps in
    omega arith

pub read_back : ReadBack
read_back ps sized =
    let few = lt_is (length ps) (2 ^ 32) (first_of (nat_lt (length ps) (2 ^ 32)) (list_all is_sized ps) sized) in
    let sizes = flat_map sizes_bytes ps in
    let texts = flat_map texts_bytes ps in
    let bytes = pairs_bytes ps in
    let n = from_le_bytes-to_le_bytes_4 (length ps) few in
    let many : length bytes ≡ 4 + 8 * length ps + length texts = (let a = length-append sizes texts in let b = sizes_length ps in omega arith) in
    let test : (nat_le 4 (length bytes) && nat_le (4 + 8 * length ps) (length bytes)) ≡ true =
    both (nat_le 4 (length bytes)) (nat_le (4 + 8 * length ps) (length bytes)) (is_le 4 (length bytes) (omega arith)) (is_le (4 + 8 * length ps) (length bytes) (omega arith)) in
    ap (λ w. if (nat_le 4 (length bytes) && nat_le (4 + 8 * w) (length bytes)) then texts_in w (drop 4 bytes) (drop (4 + 8 * w) bytes) else None) n
    ∙ ap (λ b. if b then texts_in (length ps) (drop 4 bytes) (drop (4 + 8 * length ps) bytes) else None) test
    ∙ ap (texts_in (length ps) (sizes ++ texts)) (sym (drop-drop (8 * length ps) 4 bytes) ∙ drop_at sizes texts (8 * length ps) (sizes_length ps))
    ∙ texts_back ps texts (second_of (nat_lt (length ps) (2 ^ 32)) (list_all is_sized ps) sized)

some_is : (o : Option (List Pair)) (p : Pair) (qs : List Pair) → option_map (λ ps. p ∷ ps) o ≡ Some qs → (ps : List Pair) × ((o ≡ Some ps) × (p ∷ ps ≡ qs))
some_is None p qs is = absurd (cc)
some_is (Some ps) p qs is = (ps, (refl, (cc)))

-- ---- what is read was written so

nothing_taken : (n : ℕ) → take {A = ℕ} n [] ≡ []
nothing_taken zero = refl
nothing_taken (suc n) = refl

nothing_left : (n : ℕ) → drop {A = ℕ} n [] ≡ []
nothing_left zero = refl
nothing_left (suc n) = refl

-- so many bytes, and then so many more
take_add : (a b : ℕ) (xs : List ℕ) → take (a + b) xs ≡ take a xs ++ take b (drop a xs)
take_add a b [] = nothing_taken (a + b) ∙ sym (ap (λ ys. ys ++ take b (drop a [])) (nothing_taken a) ∙ ap (take b) (nothing_left a) ∙ nothing_taken b)
take_add zero b (x ∷ xs) = ap (λ n. take n (x ∷ xs)) (let e : 0 + b ≡ b = omega arith in e)
take_add (suc a) b (x ∷ xs) = ap (λ n. take n (x ∷ xs)) (let e : suc a + b ≡ suc (a + b) = omega arith in e) ∙ ap (λ ys. x ∷ ys) (take_add a b xs)

abbrev AreBytes : List ℕ → Type 0
AreBytes bytes = (k : ℕ) → slice_index bytes k < 256

bytes_taken : (n : ℕ) (xs : List ℕ) → AreBytes xs → AreBytes (take n xs)
bytes_taken zero xs are k = omega arith
bytes_taken (suc n) [] are k = are k
bytes_taken (suc n) (x ∷ xs) are zero = are zero
bytes_taken (suc n) (x ∷ xs) are (suc k) = bytes_taken n xs (λ j. are (suc j)) k

bytes_left : (n : ℕ) (xs : List ℕ) → AreBytes xs → AreBytes (drop n xs)
bytes_left zero xs are k = are k
bytes_left (suc n) [] are k = are k
bytes_left (suc n) (x ∷ xs) are k = bytes_left n xs (λ j. are (suc j)) k

word_fits : (bytes : List ℕ) → AreBytes bytes → word_in bytes < 2 ^ 32
word_fits bytes are =
    let four = bytes_taken 4 bytes are in
    let a = four 0 in
    let b = four 1 in
    let c = four 2 in
    let d = four 3 in
    omega arith

word_bytes : (bytes : List ℕ) → AreBytes bytes → 4 ≤ length bytes → to_le_bytes w32 (word_in bytes) ≡ take 4 bytes
word_bytes bytes are long = le_bytes_4 (take 4 bytes) (word_in bytes) (length-take-le 4 bytes long) (bytes_taken 4 bytes are) refl

text_split : (n : ℕ) (t : List ℕ) → has_text n t ≡ true → t ≡ take n t ++ 0 ∷ drop (n + 1) t
text_split n t has =
    let within = lt_is n (length t) (first_of (nat_lt n (length t)) (slice_index t n == 0) has) in
    let is : slice_index t n ≡ 0 = grind (arith, nat_tests, second_of (nat_lt n (length t)) (slice_index t n == 0) has) in
    sym (take-append-drop n t) ∙ ap (λ xs. take n t ++ xs) (drop_more t n 0 within ∙ ap (λ x. x ∷ drop (n + 1) t) is)

pub record IsRead (n : ℕ) (sizes texts : List ℕ) (ps : List Pair) : Type 0 where
  pub count : length ps ≡ n
  pub sized : list_all is_sized ps ≡ true
  pub sizes_are : take (8 * n) sizes ≡ flat_map sizes_bytes ps
  pub texts_are : texts ≡ flat_map texts_bytes ps

sound_by : (n : ℕ) → ((sizes texts : List ℕ) (ps : List Pair) → AreBytes sizes → 8 * n ≤ length sizes → texts_in n sizes texts ≡ Some ps → IsRead n sizes texts ps)
    → (sizes texts : List ℕ) (b : Bool) (ps : List Pair) → AreBytes sizes → 8 * suc n ≤ length sizes
    → has_pair (word_in sizes) (word_in (drop 4 sizes)) texts ≡ b
    → next_of (word_in sizes) (word_in (drop 4 sizes)) b n sizes texts ≡ Some ps → IsRead (suc n) sizes texts ps
sound_by n go sizes texts false ps are long has is = absurd (cc)
sound_by n go sizes texts true ps are long has is =
    let name = word_in sizes in
    let value = word_in (drop 4 sizes) in
    let p = pair_in name value texts in
    let rest = behind_pair name value texts in
    let found = some_is (texts_in n (drop 8 sizes) rest) p ps is in
    let qs = found.0 in
    let eight : 8 * n ≤ length (drop 8 sizes) = omega (arith, length-drop 8 sizes) in
    let others = go (drop 8 sizes) rest qs (bytes_left 8 sizes are) eight found.1.0 in
    let has_name = first_of (has_text name texts) (has_text value (drop (name + 1) texts)) has in
    let has_value = second_of (has_text name texts) (has_text value (drop (name + 1) texts)) has in
    let in_name = lt_is name (length texts) (first_of (nat_lt name (length texts)) (slice_index texts name == 0) has_name) in
    let in_value = lt_is value (length (drop (name + 1) texts)) (first_of (nat_lt value (length (drop (name + 1) texts))) (slice_index (drop (name + 1) texts) value == 0) has_value) in
    let name_long : length p.0 ≡ name = length-take-le name texts (omega arith) in
    let value_long : length p.1 ≡ value = length-take-le value (drop (name + 1) texts) (omega arith) in
    let long_enough : 4 ≤ length sizes = omega arith in
    let long_behind : 4 ≤ length (drop 4 sizes) = omega (arith, length-drop 4 sizes) in
    let name_fits : length p.0 < 2 ^ 32 = subst (λ (k : ℕ). k < 2 ^ 32) (sym name_long) (word_fits sizes are) in
    let value_fits : length p.1 < 2 ^ 32 = subst (λ (k : ℕ). k < 2 ^ 32) (sym value_long) (word_fits (drop 4 sizes) (bytes_left 4 sizes are)) in
    let mine : is_sized p ≡ true = both (nat_lt (length p.0) (2 ^ 32)) (nat_lt (length p.1) (2 ^ 32)) (is_lt (length p.0) (2 ^ 32) name_fits) (is_lt (length p.1) (2 ^ 32) value_fits) in
    let first : take 4 sizes ≡ to_le_bytes w32 (length p.0) = sym (word_bytes sizes are long_enough) ∙ ap (to_le_bytes w32) (sym name_long) in
    let second : take 4 (drop 4 sizes) ≡ to_le_bytes w32 (length p.1) = sym (word_bytes (drop 4 sizes) (bytes_left 4 sizes are) long_behind) ∙ ap (to_le_bytes w32) (sym value_long) in
    let sizes_all : take (8 * suc n) sizes ≡ flat_map sizes_bytes (p ∷ qs) =
    ap (λ k. take k sizes) (let e : 8 * suc n ≡ 8 + 8 * n = omega arith in e) ∙ take_add 8 (8 * n) sizes
    ∙ ap (λ xs. xs ++ take (8 * n) (drop 8 sizes)) (take_add 4 4 sizes ∙ (λ i. first i ++ second i)) ∙ ap (λ xs. sizes_bytes p ++ xs) others.sizes_are in
    let texts_all : texts ≡ flat_map texts_bytes (p ∷ qs) =
    text_split name texts has_name
    ∙ ap (λ xs. take name texts ++ 0 ∷ xs) (text_split value (drop (name + 1) texts) has_value)
    ∙ ap (λ xs. whole p xs) (drop-drop (value + 1) (name + 1) texts)
    ∙ sym (texts_are p rest) ∙ ap (λ xs. texts_bytes p ++ xs) others.texts_are in
    subst (λ (rs : List Pair). IsRead (suc n) sizes texts rs) found.1.1
    (record {
      count = let e : length qs ≡ n = others.count in omega arith;
      sized = both (is_sized p) (list_all is_sized qs) mine others.sized;
      sizes_are = sizes_all;
      texts_are = texts_all;
    })

sound : (n : ℕ) (sizes texts : List ℕ) (ps : List Pair) → AreBytes sizes → 8 * n ≤ length sizes → texts_in n sizes texts ≡ Some ps → IsRead n sizes texts ps
sound zero sizes [] ps are long is = subst (λ (qs : List Pair). IsRead 0 sizes [] qs) (let e : [] ≡ ps = cc in e) (record { count = refl; sized = refl; sizes_are = refl; texts_are = refl })
sound zero sizes (x ∷ texts) ps are long is = absurd (cc)
sound (suc n) sizes texts ps are long is = sound_by n (sound n) sizes texts (has_pair (word_in sizes) (word_in (drop 4 sizes)) texts) ps are long refl is

-- the count and what follows it
counted_sound : (b : Bool) (bytes : List ℕ) (pairs : List Pair) → AreBytes bytes → (nat_le 4 (length bytes) && nat_le (4 + 8 * word_in bytes) (length bytes)) ≡ b
    → (if b then texts_in (word_in bytes) (drop 4 bytes) (drop (4 + 8 * word_in bytes) bytes) else None) ≡ Some pairs
    → (are_sized pairs ≡ true) × (bytes ≡ pairs_bytes pairs)
counted_sound false bytes pairs are test is = absurd (cc)
counted_sound true bytes pairs are test is =
    let n = word_in bytes in
    let four = le_is 4 (length bytes) (first_of (nat_le 4 (length bytes)) (nat_le (4 + 8 * n) (length bytes)) test) in
    let all = le_is (4 + 8 * n) (length bytes) (second_of (nat_le 4 (length bytes)) (nat_le (4 + 8 * n) (length bytes)) test) in
    let long : 8 * n ≤ length (drop 4 bytes) = omega (arith, length-drop 4 bytes) in
    let read = sound n (drop 4 bytes) (drop (4 + 8 * n) bytes) pairs (bytes_left 4 bytes are) long is in
    let few : length pairs < 2 ^ 32 = subst (λ (k : ℕ). k < 2 ^ 32) (sym read.count) (word_fits bytes are) in (
      both (nat_lt (length pairs) (2 ^ 32)) (list_all is_sized pairs) (is_lt (length pairs) (2 ^ 32) few) read.sized,
      sym (take-append-drop 4 bytes)
          ∙ ap (λ xs. xs ++ drop 4 bytes) (sym (word_bytes bytes are four) ∙ ap (to_le_bytes w32) (sym read.count))
          ∙ ap (λ xs. to_le_bytes w32 (length pairs) ++ xs)
          (sym (take-append-drop (8 * n) (drop 4 bytes)) ∙ (λ i. read.sizes_are i ++ (drop-drop (8 * n) 4 bytes ∙ read.texts_are) i)),
    )

pub written_so : WrittenSo
written_so [] pairs are is = inl (refl, sym (let e : [] ≡ pairs = cc in e))
written_so (b ∷ bs) pairs are is = inr (counted_sound (nat_le 4 (length (b ∷ bs)) && nat_le (4 + 8 * word_in (b ∷ bs)) (length (b ∷ bs))) (b ∷ bs) pairs are refl is)

-- ---- no text is longer than the bytes that it is read from

short_by : (n : ℕ) → ((sizes texts : List ℕ) (ps : List Pair) → length texts ≤ byte_limit → texts_in n sizes texts ≡ Some ps → list_all is_short ps ≡ true)
    → (sizes texts : List ℕ) (name value : ℕ) (b : Bool) (ps : List Pair) → length texts ≤ byte_limit → next_of name value b n sizes texts ≡ Some ps → list_all is_short ps ≡ true
short_by n go sizes texts name value false ps few is = absurd (cc)
short_by n go sizes texts name value true ps few is =
    let o = texts_in n (drop 8 sizes) (behind_pair name value texts) in
    let p = pair_in name value texts in
    let found = some_is o p ps is in
    let less : length (behind_pair name value texts) ≤ byte_limit = omega (arith, length-drop (name + 1 + (value + 1)) texts) in
    let first : length (take name texts) ≤ byte_limit = omega (arith, length-take name texts) in
    let second : length (take value (drop (name + 1) texts)) ≤ byte_limit = omega (arith, length-take value (drop (name + 1) texts), length-drop (name + 1) texts) in
    let mine = both (nat_le (length p.0) byte_limit) (nat_le (length p.1) byte_limit) (is_le (length p.0) byte_limit first) (is_le (length p.1) byte_limit second) in
    let others = go (drop 8 sizes) (behind_pair name value texts) found.0 less found.1.0 in
    subst (λ (qs : List Pair). list_all is_short qs ≡ true) found.1.1 (both (is_short p) (list_all is_short found.0) mine others)

short_texts : (n : ℕ) (sizes texts : List ℕ) (ps : List Pair) → length texts ≤ byte_limit → texts_in n sizes texts ≡ Some ps → list_all is_short ps ≡ true
short_texts zero sizes [] ps few is = subst (λ (qs : List Pair). list_all is_short qs ≡ true) (let e : [] ≡ ps = cc in e) refl
short_texts zero sizes (x ∷ texts) ps few is = absurd (cc)
short_texts (suc n) sizes texts ps few is = short_by n (short_texts n) sizes texts (word_in sizes) (word_in (drop 4 sizes)) (has_pair (word_in sizes) (word_in (drop 4 sizes)) texts) ps few is

short_if : (b : Bool) (bytes : List ℕ) (pairs : List Pair) (n : ℕ) (sizes texts : List ℕ) → length texts ≤ byte_limit → (if b then texts_in n sizes texts else None) ≡ Some pairs → list_all is_short pairs ≡ true
short_if true bytes pairs n sizes texts few is = short_texts n sizes texts pairs few is
short_if false bytes pairs n sizes texts few is = absurd (cc)

pub short_read : (bytes : List ℕ) (pairs : List Pair) → length bytes ≤ byte_limit → pairs_in bytes ≡ Some pairs → list_all is_short pairs ≡ true
short_read [] pairs few is = subst (λ (qs : List Pair). list_all is_short qs ≡ true) (let e : [] ≡ pairs = cc in e) refl
short_read (b ∷ bs) pairs few is =
    let bytes = b ∷ bs in
    let n = word_in bytes in
    let less : length (drop (4 + 8 * n) bytes) ≤ byte_limit = omega (arith, length-drop (4 + 8 * n) bytes) in
    short_if (nat_le 4 (length bytes) && nat_le (4 + 8 * n) (length bytes)) bytes pairs n (drop 4 bytes) (drop (4 + 8 * n) bytes) less is
