-- The bytes with which a generator fills some room are those of its words in order.
use Rattle.std.proofs.Common.{◌≡◌, ◌<◌, ◌≤◌, ℕ, zero, suc, ◌+◌, ◌*◌, ◌/◌, ◌%◌, ◌^◌, List, [], ◌++◌, take, length, refl, sym, ap, ◌∙◌, arith}
use Rattle.std.specs.Int.{w32, to_le_bytes}
use Rattle.std.proofs.lemmas.List.{append_assoc, append-nil, length-take}
use Rattle.std.proofs.Math.Nat.{mod-eq_of_lt}
use Rattle.rand_core.specs.Steps.{word_bytes, fill_via_u32}
use Rattle.rand_chacha.specs.ChaCha.{ChaCha, key_of, word_at, next_word}
use Rattle.abi_services.specs.Wasi.{words_from, random_bytes}

abbrev standing : List ℕ → ℕ → ChaCha
standing seed place = record { key = key_of seed; stream = 0; word_pos = place }

-- the words up to one, and that one
one_more : (seed : List ℕ) (k place : ℕ) → words_from (suc k) seed place ≡ words_from k seed place ++ to_le_bytes w32 (word_at 4 (key_of seed) 0 (place + k))
one_more seed zero place =
    append-nil (to_le_bytes w32 (word_at 4 (key_of seed) 0 place))
    ∙ ap (λ p. to_le_bytes w32 (word_at 4 (key_of seed) 0 p)) (let e : place ≡ place + zero = omega arith in e)
one_more seed (suc k) place =
    ap (λ bs. to_le_bytes w32 (word_at 4 (key_of seed) 0 place) ++ bs) (one_more seed k (place + 1))
    ∙ sym (append_assoc (to_le_bytes w32 (word_at 4 (key_of seed) 0 place)) (words_from k seed (place + 1)) (to_le_bytes w32 (word_at 4 (key_of seed) 0 (place + 1 + k))))
    ∙ ap (λ p. (to_le_bytes w32 (word_at 4 (key_of seed) 0 place) ++ words_from k seed (place + 1)) ++ to_le_bytes w32 (word_at 4 (key_of seed) 0 p)) (let e : place + 1 + k ≡ place + suc k = omega arith in e)

module _ (seed : List ℕ) (place : ℕ) (near : place < 2 ^ 64) where
  abbrev Steps : Type 0
  Steps = List ℕ × ChaCha

  abbrev put_on : Steps → Steps
  put_on before = (before.0 ++ to_le_bytes w32 (next_word 4 before.1).0, (next_word 4 before.1).1)

  -- the bytes of so many words, and where the generator stands then
  walked : (k : ℕ) → k ≤ 65536 → word_bytes (to_le_bytes w32) (next_word 4) k (standing seed place) ≡ (words_from k seed place, standing seed (place + k))
  unfolding word_bytes
  walked zero few = ap (λ p. ([], standing seed p)) (let e : place ≡ place + zero = omega arith in e)
  walked (suc k) few =
      let less : k ≤ 65536 = omega arith in
      ap put_on (walked k less)
      ∙ (λ i. (sym (one_more seed k place) i, standing seed (mod-eq_of_lt {n = place + k + 1} {m = 2 ^ 68} (omega arith) i)))
      ∙ ap (λ p. (words_from (suc k) seed place, standing seed p)) (let e : place + k + 1 ≡ place + suc k = omega arith in e)

  pub filled : (len n : ℕ) (rng rng' : ChaCha) (bytes : List ℕ) → len ≤ 65536 → rng ≡ standing seed (place % 2 ^ 68) → n ≡ len → (bytes, rng') ≡ fill_via_u32 (next_word 4) n rng → bytes ≡ random_bytes len seed place
  filled len n rng rng' bytes few stands same fill =
      let here : rng ≡ standing seed place = stands ∙ ap (standing seed) (mod-eq_of_lt {n = place} {m = 2 ^ 68} (omega arith)) in
      let words : (len + 3) / 4 ≤ 65536 = omega arith in
      ap (λ (p : Steps). p.0) fill
      ∙ ap (λ m. take m (word_bytes (to_le_bytes w32) (next_word 4) ((m + 3) / 4) rng).0) same
      ∙ ap (λ g. take len (word_bytes (to_le_bytes w32) (next_word 4) ((len + 3) / 4) g).0) here
      ∙ ap (λ (p : Steps). take len p.0) (walked ((len + 3) / 4) words)

words_length : (n : ℕ) (seed : List ℕ) (place : ℕ) → length (words_from n seed place) ≡ 4 * n
words_length zero seed place = refl
words_length (suc n) seed place = let e = words_length n seed (place + 1) in omega arith

pub random_length : (len : ℕ) (seed : List ℕ) (place : ℕ) → length (random_bytes len seed place) ≡ len
random_length len seed place =
    let e = words_length ((len + 3) / 4) seed place in
    omega (arith, length-take len (words_from ((len + 3) / 4) seed place))
