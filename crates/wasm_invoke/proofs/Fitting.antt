-- How far arguments have been read.
use Rattle.std.proofs.Common.{◌≡◌, ℕ, ◌+◌, ◌<◌, ◌≤◌, List, [], ◌∷◌, ◌++◌, length, drop, get_or, refl, sym, ap, ◌∙◌, subst, append_assoc, add-one, drop-cons, arith}
use Rattle.std.proofs.lemmas.List.{append-nil, drop_all}
use Rattle.wasm_syntax.specs.declared.types.Value.{Value}
use Rattle.wasm_syntax.specs.declared.types.ValueType.{ValueType}
use Rattle.wasm_syntax.specs.declared.types.ValueType.TheVariants.{I32}
use Rattle.wasm_invoke.specs.Arguments.{Fits, value_of, AllFit, values_of}

-- the words up to a place fit, with these values
pub record Rests (types : List ValueType) (words : List (List ℕ)) (i : ℕ) (values : List Value) : Type 0 where
  pub back : AllFit (drop i types) (drop i words) → AllFit types words
  pub on : AllFit types words → AllFit (drop i types) (drop i words)
  pub joined : values ++ values_of (drop i types) (drop i words) ≡ values_of types words

-- what is left at a place begins with the type and the word there
pub left_at : {X : Type 0} (xs : List X) (i : ℕ) (d : X) → i < length xs → drop i xs ≡ get_or xs i d ∷ drop (i + 1) xs
left_at xs i d lt = rw (add-one, drop-cons xs i d)

pub rests_start : (types : List ValueType) (words : List (List ℕ)) → Rests types words 0 []
rests_start types words = record { back = λ h. h; on = λ h. h; joined = refl }

-- one more word fits
pub rests_more : (types : List ValueType) (words : List (List ℕ)) (i : ℕ) (values : List Value) (word : List ℕ) → Rests types words i values
    → i < length types → i < length words → get_or words i [] ≡ word → Fits (get_or types i I32) word
    → Rests types words (i + 1) (values ++ value_of (get_or types i I32) word ∷ [])
rests_more types words i values word r in_types in_words is fits =
    let t = get_or types i I32 in
    let types_are : drop i types ≡ t ∷ drop (i + 1) types = left_at types i I32 in_types in
    let words_are : drop i words ≡ word ∷ drop (i + 1) words = subst (λ (w : List ℕ). drop i words ≡ w ∷ drop (i + 1) words) is (left_at words i [] in_words) in
    record {
      back = λ h. r.back (subst (λ (ts : List ValueType). AllFit ts (drop i words)) (sym types_are)
          (subst (λ (ws : List (List ℕ)). AllFit (t ∷ drop (i + 1) types) ws) (sym words_are) (fits, h)));
      on = λ h. (subst (λ (ws : List (List ℕ)). AllFit (t ∷ drop (i + 1) types) ws) words_are
          (subst (λ (ts : List ValueType). AllFit ts (drop i words)) types_are (r.on h))).1;
      joined = append_assoc values (value_of t word ∷ []) (values_of (drop (i + 1) types) (drop (i + 1) words))
          ∙ ap (λ (vs : List Value). values ++ vs) (sym (ap (λ (ts : List ValueType). values_of ts (drop i words)) types_are ∙ ap (λ (ws : List (List ℕ)). values_of (t ∷ drop (i + 1) types) ws) words_are))
          ∙ r.joined;
    }

-- a word does not fit
pub rests_fail : (types : List ValueType) (words : List (List ℕ)) (i : ℕ) (values : List Value) (word : List ℕ) → Rests types words i values
    → i < length types → i < length words → get_or words i [] ≡ word → (Fits (get_or types i I32) word → ⊥) → AllFit types words → ⊥
rests_fail types words i values word r in_types in_words is misfit h =
    let t = get_or types i I32 in
    let types_are : drop i types ≡ t ∷ drop (i + 1) types = left_at types i I32 in_types in
    let words_are : drop i words ≡ word ∷ drop (i + 1) words = subst (λ (w : List ℕ). drop i words ≡ w ∷ drop (i + 1) words) is (left_at words i [] in_words) in
    let all : AllFit (t ∷ drop (i + 1) types) (word ∷ drop (i + 1) words) =
    subst (λ (ws : List (List ℕ)). AllFit (t ∷ drop (i + 1) types) ws) words_are
    (subst (λ (ts : List ValueType). AllFit ts (drop i words)) types_are (r.on h)) in
    misfit all.0

-- nothing is left
pub rests_end : (types : List ValueType) (words : List (List ℕ)) (i : ℕ) (values : List Value) → Rests types words i values
    → length types ≤ i → length words ≤ i → AllFit types words × (values ≡ values_of types words)
rests_end types words i values r no_types no_words =
    let types_are : drop i types ≡ [] = drop_all i types no_types in
    let words_are : drop i words ≡ [] = drop_all i words no_words in (
      r.back (subst (λ (ts : List ValueType). AllFit ts (drop i words)) (sym types_are) (subst (λ (ws : List (List ℕ)). AllFit [] ws) (sym words_are) tt)),
      sym (append-nil values) ∙ ap (λ (vs : List Value). values ++ vs) (sym (ap (λ (ts : List ValueType). values_of ts (drop i words)) types_are)) ∙ r.joined,
    )

-- there are as many words as types
pub fit_lengths : (types : List ValueType) (words : List (List ℕ)) → AllFit types words → length types ≡ length words
fit_lengths [] [] h = refl
fit_lengths [] (w ∷ words) h = absurd h
fit_lengths (t ∷ types) [] h = absurd h
fit_lengths (t ∷ types) (w ∷ words) h = let e = fit_lengths types words h.1 in omega arith
