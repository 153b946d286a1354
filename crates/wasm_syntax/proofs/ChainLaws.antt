-- Chains of items are lawful, where each link takes a byte at least.
use Rattle.std.proofs.Common.{◌≡◌, ℕ, ◌+◌, ◌<◌, ◌≤◌, zero, suc, ◌⊎◌, Option, Some, None, List, [], ◌∷◌, ◌++◌, length, refl, sym, ap, subst, ◌∙◌, append_assoc, arith, inl, inr}
use Rattle.std.proofs.lemmas.List.{length-append, append-nil}
use Rattle.wasm_syntax.specs.Format.{ok, fault, and_then, Fence, left_of, Format, goes_on, IsLast, Links, ChainSpells, linked, chain_reads, chained}
use Rattle.wasm_syntax.proofs.FormatLaws.{Takes, IsLawful, and_then_ok, ok_first, ok_rest, same_ok}

-- the last link, or one with others behind it
pub last_link : {S A : Type 0} (step : S → Format A) (next : S → A → Option S) (s : S) (x : A) (text : List ℕ) → next s x ≡ None → (step s).spells x text → ChainSpells step next s (x ∷ []) text
unfolding ChainSpells
last_link {S = S} {A = A} step next s x text e spelled =
    record {
      front = text;
      back = [];
      parts = sym (append-nil text);
      first_spelled = spelled;
      others_spelled = subst (λ (o : Option S). goes_on o (IsLast {A = A} [] []) (λ t. ChainSpells step next t [] [])) (sym e) (refl, refl);
    }

pub joined_links : {S A : Type 0} (step : S → Format A) (next : S → A → Option S) (s t : S) (x : A) (xs : List A) (front back : List ℕ) → next s x ≡ Some t → (step s).spells x front → ChainSpells step next t xs back → ChainSpells step next s (x ∷ xs) (front ++ back)
unfolding ChainSpells
joined_links {S = S} step next s t x xs front back e one others =
    record {
      front = front;
      back = back;
      parts = refl;
      first_spelled = one;
      others_spelled = subst (λ (o : Option S). goes_on o (IsLast xs back) (λ u. ChainSpells step next u xs back)) (sym e) others;
    }

option_cases : {S : Type 0} (o : Option S) → (o ≡ None) ⊎ ((t : S) × (o ≡ Some t))
option_cases None = inl refl
option_cases (Some t) = inr (t, refl)

pub chain_takes : {S A : Type 0} (step : S → Format A) (next : S → A → Option S) → ((s : S) → IsLawful (step s)) → (fuel : ℕ) (s : S) (k : Fence) (bytes : List ℕ) (xs : List A) (rest : List ℕ)
    → left_of k ≤ length bytes → chain_reads step next fuel s k bytes ≡ ok xs rest → Takes (ChainSpells step next s) (left_of k) xs bytes rest
unfolding chain_reads
chain_takes step next h zero s k bytes xs rest le e = absurd (let f : fault 2 0 ≡ ok xs rest = e in cc)
chain_takes {S = S} {A = A} step next h (suc fuel) s k bytes xs rest le e =
    let p = and_then_ok ((step s).reads k bytes) (λ x r. linked (next s x) x r (λ t. chain_reads step next fuel t k r)) xs rest e in
    let t = (h s).takes k bytes p.0 p.1 le p.2 in
    elim (option_cases (next s p.0)) [
      | inl none ↦
          let f : ok (p.0 ∷ []) p.1 ≡ ok xs rest = subst (λ (o : Option S). linked o p.0 p.1 (λ t. chain_reads step next fuel t k p.1) ≡ ok xs rest) none p.3 in
          record {
            text = t.text;
            spelled = subst (λ (l : List A). ChainSpells step next s l t.text) (ok_first (p.0 ∷ []) xs p.1 rest f) (last_link step next s p.0 t.text none t.spelled);
            parts = t.parts ∙ ap (λ (l : List ℕ). t.text ++ l) (ok_rest (p.0 ∷ []) xs p.1 rest f);
            within = subst (λ (l : List ℕ). left_of k ≤ length l) (ok_rest (p.0 ∷ []) xs p.1 rest f) t.within;
          }
      | inr more ↦
          let f : and_then (chain_reads step next fuel more.0 k p.1) (λ ys r. ok (p.0 ∷ ys) r) ≡ ok xs rest = subst (λ (o : Option S). linked o p.0 p.1 (λ t. chain_reads step next fuel t k p.1) ≡ ok xs rest) more.1 p.3 in
          let q = and_then_ok (chain_reads step next fuel more.0 k p.1) (λ ys r. ok (p.0 ∷ ys) r) xs rest f in
          let u = chain_takes step next h fuel more.0 k p.1 q.0 q.1 t.within q.2 in
          record {
            text = t.text ++ u.text;
            spelled = subst (λ (l : List A). ChainSpells step next s l (t.text ++ u.text)) (ok_first (p.0 ∷ q.0) xs q.1 rest q.3) (joined_links step next s more.0 p.0 q.0 t.text u.text more.1 t.spelled u.spelled);
            parts = t.parts ∙ ap (λ (l : List ℕ). t.text ++ l) u.parts ∙ sym (append_assoc t.text u.text q.1) ∙ ap (λ (l : List ℕ). (t.text ++ u.text) ++ l) (ok_rest (p.0 ∷ q.0) xs q.1 rest q.3);
            within = subst (λ (l : List ℕ). left_of k ≤ length l) (ok_rest (p.0 ∷ q.0) xs q.1 rest q.3) u.within;
          }
    ]

-- what a chain's spelling begins with
pub first_link : {S A : Type 0} (step : S → Format A) (next : S → A → Option S) (s : S) (x : A) (xs : List A) (text : List ℕ) → ChainSpells step next s (x ∷ xs) text
    → Links (step s).spells (λ back. goes_on (next s x) (IsLast xs back) (λ t. ChainSpells step next t xs back)) x text
unfolding ChainSpells
first_link step next s x xs text h = h

pub no_link : {S A : Type 0} (step : S → Format A) (next : S → A → Option S) (s : S) (text : List ℕ) → ChainSpells step next s [] text → ⊥
unfolding ChainSpells
no_link step next s text h = h

pub chain_again : {S A : Type 0} (step : S → Format A) (next : S → A → Option S) → ((s : S) → IsLawful (step s)) → ((s : S) (x : A) (text : List ℕ) → (step s).spells x text → 0 < length text)
    → (fuel : ℕ) (s : S) (k : Fence) (text : List ℕ) (xs : List A) (rest : List ℕ) → ChainSpells step next s xs text → length text ≤ fuel → left_of k ≤ length rest → chain_reads step next fuel s k (text ++ rest) ≡ ok xs rest
unfolding chain_reads
chain_again step next h some fuel s k text [] rest c long le = absurd (no_link step next s text c)
chain_again step next h some zero s k text (x ∷ xs) rest c long le =
    let l = first_link step next s x xs text c in
    let n : length text ≡ length l.front + length l.back = ap length l.parts ∙ length-append l.front l.back in
    absurd (omega (arith, n, some s x l.front l.first_spelled))
chain_again {S = S} {A = A} step next h some (suc fuel) s k text (x ∷ xs) rest c long le =
    let l = first_link step next s x xs text c in
    let n : length text ≡ length l.front + length l.back = ap length l.parts ∙ length-append l.front l.back in
    let shorter : length l.back ≤ fuel = omega (arith, n, some s x l.front l.first_spelled) in
    let enough : left_of k ≤ length (l.back ++ rest) = omega (arith, length-append l.back rest) in
    let bytes : text ++ rest ≡ l.front ++ (l.back ++ rest) = ap (λ (z : List ℕ). z ++ rest) l.parts ∙ append_assoc l.front l.back rest in
    let one : (step s).reads k (text ++ rest) ≡ ok x (l.back ++ rest) = ap ((step s).reads k) bytes ∙ (h s).again k l.front x (l.back ++ rest) l.first_spelled enough in
    ap (λ r. and_then r (λ x r. linked (next s x) x r (λ t. chain_reads step next fuel t k r))) one ∙
    elim (option_cases (next s x)) [
      | inl none ↦
          let end : IsLast xs l.back = subst (λ (o : Option S). goes_on o (IsLast xs l.back) (λ t. ChainSpells step next t xs l.back)) none l.others_spelled in
          ap (λ o. linked o x (l.back ++ rest) (λ t. chain_reads step next fuel t k (l.back ++ rest))) none ∙ same_ok (x ∷ []) (x ∷ xs) (l.back ++ rest) rest (ap (λ (z : List A). x ∷ z) (sym end.0)) (ap (λ (z : List ℕ). z ++ rest) end.1)
      | inr more ↦
          let others : ChainSpells step next more.0 xs l.back = subst (λ (o : Option S). goes_on o (IsLast xs l.back) (λ t. ChainSpells step next t xs l.back)) more.1 l.others_spelled in
          ap (λ o. linked o x (l.back ++ rest) (λ t. chain_reads step next fuel t k (l.back ++ rest))) more.1
          ∙ ap (λ r. and_then r (λ ys r. ok (x ∷ ys) r)) (chain_again step next h some fuel more.0 k l.back xs rest others shorter le)
    ]

pub chained_lawful : {S A : Type 0} (step : S → Format A) (next : S → A → Option S) (s : S) → ((s : S) → IsLawful (step s)) → ((s : S) (x : A) (text : List ℕ) → (step s).spells x text → 0 < length text) → IsLawful (chained step next s)
chained_lawful step next s h some = record {
  takes = λ k bytes xs rest le e. chain_takes step next h (length bytes) s k bytes xs rest le e;
  again = λ k text xs rest c le. chain_again step next h some (length (text ++ rest)) s k text xs rest c (omega (arith, length-append text rest)) le;
}
