-- A lawful format: what is read is spelled so, and what is spelled so is read, whatever stands behind it.
use Rattle.std.proofs.Common.{◌≡◌, ℕ, ◌<◌, ◌≤◌, zero, suc, Bool, true, false, List, [], ◌∷◌, ◌++◌, length, Ok, Err, refl, sym, ap, subst, ◌∙◌, append_assoc, arith, inl, inr}
use Rattle.std.proofs.lemmas.List.{length-append}
use Rattle.std.proofs.lemmas.Bool.{lt-ltb, le-ltb, cases_lt}
use Rattle.wasm_syntax.specs.Format.{Reading, ok, fault, and_then, tested, Fence, left_of, size_of, Format, done, ◌>>=◌, fenced, item, bounded, repeated}

-- a spelling at the front
pub record Takes {A : Type 0} (spells : A → List ℕ → Type 0) (least : ℕ) (x : A) (bytes rest : List ℕ) : Type 0 where
  pub text : List ℕ
  pub spelled : spells x text
  pub parts : bytes ≡ text ++ rest
  pub within : least ≤ length rest

pub record IsLawful {A : Type 0} (m : Format A) : Type 0 where
  pub takes : (k : Fence) (bytes : List ℕ) (x : A) (rest : List ℕ) → left_of k ≤ length bytes → m.reads k bytes ≡ ok x rest → Takes m.spells (left_of k) x bytes rest
  pub again : (k : Fence) (text : List ℕ) (x : A) (rest : List ℕ) → m.spells x text → left_of k ≤ length rest → m.reads k (text ++ rest) ≡ ok x rest

-- the same of an item, before it is judged against the end
pub record IsLawfulItem {A : Type 0} (spells : A → List ℕ → Type 0) (reads : List ℕ → Reading A) : Type 0 where
  pub takes : (bytes : List ℕ) (x : A) (rest : List ℕ) → reads bytes ≡ ok x rest → Takes spells 0 x bytes rest
  pub again : (text : List ℕ) (x : A) (rest : List ℕ) → spells x text → reads (text ++ rest) ≡ ok x rest

-- ---- steps that did not fail

pub and_then_ok : {A B : Type 0} (r : Reading A) (f : A → List ℕ → Reading B) (y : B) (s : List ℕ) → and_then r f ≡ ok y s → (x : A) × (rest : List ℕ) × (r ≡ ok x rest) × (f x rest ≡ ok y s)
and_then_ok (Ok x) f y s e = (x.0, x.1, refl, e)
and_then_ok (Err d) f y s e = absurd cc

pub ok_first : {A : Type 0} (x y : A) (r s : List ℕ) → ok x r ≡ ok y s → x ≡ y
ok_first {A = A} x y r s e = let p : (x, r) ≡ (y, s) = cc in ap (λ (q : A × List ℕ). q.0) p

pub ok_rest : {A : Type 0} (x y : A) (r s : List ℕ) → ok x r ≡ ok y s → r ≡ s
ok_rest {A = A} x y r s e = let p : (x, r) ≡ (y, s) = cc in ap (λ (q : A × List ℕ). q.1) p

pub same_ok : {A : Type 0} (x y : A) (r s : List ℕ) → x ≡ y → r ≡ s → ok x r ≡ ok y s
same_ok x y r s p q = ap (λ z. ok z r) p ∙ ap (ok y) q

pub tested_ok : {A : Type 0} (b : Bool) (number left : ℕ) (y : A) (r : List ℕ) (x : A) (rest : List ℕ) → tested b number left y r ≡ ok x rest → (b ≡ true) × (y ≡ x) × (r ≡ rest)
tested_ok true number left y r x rest e = (refl, ok_first y x r rest e, ok_rest y x r rest e)
tested_ok false number left y r x rest e = absurd cc

-- ---- nothing, and one behind another

pub done_lawful : {A : Type 0} (x : A) → IsLawful (done x)
done_lawful x = record {
  takes = λ k bytes y rest le e. record { text = []; spelled = (sym (ok_first x y bytes rest e), refl); parts = ok_rest x y bytes rest e; within = subst (λ (l : List ℕ). left_of k ≤ length l) (ok_rest x y bytes rest e) le };
  again = λ k text y rest s le. rw (s.0, s.1) refl;
}

pub then_lawful : {A B : Type 0} (m : Format A) (f : A → Format B) → IsLawful m → ((x : A) → IsLawful (f x)) → IsLawful (m >>= f)
then_lawful m f g h = record {
  takes = λ k bytes y rest le e.
      let p = and_then_ok (m.reads k bytes) (λ x r. (f x).reads k r) y rest e in
      let t = g.takes k bytes p.0 p.1 le p.2 in
      let u = (h p.0).takes k p.1 y rest t.within p.3 in
      record {
        text = t.text ++ u.text;
        spelled = record { value = p.0; front = t.text; back = u.text; parts = refl; first_spelled = t.spelled; second_spelled = u.spelled };
        parts = t.parts ∙ ap (λ (l : List ℕ). t.text ++ l) u.parts ∙ sym (append_assoc t.text u.text rest);
        within = u.within;
      };
  again = λ k text y rest s le.
      let long : left_of k ≤ length (s.back ++ rest) = omega (arith, length-append s.back rest) in
      let one : m.reads k (text ++ rest) ≡ ok s.value (s.back ++ rest) = ap (λ (l : List ℕ). m.reads k (l ++ rest)) s.parts ∙ ap (m.reads k) (append_assoc s.front s.back rest) ∙ g.again k s.front s.value (s.back ++ rest) s.first_spelled long in
      ap (λ r. and_then r (λ x r. (f x).reads k r)) one ∙ (h s.value).again k s.back y rest s.second_spelled le;
}

-- ---- items

pub fenced_past : {A : Type 0} (k : Fence) (x : A) (r : List ℕ) → length r < left_of k → fenced k x r ≡ fault 8 (size_of k)
fenced_past k x r lt = rw (lt-ltb (length r) (left_of k) lt) refl

pub fenced_within : {A : Type 0} (k : Fence) (x : A) (r : List ℕ) → left_of k ≤ length r → fenced k x r ≡ ok x r
fenced_within k x r le = rw (le-ltb (length r) (left_of k) le) refl

pub fenced_ok : {A : Type 0} (k : Fence) (x y : A) (r rest : List ℕ) → fenced k x r ≡ ok y rest → (x ≡ y) × (r ≡ rest) × (left_of k ≤ length rest)
fenced_ok k x y r rest e = elim (cases_lt (length r) (left_of k)) [
  | inl lt ↦ absurd (let f : fault 8 (size_of k) ≡ ok y rest = sym (fenced_past k x r lt) ∙ e in cc)
  | inr le ↦ let f : ok x r ≡ ok y rest = sym (fenced_within k x r le) ∙ e in (ok_first x y r rest f, ok_rest x y r rest f, subst (λ (l : List ℕ). left_of k ≤ length l) (ok_rest x y r rest f) le)
]

pub item_lawful : {A : Type 0} (spells : A → List ℕ → Type 0) (reads : List ℕ → Reading A) → IsLawfulItem spells reads → IsLawful (item spells reads)
item_lawful spells reads h = record {
  takes = λ k bytes x rest le e.
      let p = and_then_ok (reads bytes) (fenced k) x rest e in
      let f = fenced_ok k p.0 x p.1 rest p.3 in
      let t = h.takes bytes x rest (p.2 ∙ same_ok p.0 x p.1 rest f.0 f.1) in
      record { text = t.text; spelled = t.spelled; parts = t.parts; within = f.2 };
  again = λ k text x rest s le. ap (λ r. and_then r (fenced k)) (h.again text x rest s) ∙ fenced_within k x rest le;
}

pub bounded_lawful : {A : Type 0} (within : A → Bool) (m : Format A) → IsLawful m → IsLawful (bounded within m)
bounded_lawful within m h = record {
  takes = λ k bytes x rest le e.
      let p = and_then_ok (m.reads k bytes) (λ x rest. tested (within x) 9 (length bytes) x rest) x rest e in
      let f = tested_ok (within p.0) 9 (length bytes) p.0 p.1 x rest p.3 in
      let t = h.takes k bytes x rest le (p.2 ∙ same_ok p.0 x p.1 rest f.1 f.2) in
      record { text = t.text; spelled = (t.spelled, ap within (sym f.1) ∙ f.0); parts = t.parts; within = t.within };
  again = λ k text x rest s le.
      ap (λ r. and_then r (λ x r. tested (within x) 9 (length (text ++ rest)) x r)) (h.again k text x rest s.0 le) ∙ rw (s.1) refl;
}

-- ---- so many in a row

pub repeated_lawful : {A : Type 0} (n : ℕ) (m : Format A) → IsLawful m → IsLawful (repeated n m)
unfolding repeated
repeated_lawful zero m h = done_lawful []
repeated_lawful (suc n) m h = then_lawful m _ h (λ x. then_lawful (repeated n m) _ (repeated_lawful n m h) (λ xs. done_lawful (x ∷ xs)))
