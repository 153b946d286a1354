-- Reading one after the other, as a loop does.
use Rattle.std.proofs.Common.{◌≡◌, ℕ, suc, ◌-◌, ◌+◌, ◌≤◌, ◌<◌, List, [], ◌∷◌, ◌++◌, length, Ok, Err, refl, sym, ap, ◌∙◌, append_assoc, arith}
use Rattle.std.proofs.lemmas.List.{append-nil}
use Rattle.wasm_syntax.specs.Format.{Reading, ok, fault, and_then, Fence, Format, repeated}
use Rattle.wasm_reader.specs.declared.ends.ReadEnd.{ReadEnd}
use Rattle.wasm_reader.specs.declared.ends.ReadEnd.TheVariants.{Refused, OutOfMemory}
use Rattle.wasm_reader.specs.Steps.{Gives}

-- what was read before, and what is still read
abbrev pub with_front : {A : Type 0} → List A → Reading (List A) → Reading (List A)
with_front front read = and_then read (λ xs rest. ok (front ++ xs) rest)

regroup : {A : Type 0} (front : List A) (x : A) (read : Reading (List A)) → with_front front (and_then read (λ xs rest. ok (x ∷ xs) rest)) ≡ with_front (front ++ x ∷ []) read
regroup {A = A} front x (Ok r) = ap (λ (xs : List A). ok xs r.1) (sym (append_assoc front (x ∷ []) r.0))
regroup front x (Err e) = refl

-- one more
pub one_more : {A : Type 0} (m : Format A) (k : Fence) (n : ℕ) (bytes : List ℕ) → (repeated (suc n) m).reads k bytes ≡ and_then (m.reads k bytes) (λ x rest. and_then ((repeated n m).reads k rest) (λ xs r. ok (x ∷ xs) r))
unfolding repeated
one_more m k n bytes = refl

pub none_more : {A : Type 0} (m : Format A) (k : Fence) (bytes : List ℕ) → (repeated 0 m).reads k bytes ≡ ok [] bytes
unfolding repeated
none_more m k bytes = refl

pub goes_on : {A : Type 0} (m : Format A) (k : Fence) (front : List A) (count i : ℕ) (bytes : List ℕ) (x : A) (after : List ℕ) (total : Reading (List A)) → i < count → m.reads k bytes ≡ ok x after
    → with_front front ((repeated (count - i) m).reads k bytes) ≡ total → with_front (front ++ x ∷ []) ((repeated (count - (i + 1)) m).reads k after) ≡ total
goes_on m k front count i bytes x after total lt h so_far =
    let n : count - i ≡ suc (count - (i + 1)) = omega arith in
    let one : (repeated (count - i) m).reads k bytes ≡ and_then ((repeated (count - (i + 1)) m).reads k after) (λ xs r. ok (x ∷ xs) r) =
    ap (λ c. (repeated c m).reads k bytes) n ∙ one_more m k (count - (i + 1)) bytes ∙ ap (λ r. and_then r (λ x rest. and_then ((repeated (count - (i + 1)) m).reads k rest) (λ xs r. ok (x ∷ xs) r))) h in
    sym (regroup front x ((repeated (count - (i + 1)) m).reads k after)) ∙ sym (ap (with_front front) one) ∙ so_far

pub ends : {A : Type 0} (m : Format A) (b : List ℕ) (e : ReadEnd) (k : Fence) (front : List A) (count i : ℕ) (bytes : List ℕ) (total : Reading (List A)) → i < count → Gives {A = A} b (Err e) (m.reads k bytes)
    → with_front front ((repeated (count - i) m).reads k bytes) ≡ total → Gives {A = List A} b (Err e) total
ends m b OutOfMemory k front count i bytes total lt h so_far = tt
ends m b (Refused number place) k front count i bytes total lt h so_far =
    let n : count - i ≡ suc (count - (i + 1)) = omega arith in
    let one : (repeated (count - i) m).reads k bytes ≡ fault number (length b - place) =
    ap (λ c. (repeated c m).reads k bytes) n ∙ one_more m k (count - (i + 1)) bytes ∙ ap (λ r. and_then r (λ x rest. and_then ((repeated (count - (i + 1)) m).reads k rest) (λ xs r. ok (x ∷ xs) r))) h.1 in
    (h.0, sym so_far ∙ ap (with_front front) one)

pub is_done : {A : Type 0} (m : Format A) (k : Fence) (front : List A) (count i : ℕ) (bytes : List ℕ) (total : Reading (List A)) → count ≤ i → with_front front ((repeated (count - i) m).reads k bytes) ≡ total → total ≡ ok front bytes
is_done {A = A} m k front count i bytes total le so_far =
    let n : count - i ≡ 0 = omega arith in
    sym so_far ∙ ap (λ c. with_front front ((repeated c m).reads k bytes)) n ∙ ap (with_front front) (none_more m k bytes) ∙ ap (λ (xs : List A). ok xs bytes) (append-nil front)
