-- What is written for a value by a rule of the grammar: wherever some bytes spell the value, what is
-- written does, and no bytes that do are fewer.
use Rattle.std.proofs.Common.{◌≡◌, ℕ, zero, suc, Option, Some, None, List, [], ◌∷◌, ◌++◌, length, drop, refl, sym, ap, subst, ◌∙◌, append_assoc, arith}
use Rattle.std.specs.List.{flat_map}
use Rattle.std.proofs.lemmas.List.{length-append, append-nil, drop_at}
use Rattle.wasm_syntax.specs.Numbers.{AreBytes, IsShortest}
use Rattle.wasm_syntax.specs.Format.{Format, Follows, done, repeated, goes_on, IsLast, Links, ChainSpells}
use Rattle.wasm_syntax.proofs.ChainLaws.{first_link, no_link}

pub record IsWritten {A : Type 0} (spells : A → List ℕ → Type 0) (bytes : A → List ℕ) : Type 0 where
  pub shortest : (x : A) (other : List ℕ) → AreBytes other → spells x other → IsShortest (spells x) (bytes x)

-- ---- bytes

pub bytes_left : (a b : List ℕ) → AreBytes (a ++ b) → AreBytes a
bytes_left [] b h = tt
bytes_left (x ∷ a) b h = (h.0, bytes_left a b h.1)

pub bytes_right : (a b : List ℕ) → AreBytes (a ++ b) → AreBytes b
bytes_right [] b h = h
bytes_right (x ∷ a) b h = bytes_right a b h.1

pub bytes_join : (a b : List ℕ) → AreBytes a → AreBytes b → AreBytes (a ++ b)
bytes_join [] b h k = k
bytes_join (x ∷ a) b h k = (h.0, bytes_join a b h.1 k)

pub front_bytes : (text front back : List ℕ) → text ≡ front ++ back → AreBytes text → AreBytes front
front_bytes text front back e h = bytes_left front back (subst AreBytes e h)

pub back_bytes : (text front back : List ℕ) → text ≡ front ++ back → AreBytes text → AreBytes back
back_bytes text front back e h = bytes_right front back (subst AreBytes e h)

-- ---- the same, said otherwise

pub same_written : {A : Type 0} (spells : A → List ℕ → Type 0) (w g : A → List ℕ) → IsWritten spells w → ((x : A) (text : List ℕ) → AreBytes text → spells x text → g x ≡ w x) → IsWritten spells g
same_written spells w g h same = record {
  shortest = λ x other are s. subst (λ (l : List ℕ). IsShortest (spells x) l) (sym (same x other are s)) (h.shortest x other are s);
}

-- where the value alone decides
pub with_written : {A : Type 0} (spells : A → List ℕ → Type 0) (P : A → Type 0) (w : A → List ℕ) → IsWritten spells w → IsWritten (λ x text. spells x text × P x) w
with_written spells P w h = record {
  shortest = λ x other are s.
      let p = h.shortest x other are s.0 in
      record { bytes = p.bytes; spelled = (p.spelled, s.1); least = λ more b t. p.least more b t.0 };
}

-- where the bytes are the only ones
pub only_written : {A : Type 0} (spells : A → List ℕ → Type 0) (w : A → List ℕ) → ((x : A) (text : List ℕ) → spells x text → w x ≡ text) → IsWritten spells w
only_written spells w only = record {
  shortest = λ x other are s.
      let e : other ≡ w x = sym (only x other s) in
      record {
        bytes = subst AreBytes e are;
        spelled = subst (spells x) e s;
        least = λ more b t. omega (arith, ap length (only x more t));
      };
}

-- ---- nothing, and one behind another

pub done_written : {A : Type 0} (x : A) → IsWritten (done x).spells (λ y. [])
done_written x = only_written (done x).spells (λ y. []) (λ y text s. sym s.1)

pub follows_written : {A B : Type 0} (first : A → List ℕ → Type 0) (second : A → B → List ℕ → Type 0) (w : A → List ℕ) (v : A → B → List ℕ) (g : B → List ℕ) → IsWritten first w → ((x : A) → IsWritten (second x) (v x))
    → ((x : A) (y : B) (front back : List ℕ) → first x front → second x y back → g y ≡ w x ++ v x y) → IsWritten (Follows first second) g
follows_written first second w v g a b same = record {
  shortest = λ y other are s.
      let p = a.shortest s.value s.front (front_bytes other s.front s.back s.parts are) s.first_spelled in
      let q = (b s.value).shortest y s.back (back_bytes other s.front s.back s.parts are) s.second_spelled in
      let e : g y ≡ w s.value ++ v s.value y = same s.value y s.front s.back s.first_spelled s.second_spelled in
      record {
        bytes = subst AreBytes (sym e) (bytes_join (w s.value) (v s.value y) p.bytes q.bytes);
        spelled = record { value = s.value; front = w s.value; back = v s.value y; parts = e; first_spelled = p.spelled; second_spelled = q.spelled };
        least = λ more b2 t.
            let c = front_bytes more t.front t.back t.parts b2 in
            let d = back_bytes more t.front t.back t.parts b2 in
            let m = (a.shortest t.value t.front c t.first_spelled).least t.front c t.first_spelled in
            let n = ((b t.value).shortest y t.back d t.second_spelled).least t.back d t.second_spelled in
            omega (arith, m, n, ap length (same t.value y t.front t.back t.first_spelled t.second_spelled), length-append (w t.value) (v t.value y), ap length t.parts, length-append t.front t.back);
      };
}

-- a value that is made of one other
pub made_written : {A B : Type 0} (first : A → List ℕ → Type 0) (f : A → B) (w : A → List ℕ) (g : B → List ℕ) → IsWritten first w → ((x : A) → g (f x) ≡ w x) → IsWritten (Follows first (λ x. (done (f x)).spells)) g
made_written first f w g a same =
    follows_written first (λ x. (done (f x)).spells) w (λ x y. []) g a (λ x. done_written (f x)) (λ x y front back s t. ap g t.0 ∙ (same x ∙ sym (append-nil (w x))))

-- of two
pub two_written : {A B C : Type 0} (first : A → List ℕ → Type 0) (second : A → B → List ℕ → Type 0) (f : A → B → C) (w : A → List ℕ) (v : A → B → List ℕ) (g : C → List ℕ) → IsWritten first w → ((x : A) → IsWritten (second x) (v x))
    → ((x : A) (y : B) (back : List ℕ) → second x y back → g (f x y) ≡ w x ++ v x y) → IsWritten (Follows first (λ x. Follows (second x) (λ y. (done (f x y)).spells))) g
two_written first second f w v g a b same =
    follows_written first (λ x. Follows (second x) (λ y. (done (f x y)).spells)) w (λ x z. drop (length (w x)) (g z)) g a
    (λ x. follows_written (second x) (λ y. (done (f x y)).spells) (v x) (λ y z. []) (λ z. drop (length (w x)) (g z)) (b x) (λ y. done_written (f x y))
    (λ y z front back s t. ap (λ u. drop (length (w x)) (g u)) t.0 ∙ (ap (drop (length (w x))) (same x y front s) ∙ (drop_at (w x) (v x y) (length (w x)) refl ∙ sym (append-nil (v x y))))))
    (λ x z front back s t.
    let e : g z ≡ w x ++ v x t.value = ap g t.second_spelled.0 ∙ same x t.value t.front t.first_spelled in
    e ∙ ap (λ (l : List ℕ). w x ++ l) (sym (ap (drop (length (w x))) e ∙ drop_at (w x) (v x t.value) (length (w x)) refl)))

-- ---- so many in a row

pub repeated_length : {A : Type 0} (n : ℕ) (m : Format A) (xs : List A) (text : List ℕ) → (repeated n m).spells xs text → length xs ≡ n
unfolding repeated
repeated_length zero m xs text s = ap length s.0
repeated_length (suc n) m xs text s =
    let t = s.second_spelled in
    ap length t.second_spelled.0 ∙ ap suc (repeated_length n m t.value t.front t.first_spelled)

pub repeated_written : {A : Type 0} (n : ℕ) (m : Format A) (w : A → List ℕ) → IsWritten m.spells w → IsWritten (repeated n m).spells (flat_map w)
unfolding repeated
repeated_written zero m w a = only_written (done []).spells (flat_map w) (λ xs text s. ap (flat_map w) s.0 ∙ sym s.1)
repeated_written (suc n) m w a =
    two_written m.spells (λ x. (repeated n m).spells) (λ x xs. x ∷ xs) w (λ x. flat_map w) (flat_map w) a (λ x. repeated_written n m w a) (λ x xs back s. refl)

-- ---- one after another

pub links_shortest : {A : Type 0} (first : A → List ℕ → Type 0) (others : List ℕ → Type 0) (x : A) (front back : List ℕ) → IsShortest (first x) front → IsShortest others back → IsShortest (Links first others x) (front ++ back)
links_shortest first others x front back p q = record {
  bytes = bytes_join front back p.bytes q.bytes;
  spelled = record { front = front; back = back; parts = refl; first_spelled = p.spelled; others_spelled = q.spelled };
  least = λ more b t.
      let m = p.least t.front (front_bytes more t.front t.back t.parts b) t.first_spelled in
      let n = q.least t.back (back_bytes more t.front t.back t.parts b) t.others_spelled in
      omega (arith, m, n, length-append front back, ap length t.parts, length-append t.front t.back);
}

others_shortest : {S A : Type 0} (step : S → Format A) (next : S → A → Option S) (w : A → List ℕ) (xs : List A) → ((t : S) (other : List ℕ) → AreBytes other → ChainSpells step next t xs other → IsShortest (ChainSpells step next t xs) (flat_map w xs))
    → (o : Option S) (back : List ℕ) → AreBytes back → goes_on o (IsLast xs back) (λ t. ChainSpells step next t xs back) → IsShortest (λ b. goes_on o (IsLast xs b) (λ t. ChainSpells step next t xs b)) (flat_map w xs)
others_shortest step next w xs more None back are s =
    let e : flat_map w xs ≡ [] = ap (flat_map w) s.0 in
    record { bytes = subst AreBytes (sym e) tt; spelled = (s.0, e); least = λ other b t. omega (arith, ap length e) }
others_shortest step next w xs more (Some t) back are s = more t back are s

chain_shortest : {S A : Type 0} (step : S → Format A) (next : S → A → Option S) (w : A → List ℕ) → ((s : S) → IsWritten (step s).spells w) → (xs : List A) (s : S) (other : List ℕ) → AreBytes other → ChainSpells step next s xs other → IsShortest (ChainSpells step next s xs) (flat_map w xs)
unfolding ChainSpells
chain_shortest step next w h [] s other are c = absurd (no_link step next s other c)
chain_shortest step next w h (x ∷ xs) s other are c =
    let l = first_link step next s x xs other c in
    links_shortest (step s).spells (λ back. goes_on (next s x) (IsLast xs back) (λ t. ChainSpells step next t xs back)) x (w x) (flat_map w xs)
    ((h s).shortest x l.front (front_bytes other l.front l.back l.parts are) l.first_spelled)
    (others_shortest step next w xs (λ t o b d. chain_shortest step next w h xs t o b d) (next s x) l.back (back_bytes other l.front l.back l.parts are) l.others_spelled)

pub chain_written : {S A : Type 0} (step : S → Format A) (next : S → A → Option S) (w : A → List ℕ) → ((s : S) → IsWritten (step s).spells w) → (s : S) → IsWritten (ChainSpells step next s) (flat_map w)
chain_written step next w h s = record { shortest = λ xs other are c. chain_shortest step next w h xs s other are c }

-- ---- the same spelling, put otherwise

pub equal_written : {A : Type 0} (first second : A → List ℕ → Type 0) (w : A → List ℕ) → ((x : A) (text : List ℕ) → first x text → second x text) → ((x : A) (text : List ℕ) → second x text → first x text) → IsWritten first w → IsWritten second w
equal_written first second w there back h = record {
  shortest = λ x other are s.
      let p = h.shortest x other are (back x other s) in
      record { bytes = p.bytes; spelled = there x (w x) p.spelled; least = λ more b t. p.least more b (back x more t) };
}

pub regroup : {A B C : Type 0} (first : A → List ℕ → Type 0) (second : A → B → List ℕ → Type 0) (third : B → C → List ℕ → Type 0) (z : C) (text : List ℕ) → Follows (Follows first second) third z text → Follows first (λ x. Follows (second x) third) z text
regroup first second third z text s =
    let t = s.first_spelled in
    record {
      value = t.value;
      front = t.front;
      back = t.back ++ s.back;
      parts = s.parts ∙ (ap (λ (l : List ℕ). l ++ s.back) t.parts ∙ append_assoc t.front t.back s.back);
      first_spelled = t.first_spelled;
      second_spelled = record { value = s.value; front = t.back; back = s.back; parts = refl; first_spelled = t.second_spelled; second_spelled = s.second_spelled };
    }

pub ungroup : {A B C : Type 0} (first : A → List ℕ → Type 0) (second : A → B → List ℕ → Type 0) (third : B → C → List ℕ → Type 0) (z : C) (text : List ℕ) → Follows first (λ x. Follows (second x) third) z text → Follows (Follows first second) third z text
ungroup first second third z text s =
    let t = s.second_spelled in
    record {
      value = t.value;
      front = s.front ++ t.front;
      back = t.back;
      parts = s.parts ∙ (ap (λ (l : List ℕ). s.front ++ l) t.parts ∙ sym (append_assoc s.front t.front t.back));
      first_spelled = record { value = s.value; front = s.front; back = t.front; parts = refl; first_spelled = s.first_spelled; second_spelled = t.first_spelled };
      second_spelled = t.second_spelled;
    }
