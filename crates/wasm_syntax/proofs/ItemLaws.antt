-- The items, vectors and sized parts of modules are lawful formats.
use Rattle.std.proofs.Common.{◌≡◌, ℕ, ◌+◌, ◌-◌, ◌<◌, ◌≤◌, Bool, true, false, cond, eqb, ◌⊎◌, Option, List, [], ◌∷◌, ◌++◌, length, take, drop, Result, Ok, Err, refl, sym, ap, subst, ◌∙◌, append_assoc, arith, inl, inr}
use Rattle.std.proofs.lemmas.List.{length-append, length-drop, length-take, take_at, drop_at, take-append-drop}
use Rattle.std.proofs.lemmas.Bool.{lt-ltb, le-ltb, ltb-false, cases_lt, eqb-true, eq-eqb}
use Rattle.wasm_syntax.specs.declared.leb.LebEnd.{LebEnd}
use Rattle.wasm_syntax.specs.declared.leb.LebEnd.TheVariants.{Truncated, TooLong, UnusedBits}
use Rattle.wasm_syntax.specs.Numbers.{IsUnsigned, IsSigned, u32_at, s32_at, s64_at}
use Rattle.wasm_syntax.specs.Format.{ok, fault, and_then, tested, Fence, Ends, Passes, left_of, size_of, Format, bounded, repeated}
use Rattle.wasm_syntax.specs.Items.{IsByte, judged_as, byte_at, byte_as, number_or_fault, u32, s32, s64, agrees, agreed_u32, AreBytesOf, bytes_at, bytes_of, at_most, vector, fence_at, crosses, filled_at, sized_at, sized, skipped_at, tailed_at, sized_with_tail}
use Rattle.wasm_syntax.proofs.NumberLaws.{Fronts, unsigned_takes, unsigned_again, signed_takes, signed_again}
use Rattle.wasm_syntax.proofs.FormatLaws.{Takes, IsLawful, IsLawfulItem, and_then_ok, ok_first, ok_rest, same_ok, tested_ok, then_lawful, item_lawful, bounded_lawful, repeated_lawful}

-- ---- a byte

judged_ok : {A : Type 0} (r : Result A ℕ) (left : ℕ) (bs : List ℕ) (x : A) (rest : List ℕ) → judged_as r left bs ≡ ok x rest → (r ≡ Ok x) × (bs ≡ rest)
judged_ok (Ok y) left bs x rest e = (ap Ok (ok_first y x bs rest e), ok_rest y x bs rest e)
judged_ok (Err n) left bs x rest e = absurd cc

byte_takes : {A : Type 0} (judge : ℕ → Result A ℕ) (bytes : List ℕ) (x : A) (rest : List ℕ) → byte_at judge bytes ≡ ok x rest → Takes (IsByte judge) 0 x bytes rest
byte_takes judge [] x rest e = absurd cc
byte_takes judge (b ∷ bs) x rest e =
    let h = judged_ok (judge b) (length (b ∷ bs)) bs x rest e in
    record { text = b ∷ []; spelled = record { byte = b; alone = refl; judged = h.0 }; parts = ap (λ (l : List ℕ). b ∷ l) h.1; within = omega arith }

byte_again : {A : Type 0} (judge : ℕ → Result A ℕ) (text : List ℕ) (x : A) (rest : List ℕ) → IsByte judge x text → byte_at judge (text ++ rest) ≡ ok x rest
byte_again judge text x rest s =
    ap (λ (l : List ℕ). byte_at judge (l ++ rest)) s.alone ∙ ap (λ r. judged_as r (length (s.byte ∷ rest)) rest) s.judged

pub byte_lawful : {A : Type 0} (judge : ℕ → Result A ℕ) → IsLawful (byte_as judge)
byte_lawful judge = item_lawful (IsByte judge) (byte_at judge) (record { takes = byte_takes judge; again = byte_again judge })

-- ---- numbers

number_ok : {A : Type 0} (left : ℕ) (r : Result (A × List ℕ) LebEnd) (x : A) (rest : List ℕ) → number_or_fault left r ≡ ok x rest → r ≡ Ok (x, rest)
number_ok left (Ok y) x rest e = cc
number_ok left (Err Truncated) x rest e = absurd cc
number_ok left (Err TooLong) x rest e = absurd cc
number_ok left (Err UnusedBits) x rest e = absurd cc

from_fronts : {A : Type 0} (spells : A → List ℕ → Type 0) (x : A) (bytes rest : List ℕ) → Fronts (spells x) bytes rest → Takes spells 0 x bytes rest
from_fronts spells x bytes rest f = record { text = f.text; spelled = f.spelled; parts = f.parts; within = omega arith }

pub u32_item : IsLawfulItem (λ v text. IsUnsigned 32 text v) (λ bytes. number_or_fault (length bytes) (u32_at bytes))
u32_item = record {
  takes = λ bytes x rest e. from_fronts (λ v text. IsUnsigned 32 text v) x bytes rest (unsigned_takes 4 4 32 bytes x rest (omega arith) refl (number_ok (length bytes) (u32_at bytes) x rest e));
  again = λ text x rest s. ap (number_or_fault (length (text ++ rest))) (unsigned_again 4 4 32 text x rest (omega arith) refl s);
}

pub u32_lawful : IsLawful u32
u32_lawful = item_lawful _ _ u32_item

pub s32_lawful : IsLawful s32
s32_lawful = item_lawful _ _ (record {
  takes = λ bytes x rest e. from_fronts (λ v text. IsSigned 32 text v) x bytes rest (signed_takes 4 4 32 bytes x rest (omega arith) (omega arith) refl (number_ok (length bytes) (s32_at bytes) x rest e));
  again = λ text x rest s. ap (number_or_fault (length (text ++ rest))) (signed_again 4 4 32 text x rest (omega arith) refl s);
})

pub s64_lawful : IsLawful s64
s64_lawful = item_lawful _ _ (record {
  takes = λ bytes x rest e. from_fronts (λ v text. IsSigned 64 text v) x bytes rest (signed_takes 1 9 64 bytes x rest (omega arith) (omega arith) refl (number_ok (length bytes) (s64_at bytes) x rest e));
  again = λ text x rest s. ap (number_or_fault (length (text ++ rest))) (signed_again 1 9 64 text x rest (omega arith) refl s);
})

pub agreed_u32_lawful : (declared : Option ℕ) → IsLawful (agreed_u32 declared)
agreed_u32_lawful declared = item_lawful _ _ (record {
  takes = λ bytes x rest e.
      let p = and_then_ok (number_or_fault (length bytes) (u32_at bytes)) (λ n rest. tested (agrees declared n) 4 (length bytes) n rest) x rest e in
      let f = tested_ok (agrees declared p.0) 4 (length bytes) p.0 p.1 x rest p.3 in
      let t = u32_item.takes bytes x rest (p.2 ∙ same_ok p.0 x p.1 rest f.1 f.2) in
      record { text = t.text; spelled = (t.spelled, ap (agrees declared) (sym f.1) ∙ f.0); parts = t.parts; within = t.within };
  again = λ text x rest s.
      ap (λ r. and_then r (λ n r. tested (agrees declared n) 4 (length (text ++ rest)) n r)) (u32_item.again text x rest s.0) ∙ rw (s.1) refl;
})

-- ---- bytes

bytes_short : (accept : List ℕ → Bool) (n : ℕ) (bytes : List ℕ) → length bytes < n → bytes_at accept n bytes ≡ fault 2 0
bytes_short accept n bytes lt = rw (lt-ltb (length bytes) n lt) refl

bytes_long : (accept : List ℕ → Bool) (n : ℕ) (bytes : List ℕ) → n ≤ length bytes → bytes_at accept n bytes ≡ tested (accept (take n bytes)) 7 (length bytes) (take n bytes) (drop n bytes)
bytes_long accept n bytes le = rw (le-ltb (length bytes) n le) refl

bytes_take : (accept : List ℕ → Bool) (n : ℕ) (bytes xs rest : List ℕ) → bytes_at accept n bytes ≡ ok xs rest → Takes (AreBytesOf accept n) 0 xs bytes rest
bytes_take accept n bytes xs rest e = elim (cases_lt (length bytes) n) [
  | inl lt ↦ absurd (let f : fault 2 0 ≡ ok xs rest = sym (bytes_short accept n bytes lt) ∙ e in cc)
  | inr le ↦
      let h = tested_ok (accept (take n bytes)) 7 (length bytes) (take n bytes) (drop n bytes) xs rest (sym (bytes_long accept n bytes le) ∙ e) in
      let len : length (take n bytes) ≡ n = omega (arith, length-take n bytes) in
      record {
        text = xs;
        spelled = (refl, ap length (sym h.1) ∙ len, ap accept (sym h.1) ∙ h.0);
        parts = sym (take-append-drop n bytes) ∙ (ap (λ (l : List ℕ). l ++ drop n bytes) h.1 ∙ ap (λ (l : List ℕ). xs ++ l) h.2);
        within = omega arith;
      }
]

bytes_again : (accept : List ℕ → Bool) (n : ℕ) (text xs rest : List ℕ) → AreBytesOf accept n xs text → bytes_at accept n (text ++ rest) ≡ ok xs rest
bytes_again accept n text xs rest s =
    let le : n ≤ length (xs ++ rest) = omega (arith, length-append xs rest, s.1) in
    ap (λ (l : List ℕ). bytes_at accept n (l ++ rest)) s.0 ∙ bytes_long accept n (xs ++ rest) le ∙ rw (take_at xs rest n s.1, drop_at xs rest n s.1, s.2) refl

pub bytes_lawful : (accept : List ℕ → Bool) (n : ℕ) → IsLawful (bytes_of accept n)
bytes_lawful accept n = item_lawful _ _ (record { takes = bytes_take accept n; again = bytes_again accept n })

-- ---- vectors

pub vector_lawful : {A : Type 0} (m : Format A) → IsLawful m → IsLawful (vector m)
vector_lawful m h = then_lawful (bounded (at_most 65536) u32) (λ n. repeated n m) (bounded_lawful (at_most 65536) u32 u32_lawful) (λ n. repeated_lawful n m h)

-- ---- sizes

fence_within : (n size : ℕ) (rest : List ℕ) → left_of (fence_at n size rest) ≤ length rest
fence_within n size rest = elim (cases_lt (length rest) n) [
  | inl lt ↦ rw (lt-ltb (length rest) n lt) (omega arith)
  | inr le ↦ rw (le-ltb (length rest) n le) (omega arith)
]

chosen : {A : Type 0} (b : Bool) (x y z : A) → cond b x y ≡ z → ((b ≡ true) × (x ≡ z)) ⊎ ((b ≡ false) × (y ≡ z))
chosen true x y z e = inl (refl, e)
chosen false x y z e = inr (refl, e)

fence_passes : (n size : ℕ) (rest : List ℕ) → length rest < n → fence_at n size rest ≡ Passes size
fence_passes n size rest lt = rw (lt-ltb (length rest) n lt) refl

fence_ends : (n size : ℕ) (rest : List ℕ) → n ≤ length rest → fence_at n size rest ≡ Ends (length rest - n) size
fence_ends n size rest le = rw (le-ltb (length rest) n le) refl

-- the content is read up to its fence
pub record IsFilled {A : Type 0} (m : Format A) (k : Fence) (n size : ℕ) (rest : List ℕ) (x : A) (r : List ℕ) : Type 0 where
  pub inside : crosses k n (length rest) ≡ false
  pub within : n ≤ length rest
  pub content : m.reads (Ends (length rest - n) size) rest ≡ ok x r
  pub filled : length r ≡ length rest - n

filled_ok : {A : Type 0} (m : Format A) (k : Fence) (n size : ℕ) (rest : List ℕ) (x : A) (r : List ℕ) → crosses k n (length rest) ≡ false
    → and_then (m.reads (fence_at n size rest) rest) (λ x r. filled_at (fence_at n size rest) x r) ≡ ok x r → IsFilled m k n size rest x r
filled_ok m k n size rest x r c e = elim (cases_lt (length rest) n) [
  | inl lt ↦
      let e2 = subst (λ (f : Fence). and_then (m.reads f rest) (λ x r. filled_at f x r) ≡ ok x r) (fence_passes n size rest lt) e in
      let p = and_then_ok (m.reads (Passes size) rest) (λ x r. filled_at (Passes size) x r) x r e2 in
      absurd (let f : fault 2 0 ≡ ok x r = p.3 in cc)
  | inr le ↦
      let e2 = subst (λ (f : Fence). and_then (m.reads f rest) (λ x r. filled_at f x r) ≡ ok x r) (fence_ends n size rest le) e in
      let p = and_then_ok (m.reads (Ends (length rest - n) size) rest) (λ x r. filled_at (Ends (length rest - n) size) x r) x r e2 in
      let t = tested_ok (eqb (length p.1) (length rest - n)) 8 size p.0 p.1 x r p.3 in
      record {
        inside = c;
        within = le;
        content = p.2 ∙ same_ok p.0 x p.1 r t.1 t.2;
        filled = ap length (sym t.2) ∙ eqb-true (length p.1) (length rest - n) t.0;
      }
]

sized_ok : {A : Type 0} (m : Format A) (k : Fence) (n : ℕ) (rest : List ℕ) (size : ℕ) (x : A) (r : List ℕ) → sized_at m k n rest size ≡ ok x r → IsFilled m k n size rest x r
sized_ok m k n rest size x r e =
    elim (chosen (crosses k n (length rest)) (fault 8 (size_of k)) (and_then (m.reads (fence_at n size rest) rest) (λ x r. filled_at (fence_at n size rest) x r)) (ok x r) e) [
      | inl p ↦ absurd (let f : fault 8 (size_of k) ≡ ok x r = p.1 in cc)
      | inr p ↦ filled_ok m k n size rest x r p.0 p.1
    ]

not_crossed : (k : Fence) (n have : ℕ) → crosses k n have ≡ false → n ≤ have → left_of k ≤ have - n
not_crossed (Ends left size) n have c le = omega (arith, ltb-false have (left + n) c)
not_crossed (Passes size) n have c le = omega arith

stays_inside : (k : Fence) (n have : ℕ) → left_of k + n ≤ have → crosses k n have ≡ false
stays_inside (Ends left size) n have le = le-ltb have (left + n) le
stays_inside (Passes size) n have le = refl

filled_again : {A : Type 0} (m : Format A) → IsLawful m → (k : Fence) (back rest : List ℕ) (size : ℕ) (x : A) → m.spells x back → left_of k ≤ length rest → sized_at m k (length back) (back ++ rest) size ≡ ok x rest
filled_again m h k back rest size x s le =
    let len = length-append back rest in
    let inside : crosses k (length back) (length (back ++ rest)) ≡ false = stays_inside k (length back) (length (back ++ rest)) (omega (arith, len)) in
    let gap : length (back ++ rest) - length back ≡ length rest = omega (arith, len) in
    let ends : fence_at (length back) size (back ++ rest) ≡ Ends (length rest) size = fence_ends (length back) size (back ++ rest) (omega (arith, len)) ∙ ap (λ (n : ℕ). Ends n size) gap in
    let content : m.reads (Ends (length rest) size) (back ++ rest) ≡ ok x rest = h.again (Ends (length rest) size) back x rest s (omega arith) in
    let fits : eqb (length rest) (length rest) ≡ true = eq-eqb (length rest) (length rest) refl in
    ap (λ b. cond b (fault 8 (size_of k)) (and_then (m.reads (fence_at (length back) size (back ++ rest)) (back ++ rest)) (λ x r. filled_at (fence_at (length back) size (back ++ rest)) x r))) inside
    ∙ ap (λ f. and_then (m.reads f (back ++ rest)) (λ x r. filled_at f x r)) ends
    ∙ ap (λ r. and_then r (λ x r. filled_at (Ends (length rest) size) x r)) content
    ∙ ap (λ b. tested b 8 size x rest) fits

pub sized_lawful : {A : Type 0} (m : Format A) → IsLawful m → IsLawful (sized m)
sized_lawful m h = record {
  takes = λ k bytes x r le e.
      let p = and_then_ok (u32.reads k bytes) (λ n rest. sized_at m k n rest (length bytes)) x r e in
      let t = u32_lawful.takes k bytes p.0 p.1 le p.2 in
      let f = sized_ok m k p.0 p.1 (length bytes) x r p.3 in
      let c = h.takes (Ends (length p.1 - p.0) (length bytes)) p.1 x r (omega arith) f.content in
      let len : length p.1 ≡ length c.text + length r = ap length c.parts ∙ length-append c.text r in
      let size : p.0 ≡ length c.text = omega (arith, len, f.filled, f.within) in
      record {
        text = t.text ++ c.text;
        spelled = record { front = t.text; back = c.text; parts = refl; size = subst (λ (n : ℕ). IsUnsigned 32 t.text n) size t.spelled; filled = c.spelled };
        parts = t.parts ∙ ap (λ (l : List ℕ). t.text ++ l) c.parts ∙ sym (append_assoc t.text c.text r);
        within = omega (arith, f.filled, not_crossed k p.0 (length p.1) f.inside f.within);
      };
  again = λ k text x rest s le.
      let bytes : text ++ rest ≡ s.front ++ (s.back ++ rest) = ap (λ (l : List ℕ). l ++ rest) s.parts ∙ append_assoc s.front s.back rest in
      let long : left_of k ≤ length (s.back ++ rest) = omega (arith, length-append s.back rest) in
      let one : u32.reads k (text ++ rest) ≡ ok (length s.back) (s.back ++ rest) = ap (u32.reads k) bytes ∙ u32_lawful.again k s.front (length s.back) (s.back ++ rest) s.size long in
      ap (λ r. and_then r (λ n after. sized_at m k n after (length (text ++ rest)))) one ∙ filled_again m h k s.back rest (length (text ++ rest)) x s.filled le;
}

-- ---- content, and then any bytes up to the end

record IsTailed {A : Type 0} (m : Format A) (k : Fence) (n size : ℕ) (rest : List ℕ) (x : A) (r : List ℕ) : Type 0 where
  pub inside : crosses k n (length rest) ≡ false
  pub within : n ≤ length rest
  pub behind : List ℕ
  pub content : m.reads (Ends (length rest - n) size) rest ≡ ok x behind
  pub skipped : drop (length behind - (length rest - n)) behind ≡ r

tailed_ok : {A : Type 0} (m : Format A) (k : Fence) (n : ℕ) (rest : List ℕ) (size : ℕ) (x : A) (r : List ℕ) → tailed_at m k n rest size ≡ ok x r → IsTailed m k n size rest x r
tailed_ok m k n rest size x r e =
    elim (chosen (crosses k n (length rest)) (fault 8 (size_of k)) (and_then (m.reads (fence_at n size rest) rest) (λ x r. skipped_at (fence_at n size rest) x r)) (ok x r) e) [
      | inl p ↦ absurd (let f : fault 8 (size_of k) ≡ ok x r = p.1 in cc)
      | inr p ↦ elim (cases_lt (length rest) n) [
        | inl lt ↦
            let e2 = subst (λ (f : Fence). and_then (m.reads f rest) (λ x r. skipped_at f x r) ≡ ok x r) (fence_passes n size rest lt) p.1 in
            let q = and_then_ok (m.reads (Passes size) rest) (λ x r. skipped_at (Passes size) x r) x r e2 in
            absurd (let f : fault 2 0 ≡ ok x r = q.3 in cc)
        | inr le ↦
            let e2 = subst (λ (f : Fence). and_then (m.reads f rest) (λ x r. skipped_at f x r) ≡ ok x r) (fence_ends n size rest le) p.1 in
            let q = and_then_ok (m.reads (Ends (length rest - n) size) rest) (λ x r. skipped_at (Ends (length rest - n) size) x r) x r e2 in
            record {
              inside = p.0;
              within = le;
              behind = q.1;
              content = q.2 ∙ ap (λ z. ok z q.1) (ok_first q.0 x (drop (length q.1 - (length rest - n)) q.1) r q.3);
              skipped = ok_rest q.0 x (drop (length q.1 - (length rest - n)) q.1) r q.3;
            }
      ]
    ]

tailed_again : {A : Type 0} (m : Format A) → IsLawful m → (k : Fence) (back tail rest : List ℕ) (size : ℕ) (x : A) → m.spells x back → left_of k ≤ length rest
    → tailed_at m k (length (back ++ tail)) ((back ++ tail) ++ rest) size ≡ ok x rest
tailed_again m h k back tail rest size x s le =
    let both = back ++ tail in
    let len = length-append (back ++ tail) rest in
    let inside : crosses k (length (back ++ tail)) (length ((back ++ tail) ++ rest)) ≡ false = stays_inside k (length (back ++ tail)) (length ((back ++ tail) ++ rest)) (omega (arith, len)) in
    let gap : length ((back ++ tail) ++ rest) - length (back ++ tail) ≡ length rest = omega (arith, len) in
    let ends : fence_at (length (back ++ tail)) size ((back ++ tail) ++ rest) ≡ Ends (length rest) size = fence_ends (length (back ++ tail)) size ((back ++ tail) ++ rest) (omega (arith, len)) ∙ ap (λ (n : ℕ). Ends n size) gap in
    let split : (back ++ tail) ++ rest ≡ back ++ (tail ++ rest) = append_assoc back tail rest in
    let content : m.reads (Ends (length rest) size) ((back ++ tail) ++ rest) ≡ ok x (tail ++ rest) = ap (m.reads (Ends (length rest) size)) split ∙ h.again (Ends (length rest) size) back x (tail ++ rest) s (omega (arith, length-append tail rest)) in
    let skip : drop (length (tail ++ rest) - length rest) (tail ++ rest) ≡ rest = drop_at tail rest (length (tail ++ rest) - length rest) (omega (arith, length-append tail rest)) in
    ap (λ b. cond b (fault 8 (size_of k)) (and_then (m.reads (fence_at (length (back ++ tail)) size ((back ++ tail) ++ rest)) ((back ++ tail) ++ rest)) (λ x r. skipped_at (fence_at (length (back ++ tail)) size ((back ++ tail) ++ rest)) x r))) inside
    ∙ ap (λ f. and_then (m.reads f ((back ++ tail) ++ rest)) (λ x r. skipped_at f x r)) ends
    ∙ ap (λ r. and_then r (λ x r. skipped_at (Ends (length rest) size) x r)) content
    ∙ ap (ok x) skip

pub sized_with_tail_lawful : {A : Type 0} (m : Format A) → IsLawful m → IsLawful (sized_with_tail m)
sized_with_tail_lawful m h = record {
  takes = λ k bytes x r le e.
      let p = and_then_ok (u32.reads k bytes) (λ n rest. tailed_at m k n rest (length bytes)) x r e in
      let t = u32_lawful.takes k bytes p.0 p.1 le p.2 in
      let f = tailed_ok m k p.0 p.1 (length bytes) x r p.3 in
      let c = h.takes (Ends (length p.1 - p.0) (length bytes)) p.1 x f.behind (omega arith) f.content in
      let i : ℕ = length f.behind - (length p.1 - p.0) in
      let tail : List ℕ = take (length f.behind - (length p.1 - p.0)) f.behind in
      let cut : f.behind ≡ take (length f.behind - (length p.1 - p.0)) f.behind ++ r = sym (take-append-drop (length f.behind - (length p.1 - p.0)) f.behind) ∙ ap (λ (l : List ℕ). take (length f.behind - (length p.1 - p.0)) f.behind ++ l) f.skipped in
      let len : length p.1 ≡ length c.text + length f.behind = ap length c.parts ∙ length-append c.text f.behind in
      let len2 : length (take (length f.behind - (length p.1 - p.0)) f.behind) ≡ length f.behind - (length p.1 - p.0) = omega (arith, length-take (length f.behind - (length p.1 - p.0)) f.behind) in
      let size : p.0 ≡ length (c.text ++ take (length f.behind - (length p.1 - p.0)) f.behind) = omega (arith, len, len2, length-append c.text (take (length f.behind - (length p.1 - p.0)) f.behind), c.within, f.within) in
      let left : length r ≡ length p.1 - p.0 = ap length (sym f.skipped) ∙ omega (arith, length-drop (length f.behind - (length p.1 - p.0)) f.behind, c.within) in
      record {
        text = t.text ++ (c.text ++ take (length f.behind - (length p.1 - p.0)) f.behind);
        spelled = record { front = t.text; back = c.text; tail = take (length f.behind - (length p.1 - p.0)) f.behind; parts = refl; size = subst (λ (n : ℕ). IsUnsigned 32 t.text n) size t.spelled; filled = c.spelled };
        parts = t.parts ∙ ap (λ (l : List ℕ). t.text ++ l) (c.parts ∙ ap (λ (l : List ℕ). c.text ++ l) cut ∙ sym (append_assoc c.text (take (length f.behind - (length p.1 - p.0)) f.behind) r))
            ∙ sym (append_assoc t.text (c.text ++ take (length f.behind - (length p.1 - p.0)) f.behind) r);
        within = omega (arith, left, not_crossed k p.0 (length p.1) f.inside f.within);
      };
  again = λ k text x rest s le.
      let bytes : text ++ rest ≡ s.front ++ ((s.back ++ s.tail) ++ rest) = ap (λ (l : List ℕ). l ++ rest) s.parts ∙ append_assoc s.front (s.back ++ s.tail) rest in
      let long : left_of k ≤ length ((s.back ++ s.tail) ++ rest) = omega (arith, length-append (s.back ++ s.tail) rest) in
      let one : u32.reads k (text ++ rest) ≡ ok (length (s.back ++ s.tail)) ((s.back ++ s.tail) ++ rest) = ap (u32.reads k) bytes ∙ u32_lawful.again k s.front (length (s.back ++ s.tail)) ((s.back ++ s.tail) ++ rest) s.size long in
      ap (λ r. and_then r (λ n after. tailed_at m k n after (length (text ++ rest)))) one ∙ tailed_again m h k s.back s.tail rest (length (text ++ rest)) x s.filled le;
}
