-- Where no member passes a test, none at any place does; and so segments that have passed are inside.
use Rattle.std.proofs.Common.{◌≡◌, refl, ◌∙◌, ap, sym, ℕ, zero, suc, ◌+◌, ◌<◌, ◌≤◌, Bool, true, false, not, cond, List, [], ◌∷◌, ◌++◌, length, take, drop, get_or, Option, Some, None, arith}
use Rattle.std.specs.List.{position, position_from}
use Rattle.std.proofs.lemmas.Iterator.Adapters.{position_from-zero}
use Rattle.std.proofs.lemmas.Option.{none-some}
use Rattle.std.proofs.lemmas.Bool.{leb-true}
use Rattle.std.proofs.lemmas.List.{length-append, length-take-le, length-drop}
use Rattle.wasm_syntax.specs.Memory.{written}
use Rattle.wasm_syntax.specs.declared.module.Element.{Element}
use Rattle.wasm_syntax.specs.declared.module.Segment.{Segment}
use Rattle.wasm_syntax.specs.Stores.{fits, offset_of}
use Rattle.wasm_store.specs.Linking.{is_element_outside, is_segment_outside}

none_there : {A : Type 0} (b : Bool) (x : A) (o : Option A) → cond b (Some x) o ≡ None → (b ≡ false) × (o ≡ None)
none_there true x o e = absurd (none-some x (sym e))
none_there false x o e = (refl, e)

none_from : {A : Type 0} (t : A → Bool) (k : ℕ) (xs : List A) → position_from t k xs ≡ None → (n : ℕ) (d : A) → n < length xs → t (get_or xs n d) ≡ false
none_from t k [] e n d lt = absurd (omega arith)
none_from t k (x ∷ xs) e zero d lt = (none_there (t x) k (position_from t (k + 1) xs) e).0
none_from t k (x ∷ xs) e (suc n) d lt = none_from t (k + 1) xs (none_there (t x) k (position_from t (k + 1) xs) e).1 n d (omega arith)

-- no member passes
pub none_passes : {A : Type 0} (t : A → Bool) (xs : List A) → position t xs ≡ None → (n : ℕ) (d : A) → n < length xs → t (get_or xs n d) ≡ false
none_passes t xs e n d lt = none_from t 0 xs (sym (position_from-zero t xs) ∙ e) n d lt

not_not : (b : Bool) → not b ≡ false → b ≡ true
not_not true e = refl
not_not false e = sym e

pub fits_within : (size at count : ℕ) → not (fits size at count) ≡ false → at + count ≤ size
fits_within size at count e = leb-true (at + count) size (not_not (fits size at count) e)

-- what is written inside leaves the length as it is
pub length-written : {A : Type 0} (xs : List A) (at : ℕ) (ys : List A) → at + length ys ≤ length xs → length (written xs at ys) ≡ length xs
length-written xs at ys le =
    let k = at + length ys in
    let all = length-append (take at xs) (ys ++ drop k xs) in
    let tail = length-append ys (drop k xs) in
    let front = length-take-le at xs (omega arith) in
    let rest = length-drop k xs in
    omega (arith, all, tail, front, rest)

-- segments that have passed are inside
pub segment_inside : (size : ℕ) (segments : List Segment) → position (is_segment_outside size) segments ≡ None → (n : ℕ) (s : Segment) → n < length segments → s ≡ get_or segments n s → offset_of s.offset + length s.bytes ≤ size
segment_inside size segments passed n s lt read =
    fits_within size (offset_of s.offset) (length s.bytes) (ap (is_segment_outside size) read ∙ none_passes (is_segment_outside size) segments passed n s lt)

pub element_inside : (size : ℕ) (elements : List Element) → position (is_element_outside size) elements ≡ None → (n : ℕ) (e : Element) → n < length elements → e ≡ get_or elements n e → offset_of e.offset + length e.functions ≤ size
element_inside size elements passed n e lt read =
    fits_within size (offset_of e.offset) (length e.functions) (ap (is_element_outside size) read ∙ none_passes (is_element_outside size) elements passed n e lt)
