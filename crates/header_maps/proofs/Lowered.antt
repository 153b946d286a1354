-- A text of which a part is put in lower case, behind a front that was before.
use Rattle.std.proofs.Common.{◌≡◌, ℕ, ◌+◌, ◌-◌, ◌≤◌, List, ◌++◌, length, take, drop, append_assoc, sym, ap, ◌∙◌, arith}
use Rattle.std.proofs.lemmas.List.{drop-append-le, drop-drop, drop-map, length-map, length-take-le, map-append, take-append-drop, take-append-le, take-map, take-take}
use Rattle.std.proofs.Math.Seq.{drop-append-add, take-add}
use Rattle.std.specs.Char.{to_ascii_lowercase}
use Rattle.http_header.specs.Token.{lowercase}
use Rattle.header_maps.proofs.Shapes.{lowercase_twice}
use borrow.Rule.Slice.PartMut.{put_mid}

-- the first bytes of the text are in lower case
abbrev pub lowered_to : ℕ → List ℕ → List ℕ
lowered_to n o = lowercase (take n o) ++ drop n o

front_len : (o : List ℕ) (n : ℕ) → n ≤ length o → length (lowercase (take n o)) ≡ n
front_len o n fits = length-map (take n o) to_ascii_lowercase ∙ length-take-le n o fits

-- what stands in front of a place within that front, and behind it
lowered_front : (o : List ℕ) (n a : ℕ) → a ≤ n → n ≤ length o → take a (lowered_to n o) ≡ lowercase (take a o)
lowered_front o n a within fits =
    take-append-le a (lowercase (take n o)) (drop n o) (omega (arith, within, front_len o n fits))
    ∙ take-map to_ascii_lowercase a (take n o) ∙ ap lowercase (take-take a n o within)

lowered_behind : (o : List ℕ) (n a : ℕ) → a ≤ n → n ≤ length o → lowercase (drop a (lowered_to n o)) ≡ lowercase (drop a o)
lowered_behind o n a within fits =
    let front = take n o in
    let inside : a ≤ length front = omega (arith, within, length-take-le n o fits) in
    let inside_lower : a ≤ length (lowercase front) = omega (arith, within, front_len o n fits) in
    ap lowercase (drop-append-le a (lowercase front) (drop n o) inside_lower ∙ ap (λ t. t ++ drop n o) (drop-map to_ascii_lowercase a front))
    ∙ map-append to_ascii_lowercase (lowercase (drop a front)) (drop n o)
    ∙ ap (λ t. t ++ lowercase (drop n o)) (lowercase_twice (drop a front))
    ∙ sym (map-append to_ascii_lowercase (drop a front) (drop n o))
    ∙ ap lowercase (sym (drop-append-le a front (drop n o) inside) ∙ ap (drop a) (take-append-drop n o))

-- what stands behind a place behind that front is as it was
lowered_past : (o : List ℕ) (n m : ℕ) → n ≤ m → n ≤ length o → drop m (lowered_to n o) ≡ drop m o
lowered_past o n m behind fits =
    let len = front_len o n fits in
    let e : m ≡ length (lowercase (take n o)) + (m - n) = omega (arith, behind, len) in
    let f : n + (m - n) ≡ m = omega (arith, behind) in
    ap (λ k. drop k (lowered_to n o)) e ∙ drop-append-add (lowercase (take n o)) (drop n o) (m - n)
    ∙ drop-drop (m - n) n o ∙ ap (λ k. drop k o) f

-- a part that begins within that front and ends behind it is put in lower case
pub lowered_more : (o t ys : List ℕ) (n a k m : ℕ) → t ≡ lowered_to n o → ys ≡ lowercase (take k (drop a t)) → m ≡ a + k → a ≤ n → n ≤ m
    → m ≤ length o → put_mid a k t ys ≡ lowered_to m o
lowered_more o t ys n a k m is part end within behind fits =
    let n_fits : n ≤ length o = omega (arith, behind, fits) in
    let front : take a t ≡ lowercase (take a o) = ap (take a) is ∙ lowered_front o n a within n_fits in
    let middle : ys ≡ lowercase (take k (drop a o)) =
    part ∙ sym (take-map to_ascii_lowercase k (drop a t))
    ∙ ap (take k) (ap (λ x. lowercase (drop a x)) is ∙ lowered_behind o n a within n_fits)
    ∙ take-map to_ascii_lowercase k (drop a o) in
    let past : drop k (drop a t) ≡ drop m o =
    drop-drop k a t ∙ ap (λ j. drop j t) (sym end) ∙ ap (drop m) is ∙ lowered_past o n m behind n_fits in
    let joined : lowercase (take a o) ++ lowercase (take k (drop a o)) ≡ lowercase (take m o) =
    sym (map-append to_ascii_lowercase (take a o) (take k (drop a o)))
    ∙ ap lowercase (sym (take-add a k o) ∙ ap (λ j. take j o) (sym end)) in
    ap (λ x. x ++ (ys ++ drop k (drop a t))) front
    ∙ ap (λ y. lowercase (take a o) ++ (y ++ drop k (drop a t))) middle
    ∙ ap (λ z. lowercase (take a o) ++ (lowercase (take k (drop a o)) ++ z)) past
    ∙ sym (append_assoc (lowercase (take a o)) (lowercase (take k (drop a o))) (drop m o))
    ∙ ap (λ x. x ++ drop m o) joined
