-- Where bytes lie among pieces.
use Rattle.std.proofs.Common.{add-one, subst, ◌≡◌, ℕ, zero, suc, ◌+◌, ◌-◌, ◌<◌, ◌≤◌, List, [], ◌∷◌, ◌++◌, length, take, drop, min, ap, ◌∙◌, sym, refl, arith, append_assoc, append-nil, length-append, length-drop, length-take, take-append-drop}
use Rattle.std.proofs.lemmas.List.{take-append-le, drop_all, get_or-drop, drop-drop, drop_at, take_all, take_min, drop_min}
use Rattle.std.proofs.lemmas.List.Folds.{concat-append}
use Rattle.std.proofs.lemmas.List.Elements.{All-append, All-take, All-drop, All-push, All-same}
use Rattle.std.specs.List.{concat}
use Rattle.body_buffers.specs.Bodies.{part_of, spliced}
use Rattle.body_buffers.specs.Pieces.{AreFull, IsPlace, piece_at}

pub concat_push : (xs : List (List ℕ)) (y : List ℕ) → concat (xs ++ y ∷ []) ≡ concat xs ++ y
concat_push xs y = concat-append xs (y ∷ []) ∙ ap (λ l. concat xs ++ l) (append-nil y)

-- the pieces from a place of the list on
concat_drop_suc : (ps : List (List ℕ)) (k : ℕ) → concat (drop k ps) ≡ piece_at ps k ++ concat (drop (suc k) ps)
concat_drop_suc [] zero = refl
concat_drop_suc [] (suc k) = refl
concat_drop_suc (p ∷ ps) zero = refl
concat_drop_suc (p ∷ ps) (suc k) = concat_drop_suc ps k

pub concat_drop : (ps : List (List ℕ)) (k : ℕ) → concat (drop k ps) ≡ piece_at ps k ++ concat (drop (k + 1) ps)
concat_drop ps k = concat_drop_suc ps k ∙ ap (λ n. piece_at ps k ++ concat (drop n ps)) (sym (add-one k))

-- all bytes, about a piece
pub concat_about : (ps : List (List ℕ)) (k : ℕ) → concat ps ≡ concat (take k ps) ++ (piece_at ps k ++ concat (drop (k + 1) ps))
concat_about ps k =
    ap concat (sym (take-append-drop k ps)) ∙ concat-append (take k ps) (drop k ps) ∙ ap (λ l. concat (take k ps) ++ l) (concat_drop ps k)

-- one more piece is behind a place
length_concat_suc : (ps : List (List ℕ)) (k : ℕ) → length (concat (take (suc k) ps)) ≡ length (concat (take k ps)) + length (piece_at ps k)
length_concat_suc [] zero = refl
length_concat_suc [] (suc k) = refl
length_concat_suc (p ∷ ps) zero = omega (arith, length-append p [])
length_concat_suc (p ∷ ps) (suc k) =
    let more = length_concat_suc ps k in
    omega (arith, more, length-append p (concat (take (suc k) ps)), length-append p (concat (take k ps)))

pub length_concat_take : (ps : List (List ℕ)) (k : ℕ) → length (concat (take (k + 1) ps)) ≡ length (concat (take k ps)) + length (piece_at ps k)
length_concat_take ps k = ap (λ n. length (concat (take n ps))) (add-one k) ∙ length_concat_suc ps k

take_behind : (xs ys zs : List ℕ) (n a : ℕ) → length xs + a ≡ n → a ≤ length ys → take n (xs ++ (ys ++ zs)) ≡ xs ++ take a ys
take_behind [] ys zs n a h l = let e : n ≡ a = omega arith in rw e (take-append-le a ys zs l)
take_behind (x ∷ xs) ys zs zero a h l = absurd (omega arith)
take_behind (x ∷ xs) ys zs (suc n) a h l = ap (λ r. x ∷ r) (take_behind xs ys zs n a (omega arith) l)

drop_within : (ys zs : List ℕ) (a : ℕ) → a ≤ length ys → drop a (ys ++ zs) ≡ drop a ys ++ zs
drop_within ys zs zero l = refl
drop_within [] zs (suc a) l = absurd (omega arith)
drop_within (y ∷ ys) zs (suc a) l = drop_within ys zs a (omega arith)

drop_behind : (xs ys zs : List ℕ) (n a : ℕ) → length xs + a ≡ n → a ≤ length ys → drop n (xs ++ (ys ++ zs)) ≡ drop a ys ++ zs
drop_behind [] ys zs n a h l = let e : n ≡ a = omega arith in rw e (drop_within ys zs a l)
drop_behind (x ∷ xs) ys zs zero a h l = absurd (omega arith)
drop_behind (x ∷ xs) ys zs (suc n) a h l = drop_behind xs ys zs n a (omega arith) l

pub take_place : (ps : List (List ℕ)) (place k a : ℕ) → IsPlace ps place k a → take place (concat ps) ≡ concat (take k ps) ++ take a (piece_at ps k)
take_place ps place k a at = ap (take place) (concat_about ps k) ∙ take_behind _ _ _ place a at.sum at.within

pub drop_place : (ps : List (List ℕ)) (place k a : ℕ) → IsPlace ps place k a → drop place (concat ps) ≡ drop a (piece_at ps k) ++ concat (drop (k + 1) ps)
drop_place ps place k a at = ap (drop place) (concat_about ps k) ∙ drop_behind _ _ _ place a at.sum at.within

-- a place behind some pieces, among those behind them
drop_past : (ps : List (List ℕ)) (k n m : ℕ) → length (concat (take k ps)) + n ≡ m → drop m (concat ps) ≡ drop n (concat (drop k ps))
drop_past ps zero n m h = let e : m ≡ n = omega arith in rw e
drop_past [] (suc k) n m h = let e : m ≡ n = omega arith in rw e
drop_past (p ∷ ps) (suc k) n m h =
    let all = length-append p (concat (take k ps)) in
    let q : length p + (m - length p) ≡ m = omega arith in
    let behind : drop m (p ++ concat ps) ≡ drop (m - length p) (concat ps) =
    ap (λ i. drop i (p ++ concat ps)) (sym q) ∙ sym (drop-drop (m - length p) (length p) (p ++ concat ps)) ∙ ap (drop (m - length p)) (drop_at p (concat ps) (length p) refl) in
    behind ∙ drop_past ps k n (m - length p) (omega arith)

-- bytes put in place of others among pieces
pub concat_spliced : (ps : List (List ℕ)) (from size first front more back : ℕ) (given : List ℕ) (middle : List (List ℕ)) → IsPlace ps from first front → IsPlace (drop first ps) (front + size) more back → concat middle ≡ take front (piece_at ps first) ++ (given ++ drop back (piece_at ps (first + more))) → concat (take first ps ++ (middle ++ drop (first + more + 1) ps)) ≡ take from (concat ps) ++ (given ++ drop (from + size) (concat ps))
concat_spliced ps from size first front more back given middle at to is =
    let rest = drop (first + more + 1) ps in
    let L = concat (take first ps) in
    let A = take front (piece_at ps first) in
    let B = drop back (piece_at ps (first + more)) in
    let split : concat (take first ps ++ (middle ++ rest)) ≡ L ++ (concat middle ++ concat rest) =
    concat-append (take first ps) (middle ++ rest) ∙ ap (λ l. L ++ l) (concat-append middle rest) in
    let behind : drop (from + size) (concat ps) ≡ B ++ concat rest =
    drop_past ps first (front + size) (from + size) (let s = at.sum in omega arith)
    ∙ drop_place (drop first ps) (front + size) more back to
    ∙ ap (λ l. drop back l ++ concat (drop (more + 1) (drop first ps))) (get_or-drop first ps more [])
    ∙ ap (λ l. B ++ concat l) (drop-drop (more + 1) first ps ∙ ap (λ n. drop n ps) (let e : first + (more + 1) ≡ first + more + 1 = omega arith in e)) in
    split ∙ ap (λ l. L ++ (l ++ concat rest)) is
    ∙ ap (λ l. L ++ l) (append_assoc A (given ++ B) (concat rest) ∙ ap (λ l. A ++ l) (append_assoc given B (concat rest)))
    ∙ sym (append_assoc L A (given ++ (B ++ concat rest)))
    ∙ ap (λ l. l ++ (given ++ (B ++ concat rest))) (sym (take_place ps from first front at))
    ∙ ap (λ l. take from (concat ps) ++ (given ++ l)) (sym behind)

drop_append : (xs ys : List ℕ) (n : ℕ) → drop n (xs ++ ys) ≡ drop n xs ++ drop (n - length xs) ys
drop_append [] ys n =
    let e : n - 0 ≡ n = omega arith in
    ap (λ i. drop i ys) (sym e) ∙ ap (λ l. l ++ drop (n - 0) ys) (sym (drop_all n [] (omega arith)))
drop_append (x ∷ xs) ys zero = let e : 0 - suc (length xs) ≡ 0 = omega arith in rw e
drop_append (x ∷ xs) ys (suc n) = let e : suc n - suc (length xs) ≡ n - length xs = omega arith in rw e (drop_append xs ys n)

take_append : (xs ys : List ℕ) (n : ℕ) → take n (xs ++ ys) ≡ take n xs ++ take (n - length (take n xs)) ys
take_append [] ys n =
    let d : take {A = ℕ} n [] ≡ [] = take_all n [] (omega arith) in
    let e : n - 0 ≡ n = omega arith in
    rw d (ap (λ i. take i ys) (sym e))
take_append (x ∷ xs) ys zero = refl
take_append (x ∷ xs) ys (suc n) = let e : suc n - suc (length (take n xs)) ≡ n - length (take n xs) = omega arith in rw e (ap (λ l. x ∷ l) (take_append xs ys n))

-- a part of two runs of bytes is one of the first, and then one of the second
pub part_append : (xs ys : List ℕ) (start most : ℕ) → part_of (xs ++ ys) start most ≡ part_of xs start most ++ part_of ys (start - length xs) (most - length (part_of xs start most))
part_append xs ys start most = ap (take most) (drop_append xs ys start) ∙ take_append (drop start xs) (drop (start - length xs) ys) most

-- bytes that are put behind others piece by piece, one piece on
pub parts_more : (out out' done p : List ℕ) (ps : List (List ℕ)) (i skip left skip' left' : ℕ) → p ≡ piece_at ps i → out' ≡ out ++ part_of p skip left → skip' ≡ skip - length p → left' ≡ left - (length out' - length out) → out ++ part_of (concat (drop i ps)) skip left ≡ done → out' ++ part_of (concat (drop (i + 1) ps)) skip' left' ≡ done
parts_more out out' done p ps i skip left skip' left' here more skips lefts so =
    let P = part_of p skip left in
    let R = concat (drop (i + 1) ps) in
    let n : left' ≡ left - length P = omega (arith, lefts, ap length more, length-append out P) in
    ap (λ o. o ++ part_of R skip' left') more
    ∙ append_assoc out P (part_of R skip' left')
    ∙ ap (λ l. out ++ l) (
    ap (λ s. P ++ part_of R s left') skips ∙ ap (λ m. P ++ part_of R (skip - length p) m) n
    ∙ sym (part_append p R skip left)
    ∙ ap (λ q. part_of (q ++ R) skip left) here
    ∙ ap (λ q. part_of q skip left) (sym (concat_drop ps i)))
    ∙ so

-- a piece that is passed over
pub parts_past : (out done p : List ℕ) (ps : List (List ℕ)) (i skip left skip' : ℕ) → p ≡ piece_at ps i → length p ≤ skip → skip' ≡ skip - length p → out ++ part_of (concat (drop i ps)) skip left ≡ done → out ++ part_of (concat (drop (i + 1) ps)) skip' left ≡ done
parts_past out done p ps i skip left skip' here past skips so =
    let R = concat (drop (i + 1) ps) in
    ap (λ l. out ++ take left l) (
    ap (λ s. drop s R) skips
    ∙ sym (drop_append p R skip ∙ ap (λ l. l ++ drop (skip - length p) R) (drop_all skip p past))
    ∙ ap (λ q. drop skip (q ++ R)) here
    ∙ ap (drop skip) (sym (concat_drop ps i)))
    ∙ so

-- there is room behind a place
pub room_behind : (ps : List (List ℕ)) (from size first front : ℕ) → IsPlace ps from first front → from + size ≤ length (concat ps) → front + size ≤ length (concat (drop first ps))
room_behind ps from size first front at fits =
    let all = ap length (ap concat (sym (take-append-drop first ps)) ∙ concat-append (take first ps) (drop first ps)) ∙ length-append (concat (take first ps)) (concat (drop first ps)) in
    let sum = at.sum in
    omega (arith, all, sum)

-- the list of pieces that a splice leaves
pub spliced_list : (ps new rest : List (List ℕ)) (from size first front more back end : ℕ) (given : List ℕ) (middle : List (List ℕ)) → IsPlace ps from first front → rest ≡ drop first ps → IsPlace rest (front + size) more back → concat middle ≡ take front (piece_at ps first) ++ (given ++ drop back (piece_at ps (first + more))) → end ≡ min (first + more + 1) (length ps) → new ≡ take first ps ++ (middle ++ drop end ps) → concat new ≡ take from (concat ps) ++ (given ++ drop (from + size) (concat ps))
spliced_list ps new rest from size first front more back end given middle at behind to bytes ends is =
    ap concat (is ∙ ap (λ n. take first ps ++ (middle ++ drop n ps)) ends ∙ ap (λ l. take first ps ++ (middle ++ l)) (drop_min (first + more + 1) ps))
    ∙ concat_spliced ps from size first front more back given middle at (let P : List (List ℕ) → Type 0 = λ l. IsPlace l (front + size) more back in subst P behind to) bytes

-- none of the pieces that a splice leaves is empty
pub AreFull-spliced : (ps new middle : List (List ℕ)) (first end : ℕ) → AreFull ps → AreFull middle → new ≡ take first ps ++ (middle ++ drop end ps) → AreFull new
AreFull-spliced ps new middle first end all some is =
    let P : List ℕ → Type 0 = λ piece. 0 < length piece in
    record { each = All-same P _ _ is (All-append P _ _ (All-take P first ps all.each) (All-append P _ _ some.each (All-drop P end ps all.each))) }

-- nor of those with one more
pub AreFull-push : (ps new : List (List ℕ)) (piece : List ℕ) → AreFull ps → 0 < length piece → new ≡ ps ++ piece ∷ [] → AreFull new
AreFull-push ps new piece all some is =
    let P : List ℕ → Type 0 = λ p. 0 < length p in
    record { each = All-same P _ _ is (All-push P ps piece all.each some) }

pub AreFull-nil : AreFull []
AreFull-nil = record { each = λ k d h. absurd (omega arith) }

-- a part that ends where the bytes end
pub part_min : (xs : List ℕ) (start most : ℕ) → part_of xs start (min most (length xs - start)) ≡ part_of xs start most
part_min xs start most =
    ap (λ n. take (min most n) (drop start xs)) (sym (length-drop start xs)) ∙ take_min most (drop start xs)

-- how many bytes a splice leaves
pub length_spliced : (bytes given : List ℕ) (from size : ℕ) → from + size ≤ length bytes → length (spliced bytes from size given) + size ≡ length bytes + length given
length_spliced bytes given from size fits =
    omega (arith, length-append (take from bytes) (given ++ drop (from + size) bytes), length-append given (drop (from + size) bytes), length-take from bytes, length-drop (from + size) bytes)
