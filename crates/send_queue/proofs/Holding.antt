-- What is left of a member of which bytes were taken.
use Rattle.std.proofs.Common.{◌≡◌, ◌≢◌, ℕ, zero, suc, ◌+◌, ◌<◌, ◌≤◌, Bool, true, false, List, [], ◌∷◌, ◌++◌, length, drop, set, map, refl, sym, ◌∙◌, ap, subst, arith}
use Rattle.std.specs.List.{insert, remove}
use Rattle.std.proofs.lemmas.List.{append-nil, drop-append-le, drop-drop, length-drop}
use Rattle.std.proofs.lemmas.Bool.{cond-true, cond-false}
use Rattle.gate_io.specs.declared.event.Sent.{Sent}
use Rattle.gate_io.specs.declared.event.Sent.TheVariants.{Connect, Bytes, Close, Log}
use Rattle.gate_io.specs.declared.event.Side.{Side}
use Rattle.send_queue.specs.Delivery.{IsFilled}
use Rattle.send_queue.specs.Joined.{are_one, as_one}
use Rattle.send_queue.specs.Places.{bytes_in, place_of, marks_in, marks_of, octets_in, octet, is_same_place}
use Rattle.send_queue.specs.Sorted.{rank, rank_of}
use Rattle.send_queue.specs.Taking.{rest_of, IsWithin}
use Rattle.send_queue.specs.declared.place.Destination.{Destination}

-- where nothing was taken all is left
pub rest_of_none : (member : Sent) → rest_of 0 member ≡ member
rest_of_none (Connect line) = refl
rest_of_none (Bytes line side bytes) = refl
rest_of_none (Close line side) = refl
rest_of_none (Log level text) = refl

pub within_none : (member : Sent) → IsWithin 0 member
within_none (Connect line) = tt
within_none (Bytes line side bytes) = omega arith
within_none (Close line side) = tt
within_none (Log level text) = tt

-- so many are there to be taken
pub within_bytes : (n : ℕ) (member : Sent) (line : ℕ) (side : Side) (bytes : List ℕ) → member ≡ Bytes line side bytes → IsWithin n member → n ≤ length bytes
within_bytes n member line side bytes is within = subst (IsWithin n) is within

-- the bytes that are left
pub bytes_in_rest : (n : ℕ) (member : Sent) (line : ℕ) (side : Side) (bytes : List ℕ) → member ≡ Bytes line side bytes → bytes_in (rest_of n member) ≡ drop n bytes
bytes_in_rest n member line side bytes is = ap (λ (m : Sent). bytes_in (rest_of n m)) is

-- what is left is for the place of the member
pub place_of_rest : (n : ℕ) (member : Sent) → place_of (rest_of n member) ≡ place_of member
place_of_rest n (Connect line) = refl
place_of_rest n (Bytes line side bytes) = refl
place_of_rest n (Close line side) = refl
place_of_rest n (Log level text) = refl

pub rank_of_rest : (n : ℕ) (member : Sent) → rank_of (rest_of n member) ≡ rank_of member
rank_of_rest n member = ap rank (place_of_rest n member)

-- other bytes for a place are of the same rank
pub rank_of_bytes : (line : ℕ) (side : Side) (bytes more : List ℕ) (member : Sent) → member ≡ Bytes line side bytes → rank_of (Bytes line side more) ≡ rank_of member
rank_of_bytes line side bytes more member is = ap rank_of (sym is)

-- and is joined to what the member is
pub are_one_rest : (n m : ℕ) (first next : Sent) → are_one (rest_of n first) (rest_of m next) ≡ are_one first next
are_one_rest n m (Connect line) next = refl
are_one_rest n m (Bytes line side bytes) (Connect l) = refl
are_one_rest n m (Bytes line side bytes) (Bytes l s more) = refl
are_one_rest n m (Bytes line side bytes) (Close l s) = refl
are_one_rest n m (Bytes line side bytes) (Log level text) = refl
are_one_rest n m (Close line side) next = refl
are_one_rest n m (Log level text) next = refl

-- bytes are put after what is left
pub as_one_rest : (n line : ℕ) (side : Side) (bytes more : List ℕ) (next : Sent) → n ≤ length bytes → more ≡ bytes_in next → rest_of n (Bytes line side (bytes ++ more)) ≡ as_one (rest_of n (Bytes line side bytes)) next
as_one_rest n line side bytes more next within is =
    ap (Bytes line side) (drop-append-le n bytes more within ∙ ap (λ (b : List ℕ). drop n bytes ++ b) is) ∙ go next
  where
    go : (next : Sent) → Bytes line side (drop n bytes ++ bytes_in next) ≡ as_one (Bytes line side (drop n bytes)) next
    go (Connect l) = ap (Bytes line side) (append-nil (drop n bytes))
    go (Bytes l s b) = refl
    go (Close l s) = ap (Bytes line side) (append-nil (drop n bytes))
    go (Log level text) = ap (Bytes line side) (append-nil (drop n bytes))

-- nothing is put after another member
pub as_one_other : (n : ℕ) (member next : Sent) → ((line : ℕ) (side : Side) (bytes : List ℕ) → member ≡ Bytes line side bytes → ⊥) → rest_of n member ≡ as_one (rest_of n member) next
as_one_other n (Connect line) next other = refl
as_one_other n (Bytes line side bytes) next other = absurd (other line side bytes refl)
as_one_other n (Close line side) next other = refl
as_one_other n (Log level text) next other = refl

-- what is left of what is left
pub rest_of_twice : (n m : ℕ) (member : Sent) → rest_of m (rest_of n member) ≡ rest_of (n + m) member
rest_of_twice n m (Connect line) = refl
rest_of_twice n m (Bytes line side bytes) = ap (Bytes line side) (drop-drop m n bytes)
rest_of_twice n m (Close line side) = refl
rest_of_twice n m (Log level text) = refl

-- a rest that is no empty piece
pub filled_within : (n m line : ℕ) (side : Side) (bytes : List ℕ) → IsFilled (rest_of m (rest_of n (Bytes line side bytes))) → n + m < length bytes
filled_within n m line side bytes filled = go (drop m (drop n bytes)) refl filled
  where
    go : (left : List ℕ) → drop m (drop n bytes) ≡ left → IsFilled (Bytes line side left) → n + m < length bytes
    go [] is none = absurd none
    go (b ∷ left) is some =
        let all : length (drop (n + m) bytes) ≡ suc (length left) = ap length (sym (drop-drop m n bytes) ∙ is) in
        let size = length-drop (n + m) bytes in
        omega (arith, all, size)

-- the bytes at a place are those of the piece
pub octets_in_map : (bytes : List ℕ) → octets_in (map octet bytes) ≡ length bytes
octets_in_map [] = refl
octets_in_map (b ∷ bytes) = let more = octets_in_map bytes in omega (arith, more)

pub octets_in_marks : (member : Sent) → octets_in (marks_in member) ≡ length (bytes_in member)
octets_in_marks (Connect line) = refl
octets_in_marks (Bytes line side bytes) = octets_in_map bytes
octets_in_marks (Close line side) = refl
octets_in_marks (Log level text) = refl

pub octets_here : (place : Destination) (member : Sent) → is_same_place (place_of member) place ≡ true → octets_in (marks_of place member) ≡ length (bytes_in member)
octets_here place member here = ap octets_in (cond-true (is_same_place (place_of member) place) (marks_in member) [] here) ∙ octets_in_marks member

pub octets_elsewhere : (place : Destination) (member : Sent) → is_same_place (place_of member) place ≡ false → octets_in (marks_of place member) ≡ 0
octets_elsewhere place member other = ap octets_in (cond-false (is_same_place (place_of member) place) (marks_in member) [] other)

-- another member in place of one is that one removed, and the other put in
pub insert_removed : (items : List Sent) (at : ℕ) (item : Sent) → at < length items → insert (remove items at) at item ≡ set items at item
insert_removed [] at item below = absurd (omega (arith, below))
insert_removed (x ∷ items) zero item below = refl
insert_removed (x ∷ items) (suc at) item below = ap (λ (l : List Sent). x ∷ l) (insert_removed items at item (omega (arith, below)))
