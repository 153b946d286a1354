-- What members and lists put at places.
use Rattle.std.proofs.Common.{◌≡◌, ◌≢◌, ◌⊎◌, inl, inr, ℕ, ◌+◌, ◌<◌, Bool, true, false, List, [], ◌∷◌, ◌++◌, length, drop, map, refl, sym, ◌∙◌, ap, arith, append_assoc}
use Rattle.std.specs.Prelude.{if◌then◌else◌, not, slice_index_or}
use Rattle.std.proofs.lemmas.List.{append-nil, map-append, drop_more}
use Rattle.std.proofs.lemmas.Bool.{cases_eq, eq-eqb, ne_eqb, and_from, and_left, and_right, cond-true, cond-false}
use Rattle.gate_io.specs.declared.event.Sent.{Sent}
use Rattle.gate_io.specs.declared.event.Sent.TheVariants.{Bytes}
use Rattle.gate_io.specs.declared.event.Side.{Side}
use Rattle.gate_io.specs.declared.event.Side.TheVariants.{Down, Up}
use Rattle.send_queue.specs.Cleared.{without}
use Rattle.send_queue.specs.Places.{Mark, opening, octet, closing, logged, is_same_side, is_same_place, place_of, marks_in, marks_of, marks_at, octets_in}
use Rattle.send_queue.specs.declared.place.Destination.{Destination}
use Rattle.send_queue.specs.declared.place.Destination.TheVariants.{Peer, Journal}

pub same_side : (a b : Side) → ((a ≡ b) × (is_same_side a b ≡ true)) ⊎ ((a ≡ b → ⊥) × (is_same_side a b ≡ false))
same_side Down Down = inl (refl, refl)
same_side Down Up = inr (λ e. cc, refl)
same_side Up Down = inr (λ e. cc, refl)
same_side Up Up = inl (refl, refl)

pub same_place : (a b : Destination) → ((a ≡ b) × (is_same_place a b ≡ true)) ⊎ ((a ≡ b → ⊥) × (is_same_place a b ≡ false))
same_place (Peer line side) (Peer l s) = elim (cases_eq line l) [
  | inl same ↦ elim (same_side side s) [
    | inl equal ↦ inl ((λ i. Peer (same i) (equal.0 i)), and_from _ _ (eq-eqb line l same) equal.1)
    | inr unlike ↦ inr (λ e. unlike.0 (cc), and_right _ _ unlike.1)
  ]
  | inr other ↦ inr (λ e. other (cc), and_left _ _ (ne_eqb line l other))
]
same_place (Peer line side) Journal = inr (λ e. cc, refl)
same_place Journal (Peer l s) = inr (λ e. cc, refl)
same_place Journal Journal = inl (refl, refl)

pub cases_place : (a b : Destination) → (a ≡ b) ⊎ (a ≡ b → ⊥)
cases_place a b = elim (same_place a b) [ inl equal ↦ inl equal.0 | inr unlike ↦ inr unlike.0 ]

pub marks_here : (place : Destination) (member : Sent) → place_of member ≡ place → marks_of place member ≡ marks_in member
marks_here place member is = elim (same_place (place_of member) place) [
  | inl equal ↦ cond-true (is_same_place (place_of member) place) (marks_in member) [] equal.1
  | inr unlike ↦ absurd (unlike.0 is)
]

pub marks_elsewhere : (place : Destination) (member : Sent) → (place_of member ≡ place → ⊥) → marks_of place member ≡ []
marks_elsewhere place member other = elim (same_place (place_of member) place) [
  | inl equal ↦ absurd (other equal.0)
  | inr unlike ↦ cond-false (is_same_place (place_of member) place) (marks_in member) [] unlike.1
]

pub marks_at-append : (place : Destination) (a b : List Sent) → marks_at place (a ++ b) ≡ marks_at place a ++ marks_at place b
marks_at-append place [] b = refl
marks_at-append place (s ∷ a) b = ap (λ (m : List Mark). marks_of place s ++ m) (marks_at-append place a b) ∙ sym (append_assoc (marks_of place s) (marks_at place a) (marks_at place b))

pub marks_at-push : (place : Destination) (a : List Sent) (member : Sent) → marks_at place (a ++ member ∷ []) ≡ marks_at place a ++ marks_of place member
marks_at-push place a member = marks_at-append place a (member ∷ []) ∙ ap (λ (m : List Mark). marks_at place a ++ m) (append-nil (marks_of place member))

-- bytes in two parts
pub marks_of-two : (place : Destination) (line : ℕ) (side : Side) (a b : List ℕ) → marks_of place (Bytes line side a) ++ marks_of place (Bytes line side b) ≡ marks_of place (Bytes line side (a ++ b))
marks_of-two place line side a b = elim (same_place (Peer line side) place) [
  | inl equal ↦
      (λ i. marks_here place (Bytes line side a) equal.0 i ++ marks_here place (Bytes line side b) equal.0 i) ∙ sym (map-append octet a b) ∙ sym (marks_here place (Bytes line side (a ++ b)) equal.0)
  | inr unlike ↦ (λ i. marks_elsewhere place (Bytes line side a) unlike.0 i ++ marks_elsewhere place (Bytes line side b) unlike.0 i) ∙ sym (marks_elsewhere place (Bytes line side (a ++ b)) unlike.0)
]

pub marks_of-none : (place : Destination) (line : ℕ) (side : Side) → marks_of place (Bytes line side []) ≡ []
marks_of-none place line side = elim (same_place (Peer line side) place) [ inl equal ↦ marks_here place (Bytes line side []) equal.0 | inr unlike ↦ marks_elsewhere place (Bytes line side []) unlike.0 ]

pub append_not_empty : {A : Type 0} (xs ys : List A) → xs ≢ [] → xs ++ ys ≢ []
append_not_empty [] ys some = absurd (some refl)
append_not_empty (x ∷ xs) ys some = λ e. cc

pub append_empty : {A : Type 0} (xs ys : List A) → xs ++ ys ≡ [] → (xs ≡ []) × (ys ≡ [])
append_empty [] ys none = (refl, none)
append_empty (x ∷ xs) ys none = absurd (cc)

pub octets_in-append : (a b : List Mark) → octets_in (a ++ b) ≡ octets_in a + octets_in b
octets_in-append [] b = omega arith
octets_in-append (opening ∷ a) b = octets_in-append a b
octets_in-append (octet byte ∷ a) b = omega (arith, octets_in-append a b)
octets_in-append (closing ∷ a) b = octets_in-append a b
octets_in-append (logged level text ∷ a) b = octets_in-append a b

pub octets_in-map : (bytes : List ℕ) → octets_in (map octet bytes) ≡ length bytes
octets_in-map [] = refl
octets_in-map (b ∷ bytes) = omega (arith, octets_in-map bytes)

-- what is dropped for a place is all that waits there
pub marks_at-without_same : (place : Destination) (waiting : List Sent) → marks_at place (without place waiting) ≡ []
marks_at-without_same place [] = refl
marks_at-without_same place (s ∷ waiting) = elim (same_place (place_of s) place) [
  | inl equal ↦ ap (λ (b : Bool). marks_at place (if not b then s ∷ without place waiting else without place waiting)) equal.1 ∙ marks_at-without_same place waiting
  | inr unlike ↦
      ap (λ (b : Bool). marks_at place (if not b then s ∷ without place waiting else without place waiting)) unlike.1
      ∙ (λ i. marks_elsewhere place s unlike.0 i ++ marks_at-without_same place waiting i)
]

-- and nothing that waits at another
pub marks_at-without_other : (place gone : Destination) (waiting : List Sent) → (gone ≡ place → ⊥) → marks_at place (without gone waiting) ≡ marks_at place waiting
marks_at-without_other place gone [] differ = refl
marks_at-without_other place gone (s ∷ waiting) differ = elim (same_place (place_of s) gone) [
  | inl equal ↦
      ap (λ (b : Bool). marks_at place (if not b then s ∷ without gone waiting else without gone waiting)) equal.1
      ∙ marks_at-without_other place gone waiting differ
      ∙ ap (λ (m : List Mark). m ++ marks_at place waiting) (sym (marks_elsewhere place s (λ e. differ (sym equal.0 ∙ e))))
  | inr unlike ↦
      ap (λ (b : Bool). marks_at place (if not b then s ∷ without gone waiting else without gone waiting)) unlike.1
      ∙ ap (λ (m : List Mark). marks_of place s ++ m) (marks_at-without_other place gone waiting differ)
]

-- the bytes of a member that is for a place
pub octets_of-bytes : (place : Destination) (member : Sent) (line : ℕ) (side : Side) (bytes : List ℕ) → member ≡ Bytes line side bytes → is_same_place (place_of member) place ≡ true
    → octets_in (marks_of place member) ≡ length bytes
octets_of-bytes place member line side bytes is equal =
    ap octets_in (cond-true (is_same_place (place_of member) place) (marks_in member) [] equal ∙ ap marks_in is) ∙ octets_in-map bytes

-- the bytes at a place from a member on
pub octets_in-drop : (place : Destination) (items : List Sent) (i : ℕ) (member : Sent) → i < length items → member ≡ slice_index_or items i member
    → octets_in (marks_at place (drop i items)) ≡ octets_in (marks_of place member) + octets_in (marks_at place (drop (i + 1) items))
octets_in-drop place items i member below is =
    ap (λ (l : List Sent). octets_in (marks_at place l)) (drop_more items i member below ∙ ap (λ (s : Sent). s ∷ drop (i + 1) items) (sym is))
    ∙ octets_in-append (marks_of place member) (marks_at place (drop (i + 1) items))
