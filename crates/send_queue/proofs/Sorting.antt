-- What members in the order of their places put at a place, and what stays in that order.
use Rattle.std.proofs.Common.{◌≡◌, ◌≢◌, ◌⊎◌, inl, inr, ℕ, zero, suc, ◌+◌, ◌<◌, ◌≤◌, Bool, true, false, List, [], ◌∷◌, ◌++◌, length, take, drop, set, get_or, refl, sym, ◌∙◌, ap, subst, arith, append_assoc}
use Rattle.std.specs.List.{insert, remove, AllAdjacentBelow}
use Rattle.std.specs.List.Sorted.{IsNonDecreasingBy, IsPartitionPoint}
use Rattle.std.specs.Prelude.{if◌then◌else◌, not}
use lib.Dec.{leb}
use Rattle.std.proofs.lemmas.Bool.{leb-true, leb-false}
use Rattle.std.proofs.lemmas.List.{append-nil, take_all, drop_all, length-take-le}
use Rattle.std.proofs.lemmas.List.Sorted.{IsNonDecreasingBy-from_all_adjacent}
use Rattle.gate_io.specs.declared.event.Sent.{Sent}
use Rattle.gate_io.specs.declared.event.Sent.TheVariants.{Connect, Bytes, Close, Log}
use Rattle.gate_io.specs.declared.event.Side.{Side}
use Rattle.gate_io.specs.declared.event.Side.TheVariants.{Down, Up}
use Rattle.send_queue.specs.Cleared.{without}
use Rattle.send_queue.specs.Delivery.{IsFilled}
use Rattle.send_queue.specs.Joined.{are_one, as_one}
use Rattle.send_queue.specs.Places.{Mark, bytes_in, is_same_place, place_of, marks_in, marks_of, marks_at, octets_in}
use Rattle.send_queue.specs.Sorted.{rank, rank_of, IsSortedFrom, IsSorted, AreUpTo, IsEndOf}
use Rattle.send_queue.specs.Taking.{rest_of}
use Rattle.send_queue.specs.declared.place.Destination.{Destination}
use Rattle.send_queue.specs.declared.place.Destination.TheVariants.{Peer, Journal}
use Rattle.send_queue.proofs.Marks.{cases_place, marks_here, marks_elsewhere, octets_in-drop, append_not_empty, append_empty}
use Rattle.send_queue.proofs.Holding.{octets_in_marks}
use Rattle.send_queue.proofs.Joins.{marks_of-as_one, IsFilled-as_one}

-- no rank of a peer is the lowest
pub rank-peer : (line : ℕ) (side : Side) → 1 ≤ rank (Peer line side)
rank-peer line Down = omega arith
rank-peer line Up = omega arith

-- places of one rank are one
pub rank_apart : (a b : Destination) → rank a ≡ rank b → a ≡ b
rank_apart (Peer line Down) (Peer l Down) e = let same : line ≡ l = omega (arith, e) in λ i. Peer (same i) Down
rank_apart (Peer line Down) (Peer l Up) e = absurd (omega (arith, e))
rank_apart (Peer line Down) Journal e = absurd (omega (arith, e))
rank_apart (Peer line Up) (Peer l Down) e = absurd (omega (arith, e))
rank_apart (Peer line Up) (Peer l Up) e = let same : line ≡ l = omega (arith, e) in λ i. Peer (same i) Up
rank_apart (Peer line Up) Journal e = absurd (omega (arith, e))
rank_apart Journal (Peer l Down) e = absurd (omega (arith, e))
rank_apart Journal (Peer l Up) e = absurd (omega (arith, e))
rank_apart Journal Journal e = refl

pub sorted_from_lower : (low least : ℕ) (sent : List Sent) → low ≤ least → IsSortedFrom least sent → IsSortedFrom low sent
sorted_from_lower low least [] below sorted = tt
sorted_from_lower low least (s ∷ sent) below sorted = (omega (arith, below, sorted.0), sorted.1, sorted.2)

-- no member of a higher rank is for the place
pub nothing_above : (place : Destination) (least : ℕ) (sent : List Sent) → rank place < least → IsSortedFrom least sent → marks_at place sent ≡ []
nothing_above place least [] low sorted = refl
nothing_above place least (s ∷ sent) low sorted = λ i. marks_elsewhere place s (λ e. absurd (let same = ap rank e in omega (arith, low, sorted.0, same))) i ++ nothing_above place (rank_of s) sent (omega (arith, low, sorted.0)) sorted.2 i

-- a member in front of those of higher ranks could stand after them
in_front : (place : Destination) (sent : List Sent) (member : Sent) → IsSortedFrom (rank_of member + 1) sent → marks_of place member ++ marks_at place sent ≡ marks_at place sent ++ marks_of place member
in_front place sent member above = go (cases_place (place_of member) place)
  where
    go : (place_of member ≡ place) ⊎ (place_of member ≡ place → ⊥) → marks_of place member ++ marks_at place sent ≡ marks_at place sent ++ marks_of place member
    go (inl here) =
        let none : marks_at place sent ≡ [] = nothing_above place (rank_of member + 1) sent (let same = ap rank here in omega (arith, same)) above in
        ap (λ (m : List Mark). marks_of place member ++ m) none ∙ append-nil (marks_of place member) ∙ ap (λ (m : List Mark). m ++ marks_of place member) (sym none)
    go (inr other) =
        let none : marks_of place member ≡ [] = marks_elsewhere place member other in
        ap (λ (m : List Mark). m ++ marks_at place sent) none ∙ sym (append-nil (marks_at place sent)) ∙ ap (λ (m : List Mark). marks_at place sent ++ m) (sym none)

-- a member at the end of those up to its rank stands after those of its place
pub marks_at-insert : (place : Destination) (sent : List Sent) (at : ℕ) (member : Sent) → IsSortedFrom (rank_of member + 1) (drop at sent)
    → marks_at place (insert sent at member) ≡ marks_at place sent ++ marks_of place member
marks_at-insert place sent zero member above = in_front place sent member above
marks_at-insert place [] (suc at) member above = append-nil (marks_of place member)
marks_at-insert place (s ∷ sent) (suc at) member above =
    ap (λ (m : List Mark). marks_of place s ++ m) (marks_at-insert place sent at member above) ∙ sym (append_assoc (marks_of place s) (marks_at place sent) (marks_of place member))

-- and keeps the order
pub sorted-insert : (least : ℕ) (sent : List Sent) (at : ℕ) (member : Sent) → least ≤ rank_of member → IsFilled member → IsSortedFrom least sent → AreUpTo (rank_of member) (take at sent)
    → IsSortedFrom (rank_of member + 1) (drop at sent) → IsSortedFrom least (insert sent at member)
sorted-insert least sent zero member low filled sorted up_to above = (low, filled, sorted_from_lower (rank_of member) (rank_of member + 1) sent (omega arith) above)
sorted-insert least [] (suc at) member low filled sorted up_to above = (low, filled, tt)
sorted-insert least (s ∷ sent) (suc at) member low filled sorted up_to above = (sorted.0, sorted.1, sorted-insert (rank_of s) sent at member up_to.0 filled sorted.2 up_to.1 above)

rank_of-as_one : (first next : Sent) → rank_of (as_one first next) ≡ rank_of first
rank_of-as_one (Connect line) next = refl
rank_of-as_one (Bytes line side bytes) (Connect l) = refl
rank_of-as_one (Bytes line side bytes) (Bytes l s more) = refl
rank_of-as_one (Bytes line side bytes) (Close l s) = refl
rank_of-as_one (Bytes line side bytes) (Log level text) = refl
rank_of-as_one (Close line side) next = refl
rank_of-as_one (Log level text) next = refl

-- bytes joined with the last of their place stand after what waits there
pub marks_at-join : (place : Destination) (sent : List Sent) (at : ℕ) (last member : Sent) → at < length sent → last ≡ get_or sent at last → are_one last member ≡ true
    → IsSortedFrom (rank_of member + 1) (drop (suc at) sent) → marks_at place (insert (remove sent at) at (as_one last member)) ≡ marks_at place sent ++ marks_of place member
marks_at-join place [] at last member below is equal above = absurd (omega (arith, below))
marks_at-join place (s ∷ sent) zero last member below is equal above =
    ap (λ (m : List Mark). m ++ marks_at place sent) (marks_of-as_one place last member equal)
    ∙ append_assoc (marks_of place last) (marks_of place member) (marks_at place sent)
    ∙ ap (λ (m : List Mark). marks_of place last ++ m) (in_front place sent member above)
    ∙ sym (append_assoc (marks_of place last) (marks_at place sent) (marks_of place member))
    ∙ ap (λ (x : Sent). (marks_of place x ++ marks_at place sent) ++ marks_of place member) is
marks_at-join place (s ∷ sent) (suc at) last member below is equal above =
    ap (λ (m : List Mark). marks_of place s ++ m) (marks_at-join place sent at last member (omega (arith, below)) is equal above)
    ∙ sym (append_assoc (marks_of place s) (marks_at place sent) (marks_of place member))

-- and the order stays
pub sorted-join : (least : ℕ) (sent : List Sent) (at : ℕ) (last member : Sent) → at < length sent → last ≡ get_or sent at last → IsSortedFrom least sent
    → IsSortedFrom least (insert (remove sent at) at (as_one last member))
sorted-join least [] at last member below is sorted = absurd (omega (arith, below))
sorted-join least (s ∷ sent) zero last member below is sorted =
    let same : rank_of (as_one last member) ≡ rank_of s = rank_of-as_one last member ∙ ap rank_of is in
    (subst (λ (n : ℕ). least ≤ n) (sym same) sorted.0, IsFilled-as_one last member (subst IsFilled (sym is) sorted.1), subst (λ (n : ℕ). IsSortedFrom n sent) (sym same) sorted.2)
sorted-join least (s ∷ sent) (suc at) last member below is sorted = (sorted.0, sorted.1, sorted-join (rank_of s) sent at last member (omega (arith, below)) is sorted.2)

pub marks_in-filled : (member : Sent) → IsFilled member → marks_in member ≢ []
marks_in-filled (Connect line) filled = λ e. cc
marks_in-filled (Bytes line side []) filled = absurd filled
marks_in-filled (Bytes line side (b ∷ bytes)) filled = λ e. cc
marks_in-filled (Close line side) filled = λ e. cc
marks_in-filled (Log level text) filled = λ e. cc

-- something waits where a member is for the place
pub some_at : (place : Destination) (least : ℕ) (sent : List Sent) (at : ℕ) (member : Sent) → at < length sent → member ≡ get_or sent at member → IsSortedFrom least sent → place_of member ≡ place → marks_at place sent ≢ []
some_at place least [] at member below is sorted here = absurd (omega (arith, below))
some_at place least (s ∷ sent) zero member below is sorted here =
    append_not_empty (marks_of place s) (marks_at place sent) (λ none. marks_in-filled s sorted.1 (sym (marks_here place s (ap place_of (sym is) ∙ here)) ∙ none))
some_at place least (s ∷ sent) (suc at) member below is sorted here =
    λ none. some_at place (rank_of s) sent at member (omega (arith, below)) is sorted.2 here (append_empty (marks_of place s) (marks_at place sent) none).1

least_at : (least : ℕ) (sent : List Sent) (at : ℕ) (member : Sent) → at < length sent → member ≡ get_or sent at member → IsSortedFrom least sent → least ≤ rank_of member
least_at least [] at member below is sorted = absurd (omega (arith, below))
least_at least (s ∷ sent) zero member below is sorted = let same = ap rank_of is in omega (arith, same, sorted.0)
least_at least (s ∷ sent) (suc at) member below is sorted = let more = least_at (rank_of s) sent at member (omega (arith, below)) is sorted.2 in omega (arith, more, sorted.0)

-- where the last member is of a rank up to this one, all are
pub up_to_last : (most least : ℕ) (sent : List Sent) (at : ℕ) (member : Sent) → suc at ≡ length sent → member ≡ get_or sent at member → IsSortedFrom least sent → rank_of member ≤ most → AreUpTo most (take (length sent) sent)
up_to_last most least [] at member last is sorted low = tt
up_to_last most least (s ∷ sent) zero member last is sorted low = (let same = ap rank_of is in omega (arith, same, low), up_to_none sent (omega (arith, last)))
  where
    up_to_none : (sent : List Sent) → length sent ≡ 0 → AreUpTo most (take (length sent) sent)
    up_to_none [] none = tt
    up_to_none (s ∷ sent) none = absurd (omega (arith, none))
up_to_last most least (s ∷ sent) (suc at) member last is sorted low =
    let next : suc at ≡ length sent = omega (arith, last) in
    (let more = least_at (rank_of s) sent at member (omega (arith, next)) is sorted.2 in omega (arith, more, low), up_to_last most (rank_of s) sent at member next is sorted.2 low)

none_behind : (least : ℕ) (sent : List Sent) → IsSortedFrom least (drop (length sent) sent)
none_behind least [] = tt
none_behind least (s ∷ sent) = none_behind least sent

-- so that they end with it
pub ends_last : (most : ℕ) (sent : List Sent) (at : ℕ) (member : Sent) → suc at ≡ length sent → member ≡ get_or sent at member → IsSorted sent → rank_of member ≤ most → IsEndOf most (length sent) sent
ends_last most sent at member last is sorted low =
    record { within = omega arith; up_to = up_to_last most 0 sent at member last is sorted low; above = none_behind (most + 1) sent }

-- where a member is of a rank up to this one, so are those before it
pub up_to_through : (most least : ℕ) (sent : List Sent) (at : ℕ) (member : Sent) → at < length sent → member ≡ get_or sent at member → IsSortedFrom least sent → rank_of member ≤ most → AreUpTo most (take (suc at) sent)
up_to_through most least [] at member below is sorted low = absurd (omega (arith, below))
up_to_through most least (s ∷ sent) zero member below is sorted low = (let same = ap rank_of is in omega (arith, same, low), tt)
up_to_through most least (s ∷ sent) (suc at) member below is sorted low =
    (let more = least_at (rank_of s) sent at member (omega (arith, below)) is sorted.2 in omega (arith, more, low), up_to_through most (rank_of s) sent at member (omega (arith, below)) is sorted.2 low)

-- where one is of a higher rank, so are those after it
above_at : (most least : ℕ) (sent : List Sent) (at : ℕ) (member : Sent) → at < length sent → member ≡ get_or sent at member → IsSortedFrom least sent → most < rank_of member → IsSortedFrom (most + 1) (drop at sent)
above_at most least [] at member below is sorted high = absurd (omega (arith, below))
above_at most least (s ∷ sent) zero member below is sorted high = (let same = ap rank_of is in omega (arith, same, high), sorted.1, sorted.2)
above_at most least (s ∷ sent) (suc at) member below is sorted high = above_at most (rank_of s) sent at member (omega (arith, below)) is sorted.2 high

-- so they end in front of it
pub ends_at : (most : ℕ) (sent : List Sent) (at : ℕ) (member : Sent) → at < length sent → member ≡ get_or sent at member → IsSorted sent → AreUpTo most (take at sent) → most < rank_of member → IsEndOf most at sent
ends_at most sent at member below is sorted up_to high = record { within = omega (arith, below); up_to = up_to; above = above_at most 0 sent at member below is sorted high }

-- nothing waits where the last member up to the rank of a place is of a lower one
pub none_at : (place : Destination) (least : ℕ) (sent : List Sent) (at : ℕ) (member : Sent) → at < length sent → member ≡ get_or sent at member → IsSortedFrom least sent → rank_of member < rank place
    → IsSortedFrom (rank place + 1) (drop (suc at) sent) → marks_at place sent ≡ []
none_at place least [] at member below is sorted lower above = refl
none_at place least (s ∷ sent) zero member below is sorted lower above =
    let same = ap rank_of is in
    λ i. marks_elsewhere place s (λ e. absurd (let here = ap rank e in omega (arith, here, same, lower))) i ++ nothing_above place (rank place + 1) sent (omega arith) above i
none_at place least (s ∷ sent) (suc at) member below is sorted lower above =
    let low = least_at (rank_of s) sent at member (omega (arith, below)) is sorted.2 in
    λ i. marks_elsewhere place s (λ e. absurd (let here = ap rank e in omega (arith, here, low, lower))) i
    ++ none_at place (rank_of s) sent at member (omega (arith, below)) is sorted.2 lower above i

-- what waits for another place keeps its order
pub sorted-without : (place : Destination) (least : ℕ) (sent : List Sent) → IsSortedFrom least sent → IsSortedFrom least (without place sent)
sorted-without place least [] sorted = tt
sorted-without place least (s ∷ sent) sorted = go (is_same_place (place_of s) place) (sorted-without place (rank_of s) sent sorted.2)
  where
    go : (same : Bool) → IsSortedFrom (rank_of s) (without place sent) → IsSortedFrom least (if not same then s ∷ without place sent else without place sent)
    go true rest = sorted_from_lower least (rank_of s) (without place sent) sorted.0 rest
    go false rest = (sorted.0, sorted.1, rest)

adjacent : (least : ℕ) (sent : List Sent) → IsSortedFrom least sent → AllAdjacentBelow (λ x y. rank_of x ≤ rank_of y) sent (length sent)
adjacent least [] sorted k d below = absurd (omega (arith, below))
adjacent least (x ∷ []) sorted k d below = absurd (omega (arith, below))
adjacent least (x ∷ y ∷ sent) sorted zero d below = sorted.2.0
adjacent least (x ∷ y ∷ sent) sorted (suc k) d below =
    let next : suc (k + 1) ≡ suc k + 1 = omega arith in
    subst (λ (n : ℕ). rank_of (get_or (y ∷ sent) k d) ≤ rank_of (get_or (x ∷ y ∷ sent) n d)) next (adjacent (rank_of x) (y ∷ sent) sorted.2 k d (omega (arith, below)))

-- so a search by ranks may halve it
pub rising : (sent : List Sent) → IsSorted sent → IsNonDecreasingBy rank_of sent
rising sent sorted = IsNonDecreasingBy-from_all_adjacent rank_of sent (adjacent 0 sent sorted)

abbrev Parts : ℕ → List Sent → ℕ → Type 0
Parts most sent end = IsPartitionPoint (λ (s : Sent). leb (rank_of s) most ≡ true) (λ (s : Sent). leb (rank_of s) most ≡ false) sent end

up_to-parted : (most : ℕ) (sent : List Sent) (end : ℕ) → end ≤ length sent → Parts most sent end → AreUpTo most (take end sent)
up_to-parted most sent zero within parts = tt
up_to-parted most [] (suc end) within parts = tt
up_to-parted most (s ∷ sent) (suc end) within parts = (
  leb-true (rank_of s) most (parts.0 0 s (omega arith) (omega arith)),
  up_to-parted most sent end (omega (arith, within)) (λ k d low high. parts.0 (suc k) d (omega arith) (omega (arith, high)), λ k d low high. parts.1 (suc k) d (omega (arith, low)) (omega (arith, high))),
)

above-parted : (most least : ℕ) (sent : List Sent) (end : ℕ) → IsSortedFrom least sent → Parts most sent end → IsSortedFrom (most + 1) (drop end sent)
above-parted most least [] zero sorted parts = tt
above-parted most least (s ∷ sent) zero sorted parts = (let over = leb-false (rank_of s) most (parts.1 0 s (omega arith) (omega arith)) in omega (arith, over), sorted.1, sorted.2)
above-parted most least [] (suc end) sorted parts = tt
above-parted most least (s ∷ sent) (suc end) sorted parts =
    above-parted most (rank_of s) sent end sorted.2 (λ k d low high. parts.0 (suc k) d (omega arith) (omega (arith, high)), λ k d low high. parts.1 (suc k) d (omega (arith, low)) (omega (arith, high)))

-- where it ends
pub parted_at : (most : ℕ) (sent : List Sent) (end : ℕ) → end ≤ length sent → IsSorted sent → Parts most sent end → IsEndOf most end sent
parted_at most sent end within sorted parts = record { within = within; up_to = up_to-parted most sent end within parts; above = above-parted most 0 sent end sorted parts }

-- a member that is not for the place, and of no lower rank, has none after it that is
pub nothing_more : (place : Destination) (sent : List Sent) (at : ℕ) (member : Sent) → at < length sent → member ≡ get_or sent at member → IsSortedFrom (rank place) sent → rank place < rank_of member → marks_at place (drop at sent) ≡ []
nothing_more place sent at member below is sorted over = go (rank place) sent at below is sorted
  where
    go : (least : ℕ) (sent : List Sent) (at : ℕ) → at < length sent → member ≡ get_or sent at member → IsSortedFrom least sent → marks_at place (drop at sent) ≡ []
    go least [] at below is sorted = absurd (omega (arith, below))
    go least (s ∷ sent) zero below is sorted = nothing_above place (rank_of s) (s ∷ sent) (let same = ap rank_of is in omega (arith, same, over)) (omega arith, sorted.1, sorted.2)
    go least (s ∷ sent) (suc at) below is sorted = go (rank_of s) sent at (omega (arith, below)) is sorted.2

-- one that is of no higher rank is for the place, and its bytes stand in front of the others
pub octets_next : (place : Destination) (sent : List Sent) (at : ℕ) (member : Sent) → at < length sent → member ≡ get_or sent at member → IsSortedFrom (rank place) sent → rank_of member ≤ rank place
    → octets_in (marks_at place (drop at sent)) ≡ length (bytes_in member) + octets_in (marks_at place (drop (at + 1) sent))
octets_next place sent at member below is sorted low =
    let high = least_at (rank place) sent at member below is sorted in
    let same : place_of member ≡ place = rank_apart (place_of member) place (omega (arith, high, low)) in
    let here : octets_in (marks_of place member) ≡ length (bytes_in member) = ap octets_in (marks_here place member same) ∙ octets_in_marks member in
    let more = octets_in-drop place sent at member below is in
    omega (arith, more, here)

-- what is below the rank of a place puts nothing there
pub marks_at-from : (place : Destination) (most : ℕ) (sent : List Sent) (end : ℕ) → most < rank place → AreUpTo most (take end sent) → marks_at place sent ≡ marks_at place (drop end sent)
marks_at-from place most sent zero lower up_to = refl
marks_at-from place most [] (suc end) lower up_to = refl
marks_at-from place most (s ∷ sent) (suc end) lower up_to =
    λ i. marks_elsewhere place s (λ e. absurd (let here = ap rank e in omega (arith, here, up_to.0, lower))) i ++ marks_at-from place most sent end lower up_to.1 i

-- a member among those up to a rank is of no higher one
pub up_to_at : (most : ℕ) (sent : List Sent) (end at : ℕ) (member : Sent) → at < end → at < length sent → member ≡ get_or sent at member → AreUpTo most (take end sent) → rank_of member ≤ most
up_to_at most [] end at member below within is up_to = absurd (omega (arith, within))
up_to_at most (s ∷ sent) zero at member below within is up_to = absurd (omega (arith, below))
up_to_at most (s ∷ sent) (suc end) zero member below within is up_to = let same = ap rank_of is in omega (arith, same, up_to.0)
up_to_at most (s ∷ sent) (suc end) (suc at) member below within is up_to = up_to_at most sent end at member (omega (arith, below)) (omega (arith, within)) is up_to.1

-- a member that puts something at its place is no empty piece
pub is_filled : (member : Sent) → marks_in member ≢ [] → IsFilled member
is_filled (Connect line) some = tt
is_filled (Bytes line side []) some = absurd (some refl)
is_filled (Bytes line side (b ∷ bytes)) some = tt
is_filled (Close line side) some = tt
is_filled (Log level text) some = tt

-- after what is sorted from a place's rank on, and begins with a member of another place, nothing is for the place
pub together : (place : Destination) (next : Sent) (rest : List Sent) → IsSortedFrom (rank place) (next ∷ rest) → (place_of next ≡ place → ⊥) → marks_at place (next ∷ rest) ≡ []
together place next rest sorted other =
    let over : rank place < rank_of next = omega (arith, sorted.0, λ (same : rank_of next ≡ rank place). other (rank_apart (place_of next) place same)) in
    nothing_above place (rank_of next) (next ∷ rest) over (omega arith, sorted.1, sorted.2)

-- a front of what is sorted is sorted
pub sorted-take : (n least : ℕ) (sent : List Sent) → IsSortedFrom least sent → IsSortedFrom least (take n sent)
sorted-take zero least sent sorted = tt
sorted-take (suc n) least [] sorted = tt
sorted-take (suc n) least (s ∷ sent) sorted = (sorted.0, sorted.1, sorted-take n (rank_of s) sent sorted.2)

up_to_before : (least : ℕ) (sent : List Sent) (at : ℕ) (member : Sent) → at < length sent → member ≡ get_or sent at member → IsSortedFrom least sent → AreUpTo (rank_of member) (take at sent)
up_to_before least sent zero member below is sorted = tt
up_to_before least [] (suc at) member below is sorted = absurd (omega (arith, below))
up_to_before least (s ∷ sent) (suc at) member below is sorted =
    (least_at (rank_of s) sent at member (omega (arith, below)) is sorted.2, up_to_before (rank_of s) sent at member (omega (arith, below)) is sorted.2)

-- those before a member are of its rank or a lower one
pub ends_before : (sent : List Sent) (at : ℕ) (member : Sent) → at < length sent → member ≡ get_or sent at member → IsSorted sent → IsEndOf (rank_of member) at (take at sent)
ends_before sent at member below is sorted =
    let count : length (take at sent) ≡ at = length-take-le at sent (omega (arith, below)) in
    record {
      within = omega (arith, count);
      up_to = subst (λ (l : List Sent). AreUpTo (rank_of member) l) (sym (take_all at (take at sent) (omega (arith, count)))) (up_to_before 0 sent at member below is sorted);
      above = subst (λ (l : List Sent). IsSortedFrom (rank_of member + 1) l) (sym (drop_all at (take at sent) (omega (arith, count)))) tt;
    }

-- the order stays where a member goes
pub sorted-remove : (least : ℕ) (sent : List Sent) (at : ℕ) → IsSortedFrom least sent → IsSortedFrom least (remove sent at)
sorted-remove least [] zero sorted = tt
sorted-remove least [] (suc at) sorted = tt
sorted-remove least (s ∷ sent) zero sorted = sorted_from_lower least (rank_of s) sent sorted.0 sorted.2
sorted-remove least (s ∷ sent) (suc at) sorted = (sorted.0, sorted.1, sorted-remove (rank_of s) sent at sorted.2)

-- or where another for its place stands there
pub sorted-set : (least : ℕ) (sent : List Sent) (at : ℕ) (member other : Sent) → at < length sent → member ≡ get_or sent at member → rank_of other ≡ rank_of member → IsFilled other → IsSortedFrom least sent
    → IsSortedFrom least (set sent at other)
sorted-set least [] at member other below is same filled sorted = absurd (omega (arith, below))
sorted-set least (s ∷ sent) zero member other below is same filled sorted =
    let equal : rank_of other ≡ rank_of s = same ∙ ap rank_of is in
    (subst (λ (n : ℕ). least ≤ n) (sym equal) sorted.0, filled, subst (λ (n : ℕ). IsSortedFrom n sent) (sym equal) sorted.2)
sorted-set least (s ∷ sent) (suc at) member other below is same filled sorted = (sorted.0, sorted.1, sorted-set (rank_of s) sent at member other (omega (arith, below)) is same filled sorted.2)

-- what stands before and after a member that goes
pub take-remove : (sent : List Sent) (at : ℕ) → take at (remove sent at) ≡ take at sent
take-remove sent zero = refl
take-remove [] (suc at) = refl
take-remove (s ∷ sent) (suc at) = ap (λ (l : List Sent). s ∷ l) (take-remove sent at)

drop-remove_next : (sent : List Sent) (at : ℕ) → drop at (remove sent at) ≡ drop (suc at) sent
drop-remove_next [] zero = refl
drop-remove_next [] (suc at) = refl
drop-remove_next (s ∷ sent) zero = refl
drop-remove_next (s ∷ sent) (suc at) = drop-remove_next sent at

pub drop-remove : (sent : List Sent) (at : ℕ) → drop at (remove sent at) ≡ drop (at + 1) sent
drop-remove sent at = let next : suc at ≡ at + 1 = omega arith in drop-remove_next sent at ∙ ap (λ (n : ℕ). drop n sent) next
