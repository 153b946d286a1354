-- How much of a member a world takes.
use Rattle.std.specs.Prelude.{◌≡◌, ◌≤◌, ℕ, Bool, List, [], ◌∷◌, ◌++◌, length, drop, Option, None, Some, Result, Ok, Err}
use Rattle.gate_io.specs.declared.event.Sent.{Sent}
use Rattle.gate_io.specs.declared.event.Sent.TheVariants.{Connect, Bytes, Close, Log}
use Rattle.gate_io.specs.declared.passed.Passed.{Passed}
use Rattle.send_queue.specs.Delivery.{Offered}
use Rattle.send_queue.specs.Places.{place_of, marks_at}
use Rattle.send_queue.specs.Sorted.{IsBehind}

-- what is left of a member of which so many bytes were taken
abbrev pub rest_of : ℕ → Sent → Sent
rest_of n (Connect line) = Connect line
rest_of n (Bytes line side bytes) = Bytes line side (drop n bytes)
rest_of n (Close line side) = Close line side
rest_of n (Log level text) = Log level text

-- a piece has so many bytes
abbrev pub IsWithin : ℕ → Sent → Type 0
IsWithin n (Connect line) = Unit {0}
IsWithin n (Bytes line side bytes) = n ≤ length bytes
IsWithin n (Close line side) = Unit {0}
IsWithin n (Log level text) = Unit {0}

-- nothing is left of a member that was taken
abbrev pub none_left : {E : Type 0} → Result (Unit {0}) E → Result (Option ℕ) E
none_left (Ok done) = Ok None
none_left (Err e) = Err e

-- A member was offered to a world. Behind whatever waits, but not for its place, that is an offer of which nothing is left, or, where
-- the answer is how many of its bytes were taken, one of which the rest is left.
abbrev pub WasOffered : {E : Type 0} → Bool → Option (List Passed) → Sent → Result (Option ℕ) E → Option (List Passed) → Type 0
WasOffered {E} takes_whole old member (Ok None) new =
    (left : List Sent) → marks_at (place_of member) left ≡ [] → Offered {E = E} takes_whole old left (left ++ member ∷ []) (Ok tt) new left
WasOffered {E} takes_whole old member (Ok (Some n)) new =
    (left after : List Sent) → marks_at (place_of member) left ≡ [] → IsBehind left (rest_of n member) after → Offered {E = E} takes_whole old left (left ++ member ∷ []) (Ok tt) new after
WasOffered takes_whole old member (Err e) new = (left after : List Sent) → Offered takes_whole old left (left ++ member ∷ []) (Err e) new after
