-- Where a worker's lines come from.
use Rattle.std.specs.Prelude.{◌≡◌, ◌⊎◌, ℕ, ◌+◌, ◌<◌, ◌≤◌, Bool, false, ◌||◌, ◌∷◌, [], ◌++◌, true, nat_le, IsTrue, Option, IfSome, IfNone, IsSomeAnd, vec_len}
use Rattle.live_sockets.specs.Calls.{first_call}
use Rattle.live_sockets.specs.Homes.{AreHome, offers}
use Rattle.live_sockets.specs.Numbers.{home_of}
use Rattle.live_sockets.specs.Places.{HasWaited, most_places}
use Rattle.live_sockets.specs.declared.origin.Acceptor.{Acceptor}
use Rattle.live_sockets.specs.declared.origin.AcceptedLine.{AcceptedLine}
use Rattle.live_sockets.specs.declared.origin.Mailbox as boxes
use Rattle.live_sockets.specs.declared.origin.Origin.{Origin}
use Rattle.live_sockets.specs.declared.origin.Origin.TheVariants.{Listener, Mailbox}

-- no line comes any more: all were accepted that may be, or the last number of a client's line was given, or all were taken that are ever handed over
abbrev pub is_done : Origin → Bool
is_done (Listener acceptor) = nat_le acceptor.most acceptor.accepted || nat_le 2147483647 acceptor.number
is_done (Mailbox mailbox) = mailbox.empty

-- lines are accepted, so many at most, of which none was so far, and no other worker was offered one
abbrev pub Accepts : ℕ → Origin → Type 0
Accepts most (Listener acceptor) = (acceptor.most ≡ most) × ((acceptor.accepted ≡ 0) × ((acceptor.number ≡ 0) × AreHome 0 acceptor.others.items))
Accepts most (Mailbox mailbox) = ⊥

-- a worker that accepts accepts none any more
abbrev pub HasEnded : Origin → Type 0
HasEnded (Listener acceptor) = IsTrue (is_done (Listener acceptor))
HasEnded (Mailbox mailbox) = Unit {0}

-- Lines were accepted, while the worker that accepts keeps so many, at a moment: each of which the number is of this worker's place is what comes, so that there is one at most, and no number of
-- this place was passed over while it had a place for a line. None comes to this worker where it has none, but for one that waited for a second. The others were of other workers, of whom each was
-- offered lines of its place alone: so many lines were offered as were accepted and do not come.
pub record Accepted (kept now : ℕ) (old : Acceptor) (guest : Option AcceptedLine) (new : Acceptor) : Type 0 where
  pub most : new.most ≡ old.most
  pub within : old.accepted ≤ old.most → new.accepted ≤ new.most
  pub few : new.accepted + new.left ≤ old.accepted + old.left
  pub number : IfSome guest (λ guest. (old.number < guest.number) × (guest.number ≡ new.number))
  pub client : IfSome guest (λ guest. guest.number < first_call)
  pub home : IfSome guest (λ guest. home_of guest.number (vec_len new.others) ≡ 0)
  pub all : (k : ℕ) → old.number < k → k ≤ new.number → home_of k (vec_len new.others) ≡ 0 → IsSomeAnd guest (λ guest. guest.number ≡ k) ⊎ (most_places ≤ kept)
  pub place : IfSome guest (λ guest. (kept < most_places) ⊎ HasWaited new.waits now)
  pub offered : AreHome old.number old.others.items → AreHome new.number new.others.items
  pub given : IfNone guest (new.accepted + offers old.others.items ≡ old.accepted + offers new.others.items)
  pub own : IfSome guest (λ guest. new.accepted + offers old.others.items ≡ old.accepted + offers new.others.items + 1)

-- A line that was handed over comes, of which fewer may come then. None comes only where the queue gave none, or was not to be asked: nothing told of a line since it
-- last gave none, or as many came as may before an open line is heard. That lines may be there is forgotten only where the queue gave none.
pub record Handed (old : boxes.Mailbox) (guest : Option AcceptedLine) (new : boxes.Mailbox) : Type 0 where
  pub few : IfSome guest (λ guest. new.left < old.left)
  pub some : IfSome guest (λ guest. new.taker.lines ≡ old.taker.lines ++ guest.number ∷ [])
  pub none : IfNone guest (new.taker.lines ≡ old.taker.lines)
  pub asked : IfNone guest ((old.ready ≡ false) ⊎ ((old.left ≡ 0) ⊎ (new.taker.refusals ≡ old.taker.refusals + 1)))
  pub stays : (new.ready ≡ old.ready) ⊎ (new.taker.refusals ≡ old.taker.refusals + 1)

-- lines may be there
abbrev pub IsReady : Origin → Type 0
IsReady (Listener acceptor) = acceptor.ready ≡ true
IsReady (Mailbox mailbox) = mailbox.ready ≡ true

-- the next line of a worker: one that was accepted, or one that was handed over
abbrev pub GivesNext : ℕ → ℕ → Origin → Option AcceptedLine → Origin → Type 0
GivesNext kept now (Listener old) guest (Listener new) = Accepted kept now old guest new
GivesNext kept now (Listener old) guest (Mailbox new) = ⊥
GivesNext kept now (Mailbox old) guest (Listener new) = ⊥
GivesNext kept now (Mailbox old) guest (Mailbox new) = Handed old guest new
