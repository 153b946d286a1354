-- Nothing follows the end of an exchange, whatever filters it has.
use Rattle.std.specs.Prelude.{◌≡◌, ℕ, true}
use Rattle.exchange.specs.declared.types.Exchange.{Exchange}
use Rattle.exchange.specs.declared.types.Hub.{Hub}
use Rattle.law_exchange.specs.Lives.{Deed, comes, responds, acts, resumes, closes, answers, dies, refuses, expires, turns, done_by}

-- what the functions of exchanges do
abbrev pub IsOwn : Deed → Type 0
IsOwn (comes items) = Unit {0}
IsOwn (responds items) = Unit {0}
IsOwn (acts response k value) = Unit {0}
IsOwn (resumes vm context response) = Unit {0}
IsOwn closes = Unit {0}
IsOwn (answers shuts status fields body) = Unit {0}
IsOwn (dies vm) = Unit {0}
IsOwn (refuses status) = Unit {0}
IsOwn expires = Unit {0}
IsOwn (turns y hub) = ⊥

-- NOTHING FOLLOWS THE END: once an exchange has ended, it stays as it is, and nothing is sent. What is held for its stages among the contexts may
-- still change.
pub record StaysEnded (x : Exchange) (hub : Hub) (y : Exchange) (after : Hub) : Type 0 where
  pub same : y ≡ x
  pub sends : after.sent ≡ hub.sent

abbrev pub NothingFollowsTheEnd : Type 0
NothingFollowsTheEnd =
    (n : ℕ) (deed : Deed) (x : Exchange) (hub : Hub) → IsOwn deed → x.has_ended ≡ true → StaysEnded x hub (done_by n deed x hub).0 (done_by n deed x hub).1
