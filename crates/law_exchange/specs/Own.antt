-- Where an exchange sends, whatever filters it has.
use Rattle.std.specs.Prelude.{◌≡◌, ℕ, List, [], ◌∷◌, ◌++◌}
use Rattle.exchange.specs.declared.types.Exchange.{Exchange}
use Rattle.exchange.specs.declared.types.Hub.{Hub}
use Rattle.gate_io.specs.declared.event.Sent.{Sent}
use Rattle.gate_io.specs.declared.event.Sent.TheVariants as to
use Rattle.law_exchange.specs.Ends.{IsOwn}
use Rattle.law_exchange.specs.Lives.{Deed, done_by}

-- a connection of this line is opened, or bytes are sent over one
abbrev pub IsOn : ℕ → Sent → Type 0
IsOn n (to.Connect m) = m ≡ n
IsOn n (to.Bytes m side bytes) = m ≡ n
IsOn n (to.Close m side) = ⊥
IsOn n (to.Log level text) = ⊥

abbrev pub AreOn : ℕ → List Sent → Type 0
AreOn n [] = Unit {0}
AreOn n (s ∷ sent) = IsOn n s × AreOn n sent

-- after what was sent comes what is of this line alone
pub record SendsOn (n : ℕ) (hub after : Hub) : Type 0 where
  pub more : List Sent
  pub adds : after.sent ≡ hub.sent ++ more
  pub own : AreOn n more

-- AN EXCHANGE SENDS ON ITS OWN LINE ALONE, closes no connection itself, and takes nothing back of what was sent
abbrev pub ExchangesSendOnTheirLine : Type 0
ExchangesSendOnTheirLine = (n : ℕ) (deed : Deed) (x : Exchange) (hub : Hub) → IsOwn deed → SendsOn n hub (done_by n deed x hub).1
