-- The life of an exchange, deed by deed, whatever its deeds bring.
use Rattle.std.specs.Prelude.{◌≡◌, ℕ, Bool, true, List, [], ◌∷◌}
use Rattle.std.specs.List.{flat_map}
use Rattle.exchange.specs.declared.types.Exchange.{Exchange}
use Rattle.exchange.specs.declared.types.Hub.{Hub}
use Rattle.law_exchange.specs.Lives.{Deed, comes, responds, acts, resumes, closes, answers, dies, refuses, expires, turns, done_by, IsFair}
use Rattle.law_exchange.specs.Responses.{IsFairDown}
use Rattle.filter_chain.specs.declared.item.ChainItem.{ChainItem}

-- what is read of the request, in that
abbrev pub request_in : Deed → List ChainItem
request_in (comes items) = items
request_in (responds items) = []
request_in (acts response k value) = []
request_in (resumes vm context response) = []
request_in closes = []
request_in (answers shuts status fields body) = []
request_in (dies vm) = []
request_in (refuses status) = []
request_in expires = []
request_in (turns y hub) = []

abbrev pub requests_in : List Deed → List ChainItem
requests_in deeds = flat_map request_in deeds

-- fair upwards, and downwards too where that is asked for
abbrev pub IsFairly : (downwards : Bool) → ℕ → Deed → Exchange → Hub → Type 0
IsFairly downwards n deed x hub = IsFair n deed x hub × (downwards ≡ true → IsFairDown n deed x hub)

-- THE EXCHANGE BECAME THE OTHER by these deeds, one after the other, each of them fair
abbrev pub LivesBy : (downwards : Bool) → ℕ → Exchange → Hub → List Deed → Exchange → Hub → Type 0
LivesBy downwards n x hub [] y after = (y ≡ x) × (after ≡ hub)
LivesBy downwards n x hub (deed ∷ deeds) y after =
    IsFairly downwards n deed x hub × LivesBy downwards n (done_by n deed x hub).0 (done_by n deed x hub).1 deeds y after
