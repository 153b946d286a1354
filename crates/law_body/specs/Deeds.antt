-- WHAT HAPPENS TO AN EXCHANGE, as one direction of it sees that.
use Rattle.std.specs.Prelude.{◌≡◌, ℕ, Bool, true, false, List, [], ◌∷◌, ◌++◌, Option, None, Some}
use Rattle.contexts.specs.declared.parts.Contexts.{Contexts}
use Rattle.exchange.specs.declared.types.Exchange.{Exchange}
use Rattle.exchange.specs.declared.types.Hub.{Hub}
use Rattle.exchange.specs.Answering.{with_held}
use Rattle.exchange.specs.Leaving.{send_request_item, send_response_item}
use Rattle.exchange.specs.Passing.{chain_of, with_chain, put_to_chain, apply_action, bypass, stage_of}
use Rattle.exchange.specs.Passing as passing
use Rattle.filter_chain.specs.declared.stage.Stage.{Stage}
use Rattle.filter_chain.specs.declared.item.Ask.{Ask}
use Rattle.filter_chain.specs.declared.item.Asking.{Asking}
use Rattle.filter_chain.specs.declared.item.Asking.TheVariants.{Nothing, Over, Asks}
use Rattle.filter_chain.specs.declared.item.ChainItem.{ChainItem}
use Rattle.filter_chain.specs.Chains.{asked}
use Rattle.law_chain.specs.Acts.{Act, Standing, unless_at, AreActs}
use Rattle.law_chain.specs.Acts as at_chain

-- An item is read. A stage of the direction is asked, and its callback runs, which leaves what all lines have in common so. The action that it
-- returned is put in force. The stage of a context of a VM goes on, since another callback asked for that. The stage at a place is let through, since its VM
-- died. Something else becomes of the exchange, of what all lines have in common and of what is sent.
pub data Deed : Type 0 where
  comes : ChainItem → Deed
  calls : Hub → Deed
  answers : ℕ → Deed
  resumes : ℕ → ℕ → Deed
  lets : ℕ → Deed
  turns : Exchange → Hub → Deed

-- an exchange with what was asked in the direction and is not answered yet
pub record Running : Type 0 where
  pub due : Option Ask
  pub exchange : Exchange
  pub hub : Hub

-- how its direction stands
abbrev pub standing_of : Bool → Running → Standing
standing_of response w = record { due = w.due; contexts = w.hub.contexts; stages = chain_of response w.exchange }

-- ---- what a deed does, on the line of a number

abbrev pub running_after : Option Ask → Exchange × Hub → Running
running_after due (x, hub) = record { due = due; exchange = x; hub = hub }

abbrev pub called : Bool → Hub → Running → Asking × List Stage × Contexts → Running
called response after w (Nothing, stages, h) = w
called response after w (Over k, stages, h) = w
called response after w (Asks ask, stages, h) = record { due = Some ask; exchange = with_chain response stages w.exchange; hub = after }

abbrev pub answered : Bool → ℕ → ℕ → Running → Option Ask → Running
answered response n value w None = w
answered response n value w (Some ask) = running_after None (apply_action response ask.stage value n w.exchange w.hub)

abbrev pub done_by : Bool → ℕ → Deed → Running → Running
done_by response n (comes item) w = running_after w.due (put_to_chain response n item (w.exchange, w.hub))
done_by response n (calls after) w = called response after w (asked w.hub.contexts (chain_of response w.exchange))
done_by response n (answers value) w = answered response n value w w.due
done_by response n (resumes vm context) w = running_after w.due (passing.resume_context vm context response n w.exchange w.hub)
done_by response n (lets k) w = running_after (unless_at k w.due) (bypass response n k w.exchange w.hub)
done_by response n (turns y after) w = record w { exchange = y; hub = after }

abbrev pub done_all : Bool → ℕ → List Deed → Running → Running
done_all response n [] w = w
done_all response n (deed ∷ deeds) w = done_all response n deeds (done_by response n deed w)

-- ---- the acts that a deed is at the chain of the direction

abbrev pub resumed : Option ℕ → List Act
resumed None = []
resumed (Some k) = at_chain.resumes k ∷ []

abbrev pub acts_of : Bool → Deed → Running → List Act
acts_of response (comes item) w = at_chain.comes item ∷ []
acts_of response (calls after) w = at_chain.calls after.contexts ∷ []
acts_of response (answers value) w = at_chain.answers value ∷ []
acts_of response (resumes vm context) w = resumed (stage_of vm context (chain_of response w.exchange))
acts_of response (lets k) w = at_chain.lets k ∷ []
acts_of response (turns y after) w = at_chain.turns after.contexts ∷ []

-- what left the chain, what came to it, and what the body callbacks of the stage at a place left
abbrev pub left_by : Bool → ℕ → List Deed → Running → List ChainItem
left_by response n [] w = []
left_by response n (deed ∷ deeds) w = at_chain.left_by (acts_of response deed w) (standing_of response w) ++ left_by response n deeds (done_by response n deed w)

abbrev pub items_put : List Deed → List ChainItem
items_put [] = []
items_put (comes item ∷ deeds) = item ∷ items_put deeds
items_put (calls after ∷ deeds) = items_put deeds
items_put (answers value ∷ deeds) = items_put deeds
items_put (resumes vm context ∷ deeds) = items_put deeds
items_put (lets k ∷ deeds) = items_put deeds
items_put (turns y after ∷ deeds) = items_put deeds

abbrev pub buffers_by : Bool → ℕ → ℕ → List Deed → Running → List ℕ
buffers_by response n k [] w = []
buffers_by response n k (deed ∷ deeds) w =
    at_chain.buffers_by k (acts_of response deed w) (standing_of response w) ++ buffers_by response n k deeds (done_by response n deed w)

-- ---- which deeds there are

-- what else becomes of the exchange leaves the chain of the direction as it was
abbrev pub LeavesChain : Bool → Deed → Running → Type 0
LeavesChain response (comes item) w = Unit {0}
LeavesChain response (calls after) w = Unit {0}
LeavesChain response (answers value) w = Unit {0}
LeavesChain response (resumes vm context) w = Unit {0}
LeavesChain response (lets k) w = Unit {0}
LeavesChain response (turns y after) w = chain_of response y ≡ chain_of response w.exchange

-- what an exchange does that runs and was not answered
abbrev pub Runs : Deed → Exchange → Type 0
Runs (comes item) x = (x.has_ended ≡ false) × (x.is_answered ≡ false)
Runs (calls after) x = (x.has_ended ≡ false) × (x.is_answered ≡ false)
Runs (answers value) x = (x.has_ended ≡ false) × (x.is_answered ≡ false)
Runs (resumes vm context) x = (x.has_ended ≡ false) × (x.is_answered ≡ false)
Runs (lets k) x = (x.has_ended ≡ false) × (x.is_answered ≡ false)
Runs (turns y after) x = Unit {0}

-- A DEED OF THE LAW: the exchange runs and was not answered, and the acts at the chain are those of the law.
pub record IsDeed (response : Bool) (count : ℕ) (deed : Deed) (w : Running) : Type 0 where
  pub runs : Runs deed w.exchange
  pub acts : AreActs count (acts_of response deed w) (standing_of response w)
  pub chain : LeavesChain response deed w

abbrev pub AreDeeds : Bool → ℕ → ℕ → List Deed → Running → Type 0
AreDeeds response n count [] w = Unit {0}
AreDeeds response n count (deed ∷ deeds) w = IsDeed response count deed w × AreDeeds response n count deeds (done_by response n deed w)

-- ---- what left the chain is what is written

-- each of these items goes up, or down, as the exchange is then
abbrev pub written : Bool → ℕ → List ChainItem → Exchange × Hub → Exchange × Hub
written response n [] xh = xh
written false n (item ∷ items) (x, hub) = written false n items (send_request_item n item x hub)
written true n (item ∷ items) (x, hub) = written true n items (send_response_item n item x hub)

-- The exchange, which had not ended, with these stages in the chain of the direction, wrote each of these items, one after the other, after what was
-- sent before. Nothing else became of it.
pub record Writes (response : Bool) (n : ℕ) (items : List ChainItem) (before after : Running) : Type 0 where
  pub runs : before.exchange.has_ended ≡ false
  pub stages : List Stage
  pub contexts : Contexts
  pub writes : (after.exchange, after.hub) ≡ written response n items (with_chain response stages before.exchange, with_held contexts before.hub)

abbrev pub IsWritten : Bool → ℕ → Deed → Running → Type 0
IsWritten response n (comes item) w = Writes response n (at_chain.left_by (acts_of response (comes item) w) (standing_of response w)) w (done_by response n (comes item) w)
IsWritten response n (calls after) w = at_chain.left_by (acts_of response (calls after) w) (standing_of response w) ≡ []
IsWritten response n (answers value) w = Writes response n (at_chain.left_by (acts_of response (answers value) w) (standing_of response w)) w (done_by response n (answers value) w)
IsWritten response n (resumes vm context) w =
    Writes response n (at_chain.left_by (acts_of response (resumes vm context) w) (standing_of response w)) w (done_by response n (resumes vm context) w)
IsWritten response n (lets k) w = Writes response n (at_chain.left_by (acts_of response (lets k) w) (standing_of response w)) w (done_by response n (lets k) w)
IsWritten response n (turns y after) w = at_chain.left_by (acts_of response (turns y after) w) (standing_of response w) ≡ []

abbrev pub AreWritten : Bool → ℕ → List Deed → Running → Type 0
AreWritten response n [] w = Unit {0}
AreWritten response n (deed ∷ deeds) w = IsWritten response n deed w × AreWritten response n deeds (done_by response n deed w)
