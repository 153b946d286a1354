-- OVER THE LIFE OF A WORKER whose lines are HTTP the head of a request waits for each stage of its exchange.
use Rattle.std.specs.Prelude.{◌≡◌, ◌⊎◌, ℕ, true, Contains, List, [], ◌∷◌, ◌++◌, Some}
use Rattle.exchange.specs.declared.types.Exchange.{Exchange}
use Rattle.gate_config.specs.declared.config.Config.{Config}
use Rattle.gate_io.specs.declared.event.Sent.{Sent}
use Rattle.gate_io.specs.declared.event.Sent.TheVariants.{Connect}
use Rattle.law_meaning.specs.Walks.{Sends, Step, Walk, asked_in}
use Rattle.vm_host.specs.Slots.{calling}
use Rattle.vm_host.specs.declared.slots.Vms.{Vms}
use Rattle.worker_model.specs.Rooms.{is_dead}
use Rattle.worker_model.specs.Steps.{Both, exchange_on}
use Rattle.law_filters.specs.Heads.{IsAskedOn, Waits}
use Rattle.law_filters.specs.Roots.{WalksTo, rules_for}

-- An exchange is on the line behind each of these steps: it is the same one, since none begins where one is.
abbrev pub StaysOn : ℕ → List (Step Vms) → Type 0
StaysOn n [] = Unit {0}
StaysOn n (s ∷ steps) = ((x : Exchange) × (exchange_on n s.after.room ≡ Some x)) × StaysOn n steps

-- A step among these asked the stage of the context the head of the request of the exchange on the line.
pub record WasAsked (n vm context : ℕ) (steps : List (Step Vms)) : Type 0 where
  pub ask : Step Vms
  pub among : Contains steps ask
  pub asks : IsAskedOn n vm context (asked_in ask)

-- A VM is dead in a state, or behind one of the steps from there.
abbrev pub HasDied : (vm : ℕ) → Both Vms → List (Step Vms) → Type 0
HasDied vm from steps = (is_dead vm from.room ≡ true) ⊎ ((s : Step Vms) × Contains steps s × (is_dead vm s.after.room ≡ true))

-- THE STAGE WAS ASKED BEFORE ANYTHING WENT UP. From any state of a worker's life, where the head of the request of the exchange on a line waits for the stage of a
-- context, by any steps of any turns up to one that opens a connection for the line: one of these steps asked the stage the head, or the stage's VM died. Whatever callbacks return and ask for, on this line and on all others, and whatever comes on them.
abbrev pub StagesAreAskedFirst : Type 0
StagesAreAskedFirst =
    (config : Config) (who : ℕ) (seed : List ℕ) (earlier between : List (Step Vms)) (opens : Step Vms) (mid to : Both Vms) (n vm context : ℕ) (x : Exchange) (front back : List Sent)
    → WalksTo config who seed earlier mid → exchange_on n mid.room ≡ Some x → x.is_entered ≡ true → Waits vm context x
    → Walk calling (rules_for config who seed) mid (between ++ opens ∷ []) to → StaysOn n (between ++ opens ∷ []) → Sends opens (front ++ Connect n ∷ back)
    → HasDied vm mid (between ++ opens ∷ []) ⊎ WasAsked n vm context (between ++ opens ∷ [])
