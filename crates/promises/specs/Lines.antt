-- What goes up, and what is sent on the lines of callouts, in the lives that the headline speaks of, where lines are HTTP.
use Rattle.std.specs.Prelude.{◌≡◌, ℕ, false, List, []}
use Rattle.callouts.specs.Callouts.{is_call_line}
use Rattle.law_exchange.specs.Traffic.{up_traffic}
use Rattle.gate_config.specs.declared.config.Config.{Config}
use Rattle.law_callouts.specs.GoingOut.{GoesOut}
use Rattle.law_lines.specs.Requests.{GoesUpBy}
use Rattle.send_queue.specs.Turns.{all_sent}
use Rattle.vm_host.specs.Slots.{calling}
use Rattle.worker_model.specs.State.{rules_of}
use Rattle.worker_model.specs.Steps.{exchange_on}
use Rattle.promises.specs.Headline.{IsWhole, Life}
use Rattle.promises.specs.Replays.{first_of}

-- REQUESTS GO UP ONE BY ONE in each whole life of each worker that the headline speaks of: so it is of all that its turns send up on a line of a client
-- (those from 2^31 on are of callouts). The configuration has no streams of bytes.
abbrev pub LivesGoUpOneByOne : Type 0
LivesGoUpOneByOne =
    (config : Config) (who : ℕ) (seed : List ℕ) (life : Life) (n : ℕ) → config.tcp ≡ [] → is_call_line n ≡ false → (w : IsWhole calling (first_of config who seed) life)
    → GoesUpBy (rules_of (first_of config who seed).setting) n w.turns.state.room (exchange_on n w.turns.state.room) (up_traffic n (all_sent w.turns.turns))

-- EACH CALLOUT GOES OUT ONCE in each whole life of each worker that the headline speaks of: so it is of all that its turns send on the line of an id.
-- The configuration has no streams of bytes.
abbrev pub LivesSendCalloutsOnce : Type 0
LivesSendCalloutsOnce =
    (config : Config) (who : ℕ) (seed : List ℕ) (life : Life) (id : ℕ) → config.tcp ≡ [] → (w : IsWhole calling (first_of config who seed) life) → GoesOut id w.turns.state.room (all_sent w.turns.turns)
