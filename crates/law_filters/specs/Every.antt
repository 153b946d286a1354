-- EVERY FILTER OF A ROUTE IS ASKED, and what fails closed lets nothing pass: over the life of a worker whose lines are HTTP, from the head of a request on.
use Rattle.std.specs.Prelude.{◌≡◌, ◌⊎◌, ℕ, true, false, Contains, List, [], ◌∷◌, ◌++◌, slice_get, Some}
use Rattle.contexts.specs.Creating.{next_id, plugin_in}
use Rattle.exchange.specs.Heads.{path_of, route_in}
use Rattle.exchange.specs.declared.types.Exchange.{Exchange}
use Rattle.filter_host.specs.Course.{heard}
use Rattle.filter_host.specs.Heard.{hands}
use Rattle.gate_config.specs.declared.config.Config.{Config}
use Rattle.gate_config.specs.declared.entries.PluginEntry.{PluginEntry}
use Rattle.gate_io.specs.declared.event.Sent.{Sent}
use Rattle.gate_io.specs.declared.event.Sent.TheVariants.{Connect}
use Rattle.h1_model.specs.Head.{Head}
use Rattle.h1_model.specs.Unread.{Reading, head_part}
use Rattle.law_meaning.specs.Walks.{Sends, Step, Walk}
use Rattle.vm_host.specs.Slots.{calling}
use Rattle.vm_host.specs.declared.slots.Vms.{Vms}
use Rattle.worker_model.specs.Rooms.{next_of}
use Rattle.worker_model.specs.Steps.{Both, create_context, exchange_on, new_one, plugins_at}
use Rattle.worker_model.specs.declared.types.Job.{Job}
use Rattle.worker_model.specs.declared.types.Job.TheVariants as jobs
use Rattle.worker_model.specs.declared.types.Next.TheVariants as next
use Rattle.worker_model.specs.declared.types.ReadBatch.{ReadBatch}
use Rattle.law_filters.specs.Heads.{IsSilenced}
use Rattle.law_filters.specs.Onward.{HasDied, StaysOn, WasAsked}
use Rattle.law_filters.specs.Roots.{WalksTo, rules_for}

-- The plug-ins of the route that takes the path of a request, by their places in the configuration
abbrev pub plugins_for : Config → Head → List ℕ
plugins_for config head = plugins_at config.routes (route_in config.routes (path_of head.fields))

-- AN EXCHANGE BEGINS on a line by this step: the reader of the line's client hands on the head of a request.
pub record Begins (n : ℕ) (head : Head) (s : Step Vms) : Type 0 where
  pub batch : ReadBatch
  pub reads : s.before.room.reading ≡ Some batch
  pub on_line : batch.line ≡ n
  pub from_client : batch.up ≡ false
  pub left : Reading
  pub hears : s.met ≡ heard (hands (head_part head) left) ∷ []

-- A CONTEXT IS MADE by this step, for the exchange on a line and a plug-in: its number is the next one of its VM, it is a stream of the plug-in's root, and the VM
-- is called with both.
pub record Makes (n p vm context : ℕ) (s : Step Vms) : Type 0 where
  pub works : next_of s.before.room ≡ next.Work
  pub place : ℕ
  pub later : List Job
  pub in_hand : s.before.room.jobs ≡ jobs.Create n place ∷ later
  pub fresh : context ≡ next_id s.before.room.hub.contexts vm
  pub root : ℕ
  pub of_root : (plugin_in s.before.room.hub.contexts p).root ≡ Some root
  pub made : (create_context n place (record s.before.room { jobs = later })).0 ≡ Some (new_one vm context root)

-- THE FILTER WAS ASKED, with a context of its own: one of these steps made the context, and one asked the context's stage the head of the line's request.
pub record WasAskedItself (n p vm : ℕ) (steps : List (Step Vms)) : Type 0 where
  pub context : ℕ
  pub maker : Step Vms
  pub among : Contains steps maker
  pub makes : Makes n p vm context maker
  pub asked : WasAsked n vm context steps

-- THE FILTER WAS PASSED OVER: its VM died, and its plug-in fails open.
pub record WasPassedOver (entry : PluginEntry) (from : Both Vms) (steps : List (Step Vms)) : Type 0 where
  pub fails_open : entry.fail_open ≡ true
  pub died : HasDied entry.vm from steps

-- EVERY FILTER IS ASKED. From any state of a worker's life, by steps of which the first reads the head of a request on a line and the last opens the connection to its
-- server, while its exchange is on the line: each plug-in of the route that takes the request's path was asked the head with a context of its own in one of these
-- steps, or was passed over. Whatever callbacks return and ask for, on this line and on all others, and whatever comes on them.
abbrev pub EveryFilterIsAsked : Type 0
EveryFilterIsAsked =
    (config : Config) (who : ℕ) (seed : List ℕ) (earlier between : List (Step Vms)) (begins opens : Step Vms) (mid to : Both Vms) (n place p : ℕ) (head : Head) (entry : PluginEntry) (front back : List Sent)
    → WalksTo config who seed earlier mid → Walk calling (rules_for config who seed) mid (begins ∷ between ++ opens ∷ []) to
    → Begins n head begins → StaysOn n (begins ∷ between ++ opens ∷ []) → Sends opens (front ++ Connect n ∷ back)
    → slice_get (plugins_for config head) place ≡ Some p → slice_get config.plugins p ≡ Some entry
    → WasPassedOver entry mid (begins ∷ between ++ opens ∷ []) ⊎ WasAskedItself n p entry.vm (begins ∷ between ++ opens ∷ [])

-- It is refused with 503 before any filter sees it.
pub record IsRefused (x : Exchange) : Type 0 where
  pub status : x.refusal ≡ Some 503
  pub unentered : x.is_entered ≡ false
  pub nothing : x.request ≡ []

-- Nothing of the request of an exchange goes up any more: it has ended, or was answered, or is refused.
abbrev pub IsBarred : Exchange → Type 0
IsBarred x = IsSilenced x ⊎ IsRefused x

-- WHAT FAILS CLOSED LETS NOTHING PASS. From the step that reads the head of a request on, where the VM of a plug-in of its route is dead (it died before, or in one of the
-- steps since) and the plug-in fails closed: each later step opens no connection to the server, and the exchange is barred after it, while it is on the line.
abbrev pub ClosedLetsNothingPass : Type 0
ClosedLetsNothingPass =
    (config : Config) (who : ℕ) (seed : List ℕ) (earlier between : List (Step Vms)) (begins last : Step Vms) (mid to : Both Vms) (n place p : ℕ) (head : Head) (entry : PluginEntry)
    → WalksTo config who seed earlier mid → Walk calling (rules_for config who seed) mid (begins ∷ between ++ last ∷ []) to
    → Begins n head begins → StaysOn n (begins ∷ between ++ last ∷ [])
    → slice_get (plugins_for config head) place ≡ Some p → slice_get config.plugins p ≡ Some entry → entry.fail_open ≡ false → HasDied entry.vm mid (begins ∷ between)
    → ((front back : List Sent) → Sends last (front ++ Connect n ∷ back) → ⊥) × ((x : Exchange) × (exchange_on n last.after.room ≡ Some x) × IsBarred x)
