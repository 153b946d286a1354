-- What a user of `serve` relies on.
use Rattle.std.specs.Prelude.{◌≡◌, ◌⊎◌, ℕ, ◌<◌, ◌^◌, ◌%◌, true, All, List, [], ◌∷◌, length, map, reverse, Option, Some}
use mathlib.Core.Option.{some}
use lib.ListN.{get_elem?}
use Rattle.filter_host.specs.Called.{Calling}
use Rattle.fleet.specs.Run.{Ended}
use Rattle.fleet.specs.declared.post.Post.{Post}
use Rattle.gate_config.specs.declared.config.Config.{Config as Configured}
use Rattle.gate_io.specs.Nature.{Nature}
use Rattle.gate_io.specs.Told.{Gains, GainsFront}
use Rattle.gate_io.specs.declared.passed.Passed.{Passed}
use Rattle.shared_seats.specs.Closed.{ClosedOf}
use Rattle.worker_model.specs.State.{Standing}
use Rattle.commands.specs.Doing.{LoadsFile, NotServed, Obeys}
use Rattle.config_files.specs.Loading.{Told}
use Rattle.fleet.specs.Moves.{world_in}
use Rattle.fleet.specs.Run.{is_clean}
use Rattle.command_serve.specs.Serving.{Eyes, Seen, settings_of}
use Rattle.command_serve.specs.Summary.{summary}
use Rattle.shared_store.specs.declared.closed.ClosedStore.{ClosedStore}
use Rattle.command_statuses.specs.declared.status.Status.{Status}
use Rattle.command_statuses.specs.declared.status.Status.TheVariants.{Done, SiteFault, OutFault}
use Rattle.store_model.specs.History.{store_after}
use Rattle.store_model.specs.Made.{Made}
use Rattle.vm_host.specs.Slots.{calling}
use Rattle.command_words.specs.Forms.{serve}
use Rattle.promises.specs.Headline.{HasHistory, Headline, Life, passed_in}
use Rattle.promises.specs.Replays.{first_of}

module _ {W : Type 0} (trace_of : W → Option (List Passed)) (nature_of : W → Nature) where
  -- THE WORLD OF A WORKER THAT SERVES: it was handed out to the post of the worker's number, and came back from it. The worker's seed is its. Where it tells what
  -- passed, that is what passed in the worker's lives.
  pub record AtPost (before after : List (Post W)) (who : ℕ) (seed : List ℕ) (lives : List Life) : Type 0 where
    pub place : ℕ
    pub old : Post W
    pub new : Post W
    pub old_is : get_elem? before place ≡ some old
    pub new_is : get_elem? after place ≡ some new
    pub number : old.who ≡ who
    pub seed_is : seed ≡ (nature_of old.watched).seed
    pub told : Gains (trace_of old.watched) (passed_in lives) (trace_of new.watched)

module _ {W H : Type 0} (trace_of : W → Option (List Passed)) (nature_of : W → Nature) where
  -- A FLEET HAS ITS HEADLINE, however it ended.
  abbrev pub FleetsHaveTheirHeadline : (faults_of : W → ℕ) (calling : Calling H) → Type 0
  FleetsHaveTheirHeadline faults_of calling =
      (first : ℕ → List ℕ → Standing H) (config : Configured) (old new : List W) (closed : ClosedOf)
      → (ended : Ended trace_of nature_of faults_of calling first config old new closed)
      → Headline calling first config (AtPost trace_of nature_of ended.worked.before ended.worked.after)

-- what a VM's store came to is what its one history leaves, and its count of calls is theirs
pub record Counts (closed : ClosedOf) (workers vm : ℕ) (calls : ℕ → List Made) (has : HasHistory workers calls vm) : Type 0 where
  pub store : ClosedStore
  pub there : get_elem? closed.stores vm ≡ some store
  pub calls_is : store.calls ≡ length has.history % 2 ^ 64
  pub store_is : store.store ≡ store_after vm has.history

-- THE WORKERS BEGAN: the site was started once, with the settings, and handed out as many worlds as there are workers; it was given back all of them, each in its
-- place; and the headline holds of the workers in them, however they ended.
pub record Began {W : Type 0} (eyes : Eyes W) (config : Configured) (stop_after : Option ℕ) (site after : Seen W) (closed : ClosedOf) : Type 0 where
  pub started : Gains site.started (settings_of config stop_after ∷ []) after.started
  pub worlds : List W
  pub count : length worlds ≡ config.workers
  pub seeds : Gains site.seeds (map (λ w. (eyes.nature w).seed) worlds) after.seeds
  pub before : List (Post W)
  pub behind : List (Post W)
  pub handed_out : reverse (map world_in before) ≡ worlds
  pub given_back : after.returned ≡ reverse (map world_in behind)
  pub headline : Headline calling (first_of config) config (AtPost eyes.trace eyes.nature before behind)
  pub counts : (vm : ℕ) → (low : vm < length config.vms) → Counts closed config.workers vm headline.calls (headline.histories vm low)

-- each worker had one life, which ended with Stop
abbrev pub AreClean : {W : Type 0} → List (Post W) → Type 0
AreClean posts = All (λ p. is_clean p ≡ true) posts

-- WHAT IS PROMISED of serving, by its status
abbrev pub PromisedOf : {W : Type 0} → Eyes W → Configured → Option ℕ → Status → (site after : Seen W) → (old new : Option (List ℕ)) → Type 0
PromisedOf eyes config stop_after Done site after old new = (closed : ClosedOf) × (b : Began eyes config stop_after site after closed) × AreClean b.behind × Gains old (summary config.vms closed) new
PromisedOf eyes config stop_after OutFault site after old new = (closed : ClosedOf) × (b : Began eyes config stop_after site after closed) × AreClean b.behind × GainsFront old (summary config.vms closed) new
PromisedOf eyes config stop_after SiteFault site after old new = ((after.returned ≡ site.returned) ⊎ ((closed : ClosedOf) × Began eyes config stop_after site after closed)) × Gains old [] new
PromisedOf eyes config stop_after other site after old new = Gains old [] new

-- SERVING HAS ITS HEADLINE, by the status and by what `run` says of it
abbrev pub ServeHasItsHeadline : {W : Type 0} → Eyes W → Type 0
ServeHasItsHeadline {W} eyes =
    (files : Told) (path : List ℕ) (stop_after : Option ℕ) (status : Status) (site after : Seen W) (old new : Option (List ℕ))
    → Obeys eyes files (Some (serve path stop_after)) status site after old new
    → NotServed eyes files path status site after old new ⊎ ((config : Configured) × LoadsFile files path config × PromisedOf eyes config stop_after status site after old new)
