-- EACH ITEM THAT AN EXCHANGE SENDS ON WAS ASKED OF ITS STAGES: one direction of an exchange, and of the exchange on a line over the turns of a worker.
use Rattle.std.specs.Prelude.{◌≡◌, ◌<◌, ℕ, ◌==◌, Bool, true, false, List, [], ◌∷◌, ◌++◌, length, Option, None, Some}
use Rattle.filter_host.specs.Called.{Calling}
use Rattle.exchange.specs.declared.types.Exchange.{Exchange}
use Rattle.exchange.specs.Passing.{chain_of, stage_of}
use Rattle.filter_chain.specs.declared.item.Ask.{Ask}
use Rattle.filter_chain.specs.Chains.{put, continued, let_through}
use Rattle.filter_chain.specs.declared.item.ChainItem.{ChainItem}
use Rattle.worker_model.specs.Plan.{Plan}
use Rattle.worker_model.specs.Steps.{Both}
use Rattle.law_chain.specs.Acts.{Act, Standing, IsLeft, after_return}
use Rattle.law_chain.specs.Acts as at_chain
use Rattle.law_chain.specs.PassThrough.{bare_all}
use Rattle.law_body.specs.Deeds.{Deed, comes, calls, answers, resumes, lets, turns, Running, standing_of, done_by, acts_of, left_by, AreWritten}
use Rattle.law_flow.specs.Rooms.{running_of, run_deeds}
use Rattle.law_flow.specs.Turns.{Steps, HavePassed}
use Rattle.law_asked.specs.Asked.{asked_of, gone_of, AreUnused}
use Rattle.law_asked.specs.Laws.{IsAsked, has_head}

-- the acts at the chain of the direction that deeds are
abbrev pub all_acts : Bool → ℕ → List Deed → Running → List Act
all_acts response n [] w = []
all_acts response n (deed ∷ deeds) w = acts_of response deed w ++ all_acts response n deeds (done_by response n deed w)

-- no deed lets the stage at this place through
abbrev pub IsKeptBy : ℕ → Deed → Type 0
IsKeptBy k (comes item) = Unit {0}
IsKeptBy k (calls after) = Unit {0}
IsKeptBy k (answers value) = Unit {0}
IsKeptBy k (resumes vm context) = Unit {0}
IsKeptBy k (lets j) = j ≡ k → ⊥
IsKeptBy k (turns y after) = Unit {0}

abbrev pub AreKeptBy : ℕ → List Deed → Type 0
AreKeptBy k [] = Unit {0}
AreKeptBy k (deed ∷ deeds) = IsKeptBy k deed × AreKeptBy k deeds

-- ---- which deeds there are

abbrev pub IsRunning : Exchange → Type 0
IsRunning x = (x.has_ended ≡ false) × (x.is_answered ≡ false)

abbrev pub MayAnswer : ℕ → Standing → Option Ask → Type 0
MayAnswer value w None = Unit {0}
MayAnswer value w (Some ask) = (value == 0) ≡ true → IsLeft (continued (after_return ask w) ask.stage w.stages).0

abbrev pub MayResume : Standing → Option ℕ → Type 0
MayResume w None = Unit {0}
MayResume w (Some k) = IsLeft (continued w.contexts k w.stages).0

-- The exchange runs and was not answered, and what passes on is not too much. Callbacks leave the contexts as they please, and return any action; what else
-- becomes of the exchange leaves the chain of the direction as it was.
abbrev pub MayBe : Bool → Deed → Running → Type 0
MayBe response (comes item) w = IsRunning w.exchange × IsLeft (put w.hub.contexts item (chain_of response w.exchange)).0
MayBe response (calls after) w = Unit {0}
MayBe response (answers value) w = IsRunning w.exchange × MayAnswer value (standing_of response w) w.due
MayBe response (resumes vm context) w = IsRunning w.exchange × MayResume (standing_of response w) (stage_of vm context (chain_of response w.exchange))
MayBe response (lets k) w = IsRunning w.exchange × IsLeft (let_through w.hub.contexts k (chain_of response w.exchange)).0
MayBe response (turns y after) w = chain_of response y ≡ chain_of response w.exchange

abbrev pub AllMayBe : Bool → ℕ → List Deed → Running → Type 0
AllMayBe response n [] w = Unit {0}
AllMayBe response n (deed ∷ deeds) w = MayBe response deed w × AllMayBe response n deeds (done_by response n deed w)

-- ---- the laws

-- Of these deeds the stage at this place was asked, as the law on chains says. What left by the deeds is what left the chain; and where a head did, the stage
-- was asked it and let it go on.
pub record StageIsAsked (response : Bool) (n k : ℕ) (deeds : List Deed) (w : Running) : Type 0 where
  pub asked : IsAsked k (all_acts response n deeds w) (standing_of response w)
  pub left : at_chain.left_by (all_acts response n deeds w) (standing_of response w) ≡ left_by response n deeds w
  pub head : has_head (bare_all (left_by response n deeds w)) ≡ true
      → (has_head (asked_of k (all_acts response n deeds w) (standing_of response w)) ≡ true) × (has_head (gone_of k (all_acts response n deeds w) (standing_of response w)) ≡ true)

-- WHATEVER HAPPENS TO AN EXCHANGE that runs and is not answered, from where its stages were made
abbrev pub DirectionsAsk : Type 0
DirectionsAsk = (response : Bool) (n k : ℕ) (w : Running) (deeds : List Deed) → AreUnused (chain_of response w.exchange) → AllMayBe response n deeds w
    → k < length (chain_of response w.exchange) → AreKeptBy k deeds → StageIsAsked response n k deeds w

-- and of its request each item that leaves the chain by a deed goes up by it, and nothing else
abbrev pub RequestsGoUp : Type 0
RequestsGoUp = (n : ℕ) (w : Running) (deeds : List Deed) → AllMayBe false n deeds w → AreWritten false n deeds w

-- OVER THE TURNS OF A WORKER, by the deeds of its steps: each callback among them is one that a step called, of that stage's context in that stage's VM
abbrev pub TurnsAsk : Type 0 → Type 0
TurnsAsk H = (calling : Calling H) (plan : Plan) (response : Bool) (n count k : ℕ) (x : Exchange) (b e : Both H) (items : List ChainItem) (steps : Steps calling plan response n count x b items e)
    (passed : HavePassed steps) → AreUnused (chain_of response x) → k < length (chain_of response x) → StageIsAsked response n k (run_deeds passed.run) (running_of None x b.room)
