-- WHAT EACH STAGE OF A CHAIN IS ASKED, and what it lets go on.
use Rattle.std.specs.Prelude.{◌≡◌, ℕ, zero, suc, ◌==◌, Bool, false, List, [], ◌∷◌, ◌++◌, slice_get, Option, None, Some, if◌then◌else◌}
use Rattle.contexts.specs.declared.parts.Contexts.{Contexts}
use Rattle.filter_chain.specs.declared.stage.Stage.{Stage}
use Rattle.filter_chain.specs.declared.item.Ask.{Ask}
use Rattle.filter_chain.specs.declared.item.AskKind.{AskKind}
use Rattle.filter_chain.specs.declared.item.AskKind.TheVariants as kinds
use Rattle.filter_chain.specs.declared.item.Asking.{Asking}
use Rattle.filter_chain.specs.declared.item.Asking.TheVariants.{Nothing, Over, Asks}
use Rattle.filter_chain.specs.declared.item.Held.TheVariants as held
use Rattle.filter_chain.specs.declared.item.ChainItem.{ChainItem}
use Rattle.filter_chain.specs.declared.item.ChainItem.TheVariants.{Head, Piece, Trailers}
use Rattle.filter_chain.specs.declared.item.PassOutcome.{PassOutcome}
use Rattle.filter_chain.specs.declared.item.PassOutcome.TheVariants as passed
use Rattle.filter_chain.specs.Chains.{asked, continued}
use Rattle.law_chain.specs.Acts.{Act, comes, calls, answers, resumes, lets, turns, Standing, done_by, after_return}
use Rattle.law_chain.specs.PassThrough.{bare_held}

-- what acts give one after the other
abbrev pub all_of : (Act → Standing → List ChainItem) → List Act → Standing → List ChainItem
all_of f [] w = []
all_of f (act ∷ acts) w = f act w ++ all_of f acts (done_by act w).1

-- these items, where the two places are one
abbrev pub where_same : ℕ → ℕ → List ChainItem → List ChainItem
where_same zero zero items = items
where_same zero (suc j) items = []
where_same (suc k) zero items = []
where_same (suc k) (suc j) items = where_same k j items

-- ---- WHAT THE STAGE AT A PLACE IS ASKED, each as an item without its bytes: the callback of its kind, with its end flag

abbrev pub told_of : AskKind → Bool → ChainItem
told_of kinds.Head end = Head end
told_of kinds.Piece end = Piece [] end
told_of kinds.Trailers end = Trailers

abbrev pub asked_in : ℕ → Asking × List Stage × Contexts → List ChainItem
asked_in k (Nothing, stages, h) = []
asked_in k (Over j, stages, h) = []
asked_in k (Asks ask, stages, h) = where_same k ask.stage (told_of ask.kind ask.end ∷ [])

abbrev pub asked_by : ℕ → Act → Standing → List ChainItem
asked_by k (comes item) w = []
asked_by k (calls after) w = asked_in k (asked w.contexts w.stages)
asked_by k (answers value) w = []
asked_by k (resumes j) w = []
asked_by k (lets j) w = []
asked_by k (turns after) w = []

abbrev pub asked_of : ℕ → List Act → Standing → List ChainItem
asked_of k acts w = all_of (asked_by k) acts w

-- ---- WHAT THE STAGE AT A PLACE LETS GO ON: what it holds when a callback of its own answers Continue, or when it is resumed

abbrev pub held_by : Option Stage → List ChainItem
held_by None = []
held_by (Some s) = bare_held s.held

-- nothing, where it is too much for the next one
abbrev pub unless_too_much : PassOutcome → List ChainItem → List ChainItem
unless_too_much passed.Over items = []
unless_too_much (passed.Left out) items = items

abbrev pub gone_at : ℕ → ℕ → PassOutcome → Option Stage → List ChainItem
gone_at k j p s = where_same k j (unless_too_much p (held_by s))

-- 0 is Continue
abbrev pub gone_behind : ℕ → ℕ → Standing → Option Ask → List ChainItem
gone_behind k value w None = []
gone_behind k value w (Some ask) = if value == 0 then gone_at k ask.stage (continued (after_return ask w) ask.stage w.stages).0 (slice_get w.stages ask.stage) else []

abbrev pub gone_by : ℕ → Act → Standing → List ChainItem
gone_by k (comes item) w = []
gone_by k (calls after) w = []
gone_by k (answers value) w = gone_behind k value w w.due
gone_by k (resumes j) w = gone_at k j (continued w.contexts j w.stages).0 (slice_get w.stages j)
gone_by k (lets j) w = []
gone_by k (turns after) w = []

abbrev pub gone_of : ℕ → List Act → Standing → List ChainItem
gone_of k acts w = all_of (gone_by k) acts w

-- ---- no act lets the stage at this place through

abbrev pub IsKept : ℕ → Act → Type 0
IsKept k (comes item) = Unit {0}
IsKept k (calls after) = Unit {0}
IsKept k (answers value) = Unit {0}
IsKept k (resumes j) = Unit {0}
IsKept k (lets j) = j ≡ k → ⊥
IsKept k (turns after) = Unit {0}

abbrev pub AreKept : ℕ → List Act → Type 0
AreKept k [] = Unit {0}
AreKept k (act ∷ acts) = IsKept k act × AreKept k acts

-- ---- what comes of items

-- The same items in order, but that pieces may be joined with the next, or dropped. No head, no trailers are lost, and nothing is new.
pub data Gathered : List ChainItem → List ChainItem → Type 0 where
  none : Gathered [] []
  keeps : {i : ChainItem} {ms ns : List ChainItem} → Gathered ms ns → Gathered (i ∷ ms) (i ∷ ns)
  joins : {a b : Bool} {ms ns : List ChainItem} → Gathered ms ns → Gathered (Piece [] a ∷ ms) (Piece [] b ∷ ns)
  drops : {a : Bool} {ms ns : List ChainItem} → Gathered ms ns → Gathered (Piece [] a ∷ ms) ns

-- THESE COME OF THOSE, the first of them
abbrev pub ComeOf : List ChainItem → List ChainItem → Type 0
ComeOf later earlier = (rest : List ChainItem) × Gathered earlier (later ++ rest)

-- ---- a chain through which nothing passed yet

pub record IsUnused (s : Stage) : Type 0 where
  pub waiting : s.waiting ≡ []
  pub holding : s.held ≡ held.Nothing
  pub asking : s.passes ≡ false

abbrev pub AreUnused : List Stage → Type 0
AreUnused [] = Unit {0}
AreUnused (s ∷ ss) = IsUnused s × AreUnused ss
