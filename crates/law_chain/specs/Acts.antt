-- WHAT HAPPENS IN ONE DIRECTION of an exchange, at its chain.
use Rattle.std.specs.Prelude.{◌≡◌, ℕ, zero, suc, ◌==◌, Bool, true, false, List, [], ◌∷◌, ◌++◌, slice_get, drop, Option, None, Some, if◌then◌else◌}
use Rattle.contexts.specs.declared.parts.Contexts.{Contexts}
use Rattle.contexts.specs.Holding.{IsThere}
use Rattle.filter_chain.specs.declared.stage.Stage.{Stage}
use Rattle.filter_chain.specs.declared.item.Ask.{Ask}
use Rattle.filter_chain.specs.declared.item.AskKind.{AskKind}
use Rattle.filter_chain.specs.declared.item.AskKind.TheVariants as kinds
use Rattle.filter_chain.specs.declared.item.Asking.{Asking}
use Rattle.filter_chain.specs.declared.item.Asking.TheVariants.{Nothing, Over, Asks}
use Rattle.filter_chain.specs.declared.item.ChainItem.{ChainItem}
use Rattle.filter_chain.specs.declared.item.PassOutcome.{PassOutcome}
use Rattle.filter_chain.specs.declared.item.PassOutcome.TheVariants as passed
use Rattle.filter_chain.specs.Chains.{put, asked, continued, let_through, paused, bytes_at}
use Rattle.filter_chain.specs.Flow.{flow, left_in}

-- An item comes. A stage is asked, and its callback runs, which leaves the contexts so. The action that it returned is put in force; 0 is
-- Continue. What the stage at a place holds goes on, since another callback asked for that. The stage at a place is let through, since its VM died: it
-- passes everything from then on. Something else becomes of the contexts.
pub data Act : Type 0 where
  comes : ChainItem → Act
  calls : Contexts → Act
  answers : ℕ → Act
  resumes : ℕ → Act
  lets : ℕ → Act
  turns : Contexts → Act

-- how a direction stands: what was asked and is not answered yet, the contexts, and the stages
pub record Standing : Type 0 where
  pub due : Option Ask
  pub contexts : Contexts
  pub stages : List Stage

-- ---- what an act does: what leaves the chain, and how the direction stands then

abbrev pub put_in : Standing → PassOutcome × List Stage → List ChainItem × Standing
put_in w (p, stages) = (left_in p, record w { stages = stages })

abbrev pub gone_on : Option Ask → PassOutcome × List Stage × Contexts → List ChainItem × Standing
gone_on due (p, stages, h) = (left_in p, record { due = due; contexts = h; stages = stages })

abbrev pub called : Contexts → Standing → Asking × List Stage × Contexts → List ChainItem × Standing
called after w (Nothing, stages, h) = ([], w)
called after w (Over k, stages, h) = ([], w)
called after w (Asks ask, stages, h) = ([], record { due = Some ask; contexts = after; stages = stages })

-- its callback has returned
abbrev pub after_return : Ask → Standing → Contexts
after_return ask w = paused w.contexts ask.stage w.stages

abbrev pub answered : ℕ → Standing → Option Ask → List ChainItem × Standing
answered value w None = ([], w)
answered value w (Some ask) =
    if value == 0 then gone_on None (continued (after_return ask w) ask.stage w.stages)
    else ([], record { due = None; contexts = after_return ask w; stages = w.stages })

-- of a stage that is let through no callback is answered any more
abbrev pub unless_at : ℕ → Option Ask → Option Ask
unless_at k None = None
unless_at k (Some ask) = if ask.stage == k then None else Some ask

abbrev pub done_by : Act → Standing → List ChainItem × Standing
done_by (comes item) w = put_in w (put w.contexts item w.stages)
done_by (calls after) w = called after w (asked w.contexts w.stages)
done_by (answers value) w = answered value w w.due
done_by (resumes k) w = gone_on w.due (continued w.contexts k w.stages)
done_by (lets k) w = gone_on (unless_at k w.due) (let_through w.contexts k w.stages)
done_by (turns after) w = ([], record w { contexts = after })

-- ---- acts, one after the other

-- what left
abbrev pub left_by : List Act → Standing → List ChainItem
left_by [] w = []
left_by (act ∷ acts) w = (done_by act w).0 ++ left_by acts (done_by act w).1

-- what came
abbrev pub item_in : Act → List ChainItem
item_in (comes item) = item ∷ []
item_in (calls after) = []
item_in (answers value) = []
item_in (resumes k) = []
item_in (lets k) = []
item_in (turns after) = []

abbrev pub items_put : List Act → List ChainItem
items_put [] = []
items_put (act ∷ acts) = item_in act ++ items_put acts

-- ---- what the body callbacks of the stage at a place left

abbrev pub is_body : AskKind → Bool
is_body kinds.Head = false
is_body kinds.Piece = true
is_body kinds.Trailers = false

-- these bytes, where the two places are one
abbrev pub where_one : ℕ → ℕ → List ℕ → List ℕ
where_one zero zero bytes = bytes
where_one zero (suc j) bytes = []
where_one (suc k) zero bytes = []
where_one (suc k) (suc j) bytes = where_one k j bytes

-- the buffer of the stage at a place
abbrev pub buffer_in : Contexts → Option Stage → List ℕ
buffer_in h None = []
buffer_in h (Some s) = bytes_at h s

abbrev pub buffer_at : Contexts → List Stage → ℕ → List ℕ
buffer_at h stages k = buffer_in h (slice_get stages k)

-- the buffer of the stage at a place, where it was its body callback that was asked
abbrev pub buffer_due : ℕ → Contexts → List Stage → Ask → List ℕ
buffer_due k h stages ask = if is_body ask.kind then where_one k ask.stage (buffer_at h stages k) else []

abbrev pub buffer_called : ℕ → Contexts → Asking × List Stage × Contexts → List ℕ
buffer_called k after (Nothing, stages, h) = []
buffer_called k after (Over j, stages, h) = []
buffer_called k after (Asks ask, stages, h) = buffer_due k after stages ask

abbrev pub buffer_by : ℕ → Act → Standing → List ℕ
buffer_by k (comes item) w = []
buffer_by k (calls after) w = buffer_called k after (asked w.contexts w.stages)
buffer_by k (answers value) w = []
buffer_by k (resumes j) w = []
buffer_by k (lets j) w = []
buffer_by k (turns after) w = []

-- all of them, joined
abbrev pub buffers_by : ℕ → List Act → Standing → List ℕ
buffers_by k [] w = []
buffers_by k (act ∷ acts) w = buffer_by k act w ++ buffers_by k acts (done_by act w).1

-- ---- what has not left yet

-- how the direction stands after them
abbrev pub stands_after : List Act → Standing → Standing
stands_after [] w = w
stands_after (act ∷ acts) w = stands_after acts (done_by act w).1

-- the buffer that the body callback in front of the cut left, and that is to go on
abbrev pub pending_for : ℕ → Contexts → List Stage → Option Ask → List ℕ
pending_for k h stages None = []
pending_for k h stages (Some ask) = buffer_due k h stages ask

abbrev pub bytes_pending : ℕ → Standing → List ℕ
bytes_pending zero w = []
bytes_pending (suc k) w = pending_for k w.contexts w.stages w.due

-- BEHIND THE CUT in front of the stage at this count: what the stages from there on hold, and what waits at them, and what is to go on to them
abbrev pub behind : ℕ → Standing → List ℕ
behind n w = flow w.contexts (drop n w.stages) ++ bytes_pending n w

-- ---- which acts there are

-- these stages hold what they held
abbrev pub HoldSame : Contexts → Contexts → List Stage → Type 0
HoldSame h after [] = Unit {0}
HoldSame h after (s ∷ ss) = (bytes_at after s ≡ bytes_at h s) × HoldSame h after ss

-- none of the stages is of the context
abbrev pub NotOf : (vm context : ℕ) → List Stage → Type 0
NotOf vm context [] = Unit {0}
NotOf vm context (s ∷ ss) = (s.vm ≡ vm → s.context ≡ context → ⊥) × NotOf vm context ss

-- the contexts of these stages are there
abbrev pub AreThere : Contexts → List Stage → Type 0
AreThere h [] = Unit {0}
AreThere h (s ∷ ss) = IsThere h s.vm s.context × AreThere h ss

-- it was not too much
abbrev pub IsLeft : PassOutcome → Type 0
IsLeft passed.Over = ⊥
IsLeft (passed.Left items) = Unit {0}

-- callbacks for bodies and trailers answer Continue
abbrev pub IsContinue : AskKind → ℕ → Type 0
IsContinue kinds.Head value = Unit {0}
IsContinue kinds.Piece value = value ≡ 0
IsContinue kinds.Trailers value = value ≡ 0

-- A callback comes, and the piece is not too much. It leaves the buffers of the stages from this count on as they were; those in front of them it
-- may change.
abbrev pub IsCall : ℕ → Contexts → Asking × List Stage × Contexts → Type 0
IsCall n after (Nothing, stages, h) = ⊥
IsCall n after (Over k, stages, h) = ⊥
IsCall n after (Asks ask, stages, h) = HoldSame h after (drop n stages) × AreThere after stages

abbrev pub IsAnswer : ℕ → Standing → Option Ask → Type 0
IsAnswer value w None = ⊥
IsAnswer value w (Some ask) = IsContinue ask.kind value × ((value == 0) ≡ true → IsLeft (continued (after_return ask w) ask.stage w.stages).0)

-- of the stage whose callback was asked the returned action decides
abbrev pub IsOfAnother : ℕ → Option Ask → Type 0
IsOfAnother k None = Unit {0}
IsOfAnother k (Some ask) = k ≡ ask.stage → ⊥

-- AN ACT of a direction that is neither answered nor closed: what passes on is not too much; one callback is answered before the next is asked; no buffer of
-- its stages changes but by callbacks of it; and a stage that is let through is not the last that has a body callback.
abbrev pub IsAct : ℕ → Act → Standing → Type 0
IsAct n (comes item) w = IsLeft (put w.contexts item w.stages).0
IsAct n (calls after) w = (w.due ≡ None) × IsCall n after (asked w.contexts w.stages)
IsAct n (answers value) w = IsAnswer value w w.due
IsAct n (resumes k) w = IsOfAnother k w.due × IsLeft (continued w.contexts k w.stages).0
IsAct n (lets k) w = (suc k ≡ n → ⊥) × IsLeft (let_through w.contexts k w.stages).0
IsAct n (turns after) w = HoldSame w.contexts after w.stages × AreThere after w.stages

abbrev pub AreActs : ℕ → List Act → Standing → Type 0
AreActs n [] w = Unit {0}
AreActs n (act ∷ acts) w = IsAct n act w × AreActs n acts (done_by act w).1
