-- ONE DIRECTION: a list of stages, and what becomes of it.
use Rattle.std.specs.Prelude.{ℕ, zero, suc, ◌+◌, ◌-◌, Bool, true, false, not, ◌&&◌, List, [], ◌∷◌, ◌++◌, length, drop, slice_get, slice_set, Option, None, Some, nat_le, ◌==◌, ◌||◌, if◌then◌else◌}
use Rattle.std.specs.List.{position_or_len, suffix_len}
use Rattle.contexts.specs.declared.parts.Contexts.{Contexts}
use Rattle.contexts.specs.Stages.{held_at, with_buffered, without_buffer, with_callback_answered}
use Rattle.filter_chain.specs.Items.{size, held_items, holds_bytes, is_free}
use Rattle.filter_chain.specs.declared.stage.Stage.{Stage}
use Rattle.filter_chain.specs.declared.item.ChainItem.{ChainItem}
use Rattle.filter_chain.specs.declared.item.ChainItem.TheVariants.{Head, Piece, Trailers}
use Rattle.filter_chain.specs.declared.item.AskKind.{AskKind}
use Rattle.filter_chain.specs.declared.item.AskKind.TheVariants as kinds
use Rattle.filter_chain.specs.declared.item.Asking.{Asking}
use Rattle.filter_chain.specs.declared.item.Asking.TheVariants.{Nothing, Over, Asks}
use Rattle.filter_chain.specs.declared.item.Held.{Held}
use Rattle.filter_chain.specs.declared.item.Held.TheVariants as held
use Rattle.filter_chain.specs.declared.item.PassOutcome.{PassOutcome}
use Rattle.filter_chain.specs.declared.item.PassOutcome.TheVariants as passed

-- so many bytes a stage may hold, with those that wait
abbrev pub limit : ℕ
limit = 1048576

-- ---- passing items on

-- the first stage from a place on that does not pass everything
abbrev pub target : ℕ → List Stage → ℕ
target from stages = from + position_or_len (λ s. not s.passes) (drop from stages)

-- the bytes of the stage's buffer
abbrev pub bytes_at : Contexts → Stage → List ℕ
bytes_at h s = held_at h s.vm s.context s.response

-- so many bytes more are not too many for it; none are never too many
abbrev pub fits : Contexts → ℕ → Stage → Bool
fits h n s = (n == 0) || nat_le (length (bytes_at h s) + size s.waiting + n) limit

abbrev pub with_more : List ChainItem → Stage → Stage
with_more items s = record s { waiting = s.waiting ++ items }

-- items go to the stage at `to`, if there is one, or leave
abbrev pub append_to : ℕ → List ChainItem → List Stage → Option Stage → PassOutcome × List Stage
append_to to items stages None = (passed.Left items, stages)
append_to to items stages (Some s) = (passed.Left [], slice_set stages to (with_more items s))

-- so many bytes more are not too many where they go
abbrev pub accepts : Contexts → ℕ → Option Stage → Bool
accepts h n None = true
accepts h n (Some s) = fits h n s

-- Items of so many bytes go there. `changed` are the stages but for that; too many bytes change nothing.
abbrev pub hand_over_to : Contexts → ℕ → List ChainItem → ℕ → List Stage → List Stage → Option Stage → PassOutcome × List Stage
hand_over_to h n items to stages changed o = if accepts h n o then append_to to items changed o else (passed.Over, stages)

abbrev pub hand_over : Contexts → ℕ → List ChainItem → ℕ → List Stage → List Stage → PassOutcome × List Stage
hand_over h n items from stages changed = hand_over_to h n items (target from stages) stages changed (slice_get stages (target from stages))

-- PUT: an item comes to the chain
abbrev pub put : Contexts → ChainItem → List Stage → PassOutcome × List Stage
put h item stages = hand_over h (size (item ∷ [])) (item ∷ []) 0 stages stages

-- ---- what a stage holds goes on
abbrev pub without_hold : Stage → Stage
without_hold s = record s { held = held.Nothing }

abbrev pub bypassed_stage : Stage → Stage
bypassed_stage s = record s { held = held.Nothing; waiting = []; passes = true }

-- what waits at a stage, and the stages without that
abbrev pub waiting_of : Option Stage → List ChainItem
waiting_of None = []
waiting_of (Some s) = s.waiting

abbrev pub without_waiting : ℕ → List Stage → Option Stage → List Stage
without_waiting k stages None = stages
without_waiting k stages (Some s) = slice_set stages k (record s { waiting = [] })

-- the bytes that it holds
abbrev pub bytes_held : Contexts → Stage → List ℕ
bytes_held h s = if holds_bytes s.held then bytes_at h s else []

abbrev pub without_held : Contexts → Stage → Contexts
without_held h s = if holds_bytes s.held then without_buffer h s.vm s.context s.response else h

-- the contexts are as before where it was too much
abbrev pub unless_over : Contexts → Contexts → PassOutcome × List Stage → PassOutcome × List Stage × Contexts
unless_over before after (passed.Over, stages) = (passed.Over, stages, before)
unless_over before after (passed.Left items, stages) = (passed.Left items, stages, after)

abbrev pub continued_at : Contexts → ℕ → List Stage → Option Stage → PassOutcome × List Stage × Contexts
continued_at h k stages None = (passed.Left [], stages, h)
continued_at h k stages (Some s) =
    unless_over h (without_held h s)
    (hand_over h (length (bytes_held h s)) (held_items s.held (bytes_held h s)) (k + 1) stages (slice_set stages k (without_hold s)))

-- CONTINUE: what the stage holds goes on (an answer Continue, and `resume`)
abbrev pub continued : Contexts → ℕ → List Stage → PassOutcome × List Stage × Contexts
continued h k stages = continued_at h k stages (slice_get stages k)

abbrev pub let_through_at : Contexts → ℕ → List Stage → Option Stage → PassOutcome × List Stage × Contexts
let_through_at h k stages None = (passed.Left [], stages, h)
let_through_at h k stages (Some s) =
    unless_over h (without_held h s)
    (hand_over h (length (bytes_held h s) + size s.waiting) (held_items s.held (bytes_held h s) ++ s.waiting) (k + 1) stages (slice_set stages k (bypassed_stage s)))

-- PAUSE: the stage goes on holding; its body callback has returned
abbrev pub paused_at : Contexts → Option Stage → Contexts
paused_at h None = h
paused_at h (Some s) = with_callback_answered h s.vm s.context s.response

abbrev pub paused : Contexts → ℕ → List Stage → Contexts
paused h k stages = paused_at h (slice_get stages k)

-- LET THROUGH: the stage passes everything from here on, what it held first
abbrev pub let_through : Contexts → ℕ → List Stage → PassOutcome × List Stage × Contexts
let_through h k stages = let_through_at h k stages (slice_get stages k)

-- ---- asking

abbrev pub is_any : List ChainItem → Bool
is_any [] = false
is_any (i ∷ items) = true

abbrev pub may_be_picked : Stage → Bool
may_be_picked s = is_any s.waiting && is_free s.held

-- the stage nearest to the exit that may be picked, counted from 1; 0 where there is none
abbrev pub ready : List Stage → ℕ
ready stages = length stages - suffix_len (λ s. not (may_be_picked s)) stages

abbrev pub ask_of : ℕ → AskKind → ℕ → Bool → Asking
ask_of k kind count end = Asks (record { stage = k; kind = kind; count = count; end = end })

-- what a stage is asked that has these waiting, and what it is then
abbrev pub ask_item : Contexts → ℕ → Stage → List ChainItem → Asking × Stage × Contexts
ask_item h k s [] = (Nothing, s, h)
ask_item h k s (Head end ∷ items) = (ask_of k kinds.Head 0 end, record s { waiting = items; held = held.Head end }, h)
ask_item h k s (Piece bytes end ∷ items) =
    if nat_le (length (bytes_at h s) + length bytes) limit
    then (ask_of k kinds.Piece (length (bytes_at h s) + length bytes) end, record s { waiting = items; held = held.Body end }, with_buffered h s.vm s.context s.response bytes end)
    else (Over k, s, h)
ask_item h k s (Trailers ∷ items) = (ask_of k kinds.Trailers 0 false, record s { waiting = items; held = held.Trailers (holds_bytes s.held) }, h)

-- the contexts, when the first of these, where it is a piece, is held
abbrev pub with_first : Contexts → Stage → List ChainItem → Contexts
with_first h s [] = h
with_first h s (Head end ∷ items) = h
with_first h s (Piece bytes end ∷ items) = with_buffered h s.vm s.context s.response bytes end
with_first h s (Trailers ∷ items) = h

abbrev pub with_stage : ℕ → List Stage → Asking × Stage × Contexts → Asking × List Stage × Contexts
with_stage k stages (ask_of, s, h) = (ask_of, slice_set stages k s, h)

abbrev pub ask_stage : Contexts → ℕ → List Stage → Option Stage → Asking × List Stage × Contexts
ask_stage h k stages None = (Nothing, stages, h)
ask_stage h k stages (Some s) = with_stage k stages (ask_item h k s s.waiting)

-- ASK: of the stage at this count what it waits for
abbrev pub asked_at : Contexts → List Stage → ℕ → Asking × List Stage × Contexts
asked_at h stages zero = (Nothing, stages, h)
asked_at h stages (suc k) = ask_stage h k stages (slice_get stages k)

abbrev pub asked : Contexts → List Stage → Asking × List Stage × Contexts
asked h stages = asked_at h stages (ready stages)

-- ---- how far the head has come: so many stages were asked it, or passed it

abbrev pub has_head : List ChainItem → Bool
has_head [] = false
has_head (Head end ∷ items) = true
has_head (Piece bytes end ∷ items) = false
has_head (Trailers ∷ items) = false

abbrev pub is_head : Held → Bool
is_head held.Nothing = false
is_head (held.Head end) = true
is_head (held.Body end) = false
is_head (held.Trailers body) = false

abbrev pub reach_count : List Stage → ℕ
reach_count [] = 0
reach_count (s ∷ stages) = if has_head s.waiting then 0 else if is_head s.held then 1 else 1 + reach_count stages

-- ---- no stage is left: none of them holds anything
abbrev pub without_buffers : Contexts → List Stage → Contexts
without_buffers h [] = h
without_buffers h (s ∷ stages) = without_buffers (without_buffer h s.vm s.context s.response) stages

-- ---- where the stage of a context stands
abbrev pub is_of : (vm context : ℕ) → Stage → Bool
is_of vm context s = (s.vm == vm) && (s.context == context)
