-- BYTES PASS A CHAIN: what has left it, and what is in it from its exit to its entry, is what came, where no callback changes
-- a buffer.
use Rattle.std.specs.Prelude.{◌≡◌, ℕ, zero, suc, ◌+◌, Bool, List, [], ◌∷◌, ◌++◌, Option, None, Some, slice_get}
use Rattle.contexts.specs.declared.parts.Contexts.{Contexts}
use Rattle.contexts.specs.Holding.{IsThere, IsOther}
use Rattle.filter_chain.specs.declared.stage.Stage.{Stage}
use Rattle.filter_chain.specs.declared.item.ChainItem.{ChainItem}
use Rattle.filter_chain.specs.declared.item.PassOutcome.{PassOutcome}
use Rattle.filter_chain.specs.declared.item.PassOutcome.TheVariants as passed
use Rattle.filter_chain.specs.Items.{item_bytes}
use Rattle.filter_chain.specs.Chains.{target, with_more, bytes_at, continued_at, ask_stage, paused_at}

-- what a stage has: the bytes that it holds, and those that wait
abbrev pub stage_bytes : Contexts → Stage → List ℕ
stage_bytes h s = bytes_at h s ++ item_bytes s.waiting

-- what is in a chain, from its exit to its entry
abbrev pub flow : Contexts → List Stage → List ℕ
flow h [] = []
flow h (s ∷ ss) = flow h ss ++ stage_bytes h s

abbrev pub left_in : PassOutcome → List ChainItem
left_in passed.Over = []
left_in (passed.Left items) = items

-- ---- each stage has a buffer of its own

abbrev pub IsOtherThan : Stage → Stage → Type 0
IsOtherThan s t = IsOther s.vm s.context s.response t.vm t.context t.response

abbrev pub NoneIs : Stage → List Stage → Type 0
NoneIs s [] = Unit {0}
NoneIs s (t ∷ ss) = IsOtherThan s t × NoneIs s ss

-- no stage but that at the place is the same as this
abbrev pub IsAlone : Stage → ℕ → List Stage → Type 0
IsAlone s k [] = Unit {0}
IsAlone s zero (t ∷ ss) = NoneIs s ss
IsAlone s (suc k) (t ∷ ss) = IsOtherThan s t × IsAlone s k ss

-- a stage stands at a place, its context is there, and no other stage has its buffer
pub record Stands (h : Contexts) (stages : List Stage) (k : ℕ) (s : Stage) : Type 0 where
  pub at : slice_get stages k ≡ Some s
  pub alone : IsAlone s k stages
  pub there : IsThere h s.vm s.context

-- ---- acts

-- an item comes; the stage at a place is asked; its callback pauses; what it holds goes on
pub data Act : Type 0 where
  puts : ChainItem → Act
  asks : ℕ → Act
  pauses : ℕ → Act
  continues : ℕ → Act

-- one act: what left, and what the contexts and the stages are then. No stage after one that continues passes everything.
abbrev pub Does : Contexts → List Stage → Act → List ChainItem → Contexts → List Stage → Type 0
Does h stages (puts item) out k after = (s : Stage) × (ss : List Stage) × (stages ≡ s ∷ ss) × (k ≡ h) × (after ≡ with_more (item ∷ []) s ∷ ss) × (out ≡ [])
Does h stages (asks n) out k after =
    (s : Stage) × Stands h stages n s × (k ≡ (ask_stage h n stages (Some s)).2) × (after ≡ (ask_stage h n stages (Some s)).1) × (out ≡ [])
Does h stages (pauses n) out k after = (s : Stage) × Stands h stages n s × (k ≡ paused_at h (Some s)) × (after ≡ stages) × (out ≡ [])
Does h stages (continues n) out k after =
    (s : Stage) × Stands h stages n s × (target (n + 1) stages ≡ suc n)
    × (k ≡ (continued_at h n stages (Some s)).2) × (after ≡ (continued_at h n stages (Some s)).1) × (out ≡ left_in (continued_at h n stages (Some s)).0)

abbrev pub DoesAll : Contexts → List Stage → List Act → List ChainItem → Contexts → List Stage → Type 0
DoesAll h stages [] out k after = (out ≡ []) × (k ≡ h) × (after ≡ stages)
DoesAll h stages (act ∷ acts) out k after =
    (now later : List ChainItem) × (d : Contexts) × (mid : List Stage) × Does h stages act now d mid × DoesAll d mid acts later k after × (out ≡ now ++ later)

-- what came
abbrev pub items_put : List Act → List ChainItem
items_put [] = []
items_put (puts item ∷ acts) = item ∷ items_put acts
items_put (asks n ∷ acts) = items_put acts
items_put (pauses n ∷ acts) = items_put acts
items_put (continues n ∷ acts) = items_put acts

-- WHAT LEFT, AND WHAT IS IN THE CHAIN, IS WHAT WAS IN IT AND WHAT CAME
abbrev pub WhatPassesIsWhatCame : Type 0
WhatPassesIsWhatCame = (h : Contexts) (stages : List Stage) (acts : List Act) (out : List ChainItem) (k : Contexts) (after : List Stage) → DoesAll h stages acts out k after →
    item_bytes out ++ flow k after ≡ flow h stages ++ item_bytes (items_put acts)
