-- Worked: a chain of two stages, of contexts 6 and 7 of the VMs 0 and 1.
use Rattle.std.specs.Prelude.{ℕ, true, false, List, [], ◌∷◌}
use Rattle.filter_chain.specs.declared.item.ChainItem.{ChainItem}
use Rattle.filter_chain.specs.declared.item.ChainItem.TheVariants.{Head, Piece}
use Rattle.filter_chain.specs.declared.item.Held.{Held}
use Rattle.filter_chain.specs.declared.item.Held.TheVariants as held
use Rattle.filter_chain.specs.declared.stage.Stage.{Stage}
use Rattle.law_filters.specs.Heads.{Awaits, Comes}

-- a stage of the request at which these wait, and which holds that
abbrev pub stage : (vm context : ℕ) → List ChainItem → Held → Stage
stage vm context waiting holds = record { vm = vm; context = context; response = false; waiting = waiting; held = holds; passes = false }

-- where the head of a request is on its way, and where it is past a stage
pub record HeadExamples : Type 0 where
  -- nothing came to any stage
  pub awaits : Awaits 1 7 1 (stage 0 6 [] held.Nothing ∷ stage 1 7 [] held.Nothing ∷ [])
  -- the head waits at the first stage, with what came behind it; or the first stage holds it, and is asked
  pub waits : Comes 1 7 1 (stage 0 6 (Head false ∷ Piece [] true ∷ []) held.Nothing ∷ stage 1 7 [] held.Nothing ∷ [])
  pub holds : Comes 1 7 1 (stage 0 6 (Piece [] true ∷ []) (held.Head false) ∷ stage 1 7 [] held.Nothing ∷ [])
  -- it waits at the second stage, and the first one holds what came behind it
  pub arrives : Comes 1 7 1 (stage 0 6 [] (held.Body true) ∷ stage 1 7 (Head false ∷ []) held.Nothing ∷ [])
  -- where the second stage holds it, it is not said to wait for that
  pub asked : Comes 1 7 1 (stage 0 6 [] held.Nothing ∷ stage 1 7 [] (held.Head false) ∷ []) → ⊥
  -- nor does it wait for the first stage where it is at the second
  pub past : Comes 0 6 0 (stage 0 6 [] held.Nothing ∷ stage 1 7 (Head false ∷ []) held.Nothing ∷ []) → ⊥
