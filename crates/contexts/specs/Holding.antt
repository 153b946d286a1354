-- The laws of the bytes that stages hold.
use Rattle.std.specs.Prelude.{◌≡◌, ◌<◌, ℕ, Bool, List, [], ◌++◌, length, Some}
use Rattle.contexts.specs.declared.parts.StageBuffer.{StageBuffer}
use Rattle.contexts.specs.declared.parts.Own.{Own}
use Rattle.contexts.specs.declared.parts.Contexts.{Contexts}
use Rattle.contexts.specs.Lending.{stage_in}
use Rattle.contexts.specs.Stages.{own_at, held_at, stage_changed, with_buffered, without_buffer, with_callback_answered}

-- that context is there
abbrev pub IsThere : Contexts → (vm e : ℕ) → Type 0
IsThere h vm e = (vm < length h.vms) × (o : Own) × (own_at h vm e ≡ Some o)

-- another stage: of another VM, of another context, or of the other direction
abbrev pub IsOther : (vm e : ℕ) (r : Bool) (wm d : ℕ) (q : Bool) → Type 0
IsOther vm e r wm d q = wm ≡ vm → d ≡ e → q ≡ r → ⊥

-- a stage holds what it is given after what it held, holds nothing once it was let go of, and keeps it when its callback
-- returns; every other stage holds what it held
pub record HoldsItsOwn : Type 0 where
  pub filled_here : (h : Contexts) (vm e : ℕ) (r : Bool) (bytes : List ℕ) (end : Bool) → IsThere h vm e → held_at (with_buffered h vm e r bytes end) vm e r ≡ held_at h vm e r ++ bytes
  pub emptied_here : (h : Contexts) (vm e : ℕ) (r : Bool) → IsThere h vm e → held_at (without_buffer h vm e r) vm e r ≡ []
  pub answered_here : (h : Contexts) (vm e : ℕ) (r : Bool) → IsThere h vm e → held_at (with_callback_answered h vm e r) vm e r ≡ held_at h vm e r
  pub others : (f : StageBuffer → StageBuffer) (h : Contexts) (vm e : ℕ) (r : Bool) (wm d : ℕ) (q : Bool) → vm < length h.vms → IsOther vm e r wm d q → held_at (stage_changed f h vm e r) wm d q ≡ held_at h wm d q
