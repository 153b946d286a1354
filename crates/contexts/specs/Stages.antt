-- The bytes that the stages of filters hold, in their contexts.
use Rattle.std.specs.Prelude.{ℕ, Bool, true, false, ◌||◌, List, [], ◌∷◌, ◌++◌, Option, None, Some}
use Rattle.contexts.specs.declared.parts.StageBuffer.{StageBuffer}
use Rattle.contexts.specs.declared.parts.Own.{Own}
use Rattle.contexts.specs.declared.parts.Contexts.{Contexts}
use Rattle.contexts.specs.Reached.{seen_of}
use Rattle.contexts.specs.Lending.{own_put_of, stage_in, with_stage}
use Rattle.contexts.specs.Creating.{no_stage}

abbrev pub own_at : Contexts → (vm e : ℕ) → Option Own
own_at h vm e = (seen_of h vm e).reach.own

abbrev pub held_in : Bool → Option Own → List ℕ
held_in r None = []
held_in r (Some o) = (stage_in r o).held

-- the bytes that a stage holds
abbrev pub held_at : Contexts → (vm e : ℕ) → Bool → List ℕ
held_at h vm e r = held_in r (own_at h vm e)

abbrev pub is_any : List ℕ → Bool
is_any [] = false
is_any (b ∷ bs) = true

-- the buffer is there: while its body callback runs, or where bytes are held
abbrev pub is_there : StageBuffer → Bool
is_there t = t.is_asked || is_any t.held

-- ---- changes of one stage

abbrev pub stage_after : (StageBuffer → StageBuffer) → Contexts → (vm e : ℕ) → Bool → Option Own → Contexts
stage_after f h vm e r None = h
stage_after f h vm e r (Some o) = own_put_of h vm e (with_stage r (f (stage_in r o)) o)

abbrev pub stage_changed : (StageBuffer → StageBuffer) → Contexts → (vm e : ℕ) → Bool → Contexts
stage_changed f h vm e r = stage_after f h vm e r (own_at h vm e)

-- bytes are held after the others, and the body callback is asked about all
abbrev pub with_bytes : List ℕ → Bool → StageBuffer → StageBuffer
with_bytes bytes end t = record { held = t.held ++ bytes; is_asked = true; has_end = end }

-- what was held goes on
abbrev pub let_go : StageBuffer → StageBuffer
let_go t = no_stage

-- the body callback has returned
abbrev pub returned : StageBuffer → StageBuffer
returned t = record t { is_asked = false }

abbrev pub with_buffered : Contexts → (vm e : ℕ) → Bool → List ℕ → Bool → Contexts
with_buffered h vm e r bytes end = stage_changed (with_bytes bytes end) h vm e r

abbrev pub without_buffer : Contexts → (vm e : ℕ) → Bool → Contexts
without_buffer h vm e r = stage_changed let_go h vm e r

abbrev pub with_callback_answered : Contexts → (vm e : ℕ) → Bool → Contexts
with_callback_answered h vm e r = stage_changed returned h vm e r
