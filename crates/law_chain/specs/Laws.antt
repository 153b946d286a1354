-- BODIES PASS THROUGH A CHAIN.
use Rattle.std.specs.Prelude.{◌≡◌, ◌<◌, ℕ, zero, suc, List, ◌++◌, length}
use Rattle.filter_chain.specs.Items.{item_bytes}
use Rattle.law_chain.specs.Acts.{Act, Standing, left_by, items_put, buffers_by, stands_after, behind, AreActs}
use Rattle.law_chain.specs.PassThrough.{bare_all, bare_in, Thinner, IsInOrder, IsNew, PassesThrough}
use Rattle.law_chain.specs.Sound.{IsSound}

-- what is to pass the cut in front of the stage at this count: what came, where that is the first one, and else what the body callbacks of the stage in
-- front of it left
abbrev pub sources : ℕ → List Act → Standing → List ℕ
sources zero acts w = item_bytes (items_put acts)
sources (suc k) acts w = buffers_by k acts w

-- What left by acts and what is after the cut then is what was after it, and what was to pass it; what left and what is in the chain then is what was in
-- it and what came, in order. And what holds between acts still holds.
pub record GoesOn (n : ℕ) (acts : List Act) (w : Standing) : Type 0 where
  pub bytes : item_bytes (left_by acts w) ++ behind n (stands_after acts w) ≡ behind n w ++ sources n acts w
  pub order : Thinner (bare_in w.stages ++ bare_all (items_put acts)) (bare_all (left_by acts w) ++ bare_in (stands_after acts w).stages)
  pub sound : IsSound n (stands_after acts w)

-- THE PASSED BYTES: where the last stage with a body callback stands at this place, and callbacks leave the buffers of the stages after it as they
-- were, what passed is what the body callbacks of that stage left, joined. Where callbacks leave all buffers as they were, it is what came.
pub record BodiesPassThrough : Type 0 where
  pub last_stage : (k : ℕ) (w : Standing) (acts : List Act) → IsNew w → k < length w.stages → AreActs (suc k) acts w → IsInOrder (items_put acts)
      → PassesThrough (items_put acts) (buffers_by k acts w) (left_by acts w) (behind (suc k) (stands_after acts w)) (stands_after acts w).stages
  pub unchanged : (w : Standing) (acts : List Act) → IsNew w → AreActs 0 acts w → IsInOrder (items_put acts)
      → PassesThrough (items_put acts) (item_bytes (items_put acts)) (left_by acts w) (behind 0 (stands_after acts w)) (stands_after acts w).stages
  -- from any state between acts: so the law goes on where VMs of stages died, which were let through
  pub goes_on : (n : ℕ) (w : Standing) (acts : List Act) → IsSound n w → AreActs n acts w → GoesOn n acts w
