-- WHAT AN EFFECT MOVES: where a callback has a stage go on.
use Rattle.std.specs.Prelude.{◌≡◌, ◌≢◌, ℕ, zero, suc, Bool, false, not, List, [], ◌∷◌, None, Some, slice_get}
use Rattle.contexts.specs.Reached.{vm_in}
use Rattle.exchange.specs.declared.types.Exchange.{Exchange}
use Rattle.exchange.specs.declared.types.Hub.{Hub}
use Rattle.exchange.specs.Passing.{chain_of, stage_of, resume_context}
use Rattle.filter_chain.specs.declared.item.ChainItem.{ChainItem}
use Rattle.filter_chain.specs.declared.stage.Stage.{Stage}
use Rattle.filter_chain.specs.Chains.{with_more, without_hold, bytes_at, continued}
use Rattle.filter_chain.specs.Flow.{IsOtherThan}
use Rattle.law_chain.specs.Acts.{AreThere, IsLeft}

-- the same stages, but for items that wait at them after those that waited before
abbrev pub OnlyWait : List Stage → List Stage → Type 0
OnlyWait [] [] = Unit {0}
OnlyWait [] (t ∷ ts) = ⊥
OnlyWait (s ∷ ss) [] = ⊥
OnlyWait (s ∷ ss) (t ∷ ts) = ((items : List ChainItem) × (t ≡ with_more items s)) × OnlyWait ss ts

-- Those in front of the place are as they were, that at it holds nothing any more, and at those that come after it more may wait.
abbrev pub MovesAfter : ℕ → List Stage → List Stage → Type 0
MovesAfter k [] ts = ts ≡ []
MovesAfter zero (s ∷ ss) [] = ⊥
MovesAfter zero (s ∷ ss) (t ∷ ts) = (t ≡ without_hold s) × OnlyWait ss ts
MovesAfter (suc k) (s ∷ ss) [] = ⊥
MovesAfter (suc k) (s ∷ ss) (t ∷ ts) = (t ≡ s) × MovesAfter k ss ts

-- What a stage at a place holds went on: of the direction's stages that one and those that come after it moved, those of the other direction did not; every
-- other stage, of any exchange, holds what it held; and no other VM has anything else among the contexts.
pub record MovedOn (vm : ℕ) (response : Bool) (k : ℕ) (x : Exchange) (hub : Hub) (y : Exchange) (after : Hub) : Type 0 where
  pub chain : MovesAfter k (chain_of response x) (chain_of response y)
  pub across : chain_of (not response) y ≡ chain_of (not response) x
  pub holds : (s t : Stage) → slice_get (chain_of response x) k ≡ Some s → IsOtherThan s t → bytes_at after.contexts t ≡ bytes_at hub.contexts t
  pub vms : (other : ℕ) → other ≢ vm → vm_in after.contexts other ≡ vm_in hub.contexts other

-- AN EFFECT MOVES WHAT COMES AFTER: where a callback of a VM has the stage of its context go on, and it is not too much. Where the context has no stage,
-- nothing is moved.
pub record EffectsMoveOn : Type 0 where
  pub moves : (vm context : ℕ) (response : Bool) (n k : ℕ) (x : Exchange) (hub : Hub) → x.has_ended ≡ false → stage_of vm context (chain_of response x) ≡ Some k
      → AreThere hub.contexts (chain_of response x) → IsLeft (continued hub.contexts k (chain_of response x)).0
      → MovedOn vm response k x hub (resume_context vm context response n x hub).0 (resume_context vm context response n x hub).1
  pub none : (vm context : ℕ) (response : Bool) (n : ℕ) (x : Exchange) (hub : Hub) → stage_of vm context (chain_of response x) ≡ None → resume_context vm context response n x hub ≡ (x, hub)
