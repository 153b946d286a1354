-- WHAT HOLDS OF A DIRECTION between its acts.
use Rattle.std.specs.Prelude.{◌≡◌, ℕ, zero, suc, true, false, List, [], ◌∷◌, drop, Option, None, Some}
use Rattle.contexts.specs.declared.parts.Contexts.{Contexts}
use Rattle.filter_chain.specs.declared.stage.Stage.{Stage}
use Rattle.filter_chain.specs.declared.item.Ask.{Ask}
use Rattle.filter_chain.specs.declared.item.AskKind.{AskKind}
use Rattle.filter_chain.specs.declared.item.AskKind.TheVariants as kinds
use Rattle.filter_chain.specs.declared.item.Held.TheVariants as held
use Rattle.filter_chain.specs.Chains.{bytes_at}
use Rattle.filter_chain.specs.Items.{holds_bytes}
use Rattle.law_chain.specs.Acts.{Standing, AreThere}
use Rattle.law_chain.specs.PassThrough.{AreApart}

-- a stage that was let through holds nothing, and nothing waits at it
pub record IsEmpty (s : Stage) : Type 0 where
  pub waiting : s.waiting ≡ []
  pub holding : s.held ≡ held.Nothing

abbrev pub AreOpen : List Stage → Type 0
AreOpen [] = Unit {0}
AreOpen (s ∷ ss) = (s.passes ≡ true → IsEmpty s) × AreOpen ss

-- the last stage with a body callback, the one at this count, was not let through
abbrev pub IsCut : ℕ → List Stage → Type 0
IsCut zero ss = Unit {0}
IsCut (suc n) [] = ⊥
IsCut (suc zero) (s ∷ ss) = s.passes ≡ false
IsCut (suc (suc n)) (s ∷ ss) = IsCut (suc n) ss

-- none of them holds bytes of a body; none but that at a place, which does
abbrev pub AreCalm : List Stage → Type 0
AreCalm [] = Unit {0}
AreCalm (s ∷ ss) = (holds_bytes s.held ≡ false) × AreCalm ss

abbrev pub CalmBut : ℕ → List Stage → Type 0
CalmBut k [] = ⊥
CalmBut zero (s ∷ ss) = (holds_bytes s.held ≡ true) × AreCalm ss
CalmBut (suc k) (s ∷ ss) = (holds_bytes s.held ≡ false) × CalmBut k ss

-- none holds bytes of a body, but the one whose body callback runs
abbrev pub CalmFor : AskKind → ℕ → List Stage → Type 0
CalmFor kinds.Head k ss = AreCalm ss
CalmFor kinds.Piece k ss = CalmBut k ss
CalmFor kinds.Trailers k ss = AreCalm ss

abbrev pub CalmWhile : Option Ask → List Stage → Type 0
CalmWhile None ss = AreCalm ss
CalmWhile (Some ask) ss = CalmFor ask.kind ask.stage ss

-- a stage that holds no bytes of a body has an empty buffer
abbrev pub IsClean : Contexts → Stage → Type 0
IsClean h s = holds_bytes s.held ≡ false → bytes_at h s ≡ []

abbrev pub AreClean : Contexts → List Stage → Type 0
AreClean h [] = Unit {0}
AreClean h (s ∷ ss) = IsClean h s × AreClean h ss

-- SOUND for a cut in front of the stage at this count
pub record IsSound (n : ℕ) (w : Standing) : Type 0 where
  pub apart : AreApart w.stages
  pub there : AreThere w.contexts w.stages
  pub open_ : AreOpen w.stages
  pub calm : CalmWhile w.due w.stages
  pub clean : AreClean w.contexts (drop n w.stages)
  pub cut : IsCut n w.stages
