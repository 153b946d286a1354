-- EACH STAGE IS ASKED.
use Rattle.std.specs.Prelude.{◌≡◌, ◌<◌, ℕ, Bool, true, false, List, length}
use Rattle.std.specs.List.{list_any}
use Rattle.filter_chain.specs.declared.item.ChainItem.{ChainItem}
use Rattle.filter_chain.specs.declared.item.ChainItem.TheVariants.{Head, Piece, Trailers}
use Rattle.law_chain.specs.Acts.{Act, Standing, left_by, items_put}
use Rattle.law_chain.specs.PassThrough.{bare_all}
use Rattle.law_asked.specs.Asked.{asked_of, gone_of, AreKept, ComeOf, AreUnused}

-- The stage at this place is asked of what came, in order. It lets go on what it was asked of, and no more: by a Continue of its own, or by a resume. What left
-- the chain is of what it let go on. So is what any later stage was asked of.
pub record IsAsked (k : ℕ) (acts : List Act) (w : Standing) : Type 0 where
  pub comes : ComeOf (asked_of k acts w) (bare_all (items_put acts))
  pub goes_on : ComeOf (gone_of k acts w) (asked_of k acts w)
  pub leaves : ComeOf (bare_all (left_by acts w)) (gone_of k acts w)
  pub next : (j : ℕ) → k < j → j < length w.stages → AreKept j acts → ComeOf (asked_of j acts w) (gone_of k acts w)

-- EACH STAGE OF A CHAIN IS ASKED, that is not let through: whatever is done to a chain through which nothing passed yet, and so at each moment of it
abbrev pub EachIsAsked : Type 0
EachIsAsked = (w : Standing) (acts : List Act) (k : ℕ) → AreUnused w.stages → k < length w.stages → AreKept k acts → IsAsked k acts w

-- ---- the head

abbrev pub is_head : ChainItem → Bool
is_head (Head end) = true
is_head (Piece bytes end) = false
is_head Trailers = false

abbrev pub has_head : List ChainItem → Bool
has_head items = list_any is_head items

-- A HEAD THAT LEFT: the stage at this place was asked it, and let it go on; and no later stage was asked it before that
pub record HeadIsAsked (k : ℕ) (acts : List Act) (w : Standing) : Type 0 where
  pub asked : has_head (bare_all (left_by acts w)) ≡ true → has_head (asked_of k acts w) ≡ true
  pub let_on : has_head (bare_all (left_by acts w)) ≡ true → has_head (gone_of k acts w) ≡ true
  pub next : (j : ℕ) → k < j → j < length w.stages → AreKept j acts → has_head (asked_of j acts w) ≡ true → has_head (gone_of k acts w) ≡ true

abbrev pub HeadsAreAsked : Type 0
HeadsAreAsked = (w : Standing) (acts : List Act) (k : ℕ) → AreUnused w.stages → k < length w.stages → AreKept k acts → HeadIsAsked k acts w
