-- BODIES PASS THROUGH.
use Rattle.std.specs.Prelude.{◌≡◌, ℕ, Bool, true, false, List, [], ◌∷◌, ◌++◌, None}
use Rattle.std.specs.List.{list_any}
use Rattle.contexts.specs.declared.parts.Contexts.{Contexts}
use Rattle.filter_chain.specs.declared.stage.Stage.{Stage}
use Rattle.filter_chain.specs.declared.item.Held.{Held}
use Rattle.filter_chain.specs.declared.item.Held.TheVariants as held
use Rattle.filter_chain.specs.declared.item.ChainItem.{ChainItem}
use Rattle.filter_chain.specs.declared.item.ChainItem.TheVariants.{Head, Piece, Trailers}
use Rattle.filter_chain.specs.Chains.{bytes_at}
use Rattle.filter_chain.specs.Flow.{NoneIs}
use Rattle.filter_chain.specs.Items.{item_bytes}
use Rattle.law_chain.specs.Acts.{Standing, AreThere}

-- ---- ends

-- the message ends with this item
abbrev pub is_end : ChainItem → Bool
is_end (Head end) = end
is_end (Piece bytes end) = end
is_end Trailers = true

abbrev pub has_end : List ChainItem → Bool
has_end items = list_any is_end items

-- nothing comes after the end
abbrev pub IsInOrder : List ChainItem → Type 0
IsInOrder [] = Unit {0}
IsInOrder (i ∷ items) = (is_end i ≡ true → items ≡ []) × IsInOrder items

-- ---- items without their bytes

abbrev pub bare : ChainItem → ChainItem
bare (Head end) = Head end
bare (Piece bytes end) = Piece [] end
bare Trailers = Trailers

abbrev pub bare_all : List ChainItem → List ChainItem
bare_all [] = []
bare_all (i ∷ items) = bare i ∷ bare_all items

-- the same without some pieces, none of which is the end
pub data Thinner : List ChainItem → List ChainItem → Type 0 where
  none : Thinner [] []
  keeps : {i : ChainItem} {ms ns : List ChainItem} → Thinner ms ns → Thinner (i ∷ ms) (i ∷ ns)
  drops : {ms ns : List ChainItem} → Thinner ms ns → Thinner (Piece [] false ∷ ms) ns

-- what a stage holds and what waits at it, and all that is in a chain, from its exit to its entry
abbrev pub bare_held : Held → List ChainItem
bare_held held.Nothing = []
bare_held (held.Head end) = Head end ∷ []
bare_held (held.Body end) = Piece [] end ∷ []
bare_held (held.Trailers false) = Trailers ∷ []
bare_held (held.Trailers true) = Piece [] false ∷ Trailers ∷ []

abbrev pub bare_at : Stage → List ChainItem
bare_at s = bare_held s.held ++ bare_all s.waiting

abbrev pub bare_in : List Stage → List ChainItem
bare_in [] = []
bare_in (s ∷ ss) = bare_in ss ++ bare_at s

-- ---- a direction through which nothing passed yet

-- nothing waits at it and it holds nothing, its buffer is empty, and it is asked about what comes
pub record IsIdle (h : Contexts) (s : Stage) : Type 0 where
  pub waiting : s.waiting ≡ []
  pub holding : s.held ≡ held.Nothing
  pub asking : s.passes ≡ false
  pub empty : bytes_at h s ≡ []

abbrev pub AreIdle : Contexts → List Stage → Type 0
AreIdle h [] = Unit {0}
AreIdle h (s ∷ ss) = IsIdle h s × AreIdle h ss

-- no two of them are of one context of one VM and of one direction
abbrev pub AreApart : List Stage → Type 0
AreApart [] = Unit {0}
AreApart (s ∷ ss) = NoneIs s ss × AreApart ss

pub record IsNew (w : Standing) : Type 0 where
  pub due : w.due ≡ None
  pub idle : AreIdle w.contexts w.stages
  pub there : AreThere w.contexts w.stages
  pub apart : AreApart w.stages

-- ---- the law

-- WHAT PASSED of the items that came, where these bytes were to pass: what left, joined, and what is left after the cut are those bytes. What left, and
-- what is in the chain, is what came: the head, the pieces, the end or the trailers, in order and each once, but that pieces are joined and empty ones are
-- dropped. And where the end has left, all has: no byte is after the cut, and nothing is held or waits.
pub record PassesThrough (came : List ChainItem) (whole : List ℕ) (left : List ChainItem) (inside : List ℕ) (stages : List Stage) : Type 0 where
  pub bytes : item_bytes left ++ inside ≡ whole
  pub order : Thinner (bare_all came) (bare_all left ++ bare_in stages)
  pub all : has_end left ≡ true → (item_bytes left ≡ whole) × Thinner (bare_all came) (bare_all left) × (bare_in stages ≡ [])
