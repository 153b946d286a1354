-- What stands against linking a module, each cause by itself, and which of these is the first.
use Rattle.std.specs.Prelude.{◌≡◌, ◌<◌, ◌+◌, ◌*◌, ◌⊎◌, ℕ, List, length, slice_get, Some}
use Rattle.wasm_syntax.specs.declared.module.Module.{Module}
use Rattle.wasm_syntax.specs.Memory.{page}
use Rattle.wasm_syntax.specs.Stores.{offset_of, first_pages, table_size}
use Rattle.wasm_store.specs.declared.links.Judged.TheVariants as judged
use Rattle.wasm_store.specs.declared.instance.LinkEnd.{LinkEnd}
use Rattle.wasm_store.specs.declared.instance.LinkEnd.TheVariants as end
use Rattle.wasm_store.specs.Linking.{Host, judgement}

-- a list has such a member at that index
pub record HasAt {X : Type 0} (xs : List X) (index : ℕ) (P : X → Type 0) : Type 0 where
  pub member : X
  pub there : slice_get xs index ≡ Some member
  pub such : P member

-- That cause stands, whatever others do. An import without a judgement of the host is unknown to it, as one that is no
-- function; elements and data end outside where a place of theirs is past the last, and where none are, where they
-- begin past the end.
abbrev pub StandsAgainst : Host → Module → (pages : ℕ) → LinkEnd → Type 0
StandsAgainst host m pages (end.UnknownImport n) = HasAt m.imports n (λ i. judgement host m.types i ≡ judged.Unknown)
StandsAgainst host m pages (end.ImportType n) = HasAt m.imports n (λ i. judgement host m.types i ≡ judged.OtherType)
StandsAgainst host m pages end.PagesOverCap = pages < first_pages m
StandsAgainst host m pages (end.ElementOutside n) = HasAt m.elements n (λ e. table_size m < offset_of e.offset + length e.functions)
StandsAgainst host m pages (end.DataOutside n) = HasAt m.segments n (λ s. page * first_pages m < offset_of s.offset + length s.bytes)
StandsAgainst host m pages end.OutOfMemory = ⊥

-- the order of the causes
abbrev pub rank : LinkEnd → ℕ
rank (end.UnknownImport n) = 0
rank (end.ImportType n) = 1
rank end.PagesOverCap = 2
rank (end.ElementOutside n) = 3
rank (end.DataOutside n) = 4
rank end.OutOfMemory = 5

abbrev pub index_of : LinkEnd → ℕ
index_of (end.UnknownImport n) = n
index_of (end.ImportType n) = n
index_of end.PagesOverCap = 0
index_of (end.ElementOutside n) = n
index_of (end.DataOutside n) = n
index_of end.OutOfMemory = 0

-- one cause comes before another, and at a lower index before itself
abbrev pub ComesBefore : LinkEnd → LinkEnd → Type 0
ComesBefore d e = (rank d < rank e) ⊎ ((rank d ≡ rank e) × (index_of d < index_of e))

-- of those that stand it is the first
pub record IsFirst (Stands : LinkEnd → Type 0) (e : LinkEnd) : Type 0 where
  pub stands : Stands e
  pub first : (d : LinkEnd) → Stands d → ComesBefore d e → ⊥
