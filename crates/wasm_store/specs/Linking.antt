-- How a module is linked (WebAssembly Core 1.0 section 4.5.4): the first cause, in a fixed order, why it cannot be, or
-- else nothing stands against it.
use Rattle.std.specs.Prelude.{◌≡◌, ◌⊎◌, ◌*◌, ℕ, Bool, true, false, not, nat_lt, if◌then◌else◌, List, length, slice_get, Option, Some, None, Result, Ok, Err}
use Rattle.std.specs.List.{position}
use Rattle.std.specs.Option.{option_map, option_or}
use Rattle.wasm_syntax.specs.declared.types.FunctionType.{FunctionType}
use Rattle.wasm_syntax.specs.declared.module.ImportKind.{ImportKind}
use Rattle.wasm_syntax.specs.declared.module.ImportKind.TheVariants as imported
use Rattle.wasm_syntax.specs.declared.module.Import.{Import}
use Rattle.wasm_syntax.specs.declared.module.Element.{Element}
use Rattle.wasm_syntax.specs.declared.module.Segment.{Segment}
use Rattle.wasm_syntax.specs.declared.module.Module.{Module}
use Rattle.wasm_syntax.specs.Memory.{page}
use Rattle.wasm_syntax.specs.Stores.{offset_of, first_pages, table_size, fits, initial_stores, growth_bound}
use Rattle.wasm_store.specs.declared.links.Judged.{Judged}
use Rattle.wasm_store.specs.declared.links.Judged.TheVariants as judged
use Rattle.wasm_store.specs.declared.instance.LinkEnd.{LinkEnd}
use Rattle.wasm_store.specs.declared.instance.LinkEnd.TheVariants as end
use Rattle.wasm_store.specs.declared.instance.Instance.{Instance}
use Rattle.wasm_store.specs.Instances.{Instantiated}

-- what a host says of a function by the two names (of the module that it is wanted from, and its own there) and the type that a module wants
abbrev pub Host : Type 0
Host = List ℕ → List ℕ → FunctionType → Judged

-- ---- imports

-- of a function whose type is not there nothing is known; a valid module has none such
abbrev pub judged_as : Host → List ℕ → List ℕ → Option FunctionType → Judged
judged_as host home name None = judged.Unknown
judged_as host home name (Some t) = host home name t

-- this host has no tables, memories and globals
abbrev pub judged_kind : Host → List FunctionType → List ℕ → List ℕ → ImportKind → Judged
judged_kind host types home name (imported.Function x) = judged_as host home name (slice_get types x)
judged_kind host types home name (imported.Table l) = judged.Unknown
judged_kind host types home name (imported.Memory l) = judged.Unknown
judged_kind host types home name (imported.Global g) = judged.Unknown

abbrev pub judgement : Host → List FunctionType → Import → Judged
judgement host types i = judged_kind host types i.module i.name i.kind

abbrev pub is_unknown : Judged → Bool
is_unknown judged.Linked = false
is_unknown judged.Unknown = true
is_unknown judged.OtherType = false

abbrev pub is_other_type : Judged → Bool
is_other_type judged.Linked = false
is_other_type judged.Unknown = false
is_other_type judged.OtherType = true

-- ---- the first of each cause

abbrev pub first_unknown : Host → Module → Option ℕ
first_unknown host m = position (λ (i : Import). is_unknown (judgement host m.types i)) m.imports

abbrev pub first_other_type : Host → Module → Option ℕ
first_other_type host m = position (λ (i : Import). is_other_type (judgement host m.types i)) m.imports

-- the table keeps its size, and so does the memory, while segments are written
abbrev pub is_element_outside : ℕ → Element → Bool
is_element_outside size e = not (fits size (offset_of e.offset) (length e.functions))

abbrev pub is_segment_outside : ℕ → Segment → Bool
is_segment_outside size s = not (fits size (offset_of s.offset) (length s.bytes))

abbrev pub first_element_outside : Module → Option ℕ
first_element_outside m = position (is_element_outside (table_size m)) m.elements

abbrev pub first_segment_outside : Module → Option ℕ
first_segment_outside m = position (is_segment_outside (page * first_pages m)) m.segments

-- ---- the order of the causes

abbrev pub over_cap : Module → ℕ → Option LinkEnd
over_cap m pages = if nat_lt pages (first_pages m) then Some end.PagesOverCap else None

-- THE FIRST CAUSE why a module cannot be linked on a host that allows so many pages
abbrev pub link_fault : Host → Module → (pages : ℕ) → Option LinkEnd
link_fault host m pages =
    option_or (option_map end.UnknownImport (first_unknown host m))
    (option_or (option_map end.ImportType (first_other_type host m))
    (option_or (over_cap m pages)
    (option_or (option_map end.ElementOutside (first_element_outside m))
    (option_map end.DataOutside (first_segment_outside m)))))

-- ---- how linking ends

-- the instance has the module, and begins as the module says
pub record IsLinked (m : Module) (pages : ℕ) (i : Instantiated) : Type 0 where
  pub same : i.of ≡ m
  pub memory : i.memory.bytes ≡ (initial_stores m).memory
  pub most : i.memory.most ≡ growth_bound m pages
  pub table : i.table ≡ (initial_stores m).table
  pub globals : i.globals ≡ (initial_stores m).globals

-- The module is refused exactly where something stands against it, for the first cause. Otherwise it is linked, or
-- memory ran out.
abbrev pub Links : Option LinkEnd → Module → ℕ → Result Instance LinkEnd → Type 0
Links None m pages (Ok i) = IsLinked m pages i
Links None m pages (Err e) = e ≡ end.OutOfMemory
Links (Some fault) m pages r = r ≡ Err fault
