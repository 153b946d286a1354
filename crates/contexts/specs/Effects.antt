-- What a callback asked for is taken out after it.
use Rattle.std.specs.Prelude.{false, [], map, Option, None, Some}
use Rattle.contexts.specs.declared.parts.ExchangeEntry.{ExchangeEntry}
use Rattle.contexts.specs.declared.parts.Contexts.{Contexts}

abbrev pub unmarked : ExchangeEntry → ExchangeEntry
unmarked x = record x { view = record x.view { is_answering = false } }

abbrev pub unmarked_at : Option ExchangeEntry → Option ExchangeEntry
unmarked_at None = None
unmarked_at (Some x) = Some (unmarked x)

-- the contexts without the effects of the callback, and without the marks of their local responses
abbrev pub without_effects : Contexts → Contexts
without_effects h = record h { effects = []; exchanges = map unmarked_at h.exchanges }
