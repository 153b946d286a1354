-- Worked: a room with two lines, of which the exchange on the second has no filters, and whose next step calls the filter of the first.
use Rattle.std.specs.Prelude.{◌≡◌, ℕ, true, false, [], ◌∷◌, None, Some, codes}
use Rattle.contexts.specs.declared.parts.Effect.{Effect}
use Rattle.contexts.specs.declared.parts.EffectKind.TheVariants as what
use Rattle.filter_host.specs.Called.{Calling, called_back}
use Rattle.filter_host.specs.Course.{Course, ends, asks, measures, hears, Reaches}
use Rattle.filter_host.specs.declared.host.CallbackEnd.TheVariants as call_ends
use Rattle.filter_host.specs.declared.host.Death.TheVariants as deaths
use Rattle.exchange.specs.Examples as exchanges
use Rattle.exchange.specs.declared.types.Exchange.{Exchange}
use Rattle.exchange.specs.declared.types.Filter.{Filter}
use Rattle.filter_chain.specs.declared.item.Held.TheVariants as held
use Rattle.filter_chain.specs.declared.item.ChainItem.TheVariants as items
use Rattle.gate_base.specs.declared.cause.Cause.TheVariants as causes
use Rattle.header_maps.specs.Operations.{no_headers}
use Rattle.h1_model.specs.Unread.{new_reading}
use Rattle.store_model.specs.Program.{done}
use Rattle.worker_model.specs.Room.{Room}
use Rattle.worker_model.specs.declared.types.Line.{Line}
use Rattle.worker_model.specs.declared.types.Next.TheVariants as next
use Rattle.worker_model.specs.Rooms.{next_of}
use Rattle.worker_model.specs.Steps.{Both, both, line_in, step}
use Rattle.law_lines.specs.Examples.{open_plan}
use Rattle.law_lines.specs.Isolation.{IsFree, sent_on, is_step_of, IsUntouched}

-- every callback asks for a local response of status 403, and returns Pause
abbrev pub no_entry : (context : ℕ) → Effect
no_entry context = record { context = context; what = what.Answer 403 no_headers (codes "no") }

abbrev pub answering : Calling ℕ
answering host vm name context first second now h = done (called_back (call_ends.Returned (Some 1)) [] host (record h { effects = no_entry context ∷ [] }))

-- every callback traps
abbrev pub trapping : Calling ℕ
trapping host vm name context first second now h = done (called_back (call_ends.Died (deaths.Trapped causes.Unreachable)) [] host h)

abbrev pub the_filter : Filter
the_filter = record { plugin = 0; vm = 0; fails_open = false; created = true; context = 2 }

-- the head of its request waits at its one stage
abbrev pub filtered : Exchange
filtered = record (exchanges.exchange exchanges.upload exchanges.no_response (record (exchanges.stage false held.Nothing) { waiting = items.Head false ∷ [] } ∷ []) []) { filters = the_filter ∷ [] }

abbrev pub unfiltered : Exchange
unfiltered = record (exchanges.exchange exchanges.upload exchanges.no_response [] []) { place = 1 }

abbrev pub with_one : ℕ → Exchange → Line
with_one number x = record { number = number; requests = new_reading None; is_gone = false; exchange = Some x }

abbrev pub two_lines : Room
two_lines = record {
  lines = with_one 1 filtered ∷ with_one 2 unfiltered ∷ [];
  hub = exchanges.hub_of exchanges.host;
  reading = None;
  jobs = [];
  agenda = [];
  waits = [];
  dead = [];
  is_begun = true;
  calls = [];
  tcp = [];
}

-- the end of a course that meets nothing
abbrev pub end_by : Both ℕ → Course (Both ℕ) → Both ℕ
end_by b (ends e) = e
end_by b (asks vm call k) = b
end_by b (measures vm call k) = b
end_by b (hears r k) = b

abbrev pub behind : Calling ℕ → Both ℕ
behind calling = end_by (both 0 two_lines) (step calling open_plan (next_of two_lines) 0 two_lines)

-- it went on from there by a step that sent something on line 1, and left line 2 as it was
pub record LeavesTwo (calling : Calling ℕ) : Type 0 where
  pub reaches : Reaches (step calling open_plan (next_of two_lines) 0 two_lines) [] (ends (behind calling))
  pub sends : sent_on 1 (behind calling).room.hub.sent ≡ [] → ⊥
  pub nothing : sent_on 2 (behind calling).room.hub.sent ≡ []
  pub line : line_in 2 (behind calling).room.lines ≡ Some (with_one 2 unfiltered)
  pub untouched : IsUntouched 2 two_lines (behind calling).room

pub record IsolationExample : Type 0 where
  pub free : IsFree 2 two_lines.lines
  pub not_free : IsFree 1 two_lines.lines → ⊥
  pub moves : next_of two_lines ≡ next.Move 0
  pub of_one : is_step_of 1 (next_of two_lines) two_lines ≡ true
  pub not_of_two : is_step_of 2 (next_of two_lines) two_lines ≡ false
  pub answers : LeavesTwo answering
  pub traps : LeavesTwo trapping
