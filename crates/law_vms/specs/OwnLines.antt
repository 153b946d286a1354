-- On which lines the effects of a callback are done.
use Rattle.std.specs.List.{list_any}
use Rattle.std.specs.Prelude.{◌≡◌, ◌⊎◌, ℕ, ◌==◌, Bool, true, false, not, ◌&&◌, List, Option, None, Some, option_map, slice_get}
use Rattle.callouts.specs.Callouts.{line_of}
use Rattle.contexts.specs.declared.parts.Effect.{Effect}
use Rattle.exchange.specs.declared.types.Exchange.{Exchange}
use Rattle.exchange.specs.declared.types.Filter.{Filter}
use Rattle.law_exchange.specs.Own.{IsOn}
use Rattle.gate_io.specs.declared.event.Sent.{Sent}
use Rattle.law_vms.specs.OwnEffects.{GrowsBy}
use Rattle.worker_model.specs.Room.{Room}
use Rattle.worker_model.specs.declared.types.Line.{Line}
use Rattle.worker_model.specs.declared.types.Owner.{Owner}
use Rattle.worker_model.specs.Rooms.{effects_of}

-- the exchange of a line is open, and a context of that VM was created for it
abbrev pub takes_part : (vm : ℕ) → Option Exchange → Bool
takes_part vm None = false
takes_part vm (Some x) = not x.has_ended && list_any (λ (f : Filter). f.created && f.vm == vm) x.filters

abbrev pub number_at : Room → (place : ℕ) → Option ℕ
number_at room place = option_map (λ (line : Line). line.number) (slice_get room.lines place)

-- it is sent on a line in whose exchange that VM takes part
abbrev pub IsOnItsLine : Room → (vm : ℕ) → Sent → Type 0
IsOnItsLine room vm s = (place : ℕ) × (line : Line) × (slice_get room.lines place ≡ Some line) × (takes_part vm line.exchange ≡ true) × IsOn line.number s

-- or on a line from 2^31 on: that of a callout which begins
abbrev pub IsSentFor : Room → (vm : ℕ) → Sent → Type 0
IsSentFor room vm s = IsOnItsLine room vm s ⊎ ((id : ℕ) × IsOn (line_of id) s)

-- What was done for a VM: a line in whose exchange the VM takes no part is as it was, and every line keeps its number; what was sent besides goes
-- out on lines in whose exchanges it does take part, or on those of callouts; and no VM died.
pub record ActsOnItsOwn (vm : ℕ) (before after : Room) : Type 0 where
  pub lines : (place : ℕ) (line : Line) → slice_get before.lines place ≡ Some line → takes_part vm line.exchange ≡ false → slice_get after.lines place ≡ Some line
  pub numbers : (place : ℕ) → number_at after place ≡ number_at before place
  pub sent : GrowsBy (IsSentFor before vm) before.hub.sent after.hub.sent
  pub dead : after.dead ≡ before.dead

-- THE EFFECTS OF A CALLBACK, whatever they are, are done on its own VM's lines
abbrev pub EffectsActOnOwnLines : Type 0
EffectsActOnOwnLines = (vm : ℕ) (own : Owner) (effects : List Effect) (room : Room) → ActsOnItsOwn vm room (effects_of vm own effects room)
