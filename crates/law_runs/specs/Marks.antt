-- THE MARK that an answer was asked for, by which host calls judge whether one may still be: what drops it, and that no step raises it where machines never ask for
-- an answer.
use Rattle.std.specs.Option.{option_map}
use Rattle.std.specs.Prelude.{◌≡◌, ℕ, Bool, true, false, List, [], Option, None, Some, slice_get}
use Rattle.contexts.specs.Reached.{exchange_at, view_at}
use Rattle.contexts.specs.declared.parts.Contexts.{Contexts}
use Rattle.contexts.specs.declared.parts.ExchangeEntry.{ExchangeEntry as Held}
use Rattle.contexts.specs.declared.parts.ExchangeView.{ExchangeView}
use Rattle.filter_host.specs.Called.{Called, Calling, called_back}
use Rattle.filter_host.specs.Course.{ends, Met, Reaches}
use Rattle.filter_host.specs.declared.host.CallbackEnd.TheVariants as call_ends
use Rattle.filter_host.specs.declared.host.Callback.{Callback}
use Rattle.filter_host.specs.declared.host.Death.{Death}
use Rattle.exchange.specs.declared.types.Exchange.{Exchange}
use Rattle.gate_io.specs.declared.event.Sent.{Sent}
use Rattle.store_model.specs.Program.{done}
use Rattle.vm_host.specs.declared.slots.Vms.{Vms}
use Rattle.law_vms.specs.Apart.{AllEnds}
use Rattle.worker_model.specs.Plan.{Plan}
use Rattle.worker_model.specs.Rooms.{Changes, place_in, place_of, on_number, on_context, lose_vm_in, take_callback_end}
use Rattle.worker_model.specs.Steps.{Both, step}
use Rattle.worker_model.specs.Room.{Room}
use Rattle.worker_model.specs.declared.types.Line.{Line}
use Rattle.worker_model.specs.declared.types.Next.{Next}
use Rattle.worker_model.specs.declared.types.Owner.{Owner}
use Rattle.law_runs.specs.Denying.{denies, at_home, asked_of}
use Rattle.law_runs.specs.Gone.{with_one}

-- an answer was asked for
abbrev pub is_asking : Option Held → Bool
is_asking None = false
is_asking (Some x) = x.view.is_answering

-- of the exchange at a place none was asked for, or none is there
abbrev pub IsUnasked : (n : ℕ) → Contexts → Type 0
IsUnasked n h = is_asking (exchange_at h.exchanges n) ≡ false

-- of an exchange that is on the line at a place
abbrev pub LineIsUnasked : (k : ℕ) → Room → Type 0
LineIsUnasked k room = (line : Line) (x : Exchange) → slice_get room.lines k ≡ Some line → line.exchange ≡ Some x → IsUnasked x.place room.hub.contexts

-- of all that are on lines
abbrev pub NoneAsks : Room → Type 0
NoneAsks room = (k : ℕ) → LineIsUnasked k room

-- A DEATH DROPS ALL MARKS of exchanges that are on lines, whatever the callback that died left among the contexts, also those that other filters have.
pub record DeathsDropMarks : Type 0 where
  pub deaths : (vm : ℕ) (death : Death) (room : Room) → NoneAsks (lose_vm_in vm death room)
  pub callbacks : (vm : ℕ) (own : Owner) (death : Death) (lines : List Sent) (h : Contexts) (room : Room) → NoneAsks (take_callback_end vm own (call_ends.Died death) lines h room)

-- what host calls are told of an exchange is what is so of it, and that no answer was asked for
pub record IsTold (x : Exchange) (v : ExchangeView) : Type 0 where
  pub answering : v.is_answering ≡ false
  pub answered : v.is_answered ≡ x.is_answered
  pub ended : v.has_ended ≡ x.has_ended
  pub head_out : v.is_head_out ≡ x.is_head_out

-- of the exchange that is on the line at a place
abbrev pub LineIsTold : (k : ℕ) → Room → Type 0
LineIsTold k room =
    (line : Line) (x : Exchange) (v : ExchangeView) → slice_get room.lines k ≡ Some line → line.exchange ≡ Some x → view_at room.hub.contexts.exchanges x.place ≡ Some v → IsTold x v

-- WHAT IS DONE TO AN EXCHANGE IS TOLD, and drops its mark, where its place among the contexts is still taken: an effect, the action of a callback, what was read, a
-- refusal. That the place stays taken is not said; and that a client is gone is no such change.
pub record ChangesAreTold : Type 0 where
  pub by_context : (change : Changes) (vm context k : ℕ) (room : Room) → place_of vm context room.lines ≡ Some k → LineIsTold k (on_context change vm context room)
  pub by_number : (change : Changes) (number k : ℕ) (room : Room) → place_in number room.lines ≡ Some k → LineIsTold k (on_number change number room)

-- callbacks that ask for no answer of the exchange at a place, where none was asked for
abbrev pub AskNone : {H : Type 0} → Calling H → (n : ℕ) → Type 0
AskNone {H} calling n =
    (host : H) (vm : ℕ) (name : Callback) (context first second now : ℕ) (h : Contexts) → IsUnasked n h
    → AllEnds (λ c. IsUnasked n c.contexts) (calling host vm name context first second now h)

-- WORKERS RAISE NO MARK: where callbacks never do, in any state, no step does. Of machines of which one may ask for an answer it says nothing.
abbrev pub WorkersRaiseNone : Type 0 → Type 0
WorkersRaiseNone H =
    (calling : Calling H) (n : ℕ) → AskNone calling n → (plan : Plan) (next : Next) (host : H) (room : Room) (ms : List Met) (e : Both H) → IsUnasked n room.hub.contexts
    → Reaches (step calling plan next host room) ms (ends e) → IsUnasked n e.room.hub.contexts

-- ---- worked

-- machines that return and do nothing
abbrev pub returning : Calling (Unit {0})
returning host vm name context first second now h = done (called_back (call_ends.Returned None) [] host h)

-- a room with these contexts, in which the exchange of the first place is on line 7, whatever else is so of it
abbrev pub on_line_7 : Contexts → Exchange → Room
on_line_7 h x = record (with_one (record x { place = 0 })) { hub = record { moment = 0; contexts = h; sent = [] } }

-- an exchange is answered
abbrev pub is_now_answered : Changes
is_now_answered number x hub = (record x { is_answered = true }, hub)

-- what host calls are told of the exchange of the first place
abbrev pub told_behind : Called Vms → Exchange → Option ExchangeView
told_behind c x = view_at (on_number is_now_answered 7 (on_line_7 c.contexts x)).hub.contexts.exchanges 0

pub record MarkExamples : Type 0 where
  -- there are callbacks that ask for no answer; and before the module that denies is asked none was asked for, and after it one was
  pub returning_asks_none : (n : ℕ) → AskNone returning n
  pub before : IsUnasked 0 at_home
  pub behind : (c : Called Vms) → asked_of denies ≡ done c → is_asking (exchange_at c.contexts.exchanges 0) ≡ true
  -- then the exchange is answered, on its line: its place is still taken, the mark is dropped, and host calls are told that it was answered
  pub on_its_line : (c : Called Vms) (x : Exchange) → place_in 7 (on_line_7 c.contexts x).lines ≡ Some 0
  pub dropped : (c : Called Vms) (x : Exchange) → asked_of denies ≡ done c → option_map (λ (v : ExchangeView). v.is_answering) (told_behind c x) ≡ Some false
  pub told : (c : Called Vms) (x : Exchange) → asked_of denies ≡ done c → option_map (λ (v : ExchangeView). v.is_answered) (told_behind c x) ≡ Some true
