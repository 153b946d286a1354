-- WHAT IS LEFT IN A ROOM, after what is done there: the effects of callbacks, and deaths, leave no more to do, whatever the machines did.
use Rattle.std.proofs.Common.{◌≡◌, ℕ, ◌+◌, ◌<◌, ◌≤◌, false, List, [], ◌∷◌, ◌++◌, length, arith}
use Rattle.std.specs.Prelude.{Option, false}
use Rattle.callouts.specs.Callouts.{begun}
use Rattle.callouts.specs.declared.types.Callout.{Callout}
use Rattle.contexts.specs.declared.parts.Contexts.{Contexts}
use Rattle.contexts.specs.declared.parts.Effect.{Effect}
use Rattle.contexts.specs.declared.parts.EffectKind.{EffectKind}
use Rattle.contexts.specs.declared.parts.EffectKind.TheVariants as what
use Rattle.contexts.specs.Reached.{vm_in}
use Rattle.filter_host.specs.Called.{Called}
use Rattle.filter_host.specs.Course.{Course, ends, asks, measures, hears}
use Rattle.filter_host.specs.declared.host.CallbackEnd.{CallbackEnd}
use Rattle.filter_host.specs.declared.host.CallbackEnd.TheVariants as call_ends
use Rattle.filter_host.specs.declared.host.Callback.{Callback}
use Rattle.filter_host.specs.declared.host.Death.{Death}
use Rattle.filter_host.proofs.Holds.{AllEnds, all_then, all_behind}
use Rattle.exchange.specs.declared.types.Exchange.{Exchange}
use Rattle.exchange.specs.declared.types.Hub.{Hub}
use Rattle.exchange.specs.Passing.{resume_context, close_exchange, lose_vm}
use Rattle.gate_base.specs.declared.level.Level.TheVariants.{Critical}
use Rattle.gate_io.specs.declared.event.Sent.{Sent}
use Rattle.gate_io.specs.declared.event.Sent.TheVariants.{Log}
use Rattle.store_model.specs.Program.{Program}
use Rattle.worker_model.specs.Changes.{apply_change}
use Rattle.worker_model.specs.Room.{Room}
use Rattle.worker_model.specs.declared.types.Change.TheVariants as changes
use Rattle.worker_model.specs.declared.types.Line.{Line}
use Rattle.worker_model.specs.declared.types.Owner.{Owner}
use Rattle.worker_model.specs.declared.types.Owner.TheVariants.{Nobody}
use Rattle.worker_model.specs.Rooms.{Changes, at_place, place_in, place_of, with_lines, on_number, on_context, with_contexts, room_with_sent, is_own, next_call, apply_effect, effects_of, without_effects, lose_vm_in, after_callback, take_callback_end, is_dead, death_text}
use Rattle.worker_model.specs.Steps.{Both, Answered, Then, called_in, called_live, calls_live}
use Rattle.law_rest.specs.Left.{work_left, calls_left, AllFit}
use Rattle.law_rest.proofs.Exchanges.{Adds, answer_adds, resumes_adds, closed_adds, dies_adds}
use Rattle.law_rest.proofs.Lines.{LeavesBy, adds_leaves, AllLeave, at_place_leaves, all_lines_leave}
use Rattle.law_rest.proofs.Tests.{of_if}

-- Its exchanges fit, and at most so much is left to do there.
pub record AtMost (s m : ℕ) (room : Room) : Type 0 where
  pub fit : AllFit s room.lines
  pub few : work_left s room ≤ m

pub at_most_more : (s m n : ℕ) (room : Room) → m ≤ n → AtMost s m room → AtMost s n room
at_most_more s m n room less a = record { fit = a.fit; few = omega (arith, a.few) }

-- the lines are others, with so much more to do
pub with_lines_most : (s m k : ℕ) (room : Room) (r : List Line × Hub) → AtMost s m room → AllLeave s k room.lines r.0 → AtMost s (m + k) (with_lines room r)
with_lines_most s m k room r a leaves = record { fit = leaves.fit; few = omega (arith, a.few, leaves.few) }

pub on_number_most : (s m k : ℕ) (change : Changes) (number : ℕ) (room : Room) → AtMost s m room → LeavesBy s k change → AtMost s (m + k) (on_number change number room)
on_number_most s m k change number room a leaves =
    with_lines_most s m k room (at_place change room.lines (place_in number room.lines) room.hub) a
    (at_place_leaves s k change room.lines (place_in number room.lines) room.hub leaves a.fit)

-- one that adds nothing
pub on_number_same : (s m : ℕ) (change : Changes) (number : ℕ) (room : Room) → AtMost s m room → ((n : ℕ) (x : Exchange) (hub : Hub) → Adds 0 x (change n x hub).0)
    → AtMost s m (on_number change number room)
on_number_same s m change number room a adds =
    at_most_more s (m + 0) m (on_number change number room) (omega arith)
    (on_number_most s m 0 change number room a (λ n x hub fits. adds_leaves s 0 x (change n x hub).0 (adds n x hub) fits))

on_context_same : (s m : ℕ) (change : Changes) (vm context : ℕ) (room : Room) → AtMost s m room → ((n : ℕ) (x : Exchange) (hub : Hub) → Adds 0 x (change n x hub).0)
    → AtMost s m (on_context change vm context room)
on_context_same s m change vm context room a adds =
    at_most_more s (m + 0) m (on_context change vm context room) (omega arith)
    (with_lines_most s m 0 room (at_place change room.lines (place_of vm context room.lines) room.hub) a
    (at_place_leaves s 0 change room.lines (place_of vm context room.lines) room.hub (λ n x hub fits. adds_leaves s 0 x (change n x hub).0 (adds n x hub) fits) a.fit))

-- ---- callouts

-- of one that has begun nothing is unread
calls_left-append : (calls : List Callout) (c : Callout) → calls_left (calls ++ c ∷ []) ≡ calls_left calls + length c.reader.unread
calls_left-append [] c = omega arith
calls_left-append (d ∷ calls) c = let e = calls_left-append calls c in omega arith

-- ---- the effects of a callback

does_most : (s m vm : ℕ) (own : Owner) (context : ℕ) (w : EffectKind) (room : Room) → AtMost s m room → AtMost s m (apply_effect vm own context w room)
does_most s m vm own context (what.Continue response) room a =
    of_if (λ (r : Room). AtMost s m r) (is_own own context response) _ _ (λ is. a)
    (λ is. on_context_same s m (resume_context vm context response) vm context room a (λ n x hub. resumes_adds vm context response n x hub))
does_most s m vm own context what.Close room a = on_context_same s m close_exchange vm context room a (λ n x hub. closed_adds n x hub)
does_most s m vm own context (what.Call request) room a =
    record { fit = a.fit; few = omega (arith, a.few, calls_left-append room.calls (begun (next_call room) room.hub.moment request)) }
does_most s m vm own context (what.Answer status fields body) room a =
    on_context_same s m (apply_change (changes.Answer status fields body)) vm context room a (λ n x hub. answer_adds n false status fields.pairs body x hub)

effects_most : (s m vm : ℕ) (own : Owner) (es : List Effect) (room : Room) → AtMost s m room → AtMost s m (effects_of vm own es room)
effects_most s m vm own [] room a = a
effects_most s m vm own (e ∷ es) room a = effects_most s m vm own es (apply_effect vm own e.context e.what room) (does_most s m vm own e.context e.what room a)

-- nothing but the contexts and what is sent is another
as_before : (s m : ℕ) (room : Room) (hub : Hub) → AtMost s m room → AtMost s m (record room { hub = hub })
as_before s m room hub a = record { fit = a.fit; few = omega (arith, a.few) }

pub contexts_most : (s m : ℕ) (h : Contexts) (room : Room) → AtMost s m room → AtMost s m (with_contexts h room)
contexts_most s m h room a = as_before s m room (record room.hub { contexts = h }) a

pub sending_most : (s m : ℕ) (more : List Sent) (room : Room) → AtMost s m room → AtMost s m (room_with_sent more room)
sending_most s m more room a = as_before s m room (room_with_sent more room).hub a

-- a VM dies
pub died_most : (s m vm : ℕ) (death : Death) (room : Room) → AtMost s m room → AtMost s m (lose_vm_in vm death room)
died_most s m vm death room a =
    let told : Room = room_with_sent (Log Critical (death_text (vm_in room.hub.contexts vm).name death) ∷ []) room in
    let l = all_lines_leave s (lose_vm vm) room.lines told.hub (λ n x hub fits. adds_leaves s 0 x (lose_vm vm n x hub).0 (dies_adds vm n x hub) fits) a.fit in
    record { fit = l.fit; few = omega (arith, a.few, l.few) }

behind_most : (s m vm : ℕ) (own : Owner) (end : CallbackEnd) (effects : List Effect) (room : Room) → AtMost s m room → AtMost s m (after_callback vm own end effects room)
behind_most s m vm own (call_ends.Returned value) effects room a = effects_most s m vm own effects room a
behind_most s m vm own (call_ends.Died death) effects room a = died_most s m vm death room a

pub answered_most : (s m vm : ℕ) (own : Owner) (end : CallbackEnd) (lines : List Sent) (h : Contexts) (room : Room) → AtMost s m room → AtMost s m (take_callback_end vm own end lines h room)
answered_most s m vm own end lines h room a =
    behind_most s m vm own end h.effects (without_effects (room_with_sent lines (with_contexts h room)))
    (contexts_most s m _ (room_with_sent lines (with_contexts h room)) (sending_most s m lines (with_contexts h room) (contexts_most s m h room a)))

-- ---- callbacks

-- what holds at each end holds of what follows from it
pub all_map : {A : Type 0} (P Q : A → Type 0) (p : Course A) → ((a : A) → P a → Q a) → AllEnds P p → AllEnds Q p
all_map P Q (ends a) next all = next a all
all_map P Q (asks vm call k) next all = λ r. all_map P Q (k r) next (all r)
all_map P Q (measures vm call k) next all = λ r. all_map P Q (k r) next (all r)
all_map P Q (hears t k) next all = λ h is. all_map P Q (k h) next (all h is)

-- Its exchanges fit, and less is left to do than in another room.
pub record IsLess (s : ℕ) (old room : Room) : Type 0 where
  pub fit : AllFit s room.lines
  pub less : work_left s room < work_left s old

pub less_of : (s m : ℕ) (old room : Room) → m < work_left s old → AtMost s m room → IsLess s old room
less_of s m old room less a = record { fit = a.fit; less = omega (arith, a.few, less) }

module _ {H : Type 0} (calling : H → ℕ → Callback → ℕ → ℕ → ℕ → ℕ → Contexts → Program (Called H)) where
  -- A CALLBACK leaves no more to do, whatever it does
  pub called_in_most : (s m vm : ℕ) (name : Callback) (context first second : ℕ) (own : Owner) (host : H) (room : Room) → AtMost s m room
      → AllEnds (λ (a : Answered H). AtMost s m a.both.room) (called_in calling vm name context first second own host room)
  called_in_most s m vm name context first second own host room a =
      all_behind (λ (r : Answered H). AtMost s m r.both.room) (calling host vm name context first second room.hub.moment room.hub.contexts) _
      (λ c. answered_most s m vm own c.end c.lines c.contexts room a)

  called_live_most : (s m vm : ℕ) (name : Callback) (context first second : ℕ) (host : H) (room : Room) → AtMost s m room
      → AllEnds (λ (a : Answered H). AtMost s m a.both.room) (called_live calling vm name context first second host room)
  called_live_most s m vm name context first second host room a =
      of_if (λ (c : Course (Answered H)). AllEnds (λ (r : Answered H). AtMost s m r.both.room) c) (is_dead vm room) _ _ (λ is. a)
      (λ is. called_in_most s m vm name context first second Nobody host room a)

  -- and then what comes after it, which leaves so much more
  pub calls_live_most : (s m n vm : ℕ) (name : Callback) (context first second : ℕ) (then_ : Then) (host : H) (room : Room) → AtMost s m room
      → ((value : Option (Option ℕ)) (r : Room) → AtMost s m r → AtMost s n (then_ value r))
      → AllEnds (λ (b : Both H). AtMost s n b.room) (calls_live calling vm name context first second then_ host room)
  calls_live_most s m n vm name context first second then_ host room a next =
      all_then (λ (r : Answered H). AtMost s m r.both.room) (λ (b : Both H). AtMost s n b.room) (called_live calling vm name context first second host room) _
      (called_live_most s m vm name context first second host room a) (λ r most. next r.value r.both.room most)
