-- Failures are answered.
use Rattle.std.proofs.Common.{◌≡◌, ◌==◌, ℕ, zero, suc, Bool, true, false, not, ◌&&◌, ◌||◌, if◌then◌else◌, List, [], ◌∷◌, Option, Some, refl, ap, ◌∙◌, eq-eqb}
use Rattle.std.specs.Prelude.{slice_get}
use Rattle.std.specs.List.{list_any}
use Rattle.contexts.specs.Reached.{vm_in}
use Rattle.exchange.specs.Answering.{answer_directly}
use Rattle.exchange.specs.Leaving.{hub_with_sent}
use Rattle.exchange.specs.Passing.{lose_vm, fails_closed, is_there, bypass_vm, refuse_exchange}
use Rattle.exchange.specs.declared.types.Exchange.{Exchange}
use Rattle.exchange.specs.declared.types.Filter.{Filter}
use Rattle.exchange.specs.declared.types.Hub.{Hub}
use Rattle.gate_base.specs.declared.level.Level.TheVariants.{Critical}
use Rattle.gate_io.specs.declared.event.Sent.TheVariants.{Log}
use Rattle.worker_model.specs.Room.{Room}
use Rattle.worker_model.specs.Rooms.{all_lines, death_text, in_exchange, in_line, lose_vm_in, on_number}
use Rattle.worker_model.specs.Steps.{exchange_on, lose_server}
use Rattle.worker_model.specs.declared.types.Line.{Line}
use Rattle.worker_model.specs.declared.types.TcpLine.{TcpLine}
use Rattle.streams_model.specs.Lines as streams
use Rattle.streams_model.specs.Rooms as stream_rooms
use Rattle.promises.specs.Failures.{FailuresAreAnswered, FailsClosed, StreamFailsClosed, Waits}
use Rattle.promises.proofs.Files.{some_same}

or_true : (a b : Bool) → b ≡ true → (a || b) ≡ true
or_true true b h = refl
or_true false b h = h

any_at : {A : Type 0} (p : A → Bool) (xs : List A) (i : ℕ) (x : A) → slice_get xs i ≡ Some x → p x ≡ true → list_any p xs ≡ true
any_at p [] zero x at is = absurd (cc at)
any_at p [] (suc i) x at is = absurd (cc at)
any_at p (y ∷ xs) zero x at is = ap (λ (b : Bool). b || list_any p xs) (ap p (some_same y x at) ∙ is)
any_at p (y ∷ xs) (suc i) x at is = or_true (p y) (list_any p xs) (any_at p xs i x at is)

closes : (vm : ℕ) (x : Exchange) → FailsClosed vm x → fails_closed vm x ≡ true
closes vm x f =
    any_at (λ (g : Filter). (g.vm == vm && not g.fails_open) && is_there x g) x.filters f.place f.its f.at
    (λ k. (eq-eqb f.its.vm vm f.of_vm k && not (f.is_closed k)) && f.there k)

closed : (n vm : ℕ) (x : Exchange) (hub : Hub) → FailsClosed vm x → lose_vm vm n x hub ≡ answer_directly n 503 [] [] x hub
closed n vm x hub f = λ k. if f.runs k then (x, hub) else if closes vm x f k then answer_directly n 503 [] [] x hub else bypass_vm vm n x hub

-- ---- on the lines of a worker

abbrev answered_on : Line → Exchange × Hub → Line
answered_on l xh = record l { exchange = Some xh.0 }

on_line : (vm : ℕ) (l : Line) (x : Exchange) (hub : Hub) → l.exchange ≡ Some x → FailsClosed vm x → (in_line (lose_vm vm) l hub).0 ≡ answered_on l (answer_directly l.number 503 [] [] x hub)
on_line vm l x hub on f = ap (λ (o : Option Exchange). (in_exchange (lose_vm vm) l o hub).0) on ∙ ap (answered_on l) (closed l.number vm x hub f)

on_lines : (vm : ℕ) (lines : List Line) (hub : Hub) (place : ℕ) (l : Line) (x : Exchange) → slice_get lines place ≡ Some l → l.exchange ≡ Some x → FailsClosed vm x
    → (h : Hub) × (slice_get (all_lines (lose_vm vm) lines hub).0 place ≡ Some (answered_on l (answer_directly l.number 503 [] [] x h)))
on_lines vm [] hub zero l x at on f = absurd (cc at)
on_lines vm [] hub (suc place) l x at on f = absurd (cc at)
on_lines vm (y ∷ lines) hub zero l x at on f =
    (hub, ap (λ (z : Line). Some (in_line (lose_vm vm) z hub).0) (some_same y l at) ∙ ap (λ (z : Line). Some z) (on_line vm l x hub on f))
on_lines vm (y ∷ lines) hub (suc place) l x at on f = on_lines vm lines (in_line (lose_vm vm) y hub).1 place l x at on f

-- ---- on streams of bytes

stream_closes : (vm : ℕ) (l : TcpLine) → StreamFailsClosed vm l → streams.fails_closed vm l ≡ true
stream_closes vm l f =
    any_at (λ (g : Filter). (g.vm == vm && not g.fails_open) && streams.is_there l g) l.filters f.place f.its f.at
    (λ k. (eq-eqb f.its.vm vm f.of_vm k && not (f.is_closed k)) && f.there k)

stream_ends : (vm : ℕ) (l : TcpLine) (hub : Hub) → StreamFailsClosed vm l → streams.lose_vm vm l hub ≡ streams.in_line streams.close_stream l hub
stream_ends vm l hub f = λ k.
    if f.runs k then (l, hub) else if stream_closes vm l f k then streams.in_line streams.close_stream l hub else streams.in_line (streams.bypass_vm vm) l hub

on_streams : (vm : ℕ) (lines : List TcpLine) (hub : Hub) (place : ℕ) (l : TcpLine) → slice_get lines place ≡ Some l → StreamFailsClosed vm l
    → (h : Hub) × (slice_get (stream_rooms.all_lines (streams.lose_vm vm) lines hub).0 place ≡ Some (streams.in_line streams.close_stream l h).0)
on_streams vm [] hub zero l at f = absurd (cc at)
on_streams vm [] hub (suc place) l at f = absurd (cc at)
on_streams vm (y ∷ lines) hub zero l at f =
    (hub, ap (λ (z : TcpLine). Some (streams.lose_vm vm z hub).0) (some_same y l at) ∙ ap (λ (z : TcpLine × Hub). Some z.0) (stream_ends vm l hub f))
on_streams vm (y ∷ lines) hub (suc place) l at f = on_streams vm lines (streams.lose_vm vm y hub).1 place l at f

-- ---- a lost server

missed : (n : ℕ) (x : Exchange) (room : Room) → exchange_on n room ≡ Some x → Waits x → lose_server n (exchange_on n room) room ≡ on_number (refuse_exchange 502) n room
missed n x room on w =
    ap (λ (o : Option Exchange). lose_server n o room) on ∙ (λ k. if (w.has_reader k && not (w.unread k || w.unanswered k)) then on_number (refuse_exchange 502) n room else room)

pub failures_are_answered : FailuresAreAnswered
failures_are_answered = record {
  closed = closed;
  lines = λ vm place death room l x at on f.
      on_lines vm room.lines (hub_with_sent (Log Critical (death_text (vm_in room.hub.contexts vm).name death) ∷ []) room.hub) place l x at on f;
  gone = missed;
  not_reached = missed;
  streams = λ vm place death room l at f. on_streams vm room.tcp (lose_vm_in vm death room).hub place l at f;
}
