-- How much waits behind turns.
use Rattle.std.proofs.Common.{◌≡◌, ℕ, ◌+◌, ◌≤◌, Bool, true, false, List, [], ◌∷◌, ◌++◌, refl, ap, arith}
use Rattle.std.specs.Prelude.{Option, None, Some, filter, if◌then◌else◌}
use Rattle.filter_host.specs.Called.{Calling}
use Rattle.gate_io.specs.declared.event.Sent.{Sent}
use Rattle.gate_io.specs.declared.event.Side.{Side}
use Rattle.gate_io.specs.declared.event.Side.TheVariants.{Down, Up}
use Rattle.gate_io.specs.declared.event.What.{What}
use Rattle.gate_io.specs.declared.event.What.TheVariants.{Opened, Bytes, End, Gone, Joined, Refused, Room, Clock, Stop}
use Rattle.gate_io.specs.declared.passed.Passed.{Passed}
use Rattle.gate_io.specs.Passing.{received}
use Rattle.send_queue.proofs.Marks.{octets_in-append}
use Rattle.send_queue.specs.Cleared.{still_waiting, ended_by, without_ended}
use Rattle.send_queue.specs.Places.{Mark, marks_at, octets_in}
use Rattle.send_queue.specs.Turns.{OneTurn, HandsOver, all_sent, to_go}
use Rattle.send_queue.specs.declared.place.Destination.{Destination}
use Rattle.send_queue.specs.declared.place.Destination.TheVariants.{Peer}
use Rattle.store_model.specs.Made.{Made}
use Rattle.worker_model.specs.State.{Standing, rules_of}
use Rattle.law_turns.proofs.Backlog.{backlog_is_bounded, waits}
use Rattle.law_turns.specs.Backlog.{FitsBacklog, backlog, bytes_to}
use Rattle.law_turns.specs.BacklogTurns.{BacklogIsKept, EventsFit, Obeyed, WaitsSince, a_turn, no_turn}

pub events_fit : (H : Type 0) → EventsFit H
events_fit H from before after event heard = backlog_is_bounded (rules_of from.setting) from.state.room from.waiting event.what (heard.obeys refl)

backlog-append : (line : ℕ) (side : Side) (a b : List Sent) → backlog line side (a ++ b) ≡ backlog line side a + backlog line side b
backlog-append line side [] b = omega arith
backlog-append line side (m ∷ a) b = omega (arith, backlog-append line side a b)

-- some of it
filter_less : (line : ℕ) (side : Side) (test : Sent → Bool) (l : List Sent) → backlog line side (filter test l) ≤ backlog line side l
filter_less line side test [] = omega arith
filter_less line side test (m ∷ l) = by_test (filter_less line side test l) (test m)
  where
    by_test : backlog line side (filter test l) ≤ backlog line side l → (b : Bool)
        → backlog line side (if b then m ∷ filter test l else filter test l) ≤ bytes_to line side m + backlog line side l
    by_test later true = omega (arith, later)
    by_test later false = omega (arith, later)

-- what an event drops of it
cleared_less : (line : ℕ) (side : Side) (what : What) (waiting : List Sent) → backlog line side (still_waiting what waiting) ≤ backlog line side waiting
cleared_less line side what waiting = by_place (ended_by what)
  where
    by_place : (o : Option Destination) → backlog line side (without_ended o waiting) ≤ backlog line side waiting
    by_place None = omega arith
    by_place (Some place) = filter_less line side _ waiting

-- what is handed over waits no longer
handed_less : (line : ℕ) (side : Side) (waiting : List Sent) (turn : OneTurn) (steps : List Passed) (rest : List Sent) → HandsOver waiting turn steps rest
    → backlog line side rest ≤ backlog line side waiting + backlog line side turn.sent
handed_less line side waiting turn steps rest hands =
    let place : Destination = Peer line side in
    let same : octets_in (marks_at place (received hands.taken) ++ marks_at place rest) ≡ octets_in (marks_at place (to_go waiting turn))
    = ap (λ (m : List Mark). octets_in m) (hands.delivered.goes_on place) in
    omega (
      arith,
      same,
      octets_in-append (marks_at place (received hands.taken)) (marks_at place rest),
      waits line side rest,
      waits line side (to_go waiting turn),
      backlog-append line side (still_waiting turn.event.what waiting) turn.sent,
      cleared_less line side turn.event.what waiting,
    )

module _ {H S : Type 0} (calling : Calling H) (performs : S → List Made → S → Type 0) where
  run_less : (from to : Standing H) (turns : List OneTurn) (line : ℕ) (side : Side) → Obeyed calling performs from turns to
      → backlog line side to.waiting ≤ backlog line side from.waiting + backlog line side (all_sent turns)
  run_less _ _ _ line side (no_turn from) = omega arith
  run_less _ _ _ line side (a_turn stop before after s t old new from mid to turns w heard later) =
      omega (arith, handed_less line side from.waiting _ w.steps mid.waiting w.hands_over, run_less mid to turns line side later, backlog-append line side w.sent (all_sent turns))

  since_of : (what : What) (from to : Standing H) (sent : List Sent) → FitsBacklog from.waiting what
      → ((line : ℕ) (side : Side) → backlog line side to.waiting ≤ backlog line side from.waiting + backlog line side sent) → WaitsSince sent to.waiting what
  since_of (Opened line) from to sent fits less = tt
  since_of (Bytes line Down bytes) from to sent fits less = (omega (arith, fits.0, less line Down), omega (arith, fits.1, less line Up))
  since_of (Bytes line Up bytes) from to sent fits less = λ low. omega (arith, fits low, less line Down)
  since_of (End line side) from to sent fits less = tt
  since_of (Gone line side) from to sent fits less = tt
  since_of (Joined line) from to sent fits less = tt
  since_of (Refused line) from to sent fits less = tt
  since_of (Room line side) from to sent fits less = tt
  since_of Clock from to sent fits less = tt
  since_of Stop from to sent fits less = tt

  since_bytes : (from to : Standing H) (turn : OneTurn) (turns : List OneTurn) → Obeyed calling performs from (turn ∷ turns) to → WaitsSince (all_sent (turn ∷ turns)) to.waiting turn.event.what
  since_bytes _ _ _ _ (a_turn stop before after s t old new from mid to turns w heard later) =
      since_of w.event.what from to (w.sent ++ all_sent turns) (events_fit H from before after w.event heard)
      (λ line side. omega (arith, handed_less line side from.waiting _ w.steps mid.waiting w.hands_over, run_less mid to turns line side later, backlog-append line side w.sent (all_sent turns)))

pub backlog_is_kept : (H S : Type 0) (performs : S → List Made → S → Type 0) → BacklogIsKept H S performs
backlog_is_kept H S performs = record {
  turn = λ calling stop before after s t old new from to w heard.
      record { fits = events_fit H from before after w.event heard; behind = λ line side. handed_less line side from.waiting _ w.steps to.waiting w.hands_over };
  since = λ calling from to turn turns obeyed. since_bytes calling performs from to turn turns obeyed;
}
