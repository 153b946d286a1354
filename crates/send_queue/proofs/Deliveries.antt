-- What turns deliver, one after another.
use Rattle.std.proofs.Common.{◌≡◌, inl, inr, ℕ, zero, suc, Bool, true, false, List, [], ◌∷◌, ◌++◌, Contains, Option, None, Some, refl, sym, ◌∙◌, ap, subst, append_assoc, arith, Ok}
use Rattle.std.proofs.lemmas.List.{append-nil}
use Rattle.std.proofs.lemmas.Bool.{cases_Bool, OnTrue_at, OnFalse_at, OnTrue_from, OnFalse_from}
use Rattle.gate_io.specs.Events.{is_stop}
use Rattle.gate_io.specs.Passing.{asking, happened, received, short_from, Shortfall}
use Rattle.gate_io.specs.Reads.{happened-append, received-append}
use Rattle.gate_io.specs.Told.{Gains, gains_more}
use Rattle.gate_io.specs.declared.event.Event.{Event}
use Rattle.gate_io.specs.declared.event.Sent.{Sent}
use Rattle.gate_io.specs.declared.event.Side.{Side}
use Rattle.gate_io.specs.declared.event.What.{What}
use Rattle.gate_io.specs.declared.event.What.TheVariants.{Opened, Bytes, End, Gone, Joined, Refused, Room, Clock, Stop}
use Rattle.gate_io.specs.declared.passed.Passed.{Passed}
use Rattle.gate_io.specs.declared.passed.Passed.TheVariants.{Asked, Gave, Took, Short}
use Rattle.gate_io.specs.declared.passed.Wants.{Wants}
use Rattle.send_queue.specs.Cleared.{still_waiting, ended_by, without, without_ended}
use Rattle.send_queue.specs.Delivery.{WasShort, NeverShort, solid, Delivered, Prompt, Offered}
use Rattle.send_queue.specs.Places.{Mark, marks_at}
use Rattle.send_queue.specs.Turns.{OneTurn, to_go, HandsOver, Delivers, all_sent, StaysOpen, events_of}
use Rattle.send_queue.specs.declared.place.Destination.{Destination}
use Rattle.send_queue.specs.declared.place.Destination.TheVariants.{Peer, Journal}
use Rattle.send_queue.proofs.Marks.{cases_place, marks_at-append, marks_at-without_same, marks_at-without_other}
use Rattle.send_queue.proofs.Offers.{was_short-left, was_short-right, solid-append}

marks_at-without_ended : (place : Destination) (ended : Option Destination) (waiting : List Sent) → (ended ≡ Some place → ⊥) → marks_at place (without_ended ended waiting) ≡ marks_at place waiting
marks_at-without_ended place None waiting open_still = refl
marks_at-without_ended place (Some gone) waiting open_still = marks_at-without_other place gone waiting (λ e. open_still (ap Some e))

-- an event drops nothing at a place that it doesn't end
pub marks_at-cleared : (what : What) (place : Destination) (waiting : List Sent) → (ended_by what ≡ Some place → ⊥) → marks_at place (still_waiting what waiting) ≡ marks_at place waiting
marks_at-cleared what place waiting open_still = marks_at-without_ended place (ended_by what) waiting open_still

-- and all at the one that it ends
pub marks_at-cleared_ended : (what : What) (place : Destination) (waiting : List Sent) → ended_by what ≡ Some place → marks_at place (still_waiting what waiting) ≡ []
marks_at-cleared_ended what place waiting is = ap (λ (o : Option Destination). marks_at place (without_ended o waiting)) is ∙ marks_at-without_same place waiting

without_ended-none : (ended : Option Destination) → without_ended ended [] ≡ []
without_ended-none None = refl
without_ended-none (Some place) = refl

-- what nothing waited at stays so
marks_at-cleared_none : (what : What) (place : Destination) (waiting : List Sent) → marks_at place waiting ≡ [] → marks_at place (still_waiting what waiting) ≡ []
marks_at-cleared_none what place waiting none = go (ended_by what)
  where
    go : (ended : Option Destination) → marks_at place (without_ended ended waiting) ≡ []
    go None = none
    go (Some gone) = elim (cases_place gone place) [
      | inl same ↦ subst (λ (p : Destination). marks_at place (without p waiting) ≡ []) (sym same) (marks_at-without_same place waiting)
      | inr other ↦ marks_at-without_other place gone waiting other ∙ none
    ]

-- no line of the log fell short
pub log_is_never_short : (steps : List Passed) → WasShort Journal steps → ⊥
log_is_never_short [] short = short
log_is_never_short (Asked wants ∷ steps) short = log_is_never_short steps short
log_is_never_short (Gave event ∷ steps) short = log_is_never_short steps short
log_is_never_short (Took member ∷ steps) short = log_is_never_short steps short
log_is_never_short (Short line side ∷ steps) (inl is) = cc
log_is_never_short (Short line side ∷ steps) (inr short) = log_is_never_short steps short

pub log_never_waits : (waited before : List Sent) (steps : List Passed) (after : List Sent) → Prompt waited before steps after → marks_at Journal waited ≡ [] → marks_at Journal after ≡ []
log_never_waits waited before steps after prompt none = elim (prompt.only_short Journal none) [ inl empty ↦ empty | inr short ↦ absurd (log_is_never_short steps short) ]

-- A `send` that fell short is noted with the number of events so far.
pub short_is_noted : (n line : ℕ) (side : Side) (steps : List Passed) → happened steps ≡ [] → WasShort (Peer line side) steps → Contains (short_from n steps) (record { line = line; side = side; given = n })
short_is_noted n line side [] none short = elim short [ ]
short_is_noted n line side (Asked wants ∷ steps) none short = short_is_noted n line side steps none short
short_is_noted n line side (Gave event ∷ steps) none short = absurd (cc)
short_is_noted n line side (Took member ∷ steps) none short = short_is_noted n line side steps none short
short_is_noted n line side (Short l s ∷ steps) none (inl is) =
    let e : l ≡ line = cc is in
    let f : s ≡ side = cc is in
    (0, omega arith, λ i. record { line = e i; side = f i; given = n })
short_is_noted n line side (Short l s ∷ steps) none (inr short) = let found = short_is_noted n line side steps none short in (suc found.0, omega (arith, found.1), found.2)

-- And what is noted with it fell short.
pub noted_is_short : (n line : ℕ) (side : Side) (steps : List Passed) → happened steps ≡ [] → Contains (short_from n steps) (record { line = line; side = side; given = n }) → WasShort (Peer line side) steps
noted_is_short n line side [] none (k, below, is) = absurd (omega (arith, below))
noted_is_short n line side (Asked wants ∷ steps) none noted = noted_is_short n line side steps none noted
noted_is_short n line side (Gave event ∷ steps) none noted = absurd (cc)
noted_is_short n line side (Took member ∷ steps) none noted = noted_is_short n line side steps none noted
noted_is_short n line side (Short l s ∷ steps) none (zero, below, is) = inl (ap (λ (r : Shortfall). Peer r.line r.side) is)
noted_is_short n line side (Short l s ∷ steps) none (suc k, below, is) = inr (noted_is_short n line side steps none (k, omega (arith, below), is))

-- A turn in which all was offered.
pub hands_over : (waiting : List Sent) (turn : OneTurn) (wants : Wants) (taken : List Passed) (rest : List Sent) → is_stop turn.event.what ≡ false → Delivered (to_go waiting turn) taken rest
    → Prompt [] (to_go waiting turn) taken rest → HandsOver waiting turn (Asked wants ∷ Gave turn.event ∷ taken) rest
hands_over waiting turn wants taken rest goes_on delivered prompt = record {
  wants = wants;
  taken = taken;
  steps_are = refl;
  delivered = delivered;
  offered = OnFalse_from (is_stop turn.event.what) _ (λ e. prompt);
  stopped = OnTrue_from (is_stop turn.event.what) _ (λ e. absurd (let f : true ≡ false = sym e ∙ goes_on in cc));
}

-- What a world told of a turn: it gave the event, and then all that was to go was offered to it.
pub told_of_turn : (old mid new : Option (List Passed)) (wants : Wants) (event : Event) (taken : List Passed) → Gains old (asking wants (Ok event)) mid → Gains mid taken new → Gains old (Asked wants ∷ Gave event ∷ taken) new
told_of_turn old mid new wants event taken given told = gains_more old (asking wants (Ok event)) mid taken new given told

pub handed_over : {E : Type 0} (takes_whole : Bool) (mid new : Option (List Passed)) (waiting : List Sent) (turn : OneTurn) (wants : Wants) (before after : List Sent) → is_stop turn.event.what ≡ false
    → before ≡ to_go waiting turn → (offered : Offered {E = E} takes_whole mid [] before (Ok tt) new after) → HandsOver waiting turn (Asked wants ∷ Gave turn.event ∷ offered.steps) after
handed_over takes_whole mid new waiting turn wants before after goes_on is offered =
    hands_over waiting turn wants offered.steps after goes_on
    (subst (λ (l : List Sent). Delivered l offered.steps after) is (subst (λ (l : List Sent). Delivered before offered.steps l) offered.waits.0 offered.delivered))
    (subst (λ (l : List Sent). Prompt [] l offered.steps after) is (subst (λ (l : List Sent). Prompt [] before offered.steps l) offered.waits.0 offered.waits.1))

-- an event that is not Stop
pub is_no_stop : (what : What) → (what ≡ Stop → ⊥) → is_stop what ≡ false
is_no_stop (Opened line) other = refl
is_no_stop (Bytes line side bytes) other = refl
is_no_stop (End line side) other = refl
is_no_stop (Gone line side) other = refl
is_no_stop (Joined line) other = refl
is_no_stop (Refused line) other = refl
is_no_stop (Room line side) other = refl
is_no_stop Clock other = refl
is_no_stop Stop other = absurd (other refl)

-- The turn of Stop, in which nothing is sent and nothing is offered.
pub stands_still : (waiting : List Sent) (event : Event) (wants : Wants) → event.what ≡ Stop → HandsOver waiting (record { event = event; sent = [] }) (Asked wants ∷ Gave event ∷ []) waiting
stands_still waiting event wants is = record {
  wants = wants;
  taken = [];
  steps_are = refl;
  delivered = record { goes_on = λ place. ap (marks_at place) (sym (append-nil waiting) ∙ ap (λ (w : What). still_waiting w waiting ++ []) (sym is)); stops = tt; waits_short = λ place h. absurd h; no_event = refl; not_asked = refl };
  offered = OnFalse_from (is_stop event.what) _ (λ e. absurd (let f : true ≡ false = ap is_stop (sym is) ∙ e in cc));
  stopped = OnTrue_from (is_stop event.what) _ (λ e. (refl, refl, refl));
}

pub delivers_none : (waiting : List Sent) → Delivers waiting [] [] waiting
delivers_none waiting = (refl, refl)

-- one turn more
pub delivers-push : (waiting : List Sent) (turns : List OneTurn) (steps : List Passed) (kept : List Sent) (turn : OneTurn) (now : List Passed) (rest : List Sent) → Delivers waiting turns steps kept
    → HandsOver kept turn now rest → Delivers waiting (turns ++ turn ∷ []) (steps ++ now) rest
delivers-push waiting [] steps kept turn now rest so_far here =
    (now, [], rest, ap (λ (l : List Passed). l ++ now) so_far.0 ∙ sym (append-nil now), subst (λ (w : List Sent). HandsOver w turn now rest) so_far.1 here, (refl, refl))
delivers-push waiting (x ∷ turns) steps kept turn now rest so_far here = (
  so_far.0,
  so_far.1 ++ now,
  so_far.2,
  ap (λ (l : List Passed). l ++ now) so_far.3 ∙ append_assoc so_far.0 so_far.1 now,
  so_far.4,
  delivers-push so_far.2 turns so_far.1 kept turn now rest so_far.5 here,
)

pub happened-of_turns : (waiting : List Sent) (turns : List OneTurn) (steps : List Passed) (rest : List Sent) → Delivers waiting turns steps rest → happened steps ≡ events_of turns
happened-of_turns waiting [] steps rest delivers = ap happened delivers.0
happened-of_turns waiting (turn ∷ turns) steps rest delivers =
    let here = delivers.4 in
    ap happened delivers.3
    ∙ happened-append delivers.0 delivers.1
    ∙ (λ i. happened (here.steps_are i) ++ happened-of_turns delivers.2 turns delivers.1 rest delivers.5 i)
    ∙ ap (λ (l : List Event). turn.event ∷ l ++ events_of turns) here.delivered.no_event

-- what a turn received is what was taken in it
received-of_turn : (waiting : List Sent) (turn : OneTurn) (steps : List Passed) (rest : List Sent) (here : HandsOver waiting turn steps rest) → received steps ≡ received here.taken
received-of_turn waiting turn steps rest here = ap received here.steps_are

was_short-of_turn : (waiting : List Sent) (turn : OneTurn) (steps : List Passed) (rest : List Sent) (here : HandsOver waiting turn steps rest) (place : Destination) → WasShort place here.taken → WasShort place steps
was_short-of_turn waiting turn steps rest here place short = subst (WasShort place) (sym here.steps_are) short

pub marks_at-of_turns : (place : Destination) (waiting : List Sent) (turns : List OneTurn) (steps : List Passed) (rest : List Sent) → Delivers waiting turns steps rest → StaysOpen place turns
    → marks_at place (received steps) ++ marks_at place rest ≡ marks_at place waiting ++ marks_at place (all_sent turns)
marks_at-of_turns place waiting [] steps rest delivers stays =
    (λ i. marks_at place (received (delivers.0 i)) ++ marks_at place (delivers.1 i)) ∙ sym (append-nil (marks_at place waiting))
marks_at-of_turns place waiting (turn ∷ turns) steps rest delivers stays =
    let now = delivers.0 in
    let later = delivers.1 in
    let kept = delivers.2 in
    let here = delivers.4 in
    ap (λ (l : List Passed). marks_at place (received l) ++ marks_at place rest) delivers.3
    ∙ ap (λ (l : List Mark). l ++ marks_at place rest) (ap (marks_at place) (received-append now later) ∙ marks_at-append place (received now) (received later))
    ∙ append_assoc (marks_at place (received now)) (marks_at place (received later)) (marks_at place rest)
    ∙ ap (λ (l : List Mark). marks_at place (received now) ++ l) (marks_at-of_turns place kept turns later rest delivers.5 stays.1)
    ∙ sym (append_assoc (marks_at place (received now)) (marks_at place kept) (marks_at place (all_sent turns)))
    ∙ ap (λ (l : List Mark). l ++ marks_at place (all_sent turns))
    (ap (λ (l : List Sent). marks_at place l ++ marks_at place kept) (received-of_turn waiting turn now kept here)
    ∙ here.delivered.goes_on place
    ∙ marks_at-append place (still_waiting turn.event.what waiting) turn.sent
    ∙ ap (λ (l : List Mark). l ++ marks_at place turn.sent) (marks_at-cleared turn.event.what place waiting stays.0))
    ∙ append_assoc (marks_at place waiting) (marks_at place turn.sent) (marks_at place (all_sent turns))
    ∙ ap (λ (l : List Mark). marks_at place waiting ++ l) (sym (marks_at-append place turn.sent (all_sent turns)))

-- nothing waits after a turn in which no `send` to the place fell short
none_waits : (place : Destination) (waiting : List Sent) (turn : OneTurn) (steps : List Passed) (rest : List Sent) → HandsOver waiting turn steps rest → marks_at place waiting ≡ []
    → (WasShort place steps → ⊥) → marks_at place rest ≡ []
none_waits place waiting turn steps rest here none never = elim (cases_Bool (is_stop turn.event.what)) [
  | inl stop ↦ ap (marks_at place) (OnTrue_at stop here.stopped).2 ∙ none
  | inr goes_on ↦ elim ((OnFalse_at goes_on here.offered).only_short place refl) [ inl empty ↦ empty | inr short ↦ absurd (never (was_short-of_turn waiting turn steps rest here place short)) ]
]

pub nothing_waits : (place : Destination) (waiting : List Sent) (turns : List OneTurn) (steps : List Passed) (rest : List Sent) → Delivers waiting turns steps rest → marks_at place waiting ≡ []
    → (WasShort place steps → ⊥) → marks_at place rest ≡ []
nothing_waits place waiting [] steps rest delivers none never = ap (marks_at place) delivers.1 ∙ none
nothing_waits place waiting (turn ∷ turns) steps rest delivers none never =
    let empty = none_waits place waiting turn delivers.0 delivers.2 delivers.4 none (λ short. never (subst (WasShort place) (sym delivers.3) (was_short-left place delivers.0 delivers.1 short))) in
    nothing_waits place delivers.2 turns delivers.1 rest delivers.5 empty (λ short. never (subst (WasShort place) (sym delivers.3) (was_short-right place delivers.0 delivers.1 short)))

-- what a turn sends is received member by member where nothing waited and no `send` fell short
goes_whole : (turn : OneTurn) (steps : List Passed) (rest : List Sent) → HandsOver [] turn steps rest → NeverShort steps → (received steps ≡ solid turn.sent) × (rest ≡ [])
goes_whole turn steps rest here never = elim (cases_Bool (is_stop turn.event.what)) [
  | inl stop ↦
      let still = OnTrue_at stop here.stopped in
      (received-of_turn [] turn steps rest here ∙ ap received still.1 ∙ sym (ap solid still.0), still.2)
  | inr goes_on ↦
      let whole = (OnFalse_at goes_on here.offered).whole refl (λ place short. never place (was_short-of_turn [] turn steps rest here place short)) in
      (received-of_turn [] turn steps rest here ∙ whole.0 ∙ ap (λ (l : List Sent). solid (l ++ turn.sent)) (without_ended-none (ended_by turn.event.what)), whole.1)
]

pub in_order : (turns : List OneTurn) (steps : List Passed) (rest : List Sent) → Delivers [] turns steps rest → NeverShort steps → (received steps ≡ solid (all_sent turns)) × (rest ≡ [])
in_order [] steps rest delivers never = (ap received delivers.0, delivers.1)
in_order (turn ∷ turns) steps rest delivers never =
    let here = goes_whole turn delivers.0 delivers.2 delivers.4 (λ place short. never place (subst (WasShort place) (sym delivers.3) (was_short-left place delivers.0 delivers.1 short))) in
    let later =
    in_order turns delivers.1 rest (subst (λ (w : List Sent). Delivers w turns delivers.1 rest) here.1 delivers.5)
    (λ place short. never place (subst (WasShort place) (sym delivers.3) (was_short-right place delivers.0 delivers.1 short))) in
    (ap received delivers.3 ∙ received-append delivers.0 delivers.1 ∙ (λ i. here.0 i ++ later.0 i) ∙ sym (solid-append turn.sent (all_sent turns)), later.1)
