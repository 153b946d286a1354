-- The worked turns, by computation, behind texts that are read.
use Rattle.std.proofs.Common.{◌≡◌, Bool, true, false, List, [], ◌∷◌, ◌++◌, map, length, None, Some, codes, refl, inl, inr, arith, lit<, lit≤}
use Rattle.std.specs.Fmt.{digits}
use Rattle.filter_host.specs.Course.{Course, ends, asks, measures, hears, Met, called, measured, heard, Reaches}
use Rattle.filter_host.specs.Heard.{Hears, hands, halts}
use Rattle.law_exchange.specs.Traffic.{opens, byte, closes, up_traffic}
use Rattle.gate_io.specs.declared.event.Side.TheVariants.{Down, Up}
use Rattle.gate_io.specs.declared.event.What.{What}
use Rattle.gate_io.specs.declared.event.What.TheVariants as whats
use Rattle.h1_write.specs.Lines.{out_wire}
use Rattle.h1_write.specs.Requests.{request_fields}
use Rattle.http_header.specs.Token.{is_token_byte}
use Rattle.h1_model.specs.Framing.{head_wire}
use Rattle.h1_model.proofs.Carried.{take_carries}
use Rattle.h1_model.proofs.Examples.{worked_head_is, worked_response_is}
use Rattle.h1_model.specs.Examples.{worked_text, worked_head, worked_wire, worked_response}
use Rattle.h1_model.specs.Head.{found, not_yet}
use Rattle.h1_model.specs.Messages.{head, body, done, counted, rest, item, stop, request, response}
use Rattle.h1_model.specs.Messages as messages
use Rattle.h1_model.specs.Moment.{year_from, month_from}
use Rattle.h1_model.specs.Unread.{Reading, head_part, piece, new_reading, reading_with_bytes, moved_on, awaiting_bytes}
use Rattle.httparse.proofs.OnLiterals.{httparse_on_literals}
use Rattle.httpdate.proofs.OnLiterals.{httpdate_on_literals}
use Rattle.matchit.proofs.OnLiterals.{matchit_on_literals}
use Rattle.worker_model.specs.NoCalls.{no_calling}
use Rattle.worker_model.specs.Settling.{settling}
use Rattle.worker_model.specs.Steps.{Both}
use Rattle.worker_model.specs.Turn.{Outcome, outcome, turn}
use Rattle.worker_model.specs.declared.no_machines.NoMachines.{NoMachines}
use Rattle.worker_model.specs.declared.types.Line.{Line}
use Rattle.law_lines.specs.Examples.{open_plan, new_worker, event, whole_response, worked_request, LineExamples, answered_wire}
use Rattle.law_lines.specs.Clients.{client_traffic}
use Rattle.law_lines.specs.Turns.{Done, Turns, sent_in}
use Rattle.law_lines.proofs.Refusing.{refused}

-- its end after these, or this where it has none there
abbrev end_of : {A : Type 0} → A → List Met → Course A → A
end_of a ms (ends b) = b
end_of a [] (asks vm call k) = a
end_of a (called c ∷ ms) (asks vm call k) = end_of a ms (k c.reply)
end_of a (measured c ∷ ms) (asks vm call k) = a
end_of a (heard h ∷ ms) (asks vm call k) = a
end_of a [] (measures vm call k) = a
end_of a (called c ∷ ms) (measures vm call k) = a
end_of a (measured c ∷ ms) (measures vm call k) = end_of a ms (k c.reply)
end_of a (heard h ∷ ms) (measures vm call k) = a
end_of a [] (hears r k) = a
end_of a (called c ∷ ms) (hears r k) = a
end_of a (measured c ∷ ms) (hears r k) = a
end_of a (heard h ∷ ms) (hears r k) = end_of a ms (k h)

abbrev ends_there : {A : Type 0} → List Met → Course A → Bool
ends_there [] (ends b) = true
ends_there (m ∷ ms) (ends b) = false
ends_there [] (asks vm call k) = false
ends_there (called c ∷ ms) (asks vm call k) = ends_there ms (k c.reply)
ends_there (measured c ∷ ms) (asks vm call k) = false
ends_there (heard h ∷ ms) (asks vm call k) = false
ends_there [] (measures vm call k) = false
ends_there (called c ∷ ms) (measures vm call k) = false
ends_there (measured c ∷ ms) (measures vm call k) = ends_there ms (k c.reply)
ends_there (heard h ∷ ms) (measures vm call k) = false
ends_there [] (hears r k) = false
ends_there (called c ∷ ms) (hears r k) = false
ends_there (measured c ∷ ms) (hears r k) = false
ends_there (heard h ∷ ms) (hears r k) = ends_there ms (k h)

abbrev Meets : {A : Type 0} → List Met → Course A → Type 0
Meets [] p = Unit {0}
Meets (m ∷ ms) (ends b) = ⊥
Meets (called c ∷ ms) (asks vm call k) = (c.vm ≡ vm) × (c.call ≡ call) × Meets ms (k c.reply)
Meets (measured c ∷ ms) (asks vm call k) = ⊥
Meets (heard h ∷ ms) (asks vm call k) = ⊥
Meets (called c ∷ ms) (measures vm call k) = ⊥
Meets (measured c ∷ ms) (measures vm call k) = (c.vm ≡ vm) × (c.ask ≡ call) × Meets ms (k c.reply)
Meets (heard h ∷ ms) (measures vm call k) = ⊥
Meets (called c ∷ ms) (hears r k) = ⊥
Meets (measured c ∷ ms) (hears r k) = ⊥
Meets (heard h ∷ ms) (hears r k) = Hears r h × Meets ms (k h)

reaches_end : {A : Type 0} (a : A) (ms : List Met) (p : Course A) → ends_there ms p ≡ true → Meets ms p → Reaches p ms (ends (end_of a ms p))
reaches_end a [] (ends b) there meets = refl
reaches_end a (m ∷ ms) (ends b) there meets = absurd (cc)
reaches_end a [] (asks vm call k) there meets = absurd (cc)
reaches_end a (called c ∷ ms) (asks vm call k) there meets = (meets.0, meets.1, reaches_end a ms (k c.reply) there meets.2)
reaches_end a (measured c ∷ ms) (asks vm call k) there meets = absurd (cc)
reaches_end a (heard h ∷ ms) (asks vm call k) there meets = absurd (cc)
reaches_end a [] (measures vm call k) there meets = absurd (cc)
reaches_end a (called c ∷ ms) (measures vm call k) there meets = absurd (cc)
reaches_end a (measured c ∷ ms) (measures vm call k) there meets = (meets.0, meets.1, reaches_end a ms (k c.reply) there meets.2)
reaches_end a (heard h ∷ ms) (measures vm call k) there meets = absurd (cc)
reaches_end a [] (hears r k) there meets = absurd (cc)
reaches_end a (called c ∷ ms) (hears r k) there meets = absurd (cc)
reaches_end a (measured c ∷ ms) (hears r k) there meets = absurd (cc)
reaches_end a (heard h ∷ ms) (hears r k) there meets = (meets.0, reaches_end a ms (k h) there meets.1)

abbrev course_of : Both NoMachines → What → Course (Outcome NoMachines)
course_of from what = turn no_calling open_plan from (event what)

abbrev comes_to : List Met → Course (Outcome NoMachines) → Outcome NoMachines
comes_to met course = end_of (outcome new_worker []) met course

-- ---- what is read

abbrev asked : Reading
asked = reading_with_bytes worked_text (new_reading None)

abbrev behind_asked : Reading
behind_asked = moved_on 27 head asked

abbrev answer : Reading
answer = reading_with_bytes whole_response (new_reading (Some (codes "GET")))

abbrev behind_head : Reading
behind_head = moved_on 38 (body (counted 3)) answer

abbrev behind_body : Reading
behind_body = moved_on 3 done behind_head

head_is_read : Hears asked (hands (head_part worked_head) behind_asked)
head_is_read = record { used = 27; due = head; next = inl (record { step = item (request worked_head) 27 head; there = (found worked_head 27, worked_head_is.spelled, refl); is = refl }); is = refl }

answer_is_read : Hears answer (hands (head_part worked_response) behind_head)
answer_is_read = record {
  used = 38;
  due = body (counted 3);
  next = inl (record { step = item (response worked_response) 38 (body (counted 3)); there = (found worked_response 38, worked_response_is.spelled, refl); is = refl });
  is = refl;
}

body_is_read : Hears behind_head (hands (piece (codes "abc") true) behind_body)
body_is_read = record {
  used = 3;
  due = done;
  next = inr (record {
    bytes = codes "abc";
    used = 3;
    mid = body (counted 0);
    behind = item messages.end 0 done;
    carried = take_carries false (Some (codes "GET")) 3 3 (codes "abc") (lit≤ tt) (lit≤ tt);
    some = lit< tt;
    few = lit≤ tt;
    there = refl;
    all = inl tt;
    is = refl;
  });
  is = refl;
}

nothing_is_left : Hears behind_asked (halts rest (awaiting_bytes behind_asked))
nothing_is_left = record { next = inl (record { step = stop rest; there = (not_yet, refl, refl); is = refl }); is = refl }

-- ---- a GET

abbrev get_met : List Met
get_met = heard (hands (head_part worked_head) behind_asked) ∷ []

abbrev answer_met : List Met
answer_met = heard (hands (head_part worked_response) behind_head) ∷ heard (hands (piece (codes "abc") true) behind_body) ∷ heard (halts rest (awaiting_bytes behind_asked)) ∷ []

abbrev opened : Course (Outcome NoMachines)
opened = course_of new_worker (whats.Opened 1)

abbrev getting : Course (Outcome NoMachines)
getting = course_of (comes_to [] opened).state (whats.Bytes 1 Down worked_text)

abbrev answering : Course (Outcome NoMachines)
answering = course_of (comes_to get_met getting).state (whats.Bytes 1 Up whole_response)

opened_ends : ends_there [] opened ≡ true
unfolding settling
opened_ends = refl

getting_ends : ends_there get_met getting ≡ true
unfolding settling matchit_on_literals is_token_byte
getting_ends = refl

getting_meets : Meets get_met getting
unfolding settling matchit_on_literals is_token_byte
getting_meets = (head_is_read, tt)

answering_ends : ends_there answer_met answering ≡ true
unfolding settling matchit_on_literals is_token_byte
answering_ends = refl

answering_meets : Meets answer_met answering
unfolding settling matchit_on_literals is_token_byte
answering_meets = (answer_is_read, (body_is_read, (nothing_is_left, tt)))

abbrev get_turns : List (Done NoMachines)
get_turns =
    record { event = event (whats.Opened 1); met = []; end = comes_to [] opened } ∷ record { event = event (whats.Bytes 1 Down worked_text); met = get_met; end = comes_to get_met getting }
    ∷ record { event = event (whats.Bytes 1 Up whole_response); met = answer_met; end = comes_to answer_met answering } ∷ []

get_runs : Turns no_calling open_plan new_worker get_turns (comes_to answer_met answering).state
get_runs = (
  reaches_end (outcome new_worker []) [] opened opened_ends tt,
  (reaches_end (outcome new_worker []) get_met getting getting_ends getting_meets, (reaches_end (outcome new_worker []) answer_met answering answering_ends answering_meets, refl)),
)

get_goes_up : up_traffic 1 (sent_in get_turns) ≡ opens ∷ map byte worked_wire ++ closes ∷ []
unfolding settling httparse_on_literals httpdate_on_literals digits year_from month_from matchit_on_literals is_token_byte
get_goes_up = refl

get_goes_down : client_traffic 1 (sent_in get_turns) ≡ map byte answered_wire
unfolding settling httparse_on_literals httpdate_on_literals digits year_from month_from matchit_on_literals is_token_byte
get_goes_down = refl

get_leaves : map (λ (l : Line). l.number) (comes_to answer_met answering).state.room.lines ≡ 1 ∷ []
unfolding settling matchit_on_literals is_token_byte
get_leaves = refl

-- ---- two at once

abbrev both_asked : Reading
both_asked = reading_with_bytes (worked_text ++ worked_text) (new_reading None)

abbrev behind_one : Reading
behind_one = moved_on 27 head both_asked

abbrev behind_both : Reading
behind_both = moved_on 27 head behind_one

one_is_read : Hears both_asked (hands (head_part worked_head) behind_one)
one_is_read = record { used = 27; due = head; next = inl (record { step = item (request worked_head) 27 head; there = (found worked_head 27, worked_head_is.spelled, refl); is = refl }); is = refl }

other_is_read : Hears behind_one (hands (head_part worked_head) behind_both)
other_is_read = record { used = 27; due = head; next = inl (record { step = item (request worked_head) 27 head; there = (found worked_head 27, worked_head_is.spelled, refl); is = refl }); is = refl }

abbrev one_met : List Met
one_met = heard (hands (head_part worked_head) behind_one) ∷ []

abbrev both_met : List Met
both_met = heard (hands (head_part worked_response) behind_head) ∷ heard (hands (piece (codes "abc") true) behind_body) ∷ heard (hands (head_part worked_head) behind_both) ∷ []

abbrev sending_one : Course (Outcome NoMachines)
sending_one = course_of (comes_to [] opened).state (whats.Bytes 1 Down (worked_text ++ worked_text))

abbrev sending_both : Course (Outcome NoMachines)
sending_both = course_of (comes_to one_met sending_one).state (whats.Bytes 1 Up whole_response)

one_ends : ends_there one_met sending_one ≡ true
unfolding settling matchit_on_literals is_token_byte
one_ends = refl

one_meets : Meets one_met sending_one
unfolding settling matchit_on_literals is_token_byte
one_meets = (one_is_read, tt)

both_end : ends_there both_met sending_both ≡ true
unfolding settling matchit_on_literals is_token_byte
both_end = refl

both_meet : Meets both_met sending_both
unfolding settling matchit_on_literals is_token_byte
both_meet = (answer_is_read, (body_is_read, (other_is_read, tt)))

abbrev both_turns : List (Done NoMachines)
both_turns =
    record { event = event (whats.Opened 1); met = []; end = comes_to [] opened } ∷ record { event = event (whats.Bytes 1 Down (worked_text ++ worked_text)); met = one_met; end = comes_to one_met sending_one }
    ∷ record { event = event (whats.Bytes 1 Up whole_response); met = both_met; end = comes_to both_met sending_both } ∷ []

both_run : Turns no_calling open_plan new_worker both_turns (comes_to both_met sending_both).state
both_run = (
  reaches_end (outcome new_worker []) [] opened opened_ends tt,
  (reaches_end (outcome new_worker []) one_met sending_one one_ends one_meets, (reaches_end (outcome new_worker []) both_met sending_both both_end both_meet, refl)),
)

both_go_up : up_traffic 1 (sent_in both_turns) ≡ opens ∷ map byte worked_wire ++ closes ∷ opens ∷ map byte worked_wire
unfolding settling httparse_on_literals httpdate_on_literals digits year_from month_from matchit_on_literals is_token_byte
both_go_up = refl

both_go_down : client_traffic 1 (sent_in both_turns) ≡ map byte answered_wire
unfolding settling httparse_on_literals httpdate_on_literals digits year_from month_from matchit_on_literals is_token_byte
both_go_down = refl

wire_is : out_wire worked_request ≡ worked_wire
unfolding httparse_on_literals is_token_byte
wire_is = refl

three_fields : length (request_fields worked_request.framing worked_request.head) ≡ 3
unfolding httparse_on_literals is_token_byte
three_fields = refl

head_bytes : length (head_wire worked_request.framing worked_request.head) ≡ 65
unfolding httparse_on_literals is_token_byte
head_bytes = refl

pub line_examples : LineExamples
line_examples = record {
  logs = λ host vm name context one two now h. tt;
  get = record { turns = get_turns; to = (comes_to answer_met answering).state; run = get_runs; happened = refl };
  get_up = get_goes_up;
  get_down = get_goes_down;
  get_stays = get_leaves;
  pipeline = record { turns = both_turns; to = (comes_to both_met sending_both).state; run = both_run; happened = refl };
  pipeline_up = both_go_up;
  pipeline_down = both_go_down;
  wire = wire_is;
  room = record { few = omega (arith, three_fields); short = omega (arith, head_bytes) };
  refused = refused;
}
