-- How much waits and is unread when bytes come.
use Rattle.std.proofs.Common.{◌≡◌, ℕ, zero, suc, ◌+◌, ◌<◌, ◌≤◌, Bool, true, false, ◌&&◌, List, [], ◌∷◌, ◌++◌, length, map, filter, refl, sym, ap, ◌∙◌, subst, arith}
use Rattle.std.proofs.lemmas.Bool.{and_parts, ltb-true, le-leb, false≢true}
use Rattle.std.proofs.lemmas.List.{length-append, length-drop}
use Rattle.std.specs.Prelude.{◌==◌, Contains, Option, None, Some, codes, nat_lt, if◌then◌else◌}
use Rattle.gate_io.specs.declared.event.Sent.{Sent}
use Rattle.gate_io.specs.declared.event.Sent.TheVariants as to
use Rattle.gate_io.specs.declared.event.Side.{Side}
use Rattle.gate_io.specs.declared.event.Side.TheVariants.{Down, Up}
use Rattle.gate_io.specs.declared.event.What.TheVariants.{Opened, Bytes, End, Gone, Joined, Refused, Room, Clock, Stop}
use Rattle.callouts.specs.Callouts.{is_call_line, line_of}
use Rattle.callouts.specs.declared.types.Callout.{Callout}
use Rattle.gate_io.specs.declared.passed.Wants.{Wants}
use Rattle.h1_model.specs.Chunks.{sought, section_taken}
use Rattle.h1_model.specs.Lines.{empty_line_bytes}
use Rattle.h1_model.specs.Messages.{Due, head, body, done, counted, coded, unbounded}
use Rattle.h1_model.specs.Unread.{Reading, new_reading, Act, feeds, ends, hands, halts, Does, unread_at}
use Rattle.send_queue.proofs.Marks.{octets_in-append, octets_in-map}
use Rattle.send_queue.specs.Places.{Mark, octet, opening, closing, marks_of, marks_at, octets_in, is_same_side}
use Rattle.send_queue.specs.declared.place.Destination.TheVariants.{Peer}
use Rattle.worker_model.specs.Steps.{line_in, line_reading}
use Rattle.worker_model.specs.Wants.{has_room, reads_more, reads_call_more, call_line, call_lines, is_wanted, is_up}
use Rattle.worker_model.specs.declared.types.Line.{Line}
use Rattle.worker_model.specs.declared.types.TcpLine.{TcpLine}
use Rattle.worker_model.specs.Room as rooms
use Rattle.streams_model.specs.Wants as streams
use Rattle.law_turns.specs.Backlog.{open_line, one, two, backlog_wants, wants, RoomExamples, TextExamples, LineExamples, bytes_to, backlog, BacklogIsBounded, AreApart, HasUnread, UnreadIsBounded, IsAsked, DoesAsked, ReaderIsBounded}

-- ---- worked rooms

abbrev kept : Bool → Line → List Line → List Line
kept b line lines = if b then line ∷ lines else lines

abbrev numbers : List Line → List ℕ
numbers lines = map (λ (l : Line). l.number) lines

-- (no callout is under way)
abbrev by_lines : List Line → List Line → Wants
by_lines down up = wants (numbers down) (numbers up ++ [])

octets_of : (bytes : List ℕ) → octets_in (map octet bytes ++ []) ≡ length bytes
octets_of bytes = octets_in-append (map octet bytes) [] ∙ omega (arith, octets_in-map bytes)

octets_and : (bytes : List ℕ) (b : ℕ) → octets_in (map octet bytes ++ octet b ∷ []) ≡ length bytes + 1
octets_and bytes b = octets_in-append (map octet bytes) (octet b ∷ []) ∙ omega (arith, octets_in-map bytes)

-- where so many bytes wait on the sides of the line
abbrev by_counts : ℕ → ℕ → Wants
by_counts down up = by_lines (kept ((nat_lt down 65536 && nat_lt up 65536) && true) (open_line 1 [] []) []) (kept (nat_lt down 65536 && true) (open_line 1 [] []) [])

by_room : (waiting : List Sent) (down up : ℕ) → octets_in (marks_at (Peer 1 Down) waiting) ≡ down → octets_in (marks_at (Peer 1 Up) waiting) ≡ up
    → backlog_wants one waiting ≡ by_counts down up
by_room waiting down up d u = λ i. by_counts (d i) (u i)

-- of two lines so many wait for the client of the second, or for the server of the first
abbrev by_second : ℕ → Wants
by_second n =
    by_lines (open_line 1 [] [] ∷ kept ((nat_lt n 65536 && true) && true) (open_line 2 [] []) []) (open_line 1 [] [] ∷ kept (nat_lt n 65536 && true) (open_line 2 [] []) [])

abbrev by_first : ℕ → Wants
by_first n = by_lines (kept (nat_lt n 65536 && true) (open_line 1 [] []) (open_line 2 [] [] ∷ [])) two

pub room_examples : RoomExamples
room_examples = record {
  no_line = refl;
  no_server = refl;
  nothing = refl;
  room_down = λ bytes long. by_room (to.Bytes 1 Down bytes ∷ []) 65535 0 (octets_of bytes ∙ long) refl;
  full_down = λ bytes long. by_room (to.Bytes 1 Down bytes ∷ []) 65536 0 (octets_of bytes ∙ long) refl;
  room_up = λ bytes long. by_room (to.Bytes 1 Up bytes ∷ []) 0 65535 refl (octets_of bytes ∙ long);
  full_up = λ bytes long. by_room (to.Bytes 1 Up bytes ∷ []) 0 65536 refl (octets_of bytes ∙ long);
  one_more = λ bytes long.
      by_room (to.Bytes 1 Down bytes ∷ to.Connect 1 ∷ to.Bytes 1 Down (codes "a") ∷ []) 65536 0 (octets_and bytes 97 ∙ ap (λ (n : ℕ). n + 1) long) refl;
  one_beside = λ bytes long. by_room (to.Bytes 1 Up (codes "a") ∷ to.Bytes 1 Down bytes ∷ []) 65535 1 (octets_of bytes ∙ long) refl;
  other_down = λ bytes long. ap by_second (octets_of bytes ∙ long);
  other_up = λ bytes long. ap by_first (octets_of bytes ∙ long);
}

-- where so many bytes of a text are unread
abbrev by_client : List ℕ → ℕ → Wants
by_client text n = by_lines (kept (nat_lt n 65536) (open_line 1 text []) []) (open_line 1 text [] ∷ [])

abbrev by_server : List ℕ → ℕ → Wants
by_server text n = by_lines (open_line 1 [] text ∷ []) (kept (nat_lt n 65536) (open_line 1 [] text) [])

pub text_examples : TextExamples
text_examples = record {
  client_short = λ text long. ap (by_client text) long;
  client_enough = λ text long. ap (by_client text) long;
  server_short = λ text long. ap (by_server text) long;
  server_enough = λ text long. ap (by_server text) long;
}

pub line_examples : LineExamples
line_examples = record { last = refl; last_sends = refl; beyond = refl; beyond_sends = refl; all_asked = refl }

-- ---- what waits

if_none : (b : Bool) (m : Mark) → octets_in (m ∷ []) ≡ 0 → octets_in (if b then m ∷ [] else []) ≡ 0
if_none true m none = none
if_none false m none = refl

if_bytes : (b : Bool) (bytes : List ℕ) → octets_in (if b then map octet bytes else []) ≡ (if b then length bytes else 0)
if_bytes true bytes = octets_in-map bytes
if_bytes false bytes = refl

member_waits : (line : ℕ) (side : Side) (member : Sent) → octets_in (marks_of (Peer line side) member) ≡ bytes_to line side member
member_waits line side (to.Connect l) = if_none (l == line && is_same_side Up side) opening refl
member_waits line side (to.Bytes l s bytes) = if_bytes (l == line && is_same_side s side) bytes
member_waits line side (to.Close l s) = if_none (l == line && is_same_side s side) closing refl
member_waits line side (to.Log level text) = refl

pub waits : (line : ℕ) (side : Side) (waiting : List Sent) → octets_in (marks_at (Peer line side) waiting) ≡ backlog line side waiting
waits line side [] = refl
waits line side (member ∷ waiting) =
    omega (arith, octets_in-append (marks_of (Peer line side) member) (marks_at (Peer line side) waiting), member_waits line side member, waits line side waiting)

-- a line of a number that was picked
record Picked {L : Type 0} (number_of : L → ℕ) (test : L → Bool) (lines : List L) (number : ℕ) : Type 0 where
  line : L
  stands : Contains lines line
  is : number_of line ≡ number
  passes : test line ≡ true

later_picked : {L : Type 0} (number_of : L → ℕ) (test : L → Bool) (l : L) (lines : List L) (number : ℕ) → Picked number_of test lines number → Picked number_of test (l ∷ lines) number
later_picked number_of test l lines number p =
    record { line = p.line; stands = (suc p.stands.0, omega (arith, p.stands.1), p.stands.2); is = p.is; passes = p.passes }

picked_by : {L : Type 0} (number_of : L → ℕ) (test : L → Bool) (lines : List L) (number : ℕ) → Contains (map number_of (filter test lines)) number → Picked number_of test lines number
picked_by number_of test [] number (k, below, is) = let never : ⊥ = omega (arith, below) in absurd never
picked_by {L} number_of test (l ∷ lines) number there = by_test (λ later. picked_by number_of test lines number later) (test l) refl there
  where
    by_test : (Contains (map number_of (filter test lines)) number → Picked number_of test lines number) → (b : Bool) → test l ≡ b
        → Contains (map number_of (if b then l ∷ filter test lines else filter test lines)) number → Picked number_of test (l ∷ lines) number
    by_test more true e (zero, below, is) = record { line = l; stands = (zero, omega arith, refl); is = is; passes = e }
    by_test more true e (suc k, below, is) = later_picked number_of test l lines number (more (k, omega (arith, below), is))
    by_test more false e there = later_picked number_of test l lines number (more there)

-- a line of HTTP
picked : (test : Line → Bool) (lines : List Line) (number : ℕ) → Contains (numbers (filter test lines)) number → Picked (λ (l : Line). l.number) test lines number
picked test lines number there = picked_by (λ (l : Line). l.number) test lines number there

has_backlog : (waiting : List Sent) (side : Side) (its number : ℕ) → its ≡ number → nat_lt (octets_in (marks_at (Peer its side) waiting)) 65536 ≡ true → backlog number side waiting < 65536
has_backlog waiting side its number is roomy =
    subst (λ (n : ℕ). backlog n side waiting < 65536) is
    (omega (arith, ltb-true (octets_in (marks_at (Peer its side) waiting)) 65536 roomy, waits its side waiting))

-- the lines of callouts are those from 2^31 on
high : (id : ℕ) → is_call_line (line_of id) ≡ true
high id = le-leb 2147483648 (2147483648 + id) (omega arith)

call_lines_high : (calls : List Callout) (n : ℕ) → Contains (call_lines calls) n → is_call_line n ≡ true
call_lines_high [] n (k, below, is) = let never : ⊥ = omega (arith, below) in absurd never
call_lines_high (c ∷ calls) n there = by_test (λ later. call_lines_high calls n later) (reads_call_more c) there
  where
    by_test : (Contains (call_lines calls) n → is_call_line n ≡ true) → (b : Bool) → Contains (map call_line (if b then c ∷ filter reads_call_more calls else filter reads_call_more calls)) n → is_call_line n ≡ true
    by_test more true (zero, below, is) = subst (λ (m : ℕ). is_call_line m ≡ true) is (high c.id)
    by_test more true (suc k, below, is) = more (k, omega (arith, below), is)
    by_test more false later = more later

-- a client's line that is asked for is one of those that are wanted
of_clients : (lines : List ℕ) (calls : List Callout) (n : ℕ) → is_call_line n ≡ false → Contains (lines ++ call_lines calls) n → Contains lines n
of_clients [] calls n low there = absurd (false≢true (sym low ∙ call_lines_high calls n there))
of_clients (l ∷ lines) calls n low (zero, below, is) = (zero, omega arith, is)
of_clients (l ∷ lines) calls n low (suc k, below, is) =
    let later = of_clients lines calls n low (k, omega (arith, below), is) in
    (suc later.0, omega (arith, later.1), later.2)

-- by the list of plug-ins of streams: of clients, and of servers
down_bounded : (ts : List ℕ) (r : rooms.Room) (waiting : List Sent) (number : ℕ) → Contains (streams.down_among ts waiting r) number → (backlog number Down waiting < 65536) × (backlog number Up waiting < 65536)
down_bounded [] r waiting number there =
    let p = picked (is_wanted Down waiting) r.lines number there in
    let roomy = (and_parts (has_room waiting Down p.line && has_room waiting Up p.line) (reads_more (line_reading false (Some p.line))) p.passes).0 in
    let each = and_parts (has_room waiting Down p.line) (has_room waiting Up p.line) roomy in
    (has_backlog waiting Down p.line.number number p.is each.0, has_backlog waiting Up p.line.number number p.is each.1)
down_bounded (t ∷ ts) r waiting number there =
    let p = picked_by streams.number_in (streams.wants_down waiting) r.tcp number there in
    let each = and_parts (streams.has_room waiting Down p.line) (streams.has_room waiting Up p.line) p.passes in
    (has_backlog waiting Down p.line.number number p.is each.0, has_backlog waiting Up p.line.number number p.is each.1)

up_bounded : (ts : List ℕ) (r : rooms.Room) (waiting : List Sent) (number : ℕ) → Contains (streams.up_among ts waiting r) number → backlog number Down waiting < 65536
up_bounded [] r waiting number there =
    let p = picked (is_wanted Up waiting) r.lines number there in
    has_backlog waiting Down p.line.number number p.is (and_parts (has_room waiting Down p.line) (reads_more (line_reading true (Some p.line))) p.passes).0
up_bounded (t ∷ ts) r waiting number there =
    let p = picked_by streams.number_in (streams.wants_up waiting) r.tcp number there in
    has_backlog waiting Down p.line.number number p.is (and_parts (streams.has_room waiting Down p.line) p.line.is_up p.passes).0

pub backlog_is_bounded : BacklogIsBounded
backlog_is_bounded plan r waiting (Opened line) obeys = tt
backlog_is_bounded plan r waiting (Bytes number Down bytes) obeys = down_bounded plan.tcp r waiting number obeys
backlog_is_bounded plan r waiting (Bytes number Up bytes) obeys = λ low. up_bounded plan.tcp r waiting number (of_clients (streams.up_among plan.tcp waiting r) r.calls number low obeys)
backlog_is_bounded plan r waiting (End line side) obeys = tt
backlog_is_bounded plan r waiting (Gone line side) obeys = tt
backlog_is_bounded plan r waiting (Joined line) obeys = tt
backlog_is_bounded plan r waiting (Refused line) obeys = tt
backlog_is_bounded plan r waiting (Room line side) obeys = tt
backlog_is_bounded plan r waiting Clock obeys = tt
backlog_is_bounded plan r waiting Stop obeys = tt

-- ---- what is unread

fed_length : (reading : Reading) (bytes : List ℕ) → length reading.unread < 65536 → length bytes ≤ 16384 → length (reading.unread ++ bytes) ≤ 81919
fed_length reading bytes short few = omega (arith, length-append reading.unread bytes, short, few)

has_unread : (lines : List Line) (number : ℕ) (side : Side) (bytes : List ℕ) (o : Option Reading) → line_reading (is_up side) (line_in number lines) ≡ o
    → reads_more o ≡ true → length bytes ≤ 16384 → HasUnread lines number side bytes
has_unread lines number side bytes None there more few = absurd (cc)
has_unread lines number side bytes (Some reading) there more few =
    let short = ltb-true (length reading.unread) 65536 more in
    record { reading = reading; there = there; before = omega (arith, short); behind = fed_length reading bytes short few }

line_there : (lines : List Line) (number : ℕ) (line : Line) → AreApart lines → Contains lines line → line.number ≡ number → line_in number lines ≡ Some line
line_there lines number line apart stands is = subst (λ (n : ℕ). line_in n lines ≡ Some line) is (apart line stands)

pub unread_is_bounded : UnreadIsBounded
unread_is_bounded plan r waiting number Down bytes low apart obeys sized =
    let p = picked (is_wanted Down waiting) r.lines number obeys in
    has_unread r.lines number Down bytes (line_reading false (Some p.line)) (ap (line_reading false) (line_there r.lines number p.line apart p.stands p.is))
    (and_parts (has_room waiting Down p.line && has_room waiting Up p.line) (reads_more (line_reading false (Some p.line))) p.passes).1 sized.1
unread_is_bounded plan r waiting number Up bytes low apart obeys sized =
    let p = picked (is_wanted Up waiting) r.lines number (of_clients (numbers (filter (is_wanted Up waiting) r.lines)) r.calls number low obeys) in
    has_unread r.lines number Up bytes (line_reading true (Some p.line)) (ap (line_reading true) (line_there r.lines number p.line apart p.stands p.is))
    (and_parts (has_room waiting Down p.line) (reads_more (line_reading true (Some p.line))) p.passes).1 sized.1

no_more : (due : Due) (text : List ℕ) → length (unread_at due text) ≤ length text
no_more head text = omega (arith, length-drop (empty_line_bytes text) text)
no_more (body (counted n)) text = omega arith
no_more (body (coded connection place)) text = omega (arith, length-drop (section_taken (sought place text)) text)
no_more (body unbounded) text = omega arith
no_more done text = omega arith

act_bounded : (old : Reading) (act : Act) (new : Reading) → IsAsked old act → Does old act new → length old.unread ≤ 81919 → length new.unread ≤ 81919
act_bounded old (feeds bytes) new asks does few =
    subst (λ (r : Reading). length r.unread ≤ 81919) (sym does.1) (fed_length old bytes (ltb-true (length old.unread) 65536 asks.0) asks.1)
act_bounded old ends new asks does few = subst (λ (r : Reading). length r.unread ≤ 81919) (sym does) few
act_bounded old (hands p) new asks does few =
    subst (λ (r : Reading). length r.unread ≤ 81919) (sym does.is) (omega (arith, length-drop does.used old.unread, few))
act_bounded old (halts why) new asks does few =
    subst (λ (r : Reading). length r.unread ≤ 81919) (sym does.is) (omega (arith, no_more old.due old.unread, few))

acts_bounded : (old : Reading) (acts : List Act) (new : Reading) → DoesAsked old acts new → length old.unread ≤ 81919 → length new.unread ≤ 81919
acts_bounded old [] new same few = subst (λ (r : Reading). length r.unread ≤ 81919) (sym same) few
acts_bounded old (act ∷ acts) new (mid, asks, does, more) few = acts_bounded mid acts new more (act_bounded old act mid asks does few)

pub reader_is_bounded : ReaderIsBounded
reader_is_bounded backlog_wants acts reading does = acts_bounded (new_reading backlog_wants) acts reading does (omega arith)
