-- How many lines there are, and how much is unread of them, over turns.
use Rattle.std.proofs.Common.{◌≡◌, ℕ, zero, suc, ◌+◌, ◌==◌, ◌<◌, ◌≤◌, Bool, true, false, ◌&&◌, List, [], ◌∷◌, ◌++◌, map, filter, length, refl, ap, ◌∙◌, sym, subst, arith}
use Rattle.std.proofs.lemmas.Bool.{and_parts, ltb-true, le-leb, false≢true}
use Rattle.std.proofs.lemmas.List.{length-append, length-drop}
use Rattle.std.specs.Prelude.{Contains, Option, None, Some, if◌then◌else◌}
use Rattle.callouts.specs.Callouts.{is_call_line, line_of}
use Rattle.callouts.specs.declared.types.Callout.{Callout}
use Rattle.filter_host.specs.Called.{Calling}
use Rattle.filter_host.specs.Heard as heard
use Rattle.filter_host.specs.Heard.{Heard, Hears}
use Rattle.gate_io.specs.Events.{IsSized, Obeys}
use Rattle.gate_io.specs.declared.event.Sent.{Sent}
use Rattle.gate_io.specs.declared.event.Side.{Side}
use Rattle.gate_io.specs.declared.event.Side.TheVariants.{Down, Up}
use Rattle.gate_io.specs.declared.event.What.{What}
use Rattle.gate_io.specs.declared.event.What.TheVariants as whats
use Rattle.h1_model.specs.Chunks.{sought, section_taken}
use Rattle.h1_model.specs.Lines.{empty_line_bytes}
use Rattle.h1_model.specs.Messages.{Due, head, body, done, counted, coded, unbounded}
use Rattle.h1_model.specs.Unread.{Reading, reading_with_bytes, reading_with_end, unread_at}
use Rattle.send_queue.specs.Places.{is_same_side}
use Rattle.worker_model.specs.Making.{first_room}
use Rattle.worker_model.specs.Plan.{Plan}
use Rattle.worker_model.specs.Steps.{Both, both, line_reading, exchange_reading, reading_with_more}
use Rattle.worker_model.specs.Wants.{has_room, reads_more, reads_call_more, call_line, call_lines, is_wanted, is_up, wants_of}
use Rattle.worker_model.specs.Room as rooms
use Rattle.worker_model.specs.declared.types.Line.{Line}
use Rattle.law_reading.specs.Limits.{KeepLimits, LinesKeepLimits, AreWanted, IsShort, UnreadStaysShort}
use Rattle.law_reading.specs.Lines.{AreAbove, AreRising}
use Rattle.law_reading.specs.Spelled.{bytes_in}
use Rattle.law_reading.specs.Turns.{OneTurn, Turns, AreWhole}
use Rattle.law_reading.proofs.Readers.{by_bool}
use Rattle.law_reading.proofs.Every.{OfLine, Every, Closed, reading_in}
use Rattle.law_reading.proofs.Events.{Says, Follows}
use Rattle.law_reading.proofs.Lines.{found_in, line_in_found, equal_is, equal_by, AreLow}
use Rattle.law_reading.proofs.Settles.{Spans, Ready, turn_reached}
use Rattle.law_reading.proofs.Since.{AreFew, few_invariant, few_comes, FewWith, with_spans}
use Rattle.law_reading.proofs.Told.{said, is_side, both_true}

-- ---- lines by their numbers

abbrev numbers : List Line → List ℕ
numbers lines = map (λ (l : Line). l.number) lines

above_here : (k : ℕ) (lines : List Line) (l : Line) → AreAbove k lines → Contains lines l → k < l.number
above_here k [] l above (i, below, is) = let never : ⊥ = omega (arith, below) in absurd never
above_here k (m ∷ lines) l above (zero, below, is) = subst (λ (x : Line). k < x.number) is above.0
above_here k (m ∷ lines) l above (suc i, below, is) = above_here k lines l above.1 (i, omega (arith, below), is)

apart : (lines : List Line) (l : Line) → AreRising lines → Contains lines l → found_in l.number lines ≡ Some l
apart [] l rising (i, below, is) = let never : ⊥ = omega (arith, below) in absurd never
apart (m ∷ lines) l rising (zero, below, is) =
    let same : m ≡ l = is in
    ap (λ (b : Bool). if b then Some m else found_in l.number lines) (equal_is m.number l.number (ap (λ (x : Line). x.number) same)) ∙ ap Some same
apart (m ∷ lines) l rising (suc i, below, is) =
    let there : Contains lines l = (i, omega (arith, below), is) in
    by_test (m.number == l.number) refl (apart lines l rising.1 there) (above_here m.number lines l rising.0 there)
  where
    by_test : (b : Bool) → (m.number == l.number) ≡ b → found_in l.number lines ≡ Some l → m.number < l.number → (if b then Some m else found_in l.number lines) ≡ Some l
    by_test true is later less = let same : m.number ≡ l.number = equal_by m.number l.number is in let never : ⊥ = omega (arith, less, same) in absurd never
    by_test false is later less = later

keeps_limits : (lines : List Line) → AreFew lines → KeepLimits lines
keeps_limits lines f = record { rising = f.rising; apart = λ l there. line_in_found l.number lines ∙ apart lines l f.rising there; few = f.few }

few_spans : (w : What) → Spans w AreFew AreFew
few_spans w = record { before = few_invariant; behind = few_invariant; low = λ lines f. f.low; event = λ lines later h f. few_comes lines later h.comes f }

few_turns : {H : Type 0} (calling : Calling H) (plan : Plan) (turns : List (OneTurn H)) (from to : Both H) → Turns calling plan from turns to → AreWhole turns → Ready AreFew from.room → Ready AreFew to.room
few_turns {H} calling plan [] from to turned whole ready = subst (λ (b : Both H). Ready AreFew b.room) (sym turned) ready
few_turns calling plan (t ∷ turns) from to turned whole ready =
    few_turns calling plan turns t.end.state to turned.1 whole.1 (turn_reached calling plan from t.event t.met t.end AreFew AreFew (few_spans t.event.what) turned.0 whole.0 ready)

pub lines_keep_limits : (H : Type 0) → LinesKeepLimits H
lines_keep_limits H calling plan config seed host turns to turned whole =
    keeps_limits to.room.lines (few_turns calling plan turns (both host (first_room config seed)) to turned whole (refl, record { rising = tt; few = omega arith; low = tt })).1

-- ---- a line of a number that is asked for

abbrev Each : (Line → Type 0) → List Line → Type 0
Each P [] = Unit {0}
Each P (l ∷ lines) = P l × Each P lines

abbrev kept : Bool → Line → List Line → List Line
kept b line lines = if b then line ∷ lines else lines

above_picked : (test : Line → Bool) (k m : ℕ) (lines : List Line) → AreAbove k lines → Contains (numbers (filter test lines)) m → k < m
above_picked test k m [] above (i, below, is) = let never : ⊥ = omega (arith, below) in absurd never
above_picked test k m (l ∷ lines) above there = by_test (test l) (λ later. above_picked test k m lines above.1 later) there
  where
    by_test : (b : Bool) → (Contains (numbers (filter test lines)) m → k < m) → Contains (numbers (kept b l (filter test lines))) m → k < m
    by_test true more (zero, below, is) = subst (λ (n : ℕ). k < n) is above.0
    by_test true more (suc i, below, is) = more (i, omega (arith, below), is)
    by_test false more at = more at

others_pass : (test : Line → Bool) (k m : ℕ) (lines : List Line) → AreAbove k lines → k ≡ m → Each (λ (l : Line). l.number ≡ m → test l ≡ true) lines
others_pass test k m [] above same = tt
others_pass test k m (l ∷ lines) above same = ((λ is. let never : ⊥ = omega (arith, above.0, same, is) in absurd never), others_pass test k m lines above.1 same)

all_pass : (test : Line → Bool) (m : ℕ) (lines : List Line) → AreRising lines → Contains (numbers (filter test lines)) m → Each (λ (l : Line). l.number ≡ m → test l ≡ true) lines
all_pass test m [] rising there = tt
all_pass test m (l ∷ lines) rising there = by_test (test l) refl (λ later. all_pass test m lines rising.1 later) (λ later. above_picked test l.number m lines rising.0 later) there
  where
    Goal : Type 0
    Goal = Each (λ (l : Line). l.number ≡ m → test l ≡ true) (l ∷ lines)

    later_on : (Contains (numbers (filter test lines)) m → Each (λ (l : Line). l.number ≡ m → test l ≡ true) lines) → (Contains (numbers (filter test lines)) m → l.number < m) → Contains (numbers (filter test lines)) m → Goal
    later_on more above at = ((λ is. let less : l.number < m = above at in let never : ⊥ = omega (arith, less, is) in absurd never), more at)

    by_test : (b : Bool) → test l ≡ b → (Contains (numbers (filter test lines)) m → Each (λ (l : Line). l.number ≡ m → test l ≡ true) lines) → (Contains (numbers (filter test lines)) m → l.number < m)
        → Contains (numbers (kept b l (filter test lines))) m → Goal
    by_test true passes more above (zero, below, is) = ((λ e. passes), others_pass test l.number m lines rising.0 is)
    by_test true passes more above (suc i, below, is) = later_on more above (i, omega (arith, below), is)
    by_test false fails more above at = later_on more above at

-- ---- how much is unread

abbrev side_of : Bool → Side
side_of false = Down
side_of true = Up

abbrev Short : ℕ → Reading → Type 0
Short n r = length r.unread ≤ 81919

-- with what the event brings
abbrev ShortWith : Bool → What → ℕ → Reading → Type 0
ShortWith up w n r = length r.unread + length (bytes_in n (side_of up) w) ≤ 81919

no_more : (due : Due) (text : List ℕ) → length (unread_at due text) ≤ length text
no_more head text = omega (arith, length-drop (empty_line_bytes text) text)
no_more (body (counted n)) text = omega arith
no_more (body (coded connection place)) text = omega (arith, length-drop (section_taken (sought place text)) text)
no_more (body unbounded) text = omega arith
no_more done text = omega arith

hears_less : (old : Reading) (h : Heard) → Hears old h → length (reading_in h).unread ≤ length old.unread
hears_less old (heard.hands p new) says = subst (λ (r : Reading). length r.unread ≤ length old.unread) (sym says.is) (omega (arith, length-drop says.used old.unread))
hears_less old (heard.halts why new) says = subst (λ (r : Reading). length r.unread ≤ length old.unread) (sym says.is) (no_more old.due old.unread)

few_bytes : (n : ℕ) (side : Side) (w : What) → IsSized w → length (bytes_in n side w) ≤ 16384
few_bytes n side (whats.Opened m) sized = omega arith
few_bytes n side (whats.Bytes m s bytes) sized = by_bool (λ (l : List ℕ). length l ≤ 16384) ((m == n) && is_same_side side s) bytes [] (λ e. sized.1) (λ e. omega arith)
few_bytes n side (whats.End m s) sized = omega arith
few_bytes n side (whats.Gone m s) sized = omega arith
few_bytes n side (whats.Joined m) sized = omega arith
few_bytes n side (whats.Refused m) sized = omega arith
few_bytes n side (whats.Room m s) sized = omega arith
few_bytes n side whats.Clock sized = omega arith
few_bytes n side whats.Stop sized = omega arith

short_closed : (up : Bool) → Closed up Short
short_closed up = record { hears = λ n old h p says. omega (arith, p, hears_less old h says); young = λ n method e. omega arith }

with_closed : (up : Bool) (w : What) → IsSized w → Closed up (ShortWith up w)
with_closed up w sized = record { hears = λ n old h p says. omega (arith, p, hears_less old h says); young = λ n method e. omega (arith, few_bytes n (side_of up) w sized) }

further_short : (stops : Bool) (bytes : List ℕ) (r : Reading) → length r.unread + length bytes ≤ 81919 → length (reading_with_more stops bytes r).unread ≤ 81919
further_short stops bytes r few =
    by_bool (λ (q : Reading). length q.unread ≤ 81919) r.ended r (if stops then reading_with_end r else reading_with_bytes bytes r) (λ e. omega (arith, few))
    (λ e. by_bool (λ (q : Reading). length q.unread ≤ 81919) stops (reading_with_end r) (reading_with_bytes bytes r) (λ d. omega (arith, few)) (λ d. omega (arith, few, length-append r.unread bytes)))

up_side : (up : Bool) → is_up (side_of up) ≡ up
up_side false = refl
up_side true = refl

short_follows : (up : Bool) (w : What) → Follows up (ShortWith up w) Short w
short_follows up w = record {
  fed = λ stops bytes m says r p.
      let t = said m (side_of up) w stops bytes (subst (λ (u : Bool). Says w u stops bytes m) (sym (up_side up)) says) in
      further_short stops bytes r (subst (λ (l : List ℕ). length r.unread + length l ≤ 81919) t.0 p);
  aside = λ n r never p. omega (arith, p);
  new = λ m opened down. omega arith;
}

-- ---- bytes come where little is unread

more_is_short : (r : Reading) → reads_more (Some r) ≡ true → length r.unread < 65536
more_is_short r is = ltb-true (length r.unread) 65536 is

wanted_more : (s : Side) (waiting : List Sent) (l : Line) → is_wanted s waiting l ≡ true → reads_more (line_reading (is_up s) (Some l)) ≡ true
wanted_more Down waiting l is = (and_parts (has_room waiting Down l && has_room waiting Up l) (reads_more (line_reading false (Some l))) is).1
wanted_more Up waiting l is = (and_parts (has_room waiting Down l) (reads_more (line_reading true (Some l))) is).1

-- the lines of callouts are those from 2^31 on
high : (id : ℕ) → is_call_line (line_of id) ≡ true
high id = le-leb 2147483648 (2147483648 + id) (omega arith)

call_lines_high : (calls : List Callout) (n : ℕ) → Contains (call_lines calls) n → is_call_line n ≡ true
call_lines_high [] n (k, below, is) = let never : ⊥ = omega (arith, below) in absurd never
call_lines_high (c ∷ calls) n there = by_test (λ later. call_lines_high calls n later) (reads_call_more c) there
  where
    by_test : (Contains (call_lines calls) n → is_call_line n ≡ true) → (b : Bool) → Contains (map call_line (if b then c ∷ filter reads_call_more calls else filter reads_call_more calls)) n → is_call_line n ≡ true
    by_test more true (zero, below, is) = subst (λ (m : ℕ). is_call_line m ≡ true) is (high c.id)
    by_test more true (suc k, below, is) = more (k, omega (arith, below), is)
    by_test more false later = more later

-- a client's line that is asked for is one of those that are wanted
of_clients : (lines : List ℕ) (calls : List Callout) (n : ℕ) → is_call_line n ≡ false → Contains (lines ++ call_lines calls) n → Contains lines n
of_clients [] calls n low there = absurd (false≢true (sym low ∙ call_lines_high calls n there))
of_clients (l ∷ lines) calls n low (zero, below, is) = (zero, omega arith, is)
of_clients (l ∷ lines) calls n low (suc k, below, is) =
    let later = of_clients lines calls n low (k, omega (arith, below), is) in
    (suc later.0, omega (arith, later.1), later.2)

-- no client has the line of a callout
none_called : (test : Line → Bool) (m : ℕ) → is_call_line m ≡ true → (lines : List Line) → AreLow lines → Each (λ (l : Line). l.number ≡ m → test l ≡ true) lines
none_called test m is [] low = tt
none_called test m is (l ∷ lines) low =
    ((λ same. absurd (false≢true (sym low.0 ∙ (ap is_call_line same ∙ is)))), none_called test m is lines low.1)

obeyed : (plan : Plan) (room : rooms.Room) (waiting : List Sent) (m : ℕ) (s : Side) (bytes : List ℕ) → Obeys (wants_of plan room waiting) (whats.Bytes m s bytes) → AreRising room.lines → AreLow room.lines
    → Each (λ (l : Line). l.number ≡ m → is_wanted s waiting l ≡ true) room.lines
obeyed plan room waiting m Down bytes obeys rising low = all_pass (is_wanted Down waiting) m room.lines rising obeys
obeyed plan room waiting m Up bytes obeys rising low = by_line (is_call_line m) refl
  where
    by_line : (b : Bool) → is_call_line m ≡ b → Each (λ (l : Line). l.number ≡ m → is_wanted Up waiting l ≡ true) room.lines
    by_line true is = none_called (is_wanted Up waiting) m is room.lines low
    by_line false is = all_pass (is_wanted Up waiting) m room.lines rising (of_clients (numbers (filter (is_wanted Up waiting) room.lines)) room.calls m is obeys)

none_more : (r : Reading) → length r.unread ≤ 81919 → length r.unread + length {A = ℕ} [] ≤ 81919
none_more r few = omega (arith, few)

side_up : (up : Bool) (s : Side) → is_same_side (side_of up) s ≡ true → is_up s ≡ up
side_up up s is = is_side (side_of up) s is ∙ up_side up

with_none : (up : Bool) (w : What) → ((n : ℕ) → bytes_in n (side_of up) w ≡ []) → (lines : List Line) → Every up Short lines → Every up (ShortWith up w) lines
with_none up w none [] all = tt
with_none up w none (l ∷ lines) all = ((λ r is. subst (λ (b : List ℕ). length r.unread + length b ≤ 81919) (sym (none l.number)) (none_more r (all.0 r is))), with_none up w none lines all.1)

with_bytes : (up : Bool) (waiting : List Sent) (m : ℕ) (s : Side) (bytes : List ℕ) → length bytes ≤ 16384 → (lines : List Line) → Each (λ (l : Line). l.number ≡ m → is_wanted s waiting l ≡ true) lines → Every up Short lines
    → Every up (ShortWith up (whats.Bytes m s bytes)) lines
with_bytes up waiting m s bytes few [] each all = tt
with_bytes up waiting m s bytes few (l ∷ lines) each all = ((λ r is. by_test ((m == l.number) && is_same_side (side_of up) s) refl r is), with_bytes up waiting m s bytes few lines each.1 all.1)
  where
    by_test : (b : Bool) → ((m == l.number) && is_same_side (side_of up) s) ≡ b → (r : Reading) → line_reading up (Some l) ≡ Some r → length r.unread + length (if b then bytes else []) ≤ 81919
    by_test true e r is =
        let p = both_true (m == l.number) (is_same_side (side_of up) s) e in
        let wanted : is_wanted s waiting l ≡ true = each.0 (sym (equal_by m l.number p.0)) in
        let more : reads_more (Some r) ≡ true = ap reads_more (sym is ∙ ap (λ (u : Bool). line_reading u (Some l)) (sym (side_up up s p.1))) ∙ wanted_more s waiting l wanted in
        omega (arith, more_is_short r more, few)
    by_test false e r is = none_more r (all.0 r is)

start_short : (up : Bool) (plan : Plan) (room : rooms.Room) (waiting : List Sent) (w : What) → Obeys (wants_of plan room waiting) w → IsSized w → AreRising room.lines → AreLow room.lines → Every up Short room.lines
    → Every up (ShortWith up w) room.lines
start_short up plan room waiting (whats.Opened m) obeys sized rising low all = with_none up (whats.Opened m) (λ n. refl) room.lines all
start_short up plan room waiting (whats.Bytes m s bytes) obeys sized rising low all =
    with_bytes up waiting m s bytes sized.1 room.lines (obeyed plan room waiting m s bytes obeys rising low) all
start_short up plan room waiting (whats.End m s) obeys sized rising low all = with_none up (whats.End m s) (λ n. refl) room.lines all
start_short up plan room waiting (whats.Gone m s) obeys sized rising low all = with_none up (whats.Gone m s) (λ n. refl) room.lines all
start_short up plan room waiting (whats.Joined m) obeys sized rising low all = with_none up (whats.Joined m) (λ n. refl) room.lines all
start_short up plan room waiting (whats.Refused m) obeys sized rising low all = with_none up (whats.Refused m) (λ n. refl) room.lines all
start_short up plan room waiting (whats.Room m s) obeys sized rising low all = with_none up (whats.Room m s) (λ n. refl) room.lines all
start_short up plan room waiting whats.Clock obeys sized rising low all = with_none up whats.Clock (λ n. refl) room.lines all
start_short up plan room waiting whats.Stop obeys sized rising low all = with_none up whats.Stop (λ n. refl) room.lines all

short_turns : {H : Type 0} (up : Bool) (calling : Calling H) (plan : Plan) (turns : List (OneTurn H)) (from to : Both H) → Turns calling plan from turns to → AreWhole turns → AreWanted plan from turns
    → Ready (FewWith up Short) from.room → Ready (FewWith up Short) to.room
short_turns {H} up calling plan [] from to turned whole wanted ready = subst (λ (b : Both H). Ready (FewWith up Short) b.room) (sym turned) ready
short_turns up calling plan (t ∷ turns) from to turned whole (waiting, obeys, sized, more) ready =
    let w : What = t.event.what in
    let start : Ready (FewWith up (ShortWith up w)) from.room
    = (ready.0, record { few = ready.1.few; every = start_short up plan from.room waiting w obeys sized ready.1.few.rising ready.1.few.low ready.1.every }) in
    short_turns up calling plan turns t.end.state to turned.1 whole.1 more
    (turn_reached calling plan from t.event t.met t.end (FewWith up (ShortWith up w)) (FewWith up Short) (with_spans up (ShortWith up w) Short w (with_closed up w sized) (short_closed up) (short_follows up w)) turned.0 whole.0 start)

every_there : (up : Bool) (P : ℕ → Reading → Type 0) (lines : List Line) (l : Line) → Every up P lines → Contains lines l → OfLine up P l
every_there up P [] l all (i, below, is) = let never : ⊥ = omega (arith, below) in absurd never
every_there up P (m ∷ lines) l all (zero, below, is) = let same : m ≡ l = is in subst (OfLine up P) same all.0
every_there up P (m ∷ lines) l all (suc i, below, is) = every_there up P lines l all.1 (i, omega (arith, below), is)

pub unread_stays_short : (H : Type 0) → UnreadStaysShort H
unread_stays_short H calling plan config seed host turns to l turned whole wanted there =
    let start : Both H = both host (first_room config seed) in
    let down = short_turns false calling plan turns start to turned whole wanted (refl, record { few = record { rising = tt; few = omega arith; low = tt }; every = tt }) in
    let up = short_turns true calling plan turns start to turned whole wanted (refl, record { few = record { rising = tt; few = omega arith; low = tt }; every = tt }) in
    (every_there false Short to.room.lines l down.1.every there l.requests refl, by_reader (exchange_reading l.exchange) refl (every_there true Short to.room.lines l up.1.every there))
  where
    by_reader : (o : Option Reading) → exchange_reading l.exchange ≡ o → OfLine true Short l → IsShort o
    by_reader None is of = tt
    by_reader (Some r) is of = of r is
