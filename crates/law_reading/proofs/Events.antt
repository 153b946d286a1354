-- What an event does to the readers of one side.
use Rattle.std.proofs.Common.{◌≡◌, inl, ℕ, ◌==◌, Bool, true, false, not, ◌&&◌, List, [], ◌∷◌, length, refl, ap, ◌∙◌, sym, subst}
use Rattle.std.specs.Prelude.{Option, None, Some, is_some, nat_lt, insert, if◌then◌else◌}
use Rattle.callouts.specs.Callouts.{is_call_line, is_of_call, line_in as event_line}
use Rattle.exchange.specs.declared.types.Exchange.{Exchange}
use Rattle.exchange.specs.Passing as passing
use Rattle.gate_io.specs.declared.event.Sent.TheVariants as to
use Rattle.gate_io.specs.declared.event.Side.TheVariants.{Down, Up}
use Rattle.gate_io.specs.declared.event.What.{What}
use Rattle.gate_io.specs.declared.event.What.TheVariants as whats
use Rattle.h1_model.specs.Unread.{Reading, new_reading, reading_with_bytes, reading_with_end}
use Rattle.worker_model.specs.Room.{Room}
use Rattle.worker_model.specs.declared.types.Line.{Line}
use Rattle.worker_model.specs.Rooms.{place_in, on_number, room_with_sent}
use Rattle.worker_model.specs.Steps.{on_lines, on_line, line_in, line_reading, exchange_of_line, exchange_on, exchange_reading, change_exchange, drop_line, read_side, most_lines, new_line, place_for, accept_line, reading_with_more, response_with_more, with_further, side_with_more, is_open, is_answered_in, is_read_in, receive, exchange_without_client, line_without_client, lose_client, is_missed, lose_server, take_event}
use Rattle.worker_model.specs.Wants.{is_up}
use Rattle.law_reading.specs.Lines.{AreAbove, AreRising}
use Rattle.law_reading.proofs.Readers.{refused_kept}
use Rattle.law_reading.proofs.Alike.{Alike, AreAlike, are_itself, place_alike, change_alike, on_alike}
use Rattle.law_reading.proofs.Lines.{by_if, found_in, set_in, without, with_new, line_in_found, on_line_set, drops_without, inserts_new, placed_found, equal_by, other_by, AreLow, none_low}
use Rattle.law_reading.proofs.Every.{OfLine, Every, Closed, every_alike, every_without, every_other, every_above, every_set, every_new}

-- ---- what is done to the lines by an event, in one of these ways

pub data Comes (lines : List Line) : List Line → Type 0 where
  -- no reader is told of it
  aside : (later : List Line) → AreAlike lines later → Comes lines later
  -- a line is opened
  new : (m : ℕ) → found_in m lines ≡ None → (nat_lt (length lines) most_lines ≡ true) → is_call_line m ≡ false → Comes lines (with_new m lines)
  gone : (m : ℕ) → Comes lines (without m lines)
  -- a side has more, or has ended
  more : (side stops : Bool) (bytes : List ℕ) (m : ℕ) → (is_open (line_reading side (found_in m lines)) && not (side && is_answered_in (exchange_of_line (found_in m lines)))) ≡ true → Comes lines (set_in (side_with_more side stops bytes) m lines)
  -- where there is no such side, or it has ended, or its exchange was answered
  less : (side stops : Bool) (bytes : List ℕ) (m : ℕ) → (is_open (line_reading side (found_in m lines)) && not (side && is_answered_in (exchange_of_line (found_in m lines)))) ≡ false → Comes lines lines

-- what the event says that comes
abbrev pub Says : What → (side stops : Bool) → List ℕ → ℕ → Type 0
Says (whats.Opened k) side stops bytes m = ⊥
Says (whats.Bytes k s text) side stops bytes m = (is_up s ≡ side) × (stops ≡ false) × (bytes ≡ text) × (k ≡ m)
Says (whats.End k s) side stops bytes m = (is_up s ≡ side) × (stops ≡ true) × (bytes ≡ []) × (k ≡ m)
Says (whats.Gone k s) side stops bytes m = ⊥
Says (whats.Joined k) side stops bytes m = ⊥
Says (whats.Refused k) side stops bytes m = ⊥
Says (whats.Room k s) side stops bytes m = ⊥
Says whats.Clock side stops bytes m = ⊥
Says whats.Stop side stops bytes m = ⊥

-- and by which event
abbrev pub ComesBy : (w : What) (lines later : List Line) → Comes lines later → Type 0
ComesBy w lines later (aside l alike) = (side stops : Bool) (bytes : List ℕ) (m : ℕ) → Says w side stops bytes m → ⊥
ComesBy w lines later (new m none few low) = w ≡ whats.Opened m
ComesBy w lines later (gone m) = (side stops : Bool) (bytes : List ℕ) (m : ℕ) → Says w side stops bytes m → ⊥
ComesBy w lines later (more side stops bytes m listens) = Says w side stops bytes m
ComesBy w lines later (less side stops bytes m shut) = Says w side stops bytes m

pub record Happens (w : What) (lines later : List Line) : Type 0 where
  pub comes : Comes lines later
  pub by : ComesBy w lines later comes

-- ---- each event is one of them

comes_is : (w : What) (side stops : Bool) (bytes : List ℕ) (m : ℕ) (room : Room) → Says w side stops bytes m → Happens w room.lines (receive side stops bytes m room).lines
comes_is w side stops bytes m room says =
    by_if (λ (r : Room). Happens w room.lines r.lines) (is_open (line_reading side (line_in m room.lines)) && not (side && is_answered_in (exchange_of_line (line_in m room.lines))))
    (if is_read_in side (exchange_of_line (line_in m room.lines)) then read_side m side (on_lines (side_with_more side stops bytes) m room) else on_lines (side_with_more side stops bytes) m room) room
    (λ e. by_if (λ (r : Room). Happens w room.lines r.lines) (is_read_in side (exchange_of_line (line_in m room.lines))) (read_side m side (on_lines (side_with_more side stops bytes) m room)) (on_lines (side_with_more side stops bytes) m room) (λ d. told e) (λ d. told e))
    (λ e. record { comes = less side stops bytes m (subst (λ (o : Option Line). (is_open (line_reading side o) && not (side && is_answered_in (exchange_of_line o))) ≡ false) (line_in_found m room.lines) e); by = says })
  where
    told : (is_open (line_reading side (line_in m room.lines)) && not (side && is_answered_in (exchange_of_line (line_in m room.lines)))) ≡ true → Happens w room.lines (on_line (side_with_more side stops bytes) m room.lines)
    told e = subst (Happens w room.lines) (sym (on_line_set (side_with_more side stops bytes) m room.lines)) (record { comes = more side stops bytes m (subst (λ (o : Option Line). (is_open (line_reading side o) && not (side && is_answered_in (exchange_of_line o))) ≡ true) (line_in_found m room.lines) e); by = says })

nothing : (w : What) (lines : List Line) → ((side stops : Bool) (bytes : List ℕ) (m : ℕ) → Says w side stops bytes m → ⊥) → Happens w lines lines
nothing w lines never = record { comes = aside lines (are_itself lines); by = never }

lost_alike : (l : Line) → Alike l (line_without_client l)
lost_alike l = let a = change_alike exchange_without_client (λ x. inl (refl, λ a. a)) l in record { number = a.number; requests = a.requests; reader = a.reader }

down_is : (w : What) (m : ℕ) (o : Option Line) (room : Room) → ((side stops : Bool) (bytes : List ℕ) (m : ℕ) → Says w side stops bytes m → ⊥) → Happens w room.lines (lose_client m o room).lines
down_is w m None room never = nothing w room.lines never
down_is w m (Some l) room never =
    by_if (λ (r : Room). Happens w room.lines r.lines) (is_some l.exchange) (on_lines line_without_client m room) (drop_line m room)
    (λ e. record { comes = aside (on_line line_without_client m room.lines) (on_alike line_without_client room.lines (place_in m room.lines) lost_alike); by = never })
    (λ e. subst (Happens w room.lines) (sym (drops_without m room.lines)) (record { comes = gone m; by = never }))

up_is : (w : What) (m : ℕ) (o : Option Exchange) (room : Room) → ((side stops : Bool) (bytes : List ℕ) (m : ℕ) → Says w side stops bytes m → ⊥) → Happens w room.lines (lose_server m o room).lines
up_is w m o room never =
    by_if (λ (r : Room). Happens w room.lines r.lines) (is_missed o) (on_number (passing.refuse_exchange 502) m room) room
    (λ e. record { comes = aside (on_number (passing.refuse_exchange 502) m room).lines (place_alike (passing.refuse_exchange 502) (λ n x hub. refused_kept 502 n x hub) room.lines (place_in m room.lines) room.hub); by = never })
    (λ e. nothing w room.lines never)

none_there : (m : ℕ) (lines : List Line) → is_some (place_in m lines) ≡ false → found_in m lines ≡ None
none_there m lines is = by_found (found_in m lines) (sym (placed_found m lines) ∙ is)
  where
    by_found : (o : Option Line) → is_some o ≡ false → o ≡ None
    by_found None e = refl
    by_found (Some l) e = absurd (cc)

opens_is : (m : ℕ) (room : Room) → is_call_line m ≡ false → Happens (whats.Opened m) room.lines (accept_line m room).lines
opens_is m room low =
    by_if (λ (r : Room). Happens (whats.Opened m) room.lines r.lines) (is_some (place_in m room.lines)) room
    (if nat_lt (length room.lines) most_lines then record room { lines = insert room.lines (place_for m room.lines) (new_line m) } else room_with_sent (to.Close m Down ∷ []) room)
    (λ e. nothing (whats.Opened m) room.lines (λ side stops bytes k is. is))
    (λ e. by_if (λ (r : Room). Happens (whats.Opened m) room.lines r.lines) (nat_lt (length room.lines) most_lines) (record room { lines = insert room.lines (place_for m room.lines) (new_line m) }) (room_with_sent (to.Close m Down ∷ []) room)
    (λ d. subst (Happens (whats.Opened m) room.lines) (sym (inserts_new m room.lines)) (record { comes = new m (none_there m room.lines e) d low; by = refl }))
    (λ d. nothing (whats.Opened m) room.lines (λ side stops bytes k is. is)))

pub happens_is : (w : What) (room : Room) → is_of_call (event_line w) ≡ false → Happens w room.lines (take_event w room).lines
happens_is (whats.Opened m) room low = opens_is m room low
happens_is (whats.Bytes m Down bytes) room low = comes_is (whats.Bytes m Down bytes) false false bytes m room (refl, refl, refl, refl)
happens_is (whats.Bytes m Up bytes) room low = comes_is (whats.Bytes m Up bytes) true false bytes m room (refl, refl, refl, refl)
happens_is (whats.End m Down) room low = comes_is (whats.End m Down) false true [] m room (refl, refl, refl, refl)
happens_is (whats.End m Up) room low = comes_is (whats.End m Up) true true [] m room (refl, refl, refl, refl)
happens_is (whats.Gone m Down) room low = down_is (whats.Gone m Down) m (line_in m room.lines) room (λ side stops bytes k is. is)
happens_is (whats.Gone m Up) room low = up_is (whats.Gone m Up) m (exchange_on m room) room (λ side stops bytes k is. is)
happens_is (whats.Joined m) room low = nothing (whats.Joined m) room.lines (λ side stops bytes k is. is)
happens_is (whats.Refused m) room low = up_is (whats.Refused m) m (exchange_on m room) room (λ side stops bytes k is. is)
happens_is (whats.Room m side) room low = nothing (whats.Room m side) room.lines (λ side stops bytes k is. is)
happens_is whats.Clock room low = nothing whats.Clock room.lines (λ side stops bytes k is. is)
happens_is whats.Stop room low = nothing whats.Stop room.lines (λ side stops bytes k is. is)

-- ---- on the line of a callout it comes to no reader of an open line

shut_is : (w : What) (side stops : Bool) (bytes : List ℕ) (m : ℕ) (lines : List Line) → found_in m lines ≡ None → Says w side stops bytes m → Happens w lines lines
shut_is w side stops bytes m lines none says = record {
  comes = less side stops bytes m (ap (λ (o : Option Line). is_open (line_reading side o) && not (side && is_answered_in (exchange_of_line o))) none ∙ none_open side);
  by = says;
}
  where
    none_open : (s : Bool) → (is_open (line_reading s None) && not (s && is_answered_in (exchange_of_line None))) ≡ false
    none_open true = refl
    none_open false = refl

pub unheard : (w : What) (lines : List Line) → is_of_call (event_line w) ≡ true → AreLow lines → Happens w lines lines
unheard (whats.Opened m) lines is low = nothing (whats.Opened m) lines (λ side stops bytes k says. says)
unheard (whats.Bytes m Down bytes) lines is low = shut_is (whats.Bytes m Down bytes) false false bytes m lines (none_low m is lines low) (refl, refl, refl, refl)
unheard (whats.Bytes m Up bytes) lines is low = shut_is (whats.Bytes m Up bytes) true false bytes m lines (none_low m is lines low) (refl, refl, refl, refl)
unheard (whats.End m Down) lines is low = shut_is (whats.End m Down) false true [] m lines (none_low m is lines low) (refl, refl, refl, refl)
unheard (whats.End m Up) lines is low = shut_is (whats.End m Up) true true [] m lines (none_low m is lines low) (refl, refl, refl, refl)
unheard (whats.Gone m side) lines is low = nothing (whats.Gone m side) lines (λ s stops bytes k says. says)
unheard (whats.Joined m) lines is low = nothing (whats.Joined m) lines (λ side stops bytes k says. says)
unheard (whats.Refused m) lines is low = nothing (whats.Refused m) lines (λ side stops bytes k says. says)
unheard (whats.Room m side) lines is low = nothing (whats.Room m side) lines (λ s stops bytes k says. says)
unheard whats.Clock lines is low = absurd (cc)
unheard whats.Stop lines is low = absurd (cc)

-- ---- and so what holds of the readers of one side

-- what held of them before the event, and holds of them after it
pub record Follows (up : Bool) (P Q : ℕ → Reading → Type 0) (w : What) : Type 0 where
  pub fed : (stops : Bool) (bytes : List ℕ) (m : ℕ) → Says w up stops bytes m → (r : Reading) → P m r → Q m (reading_with_more stops bytes r)
  pub aside : (n : ℕ) (r : Reading) → (up ≡ false → (stops : Bool) (bytes : List ℕ) → Says w up stops bytes n → ⊥) → P n r → Q n r
  pub new : (m : ℕ) → w ≡ whats.Opened m → up ≡ false → Q m (new_reading None)

-- the number of another line
pub says_one : (w : What) (a b : Bool) (s t : Bool) (xs ys : List ℕ) (m n : ℕ) → Says w a s xs m → Says w b t ys n → (a ≡ b) × (m ≡ n) × (s ≡ t) × (xs ≡ ys)
says_one (whats.Bytes k z text) a b s t xs ys m n p q = (sym p.0 ∙ q.0, sym p.3 ∙ q.3, p.1 ∙ sym q.1, p.2 ∙ sym q.2)
says_one (whats.End k z) a b s t xs ys m n p q = (sym p.0 ∙ q.0, sym p.3 ∙ q.3, p.1 ∙ sym q.1, p.2 ∙ sym q.2)
says_one (whats.Opened k) a b s t xs ys m n p q = absurd p
says_one (whats.Gone k z) a b s t xs ys m n p q = absurd p
says_one (whats.Joined k) a b s t xs ys m n p q = absurd p
says_one (whats.Refused k) a b s t xs ys m n p q = absurd p
says_one (whats.Room k z) a b s t xs ys m n p q = absurd p
says_one whats.Clock a b s t xs ys m n p q = absurd p
says_one whats.Stop a b s t xs ys m n p q = absurd p

further_number : (side stops : Bool) (bytes : List ℕ) (l : Line) → (side_with_more side stops bytes l).number ≡ l.number
further_number false stops bytes l = refl
further_number true stops bytes l = by_exchange l.exchange
  where
    by_exchange : (o : Option Exchange) → (change_exchange (with_further stops bytes) l o).number ≡ l.number
    by_exchange None = refl
    by_exchange (Some x) = refl

pub number_further : (side stops : Bool) (bytes : List ℕ) (l : Line) → (side_with_more side stops bytes l).number ≡ l.number
number_further side stops bytes l = further_number side stops bytes l

-- the line that is told
told_line : (up : Bool) (P Q : ℕ → Reading → Type 0) (w : What) → Follows up P Q w → (side stops : Bool) (bytes : List ℕ) (m : ℕ) → Says w side stops bytes m
    → (l : Line) → l.number ≡ m → OfLine up P l → OfLine up Q (side_with_more side stops bytes l)
told_line false P Q w f false stops bytes m says l is of r e =
    let same : reading_with_more stops bytes l.requests ≡ r = cc in
    subst (λ (q : Reading). Q l.number q) same (f.fed stops bytes l.number (subst (Says w false stops bytes) (sym is) says) l.requests (of l.requests refl))
told_line false P Q w f true stops bytes m says l is of r e = by_exchange l.exchange refl r e
  where
    by_exchange : (o : Option Exchange) → l.exchange ≡ o → OfLine false Q (change_exchange (with_further stops bytes) l o)
    by_exchange None none q d = f.aside l.number q (λ down t ys other. let never : ◌≡◌ {A = Bool} true false = (says_one w true false stops t bytes ys m l.number says other).0 in absurd (cc)) (of q d)
    by_exchange (Some x) some q d = f.aside l.number q (λ down t ys other. let never : ◌≡◌ {A = Bool} true false = (says_one w true false stops t bytes ys m l.number says other).0 in absurd (cc)) (of q d)
told_line true P Q w f false stops bytes m says l is of r e = f.aside l.number r (λ down. absurd (cc)) (of r e)
told_line true P Q w f true stops bytes m says l is of r e = by_exchange l.exchange refl r e
  where
    by_reader : (x : Exchange) → l.exchange ≡ Some x → (o : Option Reading) → x.reader ≡ o → (q : Reading) → response_with_more stops bytes o ≡ Some q → Q l.number q
    by_reader x some None none q d = absurd (cc)
    by_reader x some (Some old) there q d =
        let same : reading_with_more stops bytes old ≡ q = cc in
        subst (λ (q : Reading). Q l.number q) same (f.fed stops bytes l.number (subst (Says w true stops bytes) (sym is) says) old (of old (ap exchange_reading some ∙ there)))

    by_exchange : (o : Option Exchange) → l.exchange ≡ o → OfLine true Q (change_exchange (with_further stops bytes) l o)
    by_exchange None none q d = absurd (let gone : ◌≡◌ {A = Option Reading} None (Some q) = ap exchange_reading (sym none) ∙ d in cc)
    by_exchange (Some x) some q d = by_reader x some x.reader refl q d

-- the side that is told is not open: its reader has ended
pub ended_further : (stops : Bool) (bytes : List ℕ) (r : Reading) → r.ended ≡ true → reading_with_more stops bytes r ≡ r
ended_further stops bytes r is = ap (λ (b : Bool). if b then r else if stops then reading_with_end r else reading_with_bytes bytes r) is

pub not_open : (r : Reading) → (is_open (Some r) && true) ≡ false → r.ended ≡ true
not_open r e = by_test r.ended e
  where
    by_test : (b : Bool) → (not b && true) ≡ false → b ≡ true
    by_test true d = refl
    by_test false d = absurd (cc)

shut_line : (P Q : ℕ → Reading → Type 0) (w : What) → Follows false P Q w → (stops : Bool) (bytes : List ℕ) (m : ℕ) → Says w false stops bytes m
    → (l : Line) → l.number ≡ m → (is_open (line_reading false (Some l)) && true) ≡ false → OfLine false P l → OfLine false Q l
shut_line P Q w f stops bytes m says l is shut of r e =
    let same : l.requests ≡ r = cc in
    let stays : reading_with_more stops bytes l.requests ≡ r = ended_further stops bytes l.requests (not_open l.requests shut) ∙ same in
    subst (λ (q : Reading). Q l.number q) stays (f.fed stops bytes l.number (subst (Says w false stops bytes) (sym is) says) l.requests (of l.requests refl))

shut_lines : (P Q : ℕ → Reading → Type 0) (w : What) → Follows false P Q w → (stops : Bool) (bytes : List ℕ) (m : ℕ) → Says w false stops bytes m
    → ((n : ℕ) (r : Reading) → (n ≡ m → ⊥) → P n r → Q n r) → (lines : List Line) → AreRising lines → (is_open (line_reading false (found_in m lines)) && true) ≡ false → Every false P lines → Every false Q lines
shut_lines P Q w f stops bytes m says others [] rising shut all = tt
shut_lines P Q w f stops bytes m says others (l ∷ lines) rising shut all =
    by_test (λ e. shut_lines P Q w f stops bytes m says others lines rising.1 e all.1) (l.number == m) refl shut
  where
    by_test : ((is_open (line_reading false (found_in m lines)) && true) ≡ false → Every false Q lines) → (b : Bool) → (l.number == m) ≡ b
        → (is_open (line_reading false (if b then Some l else found_in m lines)) && true) ≡ false → Every false Q (l ∷ lines)
    by_test rest true is e =
        (shut_line P Q w f stops bytes m says l (equal_by l.number m is) e all.0, every_above false P Q m others lines (subst (λ (n : ℕ). AreAbove n lines) (equal_by l.number m is) rising.0) all.1)
    by_test rest false is e = ((λ r d. others l.number r (other_by l.number m is) (all.0 r d)), rest e)

pub every_happens : (up : Bool) (P Q : ℕ → Reading → Type 0) (w : What) → Closed up Q → Follows up P Q w → (lines later : List Line) → AreRising lines → Happens w lines later → Every up P lines → Every up Q later
every_happens up P Q w closed f lines later rising h all = by_comes later h.comes h.by
  where
    others : (side stops : Bool) (bytes : List ℕ) (m : ℕ) → Says w side stops bytes m → (n : ℕ) (r : Reading) → (n ≡ m → ⊥) → P n r → Q n r
    others side stops bytes m says n r apart p = f.aside n r (λ down t ys other. apart (sym (says_one w side up stops t bytes ys m n says other).1)) p

    silent : ((side stops : Bool) (bytes : List ℕ) (m : ℕ) → Says w side stops bytes m → ⊥) → (n : ℕ) (r : Reading) → P n r → Q n r
    silent never n r p = f.aside n r (λ down t ys says. never up t ys n says) p

    opened_says : (m : ℕ) → w ≡ whats.Opened m → (side stops : Bool) (bytes : List ℕ) (k : ℕ) → Says w side stops bytes k → ⊥
    opened_says m is side stops bytes k says = subst (λ (v : What). Says v side stops bytes k) is says

    shut : (u side stops : Bool) (bytes : List ℕ) (m : ℕ) → u ≡ up → (is_open (line_reading side (found_in m lines)) && not (side && is_answered_in (exchange_of_line (found_in m lines)))) ≡ false → Says w side stops bytes m → Every up Q lines
    shut true side stops bytes m is e says = every_other up P Q (λ n r p. f.aside n r (λ down. let never : ◌≡◌ {A = Bool} true false = is ∙ down in absurd (cc)) p) lines all
    shut false true stops bytes m is e says = every_other up P Q (λ n r p. f.aside n r (λ down t ys other. let never : ◌≡◌ {A = Bool} true up = (says_one w true up stops t bytes ys m n says other).0 in absurd (cc)) p) lines all
    shut false false stops bytes m is e says =
        subst (λ (u : Bool). Follows u P Q w → Every u P lines → Every u Q lines) is (λ g each. shut_lines P Q w g stops bytes m says (aside_of g) lines rising e each) f all
      where
        aside_of : Follows false P Q w → (n : ℕ) (r : Reading) → (n ≡ m → ⊥) → P n r → Q n r
        aside_of g n r apart p = g.aside n r (λ down t ys other. apart (sym (says_one w false false stops t bytes ys m n says other).1)) p

    by_comes : (later : List Line) → (c : Comes lines later) → ComesBy w lines later c → Every up Q later
    by_comes later (aside _ alike) by = every_alike up Q closed lines later alike (every_other up P Q (silent by) lines all)
    by_comes later (new m none few low) by = every_new up Q m (λ down. f.new m by down) lines (every_other up P Q (silent (opened_says m by)) lines all)
    by_comes later (gone m) by = every_without up Q m lines (every_other up P Q (silent by) lines all)
    by_comes later (more side stops bytes m listens) by = every_set up P Q (side_with_more side stops bytes) m (told_line up P Q w f side stops bytes m by) (others side stops bytes m by) lines rising all
    by_comes later (less side stops bytes m e) by = shut up side stops bytes m refl e by
