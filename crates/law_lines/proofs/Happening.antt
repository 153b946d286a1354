-- A step in which the event happens.
use Rattle.std.proofs.Common.{◌≡◌, inl, ℕ, ◌==◌, Bool, true, false, not, ◌||◌, ◌&&◌, cond, List, [], ◌∷◌, ◌++◌, length, refl, ap, ◌∙◌, sym, subst}
use Rattle.std.specs.Prelude.{Option, None, Some, is_some, option_map, nat_lt, find, insert, if◌then◌else◌}
use Rattle.exchange.specs.declared.types.Exchange.{Exchange}
use Rattle.exchange.specs.declared.types.Hub.{Hub}
use Rattle.exchange.specs.Passing.{refuse_exchange}
use Rattle.law_exchange.specs.Lives.{refuses, is_over}
use Rattle.law_exchange.proofs.Traffic.{adds_none}
use Rattle.gate_io.specs.declared.event.Sent.{Sent}
use Rattle.gate_io.specs.declared.event.Sent.TheVariants as to
use Rattle.gate_io.specs.declared.event.Side.TheVariants.{Down, Up}
use Rattle.gate_io.specs.declared.event.What.{What}
use Rattle.gate_io.specs.declared.event.What.TheVariants as whats
use Rattle.h1_model.specs.Unread.{Reading, reading_with_end, reading_with_bytes}
use Rattle.worker_model.specs.Room.{Room}
use Rattle.worker_model.specs.declared.types.Job.TheVariants as jobs
use Rattle.worker_model.specs.declared.types.Line.{Line}
use Rattle.worker_model.specs.declared.types.ReadBatch.{ReadBatch}
use Rattle.worker_model.specs.Plan.{Plan}
use Rattle.worker_model.specs.Rooms as rooms
use Rattle.worker_model.specs.Rooms.{has_move, place_in, on_number, room_with_sent}
use Rattle.worker_model.specs.Steps.{change_line, change_exchange, on_line, on_lines, exchange_of_line, exchange_on, line_in, line_reading, drop_line, read_side, most_lines, new_line, place_for, accept_line, reading_with_more, response_with_more, with_further, side_with_more, is_open, is_answered_in, is_read_in, receive, exchange_without_client, line_without_client, lose_client, is_missed, lose_server, take_event}
use Rattle.law_lines.proofs.Finding.{Seeks, missing, first, seeks, IsOnce, insert_other, insert_found, insert_once}
use Rattle.law_lines.proofs.Hearing.{Feeds, no_feed, further_feeds}
use Rattle.law_lines.proofs.Kept.{by_bool}
use Rattle.law_lines.proofs.Upward.{still_keeps}
use Rattle.law_lines.proofs.Looks.{is_n, look, line_in_is, equal_by, does_deed}
use Rattle.law_lines.proofs.OnLines.{Numbered, on_once, on_other, on_same, on_rests}
use Rattle.law_lines.proofs.Rooms.{AllParts, calm_number}
use Rattle.law_lines.proofs.Story.{puts_of, Tail, Rests, batch_of, ReadsOk, LineOk, Known}
use Rattle.law_lines.proofs.Calmed.{known_calm}
use Rattle.law_lines.proofs.Sides.{Notes, note_up, ExNotes, ended_known, goes_known, numbered_change, still_change}
use Rattle.law_lines.proofs.Turned.{LineTurns, Turn, line_turn}
use Rattle.law_lines.proofs.Working.{Popped}
use Rattle.law_lines.proofs.Closing.{line_as_is, gone_known}

pub found_fails : {X : Type 0} (p q : X → Bool) (xs : List X) (x : X) → find p xs ≡ None → find q xs ≡ Some x → p x ≡ false
found_fails p q [] x none at = absurd (cc)
found_fails {X} p q (z ∷ xs) x none at = by_test (p z) (q z) refl refl (λ e f. found_fails p q xs x e f)
  where
    first_of : (r : X → Bool) (b : Bool) → r z ≡ b → find r (z ∷ xs) ≡ cond b (Some z) (find r xs)
    first_of r b is = ap (λ c. cond c (Some z) (find r xs)) is

    by_test : (a b : Bool) → p z ≡ a → q z ≡ b → (find p xs ≡ None → find q xs ≡ Some x → p x ≡ false) → p x ≡ false
    by_test true b is other later = let some : find p (z ∷ xs) ≡ Some z = first_of p true is in absurd (cc)
    by_test false true is other later = let same : Some z ≡ Some x = sym (first_of q true other) ∙ at in let z_is : z ≡ x = cc in ap p (sym z_is) ∙ is
    by_test false false is other later = later (sym (first_of p false is) ∙ none) (sym (first_of q false other) ∙ at)

pub and_parts : (a b : Bool) → (a && b) ≡ true → (a ≡ true) × (b ≡ true)
and_parts true b is = (refl, is)
and_parts false b is = absurd (cc)

pub unless : (b : Bool) → not b ≡ true → b ≡ false
unless true is = absurd (cc)
unless false is = refl

-- ---- more text changes nothing of what is due

pub text_same : (stops : Bool) (bytes : List ℕ) (r : Reading) → ((reading_with_more stops bytes r).asked ≡ r.asked) × ((reading_with_more stops bytes r).due ≡ r.due)
text_same stops bytes r =
    by_bool (λ (q : Reading). (q.asked ≡ r.asked) × (q.due ≡ r.due)) r.ended r (if stops then reading_with_end r else reading_with_bytes bytes r) (λ e. (refl, refl))
    (λ e. by_bool (λ (q : Reading). (q.asked ≡ r.asked) × (q.due ≡ r.due)) stops (reading_with_end r) (reading_with_bytes bytes r) (λ d. (refl, refl)) (λ d. (refl, refl)))

further_is : (stops : Bool) (bytes : List ℕ) (o : Option Reading) → is_some (response_with_more stops bytes o) ≡ is_some o
further_is stops bytes None = refl
further_is stops bytes (Some r) = refl

further_some : (stops : Bool) (bytes : List ℕ) (o : Option Reading) → is_some o ≡ true → is_some (response_with_more stops bytes o) ≡ true
further_some stops bytes None is = is
further_some stops bytes (Some r) is = refl

pub numbered_further : (up stops : Bool) (bytes : List ℕ) → Numbered (side_with_more up stops bytes)
numbered_further false stops bytes l = refl
numbered_further true stops bytes l = numbered_change (with_further stops bytes) l

pub numbered_lost : Numbered line_without_client
numbered_lost l = numbered_change exchange_without_client l

still_further : (up stops : Bool) (bytes : List ℕ) (l : Line) → has_move (side_with_more up stops bytes l) ≡ has_move l
still_further false stops bytes l = refl
still_further true stops bytes l = still_change (with_further stops bytes) (λ x. (refl, refl, refl)) l

-- ---- the exchange of the line, as it is noted

noted_exchange : (n : ℕ) (g : Exchange → Exchange) (l : Line) (hub : Hub) → ((x : Exchange) → Notes n x hub (g x) hub) → ((change_line g l).requests ≡ l.requests) × ExNotes n l.exchange hub (change_line g l).exchange hub
noted_exchange n g l hub notes = by_exchange l.exchange refl
  where
    by_exchange : (o : Option Exchange) → l.exchange ≡ o → ((change_exchange g l o).requests ≡ l.requests) × ExNotes n l.exchange hub (change_exchange g l o).exchange hub
    by_exchange None at = (refl, subst (λ (o : Option Exchange). ExNotes n o hub l.exchange hub) (sym at) (subst (λ (o : Option Exchange). ExNotes n None hub o hub) (sym at) refl))
    by_exchange (Some x) at = (refl, subst (λ (o : Option Exchange). ExNotes n o hub (Some (g x)) hub) (sym at) (notes x))

further_notes : (n : ℕ) (stops : Bool) (bytes : List ℕ) (x : Exchange) (hub : Hub) → Notes n x hub (with_further stops bytes x) hub
further_notes n stops bytes x hub = record {
  same = refl;
  asked = refl;
  place = refl;
  staid = λ s. s;
  filters = refl;
  entered = refl;
  framed = refl;
  over = λ o. o;
  keeps = still_keeps n (x, hub) (with_further stops bytes x, hub) (record { minor = refl; framed = refl; reader = further_is stops bytes x.reader; live = λ e. (e, refl); entered = refl; answered = λ a. a; sends = refl });
  plain = λ p. note_up n x (with_further stops bytes x) hub hub p (record { unfiltered = p.1; framed = refl; stays_over = λ o. o }) refl (further_some stops bytes x.reader);
}

lost_notes : (n : ℕ) (x : Exchange) (hub : Hub) → Notes n x hub (exchange_without_client x) hub
lost_notes n x hub = record {
  same = refl;
  asked = refl;
  place = refl;
  staid = λ s e. absurd (cc);
  filters = refl;
  entered = refl;
  framed = refl;
  over = λ o. refl;
  keeps = still_keeps n (x, hub) (exchange_without_client x, hub) (record { minor = refl; framed = refl; reader = refl; live = λ e. absurd (cc); entered = refl; answered = λ a. a; sends = refl });
  plain = λ p. note_up n x (exchange_without_client x) hub hub p (record { unfiltered = p.1; framed = refl; stays_over = λ o. refl }) refl (λ o. o);
}

further_line : (n : ℕ) (up stops : Bool) (bytes : List ℕ) (l : Line) (hub : Hub) → LineTurns n (Some l) hub (Some (side_with_more up stops bytes l)) hub
further_line n false stops bytes l hub = let t = text_same stops bytes l.requests in (t.0, t.1, (line_as_is n (Some l) hub hub refl).2, further_feeds stops bytes l.requests)
further_line n true stops bytes l hub =
    let t = noted_exchange n (with_further stops bytes) l hub (λ x. further_notes n stops bytes x hub) in (ap (λ r. r.asked) t.0, ap (λ r. r.due) t.0, t.1, subst (Feeds l.requests) (sym t.0) (no_feed l.requests))

lost_line : (n : ℕ) (l : Line) (hub : Hub) → LineTurns n (Some l) hub (Some (line_without_client l)) hub
lost_line n l hub = let t = noted_exchange n exchange_without_client l hub (λ x. lost_notes n x hub) in (ap (λ r. r.asked) t.0, ap (λ r. r.due) t.0, t.1, subst (Feeds l.requests) (sym t.0) (no_feed l.requests))

option_turns : (n : ℕ) (f : Line → Line) (hub : Hub) (o : Option Line) → ((l : Line) → LineTurns n (Some l) hub (Some (f l)) hub) → LineTurns n o hub (option_map f o) hub
option_turns n f hub None each = refl
option_turns n f hub (Some l) each = each l

line_turns : (n m : ℕ) (f : Line → Line) (lines : List Line) (hub : Hub) → IsOnce (is_n n) lines → Numbered f → ((l : Line) → LineTurns n (Some l) hub (Some (f l)) hub) → LineTurns n (look n lines) hub (look n (on_line f m lines)) hub
line_turns n m f lines hub once numbered each = by_test (m == n) refl
  where
    by_test : (b : Bool) → (m == n) ≡ b → LineTurns n (look n lines) hub (look n (on_line f m lines)) hub
    by_test false other = subst (λ (o : Option Line). LineTurns n (look n lines) hub o hub) (sym (on_other n m f lines numbered other)) (line_as_is n (look n lines) hub hub refl)
    by_test true here = subst (λ (o : Option Line). LineTurns n (look n lines) hub o hub) (sym (on_same n m f lines numbered once here)) (option_turns n f hub (look n lines) each)

module _ (plan : Plan) (n : ℕ) (past : List Sent) (w : What) (mid : Room) (pop : Popped plan n past (jobs.Happen w) mid) (last : mid.jobs ≡ []) (unended : find rooms.is_over mid.lines ≡ None) where
  turn_to : (now : Option ReadBatch) → batch_of n now ≡ [] → Turn n (jobs.Happen w ∷ mid.jobs) now mid.jobs
  turn_to now none = record { pend = ap (λ l. puts_of n mid.jobs ++ l) none; has = λ h. h; no = λ h. h; refusing = λ h. h; none = λ h. h; once = λ h. h; unread = none; unfresh = λ f. f }

  -- nothing is read
  ends_so : (later : Room) → IsOnce (is_n n) later.lines → later.agenda ≡ mid.agenda → later.jobs ≡ mid.jobs → later.reading ≡ mid.reading → LineTurns n (look n mid.lines) mid.hub (look n later.lines) later.hub → Known plan n past later
  ends_so later once agenda js reading turns =
      ended_known plan n past later once (subst AllParts (sym agenda) pop.parts) (subst Tail (sym js) pop.tail) (reading ∙ pop.quiet)
      (subst (λ l. LineOk plan n past None l later.lines (look n later.lines) later.hub) (sym js)
      (line_turn plan n past (jobs.Happen w ∷ mid.jobs) None mid.jobs (turn_to None refl) mid.lines later.lines (look n mid.lines) (look n later.lines) mid.hub later.hub refl refl turns (λ y e. tt) pop.line))

  nothing_so : Known plan n past mid
  nothing_so = ends_so mid pop.once refl refl refl (line_as_is n (look n mid.lines) mid.hub mid.hub refl)

  -- a side is read
  reads_so : (later : Room) (r : ReadBatch) → IsOnce (is_n n) later.lines → later.agenda ≡ mid.agenda → later.jobs ≡ mid.jobs → Rests later.lines → batch_of n (Some r) ≡ [] → LineTurns n (look n mid.lines) mid.hub (look n later.lines) later.hub
      → ((y : Exchange) → exchange_of_line (look n later.lines) ≡ Some y → ReadsOk n (Some r) y) → Known plan n past (record later { reading = Some r })
  reads_so later r once agenda js rests none turns reads =
      goes_known plan n past r later once (subst AllParts (sym agenda) pop.parts) rests (js ∙ last)
      (subst (λ l. LineOk plan n past (Some r) l later.lines (look n later.lines) later.hub) last
      (line_turn plan n past (jobs.Happen w ∷ mid.jobs) (Some r) mid.jobs (turn_to (Some r) none) mid.lines later.lines (look n mid.lines) (look n later.lines) mid.hub later.hub refl refl turns reads pop.line))

  -- ---- a connection was opened

  no_line : (m : ℕ) → is_some (place_in m mid.lines) ≡ false → look m mid.lines ≡ None
  no_line m is = by_seek (seeks (is_n m) mid.lines)
    where
      by_seek : Seeks (is_n m) mid.lines → look m mid.lines ≡ None
      by_seek (missing at none) = none
      by_seek (first k l at there passes found) = let never : ◌≡◌ {A = Bool} false true = sym is ∙ ap is_some at in absurd (cc)

  opens_known : (m : ℕ) → Known plan n past (accept_line m mid)
  opens_known m =
      by_bool (Known plan n past) (is_some (place_in m mid.lines)) mid (if nat_lt (length mid.lines) most_lines then record mid { lines = insert mid.lines (place_for m mid.lines) (new_line m) } else room_with_sent (to.Close m Down ∷ []) mid) (λ e. nothing_so)
      (λ e. by_bool (Known plan n past) (nat_lt (length mid.lines) most_lines) (record mid { lines = insert mid.lines (place_for m mid.lines) (new_line m) }) (room_with_sent (to.Close m Down ∷ []) mid) (λ d. inserted (no_line m e))
      (λ d. ends_so (room_with_sent (to.Close m Down ∷ []) mid) pop.once refl refl refl (line_as_is n (look n mid.lines) mid.hub _ (adds_none n mid.hub.sent (to.Close m Down ∷ []) refl))))
    where
      lines : List Line
      lines = mid.lines

      new_here : (m == n) ≡ true → look m mid.lines ≡ None → look n mid.lines ≡ None
      new_here here none = subst (λ (j : ℕ). look j mid.lines ≡ None) (equal_by m n here) none

      inserted : look m mid.lines ≡ None → Known plan n past (record mid { lines = insert mid.lines (place_for m mid.lines) (new_line m) })
      inserted none = by_test (m == n) refl
        where
          once : IsOnce (is_n n) (insert mid.lines (place_for m mid.lines) (new_line m))
          once = insert_once (is_n n) mid.lines (place_for m mid.lines) (new_line m) pop.once (λ here. new_here here none)

          by_test : (b : Bool) → (m == n) ≡ b → Known plan n past (record mid { lines = insert mid.lines (place_for m mid.lines) (new_line m) })
          by_test false other =
              ends_so (record mid { lines = insert mid.lines (place_for m mid.lines) (new_line m) }) once refl refl refl
              (subst (λ (o : Option Line). LineTurns n (look n mid.lines) mid.hub o mid.hub) (sym (insert_other (is_n n) mid.lines (place_for m mid.lines) (new_line m) other)) (line_as_is n (look n mid.lines) mid.hub mid.hub refl))
          by_test true here =
              let gone : look n mid.lines ≡ None = new_here here none in
              let ok : LineOk plan n past None (jobs.Happen w ∷ mid.jobs) mid.lines None mid.hub = subst (λ (o : Option Line). LineOk plan n past None (jobs.Happen w ∷ mid.jobs) mid.lines o mid.hub) gone pop.line in
              let there : look n (insert mid.lines (place_for m mid.lines) (new_line m)) ≡ Some (new_line m) = insert_found (is_n n) mid.lines (place_for m mid.lines) (new_line m) gone here in
              ended_known plan n past (record mid { lines = insert mid.lines (place_for m mid.lines) (new_line m) }) once pop.parts pop.tail pop.quiet
              (subst (λ (o : Option Line). LineOk plan n past None mid.jobs (insert mid.lines (place_for m mid.lines) (new_line m)) o mid.hub) (sym there) (refl, record { none = ok.0; due_or = inl refl; idle = ok.1 }))

  -- ---- a side has more, or has ended

  comes_known : (up stops : Bool) (bytes : List ℕ) (m : ℕ) → Known plan n past (receive up stops bytes m mid)
  comes_known up stops bytes m =
      by_bool (Known plan n past) (is_open (line_reading up (line_in m mid.lines)) && not (up && is_answered_in (exchange_of_line (line_in m mid.lines))))
      (if is_read_in up (exchange_of_line (line_in m mid.lines)) then read_side m up (on_lines (side_with_more up stops bytes) m mid) else on_lines (side_with_more up stops bytes) m mid) mid
      (λ e. by_bool (Known plan n past) (is_read_in up (exchange_of_line (line_in m mid.lines))) (read_side m up (on_lines (side_with_more up stops bytes) m mid)) (on_lines (side_with_more up stops bytes) m mid)
      (λ d. reads_so later (record { line = m; up = up; batch = [] }) later_once refl refl later_rests no_batch turns (λ y is. allowed y is d)) (λ d. ends_so later later_once refl refl refl turns)) (λ e. nothing_so)
    where
      later : Room
      later = on_lines (side_with_more up stops bytes) m mid

      later_once : IsOnce (is_n n) (on_line (side_with_more up stops bytes) m mid.lines)
      later_once = on_once n m (side_with_more up stops bytes) mid.lines (numbered_further up stops bytes) pop.once

      later_rests : Rests (on_line (side_with_more up stops bytes) m mid.lines)
      later_rests = on_rests m (side_with_more up stops bytes) mid.lines (λ l at is. still_further up stops bytes l ∙ is) pop.rests

      turns : LineTurns n (look n mid.lines) mid.hub (look n (on_line (side_with_more up stops bytes) m mid.lines)) mid.hub
      turns = line_turns n m (side_with_more up stops bytes) mid.lines mid.hub pop.once (numbered_further up stops bytes) (λ l. further_line n up stops bytes l mid.hub)

      no_batch : batch_of n (Some (record { line = m; up = up; batch = [] })) ≡ []
      no_batch = by_bool (λ (l : List _). l ≡ []) ((m == n) && not up) [] [] (λ e. refl) (λ e. refl)

      allowed : (y : Exchange) → exchange_of_line (look n (on_line (side_with_more up stops bytes) m mid.lines)) ≡ Some y → is_read_in up (exchange_of_line (line_in m mid.lines)) ≡ true → ReadsOk n (Some (record { line = m; up = up; batch = [] })) y
      allowed y is read here down = by_line (look n mid.lines) refl
        where
          same_line : look n (on_line (side_with_more up stops bytes) m mid.lines) ≡ option_map (side_with_more up stops bytes) (look n mid.lines)
          same_line = on_same n m (side_with_more up stops bytes) mid.lines (numbered_further up stops bytes) pop.once here

          by_line : (o : Option Line) → look n mid.lines ≡ o → (y.asked.whole ≡ false) × (is_over y ≡ false)
          by_line None at =
              let e : ◌≡◌ {A = Option Exchange} None (Some y) = sym (ap exchange_of_line (same_line ∙ ap (option_map (side_with_more up stops bytes)) at)) ∙ is in absurd (cc)
          by_line (Some l) at =
              let e : l.exchange ≡ Some y = sym (ap exchange_of_line (same_line ∙ (ap (option_map (side_with_more up stops bytes)) at ∙ (λ i. Some (side_with_more (down i) stops bytes l))))) ∙ is in
              let there : exchange_of_line (line_in m mid.lines) ≡ Some y = ap exchange_of_line (line_in_is m mid.lines ∙ (subst (λ (j : ℕ). look j mid.lines ≡ Some l) (sym (equal_by m n here)) at)) ∙ e in
              let open_so : (not y.is_answered && not y.asked.whole) ≡ true = (λ i. is_read_in (sym down i) (sym there i)) ∙ read in
              let both = and_parts (not y.is_answered) (not y.asked.whole) open_so in
              let runs : y.has_ended ≡ false = (λ i. rooms.exchange_ends (sym e i)) ∙ found_fails rooms.is_over (is_n n) mid.lines l unended at in
              (unless y.asked.whole both.1, (λ i. runs i || unless y.is_answered both.0 i))

  -- ---- a side is gone

  loses_down_known : (m : ℕ) → Known plan n past (lose_client m (line_in m mid.lines) mid)
  loses_down_known m = by_line (look m mid.lines) refl
    where
      by_line : (o : Option Line) → look m mid.lines ≡ o → Known plan n past (lose_client m (line_in m mid.lines) mid)
      by_line None at = subst (λ (o : Option Line). Known plan n past (lose_client m o mid)) (sym (line_in_is m mid.lines ∙ at)) nothing_so
      by_line (Some l) at =
          subst (λ (o : Option Line). Known plan n past (lose_client m o mid)) (sym (line_in_is m mid.lines ∙ at))
          (by_bool (Known plan n past) (is_some l.exchange) (on_lines line_without_client m mid) (drop_line m mid)
          (λ e. ends_so (on_lines line_without_client m mid) (on_once n m line_without_client mid.lines numbered_lost pop.once) refl refl refl (line_turns n m line_without_client mid.lines mid.hub pop.once numbered_lost (λ k. lost_line n k mid.hub)))
          (λ e. gone_known plan n past m (jobs.Happen w) mid mid (drop_line m mid) pop (refl, refl, refl, refl) refl refl refl refl refl
          (λ here. ap exchange_of_line (subst (λ (j : ℕ). look j mid.lines ≡ Some l) (equal_by m n here) at) ∙ none_of l.exchange e) (λ other. turn_to None refl) refl))
        where
          none_of : (o : Option Exchange) → is_some o ≡ false → o ≡ None
          none_of None is = refl
          none_of (Some x) is = absurd (cc)

  loses_up_known : (m : ℕ) (o : Option Exchange) → Known plan n past (lose_server m o mid)
  loses_up_known m o =
      by_bool (Known plan n past) (is_missed o) (on_number (refuse_exchange 502) m mid) mid
      (λ e. known_calm plan n past (jobs.Happen w ∷ mid.jobs) mid (on_number (refuse_exchange 502) m mid) pop.parts pop.tail pop.quiet pop.line (record { puts = refl; has = λ h. h; no = λ h. h; refusing = λ h. h; none = λ h. h; once = λ h. h })
      (calm_number n (refuse_exchange 502) m mid pop.once (does_deed (refuse_exchange 502) (refuses 502) tt (λ k x hub. refl))) (λ l k x y fields at some behind there p place asked f rests map proper. absurd f)) (λ e. nothing_so)

  pub happens_known : (v : What) → Known plan n past (take_event v mid)
  happens_known (whats.Opened m) = opens_known m
  happens_known (whats.Bytes m Down bytes) = comes_known false false bytes m
  happens_known (whats.Bytes m Up bytes) = comes_known true false bytes m
  happens_known (whats.End m Down) = comes_known false true [] m
  happens_known (whats.End m Up) = comes_known true true [] m
  happens_known (whats.Gone m Down) = loses_down_known m
  happens_known (whats.Gone m Up) = loses_up_known m (exchange_on m mid)
  happens_known (whats.Joined m) = nothing_so
  happens_known (whats.Refused m) = loses_up_known m (exchange_on m mid)
  happens_known (whats.Room m side) = nothing_so
  happens_known whats.Clock = nothing_so
  happens_known whats.Stop = nothing_so
