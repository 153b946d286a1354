-- A step in which an event happens, seen from the two sides of the line of a number.
use Rattle.std.proofs.Common.{◌≡◌, ℕ, ◌==◌, Bool, true, false, not, ◌&&◌, List, [], ◌∷◌, ◌++◌, length, refl, ap, ◌∙◌, sym, subst}
use Rattle.std.proofs.lemmas.List.{append-nil}
use Rattle.std.specs.Prelude.{Option, None, Some, is_some, option_map, nat_lt, find, insert, if◌then◌else◌}
use Rattle.exchange.specs.declared.types.Exchange.{Exchange}
use Rattle.exchange.specs.Passing.{refuse_exchange}
use Rattle.law_exchange.specs.Lives.{refuses}
use Rattle.gate_io.specs.declared.event.Sent.{Sent}
use Rattle.gate_io.specs.declared.event.Sent.TheVariants as to
use Rattle.gate_io.specs.declared.event.Side.TheVariants.{Down, Up}
use Rattle.gate_io.specs.declared.event.What.{What}
use Rattle.gate_io.specs.declared.event.What.TheVariants as whats
use Rattle.worker_model.specs.Room.{Room}
use Rattle.worker_model.specs.declared.types.Job.{Job}
use Rattle.worker_model.specs.declared.types.Job.TheVariants as jobs
use Rattle.worker_model.specs.declared.types.Line.{Line}
use Rattle.worker_model.specs.Rooms as rooms
use Rattle.worker_model.specs.Rooms.{place_in, on_number, room_with_sent}
use Rattle.worker_model.specs.Steps.{change_exchange, on_lines, exchange_of_line, exchange_on, line_in, line_reading, drop_line, read_side, most_lines, new_line, place_for, accept_line, side_with_more, with_further, is_open, is_answered_in, is_read_in, receive, line_without_client as loses, exchange_without_client, lose_client, is_missed, lose_server, take_event}
use Rattle.law_lines.proofs.Closing.{drop_other, drop_same}
use Rattle.law_lines.proofs.Finding.{Seeks, missing, first as stands_first, seeks, IsOnce, insert_other, insert_found}
use Rattle.law_lines.proofs.Happening.{found_fails, numbered_further, numbered_lost}
use Rattle.law_lines.proofs.Kept.{by_bool}
use Rattle.law_lines.proofs.Looks.{is_n, look, line_in_is, equal_by}
use Rattle.law_lines.proofs.OnLines.{on_same, on_other}
use Rattle.law_lines.proofs.Rooms.{same_sent}
use Rattle.law_down.specs.InOrder.{State, stands, opened, left, state_at_event, state_after, has_up, lost_or_shut, state_in}
use Rattle.law_down.proofs.Under.{Closing}
use Rattle.law_down.proofs.Goings.{gone_of, gone_at, happens_in, on_line_gone, gone_change}
use Rattle.law_down.proofs.Gone.{GoneEx, GoneOk, as_before, Change, still, sends_so, Plain, Step, faces}
use Rattle.law_down.proofs.Orderly.{close_other, close_here, deed_step}

module _ (n : ℕ) (w : What) (mid : Room) (once : IsOnce (is_n n) mid.lines) (last : mid.jobs ≡ []) (unended : find rooms.is_over mid.lines ≡ None) (ok : GoneOk n (jobs.Happen w ∷ mid.jobs) (look n mid.lines)) where
  -- ---- no client that is gone has a line then

  here_so : (l : Line) → look n mid.lines ≡ Some l → l.is_gone ≡ false
  here_so l at = by_gone l.is_gone refl
    where
      by_exchange : (o : Option Exchange) → l.exchange ≡ o → GoneEx n (jobs.Happen w ∷ mid.jobs) l.exchange → ⊥
      by_exchange None none ended = let c : Closing n (jobs.Happen w ∷ mid.jobs) = subst (GoneEx n (jobs.Happen w ∷ mid.jobs)) none ended in absurd c.0
      by_exchange (Some x) some ended =
          let e = subst (GoneEx n (jobs.Happen w ∷ mid.jobs)) some ended in
          let runs_on : x.has_ended ≡ false = (λ i. rooms.exchange_ends (sym some i)) ∙ found_fails rooms.is_over (is_n n) mid.lines l unended at in
          let never : ◌≡◌ {A = Bool} true false = sym e.0 ∙ runs_on in absurd (cc)

      by_gone : (b : Bool) → l.is_gone ≡ b → l.is_gone ≡ false
      by_gone false is = is
      by_gone true is = absurd (by_exchange l.exchange refl (subst (GoneOk n (jobs.Happen w ∷ mid.jobs)) at ok is))

  never_gone : (ks : List Job) (ls : List Line) → gone_at n ls ≡ gone_at n mid.lines → GoneOk n ks (look n ls)
  never_gone ks ls same = by_lines (look n ls) (look n mid.lines) same here_so
    where
      by_lines : (p o : Option Line) → option_map gone_of p ≡ option_map gone_of o → ((l : Line) → o ≡ Some l → l.is_gone ≡ false) → GoneOk n ks p
      by_lines None o same here = tt
      by_lines (Some m) None same here = absurd (cc)
      by_lines (Some m) (Some l) same here =
          let alike : m.is_gone ≡ l.is_gone = cc in
          λ gone. let never : ◌≡◌ {A = Bool} true false = sym gone ∙ (alike ∙ here l refl) in absurd (cc)

  still_ok : GoneOk n mid.jobs (look n mid.lines)
  still_ok = never_gone mid.jobs mid.lines refl

  jobless : Closing n mid.jobs → ⊥
  jobless c = subst (Closing n) last c

  -- ---- what changes no state by itself

  refaced : (later : Room) → ((s : State) → state_at_event n w s ≡ s) → Change n as_before mid later → Change n (state_at_event n w) mid later
  refaced later same (still e gone adds away) = still same gone adds away
  refaced later same (sends_so more adds so) = sends_so more adds (ap (state_after n more) (same (state_in (look n mid.lines))) ∙ so)

  eventful : (later : Room) → ((s : State) → state_at_event n w s ≡ s) → Plain n mid.jobs mid later → Step n (jobs.Happen w ∷ mid.jobs) mid later
  eventful later same p = faces w (refaced later same p.change) p.gone (ap (λ (l : List What). w ∷ l) p.due)

  -- the lines alone changed, and nothing is sent
  lines_plain : (later : Room) → gone_at n later.lines ≡ gone_at n mid.lines → later.hub.sent ≡ mid.hub.sent → later.jobs ≡ mid.jobs → later.agenda ≡ mid.agenda → Plain n mid.jobs mid later
  lines_plain later gone sent js agenda = record {
    change = still (λ s. refl) gone (record { more = []; adds = sent ∙ sym (append-nil mid.hub.sent); quiet = tt }) (λ away. same_sent n mid.hub later.hub sent);
    gone = never_gone later.jobs later.lines gone;
    due = λ i. happens_in (sym js i) ++ happens_in (sym agenda i);
  }

  gone_further : (up stops : Bool) (bytes : List ℕ) (l : Line) → (side_with_more up stops bytes l).is_gone ≡ l.is_gone
  gone_further false stops bytes l = refl
  gone_further true stops bytes l = gone_change (with_further stops bytes) l

  comes_plain : (up stops : Bool) (bytes : List ℕ) (m : ℕ) → Plain n mid.jobs mid (receive up stops bytes m mid)
  comes_plain up stops bytes m =
      by_bool (Plain n mid.jobs mid) (is_open (line_reading up (line_in m mid.lines)) && not (up && is_answered_in (exchange_of_line (line_in m mid.lines))))
      (if is_read_in up (exchange_of_line (line_in m mid.lines)) then read_side m up (on_lines (side_with_more up stops bytes) m mid) else on_lines (side_with_more up stops bytes) m mid) mid
      (λ e. by_bool (Plain n mid.jobs mid) (is_read_in up (exchange_of_line (line_in m mid.lines))) (read_side m up (on_lines (side_with_more up stops bytes) m mid)) (on_lines (side_with_more up stops bytes) m mid)
      (λ d. lines_plain (read_side m up (on_lines (side_with_more up stops bytes) m mid)) gone refl refl refl) (λ d. lines_plain (on_lines (side_with_more up stops bytes) m mid) gone refl refl refl)) (λ e. lines_plain mid refl refl refl refl)
    where
      gone : gone_at n (on_lines (side_with_more up stops bytes) m mid).lines ≡ gone_at n mid.lines
      gone = on_line_gone n (side_with_more up stops bytes) m mid.lines (numbered_further up stops bytes) (gone_further up stops bytes)

  loses_up_plain : (m : ℕ) (o : Option Exchange) → Plain n mid.jobs mid (lose_server m o mid)
  loses_up_plain m o =
      by_bool (Plain n mid.jobs mid) (is_missed o) (on_number (refuse_exchange 502) m mid) mid (λ e. deed_step n mid once mid.jobs m (refuses 502) tt jobless refl still_ok) (λ e. lines_plain mid refl refl refl refl)

  -- ---- a client connects

  there_n : (m : ℕ) (o : Option Line) → (m == n) ≡ true → look m mid.lines ≡ o → look n mid.lines ≡ o
  there_n m o here at = subst (λ (j : ℕ). look j mid.lines ≡ o) (equal_by m n here) at

  -- what is sent, and the state then
  faces_so : (later : Room) (more : List Sent) → later.hub.sent ≡ mid.hub.sent ++ more → state_after n more (state_at_event n w (state_in (look n mid.lines))) ≡ Some (state_in (look n later.lines)) → GoneOk n later.jobs (look n later.lines) → later.jobs ≡ mid.jobs → later.agenda ≡ mid.agenda
      → Step n (jobs.Happen w ∷ mid.jobs) mid later
  faces_so later more sent so gone js agenda = faces w (sends_so more sent so) gone (λ i. w ∷ (happens_in (sym js i) ++ happens_in (sym agenda i)))

  no_line : (m : ℕ) → is_some (place_in m mid.lines) ≡ false → look m mid.lines ≡ None
  no_line m is = by_seek (seeks (is_n m) mid.lines)
    where
      by_seek : Seeks (is_n m) mid.lines → look m mid.lines ≡ None
      by_seek (missing at none) = none
      by_seek (stands_first k l at there passes found) = let never : ◌≡◌ {A = Bool} false true = sym is ∙ ap is_some at in absurd (cc)

  some_line : (m : ℕ) → is_some (place_in m mid.lines) ≡ true → look m mid.lines ≡ None → ⊥
  some_line m is gone = by_seek (seeks (is_n m) mid.lines)
    where
      by_seek : Seeks (is_n m) mid.lines → ⊥
      by_seek (missing at none) = let never : ◌≡◌ {A = Bool} true false = sym is ∙ ap is_some at in absurd (cc)
      by_seek (stands_first k l at there passes found) = let never : ◌≡◌ {A = Option Line} None (Some l) = sym gone ∙ found in absurd (cc)

  opens_step : (m : ℕ) → ((s : State) → state_at_event n w s ≡ (if m == n then opened s else s)) → Step n (jobs.Happen w ∷ mid.jobs) mid (accept_line m mid)
  opens_step m face =
      by_bool (Step n (jobs.Happen w ∷ mid.jobs) mid) (is_some (place_in m mid.lines)) mid (if nat_lt (length mid.lines) most_lines then record mid { lines = insert mid.lines (place_for m mid.lines) (new_line m) } else room_with_sent (to.Close m Down ∷ []) mid) there_already
      (λ e. by_bool (Step n (jobs.Happen w ∷ mid.jobs) mid) (nat_lt (length mid.lines) most_lines) (record mid { lines = insert mid.lines (place_for m mid.lines) (new_line m) }) (room_with_sent (to.Close m Down ∷ []) mid) (λ d. inserted (no_line m e) (m == n) refl)
      (λ d. closed (no_line m e) (m == n) refl))
    where
      other_face : (m == n) ≡ false → (s : State) → state_at_event n w s ≡ s
      other_face other s = face s ∙ ap (λ b. if b then opened s else s) other

      own_face : (m == n) ≡ true → (s : State) → state_at_event n w s ≡ opened s
      own_face here s = face s ∙ ap (λ b. if b then opened s else s) here

      there_already : is_some (place_in m mid.lines) ≡ true → Step n (jobs.Happen w ∷ mid.jobs) mid mid
      there_already is = by_test (m == n) refl
        where
          stays_open : (m == n) ≡ true → (o : Option Line) → look n mid.lines ≡ o → opened (state_in o) ≡ state_in o
          stays_open here None at = absurd (some_line m is (subst (λ (j : ℕ). look j mid.lines ≡ None) (sym (equal_by m n here)) at))
          stays_open here (Some l) at =
              let up : state_in (Some l) ≡ stands (has_up l.exchange) = ap (λ b. if b then lost_or_shut (has_up l.exchange) else stands (has_up l.exchange)) (here_so l at) in
              ap opened up ∙ sym up

          by_test : (b : Bool) → (m == n) ≡ b → Step n (jobs.Happen w ∷ mid.jobs) mid mid
          by_test false other = eventful mid (other_face other) (lines_plain mid refl refl refl refl)
          by_test true here = faces_so mid [] (sym (append-nil mid.hub.sent)) (ap (λ (s : State). Some s) (own_face here (state_in (look n mid.lines)) ∙ stays_open here (look n mid.lines) refl)) still_ok refl refl

      inserted : look m mid.lines ≡ None → (b : Bool) → (m == n) ≡ b → Step n (jobs.Happen w ∷ mid.jobs) mid (record mid { lines = insert mid.lines (place_for m mid.lines) (new_line m) })
      inserted none false other =
          eventful (record mid { lines = insert mid.lines (place_for m mid.lines) (new_line m) }) (other_face other)
          (lines_plain (record mid { lines = insert mid.lines (place_for m mid.lines) (new_line m) }) (ap (option_map gone_of) (insert_other (is_n n) mid.lines (place_for m mid.lines) (new_line m) other)) refl refl refl)
      inserted none true here =
          let gone : look n mid.lines ≡ None = there_n m None here none in
          let at : look n (insert mid.lines (place_for m mid.lines) (new_line m)) ≡ Some (new_line m) = insert_found (is_n n) mid.lines (place_for m mid.lines) (new_line m) gone here in
          faces_so (record mid { lines = insert mid.lines (place_for m mid.lines) (new_line m) }) [] (sym (append-nil mid.hub.sent))
          (ap (λ (s : State). Some s) (own_face here (state_in (look n mid.lines)) ∙ ap (λ (o : Option Line). opened (state_in o)) gone) ∙ ap (λ (o : Option Line). Some (state_in o)) (sym at))
          (subst (GoneOk n mid.jobs) (sym at) (λ e. let never : ◌≡◌ {A = Bool} false true = e in absurd (cc))) refl refl

      closed : look m mid.lines ≡ None → (b : Bool) → (m == n) ≡ b → Step n (jobs.Happen w ∷ mid.jobs) mid (room_with_sent (to.Close m Down ∷ []) mid)
      closed none false other =
          faces_so (room_with_sent (to.Close m Down ∷ []) mid) (to.Close m Down ∷ []) refl
          (ap (state_after n (to.Close m Down ∷ [])) (other_face other (state_in (look n mid.lines))) ∙ close_other n mid once m other (state_in (look n mid.lines))) still_ok refl refl
      closed none true here =
          let gone : look n mid.lines ≡ None = there_n m None here none in
          faces_so (room_with_sent (to.Close m Down ∷ []) mid) (to.Close m Down ∷ []) refl
          (ap (state_after n (to.Close m Down ∷ [])) (own_face here (state_in (look n mid.lines)) ∙ ap (λ (o : Option Line). opened (state_in o)) gone) ∙ (close_here n mid once m here ∙ ap (λ (o : Option Line). Some (state_in o)) (sym gone))) still_ok refl refl

  -- ---- a client is gone

  loses_step : (m : ℕ) → ((s : State) → state_at_event n w s ≡ (if m == n then left s else s)) → Step n (jobs.Happen w ∷ mid.jobs) mid (lose_client m (line_in m mid.lines) mid)
  loses_step m face = by_line (look m mid.lines) refl
    where
      other_face : (m == n) ≡ false → (s : State) → state_at_event n w s ≡ s
      other_face other s = face s ∙ ap (λ b. if b then left s else s) other

      own_face : (m == n) ≡ true → (s : State) → state_at_event n w s ≡ left s
      own_face here s = face s ∙ ap (λ b. if b then left s else s) here

      -- the state, where the line is there
      own_state : (l : Line) → (m == n) ≡ true → look m mid.lines ≡ Some l → state_in (look n mid.lines) ≡ stands (has_up l.exchange)
      own_state l here at =
          let there : look n mid.lines ≡ Some l = there_n m (Some l) here at in
          ap state_in there ∙ ap (λ b. if b then lost_or_shut (has_up l.exchange) else stands (has_up l.exchange)) (here_so l there)

      by_line : (o : Option Line) → look m mid.lines ≡ o → Step n (jobs.Happen w ∷ mid.jobs) mid (lose_client m (line_in m mid.lines) mid)
      by_line None at = subst (λ (o : Option Line). Step n (jobs.Happen w ∷ mid.jobs) mid (lose_client m o mid)) (sym (line_in_is m mid.lines ∙ at)) (none_so (m == n) refl)
        where
          none_so : (b : Bool) → (m == n) ≡ b → Step n (jobs.Happen w ∷ mid.jobs) mid mid
          none_so false other = eventful mid (other_face other) (lines_plain mid refl refl refl refl)
          none_so true here =
              let gone : look n mid.lines ≡ None = there_n m None here at in
              faces_so mid [] (sym (append-nil mid.hub.sent)) (ap (λ (s : State). Some s) (own_face here (state_in (look n mid.lines)) ∙ (ap (λ (o : Option Line). left (state_in o)) gone ∙ ap state_in (sym gone)))) still_ok refl refl
      by_line (Some l) at =
          subst (λ (o : Option Line). Step n (jobs.Happen w ∷ mid.jobs) mid (lose_client m o mid)) (sym (line_in_is m mid.lines ∙ at))
          (by_bool (Step n (jobs.Happen w ∷ mid.jobs) mid) (is_some l.exchange) (on_lines loses m mid) (drop_line m mid) (λ e. lost_so e (m == n) refl) (λ e. dropped_so (none_of l.exchange e) (m == n) refl))
        where
          none_of : (o : Option Exchange) → is_some o ≡ false → o ≡ None
          none_of None is = refl
          none_of (Some x) is = absurd (cc)

          dropped_so : l.exchange ≡ None → (b : Bool) → (m == n) ≡ b → Step n (jobs.Happen w ∷ mid.jobs) mid (drop_line m mid)
          dropped_so none false other = eventful (drop_line m mid) (other_face other) (lines_plain (drop_line m mid) (ap (option_map gone_of) (drop_other n m mid.lines other)) refl refl refl)
          dropped_so none true here =
              let gone : look n (drop_line m mid).lines ≡ None = drop_same n m mid.lines once here in
              faces_so (drop_line m mid) [] (sym (append-nil mid.hub.sent))
              (ap (λ (s : State). Some s) (own_face here (state_in (look n mid.lines)) ∙ (ap left (own_state l here at) ∙ (ap (λ (o : Option Exchange). left (stands (has_up o))) none ∙ ap state_in (sym gone)))))
              (subst (GoneOk n mid.jobs) (sym gone) tt) refl refl

          lost_so : is_some l.exchange ≡ true → (b : Bool) → (m == n) ≡ b → Step n (jobs.Happen w ∷ mid.jobs) mid (on_lines loses m mid)
          lost_so some false other = eventful (on_lines loses m mid) (other_face other) (lines_plain (on_lines loses m mid) (ap (option_map gone_of) (on_other n m loses mid.lines numbered_lost other)) refl refl refl)
          lost_so some true here =
              let there : look n (on_lines loses m mid).lines ≡ Some (loses l) = on_same n m loses mid.lines numbered_lost once here ∙ ap (option_map loses) (there_n m (Some l) here at) in
              faces_so (on_lines loses m mid) [] (sym (append-nil mid.hub.sent))
              (ap (λ (s : State). Some s) (own_face here (state_in (look n mid.lines)) ∙ (ap left (own_state l here at) ∙ (left_so ∙ ap state_in (sym there)))))
              (subst (GoneOk n mid.jobs) (sym there) (λ gone. subst (GoneEx n mid.jobs) (sym exchange_is) (by_some l.exchange some))) refl refl
            where
              by_up : (b : Bool) → left (stands b) ≡ lost_or_shut b
              by_up true = refl
              by_up false = refl

              change_is : (o : Option Exchange) → l.exchange ≡ o → (change_exchange exchange_without_client l o).exchange ≡ option_map exchange_without_client o
              change_is None none = none
              change_is (Some x) some = refl

              exchange_is : (loses l).exchange ≡ option_map exchange_without_client l.exchange
              exchange_is = change_is l.exchange refl

              up_same : (o : Option Exchange) → has_up o ≡ has_up (option_map exchange_without_client o)
              up_same None = refl
              up_same (Some x) = refl

              left_so : left (stands (has_up l.exchange)) ≡ state_in (Some (loses l))
              left_so = by_up (has_up l.exchange) ∙ (ap lost_or_shut (up_same l.exchange) ∙ ap (λ (o : Option Exchange). lost_or_shut (has_up o)) (sym exchange_is))

              by_some : (o : Option Exchange) → is_some o ≡ true → GoneEx n mid.jobs (option_map exchange_without_client o)
              by_some None is = absurd (cc)
              by_some (Some x) is = (refl, refl)

  -- WHAT HAPPENS
  pub happens_step : (v : What) → w ≡ v → Step n (jobs.Happen w ∷ mid.jobs) mid (take_event v mid)
  happens_step (whats.Opened m) is = opens_step m (λ s. ap (λ (v : What). state_at_event n v s) is)
  happens_step (whats.Bytes m Down bytes) is = eventful (take_event (whats.Bytes m Down bytes) mid) (λ s. ap (λ (v : What). state_at_event n v s) is) (comes_plain false false bytes m)
  happens_step (whats.Bytes m Up bytes) is = eventful (take_event (whats.Bytes m Up bytes) mid) (λ s. ap (λ (v : What). state_at_event n v s) is) (comes_plain true false bytes m)
  happens_step (whats.End m Down) is = eventful (take_event (whats.End m Down) mid) (λ s. ap (λ (v : What). state_at_event n v s) is) (comes_plain false true [] m)
  happens_step (whats.End m Up) is = eventful (take_event (whats.End m Up) mid) (λ s. ap (λ (v : What). state_at_event n v s) is) (comes_plain true true [] m)
  happens_step (whats.Gone m Down) is = loses_step m (λ s. ap (λ (v : What). state_at_event n v s) is)
  happens_step (whats.Gone m Up) is = eventful (take_event (whats.Gone m Up) mid) (λ s. ap (λ (v : What). state_at_event n v s) is) (loses_up_plain m (exchange_on m mid))
  happens_step (whats.Joined m) is = eventful mid (λ s. ap (λ (v : What). state_at_event n v s) is) (lines_plain mid refl refl refl refl)
  happens_step (whats.Refused m) is = eventful (take_event (whats.Refused m) mid) (λ s. ap (λ (v : What). state_at_event n v s) is) (loses_up_plain m (exchange_on m mid))
  happens_step (whats.Room m side) is = eventful mid (λ s. ap (λ (v : What). state_at_event n v s) is) (lines_plain mid refl refl refl refl)
  happens_step whats.Clock is = eventful mid (λ s. ap (λ (v : What). state_at_event n v s) is) (lines_plain mid refl refl refl refl)
  happens_step whats.Stop is = eventful mid (λ s. ap (λ (v : What). state_at_event n v s) is) (lines_plain mid refl refl refl refl)
