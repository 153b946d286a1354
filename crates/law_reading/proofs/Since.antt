-- What the readers of clients read, over turns.
use Rattle.std.proofs.Common.{◌≡◌, ◌⊎◌, inl, inr, ℕ, ◌==◌, ◌≤◌, Bool, true, false, List, [], ◌∷◌, ◌++◌, length, refl, ap, ◌∙◌, sym, subst, arith}
use Rattle.std.proofs.lemmas.Bool.{ltb-true}
use Rattle.std.proofs.lemmas.List.{append-nil, append_assoc}
use Rattle.std.specs.Prelude.{None, Some, is_some, if◌then◌else◌}
use Rattle.filter_host.specs.Called.{Calling}
use Rattle.filter_host.specs.Heard.{Heard, Hears}
use Rattle.gate_io.specs.declared.event.Side.TheVariants.{Down}
use Rattle.gate_io.specs.declared.event.What.{What}
use Rattle.gate_io.specs.declared.event.What.TheVariants.{Opened}
use Rattle.h1_model.specs.Unread.{Reading}
use Rattle.worker_model.specs.Making.{first_room}
use Rattle.worker_model.specs.Plan.{Plan}
use Rattle.worker_model.specs.Steps.{Both, both, line_in, most_lines}
use Rattle.worker_model.specs.declared.types.Line.{Line}
use Rattle.law_reading.specs.Laws.{HasRead, LinesReadWhatCame}
use Rattle.law_reading.specs.Lines.{AreRising}
use Rattle.law_reading.specs.Spelled.{IsReadOf}
use Rattle.law_reading.specs.Turns.{OneTurn, Turns, AreWhole, events_of, StaysOpen}
use Rattle.law_reading.proofs.Alike.{AreAlike}
use Rattle.law_reading.proofs.Every.{Every, Closed, reading_in, every_alike, every_without, every_read, read_number, found_of}
use Rattle.law_reading.proofs.Events.{Says, Comes, aside, new, gone, more, less, Follows, number_further, every_happens}
use Rattle.law_reading.proofs.Lines.{found_in, set_in, without, line_in_found, rising_alike, rising_set, rising_without, rising_new, length_alike, length_set, length_without, length_new, equal_is, AreLow, low_alike, low_set, low_without, low_new}
use Rattle.law_reading.proofs.Settles.{Invariant, Spans, Ready, turn_reached}
use Rattle.law_reading.proofs.Steps.{Changed, same, read, dropped}
use Rattle.law_reading.proofs.Told.{read_none, read_hears, read_aside, read_further, said, unsaid}

-- ---- lines whose numbers rise, none of which is of a callout, and of which there are 128 at most

pub record AreFew (lines : List Line) : Type 0 where
  pub rising : AreRising lines
  pub few : length lines ≤ 128
  pub low : AreLow lines

few_alike : (lines later : List Line) → AreAlike lines later → AreFew lines → AreFew later
few_alike lines later alike f = record { rising = rising_alike lines later alike f.rising; few = omega (arith, f.few, length_alike lines later alike); low = low_alike lines later alike f.low }

few_set : (g : Line → Line) → ((l : Line) → (g l).number ≡ l.number) → (n : ℕ) (lines : List Line) → AreFew lines → AreFew (set_in g n lines)
few_set g numbered n lines f = record { rising = rising_set g numbered n lines f.rising; few = omega (arith, f.few, length_set g n lines); low = low_set g numbered n lines f.low }

few_without : (n : ℕ) (lines : List Line) → AreFew lines → AreFew (without n lines)
few_without n lines f = record { rising = rising_without n lines f.rising; few = omega (arith, f.few, length_without n lines); low = low_without n lines f.low }

few_changed : (lines later : List Line) → Changed lines later → AreFew lines → AreFew later
few_changed lines later same f = f
few_changed lines later (read side n old h there says) f = few_set _ (read_number side (reading_in h)) n lines f
few_changed lines later (dropped n) f = few_without n lines f

pub few_invariant : Invariant AreFew
few_invariant = record { alike = few_alike; changed = few_changed }

pub few_comes : (lines later : List Line) → Comes lines later → AreFew lines → AreFew later
few_comes lines later (aside _ alike) f = few_alike lines later alike f
few_comes lines later (new m none few low) f =
    record { rising = rising_new m lines none f.rising; few = omega (arith, ltb-true (length lines) most_lines few, length_new m lines); low = low_new m low lines f.low }
few_comes lines later (gone m) f = few_without m lines f
few_comes lines later (more side stops bytes m listens) f = few_set _ (number_further side stops bytes) m lines f
few_comes lines later (less side stops bytes m shut) f = f

-- ---- and what holds of the readers of one side of them

pub record FewWith (up : Bool) (P : ℕ → Reading → Type 0) (lines : List Line) : Type 0 where
  pub few : AreFew lines
  pub every : Every up P lines

every_changed : (up : Bool) (P : ℕ → Reading → Type 0) → Closed up P → (lines later : List Line) → Changed lines later → Every up P lines → Every up P later
every_changed up P closed lines later same all = all
every_changed up P closed lines later (read side n old h there says) all = every_read up P closed side n old h lines there says all
every_changed up P closed lines later (dropped n) all = every_without up P n lines all

with_invariant : (up : Bool) (P : ℕ → Reading → Type 0) → Closed up P → Invariant (FewWith up P)
with_invariant up P closed = record {
  alike = λ lines later alike f. record { few = few_alike lines later alike f.few; every = every_alike up P closed lines later alike f.every };
  changed = λ lines later c f. record { few = few_changed lines later c f.few; every = every_changed up P closed lines later c f.every };
}

pub with_spans : (up : Bool) (P Q : ℕ → Reading → Type 0) (w : What) → Closed up P → Closed up Q → Follows up P Q w → Spans w (FewWith up P) (FewWith up Q)
with_spans up P Q w before behind f = record {
  before = with_invariant up P before;
  behind = with_invariant up Q behind;
  low = λ lines p. p.few.low;
  event = λ lines later h p. record { few = few_comes lines later h.comes p.few; every = every_happens up P Q w behind f lines later p.few.rising h p.every };
}

found_here : (n : ℕ) (l : Line) (lines : List Line) → l.number ≡ n → is_some (found_in n (l ∷ lines)) ≡ true
found_here n l lines is = ap (λ (b : Bool). is_some (if b then Some l else found_in n lines)) (equal_is l.number n is)

found_later : (n : ℕ) (l : Line) (lines : List Line) → is_some (found_in n lines) ≡ true → is_some (found_in n (l ∷ lines)) ≡ true
found_later n l lines there = by_test (l.number == n)
  where
    by_test : (b : Bool) → is_some (if b then Some l else found_in n lines) ≡ true
    by_test true = refl
    by_test false = there

-- ---- what was read since a line was opened

module _ {H : Type 0} (n : ℕ) where
  -- after these turns the line of this number, if it is open, read that
  abbrev Since : List (OneTurn H) → ℕ → Reading → Type 0
  Since turns m r = m ≡ n → HasRead n turns r

  -- and after one event more it was opened by it, or read on
  record ReadOn (turns : List (OneTurn H)) (w : What) (r : Reading) : Type 0 where
    old : Reading
    since : HasRead n turns old
    reads : IsReadOf None n Down (events_of since.later ++ w ∷ []) r

  abbrev Then : List (OneTurn H) → What → ℕ → Reading → Type 0
  Then turns w m r = m ≡ n → ReadOn turns w r ⊎ ((w ≡ Opened n) × IsReadOf None n Down [] r)

  since_closed : (turns : List (OneTurn H)) → Closed false (Since turns)
  since_closed turns = record {
    hears = λ m old h p says is. let s : HasRead n turns old = p is in record { earlier = s.earlier; opening = s.opening; later = s.later; is = s.is; opened = s.opened; stays = s.stays; reads = read_hears None n Down (events_of s.later) old h s.reads says };
    young = λ m method e. absurd (cc);
  }

  then_hears : (turns : List (OneTurn H)) (w : What) (old : Reading) (h : Heard) → Hears old h → ReadOn turns w old ⊎ ((w ≡ Opened n) × IsReadOf None n Down [] old)
      → ReadOn turns w (reading_in h) ⊎ ((w ≡ Opened n) × IsReadOf None n Down [] (reading_in h))
  then_hears turns w old h says (inl s) = inl (record { old = s.old; since = s.since; reads = read_hears None n Down (events_of s.since.later ++ w ∷ []) old h s.reads says })
  then_hears turns w old h says (inr s) = inr (s.0, read_hears None n Down [] old h s.1 says)

  then_closed : (turns : List (OneTurn H)) (w : What) → Closed false (Then turns w)
  then_closed turns w = record { hears = λ m old h p says is. then_hears turns w old h says (p is); young = λ m method e. absurd (cc) }

  follows : (turns : List (OneTurn H)) (w : What) → Follows false (Since turns) (Then turns w) w
  follows turns w = record {
    fed = λ stops bytes m says r p is.
        let s : HasRead n turns r = p is in
        let t = said n Down w stops bytes (subst (λ (k : ℕ). Says w false stops bytes k) is says) in
        inl (record { old = r; since = s; reads = read_further None n Down (events_of s.later) w stops bytes r t.0 t.1 t.2 s.reads });
    aside = λ m r never p is.
        let s : HasRead n turns r = p is in
        let t = unsaid n Down w (λ stops bytes says. never refl stops bytes (subst (λ (k : ℕ). Says w false stops bytes k) (sym is) says)) in
        inl (record { old = r; since = s; reads = read_aside None n Down (events_of s.later) w r t.0 t.1 s.reads });
    new = λ m opened down is. inr (opened ∙ ap Opened is, read_none None n Down);
  }

  -- ---- a turn after others

  stays_join : (a b : List (OneTurn H)) → StaysOpen n a → StaysOpen n b → StaysOpen n (a ++ b)
  stays_join [] b p q = q
  stays_join (t ∷ a) b p q = (p.0, stays_join a b p.1 q)

  pub happened_join : (a b : List (OneTurn H)) → events_of (a ++ b) ≡ events_of a ++ events_of b
  happened_join [] b = refl
  happened_join (t ∷ a) b = ap (λ l. t.event.what ∷ l) (happened_join a b)

  turn_behind : (turns : List (OneTurn H)) (t : OneTurn H) (r : Reading) → (is_some (line_in n t.end.state.room.lines) ≡ true) → ReadOn turns t.event.what r ⊎ ((t.event.what ≡ Opened n) × IsReadOf None n Down [] r)
      → HasRead n (turns ++ t ∷ []) r
  turn_behind turns t r there (inl s) = record {
    earlier = s.since.earlier;
    opening = s.since.opening;
    later = s.since.later ++ t ∷ [];
    is = ap (λ l. l ++ t ∷ []) s.since.is ∙ append_assoc s.since.earlier (s.since.opening ∷ s.since.later) (t ∷ []);
    opened = s.since.opened;
    stays = stays_join (s.since.opening ∷ s.since.later) (t ∷ []) s.since.stays (there, tt);
    reads = subst (λ (ws : List What). IsReadOf None n Down ws r) (sym (happened_join s.since.later (t ∷ []))) s.reads;
  }
  turn_behind turns t r there (inr s) = record { earlier = turns; opening = t; later = []; is = refl; opened = s.0; stays = (there, tt); reads = s.1 }

  every_since : (turns : List (OneTurn H)) (t : OneTurn H) (lines : List Line) → (is_some (found_in n lines) ≡ true → is_some (found_in n t.end.state.room.lines) ≡ true) → Every false (Then turns t.event.what) lines
      → Every false (Since (turns ++ t ∷ [])) lines
  every_since turns t [] there all = tt
  every_since turns t (l ∷ lines) there all =
      ((λ r is e. turn_behind turns t r (ap is_some (line_in_found n t.end.state.room.lines) ∙ there (found_here n l lines e)) (all.0 r is e)), every_since turns t lines (λ p. there (found_later n l lines p)) all.1)

  -- ---- all turns

  pub turns_since : (calling : Calling H) (plan : Plan) (past turns : List (OneTurn H)) (from to : Both H) → Turns calling plan from turns to → AreWhole turns → Ready (FewWith false (Since past)) from.room
      → Ready (FewWith false (Since (past ++ turns))) to.room
  turns_since calling plan past [] from to turned whole ready =
      subst (λ (b : Both H). Ready (FewWith false (Since (past ++ []))) b.room) (sym turned) (subst (λ (ts : List (OneTurn H)). Ready (FewWith false (Since ts)) from.room) (sym (append-nil past)) ready)
  turns_since calling plan past (t ∷ turns) from to turned whole ready =
      let w : What = t.event.what in
      let one : Ready (FewWith false (Then past w)) t.end.state.room
      = turn_reached calling plan from t.event t.met t.end (FewWith false (Since past)) (FewWith false (Then past w)) (with_spans false (Since past) (Then past w) w (since_closed past) (then_closed past w) (follows past w)) turned.0 whole.0 ready in
      let next : Ready (FewWith false (Since (past ++ t ∷ []))) t.end.state.room
      = (one.0, record { few = one.1.few; every = every_since past t t.end.state.room.lines (λ p. p) one.1.every }) in
      subst (λ (ts : List (OneTurn H)). Ready (FewWith false (Since ts)) to.room) (append_assoc past (t ∷ []) turns) (turns_since calling plan (past ++ t ∷ []) turns t.end.state to turned.1 whole.1 next)

pub lines_read : (H : Type 0) → LinesReadWhatCame H
lines_read H calling plan config seed host turns to n l turned whole there =
    let all : Ready (FewWith false (Since n turns)) to.room
    = turns_since n calling plan [] turns (both host (first_room config seed)) to turned whole (refl, record { few = record { rising = tt; few = omega arith; low = tt }; every = tt }) in
    found_of false (Since n turns) n to.room.lines l (sym (line_in_found n to.room.lines) ∙ there) all.1.every l.requests refl refl
