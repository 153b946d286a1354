-- What the readers of servers read, over turns.
use Rattle.std.proofs.Common.{◌≡◌, inl, inr, ℕ, ◌==◌, Bool, true, false, not, ◌&&◌, List, [], ◌∷◌, ◌++◌, refl, ap, ◌∙◌, sym, subst, arith}
use Rattle.std.proofs.lemmas.List.{append-nil, append_assoc}
use Rattle.std.specs.Prelude.{Option, None, Some, nat_lt, if◌then◌else◌}
use Rattle.filter_host.specs.Called.{Calling}
use Rattle.filter_host.specs.Heard.{Heard, Hears}
use Rattle.exchange.specs.declared.types.Exchange.{Exchange}
use Rattle.gate_io.specs.declared.event.Side.TheVariants.{Up}
use Rattle.gate_io.specs.declared.event.What.{What}
use Rattle.gate_io.specs.declared.event.What.TheVariants as whats
use Rattle.h1_model.specs.Unread.{Reading, new_reading}
use Rattle.worker_model.specs.Making.{first_room}
use Rattle.worker_model.specs.Plan.{Plan}
use Rattle.worker_model.specs.Steps.{Both, both, line_reading, exchange_reading, exchange_of_line, change_line, change_exchange, with_reader, read_on, new_line, reading_with_more, response_with_more, with_further, side_with_more, is_open, is_answered_in}
use Rattle.worker_model.specs.declared.types.Line.{Line}
use Rattle.law_reading.specs.Lines.{AreAbove, AreRising}
use Rattle.law_reading.specs.Servers.{HasServed, HasHeardNothing, ServersReadWhatCame, ServersReadSince}
use Rattle.law_reading.specs.Turns.{OneTurn, Turns, AreWhole, events_of}
use Rattle.law_reading.proofs.Readers.{ReaderGoes}
use Rattle.law_reading.proofs.Alike.{Alike, AreAlike}
use Rattle.law_reading.proofs.Every.{reading_in}
use Rattle.law_reading.proofs.Events.{Says, Comes, aside, new, gone, more, less, ComesBy, says_one, ended_further, not_open}
use Rattle.law_reading.proofs.Lines.{equal_by, other_by, by_if, found_in, set_in, without, with_new, line_in_found}
use Rattle.law_reading.proofs.Settles.{Invariant, Spans, Ready, turn_reached}
use Rattle.law_reading.proofs.Since.{AreFew, few_invariant, few_comes}
use Rattle.law_reading.proofs.Steps.{Changed, same, read, dropped}
use Rattle.law_reading.proofs.Told.{read_none, read_hears, read_aside, read_further, said, unsaid}

-- what holds of a number, of whether its exchange was answered, and of its server's reader
abbrev Kind : Type 1
Kind = ℕ → Bool → Reading → Type 0

abbrev Served : Kind → Line → Type 0
Served P l = (r : Reading) → exchange_reading l.exchange ≡ Some r → P l.number (is_answered_in l.exchange) r

abbrev EachServed : Kind → List Line → Type 0
EachServed P [] = Unit {0}
EachServed P (l ∷ lines) = Served P l × EachServed P lines

record Lasts (P : Kind) : Type 0 where
  hears : (n : ℕ) (a : Bool) (old : Reading) (h : Heard) → P n a old → Hears old h → P n a (reading_in h)
  young : (n : ℕ) (a : Bool) (method : List ℕ) → P n a (new_reading (Some method))
  answered : (n : ℕ) (a b : Bool) (r : Reading) → P n a r → (a ≡ true → b ≡ true) → P n b r

module _ (P : Kind) (lasts : Lasts P) where
  served_alike : (l m : Line) → Alike l m → Served P l → Served P m
  served_alike l m alike of r is = by_reader alike.reader
    where
      by_reader : ReaderGoes l.exchange m.exchange → P m.number (is_answered_in m.exchange) r
      by_reader (inl goes) =
          subst (λ (n : ℕ). P n (is_answered_in m.exchange) r) (sym alike.number) (lasts.answered l.number (is_answered_in l.exchange) (is_answered_in m.exchange) r (of r (sym goes.0 ∙ is)) goes.1)
      by_reader (inr (inl none)) = let e : ◌≡◌ {A = Option Reading} None (Some r) = sym none ∙ is in absurd (cc)
      by_reader (inr (inr (method, fresh))) =
          let e : Some (new_reading (Some method)) ≡ Some r = sym fresh ∙ is in
          let one : new_reading (Some method) ≡ r = cc in
          subst (λ (q : Reading). P m.number (is_answered_in m.exchange) q) one (lasts.young m.number (is_answered_in m.exchange) method)

  each_alike : (lines later : List Line) → AreAlike lines later → EachServed P lines → EachServed P later
  each_alike [] [] alike all = tt
  each_alike [] (m ∷ later) alike all = absurd alike
  each_alike (l ∷ lines) [] alike all = absurd alike
  each_alike (l ∷ lines) (m ∷ later) alike all = (served_alike l m alike.0 all.0, each_alike lines later alike.1 all.1)

  served_read : (side : Bool) (l : Line) (old : Reading) (h : Heard) → line_reading side (Some l) ≡ Some old → Hears old h → Served P l → Served P (read_on side (reading_in h) l)
  served_read false l old h there says of r is = of r is
  served_read true l old h there says of r is = by_exchange l.exchange refl r is
    where
      by_exchange : (o : Option Exchange) → l.exchange ≡ o → Served P (change_exchange (with_reader (reading_in h)) l o)
      by_exchange None none q e = let never : ◌≡◌ {A = Option Reading} None (Some old) = ap exchange_reading (sym none) ∙ there in absurd (cc)
      by_exchange (Some x) some q e =
          let one : reading_in h ≡ q = cc in
          let was : P l.number x.is_answered old = subst (λ (o : Option Exchange). P l.number (is_answered_in o) old) some (of old there) in
          subst (λ (q : Reading). P l.number x.is_answered q) one (lasts.hears l.number x.is_answered old h was says)

  each_read : (side : Bool) (n : ℕ) (old : Reading) (h : Heard) (lines : List Line) → line_reading side (found_in n lines) ≡ Some old → Hears old h → EachServed P lines → EachServed P (set_in (read_on side (reading_in h)) n lines)
  each_read side n old h [] there says all = tt
  each_read side n old h (l ∷ lines) there says all = by_test (λ e. each_read side n old h lines e says all.1) (l.number == n) refl there
    where
      by_test : (line_reading side (found_in n lines) ≡ Some old → EachServed P (set_in (read_on side (reading_in h)) n lines)) → (b : Bool) → (l.number == n) ≡ b → line_reading side (if b then Some l else found_in n lines) ≡ Some old
          → EachServed P (if b then read_on side (reading_in h) l ∷ lines else l ∷ set_in (read_on side (reading_in h)) n lines)
      by_test later true is e = (served_read side l old h e says all.0, all.1)
      by_test later false is e = (all.0, later e)

each_without : (P : Kind) (n : ℕ) (lines : List Line) → EachServed P lines → EachServed P (without n lines)
each_without P n [] all = tt
each_without P n (l ∷ lines) all = by_if (EachServed P) (l.number == n) lines (l ∷ without n lines) (λ e. all.1) (λ e. (all.0, each_without P n lines all.1))

each_changed : (P : Kind) → Lasts P → (lines later : List Line) → Changed lines later → EachServed P lines → EachServed P later
each_changed P lasts lines later same all = all
each_changed P lasts lines later (read side n old h there says) all = each_read P lasts side n old h lines there says all
each_changed P lasts lines later (dropped n) all = each_without P n lines all

each_new : (P : Kind) (m : ℕ) (lines : List Line) → EachServed P lines → EachServed P (with_new m lines)
each_new P m [] all = ((λ r is. absurd (cc)), tt)
each_new P m (l ∷ lines) all = by_if (EachServed P) (nat_lt m l.number) (new_line m ∷ l ∷ lines) (l ∷ with_new m lines) (λ e. ((λ r is. absurd (cc)), all)) (λ e. (all.0, each_new P m lines all.1))

-- ---- an event

record Leads (P Q : Kind) (w : What) : Type 0 where
  fed : (stops : Bool) (bytes : List ℕ) (m : ℕ) → Says w true stops bytes m → (r : Reading) → P m false r → Q m false (reading_with_more stops bytes r)
  beside : (n : ℕ) (a : Bool) (r : Reading) → ((stops : Bool) (bytes : List ℕ) → Says w true stops bytes n → ⊥) → P n a r → Q n a r
  shut : (n : ℕ) (r : Reading) → P n true r → Q n true r

each_other : (P Q : Kind) → ((n : ℕ) (a : Bool) (r : Reading) → P n a r → Q n a r) → (lines : List Line) → EachServed P lines → EachServed Q lines
each_other P Q goes [] all = tt
each_other P Q goes (l ∷ lines) all = ((λ r is. goes l.number (is_answered_in l.exchange) r (all.0 r is)), each_other P Q goes lines all.1)

each_above : (P Q : Kind) (m : ℕ) → ((n : ℕ) (a : Bool) (r : Reading) → (n ≡ m → ⊥) → P n a r → Q n a r) → (lines : List Line) → AreAbove m lines → EachServed P lines → EachServed Q lines
each_above P Q m goes [] above all = tt
each_above P Q m goes (l ∷ lines) above all =
    let apart : l.number ≡ m → ⊥ = λ e. omega (arith, above.0, e) in ((λ r is. goes l.number (is_answered_in l.exchange) r apart (all.0 r is)), each_above P Q m goes lines above.1 all.1)

module _ (P Q : Kind) (w : What) (leads : Leads P Q w) where
  module _ (stops : Bool) (bytes : List ℕ) (m : ℕ) (says : Says w true stops bytes m) where
    others : (n : ℕ) (a : Bool) (r : Reading) → (n ≡ m → ⊥) → P n a r → Q n a r
    others n a r apart p = leads.beside n a r (λ t ys other. apart (sym (says_one w true true stops t bytes ys m n says other).1)) p

    -- the server that is told
    told_server : (l : Line) → l.number ≡ m → (is_open (exchange_reading l.exchange) && not (is_answered_in l.exchange)) ≡ true → Served P l → Served Q (change_line (with_further stops bytes) l)
    told_server l is listens of r e = by_exchange l.exchange refl r e
      where
        live : (b c : Bool) → (b && not c) ≡ true → c ≡ false
        live true true d = absurd (cc)
        live true false d = refl
        live false c d = absurd (cc)

        by_reader : (x : Exchange) → l.exchange ≡ Some x → (o : Option Reading) → x.reader ≡ o → (q : Reading) → response_with_more stops bytes o ≡ Some q → Q l.number x.is_answered q
        by_reader x some None none q d = absurd (cc)
        by_reader x some (Some old) there q d =
            let one : reading_with_more stops bytes old ≡ q = cc in
            let unanswered : x.is_answered ≡ false = ap is_answered_in (sym some) ∙ live (is_open (exchange_reading l.exchange)) (is_answered_in l.exchange) listens in
            let was : P l.number (is_answered_in l.exchange) old = of old (ap exchange_reading some ∙ there) in
            let live_then : P l.number false old = subst (λ (b : Bool). P l.number b old) (ap is_answered_in some ∙ unanswered) was in
            subst (λ (b : Bool). Q l.number b q) (sym unanswered) (subst (λ (q : Reading). Q l.number false q) one (leads.fed stops bytes l.number (subst (Says w true stops bytes) (sym is) says) old live_then))

        by_exchange : (o : Option Exchange) → l.exchange ≡ o → Served Q (change_exchange (with_further stops bytes) l o)
        by_exchange None none q d = let never : ◌≡◌ {A = Option Reading} None (Some q) = ap exchange_reading (sym none) ∙ d in absurd (cc)
        by_exchange (Some x) some q d = by_reader x some x.reader refl q d

    told_lines : (lines : List Line) → AreRising lines → (is_open (line_reading true (found_in m lines)) && not (is_answered_in (exchange_of_line (found_in m lines)))) ≡ true → EachServed P lines
        → EachServed Q (set_in (side_with_more true stops bytes) m lines)
    told_lines [] rising listens all = tt
    told_lines (l ∷ lines) rising listens all = by_test (λ e. told_lines lines rising.1 e all.1) (l.number == m) refl listens
      where
        by_test : ((is_open (line_reading true (found_in m lines)) && not (is_answered_in (exchange_of_line (found_in m lines)))) ≡ true → EachServed Q (set_in (side_with_more true stops bytes) m lines)) → (b : Bool) → (l.number == m) ≡ b
            → (is_open (line_reading true (if b then Some l else found_in m lines)) && not (is_answered_in (exchange_of_line (if b then Some l else found_in m lines)))) ≡ true
            → EachServed Q (if b then side_with_more true stops bytes l ∷ lines else l ∷ set_in (side_with_more true stops bytes) m lines)
        by_test later true is e = (told_server l (equal_by l.number m is) e all.0, each_above P Q m others lines (subst (λ (n : ℕ). AreAbove n lines) (equal_by l.number m is) rising.0) all.1)
        by_test later false is e = ((λ r d. others l.number (is_answered_in l.exchange) r (other_by l.number m is) (all.0 r d)), later e)

    -- one that does not listen: its text has ended, or its exchange was answered
    shut_server : (l : Line) → l.number ≡ m → (is_open (exchange_reading l.exchange) && not (is_answered_in l.exchange)) ≡ false → Served P l → Served Q l
    shut_server l is shuts of r e = by_answer (is_answered_in l.exchange) refl
      where
        by_answer : (b : Bool) → is_answered_in l.exchange ≡ b → Q l.number (is_answered_in l.exchange) r
        by_answer true d = subst (λ (b : Bool). Q l.number b r) (sym d) (leads.shut l.number r (subst (λ (b : Bool). P l.number b r) d (of r e)))
        by_answer false d =
            let closed : (is_open (Some r) && true) ≡ false = sym (λ i. is_open (e i) && not (d i)) ∙ shuts in
            let stays : reading_with_more stops bytes r ≡ r = ended_further stops bytes r (not_open r closed) in
            subst (λ (b : Bool). Q l.number b r) (sym d)
            (subst (λ (q : Reading). Q l.number false q) stays (leads.fed stops bytes l.number (subst (Says w true stops bytes) (sym is) says) r (subst (λ (b : Bool). P l.number b r) d (of r e))))

    shut_servers : (lines : List Line) → AreRising lines → (is_open (line_reading true (found_in m lines)) && not (is_answered_in (exchange_of_line (found_in m lines)))) ≡ false → EachServed P lines → EachServed Q lines
    shut_servers [] rising shuts all = tt
    shut_servers (l ∷ lines) rising shuts all = by_test (λ e. shut_servers lines rising.1 e all.1) (l.number == m) refl shuts
      where
        by_test : ((is_open (line_reading true (found_in m lines)) && not (is_answered_in (exchange_of_line (found_in m lines)))) ≡ false → EachServed Q lines) → (b : Bool) → (l.number == m) ≡ b
            → (is_open (line_reading true (if b then Some l else found_in m lines)) && not (is_answered_in (exchange_of_line (if b then Some l else found_in m lines)))) ≡ false → EachServed Q (l ∷ lines)
        by_test later true is e = (shut_server l (equal_by l.number m is) e all.0, each_above P Q m others lines (subst (λ (n : ℕ). AreAbove n lines) (equal_by l.number m is) rising.0) all.1)
        by_test later false is e = ((λ r d. others l.number (is_answered_in l.exchange) r (other_by l.number m is) (all.0 r d)), later e)

  -- the client is told
  each_client : (stops : Bool) (bytes : List ℕ) (m : ℕ) → ((n : ℕ) (a : Bool) (r : Reading) → P n a r → Q n a r) → (lines : List Line) → EachServed P lines → EachServed Q (set_in (side_with_more false stops bytes) m lines)
  each_client stops bytes m goes [] all = tt
  each_client stops bytes m goes (l ∷ lines) all =
      by_if (EachServed Q) (l.number == m) (side_with_more false stops bytes l ∷ lines) (l ∷ set_in (side_with_more false stops bytes) m lines)
      (λ e. ((λ r is. goes l.number (is_answered_in l.exchange) r (all.0 r is)), each_other P Q goes lines all.1))
      (λ e. ((λ r is. goes l.number (is_answered_in l.exchange) r (all.0 r is)), each_client stops bytes m goes lines all.1))

  silent : ((side stops : Bool) (bytes : List ℕ) (m : ℕ) → Says w side stops bytes m → ⊥) → (n : ℕ) (a : Bool) (r : Reading) → P n a r → Q n a r
  silent never n a r p = leads.beside n a r (λ stops bytes says. never true stops bytes n says) p

  of_client : (stops : Bool) (bytes : List ℕ) (m : ℕ) → Says w false stops bytes m → (n : ℕ) (a : Bool) (r : Reading) → P n a r → Q n a r
  of_client stops bytes m says n a r p =
      leads.beside n a r (λ t ys other. let never : ◌≡◌ {A = Bool} false true = (says_one w false true stops t bytes ys m n says other).0 in absurd (cc)) p

  opened_says : (m : ℕ) → w ≡ whats.Opened m → (side stops : Bool) (bytes : List ℕ) (k : ℕ) → Says w side stops bytes k → ⊥
  opened_says m is side stops bytes k says = subst (λ (v : What). Says v side stops bytes k) is says

  each_comes : Lasts Q → (lines later : List Line) → AreRising lines → (c : Comes lines later) → ComesBy w lines later c → EachServed P lines → EachServed Q later
  each_comes lasts lines later rising (aside _ alike) by all = each_alike Q lasts lines later alike (each_other P Q (silent by) lines all)
  each_comes lasts lines later rising (new m none few low) by all = each_new Q m lines (each_other P Q (silent (opened_says m by)) lines all)
  each_comes lasts lines later rising (gone m) by all = each_without Q m lines (each_other P Q (silent by) lines all)
  each_comes lasts lines later rising (more true stops bytes m listens) by all = told_lines stops bytes m by lines rising listens all
  each_comes lasts lines later rising (more false stops bytes m listens) by all = each_client stops bytes m (of_client stops bytes m by) lines all
  each_comes lasts lines later rising (less true stops bytes m shuts) by all = shut_servers stops bytes m by lines rising shuts all
  each_comes lasts lines later rising (less false stops bytes m shuts) by all = each_other P Q (of_client stops bytes m by) lines all

-- ---- turns

record FewServed (P : Kind) (lines : List Line) : Type 0 where
  few : AreFew lines
  each : EachServed P lines

served_invariant : (P : Kind) → Lasts P → Invariant (FewServed P)
served_invariant P lasts = record {
  alike = λ lines later alike f. record { few = few_invariant.alike lines later alike f.few; each = each_alike P lasts lines later alike f.each };
  changed = λ lines later c f. record { few = few_invariant.changed lines later c f.few; each = each_changed P lasts lines later c f.each };
}

served_spans : (P Q : Kind) (w : What) → Lasts P → Lasts Q → Leads P Q w → Spans w (FewServed P) (FewServed Q)
served_spans P Q w before behind leads = record {
  before = served_invariant P before;
  behind = served_invariant Q behind;
  low = λ lines p. p.few.low;
  event = λ lines later h p. record { few = few_comes lines later h.comes p.few; each = each_comes P Q w leads behind lines later p.few.rising h.comes h.by p.each };
}

abbrev Reads : List What → Kind
Reads ws n a r = HasServed n ws a r

reads_last : (ws : List What) → Lasts (Reads ws)
reads_last ws = record {
  hears = λ n a old h p says. record { method = p.method; before = p.before; run = p.run; rest = p.rest; is = p.is; reads = read_hears (Some p.method) n Up p.run old h p.reads says; listens = p.listens };
  young = λ n a method. record { method = method; before = ws; run = []; rest = []; is = sym (append-nil ws); reads = read_none (Some method) n Up; listens = λ e. refl };
  answered = λ n a b r p goes. record { method = p.method; before = p.before; run = p.run; rest = p.rest; is = p.is; reads = p.reads; listens = λ e. p.listens (was a b goes e) };
}
  where
    was : (a b : Bool) → (a ≡ true → b ≡ true) → b ≡ false → a ≡ false
    was true b goes e = let never : ◌≡◌ {A = Bool} true false = sym (goes refl) ∙ e in absurd (cc)
    was false b goes e = refl

-- one event more is heard, or stands after what was
longer : (ws before run rest : List What) (w : What) → ws ≡ before ++ (run ++ rest) → rest ≡ [] → ws ++ w ∷ [] ≡ before ++ ((run ++ w ∷ []) ++ [])
longer ws before run rest w is none =
    ap (λ l. l ++ w ∷ []) (is ∙ ap (λ l. before ++ l) (ap (λ l. run ++ l) none ∙ append-nil run)) ∙ (append_assoc before run (w ∷ []) ∙ ap (λ l. before ++ l) (sym (append-nil (run ++ w ∷ []))))

unheard : (ws before run rest : List What) (w : What) → ws ≡ before ++ (run ++ rest) → ws ++ w ∷ [] ≡ before ++ (run ++ (rest ++ w ∷ []))
unheard ws before run rest w is = ap (λ l. l ++ w ∷ []) is ∙ (append_assoc before (run ++ rest) (w ∷ []) ∙ ap (λ l. before ++ l) (append_assoc run rest (w ∷ [])))

reads_lead : (ws : List What) (w : What) → Leads (Reads ws) (Reads (ws ++ w ∷ [])) w
reads_lead ws w = record {
  fed = λ stops bytes m says r p.
      let t = said m Up w stops bytes says in
      record { method = p.method; before = p.before; run = p.run ++ w ∷ []; rest = []; is = longer ws p.before p.run p.rest w p.is (p.listens refl); reads = read_further (Some p.method) m Up p.run w stops bytes r t.0 t.1 t.2 p.reads; listens = λ e. refl };
  beside = λ n a r never p. by_answer n r never a p;
  shut = λ n r p. behind_it n r p;
}
  where
    behind_it : (n : ℕ) (r : Reading) → HasServed n ws true r → HasServed n (ws ++ w ∷ []) true r
    behind_it n r p = record { method = p.method; before = p.before; run = p.run; rest = p.rest ++ w ∷ []; is = unheard ws p.before p.run p.rest w p.is; reads = p.reads; listens = λ e. absurd (cc) }

    by_answer : (n : ℕ) (r : Reading) → ((stops : Bool) (bytes : List ℕ) → Says w true stops bytes n → ⊥) → (a : Bool) → HasServed n ws a r → HasServed n (ws ++ w ∷ []) a r
    by_answer n r never true p = behind_it n r p
    by_answer n r never false p =
        let t = unsaid n Up w never in
        record { method = p.method; before = p.before; run = p.run ++ w ∷ []; rest = []; is = longer ws p.before p.run p.rest w p.is (p.listens refl); reads = read_aside (Some p.method) n Up p.run w r t.0 t.1 p.reads; listens = λ e. refl }

served_turns : {H : Type 0} (calling : Calling H) (plan : Plan) (ws : List What) (turns : List (OneTurn H)) (from to : Both H) → Turns calling plan from turns to → AreWhole turns → Ready (FewServed (Reads ws)) from.room
    → Ready (FewServed (Reads (ws ++ events_of turns))) to.room
served_turns {H} calling plan ws [] from to turned whole ready =
    subst (λ (b : Both H). Ready (FewServed (Reads (ws ++ []))) b.room) (sym turned) (subst (λ (vs : List What). Ready (FewServed (Reads vs)) from.room) (sym (append-nil ws)) ready)
served_turns calling plan ws (t ∷ turns) from to turned whole ready =
    let w : What = t.event.what in
    let one : Ready (FewServed (Reads (ws ++ w ∷ []))) t.end.state.room
    = turn_reached calling plan from t.event t.met t.end (FewServed (Reads ws)) (FewServed (Reads (ws ++ w ∷ []))) (served_spans (Reads ws) (Reads (ws ++ w ∷ [])) w (reads_last ws) (reads_last (ws ++ w ∷ [])) (reads_lead ws w)) turned.0 whole.0 ready in
    subst (λ (vs : List What). Ready (FewServed (Reads vs)) to.room) (append_assoc ws (w ∷ []) (events_of turns)) (served_turns calling plan (ws ++ w ∷ []) turns t.end.state to turned.1 whole.1 one)

found_served : (P : Kind) (n : ℕ) (lines : List Line) (l : Line) → found_in n lines ≡ Some l → EachServed P lines → (r : Reading) → exchange_reading l.exchange ≡ Some r → P n (is_answered_in l.exchange) r
found_served P n [] l there all r is = absurd (cc)
found_served P n (k ∷ lines) l there all r is = by_test (λ found. found_served P n lines l found all.1 r is) (k.number == n) refl there
  where
    by_test : (found_in n lines ≡ Some l → P n (is_answered_in l.exchange) r) → (b : Bool) → (k.number == n) ≡ b → (if b then Some k else found_in n lines) ≡ Some l → P n (is_answered_in l.exchange) r
    by_test later true e found =
        let one : k ≡ l = cc in
        let here : Served P l = subst (Served P) one all.0 in
        subst (λ (m : ℕ). P m (is_answered_in l.exchange) r) (ap (λ (x : Line). x.number) (sym one) ∙ equal_by k.number n e) (here r is)
    by_test later false e found = later found

pub servers_read : (H : Type 0) → ServersReadWhatCame H
servers_read H calling plan config seed host turns to n l x r turned whole there some reads =
    let all : Ready (FewServed (Reads (events_of turns))) to.room
    = served_turns calling plan [] turns (both host (first_room config seed)) to turned whole (refl, record { few = record { rising = tt; few = omega arith; low = tt }; each = tt }) in
    subst (λ (o : Option Exchange). HasServed n (events_of turns) (is_answered_in o) r) some
    (found_served (Reads (events_of turns)) n to.room.lines l (sym (line_in_found n to.room.lines) ∙ there) all.1.each r (ap exchange_reading some ∙ reads))

-- ---- since a turn after which nothing had come of a line's server

-- of one line alone
abbrev Only : ℕ → List What → Kind
Only n ws m a r = m ≡ n → HasServed n ws a r

only_lasts : (n : ℕ) (ws : List What) → Lasts (Only n ws)
only_lasts n ws =
    let all = reads_last ws in
    record {
      hears = λ m a old h p says is. all.hears n a old h (p is) says;
      young = λ m a method is. all.young n a method;
      answered = λ m a b r p goes is. all.answered n a b r (p is) goes;
    }

only_leads : (n : ℕ) (ws : List What) (w : What) → Leads (Only n ws) (Only n (ws ++ w ∷ [])) w
only_leads n ws w =
    let all = reads_lead ws w in
    record {
      fed = λ stops bytes m says r p is. all.fed stops bytes n (subst (Says w true stops bytes) is says) r (p is);
      beside = λ m a r never p is. all.beside n a r (λ stops bytes says. never stops bytes (subst (Says w true stops bytes) (sym is) says)) (p is);
      shut = λ m r p is. all.shut n r (p is);
    }

only_turns : {H : Type 0} (calling : Calling H) (plan : Plan) (n : ℕ) (ws : List What) (turns : List (OneTurn H)) (from to : Both H) → Turns calling plan from turns to → AreWhole turns → Ready (FewServed (Only n ws)) from.room
    → Ready (FewServed (Only n (ws ++ events_of turns))) to.room
only_turns {H} calling plan n ws [] from to turned whole ready =
    subst (λ (b : Both H). Ready (FewServed (Only n (ws ++ []))) b.room) (sym turned) (subst (λ (vs : List What). Ready (FewServed (Only n vs)) from.room) (sym (append-nil ws)) ready)
only_turns calling plan n ws (t ∷ turns) from to turned whole ready =
    let w : What = t.event.what in
    let one : Ready (FewServed (Only n (ws ++ w ∷ []))) t.end.state.room
    = turn_reached calling plan from t.event t.met t.end (FewServed (Only n ws)) (FewServed (Only n (ws ++ w ∷ []))) (served_spans (Only n ws) (Only n (ws ++ w ∷ [])) w (only_lasts n ws) (only_lasts n (ws ++ w ∷ [])) (only_leads n ws w)) turned.0 whole.0 ready in
    subst (λ (vs : List What). Ready (FewServed (Only n vs)) to.room) (append_assoc ws (w ∷ []) (events_of turns)) (only_turns calling plan n (ws ++ w ∷ []) turns t.end.state to turned.1 whole.1 one)

-- nothing has come, so it is a reader of no events
heard_none : (n : ℕ) (a : Bool) (o : Option Reading) → HasHeardNothing o → (r : Reading) → o ≡ Some r → HasServed n [] a r
heard_none n a o (inl none) r is = let e : ◌≡◌ {A = Option Reading} None (Some r) = sym none ∙ is in absurd (cc)
heard_none n a o (inr (method, fresh)) r is =
    let e : Some (new_reading (Some method)) ≡ Some r = sym fresh ∙ is in
    let one : new_reading (Some method) ≡ r = cc in
    subst (λ (q : Reading). HasServed n [] a q) one (record { method = method; before = []; run = []; rest = []; is = refl; reads = read_none (Some method) n Up; listens = λ d. refl })

nothing_above : (n : ℕ) (lines : List Line) → AreAbove n lines → EachServed (Only n []) lines
nothing_above n [] above = tt
nothing_above n (l ∷ lines) above = ((λ r is same. absurd (omega (arith, above.0, same))), nothing_above n lines above.1)

nothing_heard : (n : ℕ) (lines : List Line) → AreRising lines → HasHeardNothing (line_reading true (found_in n lines)) → EachServed (Only n []) lines
nothing_heard n [] rising nothing = tt
nothing_heard n (l ∷ lines) rising nothing = by_test (λ h. nothing_heard n lines rising.1 h) (l.number == n) refl nothing
  where
    by_test : (HasHeardNothing (line_reading true (found_in n lines)) → EachServed (Only n []) lines) → (b : Bool) → (l.number == n) ≡ b
        → HasHeardNothing (line_reading true (if b then Some l else found_in n lines)) → EachServed (Only n []) (l ∷ lines)
    by_test later true e h =
        ((λ r is same. heard_none n (is_answered_in l.exchange) (exchange_reading l.exchange) h r is), nothing_above n lines (subst (λ (k : ℕ). AreAbove k lines) (equal_by l.number n e) rising.0))
    by_test later false e h = ((λ r is same. absurd (other_by l.number n e same)), later h)

pub servers_since : (H : Type 0) → ServersReadSince H
servers_since H calling plan config seed host earlier later mid to n l x r before whole nothing turned whole_later there some reads =
    let first : Ready (FewServed (Reads (events_of earlier))) mid.room
    = served_turns calling plan [] earlier (both host (first_room config seed)) mid before whole (refl, record { few = record { rising = tt; few = omega arith; low = tt }; each = tt }) in
    let few : AreFew mid.room.lines = first.1.few in
    let begins : Ready (FewServed (Only n [])) mid.room
    = (first.0, record { few = few; each = nothing_heard n mid.room.lines few.rising (subst (λ (o : Option Line). HasHeardNothing (line_reading true o)) (line_in_found n mid.room.lines) nothing) }) in
    let all : Ready (FewServed (Only n (events_of later))) to.room = only_turns calling plan n [] later mid to turned whole_later begins in
    let found : Only n (events_of later) n (is_answered_in l.exchange) r = found_served (Only n (events_of later)) n to.room.lines l (sym (line_in_found n to.room.lines) ∙ there) all.1.each r (ap exchange_reading some ∙ reads) in
    subst (λ (o : Option Exchange). HasServed n (events_of later) (is_answered_in o) r) some (found refl)
