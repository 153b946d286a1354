-- A step in which a side of a line is read, seen from the two sides of the line of a number.
use Rattle.std.proofs.Common.{◌≡◌, ℕ, ◌==◌, Bool, true, false, ◌||◌, List, [], ◌∷◌, ◌++◌, refl, ap, ◌∙◌, sym, subst}
use Rattle.std.proofs.lemmas.List.{append-nil}
use Rattle.std.specs.Prelude.{Option, None, Some, is_some, option_map}
use Rattle.contexts.specs.declared.parts.Contexts.{Contexts}
use Rattle.filter_host.specs.Course.{Course}
use Rattle.filter_host.specs.Heard.{Heard, hands, halts}
use Rattle.filter_host.proofs.Holds.{AllEnds}
use Rattle.exchange.specs.declared.types.Exchange.{Exchange}
use Rattle.exchange.specs.Heads.{path_of, route_in}
use Rattle.exchange.specs.Leaving.{bytes_sent_to as sending_to}
use Rattle.exchange.specs.Maps.{put_response, with_fields}
use Rattle.law_exchange.specs.Lives.{is_over}
use Rattle.law_exchange.specs.Own.{AreOn, SendsOn}
use Rattle.filter_chain.specs.declared.item.ChainItem.{ChainItem}
use Rattle.filter_chain.specs.declared.item.ChainItem.TheVariants as items
use Rattle.gate_io.specs.declared.event.Sent.{Sent}
use Rattle.gate_io.specs.declared.event.Side.TheVariants.{Down}
use Rattle.header_maps.specs.Operations.{no_headers}
use Rattle.h1_model.specs.Messages.{Stop, rest, over as text_over, refusal}
use Rattle.h1_model.specs.Unread.{Part as ReadPart, head_part, interim_part, piece, trailer_part, Reading}
use Rattle.worker_model.specs.Room.{Room}
use Rattle.worker_model.specs.declared.types.Job.{Job}
use Rattle.worker_model.specs.declared.types.Job.TheVariants as jobs
use Rattle.worker_model.specs.declared.types.Line.{Line}
use Rattle.worker_model.specs.declared.types.ReadBatch.{ReadBatch}
use Rattle.worker_model.specs.Plan.{Plan}
use Rattle.worker_model.specs.Steps.{Both, change_line, on_lines, exchange_on, exchange_for, free_place, with_exchange, begin_exchange_on, line_in, line_reading, reading_on, read_on, with_reader, with_read_mark, is_last, with_jobs_first, jobs_of, end_reading, with_item, add_read_item, take_read_item, with_response_head, in_contexts, head_item, interim_of, put_trailers, take_part, end_of_read, after_heard, reads_in, reads_next}
use Rattle.law_lines.specs.Clients.{client_traffic}
use Rattle.law_lines.proofs.Kept.{by_bool}
use Rattle.law_lines.proofs.Looks.{look, line_in_is, equal_by, Beside, beside_itself, sends_beside}
use Rattle.law_lines.proofs.OnLines.{Numbered, on_other, OfLine, AllOfLine, jobs_of_line}
use Rattle.law_lines.proofs.Sides.{numbered_change, numbered_read}
use Rattle.law_lines.proofs.Story.{ExOk, LineOk, Known}
use Rattle.law_down.proofs.Under.{LineUnder, exchange_at, held_on, Under}
use Rattle.law_down.proofs.Ordering.{AreQuiet}
use Rattle.law_down.proofs.Quietly.{Adds, adds_none}
use Rattle.law_down.proofs.Goings.{gone_of, gone_at, happens_in, happening, happens_join, on_line_gone, gone_change}
use Rattle.law_down.proofs.Gone.{GoneEx, GoneOk, still, Plain}

-- ---- what becomes of the room, where nothing is sent

record Listens (m : ℕ) (a later : Room) : Type 0 where
  gone : (n : ℕ) → gone_at n later.lines ≡ gone_at n a.lines
  aside : (n : ℕ) → (m == n) ≡ false → look n later.lines ≡ look n a.lines
  sent : later.hub.sent ≡ a.hub.sent
  js : happens_in later.jobs ≡ happens_in a.jobs
  agenda : later.agenda ≡ a.agenda

listens_then : (m : ℕ) (a b c : Room) → Listens m a b → Listens m b c → Listens m a c
listens_then m a b c p q = record { gone = λ n. q.gone n ∙ p.gone n; aside = λ n other. q.aside n other ∙ p.aside n other; sent = q.sent ∙ p.sent; js = q.js ∙ p.js; agenda = q.agenda ∙ p.agenda }

listens_same : (m : ℕ) (a b : Room) → b.lines ≡ a.lines → b.hub.sent ≡ a.hub.sent → b.jobs ≡ a.jobs → b.agenda ≡ a.agenda → Listens m a b
listens_same m a b lines sent js agenda = record { gone = λ n. ap (gone_at n) lines; aside = λ n other. ap (look n) lines; sent = sent; js = ap happens_in js; agenda = agenda }

listens_lines : (m : ℕ) (f : Line → Line) (a : Room) → Numbered f → ((l : Line) → (f l).is_gone ≡ l.is_gone) → Listens m a (on_lines f m a)
listens_lines m f a numbered gone = record { gone = λ n. on_line_gone n f m a.lines numbered gone; aside = λ n other. on_other n m f a.lines numbered other; sent = refl; js = refl; agenda = refl }

line_happens : (m : ℕ) (js : List Job) → AllOfLine m js → happens_in js ≡ []
line_happens m [] are = refl
line_happens m (job ∷ later) are = λ i. one job are.0 i ++ line_happens m later are.1 i
  where
    one : (job : Job) → OfLine m job → happening job ≡ []
    one (jobs.Happen w) is = absurd is
    one job is = refl

listens_ends : (r : ReadBatch) (status : Option ℕ) (a : Room) → Listens r.line a (end_reading r status a)
listens_ends r status a = record {
  gone = λ n. refl;
  aside = λ n other. refl;
  sent = refl;
  js = happens_join (jobs_of r status a) a.jobs ∙ ap (λ l. l ++ happens_in a.jobs) (line_happens r.line (jobs_of r status a) (jobs_of_line r status a));
  agenda = refl;
}

listens_joins : (r : ReadBatch) (item : ChainItem) (a : Room) → Listens r.line a (add_read_item r item a)
listens_joins r item a =
    by_bool (Listens r.line a) (is_last item) (end_reading (with_item item r) None a) (record a { reading = Some (with_item item r) }) (λ e. listens_ends (with_item item r) None a) (λ e. listens_same r.line a _ refl refl refl refl)

listens_takes : (r : ReadBatch) (item : ChainItem) (a : Room) → Listens r.line a (take_read_item r item a)
listens_takes r item a =
    let mid : Room = on_lines (change_line (with_read_mark r.up item)) r.line a in
    listens_then r.line a mid (take_read_item r item a) (listens_lines r.line (change_line (with_read_mark r.up item)) a (numbered_change (with_read_mark r.up item)) (gone_change (with_read_mark r.up item))) (listens_joins r item mid)

listens_contexts : (m : ℕ) (change : ℕ → Contexts → Contexts) (o : Option Exchange) (a : Room) → Listens m a (in_contexts change o a)
listens_contexts m change None a = listens_same m a a refl refl refl refl
listens_contexts m change (Some x) a = listens_same m a _ refl refl refl refl

-- ---- or an interim head goes down

data Tells (m : ℕ) (a later : Room) : Type 0 where
  silently : Listens m a later → Tells m a later
  tells_so : (mid : Room) (bytes : List ℕ) → Listens m a mid → later.lines ≡ mid.lines → later.hub.sent ≡ mid.hub.sent ++ sending_to m Down bytes → later.jobs ≡ mid.jobs → later.agenda ≡ mid.agenda → Tells m a later

tells_first : (m : ℕ) (a b c : Room) → Listens m a b → Tells m b c → Tells m a c
tells_first m a b c p (silently q) = silently (listens_then m a b c p q)
tells_first m a b c p (tells_so mid bytes q lines sent js agenda) = tells_so mid bytes (listens_then m a b mid p q) lines sent js agenda

part_tells : (plan : Plan) (r : ReadBatch) (p : ReadPart) (a : Room) → Tells r.line a (take_part plan r p a)
part_tells plan r (head_part h) a =
    by_bool (Tells r.line a) r.up (take_read_item r (head_item h) (on_lines (change_line (with_response_head h)) r.line (in_contexts (put_response h.fields) (exchange_on r.line a) a))) (take_read_item r (head_item h) (begin_exchange_on plan r.line h a))
    (λ e.
    let b : Room = in_contexts (put_response h.fields) (exchange_on r.line a) a in
    let c : Room = on_lines (change_line (with_response_head h)) r.line b in
    silently (listens_then r.line a b (take_read_item r (head_item h) c) (listens_contexts r.line (put_response h.fields) (exchange_on r.line a) a)
    (listens_then r.line b c (take_read_item r (head_item h) c) (listens_lines r.line (change_line (with_response_head h)) b (numbered_change (with_response_head h)) (gone_change (with_response_head h))) (listens_takes r (head_item h) c))))
    (λ e.
    let b : Room = begin_exchange_on plan r.line h a in
    let x : Exchange = exchange_for plan (free_place a.hub.contexts) a.hub.moment a.dead h (route_in plan.routes (path_of h.fields)) in
    silently (listens_then r.line a b (take_read_item r (head_item h) b)
    (record {
      gone = λ n. on_line_gone n (with_exchange x) r.line a.lines (λ l. refl) (λ l. refl);
      aside = λ n other. on_other n r.line (with_exchange x) a.lines (λ l. refl) other;
      sent = refl;
      js = refl;
      agenda = refl;
    }) (listens_takes r (head_item h) b)))
part_tells plan r (interim_part h) a = tells_so a (interim_of (exchange_on r.line a) h) (listens_same r.line a a refl refl refl refl) refl refl refl refl
part_tells plan r (piece bytes last) a = silently (listens_takes r (items.Piece bytes last) a)
part_tells plan r (trailer_part fields) a =
    let b : Room = in_contexts (put_trailers r.up (with_fields no_headers fields)) (exchange_on r.line a) a in
    silently (listens_then r.line a b (take_read_item r items.Trailers b) (listens_contexts r.line (put_trailers r.up (with_fields no_headers fields)) (exchange_on r.line a) a) (listens_takes r items.Trailers b))

stop_tells : (r : ReadBatch) (why : Stop) (a : Room) → Tells r.line a (end_of_read r why a)
stop_tells r rest a = silently (listens_ends r None a)
stop_tells r text_over a =
    by_bool (Tells r.line a) (r.up || is_some (exchange_on r.line a)) (end_reading r None a) (with_jobs_first (jobs.Close r.line false ∷ []) (end_reading r None a)) (λ e. silently (listens_ends r None a))
    (λ e.
    let q : Listens r.line a (end_reading r None a) = listens_ends r None a in
    silently (record { gone = q.gone; aside = q.aside; sent = q.sent; js = q.js; agenda = q.agenda }))
stop_tells r (refusal status) a = silently (listens_ends r (Some status) a)

gone_read : (up : Bool) (reading : Reading) (l : Line) → (read_on up reading l).is_gone ≡ l.is_gone
gone_read false reading l = refl
gone_read true reading l = gone_change (with_reader reading) l

heard_tells : (plan : Plan) (r : ReadBatch) (h : Heard) (a : Room) → Tells r.line a (after_heard plan r h a)
heard_tells plan r (hands p new) a =
    let b : Room = on_lines (read_on r.up new) r.line a in
    tells_first r.line a b (take_part plan r p b) (listens_lines r.line (read_on r.up new) a (numbered_read r.up new) (gone_read r.up new)) (part_tells plan r p b)
heard_tells plan r (halts why new) a =
    let b : Room = on_lines (read_on r.up new) r.line a in
    tells_first r.line a b (end_of_read r why b) (listens_lines r.line (read_on r.up new) a (numbered_read r.up new) (gone_read r.up new)) (stop_tells r why b)

-- ---- what that is for the line of a number

bytes_on : (m : ℕ) (bytes : List ℕ) → AreOn m (sending_to m Down bytes)
bytes_on m [] = tt
bytes_on m (b ∷ bytes) = (refl, tt)

bytes_quiet : (m : ℕ) (bytes : List ℕ) → AreQuiet (sending_to m Down bytes)
bytes_quiet m [] = tt
bytes_quiet m (b ∷ bytes) = (tt, tt)

record Spoken (m : ℕ) (a later : Room) : Type 0 where
  gone : (n : ℕ) → gone_at n later.lines ≡ gone_at n a.lines
  aside : (n : ℕ) → (m == n) ≡ false → look n later.lines ≡ look n a.lines
  adds : Adds a.hub later.hub
  on : SendsOn m a.hub later.hub
  js : happens_in later.jobs ≡ happens_in a.jobs
  agenda : later.agenda ≡ a.agenda

spoken : (m : ℕ) (a later : Room) → Tells m a later → Spoken m a later
spoken m a later (silently q) = record {
  gone = q.gone;
  aside = q.aside;
  adds = record { more = []; adds = q.sent ∙ sym (append-nil a.hub.sent); quiet = tt };
  on = record { more = []; adds = q.sent ∙ sym (append-nil a.hub.sent); own = tt };
  js = q.js;
  agenda = q.agenda;
}
spoken m a later (tells_so mid bytes q lines sent js agenda) =
    let is : later.hub.sent ≡ a.hub.sent ++ sending_to m Down bytes = sent ∙ ap (λ (l : List Sent). l ++ sending_to m Down bytes) q.sent in
    record {
      gone = λ n. ap (gone_at n) lines ∙ q.gone n;
      aside = λ n other. ap (look n) lines ∙ q.aside n other;
      adds = record { more = sending_to m Down bytes; adds = is; quiet = bytes_quiet m bytes };
      on = record { more = sending_to m Down bytes; adds = is; own = bytes_on m bytes };
      js = ap happens_in js ∙ q.js;
      agenda = agenda ∙ q.agenda;
    }

module _ {H : Type 0} (plan : Plan) (n : ℕ) (past : List Sent) (room : Room) (host : H) (r : ReadBatch) (is : room.reading ≡ Some r) (k : Known plan n past room) (u : Under plan n past room) (ok : GoneOk n room.jobs (look n room.lines)) where
  idle : room.jobs ≡ []
  idle = (k.alone r is).0

  -- the line of the number is not read, where its client is gone
  not_read : (l : Line) → look n room.lines ≡ Some l → l.is_gone ≡ true → (r.line == n) ≡ true → ⊥
  not_read l at gone here = by_exchange l.exchange refl (subst (λ (js : List Job). GoneEx n js l.exchange) idle (subst (GoneOk n room.jobs) at ok gone))
    where
      by_exchange : (o : Option Exchange) → l.exchange ≡ o → GoneEx n [] l.exchange → ⊥
      by_exchange None none ended = subst (GoneEx n []) none ended
      by_exchange (Some x) some ended = by_side r.up refl
        where
          over : is_over x ≡ true
          over = ap (λ b. b || x.is_answered) (subst (GoneEx n []) some ended).0

          never : is_over x ≡ false → ⊥
          never live = let e : ◌≡◌ {A = Bool} true false = sym over ∙ live in absurd (cc)

          by_side : (up : Bool) → r.up ≡ up → ⊥
          by_side false up =
              let line : LineOk plan n past (Some r) room.jobs room.lines (Some l) room.hub
              = subst (λ (o : Option Line). LineOk plan n past (Some r) room.jobs room.lines o room.hub) at (subst (λ (q : Option ReadBatch). LineOk plan n past q room.jobs room.lines (look n room.lines) room.hub) is k.line) in
              let busy : ExOk plan n past (Some r) room.jobs room.lines l.requests.due (Some x) room.hub = subst (λ (o : Option Exchange). ExOk plan n past (Some r) room.jobs room.lines l.requests.due o room.hub) some line.1 in
              never (busy.reads here up).1
          by_side true up =
              let going : LineUnder plan n (client_traffic n (past ++ room.hub.sent)) (Some r) room.jobs (Some (Some x))
              = subst (λ (o : Option Exchange). LineUnder plan n (client_traffic n (past ++ room.hub.sent)) (Some r) room.jobs (Some o)) some (subst (λ (o : Option Line). LineUnder plan n (client_traffic n (past ++ room.hub.sent)) (Some r) room.jobs (option_map exchange_at o)) at (subst (λ (q : Option ReadBatch). LineUnder plan n (client_traffic n (past ++ room.hub.sent)) q room.jobs (held_on n room.lines)) is u)) in
              never (going.reads here up)

  read_step : (h : Heard) → ((r.line == n) ≡ true → look n room.lines ≡ None → ⊥) → Plain n room.jobs room (after_heard plan r h (record room { reading = None }))
  read_step h there = record {
    change = still (λ t. refl) (s.gone n) s.adds (λ away. beside away (r.line == n) refl);
    gone = ended (look n later.lines) refl (s.gone n);
    due = (λ i. sym s.js i ++ happens_in (sym s.agenda i));
  }
    where
      later : Room
      later = after_heard plan r h (record room { reading = None })

      s : Spoken r.line (record room { reading = None }) (after_heard plan r h (record room { reading = None }))
      s = spoken r.line (record room { reading = None }) later (heard_tells plan r h (record room { reading = None }))

      beside : (gone_at n room.lines ≡ Some false → ⊥) → (b : Bool) → (r.line == n) ≡ b → Beside n room.hub (after_heard plan r h (record room { reading = None })).hub
      beside away false other = sends_beside n r.line room.hub later.hub other s.on
      beside away true here = by_line (look n room.lines) refl away
        where
          by_line : (o : Option Line) → look n room.lines ≡ o → (option_map gone_of o ≡ Some false → ⊥) → Beside n room.hub (after_heard plan r h (record room { reading = None })).hub
          by_line None at away = absurd (there here at)
          by_line (Some l) at away = by_gone l.is_gone refl
            where
              by_gone : (g : Bool) → l.is_gone ≡ g → Beside n room.hub (after_heard plan r h (record room { reading = None })).hub
              by_gone false e = absurd (away (ap Some e))
              by_gone true e = absurd (not_read l at e here)

      ended : (p : Option Line) → look n (after_heard plan r h (record room { reading = None })).lines ≡ p → gone_at n (after_heard plan r h (record room { reading = None })).lines ≡ gone_at n room.lines
          → GoneOk n (after_heard plan r h (record room { reading = None })).jobs (look n (after_heard plan r h (record room { reading = None })).lines)
      ended None at same = subst (GoneOk n later.jobs) (sym at) tt
      ended (Some m) at same = subst (GoneOk n later.jobs) (sym at) (λ gone. by_line (look n room.lines) refl (sym (ap (option_map gone_of) at ∙ ap Some gone) ∙ same) gone)
        where
          by_line : (o : Option Line) → look n room.lines ≡ o → Some true ≡ gone_at n room.lines → m.is_gone ≡ true → GoneEx n (after_heard plan r h (record room { reading = None })).jobs m.exchange
          by_line None gone_none e gone = let never : ◌≡◌ {A = Option Bool} (Some true) None = e ∙ ap (option_map gone_of) gone_none in absurd (cc)
          by_line (Some l) there_l e gone = by_test (r.line == n) refl
            where
              l_gone : l.is_gone ≡ true
              l_gone = let f : ◌≡◌ {A = Option Bool} (Some true) (Some l.is_gone) = e ∙ ap (option_map gone_of) there_l in cc

              by_exchange : (o : Option Exchange) → GoneEx n [] o → GoneEx n (after_heard plan r h (record room { reading = None })).jobs o
              by_exchange None ended = absurd ended
              by_exchange (Some x) ended = ended

              by_test : (b : Bool) → (r.line == n) ≡ b → GoneEx n (after_heard plan r h (record room { reading = None })).jobs m.exchange
              by_test true here = absurd (not_read l there_l l_gone here)
              by_test false other =
                  let same_line : ◌≡◌ {A = Option Line} (Some m) (Some l) = sym at ∙ (s.aside n other ∙ there_l) in
                  let is_l : m ≡ l = cc in
                  subst (λ (a : Line). GoneEx n later.jobs a.exchange) (sym is_l) (by_exchange l.exchange (subst (λ (js : List Job). GoneEx n js l.exchange) idle (subst (GoneOk n room.jobs) there_l ok l_gone)))

  abbrev Goal : Course (Both H) → Type 0
  Goal course = AllEnds (λ (b : Both H). Plain n room.jobs room b.room) course

  pub reading_step : AllEnds (λ (b : Both H). Plain n room.jobs room b.room) (reads_next plan room.reading host room)
  reading_step = subst (λ (o : Option ReadBatch). Goal (reads_next plan o host room)) (sym is) (by_reading (reading_on r room) refl)
    where
      by_reading : (o : Option Reading) → reading_on r room ≡ o → Goal (reads_in plan r o host room)
      by_reading None none = record { change = still (λ t. refl) refl (adds_none room.hub) (λ away. beside_itself n room.hub); gone = ok; due = refl }
      by_reading (Some reading) some = λ h says. read_step h there
        where
          there : (r.line == n) ≡ true → look n room.lines ≡ None → ⊥
          there here none =
              let gone : line_in r.line room.lines ≡ None = line_in_is r.line room.lines ∙ subst (λ (j : ℕ). look j room.lines ≡ None) (sym (equal_by r.line n here)) none in
              let e : ◌≡◌ {A = Option Reading} None (Some reading) = sym (ap (line_reading r.up) gone ∙ none_read r.up) ∙ some in
              absurd (cc)
            where
              none_read : (up : Bool) → line_reading up None ≡ None
              none_read false = refl
              none_read true = refl
