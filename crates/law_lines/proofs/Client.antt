-- A reading of the client of the line of the number.
use Rattle.std.proofs.Common.{◌≡◌, ◌⊎◌, inl, inr, ℕ, zero, suc, ◌==◌, Bool, true, false, ◌||◌, ◌&&◌, List, [], ◌∷◌, ◌++◌, length, refl, ap, ◌∙◌, sym, subst}
use Rattle.std.proofs.lemmas.List.{append-nil, append_assoc}
use Rattle.std.specs.Prelude.{Option, None, Some, is_some, option_map, if◌then◌else◌}
use Rattle.contexts.specs.declared.parts.Contexts.{Contexts}
use Rattle.exchange.specs.declared.types.Exchange.{Exchange}
use Rattle.exchange.specs.declared.types.Filter.{Filter}
use Rattle.exchange.specs.declared.types.Hub.{Hub}
use Rattle.exchange.specs.declared.types.Request.{Request}
use Rattle.exchange.specs.Heads.{path_of, route_in, is_bare, length_in}
use Rattle.exchange.specs.Maps.{request_map, with_fields}
use Rattle.law_exchange.specs.Lives.{turns, is_over}
use Rattle.law_exchange.specs.Responses.{IsMessage}
use Rattle.law_exchange.specs.Traffic.{Traffic, up_traffic}
use Rattle.filter_chain.specs.declared.item.ChainItem.{ChainItem}
use Rattle.filter_chain.specs.declared.item.ChainItem.TheVariants as items
use Rattle.gate_io.specs.declared.event.Sent.{Sent}
use Rattle.header_maps.specs.Headers.{Headers}
use Rattle.header_maps.specs.Operations.{no_headers}
use Rattle.h1_model.specs.Head.{Head, SpellsStep, found}
use Rattle.h1_model.specs.Length.{BodyLength, nothing, exactly, chunked, until_end}
use Rattle.h1_model.specs.Messages.{head, Stop, rest, over, refusal, due_after, due_behind}
use Rattle.h1_model.specs.Unread.{Part, head_part, interim_part, piece, trailer_part, Reading, Hands, Halts, due_at, IsNext, part}
use Rattle.worker_model.specs.Room.{Room}
use Rattle.worker_model.specs.declared.types.Job.{Job}
use Rattle.worker_model.specs.declared.types.Job.TheVariants as jobs
use Rattle.worker_model.specs.declared.types.Line.{Line}
use Rattle.worker_model.specs.declared.types.ReadBatch.{ReadBatch}
use Rattle.worker_model.specs.Plan.{Plan}
use Rattle.worker_model.specs.Rooms.{with_contexts}
use Rattle.worker_model.specs.Steps.{change_line, change_exchange, on_lines, exchange_on, exchange_of_line, exchange_for, free_place, with_exchange, begin_exchange_on, read_on, with_read_mark, is_last, jobs_of, put_jobs, refuse_jobs, create_jobs, begin_jobs_for, exchange_jobs, begins_with_head, end_reading, with_item, add_read_item, take_read_item, in_contexts, head_item, put_trailers, take_part, end_of_read, with_jobs_first}
use Rattle.law_lines.specs.Living.{requests_in}
use Rattle.law_lines.specs.Heard.{items_of}
use Rattle.law_lines.specs.Requests.{IsBegun}
use Rattle.law_lines.proofs.Earlier.{behind}
use Rattle.law_lines.proofs.Finding.{IsOnce}
use Rattle.law_lines.proofs.Items.{message_front, proper_more, head_proper, message_rest, none_begins, OfBody}
use Rattle.law_lines.proofs.Kept.{Staid, by_bool}
use Rattle.law_lines.proofs.Looks.{is_n, look, line_in_is, IsPlain, equal_is}
use Rattle.law_lines.proofs.Maps.{trailers_map, opened_map}
use Rattle.law_lines.proofs.Reader.{InBody, HeadNext, BodyNext, head_next, body_next, waits_in}
use Rattle.law_lines.proofs.Rooms.{AllParts}
use Rattle.law_lines.proofs.Story.{puts_of, batch_of, HasClose, NoClose, NoEnter, OneEnter, Tail, Rests, pending, Proper, Flow, flows, ceases, Passage, passage_on, alike_itself, Matches, Stream, fresh, going, doomed, Tale, plainly, filtered, Idle, Busy, Free, ExOk, LineOk, Known, LivesUp, story_on}
use Rattle.law_lines.proofs.OnLines.{on_once, on_same, on_rests, jobs_of_line, line_tail, line_unclosed}
use Rattle.law_lines.proofs.Calmed.{none_once}
use Rattle.law_lines.proofs.Upward.{still_up, keeps_itself}
use Rattle.law_lines.proofs.Hearing.{HeardIn, hands_listen, halts_listen}
use Rattle.law_lines.proofs.Sides.{puts_unentered, note_up, goes_known, ended_known, numbered_change, numbered_read, still_change}

-- the client of a line is read, of which this was read
abbrev pub client : ℕ → List ChainItem → ReadBatch
client n b = record { line = n; up = false; batch = b }

itself : (n : ℕ) → (n == n) ≡ true
itself n = equal_is n n refl

pub batch_is : (n : ℕ) (b : List ChainItem) → pending n (Some (client n b)) [] ≡ b
batch_is n b = ap (λ c. if c && true then b else []) (itself n)

on_is : (n : ℕ) (s : Room) (o : Option Line) → look n s.lines ≡ o → exchange_on n s ≡ exchange_of_line o
on_is n s o at = ap exchange_of_line (line_in_is n s.lines ∙ at)

same_up : (n : ℕ) (x : Exchange) (hub : Hub) → IsPlain x → LivesUp n x hub x hub
same_up n x hub p = note_up n x x hub hub p (record { unfiltered = p.1; framed = refl; stays_over = λ o. o }) refl (λ o. o)

refuses_none : (n m : ℕ) (status : Option ℕ) → puts_of n (refuse_jobs m status) ≡ []
refuses_none n m None = refl
refuses_none n m (Some status) = refl

put_is : (n : ℕ) (b : List ChainItem) (status : Option ℕ) → puts_of n (put_jobs n false b ++ refuse_jobs n status) ≡ b
put_is n [] status = refuses_none n n status
put_is n (i ∷ b) status = (λ j. (if itself n j then i ∷ b else []) ++ refuses_none n n status j) ∙ append-nil (i ∷ b)

batch_alone : (n : ℕ) (b : List ChainItem) → batch_of n (Some (client n b)) ≡ b
batch_alone n b = ap (λ c. if c && true then b else []) (itself n)

begins_more : (b : List ChainItem) (item : ChainItem) → OfBody item → begins_with_head (b ++ item ∷ []) ≡ true → begins_with_head b ≡ true
begins_more [] (items.Head end) of is = absurd of
begins_more [] (items.Piece bytes end) of is = is
begins_more [] items.Trailers of is = is
begins_more (items.Head end ∷ b) item of is = refl
begins_more (items.Piece bytes end ∷ b) item of is = is
begins_more (items.Trailers ∷ b) item of is = is

-- contexts that are made are no stages, and put nothing
creates_puts : (n m k : ℕ) (later : List Job) → puts_of n (create_jobs m k ++ later) ≡ puts_of n later
creates_puts n m zero later = refl
creates_puts n m (suc k) later = ap (puts_of n) (append_assoc (create_jobs m k) (jobs.Create m k ∷ []) later) ∙ creates_puts n m k (jobs.Create m k ∷ later)

creates_once : (n m k : ℕ) (later : List Job) → OneEnter n later → OneEnter n (create_jobs m k ++ later)
creates_once n m zero later once = once
creates_once n m (suc k) later once = subst (OneEnter n) (sym (append_assoc (create_jobs m k) (jobs.Create m k ∷ []) later)) (creates_once n m k (jobs.Create m k ∷ later) once)

module _ (plan : Plan) (n : ℕ) (past : List Sent) where
  -- ---- the reading ends, and an exchange is there

  ends_stream : (b : List ChainItem) (s : Room) (status : Option ℕ) (y : Exchange) (fields : Headers) (got : List ChainItem) → exchange_on n s ≡ Some y → IsPlain y
      → Stream n (Some (client n b)) [] s.lines y s.hub.contexts fields got → Stream n None (jobs_of (client n b) status s) s.lines y s.hub.contexts fields got
  ends_stream b s status y fields got there plain (fresh none is rests map proper) = by_refusal y.refusal refl
    where
      proper_b : Proper b y.asked.whole
      proper_b = subst (λ l. Proper l y.asked.whole) (batch_is n b) proper

      jobs_are : jobs_of (client n b) status s ≡ exchange_jobs (client n b) status y y.refusal
      jobs_are =
          ap (λ c. if c && true then begin_jobs_for (client n b) status (exchange_on n s) else put_jobs n false b ++ refuse_jobs n status) proper_b.0
          ∙ ap (begin_jobs_for (client n b) status) there

      entering : (c : List ChainItem) → Proper c y.asked.whole → Stream n None (jobs.Enter n ∷ (put_jobs n false c ++ refuse_jobs n status)) s.lines y s.hub.contexts fields got
      entering [] p = let never : ◌≡◌ {A = Bool} false true = p.0 in absurd (cc)
      entering (i ∷ c) p =
          fresh none (itself n, itself n, p.0) rests map
          (subst (λ l. Proper l y.asked.whole) (sym (append-nil (puts_of n (put_jobs n false (i ∷ c) ++ refuse_jobs n status)) ∙ put_is n (i ∷ c) status)) p)

      by_refusal : (q : Option ℕ) → y.refusal ≡ q → Stream n None (jobs_of (client n b) status s) s.lines y s.hub.contexts fields got
      by_refusal (Some number) q =
          subst (λ l. Stream n None l s.lines y s.hub.contexts fields got) (sym (jobs_are ∙ ap (exchange_jobs (client n b) status y) q))
          (doomed (subst (λ l. IsMessage l) (sym none) tt) refl (inr (inl (itself n))))
      by_refusal None q =
          subst (λ l. Stream n None l s.lines y s.hub.contexts fields got)
          (sym (jobs_are ∙ (ap (exchange_jobs (client n b) status y) q ∙ ap (λ (fs : List Filter). create_jobs n (length fs) ++ (jobs.Enter n ∷ (put_jobs n false b ++ refuse_jobs n status))) plain.0)))
          (entering b proper_b)
  ends_stream b s status y fields got there plain (going begins proper) =
      let rest_none = message_rest got (pending n (Some (client n b)) []) begins proper.1 in
      let no_head : begins_with_head b ≡ false = ap begins_with_head (sym (batch_is n b)) ∙ none_begins (pending n (Some (client n b)) []) rest_none in
      let jobs_are : jobs_of (client n b) status s ≡ put_jobs n false b ++ refuse_jobs n status
      = ap (λ c. if c && true then begin_jobs_for (client n b) status (exchange_on n s) else put_jobs n false b ++ refuse_jobs n status) no_head in
      going begins (subst (λ l. Proper (got ++ l) y.asked.whole)
      (batch_is n b ∙ sym (append-nil (puts_of n (jobs_of (client n b) status s)) ∙ (ap (puts_of n) jobs_are ∙ put_is n b status))) proper)
  ends_stream b s status y fields got there plain (doomed message none (inl is)) =
      let empty : b ≡ [] = sym (batch_is n b) ∙ none in
      let jobs_are : jobs_of (client n b) status s ≡ refuse_jobs n status
      = ap (λ (l : List ChainItem). if begins_with_head l && true then begin_jobs_for (client n l) status (exchange_on n s) else put_jobs n false l ++ refuse_jobs n status) empty in
      doomed message (append-nil (puts_of n (jobs_of (client n b) status s)) ∙ (ap (puts_of n) jobs_are ∙ refuses_none n n status)) (inl is)
  ends_stream b s status y fields got there plain (doomed message none (inr is)) = absurd is

  ends_passage : (b : List ChainItem) (s : Room) (status : Option ℕ) (y : Exchange) (h : Head) (first : Exchange) (base : List Traffic) (got : List ChainItem) → exchange_on n s ≡ Some y → Passage n past (Some (client n b)) [] s.lines y s.hub h first base got
      → Passage n past None (jobs_of (client n b) status s) s.lines y s.hub h first base got
  ends_passage b s status y h first base got there p = by_flow p.flow
    where
      done : (js : List Job) → jobs_of (client n b) status s ≡ js → Flow n None js y got p.heard → OneEnter n js → (y.is_entered ≡ true → NoEnter n js) → Passage n past None (jobs_of (client n b) status s) s.lines y s.hub h first base got
      done js are flow once none = record {
        went = p.went;
        adds = p.adds;
        heard = p.heard;
        was = p.was;
        up = p.up;
        place = p.place;
        asked = p.asked;
        minor = p.minor;
        framed = p.framed;
        flow = subst (λ l. Flow n None l y got p.heard) (sym are) flow;
        enters = record { once = subst (OneEnter n) (sym are) once; none = λ e. subst (NoEnter n) (sym are) (none e); first = λ e. absurd (cc) };
      }

      by_head : (c : Bool) → begins_with_head b ≡ c → jobs_of (client n b) status s ≡ (if c then begin_jobs_for (client n b) status (exchange_on n s) else put_jobs n false b ++ refuse_jobs n status)
      by_head true is = ap (λ c. if c && true then begin_jobs_for (client n b) status (exchange_on n s) else put_jobs n false b ++ refuse_jobs n status) is
      by_head false is = ap (λ c. if c && true then begin_jobs_for (client n b) status (exchange_on n s) else put_jobs n false b ++ refuse_jobs n status) is

      more : (c : Bool) → begins_with_head b ≡ c → Proper (got ++ b) y.asked.whole → got ++ b ≡ p.heard → Passage n past None (jobs_of (client n b) status s) s.lines y s.hub h first base got
      more false is proper same =
          done (put_jobs n false b ++ refuse_jobs n status) (by_head false is)
          (flows (subst (λ l. Proper (got ++ l) y.asked.whole) (sym (append-nil (puts_of n (put_jobs n false b ++ refuse_jobs n status)) ∙ put_is n b status)) proper)
          (ap (λ l. got ++ l) (append-nil (puts_of n (put_jobs n false b ++ refuse_jobs n status)) ∙ put_is n b status) ∙ same))
          (none_once n (put_jobs n false b ++ refuse_jobs n status) (puts_unentered n n false b status)) (λ e. puts_unentered n n false b status)
      more true is proper same = by_refusal y.refusal refl
        where
          jobs_are : jobs_of (client n b) status s ≡ exchange_jobs (client n b) status y y.refusal
          jobs_are = by_head true is ∙ ap (begin_jobs_for (client n b) status) there

          behind_creates : List Job
          behind_creates = jobs.Enter n ∷ (put_jobs n false b ++ refuse_jobs n status)

          by_refusal : (q : Option ℕ) → y.refusal ≡ q → Passage n past None (jobs_of (client n b) status s) s.lines y s.hub h first base got
          by_refusal (Some number) q =
              done (jobs.Refuse n number ∷ []) (jobs_are ∙ ap (exchange_jobs (client n b) status y) q) (ceases (message_front got b proper.1) refl (inr (inl (itself n))) (b, same)) tt (λ e. tt)
          by_refusal None q =
              done (create_jobs n (length y.filters) ++ (jobs.Enter n ∷ (put_jobs n false b ++ refuse_jobs n status))) (jobs_are ∙ ap (exchange_jobs (client n b) status y) q)
              (flows (subst (λ l. Proper (got ++ l) y.asked.whole)
              (sym (append-nil (puts_of n (create_jobs n (length y.filters) ++ (jobs.Enter n ∷ (put_jobs n false b ++ refuse_jobs n status)))) ∙ (creates_puts n n (length y.filters) (jobs.Enter n ∷ (put_jobs n false b ++ refuse_jobs n status)) ∙ put_is n b status))) proper)
              (ap (λ l. got ++ l) (append-nil (puts_of n (create_jobs n (length y.filters) ++ (jobs.Enter n ∷ (put_jobs n false b ++ refuse_jobs n status)))) ∙ (creates_puts n n (length y.filters) (jobs.Enter n ∷ (put_jobs n false b ++ refuse_jobs n status)) ∙ put_is n b status)) ∙ same))
              (creates_once n n (length y.filters) (jobs.Enter n ∷ (put_jobs n false b ++ refuse_jobs n status))
              ((λ e. puts_unentered n n false b status), none_once n (put_jobs n false b ++ refuse_jobs n status) (puts_unentered n n false b status)))
              (λ e.
              let free : y.is_entered ≡ false = p.enters.first (ap begins_with_head (batch_alone n b) ∙ is) in
              let never : ◌≡◌ {A = Bool} true false = sym e ∙ free in absurd (cc))

      by_flow : Flow n (Some (client n b)) [] y got p.heard → Passage n past None (jobs_of (client n b) status s) s.lines y s.hub h first base got
      by_flow (flows proper same) = more (begins_with_head b) refl (subst (λ l. Proper (got ++ l) y.asked.whole) (batch_is n b) proper) (ap (λ l. got ++ l) (sym (batch_is n b)) ∙ same)
      by_flow (ceases message none (inl is) front) =
          let empty : b ≡ [] = sym (batch_is n b) ∙ none in
          done (refuse_jobs n status) (by_head false (ap begins_with_head empty) ∙ ap (λ (l : List ChainItem). put_jobs n false l ++ refuse_jobs n status) empty)
          (ceases message (append-nil (puts_of n (refuse_jobs n status)) ∙ refuses_none n n status) (inl is) front) (none_once n (refuse_jobs n status) (puts_unentered n n false [] status)) (λ e. puts_unentered n n false [] status)
      by_flow (ceases message none (inr is) front) = absurd is

  ends_tale : (b : List ChainItem) (s : Room) (status : Option ℕ) (y : Exchange) → exchange_on n s ≡ Some y → Tale plan n past (Some (client n b)) [] s.lines y s.hub
      → Tale plan n past None (jobs_of (client n b) status s) s.lines y s.hub
  ends_tale b s status y there (plainly t) =
      plainly (story_on plan n past (Some (client n b)) None [] (jobs_of (client n b) status s) s.lines s.lines y y s.hub s.hub t (same_up n y s.hub t.plain) refl
      (ends_passage b s status y t.head t.start (up_traffic n t.start_hub.sent) _ there t.passage) (ends_stream b s status y t.head.fields (requests_in t.deeds) there t.plain t.stream))
  ends_tale b s status y there (filtered o) = filtered (record {
    filters = o.filters;
    head = o.head;
    start = o.start;
    begun = o.begun;
    some = o.some;
    base = o.base;
    before = o.before;
    got = o.got;
    passage = ends_passage b s status y o.head o.start o.base o.got there o.passage;
  })

  -- a room in which a line with an exchange is read
  record Busied (b : List ChainItem) (s : Room) (m : Line) (y : Exchange) : Type 0 where
    once : IsOnce (is_n n) s.lines
    parts : AllParts s.agenda
    idle : s.jobs ≡ []
    rests : Rests s.lines
    there : look n s.lines ≡ Some m
    exchange : m.exchange ≡ Some y
    asked : m.requests.asked ≡ None
    staid : Staid y
    matches : Matches y.asked.whole m.requests.due
    tale : Tale plan n past (Some (client n b)) [] s.lines y s.hub

  ends_busy : (b : List ChainItem) (s : Room) (status : Option ℕ) (m : Line) (y : Exchange) → Busied b s m y → Known plan n past (end_reading (client n b) status s)
  ends_busy b s status m y f =
      let on : exchange_on n s ≡ Some y = on_is n s (Some m) f.there ∙ f.exchange in
      let k : List Job = jobs_of (client n b) status s in
      let are : k ++ s.jobs ≡ k = ap (λ l. k ++ l) f.idle ∙ append-nil k in
      let busy : Busy plan n past None k s.lines m.requests.due y s.hub
      = record { staid = f.staid; matches = f.matches; unclosed = line_unclosed n n k (jobs_of_line (client n b) status s); reads = tt; tale = ends_tale b s status y on f.tale } in
      ended_known plan n past (end_reading (client n b) status s) f.once f.parts (subst Tail (sym are) (line_tail n k (jobs_of_line (client n b) status s))) refl
      (subst (λ l. LineOk plan n past None l s.lines (look n s.lines) s.hub) (sym are)
      (subst (λ (o : Option Line). LineOk plan n past None k s.lines o s.hub) (sym f.there) (f.asked, subst (λ (o : Option Exchange). ExOk plan n past None k s.lines m.requests.due o s.hub) (sym f.exchange) busy)))

  -- an item joins what was read
  joins_busy : (b : List ChainItem) (item : ChainItem) (s : Room) (m : Line) (y : Exchange) → Busied (b ++ item ∷ []) s m y → y.asked.whole ≡ is_last item → is_over y ≡ false → Known plan n past (add_read_item (client n b) item s)
  joins_busy b item s m y f whole unended =
      by_bool (Known plan n past) (is_last item) (end_reading (with_item item (client n b)) None s) (record s { reading = Some (with_item item (client n b)) })
      (λ e. ends_busy (b ++ item ∷ []) s None m y f)
      (λ e.
      let busy : Busy plan n past (Some (client n (b ++ item ∷ []))) [] s.lines m.requests.due y s.hub
      = record { staid = f.staid; matches = f.matches; unclosed = tt; reads = λ is down. (whole ∙ e, unended); tale = f.tale } in
      goes_known plan n past (client n (b ++ item ∷ [])) s f.once f.parts f.rests f.idle
      (subst (λ (o : Option Line). LineOk plan n past (Some (client n (b ++ item ∷ []))) [] s.lines o s.hub) (sym f.there)
      (f.asked, subst (λ (o : Option Exchange). ExOk plan n past (Some (client n (b ++ item ∷ []))) [] s.lines m.requests.due o s.hub) (sym f.exchange) busy)))

  -- ---- more of a request

  parted : (a c : Bool) → (a || c) ≡ false → (a ≡ false) × (c ≡ false)
  parted true c is = absurd (cc)
  parted false c is = (refl, is)

  more_stream : (b : List ChainItem) (item : ChainItem) (lines later : List Line) (x : Exchange) (c d : Contexts) (fields : Headers) (got : List ChainItem) → OfBody item → x.asked.whole ≡ false → is_over x ≡ false
      → (request_map x.place d ≡ request_map x.place c) → (Rests lines → Rests later)
      → Stream n (Some (client n b)) [] lines x c fields got → Stream n (Some (client n (b ++ item ∷ []))) [] later (with_read_mark false item x) d fields got
  more_stream b item lines later x c d fields got of unread unended same still (fresh none is rests map proper) =
      fresh none is (still rests) (same ∙ map)
      (subst (λ l. Proper l (is_last item)) (sym (batch_is n (b ++ item ∷ []))) (proper_more b item (subst (λ w. Proper b w) unread (subst (λ l. Proper l x.asked.whole) (batch_is n b) proper)) of))
  more_stream b item lines later x c d fields got of unread unended same still (going begins proper) =
      going begins
      (subst (λ l. Proper (got ++ l) (is_last item)) (sym (batch_is n (b ++ item ∷ [])))
      (subst (λ l. Proper l (is_last item)) (append_assoc got b (item ∷ []))
      (proper_more (got ++ b) item (subst (λ w. Proper (got ++ b) w) unread (subst (λ l. Proper (got ++ l) x.asked.whole) (batch_is n b) proper)) of)))
  more_stream b item lines later x c d fields got of unread unended same still (doomed message none (inl is)) = absurd (cc)
  more_stream b item lines later x c d fields got of unread unended same still (doomed message none (inr is)) = absurd is

  -- one item more was heard
  abbrev HearsOne : List Line → List Line → ChainItem → Type 0
  HearsOne lines later item = (h : Head) (got : List ChainItem) → HeardIn n lines h got → HeardIn n later h (got ++ item ∷ [])

  more_passage : (b : List ChainItem) (item : ChainItem) (lines later : List Line) (x : Exchange) (hub after : Hub) (h : Head) (first : Exchange) (base : List Traffic) (got : List ChainItem) → OfBody item → x.asked.whole ≡ false → is_over x ≡ false → after.sent ≡ hub.sent
      → HearsOne lines later item → Passage n past (Some (client n b)) [] lines x hub h first base got → Passage n past (Some (client n (b ++ item ∷ []))) [] later (with_read_mark false item x) after h first base got
  more_passage b item lines later x hub after h first base got of unread unended sent hears p = record {
    went = p.went;
    adds = ap (λ l. up_traffic n (past ++ l)) sent ∙ p.adds;
    heard = p.heard ++ item ∷ [];
    was = hears h p.heard p.was;
    up = still_up n (x, hub) (with_read_mark false item x, hub) [] p.went _ (record { minor = refl; framed = refl; reader = refl; live = λ e. (e, refl); entered = refl; answered = λ a. a; sends = refl }) p.up;
    place = p.place;
    asked = ap (λ (q : Request). record q { whole = is_last item }) p.asked;
    minor = p.minor;
    framed = p.framed;
    flow = by_flow p.flow;
    enters = record { once = tt; none = λ e. tt; first = λ e. p.enters.first (ap begins_with_head (batch_alone n b) ∙ begins_more b item of (ap begins_with_head (sym (batch_alone n (b ++ item ∷ []))) ∙ e)) };
  }
    where
      by_flow : Flow n (Some (client n b)) [] x got p.heard → Flow n (Some (client n (b ++ item ∷ []))) [] (with_read_mark false item x) got (p.heard ++ item ∷ [])
      by_flow (flows proper same) =
          flows
          (subst (λ l. Proper (got ++ l) (is_last item)) (sym (batch_is n (b ++ item ∷ [])))
          (subst (λ l. Proper l (is_last item)) (append_assoc got b (item ∷ []))
          (proper_more (got ++ b) item (subst (λ w. Proper (got ++ b) w) unread (subst (λ l. Proper (got ++ l) x.asked.whole) (batch_is n b) proper)) of)))
          (ap (λ l. got ++ l) (batch_is n (b ++ item ∷ [])) ∙ (sym (append_assoc got b (item ∷ [])) ∙ ap (λ l. l ++ item ∷ []) (ap (λ l. got ++ l) (sym (batch_is n b)) ∙ same)))
      by_flow (ceases message none (inl is) front) = let never : ◌≡◌ {A = Bool} true false = sym is ∙ unended in absurd (cc)
      by_flow (ceases message none (inr is) front) = absurd is

  more_tale : (b : List ChainItem) (item : ChainItem) (lines later : List Line) (x : Exchange) (hub after : Hub) → OfBody item → x.asked.whole ≡ false → is_over x ≡ false
      → (request_map x.place after.contexts ≡ request_map x.place hub.contexts) → after.sent ≡ hub.sent → (Rests lines → Rests later) → HearsOne lines later item
      → Tale plan n past (Some (client n b)) [] lines x hub → Tale plan n past (Some (client n (b ++ item ∷ []))) [] later (with_read_mark false item x) after
  more_tale b item lines later x hub after of unread unended same sent still hears (plainly t) =
      plainly (story_on plan n past (Some (client n b)) (Some (client n (b ++ item ∷ []))) [] [] lines later x (with_read_mark false item x) hub after t
      (note_up n x (with_read_mark false item x) hub after t.plain (record { unfiltered = t.plain.1; framed = refl; stays_over = λ o. o }) (ap (up_traffic n) sent) (λ o. o)) refl
      (more_passage b item lines later x hub after t.head t.start (up_traffic n t.start_hub.sent) _ of unread unended sent hears t.passage) (more_stream b item lines later x hub.contexts after.contexts t.head.fields (requests_in t.deeds) of unread unended same still t.stream))
  more_tale b item lines later x hub after of unread unended same sent still hears (filtered o) =
      filtered (record {
        filters = o.filters;
        head = o.head;
        start = o.start;
        begun = o.begun;
        some = o.some;
        base = o.base;
        before = o.before;
        got = o.got;
        passage = more_passage b item lines later x hub after o.head o.start o.base o.got of unread unended sent hears o.passage;
      })

  -- ---- a new exchange

  new_tale : (h : Head) (place now : ℕ) (dead : List ℕ) (used : ℕ) (text : List ℕ) (lines : List Line) (hub : Hub) → SpellsStep text (found h used) → hub.moment ≡ now → request_map place hub.contexts ≡ h.fields
      → Rests lines → Idle plan n past hub → HeardIn n lines h (head_item h ∷ []) → Tale plan n past (Some (client n (head_item h ∷ []))) [] lines (with_read_mark false (head_item h) (exchange_for plan place now dead h (route_in plan.routes (path_of h.fields)))) hub
  new_tale h place now dead used text lines hub spells moment map rests idle was = by_filters x.filters refl
    where
      x : Exchange
      x = exchange_for plan place now dead h (route_in plan.routes (path_of h.fields))

      begun_so : IsBegun plan h (exchange_for plan place now dead h (route_in plan.routes (path_of h.fields)))
      begun_so = record { place = place; now = now; dead = dead; is = refl; judged = record { text = text; used = used; spells = spells } }

      proper : Proper (head_item h ∷ []) (is_bare (length_in h.length))
      proper = head_proper (is_bare (length_in h.length))

      passage : (base : List Traffic) → base ≡ up_traffic n (past ++ hub.sent) → Passage n past (Some (client n (head_item h ∷ []))) [] lines (with_read_mark false (head_item h) (exchange_for plan place now dead h (route_in plan.routes (path_of h.fields)))) hub h
          (exchange_for plan place now dead h (route_in plan.routes (path_of h.fields))) base []
      passage base is = record {
        went = [];
        adds = sym is ∙ sym (append-nil base);
        heard = head_item h ∷ [];
        was = was;
        up = record { left = []; outs = []; are = tt; is = refl; opened = refl; through = λ e. refl; idle = λ e. tt; sound = tt; left_sound = tt; unentered = λ e f. refl; answered = λ e. refl };
        place = refl;
        asked = refl;
        minor = refl;
        framed = refl;
        flow = flows (subst (λ l. Proper l (is_bare (length_in h.length))) (sym (batch_is n (head_item h ∷ []))) proper) (batch_is n (head_item h ∷ []));
        enters = record { once = tt; none = λ e. tt; first = λ e. refl };
      }

      y : Exchange
      y = with_read_mark false (head_item h) x

      cons_some : (f : Filter) (fs : List Filter) → x.filters ≡ f ∷ fs → x.filters ≡ [] → ⊥
      cons_some f fs are none = absurd (cc)

      by_filters : (fs : List Filter) → x.filters ≡ fs → Tale plan n past (Some (client n (head_item h ∷ []))) [] lines y hub
      by_filters [] none = plainly (record {
        plain = (none, refl, refl);
        head = h;
        start = x;
        start_hub = behind past hub;
        began = record { begun = begun_so; moment = moment; map = map };
        before = idle;
        deeds = turns y (behind past hub) ∷ [];
        lives = (((record { unfiltered = refl; framed = refl; stays_over = λ o. o }, refl), (λ e. absurd (cc))), (refl, refl));
        came = tt;
        minor = refl;
        opened = inr (refl, inl refl);
        passage = passage (up_traffic n (past ++ hub.sent)) refl;
        stream = fresh refl (itself n, refl) rests map
            (subst (λ l. Proper l (is_bare (length_in h.length))) (sym (batch_is n (head_item h ∷ []))) (head_proper (is_bare (length_in h.length))));
      })
      by_filters (f ∷ fs) are = filtered (record {
        filters = cons_some f fs are;
        head = h;
        start = x;
        begun = begun_so;
        some = cons_some f fs are;
        base = up_traffic n (past ++ hub.sent);
        before = idle;
        got = [];
        passage = passage (up_traffic n (past ++ hub.sent)) refl;
      })

  due_matches : (h : Head) → Matches (is_bare (length_in h.length)) (due_after h)
  due_matches h = by_length h.length
    where
      by_length : (b : BodyLength) → Matches (is_bare (length_in b)) (due_behind head h.connection b)
      by_length nothing = refl
      by_length (exactly k) = tt
      by_length chunked = tt
      by_length until_end = tt

  -- ---- what the client's reader says

  module _ (a : Room) (l : Line) (once : IsOnce (is_n n) a.lines) (parts : AllParts a.agenda) (idle : a.jobs ≡ []) (quiet : a.reading ≡ None) (at_rest : Rests a.lines) (there : look n a.lines ≡ Some l) (asked : l.requests.asked ≡ None) where
    -- its line, once it has said that
    abbrev pub said : Reading → Line
    said new = record l { requests = new }

    abbrev pub read : Reading → Room
    read new = on_lines (read_on false new) n a

    read_there : (new : Reading) → look n (read new).lines ≡ Some (said new)
    read_there new = on_same n n (read_on false new) a.lines (numbered_read false new) once (itself n) ∙ ap (option_map (read_on false new)) there

    read_once : (new : Reading) → IsOnce (is_n n) (read new).lines
    read_once new = on_once n n (read_on false new) a.lines (numbered_read false new) once

    read_rests : (new : Reading) → Rests (read new).lines
    read_rests new = on_rests n (read_on false new) a.lines (λ k at is. is) at_rest

    -- where there is an exchange
    module _ (b : List ChainItem) (x : Exchange) (exchange : l.exchange ≡ Some x) (busy : Busy plan n past (Some (client n b)) [] a.lines l.requests.due x a.hub) where
      reads : (x.asked.whole ≡ false) × (is_over x ≡ false)
      reads = busy.reads (itself n) refl

      inside : InBody l.requests.due
      inside = subst (λ w. Matches w l.requests.due) reads.0 busy.matches

      with_note : (item : ChainItem) (new : Reading) → change_line (with_read_mark false item) (said new) ≡ record l { requests = new; exchange = Some (with_read_mark false item x) }
      with_note item new = ap (change_exchange (with_read_mark false item) (said new)) exchange

      taken : (item : ChainItem) (p : Part) (new : Reading) (s : Room) → Hands l.requests p new → items_of p ≡ item ∷ [] → OfBody item → s.lines ≡ (read new).lines → s.agenda ≡ a.agenda → s.jobs ≡ [] → s.hub.sent ≡ a.hub.sent → request_map x.place s.hub.contexts ≡ request_map x.place a.hub.contexts
          → new.asked ≡ None → Matches (is_last item) new.due → Known plan n past (take_read_item (client n b) item s)
      taken item p new s handed items_are of lines agenda jobless sent same asked_new matches =
          let t : Room = on_lines (change_line (with_read_mark false item)) n s in
          let y : Exchange = with_read_mark false item x in
          let s_once : IsOnce (is_n n) s.lines = subst (IsOnce (is_n n)) (sym lines) (read_once new) in
          let s_rests : Rests s.lines = subst Rests (sym lines) (read_rests new) in
          let s_there : look n s.lines ≡ Some (said new) = ap (look n) lines ∙ read_there new in
          let t_rests : Rests t.lines = on_rests n (change_line (with_read_mark false item)) s.lines (λ k at is. still_change (with_read_mark false item) (λ z. (refl, refl, refl)) k ∙ is) s_rests in
          let t_there : look n t.lines ≡ Some (record l { requests = new; exchange = Some y })
          = on_same n n (change_line (with_read_mark false item)) s.lines (numbered_change (with_read_mark false item)) s_once (itself n) ∙ (ap (option_map (change_line (with_read_mark false item))) s_there ∙ ap Some (with_note item new)) in
          joins_busy b item t (record l { requests = new; exchange = Some y }) y
          (record {
            once = on_once n n (change_line (with_read_mark false item)) s.lines (numbered_change (with_read_mark false item)) s_once;
            parts = subst AllParts (sym agenda) parts;
            idle = jobless;
            rests = t_rests;
            there = t_there;
            exchange = refl;
            asked = asked_new;
            staid = λ e. let never : ◌≡◌ {A = Bool} true false = sym (busy.staid e) ∙ reads.0 in absurd (cc);
            matches = matches;
            tale = more_tale b item a.lines t.lines x a.hub s.hub of reads.0 reads.1 same sent (λ e. t_rests) (hands_listen n a.lines t.lines l (record l { requests = new; exchange = Some y }) p (item ∷ []) there t_there handed items_are) busy.tale;
          }) refl reads.1

      body_said : (p : Part) (new : Reading) → Hands l.requests p new → new.asked ≡ None → BodyNext None p new.due → Known plan n past (take_part plan (client n b) p (read new))
      body_said (head_part h) new handed asked_new is = absurd is
      body_said (interim_part h) new handed asked_new is = absurd is
      body_said (piece bytes false) new handed asked_new is = taken (items.Piece bytes false) (piece bytes false) new (read new) handed refl tt refl refl idle refl refl asked_new is
      body_said (piece bytes true) new handed asked_new is = taken (items.Piece bytes true) (piece bytes true) new (read new) handed refl tt refl refl idle refl refl asked_new is
      body_said (trailer_part fields) new handed asked_new is =
          let on : exchange_on n (read new) ≡ Some x = on_is n (read new) (Some (said new)) (read_there new) ∙ exchange in
          let change : ℕ → Contexts → Contexts = put_trailers false (with_fields no_headers fields) in
          let s : Room = with_contexts (change x.place (read new).hub.contexts) (read new) in
          subst (λ (o : Option Exchange). Known plan n past (take_read_item (client n b) items.Trailers (in_contexts change o (read new)))) (sym on)
          (taken items.Trailers (trailer_part fields) new s handed refl tt refl refl idle refl (trailers_map (with_fields no_headers fields) x.place x.place a.hub.contexts) asked_new is)

      -- a part
      pub part_said : (p : Part) (new : Reading) → Hands l.requests p new → Known plan n past (take_part plan (client n b) p (read new))
      part_said p new is =
          body_said p new is (ap (λ r. r.asked) is.is ∙ asked)
          (subst (λ d. BodyNext None p d) (sym (ap (λ r. r.due) is.is))
          (body_next l.requests.ended None l.requests.due l.requests.unread p is.used is.due inside (subst (λ q. IsNext l.requests.ended q l.requests.due l.requests.unread (part p is.used is.due)) asked is.next)))

      still_busied : (why : Stop) (new : Reading) → Halts l.requests why new → new.asked ≡ None → InBody new.due → Busied b (read new) (said new) x
      still_busied why new halted asked_new due = record {
        once = read_once new;
        parts = parts;
        idle = idle;
        rests = read_rests new;
        there = read_there new;
        exchange = exchange;
        asked = asked_new;
        staid = busy.staid;
        matches = subst (λ w. Matches w new.due) (sym reads.0) due;
        tale = read_tale busy.tale;
      }
        where
          read_stream : (fields : Headers) (got : List ChainItem) → Stream n (Some (client n b)) [] a.lines x a.hub.contexts fields got → Stream n (Some (client n b)) [] (read new).lines x a.hub.contexts fields got
          read_stream fields got (fresh none is rests map proper) = fresh none is (read_rests new) map proper
          read_stream fields got (going begins proper) = going begins proper
          read_stream fields got (doomed message none is) = doomed message none is

          on_passage : (h : Head) (start : Exchange) (base : List Traffic) (got : List ChainItem) → Passage n past (Some (client n b)) [] a.lines x a.hub h start base got → Passage n past (Some (client n b)) [] (read new).lines x a.hub h start base got
          on_passage h start base got p =
              passage_on n past (Some (client n b)) (Some (client n b)) [] [] a.lines (read new).lines x x a.hub a.hub h start base got (alike_itself n (Some (client n b)) [])
              (halts_listen n a.lines (read new).lines l (said new) why there (read_there new) halted)
              (record { asked = refl; place = refl; entered = refl; framed = refl; over = λ o. o; keeps = keeps_itself n (x, a.hub) }) p

          read_tale : Tale plan n past (Some (client n b)) [] a.lines x a.hub → Tale plan n past (Some (client n b)) [] (read new).lines x a.hub
          read_tale (plainly t) =
              plainly (story_on plan n past (Some (client n b)) (Some (client n b)) [] [] a.lines (read new).lines x x a.hub a.hub t (same_up n x a.hub t.plain) refl (on_passage t.head t.start (up_traffic n t.start_hub.sent) _ t.passage) (read_stream t.head.fields (requests_in t.deeds) t.stream))
          read_tale (filtered o) =
              filtered (record { filters = o.filters; head = o.head; start = o.start; begun = o.begun; some = o.some; base = o.base; before = o.before; got = o.got; passage = on_passage o.head o.start o.base o.got o.passage })

      -- no further part
      pub stop_said : (why : Stop) (new : Reading) → Halts l.requests why new → Known plan n past (end_of_read (client n b) why (read new))
      stop_said why new is =
          by_stop why
        where
          f : Busied b (read new) (said new) x
          f = still_busied why new is (ap (λ r. r.asked) is.is ∙ asked) (subst InBody (sym (ap (λ r. r.due) is.is)) (waits_in l.requests.due l.requests.unread inside))

          on : is_some (exchange_on n (read new)) ≡ true
          on = ap is_some (on_is n (read new) (Some (said new)) (read_there new) ∙ exchange)

          by_stop : (w : Stop) → Known plan n past (end_of_read (client n b) w (read new))
          by_stop rest = ends_busy b (read new) None (said new) x f
          by_stop over =
              subst (λ c. Known plan n past (if c then end_reading (client n b) None (read new) else with_jobs_first (jobs.Close n false ∷ []) (end_reading (client n b) None (read new)))) (sym on)
              (ends_busy b (read new) None (said new) x f)
          by_stop (refusal status) = ends_busy b (read new) (Some status) (said new) x f

    -- where there is none
    module _ (exchange : l.exchange ≡ None) (due : l.requests.due ≡ head) (idle_line : Idle plan n past a.hub) where
      begin_said : (h : Head) (used : ℕ) (new : Reading) → Hands l.requests (head_part h) new → SpellsStep l.requests.unread (found h used) → new.asked ≡ None → new.due ≡ due_after h → Known plan n past (take_read_item (client n []) (head_item h) (begin_exchange_on plan n h (read new)))
      begin_said h used new handed spells asked_new due_new =
          let place : ℕ = free_place a.hub.contexts in
          let route : Option ℕ = route_in plan.routes (path_of h.fields) in
          let x : Exchange = exchange_for plan place a.hub.moment a.dead h route in
          let item : ChainItem = head_item h in
          let y : Exchange = with_read_mark false item x in
          let s : Room = begin_exchange_on plan n h (read new) in
          let s_once : IsOnce (is_n n) s.lines = on_once n n (with_exchange x) (read new).lines (λ k. refl) (read_once new) in
          let s_there : look n s.lines ≡ Some (record l { requests = new; exchange = Some x })
          = on_same n n (with_exchange x) (read new).lines (λ k. refl) (read_once new) (itself n) ∙ ap (option_map (with_exchange x)) (read_there new) in
          let s_rests : Rests s.lines = on_rests n (with_exchange x) (read new).lines (λ k at is. refl) (read_rests new) in
          let t : Room = on_lines (change_line (with_read_mark false item)) n s in
          let t_rests : Rests t.lines = on_rests n (change_line (with_read_mark false item)) s.lines (λ k at is. still_change (with_read_mark false item) (λ z. (refl, refl, refl)) k ∙ is) s_rests in
          let t_there : look n t.lines ≡ Some (record l { requests = new; exchange = Some y })
          = on_same n n (change_line (with_read_mark false item)) s.lines (numbered_change (with_read_mark false item)) s_once (itself n) ∙ ap (option_map (change_line (with_read_mark false item))) s_there in
          joins_busy [] item t (record l { requests = new; exchange = Some y }) y
          (record {
            once = on_once n n (change_line (with_read_mark false item)) s.lines (numbered_change (with_read_mark false item)) s_once;
            parts = parts;
            idle = idle;
            rests = t_rests;
            there = t_there;
            exchange = refl;
            asked = asked_new;
            staid = λ e. absurd (cc);
            matches = subst (λ d. Matches (is_bare (length_in h.length)) d) (sym due_new) (due_matches h);
            tale = new_tale h place a.hub.moment a.dead used l.requests.unread t.lines s.hub spells refl (opened_map n h.fields a.hub.contexts) t_rests idle_line
                (record {
                  now = new;
                  at = ap (option_map (λ (k : Line). k.requests)) t_there;
                  was = record { first = l.requests; asked = asked; due = due; acts = []; does = (new, handed, refl); are = refl };
                });
          }) refl refl

      head_said : (p : Part) (used : ℕ) (new : Reading) → Hands l.requests p new → new.asked ≡ None → HeadNext None l.requests.unread p used new.due → Known plan n past (take_part plan (client n []) p (read new))
      head_said (head_part h) used new handed asked_new is = begin_said h used new handed is.0 asked_new is.1
      head_said (interim_part h) used new handed asked_new is = absurd is
      head_said (piece bytes last) used new handed asked_new is = absurd is
      head_said (trailer_part fields) used new handed asked_new is = absurd is

      pub first_said : (p : Part) (new : Reading) → Hands l.requests p new → Known plan n past (take_part plan (client n []) p (read new))
      first_said p new is =
          head_said p is.used new is (ap (λ r. r.asked) is.is ∙ asked)
          (subst (λ d. HeadNext None l.requests.unread p is.used d) (sym (ap (λ r. r.due) is.is)) (head_next l.requests.ended None l.requests.unread p is.used is.due
          (subst (λ d. IsNext l.requests.ended None d l.requests.unread (part p is.used is.due)) due (subst (λ q. IsNext l.requests.ended q l.requests.due l.requests.unread (part p is.used is.due)) asked is.next))))

      free_known : (s : Room) (m : Line) (more : List Job) → IsOnce (is_n n) s.lines → s.agenda ≡ a.agenda → Tail more → NoClose n more ⊎ HasClose n more → puts_of n more ≡ [] → s.jobs ≡ more → s.reading ≡ None → look n s.lines ≡ Some m → m.exchange ≡ None → m.requests.asked ≡ None
          → m.requests.due ≡ head → s.hub ≡ a.hub → Known plan n past s
      free_known s m more s_once agenda tail closing puts jobs_are quiet_s at none asked_m due_m hub =
          let f : Free plan n past None more m.requests.due s.hub = record { none = append-nil (puts_of n more) ∙ puts; due_or = inl due_m; idle = subst (λ (k : Hub). Idle plan n past k) (sym hub) idle_line } in
          ended_known plan n past s s_once (subst AllParts (sym agenda) parts) (subst Tail (sym jobs_are) tail) quiet_s
          (subst (λ l. LineOk plan n past None l s.lines (look n s.lines) s.hub) (sym jobs_are)
          (subst (λ (o : Option Line). LineOk plan n past None more s.lines o s.hub) (sym at) (asked_m, subst (λ (o : Option Exchange). ExOk plan n past None more s.lines m.requests.due o s.hub) (sym none) f)))

      pub none_said : (why : Stop) (new : Reading) → Halts l.requests why new → Known plan n past (end_of_read (client n []) why (read new))
      none_said why new is = by_stop why
        where
          asked_new : new.asked ≡ None
          asked_new = ap (λ r. r.asked) is.is ∙ asked

          due_new : new.due ≡ head
          due_new = ap (λ r. r.due) is.is ∙ ap (λ d. due_at d l.requests.unread) due

          gone : is_some (exchange_on n (read new)) ≡ false
          gone = ap is_some (on_is n (read new) (Some (said new)) (read_there new) ∙ exchange)

          known : (s : Room) (more : List Job) → s.lines ≡ (read new).lines → s.agenda ≡ a.agenda → Tail more → NoClose n more ⊎ HasClose n more → puts_of n more ≡ [] → s.jobs ≡ more → s.reading ≡ None → s.hub ≡ a.hub → Known plan n past s
          known s more lines agenda tail closing puts jobs_are quiet_s hub =
              free_known s (said new) more (subst (IsOnce (is_n n)) (sym lines) (read_once new)) agenda tail closing puts jobs_are quiet_s (ap (look n) lines ∙ read_there new) exchange asked_new due_new hub

          by_stop : (w : Stop) → Known plan n past (end_of_read (client n []) w (read new))
          by_stop rest = known (end_reading (client n []) None (read new)) [] refl refl tt (inl tt) refl idle refl refl
          by_stop over =
              subst (λ c. Known plan n past (if c then end_reading (client n []) None (read new) else with_jobs_first (jobs.Close n false ∷ []) (end_reading (client n []) None (read new)))) (sym gone)
              (known (with_jobs_first (jobs.Close n false ∷ []) (end_reading (client n []) None (read new))) (jobs.Close n false ∷ []) refl refl refl (inr (inl (itself n))) refl (ap (λ l. jobs.Close n false ∷ l) idle) refl refl)
          by_stop (refusal status) = known (end_reading (client n []) (Some status) (read new)) (jobs.Refuse n status ∷ []) refl refl tt (inl tt) refl (ap (λ l. jobs.Refuse n status ∷ l) idle) refl refl
