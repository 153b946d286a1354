-- A reading that is not of the client of the line of the number.
use Rattle.std.proofs.Common.{◌≡◌, ℕ, ◌==◌, Bool, true, false, not, ◌||◌, ◌&&◌, List, [], ◌∷◌, ◌++◌, refl, ap, ◌∙◌, sym, subst}
use Rattle.std.proofs.lemmas.List.{append-nil}
use Rattle.std.proofs.lemmas.Grind.{flat_map-append}
use Rattle.std.specs.Prelude.{Option, None, Some, is_some, option_map, if◌then◌else◌}
use Rattle.contexts.specs.declared.parts.Contexts.{Contexts}
use Rattle.contexts.specs.Creating.{open_exchange}
use Rattle.filter_host.specs.Heard.{Heard, hands, halts}
use Rattle.exchange.specs.declared.types.Exchange.{Exchange}
use Rattle.exchange.specs.declared.types.Hub.{Hub}
use Rattle.exchange.specs.Heads.{path_of, route_in}
use Rattle.exchange.specs.Leaving.{bytes_sent_to as sending_to}
use Rattle.exchange.specs.Maps.{put_response, with_fields}
use Rattle.exchange.specs.Leaving.{request_framing}
use Rattle.law_exchange.specs.Lives.{IsKin, is_over}
use Rattle.law_exchange.specs.Traffic.{up_traffic}
use Rattle.law_exchange.proofs.Traffic.{adds_none}
use Rattle.filter_chain.specs.declared.item.ChainItem.{ChainItem}
use Rattle.filter_chain.specs.declared.item.ChainItem.TheVariants as items
use Rattle.gate_io.specs.declared.event.Sent.{Sent}
use Rattle.gate_io.specs.declared.event.Side.TheVariants.{Down}
use Rattle.header_maps.specs.Operations.{no_headers}
use Rattle.h1_model.specs.Head.{Head}
use Rattle.h1_model.specs.Messages.{Stop, rest, over, refusal}
use Rattle.h1_model.specs.Unread.{Part, head_part, interim_part, piece, trailer_part, Reading}
use Rattle.worker_model.specs.Room.{Room}
use Rattle.worker_model.specs.declared.types.Job.TheVariants as jobs
use Rattle.worker_model.specs.declared.types.Line.{Line}
use Rattle.worker_model.specs.declared.types.ReadBatch.{ReadBatch}
use Rattle.worker_model.specs.Plan.{Plan}
use Rattle.worker_model.specs.Rooms.{has_move, room_with_sent, with_contexts}
use Rattle.worker_model.specs.Steps.{change_line, change_exchange, on_line, on_lines, exchange_of_line, exchange_on, exchange_for, free_place, with_exchange, begin_exchange_on, read_on, with_reader, with_read_mark, is_last, jobs_of, put_jobs, refuse_jobs, begin_jobs_for, begins_with_head, end_reading, with_item, add_read_item, take_read_item, with_response_head, in_contexts, head_item, interim_of, put_trailers, take_part, end_of_read, after_heard, with_jobs_first}
use Rattle.law_lines.specs.Living.{request_in}
use Rattle.law_lines.proofs.Finding.{IsOnce}
use Rattle.law_lines.proofs.Kept.{Staid, by_bool}
use Rattle.law_lines.proofs.Upward.{Still, still_keeps, keeps_then}
use Rattle.law_lines.proofs.Looks.{is_n, look, IsPlain, lives_join}
use Rattle.law_lines.proofs.Rooms.{AllParts}
use Rattle.law_lines.proofs.Story.{Tail, Rests, LineOk, Known, LivesUp}
use Rattle.law_lines.proofs.OnLines.{Numbered, on_once, on_other, on_same, on_rests, jobs_of_line, line_tail}
use Rattle.law_lines.proofs.Sides.{Notes, note_up, ExNotes, LineNotes, line_aside, NotDown, line_beside, goes_known, ended_known, ahead_on, ahead_end, numbered_change, numbered_read, still_change}

pub lives_then : (n : ℕ) (x y z : Exchange) (hub mid after : Hub) → LivesUp n x hub y mid → LivesUp n y mid z after → LivesUp n x hub z after
lives_then n x y z hub mid after a b = record {
  deeds = a.deeds ++ b.deeds;
  plain = b.plain;
  lives = lives_join false n a.deeds b.deeds x y z hub mid after a.lives b.lives;
  no_request = flat_map-append request_in a.deeds b.deeds ∙ (λ i. a.no_request i ++ b.no_request i);
  over = λ o. b.over (a.over o);
  opened = λ o. b.opened (a.opened o);
}

notes_then : (n : ℕ) (x y z : Exchange) (hub mid after : Hub) → Notes n x hub y mid → Notes n y mid z after → Notes n x hub z after
notes_then n x y z hub mid after a b = record {
  same = b.same ∙ a.same;
  asked = b.asked ∙ a.asked;
  place = b.place ∙ a.place;
  staid = λ s. b.staid (a.staid s);
  filters = b.filters ∙ a.filters;
  entered = b.entered ∙ a.entered;
  framed = b.framed ∙ a.framed;
  over = λ o. b.over (a.over o);
  keeps = keeps_then n (x, hub) (y, mid) (z, after) a.keeps b.keeps;
  plain = λ p. let l : LivesUp n x hub y mid = a.plain p in lives_then n x y z hub mid after l (b.plain l.plain);
}

ex_then : (n : ℕ) (o p q : Option Exchange) (hub mid after : Hub) → ExNotes n o hub p mid → ExNotes n p mid q after → ExNotes n o hub q after
ex_then n None None None hub mid after a b = b ∙ a
ex_then n None None (Some z) hub mid after a b = b
ex_then n None (Some y) q hub mid after a b = absurd a
ex_then n (Some x) None q hub mid after a b = absurd a
ex_then n (Some x) (Some y) None hub mid after a b = b
ex_then n (Some x) (Some y) (Some z) hub mid after a b = notes_then n x y z hub mid after a b

line_then : (n : ℕ) (o p q : Option Line) (hub mid after : Hub) → LineNotes n o hub p mid → LineNotes n p mid q after → LineNotes n o hub q after
line_then n None None None hub mid after a b = b ∙ a
line_then n None None (Some z) hub mid after a b = b
line_then n None (Some y) q hub mid after a b = absurd a
line_then n (Some x) None q hub mid after a b = absurd a
line_then n (Some x) (Some y) None hub mid after a b = b
line_then n (Some x) (Some y) (Some z) hub mid after a b = (b.0 ∙ a.0, ex_then n x.exchange y.exchange z.exchange hub mid after a.1 b.1)

-- from one room to another in which the line's client has said no more
pub record Beyond (n : ℕ) (a b : Room) : Type 0 where
  pub once : IsOnce (is_n n) b.lines
  pub notes : LineNotes n (look n a.lines) a.hub (look n b.lines) b.hub
  pub rests : Rests a.lines → Rests b.lines
  pub agenda : b.agenda ≡ a.agenda
  pub jobs : b.jobs ≡ a.jobs
  pub reading : b.reading ≡ a.reading

pub beyond_then : (n : ℕ) (a b c : Room) → Beyond n a b → Beyond n b c → Beyond n a c
beyond_then n a b c p q = record {
  once = q.once;
  notes = line_then n (look n a.lines) (look n b.lines) (look n c.lines) a.hub b.hub c.hub p.notes q.notes;
  rests = λ o. q.rests (p.rests o);
  agenda = q.agenda ∙ p.agenda;
  jobs = q.jobs ∙ p.jobs;
  reading = q.reading ∙ p.reading;
}

-- what all lines have in common changed, and nothing went up of the line
pub beyond_hub : (n : ℕ) (a b : Room) → IsOnce (is_n n) a.lines → b.lines ≡ a.lines → up_traffic n b.hub.sent ≡ up_traffic n a.hub.sent → b.agenda ≡ a.agenda → b.jobs ≡ a.jobs → b.reading ≡ a.reading → Beyond n a b
beyond_hub n a b once l same g j r = record {
  once = subst (IsOnce (is_n n)) (sym l) once;
  notes = subst (λ (ls : List Line). LineNotes n (look n a.lines) a.hub (look n ls) b.hub) (sym l) (line_aside n (look n a.lines) a.hub b.hub same);
  rests = λ o. subst Rests (sym l) o;
  agenda = g;
  jobs = j;
  reading = r;
}

-- what is done to the exchange of a line
pub record IsNote (n : ℕ) (f : Line → Line) (hub : Hub) (o : Option Exchange) : Type 0 where
  pub change : Exchange → Exchange
  pub is : f ≡ change_line change
  pub notes : (x : Exchange) → o ≡ Some x → Notes n x hub (change x) hub

noted_line : (n : ℕ) (g : Exchange → Exchange) (hub : Hub) (o : Option Line) → ((x : Exchange) → exchange_of_line o ≡ Some x → Notes n x hub (g x) hub) → LineNotes n o hub (option_map (change_line g) o) hub
noted_line n g hub None notes = refl
noted_line n g hub (Some l) notes = by_exchange l.exchange refl
  where
    by_exchange : (o : Option Exchange) → l.exchange ≡ o → ((change_exchange g l o).requests ≡ l.requests) × ExNotes n l.exchange hub (change_exchange g l o).exchange hub
    by_exchange None at = (refl, (line_aside n (Some l) hub hub refl).1)
    by_exchange (Some x) at = (refl, subst (λ (o : Option Exchange). ExNotes n o hub (Some (g x)) hub) (sym at) (notes x at))

pub beyond_line : (n m : ℕ) (f : Line → Line) (a : Room) → IsOnce (is_n n) a.lines → Numbered f → ((l : Line) → has_move l ≡ false → has_move (f l) ≡ false) → ((m == n) ≡ true → IsNote n f a.hub (exchange_of_line (look n a.lines))) → Beyond n a (on_lines f m a)
beyond_line n m f a once numbered still note = record {
  once = on_once n m f a.lines numbered once;
  notes = by_test (m == n) refl;
  rests = on_rests m f a.lines (λ l at is. still l is);
  agenda = refl;
  jobs = refl;
  reading = refl;
}
  where
    by_test : (b : Bool) → (m == n) ≡ b → LineNotes n (look n a.lines) a.hub (look n (on_line f m a.lines)) a.hub
    by_test false is = subst (λ (o : Option Line). LineNotes n (look n a.lines) a.hub o a.hub) (sym (on_other n m f a.lines numbered is)) (line_aside n (look n a.lines) a.hub a.hub refl)
    by_test true is =
        let c : IsNote n f a.hub (exchange_of_line (look n a.lines)) = note is in
        subst (λ (o : Option Line). LineNotes n (look n a.lines) a.hub o a.hub) (sym (on_same n m f a.lines numbered once is ∙ (λ i. option_map (c.is i) (look n a.lines))))
        (noted_line n c.change a.hub (look n a.lines) c.notes)

-- ---- what a reader says

-- a server that is read has a reader
abbrev pub HasReader : ℕ → ReadBatch → Room → Type 0
HasReader n r a = (r.line == n) ≡ true → r.up ≡ true → (x : Exchange) → exchange_of_line (look n a.lines) ≡ Some x → is_some x.reader ≡ true

module _ (plan : Plan) (n : ℕ) (r : ReadBatch) (other : NotDown n r) where
  is_up : (r.line == n) ≡ true → r.up ≡ true
  is_up is = by_up r.up refl
    where
      by_up : (b : Bool) → r.up ≡ b → r.up ≡ true
      by_up true up = up
      by_up false up = absurd (other is up)

  simple : (x y : Exchange) (hub : Hub) → y.asked ≡ x.asked → y.place ≡ x.place → (Staid x → Staid y) → y.filters ≡ x.filters → Still n (x, hub) (y, hub) → (is_over x ≡ true → is_over y ≡ true) → (IsPlain x → IsPlain y × IsKin x y)
      → (is_some x.reader ≡ true → is_some y.reader ≡ true) → Notes n x hub y hub
  simple x y hub asked place staid filters still ends plain reads = record {
    same = refl;
    asked = asked;
    place = place;
    staid = staid;
    filters = filters;
    entered = still.entered;
    framed = still.framed;
    over = ends;
    keeps = still_keeps n (x, hub) (y, hub) still;
    plain = λ p. note_up n x y hub hub (plain p).0 (plain p).1 refl reads;
  }

  as_before : (x y : Exchange) (hub : Hub) → y.asked.minor ≡ x.asked.minor → request_framing y ≡ request_framing x → is_some y.reader ≡ is_some x.reader → y.has_ended ≡ x.has_ended → y.is_answered ≡ x.is_answered → y.request ≡ x.request → y.is_entered ≡ x.is_entered
      → Still n (x, hub) (y, hub)
  as_before x y hub minor framed reader ended answered request entered = record {
    minor = minor;
    framed = framed;
    reader = reader;
    live = λ e. ((λ i. sym ended i || sym answered i) ∙ e, request);
    entered = entered;
    answered = λ a e. request ∙ a (sym answered ∙ e);
    sends = refl;
  }

  reader_beyond : (new : Reading) (a : Room) → IsOnce (is_n n) a.lines → HasReader n r a → Beyond n a (on_lines (read_on r.up new) r.line a)
  reader_beyond new a once has =
      beyond_line n r.line (read_on r.up new) a once (numbered_read r.up new) (λ l is. moved r.up l is)
      (λ is. record {
        change = with_reader new;
        is = (λ i. read_on (is_up is i) new);
        notes = λ x on.
            simple x (with_reader new x) a.hub refl refl (λ s. s) refl (as_before x (with_reader new x) a.hub refl refl (sym (has is (is_up is) x on)) refl refl refl refl) (λ o. o) (λ p. (p, record { unfiltered = p.1; framed = refl; stays_over = λ o. o })) (λ o. refl);
      })
    where
      moved : (up : Bool) (l : Line) → has_move l ≡ false → has_move (read_on up new l) ≡ false
      moved false l is = is
      moved true l is = still_change (with_reader new) (λ x. (refl, refl, refl)) l ∙ is

  item_beyond : (item : ChainItem) (a : Room) → IsOnce (is_n n) a.lines → Beyond n a (on_lines (change_line (with_read_mark r.up item)) r.line a)
  item_beyond item a once =
      beyond_line n r.line (change_line (with_read_mark r.up item)) a once (numbered_change (with_read_mark r.up item)) (λ l is. still_change (with_read_mark r.up item) (λ x. alike r.up x) l ∙ is)
      (λ is. record {
        change = with_read_mark true item;
        is = (λ i. change_line (with_read_mark (is_up is i) item));
        notes = λ x on. simple x (with_read_mark true item x) a.hub refl refl (λ s. s) refl (as_before x (with_read_mark true item x) a.hub refl refl refl refl refl refl refl) (λ o. o) (λ p. (p, record { unfiltered = p.1; framed = refl; stays_over = λ o. o })) (λ o. o);
      })
    where
      alike : (up : Bool) (x : Exchange) → ((with_read_mark up item x).has_ended ≡ x.has_ended) × ((with_read_mark up item x).request ≡ x.request) × ((with_read_mark up item x).response ≡ x.response)
      alike false x = (refl, refl, refl)
      alike true x = (refl, refl, refl)

  told_beyond : (h : Head) (a : Room) → IsOnce (is_n n) a.lines → Beyond n a (on_lines (change_line (with_response_head h)) r.line a)
  told_beyond h a once =
      beyond_line n r.line (change_line (with_response_head h)) a once (numbered_change (with_response_head h)) (λ l is. still_change (with_response_head h) (λ x. (refl, refl, refl)) l ∙ is)
      (λ is. record {
        change = with_response_head h;
        is = refl;
        notes = λ x on. simple x (with_response_head h x) a.hub refl refl (λ s. s) refl (as_before x (with_response_head h x) a.hub refl refl refl refl refl refl refl) (λ o. o) (λ p. (p, record { unfiltered = p.1; framed = refl; stays_over = λ o. o })) (λ o. o);
      })

  contexts_beyond : (change : ℕ → Contexts → Contexts) (o : Option Exchange) (a : Room) → IsOnce (is_n n) a.lines → Beyond n a (in_contexts change o a)
  contexts_beyond change None a once = beyond_hub n a a once refl refl refl refl refl
  contexts_beyond change (Some x) a once = beyond_hub n a _ once refl refl refl refl refl

  -- a new exchange on another line
  begun_beyond : (h : Head) (a : Room) → IsOnce (is_n n) a.lines → r.up ≡ false → Beyond n a (begin_exchange_on plan r.line h a)
  begun_beyond h a once down =
      let x : Exchange = exchange_for plan (free_place a.hub.contexts) a.hub.moment a.dead h (route_in plan.routes (path_of h.fields)) in
      let b : Room = with_contexts (open_exchange r.line h.fields a.hub.contexts) a in
      beyond_then n a b (begin_exchange_on plan r.line h a) (beyond_hub n a b once refl refl refl refl refl)
      (beyond_line n r.line (with_exchange x) b once (λ l. refl) (λ l is. refl) (λ is. absurd (other is down)))

  module _ (past : List Sent) (a : Room) (once : IsOnce (is_n n) a.lines) (parts : AllParts a.agenda) (idle : a.jobs ≡ []) (quiet : a.reading ≡ None) (at_rest : Rests a.lines)
      (ok : LineOk plan n past (Some r) [] a.lines (look n a.lines) a.hub) (has : HasReader n r a) where
    -- the reading goes on
    on_known : (s : Room) (q : ReadBatch) → q.line ≡ r.line → q.up ≡ r.up → Beyond n a s → Known plan n past (record s { reading = Some q })
    on_known s q line up b =
        let others : NotDown n q = (λ is down. other (ap (λ (k : ℕ). k == n) (sym line) ∙ is) (sym up ∙ down)) in
        goes_known plan n past q s b.once (subst AllParts (sym b.agenda) parts) (b.rests at_rest) (b.jobs ∙ idle)
        (line_beside plan n past r other (Some q) [] (ahead_on n q others) a.lines s.lines (look n a.lines) (look n s.lines) a.hub s.hub refl refl b.notes ok)

    -- it ends
    ends_known : (s : Room) (q : ReadBatch) (status : Option ℕ) → q.line ≡ r.line → q.up ≡ r.up → Beyond n a s → Known plan n past (end_reading q status s)
    ends_known s q status line up b =
        let others : NotDown n q = (λ is down. other (ap (λ (k : ℕ). k == n) (sym line) ∙ is) (sym up ∙ down)) in
        let js : jobs_of q status s ++ s.jobs ≡ jobs_of q status s ++ [] = ap (λ l. jobs_of q status s ++ l) (b.jobs ∙ idle) in
        ended_known plan n past (end_reading q status s) b.once (subst AllParts (sym b.agenda) parts)
        (subst Tail (sym (js ∙ append-nil (jobs_of q status s))) (line_tail q.line (jobs_of q status s) (jobs_of_line q status s))) refl
        (subst (λ l. LineOk plan n past None l s.lines (look n s.lines) s.hub) (sym js)
        (line_beside plan n past r other None (jobs_of q status s ++ []) (ahead_end n q status s others) a.lines s.lines (look n a.lines) (look n s.lines) a.hub s.hub refl refl b.notes ok))

    joins_known : (item : ChainItem) (s : Room) → Beyond n a s → Known plan n past (add_read_item r item s)
    joins_known item s b =
        by_bool (Known plan n past) (is_last item) (end_reading (with_item item r) None s) (record s { reading = Some (with_item item r) }) (λ e. ends_known s (with_item item r) None refl refl b)
        (λ e. on_known s (with_item item r) refl refl b)

    takes_known : (item : ChainItem) (s : Room) → Beyond n a s → Known plan n past (take_read_item r item s)
    takes_known item s b = joins_known item (on_lines (change_line (with_read_mark r.up item)) r.line s) (beyond_then n a s _ b (item_beyond item s b.once))

    hands_known : (p : Part) (s : Room) → Beyond n a s → Known plan n past (take_part plan r p s)
    hands_known (head_part h) s b = by_up r.up refl
      where
        mid : Room
        mid = in_contexts (put_response h.fields) (exchange_on r.line s) s

        to_mid : Beyond n a mid
        to_mid = beyond_then n a s mid b (contexts_beyond (put_response h.fields) (exchange_on r.line s) s b.once)

        by_up : (u : Bool) → r.up ≡ u → Known plan n past
            (if u then take_read_item r (head_item h) (on_lines (change_line (with_response_head h)) r.line mid) else take_read_item r (head_item h) (begin_exchange_on plan r.line h s))
        by_up true up = takes_known (head_item h) _ (beyond_then n a mid _ to_mid (told_beyond h mid to_mid.once))
        by_up false up = takes_known (head_item h) _ (beyond_then n a s _ b (begun_beyond h s b.once up))
    hands_known (interim_part h) s b =
        let mid : Room = room_with_sent (sending_to r.line Down (interim_of (exchange_on r.line s) h)) s in
        on_known mid r refl refl (beyond_then n a s mid b (beyond_hub n s mid b.once refl (adds_none n s.hub.sent _ (down_none r.line (interim_of (exchange_on r.line s) h))) refl refl refl))
      where
        down_none : (m : ℕ) (bytes : List ℕ) → up_traffic n (sending_to m Down bytes) ≡ []
        down_none m [] = refl
        down_none m (x ∷ bytes) = refl
    hands_known (piece bytes last) s b = takes_known (items.Piece bytes last) s b
    hands_known (trailer_part fields) s b =
        takes_known items.Trailers _ (beyond_then n a s _ b (contexts_beyond (put_trailers r.up (with_fields no_headers fields)) (exchange_on r.line s) s b.once))

    -- a line is closed where its text is over, and nothing was read of it
    closes_known : (s : Room) → (r.up || is_some (exchange_on r.line s) ≡ false → r.batch ≡ []) → Beyond n a s → Known plan n past (end_of_read r over s)
    closes_known s nothing b =
        by_bool (Known plan n past) (r.up || is_some (exchange_on r.line s)) (end_reading r None s) (with_jobs_first (jobs.Close r.line false ∷ []) (end_reading r None s)) (λ e. ends_known s r None refl refl b)
        (λ e.
        let none : jobs_of r None s ++ s.jobs ≡ [] = (λ i. no_jobs (nothing e) i ++ (b.jobs ∙ idle) i) in
        ended_known plan n past (with_jobs_first (jobs.Close r.line false ∷ []) (end_reading r None s)) b.once (subst AllParts (sym b.agenda) parts) none refl
        (subst (λ l. LineOk plan n past None (jobs.Close r.line false ∷ l) s.lines (look n s.lines) s.hub) (sym none)
        (line_beside plan n past r other None (jobs.Close r.line false ∷ []) (record { batch = refl; puts = refl; none = tt; unclosed = (apart (first_false r.up _ e), tt); reads = λ x. tt }) a.lines s.lines
        (look n a.lines) (look n s.lines) a.hub s.hub refl refl b.notes ok)))
      where
        first_false : (u v : Bool) → (u || v) ≡ false → u ≡ false
        first_false true v is = absurd (cc)
        first_false false v is = refl

        apart : r.up ≡ false → (r.line == n) ≡ false
        apart down = by_test (r.line == n) refl
          where
            by_test : (c : Bool) → (r.line == n) ≡ c → (r.line == n) ≡ false
            by_test true is = absurd (other is down)
            by_test false is = is

        no_jobs : r.batch ≡ [] → jobs_of r None s ≡ []
        no_jobs none =
            ap (λ (l : List ChainItem). if begins_with_head l && not r.up then begin_jobs_for r None (exchange_on r.line s) else put_jobs r.line r.up l ++ refuse_jobs r.line None) none

    stops_known : (why : Stop) (s : Room) → (r.up || is_some (exchange_on r.line s) ≡ false → r.batch ≡ []) → Beyond n a s → Known plan n past (end_of_read r why s)
    stops_known rest s nothing b = ends_known s r None refl refl b
    stops_known over s nothing b = closes_known s nothing b
    stops_known (refusal status) s nothing b = ends_known s r (Some status) refl refl b

    pub heard_beyond : (h : Heard) → ((new : Reading) → (r.up || is_some (exchange_on r.line (on_lines (read_on r.up new) r.line a)) ≡ false) → r.batch ≡ []) → Known plan n past (after_heard plan r h a)
    heard_beyond (hands p new) nothing = hands_known p _ (reader_beyond new a once has)
    heard_beyond (halts why new) nothing = stops_known why _ (nothing new) (reader_beyond new a once has)
