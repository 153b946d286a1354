-- What is known of a room while a side of a line is read that is not the client's of the line of the number.
use Rattle.std.proofs.Common.{◌≡◌, ◌⊎◌, inl, inr, ℕ, ◌==◌, Bool, true, false, not, ◌||◌, ◌&&◌, List, [], ◌∷◌, ◌++◌, refl, ap, ◌∙◌, sym, subst}
use Rattle.std.proofs.lemmas.List.{append-nil}
use Rattle.filter_chain.specs.Chains.{ready}
use Rattle.std.specs.Prelude.{Option, None, Some, is_some, nat_lt, if◌then◌else◌}
use Rattle.contexts.specs.declared.parts.Contexts.{Contexts}
use Rattle.exchange.specs.declared.types.Exchange.{Exchange}
use Rattle.exchange.specs.declared.types.Hub.{Hub}
use Rattle.exchange.specs.Leaving.{request_framing}
use Rattle.law_exchange.specs.Lives.{turns, IsKin, is_over}
use Rattle.law_exchange.specs.Traffic.{up_traffic}
use Rattle.law_exchange.proofs.Traffic.{ups_join}
use Rattle.filter_chain.specs.declared.item.ChainItem.{ChainItem}
use Rattle.gate_io.specs.declared.event.Sent.{Sent}
use Rattle.header_maps.specs.Headers.{Headers}
use Rattle.h1_model.specs.Messages.{Due, head}
use Rattle.h1_model.specs.Unread.{Reading}
use Rattle.worker_model.specs.Room.{Room}
use Rattle.worker_model.specs.declared.types.Job.{Job}
use Rattle.worker_model.specs.declared.types.Line.{Line}
use Rattle.worker_model.specs.declared.types.ReadBatch.{ReadBatch}
use Rattle.worker_model.specs.Plan.{Plan}
use Rattle.worker_model.specs.Rooms.{has_move}
use Rattle.worker_model.specs.Steps.{change_line, change_exchange, exchange_on, read_on, with_reader, jobs_of, put_jobs, refuse_jobs, begin_jobs_for, begins_with_head}
use Rattle.law_lines.specs.Requests.{OneByOne}
use Rattle.law_lines.proofs.Finding.{IsOnce}
use Rattle.law_lines.proofs.Kept.{Staid}
use Rattle.law_lines.proofs.Looks.{is_n, look, IsPlain}
use Rattle.law_lines.proofs.Rooms.{AllParts}
use Rattle.law_lines.proofs.Story.{puts_of, HasClose, NoClose, NoEnter, Alike, Becomes, passage_on, Tail, Stands, Rests, Phase, Matches, batch_of, pending, Proper, Stream, fresh, going, doomed, Tale, plainly, filtered, Idle, ExOk, LineOk, Known, LivesUp, story_on, ReadsOk}
use Rattle.law_lines.proofs.Calmed.{other_on, none_once, tail_stands, tail_phase}
use Rattle.law_lines.proofs.Hearing.{Listens, same_listens}
use Rattle.law_lines.proofs.OnLines.{Numbered, jobs_of_line, line_unclosed, line_unentered, line_puts}
use Rattle.law_lines.proofs.Upward.{Keeps, still_keeps, aside_still}

-- ---- what is noted of the exchange of the line

pub record Notes (n : ℕ) (x : Exchange) (hub : Hub) (y : Exchange) (after : Hub) : Type 0 where
  pub same : up_traffic n after.sent ≡ up_traffic n hub.sent
  pub asked : y.asked ≡ x.asked
  pub place : y.place ≡ x.place
  pub staid : Staid x → Staid y
  pub filters : y.filters ≡ x.filters
  pub entered : y.is_entered ≡ x.is_entered
  pub framed : request_framing y ≡ request_framing x
  pub over : is_over x ≡ true → is_over y ≡ true
  pub keeps : Keeps n (x, hub) (y, after)
  pub plain : IsPlain x → LivesUp n x hub y after

pub notes_become : (n : ℕ) (x y : Exchange) (hub after : Hub) → Notes n x hub y after → Becomes n x hub y after
notes_become n x y hub after q = record { asked = q.asked; place = q.place; entered = q.entered; framed = q.framed; over = q.over; keeps = q.keeps }

pub note_up : (n : ℕ) (x y : Exchange) (hub after : Hub) → IsPlain y → IsKin x y → up_traffic n after.sent ≡ up_traffic n hub.sent → (is_some x.reader ≡ true → is_some y.reader ≡ true) → LivesUp n x hub y after
note_up n x y hub after p kin same opened = record {
  deeds = turns y after ∷ [];
  plain = p;
  lives = (((kin, same), (λ e. absurd (cc))), (refl, refl));
  no_request = refl;
  over = kin.stays_over;
  opened = opened;
}

pub notes_itself : (n : ℕ) (x : Exchange) (hub after : Hub) → up_traffic n after.sent ≡ up_traffic n hub.sent → Notes n x hub x after
notes_itself n x hub after same = record {
  same = same;
  asked = refl;
  place = refl;
  staid = λ s. s;
  filters = refl;
  entered = refl;
  framed = refl;
  over = λ o. o;
  keeps = still_keeps n (x, hub) (x, after) (aside_still n x hub after same);
  plain = λ p. note_up n x x hub after p (record { unfiltered = p.1; framed = refl; stays_over = λ o. o }) same (λ o. o);
}

-- the line before and behind; its client's text is as before
abbrev pub ExNotes : ℕ → Option Exchange → Hub → Option Exchange → Hub → Type 0
ExNotes n None hub None after = up_traffic n after.sent ≡ up_traffic n hub.sent
ExNotes n None hub (Some y) after = ⊥
ExNotes n (Some x) hub None after = ⊥
ExNotes n (Some x) hub (Some y) after = Notes n x hub y after

abbrev pub LineNotes : ℕ → Option Line → Hub → Option Line → Hub → Type 0
LineNotes n None hub None after = up_traffic n after.sent ≡ up_traffic n hub.sent
LineNotes n None hub (Some m) after = ⊥
LineNotes n (Some l) hub None after = ⊥
LineNotes n (Some l) hub (Some m) after = (m.requests ≡ l.requests) × ExNotes n l.exchange hub m.exchange after

exchange_aside : (n : ℕ) (o : Option Exchange) (hub after : Hub) → up_traffic n after.sent ≡ up_traffic n hub.sent → ExNotes n o hub o after
exchange_aside n None hub after same = same
exchange_aside n (Some x) hub after same = notes_itself n x hub after same

pub line_aside : (n : ℕ) (o : Option Line) (hub after : Hub) → up_traffic n after.sent ≡ up_traffic n hub.sent → LineNotes n o hub o after
line_aside n None hub after same = same
line_aside n (Some l) hub after same = (refl, exchange_aside n l.exchange hub after same)

pub idle_same : (plan : Plan) (n : ℕ) (past : List Sent) (hub after : Hub) → up_traffic n after.sent ≡ up_traffic n hub.sent → Idle plan n past hub → Idle plan n past after
idle_same plan n past hub after same idle =
    subst (OneByOne plan) (ups_join n past hub.sent ∙ (ap (λ t. up_traffic n past ++ t) (sym same) ∙ sym (ups_join n past after.sent))) idle

-- what is read is not of the line's client
abbrev pub NotDown : ℕ → ReadBatch → Type 0
NotDown n r = (r.line == n) ≡ true → r.up ≡ false → ⊥

pub no_batch : (n : ℕ) (r : ReadBatch) → NotDown n r → batch_of n (Some r) ≡ []
no_batch n r other = by_test (r.line == n) r.up refl refl
  where
    by_test : (a b : Bool) → (r.line == n) ≡ a → r.up ≡ b → (if (r.line == n) && not r.up then r.batch else []) ≡ []
    by_test true false is up = absurd (other is up)
    by_test true true is up = λ i. if (is i) && not (up i) then r.batch else []
    by_test false b is up = λ i. if (is i) && not r.up then r.batch else []

-- how a reading goes on: it is of the same side; or what is in hand puts nothing into the line's chain and closes no line
pub record Ahead (n : ℕ) (now : Option ReadBatch) (ks : List Job) : Type 0 where
  pub batch : batch_of n now ≡ []
  pub puts : puts_of n ks ≡ []
  pub unclosed : NoClose n ks
  pub none : NoEnter n ks
  pub reads : (x : Exchange) → ReadsOk n now x

module _ (plan : Plan) (n : ℕ) (past : List Sent) (r : ReadBatch) (other : NotDown n r) (now : Option ReadBatch) (ks : List Job) (a : Ahead n now ks) where
  ahead_none : pending n now ks ≡ []
  ahead_none = (λ i. a.puts i ++ a.batch i)

  behind_none : pending n (Some r) [] ≡ []
  behind_none = no_batch n r other

  ahead_alike : Alike n (Some r) [] now ks
  ahead_alike = record {
    pend = ahead_none ∙ sym behind_none;
    refusing = λ e. absurd e;
    none = λ e. a.none;
    once = λ e. none_once n ks a.none;
    first = λ e. let never : ◌≡◌ {A = Bool} false true = ap begins_with_head (sym a.batch) ∙ e in absurd (cc);
  }

  stream_beside : (lines later : List Line) (x y : Exchange) (c d : Contexts) (fields : Headers) (got : List ChainItem) → y.asked ≡ x.asked → (is_over x ≡ true → is_over y ≡ true)
      → Stream n (Some r) [] lines x c fields got → Stream n now ks later y d fields got
  stream_beside lines later x y c d fields got same is_same (fresh none is rests map proper) = absurd (other is.0 is.1)
  stream_beside lines later x y c d fields got same is_same (going begins proper) =
      going begins (subst (λ (l : List ChainItem). Proper (got ++ l) y.asked.whole) (behind_none ∙ sym ahead_none) (subst (λ b. Proper (got ++ pending n (Some r) []) b) (sym (ap (λ q. q.whole) same)) proper))
  stream_beside lines later x y c d fields got same is_same (doomed message none (inl is)) = doomed message ahead_none (inl (is_same is))
  stream_beside lines later x y c d fields got same is_same (doomed message none (inr is)) = absurd is

  tale_beside : (lines later : List Line) (x y : Exchange) (hub after : Hub) → Listens n lines later → Notes n x hub y after → Tale plan n past (Some r) [] lines x hub → Tale plan n past now ks later y after
  tale_beside lines later x y hub after listens q (plainly t) =
      let l : LivesUp n x hub y after = q.plain t.plain in
      plainly (story_on plan n past (Some r) now [] ks lines later x y hub after t l (ap (λ q. q.minor) q.asked)
      (passage_on n past (Some r) now [] ks lines later x y hub after t.head t.start (up_traffic n t.start_hub.sent) _ ahead_alike listens (notes_become n x y hub after q) t.passage)
      (stream_beside lines later x y hub.contexts after.contexts t.head.fields _ q.asked l.over t.stream))
  tale_beside lines later x y hub after listens q (filtered o) = filtered (other_on plan n past (Some r) now [] ks lines later x y hub after (λ e. sym q.filters ∙ e) ahead_alike listens (notes_become n x y hub after q) o)

  exchange_beside : (lines later : List Line) (due : Due) (o p : Option Exchange) (hub after : Hub) → Listens n lines later → ExNotes n o hub p after → ExOk plan n past (Some r) [] lines due o hub → ExOk plan n past now ks later due p after
  exchange_beside lines later due None None hub after listens q ok = record { none = ahead_none; due_or = by_due ok.due_or; idle = idle_same plan n past hub after q ok.idle }
    where
      by_due : (due ≡ head) ⊎ HasClose n [] → (due ≡ head) ⊎ HasClose n ks
      by_due (inl e) = inl e
      by_due (inr e) = absurd e
  exchange_beside lines later due None (Some y) hub after listens q ok = absurd q
  exchange_beside lines later due (Some x) None hub after listens q ok = absurd q
  exchange_beside lines later due (Some x) (Some y) hub after listens q ok = record {
    staid = q.staid ok.staid;
    matches = subst (λ w. Matches w due) (sym (ap (λ q. q.whole) q.asked)) ok.matches;
    unclosed = a.unclosed;
    reads = a.reads y;
    tale = tale_beside lines later x y hub after listens q ok.tale;
  }

  pub line_beside : (lines later : List Line) (o p : Option Line) (hub after : Hub) → look n lines ≡ o → look n later ≡ p → LineNotes n o hub p after → LineOk plan n past (Some r) [] lines o hub → LineOk plan n past now ks later p after
  line_beside lines later None None hub after at to q ok = (ahead_none, idle_same plan n past hub after q ok.1)
  line_beside lines later None (Some m) hub after at to q ok = absurd q
  line_beside lines later (Some l) None hub after at to q ok = absurd q
  line_beside lines later (Some l) (Some m) hub after at to q ok = (
    ap (λ t. t.asked) q.0 ∙ ok.0,
    subst (λ d. ExOk plan n past now ks later d m.exchange after) (sym (ap (λ t. t.due) q.0)) (exchange_beside lines later l.requests.due l.exchange m.exchange hub after (same_listens n lines later l m at to q.0) q.1 ok.1),
  )

-- ---- the reading goes on, or ends

-- a room in which nothing is in hand, and the side is read on
pub goes_known : (plan : Plan) (n : ℕ) (past : List Sent) (r : ReadBatch) (s : Room) → IsOnce (is_n n) s.lines → AllParts s.agenda → Rests s.lines → s.jobs ≡ []
    → LineOk plan n past (Some r) [] s.lines (look n s.lines) s.hub → Known plan n past (record s { reading = Some r })
goes_known plan n past r s once parts rests idle ok = record {
  once = once;
  parts = parts;
  stands = subst Stands (sym idle) tt;
  alone = λ q is. (idle, rests);
  phase = subst (Phase s.lines) (sym idle) tt;
  line = subst (λ js. LineOk plan n past (Some r) js s.lines (look n s.lines) s.hub) (sym idle) ok;
}

-- or it ended
pub ended_known : (plan : Plan) (n : ℕ) (past : List Sent) (later : Room) → IsOnce (is_n n) later.lines → AllParts later.agenda → Tail later.jobs → later.reading ≡ None
    → LineOk plan n past None later.jobs later.lines (look n later.lines) later.hub → Known plan n past later
ended_known plan n past later once parts tail quiet ok = record {
  once = once;
  parts = parts;
  stands = tail_stands later.jobs tail;
  alone = λ r is. absurd (cc);
  phase = tail_phase later.lines later.jobs tail;
  line = subst (λ (q : Option ReadBatch). LineOk plan n past q later.jobs later.lines (look n later.lines) later.hub) (sym quiet) ok;
}

-- ---- jobs of a reading that is not of the line's client

and_none : (b : Bool) → (b && false) ≡ false
and_none true = refl
and_none false = refl

refuses_none : (n m : ℕ) (status : Option ℕ) → puts_of n (refuse_jobs m status) ≡ []
refuses_none n m None = refl
refuses_none n m (Some status) = refl

up_none : (n m : ℕ) (batch : List ChainItem) (status : Option ℕ) → puts_of n (put_jobs m true batch ++ refuse_jobs m status) ≡ []
up_none n m [] status = refuses_none n m status
up_none n m (i ∷ batch) status = refuses_none n m status

up_puts : (n : ℕ) (r : ReadBatch) (status : Option ℕ) (s : Room) → r.up ≡ true → puts_of n (jobs_of r status s) ≡ []
up_puts n r status s up =
    ap (λ u. puts_of n (if begins_with_head r.batch && not u then begin_jobs_for r status (exchange_on r.line s) else put_jobs r.line u r.batch ++ refuse_jobs r.line status)) up
    ∙ (ap (λ b. puts_of n (if b then begin_jobs_for r status (exchange_on r.line s) else put_jobs r.line true r.batch ++ refuse_jobs r.line status)) (and_none (begins_with_head r.batch))
    ∙ up_none n r.line r.batch status)

pub beside_puts : (n : ℕ) (r : ReadBatch) (status : Option ℕ) (s : Room) → NotDown n r → puts_of n (jobs_of r status s) ≡ []
beside_puts n r status s other = by_test (r.line == n) r.up refl refl
  where
    by_test : (a b : Bool) → (r.line == n) ≡ a → r.up ≡ b → puts_of n (jobs_of r status s) ≡ []
    by_test true false is up = absurd (other is up)
    by_test true true is up = up_puts n r status s up
    by_test false b is up = line_puts n r.line (jobs_of r status s) is (jobs_of_line r status s)

refuses_unentered : (n m : ℕ) (status : Option ℕ) → NoEnter n (refuse_jobs m status)
refuses_unentered n m None = tt
refuses_unentered n m (Some status) = tt

pub puts_unentered : (n m : ℕ) (response : Bool) (batch : List ChainItem) (status : Option ℕ) → NoEnter n (put_jobs m response batch ++ refuse_jobs m status)
puts_unentered n m response [] status = refuses_unentered n m status
puts_unentered n m response (i ∷ batch) status = refuses_unentered n m status

up_unentered : (n : ℕ) (r : ReadBatch) (status : Option ℕ) (s : Room) → r.up ≡ true → NoEnter n (jobs_of r status s)
up_unentered n r status s up =
    subst (NoEnter n)
    (sym (ap (λ u. if begins_with_head r.batch && not u then begin_jobs_for r status (exchange_on r.line s) else put_jobs r.line u r.batch ++ refuse_jobs r.line status) up
    ∙ ap (λ b. if b then begin_jobs_for r status (exchange_on r.line s) else put_jobs r.line true r.batch ++ refuse_jobs r.line status) (and_none (begins_with_head r.batch))))
    (puts_unentered n r.line true r.batch status)

beside_none : (n : ℕ) (r : ReadBatch) (status : Option ℕ) (s : Room) → NotDown n r → NoEnter n (jobs_of r status s)
beside_none n r status s other = by_test (r.line == n) r.up refl refl
  where
    by_test : (a b : Bool) → (r.line == n) ≡ a → r.up ≡ b → NoEnter n (jobs_of r status s)
    by_test true false is up = absurd (other is up)
    by_test true true is up = up_unentered n r status s up
    by_test false b is up = line_unentered n r.line (jobs_of r status s) is (jobs_of_line r status s)

pub ahead_on : (n : ℕ) (r : ReadBatch) → NotDown n r → Ahead n (Some r) []
ahead_on n r other = record { batch = no_batch n r other; puts = refl; unclosed = tt; none = tt; reads = λ x is up. absurd (other is up) }

pub ahead_end : (n : ℕ) (r : ReadBatch) (status : Option ℕ) (s : Room) → NotDown n r → Ahead n None (jobs_of r status s ++ [])
ahead_end n r status s other = record {
  batch = refl;
  puts = ap (puts_of n) (append-nil (jobs_of r status s)) ∙ beside_puts n r status s other;
  unclosed = subst (NoClose n) (sym (append-nil (jobs_of r status s))) (line_unclosed n r.line (jobs_of r status s) (jobs_of_line r status s));
  none = subst (NoEnter n) (sym (append-nil (jobs_of r status s))) (beside_none n r status s other);
  reads = λ x. tt;
}

-- ---- what is noted

pub numbered_change : (g : Exchange → Exchange) → Numbered (change_line g)
numbered_change g l = by_exchange l.exchange
  where
    by_exchange : (o : Option Exchange) → (change_exchange g l o).number ≡ l.number
    by_exchange None = refl
    by_exchange (Some x) = refl

pub numbered_read : (up : Bool) (reading : Reading) → Numbered (read_on up reading)
numbered_read false reading l = refl
numbered_read true reading l = numbered_change (with_reader reading) l

-- none of this makes a chain move
pub still_change : (g : Exchange → Exchange) → ((x : Exchange) → ((g x).has_ended ≡ x.has_ended) × ((g x).request ≡ x.request) × ((g x).response ≡ x.response)) → (l : Line) → has_move (change_line g l) ≡ has_move l
still_change g same l = by_exchange l.exchange refl
  where
    by_exchange : (o : Option Exchange) → l.exchange ≡ o → has_move (change_exchange g l o) ≡ has_move l
    by_exchange None at = refl
    by_exchange (Some x) at = (λ i. one (same x) i) ∙ ap (λ (o : Option Exchange). has_move (record l { exchange = o })) (sym at)
      where
        one : ((g x).has_ended ≡ x.has_ended) × ((g x).request ≡ x.request) × ((g x).response ≡ x.response) → has_move (record l { exchange = Some (g x) }) ≡ has_move (record l { exchange = Some x })
        one e = λ i. not (e.0 i) && (nat_lt 0 (ready (e.1 i)) || nat_lt 0 (ready (e.2 i)))
