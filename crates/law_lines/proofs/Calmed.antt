-- What is known of a room stays so where nothing is read, and nothing of the line is put in hand.
use Rattle.std.proofs.Common.{◌≡◌, ◌⊎◌, inl, inr, ℕ, true, List, [], ◌∷◌, ◌++◌, map, refl, ap, ◌∙◌, sym, subst}
use Rattle.std.specs.Prelude.{Option, None, Some}
use Rattle.exchange.specs.declared.types.Exchange.{Exchange}
use Rattle.exchange.specs.declared.types.Hub.{Hub}
use Rattle.exchange.specs.Maps.{request_map}
use Rattle.law_exchange.specs.Lives.{is_over}
use Rattle.law_exchange.specs.Traffic.{up_traffic}
use Rattle.law_exchange.proofs.Traffic.{ups_join}
use Rattle.filter_chain.specs.declared.item.ChainItem.{ChainItem}
use Rattle.gate_io.specs.declared.event.Sent.{Sent}
use Rattle.header_maps.specs.Headers.{Headers}
use Rattle.h1_model.specs.Messages.{Due, head}
use Rattle.worker_model.specs.Room.{Room}
use Rattle.worker_model.specs.declared.types.Job.{Job}
use Rattle.worker_model.specs.declared.types.Job.TheVariants as jobs
use Rattle.worker_model.specs.declared.types.Line.{Line}
use Rattle.worker_model.specs.declared.types.ReadBatch.{ReadBatch}
use Rattle.worker_model.specs.Plan.{Plan}
use Rattle.law_lines.specs.Requests.{OneByOne}
use Rattle.law_lines.proofs.Looks.{look, Beside, IsPlain, LivesOn, Quietly, Exs, Looks}
use Rattle.law_lines.proofs.Rooms.{IsFree, AllFree, AllParts, Calm}
use Rattle.law_lines.proofs.Story.{put_of, puts_of, HasClose, NoClose, Tail, Stands, Rests, Phase, IsFreshJobs, IsRefusing, NoEnter, OneEnter, pending, Alike, Becomes, passage_on, Proper, Matches, Stream, fresh, going, doomed, Other, Tale, plainly, filtered, Idle, Busy, Free, ExOk, LineOk, Known, lives_up, story_on}
use Rattle.law_lines.proofs.Hearing.{Listens, same_listens}
use Rattle.law_lines.proofs.Kept.{over_told}

-- ---- jobs in front

free_put : (n : ℕ) (job : Job) → IsFree job → put_of n job ≡ []
free_put n (jobs.Put m response items) is = absurd is
free_put n job is = refl

pub free_puts : (n : ℕ) (front later : List Job) → AllFree front → puts_of n (front ++ later) ≡ puts_of n later
free_puts n [] later free = refl
free_puts n (job ∷ front) later free = λ i. free_put n job free.0 i ++ free_puts n front later free.1 i

one_has : (n : ℕ) (job : Job) (later : List Job) → IsFree job → HasClose n later → HasClose n (job ∷ later)
one_has n (jobs.Close m stays) later is has = absurd is
one_has n job later is has = has

pub free_has : (n : ℕ) (front later : List Job) → AllFree front → HasClose n later → HasClose n (front ++ later)
free_has n [] later free has = has
free_has n (job ∷ front) later free has = one_has n job (front ++ later) free.0 (free_has n front later free.1 has)

one_no : (n : ℕ) (job : Job) (later : List Job) → IsFree job → NoClose n later → NoClose n (job ∷ later)
one_no n (jobs.Close m stays) later is open_so = absurd is
one_no n job later is open_so = open_so

pub free_no : (n : ℕ) (front later : List Job) → AllFree front → NoClose n later → NoClose n (front ++ later)
free_no n [] later free open_so = open_so
free_no n (job ∷ front) later free open_so = one_no n job (front ++ later) free.0 (free_no n front later free.1 open_so)

one_tail : (job : Job) (later : List Job) → IsFree job → Tail later → Tail (job ∷ later)
one_tail (jobs.Happen w) later is tail = absurd is
one_tail (jobs.Close m stays) later is tail = absurd is
one_tail job later is tail = tail

pub free_tail : (front later : List Job) → AllFree front → Tail later → Tail (front ++ later)
free_tail [] later free tail = tail
free_tail (job ∷ front) later free tail = one_tail job (front ++ later) free.0 (free_tail front later free.1 tail)

one_refusing : (n : ℕ) (job : Job) (later : List Job) → IsRefusing n later → IsRefusing n (job ∷ later)
one_refusing n (jobs.Refuse m status) later is = inr is
one_refusing n job later is = is

pub free_refusing : (n : ℕ) (front later : List Job) → IsRefusing n later → IsRefusing n (front ++ later)
free_refusing n [] later is = is
free_refusing n (job ∷ front) later is = one_refusing n job (front ++ later) (free_refusing n front later is)

one_none : (n : ℕ) (job : Job) (later : List Job) → IsFree job → NoEnter n later → NoEnter n (job ∷ later)
one_none n (jobs.Enter m) later is none = absurd is
one_none n job later is none = none

pub free_none : (n : ℕ) (front later : List Job) → AllFree front → NoEnter n later → NoEnter n (front ++ later)
free_none n [] later free none = none
free_none n (job ∷ front) later free none = one_none n job (front ++ later) free.0 (free_none n front later free.1 none)

one_once : (n : ℕ) (job : Job) (later : List Job) → IsFree job → OneEnter n later → OneEnter n (job ∷ later)
one_once n (jobs.Enter m) later is once = absurd is
one_once n job later is once = once

pub free_once : (n : ℕ) (front later : List Job) → AllFree front → OneEnter n later → OneEnter n (front ++ later)
free_once n [] later free once = once
free_once n (job ∷ front) later free once = one_once n job (front ++ later) free.0 (free_once n front later free.1 once)

pub none_once : (n : ℕ) (js : List Job) → NoEnter n js → OneEnter n js
none_once n [] none = tt
none_once n (jobs.Enter m ∷ later) none = ((λ e. none.1), none_once n later none.1)
none_once n (job ∷ later) none = none_once n later none

pub tail_stands : (js : List Job) → Tail js → Stands js
tail_stands [] tail = tt
tail_stands (jobs.Happen w ∷ later) tail = absurd tail
tail_stands (job ∷ later) tail = tail

pub tail_phase : (lines : List Line) (js : List Job) → Tail js → Phase lines js
tail_phase lines [] tail = tt
tail_phase lines (jobs.Happen w ∷ later) tail = absurd tail
tail_phase lines (job ∷ later) tail = tt

later_tail : (job : Job) (later : List Job) → Tail (job ∷ later) → Tail later
later_tail (jobs.Happen w) later tail = absurd tail
later_tail (jobs.Close m stays) later tail = subst Tail (sym tail) tt
later_tail job later tail = tail

-- after what is in hand
pub stands_pop : (job : Job) (later : List Job) → Stands (job ∷ later) → Tail later
stands_pop (jobs.Happen w) later stands = subst Tail (sym stands) tt
stands_pop (jobs.Close m stays) later stands = subst Tail (sym stands) tt
stands_pop job later stands = later_tail job later stands

-- ---- what became of what is in hand, for the line

pub record Shift (n : ℕ) (js ks : List Job) : Type 0 where
  pub puts : puts_of n ks ≡ puts_of n js
  pub has : HasClose n js → HasClose n ks
  pub no : NoClose n js → NoClose n ks
  pub refusing : IsRefusing n js → IsRefusing n ks
  pub none : NoEnter n js → NoEnter n ks
  pub once : OneEnter n js → OneEnter n ks

pub shift_free : (n : ℕ) (js front ks : List Job) → AllFree front → Shift n js ks → Shift n js (front ++ ks)
shift_free n js front ks free s = record {
  puts = free_puts n front ks free ∙ s.puts;
  has = λ h. free_has n front ks free (s.has h);
  no = λ h. free_no n front ks free (s.no h);
  refusing = λ h. free_refusing n front ks (s.refusing h);
  none = λ h. free_none n front ks free (s.none h);
  once = λ h. free_once n front ks free (s.once h);
}

pub shift_alike : (n : ℕ) (js ks : List Job) → Shift n js ks → Alike n None js None ks
shift_alike n js ks s = record { pend = ap (λ l. l ++ []) s.puts; refusing = s.refusing; none = s.none; once = s.once; first = λ e. e }

pub quietly_becomes : (n : ℕ) (x y : Exchange) (hub after : Hub) → Quietly n x hub y after → Becomes n x hub y after
quietly_becomes n x y hub after q = record { asked = q.asked; place = q.place; entered = q.entered; framed = q.framed; over = q.over; keeps = q.keeps }

-- what becomes of a head that is on its way
abbrev pub FreshOn : ℕ → List Job → List Line → Hub → List Job → List Line → Hub → Type 0
FreshOn n js lines hub ks later after =
    (l m : Line) (x y : Exchange) (fields : Headers) → look n lines ≡ Some l → l.exchange ≡ Some x → look n later ≡ Some m → m.exchange ≡ Some y → IsPlain x → y.place ≡ x.place → y.asked ≡ x.asked
    → IsFreshJobs n js → Rests lines → request_map x.place hub.contexts ≡ fields → Proper (pending n None js) x.asked.whole → Stream n None ks later y after.contexts fields []

shifted : (n : ℕ) (js ks : List Job) → Shift n js ks → pending n None ks ≡ pending n None js
shifted n js ks s = ap (λ l. l ++ []) s.puts

pub stream_calm : (n : ℕ) (js ks : List Job) (lines later : List Line) (x y : Exchange) (hub after : Hub) (fields : Headers) (got : List ChainItem) → Shift n js ks → y.asked ≡ x.asked → (is_over x ≡ true → is_over y ≡ true)
    → (IsFreshJobs n js → Rests lines → request_map x.place hub.contexts ≡ fields → Proper (pending n None js) x.asked.whole → Stream n None ks later y after.contexts fields [])
    → Stream n None js lines x hub.contexts fields got → Stream n None ks later y after.contexts fields got
stream_calm n js ks lines later x y hub after fields got s same over on (fresh none is rests map proper) = subst (Stream n None ks later y after.contexts fields) (sym none) (on is rests map proper)
stream_calm n js ks lines later x y hub after fields got s same over on (going begins proper) =
    going begins (subst (λ (l : List ChainItem). Proper (got ++ l) y.asked.whole) (sym (shifted n js ks s)) (subst (λ b. Proper (got ++ pending n None js) b) (sym (ap (λ q. q.whole) same)) proper))
stream_calm n js ks lines later x y hub after fields got s same over on (doomed message none (inl is)) = doomed message (shifted n js ks s ∙ none) (inl (over is))
stream_calm n js ks lines later x y hub after fields got s same over on (doomed message none (inr is)) = doomed message (shifted n js ks s ∙ none) (inr (s.refusing is))

pub idle_on : (plan : Plan) (n : ℕ) (past : List Sent) (hub after : Hub) → Beside n hub after → Idle plan n past hub → Idle plan n past after
idle_on plan n past hub after b idle =
    subst (OneByOne plan) (ups_join n past hub.sent ∙ (ap (λ t. up_traffic n past ++ t) (sym b.up) ∙ sym (ups_join n past after.sent))) idle

pub other_on : (plan : Plan) (n : ℕ) (past : List Sent) (reading now : Option ReadBatch) (js ks : List Job) (lines later : List Line) (x y : Exchange) (hub after : Hub) → (y.filters ≡ [] → x.filters ≡ []) → Alike n reading js now ks → Listens n lines later → Becomes n x hub y after
    → Other plan n past reading js lines x hub → Other plan n past now ks later y after
other_on plan n past reading now js ks lines later x y hub after filters a listens b o = record {
  filters = λ e. o.filters (filters e);
  head = o.head;
  start = o.start;
  begun = o.begun;
  some = o.some;
  base = o.base;
  before = o.before;
  got = o.got;
  passage = passage_on n past reading now js ks lines later x y hub after o.head o.start o.base o.got a listens b o.passage;
}

module _ (plan : Plan) (n : ℕ) (past : List Sent) (js ks : List Job) (s : Shift n js ks) where
  tale_calm : (lines later : List Line) (x y : Exchange) (hub after : Hub) → Listens n lines later → Quietly n x hub y after
      → ((fields : Headers) → IsPlain x → IsFreshJobs n js → Rests lines → request_map x.place hub.contexts ≡ fields → Proper (pending n None js) x.asked.whole → Stream n None ks later y after.contexts fields [])
      → Tale plan n past None js lines x hub → Tale plan n past None ks later y after
  tale_calm lines later x y hub after listens q on (plainly t) =
      let l : LivesOn n x hub y after = q.plain t.plain in
      plainly (story_on plan n past None None js ks lines later x y hub after t (lives_up n x y hub after l) (ap (λ a. a.minor) q.asked)
      (passage_on n past None None js ks lines later x y hub after t.head t.start (up_traffic n t.start_hub.sent) _ (shift_alike n js ks s) listens (quietly_becomes n x y hub after q) t.passage)
      (stream_calm n js ks lines later x y hub after t.head.fields _ s q.asked (over_told x y l.told) (on t.head.fields t.plain) t.stream))
  tale_calm lines later x y hub after listens q on (filtered o) =
      filtered (other_on plan n past None None js ks lines later x y hub after q.filtered (shift_alike n js ks s) listens (quietly_becomes n x y hub after q) o)

  busy_calm : (lines later : List Line) (due : Due) (x y : Exchange) (hub after : Hub) → Listens n lines later → Quietly n x hub y after
      → ((fields : Headers) → IsPlain x → IsFreshJobs n js → Rests lines → request_map x.place hub.contexts ≡ fields → Proper (pending n None js) x.asked.whole → Stream n None ks later y after.contexts fields [])
      → Busy plan n past None js lines due x hub → Busy plan n past None ks later due y after
  busy_calm lines later due x y hub after listens q on b = record {
    staid = q.staid b.staid;
    matches = subst (λ w. Matches w due) (sym (ap (λ a. a.whole) q.asked)) b.matches;
    unclosed = s.no b.unclosed;
    reads = tt;
    tale = tale_calm lines later x y hub after listens q on b.tale;
  }

  by_due : (due : Due) → (due ≡ head) ⊎ HasClose n js → (due ≡ head) ⊎ HasClose n ks
  by_due due (inl e) = inl e
  by_due due (inr h) = inr (s.has h)

  free_calm : (due : Due) (hub after : Hub) → Beside n hub after → Free plan n past None js due hub → Free plan n past None ks due after
  free_calm due hub after b f = record { none = shifted n js ks s ∙ f.none; due_or = by_due due f.due_or; idle = idle_on plan n past hub after b f.idle }

  line_calm : (lines later : List Line) (hub after : Hub) (o p : Option Line) → look n lines ≡ o → look n later ≡ p → Looks n o hub p after → FreshOn n js lines hub ks later after
      → LineOk plan n past None js lines o hub → LineOk plan n past None ks later p after
  line_calm lines later hub after None None at to looks on ok = (shifted n js ks s ∙ ok.0, idle_on plan n past hub after looks ok.1)
  line_calm lines later hub after None (Some m) at to looks on ok = absurd looks
  line_calm lines later hub after (Some l) None at to looks on ok = absurd looks
  line_calm lines later hub after (Some l) (Some m) at to looks on ok = (
    ap (λ r. r.asked) looks.0 ∙ ok.0,
    subst (λ d. ExOk plan n past None ks later d m.exchange after) (sym (ap (λ r. r.due) looks.0)) (by_exchange l.exchange m.exchange refl refl looks.2 ok.1),
  )
    where
      by_exchange : (a b : Option Exchange) → l.exchange ≡ a → m.exchange ≡ b → Exs n a hub b after → ExOk plan n past None js lines l.requests.due a hub → ExOk plan n past None ks later l.requests.due b after
      by_exchange None None is behind exs ok = free_calm l.requests.due hub after exs ok
      by_exchange None (Some y) is behind exs ok = absurd exs
      by_exchange (Some x) None is behind exs ok = absurd exs
      by_exchange (Some x) (Some y) is behind exs ok = busy_calm lines later l.requests.due x y hub after (same_listens n lines later l m at to looks.0) exs (λ fields p. on l m x y fields at is to behind p exs.place exs.asked) ok

-- from a room of which this was in hand
pub known_calm : (plan : Plan) (n : ℕ) (past : List Sent) (js : List Job) (mid later : Room) → AllParts mid.agenda → Tail mid.jobs → mid.reading ≡ None
    → LineOk plan n past None js mid.lines (look n mid.lines) mid.hub → Shift n js mid.jobs → (calm : Calm n mid later) → FreshOn n js mid.lines mid.hub later.jobs later.lines later.hub → Known plan n past later
known_calm plan n past js mid later parts tail quiet ok s calm on =
    let behind_front : Tail later.jobs = subst Tail (sym calm.jobs) (free_tail calm.front mid.jobs calm.free tail) in
    let at_rest : later.reading ≡ None = calm.reading ∙ quiet in
    let shift : Shift n js later.jobs = subst (Shift n js) (sym calm.jobs) (shift_free n js calm.front mid.jobs calm.free s) in
    record {
      once = calm.still.once;
      parts = calm.parts parts;
      stands = tail_stands later.jobs behind_front;
      alone = λ r is. absurd (cc);
      phase = tail_phase later.lines later.jobs behind_front;
      line = subst (λ (r : Option ReadBatch). LineOk plan n past r later.jobs later.lines (look n later.lines) later.hub) (sym at_rest)
          (line_calm plan n past js later.jobs shift mid.lines later.lines mid.hub later.hub (look n mid.lines) (look n later.lines) refl refl calm.still.looks on ok);
    }
