-- Why a reading leaves a direction as it was.
use Rattle.std.proofs.Common.{◌≡◌, ℕ, Bool, true, false, ◌||◌, List, [], ◌∷◌, ap, ◌∙◌, sym, refl, subst, ⊎_elim}
use Rattle.std.specs.Prelude.{Option, None, Some, is_some, slice_get, slice_set, if◌then◌else◌}
use Rattle.std.proofs.lemmas.Bool.{cases_eq}
use Rattle.contexts.specs.declared.parts.Contexts.{Contexts}
use Rattle.contexts.specs.declared.parts.ExchangeView.{ExchangeView}
use Rattle.contexts.specs.Creating.{open_exchange}
use Rattle.contexts.specs.Reached.{view_at}
use Rattle.filter_host.specs.Course.{ends, Met, called, measured, heard, Reaches}
use Rattle.filter_host.specs.Heard.{Heard, hands, halts}
use Rattle.exchange.specs.declared.types.Exchange.{Exchange}
use Rattle.exchange.specs.Heads.{path_of, route_in}
use Rattle.exchange.specs.Maps.{in_view, put_response, with_fields}
use Rattle.exchange.specs.Passing.{chain_of}
use Rattle.filter_chain.specs.declared.item.ChainItem.{ChainItem}
use Rattle.filter_chain.specs.declared.item.ChainItem.TheVariants as items
use Rattle.header_maps.specs.Headers.{Headers}
use Rattle.header_maps.specs.Operations.{no_headers}
use Rattle.h1_model.specs.Head.{Head}
use Rattle.h1_model.specs.Messages.{Stop, rest, over, refusal}
use Rattle.h1_model.specs.Unread.{Part, head_part, interim_part, piece, trailer_part, Reading}
use Rattle.worker_model.specs.Room.{Room}
use Rattle.worker_model.specs.declared.types.Job.TheVariants as jobs
use Rattle.worker_model.specs.declared.types.Line.{Line}
use Rattle.worker_model.specs.declared.types.ReadBatch.{ReadBatch}
use Rattle.worker_model.specs.Plan.{Plan}
use Rattle.worker_model.specs.Rooms.{place_in, with_contexts}
use Rattle.worker_model.specs.Steps.{Both, both, change_exchange, change_line, line_at, line_at_place, on_lines, with_exchange, exchange_for, free_place, begin_exchange_on, with_reader, read_on, with_read_mark, is_last, with_jobs_first, end_reading, with_item, add_read_item, take_read_item, with_response_head, in_contexts, head_item, put_trailers, take_interim, take_part, end_of_read, after_heard, reading_on, reads_in, reads_next, exchange_on}
use Rattle.law_flow.specs.Besides.{IsWhole}
use Rattle.law_flow.specs.Readings.{BeginsNone, HearsNone, ReadingLeaves}
use Rattle.law_flow.specs.Rooms.{IsOn, Leaves}
use Rattle.law_flow.proofs.Besides.{on_other}
use Rattle.law_chain.proofs.Holding.{hold_by_vms, there_by_vms}
use Rattle.law_flow.proofs.Lines.{get_set, place_set}

-- ---- gentle changes: the chains stay, and what the VMs have among the contexts

pub record Gentle (n : ℕ) (x : Exchange) (room : Room) (place : ℕ) (after : Room) : Type 0 where
  pub then_is : Exchange
  pub on : IsOn n after then_is
  pub there : on.place ≡ place
  pub request : then_is.request ≡ x.request
  pub response : then_is.response ≡ x.response
  pub vms : after.hub.contexts.vms ≡ room.hub.contexts.vms

still : (n : ℕ) (x : Exchange) (room : Room) (on : IsOn n room x) (after : Room) → after.lines ≡ room.lines → after.hub.contexts.vms ≡ room.hub.contexts.vms → Gentle n x room on.place after
still n x room on after is vms = record {
  then_is = x;
  on = record {
    place = on.place;
    line = on.line;
    stands = ap (place_in n) is ∙ on.stands;
    at = ap (λ (lines : List Line). slice_get lines on.place) is ∙ on.at;
    number = on.number;
    exchange = on.exchange;
  };
  there = refl;
  request = refl;
  response = refl;
  vms = vms;
}

then_gentle : (n : ℕ) (x : Exchange) (room mid after : Room) (place : ℕ) (one : Gentle n x room place mid) → Gentle n one.then_is mid one.on.place after → Gentle n x room place after
then_gentle n x room mid after place one two = record {
  then_is = two.then_is;
  on = two.on;
  there = two.there ∙ one.there;
  request = two.request ∙ one.request;
  response = two.response ∙ one.response;
  vms = two.vms ∙ one.vms;
}

-- ---- a change of a line

pub record IsSoft (change : Line → Line) : Type 0 where
  pub number : (line : Line) → (change line).number ≡ line.number
  pub exchange : (line : Line) (x : Exchange) → line.exchange ≡ Some x → (y : Exchange) × ((change line).exchange ≡ Some y) × (y.request ≡ x.request) × (y.response ≡ x.response)

pub soft_exchange : (change : Exchange → Exchange) → ((x : Exchange) → (change x).request ≡ x.request) → ((x : Exchange) → (change x).response ≡ x.response) → IsSoft (change_line change)
soft_exchange change request response = record {
  number = λ line. by_exchange line line.exchange;
  exchange = λ line x is. (change x, ap (λ (o : Option Exchange). (change_exchange change line o).exchange) is, request x, response x);
}
  where
    by_exchange : (line : Line) (o : Option Exchange) → (change_exchange change line o).number ≡ line.number
    by_exchange line None = refl
    by_exchange line (Some x) = refl

same_line : (lines : List Line) (p : ℕ) (a b : Line) → slice_get lines p ≡ Some a → slice_get lines p ≡ Some b → a ≡ b
same_line lines p a b one two = cc

pub lines_gentle : (change : Line → Line) → IsSoft change → (n : ℕ) (x : Exchange) (room : Room) (on : IsOn n room x) (o : Option ℕ)
    → Gentle n x room on.place (record room { lines = line_at_place change room.lines o })
lines_gentle change soft n x room on None = still n x room on (record room { lines = room.lines }) refl refl
lines_gentle change soft n x room on (Some p) = by_line (slice_get room.lines p) refl
  where
    here : (line : Line) → slice_get room.lines p ≡ Some line → p ≡ on.place → Gentle n x room on.place (record room { lines = slice_set room.lines p (change line) })
    here line at is =
        let found : slice_get room.lines on.place ≡ Some line = subst (λ (q : ℕ). slice_get room.lines q ≡ Some line) is at in
        let one : on.line ≡ line = same_line room.lines on.place on.line line on.at found in
        let has : line.exchange ≡ Some x = subst (λ (l : Line). l.exchange ≡ Some x) one on.exchange in
        let number : line.number ≡ n = subst (λ (l : Line). l.number ≡ n) one on.number in
        let y : (z : Exchange) × ((change line).exchange ≡ Some z) × (z.request ≡ x.request) × (z.response ≡ x.response) = soft.exchange line x has in
        record {
          then_is = y.0;
          on = record {
            place = p;
            line = change line;
            stands = place_set n room.lines p line (change line) at (soft.number line) ∙ (on.stands ∙ ap (λ (q : ℕ). Some q) (sym is));
            at = get_set room.lines p line (change line) at;
            number = soft.number line ∙ number;
            exchange = y.1;
          };
          there = is;
          request = y.2;
          response = y.3;
          vms = refl;
        }

    away : (line : Line) → slice_get room.lines p ≡ Some line → (p ≡ on.place → ⊥) → Gentle n x room on.place (record room { lines = slice_set room.lines p (change line) })
    away line at apart =
        record { then_is = x; on = on_other n room x on p line (change line) room.hub at (soft.number line) apart; there = refl; request = refl; response = refl; vms = refl }

    by_line : (l : Option Line) → slice_get room.lines p ≡ l → Gentle n x room on.place (record room { lines = line_at change room.lines p l })
    by_line None at = still n x room on (record room { lines = room.lines }) refl refl
    by_line (Some line) at = ⊎_elim (here line at) (away line at) (cases_eq p on.place)

on_lines_gentle : (change : Line → Line) → IsSoft change → (n m : ℕ) (x : Exchange) (room : Room) (on : IsOn n room x) → Gentle n x room on.place (on_lines change m room)
on_lines_gentle change soft n m x room on = lines_gentle change soft n x room on (place_in m room.lines)

-- where a line stands, it stands still
place_kept : (change : Line → Line) → ((line : Line) → (change line).number ≡ line.number) → (m : ℕ) (lines : List Line) (o : Option ℕ) → place_in m (line_at_place change lines o) ≡ place_in m lines
place_kept change number m lines None = refl
place_kept change number m lines (Some p) = by_line (slice_get lines p) refl
  where
    by_line : (l : Option Line) → slice_get lines p ≡ l → place_in m (line_at change lines p l) ≡ place_in m lines
    by_line None at = refl
    by_line (Some line) at = place_set m lines p line (change line) at (number line)

read_soft : (up : Bool) (new : Reading) → IsSoft (read_on up new)
read_soft false new = record { number = λ line. refl; exchange = λ line x is. (x, is, refl, refl) }
read_soft true new = soft_exchange (with_reader new) (λ x. refl) (λ x. refl)

noted_soft : (up : Bool) (item : ChainItem) → IsSoft (change_line (with_read_mark up item))
noted_soft false item = soft_exchange (with_read_mark false item) (λ x. refl) (λ x. refl)
noted_soft true item = soft_exchange (with_read_mark true item) (λ x. refl) (λ x. refl)

-- ---- maps

view_vms : (change : ExchangeView → ExchangeView) (place : ℕ) (v : Option ExchangeView) (h : Contexts) → (in_view change place v h).vms ≡ h.vms
view_vms change place None h = refl
view_vms change place (Some v) h = refl

contexts_gentle : (change : ℕ → Contexts → Contexts) → ((place : ℕ) (h : Contexts) → (change place h).vms ≡ h.vms) → (n : ℕ) (x : Exchange) (room : Room) (on : IsOn n room x) (o : Option Exchange)
    → Gentle n x room on.place (in_contexts change o room)
contexts_gentle change vms n x room on None = still n x room on room refl refl
contexts_gentle change vms n x room on (Some y) = still n x room on (in_contexts change (Some y) room) refl (vms y.place room.hub.contexts)

trailers_vms : (up : Bool) (map : Headers) (place : ℕ) (h : Contexts) → (put_trailers up map place h).vms ≡ h.vms
trailers_vms false map place h = view_vms _ place (view_at h.exchanges place) h
trailers_vms true map place h = view_vms _ place (view_at h.exchanges place) h

-- ---- what is handed on

by_bool : {A : Type 0} (P : A → Type 0) (b : Bool) (a c : A) → (b ≡ true → P a) → (b ≡ false → P c) → P (if b then a else c)
by_bool P true a c here there = here refl
by_bool P false a c here there = there refl

joins_gentle : (r : ReadBatch) (item : ChainItem) (n : ℕ) (x : Exchange) (room : Room) (on : IsOn n room x) → Gentle n x room on.place (add_read_item r item room)
joins_gentle r item n x room on =
    by_bool (Gentle n x room on.place) (is_last item) (end_reading (with_item item r) None room) (record room { reading = Some (with_item item r) })
    (λ e. still n x room on (end_reading (with_item item r) None room) refl refl) (λ e. still n x room on (record room { reading = Some (with_item item r) }) refl refl)

takes_gentle : (r : ReadBatch) (item : ChainItem) (n : ℕ) (x : Exchange) (room : Room) (on : IsOn n room x) → Gentle n x room on.place (take_read_item r item room)
takes_gentle r item n x room on =
    let mid : Room = on_lines (change_line (with_read_mark r.up item)) r.line room in
    let first : Gentle n x room on.place mid = on_lines_gentle (change_line (with_read_mark r.up item)) (noted_soft r.up item) n r.line x room on in
    then_gentle n x room mid (take_read_item r item room) on.place first (joins_gentle r item n first.then_is mid first.on)

abbrev begins_on : Plan → Head → Room → Line → Line
begins_on plan h room line = with_exchange (exchange_for plan (free_place room.hub.contexts) room.hub.moment room.dead h (route_in plan.routes (path_of h.fields))) line

begun_gentle : (plan : Plan) (m : ℕ) (h : Head) (n : ℕ) (x : Exchange) (room : Room) (on : IsOn n room x) → (place_in m room.lines ≡ Some on.place → ⊥)
    → Gentle n x room on.place (begin_exchange_on plan m h room)
begun_gentle plan m h n x room on apart = by_place (place_in m room.lines) apart
  where
    by_line : (p : ℕ) → (Some p ≡ Some on.place → ⊥) → (l : Option Line) → slice_get room.lines p ≡ l
        → Gentle n x room on.place (record (with_contexts (open_exchange m h.fields room.hub.contexts) room) { lines = line_at (begins_on plan h room) room.lines p l })
    by_line p away None at = still n x room on (record (with_contexts (open_exchange m h.fields room.hub.contexts) room) { lines = room.lines }) refl refl
    by_line p away (Some line) at = record {
      then_is = x;
      on = on_other n room x on p line (begins_on plan h room line) (with_contexts (open_exchange m h.fields room.hub.contexts) room).hub at refl (λ e. away (ap (λ (q : ℕ). Some q) e));
      there = refl;
      request = refl;
      response = refl;
      vms = refl;
    }

    by_place : (o : Option ℕ) → (o ≡ Some on.place → ⊥) → Gentle n x room on.place (record (with_contexts (open_exchange m h.fields room.hub.contexts) room) { lines = line_at_place (begins_on plan h room) room.lines o })
    by_place None away = still n x room on (record (with_contexts (open_exchange m h.fields room.hub.contexts) room) { lines = room.lines }) refl refl
    by_place (Some p) away = by_line p away (slice_get room.lines p) refl

abbrev mapped_room : ReadBatch → Head → Room → Room
mapped_room r h room = in_contexts (put_response h.fields) (exchange_on r.line room) room

abbrev noted_room : ReadBatch → Head → Room → Room
noted_room r h room = on_lines (change_line (with_response_head h)) r.line (mapped_room r h room)

head_gentle : (plan : Plan) (r : ReadBatch) (h : Head) (n : ℕ) (x : Exchange) (room : Room) (on : IsOn n room x) → BeginsNone r on.place room (head_part h)
    → Gentle n x room on.place (take_part plan r (head_part h) room)
head_gentle plan r h n x room on begins =
    by_bool (Gentle n x room on.place) r.up (take_read_item r (head_item h) (noted_room r h room)) (take_read_item r (head_item h) (begin_exchange_on plan r.line h room))
    (λ e.
    let first : Gentle n x room on.place (mapped_room r h room) = contexts_gentle (put_response h.fields) (λ place k. view_vms _ place (view_at k.exchanges place) k) n x room on (exchange_on r.line room) in
    let second : Gentle n first.then_is (mapped_room r h room) first.on.place (noted_room r h room)
    = on_lines_gentle (change_line (with_response_head h)) (soft_exchange (with_response_head h) (λ y. refl) (λ y. refl)) n r.line first.then_is (mapped_room r h room) first.on in
    let both_ : Gentle n x room on.place (noted_room r h room) = then_gentle n x room (mapped_room r h room) (noted_room r h room) on.place first second in
    then_gentle n x room (noted_room r h room) (take_read_item r (head_item h) (noted_room r h room)) on.place both_ (takes_gentle r (head_item h) n both_.then_is (noted_room r h room) both_.on))
    (λ e.
    let first : Gentle n x room on.place (begin_exchange_on plan r.line h room) = begun_gentle plan r.line h n x room on (begins e) in
    then_gentle n x room (begin_exchange_on plan r.line h room) (take_read_item r (head_item h) (begin_exchange_on plan r.line h room)) on.place first
    (takes_gentle r (head_item h) n first.then_is (begin_exchange_on plan r.line h room) first.on))

part_gentle : (plan : Plan) (r : ReadBatch) (part : Part) (n : ℕ) (x : Exchange) (room : Room) (on : IsOn n room x) → BeginsNone r on.place room part
    → Gentle n x room on.place (take_part plan r part room)
part_gentle plan r (head_part h) n x room on begins = head_gentle plan r h n x room on begins
part_gentle plan r (interim_part h) n x room on begins = still n x room on (take_interim r h room) refl refl
part_gentle plan r (piece bytes last) n x room on begins = takes_gentle r (items.Piece bytes last) n x room on
part_gentle plan r (trailer_part fields) n x room on begins =
    let mid : Room = in_contexts (put_trailers r.up (with_fields no_headers fields)) (exchange_on r.line room) room in
    let first : Gentle n x room on.place mid
    = contexts_gentle (put_trailers r.up (with_fields no_headers fields)) (trailers_vms r.up (with_fields no_headers fields)) n x room on (exchange_on r.line room) in
    then_gentle n x room mid (take_read_item r items.Trailers mid) on.place first (takes_gentle r items.Trailers n first.then_is mid first.on)

stops_gentle : (r : ReadBatch) (why : Stop) (n : ℕ) (x : Exchange) (room : Room) (on : IsOn n room x) → Gentle n x room on.place (end_of_read r why room)
stops_gentle r rest n x room on = still n x room on (end_reading r None room) refl refl
stops_gentle r over n x room on =
    by_bool (Gentle n x room on.place) (r.up || is_some (exchange_on r.line room)) (end_reading r None room) (with_jobs_first (jobs.Close r.line false ∷ []) (end_reading r None room))
    (λ e. still n x room on (end_reading r None room) refl refl) (λ e. still n x room on (with_jobs_first (jobs.Close r.line false ∷ []) (end_reading r None room)) refl refl)
stops_gentle r (refusal status) n x room on = still n x room on (end_reading r (Some status) room) refl refl

begins_kept : (r : ReadBatch) (part : Part) (place : ℕ) (room after : Room) → place_in r.line after.lines ≡ place_in r.line room.lines → BeginsNone r place room part → BeginsNone r place after part
begins_kept r (head_part h) place room after same begins = λ down is. begins down (sym same ∙ is)
begins_kept r (interim_part h) place room after same begins = tt
begins_kept r (piece bytes last) place room after same begins = tt
begins_kept r (trailer_part fields) place room after same begins = tt

heard_gentle : (plan : Plan) (r : ReadBatch) (h : Heard) (n : ℕ) (x : Exchange) (room : Room) (on : IsOn n room x) → HearsNone r on.place room h → Gentle n x room on.place (after_heard plan r h room)
heard_gentle plan r (hands part new) n x room on begins =
    let mid : Room = on_lines (read_on r.up new) r.line room in
    let first : Gentle n x room on.place mid = on_lines_gentle (read_on r.up new) (read_soft r.up new) n r.line x room on in
    let kept : place_in r.line mid.lines ≡ place_in r.line room.lines = place_kept (read_on r.up new) (IsSoft.number (read_soft r.up new)) r.line room.lines (place_in r.line room.lines) in
    let begins_then : BeginsNone r first.on.place mid part
    = subst (λ (p : ℕ). BeginsNone r p mid part) (sym first.there) (begins_kept r part on.place room mid kept begins) in
    then_gentle n x room mid (take_part plan r part mid) on.place first (part_gentle plan r part n first.then_is mid first.on begins_then)
heard_gentle plan r (halts why new) n x room on begins =
    let mid : Room = on_lines (read_on r.up new) r.line room in
    let first : Gentle n x room on.place mid = on_lines_gentle (read_on r.up new) (read_soft r.up new) n r.line x room on in
    then_gentle n x room mid (end_of_read r why mid) on.place first (stops_gentle r why n first.then_is mid first.on)

-- ---- the step

gentle_leaves : (response : Bool) (n : ℕ) (x : Exchange) (room : Room) (place : ℕ) (after : Room) → IsWhole response x room → Gentle n x room place after
    → (y : Exchange) × Leaves response n x room y after
gentle_leaves response n x room place after whole g = (
  g.then_is,
  record {
    on = g.on;
    chain = by_direction response;
    holds = hold_by_vms room.hub.contexts after.hub.contexts (chain_of response x) g.vms;
    there = there_by_vms room.hub.contexts after.hub.contexts (chain_of response x) g.vms whole;
  },
)
  where
    by_direction : (r : Bool) → chain_of r g.then_is ≡ chain_of r x
    by_direction false = g.request
    by_direction true = g.response

abbrev quiet : Room → Room
quiet room = record room { reading = None }

abbrev quiet_on : {n : ℕ} {x : Exchange} {room : Room} → IsOn n room x → IsOn n (quiet room) x
quiet_on on = record { place = on.place; line = on.line; stands = on.stands; at = on.at; number = on.number; exchange = on.exchange }

pub reading_leaves : (H : Type 0) → ReadingLeaves H
reading_leaves H calling plan response n x room on host ms b whole none reaches = by_reads room.reading refl reaches
  where
    ended_as : (after : Room) → Gentle n x room on.place after → (ns : List Met) → Reaches (ends (both host after)) ns (ends b) → (y : Exchange) × Leaves response n x room y b.room
    ended_as after g [] is =
        let same : b ≡ both host after = sym (cc) in
        subst (λ (c : Both H). (y : Exchange) × Leaves response n x room y c.room) (sym same) (gentle_leaves response n x room on.place after whole g)
    ended_as after g (m ∷ ns) is = absurd is

    by_reading : (r : ReadBatch) → room.reading ≡ Some r → (o : Option Reading) → reading_on r room ≡ o → (ns : List Met) → Reaches (reads_in plan r o host room) ns (ends b)
        → (y : Exchange) × Leaves response n x room y b.room
    by_reading r is None none_there ns reached = ended_as (quiet room) (still n x room on (quiet room) refl refl) ns reached
    by_reading r is (Some reading) there [] reached = absurd (cc)
    by_reading r is (Some reading) there (called c ∷ ns) reached = absurd reached
    by_reading r is (Some reading) there (measured c ∷ ns) reached = absurd reached
    by_reading r is (Some reading) there (heard h ∷ ns) reached =
        let g : Gentle n x (quiet room) on.place (after_heard plan r h (quiet room)) = heard_gentle plan r h n x (quiet room) (quiet_on on) (none r reading h is there reached.0) in
        ended_as (after_heard plan r h (quiet room)) (record { then_is = g.then_is; on = g.on; there = g.there; request = g.request; response = g.response; vms = g.vms }) ns reached.1

    by_reads : (o : Option ReadBatch) → room.reading ≡ o → Reaches (reads_next plan o host room) ms (ends b) → (y : Exchange) × Leaves response n x room y b.room
    by_reads None is reached = ended_as room (still n x room on room refl refl) ms reached
    by_reads (Some r) is reached = by_reading r is (reading_on r room) refl ms reached
