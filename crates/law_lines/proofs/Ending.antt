-- What an exchange sent up, and a step in which it ends.
use Rattle.std.proofs.Common.{◌≡◌, ◌⊎◌, inl, inr, ℕ, ◌+◌, ◌≤◌, length, length-append, arith, ◌==◌, Bool, true, false, List, [], ◌∷◌, ◌++◌, map, refl, ap, ◌∙◌, sym, subst}
use Rattle.std.proofs.lemmas.List.{append-nil, append_assoc, append_cancel_left}
use Rattle.std.proofs.lemmas.Bool.{and_from, le-leb}
use Rattle.std.specs.List.{concat, list_all}
use Rattle.std.specs.Prelude.{Option, None, Some, is_some, slice_get, slice_set, position, if◌then◌else◌}
use Rattle.exchange.specs.declared.types.Exchange.{Exchange}
use Rattle.exchange.specs.declared.types.Filter.{Filter}
use Rattle.exchange.specs.declared.types.Hub.{Hub}
use Rattle.exchange.specs.Heads.{path_of, route_in, sent_head, up_tail, up_framing, request_of}
use Rattle.exchange.specs.Leaving.{request_framing}
use Rattle.law_exchange.specs.Laws.{GoesUpOnce}
use Rattle.law_exchange.specs.Lives.{is_over}
use Rattle.law_exchange.specs.Responses.{IsBody, IsMessage}
use Rattle.law_exchange.specs.Traffic.{Traffic, opens, byte, closes, up_traffic, IsFront}
use Rattle.law_exchange.proofs.Lives.{one_request}
use Rattle.law_exchange.proofs.Traffic.{ups_join}
use Rattle.filter_chain.specs.declared.item.ChainItem.{ChainItem}
use Rattle.filter_chain.specs.declared.item.ChainItem.TheVariants as items
use Rattle.gate_io.specs.declared.event.Sent.{Sent}
use Rattle.h1_write.specs.Lines.{OutRequest, out_items, out_wire}
use Rattle.h1_write.specs.Laws.{is_short}
use Rattle.h1_write.specs.Round.{Ending, last_bytes, last_trailers, body_items, body_bytes, all_pieces, Suits}
use Rattle.filter_chain.specs.Items.{size}
use Rattle.h1_model.specs.Length.{length_limit}
use Rattle.h1_model.specs.Trailers.{piece_limit}
use Rattle.h1_model.specs.Framing.{Framing, OutItem}
use Rattle.h1_model.specs.Framing as out
use Rattle.h1_model.specs.Head.{Head}
use Rattle.h1_model.specs.Messages.{head}
use Rattle.h1_model.specs.Unread.{Reading}
use Rattle.worker_model.specs.Room.{Room}
use Rattle.worker_model.specs.declared.types.Job.{Job}
use Rattle.worker_model.specs.declared.types.Job.TheVariants as jobs
use Rattle.worker_model.specs.declared.types.Line.{Line}
use Rattle.worker_model.specs.declared.types.ReadBatch.{ReadBatch}
use Rattle.worker_model.specs.Moves.{ended_at, ended_back, ended_in}
use Rattle.worker_model.specs.Plan.{Plan}
use Rattle.worker_model.specs.Rooms as rooms
use Rattle.worker_model.specs.Steps.{done_jobs, close_up, end_with, end_at, exchange_for}
use Rattle.law_lines.specs.Living.{requests_in}
use Rattle.law_lines.specs.Requests.{is_whole, AreOf, IsSentOf, WholeReadsBack, IsExact, close_behind, OneByOne}
use Rattle.law_lines.proofs.Earlier.{behind}
use Rattle.law_lines.proofs.Finding.{Seeks, missing, first, seeks, IsOnce, set_other, only_found, set_once, set_there}
use Rattle.law_lines.proofs.Items.{message_front}
use Rattle.law_lines.proofs.Lives.{came_of, lives_with}
use Rattle.law_lines.proofs.Looks.{is_n, look, equal_by, equal_is, other_is, other_by}
use Rattle.law_lines.proofs.Readable.{judged_small, readable}
use Rattle.law_lines.proofs.Suiting.{AreShort, suits_of}
use Rattle.law_lines.proofs.Rooms.{AllFree}
use Rattle.law_lines.proofs.Story.{puts_of, HasClose, Tail, Matches, pending, Stream, fresh, going, doomed, Story, Passage, Tale, plainly, filtered, Busy, ExOk, LineOk, Known}
use Rattle.law_lines.proofs.Calmed.{free_puts, free_has, free_no, free_tail, free_none, none_once}
use Rattle.law_lines.proofs.Parts.{begins_bare, goes_of, came_front, closes_so, one_part}
use Rattle.law_lines.proofs.Sides.{ended_known}
use Rattle.law_lines.proofs.Turned.{line_turn}
use Rattle.law_lines.proofs.Closing.{line_as_is}

-- ---- the request that is sent

-- the pieces and the end of a body, of which these are a front
record OfBody (items : List ChainItem) (outs : List OutItem) : Type 0 where
  pieces : List (List ℕ)
  ending : Ending
  front : IsFront outs (body_items pieces ending)
  full : is_whole items ≡ true → outs ≡ body_items pieces ending
  sized : is_whole items ≡ true → length (body_bytes pieces ending) ≡ size items
  short : AreShort items → list_all is_short (all_pieces pieces ending) ≡ true

all_more : (bytes : List ℕ) (pieces : List (List ℕ)) (ending : Ending) → all_pieces (bytes ∷ pieces) ending ≡ bytes ∷ all_pieces pieces ending
all_more bytes pieces (last_bytes last) = refl
all_more bytes pieces (last_trailers fields) = refl

piece_short : (bytes : List ℕ) → length bytes ≤ piece_limit → is_short bytes ≡ true
piece_short bytes few = le-leb (length bytes) length_limit (omega (arith, few))

empty_short : list_all is_short ([] ∷ []) ≡ true
empty_short = and_from _ _ (piece_short [] (omega arith)) refl

none_out : (h : Head) (items : List ChainItem) (outs : List OutItem) → items ≡ [] → AreOf h items outs → outs ≡ []
none_out h [] [] is are = refl
none_out h [] (o ∷ outs) is are = absurd are
none_out h (i ∷ items) outs is are = absurd (cc)

body_of : (h : Head) (items : List ChainItem) (outs : List OutItem) → IsBody items → AreOf h items outs → OfBody items outs
body_of h [] [] body are = record { pieces = []; ending = last_bytes []; front = (body_items [] (last_bytes []), refl); full = λ e. absurd (cc); sized = λ e. absurd (cc); short = λ e. empty_short }
body_of h [] (o ∷ outs) body are = absurd are
body_of h (i ∷ items) [] body are = absurd are
body_of h (items.Head end ∷ rest) (o ∷ outs) body are = absurd body
body_of h (items.Piece bytes false ∷ rest) (out.piece went last ∷ outs) body are =
    let later : OfBody rest outs = body_of h rest outs body are.1 in
    record {
      pieces = bytes ∷ later.pieces;
      ending = later.ending;
      front = (later.front.0, (λ i. out.piece (are.0.0 i) (are.0.1 i) ∷ later.front.1 i));
      full = λ e. (λ i. out.piece (are.0.0 i) (are.0.1 i) ∷ later.full e i);
      sized = λ e.
          ap (λ (l : List (List ℕ)). length (concat l)) (all_more bytes later.pieces later.ending)
          ∙ (length-append bytes (body_bytes later.pieces later.ending) ∙ ap (λ k. length bytes + k) (later.sized e));
      short = λ e. ap (list_all is_short) (all_more bytes later.pieces later.ending) ∙ and_from _ _ (piece_short bytes e.0) (later.short e.1);
    }
body_of h (items.Piece bytes true ∷ rest) (out.piece went last ∷ outs) body are = record {
  pieces = [];
  ending = last_bytes bytes;
  front = ([], (λ i. out.piece (are.0.0 i) (are.0.1 i) ∷ (none_out h rest outs body are.1 i ++ [])));
  full = λ e. (λ i. out.piece (are.0.0 i) (are.0.1 i) ∷ none_out h rest outs body are.1 i);
  sized = λ e. ap length (append-nil bytes) ∙ (omega arith ∙ ap (λ (l : List ChainItem). length bytes + size l) (sym body));
  short = λ e. and_from _ _ (piece_short bytes e.0) refl;
}
body_of h (items.Piece bytes last ∷ rest) (out.head g ∷ outs) body are = absurd are.0
body_of h (items.Piece bytes last ∷ rest) (out.interim g ∷ outs) body are = absurd are.0
body_of h (items.Piece bytes last ∷ rest) (out.trailers fields ∷ outs) body are = absurd are.0
body_of h (items.Trailers ∷ rest) (out.trailers fields ∷ outs) body are = record {
  pieces = [];
  ending = last_trailers fields;
  front = ([], (λ i. out.trailers fields ∷ (none_out h rest outs body are.1 i ++ [])));
  full = λ e. (λ i. out.trailers fields ∷ none_out h rest outs body are.1 i);
  sized = λ e. ap (λ (l : List ChainItem). 0 + size l) (sym body);
  short = λ e. refl;
}
body_of h (items.Trailers ∷ rest) (out.head g ∷ outs) body are = absurd are.0
body_of h (items.Trailers ∷ rest) (out.interim g ∷ outs) body are = absurd are.0
body_of h (items.Trailers ∷ rest) (out.piece went last ∷ outs) body are = absurd are.0

-- a request without a body, of which the head says so
pub record IsHeadAlone (items : List ChainItem) (outs : List OutItem) (request : OutRequest) : Type 0 where
  pub outs_are : outs ≡ out.head request.head ∷ []
  pub begins : begins_bare items ≡ true
  pub is : request ≡ record { framing = request.framing; head = request.head; pieces = []; ending = last_bytes [] }

pub record OfRequest (h : Head) (framing : Framing) (items : List ChainItem) (outs : List OutItem) : Type 0 where
  pub request : OutRequest
  pub framed : request.framing ≡ framing
  pub head : request.head ≡ sent_head h.fields (up_tail h.minor)
  pub front : IsFront outs (out_items request)
  pub full : is_whole items ≡ true → (outs ≡ out_items request) ⊎ IsHeadAlone items outs request
  pub sized : is_whole items ≡ true → length (body_bytes request.pieces request.ending) ≡ size items
  pub short : AreShort items → list_all is_short (all_pieces request.pieces request.ending) ≡ true

abbrev sent_as : Head → Head
sent_as h = sent_head h.fields (up_tail h.minor)

headed : (h : Head) (framing : Framing) (items : List ChainItem) (g : Head) (outs : List OutItem) → g ≡ sent_as h → OfRequest h framing items (out.head (sent_as h) ∷ outs) → OfRequest h framing items (out.head g ∷ outs)
headed h framing items g outs is q = subst (λ (k : Head). OfRequest h framing items (out.head k ∷ outs)) (sym is) q

with_body : (h : Head) (framing : Framing) (rest : List ChainItem) (outs : List OutItem) → OfBody rest outs → OfRequest h framing (items.Head false ∷ rest) (out.head (sent_as h) ∷ outs)
with_body h framing rest outs b = record {
  request = record { framing = framing; head = sent_as h; pieces = b.pieces; ending = b.ending };
  framed = refl;
  head = refl;
  front = (b.front.0, ap (λ l. out.head (sent_as h) ∷ l) b.front.1);
  full = λ e. inl (ap (λ l. out.head (sent_as h) ∷ l) (b.full e));
  sized = λ e. b.sized e ∙ omega arith;
  short = λ e. b.short e.1;
}

without_body : (h : Head) (framing : Framing) (rest : List ChainItem) → begins_bare rest ≡ true → size rest ≡ 0 → OfRequest h framing rest (out.head (sent_as h) ∷ [])
without_body h framing rest begins none = record {
  request = record { framing = framing; head = sent_as h; pieces = []; ending = last_bytes [] };
  framed = refl;
  head = refl;
  front = (body_items [] (last_bytes []), refl);
  full = λ e. inr (record { outs_are = refl; begins = begins; is = refl });
  sized = λ e. sym none;
  short = λ e. empty_short;
}

pub request_of_items : (h : Head) (framing : Framing) (items : List ChainItem) (outs : List OutItem) → IsMessage items → AreOf h items outs → OfRequest h framing items outs
request_of_items h framing [] [] message are = record {
  request = record { framing = framing; head = sent_as h; pieces = []; ending = last_bytes [] };
  framed = refl;
  head = refl;
  front = (out.head (sent_as h) ∷ body_items [] (last_bytes []), refl);
  full = λ e. absurd (cc);
  sized = λ e. absurd (cc);
  short = λ e. empty_short;
}
request_of_items h framing [] (o ∷ outs) message are = absurd are
request_of_items h framing (i ∷ rest) [] message are = absurd are
request_of_items h framing (items.Head false ∷ rest) (out.head g ∷ outs) message are = headed h framing (items.Head false ∷ rest) g outs are.0 (with_body h framing rest outs (body_of h rest outs message are.1))
request_of_items h framing (items.Head true ∷ rest) (out.head g ∷ outs) message are =
    headed h framing (items.Head true ∷ rest) g outs are.0
    (subst (λ l. OfRequest h framing (items.Head true ∷ rest) (out.head (sent_as h) ∷ l)) (sym (none_out h rest outs message are.1)) (without_body h framing (items.Head true ∷ rest) refl (ap (λ (l : List ChainItem). 0 + size l) message)))
request_of_items h framing (items.Head end ∷ rest) (out.interim g ∷ outs) message are = absurd are.0
request_of_items h framing (items.Head end ∷ rest) (out.piece went last ∷ outs) message are = absurd are.0
request_of_items h framing (items.Head end ∷ rest) (out.trailers fields ∷ outs) message are = absurd are.0
request_of_items h framing (items.Piece bytes end ∷ rest) (o ∷ outs) message are = absurd message
request_of_items h framing (items.Trailers ∷ rest) (o ∷ outs) message are = absurd message

-- ---- what went up of an exchange

pub record Went (plan : Plan) (n : ℕ) (past : List Sent) (reading : Option ReadBatch) (js : List Job) (lines : List Line) (x : Exchange) (hub : Hub) (s : Story plan n past reading js lines x hub) : Type 0 where
  pub request : OutRequest
  pub sent_of : IsSentOf s.head request
  pub goes : GoesUpOnce request (came_of n s.start s.start_hub s.deeds) (is_over x) (up_traffic n s.start_hub.sent) (up_traffic n (past ++ hub.sent))
  pub front : IsFront (came_of n s.start s.start_hub s.deeds) (out_items request)
  pub sized : is_whole (requests_in s.deeds) ≡ true → length (body_bytes request.pieces request.ending) ≡ size (requests_in s.deeds)
  pub short : AreShort (requests_in s.deeds) → list_all is_short (all_pieces request.pieces request.ending) ≡ true
  pub full : is_whole (requests_in s.deeds) ≡ true → (came_of n s.start s.start_hub s.deeds ≡ out_items request) ⊎ IsHeadAlone (requests_in s.deeds) (came_of n s.start s.start_hub s.deeds) request

module _ (plan : Plan) (n : ℕ) (past : List Sent) (reading : Option ReadBatch) (js : List Job) (lines : List Line) (x : Exchange) (hub : Hub) (s : Story plan n past reading js lines x hub) where
  pub is_message : IsMessage (requests_in s.deeds)
  is_message = by_stream s.stream
    where
      by_stream : Stream n reading js lines x hub.contexts s.head.fields (requests_in s.deeds) → IsMessage (requests_in s.deeds)
      by_stream (fresh none is rests map proper) = subst IsMessage (sym none) tt
      by_stream (going begins proper) = message_front (requests_in s.deeds) (pending n reading js) proper.1
      by_stream (doomed message none is) = message

  pub went : Went plan n past reading js lines x hub s
  went =
      let outs : List OutItem = came_of n s.start s.start_hub s.deeds in
      let q : OfRequest s.head (request_framing s.start) (requests_in s.deeds) outs = request_of_items s.head (request_framing s.start) (requests_in s.deeds) outs is_message s.came in
      let of : Exchange = exchange_for plan s.began.begun.place s.began.begun.now s.began.begun.dead s.head (route_in plan.routes (path_of s.head.fields)) in
      let framed : request_framing s.start ≡ up_framing of.filters_requests (request_of s.head) = ap request_framing s.began.begun.is in
      record {
        request = q.request;
        sent_of = record { filtered = of.filters_requests; head = q.head; framing = q.framed ∙ framed };
        goes = one_request n s.start x s.start_hub (behind past hub) s.deeds outs q.request (ap (λ (y : Exchange). y.request) s.began.begun.is) (lives_with n s.deeds s.start x s.start_hub (behind past hub) s.lives) q.framed q.front;
        front = q.front;
        sized = q.sized;
        short = q.short;
        full = q.full;
      }

  -- what it sent is that, however it is counted
  pub same_went : went.goes.went ≡ s.passage.went
  same_went = append_cancel_left (up_traffic n s.start_hub.sent) went.goes.went s.passage.went (sym went.goes.adds ∙ s.passage.adds)

  pub came_so : IsFront (requests_in s.deeds) s.passage.heard
  came_so = came_front n past reading js lines x hub s.head s.start (up_traffic n s.start_hub.sent) (requests_in s.deeds) s.passage

  pub whole_reads_back : WholeReadsBack s.head (requests_in s.deeds) went.request
  whole_reads_back ended all other room fits =
      let suits : Suits went.request.framing went.request.pieces went.request.ending ended []
      = suits_of s.head went.sent_of.filtered went.request s.passage.heard (requests_in s.deeds) s.passage.was.now (judged_small s.head s.began.begun.judged other) went.sent_of.framing s.passage.was.was came_so is_message all (went.sized all) went.short fits ended in
      went.goes.read_back ended (readable s.head went.request s.began.begun.judged went.sent_of other room) suits

  pub exact_of : IsExact s.head (requests_in s.deeds) s.passage.went
  exact_of = record {
    request = went.request;
    sent_of = went.sent_of;
    reads_back = λ ended other room suits. went.goes.read_back ended (readable s.head went.request s.began.begun.judged went.sent_of other room) suits;
    whole_reads_back = whole_reads_back;
    outs = came_of n s.start s.start_hub s.deeds;
    of = s.came;
    items = went.front;
    front = subst (λ (t : List Traffic). IsFront t (opens ∷ map byte (out_wire went.request))) same_went went.goes.front;
  }

-- ---- the end

same_line : (n m : ℕ) → (m == n) ≡ true → (n == m) ≡ true
same_line n m is = equal_is n m (sym (equal_by m n is))

close_other : (n m : ℕ) (o : Option Reading) → (m == n) ≡ false → up_traffic n (close_up m o) ≡ []
close_other n m None other = refl
close_other n m (Some r) other = ap (λ b. (if b then closes ∷ [] else []) ++ []) (other_is n m (λ e. other_by m n other (sym e)))

pub done_free : (fs : List Filter) → AllFree (done_jobs fs)
done_free [] = tt
done_free (f ∷ fs) = by_made f.created (done_free fs)
  where
    by_made : (b : Bool) → AllFree (done_jobs fs) → AllFree (if b then jobs.Done (record { vm = f.vm; context = f.context }) ∷ done_jobs fs else done_jobs fs)
    by_made true all = (tt, all)
    by_made false all = all

close_same : (n m : ℕ) (r : Reading) → (m == n) ≡ true → up_traffic n (close_up m (Some r)) ≡ closes ∷ []
close_same n m r here = ap (λ b. (if b then closes ∷ [] else []) ++ []) (same_line n m here)

module _ (plan : Plan) (n : ℕ) (past : List Sent) where
  -- what it sent up is one part more
  part_ends : (lines : List Line) (x : Exchange) (hub : Hub) (sent : List Sent) (m : ℕ) → (m == n) ≡ true → sent ≡ hub.sent ++ close_up m x.reader → Tale plan n past None [] lines x hub → OneByOne plan (up_traffic n (past ++ sent))
  part_ends lines x hub sent m here is tale = by_tale tale
    where
      all : up_traffic n (past ++ sent) ≡ up_traffic n (past ++ hub.sent) ++ up_traffic n (close_up m x.reader)
      all = ap (λ l. up_traffic n (past ++ l)) is ∙ (ap (up_traffic n) (sym (append_assoc past hub.sent (close_up m x.reader))) ∙ ups_join n (past ++ hub.sent) (close_up m x.reader))

      closing : (h : Head) (start : Exchange) (base : List Traffic) (got : List ChainItem) (p : Passage n past None [] lines x hub h start base got) → up_traffic n (close_up m x.reader) ≡ close_behind p.went
      closing h start base got p =
          closes_so n past None [] lines x hub h start base got p x.reader refl (up_traffic n (close_up m x.reader)) (λ none. ap (λ (o : Option Reading). up_traffic n (close_up m o)) none) (λ some. by_reader x.reader some)
        where
          by_reader : (o : Option Reading) → is_some o ≡ true → up_traffic n (close_up m o) ≡ closes ∷ []
          by_reader None some = absurd (cc)
          by_reader (Some r) some = close_same n m r here

      total : (h : Head) (start : Exchange) (base : List Traffic) (got : List ChainItem) (p : Passage n past None [] lines x hub h start base got) → up_traffic n (past ++ sent) ≡ base ++ (p.went ++ close_behind p.went)
      total h start base got p = all ∙ ((λ i. p.adds i ++ closing h start base got p i) ∙ append_assoc base p.went (close_behind p.went))

      by_tale : Tale plan n past None [] lines x hub → OneByOne plan (up_traffic n (past ++ sent))
      by_tale (filtered o) =
          one_part plan o.base (up_traffic n (past ++ sent)) (record { head = o.head; first = o.start; heard = o.passage.heard; came = o.got; went = o.passage.went }) o.before
          (record {
            begun = o.begun;
            now = o.passage.was.now;
            was_heard = o.passage.was.was;
            came_first = came_front n past None [] lines x hub o.head o.start o.base o.got o.passage;
            goes = goes_of n past None [] lines x hub o.head o.start o.base o.got o.passage;
            exact = λ e. absurd (o.some e);
          }) (total o.head o.start o.base o.got o.passage)
      by_tale (plainly s) =
          one_part plan (up_traffic n s.start_hub.sent) (up_traffic n (past ++ sent)) (record { head = s.head; first = s.start; heard = s.passage.heard; came = requests_in s.deeds; went = s.passage.went }) s.before
          (record {
            begun = s.began.begun;
            now = s.passage.was.now;
            was_heard = s.passage.was.was;
            came_first = came_front n past None [] lines x hub s.head s.start (up_traffic n s.start_hub.sent) (requests_in s.deeds) s.passage;
            goes = goes_of n past None [] lines x hub s.head s.start (up_traffic n s.start_hub.sent) (requests_in s.deeds) s.passage;
            exact = λ e. exact_of plan n past None [] lines x hub s;
          }) (total s.head s.start (up_traffic n s.start_hub.sent) (requests_in s.deeds) s.passage)

  pub end_known : (place : ℕ) (room : Room) → Known plan n past room → room.jobs ≡ [] → room.reading ≡ None → position rooms.is_over room.lines ≡ Some place → Known plan n past (end_at place room)
  end_known place room k jobless quiet at = by_seek (seeks rooms.is_over room.lines)
    where
      ok : LineOk plan n past None [] room.lines (look n room.lines) room.hub
      ok = subst (λ (r : Option ReadBatch). LineOk plan n past r [] room.lines (look n room.lines) room.hub) quiet (subst (λ l. LineOk plan n past room.reading l room.lines (look n room.lines) room.hub) jobless k.line)

      by_line : (l : Line) → slice_get room.lines place ≡ Some l → rooms.is_over l ≡ true → Known plan n past (end_at place room)
      by_line l there over =
          subst (λ (o : Option Line). Known plan n past (end_with room (ended_at place o room.lines))) (sym there) (by_exchange l.exchange refl)
        where
          by_exchange : (o : Option Exchange) → l.exchange ≡ o → Known plan n past (end_with room (ended_back place room.lines (ended_in l o)))
          by_exchange None none = let never : ◌≡◌ {A = Bool} false true = ap rooms.exchange_ends (sym none) ∙ over in absurd (cc)
          by_exchange (Some x) some =
              ended_known plan n past later once k.parts (subst Tail (sym js) tail) quiet
              (subst (λ q. LineOk plan n past None q later.lines (look n later.lines) later.hub) (sym js) (by_test (l.number == n) refl))
            where
              m : Line
              m = record l { exchange = None }

              ks : List Job
              ks = done_jobs x.filters ++ jobs.Close l.number x.stays ∷ []

              later : Room
              later = end_with room (Some (l.number, x), slice_set room.lines place (record l { exchange = None }))

              js : (end_with room (Some (l.number, x), slice_set room.lines place (record l { exchange = None }))).jobs ≡ done_jobs x.filters ++ jobs.Close l.number x.stays ∷ []
              js = ap (λ q. (done_jobs x.filters ++ jobs.Close l.number x.stays ∷ []) ++ q) jobless ∙ append-nil (done_jobs x.filters ++ jobs.Close l.number x.stays ∷ [])

              tail : Tail (done_jobs x.filters ++ jobs.Close l.number x.stays ∷ [])
              tail = free_tail (done_jobs x.filters) (jobs.Close l.number x.stays ∷ []) (done_free x.filters) refl

              once : IsOnce (is_n n) (slice_set room.lines place (record l { exchange = None }))
              once = set_once (is_n n) room.lines place l (record l { exchange = None }) k.once there refl

              no_puts : pending n None (done_jobs x.filters ++ jobs.Close l.number x.stays ∷ []) ≡ []
              no_puts = append-nil (puts_of n (done_jobs x.filters ++ jobs.Close l.number x.stays ∷ [])) ∙ free_puts n (done_jobs x.filters) (jobs.Close l.number x.stays ∷ []) (done_free x.filters)

              Goal : Type 0
              Goal = LineOk plan n past None (done_jobs x.filters ++ jobs.Close l.number x.stays ∷ []) (slice_set room.lines place (record l { exchange = None })) (look n (slice_set room.lines place (record l { exchange = None })))
                  (end_with room (Some (l.number, x), slice_set room.lines place (record l { exchange = None }))).hub

              by_test : (b : Bool) → (l.number == n) ≡ b → LineOk plan n past None (done_jobs x.filters ++ jobs.Close l.number x.stays ∷ []) (slice_set room.lines place (record l { exchange = None }))
                  (look n (slice_set room.lines place (record l { exchange = None }))) (end_with room (Some (l.number, x), slice_set room.lines place (record l { exchange = None }))).hub
              by_test false other =
                  subst (λ (o : Option Line). LineOk plan n past None (done_jobs x.filters ++ jobs.Close l.number x.stays ∷ []) (slice_set room.lines place (record l { exchange = None })) o
                  (end_with room (Some (l.number, x), slice_set room.lines place (record l { exchange = None }))).hub)
                  (sym (set_other (is_n n) room.lines place l (record l { exchange = None }) there other other))
                  (line_turn plan n past [] None (done_jobs x.filters ++ jobs.Close l.number x.stays ∷ [])
                  (record {
                    pend = no_puts;
                    has = λ h. absurd h;
                    no = λ h. free_no n (done_jobs x.filters) (jobs.Close l.number x.stays ∷ []) (done_free x.filters) (other, tt);
                    refusing = λ h. absurd h;
                    none = λ h. free_none n (done_jobs x.filters) (jobs.Close l.number x.stays ∷ []) (done_free x.filters) tt;
                    once = λ h. none_once n (done_jobs x.filters ++ jobs.Close l.number x.stays ∷ []) (free_none n (done_jobs x.filters) (jobs.Close l.number x.stays ∷ []) (done_free x.filters) tt);
                    unread = refl;
                    unfresh = λ h. h;
                  }) room.lines (slice_set room.lines place (record l { exchange = None })) (look n room.lines) (look n room.lines) room.hub
                  (end_with room (Some (l.number, x), slice_set room.lines place (record l { exchange = None }))).hub refl (set_other (is_n n) room.lines place l (record l { exchange = None }) there other other)
                  (line_as_is n (look n room.lines) room.hub _ (ups_join n room.hub.sent (close_up l.number x.reader) ∙ (ap (λ t. up_traffic n room.hub.sent ++ t) (close_other n l.number x.reader other) ∙ append-nil (up_traffic n room.hub.sent)))) (λ y e. tt) ok)
              by_test true here =
                  subst (λ (o : Option Line). LineOk plan n past None (done_jobs x.filters ++ jobs.Close l.number x.stays ∷ []) (slice_set room.lines place (record l { exchange = None })) o
                  (end_with room (Some (l.number, x), slice_set room.lines place (record l { exchange = None }))).hub)
                  (sym (only_found (is_n n) (slice_set room.lines place (record l { exchange = None })) place (record l { exchange = None }) once (set_there room.lines place l (record l { exchange = None }) there) here))
                  (mine.0, record { none = no_puts; due_or = by_stays x.stays refl; idle = part_ends room.lines x room.hub _ l.number here refl busy.tale })
                where
                  mine : LineOk plan n past None [] room.lines (Some l) room.hub
                  mine = subst (λ (o : Option Line). LineOk plan n past None [] room.lines o room.hub) (only_found (is_n n) room.lines place l k.once there here) ok

                  busy : Busy plan n past None [] room.lines l.requests.due x room.hub
                  busy = subst (λ (o : Option Exchange). ExOk plan n past None [] room.lines l.requests.due o room.hub) some mine.1

                  by_stays : (b : Bool) → x.stays ≡ b → (l.requests.due ≡ head) ⊎ HasClose n (done_jobs x.filters ++ jobs.Close l.number x.stays ∷ [])
                  by_stays true stays = inl (subst (λ w. Matches w l.requests.due) (busy.staid stays) busy.matches)
                  by_stays false stays =
                      inr (free_has n (done_jobs x.filters) (jobs.Close l.number x.stays ∷ []) (done_free x.filters) (subst (λ b. HasClose n (jobs.Close l.number b ∷ [])) (sym stays) (inl here)))

      by_seek : Seeks rooms.is_over room.lines → Known plan n past (end_at place room)
      by_seek (missing absent none) = let e : ◌≡◌ {A = Option ℕ} None (Some place) = sym absent ∙ at in absurd (cc)
      by_seek (first j l found there passes seen) =
          let same : Some j ≡ Some place = sym found ∙ at in
          let is : j ≡ place = cc in
          by_line l (subst (λ (i : ℕ). slice_get room.lines i ≡ Some l) is there) passes
