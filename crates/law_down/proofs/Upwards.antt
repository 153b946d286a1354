-- What is known of what went up on a line says whether a connection up is open.
use Rattle.std.proofs.Common.{◌≡◌, ℕ, Bool, true, false, List, [], ◌∷◌, ◌++◌, map, refl, ap, ◌∙◌, sym, subst}
use Rattle.std.specs.List.{flat_map}
use Rattle.std.specs.Prelude.{Option, None, Some, is_some}
use Rattle.exchange.specs.declared.types.Exchange.{Exchange}
use Rattle.exchange.specs.declared.types.Hub.{Hub}
use Rattle.law_exchange.specs.Traffic.{Traffic, byte, closes as closing, up_traffic}
use Rattle.filter_chain.specs.declared.item.ChainItem.{ChainItem}
use Rattle.gate_io.specs.declared.event.Sent.{Sent}
use Rattle.h1_model.specs.Framing.{items_wire}
use Rattle.h1_model.specs.Framing as out
use Rattle.h1_model.specs.Head.{Head}
use Rattle.h1_model.specs.Messages.{Due}
use Rattle.h1_model.specs.Unread.{Reading}
use Rattle.worker_model.specs.Room.{Room}
use Rattle.worker_model.specs.declared.types.Job.{Job}
use Rattle.worker_model.specs.declared.types.Line.{Line}
use Rattle.worker_model.specs.declared.types.ReadBatch.{ReadBatch}
use Rattle.worker_model.specs.Plan.{Plan}
use Rattle.law_lines.specs.Requests.{GoesUp, sends_nothing, sends_request, Part, AreParts, OneByOne, close_behind, traffic_of}
use Rattle.law_lines.proofs.Looks.{look}
use Rattle.law_lines.proofs.Parts.{goes_of, closes_so}
use Rattle.law_lines.proofs.Story.{Passage, Tale, plainly, filtered, ExOk, LineOk, Known}
use Rattle.law_down.specs.InOrder.{has_up}
use Rattle.law_down.proofs.Ordering.{then_up, moves_up, ups_then, bytes_up}

abbrev any_of : List Traffic → Bool
any_of [] = false
any_of (t ∷ ts) = true

went_up : (h : Head) (first : Exchange) (t : List Traffic) → GoesUp h first t → moves_up t false ≡ Some (any_of t)
went_up h first t (sends_nothing is) = subst (λ (l : List Traffic). moves_up l false ≡ Some (any_of l)) (sym is) refl
went_up h first t (sends_request one) = subst (λ (l : List Traffic). moves_up l false ≡ Some (any_of l)) (sym one.is) (bytes_up (items_wire one.request.framing (out.head one.request.head ∷ one.items)))

closed_up : (h : Head) (first : Exchange) (t : List Traffic) → GoesUp h first t → moves_up (t ++ close_behind t) false ≡ Some false
closed_up h first t (sends_nothing is) = subst (λ (l : List Traffic). moves_up (l ++ close_behind l) false ≡ Some false) (sym is) refl
closed_up h first t (sends_request one) =
    subst (λ (l : List Traffic). moves_up (l ++ close_behind l) false ≡ Some false) (sym one.is) (wire_closed (items_wire one.request.framing (out.head one.request.head ∷ one.items)))
  where
    wire_closed : (w : List ℕ) → moves_up (map byte w ++ closing ∷ []) true ≡ Some false
    wire_closed w = ups_then (map byte w) (closing ∷ []) true ∙ ap (then_up (moves_up (closing ∷ []))) (bytes_up w)

parts_up : (plan : Plan) (parts : List Part) → AreParts plan parts → moves_up (flat_map traffic_of parts) false ≡ Some false
parts_up plan [] are = refl
parts_up plan (p ∷ parts) are =
    ups_then (traffic_of p) (flat_map traffic_of parts) false
    ∙ (ap (then_up (moves_up (flat_map traffic_of parts))) (closed_up p.head p.first p.went are.0.goes) ∙ parts_up plan parts are.1)

one_by_one_up : (plan : Plan) (total : List Traffic) → OneByOne plan total → moves_up total false ≡ Some false
one_by_one_up plan total o = ap (λ (t : List Traffic). moves_up t false) o.is ∙ parts_up plan o.parts o.are

module _ (plan : Plan) (n : ℕ) (past : List Sent) (reading : Option ReadBatch) (js : List Job) (lines : List Line) (x : Exchange) (hub : Hub) where
  passage_up : (h : Head) (first : Exchange) (base : List Traffic) (got : List ChainItem) → OneByOne plan base → Passage n past reading js lines x hub h first base got
      → moves_up (up_traffic n (past ++ hub.sent)) false ≡ Some (is_some x.reader)
  passage_up h first base got before p =
      ap (λ (t : List Traffic). moves_up t false) p.adds
      ∙ (ups_then base p.went false
      ∙ (ap (then_up (moves_up p.went)) (one_by_one_up plan base before)
      ∙ (went_up h first p.went (goes_of n past reading js lines x hub h first base got p) ∙ ap Some (by_reader x.reader refl))))
    where
      none_so : (w : List Traffic) → [] ≡ close_behind w → any_of w ≡ false
      none_so [] is = refl
      none_so (t ∷ w) is = absurd (cc)

      some_so : (w : List Traffic) → closing ∷ [] ≡ close_behind w → any_of w ≡ true
      some_so [] is = absurd (cc)
      some_so (t ∷ w) is = refl

      by_reader : (o : Option Reading) → x.reader ≡ o → any_of p.went ≡ is_some x.reader
      by_reader None is = none_so p.went (closes_so n past reading js lines x hub h first base got p None is [] (λ e. refl) (λ e. absurd (cc))) ∙ sym (ap is_some is)
      by_reader (Some r) is = some_so p.went (closes_so n past reading js lines x hub h first base got p (Some r) is (closing ∷ []) (λ e. absurd (cc)) (λ e. refl)) ∙ sym (ap is_some is)

  tale_up : Tale plan n past reading js lines x hub → moves_up (up_traffic n (past ++ hub.sent)) false ≡ Some (is_some x.reader)
  tale_up (plainly s) = passage_up s.head s.start (up_traffic n s.start_hub.sent) _ s.before s.passage
  tale_up (filtered o) = passage_up o.head o.start o.base o.got o.before o.passage

abbrev pub up_at : Option Line → Bool
up_at None = false
up_at (Some l) = has_up l.exchange

-- whether one is open
pub known_up : (plan : Plan) (n : ℕ) (past : List Sent) (room : Room) → Known plan n past room → moves_up (up_traffic n (past ++ room.hub.sent)) false ≡ Some (up_at (look n room.lines))
known_up plan n past room k = by_line (look n room.lines) k.line
  where
    by_exchange : (due : Due) (o : Option Exchange) → ExOk plan n past room.reading room.jobs room.lines due o room.hub → moves_up (up_traffic n (past ++ room.hub.sent)) false ≡ Some (has_up o)
    by_exchange due None ok = one_by_one_up plan (up_traffic n (past ++ room.hub.sent)) ok.idle
    by_exchange due (Some x) ok = tale_up plan n past room.reading room.jobs room.lines x room.hub ok.tale

    by_line : (o : Option Line) → LineOk plan n past room.reading room.jobs room.lines o room.hub → moves_up (up_traffic n (past ++ room.hub.sent)) false ≡ Some (up_at o)
    by_line None ok = one_by_one_up plan (up_traffic n (past ++ room.hub.sent)) ok.1
    by_line (Some l) ok = by_exchange l.requests.due l.exchange ok.1
