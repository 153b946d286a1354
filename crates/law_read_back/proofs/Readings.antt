-- What went up over turns is read as one request, exchange by exchange.
use Rattle.std.proofs.Common.{◌≡◌, ℕ, true, not, List, [], ◌∷◌, ◌++◌, ap, ◌∙◌, sym, subst}
use Rattle.std.proofs.lemmas.List.{append-nil}
use Rattle.std.specs.Prelude.{Option, None, Some, bytes_eq, codes}
use Rattle.std.specs.List.{list_all}
use Rattle.exchange.specs.declared.types.Exchange.{Exchange}
use Rattle.exchange.specs.Heads.{path_of as route_path, route_in, up_tail}
use Rattle.exchange.specs.Leaving.{request_framing}
use Rattle.law_exchange.specs.Traffic.{Traffic}
use Rattle.h1_write.specs.Heads.{IsTail, IsInLimit}
use Rattle.h1_write.specs.Lines.{OutRequest, out_wire}
use Rattle.h1_write.specs.Requests.{IsReadableRequest, is_for_request}
use Rattle.header_maps.specs.Kept.{IsHeaders}
use Rattle.h1_model.specs.Fields.{Pair}
use Rattle.h1_model.specs.Framing.{Framing, OutItem, items_wire}
use Rattle.h1_model.specs.Framing as out
use Rattle.h1_model.specs.Head.{Head}
use Rattle.store_model.specs.Made.{Made}
use Rattle.worker_model.specs.Plan.{Plan}
use Rattle.worker_model.specs.Steps.{exchange_for, exchange_on}
use Rattle.worker_model.specs.Room.{Room}
use Rattle.law_lines.specs.Requests.{IsBegun, IsMadeOf, IsOneRequest, GoesUp, sends_nothing, sends_request, IsAllOfOne, Part, AreParts, OneByOne, IsOpen, GoesUpBy}
use Rattle.law_lines.proofs.Product.{requests_of_the_product_go_up}
use Rattle.law_lines.proofs.Turning.{all_go_up_one_by_one}
use Rattle.law_lines.proofs.Wholly.{workers_go_up}
use Rattle.law_read_back.specs.Laws.{RequestsAreReadAsOne, RequestsOfWorkersAreReadAsOne, RequestsOfTheProductAreReadAsOne}
use Rattle.law_read_back.specs.OneRequest.{IsWritten}
use Rattle.law_read_back.specs.Sent.{bytes_in, IsRequestList, IsTakenIn, IsReadAsAny, IsReadFront, IsRead, nothing_went, one_went, IsReadWhole, AreRead, EachIsRead, OpenIsRead, ReadBy}
use Rattle.law_read_back.proofs.Fronts.{read_as_one}
use Rattle.law_read_back.proofs.Heads.{readable_of, never_two}
use Rattle.law_read_back.proofs.Measures.{IsFramed, up_framed, IsUpTail, tail_is}
use Rattle.law_read_back.proofs.Sends.{bytes_are, whole_suits, Completed, completed, front_wire}

-- ---- a head that was made is one that a reader takes in

module _ (plan : Plan) (h : Head) (first : Exchange) (begun : IsBegun plan h first) where
  framed : IsFramed (request_framing first)
  framed =
      let of : Exchange = exchange_for plan begun.place begun.now begun.dead h (route_in plan.routes (route_path h.fields)) in
      subst (λ (y : Exchange). IsFramed (request_framing y)) (sym begun.is) (up_framed of.filters_requests h begun.judged)

  written : (q : OutRequest) (made : IsMadeOf h first q) → IsRequestList made.fields → IsWritten q.framing q.head
  written q made listed =
      let t : IsUpTail (up_tail h.minor) = tail_is h.minor in
      record {
        kind = ap (λ (k : Head). k.fields.kind) made.head ∙ listed.kind;
        list = subst (λ (k : Head). IsHeaders k.fields) (sym made.head) listed.list;
        tail = subst (λ (k : Head). IsTail k.tail.pairs) (sym made.head) t.tail;
        no_host = subst (λ (k : Head). list_all (λ (p : Pair). not (bytes_eq p.0 (codes "host"))) k.tail.pairs ≡ true) (sym made.head) t.no_host;
        framed = subst (λ (f : Framing). is_for_request f ≡ true) (sym made.framing) framed.for_request;
        told = subst IsInLimit (sym made.framing) framed.limit;
      }

  readable : (q : OutRequest) (made : IsMadeOf h first q) → IsTakenIn made.fields q → IsReadableRequest q.framing q.head
  readable q made taken = readable_of q.framing q.head (written q made taken.listed) taken.target taken.room.few taken.room.short

  -- ---- of every request that is named

  any_read : (t : List Traffic) → IsReadAsAny h first t
  any_read t = record {
    never = λ q made front listed carries. never_two q (bytes_in t) front.0 front.1 (written q made listed) (whole_suits q.framing q.pieces q.ending carries);
    read = λ q made front taken carries. read_as_one q (bytes_in t) front.0 front.1 (readable q made taken) (whole_suits q.framing q.pieces q.ending carries);
  }

  -- ---- a front of it, and all of it

  front_read : (t : List Traffic) → IsOneRequest h first t → IsReadFront h first t
  front_read t r = record {
    request = q;
    made = made;
    items = r.items;
    front = c.front;
    is = r.is;
    bytes = (items_wire q.framing c.front.0, joined);
    never = λ listed carries. never_two q (bytes_in t) (items_wire q.framing c.front.0) joined (written q made listed) (c.suits carries);
    read = λ taken carries. read_as_one q (bytes_in t) (items_wire q.framing c.front.0) joined (readable q made taken) (c.suits carries);
    any = any_read t;
  }
    where
      c : Completed r.request.framing r.items
      c = completed r.request.framing r.items r.request.pieces r.request.ending r.front

      q : OutRequest
      q = record { framing = r.request.framing; head = r.request.head; pieces = c.pieces; ending = c.ending }

      made : IsMadeOf h first q
      made = record { fields = r.made.fields; head = r.made.head; framing = r.made.framing }

      joined : bytes_in t ++ items_wire q.framing c.front.0 ≡ out_wire q
      joined =
          ap (λ l. l ++ items_wire q.framing c.front.0) (ap bytes_in r.is ∙ bytes_are (items_wire q.framing (out.head q.head ∷ r.items)))
          ∙ front_wire q r.items c.front

  part_read : (t : List Traffic) → GoesUp h first t → IsRead h first t
  part_read t (sends_nothing none) = nothing_went none
  part_read t (sends_request r) = one_went (front_read t r)

  whole_read : (t : List Traffic) → IsAllOfOne h first t → IsReadWhole h first t
  whole_read t a = record {
    request = a.request;
    made = a.made;
    is = a.is;
    bytes = all;
    read = λ taken carries.
        read_as_one a.request (bytes_in t) [] (append-nil (bytes_in t) ∙ all) (readable a.request a.made taken) (whole_suits a.request.framing a.request.pieces a.request.ending carries);
    any = any_read t;
  }
    where
      all : bytes_in t ≡ out_wire a.request
      all = ap bytes_in a.is ∙ bytes_are (out_wire a.request)

-- ---- exchange by exchange

parts_read : (plan : Plan) (parts : List Part) → AreParts plan parts → AreRead parts
parts_read plan [] are = tt
parts_read plan (p ∷ parts) are = (part_read plan p.head p.first are.0.begun p.went are.0.goes, parts_read plan parts are.1)

each_read : (plan : Plan) (total : List Traffic) → OneByOne plan total → EachIsRead plan total
each_read plan total o = record { parts = o.parts; are = o.are; is = o.is; read = parts_read plan o.parts o.are }

open_read : (plan : Plan) (n : ℕ) (room : Room) (x : Exchange) (total : List Traffic) → IsOpen plan n room x total → OpenIsRead plan n room x total
open_read plan n room x total o = record {
  on = o;
  before = each_read plan o.before o.one_by_one;
  read = part_read plan o.head o.first o.begun o.went o.goes;
  all = λ live empty whole. whole_read plan o.head o.first o.begun o.went (o.all live empty whole);
}

read_by : (plan : Plan) (n : ℕ) (room : Room) (o : Option Exchange) (total : List Traffic) → GoesUpBy plan n room o total → ReadBy plan n room o total
read_by plan n room None total goes = each_read plan total goes
read_by plan n room (Some x) total goes = open_read plan n room x total goes

-- ---- over turns

pub requests_are_read : (H : Type 0) → RequestsAreReadAsOne H
requests_are_read H calling plan contexts host turns to n low logs turned =
    read_by plan n to.room (exchange_on n to.room) _ (all_go_up_one_by_one H calling plan contexts host turns to n low logs turned)

pub requests_of_workers_are_read : (H S : Type 0) (performs : S → List Made → S → Type 0) → RequestsOfWorkersAreReadAsOne H S performs
requests_of_workers_are_read H S performs calling exported registering config who seed host sent to n http low logs worked =
    read_by _ n to.state.room (exchange_on n to.state.room) _ (workers_go_up H S performs calling exported registering config who seed host sent to n http low logs worked)

pub requests_of_the_product_are_read : (S : Type 0) (performs : S → List Made → S → Type 0) → RequestsOfTheProductAreReadAsOne S performs
requests_of_the_product_are_read S performs config who seed host sent to n http low worked =
    read_by _ n to.state.room (exchange_on n to.state.room) _ (requests_of_the_product_go_up S performs config who seed host sent to n http low worked)
