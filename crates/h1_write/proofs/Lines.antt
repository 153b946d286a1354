-- All that is written of a line is read back.
use Rattle.std.proofs.Common.{◌≡◌, ℕ, Bool, List, [], ◌∷◌, ◌++◌, map, None, Some, refl, ap, subst, ◌∙◌, append_assoc}
use Rattle.std.specs.List.{flat_map}
use Rattle.h1_model.specs.Framing.{Framing, no_body, OutItem, items_wire, head_wire}
use Rattle.h1_model.specs.Framing as out
use Rattle.h1_model.specs.Head.{Head}
use Rattle.h1_model.specs.Messages.{Item, request, head, over}
use Rattle.h1_write.specs.Heads.{connection_read}
use Rattle.h1_write.specs.Lines.{OutRequest, out_wire, in_items, AreReadable, RequestLineReadBack, AreInterim, interim_out, interim_in, response_in, AnswerLineReadBack, BareAnswerLineReadBack}
use Rattle.h1_write.specs.Requests.{request_read}
use Rattle.h1_write.specs.Round.{last_bytes, body_items, stop_behind, IsReadAs, Sent, sent_wire, sent_items, AreRequests, AreInterims, bytes_at, head_at}
use Rattle.h1_write.proofs.Heads.{interim_there, with_body, without_any}
use Rattle.h1_write.proofs.Requests.{request_there}
use Rattle.h1_write.proofs.Whole.{requests_read_back, answer_read_back}

-- ---- requests

abbrev sent_of : OutRequest → Sent
sent_of q = record {
  bytes = head_wire q.framing q.head;
  item = request (request_read q.framing q.head);
  connection = connection_read q.head;
  framing = q.framing;
  pieces = q.pieces;
  ending = q.ending;
}

are_requests : (qs : List OutRequest) → AreReadable qs → AreRequests (map sent_of qs)
are_requests [] are = tt
are_requests (q ∷ qs) are = (request_there q.framing q.head are.0, are.1, are_requests qs are.2)

wires_same : (qs : List OutRequest) → flat_map sent_wire (map sent_of qs) ≡ flat_map out_wire qs
wires_same [] = refl
wires_same (q ∷ qs) = ap (λ (t : List ℕ). out_wire q ++ t) (wires_same qs)

items_same : (qs : List OutRequest) → flat_map (sent_items None) (map sent_of qs) ≡ flat_map in_items qs
items_same [] = refl
items_same (q ∷ qs) = ap (λ (t : List Item). in_items q ++ t) (items_same qs)

pub request_line_read_back : RequestLineReadBack
request_line_read_back qs ended are =
    subst (λ (t : List ℕ). IsReadAs t ended None head (flat_map in_items qs) (stop_behind ended None)) (wires_same qs)
    (subst (λ (is : List Item). IsReadAs (flat_map sent_wire (map sent_of qs)) ended None head is (stop_behind ended None)) (items_same qs)
    (requests_read_back (map sent_of qs) ended (are_requests qs are)))

-- ---- answers

-- the bytes of an interim head, and the item that it is read as
abbrev written_head : List ℕ → Head → List ℕ × Item
written_head asked g = (head_wire no_body g, interim_in asked g)

are_interims : (asked : List ℕ) (gs : List Head) → AreInterim gs → AreInterims asked (map (written_head asked) gs)
are_interims asked [] are = tt
are_interims asked (g ∷ gs) are = (interim_there asked g are.0 are.1, are_interims asked gs are.2)

heads_wire : (asked : List ℕ) (framing : Framing) (gs : List Head) (items : List OutItem)
    → flat_map bytes_at (map (written_head asked) gs) ++ items_wire framing items ≡ items_wire framing (map interim_out gs ++ items)
heads_wire asked framing [] items = refl
heads_wire asked framing (g ∷ gs) items =
    append_assoc (head_wire no_body g) (flat_map bytes_at (map (written_head asked) gs)) (items_wire framing items)
    ∙ ap (λ (t : List ℕ). head_wire no_body g ++ t) (heads_wire asked framing gs items)

heads_items : (asked : List ℕ) (gs : List Head) → map head_at (map (written_head asked) gs) ≡ map (interim_in asked) gs
heads_items asked [] = refl
heads_items asked (g ∷ gs) = ap (λ (t : List Item). interim_in asked g ∷ t) (heads_items asked gs)

-- what is read of these bytes and items is read of those
read_moved : (asked : List ℕ) (ended : Bool) (gs : List Head) (s t : List ℕ) (items : List Item) → s ≡ t
    → IsReadAs s ended (Some asked) head (map head_at (map (written_head asked) gs) ++ items) over
    → IsReadAs t ended (Some asked) head (map (interim_in asked) gs ++ items) over
read_moved asked ended gs s t items same r =
    subst (λ (u : List ℕ). IsReadAs u ended (Some asked) head (map (interim_in asked) gs ++ items) over) same
    (subst (λ (is : List Item). IsReadAs s ended (Some asked) head (is ++ items) over) (heads_items asked gs) r)

pub answer_line_read_back : AnswerLineReadBack
answer_line_read_back asked gs framing h pieces ending ended are r kind some frames suits =
    let s : Sent = record {
      bytes = head_wire framing h;
      item = response_in asked framing h;
      connection = connection_read h;
      framing = framing;
      pieces = pieces;
      ending = ending;
    } in
    read_moved asked ended gs (flat_map bytes_at (map (written_head asked) gs) ++ sent_wire s)
    (items_wire framing (map interim_out gs ++ (out.head h ∷ body_items pieces ending))) (sent_items (Some asked) s)
    (heads_wire asked framing gs (out.head h ∷ body_items pieces ending))
    (answer_read_back asked (map (written_head asked) gs) s ended (are_interims asked gs are) (with_body asked framing h r kind some frames) suits)

pub bare_answer_line_read_back : BareAnswerLineReadBack
bare_answer_line_read_back asked gs framing h ended are r kind bare =
    let s : Sent = record {
      bytes = head_wire framing h;
      item = response_in asked framing h;
      connection = connection_read h;
      framing = no_body;
      pieces = [];
      ending = last_bytes [];
    } in
    read_moved asked ended gs (flat_map bytes_at (map (written_head asked) gs) ++ sent_wire s) (items_wire framing (map interim_out gs ++ (out.head h ∷ [])))
    (sent_items (Some asked) s) (heads_wire asked framing gs (out.head h ∷ []))
    (answer_read_back asked (map (written_head asked) gs) s ended (are_interims asked gs are) (without_any asked framing h r kind bare) tt)
