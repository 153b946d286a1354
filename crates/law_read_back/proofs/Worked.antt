-- The worked request of a filter, and what is refused, by computation.
use Rattle.std.proofs.Common.{◌≡◌, ◌≤◌, ℕ, Bool, true, false, List, [], ◌∷◌, ◌++◌, map, length, None, codes, refl, ap, ◌∙◌, sym, subst, arith, lit≤}
use Rattle.std.proofs.lemmas.List.{append-nil, append_assoc}
use Rattle.std.specs.Fmt.{digits}
use Rattle.http_header.specs.Token as token
use Rattle.http_uri.proofs.OnLiterals.{http_uri_on_literals}
use Rattle.httparse.proofs.OnLiterals.{httparse_on_literals}
use Rattle.header_maps.specs.Kept.{IsHeaders}
use Rattle.h1_head.proofs.Origin.{plain_reads}
use Rattle.h1_write.specs.Lines.{OutRequest, out_wire}
use Rattle.h1_write.specs.Requests.{IsReadableRequest, own_target}
use Rattle.h1_write.specs.Round.{body_items, IsReadAs}
use Rattle.h1_write.proofs.Lines.{request_line_read_back}
use Rattle.h1_write.proofs.Requests.{request_head_read_back}
use Rattle.h1_model.specs.Examples.{worked_wire}
use Rattle.h1_model.specs.Framing.{by_length, by_chunks, head_wire}
use Rattle.h1_model.specs.Messages.{Placed, Stop, head, rest, SpellsFrom, Messages}
use Rattle.h1_model.specs.ReadingLaws.{item_at}
use Rattle.h1_model.specs.Target.{GivesTarget}
use Rattle.h1_model.specs.Head.{found, SpellsStep}
use Rattle.h1_model.proofs.Examples.{slash_target}
use Rattle.h1_model.proofs.Readings.{step_stays}
use Rattle.law_lines.specs.Examples.{worked_request}
use Rattle.law_lines.specs.Requests.{IsJudged, HasRoom}
use Rattle.law_read_back.specs.Examples.{short_post, overrun, two_items, odd_fields, odd_request, asked_head, asked_text, posted, made_fields, made_request, made_wire, cut_request, cut_text, FilterExample, RefusedReadings}
use Rattle.law_read_back.specs.OneRequest.{requests_begun, IsNeverTwo, IsReadAsOne}
use Rattle.law_read_back.specs.Sent.{IsTakenIn, Carries}
use Rattle.law_read_back.proofs.Fronts.{read_as_one}
use Rattle.law_read_back.proofs.Heads.{never_two}
use Rattle.law_read_back.proofs.Measures.{IsUpTail, tail_is}
use Rattle.law_read_back.proofs.Sends.{whole_suits}

-- ---- what comes

pub asked_list : IsHeaders asked_head.fields
unfolding httparse_on_literals token.is_token_byte
asked_list = record {
  shape = (record { name_is = refl; value = refl }, (record { name_is = refl; value = refl }, (record { name_is = refl; value = refl }, (record { name_is = refl; value = refl }, record { kept = refl; few = lit≤ tt }))));
  short = refl;
}

asked_readable : IsReadableRequest (by_length 2) asked_head
unfolding httparse_on_literals token.is_token_byte digits
asked_readable = record {
  kind = refl;
  list = asked_list;
  target = slash_target (codes "POST");
  tail = record { kept = refl; plain = refl };
  no_host = refl;
  framed = refl;
  told = lit≤ tt;
  few = lit≤ tt;
  short = lit≤ tt;
}

pub posted_judged : IsJudged posted
posted_judged = record { text = head_wire (by_length 2) asked_head; used = length (head_wire (by_length 2) asked_head); spells = request_head_read_back (by_length 2) asked_head asked_readable }

asked_is : head_wire (by_length 2) asked_head ≡ asked_text
unfolding httparse_on_literals token.is_token_byte digits
asked_is = refl

-- and so it is with its body after it
pub posted_spelled : SpellsStep (asked_text ++ codes "ab") (found posted 47)
posted_spelled =
    step_stays None asked_text (codes "ab") (found posted 47)
    (subst (λ (t : List ℕ). SpellsStep t (found posted (length t))) asked_is (request_head_read_back (by_length 2) asked_head asked_readable)) (λ e. cc)

-- ---- what goes up

made_list : IsHeaders made_fields
unfolding httparse_on_literals token.is_token_byte
made_list = record {
  shape = (record { name_is = refl; value = refl }, (record { name_is = refl; value = refl }, (record { name_is = refl; value = refl }, (record { name_is = refl; value = refl }, record { kept = refl; few = lit≤ tt }))));
  short = refl;
}

made_target : GivesTarget (codes "POST") (codes "/b?c=1") (own_target (codes "/b?c=1"))
unfolding httparse_on_literals http_uri_on_literals
made_target = record { scheme = None; authority = None; kept = codes "/b?c=1"; reads = plain_reads (codes "/b?c=1") (record { value = refl; path = refl; query = refl; short = lit≤ tt }); gives = refl }

made_room : HasRoom made_request
unfolding httparse_on_literals token.is_token_byte digits
made_room = record { few = lit≤ tt; short = lit≤ tt }

pub made_taken : IsTakenIn made_fields made_request
unfolding httparse_on_literals
made_taken = record { listed = record { kind = refl; list = made_list }; target = made_target; room = made_room }

pub made_carries : Carries by_chunks (body_items made_request.pieces made_request.ending)
made_carries = (refl, tt)

parted_taken : IsTakenIn made_fields cut_request
parted_taken = record { listed = made_taken.listed; target = made_taken.target; room = record { few = made_room.few; short = made_room.short } }

parted_carries : Carries by_chunks (body_items cut_request.pieces cut_request.ending)
parted_carries = (refl, tt)

made_readable : IsReadableRequest by_chunks made_request.head
made_readable =
    let t : IsUpTail made_request.head.tail.pairs = tail_is 1 in
    record {
      kind = refl;
      list = made_list;
      target = made_taken.target;
      tail = t.tail;
      no_host = t.no_host;
      framed = refl;
      told = tt;
      few = made_room.few;
      short = made_room.short;
    }

pub made_is : out_wire made_request ≡ made_wire
unfolding httparse_on_literals token.is_token_byte digits
made_is = refl

parted_is : out_wire cut_request ≡ cut_text
unfolding httparse_on_literals token.is_token_byte digits
parted_is = refl

parted_read : IsReadAsOne cut_request cut_text
parted_read = read_as_one cut_request cut_text [] (append-nil cut_text ∙ sym parted_is) made_readable (whole_suits by_chunks cut_request.pieces cut_request.ending parted_carries)

pub made_read : IsReadAsOne made_request made_wire
made_read = read_as_one made_request made_wire [] (append-nil made_wire ∙ sym made_is) made_readable (whole_suits by_chunks made_request.pieces made_request.ending made_carries)

pub filter_example : FilterExample
filter_example = record {
  text = asked_is;
  judged = posted_judged;
  filtered = refl;
  made = record { fields = made_fields; head = refl; framing = refl };
  fields = refl;
  taken = made_taken;
  carries = made_carries;
  wire = made_is;
  read = made_read;
  cut_made = record { fields = made_fields; head = refl; framing = refl };
  cut_fields = refl;
  cut_taken = parted_taken;
  cut_carries = parted_carries;
  cut_is = parted_is;
  cut_read = parted_read;
}

-- ---- what is refused

worked_list : IsHeaders worked_request.head.fields
unfolding httparse_on_literals token.is_token_byte
worked_list = record {
  shape = (record { name_is = refl; value = refl }, (record { name_is = refl; value = refl }, (record { name_is = refl; value = refl }, (record { name_is = refl; value = refl }, record { kept = refl; few = lit≤ tt }))));
  short = refl;
}

worked_readable : IsReadableRequest worked_request.framing worked_request.head
unfolding httparse_on_literals token.is_token_byte
worked_readable = record {
  kind = refl;
  list = worked_list;
  target = slash_target (codes "GET");
  tail = (tail_is 1).tail;
  no_host = (tail_is 1).no_host;
  framed = refl;
  told = tt;
  few = lit≤ tt;
  short = lit≤ tt;
}

worked_is : out_wire worked_request ≡ worked_wire
unfolding httparse_on_literals token.is_token_byte
worked_is = refl

two_worked : List OutRequest
two_worked = worked_request ∷ worked_request ∷ []

-- a reader reads both, so what is said of all that it reads is refused
two_begin : ((ended : Bool) (items : List Placed) (why : Stop) → Messages (worked_wire ++ worked_wire) ended None items why → requests_begun (map item_at items) ≤ 1) → ⊥
unfolding two_worked
two_begin few =
    let r = request_line_read_back two_worked false (worked_readable, tt, (worked_readable, tt, tt)) in
    let same : out_wire worked_request ++ (out_wire worked_request ++ []) ≡ worked_wire ++ worked_wire = (λ i. worked_is i ++ (append-nil (worked_is i)) i) in
    let both : requests_begun (map item_at r.placed) ≡ 2 = ap requests_begun r.are in
    omega (arith, both, few false r.placed rest (subst (λ t. SpellsFrom t false None head 0 r.placed rest) same r.spelled))

two_refused : (q : OutRequest) → IsReadAsOne q (worked_wire ++ worked_wire) → ⊥
two_refused q one = two_begin one.few

twice_refused : (q : OutRequest) → IsNeverTwo q (worked_wire ++ worked_wire) → ⊥
twice_refused q never = two_begin never.few

-- ---- a body of more bytes than are told

short_room : HasRoom short_post
unfolding httparse_on_literals token.is_token_byte digits
short_room = record { few = lit≤ tt; short = lit≤ tt }

short_readable : IsReadableRequest (by_length 2) short_post.head
short_readable =
    let t : IsUpTail short_post.head.tail.pairs = tail_is 1 in
    record {
      kind = refl;
      list = made_list;
      target = made_taken.target;
      tail = t.tail;
      no_host = t.no_host;
      framed = refl;
      told = lit≤ tt;
      few = short_room.few;
      short = short_room.short;
    }

both_posts : List OutRequest
both_posts = short_post ∷ worked_request ∷ []

overrun_is : out_wire short_post ++ (out_wire worked_request ++ []) ≡ out_wire overrun
overrun_is =
    let head_is : List ℕ = head_wire (by_length 2) short_post.head in
    let one : out_wire short_post ≡ head_is ++ codes "ab" = refl in
    let all : out_wire overrun ≡ head_is ++ (codes "ab" ++ worked_wire) = ap (λ l. head_is ++ l) (append-nil (codes "ab" ++ worked_wire)) in
    (λ i. one i ++ (append-nil (out_wire worked_request) ∙ worked_is) i) ∙ (append_assoc head_is (codes "ab") worked_wire ∙ sym all)

overrun_is_read : IsReadAs (out_wire overrun) false None head two_items rest
unfolding both_posts
overrun_is_read = subst (λ (t : List ℕ). IsReadAs t false None head two_items rest) overrun_is (request_line_read_back both_posts false (short_readable, refl, (worked_readable, tt, tt)))

-- ---- a path that is no target

odd_list : IsHeaders odd_fields
unfolding httparse_on_literals token.is_token_byte
odd_list = record {
  shape = (record { name_is = refl; value = refl }, (record { name_is = refl; value = refl }, (record { name_is = refl; value = refl }, (record { name_is = refl; value = refl }, record { kept = refl; few = lit≤ tt }))));
  short = refl;
}

odd_never : IsNeverTwo odd_request (out_wire odd_request)
odd_never =
    let t : IsUpTail odd_request.head.tail.pairs = tail_is 1 in
    never_two odd_request (out_wire odd_request) [] (append-nil (out_wire odd_request)) (record { kind = refl; list = odd_list; tail = t.tail; no_host = t.no_host; framed = refl; told = tt }) (refl, tt)

no_truth : {A : Type 0} → ◌≡◌ {A = Bool} false true → A
no_truth is = absurd (cc)

pub refused_readings : RefusedReadings
unfolding httparse_on_literals token.is_token_byte
refused_readings = record {
  two = two_refused;
  two_never = twice_refused;
  smuggled = λ h. no_truth h.shape.1.1.1.1.kept;
  longer = λ c. omega (arith, c.0);
  longer_front = λ c. omega (arith, c.0);
  shorter = λ c. omega (arith, c.1 refl);
  overrun_uncarried = λ c. omega (arith, c.0);
  overrun_read = overrun_is_read;
  overrun_two = refl;
  odd_listed = record { kind = refl; list = odd_list };
  odd_never_two = odd_never;
}
