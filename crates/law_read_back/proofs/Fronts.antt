-- A front of a request's bytes is read as a front of its items.
use Rattle.std.proofs.Common.{◌≡◌, ◌⊎◌, inl, inr, ℕ, zero, suc, ◌+◌, ◌-◌, ◌==◌, ◌≤◌, Bool, true, false, List, [], ◌∷◌, ◌++◌, map, length, drop, None, refl, ap, ◌∙◌, sym, subst, arith}
use Rattle.std.proofs.lemmas.Bool.Decides.{eqb_tells}
use Rattle.std.proofs.lemmas.List.{drop-append-le, length-drop}
use Rattle.std.specs.Prelude.{if◌then◌else◌}
use Rattle.h1_write.specs.Heads.{connection_read}
use Rattle.h1_write.specs.Lines.{OutRequest, out_wire, in_items}
use Rattle.h1_write.specs.Requests.{IsReadableRequest, is_for_request, request_said}
use Rattle.h1_write.specs.Round.{Ending, last_bytes, last_trailers, body_bytes, Suits, length_said, end_item, chunked_end, items_read, stop_behind, IsReadAs}
use Rattle.h1_write.proofs.Requests.{request_read_back}
use Rattle.h1_model.specs.Chunks as chunks
use Rattle.h1_model.specs.Fields.{Pair}
use Rattle.h1_model.specs.Framing.{Framing, no_body, by_length, by_chunks, by_close}
use Rattle.h1_model.specs.Head.{HeadStep, found, not_yet, refused}
use Rattle.h1_model.specs.Length.{BodyLength, nothing, exactly, chunked, until_end}
use Rattle.h1_model.specs.Messages.{Item, request, interim, response, octet, end, trailers, Placed, counted, coded, unbounded, Due, head, body, done, Stop, rest, over, refusal, item, stop, due_behind, due_after, stop_at, stop_short, malformed_status, step_from, SpellsHead, counted_step, end_step, section_step, trailers_left, IsCodedStep, StepsTo, SpellsFrom, Messages}
use Rattle.h1_model.specs.ReadingLaws.{item_at}
use Rattle.h1_model.specs.Trailers as trailing
use Rattle.h1_model.specs.Trailers.{section_cut, IsEnd}
use Rattle.h1_model.proofs.Readings.{StepsTo-unique, item_is_no_stop, same_item, Stays, item_stays}
use Rattle.law_read_back.specs.OneRequest.{requests_begun, octets_in, carried_by, IsReadAsOne}

-- ---- no body goes on until the line ends

abbrev IsBounded : Due → Type 0
IsBounded head = Unit {0}
IsBounded (body (counted n)) = Unit {0}
IsBounded (body (coded connection place)) = Unit {0}
IsBounded (body unbounded) = ⊥
IsBounded done = Unit {0}

abbrev HasBound : Item → Type 0
HasBound (request h) = h.length ≡ until_end → ⊥
HasBound (interim h) = Unit {0}
HasBound (response h) = Unit {0}
HasBound (octet b) = Unit {0}
HasBound end = Unit {0}
HasBound (trailers fields) = Unit {0}

abbrev HaveBounds : List Item → Type 0
HaveBounds [] = Unit {0}
HaveBounds (i ∷ items) = HasBound i × HaveBounds items

behind_bounded : (connection : List (List ℕ)) (len : BodyLength) → (len ≡ until_end → ⊥) → IsBounded (due_behind head connection len)
behind_bounded connection nothing other = tt
behind_bounded connection (exactly n) other = tt
behind_bounded connection chunked other = tt
behind_bounded connection until_end other = absurd (other refl)

-- ---- an item of a text that has ended is one of a text that goes on, where nothing goes on until the line ends

-- and what is due after it
record Unended (due : Due) (text : List ℕ) (i : Item) (used : ℕ) (next : Due) : Type 0 where
  there : StepsTo false None due text (item i used next)
  bounded : HasBound i → IsBounded next

same_due : (i j : Item) (n m : ℕ) (d e : Due) → IsBounded e → item i n d ≡ item j m e → IsBounded d
same_due i j n m d e is same = subst IsBounded (sym (same_item i j n m d e same).2) is

head_unended : (ended : Bool) (text : List ℕ) (i : Item) (used : ℕ) (next : Due) (h : HeadStep) → SpellsHead None text h → item i used next ≡ step_from ended None text h → Unended head text i used next
head_unended ended text i used next (found h n) spells is = record {
  there = (found h n, spells, is);
  bounded = λ b. subst IsBounded (sym (same_item i (request h) used n next (due_after h) is).2)
      (behind_bounded h.connection h.length (subst HasBound (same_item i (request h) used n next (due_after h) is).0 b));
}
head_unended ended text i used next not_yet spells is = absurd (item_is_no_stop i used next (stop_at ended None text) is)
head_unended ended text i used next (refused n) spells is = absurd (item_is_no_stop i used next (refusal n) is)

counted_unended : (ended : Bool) (n : ℕ) (text : List ℕ) (i : Item) (used : ℕ) (next : Due) → item i used next ≡ counted_step ended None n text → Unended (body (counted n)) text i used next
counted_unended ended zero text i used next is = record { there = is; bounded = λ b. same_due i end used 0 next head tt is }
counted_unended ended (suc n) [] i used next is = absurd (item_is_no_stop i used next (stop_short ended None) is)
counted_unended ended (suc n) (b ∷ text) i used next is = record { there = is; bounded = λ c. same_due i (octet b) used 1 next (body (counted n)) tt is }

end_bounded : (i : Item) (used n : ℕ) (next : Due) (fields : List Pair) → item i used next ≡ end_step None n fields → IsBounded next
end_bounded i used n next [] is = same_due i end used n next head tt is
end_bounded i used n next (f ∷ fields) is = same_due i (trailers (f ∷ fields)) used n next head tt is

coded_unended : (ended : Bool) (connection : List (List ℕ)) (place : chunks.Place) (text : List ℕ) (i : Item) (used : ℕ) (next : Due) (s : chunks.Sought) → chunks.sought place text ≡ s
    → IsCodedStep ended None connection text s (item i used next) → Unended (body (coded connection place)) text i used next
coded_unended ended connection place text i used next (chunks.data_at at left) at_is is = record {
  there = subst (λ (s : chunks.Sought). IsCodedStep false None connection text s (item i used next)) (sym at_is) is;
  bounded = λ b. same_due i (octet _) used (at + 1) next (body (coded connection (chunks.inside (left - 1)))) tt is;
}
coded_unended ended connection place text i used next (chunks.section_at at) at_is is = by_step is.0 is.1 is.2
  where
    by_step : (c : trailing.ChunkStep) → IsEnd at (drop at text) (section_cut (drop at text)) c → item i used next ≡ section_step ended None connection c → Unended (body (coded connection place)) text i used next
    by_step (trailing.carried run) it e = absurd (item_is_no_stop i used next rest e)
    by_step (trailing.ended fields n) it e =
        let here : IsCodedStep false None connection text (chunks.section_at at) (item i used next) = (trailing.ended fields n, it, e) in
        record {
          there = subst (λ (s : chunks.Sought). IsCodedStep false None connection text s (item i used next)) (sym at_is) here;
          bounded = λ b. end_bounded i used n next (trailers_left None connection fields) e;
        }
    by_step trailing.not_yet it e = absurd (item_is_no_stop i used next (stop_short ended None) e)
    by_step (trailing.refused n) it e = absurd (item_is_no_stop i used next (malformed_status None) e)
coded_unended ended connection place text i used next chunks.waiting at_is is = absurd (item_is_no_stop i used next (stop_short ended None) is)
coded_unended ended connection place text i used next chunks.malformed at_is is = absurd (item_is_no_stop i used next (malformed_status None) is)

unended : (ended : Bool) (due : Due) (text : List ℕ) (i : Item) (used : ℕ) (next : Due) → IsBounded due → StepsTo ended None due text (item i used next) → Unended due text i used next
unended ended head text i used next is x = head_unended ended text i used next x.0 x.1 x.2
unended ended (body (counted n)) text i used next is x = counted_unended ended n text i used next x
unended ended (body (coded connection place)) text i used next is x = coded_unended ended connection place text i used next (chunks.sought place text) refl x
unended ended (body unbounded) text i used next is x = absurd is
unended ended done text i used next is x = absurd (item_is_no_stop i used next over x)

-- ---- a front is read as a front

abbrev IsFirst : List Item → List Item → Type 0
IsFirst xs ys = (behind : List Item) × (xs ++ behind ≡ ys)

first_more : (i j : Item) (xs ys : List Item) → i ≡ j → IsFirst xs ys → IsFirst (i ∷ xs) (j ∷ ys)
first_more i j xs ys same f = (f.0, (λ k. same k ∷ f.1 k))

fronts : (sent more : List ℕ) (ended after : Bool) (due : Due) (at : ℕ) (xs ys : List Placed) (why reason : Stop) → at ≤ length sent → IsBounded due → HaveBounds (map item_at ys)
    → SpellsFrom sent ended None due at xs why → SpellsFrom (sent ++ more) after None due at ys reason → IsFirst (map item_at xs) (map item_at ys)
fronts sent more ended after due at [] ys why reason within bounded bounds x y = (map item_at ys, refl)
fronts sent more ended after due at (p ∷ xs) ys why reason within bounded bounds x y = by_others ys bounds y
    (λ next n zs inside next_bounded zs_bounds x_on y_on. fronts sent more ended after next n xs zs why reason inside next_bounded zs_bounds x_on y_on)
  where
    u : Unended due (drop at sent) p.item x.0 x.1
    u = unended ended due (drop at sent) p.item x.0 x.1 bounded x.2

    s : Stays after None due (drop at sent) more p.item x.0 x.1
    s = item_stays after None due (drop at sent) more p.item x.0 x.1 u.there

    there : StepsTo after None due (drop at (sent ++ more)) (item p.item x.0 x.1)
    there = subst (λ (t : List ℕ). StepsTo after None due t (item p.item x.0 x.1)) (sym (drop-append-le at sent more within)) s.there

    by_others : (zs : List Placed) → HaveBounds (map item_at zs) → SpellsFrom (sent ++ more) after None due at zs reason
        → ((next : Due) (n : ℕ) (ys : List Placed) → n ≤ length sent → IsBounded next → HaveBounds (map item_at ys) → SpellsFrom sent ended None next n xs why → SpellsFrom (sent ++ more) after None next n ys reason
        → IsFirst (map item_at xs) (map item_at ys))
        → IsFirst (map item_at (p ∷ xs)) (map item_at zs)
    by_others [] b z go = absurd (item_is_no_stop p.item x.0 x.1 reason (StepsTo-unique after None due (drop at (sent ++ more)) (item p.item x.0 x.1) (stop reason) there z))
    by_others (q ∷ zs) b z go =
        let same = same_item p.item q.item x.0 z.0 x.1 z.1 (StepsTo-unique after None due (drop at (sent ++ more)) (item p.item x.0 x.1) (item q.item z.0 z.1) there z.2) in
        let next : IsBounded x.1 = u.bounded (subst HasBound (sym same.0) b.0) in
        let inside : at + x.0 ≤ length sent = omega (arith, s.fits, length-drop at sent, within) in
        let used_moved : SpellsFrom (sent ++ more) after None z.1 (at + x.0) zs reason = subst (λ (n : ℕ). SpellsFrom (sent ++ more) after None z.1 (at + n) zs reason) (sym same.1) z.5 in
        let moved : SpellsFrom (sent ++ more) after None x.1 (at + x.0) zs reason = subst (λ (d : Due). SpellsFrom (sent ++ more) after None d (at + x.0) zs reason) (sym same.2) used_moved in
        first_more p.item q.item (map item_at xs) (map item_at zs) same.0 (go x.1 (at + x.0) zs inside next b.1 x.5 moved)

-- ---- the items of a request

octets_bounded : (bytes : List ℕ) (last : Item) → HasBound last → HaveBounds (map octet bytes ++ last ∷ [])
octets_bounded [] last is = (is, tt)
octets_bounded (b ∷ bytes) last is = (tt, octets_bounded bytes last is)

octets_begun : (bytes : List ℕ) (last : Item) → requests_begun (last ∷ []) ≡ 0 → requests_begun (map octet bytes ++ last ∷ []) ≡ 0
octets_begun [] last is = is
octets_begun (b ∷ bytes) last is = octets_begun bytes last is

begun_join : (a b : List Item) → requests_begun (a ++ b) ≡ requests_begun a + requests_begun b
begun_join [] b = omega arith
begun_join (request h ∷ a) b = omega (arith, begun_join a b)
begun_join (interim h ∷ a) b = begun_join a b
begun_join (response h ∷ a) b = begun_join a b
begun_join (octet c ∷ a) b = begun_join a b
begun_join (end ∷ a) b = begun_join a b
begun_join (trailers fields ∷ a) b = begun_join a b

-- in a front of items in which one request begins, at most one begins
pub few_begin : (front behind all : List Item) → front ++ behind ≡ all → requests_begun all ≡ 1 → requests_begun front ≤ 1
few_begin front behind all is one = omega (arith, begun_join front behind, ap requests_begun is, one)

octets_all : (bytes : List ℕ) (last : Item) → octets_in (last ∷ []) ≡ [] → octets_in (map octet bytes ++ last ∷ []) ≡ bytes
octets_all [] last is = is
octets_all (b ∷ bytes) last is = ap (λ l. b ∷ l) (octets_all bytes last is)

-- the end of a body has no bytes, and begins no request
record IsEndItem (i : Item) : Type 0 where
  bound : HasBound i
  begins : requests_begun (i ∷ []) ≡ 0
  bytes : octets_in (i ∷ []) ≡ []

end_is : (fields : List Pair) → IsEndItem (end_item fields)
end_is [] = record { bound = tt; begins = refl; bytes = refl }
end_is (f ∷ fields) = record { bound = tt; begins = refl; bytes = refl }

chunked_end_is : (connection : List (List ℕ)) (ending : Ending) → IsEndItem (chunked_end None connection ending)
chunked_end_is connection (last_bytes bytes) = record { bound = tt; begins = refl; bytes = refl }
chunked_end_is connection (last_trailers fields) = end_is _

record AreBody (items : List Item) (bytes : List ℕ) : Type 0 where
  bounds : HaveBounds items
  begins : requests_begun items ≡ 0
  all : octets_in items ≡ bytes

with_end : (bytes : List ℕ) (last : Item) → IsEndItem last → AreBody (map octet bytes ++ last ∷ []) bytes
with_end bytes last is = record { bounds = octets_bounded bytes last is.bound; begins = octets_begun bytes last is.begins; all = octets_all bytes last is.bytes }

ended_is : IsEndItem end
ended_is = record { bound = tt; begins = refl; bytes = refl }

no_bytes : (bytes : List ℕ) → length bytes ≡ 0 → [] ≡ bytes
no_bytes [] is = refl
no_bytes (b ∷ bytes) is = absurd (omega arith)

is_zero : (n : ℕ) → (n == 0) ≡ true → n ≡ 0
is_zero n is = by_test (eqb_tells n 0)
  where
    by_test : (((n == 0) ≡ true) × (n ≡ 0)) ⊎ (((n == 0) ≡ false) × (n ≡ 0 → ⊥)) → n ≡ 0
    by_test (inl e) = e.1
    by_test (inr e) = let never : ◌≡◌ {A = Bool} true false = sym is ∙ e.0 in absurd (cc)

body_is : (connection : List (List ℕ)) (framing : Framing) (pieces : List (List ℕ)) (ending : Ending) → Suits framing pieces ending false [] → is_for_request framing ≡ true
    → AreBody (items_read None connection (length_said framing) pieces ending) (carried_by framing pieces ending)
body_is connection no_body pieces ending suits is = record { bounds = tt; begins = refl; all = refl }
body_is connection (by_length n) pieces ending suits is = by_zero (n == 0) refl
  where
    by_zero : (b : Bool) → (n == 0) ≡ b → AreBody (items_read None connection (if b then nothing else exactly n) pieces ending) (body_bytes pieces ending)
    by_zero true zero_is = record { bounds = tt; begins = refl; all = no_bytes (body_bytes pieces ending) (suits ∙ is_zero n zero_is) }
    by_zero false other = with_end (body_bytes pieces ending) end ended_is
body_is connection by_chunks pieces ending suits is = with_end (body_bytes pieces ending) (chunked_end None connection ending) (chunked_end_is connection ending)
body_is connection by_close pieces ending suits is = absurd (cc)

-- ---- the law

-- whether or not more may come, where the line does not tell the end
suits_any : (framing : Framing) (pieces : List (List ℕ)) (ending : Ending) (ended : Bool) → is_for_request framing ≡ true → Suits framing pieces ending false [] → Suits framing pieces ending ended []
suits_any no_body pieces ending ended is suits = suits
suits_any (by_length n) pieces ending ended is suits = suits
suits_any by_chunks pieces ending ended is suits = suits
suits_any by_close pieces ending ended is suits = absurd (cc)

said_bound : (framing : Framing) → (request_said framing).length ≡ until_end → ⊥
said_bound no_body is = absurd (cc)
said_bound (by_length n) is = by_zero (n == 0) is
  where
    by_zero : (b : Bool) → (if b then nothing else exactly n) ≡ until_end → ⊥
    by_zero true e = absurd (cc)
    by_zero false e = absurd (cc)
said_bound by_chunks is = absurd (cc)
said_bound by_close is = absurd (cc)

pub read_as_one : (q : OutRequest) (sent more : List ℕ) → sent ++ more ≡ out_wire q → IsReadableRequest q.framing q.head → Suits q.framing q.pieces q.ending false [] → IsReadAsOne q sent
read_as_one q sent more front readable suits = record {
  front = λ ended items why reads. by_front ended items why reads;
  few = λ ended items why reads. let f = by_front ended items why reads in few_begin (map item_at items) f.0 (in_items q) f.1 (ap suc b.begins);
  whole = λ all ended. subst (λ (t : List ℕ). IsReadAs t ended None head (in_items q) (stop_behind ended None)) (sym all) (read ended);
  one = ap suc b.begins;
  carried = b.all;
}
  where
    b : AreBody (items_read None (connection_read q.head) (length_said q.framing) q.pieces q.ending) (carried_by q.framing q.pieces q.ending)
    b = body_is (connection_read q.head) q.framing q.pieces q.ending suits readable.framed

    read : (ended : Bool) → IsReadAs (out_wire q) ended None head (in_items q) (stop_behind ended None)
    read ended = request_read_back q.framing q.head q.pieces q.ending ended readable (suits_any q.framing q.pieces q.ending ended readable.framed suits)

    bounds : HaveBounds (in_items q)
    bounds = (said_bound q.framing, b.bounds)

    by_front : (ended : Bool) (items : List Placed) (why : Stop) → Messages sent ended None items why → IsFirst (map item_at items) (in_items q)
    by_front ended items why reads =
        let r : IsReadAs (out_wire q) false None head (in_items q) (stop_behind false None) = read false in
        let spelled : SpellsFrom (sent ++ more) false None head 0 r.placed (stop_behind false None) = subst (λ (t : List ℕ). SpellsFrom t false None head 0 r.placed (stop_behind false None)) (sym front) r.spelled in
        subst (λ (l : List Item). IsFirst (map item_at items) l) r.are
        (fronts sent more ended false head 0 items r.placed why (stop_behind false None) (omega arith) tt (subst HaveBounds (sym r.are) bounds) reads spelled)

-- one request begins among its items
pub one_begins : (q : OutRequest) → is_for_request q.framing ≡ true → Suits q.framing q.pieces q.ending false [] → requests_begun (in_items q) ≡ 1
one_begins q framed suits = ap suc (body_is (connection_read q.head) q.framing q.pieces q.ending suits framed).begins
