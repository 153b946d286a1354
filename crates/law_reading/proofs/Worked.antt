-- Worked events.
use Rattle.std.proofs.Common.{◌≡◌, ℕ, false, true, List, [], ◌∷◌, ◌++◌, length, refl, ap, ◌∙◌, sym, subst, inl, inr, lit<, lit≤, arith}
use Rattle.std.proofs.lemmas.List.{append-nil, append_assoc}
use Rattle.std.specs.Prelude.{None, codes}
use Rattle.gate_io.specs.declared.event.Side.TheVariants.{Down, Up}
use Rattle.gate_io.specs.declared.event.What.{What}
use Rattle.h1_model.proofs.Carried.{take_carries}
use Rattle.h1_model.proofs.Examples.{worked_response_is}
use Rattle.h1_model.proofs.Readings.{step_stays}
use Rattle.h1_model.specs.Examples.{worked_text, worked_response_text, worked_response}
use Rattle.h1_model.specs.Fronts.{AreFronts}
use Rattle.h1_model.specs.Head.{found}
use Rattle.h1_model.specs.Messages.{Item, response, end, counted, Due, head, body, done, Stop, item, StepsTo}
use Rattle.h1_model.specs.Unread.{head_part, piece, part, Reading, Hands, feeds, hands, none, IsNext, items_handed}
use Rattle.worker_model.specs.declared.types.Line.{Line}
use Rattle.law_reading.specs.Examples.{at_once, cut_events, woven, so_far, get, in_pieces, in_one, before_body, head_alone, IsWorked, ReadingExamples}
use Rattle.law_reading.specs.Laws.{NotOpened}
use Rattle.law_reading.specs.Spelled.{text_of_side, IsReadOf}
use Rattle.law_reading.proofs.Cuts.{cuts_do_not_matter, fronts_at_any_moment}
use Rattle.law_reading.proofs.Once.{numbers_read_once}

abbrev first_of : List ℕ → ℕ
first_of [] = 0
first_of (b ∷ bytes) = b

at_once_spelled : text_of_side 1 Down at_once ≡ worked_text ++ worked_text
at_once_spelled = append-nil (worked_text ++ worked_text)

cut_spelled : (front rest : List ℕ) → front ++ rest ≡ worked_text → text_of_side 1 Down (cut_events front rest) ≡ worked_text ++ worked_text
cut_spelled front rest whole =
    ap (λ l. (worked_text ++ front) ++ l) (append-nil rest) ∙ (append_assoc worked_text front rest ∙ ap (λ l. worked_text ++ l) whole)

once_not : NotOpened 1 at_once
once_not = ((λ e. absurd (cc)), tt)

cut_not : (front rest : List ℕ) → NotOpened 1 (cut_events front rest)
cut_not front rest = ((λ e. absurd (cc)), ((λ e. absurd (cc)), tt))

woven_not : NotOpened 1 woven
woven_not = ((λ e. absurd (cc)), ((λ e. absurd (cc)), ((λ e. absurd (cc)), ((λ e. absurd (cc)), ((λ e. absurd (cc)), ((λ e. absurd (cc)), ((λ e. absurd (cc)), ((λ e. absurd (cc)), tt))))))))

read_worked : (H : Type 0) (events : List What) (l : Line) → NotOpened 1 events → IsWorked H events l → IsReadOf None 1 Down events l.requests
read_worked H events l not w = numbers_read_once H w.calling w.plan w.config w.seed w.host w.turns w.to 1 l [] events w.run w.whole w.there w.are tt not

abbrev Halted : Line → Stop → Type 0
Halted l why = IsNext l.requests.ended l.requests.asked l.requests.due l.requests.unread (none why)

alike : (H G : Type 0) (l m : Line) (front rest : List ℕ) (why reason : Stop) → front ++ rest ≡ worked_text → IsWorked H at_once l → IsWorked G (cut_events front rest) m → Halted l why → Halted m reason
    → (one : IsReadOf None 1 Down at_once l.requests) × (other : IsReadOf None 1 Down (cut_events front rest) m.requests) × (items_handed None one.acts ≡ items_handed None other.acts) × (why ≡ reason)
alike H G l m front rest why reason whole w v halted stopped =
    let one : IsReadOf None 1 Down at_once l.requests = read_worked H at_once l once_not w in
    let other : IsReadOf None 1 Down (cut_events front rest) m.requests = read_worked G (cut_events front rest) m (cut_not front rest) v in
    let same = cuts_do_not_matter.alike None 1 1 Down at_once (cut_events front rest) l.requests m.requests why reason one other (at_once_spelled ∙ sym (cut_spelled front rest whole)) refl halted stopped in
    (one, other, same.0, same.1)

-- ---- at any moment

fronts : (H G : Type 0) (l m : Line) (front rest : List ℕ) → front ++ rest ≡ worked_text → IsWorked H at_once l → IsWorked G (cut_events front rest) m
    → (one : IsReadOf None 1 Down at_once l.requests) × (other : IsReadOf None 1 Down (cut_events front rest) m.requests) × AreFronts (items_handed None one.acts) (items_handed None other.acts)
fronts H G l m front rest whole w v =
    let one : IsReadOf None 1 Down at_once l.requests = read_worked H at_once l once_not w in
    let other : IsReadOf None 1 Down (cut_events front rest) m.requests = read_worked G (cut_events front rest) m (cut_not front rest) v in
    (one, other, fronts_at_any_moment.alike None 1 1 Down at_once (cut_events front rest) l.requests m.requests one other (at_once_spelled ∙ sym (cut_spelled front rest whole)) refl)

earlier : (H G : Type 0) (l m : Line) (front rest : List ℕ) → front ++ rest ≡ worked_text → IsWorked H (so_far front) l → IsWorked G at_once m
    → (one : IsReadOf None 1 Down (so_far front) l.requests) × (other : IsReadOf None 1 Down at_once m.requests) × AreFronts (items_handed None one.acts) (items_handed None other.acts)
earlier H G l m front rest whole w v =
    let one : IsReadOf None 1 Down (so_far front) l.requests = read_worked H (so_far front) l ((λ e. absurd (cc)), tt) w in
    let other : IsReadOf None 1 Down at_once m.requests = read_worked G at_once m once_not v in
    let further : text_of_side 1 Down at_once ≡ text_of_side 1 Down (so_far front) ++ rest =
    at_once_spelled ∙ (sym (ap (λ l. worked_text ++ l) whole)
    ∙ (sym (append_assoc worked_text front rest) ∙ ap (λ (l : List ℕ). l ++ rest) (sym (append-nil (worked_text ++ front))))) in
    (one, other, fronts_at_any_moment.behind None 1 1 Down (so_far front) at_once l.requests m.requests rest one other refl further)

-- ---- a response

-- a reader of it
abbrev reader : Due → List ℕ → Reading
reader due unread = record { asked = get; ended = false; due = due; unread = unread }

head_there : StepsTo false get head (worked_response_text ++ codes "ab") (item (response worked_response) 38 (body (counted 3)))
head_there = (found worked_response 38, step_stays get worked_response_text (codes "ab") (found worked_response 38) worked_response_is.spelled (λ e. cc), refl)

head_handed : Hands (reader head (worked_response_text ++ codes "ab")) (head_part worked_response) (reader (body (counted 3)) (codes "ab"))
head_handed = record {
  used = 38;
  due = body (counted 3);
  next = inl (record { step = item (response worked_response) 38 (body (counted 3)); there = head_there; is = refl });
  is = refl;
}

server_reads : (reads : IsReadOf get 1 Up in_pieces before_body) × (items_handed get reads.acts ≡ head_alone)
server_reads = (
  record {
    acts = feeds (worked_response_text ++ codes "ab") ∷ hands (head_part worked_response) ∷ feeds (codes "c") ∷ [];
    does = (
      reader head (worked_response_text ++ codes "ab"),
      (refl, refl),
      (reader (body (counted 3)) (codes "ab"), head_handed, (before_body, (refl, refl), refl)),
    );
    text = refl;
    ended = refl;
  },
  refl,
)

server_waits : IsNext before_body.ended before_body.asked before_body.due before_body.unread (part (piece (codes "abc") true) 3 done)
server_waits = inr (record {
  bytes = codes "abc";
  used = 3;
  mid = body (counted 0);
  behind = item end 0 done;
  carried = take_carries false get 3 3 (codes "abc") (lit≤ tt) (lit≤ tt);
  some = lit< tt;
  few = lit≤ tt;
  there = refl;
  all = inl tt;
  is = refl;
})

server_fronts : (s : Reading) (other : IsReadOf get 2 Up in_one s) → AreFronts head_alone (items_handed get other.acts)
server_fronts s other =
    subst (λ (is : List Item). AreFronts is (items_handed get other.acts)) server_reads.1
    (fronts_at_any_moment.alike get 1 2 Up in_pieces in_one before_body s server_reads.0 other refl refl)

pub reading_examples : (H G : Type 0) → ReadingExamples H G
reading_examples H G = record {
  once = at_once_spelled;
  twice = cut_spelled;
  first = refl;
  second = refl;
  server = refl;
  still_open = refl;
  ended = refl;
  reads = λ l front rest whole w. let r : IsReadOf None 1 Down (cut_events front rest) l.requests = read_worked H (cut_events front rest) l (cut_not front rest) w in (r, r.text ∙ cut_spelled front rest whole);
  reads_first = λ l w. let r : IsReadOf None 1 Down woven l.requests = read_worked H woven l woven_not w in (r, r.text);
  alike = alike H G;
  fronts = fronts H G;
  earlier = earlier H G;
  server_reads = server_reads;
  server_waits = server_waits;
  server_fronts = server_fronts;
  in_order = λ r reads same. let e : ◌≡◌ {A = List ℕ} (codes "ab") (codes "ba") = sym reads.text ∙ same in let one : ◌≡◌ {A = ℕ} 97 98 = ap first_of e in let never : ⊥ = omega (arith, one) in absurd never;
  own = λ r reads same. let e : ◌≡◌ {A = List ℕ} (codes "a") (codes "ab") = sym reads.text ∙ same in let one : ◌≡◌ {A = ℕ} 1 2 = ap (λ (l : List ℕ). length l) e in let never : ⊥ = omega (arith, one) in absurd never;
}
