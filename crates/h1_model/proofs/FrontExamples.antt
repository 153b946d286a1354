-- The worked reader that has a further part.
use Rattle.std.proofs.Common.{◌≡◌, ℕ, false, List, [], ◌∷◌, ◌++◌, None, codes, refl, sym, ap, ◌∙◌, inl, inr}
use Rattle.h1_model.specs.Examples.{worked_text, worked_head}
use Rattle.h1_model.specs.FrontExamples.{one_asked, both_asked, at_second, behind_both, two_requests, FrontExamples}
use Rattle.h1_model.specs.Fronts.{AreFronts}
use Rattle.h1_model.specs.Head.{found, not_yet}
use Rattle.h1_model.specs.Messages.{Item, request, octet, end, head, Stop, rest, item, stop, StepsTo, Messages}
use Rattle.h1_model.specs.Unread.{head_part, part, none, IsNext, Reading, new_reading, Act, DoesAll, text_of, items_handed, Hands}
use Rattle.h1_model.proofs.Examples.{worked_head_is}
use Rattle.h1_model.proofs.Fronts.{pieces_are_a_front, fronts_of_one_text}
use Rattle.h1_model.proofs.Parts.{one_part}
use Rattle.h1_model.proofs.Readings.{step_stays}

-- the first request, whatever stands after it
first_there : (more : List ℕ) → StepsTo false None head (worked_text ++ more) (item (request worked_head) 27 head)
first_there more = (found worked_head 27, step_stays None worked_text more (found worked_head 27) worked_head_is.spelled (λ e. cc), refl)

first_next : (more : List ℕ) → IsNext false None head (worked_text ++ more) (part (head_part worked_head) 27 head)
first_next more = inl (record { step = item (request worked_head) 27 head; there = first_there more; is = refl })

second_next : IsNext false None head worked_text (part (head_part worked_head) 27 head)
second_next = inl (record { step = item (request worked_head) 27 head; there = (found worked_head 27, worked_head_is.spelled, refl); is = refl })

-- a reader of requests with this text unread
abbrev with_text : List ℕ → Reading
with_text text = record { asked = None; ended = false; due = head; unread = text }

first_handed : (more : List ℕ) → Hands (with_text (worked_text ++ more)) (head_part worked_head) (with_text more)
first_handed more = record { used = 27; due = head; next = first_next more; is = refl }

second_handed : Hands (with_text worked_text) (head_part worked_head) (with_text [])
second_handed = record { used = 27; due = head; next = second_next; is = refl }

none_there : IsNext false None head (codes "GET / HTT") (none rest)
none_there = inl (record { step = stop rest; there = (not_yet, refl, refl); is = refl })

no_more : (why : Stop) → IsNext false None head worked_text (none why) → ⊥
no_more why x = no (one_part false None head worked_text (part (head_part worked_head) 27 head) (none why) second_next x)
  where
    no : part (head_part worked_head) 27 head ≡ none why → ⊥
    no e = cc

-- ---- both readers

one : DoesAll (new_reading None) one_asked at_second
one = (with_text (worked_text ++ worked_text), (refl, refl), (at_second, first_handed worked_text, refl))

both : DoesAll (new_reading None) both_asked behind_both
both = (
  with_text (worked_text ++ codes "GET / HTT"),
  (refl, refl),
  (
    with_text (codes "GET / HTT"),
    first_handed (codes "GET / HTT"),
    (
      with_text (codes "GET / HTT"),
      record { next = none_there; is = refl },
      (with_text worked_text, (refl, refl), (behind_both, second_handed, refl)),
    ),
  ),
)

two_spelled : Messages (worked_text ++ worked_text) false None two_requests rest
two_spelled = (
  27,
  head,
  first_there worked_text,
  refl,
  refl,
  (27, head, (found worked_head 27, worked_head_is.spelled, refl), refl, refl, (not_yet, refl, refl)),
)

abbrev first_of : List Item → Item
first_of [] = end
first_of (i ∷ items) = i

no_byte : (b : ℕ) → octet b ≡ request worked_head → ⊥
no_byte b e = cc

no_octet : (acts : List Act) (r : Reading) (b : ℕ) (items : List Item) → DoesAll (new_reading None) acts r → r.ended ≡ false
    → text_of acts ≡ worked_text ++ worked_text → items_handed None acts ≡ octet b ∷ items → ⊥
no_octet acts r b items does goes_on text are =
    by_front (fronts_of_one_text.same None acts one_asked r at_second does one text goes_on)
  where
    by_front : AreFronts (items_handed None acts) (items_handed None one_asked) → ⊥
    by_front (inl x) = no_byte b (sym (ap (λ (is : List Item). first_of (is ++ x.0)) are) ∙ ap first_of x.1)
    by_front (inr x) = no_byte b (sym (ap first_of are) ∙ sym (ap first_of x.1))

pub front_examples : FrontExamples
front_examples = record {
  spelled = two_spelled;
  one = one;
  one_handed = refl;
  waits = second_next;
  has_more = no_more;
  both = both;
  both_handed = refl;
  one_text = refl;
  of_text = pieces_are_a_front.so_far None one_asked at_second two_requests rest one two_spelled;
  of_other = fronts_of_one_text.same None one_asked both_asked at_second behind_both one both refl refl;
  no_octet = no_octet;
}
