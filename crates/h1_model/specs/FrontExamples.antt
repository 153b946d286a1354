-- A worked reader that has a further part: of two requests one is handed on, and the next one waits.
use Rattle.std.specs.Prelude.{◌≡◌, ℕ, false, List, [], ◌∷◌, ◌++◌, map, None, codes}
use Rattle.httparse.specs.Ascii.{crlf_bytes}
use Rattle.h1_model.specs.Examples.{worked_text, worked_head}
use Rattle.h1_model.specs.Fronts.{IsFront, AreFronts}
use Rattle.h1_model.specs.Messages.{Item, request, octet, Placed, head, Stop, rest, Messages}
use Rattle.h1_model.specs.ReadingLaws.{item_at}
use Rattle.h1_model.specs.Unread.{head_part, part, none, IsNext, Reading, new_reading, Act, feeds, hands, halts, DoesAll, text_of, items_handed}

-- both come at once, and one of them is asked for
abbrev pub one_asked : List Act
one_asked = feeds (worked_text ++ worked_text) ∷ hands (head_part worked_head) ∷ []

-- they come cut, within the second; each is asked for as soon as it is there, and once none was
abbrev pub both_asked : List Act
both_asked =
    feeds (worked_text ++ codes "GET / HTT") ∷ hands (head_part worked_head) ∷ halts rest
    ∷ feeds (codes "P/1.1" ++ crlf_bytes ++ codes "Host: a" ++ crlf_bytes ++ crlf_bytes) ∷ hands (head_part worked_head) ∷ []

-- the reader after one of two requests, and behind both
abbrev pub at_second : Reading
at_second = record { asked = None; ended = false; due = head; unread = worked_text }

abbrev pub behind_both : Reading
behind_both = record { asked = None; ended = false; due = head; unread = [] }

-- what both spell
abbrev pub two_requests : List Placed
two_requests = record { item = request worked_head; from = 0; to = 27 } ∷ record { item = request worked_head; from = 27; to = 54 } ∷ []

abbrev pub one_item : List Item
one_item = request worked_head ∷ []

abbrev pub two_items : List Item
two_items = request worked_head ∷ request worked_head ∷ []

pub record FrontExamples : Type 0 where
  pub spelled : Messages (worked_text ++ worked_text) false None two_requests rest
  pub one : DoesAll (new_reading None) one_asked at_second
  pub one_handed : items_handed None one_asked ≡ one_item
  -- it has a further part: so nothing is said of it by what speaks of readers without one
  pub waits : IsNext false None head worked_text (part (head_part worked_head) 27 head)
  pub has_more : (why : Stop) → IsNext at_second.ended at_second.asked at_second.due at_second.unread (none why) → ⊥
  pub both : DoesAll (new_reading None) both_asked behind_both
  pub both_handed : items_handed None both_asked ≡ two_items
  pub one_text : text_of one_asked ≡ text_of both_asked
  -- what it handed on is a front all the same: of what the text spells, and of what the other reader handed on
  pub of_text : IsFront (items_handed None one_asked) (map item_at two_requests)
  pub of_other : AreFronts (items_handed None one_asked) (items_handed None both_asked)
  -- what no reader hands on of this text first, however it is cut and whatever waits: a byte of a body
  pub no_octet : (acts : List Act) (r : Reading) (b : ℕ) (items : List Item) → DoesAll (new_reading None) acts r → r.ended ≡ false
      → text_of acts ≡ worked_text ++ worked_text → items_handed None acts ≡ octet b ∷ items → ⊥
