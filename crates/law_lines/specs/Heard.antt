-- What was heard of a request on a line.
use Rattle.std.specs.Prelude.{◌≡◌, List, [], ◌∷◌, ◌++◌, None}
use Rattle.filter_chain.specs.declared.item.ChainItem.{ChainItem}
use Rattle.filter_chain.specs.declared.item.ChainItem.TheVariants.{Piece, Trailers}
use Rattle.h1_model.specs.Head.{Head}
use Rattle.h1_model.specs.Messages.{head}
use Rattle.h1_model.specs.Unread.{Part, head_part, interim_part, piece, trailer_part, Reading, Act, feeds, ends, hands, halts, DoesAll}
use Rattle.worker_model.specs.Steps.{head_item}

-- a part that a reader hands on, as items
abbrev pub items_of : Part → List ChainItem
items_of (head_part h) = head_item h ∷ []
items_of (interim_part h) = []
items_of (piece bytes last) = Piece bytes last ∷ []
items_of (trailer_part fields) = Trailers ∷ []

-- all that were handed on, whatever text came meanwhile
abbrev pub items_heard : List Act → List ChainItem
items_heard [] = []
items_heard (feeds bytes ∷ acts) = items_heard acts
items_heard (ends ∷ acts) = items_heard acts
items_heard (hands p ∷ acts) = items_of p ++ items_heard acts
items_heard (halts why ∷ acts) = items_heard acts

-- WHAT WAS HEARD: where the head of a request was due in some text, its reader handed on this head, and after it the other items; and now it reads so.
-- (Whose reader it is, its last reading says, where that is one of a line; which text it had before is not said.)
pub record WasHeard (h : Head) (items : List ChainItem) (now : Reading) : Type 0 where
  pub first : Reading
  pub asked : first.asked ≡ None
  pub due : first.due ≡ head
  pub acts : List Act
  pub does : DoesAll first (hands (head_part h) ∷ acts) now
  pub are : items ≡ head_item h ∷ items_heard acts
