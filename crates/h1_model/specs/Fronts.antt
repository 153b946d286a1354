-- What a reader has handed on by any moment, whether or not it has a further part then.
use Rattle.std.specs.Prelude.{◌≡◌, ℕ, ◌⊎◌, Bool, false, List, ◌++◌, map, Option}
use Rattle.h1_model.specs.Messages.{Item, Placed, Stop, Messages}
use Rattle.h1_model.specs.ReadingLaws.{item_at}
use Rattle.h1_model.specs.Unread.{Reading, new_reading, Act, DoesAll, text_of, items_handed}

-- one list of items is a front of another
abbrev pub IsFront : (front whole : List Item) → Type 0
IsFront front whole = (behind : List Item) × (front ++ behind ≡ whole)

-- WHATEVER WAS HANDED ON BY NOW, however the text was cut and whenever parts were asked for: of what the text that came so far spells, a front; and, where
-- that has not ended, of what any longer text spells.
pub record PiecesAreAFront : Type 0 where
  pub so_far : (asked : Option (List ℕ)) (acts : List Act) (r : Reading) (items : List Placed) (why : Stop) → DoesAll (new_reading asked) acts r
      → Messages (text_of acts) r.ended asked items why → IsFront (items_handed asked acts) (map item_at items)
  pub longer : (asked : Option (List ℕ)) (acts : List Act) (r : Reading) (more : List ℕ) (ended : Bool) (items : List Placed) (why : Stop)
      → DoesAll (new_reading asked) acts r → r.ended ≡ false → Messages (text_of acts ++ more) ended asked items why
      → IsFront (items_handed asked acts) (map item_at items)

-- one of the two is a front of the other
abbrev pub AreFronts : (some others : List Item) → Type 0
AreFronts some others = IsFront some others ⊎ IsFront others some

-- OF TWO READINGS OF ONE TEXT with the same end, at any moment of each, what one handed on is a front of what the other did; so it is where one has come
-- further in the text than the other, which has not ended.
pub record FrontsOfOneText : Type 0 where
  pub same : (asked : Option (List ℕ)) (acts others : List Act) (r s : Reading) → DoesAll (new_reading asked) acts r → DoesAll (new_reading asked) others s
      → text_of acts ≡ text_of others → r.ended ≡ s.ended → AreFronts (items_handed asked acts) (items_handed asked others)
  pub longer : (asked : Option (List ℕ)) (acts others : List Act) (r s : Reading) (more : List ℕ) → DoesAll (new_reading asked) acts r
      → DoesAll (new_reading asked) others s → r.ended ≡ false → text_of others ≡ text_of acts ++ more
      → AreFronts (items_handed asked acts) (items_handed asked others)
