-- HOWEVER THE BYTES WERE CUT: what was handed on of a text that events spell.
use Rattle.std.specs.Prelude.{◌≡◌, ℕ, Bool, false, List, ◌++◌, map, Option}
use Rattle.gate_io.specs.declared.event.Side.{Side}
use Rattle.gate_io.specs.declared.event.What.{What}
use Rattle.h1_model.specs.Fronts.{IsFront, AreFronts}
use Rattle.h1_model.specs.Messages.{Placed, Stop, Messages}
use Rattle.h1_model.specs.ReadingLaws.{item_at}
use Rattle.h1_model.specs.Unread.{Reading, none, IsNext, items_handed}
use Rattle.law_reading.specs.Spelled.{text_of_side, has_ended, IsReadOf}

-- what a reader of this text handed on, where it has no further part: the whole text spells it
pub record SpellsAll (asked : Option (List ℕ)) (n : ℕ) (side : Side) (ws : List What) (r : Reading) (why : Stop) (reads : IsReadOf asked n side ws r) : Type 0 where
  pub items : List Placed
  pub messages : Messages (text_of_side n side ws) (has_ended n side ws) asked items why
  pub same : map item_at items ≡ items_handed asked reads.acts

-- HOWEVER SOCKETS CUT THEIR BYTES: of a side of a line whose reader has no further part, the heads, the bytes of bodies, the trailers and the ends that were
-- handed on are those of the joined text of its events, by the grammar alone; and two lines, of whatever workers, whose events spell the same text there
-- with the same end handed on the same, and stop for the same reason.
pub record CutsDoNotMatter : Type 0 where
  pub whole : (asked : Option (List ℕ)) (n : ℕ) (side : Side) (ws : List What) (r : Reading) (why : Stop) (reads : IsReadOf asked n side ws r)
      → IsNext r.ended r.asked r.due r.unread (none why) → SpellsAll asked n side ws r why reads
  pub alike : (asked : Option (List ℕ)) (n m : ℕ) (side : Side) (ws vs : List What) (r s : Reading) (why reason : Stop)
      (one : IsReadOf asked n side ws r) (other : IsReadOf asked m side vs s)
      → text_of_side n side ws ≡ text_of_side m side vs → has_ended n side ws ≡ has_ended m side vs
      → IsNext r.ended r.asked r.due r.unread (none why) → IsNext s.ended s.asked s.due s.unread (none reason)
      → (items_handed asked one.acts ≡ items_handed asked other.acts) × (why ≡ reason)

-- AT ANY MOMENT, whether or not the reader has a further part (as it has while a request that came waits for the exchange before it): what was handed on by
-- then is a front of what the joined text of the events so far spells, and, where that has not ended, of what any longer text spells; and of two lines, of
-- whatever workers, whose events spell the same text with the same end, or of which one has come further in it, what was handed on of one is a front of
-- what was handed on of the other.
pub record FrontsAtAnyMoment : Type 0 where
  pub so_far : (asked : Option (List ℕ)) (n : ℕ) (side : Side) (ws : List What) (r : Reading) (items : List Placed) (why : Stop) (reads : IsReadOf asked n side ws r)
      → Messages (text_of_side n side ws) (has_ended n side ws) asked items why → IsFront (items_handed asked reads.acts) (map item_at items)
  pub further : (asked : Option (List ℕ)) (n : ℕ) (side : Side) (ws : List What) (r : Reading) (more : List ℕ) (ended : Bool) (items : List Placed) (why : Stop)
      (reads : IsReadOf asked n side ws r)
      → has_ended n side ws ≡ false → Messages (text_of_side n side ws ++ more) ended asked items why → IsFront (items_handed asked reads.acts) (map item_at items)
  pub alike : (asked : Option (List ℕ)) (n m : ℕ) (side : Side) (ws vs : List What) (r s : Reading) (one : IsReadOf asked n side ws r) (other : IsReadOf asked m side vs s)
      → text_of_side n side ws ≡ text_of_side m side vs → has_ended n side ws ≡ has_ended m side vs → AreFronts (items_handed asked one.acts) (items_handed asked other.acts)
  pub behind : (asked : Option (List ℕ)) (n m : ℕ) (side : Side) (ws vs : List What) (r s : Reading) (more : List ℕ)
      (one : IsReadOf asked n side ws r) (other : IsReadOf asked m side vs s)
      → has_ended n side ws ≡ false → text_of_side m side vs ≡ text_of_side n side ws ++ more → AreFronts (items_handed asked one.acts) (items_handed asked other.acts)
