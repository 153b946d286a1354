-- WHAT ELSE A WORKER DOES that leaves a direction as it was.
use Rattle.std.specs.Prelude.{◌≡◌, ℕ, ◌==◌, Bool, true, false, not, List, None, Some, slice_get, map}
use Rattle.exchange.specs.declared.types.Exchange.{Exchange}
use Rattle.exchange.specs.Passing.{chain_of, put_read_items, apply_action, resume_context, stage_of, pause_held}
use Rattle.filter_chain.specs.declared.stage.Stage.{Stage}
use Rattle.filter_chain.specs.declared.item.ChainItem.{ChainItem}
use Rattle.filter_chain.specs.Chains.{continued}
use Rattle.worker_model.specs.Room.{Room}
use Rattle.worker_model.specs.declared.types.Line.{Line}
use Rattle.worker_model.specs.Rooms.{place_in, place_of, on_number, on_context}
use Rattle.worker_model.specs.Steps.{begin_first_job, release}
use Rattle.law_chain.specs.Acts.{AreThere, IsLeft}
use Rattle.law_body.specs.Apart.{AreAliens, IsAlien, Does, PassesAliens}
use Rattle.law_body.specs.Deeds.{comes, AreDeeds}
use Rattle.law_flow.specs.Rooms.{IsOn, IsAsked, asked_exchange, question, Leaves, running_of}

-- the exchanges of all other lines have other stages than these
abbrev pub OthersAreAlien : List Stage → ℕ → Room → Type 0
OthersAreAlien ss place room = (p : ℕ) (line : Line) (y : Exchange) → slice_get room.lines p ≡ Some line → line.exchange ≡ Some y → (p ≡ place → ⊥) → IsAlien ss y

-- the contexts of the direction's stages are there
abbrev pub IsWhole : Bool → Exchange → Room → Type 0
IsWhole response x room = AreThere room.hub.contexts (chain_of response x)

-- OTHER LINES: what is done to the exchange on another line leaves the direction as it was.
pub record OtherLinesLeave : Type 0 where
  pub by_number : (does : Does) → PassesAliens does → (response : Bool) (n m : ℕ) (x : Exchange) (room : Room) (on : IsOn n room x) → OthersAreAlien (chain_of response x) on.place room
      → IsWhole response x room → (place_in m room.lines ≡ Some on.place → ⊥) → Leaves response n x room x (on_number does m room)
  pub by_context : (does : Does) → PassesAliens does → (response : Bool) (n vm context : ℕ) (x : Exchange) (room : Room) (on : IsOn n room x)
      → OthersAreAlien (chain_of response x) on.place room → IsWhole response x room → (place_of vm context room.lines ≡ Some on.place → ⊥)
      → Leaves response n x room x (on_context does vm context room)

-- THE OTHER DIRECTION of the exchange itself: a stage of it is asked, a callback's action is put in force, a stage goes on, or what was read is put, and
-- none of that is too much.
pub record OtherDirectionLeaves : Type 0 where
  pub asking : (response : Bool) (n : ℕ) (x : Exchange) (room : Room) (q : IsAsked (not response) n x room) → AreAliens (chain_of response x) (chain_of (not response) x)
      → IsWhole response x room → Leaves response n x room (asked_exchange q) (question q)
  pub acting : (response : Bool) (n k value : ℕ) (x : Exchange) (room : Room) → IsOn n room x → AreAliens (chain_of response x) (chain_of (not response) x) → IsWhole response x room
      → x.has_ended ≡ false → ((value == 0) ≡ true → IsLeft (continued (pause_held (not response) k x room.hub).contexts k (chain_of (not response) x)).0)
      → Leaves response n x room (apply_action (not response) k value n x room.hub).0 (on_number (apply_action (not response) k value) n room)
  pub resuming : (response : Bool) (n vm context : ℕ) (x : Exchange) (room : Room) → IsOn n room x → AreAliens (chain_of response x) (chain_of (not response) x) → IsWhole response x room
      → x.has_ended ≡ false → ((k : ℕ) → stage_of vm context (chain_of (not response) x) ≡ Some k → IsLeft (continued room.hub.contexts k (chain_of (not response) x)).0)
      → place_of vm context room.lines ≡ place_in n room.lines
      → Leaves response n x room (resume_context vm context (not response) n x room.hub).0 (on_context (resume_context vm context (not response)) vm context room)
  pub putting : (response : Bool) (n : ℕ) (items : List ChainItem) (x : Exchange) (room : Room) → IsOn n room x → IsWhole response x room → x.is_answered ≡ false
      → AreDeeds (not response) n 0 (map comes items) (running_of None x room)
      → Leaves response n x room (put_read_items (not response) items n x room.hub).0 (on_number (put_read_items (not response) items) n room)

-- STEPS THAT TOUCH NO LINE
pub record QuietStepsLeave : Type 0 where
  pub begins : (response : Bool) (n : ℕ) (x : Exchange) (room : Room) → IsOn n room x → IsWhole response x room → Leaves response n x room x (begin_first_job room.agenda room)
  pub frees_one : (response : Bool) (n at : ℕ) (x : Exchange) (room : Room) → IsOn n room x → IsWhole response x room → Leaves response n x room x (release at room)
