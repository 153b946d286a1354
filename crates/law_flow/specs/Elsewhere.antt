-- MOVES of other lines and of the other direction, as a direction sees them.
use Rattle.std.specs.Prelude.{◌≡◌, ℕ, ◌==◌, Bool, true, false, not, List, Option, None, Some, slice_get}
use Rattle.filter_host.specs.Called.{Called, Calling}
use Rattle.filter_host.specs.Course.{ends, runs_then, Met, Reaches}
use Rattle.filter_host.specs.declared.host.CallbackEnd.TheVariants as call_ends
use Rattle.exchange.specs.declared.types.Exchange.{Exchange}
use Rattle.exchange.specs.declared.types.Hub.{Hub}
use Rattle.exchange.specs.Passing.{chain_of, pause_held}
use Rattle.filter_chain.specs.Chains.{continued}
use Rattle.store_model.specs.Program.{Program}
use Rattle.worker_model.specs.Room.{Room}
use Rattle.worker_model.specs.declared.types.Asked.{Asked}
use Rattle.worker_model.specs.declared.types.Line.{Line}
use Rattle.worker_model.specs.declared.types.Next.TheVariants as next
use Rattle.worker_model.specs.declared.types.Owner.{Owner}
use Rattle.worker_model.specs.declared.types.Owner.TheVariants as owns
use Rattle.worker_model.specs.Moves.{asks_at}
use Rattle.worker_model.specs.Plan.{Plan}
use Rattle.worker_model.specs.Rooms.{place_in, with_lines, effects_of}
use Rattle.worker_model.specs.Steps.{Both, callback_of, number_of, action_of, step}
use Rattle.law_chain.specs.Acts.{HoldSame, AreThere, IsLeft}
use Rattle.law_body.specs.Apart.{AreAliens}
use Rattle.law_flow.specs.Besides.{OthersAreAlien, IsWhole}
use Rattle.law_flow.specs.Effects.{AreMild}
use Rattle.law_flow.specs.Rooms.{IsOn, IsAsked, asked_exchange, question, stage_own, quiet_room, Meanwhile}
use Rattle.law_flow.specs.Steps.{callback_program}

-- A callback of another stage, as the exchange and the room are when it comes: it returns, leaves what the direction's stages hold as it was, and its
-- effects may be.
pub record IsBeside {H : Type 0} (response : Bool) (n count vm : ℕ) (own : Owner) (c : Called H) (x : Exchange) (room : Room) : Type 0 where
  pub value : Option ℕ
  pub returned : c.end ≡ call_ends.Returned value
  pub holds : HoldSame room.hub.contexts c.contexts (chain_of response x)
  pub there : AreThere c.contexts (chain_of response x)
  pub effects : AreMild response n count None vm own c.contexts.effects x (quiet_room c room)

-- the room after its effects
abbrev pub behind_effects : {H : Type 0} → ℕ → Owner → Called H → Room → Room
behind_effects vm own c room = effects_of vm own c.contexts.effects (quiet_room c room)

-- ---- another line

abbrev pub asked_program : {H : Type 0} → Calling H → H → Asked → Room → Program (Called H)
asked_program calling host a room =
    calling host a.vm (callback_of a.response a.ask.kind) a.context a.count (number_of a.ask.end) room.hub.moment room.hub.contexts

-- what a callback of another line may be, and where its action is put in force: on another line still
pub record IsElsewhere {H : Type 0} (response : Bool) (n count : ℕ) (a : Asked) (c : Called H) (x : Exchange) (room : Room) : Type 0 where
  pub callback : IsBeside response n count a.vm (owns.Stage a.context a.response) c x room
  pub alien : (z : Exchange) (on : IsOn n (behind_effects a.vm (owns.Stage a.context a.response) c room) z)
      → OthersAreAlien (chain_of response z) on.place (behind_effects a.vm (owns.Stage a.context a.response) c room)
  pub whole : (z : Exchange) → IsOn n (behind_effects a.vm (owns.Stage a.context a.response) c room) z → IsWhole response z (behind_effects a.vm (owns.Stage a.context a.response) c room)
  pub away : (z : Exchange) (on : IsOn n (behind_effects a.vm (owns.Stage a.context a.response) c room) z)
      → place_in a.line (behind_effects a.vm (owns.Stage a.context a.response) c room).lines ≡ Some on.place → ⊥

-- A MOVE OF ANOTHER LINE is what the law takes a worker to do besides.
abbrev pub OtherLinesMove : Type 0 → Type 0
OtherLinesMove H = (calling : Calling H) (plan : Plan) (response : Bool) (n count place : ℕ) (x : Exchange) (room : Room) (on : IsOn n room x) (host : H) (ms : List Met) (b : Both H)
    → OthersAreAlien (chain_of response x) on.place room → IsWhole response x room → (place ≡ on.place → ⊥)
    → ((a : Asked) (lines : List Line) (hub : Hub) (c : Called H) → asks_at place (slice_get room.lines place) room.lines room.hub ≡ (Some a, lines, hub)
    → Reaches (runs_then (asked_program calling host a (with_lines room (lines, hub))) ends) ms (ends c) → IsElsewhere response n count a c x (with_lines room (lines, hub)))
    → Reaches (step calling plan (next.Move place) host room) ms (ends b) → (y : Exchange) × Meanwhile response n count x room y b.room

-- ---- the other direction

-- what a callback of the other direction may be, and what its action lets go on is not too much
pub record IsAcross {H : Type 0} (response : Bool) {n : ℕ} {x : Exchange} {room : Room} (count : ℕ) (q : IsAsked (not response) n x room) (c : Called H) : Type 0 where
  pub callback : IsBeside response n count q.stage.vm (stage_own q) c (asked_exchange q) (question q)
  pub alien : (z : Exchange) → IsOn n (behind_effects q.stage.vm (stage_own q) c (question q)) z → AreAliens (chain_of response z) (chain_of (not response) z)
  pub whole : (z : Exchange) → IsOn n (behind_effects q.stage.vm (stage_own q) c (question q)) z → IsWhole response z (behind_effects q.stage.vm (stage_own q) c (question q))
  pub runs : (z : Exchange) → IsOn n (behind_effects q.stage.vm (stage_own q) c (question q)) z → z.has_ended ≡ false
  pub goes : (z : Exchange) → IsOn n (behind_effects q.stage.vm (stage_own q) c (question q)) z → (action_of callback.value == 0) ≡ true
      → IsLeft (continued (pause_held (not response) q.ask.stage z (behind_effects q.stage.vm (stage_own q) c (question q)).hub).contexts q.ask.stage (chain_of (not response) z)).0

-- A MOVE OF THE OTHER DIRECTION is what the law takes a worker to do besides.
abbrev pub OtherDirectionMoves : Type 0 → Type 0
OtherDirectionMoves H = (calling : Calling H) (plan : Plan) (response : Bool) (n count : ℕ) (x : Exchange) (room : Room) (q : IsAsked (not response) n x room) (host : H) (ms : List Met) (b : Both H)
    → AreAliens (chain_of response x) (chain_of (not response) x) → IsWhole response x room
    → ((c : Called H) → Reaches (runs_then (callback_program calling host q) ends) ms (ends c) → IsAcross response count q c)
    → Reaches (step calling plan (next.Move q.on.place) host room) ms (ends b) → (y : Exchange) × Meanwhile response n count x room y b.room
