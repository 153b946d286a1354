-- CALLBACKS OF OTHERS, as a direction sees them: of other lines, of the other direction, and of roots.
use Rattle.std.specs.Prelude.{◌≡◌, ℕ, Bool, true, false, List, [], ◌∷◌, Option, None, Some, slice_get}
use Rattle.contexts.specs.declared.parts.Effect.{Effect}
use Rattle.contexts.specs.declared.parts.EffectKind.{EffectKind}
use Rattle.contexts.specs.declared.parts.EffectKind.TheVariants as what
use Rattle.filter_host.specs.Called.{Called}
use Rattle.filter_host.specs.declared.host.CallbackEnd.TheVariants as call_ends
use Rattle.exchange.specs.declared.types.Exchange.{Exchange}
use Rattle.exchange.specs.Passing.{chain_of, stage_of}
use Rattle.filter_chain.specs.declared.item.Ask.{Ask}
use Rattle.filter_chain.specs.Chains.{continued}
use Rattle.worker_model.specs.Room.{Room}
use Rattle.worker_model.specs.declared.types.Owner.{Owner}
use Rattle.worker_model.specs.Moves.{asks_at}
use Rattle.worker_model.specs.Rooms.{place_of, with_lines, apply_effect, take_callback_end}
use Rattle.law_chain.specs.Acts.{HoldSame, AreThere, IsLeft}
use Rattle.law_body.specs.Apart.{AreAliens}
use Rattle.law_flow.specs.Besides.{OthersAreAlien, IsWhole}
use Rattle.law_body.specs.Deeds.{resumes, IsDeed}
use Rattle.law_flow.specs.Rooms.{IsOn, Leaves, Others, running_of, quiet_room, Meanwhile, running_of}

-- ---- effects

-- what a stage of the direction, or of the other one, holds may go on
abbrev pub MayResume : (response of_response : Bool) → ℕ → Option Ask → ℕ → ℕ → Exchange → Room → Type 0
MayResume false false count due vm context x room = IsDeed false count (resumes vm context) (running_of due x room)
MayResume true true count due vm context x room = IsDeed true count (resumes vm context) (running_of due x room)
MayResume false true count due vm context x room =
    (x.has_ended ≡ false) × AreAliens x.request x.response
    × ((k : ℕ) → stage_of vm context x.response ≡ Some k → IsLeft (continued room.hub.contexts k x.response).0)
MayResume true false count due vm context x room =
    (x.has_ended ≡ false) × AreAliens x.response x.request
    × ((k : ℕ) → stage_of vm context x.request ≡ Some k → IsLeft (continued room.hub.contexts k x.request).0)

-- the exchange is neither closed nor answered
abbrev pub MayDo : Bool → ℕ → Option Ask → ℕ → ℕ → EffectKind → Exchange → Room → Type 0
MayDo response count due vm context (what.Continue of_response) x room = MayResume response of_response count due vm context x room
MayDo response count due vm context what.Close x room = ⊥
MayDo response count due vm context (what.Answer status fields body) x room = ⊥
MayDo response count due vm context (what.Call request) x room = Unit {0}

-- An effect that may be: the contexts of the direction's stages are there, no stage is in the chains of two lines, and what it does to the exchange may
-- be done.
pub record IsMild (response : Bool) (n count : ℕ) (due : Option Ask) (vm context : ℕ) (w : EffectKind) (x : Exchange) (room : Room) : Type 0 where
  pub on : IsOn n room x
  pub whole : IsWhole response x room
  pub alien : OthersAreAlien (chain_of response x) on.place room
  pub may : place_of vm context room.lines ≡ Some on.place → MayDo response count due vm context w x room

abbrev pub AreMild : Bool → ℕ → ℕ → Option Ask → ℕ → Owner → List Effect → Exchange → Room → Type 0
AreMild response n count due vm own [] x room = IsOn n room x
AreMild response n count due vm own (e ∷ es) x room =
    IsMild response n count due vm e.context e.what x room
    × ((y : Exchange) → IsOn n (apply_effect vm own e.context e.what room) y → AreMild response n count due vm own es y (apply_effect vm own e.context e.what room))

-- EFFECTS THAT MAY BE resume stages of the direction, or leave it as it was.
abbrev pub MildEffectsAreOthers : Type 0
MildEffectsAreOthers =
    (response : Bool) (n count : ℕ) (due : Option Ask) (vm : ℕ) (own : Owner) (es : List Effect) (x : Exchange) (room : Room) → AreMild response n count due vm own es x room
    → (z : Exchange) × Others response n count due vm own es x room z

-- ---- callbacks

-- CALLBACKS OF OTHERS that return, and leave what the direction's stages hold as it was, are what the law takes a worker to do besides.
abbrev pub CallbacksAreRuns : Type 0 → Type 0
CallbacksAreRuns H =
    (response : Bool) (n count vm : ℕ) (own : Owner) (c : Called H) (value : Option ℕ) (x : Exchange) (room : Room) → IsOn n room x
    → HoldSame room.hub.contexts c.contexts (chain_of response x) → AreThere c.contexts (chain_of response x)
    → AreMild response n count None vm own c.contexts.effects x (quiet_room c room)
    → (y : Exchange) × Meanwhile response n count x room y (take_callback_end vm own (call_ends.Returned value) c.lines c.contexts room)

-- ---- moves of other lines

-- ASKING ON ANOTHER LINE leaves the direction as it was.
abbrev pub AskingElsewhereLeaves : Type 0
AskingElsewhereLeaves =
    (response : Bool) (n place : ℕ) (x : Exchange) (room : Room) (on : IsOn n room x) → OthersAreAlien (chain_of response x) on.place room → IsWhole response x room
    → (place ≡ on.place → ⊥)
    → Leaves response n x room x
    (with_lines room ((asks_at place (slice_get room.lines place) room.lines room.hub).1, (asks_at place (slice_get room.lines place) room.lines room.hub).2))
