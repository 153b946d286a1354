-- Nothing that stages held outlives an exchange.
use Rattle.std.specs.Prelude.{◌≡◌, ℕ, List, [], ◌∷◌, slice_get, Some}
use Rattle.contexts.specs.declared.parts.Contexts.{Contexts}
use Rattle.contexts.specs.declared.parts.Own.{Own}
use Rattle.contexts.specs.Creating.{no_stage}
use Rattle.contexts.specs.Lending.{stage_in}
use Rattle.contexts.specs.Stages.{own_at}
use Rattle.exchange.specs.declared.types.Exchange.{Exchange}
use Rattle.filter_chain.specs.declared.stage.Stage.{Stage}
use Rattle.worker_model.specs.Room.{Room}
use Rattle.worker_model.specs.declared.types.Line.{Line}
use Rattle.worker_model.specs.Steps.{end_at}

-- where the context of the stage is there, it holds nothing for it: no byte, and no body callback of it is asked
abbrev pub HoldsNothing : Contexts → Stage → Type 0
HoldsNothing h s = (o : Own) → own_at h s.vm s.context ≡ Some o → stage_in s.response o ≡ no_stage

abbrev pub HoldNothing : Contexts → List Stage → Type 0
HoldNothing h [] = Unit {0}
HoldNothing h (s ∷ ss) = HoldsNothing h s × HoldNothing h ss

pub record NothingIsHeld (h : Contexts) (x : Exchange) : Type 0 where
  pub request : HoldNothing h x.request
  pub response : HoldNothing h x.response

-- NOTHING IS HELD BEHIND AN END, whatever ended the exchange: a whole response, an answer, a close, or a client that is gone. Once it is taken off
-- its line, and before any of its contexts is asked whether it is done, no stage of it holds anything. So no buffer of a body is there then.
abbrev pub NothingIsHeldBehindAnEnd : Type 0
NothingIsHeldBehindAnEnd =
    (place : ℕ) (room : Room) (line : Line) (x : Exchange) → slice_get room.lines place ≡ Some line → line.exchange ≡ Some x
    → NothingIsHeld (end_at place room).hub.contexts x
