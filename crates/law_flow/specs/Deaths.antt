-- WHAT IS DONE ON ALL LINES AT ONCE, such as where a VM died.
use Rattle.std.specs.Prelude.{◌≡◌, ℕ, ◌==◌, Bool, true, false, List, [], ◌∷◌, ◌++◌, None, Some, slice_get}
use Rattle.filter_host.specs.Called.{Called, Calling}
use Rattle.filter_host.specs.Course.{ends, runs_then, Met, Reaches}
use Rattle.filter_host.specs.declared.host.CallbackEnd.TheVariants as call_ends
use Rattle.filter_host.specs.declared.host.Death.{Death}
use Rattle.exchange.specs.declared.types.Exchange.{Exchange}
use Rattle.exchange.specs.declared.types.Hub.{Hub}
use Rattle.exchange.specs.Passing.{chain_of, fails_closed, lose_vm}
use Rattle.filter_chain.specs.declared.stage.Stage.{Stage}
use Rattle.gate_io.specs.declared.event.Sent.{Sent}
use Rattle.worker_model.specs.Room.{Room}
use Rattle.worker_model.specs.declared.types.Asked.{Asked}
use Rattle.worker_model.specs.declared.types.Line.{Line}
use Rattle.worker_model.specs.declared.types.Next.TheVariants as next
use Rattle.worker_model.specs.Moves.{asks_at}
use Rattle.worker_model.specs.Plan.{Plan}
use Rattle.worker_model.specs.Steps.{Both, both, step}
use Rattle.worker_model.specs.Rooms.{all_lines, with_lines, lose_vm_in}
use Rattle.law_chain.specs.Acts.{HoldSame, AreThere}
use Rattle.law_chain.specs.Sound.{IsSound}
use Rattle.law_body.specs.Apart.{AreAliens, Does, PassesAliens}
use Rattle.law_body.specs.Deaths.{MayLet, between, CutIsAnothers, request_death, response_death}
use Rattle.law_body.specs.Deeds.{Deed, turns, Running, standing_of, items_put, AreDeeds, done_all}
use Rattle.law_flow.specs.Besides.{OthersAreAlien, IsWhole}
use Rattle.law_flow.specs.Rooms.{IsOn, running_of, Leaves, quiet_room}
use Rattle.law_flow.specs.Elsewhere.{asked_program}

-- none of the stages is of the VM
abbrev pub NoneOf : ℕ → List Stage → Type 0
NoneOf vm [] = Unit {0}
NoneOf vm (s ∷ ss) = ((s.vm == vm) ≡ false) × NoneOf vm ss

-- ON ALL LINES: what does nothing to the exchange itself, as it is at this moment, leaves the direction as it was. So does the death of a VM that is none of its stages', where no
-- filter of the exchange fails closed by it.
pub record AllLinesLeave : Type 0 where
  pub on_all : (does : Does) → PassesAliens does → (response : Bool) (n : ℕ) (x : Exchange) (room : Room) (on : IsOn n room x) → OthersAreAlien (chain_of response x) on.place room
      → IsWhole response x room → ((hub : Hub) → hub.moment ≡ room.hub.moment → does n x hub ≡ (x, hub)) → Leaves response n x room x (with_lines room (all_lines does room.lines room.hub))
  pub dying : (vm : ℕ) (death : Death) (response : Bool) (n : ℕ) (x : Exchange) (room : Room) (on : IsOn n room x) → OthersAreAlien (chain_of response x) on.place room
      → IsWhole response x room → fails_closed vm x ≡ false → NoneOf vm x.request → NoneOf vm x.response → Leaves response n x room x (lose_vm_in vm death room)

-- What is done on all lines reaches the exchange on one of them: it finds something in common of which the moment is that of the room, the direction's stages
-- hold what they held, and what was sent stands in front; and what is done after it leaves what they hold then, and what it sent in its place.
pub record IsReached (does : Does) (response : Bool) (n : ℕ) (x : Exchange) (room after : Room) : Type 0 where
  pub found : Hub
  pub holds : HoldSame room.hub.contexts found.contexts (chain_of response x)
  pub there : AreThere found.contexts (chain_of response x)
  pub moment : found.moment ≡ room.hub.moment
  pub before : (more : List Sent) × (found.sent ≡ room.hub.sent ++ more)
  pub on : IsOn n after (does n x found).0
  pub behind : HoldSame (does n x found).1.contexts after.hub.contexts (chain_of response x)
  pub stays : AreThere (does n x found).1.contexts (chain_of response x) → AreThere after.hub.contexts (chain_of response x)
  pub sent : (more : List Sent) × (after.hub.sent ≡ (does n x found).1.sent ++ more)

-- WHERE A VM DIED: what is called then does to each exchange what `lose_vm` is, whatever VM it is and whatever stages the exchange has.
pub record DeathsReach : Type 0 where
  pub on_all : (does : Does) → PassesAliens does → (response : Bool) (n : ℕ) (x : Exchange) (room : Room) (on : IsOn n room x) → OthersAreAlien (chain_of response x) on.place room
      → IsWhole response x room → IsReached does response n x room (with_lines room (all_lines does room.lines room.hub))
  pub dying : (vm : ℕ) (death : Death) (response : Bool) (n : ℕ) (x : Exchange) (room : Room) (on : IsOn n room x) → OthersAreAlien (chain_of response x) on.place room
      → IsWhole response x room → IsReached (lose_vm vm) response n x room (lose_vm_in vm death room)

-- ---- a death as deeds of a worker

abbrev pub at_rest : Exchange → Hub → Running
at_rest x hub = record { due = None; exchange = x; hub = hub }

-- what a death may do to the exchange, as a direction of it sees that: the last stage with a body callback is of another VM, nothing that is let through is
-- too much, no stage is in both chains, and the contexts are there
abbrev pub MayDie : Bool → ℕ → ℕ → ℕ → Exchange → Hub → Type 0
MayDie false n count vm x hub =
    CutIsAnothers count vm x.request × MayLet false n vm (at_rest x hub) × MayLet true n vm (at_rest (between vm n x hub).0 (between vm n x hub).1)
    × AreAliens (between vm n x hub).0.request (between vm n x hub).0.response × AreThere (between vm n x hub).1.contexts (between vm n x hub).0.request
MayDie true n count vm x hub =
    CutIsAnothers count vm x.response × MayLet false n vm (at_rest x hub) × MayLet true n vm (at_rest (between vm n x hub).0 (between vm n x hub).1)
    × AreAliens x.response x.request × AreThere hub.contexts x.response

abbrev pub death_deeds : Bool → ℕ → ℕ → Exchange → Hub → List Deed
death_deeds false n vm x hub = request_death n vm (at_rest x hub)
death_deeds true n vm x hub = response_death n vm (at_rest x hub)

-- WHERE A VM DIED, that is deeds of the law on exchanges, from the exchange and what all lines had in common to those after it, and the direction is sound
-- after them: so the law on turns goes on there.
pub record IsDeathOn (response : Bool) (n count : ℕ) (deeds : List Deed) (x : Exchange) (room : Room) (y : Exchange) (after : Room) : Type 0 where
  pub are : AreDeeds response n count deeds (running_of None x room)
  pub none_came : items_put deeds ≡ []
  pub last : done_all response n deeds (running_of None x room) ≡ running_of None y after
  pub sound : IsSound count (standing_of response (running_of None y after))

abbrev pub DeathsGoOn : Type 0
DeathsGoOn = (response : Bool) (n count vm : ℕ) (x : Exchange) (room after : Room) (r : IsReached (lose_vm vm) response n x room after) → IsSound count (standing_of response (running_of None x room))
    → x.has_ended ≡ false → fails_closed vm x ≡ false → MayDie response n count vm x r.found
    → IsDeathOn response n count (turns x r.found ∷ death_deeds response n vm x r.found ++ turns (lose_vm vm n x r.found).0 after.hub ∷ []) x room (lose_vm vm n x r.found).0 after

-- A MOVE WHOSE CALLBACK DIED ends so: its lines are in the log, none of its effects is done, and that is done on all lines.
abbrev pub DeathsEndMoves : Type 0 → Type 0
DeathsEndMoves H = (calling : Calling H) (plan : Plan) (place : ℕ) (host : H) (room : Room) (a : Asked) (lines : List Line) (hub : Hub) (ms : List Met) (b : Both H)
    → asks_at place (slice_get room.lines place) room.lines room.hub ≡ (Some a, lines, hub) → Reaches (step calling plan (next.Move place) host room) ms (ends b)
    → (c : Called H) × Reaches (runs_then (asked_program calling host a (with_lines room (lines, hub))) ends) ms (ends c)
    × ((death : Death) → c.end ≡ call_ends.Died death → b ≡ both c.host (lose_vm_in a.vm death (quiet_room c (with_lines room (lines, hub)))))
