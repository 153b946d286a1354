-- WHAT IS DONE FOR A CALLOUT that is under way: what comes of its line is read, and in the end its context is told.
use Rattle.std.specs.Prelude.{ℕ, Bool, true, false, not, ◌&&◌, [], ◌∷◌, length, nat_lt, Option, None, Some}
use Rattle.callouts.specs.Callouts.{line_of, without, after_heard}
use Rattle.callouts.specs.Steps.{After, after_event, after_read}
use Rattle.callouts.specs.declared.types.Callout.{Callout}
use Rattle.callouts.specs.declared.types.CallStep.{CallStep}
use Rattle.contexts.specs.Lending.{own_put_of}
use Rattle.contexts.specs.Reached.{contains, seen}
use Rattle.contexts.specs.Stages.{own_at}
use Rattle.contexts.specs.declared.parts.CallAnswer.{CallAnswer}
use Rattle.contexts.specs.declared.parts.Contexts.{Contexts}
use Rattle.contexts.specs.declared.parts.Own.{Own}
use Rattle.filter_host.specs.Heard.{Heard}
use Rattle.gate_io.specs.declared.event.Sent.TheVariants.{Close}
use Rattle.gate_io.specs.declared.event.Side.TheVariants.{Up}
use Rattle.gate_io.specs.declared.event.What.{What}
use Rattle.worker_model.specs.Room.{Room}
use Rattle.worker_model.specs.Rooms.{with_contexts, room_with_sent, is_dead, with_calls}
use Rattle.worker_model.specs.declared.types.Job.{Job}
use Rattle.worker_model.specs.declared.types.Job.TheVariants as jobs
use Rattle.worker_model.specs.declared.types.OtherStep.TheVariants as others

-- The job of one step of a callout.
abbrev pub call_job : CallStep → Job
call_job step = jobs.Other (others.Call step)

-- ---- what comes of its line, and what its reader says

-- this comes next, if anything
abbrev pub with_call_step : Option CallStep → Room → Room
with_call_step None room = room
with_call_step (Some step) room = record room { jobs = call_job step ∷ room.jobs }

-- The room after a step: the callouts under way are these, and the next step comes first.
abbrev pub take_after : After → Room → Room
take_after a room = with_call_step a.next (record room { calls = a.calls })

-- SOMETHING CAME of the line of a callout. Where none is under way there, that changes nothing.
abbrev pub take_call_event : What → Room → Room
take_call_event what room = take_after (after_event what room.calls) room

-- the reader of the callout of an id said this
abbrev pub take_call_heard : ℕ → Callout → Heard → Room → Room
take_call_heard id c h room = take_after (after_read id (after_heard h c) room.calls) room

-- ---- its end

-- it is under way no more, and its connection is closed
abbrev pub close_call : ℕ → Room → Room
close_call id room = room_with_sent (Close (line_of id) Up ∷ []) (with_calls (without id room.calls) room)

-- its VM lives, and its context is there still
abbrev pub has_listener : Callout → Room → Bool
has_listener c room =
    (nat_lt c.vm (length room.hub.contexts.vms) && not (is_dead c.vm room)) && contains c.context (seen room.hub.contexts c.vm).common.ids

-- what was read of it, where that is its answer
abbrev pub answer_if : (is_answered : Bool) → Callout → Option CallAnswer
answer_if true c = Some c.answer
answer_if false c = None

-- what a context has of an answer, while it is told of it
abbrev pub with_call_answer : Option CallAnswer → Option Own → (vm e : ℕ) → Contexts → Contexts
with_call_answer a None vm e h = h
with_call_answer a (Some o) vm e h = own_put_of h vm e (record o { answer = a })

-- The room with, or without, an answer at a context of a VM.
abbrev pub put_call_answer : Option CallAnswer → (vm e : ℕ) → Room → Room
put_call_answer a vm e room = with_contexts (with_call_answer a (own_at room.hub.contexts vm e) vm e room.hub.contexts) room
