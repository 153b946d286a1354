-- Worked steps of a worker: the head of a request is put with two bytes of its body, and the filter holds the head.
use Rattle.std.specs.Prelude.{◌≡◌, ℕ, suc, ◌-◌, true, false, ◌&&◌, List, [], ◌∷◌, map, nat_le, Option, None, Some, codes, if◌then◌else◌}
use Rattle.contexts.specs.declared.parts.Contexts.{Contexts}
use Rattle.contexts.specs.declared.parts.StageBuffer as parts
use Rattle.contexts.specs.Stages.{stage_changed}
use Rattle.filter_host.specs.Called.{Called, Calling, called_back}
use Rattle.filter_host.specs.Course.{Course, ends, asks, measures, hears}
use Rattle.filter_host.specs.declared.host.CallbackEnd.TheVariants as call_ends
use Rattle.filter_host.specs.declared.host.Callback.{Callback}
use Rattle.filter_host.specs.declared.host.Callback.TheVariants as callbacks
use Rattle.exchange.specs.declared.types.Exchange.{Exchange}
use Rattle.exchange.specs.declared.types.Filter.{Filter}
use Rattle.exchange.specs.Examples as exchanges
use Rattle.filter_chain.specs.declared.item.Held.{Held}
use Rattle.filter_chain.specs.declared.item.Held.TheVariants as held
use Rattle.filter_chain.specs.declared.item.ChainItem.{ChainItem}
use Rattle.filter_chain.specs.declared.item.ChainItem.TheVariants.{Head, Piece}
use Rattle.filter_chain.specs.declared.stage.Stage.{Stage}
use Rattle.filter_chain.specs.Flow.{flow}
use Rattle.filter_chain.specs.Items.{item_bytes}
use Rattle.h1_model.specs.Messages.{body, counted}
use Rattle.h1_model.specs.Unread.{Reading}
use Rattle.store_model.specs.Program.{done}
use Rattle.worker_model.specs.declared.types.Job.TheVariants as jobs
use Rattle.worker_model.specs.Plan.{Plan}
use Rattle.worker_model.specs.Rooms.{next_of}
use Rattle.worker_model.specs.Steps.{Both, both, step}
use Rattle.law_body.specs.Deeds.{standing_of, left_by}
use Rattle.law_chain.specs.PassThrough.{IsNew}
use Rattle.law_flow.specs.Rooms.{running_of, run_deeds}
use Rattle.law_flow.specs.Turns.{Steps, HavePassed}

-- ---- the machine

abbrev pub capital : ℕ → ℕ
capital b = if nat_le 97 b && nat_le b 122 then b - 32 else b

-- what a stage holds, in capitals
abbrev pub shouted : parts.StageBuffer → parts.StageBuffer
shouted t = record t { held = map capital t.held }

-- it counts its callbacks
abbrev pub returns : Option ℕ → ℕ → Contexts → Called ℕ
returns value calls h = called_back (call_ends.Returned value) [] (suc calls) h

-- It answers Pause to the head of a request; of each part of a body it makes capitals, and answers Continue. All other callbacks do nothing.
abbrev pub asked_of : ℕ → ℕ → ℕ → Contexts → Callback → Called ℕ
asked_of calls vm context h callbacks.Begin = returns None calls h
asked_of calls vm context h callbacks.ContextCreate = returns None calls h
asked_of calls vm context h callbacks.VmStart = returns None calls h
asked_of calls vm context h callbacks.Configure = returns None calls h
asked_of calls vm context h callbacks.Tick = returns None calls h
asked_of calls vm context h callbacks.QueueReady = returns None calls h
asked_of calls vm context h callbacks.RequestHeaders = returns (Some 1) calls h
asked_of calls vm context h callbacks.RequestBody = returns (Some 0) calls (stage_changed shouted h vm context false)
asked_of calls vm context h callbacks.RequestTrailers = returns None calls h
asked_of calls vm context h callbacks.ResponseHeaders = returns None calls h
asked_of calls vm context h callbacks.ResponseBody = returns None calls h
asked_of calls vm context h callbacks.ResponseTrailers = returns None calls h
asked_of calls vm context h callbacks.Done = returns None calls h
asked_of calls vm context h callbacks.Log = returns None calls h
asked_of calls vm context h callbacks.Delete = returns None calls h
asked_of calls vm context h callbacks.CallAnswered = returns None calls h
asked_of calls vm context h callbacks.NewConnection = returns None calls h
asked_of calls vm context h callbacks.DownstreamData = returns None calls h
asked_of calls vm context h callbacks.UpstreamData = returns None calls h
asked_of calls vm context h callbacks.DownstreamClose = returns None calls h
asked_of calls vm context h callbacks.UpstreamClose = returns None calls h

abbrev pub holding : Calling ℕ
holding calls vm name context first second now h = done (asked_of calls vm context h name)

-- ---- the worker

abbrev pub one_vm : Plan
one_vm = record { routes = []; plugins = []; vms = 1; deadline = 0; bodies = []; registers = []; tcp = [] }

-- context 2 is the stream of VM 0 on line 1
abbrev pub its_filter : Filter
its_filter = record { plugin = 0; vm = 0; fails_open = false; created = true; context = 2 }

-- an exchange of that filter, through which nothing passed yet; the body of its request is to be framed anew
abbrev pub starts : Exchange
starts = record (exchanges.uploading held.Nothing) { filters = its_filter ∷ []; asked = record exchanges.upload { length = exchanges.three_bytes.length; told = Some 3 } }

-- its head was read, and two of these
abbrev pub one_is_due : Reading
one_is_due = record { asked = None; ended = false; due = body (counted 1); unread = [] }

abbrev pub head_and_two : List ChainItem
head_and_two = Head false ∷ Piece (codes "ab") false ∷ []

abbrev pub begins : Both ℕ
begins = both 0 (record {
  lines = record { number = 1; requests = one_is_due; is_gone = false; exchange = Some starts } ∷ [];
  hub = record { moment = 0; contexts = exchanges.host; sent = [] };
  reading = None;
  jobs = jobs.Put 1 false head_and_two ∷ [];
  agenda = [];
  waits = [];
  dead = [];
  is_begun = true;
  calls = [];
  tcp = [];
})

-- ---- what its steps come to

-- the end of a course that meets nothing; any other is at its end where it began
abbrev pub end_by : Both ℕ → Course (Both ℕ) → Both ℕ
end_by b (ends e) = e
end_by b (asks vm call k) = b
end_by b (measures vm call k) = b
end_by b (hears r k) = b

-- the next step
abbrev pub stepped : Both ℕ → Both ℕ
stepped b = end_by b (step holding one_vm (next_of b.room) b.host b.room)

-- ---- the head comes, and is held

-- what was read is put; the filter holds the head
abbrev pub first_put : Both ℕ
first_put = stepped begins

abbrev pub head_held : Both ℕ
head_held = stepped first_put

-- ---- the example

-- the bytes that left the chain, as the law tells them of these steps
abbrev pub bytes_left : {b e : Both ℕ} {items : List ChainItem} {steps : Steps holding one_vm false 1 1 starts b items e} → HavePassed steps → List ℕ
bytes_left {b} {e} {items} {steps} passed = item_bytes (left_by false 1 (run_deeds passed.run) (running_of None starts b.room))

-- what each stage for the request holds of it, where its head is held
abbrev pub holds_head : List Held
holds_head = held.Head false ∷ []

abbrev pub what_is_held : List Stage → List Held
what_is_held ss = map (λ (s : Stage). s.held) ss

pub record TurnExample : Type 0 where
  -- no callback is called when what was read is put, and then one is
  pub none_called : first_put.host ≡ 0
  pub one_called : head_held.host ≡ 1
  -- The head is held, and the first piece waits at the filter. The law says that no byte left.
  pub held : Steps holding one_vm false 1 1 starts begins head_and_two head_held
  pub held_new : IsNew (standing_of false (running_of None starts begins.room))
  pub held_passed : HavePassed held
  pub held_left : (passed : HavePassed held) → bytes_left passed ≡ []
  pub held_head : (passed : HavePassed held) → what_is_held passed.last.request ≡ holds_head
  pub held_sent : head_held.room.hub.sent ≡ []
  pub held_inside : (passed : HavePassed held) → flow head_held.room.hub.contexts passed.last.request ≡ codes "ab"
