-- THE HEAD OF A REQUEST WAITS FOR EACH STAGE: it goes past none that was not asked.
use Rattle.std.specs.Prelude.{◌≡◌, ◌⊎◌, ℕ, zero, suc, Bool, true, false, List, [], ◌∷◌, ◌++◌, slice_get, Option, None, Some}
use Rattle.exchange.specs.Passing.{lose_vm, put_read_items, resume_context, close_exchange, apply_action, refuse_exchange, expire_exchange}
use Rattle.exchange.specs.Answering.{answer}
use Rattle.exchange.specs.declared.types.Exchange.{Exchange}
use Rattle.exchange.specs.declared.types.Filter.{Filter}
use Rattle.exchange.specs.declared.types.Hub.{Hub}
use Rattle.filter_chain.specs.Chains.{has_head, is_head}
use Rattle.filter_chain.specs.declared.item.AskKind.TheVariants as kinds
use Rattle.filter_chain.specs.declared.item.ChainItem.{ChainItem}
use Rattle.filter_chain.specs.declared.item.ChainItem.TheVariants.{Head}
use Rattle.filter_chain.specs.declared.item.Held.TheVariants as held
use Rattle.filter_chain.specs.declared.stage.Stage.{Stage}
use Rattle.gate_io.specs.declared.event.Sent.{Sent}
use Rattle.gate_io.specs.declared.event.Sent.TheVariants as to
use Rattle.h1_model.specs.Fields.{Pair}
use Rattle.worker_model.specs.Moves.{asks_exchange}
use Rattle.worker_model.specs.Room.{Room}
use Rattle.worker_model.specs.Rooms.{Changes}
use Rattle.worker_model.specs.Steps.{exchange_on, exchange_with_stages, is_live, run_silent_job}
use Rattle.worker_model.specs.declared.types.Job.TheVariants as jobs
use Rattle.worker_model.specs.declared.types.Asked.{Asked}

-- nothing came to the stage, or all of it went on
pub record IsIdle (s : Stage) : Type 0 where
  pub waiting : s.waiting ≡ []
  pub holding : s.held ≡ held.Nothing

-- so it is of each of these stages
abbrev pub AreIdle : List Stage → Type 0
AreIdle [] = Unit {0}
AreIdle (s ∷ ss) = IsIdle s × AreIdle ss

-- the stage of a context of a VM, which is not let through
pub record IsStageOf (vm context : ℕ) (s : Stage) : Type 0 where
  pub vm_is : s.vm ≡ vm
  pub context_is : s.context ≡ context
  pub asking : s.passes ≡ false

-- the head waits at the stage, which holds nothing
pub record HeadWaits (s : Stage) : Type 0 where
  pub waiting : has_head s.waiting ≡ true
  pub holding : s.held ≡ held.Nothing

-- Nothing came to these stages, and the stage of the context is at this place among them.
abbrev pub Awaits : (vm context : ℕ) → ℕ → List Stage → Type 0
Awaits vm context place [] = ⊥
Awaits vm context zero (s ∷ ss) = IsStageOf vm context s × IsIdle s × AreIdle ss
Awaits vm context (suc place) (s ∷ ss) = IsIdle s × Awaits vm context place ss

-- THE HEAD IS NOT PAST THE STAGE of the context, at this place among these: it waits there, or waits or is held at an earlier one; and nothing came to any stage
-- behind the one where it is.
abbrev pub Comes : (vm context : ℕ) → ℕ → List Stage → Type 0
Comes vm context place [] = ⊥
Comes vm context zero (s ∷ ss) = IsStageOf vm context s × HeadWaits s × AreIdle ss
Comes vm context (suc place) (s ∷ ss) = ((s.passes ≡ false) × (HeadWaits s ⊎ (is_head s.held ≡ true)) × Awaits vm context place ss) ⊎ Comes vm context place ss

-- nothing more of the request of an exchange goes up
abbrev pub IsSilenced : Exchange → Type 0
IsSilenced x = (x.has_ended ≡ true) ⊎ ((x.is_answered ≡ true) × (x.request ≡ []))

-- THE HEAD OF THE EXCHANGE'S REQUEST WAITS for the stage of a context, or nothing more of the request goes up
abbrev pub Waits : (vm context : ℕ) → Exchange → Type 0
Waits vm context x = IsSilenced x ⊎ ((place : ℕ) × Comes vm context place x.request)

-- the same before anything of the request came
abbrev pub WaitsYet : (vm context : ℕ) → Exchange → Type 0
WaitsYet vm context x = IsSilenced x ⊎ ((x.has_ended ≡ false) × (x.is_answered ≡ false) × ((place : ℕ) × Awaits vm context place x.request))

-- no connection to a server is opened among these
abbrev pub OpensNone : List Sent → Type 0
OpensNone [] = Unit {0}
OpensNone (to.Connect n ∷ more) = ⊥
OpensNone (to.Bytes n side bytes ∷ more) = OpensNone more
OpensNone (to.Close n side ∷ more) = OpensNone more
OpensNone (to.Log level text ∷ more) = OpensNone more

-- it waits still, and no connection was opened
pub record WaitsOn (vm context : ℕ) (hub : Hub) (after : Exchange × Hub) : Type 0 where
  pub waits : Waits vm context after.0
  pub sent : (more : List Sent) × (after.1.sent ≡ hub.sent ++ more) × OpensNone more

-- what a callback, an answer or the work on an exchange does to it so, that the head waits on
abbrev pub KeepsWaiting : (vm context : ℕ) → Changes → Type 0
KeepsWaiting vm context change = (n : ℕ) (x : Exchange) (hub : Hub) → Waits vm context x → WaitsOn vm context hub (change n x hub)

-- the stage of the context is asked the head of a request
abbrev pub IsAskedHead : (vm context : ℕ) → Option Asked → Type 0
IsAskedHead vm context None = ⊥
IsAskedHead vm context (Some a) = (a.response ≡ false) × (a.vm ≡ vm) × (a.context ≡ context) × (a.ask.kind ≡ kinds.Head)

-- WHATEVER IS DONE TO THE EXCHANGE, the head waits on until the stage is asked it: whatever callbacks return and ask for, whichever other VM dies, and whatever more of
-- the request or the response comes.
pub record HeadsWait (vm context : ℕ) : Type 0 where
  pub resumes : (other id : ℕ) (response : Bool) → KeepsWaiting vm context (resume_context other id response)
  pub closes : KeepsWaiting vm context close_exchange
  pub answers : (status : ℕ) (fields : List Pair) (body : List ℕ) → KeepsWaiting vm context (λ n. answer n false status fields body)
  pub acts : (response : Bool) (stage value : ℕ) → KeepsWaiting vm context (apply_action response stage value)
  pub refuses : (status : ℕ) → KeepsWaiting vm context (refuse_exchange status)
  pub expires : KeepsWaiting vm context expire_exchange
  pub puts : (response : Bool) (items : List ChainItem) → KeepsWaiting vm context (put_read_items response items)
  pub dies : (other : ℕ) → (other ≡ vm → ⊥) → KeepsWaiting vm context (lose_vm other)
  pub asks : (n : ℕ) (x : Exchange) (hub : Hub) → Waits vm context x
      → IsAskedHead vm context (asks_exchange n x hub).0 ⊎ WaitsOn vm context hub ((asks_exchange n x hub).1, (asks_exchange n x hub).2)
  -- and it comes to wait where what is read begins with it
  pub begins : (end : Bool) (items : List ChainItem) (n : ℕ) (x : Exchange) (hub : Hub) → WaitsYet vm context x → WaitsOn vm context hub (put_read_items false (Head end ∷ items) n x hub)

-- SO IT IS OF EACH STAGE.
abbrev pub AllHeadsWait : Type 0
AllHeadsWait = (vm context : ℕ) → HeadsWait vm context

-- AND SO IT BEGINS: where stages are made of an exchange that runs and was not answered, nothing came to any, and each filter that has its context, of a VM that lives,
-- has its stage among them.
abbrev pub StagesAwait : Type 0
StagesAwait =
    (dead : List ℕ) (x : Exchange) (k : ℕ) (f : Filter) → x.has_ended ≡ false → x.is_answered ≡ false → slice_get x.filters k ≡ Some f → is_live dead f ≡ true
    → WaitsYet f.vm f.context (exchange_with_stages dead x)

-- SO THE HEAD COMES TO WAIT: where stages are made of the exchange on a line, which runs and was not answered, and what was read, from the head on, is put to them, the head
-- waits for the stage of each filter that has its context, of a VM that lives.
abbrev pub HeadsComeToWait : Type 0
HeadsComeToWait =
    (n k : ℕ) (end : Bool) (items : List ChainItem) (room : Room) (x : Exchange) (f : Filter)
    → exchange_on n room ≡ Some x → x.has_ended ≡ false → x.is_answered ≡ false → slice_get x.filters k ≡ Some f → is_live room.dead f ≡ true
    → (y : Exchange) × (exchange_on n (run_silent_job (jobs.Put n false (Head end ∷ items)) (run_silent_job (jobs.Enter n) room)) ≡ Some y) × (y.is_entered ≡ true) × Waits f.vm f.context y

-- the stage of the context is asked the head of the request of the exchange on the line
abbrev pub IsAskedOn : (n vm context : ℕ) → Option Asked → Type 0
IsAskedOn n vm context None = ⊥
IsAskedOn n vm context (Some a) = (a.line ≡ n) × IsAskedHead vm context (Some a)
