-- What comes first where several things are to be done: what is being read; the chains, the lowest line first; the jobs in hand; contexts
-- that are released; exchanges that have ended; the next part of the turn; and then rest.
use Rattle.std.specs.Prelude.{◌≡◌, ℕ, true, false, List, [], ◌∷◌, Option, None, Some, codes}
use Rattle.contexts.specs.Creating.{await_done_of}
use Rattle.exchange.specs.declared.types.Exchange.{Exchange}
use Rattle.filter_chain.specs.declared.item.Held.TheVariants as held
use Rattle.filter_chain.specs.declared.item.ChainItem.TheVariants.{Head}
use Rattle.worker_model.specs.Rooms.{next_of}
use Rattle.worker_model.specs.Room.{Room}
use Rattle.worker_model.specs.declared.types.ContextAt.{ContextAt}
use Rattle.worker_model.specs.declared.types.Job.{Job}
use Rattle.worker_model.specs.declared.types.Job.TheVariants as jobs
use Rattle.worker_model.specs.declared.types.Line.{Line}
use Rattle.worker_model.specs.declared.types.Next.TheVariants as next
use Rattle.worker_model.specs.declared.types.ReadBatch.{ReadBatch}
use Rattle.law_turns.specs.Scenes.{plugin, contexts_with_roots, filter_of, stage, exchange, line, room}

-- nothing waits at the stage of the exchange; a head waits there; its end has come
abbrev still : Exchange
still = exchange 0 (filter_of 0 true 2) (stage false 2 held.Nothing) (stage true 2 held.Nothing)

abbrev moving : Exchange
moving = record still { request = record (stage false 2 held.Nothing) { waiting = Head true ∷ [] } ∷ [] }

abbrev ended : Exchange
ended = record moving { has_ended = true }

abbrev of_vm : ℕ → ContextAt
of_vm context = record { vm = 0; context = context }

-- context 2 waits for `proxy_done`, and context 3 does so no more
abbrev busy : Option ReadBatch → List Line → List Job → List ContextAt → List Job → Room
busy reading lines jobs waits parts = record (room lines (await_done_of 0 2 (contexts_with_roots (plugin (codes "p") true ∷ [])))) {
  reading = reading;
  jobs = jobs;
  waits = waits;
  agenda = parts;
}

abbrev reads : ReadBatch
reads = record { line = 1; up = false; batch = [] }

abbrev some_lines : List Line
some_lines = line 1 (Some ended) ∷ line 2 (Some moving) ∷ line 3 (Some moving) ∷ []

abbrev ended_lines : List Line
ended_lines = line 1 (Some still) ∷ line 2 (Some ended) ∷ line 3 (Some ended) ∷ []

abbrev a_job : List Job
a_job = jobs.Expire ∷ []

abbrev both_wait : List ContextAt
both_wait = of_vm 2 ∷ of_vm 3 ∷ []

pub record StepExamples : Type 0 where
  pub reading : next_of (busy (Some reads) some_lines a_job both_wait a_job) ≡ next.Read
  pub lowest_line : next_of (busy None some_lines a_job both_wait a_job) ≡ next.Move 1
  pub job : next_of (busy None ended_lines a_job both_wait a_job) ≡ next.Work
  pub released : next_of (busy None ended_lines [] both_wait a_job) ≡ next.Free 1
  pub end : next_of (busy None ended_lines [] (of_vm 2 ∷ []) a_job) ≡ next.End 1
  pub part : next_of (busy None (line 1 (Some still) ∷ []) [] (of_vm 2 ∷ []) a_job) ≡ next.Begin
  pub nothing : next_of (busy None (line 1 (Some still) ∷ []) [] (of_vm 2 ∷ []) []) ≡ next.Rest
