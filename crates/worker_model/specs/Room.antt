-- A worker within a turn, but for its machines and its rules.
use Rattle.std.specs.Prelude.{ℕ, Bool, List, Option}
use Rattle.callouts.specs.declared.types.Callout.{Callout}
use Rattle.exchange.specs.declared.types.Hub.{Hub}
use Rattle.worker_model.specs.declared.types.ContextAt.{ContextAt}
use Rattle.worker_model.specs.declared.types.Job.{Job}
use Rattle.worker_model.specs.declared.types.Line.{Line}
use Rattle.worker_model.specs.declared.types.ReadBatch.{ReadBatch}
use Rattle.worker_model.specs.declared.types.TcpLine.{TcpLine}

-- its open lines by their numbers, and what they have in common; what is being read; what is in hand; the parts of the event that are still to
-- come; the contexts that wait for `proxy_done`; the VMs that died; whether the VMs were started; the callouts that are under way, their ids
-- rising; and the lines whose connections are streams of bytes
pub record Room : Type 0 where
  pub lines : List Line
  pub hub : Hub
  pub reading : Option ReadBatch
  pub jobs : List Job
  pub agenda : List Job
  pub waits : List ContextAt
  pub dead : List ℕ
  pub is_begun : Bool
  pub calls : List Callout
  pub tcp : List TcpLine
