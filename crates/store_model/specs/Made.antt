-- Calls that were made and metric asks, each with its reply.
use Rattle.std.specs.Prelude.{ℕ, ◌==◌, List, [], ◌∷◌, map}
use Rattle.std.specs.List.{filter}
use Rattle.store_model.specs.History.{entry}
use Rattle.store_model.specs.declared.call.Call.{Call}
use Rattle.store_model.specs.declared.call.Reply.{Reply}
use Rattle.store_model.specs.declared.entry.Entry.{Entry}
use Rattle.store_model.specs.declared.metric.MetricAsk.{MetricAsk}
use Rattle.store_model.specs.declared.metric.MetricReply.{MetricReply}

-- a call on the store of this number, and its reply
pub record MadeCall : Type 0 where
  pub vm : ℕ
  pub call : Call
  pub reply : Reply

-- an ask of the metrics of this number, and its reply
pub record MadeAsk : Type 0 where
  pub vm : ℕ
  pub ask : MetricAsk
  pub reply : MetricReply

-- the one or the other
pub data Made : Type 0 where
  called : MadeCall → Made
  measured : MadeAsk → Made

abbrev pub made : ℕ → Call → Reply → Made
made vm call reply = called (record { vm = vm; call = call; reply = reply })

abbrev pub made_ask : ℕ → MetricAsk → MetricReply → Made
made_ask vm ask reply = measured (record { vm = vm; ask = ask; reply = reply })

-- the calls alone, in order
abbrev pub calls_among : List Made → List MadeCall
calls_among [] = []
calls_among (called m ∷ ms) = m ∷ calls_among ms
calls_among (measured m ∷ ms) = calls_among ms

-- the metric asks alone, in order
abbrev pub asks_among : List Made → List MadeAsk
asks_among [] = []
asks_among (called m ∷ ms) = asks_among ms
asks_among (measured m ∷ ms) = m ∷ asks_among ms

-- the calls on one store, as the entries of a worker
abbrev pub entries_on : ℕ → ℕ → List Made → List Entry
entries_on who vm made = map (λ m. entry who m.call m.reply) (filter (λ m. m.vm == vm) (calls_among made))
