-- A COURSE IS A FUNCTION OF THE REPLIES: where the replies are the same, so are the calls and the end.
use Rattle.std.specs.Prelude.{ℕ, List, [], ◌∷◌}
use Rattle.store_model.specs.Made.{Made, called, measured}
use Rattle.store_model.specs.declared.call.Call.{Call}
use Rattle.store_model.specs.declared.call.Reply.{Reply}
use Rattle.store_model.specs.declared.metric.MetricAsk.{MetricAsk}
use Rattle.store_model.specs.declared.metric.MetricReply.{MetricReply}

-- a call or an ask, without its reply
pub data Asked : Type 0 where
  asked : ℕ → Call → Asked
  counted : ℕ → MetricAsk → Asked

-- a reply alone
pub data Replied : Type 0 where
  replied : Reply → Replied
  told : MetricReply → Replied

abbrev pub asked_by : Made → Asked
asked_by (called c) = asked c.vm c.call
asked_by (measured c) = counted c.vm c.ask

abbrev pub replied_by : Made → Replied
replied_by (called c) = replied c.reply
replied_by (measured c) = told c.reply

abbrev pub asked_in : List Made → List Asked
asked_in [] = []
asked_in (m ∷ ms) = asked_by m ∷ asked_in ms

abbrev pub replies_in : List Made → List Replied
replies_in [] = []
replies_in (m ∷ ms) = replied_by m ∷ replies_in ms
