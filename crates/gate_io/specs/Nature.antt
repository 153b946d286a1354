-- What a world is, which no call on it changes.
use Rattle.std.specs.Prelude.{ℕ, Bool, List, Option}
use Rattle.gate_io.specs.declared.event.Event.{Event}

pub record Nature : Type 0 where
  -- the 32 bytes from which its worker's random bytes come
  pub seed : List ℕ
  -- the event at each number, counted from 0 and from the world's beginning, so that those given count too; where told
  pub script : ℕ → Option Event
  -- Bytes come only from sides that the worker asks for
  pub obeys : Bool
  -- each `send` that is answered takes its whole piece
  pub takes_whole : Bool
  -- no call of `next` fails, and none has failed
  pub fails_no_call : Bool
