-- What a reader of a side says, as the code's values say it.
use Rattle.std.specs.Prelude.{◌≡◌, ℕ, Bool, List, Option, None, Some}
use Rattle.filter_host.specs.Heard.{Heard, hands, halts}
use Rattle.exchange.specs.declared.types.Exchange.{Exchange}
use Rattle.h1_model.specs.Messages as model
use Rattle.h1_model.specs.Unread.{Reading}
use Rattle.h1_stream.specs.Seen.{seen_part}
use Rattle.h1_stream.specs.Steps.{Answers}
use Rattle.h1_stream.specs.declared.reader.Step as step
use Rattle.h1_stream.specs.declared.reader.Step.TheVariants as steps
use Rattle.worker_model.specs.Room.{Room}
use Rattle.worker_model.specs.declared.types.Line.{Line}
use Rattle.worker_model.specs.declared.types.ReadBatch.{ReadBatch}
use Rattle.worker_model.specs.Plan.{Plan}
use Rattle.worker_model.specs.Steps.{read_on, on_line, with_reader, take_part, end_of_read}

-- what an answer of a reader says, where this is the reading after it
abbrev pub heard_of : step.Step → Reading → Heard
heard_of (steps.Item i) new = hands (seen_part i) new
heard_of steps.NotYet new = halts model.rest new
heard_of steps.Over new = halts model.over new
heard_of (steps.Refused status) new = halts (model.refusal status) new

-- the reader of the exchange answered this
abbrev pub HearsExchange : Option Reading → Exchange → Option step.Step → Exchange → Type 0
HearsExchange None old None new = new ≡ old
HearsExchange None old (Some s) new = ⊥
HearsExchange (Some reading) old None new = ⊥
HearsExchange (Some reading) old (Some s) new = (now : Reading) × Answers reading s now × (new ≡ with_reader now old)

-- the reader of a side of the line
abbrev pub HearsLine : Bool → Option Reading → Line → Option step.Step → Line → Type 0
HearsLine up None old None new = new ≡ old
HearsLine up None old (Some s) new = ⊥
HearsLine up (Some reading) old None new = ⊥
HearsLine up (Some reading) old (Some s) new = (now : Reading) × Answers reading s now × (new ≡ read_on up now old)

abbrev pub HearsOn : Bool → ℕ → Option Reading → List Line → Option step.Step → List Line → Type 0
HearsOn up number None old None new = new ≡ old
HearsOn up number None old (Some s) new = ⊥
HearsOn up number (Some reading) old None new = ⊥
HearsOn up number (Some reading) old (Some s) new = (now : Reading) × Answers reading s now × (new ≡ on_line (read_on up now) number old)

-- what becomes of the room by an answer of a reader
abbrev pub takes_step : Plan → ReadBatch → step.Step → Room → Room
takes_step plan r (steps.Item i) room = take_part plan r (seen_part i) room
takes_step plan r steps.NotYet room = end_of_read r model.rest room
takes_step plan r steps.Over room = end_of_read r model.over room
takes_step plan r (steps.Refused status) room = end_of_read r (model.refusal status) room
