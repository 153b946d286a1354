-- What a reader answers is what it says.
use Rattle.std.proofs.Common.{◌≡◌, List, refl, ap, ◌∙◌}
use Rattle.std.specs.Prelude.{Option, None, Some}
use Rattle.filter_host.specs.Heard.{Hears}
use Rattle.h1_model.specs.Unread.{Reading}
use Rattle.h1_stream.specs.Steps.{Answers}
use Rattle.h1_stream.specs.declared.reader.Step as step
use Rattle.h1_stream.specs.declared.reader.Step.TheVariants as steps
use Rattle.worker_model.specs.Room.{Room}
use Rattle.worker_model.specs.declared.types.Line.{Line}
use Rattle.worker_model.specs.declared.types.ReadBatch.{ReadBatch}
use Rattle.worker_lines.specs.Hearing.{heard_of, HearsOn, takes_step}
use Rattle.worker_model.specs.Plan.{Plan}
use Rattle.worker_model.specs.Steps.{ReadSo, after_heard, on_line, read_on}

says : (s : step.Step) (old new : Reading) → Answers old s new → Hears old (heard_of s new)
says (steps.Item i) old new is = is.0
says steps.NotYet old new is = is
says steps.Over old new is = is
says (steps.Refused status) old new is = is

-- the room after a reading, with these lines
abbrev pub read_room : Room → List Line → Room
read_room old lines = record old { reading = None; lines = lines }

taken : (plan : Plan) (r : ReadBatch) (s : step.Step) (new : Reading) (old : Room)
    → takes_step plan r s (read_room old (on_line (read_on r.up new) r.line old.lines)) ≡ after_heard plan r (heard_of s new) (record old { reading = None })
taken plan r (steps.Item i) new old = refl
taken plan r steps.NotYet new old = refl
taken plan r steps.Over new old = refl
taken plan r (steps.Refused status) new old = refl

pub reads_step : (plan : Plan) (r : ReadBatch) (o : Option Reading) (old new : Room) (lines : List Line) (s : step.Step) → HearsOn r.up r.line o old.lines (Some s) lines
    → new ≡ takes_step plan r s (read_room old lines) → ReadSo plan r o old new
reads_step plan r None old new lines s hears is = elim hears [ ]
reads_step plan r (Some reading) old new lines s hears is = (
  heard_of s hears.0,
  says s reading hears.0 hears.1,
  is ∙ ap (λ (ls : List Line). takes_step plan r s (read_room old ls)) hears.2 ∙ taken plan r s hears.0 old,
)

pub reads_none : (plan : Plan) (r : ReadBatch) (o : Option Reading) (old : Room) (lines : List Line) → HearsOn r.up r.line o old.lines None lines → ReadSo plan r o old (read_room old lines)
reads_none plan r None old lines hears = ap (read_room old) hears
reads_none plan r (Some reading) old lines hears = elim hears [ ]
