-- What becomes of a line after an exchange, by the code's names.
use Rattle.std.specs.Prelude.{Bool, Option, None, Some, if◌then◌else◌}
use Rattle.worker_model.specs.declared.types.Line.{Line}
use Rattle.worker_room.specs.declared.happening.Fate.{Fate}
use Rattle.worker_room.specs.declared.happening.Fate.TheVariants.{Nothing, Drop, Close, Read}

abbrev pub fate_of : Bool → Option Line → Fate
fate_of stays None = Nothing
fate_of stays (Some line) = if line.is_gone then Drop else if stays then Read else Close
