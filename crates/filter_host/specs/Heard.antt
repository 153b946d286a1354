-- What a reader of one side of a line says.
use Rattle.h1_model.specs.Messages.{Stop}
use Rattle.h1_model.specs.Unread.{Part, Reading, Hands, Halts}

-- a part, and the reading after it; or why there is none
pub data Heard : Type 0 where
  hands : Part → Reading → Heard
  halts : Stop → Reading → Heard

abbrev pub Hears : Reading → Heard → Type 0
Hears old (hands part new) = Hands old part new
Hears old (halts why new) = Halts old why new
