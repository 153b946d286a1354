-- The lines of those fields that say what a head is.
use Rattle.std.specs.Prelude.{List, codes}
use Rattle.h1_model.specs.Fields.{Pair, values_of}
use Rattle.h1_head.specs.declared.fields.Noted.{Noted}
use Rattle.h1_head.specs.Spans.{AreLines}

-- these are the lines of Host, Connection, Content-Length and Transfer-Encoding among these fields
pub record AreNoted (fields : List Pair) (noted : Noted) : Type 0 where
  pub host : AreLines (values_of (codes "host") fields) noted.host
  pub connection : AreLines (values_of (codes "connection") fields) noted.connection
  pub lengths : AreLines (values_of (codes "content-length") fields) noted.lengths
  pub codings : AreLines (values_of (codes "transfer-encoding") fields) noted.codings
