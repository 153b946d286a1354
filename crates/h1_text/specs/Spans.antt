-- Fields, as the spans of a text say them.
use Rattle.std.specs.Prelude.{ℕ, List, map}
use Rattle.httparse.specs.declared.spans.HeaderSpan.{HeaderSpan}
use Rattle.httparse.specs.Spans.{header_bytes}
use Rattle.h1_model.specs.Fields.{Pair}

-- the names and values that the spans cover
abbrev pub fields_at : List ℕ → List HeaderSpan → List Pair
fields_at text spans = map (header_bytes text) spans
