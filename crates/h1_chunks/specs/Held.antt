-- The fields of a section, as the code holds them.
use Rattle.std.specs.Prelude.{List}
use Rattle.h1_model.specs.Fields.{Pair}
use Rattle.h1_chunks.specs.declared.section.SectionFields.{SectionFields}
use Rattle.h1_text.specs.Spans.{fields_at}

-- their names and values
abbrev pub fields_of : SectionFields → List Pair
fields_of fields = fields_at fields.text.now fields.spans.now
