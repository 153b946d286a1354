use Rattle.std.proofs.Common.{◌∙◌, sym, bytes_eq}
use Rattle.config_reader.specs.Rows.{Row, row_of}
use Rattle.config_reader.proofs.Mapped.{any_map}
use Rattle.config_reader.proofs.checks.is_key.Goals as goal

pub returns : goal.returns
returns c = c.has_name.ensures ∙ sym (any_map (λ (row : Row). bytes_eq row.name c.args.name.now) row_of c.args.keys.now)
