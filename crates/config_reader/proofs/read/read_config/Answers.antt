use Rattle.std.proofs.Common.{rules, ◌∙◌, sym, Some, codes, ap}
use Rattle.toml.specs.View.{table_view}
use Rattle.toml.specs.Parse.{parse_document}
use Rattle.config_reader.specs.Whole.{config_of}
use Rattle.config_reader.proofs.Stepping.{answers_as, refused_answers}
use Rattle.config_reader.proofs.Texts.{no_text, some_table}
use Rattle.config_reader.proofs.read.read_config.Goals as goal

pub returns-in_default : goal.returns-in_default
returns-in_default c =
    refused_answers (config_of c.args.text.now) 1 (codes "-") c.refuse-in_default.result (no_text c.args.text.now c.if-text-gt-MAX_CONFIG.false c.in_default.ensures.cases.0) c.refuse-in_default.ensures

pub returns-in-Ok-table_from_str : goal.returns-in-Ok-table_from_str
returns-in-Ok-table_from_str c =
    let text = c.in-Ok.ensures.cases in
    answers_as _ _ c.read_tables.result (some_table c.args.text.now (Some (table_view c.in-Ok-table_from_str.table)) c.if-text-gt-MAX_CONFIG.false text.1 (ap parse_document (sym text.0) ∙ c.in-Ok-table_from_str.ensures.ok)) c.read_tables.ensures
