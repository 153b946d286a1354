use Rattle.std.proofs.Common.{List, ℕ, ◌∙◌, ap, sym, bytes_eq}
use Rattle.std.specs.List.{list_any}
use Rattle.toml.specs.Data.{Data}
use Rattle.toml.specs.View.{view}
use Rattle.toml.specs.declared.value.Value.{Value}
use Rattle.config_reader.specs.Judge.{text_of}
use Rattle.config_reader.proofs.Mapped.{any_map}
use Rattle.config_reader.proofs.names.is_among.Goals as goal

pub returns : goal.returns
returns c =
    c.is_one_of.ensures
    ∙ ap (λ (s : List ℕ). list_any (λ (v : Value). bytes_eq (text_of (view v)) s) c.args.others.now) c.text_in.ensures
    ∙ sym (any_map (λ (e : Data). bytes_eq (text_of e) (text_of (view c.args.item.now))) view c.args.others.now)
