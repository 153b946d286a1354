use Rattle.std.proofs.Common.{◌≡◌, map}
use Rattle.toml.specs.View.{members_view}
use Rattle.config_reader.specs.Rows.{row_of}
use Rattle.config_reader.specs.Judge.{unknown_key}
use Rattle.config_reader.proofs.checks.unknown_key.Given as goal

abbrev pub invariant-members : goal.invariant-members
invariant-members l =
    (goal.iterator-members).can_next l.name-iterator × (goal.iterator-members).is_finite l.name-iterator
    × (unknown_key (map row_of l.keys) (members_view l.table.entries) ≡ unknown_key (map row_of l.keys) (members_view l.name-iterator))
