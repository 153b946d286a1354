use Rattle.std.proofs.Common.{◌≡◌, rules, ◌∙◌, ap, map, sym, drop, is_some, ◌+◌, ℕ, Err, arith}
use Rattle.toml.specs.Data.{Data, as_table}
use Rattle.toml.specs.View.{view, table_view}
use Rattle.toml.specs.declared.value.Value.{Value}
use Rattle.gate_config.specs.Given.{given}
use Rattle.config_reader.specs.Whole.{judge_entries, given_with_entry, length_of}
use Rattle.config_reader.proofs.Mapped.{all_map}
use Rattle.config_reader.proofs.Stepping.{ends_as, entry_step, entry_taken, members_are, all_at, no_table, length-entered}
use Rattle.config_reader.proofs.read.read_entries.Goals as goal

pub unreachable-requires : goal.unreachable-requires
unreachable-requires c =
    let each = sym (all_map (λ (d : Data). is_some (as_table d)) view c.args.items.now) ∙ c.requires.tables in
    let here = all_at (λ (v : Value). is_some (as_table (view v))) c.args.items.now c.loop-place.place c.index-items-place.result each c.loop-place-test.true in
    no_table c.index-items-place.result (rw c.in_default.is at c.as_table.ensures) (rw (← c.index-items-place.is) at here)

pub read_entry-requires : goal.read_entry-requires
read_entry-requires c = omega (arith, c.loop-place.invariant.1, c.requires.count, c.loop-place-test.true)

pub returns-in-Err : goal.returns-in-Err
returns-in-Err c =
    let seen = members_are c.index-items-place.result (table_view c.in-Some.table.now) (rw c.in-Some.is at c.as_table.ensures) in
    let step = entry_step c.args.section c.args.items.now c.loop-place.place c.index-items-place.result (given c.loop-place.config) (table_view c.in-Some.table.now) c.loop-place-test.true (rw (← c.index-items-place.is) seen) in
    ends_as _ _ (Err c.in-Err.end) _ (c.loop-place.invariant.0 ∙ step)
    (c.in-Err.ensures.err (judge_entries c.args.section (c.loop-place.place + 1) (map view (drop (c.loop-place.place + 1) c.args.items.now)) (given_with_entry c.args.section (table_view c.in-Some.table.now) (given c.loop-place.config))))

pub loop-place-preserved : goal.loop-place-preserved
loop-place-preserved c =
    let ms = table_view c.in-Some.table.now in
    let seen = members_are c.index-items-place.result ms (rw c.in-Some.is at c.as_table.ensures) in
    let taken = entry_taken c.args.section c.args.items.now c.loop-place.place c.index-items-place.result (given c.loop-place.config) (given c.read_entry.new.config) ms c.loop-place-test.true (rw (← c.index-items-place.is) seen) c.in-Ok.ensures.good c.in-Ok.ensures.ok in
    (c.loop-place.invariant.0 ∙ taken, ap (length_of c.args.section) c.in-Ok.ensures.ok ∙ length-entered c.args.section ms (given c.loop-place.config) ∙ ap (λ (n : ℕ). n + 1) c.loop-place.invariant.1)
