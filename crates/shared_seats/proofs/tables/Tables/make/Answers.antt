use Rattle.std.proofs.Common.{◌≡◌, List, length, ap, sym, subst, ◌∙◌}
use Rattle.std.specs.Global.{Vec}
use Rattle.turn_table.specs.Seats.{Seated, TurnTableId}
use Rattle.metric_seats.specs.Places.{MetricTableId}
use Rattle.shared_store.specs.Workers as store
use Rattle.shared_seats.specs.Making.{AreBeside}
use Rattle.shared_seats.specs.Seats.{TablesOf}
use Rattle.shared_seats.specs.Workers.{AreAll, AreNew}
use Rattle.shared_seats.proofs.Gathering.{beside_new, new_all, all_at_tables}
use Rattle.shared_seats.proofs.tables.Tables.make.Goals as goal

-- the lists are new, and so all of them
new : (c : goal.In_ok-lists) → AreNew c.in_ok-tables.tables c.args.workers c.in_ok-lists.lists.items
new c = let seats : List (Vec Seated) = c.in_ok-stores.seats.items in
    beside_new c.in_ok-tables.tables c.args.workers seats c.in_ok-lists.lists.items
    (subst (λ (t : List TurnTableId). store.AreNew t c.args.workers seats) (sym c.in_ok-tables.ensures.stores) c.in_ok-stores.ensures.lists)
    (subst (λ (t : List MetricTableId). AreBeside t seats c.in_ok-lists.lists.items) (ap (λ (t : TablesOf). t.metrics) c.tables.view_is) c.in_ok-lists.ensures)

as_many : (c : goal.In_ok-lists) → length c.in_ok-tables.tables.metrics ≡ length c.in_ok-tables.tables.stores
as_many c = subst (λ (t : TablesOf). length t.metrics ≡ length t.stores) c.tables.view_is c.tables.invariant

pub returns-clause-metrics : goal.returns-clause-metrics
returns-clause-metrics c = as_many c ∙ (ap (λ (t : List TurnTableId). length t) c.in_ok-tables.ensures.stores ∙ c.in_ok-stores.ensures.tables)

all : (c : goal.In_ok-lists) → AreAll c.in_ok-tables.tables c.in_ok-lists.lists.items
all c = new_all c.in_ok-tables.tables c.args.workers c.in_ok-lists.lists.items (as_many c) c.requires.1 (new c)

pub returns-clause-lists : goal.returns-clause-lists
returns-clause-lists c = new c

pub returns-clause-at : goal.returns-clause-at
returns-clause-at c = all_at_tables c.in_ok-tables.tables c.in_ok-lists.lists.items (all c)

pub returns-clause-all : goal.returns-clause-all
returns-clause-all c = all c
