use Rattle.std.proofs.Common.{List, sym, subst}
use Rattle.atomic_table.proofs.Lists.{at_index}
use Rattle.shared_seats.specs.Seats.{AreAt, SeatsOf}
use Rattle.shared_seats.specs.Workers.{AreAll, WentOn}
use Rattle.test_metrics.proofs.Going.{one_after, set_twice}
use Rattle.test_metrics.proofs.asks.ask_by.Goals as goal

pub ask_over-seats-requires : goal.ask_over-seats-requires
ask_over-seats-requires g c =
    let lists : List SeatsOf = c.args.lists.now.items in let l : SeatsOf = c.index_mut.result.now in
    let at = at_index lists c.args.place l c.requires.place c.index_mut.ensures.value in
    (subst (AreAt c.args.tables.now) (sym c.replace-seats.ensures.value) (c.requires.tables.0.each c.args.place l at).0, c.requires.tables.1, c.requires.vm)

pub returns-clause-all : goal.returns-clause-all
returns-clause-all g c =
    let lists : List SeatsOf = c.args.lists.now.items in let l : SeatsOf = c.index_mut.result.now in
    let at = at_index lists c.args.place l c.requires.place c.index_mut.ensures.value in
    let m : SeatsOf = c.ask_over-seats.result.0 in
    let went : WentOn l m = subst (λ (z : SeatsOf). WentOn z m) c.replace-seats.ensures.value c.ask_over-seats.ensures in
    subst (AreAll c.args.tables.now) (sym (set_twice lists c.args.place c.replace-seats.new.dest m)) (one_after c.args.tables.now lists c.args.place l m c.requires.tables.0 at went)
