use Rattle.std.proofs.Common.{ap, sym, subst, ◌∙◌}
use Rattle.metric_seats.specs.Places.{Metered, MetricTableId}
use Rattle.turn_table.specs.Seats.{HasAll}
use Rattle.metric_seats.proofs.Closing.{all_words}
use Rattle.metric_seats.proofs.table.MetricTable.close.Goals as goal

pub close-names-requires : goal.close-names-requires
close-names-requires c =
    let place = c.place.view_is in
    let tables = c.self.view_is in (
      ap (λ (m : Metered). m.names.table) place ∙ (ap (λ (t : MetricTableId). t.names) c.requires.at ∙ sym (ap (λ (t : MetricTableId). t.names) tables)),
      ap (λ (m : Metered). m.names.number) place ∙ c.requires.first.0,
      subst (λ (m : Metered). HasAll m.names) (sym place) c.requires.first.1,
    )

pub close-requires : goal.close-requires
close-requires c =
    let place = c.place.view_is in
    let tables = c.self.view_is in
    let one = c.place.invariant.1 in (
      ap (λ (m : Metered). m.words.table) place ∙ (ap (λ (t : MetricTableId). t.words) c.requires.at ∙ sym (ap (λ (t : MetricTableId). t.words) tables)),
      sym one.number ∙ (ap (λ (m : Metered). m.names.number) place ∙ c.requires.first.0),
      all_words c.place.inside.names c.place.inside.words one (subst (λ (m : Metered). HasAll m.names) (sym place) c.requires.first.1),
    )
