use Rattle.std.proofs.Common.{rules, ◌≡◌, ◌+◌, [], ◌∷◌, ◌++◌, length, ap, sym, subst, ◌∙◌, length-append}
use mathlib.Core.List.{map-append}
use Rattle.metric_seats.specs.Places.{first_place}
use Rattle.shared_seats.specs.Places.{MetricsAreNumbered, first_places}
use Rattle.shared_seats.proofs.Rows.{numbered_more}
use Rattle.shared_seats.proofs.metrics.MetricTables.new.Goals as goal

pub loop-n-preserved : goal.loop-n-preserved
loop-n-preserved c =
    let i = c.loop-n.invariant in let ts = c.loop-n.tables.items in let t = c.in_ok-table.table in
    let tables = c.in_ok-push.ensures.items in
    let vm_is : c.unwrap-vm.result ≡ c.loop-n.n = search rules in
    let number : t.names.vm ≡ length ts = c.in_ok-table.ensures.0 ∙ (vm_is ∙ sym i.0) in (
      ap length tables ∙ (length-append ts (t ∷ []) ∙ ap (λ n. n + 1) i.0),
      subst MetricsAreNumbered (sym tables) (numbered_more ts t i.1 number),
      c.in_ok-push-2.ensures.items ∙ ((λ j. i.2 j ++ c.in_ok-table.ensures.1 j ∷ []) ∙ (sym (map-append first_place ts (t ∷ [])) ∙ ap first_places (sym tables))),
    )
