use Rattle.std.proofs.Common.{rules, ◌<◌, ◌+◌, ◌%◌, ◌^◌, ℕ, get_or, ap, sym, subst, ◌∙◌}
use Rattle.metric_table.specs.Places.{IsOfCounter, row_of}
use Rattle.metric_table.specs.Seats.{Counting, view_in}
use Rattle.metric_table.specs.declared.view.View.{View}
use Rattle.metric_table.proofs.Calls.{column_is, in_row, of_counter}
use Rattle.metric_table.proofs.Keeps.{bumps}
use Rattle.metric_table.proofs.words.MetricWords.bump.Goals as goal

pub fetch_add-requires : goal.fetch_add-requires
fetch_add-requires c =
    let v : View = c.pass_out-pass.result.me.0 in
    let low = c.requires.id.0 in
    let high = c.requires.id.1 in
    let view = ap view_in c.pass_out-pass.ensures.view in
    let who = c.seat.invariant.1 ∙ ap (λ (x : View). x.number) view in
    let own = ap (λ (x : Counting). x.own) (sym c.seat.view_is) ∙ ap (λ (x : View). x.own) view in
    let at = c.place-at.ensures.value in
    let live = subst (λ n. 0 < n) who c.seat.invariant.3 in
    let row = at ∙ (in_row _ c.args.kind c.args.id low high ∙ ((λ i. row_of (who i) + sym at i % 128))) in (
      search rules,
      search rules,
      bumps _ _ _ _ _ live row (λ of.
          subst (λ (t : ℕ × ℕ). t.0 + c.args.by < 2 ^ 64) ((λ i. (get_or (own i) (sym (ap (λ p. p % 128) at ∙ column_is _ c.args.kind c.args.id low high) i) 0, 0)))
          (c.requires.counter (of_counter _ c.args.kind c.args.id low high (subst IsOfCounter at of)))),
    )
