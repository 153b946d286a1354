use Rattle.std.proofs.Common.{◌≡◌, ◌∙◌, sym, ap, List, Some, None, refl, length}
use Rattle.std.specs.Prelude.{slice_get, slice_set}
use Rattle.std.proofs.lemmas.Option.{slice_get_read}
use Rattle.worker_model.specs.declared.types.Wish.{Wish}
use Rattle.worker_lines.specs.Wishes.{lines_with}
use Rattle.worker_lines.proofs.Listing.{due_same}
use Rattle.worker_lines.proofs.kept.put.Goals as goal

pub returns-else-not-is_same-clause-listed : goal.returns-else-not-is_same-clause-listed
returns-else-not-is_same-clause-listed c =
    let items = c.args.kept.now.each.items in
    let was = c.index.result.now in
    let there : slice_get items c.args.at ≡ Some was = slice_get_read items (length items) c.args.at was refl c.requires.at (cc) in
    record {
      down = c.in_ok-put_down.ensures ∙ ap (λ (ws : List Wish). lines_with (λ w. w.down) (slice_set ws c.args.at c.args.is)) c.as_slice.ensures.value;
      up = c.in_ok-put_up.ensures ∙ ap (λ (ws : List Wish). lines_with (λ w. w.up) (slice_set ws c.args.at c.args.is)) c.as_slice-2.ensures.value;
      first = c.requires.listed.first ∙ sym (due_same items c.args.at was c.args.is None there (c.is_same.ensures c.if-not-is_same.false));
    }
