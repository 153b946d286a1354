use Rattle.std.proofs.Common.{rules, ◌≡◌, ◌+◌, [], ◌∷◌, ◌++◌, length, ap, sym, subst, ◌∙◌, length-append}
use mathlib.Core.List.{map-append}
use Rattle.store_model.specs.Store.{Store}
use Rattle.turn_table.specs.Seats.{first_seat}
use Rattle.shared_store.specs.Tables.{AreNumbered, first_seats}
use Rattle.shared_store.proofs.Rows.{numbered_more}
use Rattle.shared_store.proofs.tables.Tables.new.Goals as goal

pub loop-n-preserved : goal.loop-n-preserved
loop-n-preserved c =
    let i = c.loop-n.invariant in let ts = c.loop-n.tables.items in let t = c.in_ok-table.table in
    let tables = c.in_ok-push.ensures.items in
    let vm_is : c.unwrap-vm.result ≡ c.loop-n.n = search rules in
    let number : t.vm ≡ length ts = c.in_ok-table.ensures.0 ∙ (ap (λ (s : Store). s.queues.vm) c.new-in-loop-n.ensures ∙ (vm_is ∙ sym i.0)) in (
      ap length tables ∙ (length-append ts (t ∷ []) ∙ ap (λ n. n + 1) i.0),
      subst AreNumbered (sym tables) (numbered_more ts t i.1 number),
      c.in_ok-push-2.ensures.items ∙ ((λ j. i.2 j ++ c.in_ok-table.ensures.1 j ∷ []) ∙ (sym (map-append first_seat ts (t ∷ [])) ∙ ap first_seats (sym tables))),
    )
