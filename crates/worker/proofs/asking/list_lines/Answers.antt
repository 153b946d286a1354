use Rattle.std.proofs.Common.{◌≡◌, [], sym, ◌∙◌, ap}
use Rattle.std.proofs.lemmas.Bool.{true≢false}
use Rattle.worker_model.specs.Room.{Room}
use Rattle.worker.proofs.Wants.{ok_also, down_http, up_http, down_streams, up_streams}
use Rattle.worker.proofs.asking.list_lines.Goals as goal

pub returns-then-is_empty-clause-down : goal.returns-then-is_empty-clause-down
returns-then-is_empty-clause-down c =
    let none : c.args.rules.now.config.tcp ≡ [] = c.is_empty.ensures.0 c.if-is_empty.true in
    let same = c.as_slice.ensures ∙ ap (λ (r : Room). r.lines) c.room.view_is in
    ok_also _ _ _ _ (down_http c.args.rules.now.config.tcp c.args.outbox.now c.args.room.now c.as_slice.result.now same none) c.wants_on.ensures.down

pub returns-then-is_empty-clause-up : goal.returns-then-is_empty-clause-up
returns-then-is_empty-clause-up c =
    let none : c.args.rules.now.config.tcp ≡ [] = c.is_empty.ensures.0 c.if-is_empty.true in
    let same = c.as_slice.ensures ∙ ap (λ (r : Room). r.lines) c.room.view_is in
    ok_also _ _ _ _ (up_http c.args.rules.now.config.tcp c.args.outbox.now c.args.room.now c.as_slice.result.now same none) c.wants_on.ensures.up

pub returns-else-is_empty-clause-down : goal.returns-else-is_empty-clause-down
returns-else-is_empty-clause-down c =
    let some : c.args.rules.now.config.tcp ≡ [] → ⊥ = λ none. true≢false (sym (c.is_empty.ensures.1 none) ∙ c.if-is_empty.false) in
    let same = c.as_slice-else-is_empty.ensures ∙ ap (λ (r : Room). r.tcp) c.room.view_is in
    ok_also _ _ _ _ (down_streams c.args.rules.now.config.tcp c.args.outbox.now c.args.room.now c.as_slice-else-is_empty.result.now same some) c.wants_on-else-is_empty.ensures.down

pub returns-else-is_empty-clause-up : goal.returns-else-is_empty-clause-up
returns-else-is_empty-clause-up c =
    let some : c.args.rules.now.config.tcp ≡ [] → ⊥ = λ none. true≢false (sym (c.is_empty.ensures.1 none) ∙ c.if-is_empty.false) in
    let same = c.as_slice-else-is_empty.ensures ∙ ap (λ (r : Room). r.tcp) c.room.view_is in
    ok_also _ _ _ _ (up_streams c.args.rules.now.config.tcp c.args.outbox.now c.args.room.now c.as_slice-else-is_empty.result.now same some) c.wants_on-else-is_empty.ensures.up
