use Rattle.std.proofs.Common.{List, ℕ, ◌≤◌, ◌+◌, length, drop, rules, sym, subst}
use Rattle.std.proofs.lemmas.List.{take_rest}
use Rattle.std.specs.List.{concat}
use Rattle.body_buffers.proofs.Cuts.{room_behind, spliced_list, AreFull-spliced}
use Rattle.body_buffers.proofs.pieces.splice.Goals as goal

pub find-behind-requires : goal.find-behind-requires
find-behind-requires c =
    let ps = c.args.list.now.items in
    let first = c.find-first.result in
    let P : List (List ℕ) → Type 0 = λ l. first.more + c.args.size ≤ length (concat (drop first.whole l)) in
    rw (take_rest c.deref.result.now first.whole) (subst P (sym c.deref.ensures.value) (room_behind ps c.args.from c.args.size first.whole first.more (search rules) c.requires.within))

pub returns-clause-ok : goal.returns-clause-ok
returns-clause-ok c =
    let ps = c.args.list.now.items in
    let first = c.find-first.result in
    let behind = c.find-behind.result in
    spliced_list ps c.replace.new.list.items _ c.args.from c.args.size first.whole first.more behind.whole behind.more c.min-end.result c.args.given.now c.in_ok-pieces.pieces.items
    (search rules) (take_rest ps first.whole) (search rules) (search rules) (search rules) (search rules)

pub returns-clause-full : goal.returns-clause-full
returns-clause-full c =
    let ps = c.args.list.now.items in
    λ full. AreFull-spliced ps c.replace.new.list.items c.in_ok-pieces.pieces.items c.find-first.result.whole c.min-end.result full (search rules) (search rules)
