use Rattle.std.proofs.Common.{◌≡◌, ◌≤◌, List, sym, subst, arith, true}
use Rattle.header_maps.specs.Faults.{are_names_for, are_values_for}
use Rattle.header_maps.specs.Pairs.{Pair, plain_count}
use Rattle.header_maps.proofs.Setting.{headers_set}
use Rattle.header_maps.proofs.list.HeaderList.of.Goals as goal

pub invariant_of-result : goal.invariant_of-result
invariant_of-result c =
    let names = subst (λ (ps : List Pair). are_names_for c.args.kind ps ≡ true) c.as_slice-given.ensures (sym c.if-not-are_names_for.ensures) in
    let values = subst (λ (ps : List Pair). are_values_for c.args.kind ps ≡ true) c.as_slice-given.ensures (sym c.if-not-are_values_for.ensures) in
    let few : plain_count c.as_slice-given.result.now ≤ 100 = omega arith in
    let bound = subst (λ (ps : List Pair). plain_count ps ≤ 100) c.as_slice-given.ensures few in
    let made = headers_set c.args.kind c.args.pairs.now names values bound c.requires in
    rw c.in_ok-items.ensures (rw c.as_slice-given.ensures made)
