use Rattle.std.proofs.Common.{ap, get_or, set, refl, ◌∙◌}
use Rattle.shared_queues.specs.Tree.{firsts_of}
use Rattle.shared_queues.specs.declared.firsts.Place.{Place}
use Rattle.shared_queues.proofs.Trees.{changed, firsts-set, whos_same}
use Rattle.shared_queues.proofs.firsts.put_first.Goals as goal

pub climb-requires-clause-right : goal.climb-requires-clause-right
climb-requires-clause-right c =
    let p : Place = record { who = (get_or c.args.places.now c.args.index c.index-places-index.result).who; first = c.args.first; least = (get_or c.args.places.now c.args.index c.index-places-index.result).least } in
    changed c.args.places.now c.args.index p c.index-places-index.result c.requires.right c.requires.at refl

pub returns-clause-whos : goal.returns-clause-whos
returns-clause-whos c =
    let p : Place = record { who = (get_or c.args.places.now c.args.index c.index-places-index.result).who; first = c.args.first; least = (get_or c.args.places.now c.args.index c.index-places-index.result).least } in
    c.climb.ensures.whos ∙ whos_same c.args.places.now c.args.index p c.index-places-index.result refl

pub returns-clause-firsts : goal.returns-clause-firsts
returns-clause-firsts c =
    let p : Place = record { who = (get_or c.args.places.now c.args.index c.index-places-index.result).who; first = c.args.first; least = (get_or c.args.places.now c.args.index c.index-places-index.result).least } in
    c.climb.ensures.firsts ∙ firsts-set c.args.places.now c.args.index p

pub returns-then-place-first-clause-firsts : goal.returns-then-place-first-clause-firsts
returns-then-place-first-clause-firsts c =
    let x = get_or c.args.places.now c.args.index c.index-places-index.result in
    firsts-set c.args.places.now c.args.index x ∙ ap (λ n. set (firsts_of c.args.places.now) c.args.index n) c.if-place-first.true
