use Rattle.std.proofs.Common.{◌∙◌, ◌+◌, ap, sym}
use Rattle.std.proofs.lemmas.List.Sums.{sum_by_push}
use Rattle.header_maps.specs.Places.{size_at}
use Rattle.header_maps.specs.declared.texts.Place.{Place}
use Rattle.header_maps.proofs.Places.{pairs_next, within_more}
use Rattle.header_maps.proofs.texts.packed.Goals as goal

abbrev no_place : Place
no_place = record { name = 0; name_end = 0; value = 0; value_end = 0 }

pub loop-place-preserved : goal.loop-place-preserved
loop-place-preserved c =
    let old = c.loop-place.own.items in
    let new = c.put_pair.new.bytes.items in
    let front = c.put_pair.ensures.front in
    let moved = c.loop-place.moved.items in
    let at = c.in_ok-at.at in
    let was = c.loop-place.invariant in
    rw c.in_ok-push.ensures.items
    record {
      within = within_more old new front moved at was.within c.in_ok-at.ensures.within;
      pairs = pairs_next old new front moved at c.args.bytes.now c.args.places.now c.loop-place.place-index no_place c.loop-place-test.true was.within c.in_ok-at.ensures.pair was.pairs;
      size = c.in_ok-at.ensures.size ∙ ap (λ n. n + size_at at) was.size ∙ sym (sum_by_push size_at moved at);
    }
