use Rattle.std.proofs.Common.{◌≡◌, ◌<◌, ◌++◌, List, ℕ, take, get_or, length, ap, ◌∙◌, arith}
use Rattle.std.specs.Prelude.{slice_range}
use Rattle.std.proofs.Math.Seq.{take-append_seam}
use Rattle.std.proofs.lemmas.List.{length-map}
use Rattle.header_maps.specs.Pairs.{Pair}
use Rattle.header_maps.specs.Places.{pair_in, put_at}
use Rattle.header_maps.specs.declared.texts.Place.{Place}
use Rattle.header_maps.proofs.Places.{pairs_put, end_range}
use Rattle.header_maps.proofs.texts.Texts.set_value.Goals as goal

pub returns-clause-ok : goal.returns-clause-ok
returns-clause-ok c =
    let old = c.self.inside.bytes.items in
    let new = c.extend_from_slice.new.self.items in
    let value = c.args.value.now in
    let is : new ≡ old ++ value = c.in_ok-extend_from_slice.ensures.items in
    let front : take (length old) new ≡ old = ap (take (length old)) is ∙ take-append_seam old value in
    let count = length-map c.self.inside.places.items (pair_in old) in
    let same = ap length c.self.view_is in
    let within : c.args.at < length c.self.inside.places.items = omega (arith, c.requires, count, same) in
    let name = ap (λ (p : Place). slice_range new p.name p.name_end) c.index-place.ensures in
    let text : slice_range new c.len-start.result c.len.result ≡ value = end_range old value new c.len-start.result c.len.result is (search arith) (search arith) in
    pairs_put old new front c.self.inside.places.items c.args.at _ c.index-place.result.now value within c.self.invariant
    (ap (λ (n : List ℕ). (n, slice_range new c.len-start.result c.len.result)) name
    ∙ ap (λ (v : List ℕ). (slice_range new (get_or c.self.inside.places.items c.args.at c.index-place.result.now).name (get_or c.self.inside.places.items c.args.at c.index-place.result.now).name_end, v)) text)
    ∙ ap (λ (ps : List Pair). put_at ps c.args.at value) c.self.view_is
