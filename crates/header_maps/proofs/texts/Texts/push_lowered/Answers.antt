use Rattle.std.proofs.Common.{◌∙◌, arith}
use Rattle.std.proofs.lemmas.Grind.{common_steps}
use Rattle.header_maps.proofs.Places.{pairs_kept, pairs_more, within_more}
use Rattle.header_maps.proofs.texts.Texts.push_lowered.Goals as goal

pub returns-in_err-place-clause-err : goal.returns-in_err-place-clause-err
returns-in_err-place-clause-err c =
    let same = pairs_kept c.self.inside.bytes.items c.put_lowered_pair.new.bytes.items c.put_lowered_pair.ensures.front c.self.inside.places.items c.self.invariant ∙ c.self.view_is in
    grind (arith, common_steps, same)

pub returns-in_err-push-clause-err : goal.returns-in_err-push-clause-err
returns-in_err-push-clause-err c =
    let same = pairs_kept c.self.inside.bytes.items c.put_lowered_pair.new.bytes.items c.put_lowered_pair.ensures.front c.self.inside.places.items c.self.invariant ∙ c.self.view_is in
    rw c.in_err-push.ensures.items (grind (arith, common_steps, same))

pub invariant_of-self-2 : goal.invariant_of-self-2
invariant_of-self-2 c =
    rw c.in_ok-push.ensures.items
    (within_more c.self.inside.bytes.items c.put_lowered_pair.new.bytes.items c.put_lowered_pair.ensures.front c.self.inside.places.items c.in_ok-place.place c.self.invariant c.in_ok-place.ensures.within)

pub returns-clause-ok : goal.returns-clause-ok
returns-clause-ok c =
    rw (c.in_ok-push.ensures.items, ← c.self.view_is)
    (pairs_more c.self.inside.bytes.items c.put_lowered_pair.new.bytes.items c.put_lowered_pair.ensures.front c.self.inside.places.items c.in_ok-place.place _ c.self.invariant c.in_ok-place.ensures.pair)
