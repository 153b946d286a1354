use Rattle.promises.proofs.laws.filters_keep_their_order.Goals as goal

pub returns : goal.returns
returns c = record { order = c.filters_stand_in_order.ensures; held = c.what_is_paused_is_held.ensures }
