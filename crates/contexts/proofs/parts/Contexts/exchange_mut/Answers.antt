use Rattle.std.proofs.Common.{ap, sym, ◌∙◌}
use Rattle.std.specs.Option.{ghost_name_of}
use borrow.Follows.Closed.{read_of}
use Rattle.contexts.proofs.Places.{exchange_put_same, exchange_seen}
use Rattle.contexts.proofs.parts.Contexts.exchange_mut.Goals as goal

pub returns-in-Some : goal.returns-in-Some
returns-in-Some c =
    let is = sym c.exchange_place.ensures ∙ c.in-Some.is in (
      ap (λ f. read_of (ghost_name_of c.exchange_at_mut.result) f c.args.self.now) (exchange_put_same c.args.self.now c.args.vm c.in-Some.place c.requires is),
      record { lends = tt; value = c.exchange_at_mut.ensures.value ∙ sym (exchange_seen c.args.self.now c.args.vm c.in-Some.place c.requires is) },
    )
